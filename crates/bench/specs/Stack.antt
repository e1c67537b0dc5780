-- The stores of the bench, one on the other.
use Rattle.store.specs.Kinds.{fuse, open_bus, split}
use Rattle.store.specs.Meaning.{Meaning}

-- A store of which lines 0 and 1 cannot be written, and 256 lines of open bus on top.
abbrev pub bench_over : Meaning → Meaning
bench_over m = split (fuse 2 m) (open_bus 256)
