use Rattle.std.proofs.Common.{◌≡◌}
use Rattle.image.proofs.Checking.{UncheckedFrom}
use Rattle.image.proofs.places.check_places.Given as goal

abbrev pub invariant-loop-place : goal.invariant-loop-place
invariant-loop-place g l =
    (l.place-iterator.image.now ≡ l.image) × UncheckedFrom (g.S.Store.meaning l.store) l.image l.place-iterator.at
