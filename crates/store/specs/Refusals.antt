-- What a store refuses, with its numbers.
use Rattle.std.specs.Prelude.{ℕ}
use Rattle.store.specs.declared.fault.LineRefusal.{LineRefusal}
use Rattle.store.specs.declared.fault.LineRefusal.TheVariants.{MissingLine, FixedLine}

abbrev pub refusal_number : LineRefusal → ℕ
refusal_number MissingLine = 10
refusal_number FixedLine = 11
