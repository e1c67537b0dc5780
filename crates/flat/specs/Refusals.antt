-- What the calls refuse, with the number of each.
use Rattle.std.specs.Prelude.{ℕ}
use Rattle.flat.specs.declared.refusal.Refusal.{Refusal}
use Rattle.flat.specs.declared.refusal.Refusal.TheVariants.{NoLines, Cold, Warm, NoRegister, OverLimit}

abbrev pub refusal_number : Refusal → ℕ
refusal_number NoLines = 1
refusal_number Cold = 2
refusal_number Warm = 3
refusal_number NoRegister = 4
refusal_number OverLimit = 5
