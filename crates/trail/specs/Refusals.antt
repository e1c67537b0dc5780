-- What a trail refuses, with its number.
use Rattle.std.specs.Prelude.{ℕ}
use Rattle.trail.specs.declared.FullTrail.{FullTrail}

abbrev pub refusal_number : FullTrail → ℕ
refusal_number _ = 12
