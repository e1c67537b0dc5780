-- The text of a number in hexadecimal digits.
use Rattle.std.specs.Prelude.{ℕ, ◌-◌, List, ◌++◌, length, replicate, true}
use Rattle.std.specs.Fmt.{digits}

-- The capital hexadecimal digits of a number, with zeros (code 48) in front of them up to this many.
abbrev pub hex : ℕ → ℕ → List ℕ
hex count n = replicate (count - length (digits 16 true n)) 48 ++ digits 16 true n
