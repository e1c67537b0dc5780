-- What the format with a width and zeros in front writes.
use Rattle.std.proofs.Common.{ℕ, ◌-◌, ◌≡◌, List, [], ◌++◌, length, replicate, false, rules}
use Rattle.std.specs.Fmt.{padded_integral, format_spec, char_count}

-- Zeros in front of the digits.
pub padded : (count : ℕ) (ds : List ℕ) → padded_integral (format_spec 32 0 4 count 18446744073709551615) false [] ds ≡ replicate (count - length ds) 48 ++ ds
unfolding padded_integral char_count
padded count ds = search rules
