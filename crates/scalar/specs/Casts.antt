-- Casts: a number reduced to so many bits and read by a type.
use Rattle.std.specs.Prelude.{ℕ, ◌-◌, ◌%◌, ◌^◌, Bool, true, false, if◌then◌else◌, ℤ, pos, negsuc, ◌-ℤ◌, nat_le}
use Rattle.word.specs.Types.{bits, signed}
use Rattle.word.specs.declared.element.ElementType.{ElementType}

-- z modulo 2 ^ n: the number from 0 to 2 ^ n - 1 that differs from z by a multiple of 2 ^ n.
-- (`negsuc m` is the number -(m + 1).)
unfoldable pub residue : ℕ → ℤ → ℕ
residue n (pos m) = m % 2 ^ n
residue n (negsuc m) = 2 ^ n - 1 - m % 2 ^ n

-- n bits that make the number m are read as m, or, in two's complement, from 2 ^ (n - 1) on as
-- m - 2 ^ n.
unfoldable pub read_bits : Bool → ℕ → ℕ → ℤ
read_bits false n m = pos m
read_bits true n m = if nat_le (2 ^ (n - 1)) m then pos m -ℤ pos (2 ^ n) else pos m

-- To cast is to reduce modulo 2 ^ bits and to read by the type.
unfoldable pub cast : ElementType → ℤ → ℤ
cast t z = read_bits (signed t) (bits t) (residue (bits t) z)
