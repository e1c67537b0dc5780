-- Fields of bits, and how they stand in a word.
use Rattle.std.specs.Prelude.{◌≡◌, ℕ, suc, ◌+◌, ◌-◌, ◌*◌, ◌/◌, ◌%◌, ◌^◌, ◌<◌, List, [], ◌∷◌, ℤ, pos, negsuc}

-- A field: a number, a number that is not 0, or a signed number, in so many bits.
pub data Field : Type 0 where
  plain : ℕ → ℕ → Field
  nonzero : ℕ → ℕ → Field
  signed : ℤ → ℕ → Field

-- In two's complement with 2 * half numbers, a signed number lies from -half up to and without
-- half. (`negsuc m` is the number -(m + 1).)
abbrev pub Within : ℕ → ℤ → Type 0
Within half (pos m) = m < half
Within half (negsuc m) = m < half

-- It stands as itself, or, where it is negative, as the number with 2 * half added.
abbrev pub twos : ℕ → ℤ → ℕ
twos half (pos m) = m
twos half (negsuc m) = 2 * half - suc m

-- A number fits n bits below 2 ^ n, a signed number in two's complement with 2 ^ n numbers.
abbrev pub Fits : Field → Type 0
Fits (plain m n) = m < 2 ^ n
Fits (nonzero m n) = (0 < m) × (m < 2 ^ n)
Fits (signed i n) = Within (2 ^ (n - 1)) i

-- The bits of a field as a number, and how many they are.
abbrev pub bits_of : Field → ℕ
bits_of (plain m n) = m
bits_of (nonzero m n) = m
bits_of (signed i n) = twos (2 ^ (n - 1)) i

abbrev pub width : Field → ℕ
width (plain m n) = n
width (nonzero m n) = n
width (signed i n) = n

-- Every field of a list fits.
abbrev pub AllFit : List Field → Type 0
AllFit [] = Unit {0}
AllFit (f ∷ fs) = Fits f × AllFit fs

-- The fields behind the bits of `high`, from the highest bit down.
abbrev pub packed : ℕ → List Field → ℕ
packed high [] = high
packed high (f ∷ fs) = packed (high * 2 ^ width f + bits_of f) fs

-- The word w is made of these fields, its highest bits first.
abbrev pub Made : List Field → ℕ → Type 0
Made fs w = AllFit fs × (w ≡ packed 0 fs)

-- The number that the n bits of the word w from bit `at` up make.
abbrev pub extract : ℕ → ℕ → ℕ → ℕ
extract w at n = w / 2 ^ at % 2 ^ n
