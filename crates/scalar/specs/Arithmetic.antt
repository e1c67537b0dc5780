-- Arithmetic on numbers that are cast to a type.
use Rattle.std.specs.Prelude.{ℕ, ◌+◌, ◌-◌, ◌*◌, ◌/◌, ◌%◌, ◌^◌, Bool, true, false, if◌then◌else◌, not, ℤ, pos, negsuc, ◌+ℤ◌, ◌-ℤ◌, ◌*ℤ◌, neg_ℤ, Some, None, Option, ◌==◌, bit_and, bit_or, bit_xor, int_lt, nat_lt, unsigned_abs}
use Rattle.std.specs.Int.Signed.{shr_z}
use Rattle.std.specs.Bool.{beq}
use Rattle.word.specs.Types.{bits}
use Rattle.word.specs.declared.element.ElementType.{ElementType}
use Rattle.scalar.specs.Casts.{residue, cast}
use Rattle.scalar.specs.declared.dividing.Division.{Division}
use Rattle.word.specs.declared.opcodes.Arith.{Arith}
use Rattle.word.specs.declared.opcodes.Arith.TheVariants.{Add, Sub, Slt, Mul, And, Or, Xor, Shl, Shr, Rol, Ror}

-- Just one of two things holds.
abbrev pub differ : Bool → Bool → Bool
differ a b = not (beq a b)

-- Slt gives 1 when x < y, else 0.
abbrev pub less : ℤ → ℤ → ℤ
less x y = if int_lt x y then pos 1 else pos 0

-- A shift of n bits by a count c below n multiplies by 2 ^ c, or divides by it and rounds down
-- (which is `shr_z`). From n on, shl gives 0, and shr gives 0, or -1 for negative x.
abbrev pub shift_left : ℕ → ℤ → ℕ → ℤ
shift_left n x c = if nat_lt c n then x *ℤ pos (2 ^ c) else pos 0

abbrev pub shifted_out : ℤ → ℤ
shifted_out (pos m) = pos 0
shifted_out (negsuc m) = negsuc 0

abbrev pub shift_right : ℕ → ℤ → ℕ → ℤ
shift_right n x c = if nat_lt c n then shr_z x (2 ^ c) else shifted_out x

-- The n bits that make m, rotated left by c from 0 to n: those shifted out at the top come in at
-- the bottom.
abbrev pub rotate : ℕ → ℕ → ℕ → ℕ
rotate n m c = (m * 2 ^ c) % 2 ^ n + m / 2 ^ (n - c)

-- What an operation makes of x and y, which are numbers of n bits. Shift and rotate counts are y
-- as unsigned; rotates take the count mod n.
abbrev pub compute : Arith → ℕ → ℤ → ℤ → ℤ
compute Add n x y = x +ℤ y
compute Sub n x y = x -ℤ y
compute Slt n x y = less x y
compute Mul n x y = x *ℤ y
compute And n x y = pos (bit_and (residue n x) (residue n y))
compute Or n x y = pos (bit_or (residue n x) (residue n y))
compute Xor n x y = pos (bit_xor (residue n x) (residue n y))
compute Shl n x y = shift_left n x (residue n y)
compute Shr n x y = shift_right n x (residue n y)
compute Rol n x y = pos (rotate n (residue n x) (residue n y % n))
compute Ror n x y = pos (rotate n (residue n x) (n - residue n y % n))

-- Both operands are cast to the type, and so is what is made of them.
abbrev pub applied : (ℕ → ℤ → ℤ → ℤ) → ElementType → ℤ → ℤ → ℤ
applied make t x y = cast t (make (bits t) (cast t x) (cast t y))

abbrev pub computed : Arith → ElementType → ℤ → ℤ → ℤ
computed op t x y = applied (compute op) t x y

-- A number is zero after its cast.
abbrev pub casts_to_zero : ElementType → ℤ → Bool
casts_to_zero t y = unsigned_abs (cast t y) == 0

-- A number below zero, and a number of this size, with its sign.
abbrev pub negative : ℤ → Bool
negative (pos m) = false
negative (negsuc m) = true

abbrev pub with_sign : Bool → ℕ → ℤ
with_sign true size = neg_ℤ (pos size)
with_sign false size = pos size

-- Div cuts towards zero: the size of the quotient is that of x div that of y, and it is negative if
-- just one of x and y is. The remainder has the sign of x. (Over zero, the quotient is zero and the
-- remainder x.)
abbrev pub cut_quotient : ℤ → ℤ → ℤ
cut_quotient x y = with_sign (differ (negative x) (negative y)) (unsigned_abs x / unsigned_abs y)

abbrev pub cut_remainder : ℤ → ℤ → ℤ
cut_remainder x y = with_sign (negative x) (unsigned_abs x % unsigned_abs y)

-- The quotient is cast. The lowest number over -1 so gives itself, remainder 0.
abbrev pub quotient : ElementType → ℤ → ℤ → ℤ
quotient t x y = applied (λ n. cut_quotient) t x y

abbrev pub remainder : ElementType → ℤ → ℤ → ℤ
remainder t x y = cut_remainder (cast t x) (cast t y)

abbrev pub division : ElementType → ℤ → ℤ → Division ℤ
division t x y = record { quotient = quotient t x y; remainder = remainder t x y }

-- A divisor that is zero after its cast gives nothing.
abbrev pub divided : ElementType → ℤ → ℤ → Option (Division ℤ)
divided t x y = if casts_to_zero t y then None else Some (division t x y)
