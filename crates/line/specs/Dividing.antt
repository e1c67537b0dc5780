-- Division of every element of a line.
use Rattle.std.specs.Prelude.{ℕ, zero, suc, Bool, false, ◌||◌, List, ◌==◌, unsigned_abs}
use Rattle.word.specs.declared.element.ElementType.{ElementType}
use Rattle.line.specs.Elements.{count, element}
use Rattle.line.specs.Vectors.{line_of}
use Rattle.scalar.specs.Arithmetic.{quotient, remainder}

-- p holds at a place below n.
unfoldable pub somewhere : (ℕ → Bool) → ℕ → Bool
somewhere p zero = false
somewhere p (suc n) = somewhere p n || p n

-- Some element of a line is zero.
abbrev pub any_zero : ElementType → List ℕ → Bool
any_zero t y = somewhere (λ k. unsigned_abs (element t y k) == 0) (count t)

-- Every element of x over that of y: the line of quotients and the line of remainders. (Over zero,
-- the quotient is zero and the remainder x; the machine does not divide then.)
abbrev pub quotient_line : ElementType → List ℕ → List ℕ → List ℕ
quotient_line t x y = line_of t (λ k. quotient t (element t x k) (element t y k))

abbrev pub remainder_line : ElementType → List ℕ → List ℕ → List ℕ
remainder_line t x y = line_of t (λ k. remainder t (element t x k) (element t y k))
