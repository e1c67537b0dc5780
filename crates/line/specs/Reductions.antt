-- The reductions: every element of a line joined into one number.
use Rattle.std.specs.Prelude.{ℕ, zero, suc, ◌-◌, ◌^◌, List, ℤ, pos, ◌+ℤ◌, ◌*ℤ◌, bit_and}
use Rattle.word.specs.Types.{bits}
use Rattle.word.specs.declared.element.ElementType.{ElementType}
use Rattle.line.specs.Elements.{count, element}
use Rattle.scalar.specs.Casts.{residue, cast}
use Rattle.std.specs.Int.{int_max, int_min}
use Rattle.word.specs.declared.opcodes.Reduction.{Reduction}
use Rattle.word.specs.declared.opcodes.Reduction.TheVariants.{Add, Mul, Max, Min, And}

-- From a on, step by step over the places below n.
unfoldable pub over : {X : Type 0} → (X → ℕ → X) → X → ℕ → X
over step a zero = a
over step a (suc n) = step (over step a n) n

-- The numbers f 0 to f (n - 1), joined: their sum, their product, the greatest, the least, and the
-- bits that are set in all of them.
abbrev pub joined : Reduction → ElementType → (ℕ → ℤ) → ℕ → ℤ
joined Add t f n = over (λ a k. a +ℤ f k) (pos 0) n
joined Mul t f n = over (λ a k. a *ℤ f k) (pos 1) n
joined Max t f n = over (λ a k. int_max a (f k)) (f 0) n
joined Min t f n = over (λ a k. int_min a (f k)) (f 0) n
joined And t f n = pos (over (λ a k. bit_and a (residue (bits t) (f k))) (2 ^ bits t - 1) n)

-- A reduction takes the elements of the line by the line's type s, casts each to the type t, joins
-- them, and casts what comes out to t.
abbrev pub reduced : Reduction → ElementType → ElementType → List ℕ → ℤ
reduced op t s line = cast t (joined op t (λ k. cast t (element s line k)) (count s))

-- The numbers f 0 to f (n - 1), joined one after the other to a, each time cast to t.
abbrev pub gathered : (ℕ → ℤ → ℤ → ℤ) → ElementType → (ℕ → ℤ) → ℤ → ℕ → ℤ
gathered make t f a n = over (λ b k. cast t (make (bits t) b (cast t (f k)))) a n
