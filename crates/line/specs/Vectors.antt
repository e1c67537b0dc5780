-- Operations on every element of a line.
use Rattle.std.specs.Prelude.{ℕ, zero, suc, ◌*◌, List, [], ◌++◌, ℤ, pos}
use Rattle.word.specs.Types.{width}
use Rattle.word.specs.declared.element.ElementType.{ElementType}
use Rattle.line.specs.Elements.{bytes, count, element}
use Rattle.scalar.specs.Arithmetic.{computed}
use Rattle.scalar.specs.Casts.{residue}
use Rattle.word.specs.declared.opcodes.Arith.{Arith}
use Rattle.word.specs.declared.opcodes.Arith.TheVariants.{Add}

-- n elements of w bytes in a row, the number f k, cast, at place k.
unfoldable pub row : ℕ → (ℕ → ℤ) → ℕ → List ℕ
row w f zero = []
row w f (suc n) = row w f n ++ bytes w (residue (8 * w) (f n))

-- The line that has f k as its element k.
abbrev pub line_of : ElementType → (ℕ → ℤ) → List ℕ
line_of t f = row (width t) f (count t)

-- Dup fills a line with one number.
abbrev pub filled : ElementType → ℤ → List ℕ
filled t z = line_of t (λ k. z)

-- The vector form does at each element place what the scalar form does at one. All elements are
-- those of the lines as they were before.
abbrev pub vector : Arith → ElementType → List ℕ → List ℕ → List ℕ
vector op t x y = line_of t (λ k. computed op t (element t x k) (element t y k))

-- Address add is add with one address in the place of x: it adds it to every element.
abbrev pub vector_addr : ElementType → ℕ → List ℕ → List ℕ
vector_addr t address y = line_of t (λ k. computed Add t (pos address) (element t y k))
