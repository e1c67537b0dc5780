-- What an operation makes of what registers show, before it is written.
use Rattle.std.specs.Prelude.{◌≡◌, ℕ, List, ℤ, pos}
use Rattle.word.specs.Types.{width}
use Rattle.word.specs.declared.element.ElementType.{ElementType}
use Rattle.word.specs.declared.opcodes.Arith.{Arith}
use Rattle.word.specs.declared.opcodes.Arith.TheVariants.{Add}
use Rattle.word.specs.declared.opcodes.Reduction.{Reduction}
use Rattle.line.specs.Elements.{element}
use Rattle.line.specs.Reductions.{reduced}
use Rattle.line.specs.Vectors.{line_of}
use Rattle.scalar.specs.Arithmetic.{computed, quotient, remainder}
use Rattle.flat.specs.Data.{Data, addresses, shown, shown_element}

-- A register's type.
abbrev pub kind : Data → ℕ → ElementType
kind d r = (d.registers r).kind

-- Element k of its line, by its type.
abbrev pub element_at : Data → ℕ → ℕ → ℤ
element_at d r k = element (kind d r) (shown d r) k

-- The result of a scalar form, of registers b and c at the type of register a.
abbrev pub result_of : Data → Arith → ℕ → ℕ → ℕ → ℤ
result_of d op a b c = computed op (kind d a) (shown_element d b) (shown_element d c)

-- The line of results of a vector form.
abbrev pub results_of : Data → Arith → ℕ → ℕ → ℕ → List ℕ
results_of d op a b c = line_of (kind d a) (λ k. computed op (kind d a) (element_at d b k) (element_at d c k))

-- The same of addr, of register b's address.
abbrev pub sum_of : Data → ℕ → ℕ → ℕ → ℤ
sum_of d a b c = computed Add (kind d a) (pos (addresses d b)) (shown_element d c)

abbrev pub sums_of : Data → ℕ → ℕ → ℕ → List ℕ
sums_of d a b c = line_of (kind d a) (λ k. computed Add (kind d a) (pos (addresses d b)) (element_at d c k))

-- A register's type is as wide as that of register a.
abbrev pub AsWide : Data → ℕ → ℕ → Type 0
AsWide d a r = width (kind d r) ≡ width (kind d a)

-- What a reduction makes of register b's line, at the type of register a.
abbrev pub reduction_of : Data → Reduction → ℕ → ℕ → ℤ
reduction_of d op a b = reduced op (kind d a) (kind d b) (shown d b)

-- The line of quotients of a vector form of div, of registers b and c at the type of register a.
abbrev pub quotients_of : Data → ℕ → ℕ → ℕ → List ℕ
quotients_of d a b c = line_of (kind d a) (λ k. quotient (kind d a) (element_at d b k) (element_at d c k))

-- The line of remainders, at that type.
abbrev pub remainders_of : Data → ℕ → ℕ → ℕ → List ℕ
remainders_of d a b c = line_of (kind d a) (λ k. remainder (kind d a) (element_at d b k) (element_at d c k))
