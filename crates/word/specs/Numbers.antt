-- Every case of the enums that stand as a number in a word, with its number.
use Rattle.std.specs.Prelude.{◌≡◌, ℕ, Ok, Err, Result, ◌≢◌}
use Rattle.word.specs.declared.element.ElementType.{ElementType}
use Rattle.word.specs.declared.element.ElementType.TheVariants.{U8, S8, U16, S16, U32, S32, U64, S64}
use Rattle.word.specs.declared.numbers.UnknownNumber.{UnknownNumber}
use Rattle.word.specs.declared.opcodes.Arith.{Arith}
use Rattle.word.specs.declared.opcodes.Arith.TheVariants.{Add, Sub, Slt, Mul, And, Or, Xor, Shl, Shr, Rol, Ror}
use Rattle.word.specs.declared.opcodes.Reduction.{Reduction}
use Rattle.word.specs.declared.opcodes.Reduction.TheVariants.{Add as Sum, Mul as Product, Max, Min, And as Meet}
use Rattle.word.specs.declared.opcodes.Special.{Special}
use Rattle.word.specs.declared.opcodes.Special.TheVariants.{Ie, Xct, Swiarg0, Swiarg1, Swiarg2, Swiarg3}
use Rattle.word.specs.declared.opcodes.Form.{Form}
use Rattle.word.specs.declared.opcodes.Form.TheVariants.{Scalar, Vector}

-- The types of elements.
abbrev pub type_number : ElementType → ℕ
type_number U8 = 0
type_number S8 = 1
type_number U16 = 2
type_number S16 = 3
type_number U32 = 4
type_number S32 = 5
type_number U64 = 6
type_number S64 = 7

-- The operations on two operands.
abbrev pub arith_number : Arith → ℕ
arith_number Add = 0
arith_number Sub = 1
arith_number Slt = 2
arith_number Mul = 3
arith_number And = 4
arith_number Or = 5
arith_number Xor = 6
arith_number Shl = 7
arith_number Shr = 8
arith_number Rol = 9
arith_number Ror = 10

-- The reductions: add.r, mul.r, max.r, min.r and and.r.
abbrev pub reduction_number : Reduction → ℕ
reduction_number Sum = 0
reduction_number Product = 1
reduction_number Max = 2
reduction_number Min = 3
reduction_number Meet = 4

-- The special registers.
abbrev pub special_number : Special → ℕ
special_number Ie = 0
special_number Xct = 1
special_number Swiarg0 = 2
special_number Swiarg1 = 3
special_number Swiarg2 = 4
special_number Swiarg3 = 5

-- The forms.
abbrev pub form_number : Form → ℕ
form_number Scalar = 0
form_number Vector = 1

-- r is the case that has the number n, or, where no case has it, the error that holds n.
abbrev pub Named : {T : Type 0} → (T → ℕ) → ℕ → Result T UnknownNumber → Type 0
Named number n (Ok t) = number t ≡ n
Named {T} number n (Err e) = (e.0 ≡ n) × ((t : T) → number t ≢ n)
