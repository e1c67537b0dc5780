-- How operations, their names and an unknown number are written for people to read.
use Rattle.std.specs.Prelude.{ℕ, List, ◌++◌, codes}
use Rattle.std.specs.Fmt.{decimal, signed_decimal}
use Rattle.word.specs.declared.element.ElementType.{ElementType}
use Rattle.word.specs.declared.element.ElementType.TheVariants.{U8, S8, U16, S16, U32, S32, U64, S64}
use Rattle.word.specs.declared.numbers.UnknownNumber.{UnknownNumber}
use Rattle.word.specs.declared.opcodes.Arith.{Arith}
use Rattle.word.specs.declared.opcodes.Arith.TheVariants.{Add, Sub, Slt, Mul, And, Or, Xor, Shl, Shr, Rol, Ror}
use Rattle.word.specs.declared.opcodes.Reduction.{Reduction}
use Rattle.word.specs.declared.opcodes.Reduction.TheVariants.{Add as Sum, Mul as Product, Max, Min, And as Meet}
use Rattle.word.specs.declared.opcodes.Special.{Special}
use Rattle.word.specs.declared.opcodes.Special.TheVariants.{Ie, Xct, Swiarg0, Swiarg1, Swiarg2, Swiarg3}
use Rattle.word.specs.declared.opcodes.Form.{Form}
use Rattle.word.specs.declared.opcodes.Form.TheVariants.{Scalar, Vector}
use Rattle.word.specs.declared.operations.Operation.{Operation}
use Rattle.word.specs.declared.operations.Operation.TheVariants.{Arith as Arithmetic, AddAddress, Div, Reduce, Load, Store, Dup, Fetch, JumpNotZero, JumpZero, Hand, CopyOut, CopyIn, Swi, Reti, Retx}

-- The types of elements.
abbrev pub element_text : ElementType → List ℕ
element_text U8 = codes "u8"
element_text S8 = codes "s8"
element_text U16 = codes "u16"
element_text S16 = codes "s16"
element_text U32 = codes "u32"
element_text S32 = codes "s32"
element_text U64 = codes "u64"
element_text S64 = codes "s64"

-- The operations on two operands.
abbrev pub arith_text : Arith → List ℕ
arith_text Add = codes "add"
arith_text Sub = codes "sub"
arith_text Slt = codes "slt"
arith_text Mul = codes "mul"
arith_text And = codes "and"
arith_text Or = codes "or"
arith_text Xor = codes "xor"
arith_text Shl = codes "shl"
arith_text Shr = codes "shr"
arith_text Rol = codes "rol"
arith_text Ror = codes "ror"

-- The reductions.
abbrev pub reduction_text : Reduction → List ℕ
reduction_text Sum = codes "add"
reduction_text Product = codes "mul"
reduction_text Max = codes "max"
reduction_text Min = codes "min"
reduction_text Meet = codes "and"

-- The special registers.
abbrev pub special_text : Special → List ℕ
special_text Ie = codes "ie"
special_text Xct = codes "xct"
special_text Swiarg0 = codes "swiarg0"
special_text Swiarg1 = codes "swiarg1"
special_text Swiarg2 = codes "swiarg2"
special_text Swiarg3 = codes "swiarg3"

-- The forms.
abbrev pub form_text : Form → List ℕ
form_text Scalar = codes "s"
form_text Vector = codes "v"

-- A number that no case has.
abbrev pub unknown_text : UnknownNumber → List ℕ
unknown_text e = codes "nothing has the number " ++ decimal e.0

-- An operation: its name, with the form or the type of its elements behind a point, or the special register of
-- a copy, and then each field behind its own letter.
abbrev pub operation_text : Operation → List ℕ
operation_text (Arithmetic op form a b c) = arith_text op ++ codes "." ++ form_text form ++ codes " a " ++ decimal a ++ codes " b " ++ decimal b ++ codes " c " ++ decimal c
operation_text (AddAddress form a b c) = codes "addr." ++ form_text form ++ codes " a " ++ decimal a ++ codes " b " ++ decimal b ++ codes " c " ++ decimal c
operation_text (Div form a b c d) = codes "div." ++ form_text form ++ codes " a " ++ decimal a ++ codes " b " ++ decimal b ++ codes " c " ++ decimal c ++ codes " d " ++ decimal d
operation_text (Reduce op a b) = reduction_text op ++ codes ".r a " ++ decimal a ++ codes " b " ++ decimal b
operation_text (Load kind a b i) = codes "load." ++ element_text kind ++ codes " a " ++ decimal a ++ codes " b " ++ decimal b ++ codes " i " ++ signed_decimal i
operation_text (Store kind a b i) = codes "store." ++ element_text kind ++ codes " a " ++ decimal a ++ codes " b " ++ decimal b ++ codes " i " ++ signed_decimal i
operation_text (Dup kind a b) = codes "dup." ++ element_text kind ++ codes " a " ++ decimal a ++ codes " b " ++ decimal b
operation_text (Fetch a b i j) = codes "fetch a " ++ decimal a ++ codes " b " ++ decimal b ++ codes " i " ++ signed_decimal i ++ codes " j " ++ decimal j
operation_text (JumpNotZero a b w) = codes "jnz a " ++ decimal a ++ codes " b " ++ decimal b ++ codes " w " ++ decimal w
operation_text (JumpZero a b w) = codes "jz a " ++ decimal a ++ codes " b " ++ decimal b ++ codes " w " ++ decimal w
operation_text (Hand b w) = codes "hand b " ++ decimal b ++ codes " w " ++ decimal w
operation_text (CopyOut from a) = codes "cpy.out " ++ special_text from ++ codes " a " ++ decimal a
operation_text (CopyIn to a) = codes "cpy.in " ++ special_text to ++ codes " a " ++ decimal a
operation_text (Swi a b c d) = codes "swi a " ++ decimal a ++ codes " b " ++ decimal b ++ codes " c " ++ decimal c ++ codes " d " ++ decimal d
operation_text Reti = codes "reti"
operation_text Retx = codes "retx"
