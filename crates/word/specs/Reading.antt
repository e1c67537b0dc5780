-- The operation that a word holds, computed from its fields.
use Rattle.std.specs.Prelude.{ℕ, ◌+◌, ◌*◌, ◌/◌, ◌%◌, ◌^◌, ◌==◌, ◌&&◌, nat_lt, nat_le, if◌then◌else◌, List, [], ◌∷◌, get_or, slice_get, ℤ, pos, ◌-ℤ◌, Some, None, Option, option_map}
use Rattle.word.specs.Fields.{extract}
use Rattle.word.specs.declared.element.ElementType.{ElementType}
use Rattle.word.specs.declared.element.ElementType.TheVariants.{U8, S8, U16, S16, U32, S32, U64, S64}
use Rattle.word.specs.declared.opcodes.Arith.{Arith}
use Rattle.word.specs.declared.opcodes.Arith.TheVariants.{Add, Sub, Slt, Mul, And, Or, Xor, Shl, Shr, Rol, Ror}
use Rattle.word.specs.declared.opcodes.Reduction.{Reduction}
use Rattle.word.specs.declared.opcodes.Reduction.TheVariants.{Add as Sum, Mul as Product, Max, Min, And as Meet}
use Rattle.word.specs.declared.opcodes.Special.{Special}
use Rattle.word.specs.declared.opcodes.Special.TheVariants.{Ie, Xct, Swiarg0, Swiarg1, Swiarg2, Swiarg3}
use Rattle.word.specs.declared.opcodes.Form.{Form}
use Rattle.word.specs.declared.opcodes.Form.TheVariants.{Scalar, Vector}
use Rattle.word.specs.declared.operations.Operation.{Operation}
use Rattle.word.specs.declared.operations.Operation.TheVariants.{Arith as Arithmetic, AddAddress, Div, Reduce, Load, Store, Dup, Fetch, JumpNotZero, JumpZero, Hand, CopyOut, CopyIn, Swi, Reti, Retx}

-- The types of elements, in the order of their numbers.
abbrev pub types : List ElementType
types = U8 ∷ S8 ∷ U16 ∷ S16 ∷ U32 ∷ S32 ∷ U64 ∷ S64 ∷ []

-- The operations on two operands, in the order of their numbers.
abbrev pub ariths : List Arith
ariths = Add ∷ Sub ∷ Slt ∷ Mul ∷ And ∷ Or ∷ Xor ∷ Shl ∷ Shr ∷ Rol ∷ Ror ∷ []

-- The reductions, in the order of their numbers.
abbrev pub reductions : List Reduction
reductions = Sum ∷ Product ∷ Max ∷ Min ∷ Meet ∷ []

-- The special registers, in the order of their numbers.
abbrev pub specials : List Special
specials = Ie ∷ Xct ∷ Swiarg0 ∷ Swiarg1 ∷ Swiarg2 ∷ Swiarg3 ∷ []

-- The forms, in the order of their numbers.
abbrev pub forms : List Form
forms = Scalar ∷ Vector ∷ []

-- The signed number that m stands for in two's complement with 2 * half numbers.
abbrev pub from_twos : ℕ → ℕ → ℤ
from_twos half m = if nat_lt m half then pos m else pos m -ℤ pos (2 * half)

-- What the word w holds in each group. An opcode past the end of its group's list holds nothing.
module _ (w : ℕ) where
  -- a, b and c stand at one place in every group that has them.
  abbrev pub a : ℕ
  a = extract w 22 6

  abbrev pub b : ℕ
  b = extract w 16 6

  abbrev pub c : ℕ
  c = extract w 10 6

  -- The opcode of 4 bits.
  abbrev pub o : ℕ
  o = extract w 0 4

  -- Bits 15 to 4, which are unused in groups 1 and 4.
  abbrev pub z : ℕ
  z = extract w 4 12

  -- The signed number in these bits in groups 2 and 3.
  abbrev pub i : ℤ
  i = from_twos 2048 z

  -- Group 0, a6 b6 c6 d5 v1 o4: div has the opcode 14 + v, and address add the opcode 11. Only div has a d.
  abbrev pub arithmetic : Option Operation
  arithmetic =
      let d = extract w 5 5 in
      let v = extract w 4 1 in
      let form = get_or forms v Scalar in
      if o == 14 + v then Some (Div form a b c d)
      else if d == 0 then if o == 11 then Some (AddAddress form a b c) else option_map (λ op. Arithmetic op form a b c) (slice_get ariths o)
      else None

  -- Group 1, a6 b6 z12 o4.
  abbrev pub reduce : Option Operation
  reduce = if z == 0 then option_map (λ op. Reduce op a b) (slice_get reductions o) else None

  -- Group 2, a6 b6 i12 o4.
  abbrev pub load : Option Operation
  load = option_map (λ kind. Load kind a b i) (slice_get types o)

  -- Group 3, a6 b6 i12 o4.
  abbrev pub store : Option Operation
  store = option_map (λ kind. Store kind a b i) (slice_get types o)

  -- Group 4, a6 b6 z12 o4.
  abbrev pub dup : Option Operation
  dup = if z == 0 then option_map (λ kind. Dup kind a b) (slice_get types o) else None

  -- Group 5, a6 b6 i11 j4 o1: the registers a to a + j end at 62.
  abbrev pub fetch : Option Operation
  fetch =
      let j = extract w 1 4 in
      if extract w 0 1 == 1 && nat_le (a + j) 62 then Some (Fetch a b (from_twos 1024 (extract w 5 11)) j)
      else None

  -- The operations of group 6, in the order of their opcodes: hand has no a.
  abbrev pub jumps : List (Option Operation)
  jumps =
      let place = extract w 11 5 in
      Some (JumpNotZero a b place) ∷ Some (JumpZero a b place) ∷ (if a == 0 then Some (Hand b place) else None) ∷ []

  -- Group 6, a6 b6 w5 z7 o4: b is not 0.
  abbrev pub jump : Option Operation
  jump = if nat_lt 0 b && extract w 4 7 == 0 then get_or jumps o None else None

  -- Group 8, a6 b6 c6 d6 o4: the opcode 2 n copies out of the special register n, and 2 n + 1 into it.
  abbrev pub system : Option Operation
  system =
      let d = extract w 4 6 in
      if o == 12 then Some (Swi a b c d)
      else if o == 13 then if a + b + c + d == 0 then Some Reti else None
      else if o == 14 then if a + b + c + d == 0 then Some Retx else None
      else if b + c + d == 0 then option_map (λ n. if o % 2 == 0 then CopyOut n a else CopyIn n a) (slice_get specials (o / 2))
      else None

  -- Group 7.
  abbrev pub undefined : Option Operation
  undefined = None

-- The groups, in the order of their numbers.
abbrev pub groups : List (ℕ → Option Operation)
groups = arithmetic ∷ reduce ∷ load ∷ store ∷ dup ∷ fetch ∷ jump ∷ undefined ∷ system ∷ []

-- The operation that a word holds, by its group, or None where the word is undefined. The group of a
-- number that is no word, from 2 ^ 32 on, is past the end too.
unfoldable pub operation : ℕ → Option Operation
operation w = get_or groups (w / 2 ^ 28) undefined w
