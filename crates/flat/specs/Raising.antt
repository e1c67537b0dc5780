-- Which exception the machine enters instead of carrying out an operation: the first that applies, in the order of the rules.
use Rattle.std.specs.Prelude.{ℕ, suc, Bool, true, false, if◌then◌else◌, not, ◌&&◌, ◌||◌, List, [], ◌∷◌, Some, None, Option, ◌==◌, nat_lt, unsigned_abs}
use Rattle.std.specs.List.{list_any}
use Rattle.std.specs.Option.{option_or}
use Rattle.word.specs.Types.{width}
use Rattle.word.specs.declared.opcodes.Arith.{Arith}
use Rattle.word.specs.declared.opcodes.Arith.TheVariants.{Add, Sub, Slt, Mul, And, Or, Xor, Shl, Shr, Rol, Ror}
use Rattle.word.specs.declared.opcodes.Reduction.{Reduction}
use Rattle.word.specs.declared.opcodes.Reduction.TheVariants.{Add as Sum, Mul as Product, Max, Min, And as Meet}
use Rattle.word.specs.declared.opcodes.Form.TheVariants.{Scalar, Vector}
use Rattle.word.specs.declared.operations.Operation.{Operation}
use Rattle.word.specs.declared.operations.Operation.TheVariants.{Arith as Arithmetic, AddAddress, Div, Reduce, Load, Store, Dup, Fetch, JumpNotZero, JumpZero, Hand, CopyOut, CopyIn, Swi, Reti, Retx}
use Rattle.line.specs.Dividing.{somewhere}
use Rattle.line.specs.Elements.{count}
use Rattle.scalar.specs.Arithmetic.{casts_to_zero}
use Rattle.flat.specs.Data.{line}
use Rattle.flat.specs.Instructions.{addresses}
use Rattle.flat.specs.Machine.{Machine, ipc_address}
use Rattle.flat.specs.Operands.{reg, kind_of, element_of, element_at, target, fetch_target, next_address}
use Rattle.flat.specs.Registers.{is_zero, line_of, named, offset_of}
use Rattle.flat.specs.declared.control.Mode.{Mode}
use Rattle.flat.specs.declared.control.Mode.TheVariants.{User, Supervisor}
use Rattle.flat.specs.declared.exception.Exception.{Exception}
use Rattle.flat.specs.declared.rules.Divisor.{Divisor}
use Rattle.flat.specs.declared.rules.Divisor.TheVariants.{Absent, Cast}
use Rattle.flat.specs.declared.rules.Even.{Even}
use Rattle.flat.specs.declared.rules.Even.TheVariants.{AnyWidths, Two as EvenTwo, Three as EvenThree, Four}
use Rattle.flat.specs.declared.rules.Goes.{Goes}
use Rattle.flat.specs.declared.rules.Goes.TheVariants.{On, OnIfZero, OnIfNotZero, Nowhere}
use Rattle.flat.specs.declared.rules.Narrow.{Narrow}
use Rattle.flat.specs.declared.rules.Narrow.TheVariants.{NoField, One, Two, OfArith, OfReduction}
use Rattle.flat.specs.declared.rules.Needs.{Needs}
use Rattle.flat.specs.declared.rules.Needs.TheVariants.{NoLine, Target, Fetched}
use Rattle.flat.specs.declared.rules.Rules.{Rules}
use Rattle.flat.specs.declared.rules.Writes.{Writes}
use Rattle.flat.specs.declared.rules.Writes.TheVariants.{Nothing, Own, Both, There}
use Rattle.flat.specs.declared.exception.Exception.TheVariants.{ZeroDivisor, Undefined, Wide, UserReti, UserRetx, UserCopyOut, UserCopyIn, NextLine, MissingLine, FixedLine}

-- A row, column by column: the exception in user mode, the registers that must not be 64 bits wide, those that must be of one width in the vector form, the lines that must be there, those that get bytes, the divisor, and where ipc goes.
abbrev pub row : Option Exception → Narrow → Even → Needs → Writes → Divisor → Goes → Rules
row user narrow even needs writes divisor goes = record { in_user_mode = user; not_wide = narrow; one_width = even; needs = needs; writes = writes; divisor = divisor; goes = goes }

-- The row of each operation. Hand, reti, retx and cpy are the supervisor's: in user mode hand is undefined, and the others enter exceptions of their own.
abbrev pub rules_of : Operation → Rules
rules_of (Arithmetic op form a b c) = row None (OfArith op a b c) (EvenThree form a b c) NoLine (Own a) Absent On
rules_of (AddAddress form a b c) = row None (Two a c) (EvenTwo form a c) NoLine (Own a) Absent On
rules_of (Div form a b c d) = row None (One c) (Four form a b c d) NoLine (Both a d) (Cast form a c) On
rules_of (Reduce op a b) = row None (OfReduction op a) AnyWidths NoLine (Own a) Absent On
rules_of (Load kind a b i) = row None NoField AnyWidths (Target b i) Nothing Absent On
rules_of (Store kind a b i) = row None NoField AnyWidths (Target b i) (There a b i) Absent On
rules_of (Dup kind a b) = row None NoField AnyWidths NoLine (Own a) Absent On
rules_of (Fetch a b i j) = row None NoField AnyWidths (Fetched b i j) Nothing Absent On
rules_of (JumpNotZero a b w) = row None NoField AnyWidths NoLine Nothing Absent (OnIfZero a)
rules_of (JumpZero a b w) = row None NoField AnyWidths NoLine Nothing Absent (OnIfNotZero a)
rules_of (Hand b w) = row (Some Undefined) NoField AnyWidths NoLine Nothing Absent On
rules_of (CopyOut from a) = row (Some (UserCopyOut from)) NoField AnyWidths NoLine (Own a) Absent On
rules_of (CopyIn to a) = row (Some (UserCopyIn to)) NoField AnyWidths NoLine Nothing Absent On
rules_of (Swi a b c d) = row None NoField AnyWidths NoLine Nothing Absent On
rules_of Reti = row (Some UserReti) NoField AnyWidths NoLine Nothing Absent Nowhere
rules_of Retx = row (Some UserRetx) NoField AnyWidths NoLine Nothing Absent Nowhere

-- In group 0, 64 bits are too wide for dA, dB and dC in slt, mul, shifts and rotates.
abbrev pub narrow_arith : Arith → ℕ → ℕ → ℕ → List ℕ
narrow_arith Add a b c = []
narrow_arith Sub a b c = []
narrow_arith Slt a b c = a ∷ b ∷ c ∷ []
narrow_arith Mul a b c = a ∷ b ∷ c ∷ []
narrow_arith And a b c = []
narrow_arith Or a b c = []
narrow_arith Xor a b c = []
narrow_arith Shl a b c = a ∷ b ∷ c ∷ []
narrow_arith Shr a b c = a ∷ b ∷ c ∷ []
narrow_arith Rol a b c = a ∷ b ∷ c ∷ []
narrow_arith Ror a b c = a ∷ b ∷ c ∷ []

-- In reductions for dA in mul.r, max.r and min.r.
abbrev pub narrow_reduction : Reduction → ℕ → List ℕ
narrow_reduction Sum a = []
narrow_reduction Product a = a ∷ []
narrow_reduction Max a = a ∷ []
narrow_reduction Min a = a ∷ []
narrow_reduction Meet a = []

-- The fields of the registers that must not be 64 bits wide.
abbrev pub narrow_fields : Narrow → List ℕ
narrow_fields NoField = []
narrow_fields (One a) = a ∷ []
narrow_fields (Two a c) = a ∷ c ∷ []
narrow_fields (OfArith op a b c) = narrow_arith op a b c
narrow_fields (OfReduction op a) = narrow_reduction op a

-- The fields of the registers that must be of one width.
abbrev pub even_fields : Even → List ℕ
even_fields AnyWidths = []
even_fields (EvenTwo Scalar a c) = []
even_fields (EvenTwo Vector a c) = a ∷ c ∷ []
even_fields (EvenThree Scalar a b c) = []
even_fields (EvenThree Vector a b c) = a ∷ b ∷ c ∷ []
even_fields (Four Scalar a b c d) = []
even_fields (Four Vector a b c d) = a ∷ b ∷ c ∷ d ∷ []

-- The exception in user mode of an operation that is the supervisor's.
unfoldable pub reserved : Operation → Option Exception
reserved op = (rules_of op).in_user_mode

-- The exception of an operation that is the supervisor's, in user mode.
abbrev pub forbidden : Mode → Operation → Option Exception
forbidden User op = reserved op
forbidden Supervisor op = None

-- The fields of the registers that must not be 64 bits wide.
unfoldable pub narrow : Operation → List ℕ
narrow op = narrow_fields (rules_of op).not_wide

-- One of the registers is 64 bits wide.
abbrev pub some_wide : Machine → List ℕ → Bool
some_wide m fields = list_any (λ field. width (kind_of m field) == 8) fields

unfoldable pub too_wide : Machine → Operation → Bool
too_wide m op = some_wide m (narrow op)

-- The fields of the registers that must be of one width.
unfoldable pub even : Operation → List ℕ
even op = even_fields (rules_of op).one_width

-- Some of the registers has another width than the first.
unfoldable pub uneven_widths : Machine → List ℕ → Bool
uneven_widths m [] = false
uneven_widths m (a ∷ fields) = list_any (λ field. not (width (kind_of m field) == width (kind_of m a))) fields

-- The widths of a vector form are unequal.
abbrev pub uneven : Machine → Operation → Bool
uneven m op = uneven_widths m (even op)

-- The line of an address is not below the size.
abbrev pub is_missing : Machine → ℕ → Bool
is_missing m address = not (nat_lt (line_of address) m.data_registers.backing.size)

-- One of the lines that must be there is missing.
abbrev pub needs_missing : Machine → Needs → Bool
needs_missing m NoLine = false
needs_missing m (Target b i) = is_missing m (target m b i)
needs_missing m (Fetched b i j) = somewhere (λ k. is_missing m (fetch_target m b i k)) (suc j)

unfoldable pub missing : Machine → Operation → Bool
missing m op = needs_missing m (rules_of op).needs

-- Register r, which is no zero register, writes a line that cannot be written.
abbrev pub writes_fixed : Machine → ℕ → ℕ → Bool
writes_fixed m r n = not (is_zero r) && not (m.data_registers.backing.canwrite n)

-- The register of a field writes its own line, which cannot be written.
abbrev pub own_fixed : Machine → ℕ → Bool
own_fixed m field = writes_fixed m (reg m field) (line m.data_registers (reg m field))

-- One of the lines that get bytes cannot be written.
abbrev pub some_fixed : Machine → Writes → Bool
some_fixed m Nothing = false
some_fixed m (Own a) = own_fixed m a
some_fixed m (Both a d) = own_fixed m a || own_fixed m d
some_fixed m (There a b i) = writes_fixed m (reg m a) (line_of (target m b i))

unfoldable pub fixed : Machine → Operation → Bool
fixed m op = some_fixed m (rules_of op).writes

-- A divisor that is zero after its cast to dA's type; in the vector form at some element place.
abbrev pub is_zero_divisor : Machine → Divisor → Bool
is_zero_divisor m Absent = false
is_zero_divisor m (Cast Scalar a c) = casts_to_zero (kind_of m a) (element_of m c)
is_zero_divisor m (Cast Vector a c) = somewhere (λ k. casts_to_zero (kind_of m a) (element_at m c k)) (count (kind_of m a))

unfoldable pub by_zero : Machine → Operation → Bool
by_zero m op = is_zero_divisor m (rules_of op).divisor

-- A jump if not zero is taken when dA's element is not zero, a jump if zero when it is.
unfoldable pub leaves : Machine → Goes → Bool
leaves m On = false
leaves m (OnIfZero a) = not (unsigned_abs (element_of m a) == 0)
leaves m (OnIfNotZero a) = unsigned_abs (element_of m a) == 0
leaves m Nowhere = false

unfoldable pub is_taken : Machine → Operation → Bool
is_taken m op = leaves m (rules_of op).goes

-- ipc goes to the next word after every operation but a taken jump, reti and retx.
abbrev pub goes_on : Machine → Goes → Bool
goes_on m On = true
goes_on m (OnIfZero a) = not (leaves m (OnIfZero a))
goes_on m (OnIfNotZero a) = not (leaves m (OnIfNotZero a))
goes_on m Nowhere = false

unfoldable pub moves_on : Machine → Operation → Bool
moves_on m op = goes_on m (rules_of op).goes

-- ipc would pass word 31, and no instruction register names the next line.
unfoldable pub no_next_line : Machine → Operation → Bool
no_next_line m op = moves_on m op && (offset_of (ipc_address m) == 124) && not (named (addresses m.instructions) (line_of (next_address m)))

-- The first exception of a list whose test holds.
unfoldable pub first : List (Bool × Exception) → Option Exception
first [] = None
first (t ∷ ts) = if t.0 then Some t.1 else first ts

-- The first exception that applies.
unfoldable pub raised : Machine → Operation → Option Exception
raised m op = option_or (forbidden m.control.mode op) (first ((too_wide m op, Wide) ∷ (uneven m op, Undefined) ∷ (missing m op, MissingLine) ∷ (fixed m op, FixedLine) ∷ (by_zero m op, ZeroDivisor) ∷ (no_next_line m op, NextLine) ∷ []))
