-- Registers of either kind, data or instruction: which are zero registers, and which line a register names.
use Rattle.std.specs.Prelude.{ℕ, ◌+◌, ◌/◌, ◌%◌, Bool, if◌then◌else◌, List, replicate, not, nat_lt, ◌&&◌, ◌||◌, ◌==◌}
use Rattle.line.specs.Dividing.{somewhere}
use Rattle.flat.specs.declared.control.Mode.{Mode}
use Rattle.flat.specs.declared.control.Mode.TheVariants.{User, Supervisor}
use Rattle.flat.specs.declared.registers.DataRegister.{DataRegister}
use Rattle.word.specs.declared.element.ElementType.{ElementType}
use Rattle.word.specs.declared.element.ElementType.TheVariants.{U8}

-- There are 128 registers of a kind: 0 to 63 belong to user mode, 64 to 127 to supervisor mode. A word's field names a register of the mode that the machine is in.
abbrev pub of_mode : Mode → ℕ → ℕ
of_mode User field = field
of_mode Supervisor field = 64 + field

-- Register 0 of each mode is a zero register. It names no line, shows zeros and never changes.
abbrev pub is_zero : ℕ → Bool
is_zero r = (r == 0) || (r == 64)

-- A register that is there and is no zero register.
abbrev pub is_real : ℕ → Bool
is_real r = nat_lt r 128 && not (is_zero r)

-- 128 zero bytes.
unfoldable pub zeros : List ℕ
zeros = replicate 128 0

-- The line of an address, and its place in that line.
abbrev pub line_of : ℕ → ℕ
line_of address = address / 128

abbrev pub offset_of : ℕ → ℕ
offset_of address = address % 128

-- A data register after boot: address 0, type u8. A zero register is so at all times.
abbrev pub blank : DataRegister
blank = record { address = 0; kind = U8 }

-- A data register that a load or a store has put at an address, with a type.
abbrev pub loaded : ElementType → ℕ → DataRegister
loaded kind address = record { address = address; kind = kind }

-- Register r, which is no zero register, names the line n that its address lies in.
abbrev pub names : (ℕ → ℕ) → ℕ → ℕ → Bool
names address r n = not (is_zero r) && (line_of (address r) == n)

-- Another register than r names r's line.
unfoldable pub shared : (ℕ → ℕ) → ℕ → Bool
shared address r = somewhere (λ q. not (q == r) && names address q (line_of (address r))) 128

-- Some register names the line n.
unfoldable pub named : (ℕ → ℕ) → ℕ → Bool
named address n = somewhere (λ q. names address q n) 128

-- A function with another value at one place.
abbrev pub at : {X : Type 0} → (ℕ → X) → ℕ → X → ℕ → X
at f n x k = if k == n then x else f k
