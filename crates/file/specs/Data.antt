-- What the data registers of a file stand for on a store.
use Rattle.std.specs.Prelude.{◌≡◌, ◌<◌, ℕ, true, Some, None, Option, Bool, not, ◌==◌, ◌&&◌, if◌then◌else◌}
use Rattle.store.specs.Meaning.{Meaning}
use Rattle.flat.specs.Data.{Data, leaves, line, sent_back}
use Rattle.marks.specs.Marks.{marked, none}
use Rattle.tags.specs.declared.tag.Tag.{Tag}
use Rattle.tags.specs.Meaning.{names}
use Rattle.tags.specs.Names.{Names}
use Rattle.flat.specs.Registers.{is_zero, line_of, shared}
use Rattle.file.specs.Standing.{data_of, known}
use Rattle.file.specs.declared.data.DataRegisters.{DataRegisters}

-- By the names of the bank, the registers and the marks.
unfoldable pub stands : DataRegisters → Meaning → Data
stands d m = data_of (names d.bank) (known d.registers) (marked d.marks) m

-- What is sent back before register r goes to an address: its line, where it leaves it and it is touched.
unfoldable pub sends : ℕ → ℕ → Data → Data
sends r address d = if leaves r address d && d.touched (line d r) then sent_back (line d r) d else d

-- Register r is its line's last, and leaves it for the line of an address.
abbrev pub leaves_line : Names → ℕ → ℕ → Bool
leaves_line s r address = not (is_zero r) && not (line_of (s.address r) == line_of address) && not (shared s.address r)

-- A marked tag and the line that it names; or, if there is none, no tag is marked.
abbrev pub IsTouched : Names → (ℕ → Bool) → Option (Tag × ℕ) → Type 0
IsTouched s marked (Some x) = (marked x.0.number ≡ true) × (x.0.number < 128) × (s.tag x.1 ≡ Some x.0.number)
IsTouched s marked None = marked ≡ none
