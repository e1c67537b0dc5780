-- What an operation reads: the registers that its fields name, and the addresses that it makes of them.
use Rattle.std.specs.Prelude.{ℕ, ◌+◌, ◌*◌, ◌%◌, ℤ, pos, ◌+ℤ◌, ◌*ℤ◌, List}
use Rattle.word.specs.declared.element.ElementType.{ElementType}
use Rattle.line.specs.Elements.{element}
use Rattle.scalar.specs.Casts.{residue}
use Rattle.flat.specs.Data.{shown, shown_element}
use Rattle.flat.specs.Machine.{Machine, ipc_address, wrapped}
use Rattle.flat.specs.Registers.{of_mode, line_of}

-- The register that a field of the word names. A field has 6 bits.
abbrev pub reg : Machine → ℕ → ℕ
reg m field = of_mode m.control.mode (field % 64)

-- The type of the data register that a field names.
abbrev pub kind_of : Machine → ℕ → ElementType
kind_of m field = (m.data_registers.registers (reg m field)).kind

-- Its address.
abbrev pub address_of : Machine → ℕ → ℕ
address_of m field = (m.data_registers.registers (reg m field)).address

-- Its line's bytes.
abbrev pub bytes_of : Machine → ℕ → List ℕ
bytes_of m field = shown m.data_registers (reg m field)

-- Its element.
abbrev pub element_of : Machine → ℕ → ℤ
element_of m field = shown_element m.data_registers (reg m field)

-- Element k of its line.
abbrev pub element_at : Machine → ℕ → ℕ → ℤ
element_at m field k = element (kind_of m field) (bytes_of m field) k

-- Where load and store go: dB's address plus signed i.
abbrev pub target : Machine → ℕ → ℤ → ℕ
target m b i = residue 32 (pos (address_of m b) +ℤ i)

-- Where fetch goes with register a + k: iB's address plus 4 times signed i, and 128 k further.
abbrev pub fetch_target : Machine → ℕ → ℤ → ℕ → ℕ
fetch_target m b i k = residue 32 (pos (m.instructions (reg m b)).address +ℤ pos 4 *ℤ i +ℤ pos (128 * k))

-- The word w, of 5 bits, of the line that instruction register iB names.
abbrev pub word_place : Machine → ℕ → ℕ → ℕ
word_place m b w = line_of (m.instructions (reg m b)).address * 128 + 4 * (w % 32)

-- The next word is 4 bytes further.
abbrev pub next_address : Machine → ℕ
next_address m = wrapped (ipc_address m + 4)
