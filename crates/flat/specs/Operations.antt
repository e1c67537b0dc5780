-- What each operation does. All operands are those of the machine as it was before the step.
use Rattle.std.specs.Prelude.{ℕ, suc, ◌+◌, Bool, true, if◌then◌else◌, List, [], ◌∷◌, set, get_or, ◌==◌, ℤ, pos}
use Rattle.word.specs.declared.opcodes.Arith.{Arith}
use Rattle.word.specs.declared.opcodes.Arith.TheVariants.{Add}
use Rattle.word.specs.declared.opcodes.Form.{Form}
use Rattle.word.specs.declared.opcodes.Form.TheVariants.{Scalar, Vector}
use Rattle.word.specs.declared.opcodes.Special.TheVariants.{Ie, Xct, Swiarg0, Swiarg1, Swiarg2, Swiarg3}
use Rattle.word.specs.declared.operations.Operation.{Operation}
use Rattle.word.specs.declared.operations.Operation.TheVariants.{Arith as Arithmetic, AddAddress, Div, Reduce, Load, Store, Dup, Fetch, JumpNotZero, JumpZero, Hand, CopyOut, CopyIn, Swi, Reti, Retx}
use Rattle.line.specs.Reductions.{over, reduced}
use Rattle.line.specs.Vectors.{line_of as elements, filled}
use Rattle.scalar.specs.Arithmetic.{computed, quotient, remainder}
use Rattle.scalar.specs.Casts.{residue}
use Rattle.flat.specs.Bus.{followed_by, quiet}
use Rattle.flat.specs.Data.{Data, write, write_element, move_to, move_bus, carry, carry_bus, retype}
use Rattle.flat.specs.Instructions.{Instruction, take}
use Rattle.flat.specs.Machine.{Machine, take_line, take_bus, ipc}
use Rattle.flat.specs.Operands.{reg, kind_of, bytes_of, element_of, element_at, address_of, target, fetch_target, word_place, next_address}
use Rattle.flat.specs.Raising.{is_taken, moves_on}
use Rattle.flat.specs.Registers.{zeros, loaded, of_mode}
use Rattle.flat.specs.declared.bus.Bus.{Bus}
use Rattle.flat.specs.declared.control.Control.{Control}
use Rattle.flat.specs.declared.control.Mode.TheVariants.{User}

-- What group 0 makes of an element x of dB and an element y of dC, both cast to dA's type; the result is cast too.
abbrev pub result : Machine → Arith → ℕ → ℤ → ℤ → ℤ
result m op a x y = computed op (kind_of m a) x y

-- It goes to dA's element; the vector form does so at each element place.
unfoldable pub arithmetic : Arith → Form → ℕ → ℕ → ℕ → Machine → Data
arithmetic op Scalar a b c m = write_element (reg m a) (result m op a (element_of m b) (element_of m c)) m.data_registers
arithmetic op Vector a b c m = write (reg m a) (elements (kind_of m a) (λ k. result m op a (element_at m b k) (element_at m c k))) m.data_registers

-- Addr is add with dB's address in the place of its element.
unfoldable pub add_address : Form → ℕ → ℕ → ℕ → Machine → Data
add_address Scalar a b c m = write_element (reg m a) (result m Add a (pos (address_of m b)) (element_of m c)) m.data_registers
add_address Vector a b c m = write (reg m a) (elements (kind_of m a) (λ k. result m Add a (pos (address_of m b)) (element_at m c k))) m.data_registers

-- Div writes the quotient to dA, and then the remainder, cast, to dD.
unfoldable pub divide : Form → ℕ → ℕ → ℕ → ℕ → Machine → Data
divide Scalar a b c d m =
    let kind = kind_of m a in
    write_element (reg m d) (remainder kind (element_of m b) (element_of m c)) (write_element (reg m a) (quotient kind (element_of m b) (element_of m c)) m.data_registers)
divide Vector a b c d m =
    let kind = kind_of m a in
    write (reg m d) (elements (kind_of m d) (λ k. remainder kind (element_at m b k) (element_at m c k))) (write (reg m a) (elements kind (λ k. quotient kind (element_at m b k) (element_at m c k))) m.data_registers)

-- One of the four swiargs.
abbrev pub swiarg : Control → ℕ → List ℕ
swiarg c n = get_or c.swiargs n zeros

-- What an operation does to the data registers and memory.
unfoldable pub data_after : Operation → Machine → Data
data_after (Arithmetic op form a b c) m = arithmetic op form a b c m
data_after (AddAddress form a b c) m = add_address form a b c m
data_after (Div form a b c d) m = divide form a b c d m
-- a reduction joins every element of dB's line, each cast to dA's type, into dA's element
data_after (Reduce op a b) m = write_element (reg m a) (reduced op (kind_of m a) (kind_of m b) (bytes_of m b)) m.data_registers
-- load sets dA's address to dB's plus signed i, and its type; store does so too, and takes dA's line along
data_after (Load kind a b i) m = move_to (reg m a) (loaded kind (target m b i)) m.data_registers
data_after (Store kind a b i) m = carry (reg m a) (loaded kind (target m b i)) m.data_registers
-- dup casts dB's element to its type, fills dA's line with it and sets dA's type
data_after (Dup kind a b) m = retype (reg m a) kind (write (reg m a) (filled kind (element_of m b)) m.data_registers)
-- cpy out: ie and xct go, cast, to dA's element; a swiarg is dA's whole line
data_after (CopyOut Ie a) m = write_element (reg m a) (pos (if m.control.ie then 1 else 0)) m.data_registers
data_after (CopyOut Xct a) m = write_element (reg m a) (pos m.control.xct) m.data_registers
data_after (CopyOut Swiarg0 a) m = write (reg m a) (swiarg m.control 0) m.data_registers
data_after (CopyOut Swiarg1 a) m = write (reg m a) (swiarg m.control 1) m.data_registers
data_after (CopyOut Swiarg2 a) m = write (reg m a) (swiarg m.control 2) m.data_registers
data_after (CopyOut Swiarg3 a) m = write (reg m a) (swiarg m.control 3) m.data_registers
data_after (Fetch a b i j) m = m.data_registers
data_after (JumpNotZero a b w) m = m.data_registers
data_after (JumpZero a b w) m = m.data_registers
data_after (Hand b w) m = m.data_registers
data_after (CopyIn to a) m = m.data_registers
data_after (Swi a b c d) m = m.data_registers
data_after Reti m = m.data_registers
data_after Retx m = m.data_registers

-- Instruction register r goes to word w of the line that iB names.
abbrev pub put_at : ℕ → ℕ → ℕ → Machine → (ℕ → Instruction) → ℕ → Instruction
put_at r b w m after = take r (word_place m b w) m.data_registers.memory after

-- What an operation does to the instruction registers, once ipc has moved on where it does.
unfoldable pub instructions_after : Operation → Machine → (ℕ → Instruction) → ℕ → Instruction
-- fetch: register a + k takes its line, k rising from 0 to j
instructions_after (Fetch a b i j) m after = over (λ so_far k. take (reg m (a + k)) (fetch_target m b i k) m.data_registers.memory so_far) after (suc j)
-- a taken jump puts ipc on iB's line at word w; hand does so to the user's ipc
instructions_after (JumpNotZero a b w) m after = if is_taken m (JumpNotZero a b w) then put_at (ipc m) b w m after else after
instructions_after (JumpZero a b w) m after = if is_taken m (JumpZero a b w) then put_at (ipc m) b w m after else after
instructions_after (Hand b w) m after = put_at (of_mode User 63) b w m after
instructions_after (Arithmetic op form a b c) m after = after
instructions_after (AddAddress form a b c) m after = after
instructions_after (Div form a b c d) m after = after
instructions_after (Reduce op a b) m after = after
instructions_after (Load kind a b i) m after = after
instructions_after (Store kind a b i) m after = after
instructions_after (Dup kind a b) m after = after
instructions_after (CopyOut from a) m after = after
instructions_after (CopyIn to a) m after = after
instructions_after (Swi a b c d) m after = after
instructions_after Reti m after = after
instructions_after Retx m after = after

-- What an operation does to the rest.
unfoldable pub control_after : Operation → Machine → Control
-- cpy in: ie takes the element's lowest bit, xct its cast to u32; a swiarg is dA's whole line
control_after (CopyIn Ie a) m = record m.control { ie = residue 1 (element_of m a) == 1 }
control_after (CopyIn Xct a) m = record m.control { xct = residue 32 (element_of m a) }
control_after (CopyIn Swiarg0 a) m = record m.control { swiargs = set m.control.swiargs 0 (bytes_of m a) }
control_after (CopyIn Swiarg1 a) m = record m.control { swiargs = set m.control.swiargs 1 (bytes_of m a) }
control_after (CopyIn Swiarg2 a) m = record m.control { swiargs = set m.control.swiargs 2 (bytes_of m a) }
control_after (CopyIn Swiarg3 a) m = record m.control { swiargs = set m.control.swiargs 3 (bytes_of m a) }
-- swi writes the lines of its four registers into the swiargs
control_after (Swi a b c d) m = record m.control { swiargs = bytes_of m a ∷ bytes_of m b ∷ bytes_of m c ∷ bytes_of m d ∷ [] }
-- reti sets ie and returns to user mode; retx only returns
control_after Reti m = record m.control { ie = true; mode = User }
control_after Retx m = record m.control { mode = User }
control_after (Arithmetic op form a b c) m = m.control
control_after (AddAddress form a b c) m = m.control
control_after (Div form a b c d) m = m.control
control_after (Reduce op a b) m = m.control
control_after (Load kind a b i) m = m.control
control_after (Store kind a b i) m = m.control
control_after (Dup kind a b) m = m.control
control_after (Fetch a b i j) m = m.control
control_after (JumpNotZero a b w) m = m.control
control_after (JumpZero a b w) m = m.control
control_after (Hand b w) m = m.control
control_after (CopyOut from a) m = m.control

-- ipc goes to the next word where the operation moves on.
unfoldable pub moved_on : Operation → Machine → Machine
moved_on op m = if moves_on m op then take_line (ipc m) (next_address m) m else m

-- An operation is carried out: operands are read, ipc moves on, then it is written.
unfoldable pub carried_out : Operation → Machine → Machine
carried_out op m =
    record {
      data_registers = data_after op m;
      instructions = instructions_after op m (moved_on op m).instructions;
      control = control_after op m;
    }

-- The machine m once registers a, a + 1, .. have each taken a line in a row from the start of fetch on, k of them.
unfoldable pub fetched : ℕ → ℕ → ℤ → Machine → Machine → ℕ → Machine
fetched a b i m on k = over (λ so_far k. take_line (reg m (a + k)) (fetch_target m b i k) so_far) on k

-- What that did on the bus.
unfoldable pub fetched_bus : ℕ → ℕ → ℤ → Machine → Machine → ℕ → Bus
fetched_bus a b i m on k = over (λ so_far k. followed_by so_far (take_bus (reg m (a + k)) (fetch_target m b i k) (fetched a b i m on k))) quiet k

-- What it does on the bus that ipc goes to the next word.
abbrev pub next_bus : Machine → Bus
next_bus m = take_bus (ipc m) (next_address m) m

-- A jump that is taken puts ipc elsewhere.
abbrev pub jump_bus : Bool → ℕ → ℕ → Machine → Bus
jump_bus taken b w m = if taken then take_bus (ipc m) (word_place m b w) m else next_bus m

-- Load and store move a data register, store with its line.
abbrev pub load_bus : ℕ → ℕ → ℤ → Machine → Bus
load_bus a b i m = move_bus (reg m a) (target m b i) m.data_registers

abbrev pub store_bus : ℕ → ℕ → ℤ → Machine → Bus
store_bus a b i m = carry_bus (reg m a) (target m b i) m.data_registers

-- What an operation does on the bus.
unfoldable pub bus_of : Operation → Machine → Bus
bus_of (Arithmetic op form a b c) m = next_bus m
bus_of (AddAddress form a b c) m = next_bus m
bus_of (Div form a b c d) m = next_bus m
bus_of (Reduce op a b) m = next_bus m
bus_of (Load kind a b i) m = followed_by (next_bus m) (load_bus a b i m)
bus_of (Store kind a b i) m = followed_by (next_bus m) (store_bus a b i m)
bus_of (Dup kind a b) m = next_bus m
bus_of (Fetch a b i j) m = followed_by (next_bus m) (fetched_bus a b i m (moved_on (Fetch a b i j) m) (suc j))
bus_of (JumpNotZero a b w) m = jump_bus (is_taken m (JumpNotZero a b w)) b w m
bus_of (JumpZero a b w) m = jump_bus (is_taken m (JumpZero a b w)) b w m
bus_of (Hand b w) m = followed_by (next_bus m) (take_bus (of_mode User 63) (word_place m b w) (moved_on (Hand b w) m))
bus_of (CopyOut from a) m = next_bus m
bus_of (CopyIn to a) m = next_bus m
bus_of (Swi a b c d) m = next_bus m
bus_of Reti m = quiet
bus_of Retx m = quiet
