-- The data registers, the memory that they name lines of, and the backing copy.
use Rattle.std.specs.Prelude.{ℕ, ◌/◌, Bool, true, false, if◌then◌else◌, not, ◌&&◌, List, Some, None, Option, ◌==◌, nat_lt, ℤ}
use Rattle.word.specs.Types.{width}
use Rattle.word.specs.declared.element.ElementType.{ElementType}
use Rattle.line.specs.Elements.{element, put}
use Rattle.store.specs.Meaning.{Meaning, with_line}
use Rattle.flat.specs.Registers.{zeros, is_zero, line_of, offset_of, shared, named, at}
use Rattle.flat.specs.declared.bus.Bus.{Bus}
use Rattle.flat.specs.declared.registers.DataRegister.{DataRegister}

-- Each data register has an address and a type. Memory has the bytes of each line; the backing copy is what the store holds; a line that was written since it last went to the backing copy is touched.
pub record Data : Type 0 where
  pub registers : ℕ → DataRegister
  pub memory : ℕ → List ℕ
  pub touched : ℕ → Bool
  pub backing : Meaning

-- What the backing copy gives of a line. A line past its size reads as zeros.
unfoldable pub given : Meaning → ℕ → List ℕ
given m n = if nat_lt n m.size then m.line n else zeros

-- The backing copy once it was sent a line. A line that it will not take is lost.
unfoldable pub accepted : Meaning → ℕ → List ℕ → Meaning
accepted m n bytes = if m.canwrite n then with_line m n bytes else m

-- The addresses of the data registers.
abbrev pub addresses : Data → ℕ → ℕ
addresses d r = (d.registers r).address

-- The line that a register names.
abbrev pub line : Data → ℕ → ℕ
line d r = line_of (addresses d r)

-- A register shows the bytes of its line in memory, and a zero register zeros.
abbrev pub shown : Data → ℕ → List ℕ
shown d r = if is_zero r then zeros else d.memory (line d r)

-- The number of a register's element in its line: offset div width.
abbrev pub place : DataRegister → ℕ
place r = offset_of r.address / width r.kind

-- The element that a register shows, by its type.
abbrev pub shown_element : Data → ℕ → ℤ
shown_element d r = element (d.registers r).kind (shown d r) (place (d.registers r))

-- A line that is written is touched.
abbrev pub written : ℕ → List ℕ → Data → Data
written n bytes d = record d { memory = at d.memory n bytes; touched = at d.touched n true }

-- Writing a register's line. With a zero register nothing is written.
unfoldable pub write : ℕ → List ℕ → Data → Data
write r bytes d = if is_zero r then d else written (line d r) bytes d

-- Writing a number, cast, to a register's element.
unfoldable pub write_element : ℕ → ℤ → Data → Data
write_element r z d = write r (put (width (d.registers r).kind) (shown d r) (place (d.registers r)) z) d

-- A line goes to the backing copy, and its mark is cleared.
unfoldable pub sent_back : ℕ → Data → Data
sent_back n d = record d { touched = at d.touched n false; backing = accepted d.backing n (d.memory n) }

-- Of a line that no data register names, memory holds what the backing copy gives. (Memory held that already where no other store than boot's was handed in between.)
unfoldable pub let_go : ℕ → Data → Data
let_go n d = record d { memory = at d.memory n (given d.backing n) }

-- The last data register leaves the line n: a touched line goes to the backing copy.
unfoldable pub left : ℕ → Data → Data
left n d = let_go n (if d.touched n then sent_back n d else d)

-- Register r is its line's last, and leaves it for the line of an address.
abbrev pub leaves : ℕ → ℕ → Data → Bool
leaves r address d = not (is_zero r) && not (line d r == line_of address) && not (shared (addresses d) r)

-- Register r gets an address and a type.
abbrev pub placed : ℕ → DataRegister → Data → Data
placed r to d = record d { registers = at d.registers r to }

-- Register r moves to an address and a type; if it is its line's last and goes to another, it leaves the line. A zero register never changes.
unfoldable pub move_to : ℕ → DataRegister → Data → Data
move_to r to d = if is_zero r then d else placed r to (if leaves r to.address d then left (line d r) d else d)

-- The line that a move sends to the backing copy, if any.
unfoldable pub sent : ℕ → ℕ → Data → Option ℕ
sent r address d = if leaves r address d && d.touched (line d r) then Some (line d r) else None

-- What a move does on the bus.
abbrev pub move_bus : ℕ → ℕ → Data → Bus
move_bus r address d = record { sent = sent r address d }

-- Register r's line is copied onto that of an address, which is touched. With a zero register nothing is written.
unfoldable pub copied : ℕ → ℕ → Data → Data
copied r address d = if is_zero r then d else written (line_of address) (shown d r) d

-- Register r takes its line along: the line is copied, and then the register moves.
abbrev pub carry : ℕ → DataRegister → Data → Data
carry r to d = move_to r to (copied r to.address d)

-- What that does on the bus: what the move does.
abbrev pub carry_bus : ℕ → ℕ → Data → Bus
carry_bus r address d = move_bus r address d

-- Register r gets another type, and stays where it is. A zero register never changes.
abbrev pub retype : ℕ → ElementType → Data → Data
retype r kind d = if is_zero r then d else placed r (record (d.registers r) { kind = kind }) d

-- Every touched line goes to the backing copy, and its mark is cleared.
unfoldable pub flushed : Data → Data
flushed d = record d { touched = λ n. false; backing = record d.backing { line = λ n. if d.touched n && d.backing.canwrite n then d.memory n else d.backing.line n } }

-- Another store is handed to the machine: the backing copy is its lines. A line that a data register names keeps its bytes in memory, and its mark; memory's other lines are those that the new store gives.
unfoldable pub handed : Meaning → Data → Data
handed m d = record { registers = d.registers; memory = λ n. if named (addresses d) n then d.memory n else given m n; touched = λ n. named (addresses d) n && d.touched n; backing = m }
