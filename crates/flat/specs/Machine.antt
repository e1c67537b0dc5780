-- The machine, and entering an exception.
use Rattle.std.specs.Prelude.{ℕ, ◌%◌, ◌^◌, Bool, not, ◌&&◌, ◌==◌}
use Rattle.word.specs.Lines.{little_endian}
use Rattle.flat.specs.Bus.{quiet}
use Rattle.flat.specs.Data.{Data}
use Rattle.flat.specs.Exceptions.{exception_number}
use Rattle.flat.specs.Instructions.{Instruction, take}
use Rattle.flat.specs.Registers.{of_mode, offset_of}
use Rattle.flat.specs.declared.bus.Bus.{Bus}
use Rattle.flat.specs.declared.control.Control.{Control}
use Rattle.flat.specs.declared.control.Mode.TheVariants.{Supervisor}
use Rattle.flat.specs.declared.exception.Exception.{Exception}

-- The data registers with their memory, the instruction registers, and the mode, ie, xct, the swiargs and the pin.
pub record Machine : Type 0 where
  pub data_registers : Data
  pub instructions : ℕ → Instruction
  pub control : Control

-- The machine with other data registers and memory.
abbrev pub with_data : Data → Machine → Machine
with_data d m = record m { data_registers = d }

-- With another control.
abbrev pub with_control : Control → Machine → Machine
with_control c m = record m { control = c }

-- Instruction register r goes to an address and takes its line.
abbrev pub take_line : ℕ → ℕ → Machine → Machine
take_line r address m = record m { instructions = take r address m.data_registers.memory m.instructions }

-- What that does on the bus: nothing is sent.
unfoldable pub take_bus : ℕ → ℕ → Machine → Bus
take_bus r address m = quiet

-- ipc is instruction register 63 of the mode.
abbrev pub ipc : Machine → ℕ
ipc m = of_mode m.control.mode 63

-- Its address.
abbrev pub ipc_address : Machine → ℕ
ipc_address m = (m.instructions (ipc m)).address

-- The word at ipc is one of the words that ipc took.
abbrev pub word : Machine → ℕ
word m = little_endian (m.instructions (ipc m)).bytes (offset_of (ipc_address m))

-- Addresses count modulo 2^32.
abbrev pub wrapped : ℕ → ℕ
wrapped address = address % 2 ^ 32

-- An exception is the interrupt.
abbrev pub is_interrupt : Exception → Bool
is_interrupt x = exception_number x == 0

-- Entering an exception sets xct to its number and the mode to supervisor; entering the interrupt also clears ie.
abbrev pub entered_control : Exception → Control → Control
entered_control x c = record c { mode = Supervisor; ie = c.ie && not (is_interrupt x); xct = exception_number x }

-- The supervisor's ipc goes to address 0, and so takes line 0.
unfoldable pub entered : Exception → Machine → Machine
entered x m = take_line (of_mode Supervisor 63) 0 (with_control (entered_control x m.control) m)

-- What entering does on the bus.
abbrev pub entered_bus : Exception → Machine → Bus
entered_bus x m = take_bus (of_mode Supervisor 63) 0 (with_control (entered_control x m.control) m)
