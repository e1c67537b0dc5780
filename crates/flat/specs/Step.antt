-- One step.
use Rattle.std.specs.Prelude.{Bool, true, false, if◌then◌else◌, ◌&&◌, Some, None, Option}
use Rattle.word.specs.Reading.{operation}
use Rattle.word.specs.declared.operations.Operation.{Operation}
use Rattle.word.specs.declared.operations.Operation.TheVariants.{Arith as Arithmetic, AddAddress, Div, Reduce, Load, Store, Dup, Fetch, JumpNotZero, JumpZero, Hand, CopyOut, CopyIn, Swi, Reti, Retx}
use Rattle.flat.specs.Bus.{followed_by}
use Rattle.flat.specs.Machine.{Machine, word, entered, entered_bus}
use Rattle.flat.specs.Operations.{carried_out, bus_of}
use Rattle.flat.specs.Raising.{raised}
use Rattle.flat.specs.declared.bus.Bus.{Bus}
use Rattle.flat.specs.declared.control.Mode.{Mode}
use Rattle.flat.specs.declared.control.Mode.TheVariants.{User, Supervisor}
use Rattle.flat.specs.declared.exception.Exception.{Exception}
use Rattle.flat.specs.declared.exception.Exception.TheVariants.{Interrupt, Undefined, Software}
use Rattle.flat.specs.declared.exception.Stepped.{Stepped}
use Rattle.flat.specs.declared.exception.Stepped.TheVariants.{Done, Entered}

-- What a step leaves, what it answers, and what it does on the bus.
pub record AfterStep : Type 0 where
  pub machine : Machine
  pub answer : Stepped
  pub bus : Bus

-- The machine enters an exception, and does nothing more.
abbrev pub enters : Exception → Machine → AfterStep
enters x m = record { machine = entered x m; answer = Entered x; bus = entered_bus x m }

-- An operation is carried out, and nothing more.
abbrev pub done : Operation → Machine → AfterStep
done op m = record { machine = carried_out op m; answer = Done; bus = bus_of op m }

-- Swi is carried out, and then enters its exception.
abbrev pub done_and_entered : Operation → Machine → AfterStep
done_and_entered op m =
    let after = enters Software (carried_out op m) in
    record after { bus = followed_by (bus_of op m) after.bus }

-- An operation that raises no exception is carried out.
unfoldable pub does : Operation → Machine → AfterStep
does (Arithmetic op form a b c) m = done (Arithmetic op form a b c) m
does (AddAddress form a b c) m = done (AddAddress form a b c) m
does (Div form a b c d) m = done (Div form a b c d) m
does (Reduce op a b) m = done (Reduce op a b) m
does (Load kind a b i) m = done (Load kind a b i) m
does (Store kind a b i) m = done (Store kind a b i) m
does (Dup kind a b) m = done (Dup kind a b) m
does (Fetch a b i j) m = done (Fetch a b i j) m
does (JumpNotZero a b w) m = done (JumpNotZero a b w) m
does (JumpZero a b w) m = done (JumpZero a b w) m
does (Hand b w) m = done (Hand b w) m
does (CopyOut from a) m = done (CopyOut from a) m
does (CopyIn to a) m = done (CopyIn to a) m
does (Swi a b c d) m = done_and_entered (Swi a b c d) m
does Reti m = done Reti m
does Retx m = done Retx m

-- The first exception that applies, or the operation.
unfoldable pub obeyed_unless : Option Exception → Operation → Machine → AfterStep
obeyed_unless (Some x) op m = enters x m
obeyed_unless None op m = does op m

-- A word that was read: an undefined word enters its exception, an operation the first that applies.
unfoldable pub obeyed : Option Operation → Machine → AfterStep
obeyed None m = enters Undefined m
obeyed (Some op) m = obeyed_unless (raised m op) op m

-- Whether the mode is user mode.
abbrev pub is_user : Mode → Bool
is_user User = true
is_user Supervisor = false

-- In user mode with ie set and the pin up the interrupt comes before anything else.
abbrev pub interrupted : Machine → Bool
interrupted m = is_user m.control.mode && m.control.ie && m.control.pin

-- A step: the interrupt, or else the word at ipc.
unfoldable pub step : Machine → AfterStep
step m = if interrupted m then enters Interrupt m else obeyed (operation (word m)) m
