-- What the machine stands for on a store.
use Rattle.store.specs.Meaning.{Meaning}
use Rattle.flat.specs.Machine.{Machine as Flat}
use Rattle.file.specs.Data.{stands as data_stands}
use Rattle.file.specs.Instructions.{stands as instructions_stand}
use Rattle.file.specs.declared.machine.Machine.{Machine}

-- The data registers, the instruction registers and the rest stand each for their own.
unfoldable pub stands : Machine → Meaning → Flat
stands f m = record { data_registers = data_stands f.registers m; instructions = instructions_stand f.instructions; control = f.control }
