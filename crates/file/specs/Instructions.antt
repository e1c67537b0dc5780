-- What the instruction registers of a file stand for.
use Rattle.std.specs.Prelude.{ℕ}
use Rattle.flat.specs.Instructions.{Instruction}
use Rattle.tags.specs.Meaning.{names}
use Rattle.file.specs.Standing.{instructions_of}
use Rattle.file.specs.declared.instructions.InstructionRegisters.{InstructionRegisters}

-- By the names of the bank.
unfoldable pub stands : InstructionRegisters → ℕ → Instruction
stands i = instructions_of (names i.bank)
