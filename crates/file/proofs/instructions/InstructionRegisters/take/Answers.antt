use Rattle.file.specs.Instructions.{stands}
use Rattle.file.proofs.Taking.{took}
use Rattle.file.proofs.instructions.InstructionRegisters.take.Goals as goal

pub returns : goal.returns
unfolding stands
returns g c = took _ _ _ _ _ c.args.register.inside c.sound.ensures c.move_to.ensures
