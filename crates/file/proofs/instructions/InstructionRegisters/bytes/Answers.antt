use Rattle.std.proofs.Common.{◌∙◌}
use Rattle.file.specs.Instructions.{stands}
use Rattle.file.proofs.Taking.{words_are}
use Rattle.file.proofs.instructions.InstructionRegisters.bytes.Goals as goal

pub returns : goal.returns
unfolding stands
returns c = c.bytes.ensures ∙ words_are _ _ _ c.args.register.inside c.sound.ensures c.tag.ensures.tag
