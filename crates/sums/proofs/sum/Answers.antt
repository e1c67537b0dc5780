use Rattle.std.proofs.Common.{◌≡◌, pos, refl, ap, ◌∙◌}
use mir.Syntax.{w128}
use Rattle.word.specs.declared.element.ElementType.TheVariants.{U8, U16}
use Rattle.line.specs.Elements.{number, bytes, element}
use Rattle.line.specs.Reductions.{over, reduced}
use Rattle.line.specs.Vectors.{row, filled}
use Rattle.scalar.specs.Casts.{cast, read_bits, residue}
use Rattle.std.proofs.lemmas.Int.{to_z-of_z}
use Rattle.sums.proofs.sum.Goals as goal
use Rattle.word.specs.declared.opcodes.Reduction.TheVariants.{Add}

-- the definitions, computed
fives : reduced Add U8 U16 (filled U16 (pos 5)) ≡ pos 64
unfolding cast read_bits residue number bytes element over row
fives = refl

pub returns : goal.returns
returns c = to_z-of_z w128 c.reduce.result record { sfits = c.reduce.type_inv } ∙ c.reduce.ensures ∙ ap (reduced Add U8 U16) c.fill.ensures ∙ fives
