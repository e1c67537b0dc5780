-- The elements below k are made.
use Rattle.std.proofs.Common.{pos}
use Rattle.line.specs.Elements.{element}
use Rattle.line.proofs.Rows.{Made}
use Rattle.line.proofs.vectors.add_address_as.Given as goal
use Rattle.scalar.specs.Arithmetic.{computed}
use Rattle.word.specs.declared.opcodes.Arith.TheVariants.{Add}

abbrev pub invariant-loop-k : goal.invariant-loop-k
invariant-loop-k l = Made l.kind (λ k. computed Add l.kind (pos l.address) (element l.kind l.y k)) l.made l.k
