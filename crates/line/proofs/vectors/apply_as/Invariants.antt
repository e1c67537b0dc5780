-- The elements below k are made.
use Rattle.line.specs.Elements.{element}
use Rattle.line.proofs.Rows.{Made}
use Rattle.line.proofs.vectors.apply_as.Given as goal
use Rattle.scalar.specs.Arithmetic.{applied}

abbrev pub invariant-loop-k : goal.invariant-loop-k
invariant-loop-k g l = Made l.kind (λ k. applied g.O.Operation.make l.kind (element l.kind l.x k) (element l.kind l.y k)) l.made l.k
