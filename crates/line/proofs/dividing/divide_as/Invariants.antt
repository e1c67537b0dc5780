-- The quotients and the remainders below k are made.
use Rattle.line.specs.Elements.{element}
use Rattle.line.proofs.Rows.{Made}
use Rattle.line.proofs.dividing.divide_as.Given as goal
use Rattle.scalar.specs.Arithmetic.{quotient, remainder}

abbrev pub invariant-loop-k : goal.invariant-loop-k
invariant-loop-k l =
    Made l.kind (λ k. quotient l.kind (element l.kind l.x k) (element l.kind l.y k)) l.quotients l.k
    × Made l.kind (λ k. remainder l.kind (element l.kind l.x k) (element l.kind l.y k)) l.remainders l.k
