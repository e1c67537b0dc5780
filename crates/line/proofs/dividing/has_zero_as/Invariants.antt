-- Whether an element below k is zero.
use Rattle.std.proofs.Common.{◌≡◌, eqb, nat_abs}
use Rattle.line.specs.Dividing.{somewhere}
use Rattle.line.specs.Elements.{element}
use Rattle.line.proofs.dividing.has_zero_as.Given as goal

abbrev pub invariant-loop-k : goal.invariant-loop-k
invariant-loop-k l = l.found ≡ somewhere (λ k. eqb (nat_abs (element l.kind l.line k)) 0) l.k
