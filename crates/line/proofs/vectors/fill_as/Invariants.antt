-- The elements below k are filled with z.
use Rattle.line.proofs.Rows.{Made}
use Rattle.line.proofs.vectors.fill_as.Given as goal

abbrev pub invariant-loop-k : goal.invariant-loop-k
invariant-loop-k l = Made l.kind (λ k. l.z) l.out l.k
