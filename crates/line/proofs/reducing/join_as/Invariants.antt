-- The elements below k are joined.
use Rattle.std.proofs.Common.{◌≡◌, pos}
use Rattle.line.specs.Elements.{element}
use Rattle.line.specs.Reductions.{gathered}
use Rattle.line.proofs.reducing.join_as.Given as goal
use Rattle.scalar.specs.Casts.{cast}

abbrev pub invariant-loop-k : goal.invariant-loop-k
invariant-loop-k g l = cast l.to (pos l.all) ≡ gathered g.O.Operation.make l.to (element l.from l.line) (cast l.to (pos l.first)) l.k
