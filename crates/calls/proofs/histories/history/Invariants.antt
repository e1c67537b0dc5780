use Rattle.calls.proofs.Feeding.{Reached}
use Rattle.calls.proofs.histories.history.Given as goal

-- The calls so far were made.
abbrev pub invariant-loop-i : goal.invariant-loop-i
invariant-loop-i g l = Reached l.calls l.i (g.S.Store.meaning l.initial.store) l.initial.answers l.answers l.initial.trails l.trails l.file (g.S.Store.meaning l.store)
