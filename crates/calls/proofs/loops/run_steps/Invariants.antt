use Rattle.std.proofs.Common.{◌-◌}
use Rattle.file.specs.Machine.{stands}
use Rattle.calls.proofs.Tracing.{Ran_to}
use Rattle.calls.proofs.loops.run_steps.Given as goal

abbrev pub invariant-loop-ran : goal.invariant-loop-ran
invariant-loop-ran g l = Ran_to l.limit (stands l.fn.machine (g.S.Store.meaning l.fn.store)) (stands l.machine (g.S.Store.meaning l.store)) l.ran

abbrev pub decreases-loop-ran : goal.decreases-loop-ran
decreases-loop-ran g l = l.limit - l.ran.steps
