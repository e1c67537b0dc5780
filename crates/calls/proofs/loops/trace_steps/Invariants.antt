use Rattle.std.proofs.Common.{◌-◌}
use Rattle.file.specs.Machine.{stands}
use Rattle.calls.specs.Loops.{beside}
use Rattle.calls.specs.Trails.{space}
use Rattle.calls.proofs.Tracing.{Traced_to}
use Rattle.calls.proofs.loops.trace_steps.Given as goal

abbrev pub invariant-loop-ran : goal.invariant-loop-ran
invariant-loop-ran g l =
    Traced_to (beside (space l.fn.trails) l.spare) l.limit (stands l.fn.machine (g.S.Store.meaning l.fn.store)) (stands l.machine (g.S.Store.meaning l.store)) l.ran l.fn.trails l.trails

abbrev pub decreases-loop-ran : goal.decreases-loop-ran
decreases-loop-ran g l = l.limit - l.ran.steps
