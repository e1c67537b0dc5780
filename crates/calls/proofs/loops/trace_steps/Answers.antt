use Rattle.std.proofs.Common.{sym}
use Rattle.calls.proofs.Tracing.{trace_begins, trace_turns, trace_ends, trace_breaks}
use Rattle.calls.proofs.loops.trace_steps.Goals as goal

pub loop-ran-init : goal.loop-ran-init
loop-ran-init g c = trace_begins _ _ _ _

pub returns-after-loop-ran : goal.returns-after-loop-ran
returns-after-loop-ran g c = trace_ends c.loop-ran.invariant c.loop-ran-test.false

pub loop-ran-preserved : goal.loop-ran-preserved
loop-ran-preserved g c =
    let e = c.step_recorded.ensures in
    trace_turns _ c.loop-ran.invariant c.loop-ran-test.true (sym (c.if-not-goes_on.ensures {u = tt})) e.machine e.record e.bus c.keep.ensures

pub returns-then-not-goes_on : goal.returns-then-not-goes_on
returns-then-not-goes_on g c = trace_breaks _ c.loop-ran.invariant (sym (c.if-not-goes_on.ensures {u = tt}))
