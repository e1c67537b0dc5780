use Rattle.std.proofs.Common.{sym}
use Rattle.calls.proofs.Tracing.{run_begins, run_turns, run_ends, run_breaks}
use Rattle.calls.proofs.loops.run_steps.Goals as goal

pub loop-ran-init : goal.loop-ran-init
loop-ran-init g c = run_begins c.args.limit _

pub loop-ran-preserved : goal.loop-ran-preserved
loop-ran-preserved g c =
    let e = c.step-answer.ensures in
    run_turns _ _ _ _ _ _ c.loop-ran.invariant c.loop-ran-test.true (sym (c.if-has_entered.ensures {u = tt})) e.0 e.1

pub returns-after-loop-ran-clause-machine : goal.returns-after-loop-ran-clause-machine
returns-after-loop-ran-clause-machine g c = (run_ends _ _ _ _ c.loop-ran.invariant c.loop-ran-test.false).0

pub returns-after-loop-ran-clause-ran : goal.returns-after-loop-ran-clause-ran
returns-after-loop-ran-clause-ran g c = (run_ends _ _ _ _ c.loop-ran.invariant c.loop-ran-test.false).1

pub returns-then-has_entered-clause-machine : goal.returns-then-has_entered-clause-machine
returns-then-has_entered-clause-machine g c = (run_breaks _ _ _ _ c.loop-ran.invariant (sym (c.if-has_entered.ensures {u = tt}))).0

pub returns-then-has_entered-clause-ran : goal.returns-then-has_entered-clause-ran
returns-then-has_entered-clause-ran g c = (run_breaks _ _ _ _ c.loop-ran.invariant (sym (c.if-has_entered.ensures {u = tt}))).1
