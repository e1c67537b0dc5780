-- The words of the other calls did not stand in front of a number.
use Rattle.std.proofs.Common.{arith}
use Rattle.script.proofs.Numbered.{left}
use Rattle.script.proofs.calls.numbered.Goals as goal

pub returns : goal.returns
returns c =
    left c.args.line.now c.trace_of.result
    (λ n h same. let found = c.in_default.ensures.found n (omega arith) same in cc)
    (λ n h same. let found = c.in_default-number_after.ensures.found n (omega arith) same in cc)
    (λ n h same. let found = c.in_default-number_after-2.ensures.found n (omega arith) same in cc)
    c.trace_of.ensures
