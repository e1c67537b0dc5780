-- Nothing is printed where there is no line left, or no answer for its call.
use Rattle.telling.proofs.Reporting.{ended, no_answer}
use Rattle.telling.proofs.report.next.Goals as goal

pub returns-in_default-clause-text : goal.returns-in_default-clause-text
returns-in_default-clause-text c = ended c.args.left.script.now c.args.left.answers.now c.args.left.steps.now c.args.left.lines.now c.in_default.ensures.cases

pub returns-in_default-split_first-clause-text : goal.returns-in_default-split_first-clause-text
returns-in_default-split_first-clause-text c =
    let same = rw c.in-Some-call.is at c.in-Some.ensures.cases.0 in
    no_answer c.args.left.script.now c.in-Some.script.now c.in-Some-call.call c.args.left.answers.now c.args.left.steps.now c.args.left.lines.now same c.in_default-split_first.ensures.cases
