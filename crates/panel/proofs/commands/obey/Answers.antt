-- A refused call is answered as it was refused.
use Rattle.std.proofs.Common.{◌≡◌, ◌∙◌, sym, Some, rules}
use Rattle.panel.specs.Commands.{call_of}
use Rattle.panel.proofs.Obeying.{refused_of}
use Rattle.panel.proofs.commands.obey.Goals as goal

pub returns-in_err-call-clause-answer : goal.returns-in_err-call-clause-answer
returns-in_err-call-clause-answer g c =
    let same : call_of c.args.command ≡ Some c.in-Some.call = cc in
    rw (refused_of c.args.command c.in-Some.call _ _ c.in_err-call.field-0.0 same (sym c.call.ensures.made.0 ∙ c.in_err-call.was)) (search rules)
