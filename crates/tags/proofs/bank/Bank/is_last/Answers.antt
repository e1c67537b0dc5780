use Rattle.std.proofs.Common.{arith}
use Rattle.std.proofs.lemmas.Bool.Decides.{nat_tests}
use Rattle.tags.specs.Meaning.{names}
use Rattle.tags.specs.Names.{names_of}
use Rattle.tags.proofs.Banks.{shown}
use Rattle.tags.proofs.Showing.{last_is}
use Rattle.tags.proofs.bank.Bank.is_last.Goals as goal

pub returns : goal.returns
unfolding names names_of
returns c =
    let b = c.args.self.now in
    let e = last_is b.columns.bytes c.args.register.number c.tag.result.number (shown b) c.args.register.inside c.tag.result.inside c.tag.ensures.real (λ z. grind (arith, c.tag.ensures.tag)) in
    let f = c.count.ensures in
    grind (arith, nat_tests)
