use Rattle.std.proofs.Common.{◌≡◌, arith}
use Rattle.tags.specs.Meaning.{names}
use Rattle.tags.proofs.Banks.{shown}
use Rattle.tags.proofs.Showing.{count_is}
use Rattle.tags.proofs.bank.Bank.count.Goals as goal

pub returns : goal.returns
unfolding names
returns c =
    let e = count_is c.args.self.now.columns.bytes c.args.tag.number (shown c.args.self.now) c.args.tag.inside in
    let f : c.from.result ≡ c.args.tag.number = omega (arith, c.from.ensures, c.number.ensures) in
    grind arith
