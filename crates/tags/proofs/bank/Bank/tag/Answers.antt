use Rattle.std.proofs.Common.{Some, ap, sym, ◌∙◌, slice_index, ◌≡◌, arith}
use Rattle.tags.specs.Meaning.{names}
use Rattle.tags.specs.Names.{names_of}
use Rattle.tags.proofs.Banks.{shown}
use Rattle.tags.proofs.Showing.{named, tag_is}
use Rattle.tags.proofs.bank.Bank.tag.Goals as goal

pub returns-clause-tag : goal.returns-clause-tag
unfolding names names_of
returns-clause-tag c =
    let f : c.from.result ≡ c.args.register.number = omega (arith, c.from.ensures, c.number.ensures) in
    let e : c.new.result.number ≡ slice_index c.args.self.now.columns.carried c.args.register.number = grind (arith, c.new.ensures) in
    e ∙ sym (tag_is c.args.self.now.columns.bytes c.args.register.number (shown c.args.self.now) c.args.register.inside)

pub returns-clause-real : goal.returns-clause-real
unfolding names names_of
returns-clause-real c = λ real.
    let f : c.from.result ≡ c.args.register.number = omega (arith, c.from.ensures, c.number.ensures) in
    let e : slice_index c.args.self.now.columns.carried c.args.register.number ≡ c.new.result.number = grind (arith, c.new.ensures) in
    named c.args.register.number (shown c.args.self.now) c.args.register.inside real ∙ ap (λ k. Some k) e
