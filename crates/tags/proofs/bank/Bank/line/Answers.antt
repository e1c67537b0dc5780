use Rattle.std.proofs.Common.{Some, refl, sym, ap, ◌∙◌, arith, slice_index, ◌≡◌}
use Rattle.tags.specs.Meaning.{names}
use Rattle.tags.specs.Names.{names_of}
use Rattle.tags.proofs.Banks.{shown}
use Rattle.tags.proofs.Showing.{holds_line, names_line, some_same}
use Rattle.tags.proofs.bank.Bank.line.Goals as goal

pub returns-then-line-lt-LINES : goal.returns-then-line-lt-LINES
unfolding names names_of
returns-then-line-lt-LINES c = λ n.
    let h = (shown c.args.self.now).held in
    let l = holds_line n c.args.tag.number h in
    let m = names_line n c.args.tag.number h c.args.tag.inside in
    let t : c.from.result ≡ c.args.tag.number = omega (arith, c.from.ensures, c.number.ensures) in
    let e = ap (λ k. slice_index c.args.self.now.columns.lines k) t in
    (λ f. ap (λ k. Some k) (e ∙ (l f).3), λ f. let g = some_same {a = _} {b = n} refl f in m (omega (arith, g)) (sym e ∙ g))

pub returns-else-line-lt-LINES : goal.returns-else-line-lt-LINES
unfolding names names_of
returns-else-line-lt-LINES c = λ n.
    let h = (shown c.args.self.now).held in
    let l = holds_line n c.args.tag.number h in
    let t : c.from.result ≡ c.args.tag.number = omega (arith, c.from.ensures, c.number.ensures) in
    let e = ap (λ k. slice_index c.args.self.now.columns.lines k) t in
    (λ f. let g = l f in absurd (omega (arith, g.2, g.3)), λ f. absurd (cc))
