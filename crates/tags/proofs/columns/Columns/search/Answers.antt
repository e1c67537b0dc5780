use Rattle.std.proofs.Common.{Some, ap, ◌∙◌, sym, arith}
use Rattle.std.proofs.lemmas.Bool.{cases_eq}
use Rattle.tags.proofs.Finds.{find_none}
use Rattle.tags.proofs.Holding.{held}
use Rattle.tags.proofs.Showing.{names_line}
use Rattle.tags.proofs.columns.Columns.search.Goals as goal

pub returns-then-holder-eq0 : goal.returns-then-holder-eq0
returns-then-holder-eq0 c =
    let s = c.args.self.now in
    sym (find_none s.lines c.args.line (λ k hk small f. let seen = c.loop-tag.invariant.seen k in let n = s.no_line.0 in let l = s.sized.2 in grind (arith, cases_eq k 0)))

pub returns : goal.returns
returns c =
    ap (λ k. Some k) c.new.ensures ∙ sym (names_line c.args.line c.loop-tag.holder (held c.args.self.now) c.loop-tag.invariant.inside c.requires (c.loop-tag.invariant.holds (omega arith)))
