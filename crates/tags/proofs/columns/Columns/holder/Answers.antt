use Rattle.std.proofs.Common.{slice_index, ap, ◌∙◌, sym, arith}
use Rattle.std.proofs.lemmas.Bool.Decides.{nat_tests}
use Rattle.tags.proofs.Buckets.{held_none}
use Rattle.tags.proofs.Finds.{find_none}
use Rattle.tags.proofs.Holding.{held}
use Rattle.tags.proofs.Showing.{names_line}
use Rattle.tags.proofs.columns.Columns.holder.Goals as goal

pub returns-then-line-ge-LINES : goal.returns-then-line-ge-LINES
returns-then-line-ge-LINES c =
    sym (find_none c.args.self.now.lines c.args.line (λ k hk small. absurd (omega arith)))

pub returns-then-is_empty : goal.returns-then-is_empty
returns-then-is_empty c =
    let s = c.args.self.now in
    sym (find_none s.lines c.args.line (λ k hk small. held_none s.index.held s.lines c.args.line k s.indexed.0 (grind (arith, nat_tests, c.is_empty.ensures, c.if-is_empty.true)) small hk))

pub returns-then-self-from : goal.returns-then-self-from
returns-then-self-from c =
    let s = c.args.self.now in
    let t = c.guess-guess.result.number in
    let e = ap (λ k. slice_index s.lines k) (sym (c.from.ensures ∙ c.number.ensures)) ∙ c.if-self-from.true in
    sym (names_line c.args.line t (held s) c.guess-guess.result.inside (omega arith) e)
