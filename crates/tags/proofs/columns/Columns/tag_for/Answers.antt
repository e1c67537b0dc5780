use Rattle.std.proofs.Common.{option_map, slice_index, ap, ◌∙◌, sym, arith}
use Rattle.tags.specs.Numbers.{number}
use Rattle.tags.proofs.Holding.{held}
use Rattle.tags.proofs.Finds.{not_found}
use Rattle.tags.proofs.Showing.{holds_line, names_line, some_same}
use Rattle.tags.proofs.columns.Columns.tag_for.Goals as goal

pub returns-in-Some-clause-some : goal.returns-in-Some-clause-some
returns-in-Some-clause-some c =
    let h = holds_line c.args.line c.in-Some.tag.number (held c.args.self.now) (sym c.holder.ensures ∙ ap (option_map number) c.in-Some.is) in
    omega (arith, h.0, c.from.ensures, c.number.ensures)

pub returns-in-Some-clause-only : goal.returns-in-Some-clause-only
returns-in-Some-clause-only c = λ u hu e.
    some_same (names_line c.args.line u (held c.args.self.now) hu c.requires e) (sym c.holder.ensures ∙ ap (option_map number) c.in-Some.is)
    ∙ sym (c.from.ensures ∙ c.number.ensures)

pub returns-in-Some-clause-ready : goal.returns-in-Some-clause-ready
returns-in-Some-clause-ready c = λ n.
    let h = holds_line c.args.line c.in-Some.tag.number (held c.args.self.now) (sym c.holder.ensures ∙ ap (option_map number) c.in-Some.is) in
    ap (λ k. slice_index c.args.self.now.lines k) (c.from.ensures ∙ c.number.ensures) ∙ h.3

pub returns-in-None-clause-only : goal.returns-in-None-clause-only
returns-in-None-clause-only c = λ u hu e.
    let h = held c.args.self.now in
    absurd (not_found c.args.self.now.lines c.args.line c.requires (sym c.holder.ensures ∙ ap (option_map number) c.in-None.is) u (omega (arith, h.named)) e)
