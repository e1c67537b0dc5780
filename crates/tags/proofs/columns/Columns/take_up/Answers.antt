use Rattle.std.proofs.Common.{ℕ, ◌+◌, ◌==◌, slice_index, set, refl, subst, sym, ◌∙◌, rules, arith}
use Rattle.tags.specs.Invariants.{free}
use Rattle.tags.proofs.Buckets.{indexed_taken}
use Rattle.tags.proofs.Holding.{Holds, held}
use Rattle.tags.proofs.Steps.{taken, small-set}
use Rattle.tags.proofs.columns.Columns.take_up.Goals as goal

pub invariant_of-self : goal.invariant_of-self
invariant_of-self c =
    let s = c.args.self.now in
    let r = c.requires in
    let h = held s in
    let line = c.line_of-line in
    let k = subst (λ (n : ℕ). Holds (set s.addresses c.args.r c.args.address) (set s.carried c.args.r c.args.tag) (set s.lines c.args.tag n) (set s.counts c.args.tag (slice_index s.counts c.args.tag + 1))) (sym line.ensures) (taken c.args.r c.args.tag c.args.address h r.register r.real r.some r.bare r.tags (search rules) s.small r.only r.ready) in
    record { sized = (k.addressed, search rules, search rules, search rules); small = small-set s.addresses c.args.r c.args.address (omega (arith, h.addressed)) (search rules) s.small; whole = s.whole; no_tag = k.no_tag; no_line = (k.nameless, grind (arith, k.uncounted), s.no_line.2); linked = k.linked; counted = λ u pu hu. grind (arith, k.counted u pu hu); free = λ u pu hu none. grind (arith, k.free u pu hu); apart = k.apart; indexed = indexed_taken s.index c.take.new.self s.lines c.args.tag line.result (slice_index s.lines c.args.tag == free) (search rules) (search rules) refl s.indexed (omega (arith, h.named)) (λ n. r.ready n ∙ sym line.ensures) (search rules) }
