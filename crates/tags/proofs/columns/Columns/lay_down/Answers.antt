use Rattle.std.proofs.Common.{rules, arith}
use Rattle.tags.proofs.Buckets.{indexed_less}
use Rattle.tags.proofs.Holding.{held}
use Rattle.tags.proofs.Steps.{laid_kept, laid_free}
use Rattle.tags.proofs.columns.Columns.lay_down.Goals as goal

pub invariant_of-self : goal.invariant_of-self
invariant_of-self c =
    let s = c.args.self.now in
    let h = held s in
    let n = h.counted c.from-tag.result (search rules) (search rules) in
    let k = laid_free c.args.r c.from-tag.result h c.requires.register c.requires.real (search rules) (search rules) (search rules) (search rules) in
    record { sized = (k.addressed, search rules, search rules, search rules); small = s.small; whole = s.whole; no_tag = k.no_tag; no_line = (k.nameless, grind (arith, k.uncounted), s.no_line.2); linked = k.linked; counted = λ u pu hu. grind (arith, k.counted u pu hu); free = λ u pu hu none. grind (arith, k.free u pu hu); apart = k.apart; indexed = indexed_less s.index c.remove.new.self s.lines c.from-tag.result _ c.remove.ensures.held (search rules) s.indexed (search rules) (search rules) (search rules) }

pub invariant_of-self-else-left-eq0 : goal.invariant_of-self-else-left-eq0
invariant_of-self-else-left-eq0 c =
    let s = c.args.self.now in
    let h = held s in
    let k = laid_kept c.args.r c.from-tag.result h c.requires.register c.requires.real (search rules) (search rules) (search rules) (search rules) in
    record { sized = (k.addressed, search rules, search rules, search rules); small = s.small; whole = s.whole; no_tag = k.no_tag; no_line = (k.nameless, grind (arith, k.uncounted), s.no_line.2); linked = k.linked; counted = λ u pu hu. grind (arith, k.counted u pu hu); free = λ u pu hu none. grind (arith, k.free u pu hu); apart = k.apart; indexed = s.indexed }
