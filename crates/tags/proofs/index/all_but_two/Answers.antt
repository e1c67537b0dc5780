use Rattle.std.proofs.Common.{rules}
use Rattle.tags.proofs.Buckets.{marked_more}
use Rattle.tags.proofs.index.all_but_two.Goals as goal

pub loop-tag-preserved : goal.loop-tag-preserved
loop-tag-preserved c = λ t h. marked_more _ _ c.loop-tag.tag t c.insert.ensures (search rules) (search rules) (c.loop-tag.invariant t h)
