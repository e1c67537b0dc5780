-- One row more.
use Rattle.std.proofs.Common.{rules}
use Rattle.std.proofs.Output.{has_written_append}
use Rattle.telling.proofs.Parts.{one_more}
use Rattle.telling.proofs.rows.WordRowsDisplay.fmt.Goals as goal

pub loop-k-preserved : goal.loop-k-preserved
loop-k-preserved g c = λ plain. rw one_more (has_written_append _ _ _ _ _ _ (c.loop-k.invariant plain) (search rules))
