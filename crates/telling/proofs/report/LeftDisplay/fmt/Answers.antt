-- One entry more.
use Rattle.std.proofs.Common.{◌++◌, append_assoc, rules}
use Rattle.std.proofs.Output.{has_written_append}
use Rattle.telling.specs.Entries.{entry_text}
use Rattle.telling.proofs.report.LeftDisplay.fmt.Goals as goal

pub loop-entry-preserved : goal.loop-entry-preserved
loop-entry-preserved g c = λ plain.
    let so_far = c.loop-entry.invariant plain in
    (so_far.0 ++ entry_text c.in-Some.entry, has_written_append _ _ _ _ _ _ so_far.1 (search rules), rw (append_assoc, ← c.in-Some.ensures.text) so_far.2)
