use Rattle.std.proofs.Common.{rules}
use Rattle.tags.proofs.Buckets.{first_free}
use Rattle.tags.proofs.Holding.{held}
use Rattle.tags.proofs.Steps.{some_free}
use Rattle.tags.proofs.columns.Columns.first_free.Goals as goal

pub unwrap-requires : goal.unwrap-requires
unwrap-requires c =
    let s = c.args.self.now in
    let f = first_free s.index s.lines c.first_free.result c.first_free.ensures s.indexed (some_free (held s)) in
    search rules
