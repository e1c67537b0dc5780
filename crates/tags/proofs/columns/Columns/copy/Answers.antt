use Rattle.std.proofs.Common.{◌∙◌, rules}
use Rattle.tags.specs.Invariants.{no_bytes}
use Rattle.tags.proofs.Copies.{copied_one}
use Rattle.tags.proofs.columns.Columns.copy.Goals as goal

pub returns-clause-bytes : goal.returns-clause-bytes
returns-clause-bytes c =
    c.copy_within.ensures.after ∙ copied_one c.args.self.now.bytes c.args.from c.args.to no_bytes (search rules) (search rules)
