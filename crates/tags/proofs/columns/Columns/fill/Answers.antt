use Rattle.std.proofs.Common.{length, ap, ◌∙◌, rules}
use Rattle.tags.proofs.Copies.{whole-set}
use Rattle.tags.proofs.columns.Columns.fill.Goals as goal

pub invariant_of-self-clause-whole : goal.invariant_of-self-clause-whole
invariant_of-self-clause-whole g c = whole-set c.args.self.now.bytes c.args.tag _ (search rules) (ap length c.give.ensures ∙ g.met.L.Lines.whole c.args.lines.now c.args.line) c.args.self.now.whole
