use Rattle.std.proofs.Common.{length, [], ap, ◌∙◌, arith}
use Rattle.std.proofs.lemmas.List.{get_or_default}
use Rattle.tags.specs.Invariants.{no_bytes}
use Rattle.tags.proofs.Copies.{whole-set}
use Rattle.tags.proofs.columns.Columns.write.Goals as goal

pub invariant_of-self-clause-whole : goal.invariant_of-self-clause-whole
invariant_of-self-clause-whole g c =
    let s = c.args.self.now in
    whole-set s.bytes c.args.tag _ c.requires.tags (ap length c.change.ensures ∙ g.met.C.Change.whole c.args.change.now _ (ap length (get_or_default s.bytes c.args.tag [] no_bytes (omega (arith, s.whole.0, c.requires.tags))) ∙ s.whole.1 c.args.tag c.requires.tags)) s.whole
