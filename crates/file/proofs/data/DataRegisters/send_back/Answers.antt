use Rattle.std.proofs.Common.{◌∙◌, ap, false}
use Rattle.marks.specs.Marks.{marked, with_mark}
use Rattle.tags.specs.Meaning.{names}
use Rattle.file.specs.Data.{stands}
use Rattle.file.proofs.Sending.{sent_stands, sent_quiet}
use Rattle.file.proofs.data.DataRegisters.send_back.Goals as goal

pub invariant_of-self : goal.invariant_of-self
invariant_of-self g c =
    record { quiet = sent_quiet (names c.args.self.now.bank) _ _ _ (c.remove.ensures ∙ ap (λ x. with_mark (marked c.args.self.now.marks) x false) c.number.ensures) c.args.self.now.quiet; sized = c.args.self.now.sized; placed = c.args.self.now.placed; zeros_blank = c.args.self.now.zeros_blank }

pub returns-clause-data : goal.returns-clause-data
unfolding stands
returns-clause-data g c =
    sent_stands _ _ _ _ _ _ _ _ _ c.requires c.sound.ensures c.bytes.ensures c.send.ensures (c.remove.ensures ∙ ap (λ x. with_mark (marked c.args.self.now.marks) x false) c.number.ensures)
