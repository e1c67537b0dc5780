use Rattle.std.proofs.Common.{ℕ, ◌∙◌, ap, sym, Some, arith}
use Rattle.marks.specs.Marks.{marked}
use Rattle.tags.specs.Meaning.{names}
use Rattle.flat.specs.Data.{sent_back}
use Rattle.flat.specs.Registers.{line_of}
use Rattle.file.specs.Data.{stands}
use Rattle.file.specs.Standing.{known}
use Rattle.file.proofs.Sending.{stays, stays_none, stays_clean, sends_line, sends_some, removed}
use Rattle.file.proofs.data.DataRegisters.leave.Goals as goal

pub returns-then-not-sends-clause-data : goal.returns-then-not-sends-clause-data
unfolding stands
returns-then-not-sends-clause-data g c = stays _ _ _ _ c.args.self.now.placed _ _ (c.sound.ensures.linked _ c.args.register.inside c.requires) (grind (arith, c.if-not-sends.ensures))

pub returns-then-not-sends-clause-sent : goal.returns-then-not-sends-clause-sent
unfolding stands
returns-then-not-sends-clause-sent g c = stays_none _ _ _ _ c.args.self.now.placed _ _ (c.sound.ensures.linked _ c.args.register.inside c.requires) (grind (arith, c.if-not-sends.ensures))

pub returns-then-not-sends-clause-clean : goal.returns-then-not-sends-clause-clean
unfolding stands
returns-then-not-sends-clause-clean g c = stays_clean (names c.args.self.now.bank) (known c.args.self.now.registers) (marked c.args.self.now.marks) (g.S.Store.meaning c.args.store.now) c.args.self.now.placed c.args.register.number c.args.address (c.sound.ensures.linked _ c.args.register.inside c.requires) (grind (arith, c.if-not-sends.ensures))

pub returns-clause-data : goal.returns-clause-data
unfolding stands
returns-clause-data g c =
    c.send_back.ensures.data
    ∙ (ap (λ (n : ℕ). sent_back n (stands c.args.self.now (g.S.Store.meaning c.args.store.now))) (c.line_of-line.ensures ∙ ap line_of c.address.ensures)
    ∙ sym (sends_line _ _ _ _ c.args.self.now.placed _ _ (c.sound.ensures.linked _ c.args.register.inside c.requires) (grind (arith, c.if-not-sends.ensures))))

pub returns-clause-sent : goal.returns-clause-sent
unfolding stands
returns-clause-sent g c =
    ap (λ (n : ℕ). Some n) (c.line_of-line.ensures ∙ ap line_of c.address.ensures)
    ∙ sym (sends_some _ _ _ _ c.args.self.now.placed _ _ (c.sound.ensures.linked _ c.args.register.inside c.requires) (grind (arith, c.if-not-sends.ensures)))

pub returns-clause-clean : goal.returns-clause-clean
returns-clause-clean g c h = removed _ _ _ _ c.send_back.ensures.marks c.tag-tag.ensures.tag
