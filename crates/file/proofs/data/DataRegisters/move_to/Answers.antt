use Rattle.std.proofs.Common.{List, ◌<◌, ◌∙◌, ap, sym, subst, length}
use Rattle.std.proofs.lemmas.List.{length-set}
use Rattle.flat.specs.Data.{move_to}
use Rattle.flat.specs.declared.registers.DataRegister.{DataRegister}
use Rattle.marks.specs.Marks.{marked}
use Rattle.tags.specs.Meaning.{names}
use Rattle.file.specs.Data.{stands, sends}
use Rattle.file.proofs.Leaving.{clean, same}
use Rattle.file.proofs.Sending.{as_bus, blank_set, go_placed, go_quiet, go_stands, sends_zero, stays_zero}
use Rattle.file.specs.Standing.{Placed, ZerosBlank, data_of, known}
use Rattle.file.proofs.data.DataRegisters.move_to.Goals as goal

pub returns-then-is_zero-clause-data : goal.returns-then-is_zero-clause-data
returns-then-is_zero-clause-data g c = stays_zero _ _ _ (sym c.if-is_zero.ensures)

pub returns-then-is_zero-clause-bus : goal.returns-then-is_zero-clause-bus
returns-then-is_zero-clause-bus g c = c.quiet.ensures ∙ as_bus _ _ (sends_zero _ _ _ (sym c.if-is_zero.ensures))

pub returns-clause-bus : goal.returns-clause-bus
returns-clause-bus g c = as_bus _ _ c.leave-sent.ensures.sent

pub returns-clause-data : goal.returns-clause-data
unfolding stands
returns-clause-data g c =
    let l = c.leave-sent.ensures in
    let old = c.args.self.now in
    let new = c.leave-sent.new.self in
    let m = g.S.Store.meaning c.args.store.now in
    let q = same old new m l.bank l.registers in
    let r = c.args.register.number in
    let a = c.args.to.address in
    let long : r < length new.registers = subst (λ n. r < n) (sym new.sized) c.args.register.inside in
    ap (λ (x : List DataRegister). data_of (names c.move_to.new.self) (known x) (marked new.marks) (g.S.Store.meaning c.leave-sent.new.store)) c.put.ensures
    ∙ (go_stands (names new.bank) new.registers (marked old.marks) (marked new.marks) m (g.S.Store.meaning c.leave-sent.new.store) r c.args.to c.args.register.inside (sym c.if-is_zero.ensures) c.sound.ensures new.placed c.from-r.result (c.from-r.ensures ∙ c.number.ensures) long (names c.move_to.new.self) c.move_to.ensures (l.data ∙ ap (sends r a) q) new.quiet (clean old new m r a l.bank l.registers l.clean)
    ∙ ap (move_to r c.args.to) (sym q))

pub invariant_of-self : goal.invariant_of-self
unfolding stands
invariant_of-self g c =
    let l = c.leave-sent.ensures in
    let old = c.args.self.now in
    let new = c.leave-sent.new.self in
    let m = g.S.Store.meaning c.args.store.now in
    let store = g.S.Store.meaning c.leave-sent.new.store in
    let r = c.args.register.number in
    let a = c.args.to.address in
    let real = sym c.if-is_zero.ensures in
    let at = c.from-r.ensures ∙ c.number.ensures in
    let long : r < length new.registers = subst (λ n. r < n) (sym new.sized) c.args.register.inside in
    record {
      quiet = go_quiet (names new.bank) new.registers (marked old.marks) (marked new.marks) m store r c.args.to c.args.register.inside real c.sound.ensures new.placed c.from-r.result at long (names c.move_to.new.self) c.move_to.ensures new.quiet (clean old new m r a l.bank l.registers l.clean);
      sized = ap (λ (x : List DataRegister). length x) c.put.ensures ∙ (length-set _ _ _ ∙ new.sized);
      placed = subst (λ (x : List DataRegister). Placed (names c.move_to.new.self) x) (sym c.put.ensures) (go_placed (names new.bank) new.registers (marked old.marks) (marked new.marks) m store r c.args.to c.args.register.inside real c.sound.ensures new.placed c.from-r.result at long (names c.move_to.new.self) c.move_to.ensures);
      zeros_blank = subst (λ (x : List DataRegister). ZerosBlank x) (sym c.put.ensures) (blank_set new.registers r c.from-r.result c.args.to at real new.zeros_blank);
    }
