use Rattle.std.proofs.Common.{List, ◌<◌, ◌∙◌, ℕ, ap, length, sym, subst}
use Rattle.std.proofs.lemmas.List.{length-set}
use Rattle.flat.specs.Data.{copied, move_to}
use Rattle.flat.specs.declared.registers.DataRegister.{DataRegister}
use Rattle.marks.specs.Marks.{marked}
use Rattle.tags.specs.Meaning.{names}
use Rattle.file.specs.Data.{sends, stands}
use Rattle.file.proofs.Carrying.{carried_zero, carry_placed, carry_quiet, carry_stands}
use Rattle.file.proofs.Leaving.{clean, same}
use Rattle.file.proofs.Sending.{as_bus, blank_set, sends_zero}
use Rattle.file.specs.Standing.{Placed, ZerosBlank, data_of, known}
use Rattle.file.proofs.data.DataRegisters.carry.Goals as goal

pub returns-then-is_zero-clause-data : goal.returns-then-is_zero-clause-data
returns-then-is_zero-clause-data g c = carried_zero _ _ _ (sym c.if-is_zero.ensures)

pub returns-then-is_zero-clause-bus : goal.returns-then-is_zero-clause-bus
returns-then-is_zero-clause-bus g c = c.quiet.ensures ∙ as_bus _ _ (sends_zero _ _ _ (sym c.if-is_zero.ensures))

pub returns-clause-bus : goal.returns-clause-bus
returns-clause-bus g c = as_bus _ _ c.leave-sent.ensures.sent

pub returns-clause-data : goal.returns-clause-data
unfolding stands
returns-clause-data g c =
    let l = c.leave-sent.ensures in
    let old = c.args.self.now in
    let new = c.leave-sent.new.self in
    let m = g.S.Store.meaning c.args.store.now in
    let q = same old new m l.bank l.registers in
    let r = c.args.register.number in
    let a = c.args.to.address in
    let long : r < length new.registers = subst (λ (n : ℕ). r < n) (sym new.sized) c.args.register.inside in
    ap (λ (x : List DataRegister). data_of (names c.carry.new.self) (known x) (marked c.insert.new.self) (g.S.Store.meaning c.leave-sent.new.store)) c.put.ensures
    ∙ (carry_stands (names new.bank) (names c.carry.new.self) new.registers (marked old.marks) (marked new.marks) (marked c.insert.new.self) m (g.S.Store.meaning c.leave-sent.new.store) r c.args.to c.args.register.inside (sym c.if-is_zero.ensures) c.sound.ensures new.placed c.from-r.result (c.from-r.ensures ∙ c.number.ensures) long c.carry.ensures c.sound-2.ensures c.number-tag.result (c.number-tag.ensures ∙ c.tag.ensures.tag) new.quiet (clean old new m r a l.bank l.registers l.clean) c.insert.ensures (l.data ∙ ap (sends r a) q)
    ∙ ap (λ d. move_to r c.args.to (copied r a d)) (sym q))

pub invariant_of-self : goal.invariant_of-self
unfolding stands
invariant_of-self g c =
    let l = c.leave-sent.ensures in
    let old = c.args.self.now in
    let new = c.leave-sent.new.self in
    let m = g.S.Store.meaning c.args.store.now in
    let store = g.S.Store.meaning c.leave-sent.new.store in
    let r = c.args.register.number in
    let real = sym c.if-is_zero.ensures in
    let at = c.from-r.ensures ∙ c.number.ensures in
    let tag = c.number-tag.ensures ∙ c.tag.ensures.tag in
    let long : r < length new.registers = subst (λ (n : ℕ). r < n) (sym new.sized) c.args.register.inside in
    record {
      quiet = carry_quiet (names new.bank) (names c.carry.new.self) new.registers (marked old.marks) (marked new.marks) (marked c.insert.new.self) m store r c.args.to c.args.register.inside real c.sound.ensures new.placed c.from-r.result at long c.carry.ensures c.sound-2.ensures c.number-tag.result tag new.quiet (clean old new m r c.args.to.address l.bank l.registers l.clean) c.insert.ensures;
      sized = ap (λ (x : List DataRegister). length x) c.put.ensures ∙ (length-set _ _ _ ∙ new.sized);
      placed = subst (λ (x : List DataRegister). Placed (names c.carry.new.self) x) (sym c.put.ensures) (carry_placed (names new.bank) (names c.carry.new.self) new.registers (marked old.marks) (marked new.marks) (marked c.insert.new.self) m store r c.args.to c.args.register.inside real c.sound.ensures new.placed c.from-r.result at long c.carry.ensures c.sound-2.ensures c.number-tag.result tag);
      zeros_blank = subst (λ (x : List DataRegister). ZerosBlank x) (sym c.put.ensures) (blank_set new.registers r c.from-r.result c.args.to at real new.zeros_blank);
    }
