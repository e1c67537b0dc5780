use Rattle.std.proofs.Math.Path.{fun_ext}
use Rattle.std.proofs.Common.{◌<◌, ◌∙◌, ℕ, length, sym, subst}
use Rattle.std.proofs.lemmas.List.{length-set}
use Rattle.marks.specs.Marks.{marked}
use Rattle.tags.specs.Meaning.{names}
use Rattle.file.specs.Data.{stands}
use Rattle.file.proofs.Sending.{blank_set, retyped_placed, retypes, retypes_zero}
use Rattle.file.proofs.data.DataRegisters.retype.Goals as goal

pub returns-else-not-is_zero : goal.returns-else-not-is_zero
returns-else-not-is_zero c =
    fun_ext (λ m. retypes_zero c.args.register.number c.args.kind (stands c.args.self.now m) (sym (c.if-not-is_zero.ensures {u = tt})))

pub returns-then-not-is_zero : goal.returns-then-not-is_zero
unfolding stands
returns-then-not-is_zero c =
    let d = c.args.self.now in
    let r = c.args.register.number in
    let long : r < length d.registers = subst (λ (n : ℕ). r < n) (sym d.sized) c.args.register.inside in
    fun_ext (λ m. retypes (names d.bank) d.registers (marked d.marks) m r c.from-r.result c.args.kind (c.from-r.ensures ∙ c.number.ensures) long (sym (c.if-not-is_zero.ensures {u = tt})))

pub invariant_of-self : goal.invariant_of-self
invariant_of-self c =
    let d = c.args.self.now in
    let r = c.args.register.number in
    let at = c.from-r.ensures ∙ c.number.ensures in
    let long : r < length d.registers = subst (λ (n : ℕ). r < n) (sym d.sized) c.args.register.inside in
    record {
      quiet = d.quiet;
      sized = length-set _ _ _ ∙ d.sized;
      placed = retyped_placed (names d.bank) d.registers r c.from-r.result c.args.kind at long d.placed;
      zeros_blank = blank_set d.registers r c.from-r.result _ at (sym (c.if-not-is_zero.ensures {u = tt})) d.zeros_blank;
    }
