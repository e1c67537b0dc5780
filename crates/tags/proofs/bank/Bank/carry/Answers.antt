use Rattle.std.proofs.Common.{◌≡◌, ◌/◌, false, slice_index, set, sym, ap, ◌∙◌, subst, arith}
use Rattle.flat.specs.Registers.{is_zero}
use Rattle.tags.specs.Meaning.{names}
use Rattle.tags.specs.Names.{Carries, names_of}
use Rattle.tags.proofs.Banks.{shown}
use Rattle.tags.proofs.Carries.{carries_zero, stay_carries, carries_same}
use Rattle.tags.proofs.bank.Bank.carry.Goals as goal

pub returns-then-is_zero : goal.returns-then-is_zero
unfolding names
returns-then-is_zero c = carries_zero c.args.register.number c.args.address _ (sym c.is_zero.ensures ∙ c.if-is_zero.true)

pub returns-then-line_of : goal.returns-then-line_of
unfolding names
returns-then-line_of c =
    let b = c.args.self.now in
    let r = c.args.register.number in
    let real : is_zero r ≡ false = sym c.is_zero.ensures ∙ c.if-is_zero.false in
    let same : c.from-r.result ≡ r = omega (arith, c.from-r.ensures, c.number.ensures) in
    let addresses : c.stay.new.self.addresses ≡ set b.columns.addresses r c.args.address = cc (c.stay.ensures.addresses, same) in
    let line : c.args.address / 128 ≡ slice_index b.columns.addresses r / 128 = omega (arith, c.line_of.ensures, c.line_of-2.ensures, c.if-line_of.true, ap (λ k. slice_index b.columns.addresses k) same) in
    carries_same r c.args.address (names_of b.columns.addresses b.columns.lines b.columns.bytes) addresses c.stay.ensures.lines c.stay.ensures.bytes (stay_carries b.columns.bytes r c.args.address (shown b) c.args.register.inside real line)

pub returns-else-line_of : goal.returns-else-line_of
returns-else-line_of c =
    let same : c.from-r.result ≡ c.args.register.number = omega (arith, c.from-r.ensures, c.number.ensures) in
    subst (λ r. Carries r c.args.address (names c.args.self.now) (names c.carry_across.new.self)) same c.carry_across.ensures
