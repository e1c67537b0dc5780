use Rattle.std.proofs.Common.{◌≡◌, ◌/◌, false, true, slice_index, set, sym, ap, ◌∙◌, subst, rules, arith}
use Rattle.flat.specs.Registers.{is_zero}
use Rattle.tags.specs.Meaning.{names}
use Rattle.tags.specs.Names.{Goes}
use Rattle.tags.proofs.Banks.{shown}
use Rattle.tags.proofs.Moves.{gone_zero, stay_goes, goes_same}
use Rattle.tags.proofs.bank.Bank.move_to.Goals as goal

pub returns-then-is_zero : goal.returns-then-is_zero
unfolding names
returns-then-is_zero g c =
    let z : is_zero c.args.register.number ≡ true = sym c.is_zero.ensures ∙ c.if-is_zero.true in
    (0, λ real _. absurd (search rules), gone_zero c.args.register.number c.args.address 0 _ _ z)

pub returns-then-line_of : goal.returns-then-line_of
unfolding names
returns-then-line_of g c =
    let b = c.args.self.now in
    let r = c.args.register.number in
    let real : is_zero r ≡ false = sym c.is_zero.ensures ∙ c.if-is_zero.false in
    let same : c.from-r.result ≡ r = omega (arith, c.from-r.ensures, c.number.ensures) in
    let addresses : c.stay.new.self.addresses ≡ set b.columns.addresses r c.args.address = cc (c.stay.ensures.addresses, same) in
    let line : c.args.address / 128 ≡ slice_index b.columns.addresses r / 128 = omega (arith, c.line_of.ensures, c.line_of-2.ensures, c.if-line_of.true, ap (λ k. slice_index b.columns.addresses k) same) in
    goes_same r c.args.address _ _ addresses c.stay.ensures.lines c.stay.ensures.bytes (stay_goes b.columns.bytes r c.args.address _ (shown b) c.args.register.inside real line)

pub returns-else-line_of : goal.returns-else-line_of
returns-else-line_of g c =
    let same : c.from-r.result ≡ c.args.register.number = omega (arith, c.from-r.ensures, c.number.ensures) in
    subst (λ r. Goes r c.args.address (g.L.Lines.given c.args.lines.now (c.args.address / 128)) (names c.args.self.now) (names c.cross.new.self)) same c.cross.ensures
