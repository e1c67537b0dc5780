use Rattle.std.proofs.Common.{◌≡◌, ◌/◌, ◌∙◌, slice_index, get_or, set, sym, refl, rules, arith}
use Rattle.tags.specs.Meaning.{names}
use Rattle.tags.specs.Invariants.{laid_down, no_bytes}
use Rattle.tags.proofs.Banks.{shown}
use Rattle.tags.proofs.Holding.{held}
use Rattle.tags.proofs.Showing.{Shows}
use Rattle.tags.proofs.Moves.{Ready, warm_moved}
use Rattle.tags.proofs.Carries.{move_carries, carried_at}
use Rattle.tags.proofs.bank.Bank.carry_across.Goals as goal

pub returns : goal.returns
unfolding names
returns c =
    let b = c.args.self.now.columns in
    let n = c.exchange.new.self in
    let r = c.args.r in
    let line = c.line_of in
    let t = c.tag_for-tag in
    let y : Ready b.lines (c.args.address / 128) t.result = record { some = t.ensures.some; tags = t.ensures.tags; only = λ u hu e. t.ensures.only u hu (e ∙ sym line.ensures); ready = λ n. t.ensures.ready n ∙ line.ensures } in
    let addresses : n.addresses ≡ set b.addresses r c.args.address = cc (c.exchange.ensures.addresses, c.copy.ensures.addresses) in
    let carried : n.carried ≡ set (set b.carried r 0) r t.result = cc (c.exchange.ensures.carried, c.copy.ensures.carried) in
    let lines : n.lines ≡ set (laid_down b.lines b.counts (slice_index b.carried r)) t.result (c.args.address / 128) = cc (c.exchange.ensures.lines, c.copy.ensures.lines, c.copy.ensures.counts, c.copy.ensures.carried) in
    let bytes : n.bytes ≡ set b.bytes t.result (get_or b.bytes (slice_index b.carried r) no_bytes) = cc (c.exchange.ensures.bytes, c.copy.ensures.bytes, c.from-from.ensures) in
    let within = held b in
    let after : Shows n.addresses n.carried n.lines n.counts = record { held = held n; warm = warm_moved b.carried (set b.carried r 0) n.carried r t.result refl carried (omega (arith, within.registers, c.requires.register)) t.ensures.some c.args.self.now.warm; small = n.small } in
    move_carries b.bytes n.bytes r c.args.address t.result (shown c.args.self.now) after c.requires.register c.requires.real (search rules) y b.whole.0 addresses lines (carried_at b.carried n.carried r t.result carried (omega (arith, within.registers, c.requires.register))) bytes
