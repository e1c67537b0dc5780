use Rattle.std.proofs.Common.{◌≡◌, ◌/◌, ◌∙◌, slice_index, set, sym, rules}
use Rattle.tags.specs.Meaning.{names}
use Rattle.tags.specs.Invariants.{laid_down, filled_for}
use Rattle.tags.proofs.Banks.{shown}
use Rattle.tags.proofs.Moves.{Ready, move_goes, goes_same}
use Rattle.tags.proofs.bank.Bank.cross.Goals as goal

pub returns : goal.returns
unfolding names
returns g c =
    let b = c.args.self.now in
    let r = c.args.r in
    let line = c.line_of-line in
    let t = c.tag_for-tag in
    let y : Ready b.columns.lines (c.args.address / 128) t.result = record { some = t.ensures.some; tags = t.ensures.tags; only = λ u hu e. t.ensures.only u hu (e ∙ sym line.ensures); ready = λ n. t.ensures.ready n ∙ line.ensures } in
    let addresses : c.exchange.new.self.addresses ≡ set b.columns.addresses r c.args.address = cc (c.exchange.ensures.addresses, c.fill.ensures.addresses) in
    let lines : c.exchange.new.self.lines ≡ set (laid_down b.columns.lines b.columns.counts (slice_index b.columns.carried r)) t.result (c.args.address / 128) = cc (c.exchange.ensures.lines, c.fill.ensures.lines, c.fill.ensures.counts, c.fill.ensures.carried) in
    let bytes : c.exchange.new.self.bytes ≡ filled_for (c.args.address / 128) (g.L.Lines.given c.args.lines.now (c.args.address / 128)) t.result b.columns.lines b.columns.bytes = cc (c.exchange.ensures.bytes, c.fill.ensures.bytes, line.ensures) in
    goes_same r c.args.address _ _ addresses lines bytes (move_goes b.columns.bytes r c.args.address t.result _ (shown b) c.requires.register c.requires.real (search rules) y (search rules))
