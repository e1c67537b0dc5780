use Rattle.std.proofs.Common.{◌≡◌, false, set, get_or, ◌∙◌, arith}
use Rattle.flat.specs.Registers.{is_zero}
use Rattle.tags.specs.Invariants.{no_bytes}
use Rattle.tags.specs.Meaning.{names}
use Rattle.tags.specs.Names.{names_of, tag_of}
use Rattle.tags.proofs.Banks.{shown}
use Rattle.tags.proofs.Showing.{tag_number}
use Rattle.tags.proofs.Moves.{unwritten, written_names, names_same}
use Rattle.tags.proofs.bank.Bank.write.Goals as goal

pub returns-else-not-is_zero : goal.returns-else-not-is_zero
unfolding names
returns-else-not-is_zero g c = unwritten c.args.register.number _ _ (grind (arith, c.is_zero.ensures, c.if-not-is_zero.ensures))

pub write-requires-clause-some : goal.write-requires-clause-some
unfolding names names_of
write-requires-clause-some g c =
    let real : is_zero c.args.register.number ≡ false = grind (arith, c.is_zero.ensures, c.if-not-is_zero.ensures) in
    let t = tag_number c.args.self.now.columns.bytes c.args.register.number c.tag.result.number (shown c.args.self.now) c.args.register.inside real (c.tag.ensures.real real) in
    omega (arith, t.0, c.from.ensures, c.number-tag.ensures)

pub returns-then-not-is_zero : goal.returns-then-not-is_zero
unfolding names names_of
returns-then-not-is_zero g c =
    let b = c.args.self.now in
    let r = c.args.register.number in
    let real : is_zero c.args.register.number ≡ false = grind (arith, c.is_zero.ensures, c.if-not-is_zero.ensures) in
    let t = tag_number b.columns.bytes r c.tag.result.number (shown b) c.args.register.inside real (c.tag.ensures.real real) in
    let same : c.from.result ≡ tag_of (names_of b.columns.addresses b.columns.lines b.columns.bytes) r = omega (arith, c.from.ensures, c.number-tag.ensures, t.2) in
    let bytes : c.write.new.self.bytes ≡ set b.columns.bytes (tag_of (names_of b.columns.addresses b.columns.lines b.columns.bytes) r) (g.C.Change.changed c.args.change.now (get_or b.columns.bytes (tag_of (names_of b.columns.addresses b.columns.lines b.columns.bytes) r) no_bytes)) = cc (c.write.ensures.bytes, same) in
    names_same c.write.ensures.addresses c.write.ensures.lines bytes ∙ written_names b.columns.bytes r _ (shown b) c.args.register.inside real b.columns.whole.0
