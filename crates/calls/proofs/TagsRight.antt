-- Tags and counts are right in every file.
use Rattle.std.proofs.Common.{◌≡◌, ◌≢◌, ℕ, ◌<◌, false, ap, sym, ◌∙◌, arith}
use Rattle.flat.specs.Registers.{is_zero}
use Rattle.tags.specs.Invariants.{free}
use Rattle.tags.specs.declared.bank.Bank.{Bank}
use Rattle.calls.specs.Law.{AllTagsRight, TagsRight, held, line, tag}
use Rattle.calls.specs.declared.files.File.{File}
use Rattle.calls.specs.declared.files.File.TheVariants.{Cold, Warm}

module _ (b : Bank) where
  -- a register carries the tag of its line
  carries : (r : ℕ) → r < 128 → is_zero r ≡ false → (0 < tag b r) × (tag b r < 128) × (held b (tag b r) ≡ line b r)
  carries r small real =
      let some = b.warm r small real in
      let l = b.columns.linked r small some in
      (omega (arith, some), l.0, l.1)

  -- which is a line's number, and no mark of a free tag
  in_use : (r : ℕ) → r < 128 → is_zero r ≡ false → held b (tag b r) ≢ free
  in_use r small real e = omega (arith, (carries r small real).2, b.columns.small r, e)

  same_tag : (q r : ℕ) → q < 128 → r < 128 → is_zero q ≡ false → is_zero r ≡ false → line b q ≡ line b r → tag b q ≡ tag b r
  same_tag q r x y z w e =
      let p = carries q x z in
      let s = carries r y w in
      b.columns.apart (tag b q) (tag b r) p.1 s.1 (in_use q x z) (p.2 ∙ (e ∙ sym s.2))

  bank_right : TagsRight b
  bank_right = record {
    carried = carries;
    shared = λ q r x y z w. (λ e. sym (carries q x z).2 ∙ (ap (held b) e ∙ (carries r y w).2), same_tag q r x y z w);
    counted = λ t l u. b.columns.counted t l u;
    zero_registers = (b.columns.no_tag.2, b.columns.no_tag.3);
  }

pub all_right : (f : File) → AllTagsRight f
all_right Cold = tt
all_right (Warm m) = (bank_right m.registers.bank, bank_right m.instructions.bank)
