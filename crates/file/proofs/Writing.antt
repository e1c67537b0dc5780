-- Writing a register's line, as the code does it.
use Rattle.std.proofs.Common.{◌≡◌, ℕ, ◌/◌, ◌<◌, Bool, true, false, if◌then◌else◌, nat_lt, List, Some, ap, refl, sym, subst, ◌∙◌, arith}
use Rattle.std.proofs.lemmas.Bool.{cond-true, cond-false}
use Rattle.std.proofs.lemmas.Bool.Decides.{nat_tests}
use Rattle.store.specs.Meaning.{Meaning}
use Rattle.flat.specs.Data.{Data, shown, write, written}
use Rattle.flat.specs.Registers.{is_zero, line_of, zeros}
use Rattle.flat.specs.declared.registers.DataRegister.{DataRegister}
use Rattle.tags.specs.Invariants.{all}
use Rattle.marks.specs.Marks.{with_mark}
use Rattle.tags.specs.Names.{Names, Sound, tag_of, written as written_names}
use Rattle.file.specs.Standing.{data_of, Quiet}
use Rattle.file.proofs.DataSide.{OneLine, writes, quiet_written}

shows_by : (s : Names) (registers : ℕ → DataRegister) (marked : ℕ → Bool) (m : Meaning) (r : ℕ) (z : Bool) → is_zero r ≡ z → (registers r).address ≡ s.address r → r < 128 → Sound s → s.bytes (tag_of s r) ≡ shown (data_of s registers marked m) r
unfolding data_of zeros all
shows_by s registers marked m r true h e within sound = grind (arith, nat_tests, h, sound.zero_bytes)
shows_by s registers marked m r false h e within sound = grind (arith, nat_tests, h, e, sound.linked r within h)

-- a register shows the bytes of its tag
pub shows : (s : Names) (registers : ℕ → DataRegister) (marked : ℕ → Bool) (m : Meaning) (r : ℕ) → (registers r).address ≡ s.address r → r < 128 → Sound s → s.bytes (tag_of s r) ≡ shown (data_of s registers marked m) r
shows s registers marked m r = shows_by s registers marked m r (is_zero r) refl

-- a zero register is not written
pub write_zero : (r : ℕ) (bs : List ℕ) (d : Data) → is_zero r ≡ true → d ≡ write r bs d
unfolding write
write_zero r bs d h = sym (cond-true _ _ _ h)

-- the tag of a register is below 128
pub tag_small : (s : Names) (r : ℕ) → r < 128 → is_zero r ≡ false → Sound s → tag_of s r < 128
tag_small s r within real sound =
    (sound.tags (s.address r / 128) (tag_of s r) (sound.linked r within real)).1

same_address : (s : Names) (r q : ℕ) (bs : List ℕ) (z : Bool) → is_zero r ≡ z → s.address q ≡ (written_names r bs s).address q
unfolding written_names
same_address s r q bs true h = grind (arith, h)
same_address s r q bs false h = grind (arith, h)

-- the line of a register is written, and the register's tag marked
module _ (s after : Names) (marked marks : ℕ → Bool) (r t : ℕ) (bs : List ℕ) (real : is_zero r ≡ false) (linked : s.tag (line_of (s.address r)) ≡ Some (tag_of s r)) (small : tag_of s r < 128) (e : t ≡ tag_of s r) (f : after ≡ written_names r bs s) where
  pub write_placed : (registers : ℕ → DataRegister) → ((q : ℕ) → (registers q).address ≡ s.address q) → (q : ℕ) → (registers q).address ≡ after.address q
  write_placed registers placed q =
      placed q ∙ (same_address s r q bs (is_zero r) refl ∙ ap (λ (x : Names). x.address q) (sym f))

  module _ (g : marks ≡ (if nat_lt t 128 then with_mark marked t true else marked)) where
    -- the mark of a register's tag
    marks_tag : marks ≡ with_mark marked (tag_of s r) true
    marks_tag =
        g
        ∙ (cond-true (nat_lt t 128) _ _ (grind (arith, nat_tests, e, small))
        ∙ ap (λ x. with_mark marked x true) e)

    pub write_stands : (registers : ℕ → DataRegister) → (registers r).address ≡ s.address r → OneLine s → (m : Meaning) → data_of after registers marks m ≡ write r bs (data_of s registers marked m)
    unfolding write data_of
    write_stands registers placed one m =
        ap (λ x. data_of x registers marks m) f
        ∙ (ap (λ x. data_of (written_names r bs s) registers x m) marks_tag
        ∙ (writes s registers marked m r bs real linked one
        ∙ (ap (λ (a : ℕ). written (line_of a) bs (data_of s registers marked m)) (sym placed)
        ∙ sym (cond-false _ _ _ real))))

    pub write_quiet : Quiet s marked → Quiet after marks
    write_quiet quiet =
        let h = quiet_written s marked r (tag_of s r) bs linked quiet in
        subst (λ (x : Names). Quiet x marks) (sym f) (subst (λ (x : ℕ → Bool). Quiet (written_names r bs s) x) (sym marks_tag) h)
