-- The last data register leaves a line.
use Rattle.std.proofs.Common.{◌≡◌, ℕ, ◌<◌, Bool, true, false, ◌==◌, if◌then◌else◌, refl, sym, subst, ap, ◌∙◌, arith}
use Rattle.std.proofs.lemmas.Bool.{cond-true, cond-false}
use Rattle.std.proofs.lemmas.Bool.Decides.{nat_tests}
use Rattle.store.specs.Meaning.{Meaning, with_line}
use Rattle.flat.specs.Data.{Data, given, accepted, sent_back, let_go, left}
use Rattle.flat.specs.Registers.{at}
use Rattle.flat.proofs.Coherence.{Coherent}

-- Memory stays as it was, and of the backing copy the line that is left holds what memory holds.
pub record Left (n : ℕ) (d after : Data) : Type 0 where
  pub coherent : Coherent after
  pub registers : after.registers ≡ d.registers
  pub size : after.backing.size ≡ d.backing.size
  pub canwrite : after.backing.canwrite ≡ d.backing.canwrite
  pub beside : after.backing.kept ≡ d.backing.kept
  pub own : n < d.backing.size → after.backing.line n ≡ d.memory n
  pub memory : (k : ℕ) → after.memory k ≡ d.memory k
  pub others : (k : ℕ) → (n == k) ≡ false → after.backing.line k ≡ d.backing.line k

-- Of an untouched line.
left_clean : (n : ℕ) (d : Data) → d.touched n ≡ false → Coherent d → Left n d (let_go n d)
unfolding let_go given
left_clean n d clean c = record {
  coherent = record {
    untouched = λ k h. grind (arith, nat_tests, c.untouched k h);
    touched = c.touched;
    within = c.within;
  };
  registers = refl;
  size = refl;
  canwrite = refl;
  beside = refl;
  own = λ h. grind (arith, nat_tests, h, c.untouched n clean);
  memory = λ k. grind (arith, nat_tests, c.untouched n clean);
  others = λ k h. refl;
}

-- A touched line that was sent back.
abbrev sent : ℕ → Data → Data
sent n d = record d { touched = at d.touched n false; backing = with_line d.backing n (d.memory n) }

left_sent : (n : ℕ) (d : Data) → d.backing.canwrite n ≡ true → Coherent d → Left n d (let_go n (sent n d))
unfolding let_go given
left_sent n d can c = record {
  coherent = record {
    untouched = λ k h. grind (arith, nat_tests, h, c.untouched k, c.within n can);
    touched = λ k h. grind (arith, nat_tests, h, c.touched k);
    within = c.within;
  };
  registers = refl;
  size = refl;
  canwrite = refl;
  beside = refl;
  own = λ h. grind (arith, nat_tests, h);
  memory = λ k. grind (arith, nat_tests, c.within n can);
  others = λ k h. grind (arith, nat_tests, h);
}

sends : (n : ℕ) (d : Data) → d.backing.canwrite n ≡ true → sent_back n d ≡ sent n d
unfolding sent_back accepted
sends n d can = ap (λ (m : Meaning). let x : Data = record d { touched = at d.touched n false; backing = m } in x) (cond-true _ _ _ can)

pub leaves_line : (n : ℕ) (d : Data) → Coherent d → Left n d (left n d)
unfolding left
leaves_line n d c = by_mark (d.touched n) refl
  where
    by_mark : (b : Bool) → d.touched n ≡ b → Left n d (let_go n (if d.touched n then sent_back n d else d))
    by_mark true h =
        let e : (if d.touched n then sent_back n d else d) ≡ sent n d = cond-true _ _ _ h ∙ sends n d (c.touched n h) in
        subst (λ (x : Data). Left n d (let_go n x)) (sym e) (left_sent n d (c.touched n h) c)
    by_mark false h =
        let e : (if d.touched n then sent_back n d else d) ≡ d = cond-false _ _ _ h in
        subst (λ (x : Data). Left n d (let_go n x)) (sym e) (left_clean n d h c)
