-- A file on another store.
use Rattle.std.proofs.Common.{◌≡◌, ℕ, Bool, true, false, ◌&&◌, if◌then◌else◌, Some, None, Option, is_some, ap, refl, sym, ◌∙◌, arith}
use Rattle.std.proofs.Math.Path.{fun_ext}
use Rattle.std.proofs.lemmas.Bool.{true≢false}
use Rattle.std.proofs.lemmas.Bool.Decides.{nat_tests}
use Rattle.store.specs.Meaning.{Meaning}
use Rattle.flat.specs.Data.{given, handed}
use Rattle.flat.specs.Registers.{names, named}
use Rattle.flat.specs.declared.registers.DataRegister.{DataRegister}
use Rattle.flat.proofs.Somewhere.{some_decides}
use Rattle.tags.specs.Names.{Names, Sound}
use Rattle.file.specs.Standing.{data_of, of_tag}
use Rattle.file.proofs.DataSide.{same_data}

-- a line has a tag exactly when a register names it
pub named_tag : (s : Names) (n : ℕ) (o : Option ℕ) (b : Bool) → s.tag n ≡ o → named s.address n ≡ b → Sound s → b ≡ is_some o
unfolding named
named_tag s n None true h e sound =
    let r = (some_decides 128 (λ q. names s.address q n)).0 e in
    let l = sound.linked r.0 r.1 (grind (arith, nat_tests, r.2)) in
    grind (arith, nat_tests, h, l, r.2)
named_tag s n None false h e sound = refl
named_tag s n (Some t) true h e sound = refl
named_tag s n (Some t) false h e sound =
    let r = sound.used n t h in
    absurd (true≢false (sym ((some_decides 128 (λ q. names s.address q n)).1 (r.0, r.1, grind (arith, nat_tests, r.2, r.3))) ∙ e))

memory_at : (s : Names) (m other : Meaning) (n : ℕ) (o : Option ℕ) → of_tag o s.bytes (given other n) ≡ (if is_some o then of_tag o s.bytes (given m n) else given other n)
memory_at s m other n None = refl
memory_at s m other n (Some t) = refl

touched_at : (marked : ℕ → Bool) (o : Option ℕ) → of_tag o marked false ≡ (is_some o && of_tag o marked false)
touched_at marked None = refl
touched_at marked (Some t) = refl

module _ (s : Names) (registers : ℕ → DataRegister) (placed : (q : ℕ) → (registers q).address ≡ s.address q) (sound : Sound s) where
  has_tag : (n : ℕ) → named (λ (q : ℕ). (registers q).address) n ≡ is_some (s.tag n)
  has_tag n =
      ap (λ (f : ℕ → ℕ). named f n) (fun_ext placed) ∙ named_tag s n (s.tag n) (named s.address n) refl refl sound

  pub hands : (marked : ℕ → Bool) (m other : Meaning) → data_of s registers marked other ≡ handed other (data_of s registers marked m)
  unfolding data_of handed
  hands marked m other =
      same_data _ _ refl
      (fun_ext (λ n. memory_at s m other n (s.tag n) ∙ ap (λ (b : Bool). if b then of_tag (s.tag n) s.bytes (given m n) else given other n) (sym (has_tag n))))
      (fun_ext (λ n. touched_at marked (s.tag n) ∙ ap (λ (b : Bool). b && of_tag (s.tag n) marked false) (sym (has_tag n))))
      refl
