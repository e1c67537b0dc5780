-- The data registers after boot.
use Rattle.std.proofs.Common.{◌≡◌, ℕ, zero, suc, get_or, replicate, Bool, true, false, List, ◌==◌, Some, None, Option, ap, refl, sym, ◌∙◌, arith}
use Rattle.std.proofs.Math.Path.{fun_ext}
use Rattle.std.proofs.lemmas.Bool.Decides.{nat_tests}
use Rattle.store.specs.Meaning.{Meaning}
use Rattle.flat.specs.Calls.{started_data}
use Rattle.flat.specs.Data.{given}
use Rattle.flat.specs.Registers.{blank}
use Rattle.flat.specs.declared.registers.DataRegister.{DataRegister}
use Rattle.marks.specs.Marks.{none}
use Rattle.tags.specs.Names.{Names, started}
use Rattle.file.specs.Standing.{data_of, of_tag, known, all_blank, Placed}
use Rattle.file.proofs.DataSide.{same_data}

memory_at : (m : Meaning) (k : ℕ) (z : Bool) → (k == 0) ≡ z → of_tag ((started (given m 0)).tag k) (started (given m 0)).bytes (given m k) ≡ given m k
unfolding started
memory_at m k true h = let e : k ≡ 0 = grind (arith, nat_tests, h) in grind (arith, nat_tests, h, e)
memory_at m k false h = grind (arith, nat_tests, h)

touched_at : (o : Option ℕ) → of_tag o none false ≡ false
touched_at None = refl
touched_at (Some t) = refl

starts_with : (s : Names) (registers : ℕ → DataRegister) (marked : ℕ → Bool) (m : Meaning) (b : List ℕ) → b ≡ given m 0 → s ≡ started b → registers ≡ (λ r. blank) → marked ≡ none → data_of s registers marked m ≡ started_data m
unfolding data_of
starts_with s registers marked m b e f g h =
    ap (λ x. data_of x registers marked m) (f ∙ ap started e)
    ∙ (ap (λ x. data_of (started (given m 0)) registers x m) h
    ∙ same_data _ _ g (fun_ext (λ k. memory_at m k (k == 0) refl)) (fun_ext (λ k. touched_at ((started (given m 0)).tag k))) refl)

same_in_all : {X : Type 0} (n r : ℕ) (x : X) → get_or (replicate n x) r x ≡ x
same_in_all zero r x = refl
same_in_all (suc n) zero x = refl
same_in_all (suc n) (suc r) x = same_in_all n r x

pub blank_at : (registers : List DataRegister) (r : ℕ) → registers ≡ all_blank → known registers r ≡ blank
unfolding all_blank
blank_at registers r e = ap (λ (x : List DataRegister). known x r) e ∙ same_in_all 128 r blank

pub starts : (s : Names) (registers : List DataRegister) (marked : ℕ → Bool) (m : Meaning) (b : List ℕ) → b ≡ given m 0 → s ≡ started b → registers ≡ all_blank → marked ≡ none → data_of s (known registers) marked m ≡ started_data m
starts s registers marked m b e f g h =
    starts_with s (known registers) marked m b e f (fun_ext (λ r. blank_at registers r g)) h

pub starts_placed : (s : Names) (registers : List DataRegister) (b : List ℕ) → s ≡ started b → registers ≡ all_blank → Placed s registers
unfolding started
starts_placed s registers b e g r =
    ap (λ (x : DataRegister). x.address) (blank_at registers r g) ∙ ap (λ (x : Names). x.address r) (sym e)
