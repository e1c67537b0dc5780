-- An element copied onto another.
use Rattle.std.proofs.Common.{◌≡◌, ℕ, ◌+◌, ◌-◌, ◌<◌, List, length, get_or, set, drop, sym, ap, ◌∙◌, add-zero, ⊎_elim, arith}
use Rattle.std.specs.List.{copy_within}
use Rattle.std.proofs.Math.Seq.{paste}
use Rattle.std.proofs.lemmas.List.{get_or-drop, length-drop, length-set, get_or-set_same, get_or-set_other}
use Rattle.std.proofs.lemmas.Bool.{cases_eq}
use Rattle.tags.specs.Invariants.{Whole, no_bytes}
use Rattle.std.proofs.lemmas.List.Edits.{paste_more, paste_none}

pub copied_one : {X : Type 0} (xs : List X) (i j : ℕ) (d : X) → i < length xs → j < length xs → copy_within xs i (i + 1) j ≡ set xs j (get_or xs i d)
copied_one xs i j d hi hj =
    let n : i + 1 - i ≡ 1 = omega arith in
    let first : get_or (drop i xs) 0 d ≡ get_or xs i d = get_or-drop i xs 0 d ∙ ap (λ k. get_or xs k d) (add-zero i) in
    let more = paste_more xs j (drop i xs) 0 d (omega arith) (omega (arith, length-drop i xs)) in
    ap (λ k. paste xs j (drop i xs) k) n
    ∙ (sym more
    ∙ (ap (λ ys. set ys (j + 0) (get_or (drop i xs) 0 d)) (sym (paste_none xs j (drop i xs)))
    ∙ (ap (λ k. set xs k (get_or (drop i xs) 0 d)) (add-zero j) ∙ ap (λ y. set xs j y) first)))

whole_at_set : (bytes : List (List ℕ)) (t : ℕ) (b : List ℕ) (k : ℕ) → t < length bytes → length b ≡ 128 → length (get_or bytes k no_bytes) ≡ 128 → length (get_or (set bytes t b) k no_bytes) ≡ 128
whole_at_set bytes t b k ht hb h =
    let same = λ (e : k ≡ t). ap (λ m. get_or (set bytes t b) m no_bytes) e ∙ get_or-set_same bytes t b no_bytes ht in
    let apart = get_or-set_other bytes t k b no_bytes in
    ⊎_elim (λ e. ap length (same e) ∙ hb) (λ n. ap length (apart n) ∙ h) (cases_eq k t)

-- A tag that gets 128 bytes, where each has 128.
pub whole-set : (bytes : List (List ℕ)) (t : ℕ) (b : List ℕ) → t < 128 → length b ≡ 128 → Whole bytes → Whole (set bytes t b)
whole-set bytes t b ht hb w =
    (length-set bytes t b ∙ w.0, λ k hk. whole_at_set bytes t b k (omega (arith, w.0)) hb (w.1 k hk))
