-- What the bits of the two words say of the tags.
use Rattle.std.proofs.Common.{◌≡◌, ℕ, zero, suc, ◌+◌, ◌-◌, ◌*◌, ◌/◌, ◌%◌, ◌^◌, ◌<◌, ◌≤◌, ◌==◌, Bool, true, false, length, refl, sym, ◌∙◌, ap, ap₂, subst, arith, slice_index, slice_set, bit_and, bit_or, inl, inr, w64, div-add-mod'}
use Rattle.std.proofs.Math.Path.{fun_ext}
use Rattle.std.proofs.lemmas.Bool.Decides.{nat_tests, eqb_tells, leb_tells}
use Rattle.std.proofs.lemmas.List.{get_or-set_same, get_or-set_other}
use Rattle.std.proofs.lemmas.Nat.{ones_cat, ones-le, pow_pos}
use Rattle.std.proofs.Math.Nat.{mod-lt}
use Rattle.std.proofs.Math.Pow.{shr_lt}
use Rattle.std.proofs.lemmas.Nat.Bits.{bit_at-zero, bit_at_cat_low, bit_at_set_same, bit_at_set_other, bit_at_clear_same, bit_at_clear_other, bit_at-trailing_zeros, shr_and_one}
use Rattle.std.specs.Int.{bit_at, trailing_zeros}
use Rattle.std.specs.Int.Count.{ones, ones_in}
use Rattle.marks.specs.declared.Marks.{Marks}
use Rattle.marks.specs.Marks.{none, with_mark, how_many, marked, Lowest}
use Rattle.marks.proofs.Counting.{with_mark_here, with_mark_elsewhere, with_mark-same, how_many-same, how_many-add, counted}

pub marked_within : (m : Marks) (t : ℕ) → t < 128 → marked m t ≡ (bit_at (slice_index m.words (t / 64)) (t % 64) == 1)
unfolding marked
marked_within m t h = grind (arith, nat_tests)

pub marked_past : (m : Marks) (t : ℕ) → 128 ≤ t → marked m t ≡ false
unfolding marked
marked_past m t h = grind (arith, nat_tests)

-- a word is written in which only the tag's bit may differ
module _ (m : Marks) (t v : ℕ) (size : length m.words ≡ 2) (h : t < 128)
    (elsewhere : (i : ℕ) → i < 64 → (i ≡ t % 64 → ⊥) → bit_at v i ≡ bit_at (slice_index m.words (t / 64)) i) where
  bit_elsewhere : (u : ℕ) → (u ≡ t → ⊥) → bit_at (slice_index (slice_set m.words (t / 64) v) (u / 64)) (u % 64) ≡ bit_at (slice_index m.words (u / 64)) (u % 64)
  bit_elsewhere u other =
      elim (eqb_tells (u / 64) (t / 64)) [
        | inl e ↦
            ap (λ (k : ℕ). bit_at (slice_index (slice_set m.words (t / 64) v) k) (u % 64)) e.1
            ∙ ap (λ (w : ℕ). bit_at w (u % 64)) (get_or-set_same m.words (t / 64) v 0 (omega arith))
            ∙ elsewhere (u % 64) (omega arith) (λ p. other (omega arith))
            ∙ ap (λ (k : ℕ). bit_at (slice_index m.words k) (u % 64)) (sym e.1)
        | inr e ↦ ap (λ (w : ℕ). bit_at w (u % 64)) (get_or-set_other m.words (t / 64) (u / 64) v 0 e.1)
      ]

  tag_elsewhere : (u : ℕ) → (u ≡ t → ⊥) → marked (record { words = slice_set m.words (t / 64) v }) u ≡ marked m u
  tag_elsewhere u other =
      elim (leb_tells 128 u) [
        | inl past ↦ marked_past (record { words = slice_set m.words (t / 64) v }) u past.1 ∙ sym (marked_past m u past.1)
        | inr within ↦
            marked_within (record { words = slice_set m.words (t / 64) v }) u within.1
            ∙ ap (λ (x : ℕ). x == 1) (bit_elsewhere u other) ∙ sym (marked_within m u within.1)
      ]

  tag : (b : Bool) → (bit_at v (t % 64) == 1) ≡ b → (u : ℕ) → marked (record { words = slice_set m.words (t / 64) v }) u ≡ with_mark (marked m) t b u
  tag b here u =
      elim (eqb_tells u t) [
        | inl e ↦
            ap (marked (record { words = slice_set m.words (t / 64) v })) e.1
            ∙ marked_within (record { words = slice_set m.words (t / 64) v }) t h
            ∙ ap (λ (w : ℕ). bit_at w (t % 64) == 1) (get_or-set_same m.words (t / 64) v 0 (omega arith))
            ∙ here ∙ sym (with_mark_here (marked m) t b) ∙ ap (with_mark (marked m) t b) (sym e.1)
        | inr e ↦ tag_elsewhere u e.1 ∙ sym (with_mark_elsewhere (marked m) t b u e.1)
      ]

  pub marked-set : (b : Bool) → (bit_at v (t % 64) == 1) ≡ b → marked (record { words = slice_set m.words (t / 64) v }) ≡ with_mark (marked m) t b
  marked-set b here = fun_ext (tag b here)

pub marked-insert : (m : Marks) (t : ℕ) → length m.words ≡ 2 → t < 128
    → marked (record { words = slice_set m.words (t / 64) (bit_or (slice_index m.words (t / 64)) (1 * 2 ^ (t % 64) % 2 ^ 64)) }) ≡ with_mark (marked m) t true
marked-insert m t size h =
    let w = slice_index m.words (t / 64) in
    marked-set m t (bit_or w (1 * 2 ^ (t % 64) % 2 ^ 64)) size h
    (λ i l other. bit_at_set_other w64 w (t % 64) (omega arith) i other)
    true (ap (λ (x : ℕ). x == 1) (bit_at_set_same w64 w (t % 64) (omega arith)))

pub marked-remove : (m : Marks) (t : ℕ) → length m.words ≡ 2 → t < 128
    → marked (record { words = slice_set m.words (t / 64) (bit_and (slice_index m.words (t / 64)) (2 ^ 64 - 1 - 1 * 2 ^ (t % 64) % 2 ^ 64)) }) ≡ with_mark (marked m) t false
marked-remove m t size h =
    let w = slice_index m.words (t / 64) in
    marked-set m t (bit_and w (2 ^ 64 - 1 - 1 * 2 ^ (t % 64) % 2 ^ 64)) size h
    (λ i l other. bit_at_clear_other w64 w (t % 64) (omega arith) i l other)
    false (ap (λ (x : ℕ). x == 1) (bit_at_clear_same w64 w (t % 64) (omega arith)))

-- no tag from 128 on has a mark to take away
pub marked-remove_past : (m : Marks) (t : ℕ) → 128 ≤ t → marked m ≡ with_mark (marked m) t false
marked-remove_past m t h = sym (with_mark-same (marked m) t false (marked_past m t h))

-- the tags of the two words
pub marked_low : (m : Marks) (t : ℕ) → t < 64 → marked m t ≡ (bit_at (slice_index m.words 0) t == 1)
marked_low m t h =
    let word : t / 64 ≡ 0 = omega arith in
    let place : t % 64 ≡ t = omega arith in
    marked_within m t (omega arith) ∙ ap₂ (λ (k i : ℕ). bit_at (slice_index m.words k) i == 1) word place

pub marked_high : (m : Marks) (t : ℕ) → t < 64 → marked m (64 + t) ≡ (bit_at (slice_index m.words 1) t == 1)
marked_high m t h =
    let word : (64 + t) / 64 ≡ 1 = omega arith in
    let place : (64 + t) % 64 ≡ t = omega arith in
    marked_within m (64 + t) (omega arith) ∙ ap₂ (λ (k i : ℕ). bit_at (slice_index m.words k) i == 1) word place

-- where a word is 0, none of its tags is marked
no_bit : (w i : ℕ) → w ≡ 0 → (bit_at w i == 1) ≡ false
no_bit w i e = ap (λ (x : ℕ). bit_at x i == 1) e ∙ ap (λ (x : ℕ). x == 1) (bit_at-zero i)

none_low : (m : Marks) → slice_index m.words 0 ≡ 0 → (t : ℕ) → t < 64 → marked m t ≡ false
none_low m e t h = marked_low m t h ∙ no_bit (slice_index m.words 0) t e

none_high : (m : Marks) → slice_index m.words 1 ≡ 0 → (t : ℕ) → 64 ≤ t → t < 128 → marked m t ≡ false
none_high m e t l h =
    let back : 64 + (t - 64) ≡ t = omega arith in
    ap (marked m) (sym back) ∙ marked_high m (t - 64) (omega arith) ∙ no_bit (slice_index m.words 1) (t - 64) e

none_at : (m : Marks) → slice_index m.words 0 ≡ 0 → slice_index m.words 1 ≡ 0 → (t : ℕ) → marked m t ≡ false
none_at m low high t =
    elim (leb_tells 64 t) [
      | inl l ↦
          elim (leb_tells 128 t) [
            | inl past ↦ marked_past m t past.1
            | inr within ↦ none_high m high t l.1 within.1
          ]
      | inr l ↦ none_low m low t l.1
    ]

pub marked_none : (m : Marks) → slice_index m.words 0 ≡ 0 → slice_index m.words 1 ≡ 0 → marked m ≡ none
marked_none m low high = fun_ext (none_at m low high)

-- the lowest
pub lowest_low : (m : Marks) → 0 < slice_index m.words 0 → slice_index m.words 0 < 2 ^ 64 → Lowest (marked m) (trailing_zeros w64 (slice_index m.words 0))
lowest_low m some fits =
    let w = slice_index m.words 0 in
    let found = bit_at-trailing_zeros w64 w some fits in
    record {
      within = omega (arith, found.0);
      marked = marked_low m (trailing_zeros w64 w) found.0 ∙ ap (λ (x : ℕ). x == 1) found.1;
      below = λ u l. marked_low m u (omega (arith, found.0)) ∙ ap (λ (x : ℕ). x == 1) (found.2 u l);
    }

pub lowest_high : (m : Marks) → slice_index m.words 0 ≡ 0 → 0 < slice_index m.words 1 → slice_index m.words 1 < 2 ^ 64 → Lowest (marked m) (64 + trailing_zeros w64 (slice_index m.words 1))
lowest_high m low some fits =
    let w = slice_index m.words 1 in
    let found = bit_at-trailing_zeros w64 w some fits in
    record {
      within = omega (arith, found.0);
      marked = marked_high m (trailing_zeros w64 w) found.0 ∙ ap (λ (x : ℕ). x == 1) found.1;
      below = λ u l.
          elim (leb_tells 64 u) [
            | inl high ↦
                let back : 64 + (u - 64) ≡ u = omega arith in
                ap (marked m) (sym back) ∙ marked_high m (u - 64) (omega (arith, found.0))
                ∙ ap (λ (x : ℕ). x == 1) (found.2 (u - 64) (omega arith))
            | inr below ↦ none_low m low u below.1
          ];
    }

-- the ones of a word are its marked places
digit : (d : ℕ) → d < 2 → ones d ≡ counted (d % 2 == 1)
unfolding ones ones_in
digit zero h = refl
digit (suc zero) h = refl
digit (suc (suc d)) h = absurd (omega arith)

top : (k n : ℕ) → n < 2 ^ suc k → n / 2 ^ k < 2
top k n h = let e : suc k ≡ 1 + k = omega arith in shr_lt 1 k (subst (λ (j : ℕ). n < 2 ^ j) e h)

pub ones-how_many : (k n : ℕ) → n < 2 ^ k → ones n ≡ how_many (λ i. bit_at n i == 1) k
unfolding how_many
ones-how_many zero n h = omega (arith, ones-le zero n h)
ones-how_many (suc k) n h =
    let a = n / 2 ^ k in
    let r = n % 2 ^ k in
    let whole : a * 2 ^ k + r ≡ n = div-add-mod' n (2 ^ k) in
    let few : r < 2 ^ k = mod-lt n (pow_pos k) in
    let same = how_many-same (λ i. bit_at r i == 1) (λ i. bit_at n i == 1) k
    (λ i l. ap (λ (x : ℕ). x == 1) (sym (bit_at_cat_low a k r i l) ∙ ap (λ (x : ℕ). bit_at x i) whole)) in
    let split : ones n ≡ ones a + ones r = ap ones (sym whole) ∙ ones_cat k a r few in
    omega (arith, split, digit a (top k n h), ones-how_many k r few, same)

pub ones-marked : (m : Marks) → slice_index m.words 0 < 2 ^ 64 → slice_index m.words 1 < 2 ^ 64 → ones (slice_index m.words 0) + ones (slice_index m.words 1) ≡ how_many (marked m) 128
ones-marked m low high =
    let first = ones-how_many 64 (slice_index m.words 0) low ∙ sym (how_many-same (marked m) (λ i. bit_at (slice_index m.words 0) i == 1) 64 (marked_low m)) in
    let second = ones-how_many 64 (slice_index m.words 1) high ∙ sym (how_many-same (λ k. marked m (64 + k)) (λ i. bit_at (slice_index m.words 1) i == 1) 64 (marked_high m)) in
    ap₂ (λ (x y : ℕ). x + y) first second ∙ sym (how_many-add (marked m) 64 64)

-- for the checks of the methods
pub ruleset tags = (marked_within, marked_past, shr_and_one, marked-insert, marked-remove, marked-remove_past, marked_none, lowest_low, lowest_high, ones-marked)
