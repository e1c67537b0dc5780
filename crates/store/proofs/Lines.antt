-- Lines within bytes: what a write over one line leaves of the others.
use Rattle.std.proofs.Common.{◌≡◌, ℕ, zero, suc, ◌+◌, ◌*◌, ◌/◌, ◌<◌, min, cond, eqb, ltb, List, ◌++◌, length, take, drop, sym, refl, ap, ◌∙◌, arith, take-add, rules}
use Rattle.std.proofs.Math.Nat.{add-sub_cancel_left}
use borrow.Rule.Slice.PartMut.{put_mid}
use Rattle.std.proofs.lemmas.Bool.Decides.{nat_tests}
use Rattle.std.proofs.lemmas.List.{take-append-drop, drop-take}
use Rattle.std.proofs.lemmas.Slice.{drop-put_mid, take-put_mid_below, between-put_mid, overwrites}
use Rattle.store.specs.Meaning.{Meaning, with_line, loan}
use Rattle.store.specs.Kinds.{ram, whole_lines, line_of}

-- Stores of one size, with the same lines, of which the same can be written, and that keep the same, are the same.
pub same_meaning :
    (m n : Meaning) → m.size ≡ n.size → ((k : ℕ) → m.line k ≡ n.line k) → ((k : ℕ) → m.canwrite k ≡ n.canwrite k)
    → m.kept ≡ n.kept → m ≡ n
same_meaning m n s l w k =
    λ i. record { size = s i; line = λ j. l j i; canwrite = λ j. w j i; kept = k i }

-- Line n written over by b. w is the number of bytes that are written over.
module _
    (bytes b : List ℕ) (n w : ℕ) (wide : w ≡ 128) (full : length b ≡ 128) (low : n < whole_lines bytes) where
  over_length : length (put_mid (128 * n) w bytes b) ≡ length bytes
  over_length = search (rules, overwrites)

  over_line : line_of (put_mid (128 * n) w bytes b) n ≡ b
  over_line = let e = between-put_mid (128 * n) w bytes b (128 * n + 128) (omega arith) (omega arith) in rw add-sub_cancel_left at e

  line_below : (k : ℕ) → k < n → line_of (put_mid (128 * n) w bytes b) k ≡ line_of bytes k
  line_below k h =
      sym (drop-take (128 * k) 128 (put_mid (128 * n) w bytes b))
      ∙ ap (drop (128 * k)) (take-put_mid_below (128 * n) w bytes b (128 * k + 128) (omega arith) (omega arith))
      ∙ drop-take (128 * k) 128 bytes

  line_above : (k : ℕ) → n < k → line_of (put_mid (128 * n) w bytes b) k ≡ line_of bytes k
  line_above k h = ap (take 128) (drop-put_mid (128 * n) w bytes b (128 * k) (omega arith) (omega arith) (omega arith))

  over_lines : (k : ℕ) → line_of (put_mid (128 * n) w bytes b) k ≡ cond (eqb k n) b (line_of bytes k)
  over_lines k = grind (arith, nat_tests, over_line, line_below k, line_above k)

  over_tail : drop (128 * whole_lines bytes) (put_mid (128 * n) w bytes b) ≡ drop (128 * whole_lines bytes) bytes
  over_tail = drop-put_mid (128 * n) w bytes b (128 * whole_lines bytes) (omega arith) (omega arith) (omega arith)

  pub ram_write : (name : ℕ) → ram name (put_mid (128 * n) w bytes b) ≡ with_line (ram name bytes) n b
  ram_write name =
      let s : whole_lines (put_mid (128 * n) w bytes b) ≡ whole_lines bytes = ap (λ l. min (l / 128) 33554432) over_length in
      same_meaning (ram name (put_mid (128 * n) w bytes b)) (with_line (ram name bytes) n b) s over_lines (λ k. ap (ltb k) s)
      (ap (loan name) (ap (λ l. drop (128 * l) (put_mid (128 * n) w bytes b)) s ∙ over_tail))

-- The lines of RAM and what is kept past them are all of its bytes.
module _ (a b : List ℕ) (lines : (n : ℕ) → line_of a n ≡ line_of b n) where
  fronts : (n : ℕ) → take (128 * n) a ≡ take (128 * n) b
  fronts zero = refl
  fronts (suc n) =
      let e : 128 * suc n ≡ 128 * n + 128 = omega arith in
      ap (λ k. take k a) e
      ∙ take-add (128 * n) 128 a
      ∙ ap (λ l. l ++ line_of a n) (fronts n)
      ∙ ap (λ l. take (128 * n) b ++ l) (lines n)
      ∙ sym (take-add (128 * n) 128 b)
      ∙ sym (ap (λ k. take k b) e)

pub same_name : (γ δ : ℕ) (a b : List ℕ) → (ram γ a).kept ≡ (ram δ b).kept → γ ≡ δ
same_name γ δ a b e = cc

-- What a store over them says of two lots of bytes: as many lines, the same lines, and the same kept.
pub same_bytes :
    (γ δ : ℕ) (a b : List ℕ) → whole_lines a ≡ whole_lines b → ((n : ℕ) → line_of a n ≡ line_of b n)
    → (ram γ a).kept ≡ (ram δ b).kept → a ≡ b
same_bytes γ δ a b w lines kept =
    let tails : drop (128 * whole_lines a) a ≡ drop (128 * whole_lines b) b = cc in
    sym (take-append-drop (128 * whole_lines a) a)
    ∙ ap (λ l. take (128 * whole_lines a) a ++ l) tails
    ∙ ap (λ l. l ++ drop (128 * whole_lines b) b) (fronts a b lines (whole_lines a))
    ∙ ap (λ n. take (128 * n) b ++ drop (128 * whole_lines b) b) w
    ∙ take-append-drop (128 * whole_lines b) b
