-- Where to look for tags: how many tags hold a line of each bucket, and which are free.
use Rattle.std.proofs.Common.{◌≡◌, ◌≢◌, ℕ, suc, zero, ◌+◌, ◌-◌, ◌<◌, ◌≤◌, ◌%◌, ◌^◌, ◌==◌, ◌&&◌, if◌then◌else◌, true, false, Bool, nat_le, nat_lt, List, [], ◌∷◌, length, slice_index, set, count_by, Option, Some, None, refl, sym, ap, ◌∙◌, arith}
use Rattle.std.proofs.lemmas.Bool.{cases_eq}
use Rattle.std.proofs.lemmas.Bool.Decides.{nat_tests}
use Rattle.std.proofs.lemmas.List.{length-set, set-get_or}
use Rattle.std.proofs.lemmas.List.Sums.{sum_by-set, sum_by-cons, count_by-le-length}
use Rattle.marks.specs.Marks.{Finds, marked, with_mark}
use Rattle.marks.proofs.Counting.{with_mark_here, with_mark_elsewhere}
use Rattle.tags.specs.Invariants.{Spare, Held, Indexed, all, falls, free, unnamed}
use Rattle.tags.specs.declared.index.Index.{Index}
use Rattle.tags.proofs.All.{length-all, get_or-all, count-all}
use Rattle.tags.proofs.Steps.{at}
use Rattle.tags.proofs.Counts.{one}

-- A mark that is set, where another is.
pub marked_at : (m : ℕ → Bool) (t : ℕ) (b : Bool) (u : ℕ) → (u ≡ t → with_mark m t b u ≡ b) × (u ≢ t → with_mark m t b u ≡ m u)
marked_at m t b u =
    (λ e. ap (with_mark m t b) e ∙ with_mark_here m t b, λ n. with_mark_elsewhere m t b u n)

-- A bucket of a place that holds something else: one less or one more, or as many as before.
falls-set : (lines : List ℕ) (t y b : ℕ) → t < length lines → count_by (falls b) (set lines t y) + one (falls b (slice_index lines t)) ≡ count_by (falls b) lines + one (falls b y)
falls-set lines t y b h = sum_by-set (λ l. one (falls b l)) lines t y 0 h

-- No more tags hold lines of a bucket than there are tags.
pub few : (held lines : List ℕ) (b : ℕ) → Held held lines → b < 128 → length lines ≡ 128 → slice_index held b ≤ 128
few held lines b h hb size = omega (arith, h.1 b hb, count_by-le-length (falls b) lines)

-- A free tag gets a line.
pub held_more : (held lines : List ℕ) (t line : ℕ) → Held held lines → t < length lines → slice_index lines t ≡ free → line < 2 ^ 25 → Held (set held (line % 128) (slice_index held (line % 128) + 1)) (set lines t line)
held_more held lines t line h ht e small =
    (length-set held (line % 128) _ ∙ h.0, λ b hb. let s = falls-set lines t line b ht in let c = at held (line % 128) b (slice_index held (line % 128) + 1) (omega (arith, h.0)) in let g = h.1 b hb in grind (arith, nat_tests, cases_eq b (line % 128)))

-- A tag that holds a line loses it.
pub held_less : (held lines : List ℕ) (t line : ℕ) → Held held lines → t < length lines → slice_index lines t ≡ line → line < 2 ^ 25 → (slice_index held (line % 128) ≢ 0) × Held (set held (line % 128) (slice_index held (line % 128) - 1)) (set lines t free)
held_less held lines t line h ht e small =
    let some : slice_index held (line % 128) ≢ 0 = let s = falls-set lines t free (line % 128) ht in let g = h.1 (line % 128) (omega arith) in grind (arith, nat_tests) in
    (some, (length-set held (line % 128) _ ∙ h.0, λ b hb. let s = falls-set lines t free b ht in let c = at held (line % 128) b (slice_index held (line % 128) - 1) (omega (arith, h.0)) in let g = h.1 b hb in grind (arith, nat_tests, cases_eq b (line % 128))))

none_fall : (lines : List ℕ) (b k : ℕ) → count_by (falls b) lines ≡ 0 → k < length lines → falls b (slice_index lines k) ≡ false
none_fall [] b k e h = absurd (omega arith)
none_fall (x ∷ xs) b zero e h = grind (arith, nat_tests, sum_by-cons (λ l. one (falls b l)) x xs)
none_fall (x ∷ xs) b (suc k) e h = none_fall xs b k (omega (arith, sum_by-cons (λ l. one (falls b l)) x xs)) (omega arith)

-- No tag holds a line of an empty bucket.
pub held_none : (held lines : List ℕ) (line k : ℕ) → Held held lines → slice_index held (line % 128) ≡ 0 → line < 2 ^ 25 → k < length lines → slice_index lines k ≢ line
held_none held lines line k h e small hk f =
    let n = none_fall lines (line % 128) k (omega (arith, h.1 (line % 128) (omega arith))) hk in
    grind (arith, nat_tests)

-- A free tag that gets a line is free no more.
pub spare_less : (spare : ℕ → Bool) (lines : List ℕ) (t line : ℕ) → Spare spare lines → t < length lines → line < 2 ^ 25 → Spare (with_mark spare t false) (set lines t line)
spare_less spare lines t line s ht small = λ u hu.
    let m = marked_at spare t false u in
    let l = at lines t u line ht in
    let e = s u hu in
    grind (arith, nat_tests, cases_eq u t)

-- A tag that loses its line is free.
pub spare_more : (spare : ℕ → Bool) (lines : List ℕ) (t : ℕ) → Spare spare lines → t < length lines → Spare (with_mark spare t true) (set lines t free)
spare_more spare lines t s ht = λ u hu.
    let m = marked_at spare t true u in
    let l = at lines t u free ht in
    let e = s u hu in
    grind (arith, nat_tests, cases_eq u t)

-- The marks of the tags from 2 on, once one more has its mark.
pub marked_more : (m p : ℕ → Bool) (k t : ℕ) → p ≡ (if nat_lt k 128 then with_mark m k true else m) → k < 128 → 2 ≤ k → m t ≡ (nat_le 2 t && nat_lt t k) → p t ≡ (nat_le 2 t && nat_lt t (k + 1))
marked_more m p k t e hk some seen =
    let f : (if nat_lt k 128 then with_mark m k true else m) ≡ with_mark m k true = grind (arith, nat_tests) in
    let g = ap (λ (q : ℕ → Bool). q t) (e ∙ f) in
    let h = marked_at m k true t in
    grind (arith, nat_tests, cases_eq t k)

taken_lines : (lines : List ℕ) (t line : ℕ) → slice_index lines t ≡ line → set lines t line ≡ lines
taken_lines lines t line e = ap (set lines t) (sym e) ∙ set-get_or lines t 0

-- A tag is taken for a line that is new to it, or that it holds.
pub held_taken : (held lines : List ℕ) (t line : ℕ) (b : Bool) → (slice_index lines t == free) ≡ b → Held held lines → t < length lines → (slice_index lines t ≢ free → slice_index lines t ≡ line) → line < 2 ^ 25 → Held (if b then set held (line % 128) (slice_index held (line % 128) + 1) else held) (set lines t line)
held_taken held lines t line true e h ht ready small = held_more held lines t line h ht (grind (arith, nat_tests)) small
held_taken held lines t line false e h ht ready small =
    rw (taken_lines lines t line (ready (grind (arith, nat_tests)))) h

pub spare_taken : (spare : ℕ → Bool) (lines : List ℕ) (t line : ℕ) (b : Bool) → (slice_index lines t == free) ≡ b → Spare spare lines → t < length lines → (slice_index lines t ≢ free → slice_index lines t ≡ line) → line < 2 ^ 25 → Spare (if b then with_mark spare t false else spare) (set lines t line)
spare_taken spare lines t line true e s ht ready small = spare_less spare lines t line s ht small
spare_taken spare lines t line false e s ht ready small =
    rw (taken_lines lines t line (ready (grind (arith, nat_tests)))) s

-- The index once a register took a tag for a line.
pub indexed_taken : (before after : Index) (lines : List ℕ) (t line : ℕ) (b : Bool) → after.held ≡ (if b then set before.held (line % 128) (slice_index before.held (line % 128) + 1) else before.held) → marked after.free ≡ (if b then with_mark (marked before.free) t false else marked before.free) → b ≡ (slice_index lines t == free) → Indexed before lines → t < length lines → (slice_index lines t ≢ free → slice_index lines t ≡ line) → line < 2 ^ 25 → Indexed after (set lines t line)
indexed_taken before after lines t line b eh ef e h ht ready small =
    (rw eh (held_taken before.held lines t line b (sym e) h.0 ht ready small), rw ef (spare_taken (marked before.free) lines t line b (sym e) h.1 ht ready small))

-- The index once a tag lost its line.
pub indexed_less : (before after : Index) (lines : List ℕ) (t line : ℕ) → after.held ≡ set before.held (line % 128) (slice_index before.held (line % 128) - 1) → marked after.free ≡ with_mark (marked before.free) t true → Indexed before lines → t < length lines → slice_index lines t ≡ line → line < 2 ^ 25 → Indexed after (set lines t free)
indexed_less before after lines t line eh ef h ht e small =
    (rw eh (held_less before.held lines t line h.0 ht e small).1, rw ef (spare_more (marked before.free) lines t h.1 ht))

first_from : (spare : ℕ → Bool) (lines : List ℕ) (o : Option ℕ) → Finds spare o → Spare spare lines → (((k : ℕ) → k < 128 → slice_index lines k ≢ free) → ⊥) → (k : ℕ) × (o ≡ Some k) × (k < 128) × (slice_index lines k ≡ free)
first_from spare lines (Some k) f s some = (k, refl, f.within, let e = s k f.within in let m = f.marked in grind (arith, nat_tests))
first_from spare lines None f s some =
    absurd (some (λ k hk. let e = s k hk in let m = ap (λ (q : ℕ → Bool). q k) f in grind (arith, nat_tests)))

-- Where some tag is free, the first that is marked is one.
pub first_free : (index : Index) (lines : List ℕ) (o : Option ℕ) → Finds (marked index.free) o → Indexed index lines → (((k : ℕ) → k < 128 → slice_index lines k ≢ free) → ⊥) → (k : ℕ) × (o ≡ Some k) × (k < 128) × (slice_index lines k ≡ free)
first_free index lines o f h some = first_from (marked index.free) lines o f h.1 some

start_falls : (b : ℕ) → b < 128 → count_by (falls b) (set (set (all free) 0 unnamed) 1 0) ≡ one (0 == b)
start_falls b hb =
    let l = length-all {X = ℕ} free in
    let m = length-set {A = ℕ} (all free) 0 unnamed in
    let x = falls-set (all free) 0 unnamed b (omega arith) in
    let y = falls-set (set (all free) 0 unnamed) 1 0 b (omega arith) in
    let c = get_or-all {X = ℕ} 0 free 0 (omega arith) in
    let d = get_or-all {X = ℕ} 1 free 0 (omega arith) in
    let o : slice_index (set (all free) 0 unnamed) 1 ≡ slice_index (all free) 1 = (at (all free) 0 1 unnamed (omega arith)).1 (omega arith) in
    let n = count-all (falls b) free in
    grind (arith, nat_tests)

start_held : Held (set (all 0) 0 1) (set (set (all free) 0 unnamed) 1 0)
start_held =
    let l = length-all {X = ℕ} 0 in
    (length-set {A = ℕ} (all 0) 0 1 ∙ l, λ b hb. let f = start_falls b hb in let a = at (all 0) 0 b 1 (omega arith) in let c = get_or-all {X = ℕ} b 0 0 hb in grind (arith, nat_tests, cases_eq b 0))

start_spare : (spare : ℕ → Bool) → ((t : ℕ) → t < 128 → spare t ≡ nat_le 2 t) → Spare spare (set (set (all free) 0 unnamed) 1 0)
start_spare spare s = λ t ht.
    let l = length-all {X = ℕ} free in
    let m = length-set {A = ℕ} (all free) 0 unnamed in
    let a = at (all free) 0 t unnamed (omega arith) in
    let b = at (set (all free) 0 unnamed) 1 t 0 (omega arith) in
    let c = get_or-all {X = ℕ} t free 0 ht in
    let e = s t ht in
    grind (arith, nat_tests, cases_eq t 0, cases_eq t 1)

-- The index at the start.
pub indexed_start : (index : Index) {lines : List ℕ} → index.held ≡ set (all 0) 0 1 → ((t : ℕ) → t < 128 → marked index.free t ≡ nat_le 2 t) → lines ≡ all free → Indexed index (set (set lines 0 unnamed) 1 0)
indexed_start index eh s el = (rw (eh, el) start_held, rw el (start_spare (marked index.free) s))
