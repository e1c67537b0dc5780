-- How many tags are marked, and how that changes with one mark, for any test of numbers.
use Rattle.std.proofs.Common.{◌≡◌, ℕ, zero, suc, ◌+◌, ◌<◌, ◌≤◌, ◌==◌, ◌⊎◌, Bool, true, false, cond, refl, sym, ◌∙◌, ap, ap₂, arith, inl, inr}
use Rattle.std.proofs.Math.Path.{fun_ext}
use Rattle.std.proofs.lemmas.Bool.Decides.{nat_tests, eqb_tells}
use Rattle.marks.specs.Marks.{none, with_mark, how_many}

-- one tag of a set with one mark changed
pub with_mark-at : (m : ℕ → Bool) (t : ℕ) (b : Bool) (u : ℕ) → with_mark m t b u ≡ cond (u == t) b (m u)
unfolding with_mark
with_mark-at m t b u = refl

pub with_mark_here : (m : ℕ → Bool) (t : ℕ) (b : Bool) → with_mark m t b t ≡ b
with_mark_here m t b = grind (arith, nat_tests, with_mark-at)

pub with_mark_elsewhere : (m : ℕ → Bool) (t : ℕ) (b : Bool) (u : ℕ) → (u ≡ t → ⊥) → with_mark m t b u ≡ m u
with_mark_elsewhere m t b u h = grind (arith, nat_tests, with_mark-at)

-- each tag of a set that is another with one mark changed
pub with_mark_cases : (m p : ℕ → Bool) (t : ℕ) (b : Bool) → p ≡ with_mark m t b → (u : ℕ) → ((u ≡ t) × (p u ≡ b)) ⊎ ((u ≡ t → ⊥) × (p u ≡ m u))
with_mark_cases m p t b e u =
    let same : p u ≡ with_mark m t b u = ap (λ (f : ℕ → Bool). f u) e in
    elim (eqb_tells u t) [
      | inl h ↦ inl (h.1, same ∙ ap (with_mark m t b) h.1 ∙ with_mark_here m t b)
      | inr h ↦ inr (h.1, same ∙ with_mark_elsewhere m t b u h.1)
    ]

-- to mark what is marked, or to take away what is not, changes nothing
at_same : (m : ℕ → Bool) (t : ℕ) (b : Bool) (u : ℕ) → m t ≡ b → with_mark m t b u ≡ m u
at_same m t b u h =
    elim (eqb_tells u t) [
      | inl e ↦ ap (with_mark m t b) e.1 ∙ with_mark_here m t b ∙ sym h ∙ ap m (sym e.1)
      | inr e ↦ with_mark_elsewhere m t b u e.1
    ]

pub with_mark-same : (m : ℕ → Bool) (t : ℕ) (b : Bool) → m t ≡ b → with_mark m t b ≡ m
with_mark-same m t b h = fun_ext (λ u. at_same m t b u h)

-- what a tag adds to the count
abbrev pub counted : Bool → ℕ
counted b = cond b 1 0

-- one tag more
pub how_many-suc : (m : ℕ → Bool) (n : ℕ) → how_many m (suc n) ≡ how_many m n + counted (m n)
unfolding how_many
how_many-suc m n = refl

-- tests that agree below n
pub how_many-same : (m p : ℕ → Bool) (n : ℕ) → ((k : ℕ) → k < n → m k ≡ p k) → how_many m n ≡ how_many p n
unfolding how_many
how_many-same m p zero h = refl
how_many-same m p (suc n) h =
    ap₂ (λ (a : ℕ) (b : Bool). a + counted b) (how_many-same m p n (λ k l. h k (omega arith))) (h n (omega arith))

pub how_many-none : (n : ℕ) → how_many none n ≡ 0
unfolding how_many
how_many-none zero = refl
how_many-none (suc n) = omega (arith, how_many-none n)

-- no more than n tags stand below n
at_most_one : (b : Bool) → counted b ≤ 1
at_most_one true = omega arith
at_most_one false = omega arith

pub how_many-le : (m : ℕ → Bool) (n : ℕ) → how_many m n ≤ n
unfolding how_many
how_many-le m zero = omega arith
how_many-le m (suc n) = omega (arith, how_many-le m n, at_most_one (m n))

-- the tags below a + b are those below a and the b tags from a on
pub how_many-add : (m : ℕ → Bool) (a b : ℕ) → how_many m (a + b) ≡ how_many m a + how_many (λ k. m (a + k)) b
unfolding how_many
how_many-add m a zero = let e : a + 0 ≡ a = omega arith in ap (how_many m) e ∙ omega arith
how_many-add m a (suc b) =
    let e : a + suc b ≡ suc (a + b) = omega arith in
    ap (how_many m) e ∙ omega (arith, how_many-add m a b)

-- a mark at a tag that is not below n
pub how_many-with_mark_past : (m : ℕ → Bool) (t : ℕ) (b : Bool) (n : ℕ) → n ≤ t → how_many (with_mark m t b) n ≡ how_many m n
how_many-with_mark_past m t b n h =
    how_many-same (with_mark m t b) m n (λ k l. with_mark_elsewhere m t b k (λ e. omega arith))

-- a mark at a tag below n
step : (m : ℕ → Bool) (t : ℕ) (b : Bool) (n : ℕ) → t < suc n
    → (t < n → how_many (with_mark m t b) n + counted (m t) ≡ how_many m n + counted b)
    → how_many (with_mark m t b) (suc n) + counted (m t) ≡ how_many m (suc n) + counted b
step m t b n h before =
    let after = how_many-suc (with_mark m t b) n in
    let old = how_many-suc m n in
    elim (eqb_tells t n) [
      | inl e ↦
          let low = how_many-with_mark_past m t b n (omega arith) in
          let here = ap counted (ap (with_mark m t b) (sym e.1) ∙ with_mark_here m t b) in
          let there = ap (λ (k : ℕ). counted (m k)) e.1 in
          omega (arith, after, old, low, here, there)
      | inr e ↦
          let low = before (omega arith) in
          let here = ap counted (with_mark_elsewhere m t b n (λ p. e.1 (sym p))) in
          omega (arith, after, old, low, here)
    ]

pub how_many-with_mark : (m : ℕ → Bool) (t : ℕ) (b : Bool) (n : ℕ) → t < n → how_many (with_mark m t b) n + counted (m t) ≡ how_many m n + counted b
how_many-with_mark m t b zero h = absurd (omega arith)
how_many-with_mark m t b (suc n) h = step m t b n h (λ l. how_many-with_mark m t b n l)

-- a mark set
pub how_many-insert : (m : ℕ → Bool) (t n : ℕ) → m t ≡ false → t < n → how_many (with_mark m t true) n ≡ how_many m n + 1
how_many-insert m t n e h =
    let one = ap counted e in
    omega (arith, how_many-with_mark m t true n h, one)

-- a mark taken away: by this the number of marked tags goes down
pub how_many-remove : (m : ℕ → Bool) (t n : ℕ) → m t ≡ true → t < n → how_many (with_mark m t false) n + 1 ≡ how_many m n
how_many-remove m t n e h =
    let one = ap counted e in
    omega (arith, how_many-with_mark m t false n h, one)

-- where a tag below n is marked, their number is not 0
pub how_many_some : (m : ℕ → Bool) (t n : ℕ) → m t ≡ true → t < n → 0 < how_many m n
how_many_some m t n e h = omega (arith, how_many-remove m t n e h)

-- for the checks of those who mark tags
pub ruleset counting = (with_mark-at, how_many-remove, how_many-insert, how_many-none, how_many-le, how_many_some)
