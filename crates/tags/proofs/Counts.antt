-- How many registers carry a tag: when a register takes or lays down one, and that one stays free.
use Rattle.std.proofs.Common.{◌≡◌, ◌≢◌, ℕ, zero, suc, ◌+◌, ◌<◌, ◌≤◌, cond, ◌==◌, true, false, Bool, nat_le, List, [], ◌∷◌, length, slice_index, set, count_by, refl, sym, ap, ◌∙◌, arith}
use Rattle.std.proofs.lemmas.Bool.Decides.{nat_tests}
use Rattle.std.proofs.lemmas.List.{length-set, get_or-set_same, get_or-set_other}
use Rattle.std.proofs.lemmas.List.Sums.{sum_by-set, sum_by-cons, count_by-le-length}
use Rattle.tags.specs.Invariants.{carriers}

-- One carrier, as a number.
abbrev pub one : Bool → ℕ
one b = cond b 1 0

-- A register that carried x carries y.
pub carriers-set : (xs : List ℕ) (r y t : ℕ) → r < length xs → carriers (set xs r y) t + one (slice_index xs r == t) ≡ carriers xs t + one (y == t)
carriers-set xs r y t h = sum_by-set (λ c. one (c == t)) xs r y 0 h

-- Without carriers nobody carries it.
pub nobody : (xs : List ℕ) (t : ℕ) → carriers xs t ≡ 0 → (k : ℕ) → k < length xs → slice_index xs k ≢ t
nobody [] t e k h = absurd (omega arith)
nobody (x ∷ xs) t e zero h = λ same. grind (arith, nat_tests, sum_by-cons (λ c. one (c == t)) x xs)
nobody (x ∷ xs) t e (suc k) h = nobody xs t (omega (arith, sum_by-cons (λ c. one (c == t)) x xs)) k (omega arith)

somebody_from : (x : ℕ) (xs : List ℕ) (t : ℕ) (b : Bool) → (x == t) ≡ b → 0 < carriers (x ∷ xs) t → (0 < carriers xs t → (k : ℕ) × (k < length xs) × (slice_index xs k ≡ t)) → (k : ℕ) × (k < length (x ∷ xs)) × (slice_index (x ∷ xs) k ≡ t)
somebody_from x xs t true e h more = (0, omega arith, grind (arith, nat_tests))
somebody_from x xs t false e h more =
    let m = more (grind (arith, nat_tests, sum_by-cons (λ c. one (c == t)) x xs)) in
    (suc m.0, omega arith, m.2)

-- With carriers somebody does.
pub somebody : (xs : List ℕ) (t : ℕ) → 0 < carriers xs t → (k : ℕ) × (k < length xs) × (slice_index xs k ≡ t)
somebody [] t h = absurd (omega arith)
somebody (x ∷ xs) t h = somebody_from x xs t (x == t) refl h (somebody xs t)

-- The carriers other than register r.
without : (xs : List ℕ) (r t : ℕ) → r < length xs → slice_index xs r ≡ t → carriers (set xs r (suc t)) t + 1 ≡ carriers xs t
without xs r t h e = grind (arith, nat_tests, carriers-set xs r (suc t) t h)

-- A register that carries a tag is one of its carriers.
pub carried_counts : (xs : List ℕ) (r t : ℕ) → r < length xs → slice_index xs r ≡ t → 0 < carriers xs t
carried_counts xs r t h e = omega (arith, without xs r t h e)

-- The one carrier of a tag is the only one.
pub alone : (xs : List ℕ) (r t k : ℕ) → r < length xs → slice_index xs r ≡ t → carriers xs t ≡ 1 → k < length xs → k ≢ r → slice_index xs k ≢ t
alone xs r t k h e one_only hk apart =
    let rest = nobody (set xs r (suc t)) t (omega (arith, without xs r t h e)) k (rw length-set hk) in
    λ same. rest (get_or-set_other xs r k (suc t) 0 apart ∙ same)

-- Where a tag has more carriers, another register carries it.
pub another : (xs : List ℕ) (r t : ℕ) → r < length xs → slice_index xs r ≡ t → carriers xs t ≢ 1 → (k : ℕ) × (k < length xs) × (k ≢ r) × (slice_index xs k ≡ t)
another xs r t h e more =
    let s = somebody (set xs r (suc t)) t (omega (arith, without xs r t h e)) in
    let apart : s.0 ≢ r = λ same. omega (arith, s.2, ap (λ k. slice_index (set xs r (suc t)) k) same, get_or-set_same xs r (suc t) 0 h) in
    (s.0, omega (arith, s.1, length-set xs r (suc t)), apart, sym (get_or-set_other xs r s.0 (suc t) 0 apart) ∙ s.2)

-- How many registers carry a tag up to m, or none.
abbrev up_to : List ℕ → ℕ → ℕ
up_to xs m = count_by (λ c. nat_le c m) xs

up_to_none : (xs : List ℕ) → up_to xs 0 ≡ carriers xs 0
up_to_none [] = refl
up_to_none (x ∷ xs) =
    grind (arith, nat_tests, up_to_none xs, sum_by-cons (λ c. one (nat_le c 0)) x xs, sum_by-cons (λ c. one (c == 0)) x xs)

up_to_next : (xs : List ℕ) (m : ℕ) → up_to xs (suc m) ≡ up_to xs m + carriers xs (suc m)
up_to_next [] m = refl
up_to_next (x ∷ xs) m =
    grind (
      arith,
      nat_tests,
      up_to_next xs m,
      sum_by-cons (λ c. one (nat_le c (suc m))) x xs,
      sum_by-cons (λ c. one (nat_le c m)) x xs,
      sum_by-cons (λ c. one (c == suc m)) x xs,
    )

all_used : (xs : List ℕ) (m : ℕ) → ((t : ℕ) → 0 < t → t ≤ m → 0 < carriers xs t) → carriers xs 0 + m ≤ up_to xs m
all_used xs zero h = omega (arith, up_to_none xs)
all_used xs (suc m) h =
    omega (arith, up_to_next xs m, all_used xs m (λ t p q. h t p (omega arith)), h (suc m) (omega arith) (omega arith))

-- Two registers that carry no tag leave one tag less than there are registers without a carrier.
pub too_many : (xs : List ℕ) (i j m : ℕ) → i < length xs → j < length xs → i ≢ j → slice_index xs i ≡ 0 → slice_index xs j ≡ 0 → length xs ≡ suc m → ((t : ℕ) → 0 < t → t ≤ m → 0 < carriers xs t) → ⊥
too_many xs i j m hi hj apart ei ej all h =
    let one_more = carried_counts (set xs i 1) j 0 (rw length-set hj) (get_or-set_other xs i j 1 0 (λ e. apart (sym e)) ∙ ej) in
    omega (arith, without xs i 0 hi ei, one_more, all_used xs m h, count_by-le-length (λ c. nat_le c m) xs)
