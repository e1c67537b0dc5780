-- Steps one after the other.
use Rattle.std.proofs.Common.{◌≡◌, ◌<◌, ℕ, zero, suc, Bool, true, false, if◌then◌else◌, refl, sym, subst, ap, ◌∙◌, ◌==◌, add-one, arith}
use Rattle.std.proofs.lemmas.Bool.Decides.{nat_tests}
use Rattle.flat.specs.Calls.{Steps, steps_while, no_steps, one_more}
use Rattle.flat.specs.Data.{Data}
use Rattle.flat.specs.Machine.{Machine}
use Rattle.flat.specs.Step.{step}
use Rattle.flat.proofs.Coherence.{Coherent, Sends, Goes}
use Rattle.flat.proofs.Stepping.{step_goes}
use Rattle.flat.specs.Leaving.{after_steps, is_left, LastLeft, LineAfter}

-- The data after k steps.
abbrev pub data_at : ℕ → Machine → Data
data_at k m = (after_steps k m).data_registers

next_goes : (k : ℕ) (m : Machine) → Coherent (data_at k m) → Goes (data_at k m) (data_at (suc k) m)
unfolding after_steps
next_goes k m c = step_goes (after_steps k m) c

module _ (m : Machine) (c : Coherent m.data_registers) where
  pub coherent_at : (k : ℕ) → Coherent (data_at k m)
  coherent_at zero = unfold after_steps in c
  coherent_at (suc k) = (next_goes k m (coherent_at k)).coherent

  -- Step k sends to the backing copy.
  sends_at : (k : ℕ) → Sends (data_at k m) (data_at (suc k) m)
  sends_at k = (next_goes k m (coherent_at k)).sends

  pub size_at : (k : ℕ) → (data_at k m).backing.size ≡ m.data_registers.backing.size
  size_at zero = unfold after_steps in refl
  size_at (suc k) = (sends_at k).size ∙ size_at k

  pub canwrite_at : (k : ℕ) → (data_at k m).backing.canwrite ≡ m.data_registers.backing.canwrite
  canwrite_at zero = unfold after_steps in refl
  canwrite_at (suc k) = (sends_at k).canwrite ∙ canwrite_at k

  pub beside_at : (k : ℕ) → (data_at k m).backing.kept ≡ m.data_registers.backing.kept
  beside_at zero = unfold after_steps in refl
  beside_at (suc k) = (sends_at k).beside ∙ beside_at k

  module _ (n : ℕ) (small : n < m.data_registers.backing.size) where
    within : (k : ℕ) → n < (data_at k m).backing.size
    within k = subst (λ (s : ℕ). n < s) (sym (size_at k)) small

    kept_at : (k : ℕ) → ((i : ℕ) → i < k → is_left n i m ≡ false) → (data_at k m).backing.line n ≡ m.data_registers.backing.line n
    kept_at zero h = unfold after_steps in refl
    kept_at (suc k) h = (sends_at k).others n (within k) (h k (omega arith)) ∙ kept_at k (λ i l. h i (omega arith))

    -- What it holds that was last left in step i: memory before that step and after it.
    abbrev Sent : ℕ → ℕ → Type 0
    Sent k i = ((data_at k m).backing.line n ≡ (data_at i m).memory n) × ((data_at k m).backing.line n ≡ (data_at (suc i) m).memory n)

    sent_now : (i k : ℕ) → i ≡ k → is_left n i m ≡ true → Sent (suc k) i
    sent_now i k same left =
        let l : is_left n k m ≡ true = sym (ap (λ j. is_left n j m) same) ∙ left in
        let e = (sends_at k).sent n (within k) l in (
          e ∙ sym (ap (λ j. (data_at j m).memory n) same),
          e ∙ (sym ((sends_at k).held n (within k) l) ∙ sym (ap (λ j. (data_at (suc j) m).memory n) same)),
        )

    sent_before : (i k : ℕ) → is_left n k m ≡ false → Sent k i → Sent (suc k) i
    sent_before i k stays s = let e = (sends_at k).others n (within k) stays in (e ∙ s.0, e ∙ s.1)

    sent_at : (k i : ℕ) → LastLeft n k i m → Sent k i
    sent_at zero i h = absurd (omega arith)
    sent_at (suc k) i h = by_place (sent_at k i) (i == k) refl
      where
        by_place : (LastLeft n k i m → Sent k i) → (b : Bool) → (i == k) ≡ b → Sent (suc k) i
        by_place before true e = sent_now i k (grind (arith, nat_tests, e)) h.1
        by_place before false e =
            let earlier : i < k = grind (arith, nat_tests, e, h.0) in
            sent_before i k (h.2 k earlier (omega arith)) (before (earlier, h.1, λ j l g. h.2 j l (omega arith)))

    -- The lines of the backing copy after k steps.
    pub line_at : (k : ℕ) → LineAfter n k m m.data_registers.backing (data_at k m).backing
    line_at k = record { kept = kept_at k; sent = sent_at k }

-- Steps that began at m have come to the machine after as many steps as they say.
abbrev pub Counted : Machine → Steps → Type 0
Counted m s = s.machine ≡ after_steps s.ran.steps m

one_counted : (m : Machine) (s : Steps) → Counted m s → Counted m (one_more s)
unfolding one_more after_steps
one_counted m s h = ap (λ (x : Machine). (step x).machine) h ∙ ap (λ k. after_steps k m) (sym (add-one s.ran.steps))

loop_by : (m : Machine) (b : Bool) (s t : Steps) → Counted m s → Counted m t → Counted m (if b then t else s)
loop_by m true s t h g = g
loop_by m false s t h g = h

loop_counted : (m : Machine) (go : Steps → Bool) (limit : ℕ) (s : Steps) → Counted m s → Counted m (steps_while go limit s)
unfolding steps_while
loop_counted m go zero s h = h
loop_counted m go (suc limit) s h = loop_by m (go s) s (steps_while go limit (one_more s)) h (loop_counted m go limit (one_more s) (one_counted m s h))

-- From no steps on.
pub run_counted : (m : Machine) (go : Steps → Bool) (limit : ℕ) → Counted m (steps_while go limit (no_steps m))
run_counted m go limit = loop_counted m go limit (no_steps m) (unfold after_steps in refl)
