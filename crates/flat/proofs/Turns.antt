-- Loops of steps, turn by turn: what run and trace have in common.
use Rattle.std.proofs.Common.{◌≡◌, ◌≤◌, ◌<◌, ℕ, zero, suc, ◌+◌, ◌-◌, Bool, true, false, refl, sym, ap, ◌∙◌, arith}
use Rattle.std.proofs.lemmas.Bool.{cond-true, cond-false}
use Rattle.flat.specs.Calls.{Steps, steps_while, no_steps, one_more}
use Rattle.flat.specs.Machine.{Machine}

-- After the steps s, those that are left of the limit come to what all come to.
abbrev pub Reached : (Steps → Bool) → ℕ → Machine → Steps → Type 0
Reached go limit start s = (s.ran.steps ≤ limit) × (steps_while go (limit - s.ran.steps) s ≡ steps_while go limit (no_steps start))

-- one step of a loop
more : (go : Steps → Bool) (n : ℕ) (s : Steps) → go s ≡ true → steps_while go (suc n) s ≡ steps_while go n (one_more s)
unfolding steps_while
more go n s h = cond-true _ _ _ h

-- a loop that stops
stops : (go : Steps → Bool) (n : ℕ) (s : Steps) → go s ≡ false → steps_while go n s ≡ s
unfolding steps_while
stops go zero s h = refl
stops go (suc n) s h = cond-false _ _ _ h

-- no steps were made
pub begins : (go : Steps → Bool) (limit : ℕ) (start : Machine) → Reached go limit start (no_steps start)
begins go limit start = (omega arith, ap (λ n. steps_while go n (no_steps start)) (omega arith))

steps_more : (s : Steps) → (one_more s).ran.steps ≡ s.ran.steps + 1
unfolding one_more
steps_more s = refl

-- one more step was made
pub turns : (go : Steps → Bool) (limit : ℕ) (start : Machine) (s : Steps) → Reached go limit start s → s.ran.steps < limit → go s ≡ true → Reached go limit start (one_more s)
turns go limit start s h l on = (
  omega (arith, steps_more s, l),
  ap (λ n. steps_while go (limit - n) (one_more s)) (steps_more s)
      ∙ (sym (more go (limit - (s.ran.steps + 1)) s on)
      ∙ (ap (λ n. steps_while go n s) (omega (arith, l))
      ∙ h.1)),
)

-- the limit is reached
pub ends : (go : Steps → Bool) (limit : ℕ) (start : Machine) (s : Steps) → Reached go limit start s → limit ≤ s.ran.steps → s ≡ steps_while go limit (no_steps start)
unfolding steps_while
ends go limit start s h l =
    let z : limit - s.ran.steps ≡ 0 = omega (arith, l) in
    sym (ap (λ n. steps_while go n s) z) ∙ h.1

-- or the loop stops before
pub breaks : (go : Steps → Bool) (limit : ℕ) (start : Machine) (s : Steps) → Reached go limit start s → go s ≡ false → s ≡ steps_while go limit (no_steps start)
breaks go limit start s h off = sym (stops go (limit - s.ran.steps) s off) ∙ h.1
