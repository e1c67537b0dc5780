-- One place more, in what is said of the places below k.
use Rattle.std.proofs.Common.{◌≡◌, ℕ, ◌+◌, Bool, false, ◌||◌, refl, ap, add-one}
use Rattle.line.specs.Dividing.{somewhere}
use Rattle.line.specs.Reductions.{over}
use Rattle.scalar.proofs.Casts.{cast-residue}

pub somewhere_none : (p : ℕ → Bool) → somewhere p 0 ≡ false
unfolding somewhere
somewhere_none p = refl

pub somewhere_more : (p : ℕ → Bool) (k : ℕ) → somewhere p (k + 1) ≡ (somewhere p k || p k)
unfolding somewhere
somewhere_more p k = ap (somewhere p) (add-one k)

pub over_none : {X : Type 0} (step : X → ℕ → X) (a : X) → over step a 0 ≡ a
unfolding over
over_none step a = refl

pub over_more : {X : Type 0} (step : X → ℕ → X) (a : X) (k : ℕ) → over step a (k + 1) ≡ step (over step a k) k
unfolding over
over_more step a k = ap (over step a) (add-one k)

pub ruleset places = (somewhere_none, somewhere_more, over_none, over_more, cast-residue)
