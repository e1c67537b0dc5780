use Rattle.std.proofs.Common.{◌≡◌, ℕ, ◌/◌, ◌<◌, ◌≤◌, true}
use Rattle.image.proofs.places.check_place.Given as goal

-- The lines before this one can be written.
abbrev pub invariant-loop-line : goal.invariant-loop-line
invariant-loop-line g l = (k : ℕ) → l.place.address / 128 ≤ k → k < l.line → (g.S.Store.meaning l.store).canwrite k ≡ true
