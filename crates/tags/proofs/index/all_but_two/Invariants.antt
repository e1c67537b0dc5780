use Rattle.std.proofs.Common.{◌≡◌, ℕ, ◌<◌, ◌&&◌, nat_le, nat_lt}
use Rattle.marks.specs.Marks.{marked}
use Rattle.tags.proofs.index.all_but_two.Given as goal

-- The tags that were seen are marked, and no others.
abbrev pub invariant-loop-tag : goal.invariant-loop-tag
invariant-loop-tag l = (t : ℕ) → t < 128 → marked l.free t ≡ (nat_le 2 t && nat_lt t l.tag)
