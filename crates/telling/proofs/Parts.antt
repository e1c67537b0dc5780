-- The parts so far, and one more.
use Rattle.std.proofs.Common.{ℕ, ◌+◌, ◌≡◌, List, [], ◌++◌, refl, add-one}
use Rattle.telling.specs.Rows.{parts}

pub none : (part : ℕ → List ℕ) → parts part 0 ≡ []
unfolding parts
none part = refl

pub one_more : (part : ℕ → List ℕ) (n : ℕ) → parts part (n + 1) ≡ parts part n ++ part n
unfolding parts
one_more part n = rw add-one refl

pub ruleset more_parts = (none, one_more)
