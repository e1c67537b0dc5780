-- One thing for each of 128.
use Rattle.std.proofs.Common.{◌≡◌, ℕ, ◌*◌, ◌<◌, ◌==◌, Bool, cond, count_by, length, get_or}
use Rattle.std.proofs.lemmas.List.{length-replicate, get_or-replicate}
use Rattle.std.proofs.lemmas.List.Folds.{sum_by-replicate}
use Rattle.tags.specs.Invariants.{all, carriers}

pub length-all : {X : Type 0} (x : X) → length (all x) ≡ 128
unfolding all
length-all {X} x = length-replicate {A = X} 128 x

pub get_or-all : {X : Type 0} (k : ℕ) (x d : X) → k < 128 → get_or (all x) k d ≡ x
unfolding all
get_or-all k x d h = get_or-replicate 128 k x d h

pub carriers-all : (x t : ℕ) → carriers (all x) t ≡ 128 * cond (x == t) 1 0
unfolding all
carriers-all x t = sum_by-replicate (λ c. cond (c == t) 1 0) 128 x

pub count-all : (p : ℕ → Bool) (x : ℕ) → count_by p (all x) ≡ 128 * cond (p x) 1 0
unfolding all
count-all p x = sum_by-replicate (λ c. cond (p c) 1 0) 128 x
