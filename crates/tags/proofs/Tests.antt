-- Tests of the numbers below one.
use Rattle.std.proofs.Common.{◌≡◌, ℕ, zero, suc, ◌+◌, ◌<◌, ◌≤◌, Bool, true, false, cond, List, length, slice_index, take, count_by, add-one, refl, ap, ◌∙◌, arith}
use Rattle.std.proofs.lemmas.List.{take_all}
use Rattle.std.proofs.lemmas.List.Sums.{count_by_more_yes, count_by_more_no}
use Rattle.marks.specs.Marks.{how_many}

list_turn : (p : ℕ → Bool) (xs : List ℕ) (n m : ℕ) (b : Bool) → p (slice_index xs n) ≡ b → n < length xs → m ≡ count_by p (take n xs) → m + cond b 1 0 ≡ count_by p (take (n + 1) xs)
list_turn p xs n m true e h i = omega (arith, count_by_more_yes p xs n 0 h e)
list_turn p xs n m false e h i = omega (arith, count_by_more_no p xs n 0 h e)

list_count_to : (p : ℕ → Bool) (xs : List ℕ) (n : ℕ) → n ≤ length xs → how_many (λ k. p (slice_index xs k)) n ≡ count_by p (take n xs)
unfolding how_many
list_count_to p xs zero h = refl
list_count_to p xs (suc n) h =
    list_turn p xs n (how_many (λ k. p (slice_index xs k)) n) (p (slice_index xs n)) refl (omega arith) (list_count_to p xs n (omega arith))
    ∙ ap (λ k. count_by p (take k xs)) (add-one n)

-- The places of a list that pass are as many as its elements that do.
pub list_count : (p : ℕ → Bool) (xs : List ℕ) (n : ℕ) → length xs ≡ n → how_many (λ k. p (slice_index xs k)) n ≡ count_by p xs
list_count p xs n h = list_count_to p xs n (omega arith) ∙ ap (count_by p) (take_all n xs (omega arith))
