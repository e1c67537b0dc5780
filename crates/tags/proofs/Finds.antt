-- The tag that holds a line.
use Rattle.std.proofs.Common.{◌≡◌, ◌≢◌, ℕ, ◌<◌, if◌then◌else◌, ◌==◌, true, false, Bool, nat_lt, List, length, slice_index, set, Option, Some, None, refl, rules, arith}
use Rattle.std.specs.List.{position}
use Rattle.std.specs.Option.{IsSome}
use Rattle.std.proofs.lemmas.Bool.Decides.{nat_tests}
use Rattle.std.proofs.lemmas.List.{length-set}
use Rattle.std.proofs.lemmas.List.Folds.{position_or_len-set}
use Rattle.std.proofs.lemmas.List.Sums.{position_or_len_is, fails_before_first}
use Rattle.std.proofs.lemmas.List.Quantifiers.{position-Some}
use Rattle.tags.specs.Names.{find, all_lines}

-- The one tag that holds a line is found.
pub find_is : (lines : List ℕ) (n t : ℕ) → n < all_lines → t < length lines → slice_index lines t ≡ n → ((k : ℕ) → k < length lines → slice_index lines k ≡ n → k ≡ t) → find lines n ≡ Some t
unfolding find
find_is lines n t small h e only =
    let p = position_or_len_is (λ l. l == n) lines t 0 (omega arith) (λ k hk. grind (arith, nat_tests, only k)) (λ _. grind (arith, nat_tests)) in
    grind (arith, nat_tests)

find_none_at : (lines : List ℕ) (n : ℕ) (b : Bool) → nat_lt n all_lines ≡ b → ((k : ℕ) → k < length lines → n < all_lines → slice_index lines k ≢ n) → (if b then position (λ l. l == n) lines else None) ≡ None
find_none_at lines n false e none = refl
find_none_at lines n true e none =
    let p = position_or_len_is (λ l. l == n) lines (length lines) 0 (omega arith) (λ k hk. grind (arith, nat_tests, none k)) (λ q. absurd (omega arith)) in
    grind (arith, nat_tests)

-- A line that no tag holds is not found.
pub find_none : (lines : List ℕ) (n : ℕ) → ((k : ℕ) → k < length lines → n < all_lines → slice_index lines k ≢ n) → find lines n ≡ None
unfolding find
find_none lines n none = find_none_at lines n (nat_lt n all_lines) refl none

-- A tag that is found holds the line.
pub found : (lines : List ℕ) (n t : ℕ) → find lines n ≡ Some t → (n < all_lines) × (t < length lines) × (slice_index lines t ≡ n)
unfolding find
found lines n t e =
    let p = position-Some (λ l. l == n) lines t 0 in
    (grind (arith, nat_tests), grind (arith, nat_tests), grind (arith, nat_tests))

-- What is not found no tag holds.
pub not_found : (lines : List ℕ) (n : ℕ) → n < all_lines → find lines n ≡ None → (k : ℕ) → k < length lines → slice_index lines k ≢ n
unfolding find
not_found lines n small e k h =
    let f = fails_before_first (λ l. l == n) lines k 0 in
    grind (arith, nat_tests)

set_at : (lines : List ℕ) (i y n : ℕ) (b : Bool) → nat_lt n all_lines ≡ b → (n < all_lines → (y == n) ≡ (slice_index lines i == n)) → (if b then position (λ l. l == n) (set lines i y) else None) ≡ (if b then position (λ l. l == n) lines else None)
set_at lines i y n true e h =
    simp (length-set, position_or_len-set (λ l. l == n) lines i y 0 (h (grind (arith, nat_tests))))
set_at lines i y n false e h = refl

-- A place that holds another line before and after leaves what is found.
pub find-set : (lines : List ℕ) (i y n : ℕ) → (n < all_lines → (y == n) ≡ (slice_index lines i == n)) → find (set lines i y) n ≡ find lines n
unfolding find
find-set lines i y n h = set_at lines i y n (nat_lt n all_lines) refl h

some_by : (lines : List ℕ) (n : ℕ) (o : Option ℕ) → position (λ l. l == n) lines ≡ o → (((k : ℕ) → k < length lines → slice_index lines k ≢ n) → ⊥) → IsSome o
some_by lines n (Some k) e some = search rules
some_by lines n None e some =
    absurd (some (λ k h. let f = fails_before_first (λ l. l == n) lines k 0 in grind (arith, nat_tests)))

-- Where some tag holds a number there is a first.
pub first_some : (lines : List ℕ) (n : ℕ) → (((k : ℕ) → k < length lines → slice_index lines k ≢ n) → ⊥) → IsSome (position (λ l. l == n) lines)
first_some lines n some = some_by lines n (position (λ l. l == n) lines) refl some

-- Where none is first no tag holds the number.
pub not_first : (lines : List ℕ) (n : ℕ) → position (λ l. l == n) lines ≡ None → (k : ℕ) → k < length lines → slice_index lines k ≢ n
not_first lines n e k h =
    let f = fails_before_first (λ l. l == n) lines k 0 in
    grind (arith, nat_tests)
