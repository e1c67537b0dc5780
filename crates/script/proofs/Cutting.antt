-- What stands in front of a space and behind it.
use Rattle.std.proofs.Common.{◌≡◌, ◌≢◌, ℕ, ◌<◌, ◌^◌, List, [], ◌∷◌, ◌++◌, length, get_or, arith, append_assoc, Option, Some, MatchOption, Bor}
use Rattle.std.specs.Fmt.{decimal}
use Rattle.std.proofs.lemmas.Fmt.{digits_decimal}
use Rattle.std.proofs.lemmas.Str.Parse.{not_in_digits}
use Rattle.std.proofs.lemmas.Str.Pattern.{IsSplitOnceResult, split_after, split_parts}
use Rattle.script.proofs.Reading.{own}

-- No space stands in a number.
pub no_space : (n : ℕ) → n < 2 ^ 64 → (i : ℕ) → i < length (decimal n) → get_or (decimal n) i 0 ≢ 32
no_space n h = not_in_digits own (decimal n) 32 (digits_decimal own n h) (λ within. absurd (omega (arith, within.0)))

-- What is found behind a number and a space.
pub cut_found : (line : List ℕ) (r : Option (Bor (List ℕ) × Bor (List ℕ))) → IsSplitOnceResult 32 line r → (n : ℕ) (rest : List ℕ) → n < 2 ^ 64 → line ≡ (decimal n ++ 32 ∷ []) ++ rest → MatchOption r ⊥ (λ x. (x.0.now ≡ decimal n) × (x.1.now ≡ rest))
cut_found line r cut n rest h same = split_after 32 line (decimal n) rest r cut (omega arith) (simp append_assoc at same) (no_space n h)

-- What is cut is the line.
pub cut_read : (line : List ℕ) (x : Bor (List ℕ) × Bor (List ℕ)) → IsSplitOnceResult 32 line (Some x) → line ≡ (x.0.now ++ 32 ∷ []) ++ x.1.now
cut_read line x cut = let parts = split_parts 32 line (Some x) cut (omega arith) in simp append_assoc (parts.0)
