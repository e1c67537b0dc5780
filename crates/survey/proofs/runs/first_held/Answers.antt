use Rattle.std.proofs.Common.{rules, ◌≡◌, ◌<◌, ℕ, ◌≤◌, List, Option, Some, None, MatchOption, arith}
use Rattle.store.specs.Meaning.{Meaning}
use Rattle.survey.specs.Runs.{FirstHeld, Holds}
use Rattle.survey.proofs.Finding.{found}
use Rattle.survey.proofs.runs.first_held.Goals as goal

-- Line k is not blank, and is found with its bytes.
abbrev Finds : Meaning → ℕ → ℕ × List ℕ → Type 0
Finds m k line = (line.0 ≡ k) × Holds m k (Some line.1)

-- The first line from line n on that is found is the first that is not blank.
first : (m : Meaning) (n : ℕ) (r : Option (ℕ × List ℕ)) → MatchOption r ((k : ℕ) → n ≤ k → k < m.size → Holds m k None) (λ line. (i : ℕ) × (n ≤ i) × (i < m.size) × Finds m i line × ((k : ℕ) → n ≤ k → k < i → Holds m k None)) → FirstHeld m n r
first m n None h = λ k low high. h k low high high
first m n (Some line) h = rw h.3.0 (h.1, h.3.1, λ k low high. h.4 k low high (omega arith))

pub returns : goal.returns
returns g c =
    let m = g.S.Store.meaning c.args.store.now in
    let r = found _ _ (λ k. Holds m k None) (λ k line. Finds m k line) (λ a r q k. search rules) (λ x q k. search rules) (λ x y q k. search rules) _ c.find_map.result c.find_map.ensures.runs in
    first m c.args.from c.find_map.result (rw c.size.ensures at r)
