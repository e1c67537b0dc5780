use Rattle.std.proofs.Common.{rules, ◌≡◌, ◌<◌, ℕ, ◌≤◌, Option, Some, None, MatchOption}
use Rattle.std.proofs.lemmas.Iterator.{first_from_Range}
use Rattle.store.specs.Meaning.{Meaning}
use Rattle.survey.specs.Runs.{FirstUnlike, line_of}
use Rattle.survey.specs.declared.runs.Line.{Line}
use Rattle.survey.proofs.runs.first_unlike.Goals as goal

module _ (m : Meaning) (n : ℕ) (line : Line) where
  -- Line k shows the line.
  abbrev Alike : ℕ → Type 0
  Alike k = line_of m k ≡ line

  -- Line k shows something else, or is not there.
  abbrev Unlike : ℕ → Type 0
  Unlike k = k < m.size → line_of m k ≡ line → ⊥

  first : (r : Option ℕ) → MatchOption r ((k : ℕ) → n ≤ k → k < m.size → Alike k) (λ i. (n ≤ i) × (i < m.size) × Unlike i × ((k : ℕ) → n ≤ k → k < i → Alike k)) → FirstUnlike m n line r
  first None h = h
  first (Some i) h = (h.0, h.1, h.2 h.1, h.3)

pub returns : goal.returns
returns g c =
    let m = g.S.Store.meaning c.args.store.now in
    let found = first_from_Range _ _ _ c.find.result (Unlike m c.args.from c.args.line.now) (Alike m c.args.from c.args.line.now) c.find.ensures.ran (λ x q k. search rules) (λ x q k. search rules) in
    first m c.args.from c.args.line.now c.find.result (rw c.size.ensures at found)
