-- What is counted of the runs so far makes up, with what is counted of the others, the count of all.
use Rattle.std.proofs.Common.{◌≡◌, ℕ, ◌+◌, ◌*◌, ◌≤◌}
use Rattle.survey.specs.Counts.{UndefinedFrom}
use Rattle.survey.proofs.counting.undefined_words.Given as goal

abbrev pub invariant-loop-run : goal.invariant-loop-run
invariant-loop-run g l =
    let m = g.S.Store.meaning l.store in
    let from = l.run-iterator.from in
    (l.run-iterator.store.now ≡ l.store) × (from ≤ m.size) × (l.total ≤ 32 * from) × ((n : ℕ) → UndefinedFrom m from n → UndefinedFrom m 0 (l.total + n))
