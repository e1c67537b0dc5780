-- Writing a place line by line.
use Rattle.std.proofs.Common.{◌≡◌, ℕ, ◌+◌, ◌*◌, ◌/◌, ◌<◌, ◌≤◌, List, refl, arith}
use Rattle.std.specs.Prelude.{if◌then◌else◌, nat_lt}
use Rattle.std.proofs.lemmas.Bool.Decides.{nat_tests}
use Rattle.store.specs.Meaning.{Meaning, Sound, with_line}
use Rattle.store.proofs.Lines.{same_meaning}
use Rattle.image.specs.Placing.{put, spliced, past_line, line_at, FitsIn}
use Rattle.image.proofs.Spans.{line_fits}
use Rattle.image.proofs.Splices.{spliced_none}

-- The store once what falls on the lines below n is written.
abbrev pub put_below : Meaning → ℕ → List ℕ → ℕ → Meaning
put_below m a b n = record { size = m.size; line = λ k. if nat_lt k n then spliced (128 * k) (m.line k) a b else m.line k; canwrite = m.canwrite; kept = m.kept }

module _ (m : Meaning) (a : ℕ) (b : List ℕ) (s : Sound m) (fits : FitsIn m a b) where
  -- A line before the first byte's keeps its bytes.
  line_before : (k : ℕ) → k < a / 128 → spliced (128 * k) (m.line k) a b ≡ m.line k
  line_before k h =
      spliced_none (128 * k) (m.line k) a b
      (λ i l. let there = s.within (line_at a 0) in let long = s.whole k in grind (arith, nat_tests, fits 0))

  -- So does one behind the last byte's.
  line_behind : (k : ℕ) → past_line a b ≤ k → spliced (128 * k) (m.line k) a b ≡ m.line k
  line_behind k h = spliced_none (128 * k) (m.line k) a b (λ i l. grind (arith, nat_tests))

  pub put_start : put_below m a b (a / 128) ≡ m
  put_start =
      same_meaning (put_below m a b (a / 128)) m refl (λ k. grind (arith, nat_tests, line_before k)) (λ k. refl) refl

  pub put_end : (n : ℕ) → past_line a b ≤ n → put_below m a b n ≡ put m a b
  unfolding put
  put_end n l =
      same_meaning (put_below m a b n) (put m a b) refl (λ k. grind (arith, nat_tests, line_behind k)) (λ k. refl) refl

-- The next line is written.
pub put_more : (m : Meaning) (a : ℕ) (b : List ℕ) (n : ℕ) → with_line (put_below m a b n) n (spliced (128 * n) ((put_below m a b n).line n) a b) ≡ put_below m a b (n + 1)
put_more m a b n =
    same_meaning (with_line (put_below m a b n) n (spliced (128 * n) ((put_below m a b n).line n) a b)) (put_below m a b (n + 1)) refl
    (λ k. grind (arith, nat_tests)) (λ k. refl) refl

-- What the loop of put_place steps by.
pub ruleset line_steps = (line_fits, put_start, put_more, put_end)
