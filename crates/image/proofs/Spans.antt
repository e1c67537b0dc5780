-- The lines on which bytes fall.
use Rattle.std.proofs.Common.{◌≡◌, ℕ, ◌-◌, ◌*◌, ◌/◌, ◌+◌, ◌<◌, ◌≤◌, ◌≢◌, true, false, List, length, subst, arith}
use Rattle.std.proofs.lemmas.Bool.Decides.{nat_tests}
use Rattle.store.specs.Meaning.{Meaning}
use Rattle.image.specs.Placing.{line_at, past_line, FitsIn, Misfits}

module _ (a : ℕ) (b : List ℕ) where
  -- Where there is no byte, the past line is the first line.
  pub past_none : length b ≡ 0 → past_line a b ≡ a / 128
  past_none e = grind (arith, nat_tests)

  -- Where there are bytes, it is the line behind that of the last one.
  pub past_some : length b ≢ 0 → past_line a b ≡ (a + length b + 127) / 128
  past_some e = grind (arith, nat_tests)

  -- Each byte falls on a line below the past line.
  pub below_past : (i : ℕ) → i < length b → line_at a i < past_line a b
  below_past i h = grind (arith, nat_tests)

  -- The first byte on or behind line n is one of those placed, where n is one of their lines.
  pub first_byte : (n : ℕ) → a / 128 ≤ n → n < past_line a b → 128 * n - a < length b
  first_byte n low high = grind (arith, nat_tests)

pub on_some_byte : (a n : ℕ) → a / 128 ≤ n → line_at a (128 * n - a) ≡ n
on_some_byte a n low = omega arith

-- The first line that cannot be written is that of the first byte on it.
pub misfit : (m : Meaning) (a : ℕ) (b : List ℕ) (n : ℕ) → a / 128 ≤ n → n < past_line a b → m.canwrite n ≡ false → ((k : ℕ) → a / 128 ≤ k → k < n → m.canwrite k ≡ true) → Misfits m a b n
misfit m a b n low high fixed before =
    (128 * n - a, first_byte a b n low high, on_some_byte a n low, fixed, λ j h. before (line_at a j) (omega arith) (omega arith))

pub fits : (m : Meaning) (a : ℕ) (b : List ℕ) (n : ℕ) → past_line a b ≤ n → ((k : ℕ) → a / 128 ≤ k → k < n → m.canwrite k ≡ true) → FitsIn m a b
fits m a b n high before i h = let p : line_at a i < past_line a b = below_past a b i h in before (line_at a i) (omega arith) (omega arith)

-- Where bytes fit, each of their lines can be written.
pub line_fits : (m : Meaning) (a : ℕ) (b : List ℕ) (n : ℕ) → FitsIn m a b → a / 128 ≤ n → n < past_line a b → m.canwrite n ≡ true
line_fits m a b n fit low high = subst (λ k. m.canwrite k ≡ true) (on_some_byte a n low) (fit (128 * n - a) (first_byte a b n low high))

-- What the loop of check_place steps by.
pub ruleset span_steps = (misfit, fits)
