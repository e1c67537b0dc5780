-- Which of the tags 0 to 127 are marked. A set of marked tags is a test of numbers.
use Rattle.std.specs.Prelude.{if◌then◌else◌, ◌≡◌, ℕ, zero, suc, ◌+◌, ◌/◌, ◌%◌, ◌<◌, Bool, true, false, ◌==◌, nat_lt, slice_index, Option, Some, None}
use Rattle.std.specs.Int.{bit_at}
use Rattle.marks.specs.declared.Marks.{Marks}

-- No tag is marked.
abbrev pub none : ℕ → Bool
none t = false

-- Tag t is marked where b is true, and otherwise not; every other tag is as it was.
unfoldable pub with_mark : (ℕ → Bool) → ℕ → Bool → ℕ → Bool
with_mark m t b u = if u == t then b else m u

-- How many numbers below n pass a test: of the tags below n, how many are marked.
unfoldable pub how_many : (ℕ → Bool) → ℕ → ℕ
how_many m zero = 0
how_many m (suc n) = how_many m n + (if m n then 1 else 0)

-- Tag t is the lowest that is marked.
pub record Lowest (m : ℕ → Bool) (t : ℕ) : Type 0 where
  pub within : t < 128
  pub marked : m t ≡ true
  pub below : (u : ℕ) → u < t → m u ≡ false

-- The answer is the lowest marked tag, or None where no tag is marked.
abbrev pub Finds : (ℕ → Bool) → Option ℕ → Type 0
Finds m (Some t) = Lowest m t
Finds m None = m ≡ none

-- Tag t is marked by bit t % 64 of word t / 64, and no tag from 128 on is marked.
unfoldable pub marked : Marks → ℕ → Bool
marked m t = if nat_lt t 128 then bit_at (slice_index m.words (t / 64)) (t % 64) == 1 else false
