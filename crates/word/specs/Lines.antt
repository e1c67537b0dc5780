-- The words of a line.
use Rattle.std.specs.Prelude.{◌≡◌, ℕ, ◌+◌, ◌*◌, ◌<◌, List, length, slice_index}

-- The number of the four bytes from the place p on, the lowest byte first.
abbrev pub little_endian : List ℕ → ℕ → ℕ
little_endian bytes p = slice_index bytes p + slice_index bytes (p + 1) * 256 + slice_index bytes (p + 2) * 65536 + slice_index bytes (p + 3) * 16777216

-- A line has 32 words, and word k is made of its bytes 4 k to 4 k + 3.
abbrev pub WordsOf : List ℕ → List ℕ → Type 0
WordsOf line words = (length words ≡ 32) × ((k : ℕ) → k < 32 → slice_index words k ≡ little_endian line (4 * k))
