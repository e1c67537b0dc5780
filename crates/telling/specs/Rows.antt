-- The bytes and the words of a line in rows.
use Rattle.std.specs.Prelude.{ℕ, suc, zero, ◌+◌, ◌*◌, List, [], ◌∷◌, ◌++◌, codes, slice_range, flat_map}
use Rattle.text.specs.Hex.{hex}

-- Bytes in 2 digits and words in 8, with a space in front of each.
abbrev pub byte_row : List ℕ → List ℕ
byte_row bytes = flat_map (λ byte. codes " " ++ hex 2 byte) bytes

abbrev pub word_row : List ℕ → List ℕ
word_row words = flat_map (λ word. codes " " ++ hex 8 word) words

-- So many parts, one behind the other, from number 0 on.
unfoldable pub parts : (ℕ → List ℕ) → ℕ → List ℕ
parts part zero = []
parts part (suc n) = parts part n ++ part n

-- Row k on a new line (code 10), with a margin in front: 16 bytes to a row, or 4 words.
abbrev pub byte_line : List ℕ → List ℕ → ℕ → List ℕ
byte_line margin bytes k = 10 ∷ (margin ++ byte_row (slice_range bytes (16 * k) (16 * k + 16)))

abbrev pub word_line : List ℕ → ℕ → List ℕ
word_line words k = 10 ∷ (codes " " ++ word_row (slice_range words (4 * k) (4 * k + 4)))

-- 8 rows.
abbrev pub byte_rows : List ℕ → List ℕ → List ℕ
byte_rows margin bytes = parts (byte_line margin bytes) 8

abbrev pub word_rows : List ℕ → List ℕ
word_rows words = parts (word_line words) 8
