-- Where the bytes of a place fall, and what they leave in a store.
use Rattle.std.specs.Prelude.{◌≡◌, ℕ, suc, ◌+◌, ◌-◌, ◌*◌, ◌/◌, ◌<◌, true, false, if◌then◌else◌, ◌&&◌, List, [], ◌∷◌, length, ◌==◌, nat_le, nat_lt, slice_index}
use Rattle.store.specs.Meaning.{Meaning}

-- The line on which byte i falls of the bytes placed at an address. Past the last address come lines that no store has.
abbrev pub line_at : ℕ → ℕ → ℕ
line_at a i = (a + i) / 128

-- The line behind the last on which a byte falls, or the first line where there is no byte.
abbrev pub past_line : ℕ → List ℕ → ℕ
past_line a b = if length b == 0 then a / 128 else (a + length b + 127) / 128

-- Bytes fit a store where each falls on a line that can be written.
abbrev pub FitsIn : Meaning → ℕ → List ℕ → Type 0
FitsIn m a b = (i : ℕ) → i < length b → m.canwrite (line_at a i) ≡ true

-- n is the first line of the bytes that is missing or cannot be written.
abbrev pub Misfits : Meaning → ℕ → List ℕ → ℕ → Type 0
Misfits m a b n = (i : ℕ) × (i < length b) × (line_at a i ≡ n) × (m.canwrite n ≡ false) × ((j : ℕ) → j < i → m.canwrite (line_at a j) ≡ true)

-- The byte at address x once bytes b are placed at a, where it was old.
abbrev pub byte_at : ℕ → ℕ → List ℕ → ℕ → ℕ
byte_at x a b old = if nat_le a x && nat_lt x (a + length b) then slice_index b (x - a) else old

-- The same of bytes in a row, of which the first is at address x.
abbrev pub spliced : ℕ → List ℕ → ℕ → List ℕ → List ℕ
spliced x [] a b = []
spliced x (old ∷ more) a b = byte_at x a b old ∷ spliced (suc x) more a b

-- The store once bytes b are placed at address a.
unfoldable pub put : Meaning → ℕ → List ℕ → Meaning
put m a b = record { size = m.size; line = λ n. spliced (128 * n) (m.line n) a b; canwrite = m.canwrite; kept = m.kept }
