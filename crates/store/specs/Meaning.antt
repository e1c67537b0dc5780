-- What a store means.
use Rattle.std.specs.Prelude.{◌≡◌, ℕ, ◌<◌, ◌≤◌, Bool, true, if◌then◌else◌, List, length, ◌==◌}

-- What a store holds beside its lines and has to give back when it ends: nothing, a loan of bytes (its name, and the bytes past the last whole line), or what two stores hold.
pub data Kept : Type 0 where
  nothing : Kept
  loan : ℕ → List ℕ → Kept
  both : Kept → Kept → Kept

-- The number of lines, the bytes of each line below it, whether a line can be written, and what is kept beside the lines.
pub record Meaning : Type 0 where
  pub size : ℕ
  pub line : ℕ → List ℕ
  pub canwrite : ℕ → Bool
  pub kept : Kept

-- No store has more lines than this.
abbrev pub most : ℕ
most = 33554432

-- A store has at most 33,554,432 lines, each of 128 bytes, and only lines below its size can be written.
pub record Sound (m : Meaning) : Type 0 where
  pub bounded : m.size ≤ most
  pub whole : (n : ℕ) → n < m.size → length (m.line n) ≡ 128
  pub within : (n : ℕ) → m.canwrite n ≡ true → n < m.size

-- The store with line n's bytes replaced, and nothing else changed.
abbrev pub with_line : Meaning → ℕ → List ℕ → Meaning
with_line m n b = record { size = m.size; line = λ k. if k == n then b else m.line k; canwrite = m.canwrite; kept = m.kept }
