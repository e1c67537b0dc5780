-- Runs of equal lines.
use Rattle.std.specs.Prelude.{◌≡◌, ℕ, ◌<◌, ◌≤◌, List, Some, None, Option}
use Rattle.store.specs.Meaning.{Meaning}
use Rattle.survey.specs.declared.runs.Line.{Line}
use Rattle.survey.specs.declared.runs.Run.{Run}
use Rattle.survey.specs.Blank.{Blank, BlankBetween}

-- What line n of a store shows: its bytes, and whether it can be written.
abbrev pub line_of : Meaning → ℕ → Line
line_of m n = record { bytes = m.line n; writable = m.canwrite n }

-- The line of number n, where the store has it.
abbrev pub LineAt : Meaning → ℕ → Option Line → Type 0
LineAt m n (Some line) = (n < m.size) × (line ≡ line_of m n)
LineAt m n None = m.size ≤ n

-- A store has line n, and it shows this line.
abbrev pub HasLine : Meaning → ℕ → Line → Type 0
HasLine m n line = (n < m.size) × (line_of m n ≡ line)

-- r is the first line, from line n on, that does not show this line. There is none where all lines from line n on show it.
abbrev pub FirstUnlike : Meaning → ℕ → Line → Option ℕ → Type 0
FirstUnlike m n line (Some r) = (n ≤ r) × (r < m.size) × (line_of m r ≡ line → ⊥) × ((k : ℕ) → n ≤ k → k < r → line_of m k ≡ line)
FirstUnlike m n line None = (k : ℕ) → n ≤ k → k < m.size → line_of m k ≡ line

-- Line k is like line n: it shows the same.
abbrev pub Like : Meaning → ℕ → ℕ → Type 0
Like m n k = line_of m k ≡ line_of m n

-- r is the line behind the unbroken run of lines that begins at line n and are like it. Where the store has no line n there is no run, and r is n.
pub record RunAfter (m : Meaning) (n r : ℕ) : Type 0 where
  pub missing : m.size ≤ n → r ≡ n
  pub forward : n < m.size → n < r
  pub within : n < m.size → r ≤ m.size
  pub alike : (k : ℕ) → n ≤ k → k < r → Like m n k
  pub unlike : n < m.size → r < m.size → Like m n r → ⊥

-- A run of lines of a store: the line where it begins, the line behind it, and what its lines show.
pub record IsRun (m : Meaning) (run : Run) : Type 0 where
  pub there : run.first < m.size
  pub lines : RunAfter m run.first run.after
  pub line_is : run.line ≡ line_of m run.first

-- The bytes of line n, where the store has it and it is not blank.
abbrev pub Holds : Meaning → ℕ → Option (List ℕ) → Type 0
Holds m n (Some bytes) = (n < m.size) × (bytes ≡ m.line n) × (Blank (m.line n) → ⊥)
Holds m n None = n < m.size → Blank (m.line n)

-- The first line, from line n on, that is not blank, and its bytes. There is none where all lines from line n on are blank.
abbrev pub FirstHeld : Meaning → ℕ → Option (ℕ × List ℕ) → Type 0
FirstHeld m n (Some found) = (n ≤ found.0) × Holds m found.0 (Some found.1) × BlankBetween m n found.0
FirstHeld m n None = BlankBetween m n m.size

-- The first run, from line n on, of lines that are not blank. There is none where all lines from line n on are blank.
abbrev pub NextRun : Meaning → ℕ → Option Run → Type 0
NextRun m n (Some run) = IsRun m run × (n ≤ run.first) × BlankBetween m n run.first × (Blank run.line.bytes → ⊥)
NextRun m n None = BlankBetween m n m.size

-- The next run from line n on, and the line from which to look for the one after it: the line behind the run. Where there is no more run, it stays.
abbrev pub GivesRun : Meaning → ℕ → Option Run → ℕ → Type 0
GivesRun m n (Some run) next = NextRun m n (Some run) × (next ≡ run.after)
GivesRun m n None next = NextRun m n None × (next ≡ n)
