-- What reading and writing a line answer, and what store and record hold then.
use Rattle.std.specs.Prelude.{◌≡◌, ℕ, ◌<◌, ◌≤◌, true, false, if◌then◌else◌, List, Ok, Err, Result, nat_lt}
use Rattle.store.specs.declared.fault.LineRefusal.TheVariants.{MissingLine, FixedLine}
use Rattle.store.specs.declared.fault.LineFault.{LineFault}
use Rattle.store.specs.Meaning.{Meaning, with_line}

-- Why a store refuses line n: a line that is not below the size is missing, and any other cannot be written.
abbrev pub refused : Meaning → ℕ → LineFault
refused m n = record { cause = if nat_lt n m.size then FixedLine else MissingLine; line = n }

-- Read gives the 128 bytes of a line below the size. It refuses any other line as missing, and leaves the record as it was.
abbrev pub Reads : Meaning → ℕ → List ℕ → Result (Unit {0}) LineFault → List ℕ → Type 0
Reads m n before (Ok _) after = (n < m.size) × (after ≡ m.line n)
Reads m n before (Err e) after = (m.size ≤ n) × (e ≡ refused m n) × (after ≡ before)

-- Write replaces the bytes of a line that can be written. It refuses any other line, missing before fixed, and leaves the store as it was.
abbrev pub Writes : Meaning → ℕ → List ℕ → Result (Unit {0}) LineFault → Meaning → Type 0
Writes m n b (Ok _) after = (m.canwrite n ≡ true) × (after ≡ with_line m n b)
Writes m n b (Err e) after = (m.canwrite n ≡ false) × (e ≡ refused m n) × (after ≡ m)

-- The store has line n, or refuses it.
abbrev pub Finds : Meaning → ℕ → Result (Unit {0}) LineFault → Type 0
Finds m n (Ok _) = n < m.size
Finds m n (Err e) = (m.size ≤ n) × (e ≡ refused m n)

-- The store would take line n, or refuses it.
abbrev pub Admits : Meaning → ℕ → Result (Unit {0}) LineFault → Type 0
Admits m n (Ok _) = m.canwrite n ≡ true
Admits m n (Err e) = (m.canwrite n ≡ false) × (e ≡ refused m n)
