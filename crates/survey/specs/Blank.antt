-- Lines that hold nothing.
use Rattle.std.specs.Prelude.{◌≡◌, ℕ, ◌<◌, ◌≤◌, List, length, slice_index}
use Rattle.store.specs.Meaning.{Meaning}

-- Each byte of a line is 0.
abbrev pub Blank : List ℕ → Type 0
Blank line = (k : ℕ) → k < length line → slice_index line k ≡ 0

-- The lines of a store from one up to another are blank.
abbrev pub BlankBetween : Meaning → ℕ → ℕ → Type 0
BlankBetween m from to = (k : ℕ) → from ≤ k → k < to → Blank (m.line k)
