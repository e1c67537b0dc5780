-- Which texts of digits may be a number in decimal.
use Rattle.std.specs.Prelude.{◌≡◌, ◌≢◌, ℕ, List, length, slice_index}

-- There is no plus in front (code 43), and a zero in front (48) only where it is all there is.
abbrev pub Plain : List ℕ → Type 0
Plain text = (slice_index text 0 ≢ 43) × (slice_index text 0 ≡ 48 → length text ≡ 1)
