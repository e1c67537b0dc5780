-- What each kind of store means. Sizes are cut at the most lines that a store has.
use Rattle.std.specs.Prelude.{ℕ, ◌+◌, ◌-◌, ◌*◌, ◌/◌, min, false, if◌then◌else◌, ◌&&◌, List, [], ◌++◌, length, take, drop, replicate, nat_le, nat_lt}
use Rattle.store.specs.Meaning.{Meaning, most, nothing, loan, both}

-- The 128 bytes from byte 128 × n on, or those of them that are there.
abbrev pub line_of : List ℕ → ℕ → List ℕ
line_of bytes n = take 128 (drop (128 * n) bytes)

-- The number of whole lines in some bytes.
abbrev pub whole_lines : List ℕ → ℕ
whole_lines bytes = min (length bytes / 128) most

-- RAM over bytes that a caller lent under a name: the whole lines, all writable. The bytes past them are kept.
abbrev pub ram : ℕ → List ℕ → Meaning
ram name bytes = record { size = whole_lines bytes; line = line_of bytes; canwrite = λ n. nat_lt n (whole_lines bytes); kept = loan name (drop (128 * whole_lines bytes) bytes) }

-- Bytes filled up to a line with one more byte as often as it takes.
unfoldable pub filled : List ℕ → ℕ → List ℕ
filled bytes more = bytes ++ replicate (128 - length bytes) more

-- The number of lines that some bytes take up, the last of them perhaps in part.
abbrev pub begun_lines : List ℕ → ℕ
begun_lines bytes = min ((length bytes + 127) / 128) most

-- ROM over bytes held for reading: its last line is filled up with zeros, and none is writable.
abbrev pub rom : List ℕ → Meaning
rom bytes = record { size = begun_lines bytes; line = λ n. filled (line_of bytes n) 0; canwrite = λ _. false; kept = nothing }

-- Open bus of a chosen size: every byte is 0xFF, and no line is writable.
abbrev pub open_bus : ℕ → Meaning
open_bus lines = record { size = min lines most; line = λ _. filled [] 0xFF; canwrite = λ _. false; kept = nothing }

-- A fuse: the lines below a number cannot be written. All else is the store's beneath it.
abbrev pub fuse : ℕ → Meaning → Meaning
fuse below m = record { size = m.size; line = m.line; canwrite = λ n. nat_le below n && m.canwrite n; kept = m.kept }

-- A split: the lines of one store, and after them those of another.
abbrev pub split : Meaning → Meaning → Meaning
split low high = record { size = min (low.size + high.size) most; line = λ n. if nat_lt n low.size then low.line n else high.line (n - low.size); canwrite = λ n. nat_lt n most && (if nat_lt n low.size then low.canwrite n else high.canwrite (n - low.size)); kept = both low.kept high.kept }
