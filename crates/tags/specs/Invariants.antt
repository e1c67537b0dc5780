-- What holds of the columns of a bank.
use Rattle.std.specs.Prelude.{◌≡◌, ◌≢◌, ℕ, ◌<◌, ◌/◌, ◌%◌, ◌==◌, ◌&&◌, ◌^◌, Bool, false, nat_lt, if◌then◌else◌, set, List, length, slice_index, get_or, count_by, replicate}
use Rattle.flat.specs.Registers.{is_zero}
use Rattle.marks.specs.Marks.{marked}
use Rattle.tags.specs.declared.index.Index.{Index}

-- A tag that no register carries holds this in place of a line's number.
abbrev pub free : ℕ
free = 0xFFFF_FFFF

-- Tag 0, which stands for no line, holds this in place of a line's number.
abbrev pub unnamed : ℕ
unnamed = 0xFFFF_FFFE

-- One thing for each of 128 registers, tags or bytes.
unfoldable pub all : {X : Type 0} → X → List X
all x = replicate 128 x

-- 128 zero bytes.
abbrev pub no_bytes : List ℕ
no_bytes = all 0

-- How many registers carry tag t.
abbrev pub carriers : List ℕ → ℕ → ℕ
carriers carried t = count_by (λ c. c == t) carried

-- There are 128 registers and 128 tags.
abbrev pub Sized : List ℕ → List ℕ → List ℕ → List ℕ → Type 0
Sized addresses carried lines counts =
    (length addresses ≡ 128) × (length carried ≡ 128) × (length lines ≡ 128) × (length counts ≡ 128)

-- Addresses have 32 bits.
abbrev pub Small : List ℕ → Type 0
Small addresses = (r : ℕ) → slice_index addresses r < 2 ^ 32

-- Each of 128 tags has 128 bytes.
abbrev pub Whole : List (List ℕ) → Type 0
Whole bytes =
    (length bytes ≡ 128) × ((t : ℕ) → t < 128 → length (get_or bytes t no_bytes) ≡ 128)

-- Zero registers have address 0 and carry no tag.
abbrev pub NoTag : List ℕ → List ℕ → Type 0
NoTag addresses carried =
    (slice_index addresses 0 ≡ 0) × (slice_index addresses 64 ≡ 0) × (slice_index carried 0 ≡ 0) × (slice_index carried 64 ≡ 0)

-- Tag 0 names no line, counts no register and shows zero bytes.
abbrev pub NoLine : List ℕ → List ℕ → List (List ℕ) → Type 0
NoLine lines counts bytes =
    (slice_index lines 0 ≡ unnamed) × (slice_index counts 0 ≡ 0) × (get_or bytes 0 no_bytes ≡ no_bytes)

-- A register that carries a tag carries that of its line.
abbrev pub Linked : List ℕ → List ℕ → List ℕ → Type 0
Linked addresses carried lines =
    (r : ℕ) → r < 128 → slice_index carried r ≢ 0 → (slice_index carried r < 128) × (slice_index lines (slice_index carried r) ≡ slice_index addresses r / 128)

-- Each tag counts the registers that carry it.
abbrev pub Counted : List ℕ → List ℕ → Type 0
Counted carried counts = (t : ℕ) → 0 < t → t < 128 → slice_index counts t ≡ carriers carried t

-- A tag that no register carries is free.
abbrev pub Free : List ℕ → List ℕ → Type 0
Free counts lines = (t : ℕ) → 0 < t → t < 128 → slice_index counts t ≡ 0 → slice_index lines t ≡ free

-- No two tags hold one line.
abbrev pub Apart : List ℕ → Type 0
Apart lines =
    (t u : ℕ) → t < 128 → u < 128 → slice_index lines t ≢ free → slice_index lines t ≡ slice_index lines u → t ≡ u

-- The lines of the tags once one of tag t's carriers laid it down: the last leaves it free.
abbrev pub laid_down : List ℕ → List ℕ → ℕ → List ℕ
laid_down lines counts t = if slice_index counts t == 1 then set lines t free else lines

-- Every register but the zero registers carries a tag.
abbrev pub Warm : List ℕ → Type 0
Warm carried = (r : ℕ) → r < 128 → is_zero r ≡ false → slice_index carried r ≢ 0

-- The bytes of the tags once tag t is the one for a line: they stay where it held the line, and it gets the line's where it was free.
abbrev pub filled_for : ℕ → List ℕ → ℕ → List ℕ → List (List ℕ) → List (List ℕ)
filled_for line given t lines bytes =
    if slice_index lines t == line then bytes else set bytes t given

-- Whether what a tag holds in place of a line's number is one of bucket b.
abbrev pub falls : ℕ → ℕ → Bool
falls b l = nat_lt l (2 ^ 25) && (l % 128 == b)

-- Of each of 128 buckets it is known how many tags hold a line of it.
abbrev pub Held : List ℕ → List ℕ → Type 0
Held held lines =
    (length held ≡ 128) × ((b : ℕ) → b < 128 → slice_index held b ≡ count_by (falls b) lines)

-- The tags that hold no line are marked.
abbrev pub Spare : (ℕ → Bool) → List ℕ → Type 0
Spare spare lines = (t : ℕ) → t < 128 → spare t ≡ (slice_index lines t == free)

-- An index says where to look for the tags that hold lines.
abbrev pub Indexed : Index → List ℕ → Type 0
Indexed index lines = Held index.held lines × Spare (marked index.free) lines
