-- Which line each register names, by which tag, and what bytes it has.
use Rattle.std.specs.Prelude.{◌≡◌, ◌≢◌, ℕ, ◌<◌, ◌/◌, ◌==◌, ◌^◌, false, not, ◌&&◌, if◌then◌else◌, Option, Some, None, unwrap_or, is_none, is_some, ◌↔◌, List, length, slice_index, get_or, position, nat_lt}
use Rattle.flat.specs.Registers.{is_zero, shared}
use Rattle.marks.specs.Marks.{how_many}
use Rattle.tags.specs.Invariants.{no_bytes}

-- The address of each register, the tag in use that names each line, and the bytes of each tag.
pub record Names : Type 0 where
  pub address : ℕ → ℕ
  pub tag : ℕ → Option ℕ
  pub bytes : ℕ → List ℕ

-- The number of lines that 32-bit addresses lie in.
abbrev pub all_lines : ℕ
all_lines = 2 ^ 25

-- The first tag that holds line n, where n is a line's number.
unfoldable pub find : List ℕ → ℕ → Option ℕ
find lines n = if nat_lt n all_lines then position (λ l. l == n) lines else None

-- What the columns of a bank show.
unfoldable pub names_of : List ℕ → List ℕ → List (List ℕ) → Names
names_of addresses lines bytes = record { address = slice_index addresses; tag = find lines; bytes = λ t. get_or bytes t no_bytes }

-- The tag of register r's line, and tag 0 for a zero register.
abbrev pub tag_of : Names → ℕ → ℕ
tag_of s r = if is_zero r then 0 else unwrap_or (s.tag (s.address r / 128)) 0

-- How many registers, zero registers aside, name the line of tag t.
unfoldable pub carriers_of : Names → ℕ → ℕ
carriers_of s t =
    how_many (λ r. not (is_zero r) && is_some (s.tag (s.address r / 128)) && (tag_of s r == t)) 128

-- Tag t names the line in o, or none.
abbrev pub IsLineOf : Names → ℕ → Option ℕ → Type 0
IsLineOf s t o = (n : ℕ) → (s.tag n ≡ Some t) ↔ (o ≡ Some n)

-- Every register at address 0, where the bytes are b; tag 1 names line 0.
unfoldable pub started : List ℕ → Names
started b = record { address = λ _. 0; tag = λ n. if n == 0 then Some 1 else None; bytes = λ t. if t == 1 then b else no_bytes }

-- The line of register r has the bytes b. A zero register's keeps its zeros.
unfoldable pub written : ℕ → List ℕ → Names → Names
written r b s =
    if is_zero r then s else record { address = s.address; tag = s.tag; bytes = λ t. if t == tag_of s r then b else s.bytes t }

-- Register r goes to address a. A line that no tag names gets tag u, and u the bytes b; the line that r leaves loses its tag when no other register names it. A zero register stays.
unfoldable pub gone : ℕ → ℕ → ℕ → List ℕ → Names → Names
gone r a u b s =
    if is_zero r
    then s
    else record {
      address = λ q. if q == r then a else s.address q;
      tag = λ n. if n == a / 128 then Some (unwrap_or (s.tag n) u) else if n == s.address r / 128 && not (shared s.address r) then None else s.tag n;
      bytes = λ t. if t == u && is_none (s.tag (a / 128)) then b else s.bytes t;
    }

-- Tag u names no line.
abbrev pub Unused : Names → ℕ → Type 0
Unused s u = (0 < u) × (u < 128) × ((n : ℕ) → s.tag n ≢ Some u)

-- Register r goes to address a, on a line whose bytes are b where no tag names it. The tag that such a line gets is free to choose among those that name no line.
abbrev pub Goes : ℕ → ℕ → List ℕ → Names → Names → Type 0
Goes r a b before after =
    (u : ℕ) × (is_zero r ≡ false → before.tag (a / 128) ≡ None → Unused before u) × (after ≡ gone r a u b before)

-- Register r goes to address a and takes along the bytes of its line, which the line there has then, whatever it had. The tag is as free to choose.
abbrev pub Carries : ℕ → ℕ → Names → Names → Type 0
Carries r a before after =
    (u : ℕ) × (is_zero r ≡ false → before.tag (a / 128) ≡ None → Unused before u) × (after ≡ written r (before.bytes (tag_of before r)) (gone r a u no_bytes before))

-- What holds of every bank.
pub record Sound (s : Names) : Type 0 where
  -- the line of a register has a tag, zero registers aside
  pub linked : (r : ℕ) → r < 128 → is_zero r ≡ false → s.tag (s.address r / 128) ≡ Some (tag_of s r)
  -- a line that has a tag is named by some register
  pub used : (n t : ℕ) → s.tag n ≡ Some t → (r : ℕ) × (r < 128) × (is_zero r ≡ false) × (s.address r / 128 ≡ n)
  -- of each tag it is known which line it names, if any, and it names one
  pub named : (t : ℕ) → (o : Option ℕ) × IsLineOf s t o
  pub one : (n m t : ℕ) → s.tag n ≡ Some t → s.tag m ≡ Some t → n ≡ m
  -- tags are numbers from 1 to 127, lines are numbers of 25 bits and addresses numbers of 32 bits
  pub tags : (n t : ℕ) → s.tag n ≡ Some t → (0 < t) × (t < 128)
  pub lines : (n t : ℕ) → s.tag n ≡ Some t → n < all_lines
  pub addresses : (r : ℕ) → s.address r < 2 ^ 32
  -- two registers have one tag exactly when they name one line, zero registers aside
  pub shares : (q r : ℕ) → q < 128 → r < 128 → is_zero q ≡ false → is_zero r ≡ false → (tag_of s q ≡ tag_of s r) ↔ (s.address q / 128 ≡ s.address r / 128)
  -- zero registers have address 0 and show zeros
  pub zero_user : s.address 0 ≡ 0
  pub zero_supervisor : s.address 64 ≡ 0
  pub zero_bytes : s.bytes 0 ≡ no_bytes
  -- every tag has 128 bytes
  pub whole : (t : ℕ) → length (s.bytes t) ≡ 128
