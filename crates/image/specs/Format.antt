-- The format of an image: records, each with a 6-byte header (the body's length in 4 bytes, the kind in 2) and a body. Kind 1 places bytes: a 4-byte address, and then the bytes. Kind 2 ends the image and has no body.
use Rattle.std.specs.Prelude.{◌≡◌, ℕ, ◌+◌, ◌-◌, ◌*◌, ◌<◌, if◌then◌else◌, ◌||◌, List, [], ◌∷◌, length, take, drop, ◌==◌, nat_lt, slice_index}
use Rattle.image.specs.declared.fault.ImageRefusal.{ImageRefusal}
use Rattle.image.specs.declared.fault.ImageRefusal.TheVariants.{Cut, Kind}

-- The little-endian number in the two, or the four, bytes from place k on.
abbrev pub two : List ℕ → ℕ → ℕ
two bs k = slice_index bs k + slice_index bs (k + 1) * 256

abbrev pub four : List ℕ → ℕ → ℕ
four bs k = two bs k + slice_index bs (k + 2) * 65536 + slice_index bs (k + 3) * 16777216

abbrev pub body_length : List ℕ → ℕ
body_length bs = four bs 0

abbrev pub kind : List ℕ → ℕ
kind bs = two bs 4

-- What stands at the front of some bytes: a record that places bytes at an address, the end, or a record at fault.
pub data Front : Type 0 where
  places : ℕ → List ℕ → Front
  ends : Front
  bad : ImageRefusal → Front

-- A place has at least its address in its body, and its body is not cut.
abbrev pub front_place : List ℕ → Front
front_place bs =
    if nat_lt (body_length bs) 4 || nat_lt (length bs) (6 + body_length bs) then bad Cut
    else places (four bs 6) (take (body_length bs - 4) (drop 10 bs))

-- An end has no body.
abbrev pub front_end : List ℕ → Front
front_end bs = if body_length bs == 0 then ends else bad Kind

-- A record is checked for its header, then its kind, then its body.
unfoldable pub front : List ℕ → Front
front bs =
    if nat_lt (length bs) 6 then bad Cut
    else if kind bs == 1 then front_place bs
    else if kind bs == 2 then front_end bs
    else bad Kind

-- A place of an image: the byte place where its record begins, the address where its bytes go, and the bytes.
pub record Placed : Type 0 where
  pub at : ℕ
  pub address : ℕ
  pub bytes : List ℕ

-- The number of bytes that a record takes which places some bytes.
abbrev pub taken : List ℕ → ℕ
taken bytes = 10 + length bytes

-- The bytes, which begin at byte place `at` of the image, are whole records: these places in order, and then the end with nothing behind it.
pub data Image : ℕ → List ℕ → List Placed → Type 0 where
  ended : {at : ℕ} {bs : List ℕ} → front bs ≡ ends → length bs ≡ 6 → Image at bs []
  placed : {at : ℕ} {bs : List ℕ} {a : ℕ} {b : List ℕ} {ps : List Placed} → front bs ≡ places a b → Image (at + taken b) (drop (taken b) bs) ps → Image at bs (record { at = at; address = a; bytes = b } ∷ ps)

-- The first record at fault among them begins at byte place x, and this is the refusal. A missing end and bytes behind the end count as records.
pub data Malformed : ℕ → List ℕ → ℕ → ImageRefusal → Type 0 where
  here : {at : ℕ} {bs : List ℕ} {r : ImageRefusal} → front bs ≡ bad r → Malformed at bs at r
  behind : {at : ℕ} {bs : List ℕ} → front bs ≡ ends → 6 < length bs → Malformed at bs (at + 6) Cut
  later : {at : ℕ} {bs : List ℕ} {a : ℕ} {b : List ℕ} {x : ℕ} {r : ImageRefusal} → front bs ≡ places a b → Malformed (at + taken b) (drop (taken b) bs) x r → Malformed at bs x r
