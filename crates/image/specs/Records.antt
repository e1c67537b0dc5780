-- What the functions that read records answer.
use Rattle.std.specs.Prelude.{◌≡◌, ℕ, suc, ◌+◌, ◌-◌, ◌≤◌, List, length, drop, Some, None, Ok, Err, Option, Result}
use Rattle.image.specs.declared.fault.ImageRefusal.{ImageRefusal}
use Rattle.image.specs.declared.fault.Cause.{Cause}
use Rattle.image.specs.declared.fault.Cause.TheVariants.{Form, Line}
use Rattle.image.specs.declared.fault.Fault.{Fault}
use Rattle.image.specs.declared.place.Place.{Place}
use Rattle.image.specs.Format.{Front, places, ends, bad, front, taken, Placed, Image, Malformed}

-- The record that was read is the one that stands there: a place, or the end.
abbrev pub Shows : Front → Result (Option Place) ImageRefusal → Type 0
Shows f (Ok (Some p)) = f ≡ places p.address p.bytes.now
Shows f (Ok None) = f ≡ ends
Shows f (Err r) = f ≡ bad r

-- A fault of form in the bytes from byte place `at` on.
abbrev pub IllFormed : ℕ → List ℕ → ℕ → Cause → Type 0
IllFormed at bs x (Form r) = Malformed at bs x r
IllFormed at bs x (Line e) = ⊥

-- What the record at byte place `at` gives, and where the next one begins: a place, and it begins behind; a fault, and there is none; nothing, at an end with nothing behind it. Once there is none, nothing is given.
abbrev pub Gives : List ℕ → Option ℕ → Option (Result (ℕ × Place) Fault) → Option ℕ → Type 0
Gives image (Some at) (Some (Ok p)) next = (p.0 ≡ at) × (front (drop at image) ≡ places p.1.address p.1.bytes.now) × (next ≡ Some (at + taken p.1.bytes.now)) × (at + taken p.1.bytes.now ≤ length image)
Gives image (Some at) (Some (Err f)) next = IllFormed at (drop at image) f.at f.cause × (next ≡ None)
Gives image (Some at) None next = (front (drop at image) ≡ ends) × (length (drop at image) ≡ 6) × (next ≡ None)
Gives image None (Some r) next = ⊥
Gives image None None next = next ≡ None

-- No more records than this are still to come.
abbrev pub left : List ℕ → Option ℕ → ℕ
left image (Some at) = suc (length image - at)
left image None = 0

-- All records are whole, or the first that is not is at fault.
abbrev pub Checks : List ℕ → Result (Unit {0}) Fault → Type 0
Checks image (Ok _) = (ps : List Placed) × Image 0 image ps
Checks image (Err f) = IllFormed 0 image f.at f.cause
