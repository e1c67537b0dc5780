-- What loading an image into a store answers, and what the store holds then.
use Rattle.std.specs.Prelude.{◌≡◌, ℕ, List, [], ◌∷◌, Ok, Err, Result}
use Rattle.store.specs.declared.fault.LineFault.{LineFault}
use Rattle.store.specs.Kinds.{fuse, ram}
use Rattle.store.specs.Meaning.{Meaning}
use Rattle.store.specs.Rules.{refused}
use Rattle.image.specs.declared.fault.Cause.{Cause}
use Rattle.image.specs.declared.fault.Cause.TheVariants.{Form, Line}
use Rattle.image.specs.declared.fault.Fault.{Fault}
use Rattle.image.specs.Format.{Placed, Image, Malformed}
use Rattle.image.specs.Placing.{FitsIn, Misfits, put}

-- Every place fits.
abbrev pub AllFit : Meaning → List Placed → Type 0
AllFit m [] = Unit {0}
AllFit m (p ∷ ps) = FitsIn m p.address p.bytes × AllFit m ps

-- The first place that does not fit begins at byte place x, and n is its first line at fault.
pub data FirstMisfit : Meaning → List Placed → ℕ → ℕ → Type 0 where
  this : {m : Meaning} {p : Placed} {ps : List Placed} {n : ℕ} → Misfits m p.address p.bytes n → FirstMisfit m (p ∷ ps) p.at n
  next : {m : Meaning} {p : Placed} {ps : List Placed} {x n : ℕ} → FitsIn m p.address p.bytes → FirstMisfit m ps x n → FirstMisfit m (p ∷ ps) x n

-- The store once all places are written, in order.
abbrev pub put_all : Meaning → List Placed → Meaning
put_all m [] = m
put_all m (p ∷ ps) = put_all (put m p.address p.bytes) ps

-- The store takes every line of a place, or the first that it does not take is at fault, for the store's own reason.
abbrev pub PlaceChecks : Meaning → ℕ → List ℕ → Result (Unit {0}) LineFault → Type 0
PlaceChecks m a b (Ok _) = FitsIn m a b
PlaceChecks m a b (Err e) = Misfits m a b e.line × (e ≡ refused m e.line)

-- The image's records are whole, and every place fits.
abbrev pub Good : Meaning → List ℕ → List Placed → Type 0
Good m image ps = Image 0 image ps × AllFit m ps

-- The fault that an image carries into a store: its first malformed record; or, if there is none, its first place that does not fit, for the store's own reason.
abbrev pub Faulty : Meaning → List ℕ → ℕ → Cause → Type 0
Faulty m image x (Form r) = Malformed 0 image x r
Faulty m image x (Line e) = (ps : List Placed) × Image 0 image ps × FirstMisfit m ps x e.line × (e ≡ refused m e.line)

-- Every place of an image with whole records fits, or the first that does not is at fault.
abbrev pub PlacesCheck : Meaning → List ℕ → Result (Unit {0}) Fault → Type 0
PlacesCheck m image (Ok _) = (ps : List Placed) × Good m image ps
PlacesCheck m image (Err f) = Faulty m image f.at f.cause

-- An accepted image leaves its places written, in order, and nothing else changed. A refused one leaves the store as it was.
abbrev pub Loads : Meaning → List ℕ → Result (Unit {0}) Fault → Meaning → Type 0
Loads m image (Ok _) after = (ps : List Placed) × Good m image ps × (after ≡ put_all m ps)
Loads m image (Err f) after = Faulty m image f.at f.cause × (after ≡ m)

-- Of an image and a store there is one outcome: this one.
pub record TheOutcome (m : Meaning) (image : List ℕ) (r : Result (Unit {0}) Fault) (after : Meaning) : Type 0 where
  pub loads : Loads m image r after
  pub only : (s : Result (Unit {0}) Fault) (other : Meaning) → Loads m image s other → (s ≡ r) × (other ≡ after)

-- Loading into bytes that a caller lends as RAM, beneath a fuse, whatever name the loan has. The bytes are then those of the store's meaning: its lines, and the bytes past the last whole line as they were. A refused image leaves them as they were.
abbrev pub LoadsBytes : ℕ → List ℕ → List ℕ → Result (Unit {0}) Fault → List ℕ → Type 0
LoadsBytes below before image (Ok x) after = (name : ℕ) × Loads (fuse below (ram name before)) image (Ok x) (fuse below (ram name after))
LoadsBytes below before image (Err f) after = (name : ℕ) × Faulty (fuse below (ram name before)) image f.at f.cause × (after ≡ before)
