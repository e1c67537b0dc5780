-- What became of an image.
use Rattle.std.specs.Prelude.{◌≡◌, ℕ, List, length, Ok, Err, Result}
use Rattle.store.specs.Meaning.{Meaning}
use Rattle.image.specs.declared.fault.Fault.{Fault}
use Rattle.image.specs.Loading.{Loads}

-- An image is taken, with all its bytes counted, where it loads. Where it does not, it is refused with the fault, and the store is as it was.
abbrev pub Takes : Meaning → List ℕ → Result ℕ Fault → Meaning → Type 0
Takes m image (Ok count) after = (count ≡ length image) × Loads m image (Ok tt) after
Takes m image (Err fault) after = Loads m image (Err fault) after
