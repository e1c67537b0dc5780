-- What loading from a reader or a file answers and leaves.
use Rattle.std.specs.Prelude.{◌≡◌, ℕ, ◌≤◌, List, length, take, Ok, Err, Result, None, Option, IfSome}
use Rattle.store.specs.Meaning.{Meaning}
use Rattle.survey.specs.Outcomes.{Takes}
use Rattle.bench.specs.declared.fault.FileFault.{FileFault}
use Rattle.bench.specs.declared.fault.FileFault.TheVariants.{Missing, Unreadable, OutOfMemory, Refused}

-- What becomes of an image that was read: the store takes it, or refuses it for the image's own fault.
abbrev pub TakesRead : Meaning → List ℕ → Result ℕ FileFault → Meaning → Type 0
TakesRead m image (Ok count) after = Takes m image (Ok count) after
TakesRead m image (Err (Refused fault)) after = Takes m image (Err fault) after
TakesRead m image (Err Missing) after = ⊥
TakesRead m image (Err Unreadable) after = ⊥
TakesRead m image (Err OutOfMemory) after = ⊥

-- An image of at most so many bytes. Where it is known which bytes a reader gives, they are the first of these.
abbrev pub IsFront : ℕ → Option (List ℕ) → List ℕ → Type 0
IsFront most known image = (length image ≤ most) × IfSome known (λ given. image ≡ take most given)

-- The store takes the first 65,536 of a reader's bytes as an image, or refuses them. Where the reader fails, or for want of memory, it is as it was.
abbrev pub LoadsFrom : Meaning → Option (List ℕ) → Result ℕ FileFault → Meaning → Type 0
LoadsFrom m known (Ok count) after = (image : List ℕ) × IsFront 65536 known image × Takes m image (Ok count) after
LoadsFrom m known (Err (Refused fault)) after = (image : List ℕ) × IsFront 65536 known image × Takes m image (Err fault) after
LoadsFrom m known (Err Missing) after = after ≡ m
LoadsFrom m known (Err Unreadable) after = after ≡ m
LoadsFrom m known (Err OutOfMemory) after = after ≡ m

-- The same of a file, whose bytes are not known.
abbrev pub LoadsFile : Meaning → Result ℕ FileFault → Meaning → Type 0
LoadsFile m result after = LoadsFrom m None result after
