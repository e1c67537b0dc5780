-- What the image loader refuses, with its numbers.
use Rattle.std.specs.Prelude.{ℕ}
use Rattle.image.specs.declared.fault.ImageRefusal.{ImageRefusal}
use Rattle.image.specs.declared.fault.ImageRefusal.TheVariants.{Cut, Kind, Place}

abbrev pub refusal_number : ImageRefusal → ℕ
refusal_number Cut = 7
refusal_number Kind = 8
refusal_number Place = 9
