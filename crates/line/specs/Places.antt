-- The element at a place in a line.
use Rattle.std.specs.Prelude.{ℕ, ◌/◌}
use Rattle.word.specs.Types.{width}
use Rattle.word.specs.declared.element.ElementType.{ElementType}
use Rattle.line.specs.declared.places.Place.{Place}

-- The element that a byte belongs to has the number offset div width: the low bits of an address
-- that lies within an element fall away.
abbrev pub element_number : ElementType → Place → ℕ
element_number t place = place.offset / width t
