-- The types of elements: width and sign.
use Rattle.std.specs.Prelude.{ℕ, ◌*◌, ◌/◌, ◌%◌, ◌^◌, Bool, ◌==◌}
use Rattle.word.specs.Numbers.{type_number}
use Rattle.word.specs.declared.element.ElementType.{ElementType}

-- An element of the type of number t is 2 ^ (t div 2) bytes wide, and has eight bits to a byte.
abbrev pub width : ElementType → ℕ
width t = 2 ^ (type_number t / 2)

abbrev pub bits : ElementType → ℕ
bits t = 8 * width t

-- It is signed when t is odd.
abbrev pub signed : ElementType → Bool
signed t = type_number t % 2 == 1
