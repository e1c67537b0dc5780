-- Worked words, and what each holds.
use Rattle.std.specs.Prelude.{ℕ, List, [], ◌∷◌, Some, None, Option, pos}
use Rattle.word.specs.declared.element.ElementType.TheVariants.{S16}
use Rattle.word.specs.declared.opcodes.Form.TheVariants.{Scalar}
use Rattle.word.specs.declared.operations.Operation.{Operation}
use Rattle.word.specs.declared.operations.Operation.TheVariants.{Div, Load}

-- div.s with v 0, and with v 1; load.s16 with i 200; add with a 1 in d.
abbrev pub words : List ℕ
words = 0x0000000E ∷ 0x0000001E ∷ 0x21400C83 ∷ 0x00000020 ∷ []

-- The second and the last are undefined, since div.s has v 0 and add has no d.
abbrev pub answers : List (Option Operation)
answers = Some (Div Scalar 0 0 0 0) ∷ None ∷ Some (Load S16 5 0 (pos 200)) ∷ None ∷ []
