-- A refusal is found again by its number.
use Rattle.std.proofs.Common.{◌≡◌, ℕ, sym, refl, ap, ◌∙◌}
use Rattle.std.specs.Prelude.{if◌then◌else◌, ◌==◌}
use Rattle.flat.specs.declared.refusal.Refusal.TheVariants.{NoLines, Cold, Warm, NoRegister, OverLimit}
use Rattle.image.specs.declared.fault.ImageRefusal.TheVariants.{Cut, Kind, Place}
use Rattle.store.specs.declared.fault.LineRefusal.TheVariants.{MissingLine, FixedLine}
use Rattle.refusals.specs.declared.Refusal.{Refusal}
use Rattle.refusals.specs.declared.Refusal.TheVariants.{Call, Word, Image, Line, Trail}
use Rattle.refusals.specs.Numbers.{number, Distinct}

-- The refusal of a number; of one that no refusal has, any.
abbrev of_number : ℕ → Refusal
of_number n =
    if n == 1 then Call NoLines
    else if n == 2 then Call Cold
    else if n == 3 then Call Warm
    else if n == 4 then Call NoRegister
    else if n == 5 then Call OverLimit
    else if n == 6 then Word (record {})
    else if n == 7 then Image Cut
    else if n == 8 then Image Kind
    else if n == 9 then Image Place
    else if n == 10 then Line MissingLine
    else if n == 11 then Line FixedLine
    else Trail (record {})

found : (r : Refusal) → of_number (number r) ≡ r
found (Call NoLines) = refl
found (Call Cold) = refl
found (Call Warm) = refl
found (Call NoRegister) = refl
found (Call OverLimit) = refl
found (Word _) = refl
found (Image Cut) = refl
found (Image Kind) = refl
found (Image Place) = refl
found (Line MissingLine) = refl
found (Line FixedLine) = refl
found (Trail _) = refl

pub named : Distinct
named a b e = sym (found a) ∙ ap of_number e ∙ found b
