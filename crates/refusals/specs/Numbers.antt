-- The number of every refusal, each from the layer that it is of, and that no two have one.
use Rattle.std.specs.Prelude.{◌≡◌, ℕ}
use Rattle.flat.specs.Refusals.{refusal_number as call_number}
use Rattle.word.specs.Refusals.{refusal_number as word_number}
use Rattle.image.specs.Refusals.{refusal_number as image_number}
use Rattle.store.specs.Refusals.{refusal_number as line_number}
use Rattle.trail.specs.Refusals.{refusal_number as trail_number}
use Rattle.refusals.specs.declared.Refusal.{Refusal}
use Rattle.refusals.specs.declared.Refusal.TheVariants.{Call, Word, Image, Line, Trail}

abbrev pub number : Refusal → ℕ
number (Call r) = call_number r
number (Word r) = word_number r
number (Image r) = image_number r
number (Line r) = line_number r
number (Trail r) = trail_number r

-- Refusals of one number are one refusal.
abbrev pub Distinct : Type 0
Distinct = (a b : Refusal) → number a ≡ number b → a ≡ b
