-- Why an image is refused: the refusal with its number, the line, and how they are printed.
use Rattle.std.specs.Prelude.{ℕ, List, ◌∷◌, ◌++◌, codes}
use Rattle.std.specs.Fmt.{decimal}
use Rattle.image.specs.declared.fault.ImageRefusal.{ImageRefusal}
use Rattle.image.specs.declared.fault.ImageRefusal.TheVariants.{Place}
use Rattle.image.specs.declared.fault.Cause.{Cause}
use Rattle.image.specs.declared.fault.Cause.TheVariants.{Form, Line}
use Rattle.image.specs.declared.fault.Fault.{Fault}
use Rattle.image.specs.Refusals.{refusal_number}

-- The refusal: that of the record's form, or of a place that does not fit.
abbrev pub refusal_of : Cause → ImageRefusal
refusal_of (Form r) = r
refusal_of (Line e) = Place

-- The line: the first at fault where a place does not fit, and else 0.
abbrev pub line_of_fault : Cause → ℕ
line_of_fault (Form r) = 0
line_of_fault (Line e) = e.line

-- The printed fault: x and the refusal's number; on the next line (10 is the newline) the record's byte place, and the line.
abbrev pub printed : Fault → List ℕ
printed f = codes "x " ++ decimal (refusal_number (refusal_of f.cause)) ++ 10 ∷ codes "record at byte " ++ decimal f.at ++ codes ", line " ++ decimal (line_of_fault f.cause)
