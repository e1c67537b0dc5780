-- `operation` reads every word as `Decodes` says, and so as each other reading does.
use Rattle.std.proofs.Common.{◌≡◌, ℕ, Some, Option, subst}
use Rattle.word.specs.Codes.{Codes}
use Rattle.word.specs.Decodes.{Decodes, Found}
use Rattle.word.specs.declared.operations.Operation.{Operation}
use Rattle.word.proofs.Worked.{reads_once}
use Rattle.word.specs.Reading.{operation}
use Rattle.word.proofs.Found.{operation_found}
use Rattle.word.proofs.Held.{operation_held}

-- for every number: one from 2 ^ 32 on holds nothing, and nothing is found in it
pub operation_decodes : (w : ℕ) → Decodes w (operation w)
operation_decodes w = record { found = operation_found w; held = operation_held w }

pub operation_codes : (w : ℕ) (op : Operation) → operation w ≡ Some op → Codes op w
operation_codes w op e = subst (Found w) e (operation_found w)

pub is_operation : (w : ℕ) (r : Option Operation) → Decodes w r → r ≡ operation w
is_operation w r d = reads_once w r (operation w) d (operation_decodes w)
