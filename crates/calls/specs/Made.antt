-- What the code of a call has done.
use Rattle.std.specs.Prelude.{◌≡◌, Result}
use Rattle.flat.specs.declared.refusal.Refusal.{Refusal}
use Rattle.flat.specs.Calls.{Flat}
use Rattle.flat.specs.Fed.{Told}
use Rattle.flat.specs.declared.answer.Answer.{Answer}
use Rattle.calls.specs.Trails.{Keeps}
use Rattle.calls.specs.declared.trails.Trails.{Trails}

-- The answer, the machine and what the trails got are those of which the flat machine told.
abbrev pub Makes : Told → Result Answer Refusal → Flat → Trails → Trails → Type 0
Makes t answer after trails_before trails_after =
    (answer ≡ t.answer) × (after ≡ t.flat) × Keeps trails_before trails_after t.kept
