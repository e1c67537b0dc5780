-- What the loop of a trace has done.
use Rattle.std.specs.Prelude.{◌≡◌, ◌-◌}
use Rattle.flat.specs.Calls.{Steps}
use Rattle.flat.specs.Machine.{Machine}
use Rattle.flat.specs.declared.records.Ran.{Ran}
use Rattle.flat.specs.declared.records.Slots.{Slots}
use Rattle.calls.specs.Trails.{Keeps}
use Rattle.calls.specs.declared.trails.Trails.{Trails}

-- The space left beside so many slots of each trail.
abbrev pub beside : Slots → Slots → Slots
beside space spare = record { steps = space.steps - spare.steps; lines = space.lines - spare.lines }

-- The machine, the answer and what was added to the trails are those of the steps.
pub record Ended (all : Steps) (now : Machine) (ran : Ran) (before after : Trails) : Type 0 where
  pub machine : now ≡ all.machine
  pub answer : ran ≡ all.ran
  pub kept : Keeps before after all.kept
