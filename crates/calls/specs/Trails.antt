-- The trails of a trace: the space in them, and what is added to them.
use Rattle.flat.specs.Calls.{Kept}
use Rattle.flat.specs.declared.records.Slots.{Slots}
use Rattle.trail.specs.Trails.{Added, space as space_of}
use Rattle.calls.specs.declared.trails.Trails.{Trails}

-- The space left in each.
abbrev pub space : Trails → Slots
space t = record { steps = space_of t.steps; lines = space_of t.lines }

-- What a trace keeps was added to them, and nothing else of them changed.
abbrev pub Keeps : Trails → Trails → Kept → Type 0
Keeps before after kept = Added before.steps after.steps kept.records × Added before.lines after.lines kept.sent
