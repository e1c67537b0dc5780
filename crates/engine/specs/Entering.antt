-- What the code of a step has done.
use Rattle.std.specs.Prelude.{◌≡◌}
use Rattle.flat.specs.Machine.{Machine}
use Rattle.flat.specs.Step.{AfterStep as After}
use Rattle.engine.specs.declared.stepping.AfterStep.{AfterStep}

-- The machine, the answer and what was done on the bus are those of a flat step.
abbrev pub Did : After → Machine → AfterStep → Type 0
Did s after did = (after ≡ s.machine) × (did.answer ≡ s.answer) × (did.bus ≡ s.bus)
