-- One step, on the data.
use Rattle.std.proofs.Common.{◌≡◌, Bool, true, false, if◌then◌else◌, Some, None, Option, refl}
use Rattle.word.specs.declared.operations.Operation.{Operation}
use Rattle.word.specs.declared.operations.Operation.TheVariants.{Swi}
use Rattle.flat.specs.Machine.{Machine, entered}
use Rattle.flat.specs.Operations.{carried_out}
use Rattle.flat.specs.Raising.{raised}
use Rattle.flat.specs.Step.{AfterStep, step, enters, does, obeyed, obeyed_unless, interrupted}
use Rattle.flat.specs.declared.exception.Exception.{Exception}
use Rattle.flat.specs.declared.exception.Exception.TheVariants.{Interrupt}
use Rattle.flat.proofs.Coherence.{Coherent, Goes}
use Rattle.flat.proofs.Moving.{keeps_goes}
use Rattle.flat.proofs.Operating.{data_goes}
use Rattle.flat.proofs.Writing.{stays}

-- Of the machine after a step.
abbrev After : Machine → AfterStep → Type 0
After m a = Goes m.data_registers a.machine.data_registers

module _ (m : Machine) (c : Coherent m.data_registers) where
  -- Entering an exception does nothing to the data.
  enters_goes : (x : Exception) → After m (enters x m)
  unfolding entered
  enters_goes x = keeps_goes _ _ (stays m.data_registers c)

  does_goes : (op : Operation) → raised m op ≡ None → After m (does op m)
  unfolding does carried_out entered
  does_goes (Swi x y z w) h = data_goes m c (Swi x y z w) h
  does_goes op h = data_goes m c op h

  unless_goes : (op : Operation) (o : Option Exception) → raised m op ≡ o → After m (obeyed_unless o op m)
  unfolding obeyed_unless
  unless_goes op (Some x) h = enters_goes x
  unless_goes op None h = does_goes op h

  obeyed_goes : (o : Option Operation) → After m (obeyed o m)
  unfolding obeyed
  obeyed_goes None = enters_goes _
  obeyed_goes (Some op) = unless_goes op (raised m op) refl

  step_goes_by : (b : Bool) (o : Option Operation) → After m (if b then enters Interrupt m else obeyed o m)
  step_goes_by true o = enters_goes Interrupt
  step_goes_by false o = obeyed_goes o

  pub step_goes : Goes m.data_registers (step m).machine.data_registers
  unfolding step
  step_goes = step_goes_by (interrupted m) _
