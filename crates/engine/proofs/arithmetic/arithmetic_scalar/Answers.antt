use Rattle.std.proofs.Common.{refl}
use Rattle.engine.proofs.VectorForms.{scalar_stands}
use Rattle.engine.proofs.arithmetic.arithmetic_scalar.Goals as goal

pub returns : goal.returns
returns c = scalar_stands c.args.machine.now _ _ _ _ _ _ _ _ _ c.put_lane.ensures c.element_result-lane.ensures c.of-a.ensures c.of-b.ensures c.of-c.ensures refl refl
