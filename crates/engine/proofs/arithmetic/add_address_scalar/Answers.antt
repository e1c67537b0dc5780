use Rattle.std.proofs.Common.{refl}
use Rattle.engine.proofs.VectorForms.{sum_stands}
use Rattle.engine.proofs.arithmetic.add_address_scalar.Goals as goal

pub returns : goal.returns
returns c = sum_stands c.args.machine.now _ _ _ _ _ _ _ _ c.put_lane.ensures c.address_sum-lane.ensures c.of-a.ensures c.of-b.ensures c.of-c.ensures refl refl
