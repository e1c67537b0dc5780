use Rattle.std.proofs.Common.{refl}
use Rattle.engine.proofs.VectorForms.{sums_stands, address_second}
use Rattle.engine.proofs.arithmetic.add_address_vector.Goals as goal

pub address_sums-requires : goal.address_sums-requires
address_sums-requires c = address_second c.args.machine.now _ _ _ c.requires _ refl _ _ c.of-a.ensures c.of-c.ensures

pub returns : goal.returns
returns c = sums_stands c.args.machine.now _ _ _ _ _ _ _ _ c.put_line.ensures c.address_sums.ensures c.of-a.ensures c.of-b.ensures c.of-c.ensures refl refl
