use Rattle.std.proofs.Common.{refl}
use Rattle.engine.proofs.VectorForms.{divide_stands, divide_first, divide_second}
use Rattle.engine.proofs.dividing.divide_vector.Goals as goal

pub line_division-requires-clause-first : goal.line_division-requires-clause-first
line_division-requires-clause-first c = divide_first c.args.machine.now _ _ _ _ c.requires _ refl _ _ c.of-a.ensures c.of-b.ensures

pub line_division-requires-clause-second : goal.line_division-requires-clause-second
line_division-requires-clause-second c = divide_second c.args.machine.now _ _ _ _ c.requires _ refl _ _ c.of-a.ensures c.of-c.ensures

pub returns : goal.returns
returns c = divide_stands c.args.machine.now _ _ _ _ _ _ _ _ _ _ _ _ c.put_line-2.ensures c.put_line.ensures c.line_division.ensures.quotients c.line_division.ensures.remainders c.requires c.of-a.ensures c.of-b.ensures c.of-c.ensures c.of-d.ensures refl refl
