use Rattle.std.proofs.Common.{refl}
use Rattle.engine.proofs.VectorForms.{vector_stands, arithmetic_first, arithmetic_second}
use Rattle.engine.proofs.arithmetic.arithmetic_vector.Goals as goal

pub line_result-requires-clause-second : goal.line_result-requires-clause-second
line_result-requires-clause-second c = arithmetic_second c.args.machine.now _ _ _ _ c.requires _ refl _ _ c.of-a.ensures c.of-c.ensures

pub line_result-requires-clause-first : goal.line_result-requires-clause-first
line_result-requires-clause-first c = arithmetic_first c.args.machine.now _ _ _ _ c.requires _ refl _ _ c.of-a.ensures c.of-b.ensures

pub returns : goal.returns
returns c = vector_stands c.args.machine.now _ _ _ _ _ _ _ _ _ c.put_line.ensures c.line_result.ensures c.of-a.ensures c.of-b.ensures c.of-c.ensures refl refl
