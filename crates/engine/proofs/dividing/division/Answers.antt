use Rattle.std.proofs.Common.{pos, ap, ap₂, ◌∙◌, to_z, of_z}
use Rattle.std.specs.Int.{w128}
use Rattle.std.specs.Option.{unwrap_or}
use Rattle.scalar.specs.Arithmetic.{division}
use Rattle.scalar.specs.Casts.{cast}
use Rattle.scalar.proofs.Casts.{passed}
use Rattle.engine.proofs.Quotients.{over_zero}
use Rattle.engine.proofs.dividing.division.Goals as goal

pub returns : goal.returns
returns c =
    let x = to_z w128 (of_z w128 c.args.x) in
    let y = to_z w128 (of_z w128 c.args.y) in
    c.unwrap_or.ensures
    ∙ ap (λ z. unwrap_or c.divide.result (record { quotient = pos 0; remainder = z })) (passed c.cast.result c.cast.type_inv ∙ c.cast.ensures)
    ∙ ap (λ o. unwrap_or o (record { quotient = pos 0; remainder = cast c.args.kind x })) c.divide.ensures
    ∙ over_zero c.args.kind x y
    ∙ ap₂ (λ v w. division c.args.kind v w) (passed c.args.x c.ranges.x.sfits) (passed c.args.y c.ranges.y.sfits)
