use Rattle.std.proofs.Common.{ap, ap₂, ◌∙◌, to_z, of_z}
use Rattle.std.specs.Int.{w128}
use Rattle.scalar.specs.Arithmetic.{division}
use Rattle.scalar.proofs.Casts.{passed}
use Rattle.file.specs.Data.{stands}
use Rattle.engine.specs.Arithmetic.{kind}
use Rattle.engine.proofs.dividing.element_division.Goals as goal

pub returns : goal.returns
returns c =
    let x = to_z w128 (of_z w128 c.element.result) in
    let y = to_z w128 (of_z w128 c.element-2.result) in
    λ m. c.division.ensures
    ∙ ap (λ r. division r.kind x y) (c.register-kind.ensures m)
    ∙ ap₂ (λ v w. division (kind (stands c.args.registers.now m) c.args.a.number) v w) (passed c.element.result c.element.type_inv ∙ c.element.ensures m) (passed c.element-2.result c.element-2.type_inv ∙ c.element-2.ensures m)
