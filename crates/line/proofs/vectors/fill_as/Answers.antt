use Rattle.std.proofs.Common.{◌≡◌, ℕ, ℤ, sym, ap, ◌∙◌, arith, to_z, of_z}
use mir.Syntax.{w128}
use Rattle.line.specs.Elements.{count}
use Rattle.line.specs.Vectors.{filled}
use Rattle.line.proofs.Rows.{all_taken, row_all}
use Rattle.line.proofs.vectors.fill_as.Goals as goal
use Rattle.std.proofs.lemmas.Int.{to_z-of_z}

pub returns : goal.returns
returns c =
    let t = c.args.kind in
    let f : ℕ → ℤ = λ j. to_z w128 (of_z w128 c.args.z) in
    let k = c.loop-k.k in
    let all : k ≡ count t = omega (arith, c.count-k-end.ensures, c.loop-k.auto.k-end, c.loop-k-test.false) in
    sym (all_taken t c.loop-k.out k c.loop-k.invariant.0 all) ∙ c.loop-k.invariant.1 ∙ row_all t f k all ∙ ap (filled t) (to_z-of_z w128 c.args.z c.ranges.z)
