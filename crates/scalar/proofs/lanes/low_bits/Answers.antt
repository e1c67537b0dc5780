use Rattle.std.proofs.Common.{◌-◌, ◌^◌, ap, ◌∙◌, arith, of_z}
use lib.Bits.{bit_and}
use mir.Syntax.{w128}
use Rattle.scalar.proofs.Casts.{residue-bits}
use Rattle.scalar.proofs.lanes.low_bits.Goals as goal
use Rattle.std.proofs.lemmas.Nat.{and_mask}
use Rattle.std.proofs.lemmas.Int.{to_z-of_z}

pub returns : goal.returns
returns c =
    let z = c.args.z in
    ap (λ n. bit_and n (2 ^ 64 - 1)) (c.cast_unsigned.ensures ∙ ap (of_z w128) (to_z-of_z w128 z c.ranges.z)) ∙ and_mask (of_z w128 z) 64 ∙ residue-bits w128 64 z (omega arith) c.ranges.z
