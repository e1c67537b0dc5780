use Rattle.std.proofs.Common.{◌≡◌, ◌-◌, ◌*◌, ◌%◌, ◌^◌, sym, ap, ◌∙◌, arith, w64, to_z, of_z}
use lib.Signed.{shr_z}
use Rattle.word.specs.Types.{bits}
use Rattle.scalar.proofs.Casts.{bits_low, bits_high, extended_bits, lane_signed}
use Rattle.scalar.proofs.lanes.extend.Goals as goal

pub returns : goal.returns
returns c e =
    let t = c.args.kind in
    let x = c.args.x in
    let z = c.cast_signed.result in
    let few = bits_low t in
    let is : z ≡ to_z w64 ((x * 2 ^ (64 - bits t)) % 2 ^ 64) = c.cast_signed.ensures ∙ ap (λ n. to_z w64 ((x * 2 ^ (64 - n)) % 2 ^ 64)) c.bits-above.ensures in
    ap (λ n. to_z w64 (of_z w64 (shr_z (to_z w64 (of_z w64 z)) (2 ^ (64 - n))))) c.bits-above.ensures
    ∙ extended_bits (bits t) x z (omega arith) (bits_high t) is record { sfits = c.cast_signed.type_inv }
    ∙ sym (lane_signed t x e)
