use Rattle.std.proofs.Common.{◌≡◌, ◌-◌, ◌%◌, ◌^◌, min, pos, sym, ap, ◌∙◌, ap₂, arith, w64, SFits, to_z, of_z}
use lib.Signed.{shr_z, mag_shr}
use Rattle.word.specs.Types.{bits}
use Rattle.scalar.specs.Casts.{residue, cast}
use Rattle.scalar.proofs.Casts.{bits_high, cast_range, residue-bits}
use Rattle.scalar.proofs.Machine.{lane_shr_signed}
use Rattle.scalar.proofs.lanes.shift_right.Goals as goal
use Rattle.std.proofs.lemmas.Int.{to_z-of_z}

pub returns-then-is_signed : goal.returns-then-is_signed
returns-then-is_signed c =
    let t = c.args.kind in
    let n = bits t in
    let e = c.extend.result in
    let k = c.min.result in
    let is = sym c.if-is_signed.ensures in
    let z = shr_z e (2 ^ k) in
    let fits : SFits w64 e = record { sfits = c.extend.type_inv } in
    let shifted : SFits w64 z = record { sfits = omega (arith, mag_shr e (2 ^ k), fits.sfits) } in
    let count : k ≡ min c.args.count (n - 1) = c.min.ensures ∙ ap (λ b. min c.args.count (b - 1)) (c.from-bits.ensures ∙ c.bits.ensures) in
    c.low.ensures.bits
    ∙ ap (λ m. m % 2 ^ n) (c.cast_unsigned.ensures ∙ ap (λ y. of_z w64 (to_z w64 (of_z w64 (shr_z y (2 ^ k))))) (to_z-of_z w64 e fits) ∙ ap (of_z w64) (to_z-of_z w64 z shifted))
    ∙ residue-bits w64 n z (bits_high t) shifted
    ∙ ap₂ (λ y j. residue n (shr_z y (2 ^ j))) (c.extend.ensures is) count
    ∙ ap (residue n) (lane_shr_signed t (cast t (pos c.args.x)) c.args.count (cast_range t (pos c.args.x) is))
