use Rattle.std.proofs.Common.{◌≡◌, ◌*◌, ◌≤◌, min, length, take, drop, arith, length-take}
use Rattle.std.proofs.lemmas.List.{take_min, take_rest}
use Rattle.store.proofs.rom.there.Goals as goal

pub returns : goal.returns
returns c =
    let rest = drop (128 * c.args.line) c.args.bytes.now in
    let least = simp take_rest at c.min.ensures in
    let e : c.min.result ≡ min 128 (length rest) = omega arith in
    let short : length (take 128 rest) ≤ 128 = simp length-take (omega arith) in
    rw (e, take_rest, take_min) (λ i. take 128 rest, short)
