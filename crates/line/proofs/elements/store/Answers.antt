use Rattle.std.proofs.Common.{◌≡◌, take, ◌∙◌, ap₂, arith}
use Rattle.word.specs.Types.{width}
use Rattle.line.specs.Elements.{bytes}
use Rattle.line.proofs.Bytes.{spliced, length-bytes, front_bytes}
use Rattle.line.proofs.elements.store.Goals as goal

pub returns : goal.returns
unfolding bytes
returns c =
    let t = c.args.kind in
    let v = c.args.v in
    let is : c.copy_from_slice.new.self ≡ bytes (width t) v = c.copy_from_slice.ensures.after ∙ ap₂ take c.width-w.ensures c.to_le_bytes-bytes.ensures ∙ front_bytes t v in
    spliced c.args.line.now c.args.p _ (bytes (width t) v) c.copy_from_slice.new.self is (omega (arith, length-bytes (width t) v, c.width-w.ensures))
