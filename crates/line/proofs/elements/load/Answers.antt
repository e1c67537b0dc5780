use Rattle.std.proofs.Common.{◌≡◌, take, drop, ap, ◌∙◌, arith, ◌++◌, [], ◌∷◌}
use Rattle.line.specs.Elements.{number}
use Rattle.line.proofs.Bytes.{number_loaded}
use Rattle.scalar.proofs.Casts.{bits_high}
use Rattle.line.proofs.elements.load.Goals as goal

pub returns : goal.returns
unfolding number
returns c =
    let w = c.width-w.result in
    let p = c.args.p in
    let line = c.args.line.now in
    let part : c.copy_from_slice.new.self ≡ take w (drop p line) = c.copy_from_slice.ensures.after ∙ ap (λ n. take n (drop p line)) (omega arith) in
    c.from_le_bytes.ensures ∙ ap (λ xs. number 8 (xs ++ drop w (0 ∷ 0 ∷ 0 ∷ 0 ∷ 0 ∷ 0 ∷ 0 ∷ 0 ∷ [])) 0) part ∙ number_loaded w p line (omega (arith, bits_high c.args.kind, c.width-w.ensures)) (omega (arith, c.width-w.ensures, c.requires, c.told-line)) ∙ ap (λ w. number w line p) c.width-w.ensures
