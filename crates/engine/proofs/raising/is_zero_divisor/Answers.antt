use Rattle.std.proofs.Common.{ap, sym, ◌∙◌, ◌≡◌}
use Rattle.word.specs.declared.element.ElementType.{ElementType}
use Rattle.word.specs.declared.opcodes.Form.{Form}
use Rattle.word.specs.declared.opcodes.Form.TheVariants.{Vector}
use Rattle.line.specs.Dividing.{any_zero}
use Rattle.flat.specs.Operands.{kind_of, bytes_of}
use Rattle.flat.specs.Raising.{is_zero_divisor}
use Rattle.flat.specs.declared.rules.Divisor.TheVariants.{Cast}
use Rattle.file.specs.Machine.{stands}
use Rattle.engine.proofs.Raises.{divisors}
use Rattle.engine.proofs.raising.is_zero_divisor.Goals as goal

pub returns-in-Vector : goal.returns-in-Vector
returns-in-Vector c m =
    let i = c.in-Cast in
    let f = stands c.args.machine.now m in
    let is : c.args.divisor ≡ Cast Vector i.a i.c = i.is ∙ ap (λ (form : Form). Cast form i.a i.c) c.in-Vector.is in
    c.has_zero.ensures
    ∙ ap (λ (t : ElementType). any_zero t c.bytes.result.now) (c.kind-in-Vector.ensures m)
    ∙ ap (any_zero (kind_of f i.a)) (c.bytes.ensures m)
    ∙ divisors (kind_of f i.a) (kind_of f i.c) (bytes_of f i.c) (c.requires m i.a i.c is)
    ∙ ap (is_zero_divisor f) (sym is)
