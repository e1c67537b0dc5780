use Rattle.std.proofs.Common.{◌≡◌, false, ap, sym, ◌∙◌}
use Rattle.flat.specs.Raising.{even_fields, rules_of, uneven, uneven_widths, even}
use Rattle.flat.specs.declared.rules.Rules.{Rules}
use Rattle.file.specs.Machine.{stands}
use Rattle.engine.proofs.Raises.{even_divisor}
use Rattle.engine.proofs.raising.raised.Goals as goal

pub is_zero_divisor-requires : goal.is_zero_divisor-requires
unfolding even
is_zero_divisor-requires g c m x z is =
    let f = stands c.args.machine.now m in
    let row : rules_of c.args.op ≡ c.rules_of-rules.result = sym c.rules_of-rules.ensures in
    let widths : uneven f c.args.op ≡ false = ap (λ (r : Rules). uneven_widths f (even_fields r.one_width)) row ∙ sym (c.if-uneven_widths.ensures {u = tt} m) in
    even_divisor f c.args.op x z (ap (λ (r : Rules). r.divisor) row ∙ is) widths
