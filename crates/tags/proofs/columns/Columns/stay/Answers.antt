use Rattle.std.proofs.Common.{rules, arith}
use Rattle.tags.proofs.Holding.{held}
use Rattle.tags.proofs.Steps.{stayed, small-set}
use Rattle.tags.proofs.columns.Columns.stay.Goals as goal

pub invariant_of-self : goal.invariant_of-self
invariant_of-self c =
    let s = c.args.self.now in
    let h = held s in
    let k = stayed c.args.r c.args.address h c.requires.register c.requires.real c.requires.line in
    record {
      sized = (k.addressed, k.registers, k.named, k.tags);
      small = small-set s.addresses c.args.r c.args.address (omega (arith, h.addressed)) (search rules) s.small;
      whole = s.whole;
      no_tag = k.no_tag;
      no_line = (k.nameless, k.uncounted, s.no_line.2);
      linked = k.linked;
      counted = k.counted;
      free = k.free;
      apart = k.apart;
      indexed = s.indexed;
    }
