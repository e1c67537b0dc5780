use Rattle.std.proofs.Common.{◌≡◌, ap, ◌∙◌, rules, arith}
use Rattle.tags.specs.Invariants.{all, no_bytes}
use Rattle.tags.proofs.Buckets.{indexed_start}
use Rattle.tags.proofs.Starting.{held_start, warm_start, small_start, whole_start, zeros_start, names_start}
use Rattle.tags.proofs.columns.Columns.new.Goals as goal

pub invariant_of-result : goal.invariant_of-result
invariant_of-result c =
    let k = held_start c.filled-2.ensures c.filled-carried.ensures c.filled-lines.ensures c.filled-counts.ensures in
    let s : c.filled-bytes.result ≡ all no_bytes = c.filled-bytes.ensures ∙ ap all c.filled.ensures in
    record {
      sized = (k.addressed, search rules, search rules, search rules);
      small = small_start c.filled-2.ensures;
      whole = whole_start c.args.line.now s (search rules);
      no_tag = (k.no_tag.0, k.no_tag.1, omega (arith, k.no_tag.2), omega (arith, k.no_tag.3));
      no_line = (k.nameless, omega (arith, k.uncounted), zeros_start c.args.line.now s);
      linked = k.linked;
      counted = λ t pt ht. omega (arith, k.counted t pt ht);
      free = λ t pt ht none. grind (arith, k.free t pt ht);
      apart = k.apart;
      indexed = indexed_start c.new.result c.new.ensures.held c.new.ensures.free c.filled-lines.ensures;
    }

pub returns-clause-names : goal.returns-clause-names
returns-clause-names c =
    names_start c.args.line.now c.filled-2.ensures c.filled-lines.ensures (c.filled-bytes.ensures ∙ ap all c.filled.ensures)

pub returns-clause-warm : goal.returns-clause-warm
returns-clause-warm c = warm_start c.filled-carried.ensures
