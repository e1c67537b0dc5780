use Rattle.std.proofs.Common.{rules}
use Rattle.std.proofs.lemmas.Slice.{take-put_mid, drop-put_mid}
use Rattle.trail.proofs.Trail.add_all.Goals as goal

pub returns-clause-added : goal.returns-clause-added
returns-clause-added g c = record {
  records = search (rules, take-put_mid);
  used = search rules;
  rest = search (rules, drop-put_mid);
  size = search rules;
  loan = search rules;
}
