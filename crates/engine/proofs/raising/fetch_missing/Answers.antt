use Rattle.std.proofs.Common.{arith, ◌≡◌}
use Rattle.std.proofs.lemmas.Bool.Decides.{nat_tests}
use Rattle.line.proofs.Joins.{places}
use Rattle.engine.proofs.Raises.{over_store}
use Rattle.engine.proofs.raising.fetch_missing.Goals as goal

pub returns-2 : goal.returns-2
returns-2 g c =
    let last : c.loop-k.k ≡ c.args.j = omega arith in
    grind (arith, nat_tests, over_store, places)
