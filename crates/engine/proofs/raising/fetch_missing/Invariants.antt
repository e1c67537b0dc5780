-- Whether one of the lines before line k is missing.
use Rattle.std.proofs.Common.{◌≡◌}
use Rattle.line.specs.Dividing.{somewhere}
use Rattle.flat.specs.Operands.{fetch_target}
use Rattle.flat.specs.Raising.{is_missing}
use Rattle.file.specs.Machine.{stands}
use Rattle.engine.proofs.raising.fetch_missing.Given as goal

abbrev pub invariant-loop-k : goal.invariant-loop-k
invariant-loop-k g l =
    let m = stands l.machine (g.S.Store.meaning l.store) in
    l.found ≡ somewhere (λ k. is_missing m (fetch_target m l.b l.i k)) l.k
