-- So many registers went to their lines.
use Rattle.std.proofs.Common.{◌≡◌}
use Rattle.file.specs.Machine.{stands}
use Rattle.engine.specs.Fetching.{fetched, fetched_bus}
use Rattle.engine.proofs.fetching.fetch_lines.Given as goal

abbrev pub invariant-loop-k : goal.invariant-loop-k
invariant-loop-k g l =
    let m = stands l.initial.machine (g.S.Store.meaning l.store) in
    record {
      machine : stands l.machine (g.S.Store.meaning l.store) ≡ fetched l.a l.start l.k m;
      bus : l.bus ≡ fetched_bus l.a l.start l.k m;
    }
