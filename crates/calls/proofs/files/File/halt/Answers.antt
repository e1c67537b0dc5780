use Rattle.std.proofs.Common.{◌∙◌, sym, ap}
use Rattle.flat.specs.Calls.{backing}
use Rattle.calls.specs.Files.{stands}
use Rattle.calls.proofs.Ending.{halted, stands_on}
use Rattle.calls.proofs.files.File.halt.Goals as goal

pub returns-clause-file : goal.returns-clause-file
unfolding stands
returns-clause-file g c =
    halted (stands c.args.self.now (g.S.Store.meaning c.args.store.now)) _ c.in_ok-count.count c.in_ok-count.ensures.answer (ap backing (sym c.in_ok-count.ensures.file) ∙ stands_on c.flush.new.self _)
