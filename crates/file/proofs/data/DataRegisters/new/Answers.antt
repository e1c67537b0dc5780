use Rattle.file.specs.Data.{stands}
use Rattle.file.proofs.Starting.{blank_at, starts, starts_placed}
use Rattle.file.proofs.data.DataRegisters.new.Goals as goal

pub returns : goal.returns
unfolding stands
returns g c = starts _ _ _ _ _ c.give.ensures c.new.ensures c.all_blank.ensures c.new-2.ensures

pub invariant_of-result-clause-placed : goal.invariant_of-result-clause-placed
invariant_of-result-clause-placed g c = starts_placed _ _ _ c.new.ensures c.all_blank.ensures

pub invariant_of-result-clause-zeros_blank : goal.invariant_of-result-clause-zeros_blank
invariant_of-result-clause-zeros_blank g c =
    (blank_at _ 0 c.all_blank.ensures, blank_at _ 64 c.all_blank.ensures)
