use Rattle.calls.proofs.Feeding.{continues}
use Rattle.calls.proofs.files.File.call.Goals as goal

pub returns-clause-law : goal.returns-clause-law
returns-clause-law g c = continues _ _ _ _ _ _ _ _ c.make.ensures.made
