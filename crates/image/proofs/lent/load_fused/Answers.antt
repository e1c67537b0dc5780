use Rattle.image.proofs.Again.{fuse_off}
use Rattle.image.proofs.lent.load_fused.Goals as goal

pub returns : goal.returns
returns c =
    fuse_off c.args.below c.load-result.new.store.below c.args.memory.now c.take.result c.load-result.new.store.under c.args.image.now c.load-result.result c.take.ensures.0 c.load-result.ensures.loads
