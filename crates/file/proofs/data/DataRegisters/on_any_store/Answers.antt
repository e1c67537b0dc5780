use Rattle.file.specs.Data.{stands}
use Rattle.file.proofs.Handing.{hands}
use Rattle.file.proofs.data.DataRegisters.on_any_store.Goals as goal

pub returns : goal.returns
unfolding stands
returns c m other = hands _ _ c.args.self.now.placed c.sound.ensures _ m other
