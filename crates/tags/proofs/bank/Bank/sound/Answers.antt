use Rattle.tags.specs.Meaning.{names}
use Rattle.tags.proofs.Banks.{shown}
use Rattle.tags.proofs.Showing.{sound_names}
use Rattle.tags.proofs.bank.Bank.sound.Goals as goal

pub returns : goal.returns
unfolding names
returns c =
    let b = c.args.self.now in sound_names b.columns.bytes (shown b) b.columns.no_line.2 b.columns.whole
