use Rattle.std.proofs.Common.{ap, ◌∙◌}
use Rattle.flat.specs.Registers.{named}
use Rattle.tags.specs.Meaning.{names}
use Rattle.tags.specs.declared.bank.Bank.{Bank}
use Rattle.file.specs.Machine.{stands}
use Rattle.file.specs.Instructions.{stands as instructions_stand}
use Rattle.file.specs.Standing.{instructions_of}
use Rattle.engine.proofs.Raises.{found}
use Rattle.engine.proofs.raising.is_named.Goals as goal

pub returns : goal.returns
unfolding stands instructions_stand instructions_of
returns c m =
    c.is_some.ensures
    ∙ found (names c.bank-bank.result.now) c.args.line c.search.result c.sound.ensures c.search.ensures
    ∙ ap (λ (b : Bank). named (names b).address c.args.line) c.bank-bank.ensures
