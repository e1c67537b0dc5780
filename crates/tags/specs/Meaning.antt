-- What a bank shows.
use Rattle.tags.specs.declared.bank.Bank.{Bank}
use Rattle.tags.specs.Names.{Names, names_of}

-- Which line each register names, by which tag, and what bytes it has.
unfoldable pub names : Bank → Names
names b = names_of b.columns.addresses b.columns.lines b.columns.bytes
