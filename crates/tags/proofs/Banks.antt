-- A bank's columns, in one record.
use Rattle.tags.specs.declared.bank.Bank.{Bank}
use Rattle.tags.proofs.Holding.{held}
use Rattle.tags.proofs.Showing.{Shows}

pub shown : (b : Bank) → Shows b.columns.addresses b.columns.carried b.columns.lines b.columns.counts
shown b = record { held = held b.columns; warm = b.warm; small = b.columns.small }
