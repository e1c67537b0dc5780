use Rattle.std.proofs.Common.{◌≡◌}
use Rattle.image.proofs.Walks.{WalkedTo}
use Rattle.image.proofs.records.check_records.Given as goal

abbrev pub invariant-loop-place : goal.invariant-loop-place
invariant-loop-place l = (l.place-iterator.image.now ≡ l.image) × WalkedTo l.image l.place-iterator.at
