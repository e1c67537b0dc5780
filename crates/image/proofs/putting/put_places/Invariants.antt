use Rattle.std.proofs.Common.{◌≡◌}
use Rattle.image.proofs.Writing.{UnwrittenFrom}
use Rattle.image.proofs.putting.put_places.Given as goal

abbrev pub invariant-loop-place : goal.invariant-loop-place
invariant-loop-place g l =
    (l.place-iterator.image.now ≡ l.image)
    × UnwrittenFrom (g.S.Store.meaning l.initial.store) l.image l.place-iterator.at (g.S.Store.meaning l.store)
