use Rattle.std.proofs.Common.{◌≡◌}
use Rattle.image.proofs.Puts.{put_below}
use Rattle.image.proofs.putting.put_place.Given as goal

abbrev pub invariant-loop-line : goal.invariant-loop-line
invariant-loop-line g l = g.S.Store.meaning l.store ≡ put_below (g.S.Store.meaning l.initial.store) l.place.address l.place.bytes.now l.line
