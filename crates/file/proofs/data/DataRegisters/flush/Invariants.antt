use Rattle.std.proofs.Common.{◌≡◌}
use Rattle.marks.specs.Marks.{marked, how_many}
use Rattle.flat.specs.Data.{flushed}
use Rattle.file.specs.Data.{stands}
use Rattle.file.proofs.data.DataRegisters.flush.Given as goal

abbrev pub invariant-loop-tag : goal.invariant-loop-tag
invariant-loop-tag g l = flushed (stands l.self (g.S.Store.meaning l.store)) ≡ flushed (stands l.fn.self (g.S.Store.meaning l.fn.store))

abbrev pub decreases-loop-tag : goal.decreases-loop-tag
decreases-loop-tag g l = how_many (marked l.self.marks) 128
