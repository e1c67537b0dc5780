-- What was written is the rows so far.
use Rattle.std.specs.Fmt.{HasWritten, IsPlainFormatter}
use Rattle.telling.specs.Rows.{parts, byte_line}
use Rattle.telling.proofs.rows.ByteRowsDisplay.fmt.Given as goal

abbrev pub invariant-loop-k : goal.invariant-loop-k
invariant-loop-k g l = IsPlainFormatter l.initial.f → HasWritten g.W.Write.write_str_gives l.initial.f (parts (byte_line l.margin l.bytes) l.k) l.f
