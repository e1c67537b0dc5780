-- What was written is the swiargs so far.
use Rattle.std.specs.Fmt.{HasWritten, IsPlainFormatter}
use Rattle.telling.specs.Rows.{parts}
use Rattle.telling.specs.Texts.{swiarg_text}
use Rattle.telling.proofs.shown.SwiargsDisplay.fmt.Given as goal

abbrev pub invariant-loop-k : goal.invariant-loop-k
invariant-loop-k g l = IsPlainFormatter l.initial.f → HasWritten g.W.Write.write_str_gives l.initial.f (parts (swiarg_text l.control) l.k-counter) l.f
