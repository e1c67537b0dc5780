-- What was written is the lines so far.
use Rattle.std.proofs.Common.{take}
use Rattle.std.specs.Fmt.{HasWritten, IsPlainFormatter}
use Rattle.telling.specs.Reports.{sents_text}
use Rattle.telling.proofs.report.SentsDisplay.fmt.Given as goal

abbrev pub invariant-loop-line : goal.invariant-loop-line
invariant-loop-line g l = IsPlainFormatter l.initial.f → HasWritten g.W.Write.write_str_gives l.initial.f (sents_text (take l.line-index l.line-items)) l.f
