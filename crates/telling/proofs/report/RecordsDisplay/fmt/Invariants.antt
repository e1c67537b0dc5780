-- What was written is the records so far.
use Rattle.std.proofs.Common.{take}
use Rattle.std.specs.Fmt.{HasWritten, IsPlainFormatter}
use Rattle.telling.specs.Reports.{records_text}
use Rattle.telling.proofs.report.RecordsDisplay.fmt.Given as goal

abbrev pub invariant-loop-step : goal.invariant-loop-step
invariant-loop-step g l = IsPlainFormatter l.initial.f → HasWritten g.W.Write.write_str_gives l.initial.f (records_text (take l.step-index l.step-items)) l.f
