-- The text of a replay, entry by entry; for private functions.
use Rattle.std.specs.Prelude.{ℕ, List, [], ◌∷◌, ◌++◌, codes}
use Rattle.telling.specs.Reports.{answered_text, script_text}
use Rattle.telling.specs.declared.report.Entry.{Entry}
use Rattle.telling.specs.declared.report.Entry.TheVariants.{NoCall, Answered}
use Rattle.telling.specs.declared.report.Left.{Left}

abbrev pub entry_text : Entry → List ℕ
entry_text NoCall = codes "?" ++ 10 ∷ []
entry_text (Answered one) = answered_text one.text.call one.text.answer.now one.steps.now one.lines.now

-- What is left to be printed.
abbrev pub left_text : Left → List ℕ
left_text left = script_text left.script.now left.answers.now left.steps.now left.lines.now
