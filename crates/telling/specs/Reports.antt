-- What is printed of a whole replay.
use Rattle.std.specs.Prelude.{ℕ, List, [], ◌∷◌, ◌++◌, codes, drop, take, flat_map, Ok, Err, Result, Option, Some, None}
use Rattle.flat.specs.declared.records.StepRecord.{StepRecord}
use Rattle.flat.specs.declared.answer.Answer.{Answer}
use Rattle.flat.specs.declared.answer.Answer.TheVariants.{Booted, Stepped, Ran, Traced, Pinned, Data, Instruction, Rest, Flushed, Halted}
use Rattle.flat.specs.declared.call.Call.{Call}
use Rattle.flat.specs.declared.refusal.Refusal.{Refusal}
use Rattle.telling.specs.Texts.{answer_text, record_text, register_of, sent_text}

-- A line for each step, and for each line that was sent back; each ends in a newline (code 10).
abbrev pub records_text : List StepRecord → List ℕ
records_text steps = flat_map (λ step. record_text step ++ 10 ∷ []) steps

abbrev pub sents_text : List ℕ → List ℕ
sents_text lines = flat_map (λ line. sent_text line ++ 10 ∷ []) lines

-- What a call answered, and below it the records and the lines that it added to the trails.
abbrev pub answered_text : Call → Result Answer Refusal → List StepRecord → List ℕ → List ℕ
answered_text call answer steps lines = answer_text (register_of call) answer ++ 10 ∷ records_text steps ++ sents_text lines

-- How many records a call added.
abbrev pub made : Result Answer Refusal → ℕ
made (Ok (Traced ran n)) = ran.steps
made (Ok Booted) = 0
made (Ok (Stepped x)) = 0
made (Ok (Ran ran)) = 0
made (Ok Pinned) = 0
made (Ok (Data shown)) = 0
made (Ok (Instruction shown)) = 0
made (Ok (Rest control)) = 0
made (Ok (Flushed count)) = 0
made (Ok (Halted count)) = 0
made (Err why) = 0

-- How many lines.
abbrev pub sent : Result Answer Refusal → ℕ
sent (Ok (Traced ran n)) = n
sent (Ok Booted) = 0
sent (Ok (Stepped x)) = 0
sent (Ok (Ran ran)) = 0
sent (Ok Pinned) = 0
sent (Ok (Data shown)) = 0
sent (Ok (Instruction shown)) = 0
sent (Ok (Rest control)) = 0
sent (Ok (Flushed count)) = 0
sent (Ok (Halted count)) = 0
sent (Err why) = 0

-- The lines of a script, each with its call if it has one. Each call has the next answer, and each trace the next records and lines sent back; a line that is no call prints a question mark. Where there is no answer left, nothing more is printed.
unfoldable pub script_text : List (Option Call) → List (Result Answer Refusal) → List StepRecord → List ℕ → List ℕ
script_text [] answers steps lines = []
script_text (None ∷ script) answers steps lines = codes "?" ++ 10 ∷ script_text script answers steps lines
script_text (Some call ∷ script) [] steps lines = []
script_text (Some call ∷ script) (answer ∷ answers) steps lines = answered_text call answer (take (made answer) steps) (take (sent answer) lines) ++ script_text script answers (drop (made answer) steps) (drop (sent answer) lines)
