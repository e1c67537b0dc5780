-- What is printed of an answer, of a trace's record, and of a line that was sent back.
use Rattle.std.specs.Prelude.{ℕ, Bool, true, false, List, ◌∷◌, ◌++◌, codes, Ok, Err, Result}
use Rattle.std.specs.Fmt.{decimal}
use Rattle.flat.specs.Refusals.{refusal_number}
use Rattle.flat.specs.declared.refusal.Refusal.{Refusal}
use Rattle.word.specs.Texts.{element_text}
use Rattle.flat.specs.Exceptions.{exception_number}
use Rattle.flat.specs.Operations.{swiarg}
use Rattle.flat.specs.declared.control.Control.{Control}
use Rattle.flat.specs.declared.exception.Stepped.{Stepped}
use Rattle.flat.specs.declared.exception.Stepped.TheVariants.{Done, Entered}
use Rattle.flat.specs.declared.records.Ran.{Ran}
use Rattle.flat.specs.declared.records.StepRecord.{StepRecord}
use Rattle.flat.specs.declared.shown.ShownData.{ShownData}
use Rattle.flat.specs.declared.shown.ShownInstruction.{ShownInstruction}
use Rattle.flat.specs.declared.answer.Answer.{Answer}
use Rattle.flat.specs.declared.answer.Answer.TheVariants.{Booted, Stepped as StepAnswer, Ran as RunAnswer, Traced, Pinned, Data, Instruction, Rest, Flushed, Halted}
use Rattle.flat.specs.declared.call.Call.{Call}
use Rattle.flat.specs.declared.call.Call.TheVariants.{Boot, Step, Run, Trace, Pin, ShowData, ShowInstruction, ShowRest, Flush, Halt}
use Rattle.text.specs.Hex.{hex}
use Rattle.text.specs.Modes.{mode_text}
use Rattle.telling.specs.Rows.{byte_rows, word_rows, parts}

-- The digit of a bit.
abbrev pub bit_text : Bool → List ℕ
bit_text true = codes "1"
bit_text false = codes "0"

-- What a step answered: done, or entered with the exception's number in 8 hexadecimal digits.
abbrev pub outcome_text : Stepped → List ℕ
outcome_text Done = codes "done"
outcome_text (Entered exception) = codes "entered " ++ hex 8 (exception_number exception)

-- How many steps were made, and what the last answered.
abbrev pub ran_text : Ran → List ℕ
ran_text ran = decimal ran.steps ++ codes " " ++ outcome_text ran.last

-- A step of a trace: mode, address and word as they were before it, and its answer.
abbrev pub record_text : StepRecord → List ℕ
record_text r = codes "  " ++ mode_text r.mode ++ codes " " ++ hex 8 r.address ++ codes " " ++ hex 8 r.word ++ codes " " ++ outcome_text r.answer

-- A line that was sent back.
abbrev pub sent_text : ℕ → List ℕ
sent_text line = codes "  sent " ++ decimal line

-- A data register: its address, its type, and below them its bytes.
abbrev pub data_text : ℕ → ShownData → List ℕ
data_text r shown = codes "d " ++ decimal r ++ codes " address " ++ hex 8 shown.register.address ++ codes " type " ++ element_text shown.register.kind ++ byte_rows (codes " ") shown.bytes

-- An instruction register: its address, and below it its words.
abbrev pub instruction_text : ℕ → ShownInstruction → List ℕ
instruction_text r shown = codes "i " ++ decimal r ++ codes " address " ++ hex 8 shown.address ++ word_rows shown.words

-- The four swiargs: the name of each on a new line (code 10), and its bytes below it.
abbrev pub swiarg_text : Control → ℕ → List ℕ
swiarg_text control k = 10 ∷ (codes "  swiarg" ++ (decimal k ++ byte_rows (codes "   ") (swiarg control k)))

abbrev pub swiargs_text : Control → List ℕ
swiargs_text control = parts (swiarg_text control) 4

-- All but the registers.
abbrev pub rest_text : Control → List ℕ
rest_text control = codes "rest mode " ++ mode_text control.mode ++ codes " ie " ++ bit_text control.ie ++ codes " xct " ++ hex 8 control.xct ++ codes " pin " ++ bit_text control.pin ++ swiargs_text control

-- The number of the register that a call shows; 0 where it shows none.
abbrev pub register_of : Call → ℕ
register_of (ShowData r) = r
register_of (ShowInstruction r) = r
register_of Boot = 0
register_of Step = 0
register_of (Run limit) = 0
register_of (Trace limit most) = 0
register_of (Pin up) = 0
register_of ShowRest = 0
register_of Flush = 0
register_of Halt = 0

-- What a call answered that shows this register, or none. A refused call prints x and the refusal's number.
abbrev pub answer_text : ℕ → Result Answer Refusal → List ℕ
answer_text r (Ok Booted) = codes "boot"
answer_text r (Ok (StepAnswer stepped)) = codes "step " ++ outcome_text stepped
answer_text r (Ok (RunAnswer ran)) = codes "run " ++ ran_text ran
answer_text r (Ok (Traced ran sent)) = codes "trace " ++ ran_text ran
answer_text r (Ok Pinned) = codes "pin"
answer_text r (Ok (Data shown)) = data_text r shown
answer_text r (Ok (Instruction shown)) = instruction_text r shown
answer_text r (Ok (Rest control)) = rest_text control
answer_text r (Ok (Flushed count)) = codes "flush " ++ decimal count
answer_text r (Ok (Halted count)) = codes "halt " ++ decimal count
answer_text r (Err why) = codes "x " ++ decimal (refusal_number why)
