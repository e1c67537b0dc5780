-- The calls: what each answers and refuses, and what it leaves.
use Rattle.std.specs.Prelude.{ℕ, zero, suc, ◌+◌, ◌*◌, Bool, true, false, if◌then◌else◌, not, ◌&&◌, List, [], ◌∷◌, ◌++◌, length, Some, None, Option, Ok, Err, Result, ◌==◌, nat_lt}
use Rattle.flat.specs.declared.refusal.Refusal.{Refusal}
use Rattle.flat.specs.declared.refusal.Refusal.TheVariants.{NoLines, Cold, Warm, NoRegister, OverLimit}
use Rattle.word.specs.Lines.{little_endian}
use Rattle.marks.specs.Marks.{how_many}
use Rattle.store.specs.Meaning.{Meaning, most}
use Rattle.flat.specs.Data.{Data, given, shown, flushed, handed}
use Rattle.flat.specs.Instructions.{Instruction}
use Rattle.flat.specs.Machine.{Machine, with_data, with_control, word, ipc_address}
use Rattle.flat.specs.Registers.{blank, zeros, is_real}
use Rattle.flat.specs.declared.bus.Bus.{Bus}
use Rattle.flat.specs.Step.{step}
use Rattle.flat.specs.declared.control.Control.{Control}
use Rattle.flat.specs.declared.control.Mode.TheVariants.{Supervisor}
use Rattle.flat.specs.declared.exception.Stepped.{Stepped}
use Rattle.flat.specs.declared.exception.Stepped.TheVariants.{Done, Entered}
use Rattle.flat.specs.declared.records.Ran.{Ran}
use Rattle.flat.specs.declared.records.Slots.{Slots}
use Rattle.flat.specs.declared.records.StepRecord.{StepRecord}
use Rattle.flat.specs.declared.shown.ShownData.{ShownData}
use Rattle.flat.specs.declared.shown.ShownInstruction.{ShownInstruction}

-- The flat machine is warm from boot to halt, and else cold.
pub record Flat : Type 0 where
  pub warm : Bool
  pub machine : Machine

-- What a call answers, and what it leaves.
pub record Called (X : Type 0) : Type 0 where
  pub answer : Result X Refusal
  pub flat : Flat

-- A refused call changes nothing.
abbrev pub refused : {X : Type 0} → Refusal → Flat → Called X
refused why f = record { answer = Err why; flat = f }

-- A call that is not refused.
abbrev pub answered : {X : Type 0} → X → Flat → Called X
answered x f = record { answer = Ok x; flat = f }

-- The same warmth, with another machine.
abbrev pub with_machine : Machine → Flat → Flat
with_machine m f = record f { machine = m }

-- Supervisor mode, everything else zero.
abbrev pub blank_control : Control
blank_control = record { mode = Supervisor; ie = false; xct = 0; swiargs = zeros ∷ zeros ∷ zeros ∷ zeros ∷ []; pin = false }

-- Memory and backing copy are the store's lines, no line is touched, and every data register is at address 0 with type u8.
abbrev pub started_data : Meaning → Data
started_data m = record { registers = λ r. blank; memory = given m; touched = λ n. false; backing = m }

-- Every instruction register is at address 0 and holds the words of line 0; a zero register shows zeros.
abbrev pub started_instructions : List ℕ → ℕ → Instruction
started_instructions line r = record { address = 0; bytes = if is_real r then line else zeros }

-- The machine that boot starts.
unfoldable pub started : Meaning → Machine
started m = record { data_registers = started_data m; instructions = started_instructions (given m 0); control = blank_control }

-- A cold machine over a store: nothing of it shows before boot.
unfoldable pub cold : Meaning → Flat
cold m = record { warm = false; machine = record { data_registers = started_data m; instructions = started_instructions zeros; control = blank_control } }

-- The backing copy.
abbrev pub backing : Flat → Meaning
backing f = f.machine.data_registers.backing

-- Boot is refused on a warm machine, and then where the store has no lines.
unfoldable pub boot : Flat → Called (Unit {0})
boot f = if f.warm then refused Warm f else if (backing f).size == 0 then refused NoLines f else answered tt (record { warm = true; machine = started (backing f) })

-- Every other call is refused on a cold machine.
abbrev pub when_warm : {X : Type 0} → (Flat → Called X) → Flat → Called X
when_warm call f = if f.warm then call f else refused Cold f

-- A step answers the exception entered, or done.
unfoldable pub step_call : Flat → Called Stepped
step_call = when_warm (λ f. answered (step f.machine).answer (with_machine (step f.machine).machine f))

-- The most steps that a call may be asked for.
abbrev pub most_steps : ℕ
most_steps = 1000000

-- What a trace keeps of steps: a record of each, and the lines that they sent to the backing copy, in order.
pub record Kept : Type 0 where
  pub records : List StepRecord
  pub sent : List ℕ

-- Nothing is kept.
abbrev pub nothing_kept : Kept
nothing_kept = record { records = []; sent = [] }

-- What is kept of one thing and then of another.
abbrev pub kept_then : Kept → Kept → Kept
kept_then k l = record { records = k.records ++ l.records; sent = k.sent ++ l.sent }

-- Steps made one after the other: the machine, how many they were, what the last answered, and what a trace keeps of them.
pub record Steps : Type 0 where
  pub machine : Machine
  pub ran : Ran
  pub kept : Kept

-- No steps were made yet.
abbrev pub no_steps : Machine → Steps
no_steps m = record { machine = m; ran = record { steps = 0; last = Done }; kept = nothing_kept }

-- A record has the mode, the address and the word before the step, and its answer.
abbrev pub recorded : Machine → Stepped → StepRecord
recorded m answer = record { mode = m.control.mode; address = ipc_address m; word = word m; answer = answer }

-- The lines that a step sent: one or none.
abbrev pub sent_lines : Option ℕ → List ℕ
sent_lines None = []
sent_lines (Some n) = n ∷ []

-- What a trace keeps of one step.
abbrev pub kept_of_step : StepRecord → Bus → Kept
kept_of_step made bus = record { records = made ∷ []; sent = sent_lines bus.sent }

-- One more step.
unfoldable pub one_more : Steps → Steps
one_more s =
    let after = step s.machine in
    record {
      machine = after.machine;
      ran = record { steps = s.ran.steps + 1; last = after.answer };
      kept = kept_then s.kept (kept_of_step (recorded s.machine after.answer) after.bus);
    }

-- A run stops after the first step that enters.
abbrev pub has_entered : Stepped → Bool
has_entered Done = false
has_entered (Entered x) = true

-- At most so many steps, as long as a test holds of those made.
unfoldable pub steps_while : (Steps → Bool) → ℕ → Steps → Steps
steps_while go zero s = s
steps_while go (suc limit) s = if go s then steps_while go limit (one_more s) else s

-- A run goes on as long as no step entered.
abbrev pub runs_on : Steps → Bool
runs_on s = not (has_entered s.ran.last)

-- Run makes up to its limit of steps.
abbrev pub run_steps : ℕ → Machine → Steps
run_steps limit m = steps_while runs_on limit (no_steps m)

-- A limit over 1,000,000 is refused.
abbrev pub within_limit : {X : Type 0} → ℕ → (Flat → Called X) → Flat → Called X
within_limit limit call f = if nat_lt most_steps limit then refused OverLimit f else call f

-- Run answers the steps made and the last answer.
unfoldable pub run : ℕ → Flat → Called Ran
run limit = when_warm (within_limit limit (λ f. answered (run_steps limit f.machine).ran (with_machine (run_steps limit f.machine).machine f)))

-- Trace is run with two trails. It stops before a step unless both have space for one more record.
abbrev pub traces_on : Slots → Steps → Bool
traces_on space s = runs_on s && nat_lt (length s.kept.records) space.steps && nat_lt (length s.kept.sent) space.lines

-- Trace makes up to its limit of steps.
abbrev pub trace_steps : ℕ → Slots → Machine → Steps
trace_steps limit space m = steps_while (traces_on space) limit (no_steps m)

-- What trace answers, and what it adds to its trails.
pub record Traced : Type 0 where
  pub ran : Ran
  pub kept : Kept

-- What trace answers and adds, of the steps that it made.
abbrev pub traced : Steps → Traced
traced s = record { ran = s.ran; kept = s.kept }

-- Trace is given the limit, and the space left in each trail.
unfoldable pub trace : ℕ → Slots → Flat → Called Traced
trace limit space =
    when_warm (within_limit limit (λ f. let s = trace_steps limit space f.machine in answered (traced s) (with_machine s.machine f)))

-- Pin puts the pin up or down.
unfoldable pub pin : Bool → Flat → Called (Unit {0})
pin up = when_warm (λ f. answered tt (with_machine (with_control (record f.machine.control { pin = up }) f.machine) f))

-- Show gives a register or all other fields, and changes nothing. A register over 127 is refused.
abbrev pub of_register : {X : Type 0} → ℕ → (Machine → X) → Flat → Called X
of_register r show f = if nat_lt r 128 then answered (show f.machine) f else refused NoRegister f

-- A data register's address, type and 128 bytes.
abbrev pub data_shown : ℕ → Machine → ShownData
data_shown r m = record { register = m.data_registers.registers r; bytes = shown m.data_registers r }

-- The first k words of a line.
unfoldable pub words_from : List ℕ → ℕ → List ℕ
words_from line zero = []
words_from line (suc k) = words_from line k ++ little_endian line (4 * k) ∷ []

-- An instruction register's address and its 32 words.
abbrev pub instruction_shown : ℕ → Machine → ShownInstruction
instruction_shown r m = record { address = (m.instructions r).address; words = words_from (m.instructions r).bytes 32 }

-- Show is asked for one of three things: of a data register.
unfoldable pub show_data : ℕ → Flat → Called ShownData
show_data r = when_warm (of_register r (data_shown r))

-- Of an instruction register.
unfoldable pub show_instruction : ℕ → Flat → Called ShownInstruction
show_instruction r = when_warm (of_register r (instruction_shown r))

-- Of all other fields.
unfoldable pub show_rest : Flat → Called Control
show_rest = when_warm (λ f. answered f.machine.control f)

-- How many lines are touched. No store has a line from 33,554,432 on.
abbrev pub touched_lines : Data → ℕ
touched_lines d = how_many d.touched most

-- Flush sends back and unmarks every touched line, and answers how many they were.
unfoldable pub flush : Flat → Called ℕ
flush = when_warm (λ f. answered (touched_lines f.machine.data_registers) (with_machine (with_data (flushed f.machine.data_registers) f.machine) f))

-- Halt flushes and leaves the machine cold.
unfoldable pub halt : Flat → Called ℕ
halt = when_warm (λ f. answered (touched_lines f.machine.data_registers) (cold (flushed f.machine.data_registers).backing))

-- The machine as a call on the store m finds it, which need not be the store of the calls before it: a warm machine is handed that store; of a cold one only the store is left.
unfoldable pub on_store : Meaning → Flat → Flat
on_store m f = if f.warm then with_machine (with_data (handed m f.machine.data_registers) f.machine) f else cold m
