-- The calls as values, and the flat machine that is fed a list of them.
use Rattle.std.specs.Prelude.{◌-◌, min, List, [], ◌∷◌, ◌++◌, length, fold, Ok, Err, Result}
use Rattle.flat.specs.declared.refusal.Refusal.{Refusal}
use Rattle.store.specs.Meaning.{Meaning}
use Rattle.flat.specs.Calls.{Flat, Called, Kept, Traced, cold, boot, step_call, run, trace, pin, show_data, show_instruction, show_rest, flush, halt, kept_then, nothing_kept}
use Rattle.flat.specs.declared.answer.Answer.{Answer}
use Rattle.flat.specs.declared.answer.Answer.TheVariants.{Booted, Stepped, Ran, Traced as TraceAnswer, Pinned, Data, Instruction, Rest, Flushed, Halted}
use Rattle.flat.specs.declared.call.Call.{Call}
use Rattle.flat.specs.declared.call.Call.TheVariants.{Boot, Step, Run, Trace, Pin, ShowData, ShowInstruction, ShowRest, Flush, Halt}
use Rattle.flat.specs.declared.records.Slots.{Slots}

-- What a call answers, what it adds to the trails, and the machine that it leaves.
pub record Told : Type 0 where
  pub answer : Result Answer Refusal
  pub kept : Kept
  pub flat : Flat

-- An answer, as one of the answers of all calls.
abbrev pub answer_as : {X : Type 0} → (X → Answer) → Result X Refusal → Result Answer Refusal
answer_as name (Ok x) = Ok (name x)
answer_as name (Err why) = Err why

-- A call that adds nothing to the trails.
abbrev pub told : {X : Type 0} → (X → Answer) → Called X → Told
told name c = record { answer = answer_as name c.answer; kept = nothing_kept; flat = c.flat }

-- What trace adds to its trails: nothing where it is refused.
abbrev pub kept_of : Result Traced Refusal → Kept
kept_of (Ok t) = t.kept
kept_of (Err why) = nothing_kept

-- The answer of trace says how many lines its steps sent back.
abbrev pub trace_answer : Traced → Answer
trace_answer t = TraceAnswer t.ran (length t.kept.sent)

abbrev pub told_trace : Called Traced → Told
told_trace c = record { answer = answer_as trace_answer c.answer; kept = kept_of c.answer; flat = c.flat }

-- No more slots of each trail than these, nor than those.
abbrev pub at_most : Slots → Slots → Slots
at_most most space = record { steps = min most.steps space.steps; lines = min most.lines space.lines }

-- One call. Of the trails it is given only the space left; trace takes no more of it than it asks for.
unfoldable pub made : Slots → Call → Flat → Told
made space Boot f = told (λ u. Booted) (boot f)
made space Step f = told Stepped (step_call f)
made space (Run limit) f = told Ran (run limit f)
made space (Trace limit most) f = told_trace (trace limit (at_most most space) f)
made space (Pin up) f = told (λ u. Pinned) (pin up f)
made space (ShowData r) f = told Data (show_data r f)
made space (ShowInstruction r) f = told Instruction (show_instruction r f)
made space ShowRest f = told Rest (show_rest f)
made space Flush f = told Flushed (flush f)
made space Halt f = told Halted (halt f)

-- Calls made one after the other: what each answered, what they added to the trails, and the machine.
pub record Fed : Type 0 where
  pub answers : List (Result Answer Refusal)
  pub kept : Kept
  pub flat : Flat

-- No call was made yet: the machine is cold and unmarked, with the store's lines.
abbrev pub unfed : Meaning → Fed
unfed m = record { answers = []; kept = nothing_kept; flat = cold m }

-- The space left in trails that had this space, once so much was added.
abbrev pub space_left : Slots → Kept → Slots
space_left space k = record { steps = space.steps - length k.records; lines = space.lines - length k.sent }

-- The next call, where the trails had this space before the first.
abbrev pub next : Slots → Fed → Call → Told
next space h c = made (space_left space h.kept) c h.flat

-- One more call.
unfoldable pub one_call : Slots → Fed → Call → Fed
one_call space h c =
    let t = next space h c in
    record {
      answers = h.answers ++ t.answer ∷ [];
      kept = kept_then h.kept t.kept;
      flat = t.flat;
    }

-- The whole list, on a store that meant m before the first call.
abbrev pub fed : Slots → List Call → Meaning → Fed
fed space calls m = fold (one_call space) (unfed m) calls
