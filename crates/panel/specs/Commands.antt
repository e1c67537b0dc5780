-- The commands of the console, and what each does to the machine.
use Rattle.std.specs.Prelude.{ℕ, if◌then◌else◌, Some, None, Option, Ok, Err, Result, ◌==◌}
use Rattle.flat.specs.declared.refusal.Refusal.{Refusal}
use Rattle.flat.specs.Calls.{Flat, Called, answered, step_call, run, flush}
use Rattle.flat.specs.declared.call.Call.{Call}
use Rattle.flat.specs.declared.call.Call.TheVariants.{Step as StepCall, Run as RunCall, Flush as FlushCall}
use Rattle.panel.specs.declared.commands.Command.{Command}
use Rattle.panel.specs.declared.commands.Command.TheVariants.{Step, Run, Flush, End, Skip, Unknown}

-- The letters s, g, f and q are commands (codes 115, 103, 102 and 113), a newline (10) is skipped, and any other letter is unknown.
abbrev pub command_of : ℕ → Command
command_of letter =
    if letter == 115 then Step
    else if letter == 103 then Run
    else if letter == 102 then Flush
    else if letter == 113 then End
    else if letter == 10 then Skip
    else Unknown

-- The call that a command makes: s one step, g a run of up to 1,000 steps, f a flush, and all else none.
abbrev pub call_of : Command → Option Call
call_of Step = Some StepCall
call_of Run = Some (RunCall 1000)
call_of Flush = Some FlushCall
call_of End = None
call_of Skip = None
call_of Unknown = None

-- That a call was made or refused, without what it answers.
abbrev pub made : {X : Type 0} → Result X Refusal → Result (Unit {0}) Refusal
made (Ok x) = Ok tt
made (Err why) = Err why

-- A call whose answer is of no account.
abbrev pub silent : {X : Type 0} → Called X → Called (Unit {0})
silent c = record { answer = made c.answer; flat = c.flat }

-- s makes one step, g runs up to 1,000 steps, f flushes, and all else changes nothing.
abbrev pub obeyed : Command → Flat → Called (Unit {0})
obeyed Step f = silent (step_call f)
obeyed Run f = silent (run 1000 f)
obeyed Flush f = silent (flush f)
obeyed End f = answered tt f
obeyed Skip f = answered tt f
obeyed Unknown f = answered tt f
