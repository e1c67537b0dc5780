-- What a command does is what its call does.
use Rattle.std.proofs.Common.{◌≡◌, refl, Result, Ok, Err, Some, None}
use Rattle.flat.specs.declared.refusal.Refusal.{Refusal}
use Rattle.flat.specs.Calls.{Flat, answered}
use Rattle.flat.specs.Fed.{answer_as, made as made_call}
use Rattle.flat.specs.declared.answer.Answer.{Answer}
use Rattle.flat.specs.declared.answer.Answer.TheVariants.{Stepped, Ran, Flushed}
use Rattle.flat.specs.declared.call.Call.{Call}
use Rattle.flat.specs.declared.call.Call.TheVariants.{Step as StepCall, Run as RunCall, Flush as FlushCall}
use Rattle.flat.specs.declared.records.Slots.{Slots}
use Rattle.panel.specs.Commands.{call_of, made, obeyed}
use Rattle.panel.specs.declared.commands.Command.{Command}
use Rattle.panel.specs.declared.commands.Command.TheVariants.{Step, Run, Flush, End, Skip, Unknown}

-- That a call was made or refused does not rest on the name of its answer.
unnamed : {X : Type 0} (name : X → Answer) (r : Result X Refusal) → made r ≡ made (answer_as name r)
unnamed name (Ok x) = refl
unnamed name (Err why) = refl

answer_of : (command : Command) (call : Call) (space : Slots) (f : Flat) → call_of command ≡ Some call → (obeyed command f).answer ≡ made (made_call space call f).answer
unfolding made_call
answer_of Step call space f same = let e : call ≡ StepCall = cc in rw e (unnamed Stepped _)
answer_of Run call space f same = let e : call ≡ RunCall 1000 = cc in rw e (unnamed Ran _)
answer_of Flush call space f same = let e : call ≡ FlushCall = cc in rw e (unnamed Flushed _)
answer_of End call space f same = absurd (cc)
answer_of Skip call space f same = absurd (cc)
answer_of Unknown call space f same = absurd (cc)

-- The call was made.
pub made_of : (command : Command) (call : Call) (space : Slots) (f : Flat) (x : Answer) → call_of command ≡ Some call → (made_call space call f).answer ≡ Ok x → (obeyed command f).answer ≡ Ok tt
made_of command call space f x same ok = rw (answer_of command call space f same, ok) refl

-- It was refused.
pub refused_of : (command : Command) (call : Call) (space : Slots) (f : Flat) (why : Refusal) → call_of command ≡ Some call → (made_call space call f).answer ≡ Err why → (obeyed command f).answer ≡ Err why
refused_of command call space f why same err = rw (answer_of command call space f same, err) refl

-- What it leaves.
pub flat_of : (command : Command) (call : Call) (space : Slots) (f : Flat) → call_of command ≡ Some call → (obeyed command f).flat ≡ (made_call space call f).flat
unfolding made_call
flat_of Step call space f same = let e : call ≡ StepCall = cc in rw e refl
flat_of Run call space f same = let e : call ≡ RunCall 1000 = cc in rw e refl
flat_of Flush call space f same = let e : call ≡ FlushCall = cc in rw e refl
flat_of End call space f same = absurd (cc)
flat_of Skip call space f same = absurd (cc)
flat_of Unknown call space f same = absurd (cc)

pub no_call : (command : Command) (f : Flat) → call_of command ≡ None → obeyed command f ≡ answered tt f
no_call Step f none = absurd (cc)
no_call Run f none = absurd (cc)
no_call Flush f none = absurd (cc)
no_call End f none = refl
no_call Skip f none = refl
no_call Unknown f none = refl

pub ruleset obeying = (made_of, refused_of, flat_of, no_call)
