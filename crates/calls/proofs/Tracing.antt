-- The loops of run and trace, as the code has them.
use Rattle.std.proofs.Common.{◌≡◌, ◌≤◌, ◌<◌, ℕ, ◌+◌, ◌-◌, Bool, true, false, not, ◌&&◌, nat_lt, length, refl, sym, ap, ap₂, subst, ◌∙◌, arith}
use Rattle.std.proofs.lemmas.Bool.Decides.{nat_tests}
use Rattle.flat.proofs.Turns.{Reached, begins, turns, ends, breaks}
use Rattle.flat.specs.Calls.{Kept, Steps, steps_while, traces_on, runs_on, no_steps, one_more, recorded, kept_of_step, kept_then, nothing_kept, has_entered}
use Rattle.flat.specs.Machine.{Machine}
use Rattle.flat.specs.Step.{step}
use Rattle.flat.specs.declared.bus.Bus.{Bus}
use Rattle.flat.specs.declared.exception.Stepped.{Stepped}
use Rattle.flat.specs.declared.exception.Stepped.TheVariants.{Done}
use Rattle.flat.specs.declared.records.Ran.{Ran}
use Rattle.flat.specs.declared.records.Slots.{Slots}
use Rattle.flat.specs.declared.records.StepRecord.{StepRecord}
use Rattle.trail.specs.Trails.{space as space_of}
use Rattle.trail.proofs.Adding.{space_after}
use Rattle.calls.proofs.Feeding.{keeps_none, keeps_then}
use Rattle.calls.specs.Loops.{Ended, beside}
use Rattle.calls.specs.Trails.{Keeps, space}
use Rattle.calls.specs.declared.trails.Trails.{Trails}

-- the steps that a machine, what a run answers so far and what a trace kept come to
abbrev pub so_far : Machine → Ran → Kept → Steps
so_far now ran kept = record { machine = now; ran = ran; kept = kept }

-- one more step, by what the code has of it
one_step : (now after : Machine) (ran : Ran) (kept : Kept) (answer : Stepped) (bus : Bus) → after ≡ (step now).machine → answer ≡ (step now).answer → bus ≡ (step now).bus → so_far after (record { steps = ran.steps + 1; last = answer }) (kept_then kept (kept_of_step (recorded now answer) bus)) ≡ one_more (so_far now ran kept)
unfolding one_more
one_step now after ran kept answer bus e f g =
    ap (λ (m : Machine). so_far m (record { steps = ran.steps + 1; last = answer }) (kept_then kept (kept_of_step (recorded now answer) bus))) e
    ∙ ap₂ (λ (a : Stepped) (b : Bus). so_far (step now).machine (record { steps = ran.steps + 1; last = a }) (kept_then kept (kept_of_step (recorded now a) b))) f g

-- A run keeps nothing, so whatever a trace would have kept may stand there.
abbrev pub Ran_to : ℕ → Machine → Machine → Ran → Type 0
Ran_to limit start now ran = (kept : Kept) × Reached runs_on limit start (so_far now ran kept)

pub run_begins : (limit : ℕ) (start : Machine) → Ran_to limit start start (record { steps = 0; last = Done })
run_begins limit start = (nothing_kept, begins runs_on limit start)

pub run_turns : (limit : ℕ) (start now after : Machine) (ran : Ran) (answer : Stepped) → Ran_to limit start now ran → ran.steps < limit → has_entered ran.last ≡ false → after ≡ (step now).machine → answer ≡ (step now).answer → Ran_to limit start after (record { steps = ran.steps + 1; last = answer })
run_turns limit start now after ran answer h l on e f = (
  kept_then h.0 (kept_of_step (recorded now answer) (step now).bus),
  subst (λ (s : Steps). Reached runs_on limit start s) (sym (one_step now after ran h.0 answer (step now).bus e f refl)) (turns runs_on limit start (so_far now ran h.0) h.1 l (ap not on)),
)

-- The run ended as the flat machine's does.
abbrev pub Ran_all : ℕ → Machine → Machine → Ran → Type 0
Ran_all limit start now ran = (now ≡ (steps_while runs_on limit (no_steps start)).machine) × (ran ≡ (steps_while runs_on limit (no_steps start)).ran)

all_ran : (all : Steps) (now : Machine) (ran : Ran) (kept : Kept) → so_far now ran kept ≡ all → (now ≡ all.machine) × (ran ≡ all.ran)
all_ran all now ran kept e = (ap (λ (x : Steps). x.machine) e, ap (λ (x : Steps). x.ran) e)

pub run_ends : (limit : ℕ) (start now : Machine) (ran : Ran) → Ran_to limit start now ran → limit ≤ ran.steps → Ran_all limit start now ran
run_ends limit start now ran h l = all_ran _ now ran h.0 (ends runs_on limit start (so_far now ran h.0) h.1 l)

pub run_breaks : (limit : ℕ) (start now : Machine) (ran : Ran) → Ran_to limit start now ran → has_entered ran.last ≡ true → Ran_all limit start now ran
run_breaks limit start now ran h on = all_ran _ now ran h.0 (breaks runs_on limit start (so_far now ran h.0) h.1 (ap not on))

-- A trace keeps in the trails what the flat machine keeps.
pub record Traced_to (space : Slots) (limit : ℕ) (start now : Machine) (ran : Ran) (before after : Trails) : Type 0 where
  pub kept : Kept
  pub reached : Reached (traces_on space) limit start (so_far now ran kept)
  pub keeps : Keeps before after kept

pub trace_begins : (space : Slots) (limit : ℕ) (start : Machine) (t : Trails) → Traced_to space limit start start (record { steps = 0; last = Done }) t t
trace_begins space limit start t = record { kept = nothing_kept; reached = begins (traces_on space) limit start; keeps = keeps_none t }

-- a trail has space beside the slots that are left alone exactly when fewer records were added than may be
room_by : (n len spare : ℕ) (b c : Bool) → nat_lt len (n - spare) ≡ b → nat_lt spare (n - len) ≡ c → b ≡ c
room_by n len spare true true e f = refl
room_by n len spare false false e f = refl
room_by n len spare true false e f = grind (arith, nat_tests, e, f)
room_by n len spare false true e f = grind (arith, nat_tests, e, f)

room : (n len spare : ℕ) → nat_lt len (n - spare) ≡ nat_lt spare (n - len)
room n len spare = room_by n len spare _ _ refl refl

-- so the test of the code is that of the flat machine
same_test : {before now : Trails} {kept : Kept} (spare : Slots) (m : Machine) (ran : Ran) → Keeps before now kept → traces_on (beside (space before) spare) (so_far m ran kept) ≡ (not (has_entered ran.last) && nat_lt spare.steps (space_of now.steps) && nat_lt spare.lines (space_of now.lines))
same_test {before = before} {now = now} {kept = kept} spare m ran k =
    ap (λ x. not (has_entered ran.last) && x && nat_lt (length kept.sent) (space_of before.lines - spare.lines)) (room (space_of before.steps) (length kept.records) spare.steps ∙ ap (nat_lt spare.steps) (sym (space_after k.0)))
    ∙ ap (λ x. not (has_entered ran.last) && nat_lt spare.steps (space_of now.steps) && x) (room (space_of before.lines) (length kept.sent) spare.lines ∙ ap (nat_lt spare.lines) (sym (space_after k.1)))

-- one more step was made and kept
pub trace_turns : (spare : Slots) {limit : ℕ} {start m after : Machine} {ran : Ran} {made : StepRecord} {bus : Bus} {before now more : Trails}
    → Traced_to (beside (space before) spare) limit start m ran before now
    → ran.steps < limit
    → (not (has_entered ran.last) && nat_lt spare.steps (space_of now.steps) && nat_lt spare.lines (space_of now.lines)) ≡ true
    → after ≡ (step m).machine
    → made ≡ recorded m (step m).answer
    → bus ≡ (step m).bus
    → Keeps now more (kept_of_step made bus)
    → Traced_to (beside (space before) spare) limit start after (record { steps = ran.steps + 1; last = made.answer }) before more
trace_turns spare {limit = limit} {start = start} {m = m} {after = after} {ran = ran} {made = made} {bus = bus} {before = before} {now = now} {more = more} h l on e f g keeps =
    let go = traces_on (beside (space before) spare) in
    let goes : go (so_far m ran h.kept) ≡ true = same_test spare m ran h.keeps ∙ on in
    let is_last : made.answer ≡ (step m).answer = ap (λ (r : StepRecord). r.answer) f in
    let is_made : made ≡ recorded m made.answer = f ∙ ap (recorded m) (sym is_last) in
    let same : so_far after (record { steps = ran.steps + 1; last = made.answer }) (kept_then h.kept (kept_of_step made bus)) ≡ one_more (so_far m ran h.kept) =
    ap (λ (r : StepRecord). so_far after (record { steps = ran.steps + 1; last = made.answer }) (kept_then h.kept (kept_of_step r bus))) is_made
    ∙ one_step m after ran h.kept made.answer bus e is_last g in
    record {
      kept = kept_then h.kept (kept_of_step made bus);
      reached = subst (λ (s : Steps). Reached go limit start s) (sym same) (turns go limit start (so_far m ran h.kept) h.reached l goes);
      keeps = keeps_then h.keeps keeps;
    }

-- what was made is all
all_traced : (all : Steps) {now : Machine} {ran : Ran} {kept : Kept} {before after : Trails} → so_far now ran kept ≡ all → Keeps before after kept → Ended all now ran before after
all_traced all {before = before} {after = after} e k = record {
  machine = ap (λ (x : Steps). x.machine) e;
  answer = ap (λ (x : Steps). x.ran) e;
  kept = subst (λ (x : Steps). Keeps before after x.kept) e k;
}

-- the limit is reached
pub trace_ends : {space : Slots} {limit : ℕ} {start now : Machine} {ran : Ran} {before after : Trails} → Traced_to space limit start now ran before after → limit ≤ ran.steps → Ended (steps_while (traces_on space) limit (no_steps start)) now ran before after
trace_ends {space = space} {limit = limit} {start = start} {now = now} {ran = ran} h l = all_traced _ (ends (traces_on space) limit start (so_far now ran h.kept) h.reached l) h.keeps

-- or the trace stops before
pub trace_breaks : (spare : Slots) {limit : ℕ} {start m : Machine} {ran : Ran} {before now : Trails}
    → Traced_to (beside (space before) spare) limit start m ran before now
    → (not (has_entered ran.last) && nat_lt spare.steps (space_of now.steps) && nat_lt spare.lines (space_of now.lines)) ≡ false
    → Ended (steps_while (traces_on (beside (space before) spare)) limit (no_steps start)) m ran before now
trace_breaks spare {limit = limit} {start = start} {m = m} {ran = ran} {before = before} {now = now} h off =
    let goes = same_test spare m ran h.keeps ∙ off in
    all_traced _ (breaks (traces_on (beside (space before) spare)) limit start (so_far m ran h.kept) h.reached goes) h.keeps
