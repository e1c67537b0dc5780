-- One call, on the backing copy.
use Rattle.std.proofs.Common.{◌≡◌, ◌<◌, ℕ, Bool, true, false, if◌then◌else◌, List, Ok, nat_lt, ◌==◌, refl, sym, subst, ap, ◌∙◌, arith}
use Rattle.std.proofs.lemmas.Bool.{true≢false}
use Rattle.std.proofs.lemmas.Bool.Decides.{nat_tests}
use Rattle.flat.specs.declared.refusal.Refusal.{Refusal}
use Rattle.flat.specs.declared.refusal.Refusal.TheVariants.{NoLines, Cold, Warm, NoRegister, OverLimit}
use Rattle.store.specs.Meaning.{Meaning}
use Rattle.flat.specs.Calls.{Flat, Called, Traced as TracedSteps, refused, answered, with_machine, when_warm, within_limit, of_register, most_steps, started, started_data, cold, backing, boot, step_call, run, run_steps, trace, trace_steps, traced, runs_on, traces_on, pin, show_data, show_instruction, show_rest, data_shown, instruction_shown, flush, halt, touched_lines}
use Rattle.flat.specs.Data.{Data, given, flushed}
use Rattle.flat.specs.Machine.{Machine, with_data, with_control}
use Rattle.flat.specs.Step.{step}
use Rattle.flat.specs.declared.records.Ran.{Ran as RanSteps}
use Rattle.flat.specs.declared.records.Slots.{Slots}
use Rattle.flat.proofs.Coherence.{Coherent}
use Rattle.flat.proofs.Several.{data_at, coherent_at, size_at, canwrite_at, beside_at, line_at, run_counted}
use Rattle.flat.specs.Fed.{Told, told, told_trace, made, at_most}
use Rattle.flat.specs.Leaving.{after_steps, steps_made, sends_all, LineAfter, StoreAfter}
use Rattle.flat.specs.declared.answer.Answer.{Answer}
use Rattle.flat.specs.declared.answer.Answer.TheVariants.{Booted, Stepped, Ran, Pinned, Data as DataAnswer, Instruction, Rest, Flushed, Halted}
use Rattle.flat.specs.declared.call.Call.{Call}
use Rattle.flat.specs.declared.call.Call.TheVariants.{Boot, Step, Run, Trace, Pin, ShowData, ShowInstruction, ShowRest, Flush, Halt}

-- The data of a machine, warm or cold.
abbrev pub data_of : Flat → Data
data_of f = f.machine.data_registers

-- What is to be shown of each call.
pub record After (f : Flat) (t : Told) : Type 0 where
  pub coherent : Coherent (data_of t.flat)
  pub store : StoreAfter f t

-- Of no steps.
no_steps_line : (n k : ℕ) (m : Machine) (before after : Meaning) → k ≡ 0 → after ≡ before → LineAfter n k m before after
no_steps_line n k m before after z e = record {
  kept = λ h. ap (λ (x : Meaning). x.line n) e;
  sent = λ i h. absurd (omega (arith, z, h.0));
}

-- A call that makes no steps and leaves the backing copy as it is.
pub quiet : (f : Flat) (t : Told) → sends_all t.answer ≡ false → steps_made t.answer ≡ 0 → backing t.flat ≡ backing f → Coherent (data_of t.flat) → After f t
quiet f t s k b c = record {
  coherent = c;
  store = record {
    size = ap (λ (x : Meaning). x.size) b;
    canwrite = ap (λ (x : Meaning). x.canwrite) b;
    beside = ap (λ (x : Meaning). x.kept) b;
    all = λ h. absurd (true≢false (sym h ∙ s));
    others = λ h n small. no_steps_line n (steps_made t.answer) f.machine (backing f) (backing t.flat) k b;
  };
}

-- A call that makes steps.
pub stepping : (f : Flat) (t : Told) → sends_all t.answer ≡ false → t.flat.machine ≡ after_steps (steps_made t.answer) f.machine → Coherent (data_of f) → After f t
stepping f t s e c =
    let k = steps_made t.answer in
    let same : data_of t.flat ≡ data_at k f.machine = ap (λ (m : Machine). m.data_registers) e in
    record {
      coherent = subst (λ (d : Data). Coherent d) (sym same) (coherent_at f.machine c k);
      store = record {
        size = ap (λ (d : Data). d.backing.size) same ∙ size_at f.machine c k;
        canwrite = ap (λ (d : Data). d.backing.canwrite) same ∙ canwrite_at f.machine c k;
        beside = ap (λ (d : Data). d.backing.kept) same ∙ beside_at f.machine c k;
        all = λ h. absurd (true≢false (sym h ∙ s));
        others = λ h n small. subst (λ (d : Data). LineAfter n k f.machine (backing f) d.backing) (sym same) (line_at f.machine c n small k);
      };
    }

-- A flush.
module _ (d : Data) (c : Coherent d) where
  flushed_line : (n : ℕ) → n < d.backing.size → (b : Bool) → d.touched n ≡ b → (flushed d).backing.line n ≡ d.memory n
  unfolding flushed given
  flushed_line n small true h = grind (arith, nat_tests, h, c.touched n h)
  flushed_line n small false h = grind (arith, nat_tests, h, c.untouched n h, small)

  flushed_given : (n : ℕ) (t s : Bool) → d.touched n ≡ t → nat_lt n d.backing.size ≡ s → d.memory n ≡ given (flushed d).backing n
  unfolding flushed given
  flushed_given n true true h e = grind (arith, nat_tests, h, e, c.touched n h)
  flushed_given n true false h e = grind (arith, nat_tests, h, e, c.touched n h, c.within n)
  flushed_given n false s h e = grind (arith, nat_tests, h, c.untouched n h)

  flushed_coherent : Coherent (flushed d)
  unfolding flushed
  flushed_coherent = record {
    untouched = λ n h. flushed_given n (d.touched n) (nat_lt n d.backing.size) refl refl;
    touched = λ n h. absurd (true≢false (sym h));
    within = c.within;
  }

  flushed_size : (flushed d).backing.size ≡ d.backing.size
  unfolding flushed
  flushed_size = refl

  flushed_canwrite : (flushed d).backing.canwrite ≡ d.backing.canwrite
  unfolding flushed
  flushed_canwrite = refl

  flushed_beside : (flushed d).backing.kept ≡ d.backing.kept
  unfolding flushed
  flushed_beside = refl

-- A machine just started on a store, or not yet.
pub started_coherent : (m : Meaning) → ((n : ℕ) → m.canwrite n ≡ true → n < m.size) → Coherent (started_data m)
started_coherent m w = record { untouched = λ n h. refl; touched = λ n h. absurd (true≢false (sym h)); within = w }

-- A call that sends every touched line.
sending : (f : Flat) (t : Told) → sends_all t.answer ≡ true → backing t.flat ≡ (flushed (data_of f)).backing → ((n : ℕ) → n < (backing f).size → (data_of t.flat).memory n ≡ (data_of f).memory n) → Coherent (data_of f) → Coherent (data_of t.flat) → After f t
sending f t s b h c after = record {
  coherent = after;
  store = record {
    size = ap (λ (x : Meaning). x.size) b ∙ flushed_size (data_of f) c;
    canwrite = ap (λ (x : Meaning). x.canwrite) b ∙ flushed_canwrite (data_of f) c;
    beside = ap (λ (x : Meaning). x.kept) b ∙ flushed_beside (data_of f) c;
    all = λ e n small.
        let l : (backing t.flat).line n ≡ (data_of f).memory n = ap (λ (x : Meaning). x.line n) b ∙ flushed_line (data_of f) c n small ((data_of f).touched n) refl in
        (l, l ∙ sym (h n small));
    others = λ e. absurd (true≢false (sym s ∙ e));
  };
}

-- A test decides between two outcomes.
chosen : {X : Type 0} (P : X → Type 0) (b : Bool) (x y : X) → P x → P y → P (if b then x else y)
chosen P true x y p q = p
chosen P false x y p q = q

-- What halt leaves.
module _ (d : Data) (c : Coherent d) where
  cold_within : (n : ℕ) → (flushed d).backing.canwrite n ≡ true → n < (flushed d).backing.size
  unfolding flushed
  cold_within n h = c.within n h

  cold_memory : (n : ℕ) → n < d.backing.size → given (flushed d).backing n ≡ d.memory n
  cold_memory n small = sym (flushed_given d c n (d.touched n) (nat_lt n d.backing.size) refl refl)

-- Flush leaves memory as it is.
flush_memory : (d : Data) → (flushed d).memory ≡ d.memory
unfolding flushed
flush_memory d = refl

module _ (f : Flat) (c : Coherent (data_of f)) where
  -- The call is refused.
  refuses : {X : Type 0} (name : X → Answer) (why : Refusal) → After f (told name (refused why f))
  refuses name why = quiet f (told name (refused why f)) refl refl refl c

  -- Or it is not.
  module _ {X : Type 0} (name : X → Answer) (x : X) (g : Flat) where
    abbrev outcome : Told
    outcome = told name (answered x g)

    shows : sends_all outcome.answer ≡ false → steps_made outcome.answer ≡ 0 → backing g ≡ backing f → Coherent (data_of g) → After f outcome
    shows = quiet f outcome

    steps_on : sends_all outcome.answer ≡ false → g.machine ≡ after_steps (steps_made outcome.answer) f.machine → After f outcome
    steps_on s e = stepping f outcome s e c

    sends_on : sends_all outcome.answer ≡ true → backing g ≡ (flushed (data_of f)).backing → ((n : ℕ) → n < (backing f).size → (data_of g).memory n ≡ (data_of f).memory n) → Coherent (data_of g) → After f outcome
    sends_on s e h after = sending f outcome s e h c after

  -- A call on a warm machine.
  warm : {X : Type 0} (name : X → Answer) (call : Flat → Called X) → After f (told name (call f)) → After f (told name (when_warm call f))
  warm name call h = chosen (λ x. After f (told name x)) f.warm (call f) (refused Cold f) h (refuses name Cold)

  boots : After f (told (λ u. Booted) (boot f))
  unfolding boot started
  boots =
      let done : Called (Unit {0}) = answered tt (record { warm = true; machine = started (backing f) }) in
      let lines : Called (Unit {0}) = if (backing f).size == 0 then refused NoLines f else done in
      let p = quiet f (told (λ u. Booted) done) refl refl refl (started_coherent (backing f) c.within) in
      let q = chosen (λ (x : Called (Unit {0})). After f (told (λ u. Booted) x)) ((backing f).size == 0) (refused NoLines f) done (refuses {X = Unit {0}} (λ u. Booted) NoLines) p in
      chosen (λ (x : Called (Unit {0})). After f (told (λ u. Booted) x)) f.warm (refused Warm f) lines (refuses {X = Unit {0}} (λ u. Booted) Warm) q

  steps : After f (told Stepped (step_call f))
  unfolding step_call after_steps
  steps =
      let x = (step f.machine).answer in
      warm Stepped (λ (g : Flat). answered (step g.machine).answer (with_machine (step g.machine).machine g))
      (steps_on Stepped x (with_machine (step f.machine).machine f) refl refl)

  runs : (limit : ℕ) → After f (told Ran (run limit f))
  unfolding run
  runs limit =
      let s = run_steps limit f.machine in
      let done : Called RanSteps = answered s.ran (with_machine s.machine f) in
      let p = steps_on Ran s.ran (with_machine s.machine f) refl (run_counted f.machine runs_on limit) in
      let q = chosen (λ (x : Called RanSteps). After f (told Ran x)) (nat_lt most_steps limit) (refused OverLimit f) done (refuses Ran OverLimit) p in
      warm Ran (within_limit limit (λ g. answered (run_steps limit g.machine).ran (with_machine (run_steps limit g.machine).machine g))) q

  refuses_trace : (why : Refusal) → After f (told_trace (refused why f))
  refuses_trace why = quiet f (told_trace (refused why f)) refl refl refl c

  traces : (limit : ℕ) (space : Slots) → After f (told_trace (trace limit space f))
  unfolding trace
  traces limit space =
      let s = trace_steps limit space f.machine in
      let done : Called TracedSteps = answered (traced s) (with_machine s.machine f) in
      let limited : Called TracedSteps = if nat_lt most_steps limit then refused OverLimit f else done in
      let p = stepping f (told_trace done) refl (run_counted f.machine (traces_on space) limit) c in
      let q = chosen (λ (x : Called TracedSteps). After f (told_trace x)) (nat_lt most_steps limit) (refused OverLimit f) done (refuses_trace OverLimit) p in
      chosen (λ (x : Called TracedSteps). After f (told_trace x)) f.warm limited (refused Cold f) q (refuses_trace Cold)

  pins : (up : Bool) → After f (told (λ u. Pinned) (pin up f))
  unfolding pin
  pins up =
      let call : Flat → Called (Unit {0}) = λ (g : Flat). answered tt (with_machine (with_control (record g.machine.control { pin = up }) g.machine) g) in
      warm (λ (u : Unit {0}). Pinned) call (quiet f (told (λ (u : Unit {0}). Pinned) (call f)) refl refl refl c)

  flushes : After f (told Flushed (flush f))
  unfolding flush
  flushes =
      let call : Flat → Called ℕ = λ (g : Flat). answered (touched_lines (data_of g)) (with_machine (with_data (flushed (data_of g)) g.machine) g) in
      warm Flushed call (sending f (told Flushed (call f)) refl refl (λ n small. ap (λ (l : ℕ → List ℕ). l n) (flush_memory (data_of f))) c (flushed_coherent (data_of f) c))

  halts : After f (told Halted (halt f))
  unfolding halt cold
  halts =
      let call : Flat → Called ℕ = λ (g : Flat). answered (touched_lines (data_of g)) (cold (flushed (data_of g)).backing) in
      warm Halted call (sending f (told Halted (call f)) refl refl (cold_memory (data_of f) c) c (started_coherent (flushed (data_of f)).backing (cold_within (data_of f) c)))

  -- Something shown.
  showing : {X : Type 0} (name : X → Answer) (r : ℕ) (show : Machine → X) → sends_all (Ok (name (show f.machine))) ≡ false → steps_made (Ok (name (show f.machine))) ≡ 0 → After f (told name (when_warm (of_register r show) f))
  showing {X} name r show s k =
      let p = shows name (show f.machine) f s k refl c in
      let q = chosen (λ (x : Called X). After f (told name x)) (nat_lt r 128) (answered (show f.machine) f) (refused NoRegister f) p (refuses name NoRegister) in
      warm name (of_register r show) q

  -- Every call.
  pub calls : (space : Slots) (call : Call) → After f (made space call f)
  unfolding made show_data show_instruction show_rest
  calls space Boot = boots
  calls space Step = steps
  calls space (Run limit) = runs limit
  calls space (Trace limit most) = traces limit (at_most most space)
  calls space (Pin up) = pins up
  calls space (ShowData r) = showing DataAnswer r (data_shown r) refl refl
  calls space (ShowInstruction r) = showing Instruction r (instruction_shown r) refl refl
  calls space ShowRest = warm Rest (λ (g : Flat). answered g.machine.control g) (shows Rest f.machine.control f refl refl refl c)
  calls space Flush = flushes
  calls space Halt = halts
