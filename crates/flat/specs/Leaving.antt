-- The steps of a call, and the lines that their last data register leaves in them.
use Rattle.std.specs.Prelude.{◌≡◌, ℕ, zero, suc, ◌<◌, Bool, true, false, not, ◌&&◌, List, Ok, Err, Result}
use Rattle.flat.specs.declared.refusal.Refusal.{Refusal}
use Rattle.store.specs.Meaning.{Meaning}
use Rattle.flat.specs.Calls.{Flat, backing}
use Rattle.flat.specs.Data.{addresses}
use Rattle.flat.specs.Machine.{Machine}
use Rattle.flat.specs.Registers.{named}
use Rattle.flat.specs.Step.{step}
use Rattle.flat.specs.Fed.{Told}
use Rattle.flat.specs.declared.answer.Answer.{Answer}
use Rattle.flat.specs.declared.answer.Answer.TheVariants.{Booted, Stepped, Ran, Traced, Pinned, Data, Instruction, Rest, Flushed, Halted}

-- How many steps a call made.
abbrev pub steps_of : Answer → ℕ
steps_of (Stepped x) = 1
steps_of (Ran ran) = ran.steps
steps_of (Traced ran sent) = ran.steps
steps_of Booted = 0
steps_of Pinned = 0
steps_of (Data shown) = 0
steps_of (Instruction shown) = 0
steps_of (Rest control) = 0
steps_of (Flushed n) = 0
steps_of (Halted n) = 0

-- A refused call made none.
abbrev pub steps_made : Result Answer Refusal → ℕ
steps_made (Ok a) = steps_of a
steps_made (Err why) = 0

-- A flush or a halt that was not refused.
abbrev pub is_flush : Answer → Bool
is_flush (Flushed n) = true
is_flush (Halted n) = true
is_flush Booted = false
is_flush (Stepped x) = false
is_flush (Ran ran) = false
is_flush (Traced ran sent) = false
is_flush Pinned = false
is_flush (Data shown) = false
is_flush (Instruction shown) = false
is_flush (Rest control) = false

abbrev pub sends_all : Result Answer Refusal → Bool
sends_all (Ok a) = is_flush a
sends_all (Err why) = false

-- The machine after k steps.
unfoldable pub after_steps : ℕ → Machine → Machine
after_steps zero m = m
after_steps (suc k) m = (step (after_steps k m)).machine

-- Some data register names the line n.
abbrev pub is_named : ℕ → Machine → Bool
is_named n m = named (addresses m.data_registers) n

-- In step k, counted from 0, the last data register of line n leaves it.
abbrev pub is_left : ℕ → ℕ → Machine → Bool
is_left n k m = is_named n (after_steps k m) && not (is_named n (after_steps (suc k) m))

-- The last of k steps in which line n is left is step i.
abbrev pub LastLeft : ℕ → ℕ → ℕ → Machine → Type 0
LastLeft n k i m = (i < k) × (is_left n i m ≡ true) × ((j : ℕ) → i < j → j < k → is_left n j m ≡ false)

-- What line n of the store holds after a call that made k steps from m on: what it held before, where no step left it, and else the bytes that memory held when it was last left, both before that step and after it.
pub record LineAfter (n k : ℕ) (m : Machine) (before after : Meaning) : Type 0 where
  pub kept : ((i : ℕ) → i < k → is_left n i m ≡ false) → after.line n ≡ before.line n
  pub sent : (i : ℕ) → LastLeft n k i m → (after.line n ≡ (after_steps i m).data_registers.memory n) × (after.line n ≡ (after_steps (suc i) m).data_registers.memory n)

-- The memory of a machine.
abbrev pub memory : Flat → ℕ → List ℕ
memory f = f.machine.data_registers.memory

-- What the store holds after a call on the machine f, of which t was told: after an accepted flush or halt, the memory, and after any other call what its steps sent. Its size, which lines can be written, and what it keeps beside its lines stay as they are.
pub record StoreAfter (f : Flat) (t : Told) : Type 0 where
  pub size : (backing t.flat).size ≡ (backing f).size
  pub canwrite : (backing t.flat).canwrite ≡ (backing f).canwrite
  pub beside : (backing t.flat).kept ≡ (backing f).kept
  pub all : sends_all t.answer ≡ true → (n : ℕ) → n < (backing f).size → ((backing t.flat).line n ≡ memory f n) × ((backing t.flat).line n ≡ memory t.flat n)
  pub others : sends_all t.answer ≡ false → (n : ℕ) → n < (backing f).size → LineAfter n (steps_made t.answer) f.machine (backing f) (backing t.flat)
