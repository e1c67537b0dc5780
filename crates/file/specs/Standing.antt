-- What registers with tags stand for: the flat machine's registers and memory.
use Rattle.std.specs.Prelude.{◌≡◌, ◌≢◌, ℕ, Bool, false, if◌then◌else◌, List, get_or, replicate, Some, None, Option}
use Rattle.store.specs.Meaning.{Meaning}
use Rattle.flat.specs.Data.{Data, given}
use Rattle.flat.specs.Instructions.{Instruction}
use Rattle.flat.specs.Registers.{blank, zeros, is_real, line_of}
use Rattle.flat.specs.declared.registers.DataRegister.{DataRegister}
use Rattle.tags.specs.Names.{Names}

-- What a line's tag has, or else something other.
abbrev pub of_tag : {X : Type 0} → Option ℕ → (ℕ → X) → X → X
of_tag None f other = other
of_tag (Some t) f other = f t

-- The registers of a list, by their numbers.
abbrev pub known : List DataRegister → ℕ → DataRegister
known registers r = get_or registers r blank

-- Every register as it is after boot.
unfoldable pub all_blank : List DataRegister
all_blank = replicate 128 blank

-- Memory is the tags' bytes over the store's lines; the touched lines are those of marked tags; the backing copy is the store.
unfoldable pub data_of : Names → (ℕ → DataRegister) → (ℕ → Bool) → Meaning → Data
data_of s registers marked m =
    record {
      registers = registers;
      memory = λ n. of_tag (s.tag n) s.bytes (given m n);
      touched = λ n. of_tag (s.tag n) marked false;
      backing = m;
    }

-- An instruction register has the bytes of its line's tag.
unfoldable pub instructions_of : Names → ℕ → Instruction
instructions_of s r = record { address = s.address r; bytes = if is_real r then of_tag (s.tag (line_of (s.address r))) s.bytes zeros else zeros }

-- Marks are of tags in use: a tag that names no line is not marked.
abbrev pub Quiet : Names → (ℕ → Bool) → Type 0
Quiet s marked = (t : ℕ) → ((n : ℕ) → s.tag n ≢ Some t) → marked t ≡ false

-- Each register has the address by which its bank finds its line.
abbrev pub Placed : Names → List DataRegister → Type 0
Placed s registers = (r : ℕ) → (known registers r).address ≡ s.address r

-- Zero registers are as they are after boot.
abbrev pub ZerosBlank : List DataRegister → Type 0
ZerosBlank registers = (known registers 0 ≡ blank) × (known registers 64 ≡ blank)
