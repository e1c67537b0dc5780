-- The instruction registers.
use Rattle.std.specs.Prelude.{ℕ, zero, suc, if◌then◌else◌, List, Some, None, Option}
use Rattle.std.specs.Option.{option_or, unwrap_or}
use Rattle.flat.specs.Registers.{is_zero, line_of, names, at}

-- Each has an address, a multiple of 4, and the bytes of its 32 words, which are those of the line that it took.
pub record Instruction : Type 0 where
  pub address : ℕ
  pub bytes : List ℕ

-- The addresses of the instruction registers.
abbrev pub addresses : (ℕ → Instruction) → ℕ → ℕ
addresses i r = (i r).address

-- The bytes of the line n in the first register below k that names it, if one does. (All that name a line hold the same words.)
unfoldable pub held : (ℕ → Instruction) → ℕ → ℕ → Option (List ℕ)
held i n zero = None
held i n (suc k) = option_or (held i n k) (if names (addresses i) k n then Some (i k).bytes else None)

-- Register r goes to an address and takes its line: the words of a register that names the line just before the move, itself included, or else the memory's line. A zero register never changes.
unfoldable pub take : ℕ → ℕ → (ℕ → List ℕ) → (ℕ → Instruction) → ℕ → Instruction
take r address memory i = if is_zero r then i else at i r (record { address = address; bytes = unwrap_or (held i (line_of address) 128) (memory (line_of address)) })
