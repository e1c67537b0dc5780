-- What holds of memory and the backing copy between any two steps, and what one step does to the backing copy.
use Rattle.std.proofs.Common.{◌≡◌, ℕ, ◌<◌, Bool, true, false, not, ◌&&◌}
use Rattle.flat.specs.Data.{Data, given, addresses}
use Rattle.flat.specs.Registers.{named}

-- An untouched line of memory is what the backing copy gives, and a touched line can be written. Only lines below the size can be.
pub record Coherent (d : Data) : Type 0 where
  pub untouched : (n : ℕ) → d.touched n ≡ false → d.memory n ≡ given d.backing n
  pub touched : (n : ℕ) → d.touched n ≡ true → d.backing.canwrite n ≡ true
  pub within : (n : ℕ) → d.backing.canwrite n ≡ true → n < d.backing.size

-- The last data register leaves line n.
abbrev pub leaving : ℕ → Data → Data → Bool
leaving n d after = named (addresses d) n && not (named (addresses after) n)

-- The backing copy takes the lines that their last register leaves, as memory had them and still has, and no others.
pub record Sends (d after : Data) : Type 0 where
  pub size : after.backing.size ≡ d.backing.size
  pub canwrite : after.backing.canwrite ≡ d.backing.canwrite
  pub beside : after.backing.kept ≡ d.backing.kept
  pub others : (n : ℕ) → n < d.backing.size → leaving n d after ≡ false → after.backing.line n ≡ d.backing.line n
  pub sent : (n : ℕ) → n < d.backing.size → leaving n d after ≡ true → after.backing.line n ≡ d.memory n
  pub held : (n : ℕ) → n < d.backing.size → leaving n d after ≡ true → after.memory n ≡ d.memory n

-- Of the data after one step.
pub record Goes (d after : Data) : Type 0 where
  pub coherent : Coherent after
  pub sends : Sends d after

-- The data keep their addresses and the backing copy.
pub record Keeps (d after : Data) : Type 0 where
  pub coherent : Coherent after
  pub addresses : addresses after ≡ addresses d
  pub backing : after.backing ≡ d.backing
