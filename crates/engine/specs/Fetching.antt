-- Instruction registers that take lines in a row, from a start that was read before.
use Rattle.std.specs.Prelude.{ℕ, ◌+◌, ◌*◌}
use Rattle.line.specs.Reductions.{over}
use Rattle.flat.specs.Bus.{followed_by, quiet}
use Rattle.flat.specs.Machine.{Machine, take_bus, take_line, wrapped}
use Rattle.flat.specs.Operands.{reg}
use Rattle.flat.specs.declared.bus.Bus.{Bus}

-- The register that a field + k names takes the line that is k lines further than an address.
unfoldable pub in_row : ℕ → ℕ → ℕ → Machine → Machine
in_row a start k m = take_line (reg m (a + k)) (wrapped (start + 128 * k)) m

-- What that does on the bus.
unfoldable pub in_row_bus : ℕ → ℕ → ℕ → Machine → Bus
in_row_bus a start k m = take_bus (reg m (a + k)) (wrapped (start + 128 * k)) m

-- n registers do so, one after the other.
unfoldable pub fetched : ℕ → ℕ → ℕ → Machine → Machine
fetched a start n m = over (λ so_far k. in_row a start k so_far) m n

-- What that does on the bus.
unfoldable pub fetched_bus : ℕ → ℕ → ℕ → Machine → Bus
fetched_bus a start n m = over (λ so_far k. followed_by so_far (in_row_bus a start k (fetched a start k m))) quiet n
