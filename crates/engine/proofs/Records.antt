-- The record of a step.
use Rattle.std.proofs.Common.{◌≡◌, ℕ}
use Rattle.flat.specs.Calls.{recorded}
use Rattle.flat.specs.Machine.{Machine, word, ipc_address}
use Rattle.flat.specs.declared.control.Mode.{Mode}
use Rattle.flat.specs.declared.exception.Stepped.{Stepped}

-- the parts of a record, each equal to its own
pub record_of : (m : Machine) (mode : Mode) (a w : ℕ) (x y : Stepped) → mode ≡ m.control.mode → a ≡ ipc_address m → w ≡ word m → x ≡ y → record { mode = mode; address = a; word = w; answer = x } ≡ recorded m y
record_of m mode a w x y e f g h = search (e, f, g, h)
