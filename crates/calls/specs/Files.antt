-- What a file stands for on a store: the one definition by which the engine is held to the flat machine.
use Rattle.std.specs.Prelude.{◌≡◌, true, Ok, Err, Result}
use Rattle.std.specs.Borrow.{Bor}
use Rattle.flat.specs.declared.refusal.Refusal.{Refusal}
use Rattle.flat.specs.declared.refusal.Refusal.TheVariants.{Cold as ColdRefusal}
use Rattle.store.specs.Meaning.{Meaning}
use Rattle.flat.specs.Calls.{Flat, Traced, cold}
use Rattle.flat.specs.declared.records.Ran.{Ran}
use Rattle.file.specs.Machine.{stands as machine_stands}
use Rattle.calls.specs.declared.files.File.{File}
use Rattle.file.specs.declared.machine.Machine.{Machine}
use Rattle.calls.specs.declared.files.File.TheVariants.{Cold, Warm}

-- A cold file stands for the cold machine, a warm one for that of its registers.
unfoldable pub stands : File → Meaning → Flat
stands Cold m = cold m
stands (Warm f) m = record { warm = true; machine = machine_stands f m }

-- The machine of a warm file, or the refusal of a cold one.
abbrev pub IsWarm : File → Result (Bor Machine) Refusal → Type 0
IsWarm file (Ok machine) = file ≡ Warm machine.now
IsWarm file (Err why) = (file ≡ Cold) × (why ≡ ColdRefusal)

-- The engine's trace answers the steps made and the last answer, as run does.
abbrev pub ran_of : Result Traced Refusal → Result Ran Refusal
ran_of (Ok t) = Ok t.ran
ran_of (Err why) = Err why
