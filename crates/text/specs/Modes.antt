-- The text of a mode.
use Rattle.std.specs.Prelude.{ℕ, List, codes}
use Rattle.flat.specs.declared.control.Mode.{Mode}
use Rattle.flat.specs.declared.control.Mode.TheVariants.{User, Supervisor}

-- The letter of a mode.
abbrev pub mode_text : Mode → List ℕ
mode_text User = codes "U"
mode_text Supervisor = codes "S"
