-- Which numbers name registers.
use Rattle.std.specs.Prelude.{◌≡◌, ℕ, ◌<◌, ◌≤◌, Ok, Err, Result}
use Rattle.flat.specs.declared.refusal.Refusal.{Refusal}
use Rattle.flat.specs.declared.refusal.Refusal.TheVariants.{NoRegister}
use Rattle.tags.specs.declared.register.Register.{Register}

-- A number below 128 is a register's, and any other is refused.
abbrev pub IsRegister : ℕ → Result Register Refusal → Type 0
IsRegister n (Ok r) = (n < 128) × (r.number ≡ n)
IsRegister n (Err why) = (128 ≤ n) × (why ≡ NoRegister)
