-- Showing changes nothing.
use Rattle.std.proofs.Common.{◌≡◌, ℕ, Bool, true, false, if◌then◌else◌, nat_lt, refl}
use Rattle.flat.specs.declared.refusal.Refusal.TheVariants.{NoRegister, Cold}
use Rattle.flat.specs.Calls.{Flat, Called, show_data, show_instruction, show_rest, data_shown, instruction_shown, of_register, when_warm, refused, answered}
use Rattle.flat.specs.Machine.{Machine}

-- of two calls that leave the machine, either leaves it
one_of : {X : Type 0} (b : Bool) (x y : Called X) (f : Flat) → x.flat ≡ f → y.flat ≡ f → (if b then x else y).flat ≡ f
one_of true x y f h k = h
one_of false x y f h k = k

warm_same : {X : Type 0} (call : Flat → Called X) (f : Flat) → (call f).flat ≡ f → (when_warm call f).flat ≡ f
warm_same call f h = one_of f.warm (call f) (refused Cold f) f h refl

register_same : {X : Type 0} (r : ℕ) (show : Machine → X) (f : Flat) → (when_warm (of_register r show) f).flat ≡ f
register_same r show f = warm_same (of_register r show) f (one_of (nat_lt r 128) (answered (show f.machine) f) (refused NoRegister f) f refl refl)

pub data_same : (r : ℕ) (f : Flat) → (show_data r f).flat ≡ f
unfolding show_data
data_same r f = register_same r (data_shown r) f

pub instruction_same : (r : ℕ) (f : Flat) → (show_instruction r f).flat ≡ f
unfolding show_instruction
instruction_same r f = register_same r (instruction_shown r) f

pub rest_same : (f : Flat) → (show_rest f).flat ≡ f
unfolding show_rest
rest_same f = warm_same (λ (g : Flat). answered g.machine.control g) f refl

pub ruleset shows = (data_same, instruction_same, rest_same)
