-- Operations that raise no exception.
use Rattle.std.proofs.Common.{◌≡◌, ◌≢◌, ℕ, Bool, true, false, List, ◌∷◌, Some, None, Option, refl, arith}
use Rattle.std.specs.Option.{option_or}
use Rattle.word.specs.declared.operations.Operation.{Operation}
use Rattle.word.specs.declared.operations.Operation.TheVariants.{Swi}
use Rattle.flat.specs.Machine.{Machine}
use Rattle.flat.specs.Raising.{raised, first, uneven}
use Rattle.flat.specs.Step.{does, done, done_and_entered}
use Rattle.flat.specs.declared.exception.Exception.{Exception}

-- what is carried out was not uneven
not_uneven : (f : Option Exception) (t u : Bool) (x y : Exception) (rest : List (Bool × Exception)) → option_or f (first ((t, x) ∷ (u, y) ∷ rest)) ≡ None → u ≡ false
unfolding first
not_uneven (Some z) t u x y rest h = grind (arith, h)
not_uneven None true u x y rest h = grind (arith, h)
not_uneven None false true x y rest h = grind (arith, h)
not_uneven None false false x y rest h = refl

pub raised_even : (m : Machine) (op : Operation) → raised m op ≡ None → uneven m op ≡ false
unfolding raised
raised_even m op h = not_uneven _ _ _ _ _ _ h

-- an operation other than swi is done
pub does_other : (op : Operation) (m : Machine) → ((a b c d : ℕ) → op ≢ Swi a b c d) → does op m ≡ done op m
unfolding does
does_other (Swi a b c d) m h = absurd (h a b c d refl)
does_other op m h = refl

-- and swi enters its exception
pub does_swi : (m : Machine) (a b c d : ℕ) → does (Swi a b c d) m ≡ done_and_entered (Swi a b c d) m
unfolding does
does_swi m a b c d = refl

pub ruleset doing = (does_other, does_swi)

pub ruleset obeying = (raised_even)
