-- A register written field by field.
use Rattle.std.proofs.Common.{◌≡◌, ℕ, List, get_or, set, zero, suc, [], ◌∷◌, refl, ap}
use Rattle.word.specs.declared.element.ElementType.{ElementType}
use Rattle.flat.specs.declared.registers.DataRegister.{DataRegister}

abbrev with : ℕ → ElementType → DataRegister
with a k = record { address = a; kind = k }

-- the address and then the type come to the whole register
pub put_fields : (xs : List DataRegister) (r a : ℕ) (k was : ElementType) (d : DataRegister) → set (set xs r (with a was)) r (with (get_or (set xs r (with a was)) r d).address k) ≡ set xs r (with a k)
put_fields [] r a k was d = refl
put_fields (z ∷ xs) zero a k was d = refl
put_fields (z ∷ xs) (suc r) a k was d = ap (λ (l : List DataRegister). z ∷ l) (put_fields xs r a k was d)
