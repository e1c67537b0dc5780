-- What a number finds in the lists of cases, and in a signed field.
use Rattle.std.proofs.Common.{◌≡◌, ℕ, zero, suc, ◌+◌, ◌*◌, ◌<◌, List, [], ◌∷◌, get_or, Some, ℤ, pos, negsuc, refl, ap, rules, arith}
use Rattle.std.specs.List.{slice_get}
use Rattle.std.proofs.lemmas.Bool.Decides.{nat_tests}
use Rattle.std.proofs.lemmas.Option.{none-some, same_Some}
use borrow.Author.Differences.{ints}
use Rattle.word.specs.Fields.{twos, Within}
use Rattle.word.specs.Numbers.{type_number, arith_number, reduction_number, special_number, form_number}
use Rattle.word.specs.declared.element.ElementType.{ElementType}
use Rattle.word.specs.declared.opcodes.Arith.{Arith}
use Rattle.word.specs.declared.opcodes.Reduction.{Reduction}
use Rattle.word.specs.declared.opcodes.Special.{Special}
use Rattle.word.specs.declared.opcodes.Form.{Form}
use Rattle.word.specs.declared.opcodes.Form.TheVariants.{Scalar}
use Rattle.word.specs.Reading.{types, ariths, reductions, specials, forms, from_twos}

-- each element has its place as its number, where the first has the place k
abbrev Numbered : {T : Type 0} → (T → ℕ) → ℕ → List T → Type 0
Numbered number k [] = Unit {0}
Numbered number k (x ∷ xs) = (number x ≡ k) × Numbered number (suc k) xs

from_place : {T : Type 0} (number : T → ℕ) (xs : List T) (k i : ℕ) (t : T) → Numbered number k xs → slice_get xs i ≡ Some t → number t ≡ k + i
from_place number [] k i t h e = absurd (none-some t e)
from_place number (x ∷ xs) k zero t h e = let same : x ≡ t = same_Some x t e in omega (arith, ap number same)
from_place number (x ∷ xs) k (suc i) t h e = let rest = from_place number xs (suc k) i t h.1 e in omega arith

numbered_get : {T : Type 0} (number : T → ℕ) (xs : List T) (i : ℕ) (t : T) → Numbered number 0 xs → slice_get xs i ≡ Some t → number t ≡ i
numbered_get number xs i t h e = let at = from_place number xs 0 i t h e in omega arith

-- the case that is found has the number
pub type_found : (n : ℕ) (t : ElementType) → slice_get types n ≡ Some t → type_number t ≡ n
type_found n t = numbered_get type_number types n t (search rules)

pub arith_found : (n : ℕ) (t : Arith) → slice_get ariths n ≡ Some t → arith_number t ≡ n
arith_found n t = numbered_get arith_number ariths n t (search rules)

pub reduction_found : (n : ℕ) (t : Reduction) → slice_get reductions n ≡ Some t → reduction_number t ≡ n
reduction_found n t = numbered_get reduction_number reductions n t (search rules)

pub special_found : (n : ℕ) (t : Special) → slice_get specials n ≡ Some t → special_number t ≡ n
special_found n t = numbered_get special_number specials n t (search rules)

pub form_found : (n : ℕ) → n < 2 → form_number (get_or forms n Scalar) ≡ n
form_found zero h = refl
form_found (suc zero) h = refl
form_found (suc (suc n)) h = absurd (omega arith)

-- the number of a case finds it
pub type_listed : (t : ElementType) → slice_get types (type_number t) ≡ Some t
type_listed t = grind arith

pub arith_listed : (t : Arith) → slice_get ariths (arith_number t) ≡ Some t
arith_listed t = grind arith

pub reduction_listed : (t : Reduction) → slice_get reductions (reduction_number t) ≡ Some t
reduction_listed t = grind arith

pub special_listed : (t : Special) → slice_get specials (special_number t) ≡ Some t
special_listed t = grind arith

pub form_listed : (t : Form) → get_or forms (form_number t) Scalar ≡ t
form_listed t = grind arith

-- two's complement and back
pub twos_from : (half m : ℕ) → m < 2 * half → Within half (from_twos half m) × (twos half (from_twos half m) ≡ m)
twos_from half m h = grind (arith, nat_tests, ints)

pub from_twos_of : (half : ℕ) (i : ℤ) → Within half i → from_twos half (twos half i) ≡ i
from_twos_of half (pos m) h = grind (arith, nat_tests, ints)
from_twos_of half (negsuc m) h = grind (arith, nat_tests, ints)
