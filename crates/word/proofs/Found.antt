-- What `operation` finds in a word is held by it.
use Rattle.std.proofs.Common.{◌≡◌, ℕ, zero, suc, ◌+◌, ◌*◌, ◌/◌, ◌%◌, ◌^◌, ◌<◌, ◌≤◌, List, [], ◌∷◌, get_or, Some, None, Option, refl, arith, rules}
use Rattle.std.specs.Prelude.{Bool, true, false, if◌then◌else◌, option_map, ◌==◌, ◌&&◌, slice_get}
use Rattle.std.proofs.lemmas.Bool.{eqb-true, leb-true, ltb-true}
use Rattle.std.proofs.lemmas.Bool.Decides.{nat_tests}
use Rattle.word.specs.Codes.{Codes}
use Rattle.word.specs.Decodes.{Found}
use Rattle.word.specs.Fields.{extract}
use Rattle.word.specs.Fields.Field.{plain}
use Rattle.word.specs.Numbers.{special_number}
use Rattle.word.specs.declared.element.ElementType.{ElementType}
use Rattle.word.specs.declared.opcodes.Arith.{Arith}
use Rattle.word.specs.declared.opcodes.Form.TheVariants.{Scalar}
use Rattle.word.specs.declared.opcodes.Reduction.{Reduction}
use Rattle.word.specs.declared.opcodes.Special.{Special}
use Rattle.word.specs.declared.operations.Operation.{Operation}
use Rattle.word.specs.declared.operations.Operation.TheVariants.{Arith as Arithmetic, AddAddress, Div, Reduce, Load, Store, Dup, Fetch, JumpNotZero, JumpZero, Hand, CopyOut, CopyIn, Swi, Reti, Retx}
use Rattle.word.specs.Reading.{types, ariths, reductions, specials, forms, from_twos, a, b, c, i, o, z, arithmetic, reduce, dup, fetch, jump, jumps, system, undefined, groups, operation}
use Rattle.word.proofs.Numbered.{type_found, arith_found, reduction_found, special_found, form_found, twos_from}
use Rattle.word.proofs.Places.{has_made}
use Rattle.word.proofs.Rows.{row}

-- two tests that hold together
both : (s t : Bool) → (s && t) ≡ true → (s ≡ true) × (t ≡ true)
both s t e = grind arith

-- a choice and a map hold where each part does
found_if : (w : ℕ) (t : Bool) (x y : Option Operation) → (t ≡ true → Found w x) → (t ≡ false → Found w y) → Found w (if t then x else y)
found_if w true x y p q = p refl
found_if w false x y p q = q refl

found_when : (w : ℕ) (t : Bool) (x : Option Operation) → (t ≡ true → Found w x) → Found w (if t then x else None)
found_when w t x p = found_if w t x None p (λ e. tt)

found_map : {T : Type 0} (w : ℕ) (f : T → Operation) (r : Option T) → ((t : T) → r ≡ Some t → Codes (f t) w) → Found w (option_map f r)
found_map w f None p = tt
found_map w f (Some t) p = p t refl

-- what holds of the element at each place, and of what stands for an element past the end
abbrev Each : {A : Type 0} → (A → Type 0) → ℕ → ℕ → List A → Type 0
Each P n k [] = Unit {0}
Each P n k (x ∷ xs) = (n ≡ k → P x) × Each P n (suc k) xs

from_place : {A : Type 0} (P : A → Type 0) (xs : List A) (k i n : ℕ) (d : A) → n ≡ k + i → Each P n k xs → P d → P (get_or xs i d)
from_place P [] k i n d e h p = p
from_place P (x ∷ xs) k zero n d e h p = h.0 (omega arith)
from_place P (x ∷ xs) k (suc i) n d e h p = from_place P xs (suc k) i n d (omega arith) h.1 p

at_place : {A : Type 0} (P : A → Type 0) (xs : List A) (i : ℕ) (d : A) → Each P i 0 xs → P d → P (get_or xs i d)
at_place P xs i d = from_place P xs 0 i i d (omega arith)

-- each operation is found where its row makes the word, and what a group finds is held
module _ (w : ℕ) where
  div_codes : w / 2 ^ 28 ≡ 0 → o w ≡ 14 + extract w 4 1 → Codes (Div (get_or forms (extract w 4 1) Scalar) (a w) (b w) (c w) (extract w 5 5)) w
  div_codes g e =
      let form = get_or forms (extract w 4 1) Scalar in
      let v = form_found (extract w 4 1) (omega arith) in
      has_made w (plain 0 4) (row (Div form (a w) (b w) (c w) (extract w 5 5))) (search rules) (search rules) g

  arith_codes : w / 2 ^ 28 ≡ 0 → extract w 5 5 ≡ 0 → (op : Arith) → slice_get ariths (o w) ≡ Some op → Codes (Arithmetic op (get_or forms (extract w 4 1) Scalar) (a w) (b w) (c w)) w
  arith_codes g none op e =
      let form = get_or forms (extract w 4 1) Scalar in
      let v = form_found (extract w 4 1) (omega arith) in
      let n = arith_found (o w) op e in
      has_made w (plain 0 4) (row (Arithmetic op form (a w) (b w) (c w))) (search rules) (search rules) g

  addr_codes : w / 2 ^ 28 ≡ 0 → extract w 5 5 ≡ 0 → o w ≡ 11 → Codes (AddAddress (get_or forms (extract w 4 1) Scalar) (a w) (b w) (c w)) w
  addr_codes g none e =
      let form = get_or forms (extract w 4 1) Scalar in
      let v = form_found (extract w 4 1) (omega arith) in
      has_made w (plain 0 4) (row (AddAddress form (a w) (b w) (c w))) (search rules) (search rules) g

  arithmetic_found : w / 2 ^ 28 ≡ 0 → Found w (arithmetic w)
  arithmetic_found g = found_if w _ _ _ (λ e. div_codes g (eqb-true _ _ e)) (λ e. found_when w _ _ (λ none. found_if w _ _ _ (λ e. addr_codes g (eqb-true _ _ none) (eqb-true _ _ e)) (λ e. found_map w _ _ (arith_codes g (eqb-true _ _ none)))))

  reduce_codes : w / 2 ^ 28 ≡ 1 → z w ≡ 0 → (op : Reduction) → slice_get reductions (o w) ≡ Some op → Codes (Reduce op (a w) (b w)) w
  reduce_codes g none op e = let n = reduction_found (o w) op e in has_made w (plain 1 4) (row (Reduce op (a w) (b w))) (search rules) (search rules) g

  reduce_found : w / 2 ^ 28 ≡ 1 → Found w (reduce w)
  reduce_found g = found_when w _ _ (λ e. found_map w _ _ (reduce_codes g (eqb-true _ _ e)))

  load_codes : w / 2 ^ 28 ≡ 2 → (t : ElementType) → slice_get types (o w) ≡ Some t → Codes (Load t (a w) (b w) (i w)) w
  load_codes g t e =
      let n = type_found (o w) t e in
      let s = twos_from 2048 (extract w 4 12) (omega arith) in
      has_made w (plain 2 4) (row (Load t (a w) (b w) (i w))) (search rules) (search rules) g

  store_codes : w / 2 ^ 28 ≡ 3 → (t : ElementType) → slice_get types (o w) ≡ Some t → Codes (Store t (a w) (b w) (i w)) w
  store_codes g t e =
      let n = type_found (o w) t e in
      let s = twos_from 2048 (extract w 4 12) (omega arith) in
      has_made w (plain 3 4) (row (Store t (a w) (b w) (i w))) (search rules) (search rules) g

  dup_codes : w / 2 ^ 28 ≡ 4 → z w ≡ 0 → (t : ElementType) → slice_get types (o w) ≡ Some t → Codes (Dup t (a w) (b w)) w
  dup_codes g none t e = let n = type_found (o w) t e in has_made w (plain 4 4) (row (Dup t (a w) (b w))) (search rules) (search rules) g

  dup_found : w / 2 ^ 28 ≡ 4 → Found w (dup w)
  dup_found g = found_when w _ _ (λ e. found_map w _ _ (dup_codes g (eqb-true _ _ e)))

  fetch_codes : w / 2 ^ 28 ≡ 5 → extract w 0 1 ≡ 1 → a w + extract w 1 4 ≤ 62 → Codes (Fetch (a w) (b w) (from_twos 1024 (extract w 5 11)) (extract w 1 4)) w
  fetch_codes g one e =
      let s = twos_from 1024 (extract w 5 11) (omega arith) in
      (has_made w (plain 5 4) (row (Fetch (a w) (b w) (from_twos 1024 (extract w 5 11)) (extract w 1 4))) (search rules) (search rules) g, e)

  fetch_found : w / 2 ^ 28 ≡ 5 → Found w (fetch w)
  fetch_found g = found_when w _ _ (λ e. let p = both _ _ e in fetch_codes g (eqb-true _ _ p.0) (leb-true _ _ p.1))

  module _ (g : w / 2 ^ 28 ≡ 6) (some : 0 < b w) (none : extract w 4 7 ≡ 0) where
    jump_not_zero_codes : o w ≡ 0 → Codes (JumpNotZero (a w) (b w) (extract w 11 5)) w
    jump_not_zero_codes e = has_made w (plain 6 4) (row (JumpNotZero (a w) (b w) (extract w 11 5))) (search rules) (search rules) g

    jump_zero_codes : o w ≡ 1 → Codes (JumpZero (a w) (b w) (extract w 11 5)) w
    jump_zero_codes e = has_made w (plain 6 4) (row (JumpZero (a w) (b w) (extract w 11 5))) (search rules) (search rules) g

    hand_codes : o w ≡ 2 → a w ≡ 0 → Codes (Hand (b w) (extract w 11 5)) w
    hand_codes e na = has_made w (plain 6 4) (row (Hand (b w) (extract w 11 5))) (search rules) (search rules) g

    jumps_found : Found w (get_or (jumps w) (o w) None)
    jumps_found =
        at_place (Found w) (jumps w) (o w) None
        (jump_not_zero_codes, (jump_zero_codes, ((λ e. found_when w _ _ (λ n. hand_codes e (eqb-true _ _ n))), tt)))
        tt

  jump_found : w / 2 ^ 28 ≡ 6 → Found w (jump w)
  jump_found g = found_when w _ _ (λ e. let p = both _ _ e in jumps_found g (ltb-true _ _ p.0) (eqb-true _ _ p.1))

  module _ (g : w / 2 ^ 28 ≡ 8) where
    swi_codes : o w ≡ 12 → Codes (Swi (a w) (b w) (c w) (extract w 4 6)) w
    swi_codes e = has_made w (plain 8 4) (row (Swi (a w) (b w) (c w) (extract w 4 6))) (search rules) (search rules) g

    module _ (none : a w + b w + c w + extract w 4 6 ≡ 0) where
      reti_codes : o w ≡ 13 → Codes Reti w
      reti_codes e = has_made w (plain 8 4) (row Reti) (search rules) (omega arith, (omega arith, (omega arith, (omega arith, (e, tt))))) g

      retx_codes : o w ≡ 14 → Codes Retx w
      retx_codes e = has_made w (plain 8 4) (row Retx) (search rules) (omega arith, (omega arith, (omega arith, (omega arith, (e, tt))))) g

    module _ (none : b w + c w + extract w 4 6 ≡ 0) (n : Special) (found : slice_get specials (o w / 2) ≡ Some n) where
      copy_out_codes : o w % 2 ≡ 0 → Codes (CopyOut n (a w)) w
      copy_out_codes e =
          let half = special_found (o w / 2) n found in
          let even : o w ≡ 2 * special_number n = omega arith in
          has_made w (plain 8 4) (row (CopyOut n (a w))) (search rules) (refl, (omega arith, (omega arith, (omega arith, (even, tt))))) g

      copy_in_codes : 0 < o w % 2 → Codes (CopyIn n (a w)) w
      copy_in_codes e =
          let half = special_found (o w / 2) n found in
          let odd : o w ≡ 2 * special_number n + 1 = omega arith in
          has_made w (plain 8 4) (row (CopyIn n (a w))) (search rules) (refl, (omega arith, (omega arith, (omega arith, (odd, tt))))) g

      copies : (t : Bool) → (o w % 2 == 0) ≡ t → Codes (if t then CopyOut n (a w) else CopyIn n (a w)) w
      copies true e = copy_out_codes (eqb-true _ _ e)
      copies false e = copy_in_codes (grind (arith, nat_tests))

    system_found : Found w (system w)
    system_found =
        found_if w _ _ _ (λ e. swi_codes (eqb-true _ _ e)) (λ e.
        found_if w _ _ _ (λ e. found_when w _ _ (λ n. reti_codes (eqb-true _ _ n) (eqb-true _ _ e))) (λ e.
        found_if w _ _ _ (λ e. found_when w _ _ (λ n. retx_codes (eqb-true _ _ n) (eqb-true _ _ e))) (λ e.
        found_when w _ _ (λ n. found_map w _ _ (λ n' e. copies (eqb-true _ _ n) n' e (o w % 2 == 0) refl)))))

pub operation_found : (w : ℕ) → Found w (operation w)
unfolding operation
operation_found w =
    at_place (λ f. Found w (f w)) groups (w / 2 ^ 28) undefined
    (arithmetic_found w, (reduce_found w, ((λ g. found_map w _ _ (load_codes w g)), ((λ g. found_map w _ _ (store_codes w g)), (dup_found w, (fetch_found w, (jump_found w, ((λ g. tt), (system_found w, tt)))))))))
    tt
