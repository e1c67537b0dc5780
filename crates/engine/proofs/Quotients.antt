-- Division.
use Rattle.std.proofs.Math.Nat.{div-zero, mod-zero}
use Rattle.std.proofs.Common.{◌≡◌, ◌/◌, ◌%◌, Bool, true, false, ℤ, pos, negsuc, refl, ap, ap₂, ◌∙◌, sym}
use Rattle.std.specs.Prelude.{Some, None, if◌then◌else◌, unsigned_abs}
use Rattle.std.specs.Option.{unwrap_or}
use Rattle.std.proofs.lemmas.Bool.{eqb-true}
use Rattle.word.specs.declared.element.ElementType.{ElementType}
use Rattle.word.specs.declared.element.ElementType.TheVariants.{U8, S8, U16, S16, U32, S32, U64, S64}
use Rattle.scalar.specs.Arithmetic.{casts_to_zero, divided, division, differ, negative, with_sign}
use Rattle.scalar.specs.Casts.{cast, read_bits, residue}

cast_zero : (t : ElementType) → cast t (pos 0) ≡ pos 0
unfolding cast read_bits residue
cast_zero U8 = refl
cast_zero S8 = refl
cast_zero U16 = refl
cast_zero S16 = refl
cast_zero U32 = refl
cast_zero S32 = refl
cast_zero U64 = refl
cast_zero S64 = refl

no_quotient : (b : Bool) → with_sign b 0 ≡ pos 0
no_quotient true = refl
no_quotient false = refl

all_left : (x : ℤ) → with_sign (negative x) (unsigned_abs x) ≡ x
all_left (pos m) = refl
all_left (negsuc m) = refl

division_by_zero : (t : ElementType) (x y : ℤ) → unsigned_abs (cast t y) ≡ 0 → division t x y ≡ record { quotient = pos 0; remainder = cast t x }
division_by_zero t x y h =
    let u = cast t x in
    let v = cast t y in
    let sign = differ (negative u) (negative v) in
    let q : cast t (with_sign sign (unsigned_abs u / unsigned_abs v)) ≡ pos 0 =
    ap (λ n. cast t (with_sign sign (unsigned_abs u / n))) h ∙ ap (λ n. cast t (with_sign sign n)) (div-zero (unsigned_abs u)) ∙ ap (cast t) (no_quotient sign) ∙ cast_zero t in
    let r : with_sign (negative u) (unsigned_abs u % unsigned_abs v) ≡ u =
    ap (λ n. with_sign (negative u) (unsigned_abs u % n)) h ∙ ap (with_sign (negative u)) (mod-zero (unsigned_abs u)) ∙ all_left u in
    ap₂ (λ a b. record { quotient = a; remainder = b }) q r

-- a division with what it gives over zero
pub over_zero : (t : ElementType) (x y : ℤ) → unwrap_or (divided t x y) (record { quotient = pos 0; remainder = cast t x }) ≡ division t x y
over_zero t x y = by (casts_to_zero t y) refl
  where
    by : (z : Bool) → casts_to_zero t y ≡ z → unwrap_or (if z then None else Some (division t x y)) (record { quotient = pos 0; remainder = cast t x }) ≡ division t x y
    by true e = sym (division_by_zero t x y (eqb-true _ _ e))
    by false e = refl
