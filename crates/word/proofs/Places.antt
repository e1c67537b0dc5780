-- A word that is made of fields has the bits of each at its place, and the other way round.
use Rattle.std.proofs.Common.{◌≡◌, ℕ, ◌+◌, ◌*◌, ◌-◌, ◌/◌, ◌%◌, ◌^◌, ◌<◌, List, [], ◌∷◌, pos, negsuc, refl, sym, ap, ◌∙◌, arith, pow-add}
use Rattle.std.specs.Prelude.{Bool, true, ◌&&◌, nat_lt}
use Rattle.std.proofs.lemmas.Bool.Decides.{nat_tests}
use Rattle.std.proofs.lemmas.Nat.{div-mul-add, div-add-mod'}
use Rattle.std.proofs.Math.Nat.{div-div-eq-div-mul}
use native.Mathlib.Nat.{mul-add-mod_self_right, mod-eq_of_lt}
use Rattle.word.specs.Fields.{Field, Fits, AllFit, bits_of, width, packed, Made, extract}
use Rattle.word.specs.Fields.Field.{plain, nonzero, signed}

-- how many bits the fields have
abbrev pub total : List Field → ℕ
total [] = 0
total (f ∷ fs) = width f + total fs

-- the word has the bits of each field at its place, the last one at bit 0
abbrev pub Has : ℕ → List Field → Type 0
Has w [] = Unit {0}
Has w (f ∷ fs) = (extract w (total fs) (width f) ≡ bits_of f) × Has w fs

-- no field is without bits
abbrev pub wide : List Field → Bool
wide [] = true
wide (f ∷ fs) = nat_lt 0 (width f) && wide fs

-- a signed number is below 2 ^ n, as the others are
double : (n : ℕ) → 0 < n → 2 * 2 ^ (n - 1) ≡ 2 ^ n
double n h = sym (pow-add 2 1 (n - 1)) ∙ ap (λ i. 2 ^ i) (omega arith)

below : (f : Field) → Fits f → 0 < width f → bits_of f < 2 ^ width f
below (plain m n) h k = h
below (nonzero m n) h k = h.1
below (signed (pos m) n) h k = omega (arith, double n k)
below (signed (negsuc m) n) h k = omega (arith, double n k)

-- the lowest field of a number, and what is above it
high_part : (q high m n : ℕ) → m < 2 ^ n → q ≡ high * 2 ^ n + m → q / 2 ^ n ≡ high
high_part q high m n h e = rw e (div-mul-add high (2 ^ n) m h)

low_part : (q high m n : ℕ) → m < 2 ^ n → q ≡ high * 2 ^ n + m → q % 2 ^ n ≡ m
low_part q high m n h e = rw e (mul-add-mod_self_right high (2 ^ n) m ∙ mod-eq_of_lt h)

above : (w n t : ℕ) → w / 2 ^ (n + t) ≡ w / 2 ^ t / 2 ^ n
above w n t = ap (λ i. w / i) (pow-add 2 n t ∙ omega arith) ∙ sym (div-div-eq-div-mul w (2 ^ t) (2 ^ n))

-- over any number above the fields
packed_has : (w high : ℕ) (fs : List Field) → AllFit fs → wide fs ≡ true → w ≡ packed high fs → Has w fs × (w / 2 ^ total fs ≡ high)
packed_has w high [] h k e = (tt, omega arith)
packed_has w high (f ∷ fs) h k e =
    let some : 0 < width f = grind (arith, nat_tests) in
    let others : wide fs ≡ true = grind (arith, nat_tests) in
    let small = below f h.0 some in
    let rest = packed_has w (high * 2 ^ width f + bits_of f) fs h.1 others e in
    ((low_part _ high (bits_of f) (width f) small rest.1, rest.0), above w (width f) (total fs) ∙ high_part _ high (bits_of f) (width f) small rest.1)

has_packed : (w high : ℕ) (fs : List Field) → Has w fs → w / 2 ^ total fs ≡ high → w ≡ packed high fs
has_packed w high [] h e = omega arith
has_packed w high (f ∷ fs) h e =
    let q = w / 2 ^ total fs in
    let top : q / 2 ^ width f ≡ high = sym (above w (width f) (total fs)) ∙ e in
    let whole : q ≡ high * 2 ^ width f + bits_of f = sym (div-add-mod' q (2 ^ width f)) ∙ (rw (top, h.0) refl) in
    has_packed w (high * 2 ^ width f + bits_of f) fs h.1 whole

-- with the first field on its own, which has all that is above the others
pub made_has : (w : ℕ) (f : Field) (fs : List Field) → wide fs ≡ true → Made (f ∷ fs) w → Has w fs × (w / 2 ^ total fs ≡ 0 * 2 ^ width f + bits_of f)
made_has w f fs k h = packed_has w _ fs h.0.1 k h.1

pub has_made : (w : ℕ) (f : Field) (fs : List Field) → AllFit (f ∷ fs) → Has w fs → w / 2 ^ total fs ≡ 0 * 2 ^ width f + bits_of f → Made (f ∷ fs) w
has_made w f fs k h e = (k, has_packed w _ fs h e)
