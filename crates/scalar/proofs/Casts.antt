-- The laws of casts, over any width and sign.
use Rattle.std.proofs.Common.{◌≡◌, ℕ, zero, suc, ◌+◌, ◌-◌, ◌*◌, ◌/◌, ◌%◌, ◌^◌, ◌<◌, ◌≤◌, Bool, true, false, cond, leb, ℤ, pos, negsuc, ◌+ℤ◌, ◌-ℤ◌, neg_ℤ, nat_abs, sym, refl, ap, ◌∙◌, mul-le-mul_right, mod-lt, mod-eq_of_lt, mul_assoc, suc-mul, add-mul, arith, pow_pos, pow_mono, pow-add, w8, w16, w32, w64, SFits, to_z, of_z, le-ltb, leb-false, leb-true}
use borrow.Author.Differences.{up, down, same_in, sum_is_lem, ints}
use lib.Bits.{bit_and}
use lib.Pow.{ones_split, ones_lt, high, mod-mod-pow, mod-pow-add, shl-shr}
use Rattle.std.proofs.lemmas.Nat.{and_mask}
use Rattle.std.proofs.lemmas.Int.{to_z-of_z, to_z_pos}
use Rattle.std.proofs.lemmas.Bool.{cond-true, cond-false, lt-leb, le-leb}
use lib.Signed.{shr_z, mag, mag_shr}
use mir.Syntax.{Width, w128}
use mir.Val as val
use mir.Val.{hbits, sel}
use native.Mathlib.Nat.{mod-le, mul-mod_left}
use Rattle.word.specs.Numbers.{type_number}
use Rattle.word.specs.Types.{bits, signed}
use Rattle.word.specs.declared.element.ElementType.{ElementType}
use Rattle.word.specs.declared.element.ElementType.TheVariants.{U8, S8, U16, S16, U32, S32, U64, S64}
use Rattle.scalar.specs.Arithmetic.{cut_remainder}
use Rattle.scalar.specs.Casts.{residue, read_bits, cast}
use Rattle.scalar.proofs.Residues.{residue_is, residue_same, residue_differs, residue-pos, residue_below, residue_small, residue-residue}

-- a type has from 8 to 64 bits
pub bits_low : (t : ElementType) → 8 ≤ bits t
bits_low t = omega (arith, pow_pos (type_number t / 2))

pub bits_high : (t : ElementType) → bits t ≤ 64
bits_high U8 = omega arith
bits_high S8 = omega arith
bits_high U16 = omega arith
bits_high S16 = omega arith
bits_high U32 = omega arith
bits_high S32 = omega arith
bits_high U64 = omega arith
bits_high S64 = omega arith

-- m bits, cut to fewer
pub mod_fewer : (x n m : ℕ) → n ≤ m → x % 2 ^ m % 2 ^ n ≡ x % 2 ^ n
mod_fewer x n m h = let e : m ≡ (m - n) + n = omega arith in ap (λ k. x % 2 ^ k % 2 ^ n) e ∙ mod-mod-pow x (m - n) n

-- what n bits are read as leaves these bits
pub residue-read_bits : (s : Bool) (n m : ℕ) → m < 2 ^ n → residue n (read_bits s n m) ≡ m
unfolding read_bits
residue-read_bits false n m h = residue_small n m h
residue-read_bits true n m h = by (leb (2 ^ (n - 1)) m)
  where
    by : (b : Bool) → residue n (cond b (pos m -ℤ pos (2 ^ n)) (pos m)) ≡ m
    by true = residue_is n (pos m -ℤ pos (2 ^ n)) 1 m (omega (arith, ints)) ∙ mod-eq_of_lt h
    by false = residue_small n m h

pub residue-cast : (t : ElementType) (z : ℤ) → residue (bits t) (cast t z) ≡ residue (bits t) z
unfolding cast
residue-cast t z = residue-read_bits (signed t) (bits t) (residue (bits t) z) (residue_below (bits t) z)

-- numbers with one residue have one cast
pub cast_same : (t : ElementType) (x y : ℤ) → residue (bits t) x ≡ residue (bits t) y → cast t x ≡ cast t y
unfolding cast
cast_same t x y e = ap (read_bits (signed t) (bits t)) e

pub cast-cast : (t : ElementType) (z : ℤ) → cast t (cast t z) ≡ cast t z
cast-cast t z = cast_same t (cast t z) z (residue-cast t z)

-- the bits that count of a lane
pub lane_residue : (t : ElementType) (x : ℕ) → residue (bits t) (cast t (pos x)) ≡ x % 2 ^ bits t
lane_residue t x = residue-cast t (pos x) ∙ residue-pos (bits t) x

-- a cast by sign
pub cast_unsigned : (t : ElementType) (z : ℤ) → signed t ≡ false → cast t z ≡ pos (residue (bits t) z)
unfolding cast read_bits
cast_unsigned t z e = ap (λ s. read_bits s (bits t) (residue (bits t) z)) e

pub cast_signed : (t : ElementType) (z : ℤ) → signed t ≡ true → cast t z ≡ read_bits true (bits t) (residue (bits t) z)
unfolding cast
cast_signed t z e = ap (λ s. read_bits s (bits t) (residue (bits t) z)) e

pub lane_unsigned : (t : ElementType) (x : ℕ) → signed t ≡ false → cast t (pos x) ≡ pos (x % 2 ^ bits t)
lane_unsigned t x e = cast_unsigned t (pos x) e ∙ ap pos (residue-pos (bits t) x)

pub lane_signed : (t : ElementType) (x : ℕ) → signed t ≡ true → cast t (pos x) ≡ read_bits true (bits t) (x % 2 ^ bits t)
lane_signed t x e = cast_signed t (pos x) e ∙ ap (read_bits true (bits t)) (residue-pos (bits t) x)

-- a residue of the type's bits is cast as the number is
pub cast-residue : (t : ElementType) (z : ℤ) → cast t (pos (residue (bits t) z)) ≡ cast t z
cast-residue t z = cast_same t (pos (residue (bits t) z)) z (residue-residue (bits t) z)

-- the residue of more bits has the residue of fewer
pub residue_fewer : (n m : ℕ) (z : ℤ) → n ≤ m → residue n (pos (residue m z)) ≡ residue n z
residue_fewer n m z h =
    let d = residue_differs m z in
    let k = m - n in
    let j = d.0 in
    let l = d.1 in
    let whole : 2 ^ k * 2 ^ n ≡ 2 ^ m = sym (pow-add 2 k n) ∙ ap (λ i. 2 ^ i) (omega arith) in
    let ones : j * 2 ^ k * 2 ^ n ≡ j * 2 ^ m = mul_assoc j (2 ^ k) (2 ^ n) ∙ ap (λ i. j * i) whole in
    let others : l * 2 ^ k * 2 ^ n ≡ l * 2 ^ m = mul_assoc l (2 ^ k) (2 ^ n) ∙ ap (λ i. l * i) whole in
    residue_same n (pos (residue m z)) z (j * 2 ^ k) (l * 2 ^ k) (ap (λ i. pos (residue m z) +ℤ pos i) ones ∙ d.2 ∙ ap (λ i. z +ℤ pos i) (sym others))

-- the residue of more bits is cast as the number is
pub cast_fewer : (t : ElementType) (m : ℕ) (z : ℤ) → bits t ≤ m → cast t (pos (residue m z)) ≡ cast t z
cast_fewer t m z h = cast_same t (pos (residue m z)) z (residue_fewer (bits t) m z h)

-- what a type keeps of a number that is passed on in 128 bits
pub residue_wide : (t : ElementType) (z : ℤ) → SFits w128 z → residue (bits t) z ≡ residue 64 (to_z w128 (of_z w128 z)) % 2 ^ bits t
residue_wide t z f = sym (residue_fewer (bits t) 64 z (bits_high t)) ∙ residue-pos (bits t) (residue 64 z) ∙ ap (λ y. residue 64 y % 2 ^ bits t) (sym (to_z-of_z w128 z f))

pub cast_from_residue : (t : ElementType) (z : ℤ) (m : ℕ) → m ≡ residue (bits t) z → cast t (pos m) ≡ cast t z
cast_from_residue t z m e = ap (λ n. cast t (pos n)) e ∙ cast-residue t z

pub ruleset from_wide = (residue_wide, cast_from_residue)

-- the lowest 64 bits of a number are cast as the number is
cast_lowest : (t : ElementType) (z : ℤ) → cast t (pos (residue 64 z)) ≡ cast t z
cast_lowest t z = cast_fewer t 64 z (bits_high t)

-- a lane that is made of the lowest bits of two numbers
pub made_of_lowest : (t : ElementType) (make : ℕ → ℤ → ℤ → ℤ) (x y : ℤ) (a b m : ℕ) → SFits w128 x → SFits w128 y → a ≡ residue 64 (to_z w128 (of_z w128 x)) → b ≡ residue 64 (to_z w128 (of_z w128 y)) → m ≡ residue (bits t) (make (bits t) (cast t (pos a)) (cast t (pos b))) → cast t (pos m) ≡ cast t (make (bits t) (cast t x) (cast t y))
made_of_lowest t make x y a b m f g e_a e_b e =
    let on_x = ap (λ n. cast t (pos n)) e_a ∙ cast_lowest t (to_z w128 (of_z w128 x)) ∙ ap (cast t) (to_z-of_z w128 x f) in
    let on_y = ap (λ n. cast t (pos n)) e_b ∙ cast_lowest t (to_z w128 (of_z w128 y)) ∙ ap (cast t) (to_z-of_z w128 y g) in
    cast_from_residue t (make (bits t) (cast t (pos a)) (cast t (pos b))) m e
    ∙ ap (λ v. cast t (make (bits t) v (cast t (pos b)))) on_x
    ∙ ap (λ v. cast t (make (bits t) (cast t x) v)) on_y

pub ruleset lanes_of_numbers = (made_of_lowest)

-- the bits of a signed number, cut to fewer, are its residue
pub residue-bits : (w : Width) (n : ℕ) (z : ℤ) → n ≤ val.bits w → SFits w z → of_z w z % 2 ^ n ≡ residue n z
residue-bits w n (pos a) h f = sym (residue-pos n a)
residue-bits w n (negsuc a) h f =
    let k = val.bits w - n in
    let all : k + n ≡ val.bits w = omega arith in
    let whole : 2 ^ k * 2 ^ n ≡ 2 ^ val.bits w = sym (pow-add 2 k n) ∙ ap (λ i. 2 ^ i) all in
    let fits = f.sfits in
    let more : 2 ^ hbits w ≤ 2 ^ val.bits w = pow_mono (halves w) in
    let sum : negsuc a +ℤ pos (2 ^ val.bits w) ≡ pos (2 ^ val.bits w - suc a) = omega (arith, same_in, sum_is_lem) in
    sym (residue_is n (negsuc a) (2 ^ k) (2 ^ val.bits w - suc a) (ap (λ i. negsuc a +ℤ pos i) whole ∙ sum))
  where
    halves : (w : Width) → hbits w ≤ val.bits w
    halves w8 = omega arith
    halves w16 = omega arith
    halves w32 = omega arith
    halves w64 = omega arith
    halves w128 = omega arith

-- n bits shifted to the top of 64 and back down as a signed number are read in two's complement
pub extended : (n x : ℕ) → 0 < n → n ≤ 64 → shr_z (to_z w64 ((x * 2 ^ (64 - n)) % 2 ^ 64)) (2 ^ (64 - n)) ≡ read_bits true n (x % 2 ^ n)
unfolding read_bits
extended n x p h =
    let k = 64 - n in
    let a = x % 2 ^ n in
    let all : 64 ≡ n + k = omega arith in
    let top : (x * 2 ^ k) % 2 ^ 64 ≡ a * 2 ^ k = ap (λ i. (x * 2 ^ k) % 2 ^ i) all ∙ mod-pow-add (x * 2 ^ k) n k ∙ shifted k in
    ap (λ i. shr_z (to_z w64 i) (2 ^ k)) top ∙ by k all (mod-lt x (pow_pos n)) (leb (2 ^ (n - 1)) a) refl
  where
    shifted : (k : ℕ) → (x * 2 ^ k / 2 ^ k % 2 ^ n) * 2 ^ k + (x * 2 ^ k) % 2 ^ k ≡ x % 2 ^ n * 2 ^ k
    shifted k = let e = ap (λ i. i % 2 ^ n * 2 ^ k) (shl-shr x k) in let z = mul-mod_left x (2 ^ k) in omega arith

    gap : (a m : ℕ) → a < m → m ≡ suc a + (m - suc a)
    gap a m h = omega arith

    by : (k : ℕ) → 64 ≡ n + k → x % 2 ^ n < 2 ^ n → (b : Bool) → leb (2 ^ (n - 1)) (x % 2 ^ n) ≡ b → shr_z (to_z w64 (x % 2 ^ n * 2 ^ k)) (2 ^ k) ≡ cond b (pos (x % 2 ^ n) -ℤ pos (2 ^ n)) (pos (x % 2 ^ n))
    by k all small true e =
        let a = x % 2 ^ n in
        let m = 2 ^ k in
        let d = 2 ^ n - suc a in
        let half = leb-true (2 ^ (n - 1)) a e in
        let some = pow_pos k in
        let under : 63 ≡ n - 1 + k = omega arith in
        let halves : 2 ^ 63 ≡ 2 ^ (n - 1) * m = ap (λ i. 2 ^ i) under ∙ pow-add 2 (n - 1) k in
        let high_half : 2 ^ (n - 1) * m ≤ a * m = mul-le-mul_right m half in
        let whole : 2 ^ 64 ≡ 2 ^ n * m = ap (λ i. 2 ^ i) all ∙ pow-add 2 n k in
        let parts : 2 ^ n * m ≡ (suc a + d) * m = ap (λ i. i * m) (gap a (2 ^ n) small) in
        let sum = add-mul (suc a) d m in
        let first = suc-mul a m in
        let rest : 2 ^ 64 - suc (a * m) ≡ d * m + (m - 1) = omega arith in
        let over : 2 ^ 63 ≤ a * m = omega arith in
        ap (λ b. shr_z (sel b (pos (a * m)) (negsuc (2 ^ 64 - suc (a * m)))) m) (le-ltb (a * m) (2 ^ 63) over)
        ∙ ap (λ i. negsuc (i / m)) rest
        ∙ ap negsuc (high d k (ones_lt k))
        ∙ omega (arith, ints)
    by k all small false e =
        let a = x % 2 ^ n in
        let m = 2 ^ k in
        let half = leb-false (2 ^ (n - 1)) a e in
        let under : 63 ≡ n - 1 + k = omega arith in
        let halves : 2 ^ 63 ≡ 2 ^ (n - 1) * m = ap (λ i. 2 ^ i) under ∙ pow-add 2 (n - 1) k in
        let low_half : suc a * m ≤ 2 ^ (n - 1) * m = mul-le-mul_right m half in
        let first = suc-mul a m in
        let some = pow_pos k in
        let below : a * m < 2 ^ 63 = omega arith in
        ap (λ i. shr_z i m) (to_z_pos w64 (a * m) below) ∙ ap pos (shl-shr a k)

-- the lowest n bits
pub masked : (n x : ℕ) → n ≤ 64 → bit_and x ((2 ^ 64 - 1) / 2 ^ (64 - n)) ≡ x % 2 ^ n
masked n x h =
    let k = 64 - n in
    let all : 64 ≡ n + k = omega arith in
    let whole : 2 ^ 64 - 1 ≡ (2 ^ n - 1) * 2 ^ k + (2 ^ k - 1) = ap (λ i. 2 ^ i - 1) all ∙ ones_split n k in
    let top : (2 ^ 64 - 1) / 2 ^ k ≡ 2 ^ n - 1 = ap (λ i. i / 2 ^ k) whole ∙ high (2 ^ n - 1) k (ones_lt k) in
    ap (bit_and x) top ∙ and_mask x n

-- the machine's way to it, through signed numbers of 64 bits
pub extended_bits : (n x : ℕ) (z : ℤ) → 0 < n → n ≤ 64 → z ≡ to_z w64 ((x * 2 ^ (64 - n)) % 2 ^ 64) → SFits w64 z → to_z w64 (of_z w64 (shr_z (to_z w64 (of_z w64 z)) (2 ^ (64 - n)))) ≡ read_bits true n (x % 2 ^ n)
extended_bits n x z p h e f =
    let m = 2 ^ (64 - n) in
    let g : SFits w64 (shr_z z m) = record { sfits = omega (arith, mag_shr z m, f.sfits) } in
    ap (λ y. to_z w64 (of_z w64 (shr_z y m))) (to_z-of_z w64 z f) ∙ to_z-of_z w64 (shr_z z m) g ∙ ap (λ y. shr_z y m) e ∙ extended n x p h

-- two's complement lies from - 2 ^ (n - 1) up to and without 2 ^ (n - 1)
pub read_range : (n m : ℕ) → 0 < n → m < 2 ^ n → (up (read_bits true n m) < 2 ^ (n - 1)) × (down (read_bits true n m) ≤ 2 ^ (n - 1))
unfolding read_bits
read_range n m p h = by (leb (2 ^ (n - 1)) m) refl
  where
    ap_lt : {z : ℤ} {d k : ℕ} → z ≡ negsuc d → 0 < k → up z < k
    ap_lt e some = omega (arith, ap up e)

    ap_le : {z : ℤ} (d : ℕ) {k : ℕ} → z ≡ negsuc d → suc d ≤ k → down z ≤ k
    ap_le d e some = omega (arith, ap down e)

    by : (b : Bool) → leb (2 ^ (n - 1)) m ≡ b → (up (cond b (pos m -ℤ pos (2 ^ n)) (pos m)) < 2 ^ (n - 1)) × (down (cond b (pos m -ℤ pos (2 ^ n)) (pos m)) ≤ 2 ^ (n - 1))
    by true e =
        let half = leb-true (2 ^ (n - 1)) m e in
        let more : n ≡ (n - 1) + 1 = omega arith in
        let whole : 2 ^ n ≡ 2 ^ (n - 1) * 2 = ap (λ i. 2 ^ i) more ∙ pow-add 2 (n - 1) 1 in
        let d = 2 ^ n - suc m in
        let is : pos m -ℤ pos (2 ^ n) ≡ negsuc d = omega (arith, ints) in
        let some = pow_pos (n - 1) in
        (ap_lt is some, ap_le d is (omega arith))
    by false e = let half = leb-false (2 ^ (n - 1)) m e in omega arith

pub cast_range : (t : ElementType) (z : ℤ) → signed t ≡ true → (up (cast t z) < 2 ^ (bits t - 1)) × (down (cast t z) ≤ 2 ^ (bits t - 1))
cast_range t z e =
    let few = bits_low t in
    let h = read_range (bits t) (residue (bits t) z) (omega arith) (residue_below (bits t) z) in
    let is = cast_signed t z e in
    omega (arith, h, ap up is, ap down is)

-- a number in the range of two's complement is read back
pub read_fits : (n : ℕ) (z : ℤ) → 0 < n → up z < 2 ^ (n - 1) → down z ≤ 2 ^ (n - 1) → read_bits true n (residue n z) ≡ z
unfolding read_bits
read_fits n (pos a) p above under =
    let all : n ≡ (n - 1) + 1 = omega arith in
    let whole : 2 ^ n ≡ 2 ^ (n - 1) * 2 = ap (λ i. 2 ^ i) all ∙ pow-add 2 (n - 1) 1 in
    let small : a < 2 ^ n = omega arith in
    ap (read_bits true n) (residue_small n a small) ∙ cond-false (leb (2 ^ (n - 1)) a) (pos a -ℤ pos (2 ^ n)) (pos a) (lt-leb (2 ^ (n - 1)) a above)
read_fits n (negsuc a) p above under =
    let all : n ≡ (n - 1) + 1 = omega arith in
    let whole : 2 ^ n ≡ 2 ^ (n - 1) * 2 = ap (λ i. 2 ^ i) all ∙ pow-add 2 (n - 1) 1 in
    let m = 2 ^ n - suc a in
    let sum : negsuc a +ℤ pos (1 * 2 ^ n) ≡ pos m = omega (arith, ints) in
    let is : residue n (negsuc a) ≡ m = residue_is n (negsuc a) 1 m sum ∙ mod-eq_of_lt (omega arith) in
    let half : 2 ^ (n - 1) ≤ m = omega arith in
    ap (read_bits true n) is ∙ cond-true (leb (2 ^ (n - 1)) m) (pos m -ℤ pos (2 ^ n)) (pos m) (le-leb (2 ^ (n - 1)) m half) ∙ omega (arith, ints)

-- a remainder is no longer than what it is left of
rem_size : (x y : ℤ) → (up (cut_remainder x y) ≤ up x) × (down (cut_remainder x y) ≤ down x)
rem_size (pos a) y = (mod-le a (nat_abs y), omega arith)
rem_size (negsuc a) y = less (suc a % nat_abs y) (mod-le (suc a) (nat_abs y))
  where
    less : (m : ℕ) → m ≤ suc a → (up (neg_ℤ (pos m)) ≤ 0) × (down (neg_ℤ (pos m)) ≤ suc a)
    less zero h = omega arith
    less (suc m) h = omega arith

-- so it is a number of the type
pub cast-remainder : (t : ElementType) (x y : ℤ) → cast t (cut_remainder (cast t x) (cast t y)) ≡ cut_remainder (cast t x) (cast t y)
cast-remainder t x y = by (signed t) refl
  where
    by : (b : Bool) → signed t ≡ b → cast t (cut_remainder (cast t x) (cast t y)) ≡ cut_remainder (cast t x) (cast t y)
    by true e =
        let z = cut_remainder (cast t x) (cast t y) in
        let few = bits_low t in
        let size = rem_size (cast t x) (cast t y) in
        let range = cast_range t x e in
        cast_signed t z e ∙ read_fits (bits t) z (omega arith) (omega arith) (omega arith)
    by false e =
        let m = residue (bits t) x % nat_abs (cast t y) in
        let is : cut_remainder (cast t x) (cast t y) ≡ pos m = ap (λ v. cut_remainder v (cast t y)) (cast_unsigned t x e) in
        let small : m < 2 ^ bits t = omega (arith, mod-le (residue (bits t) x) (nat_abs (cast t y)), residue_below (bits t) x) in
        ap (cast t) is ∙ cast_unsigned t (pos m) e ∙ ap pos (residue_small (bits t) m small) ∙ sym is

-- a number of 128 bits, passed on
pub passed : (z : ℤ) → mag z < 2 ^ 127 → to_z w128 (of_z w128 z) ≡ z
passed z h = to_z-of_z w128 z record { sfits = h }

pub ruleset passed_on = (passed, to_z-of_z, cast-residue, cast-remainder)
