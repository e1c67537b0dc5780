-- What machine arithmetic on 64 bits makes of lanes, over any type.
use Rattle.std.proofs.Common.{◌≡◌, ℕ, ◌+◌, ◌-◌, ◌*◌, ◌/◌, ◌%◌, ◌^◌, ◌<◌, ◌≤◌, min, Bool, true, false, cond, ltb, ℤ, pos, negsuc, ◌+ℤ◌, ◌-ℤ◌, ◌*ℤ◌, neg_ℤ, sym, refl, ap, ◌∙◌, ap₂, arith, pow_mono, pow-add, shr-shr, ltb-false, ltb-true, le-ltb, lt-ltb, mul_assoc, div-add-mod'}
use borrow.Author.Differences.{up, down, ints}
use lib.Bits.{bit_and, bit_or, bit_xor}
use lib.Pow.{shr_le}
use lib.Signed.{lt_z, shr_z}
use native.Mathlib.Nat.{mod-mod, mod-add-mod, mul-mod_left, div-eq_of_lt}
use Rattle.word.specs.Types.{bits}
use Rattle.word.specs.declared.element.ElementType.{ElementType}
use Rattle.scalar.specs.Casts.{residue, cast}
use Rattle.scalar.specs.Arithmetic.{shift_left, shift_right, shifted_out, rotate, negative}
use Rattle.scalar.proofs.Casts.{bits_low, bits_high, mod_fewer, lane_residue, masked, lane_unsigned}
use Rattle.scalar.proofs.Residues.{residue_same, residue-pos, residue_small, residue-add, residue-sub, residue-mul}
use Rattle.std.specs.Int.{from_bool}
use Rattle.std.proofs.lemmas.Nat.{and_mod, or_mod, xor_mod}
use Rattle.std.proofs.lemmas.Bool.{cond-true, cond-false}

module _ (t : ElementType) (x y : ℕ) where
  -- lanes have the residues of the numbers that they stand for
  same_x : residue (bits t) (cast t (pos x)) ≡ residue (bits t) (pos x)
  same_x = lane_residue t x ∙ sym (residue-pos (bits t) x)

  same_y : residue (bits t) (cast t (pos y)) ≡ residue (bits t) (pos y)
  same_y = lane_residue t y ∙ sym (residue-pos (bits t) y)

  -- 64 bits, cut to those that count
  cut : (m : ℕ) → m % 2 ^ 64 % 2 ^ bits t ≡ residue (bits t) (pos m)
  cut m = mod_fewer m (bits t) 64 (bits_high t) ∙ sym (residue-pos (bits t) m)

  pub lane_add : (x + y) % 2 ^ 64 % 2 ^ bits t ≡ residue (bits t) (cast t (pos x) +ℤ cast t (pos y))
  lane_add =
      cut (x + y) ∙ residue-add (bits t) (pos x) (pos y) ∙ sym (residue-add (bits t) (cast t (pos x)) (cast t (pos y)) ∙ ap₂ (λ a b. (a + b) % 2 ^ bits t) same_x same_y)

  pub lane_sub : y ≤ 2 ^ 64 → (x + (2 ^ 64 - y)) % 2 ^ 64 % 2 ^ bits t ≡ residue (bits t) (cast t (pos x) -ℤ cast t (pos y))
  lane_sub h =
      let k = 64 - bits t in
      let few = bits_high t in
      let all : k + bits t ≡ 64 = omega arith in
      let whole : 2 ^ k * 2 ^ bits t ≡ 2 ^ 64 = sym (pow-add 2 k (bits t)) ∙ ap (λ i. 2 ^ i) all in
      let far : pos x -ℤ pos y +ℤ pos (2 ^ k * 2 ^ bits t) ≡ pos (x + (2 ^ 64 - y)) +ℤ pos (0 * 2 ^ bits t) = ap (λ i. pos x -ℤ pos y +ℤ pos i) whole ∙ omega (arith, ints) in
      cut (x + (2 ^ 64 - y)) ∙ sym (residue_same (bits t) (pos x -ℤ pos y) (pos (x + (2 ^ 64 - y))) (2 ^ k) 0 far) ∙ residue-sub (bits t) (pos x) (pos y)
      ∙ sym (residue-sub (bits t) (cast t (pos x)) (cast t (pos y)) ∙ ap₂ (λ a b. (a + (2 ^ bits t - b)) % 2 ^ bits t) same_x same_y)

  pub lane_mul : (x * y) % 2 ^ 64 % 2 ^ bits t ≡ residue (bits t) (cast t (pos x) *ℤ cast t (pos y))
  lane_mul =
      cut (x * y) ∙ residue-mul (bits t) (pos x) (pos y) ∙ sym (residue-mul (bits t) (cast t (pos x)) (cast t (pos y)) ∙ ap₂ (λ a b. (a * b) % 2 ^ bits t) same_x same_y)

  -- an operation on each bit
  bitwise : (f : ℕ → ℕ → ℕ) → ((a b k : ℕ) → f a b % 2 ^ k ≡ f (a % 2 ^ k) (b % 2 ^ k)) → f x y % 2 ^ bits t ≡ residue (bits t) (pos (f (residue (bits t) (cast t (pos x))) (residue (bits t) (cast t (pos y)))))
  bitwise f law =
      sym (mod-mod (f x y) (2 ^ bits t)) ∙ ap (λ m. m % 2 ^ bits t) (law x y (bits t)) ∙ sym (residue-pos (bits t) (f (x % 2 ^ bits t) (y % 2 ^ bits t)))
      ∙ ap₂ (λ a b. residue (bits t) (pos (f a b))) (sym (lane_residue t x)) (sym (lane_residue t y))

  pub lane_and : bit_and x y % 2 ^ bits t ≡ residue (bits t) (pos (bit_and (residue (bits t) (cast t (pos x))) (residue (bits t) (cast t (pos y)))))
  lane_and = bitwise bit_and and_mod

  pub lane_or : bit_or x y % 2 ^ bits t ≡ residue (bits t) (pos (bit_or (residue (bits t) (cast t (pos x))) (residue (bits t) (cast t (pos y)))))
  lane_or = bitwise bit_or or_mod

  pub lane_xor : bit_xor x y % 2 ^ bits t ≡ residue (bits t) (pos (bit_xor (residue (bits t) (cast t (pos x))) (residue (bits t) (cast t (pos y)))))
  lane_xor = bitwise bit_xor xor_mod

-- a small number fits every type
pub small_below : (t : ElementType) (m : ℕ) → m < 256 → m < 2 ^ bits t
small_below t m h = let more : 2 ^ 8 ≤ 2 ^ bits t = pow_mono (bits_low t) in omega arith

-- a truth value, as a lane
pub lane_truth : (t : ElementType) (b : Bool) → from_bool b ≡ residue (bits t) (cond b (pos 1) (pos 0))
lane_truth t true = sym (residue_small (bits t) 1 (small_below t 1 (omega arith)))
lane_truth t false = sym (residue_small (bits t) 0 (small_below t 0 (omega arith)))

pub ruleset lane_operations = (lane_add, lane_sub, lane_mul, lane_and, lane_or, lane_xor, lane_truth)

-- shifts
pub lane_shl : (t : ElementType) (x c : ℕ) → c < bits t → (x * 2 ^ c) % 2 ^ 64 % 2 ^ bits t ≡ residue (bits t) (shift_left (bits t) (cast t (pos x)) c)
lane_shl t x c h =
    cut t x x (x * 2 ^ c) ∙ residue-mul (bits t) (pos x) (pos (2 ^ c)) ∙ sym (residue-mul (bits t) (cast t (pos x)) (pos (2 ^ c)) ∙ ap (λ a. (a * residue (bits t) (pos (2 ^ c))) % 2 ^ bits t) (same_x t x x))
    ∙ ap (residue (bits t)) (sym (cond-true (ltb c (bits t)) (cast t (pos x) *ℤ pos (2 ^ c)) (pos 0) (lt-ltb c (bits t) h)))

pub lane_shl_past : (t : ElementType) (x c : ℕ) → bits t ≤ c → 0 ≡ residue (bits t) (shift_left (bits t) (cast t (pos x)) c)
lane_shl_past t x c h =
    sym (residue_small (bits t) 0 (small_below t 0 (omega arith))) ∙ ap (residue (bits t)) (sym (cond-false (ltb c (bits t)) (cast t (pos x) *ℤ pos (2 ^ c)) (pos 0) (le-ltb c (bits t) h)))

-- a shift of a signed number by more bits than it has leaves its sign
shr_sign : (m : ℕ) (z : ℤ) → (up z < m) × (down z ≤ m) → shr_z z m ≡ shifted_out z
shr_sign m (pos a) h = ap pos (div-eq_of_lt h.0)
shr_sign m (negsuc a) h = ap negsuc (div-eq_of_lt h.1)

pub lane_shr_signed : (t : ElementType) (z : ℤ) (c : ℕ) → (up z < 2 ^ (bits t - 1)) × (down z ≤ 2 ^ (bits t - 1)) → shr_z z (2 ^ min c (bits t - 1)) ≡ shift_right (bits t) z c
lane_shr_signed t z c h = by (ltb c (bits t)) refl
  where
    by : (b : Bool) → ltb c (bits t) ≡ b → shr_z z (2 ^ min c (bits t - 1)) ≡ cond b (shr_z z (2 ^ c)) (shifted_out z)
    by true e = let l = ltb-true c (bits t) e in let is : min c (bits t - 1) ≡ c = omega arith in ap (λ k. shr_z z (2 ^ k)) is
    by false e = let l = ltb-false c (bits t) e in let is : min c (bits t - 1) ≡ bits t - 1 = omega arith in ap (λ k. shr_z z (2 ^ k)) is ∙ shr_sign (2 ^ (bits t - 1)) z h

pub lane_shr_unsigned : (t : ElementType) (m c : ℕ) → m < 2 ^ bits t → c < bits t → m / 2 ^ c ≡ residue (bits t) (shift_right (bits t) (pos m) c)
lane_shr_unsigned t m c h l =
    sym (residue_small (bits t) (m / 2 ^ c) (omega (arith, shr_le m c)))
    ∙ ap (residue (bits t)) (sym (cond-true (ltb c (bits t)) (pos (m / 2 ^ c)) (pos 0) (lt-ltb c (bits t) l)))

pub lane_shr_past : (t : ElementType) (m c : ℕ) → bits t ≤ c → 0 ≡ residue (bits t) (shift_right (bits t) (pos m) c)
lane_shr_past t m c h =
    sym (residue_small (bits t) 0 (small_below t 0 (omega arith)))
    ∙ ap (residue (bits t)) (sym (cond-false (ltb c (bits t)) (pos (m / 2 ^ c)) (pos 0) (le-ltb c (bits t) h)))

-- rotates
pub lane_rotate : (t : ElementType) (m c : ℕ) → c < bits t → ((m * 2 ^ c) % 2 ^ 64 + m / 2 / 2 ^ (bits t - 1 - c)) % 2 ^ 64 % 2 ^ bits t ≡ residue (bits t) (pos (rotate (bits t) m c))
lane_rotate t m c h =
    let n = bits t in
    let few = bits_high t in
    let back : m / 2 / 2 ^ (n - 1 - c) ≡ m / 2 ^ (1 + (n - 1 - c)) = shr-shr m 1 (n - 1 - c) in
    let down_by : 1 + (n - 1 - c) ≡ n - c = omega arith in
    let low = m / 2 ^ (n - c) in
    let is : m / 2 / 2 ^ (n - 1 - c) ≡ low = back ∙ ap (λ k. m / 2 ^ k) down_by in
    ap (λ b. ((m * 2 ^ c) % 2 ^ 64 + b) % 2 ^ 64 % 2 ^ n) is
    ∙ mod_fewer ((m * 2 ^ c) % 2 ^ 64 + low) n 64 few
    ∙ sym (mod-add-mod ((m * 2 ^ c) % 2 ^ 64) (2 ^ n) low)
    ∙ ap (λ a. (a + low) % 2 ^ n) (mod_fewer (m * 2 ^ c) n 64 few)
    ∙ sym (residue-pos n ((m * 2 ^ c) % 2 ^ n + low))

-- a rotate by all bits changes nothing
pub lane_rotate_all : (t : ElementType) (m c : ℕ) → m < 2 ^ bits t → c ≡ bits t → m ≡ residue (bits t) (pos (rotate (bits t) m c))
lane_rotate_all t m c h e =
    let n = bits t in
    let none : n - n ≡ 0 = omega arith in
    let whole : rotate n m n ≡ m = ap₂ (λ a b. a + m / 2 ^ b) (mul-mod_left m (2 ^ n)) none ∙ omega arith in
    sym (residue_small n m h) ∙ ap (λ k. residue n (pos k)) (sym whole) ∙ ap (λ k. residue n (pos (rotate n m k))) (sym e)

-- signs
pub lane_negative : (z : ℤ) → lt_z z (pos 0) ≡ negative z
lane_negative (pos m) = le-ltb m 0 (omega arith)
lane_negative (negsuc m) = refl

pub lane_minus : (t : ElementType) (m r : ℕ) → (r + m) % 2 ^ 64 ≡ 0 → r % 2 ^ bits t ≡ residue (bits t) (neg_ℤ (pos m))
lane_minus t m r e =
    let n = bits t in
    let j = 64 - n in
    let k = (r + m) / 2 ^ 64 in
    let few = bits_high t in
    let all : j + n ≡ 64 = omega arith in
    let whole : k * 2 ^ j * 2 ^ n ≡ k * 2 ^ 64 = mul_assoc k (2 ^ j) (2 ^ n) ∙ ap (λ i. k * i) (sym (pow-add 2 j n) ∙ ap (λ i. 2 ^ i) all) in
    let sum : k * 2 ^ j * 2 ^ n ≡ r + m = omega (arith, div-add-mod' (r + m) (2 ^ 64)) in
    sym (residue-pos n r) ∙ sym (residue_same n (neg_ℤ (pos m)) (pos r) (k * 2 ^ j) 0 (ap (λ i. neg_ℤ (pos m) +ℤ pos i) sum ∙ omega (arith, ints)))

-- what the functions on lanes cite
pub ruleset lane_bits = (bits_high, masked, lane_residue, lane_unsigned, residue-pos, lane_minus, lane_negative, lane_shl, lane_shl_past, lane_shr_unsigned, lane_shr_past, lane_rotate, lane_rotate_all)
