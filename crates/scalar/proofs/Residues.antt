-- The laws of residues modulo 2 ^ n, over any n.
use Rattle.std.proofs.Common.{◌≡◌, ℕ, ◌+◌, ◌-◌, ◌*◌, ◌/◌, ◌%◌, ◌^◌, ◌<◌, ◌≤◌, ℤ, pos, negsuc, ◌+ℤ◌, ◌-ℤ◌, ◌*ℤ◌, nat_abs, sym, refl, ap, ◌∙◌, mod-lt, mod-eq_of_lt, mul-le-mul_left, div-add-mod', arith, pow_pos}
use borrow.Author.Differences.{up, down, same_in, same_out, sum_is_lem, neg_is, product_is, ints}
use lib.IntN.{*ℤ_comm}
use Rattle.std.specs.Int.{int_rem_euclid}
use Rattle.std.proofs.lemmas.Int.{int_rem_euclid_is}
use Rattle.scalar.specs.Casts.{residue}

residue-rem : (n : ℕ) (z : ℤ) → residue n z ≡ nat_abs (int_rem_euclid z (pos (2 ^ n)))
unfolding residue
residue-rem n (pos a) = refl
residue-rem n (negsuc a) = refl

-- z plus a multiple of 2 ^ n is the natural m
pub residue_is : (n : ℕ) (z : ℤ) (k m : ℕ) → z +ℤ pos (k * 2 ^ n) ≡ pos m → residue n z ≡ m % 2 ^ n
residue_is n z k m e = residue-rem n z ∙ ap nat_abs (int_rem_euclid_is z (pos (2 ^ n)) (2 ^ n) k m (pow_pos n) refl e)

-- a and b differ by a multiple of 2 ^ n
pub residue_same : (n : ℕ) (a b : ℤ) (j k : ℕ) → a +ℤ pos (j * 2 ^ n) ≡ b +ℤ pos (k * 2 ^ n) → residue n a ≡ residue n b
residue_same n a b j k e =
    let m = 2 ^ n in
    let some = pow_pos n in
    let t = down a + down b in
    let far : t * 1 ≤ t * m = mul-le-mul_left t some in
    let i = up a + (j + t) * m - down a in
    residue_is n a (j + t) i (omega (arith, ints)) ∙ sym (residue_is n b (k + t) i (omega (arith, ints)))

-- z and its residue differ by a multiple of 2 ^ n
pub residue_differs : (n : ℕ) (z : ℤ) → (j : ℕ) × (k : ℕ) × (pos (residue n z) +ℤ pos (j * 2 ^ n) ≡ z +ℤ pos (k * 2 ^ n))
unfolding residue
residue_differs n (pos a) = let m = 2 ^ n in (a / m, 0, omega (arith, same_in, same_out, sum_is_lem, div-add-mod' a m))
residue_differs n (negsuc a) =
    let m = 2 ^ n in
    let small = mod-lt a (pow_pos n) in
    (0, a / m + 1, omega (arith, same_in, same_out, sum_is_lem, div-add-mod' a m))

pub residue-pos : (n m : ℕ) → residue n (pos m) ≡ m % 2 ^ n
unfolding residue
residue-pos n m = refl

pub residue_below : (n : ℕ) (z : ℤ) → residue n z < 2 ^ n
unfolding residue
residue_below n (pos a) = mod-lt a (pow_pos n)
residue_below n (negsuc a) = omega (arith, pow_pos n)

-- what is below 2 ^ n is its own residue
pub residue_small : (n m : ℕ) → m < 2 ^ n → residue n (pos m) ≡ m
residue_small n m h = residue-pos n m ∙ mod-eq_of_lt h

pub residue-residue : (n : ℕ) (z : ℤ) → residue n (pos (residue n z)) ≡ residue n z
residue-residue n z = residue_small n (residue n z) (residue_below n z)

pub residue-add : (n : ℕ) (x y : ℤ) → residue n (x +ℤ y) ≡ (residue n x + residue n y) % 2 ^ n
residue-add n x y =
    let a = residue_differs n x in
    let b = residue_differs n y in
    residue_same n (x +ℤ y) (pos (residue n x + residue n y)) (a.1 + b.1) (a.0 + b.0) (omega (arith, same_in, same_out, sum_is_lem, a.2, b.2))
    ∙ residue-pos n (residue n x + residue n y)

pub residue-sub : (n : ℕ) (x y : ℤ) → residue n (x -ℤ y) ≡ (residue n x + (2 ^ n - residue n y)) % 2 ^ n
residue-sub n x y =
    let a = residue_differs n x in
    let b = residue_differs n y in
    let low = residue_below n y in
    residue_same n (x -ℤ y) (pos (residue n x + (2 ^ n - residue n y))) (a.1 + b.0 + 1) (a.0 + b.1) (omega (arith, same_in, same_out, sum_is_lem, neg_is, a.2, b.2))
    ∙ residue-pos n (residue n x + (2 ^ n - residue n y))

-- a factor may be replaced by one that differs by a multiple of 2 ^ n
residue_factor : (n : ℕ) (a b c : ℤ) (j k : ℕ) → a +ℤ pos (j * 2 ^ n) ≡ b +ℤ pos (k * 2 ^ n) → residue n (a *ℤ c) ≡ residue n (b *ℤ c)
residue_factor n a b c j k e =
    let sum : up a + j * 2 ^ n + down b ≡ up b + k * 2 ^ n + down a = omega (arith, same_out, sum_is_lem) in
    let above = ap (λ x. x * up c) sum in
    let below = ap (λ x. x * down c) sum in
    residue_same n (a *ℤ c) (b *ℤ c) (j * up c + k * down c) (k * up c + j * down c) (omega (arith, same_in, sum_is_lem, product_is))

pub residue-mul : (n : ℕ) (x y : ℤ) → residue n (x *ℤ y) ≡ (residue n x * residue n y) % 2 ^ n
residue-mul n x y =
    let a = residue_differs n x in
    let b = residue_differs n y in
    let p = pos (residue n x) in
    let q = pos (residue n y) in
    sym (residue_factor n p x y a.0 a.1 a.2) ∙ ap (residue n) (*ℤ_comm p y) ∙ sym (residue_factor n q y p b.0 b.1 b.2) ∙ ap (residue n) (*ℤ_comm q p)
    ∙ residue-pos n (residue n x * residue n y)
