-- Elements that are joined one after the other, each time cast, come to the same as elements that
-- are joined and then cast.
use Rattle.std.proofs.Common.{◌≡◌, ℕ, zero, suc, ◌+◌, ◌-◌, ◌*◌, ◌%◌, ◌^◌, ◌<◌, ◌⊎◌, ℤ, pos, ◌+ℤ◌, ◌*ℤ◌, sym, refl, ap, ◌∙◌, inl, inr, ⊎_elim, mod-eq_of_lt, arith, pow_pos}
use lib.Bits.{bit_and}
use lib.Pow.{ones_lt, ones_split, low}
use lib.Signed.{lt_z}
use Rattle.word.specs.Types.{bits}
use Rattle.word.specs.declared.element.ElementType.{ElementType}
use Rattle.line.specs.Reductions.{over, joined, gathered}
use Rattle.scalar.specs.Arithmetic.{compute}
use Rattle.scalar.specs.Casts.{residue, cast}
use Rattle.scalar.proofs.Casts.{bits_high, residue-cast, cast_same, cast-cast, lane_residue}
use Rattle.scalar.proofs.Residues.{residue-add, residue-mul, residue-pos, residue_small}
use Rattle.std.specs.Int.{int_max, int_min}
use Rattle.std.proofs.lemmas.Nat.{and_le_l}
use Rattle.std.proofs.lemmas.Bool.{cases_cond}
use Rattle.word.specs.declared.opcodes.Arith.TheVariants.{Add as AddOf, Mul as MulOf, And as AndOf}
use Rattle.word.specs.declared.opcodes.Reduction.TheVariants.{Add, Mul, Max, Min, And}

module _ (t : ElementType) (f : ℕ → ℤ) where
  -- to cast on the way changes nothing
  cast-add : (a b : ℤ) → cast t (a +ℤ b) ≡ cast t (cast t a +ℤ b)
  cast-add a b =
      cast_same t (a +ℤ b) (cast t a +ℤ b) (residue-add (bits t) a b ∙ ap (λ r. (r + residue (bits t) b) % 2 ^ bits t) (sym (residue-cast t a)) ∙ sym (residue-add (bits t) (cast t a) b))

  cast-mul : (a b : ℤ) → cast t (a *ℤ b) ≡ cast t (cast t a *ℤ b)
  cast-mul a b =
      cast_same t (a *ℤ b) (cast t a *ℤ b) (residue-mul (bits t) a b ∙ ap (λ r. (r * residue (bits t) b) % 2 ^ bits t) (sym (residue-cast t a)) ∙ sym (residue-mul (bits t) (cast t a) b))

  pub gather_sum : (n : ℕ) → gathered (compute AddOf) t f (cast t (pos 0)) n ≡ cast t (joined Add t (λ k. cast t (f k)) n)
  unfolding over
  gather_sum zero = refl
  gather_sum (suc n) = ap (λ a. cast t (a +ℤ cast t (f n))) (gather_sum n) ∙ sym (cast-add (joined Add t (λ k. cast t (f k)) n) (cast t (f n)))

  pub gather_product : (n : ℕ) → gathered (compute MulOf) t f (cast t (pos 1)) n ≡ cast t (joined Mul t (λ k. cast t (f k)) n)
  unfolding over
  gather_product zero = refl
  gather_product (suc n) = ap (λ a. cast t (a *ℤ cast t (f n))) (gather_product n) ∙ sym (cast-mul (joined Mul t (λ k. cast t (f k)) n) (cast t (f n)))

  -- the greatest or the least is one of the numbers, so it is a number of the type
  picked : (pick : ℤ → ℤ → ℤ) → ((a b : ℤ) → (pick a b ≡ a) ⊎ (pick a b ≡ b)) → (n : ℕ) → cast t (over (λ a k. pick a (cast t (f k))) (cast t (f 0)) n) ≡ over (λ a k. pick a (cast t (f k))) (cast t (f 0)) n
  unfolding over
  picked pick one zero = cast-cast t (f 0)
  picked pick one (suc n) =
      let a = over (λ a k. pick a (cast t (f k))) (cast t (f 0)) n in
      let b = cast t (f n) in
      ⊎_elim (λ e. ap (cast t) e ∙ picked pick one n ∙ sym e) (λ e. ap (cast t) e ∙ cast-cast t (f n) ∙ sym e) (one a b)

  gather_picked : (pick : ℤ → ℤ → ℤ) → ((a b : ℤ) → (pick a b ≡ a) ⊎ (pick a b ≡ b)) → (n : ℕ) → gathered (λ m. pick) t f (cast t (f 0)) n ≡ cast t (over (λ a k. pick a (cast t (f k))) (cast t (f 0)) n)
  unfolding over
  gather_picked pick one zero = sym (cast-cast t (f 0))
  gather_picked pick one (suc n) = ap (λ a. cast t (pick a (cast t (f n)))) (gather_picked pick one n ∙ picked pick one n)

  pub gather_greatest : (n : ℕ) → gathered (λ m. int_max) t f (cast t (f 0)) n ≡ cast t (joined Max t (λ k. cast t (f k)) n)
  gather_greatest = gather_picked int_max (λ a b. cases_cond (lt_z b a) a b (int_max a b) refl)

  pub gather_least : (n : ℕ) → gathered (λ m. int_min) t f (cast t (f 0)) n ≡ cast t (joined Min t (λ k. cast t (f k)) n)
  gather_least = gather_picked int_min (λ a b. ⊎_elim inr inl (cases_cond (lt_z b a) b a (int_min a b) refl))

  -- the bits that all have in common
  bits_in : (n : ℕ) → over (λ a k. bit_and a (residue (bits t) (cast t (f k)))) (2 ^ bits t - 1) n < 2 ^ bits t
  unfolding over
  bits_in zero = omega (arith, pow_pos (bits t))
  bits_in (suc n) = omega (arith, bits_in n, and_le_l (over (λ a k. bit_and a (residue (bits t) (cast t (f k)))) (2 ^ bits t - 1) n) (residue (bits t) (cast t (f n))))

  pub gather_common : (n : ℕ) → gathered (compute AndOf) t f (cast t (pos (2 ^ bits t - 1))) n ≡ cast t (joined And t (λ k. cast t (f k)) n)
  unfolding over
  gather_common zero = refl
  gather_common (suc n) =
      let a = over (λ a k. bit_and a (residue (bits t) (cast t (f k)))) (2 ^ bits t - 1) n in
      ap (λ z. cast t (pos (bit_and (residue (bits t) z) (residue (bits t) (cast t (f n)))))) (gather_common n)
      ∙ ap (λ m. cast t (pos (bit_and m (residue (bits t) (cast t (f n)))))) (lane_residue t a ∙ mod-eq_of_lt (bits_in n))

-- all bits of 64 are all bits of a type
pub all_ones : (t : ElementType) → cast t (pos (2 ^ 64 - 1)) ≡ cast t (pos (2 ^ bits t - 1))
all_ones t =
    let n = bits t in
    let few = bits_high t in
    let all : 64 ≡ (64 - n) + n = omega arith in
    let split : 2 ^ 64 - 1 ≡ (2 ^ (64 - n) - 1) * 2 ^ n + (2 ^ n - 1) = ap (λ i. 2 ^ i - 1) all ∙ ones_split (64 - n) n in
    let cut : (2 ^ 64 - 1) % 2 ^ n ≡ 2 ^ n - 1 = ap (λ m. m % 2 ^ n) split ∙ low (2 ^ (64 - n) - 1) n (ones_lt n) in
    cast_same t (pos (2 ^ 64 - 1)) (pos (2 ^ n - 1)) (residue-pos n (2 ^ 64 - 1) ∙ cut ∙ sym (residue_small n (2 ^ n - 1) (ones_lt n)))

pub ruleset gathering = (gather_sum, gather_product, gather_greatest, gather_least, gather_common, all_ones)
