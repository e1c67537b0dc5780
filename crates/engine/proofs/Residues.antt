-- Residues, as the code takes them.
use Rattle.std.proofs.Common.{◌≡◌, ℕ, ◌+◌, ◌%◌, ◌^◌, ◌<◌, ℤ, pos, ◌+ℤ◌, sym, ap, ◌∙◌, arith, w32, SFits, of_z}
use Rattle.std.proofs.Math.Nat.{add-mod-mod, mod-add-mod}
use Rattle.scalar.specs.Casts.{residue}
use Rattle.scalar.proofs.Casts.{residue_fewer, residue-bits}
use Rattle.scalar.proofs.Residues.{residue-pos, residue-add, residue_below}

-- the lowest bit of 8
pub lowest_bit : (z : ℤ) → residue 8 z % 2 ≡ residue 1 z
lowest_bit z = sym (residue-pos 1 (residue 8 z)) ∙ residue_fewer 1 8 z (omega arith)

pub below_word : (z : ℤ) → residue 32 z < 2 ^ 32
below_word z = residue_below 32 z

pub ruleset few_bits = (lowest_bit, below_word)

-- a number plus a signed one, as words of n bits add them
pub sum_residue : (n a : ℕ) (z : ℤ) → residue n (pos a +ℤ z) ≡ (a + residue n z) % 2 ^ n
sum_residue n a z = residue-add n (pos a) z ∙ (ap (λ x. (x + residue n z) % 2 ^ n) (residue-pos n a) ∙ mod-add-mod a (2 ^ n) (residue n z))

pub displaced : (a : ℕ) (z : ℤ) → SFits w32 z → (a + of_z w32 z) % 2 ^ 32 ≡ residue 32 (pos a +ℤ z)
displaced a z f = sym (add-mod-mod a (of_z w32 z) (2 ^ 32)) ∙ (ap (λ x. (a + x) % 2 ^ 32) (residue-bits w32 32 z (omega arith) f) ∙ sym (sum_residue 32 a z))
