-- Addresses that are moved by a signed number.
use Rattle.std.proofs.Common.{◌≡◌, ℕ, ◌+◌, ◌%◌, ◌^◌, ℤ, pos, ◌+ℤ◌, sym, ap, ◌∙◌, arith, w32, SFits, of_z}
use Rattle.std.proofs.Math.Nat.{add-mod, add-mod-mod}
use Rattle.std.proofs.lemmas.Int.{to_z-of_z}
use Rattle.scalar.specs.Casts.{residue}
use Rattle.scalar.proofs.Residues.{residue-add, residue-pos}
use Rattle.scalar.proofs.Casts.{residue-bits}

pub moves : (a : ℕ) (z : ℤ) → SFits w32 z → (a + of_z w32 z) % 2 ^ 32 ≡ residue 32 (pos a +ℤ z)
moves a z f =
    add-mod a (of_z w32 z) (2 ^ 32)
    ∙ ap (λ (k : ℕ). (a % 2 ^ 32 + k) % 2 ^ 32) (residue-bits w32 32 z (omega arith) f)
    ∙ ap (λ (k : ℕ). (k + residue 32 z) % 2 ^ 32) (sym (residue-pos 32 a))
    ∙ sym (residue-add 32 (pos a) z)

-- and by a natural one after that
pub further : (a k : ℕ) (z : ℤ) → (residue 32 (pos a +ℤ z) + k) % 2 ^ 32 ≡ residue 32 (pos a +ℤ z +ℤ pos k)
further a k z =
    let b = pos a +ℤ z in
    sym (add-mod-mod (residue 32 b) k (2 ^ 32))
    ∙ ap (λ (n : ℕ). (residue 32 b + n) % 2 ^ 32) (sym (residue-pos 32 k))
    ∙ sym (residue-add 32 b (pos k))

pub ruleset fetches = (further, to_z-of_z)
