-- Powers of two, as the fields of a word take them.
use Rattle.std.proofs.Common.{◌≡◌, ℕ, ◌+◌, ◌-◌, ◌*◌, ◌^◌, ◌<◌, ◌≤◌, sym, ap, ◌∙◌, arith, pow_pos, pow_mono, pow-add}
use Rattle.std.proofs.Math.Nat.{mul-lt-mul_of_pos_right}

-- the bits of a field stay in the word at their place
pub moved : (b n at : ℕ) → b < 2 ^ n → at + n ≤ 32 → b * 2 ^ at < 2 ^ 32
moved b n at h k =
    let below : b * 2 ^ at < 2 ^ n * 2 ^ at = mul-lt-mul_of_pos_right h (pow_pos at) in
    let whole : 2 ^ n * 2 ^ at ≡ 2 ^ (n + at) = sym (pow-add 2 n at) in
    let most : 2 ^ (n + at) ≤ 2 ^ 32 = pow_mono {i = n + at} {j = 32} (omega arith) in
    omega arith

-- half of the numbers of a field of at most 12 bits
pub halves : (n : ℕ) → 0 < n → n ≤ 12 → (2 * 2 ^ (n - 1) ≡ 2 ^ n) × (2 ^ (n - 1) ≤ 2048)
halves n h k =
    let split : 2 ^ (1 + (n - 1)) ≡ 2 ^ 1 * 2 ^ (n - 1) = pow-add 2 1 (n - 1) in
    let most : 2 ^ (n - 1) ≤ 2 ^ 11 = pow_mono {i = n - 1} {j = 11} (omega arith) in
    (sym split ∙ ap (λ i. 2 ^ i) (omega arith), most)
