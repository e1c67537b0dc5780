-- Whether something holds at a place below n.
use Rattle.std.proofs.Common.{◌≡◌, ℕ, zero, suc, ◌<◌, Bool, true, false, ◌||◌, Decides, refl, arith}
use Rattle.std.proofs.lemmas.Bool.{cases_eq}
use Rattle.std.proofs.lemmas.Bool.Decides.{nat_tests}
use Rattle.line.specs.Dividing.{somewhere}

some_true_at : (n : ℕ) (test : ℕ → Bool) (b : Bool) → test n ≡ b → (somewhere test n || b) ≡ true → (somewhere test n ≡ true → (k : ℕ) × (k < n) × (test k ≡ true)) → (k : ℕ) × (k < suc n) × (test k ≡ true)
some_true_at n test true e h more = (n, omega arith, e)
some_true_at n test false e h more = let m = more (grind (arith, h)) in (m.0, omega arith, m.2)

some_true : (n : ℕ) (test : ℕ → Bool) → somewhere test n ≡ true → (k : ℕ) × (k < n) × (test k ≡ true)
unfolding somewhere
some_true zero test e = grind arith
some_true (suc n) test e = some_true_at n test (test n) refl e (some_true n test)

true_some : (n k : ℕ) (test : ℕ → Bool) → k < n → test k ≡ true → somewhere test n ≡ true
unfolding somewhere
true_some zero k test h e = absurd (omega arith)
true_some (suc n) k test h e = grind (arith, nat_tests, cases_eq k n, true_some n k test)

-- `somewhere` says whether there is such a number.
pub some_decides : (n : ℕ) (test : ℕ → Bool) → Decides (somewhere test n) ((k : ℕ) × (k < n) × (test k ≡ true))
some_decides n test = (some_true n test, λ s. true_some n s.0 test s.1 s.2)
