-- Which lines are named once register r, of 128 and no zero register, has another address.
use Rattle.std.proofs.Common.{◌≡◌, ℕ, ◌<◌, Bool, true, false, not, ◌&&◌, ◌==◌, refl, arith}
use Rattle.std.proofs.lemmas.Bool.Decides.{nat_tests}
use Rattle.flat.specs.Registers.{is_zero, line_of, names, named, shared, at}
use Rattle.flat.proofs.Somewhere.{some_decides}

-- A register names the line.
is_named : (address : ℕ → ℕ) (q n : ℕ) → q < 128 → names address q n ≡ true → named address n ≡ true
unfolding named
is_named address q n small h = (some_decides 128 (λ k. names address k n)).1 (q, small, h)

-- The register that names it.
namer : (address : ℕ → ℕ) (n : ℕ) → named address n ≡ true → (q : ℕ) × (q < 128) × (names address q n ≡ true)
unfolding named
namer address n h = (some_decides 128 (λ k. names address k n)).0 h

-- The other register that shares r's line.
sharer : (address : ℕ → ℕ) (r : ℕ) → shared address r ≡ true → (q : ℕ) × (q < 128) × ((not (q == r) && names address q (line_of (address r))) ≡ true)
unfolding shared
sharer address r h = (some_decides 128 (λ q. not (q == r) && names address q (line_of (address r)))).0 h

shares : (address : ℕ → ℕ) (r q : ℕ) → q < 128 → (not (q == r) && names address q (line_of (address r))) ≡ true → shared address r ≡ true
unfolding shared
shares address r q small h = (some_decides 128 (λ k. not (k == r) && names address k (line_of (address r)))).1 (q, small, h)

-- It is its line's last and goes to another.
abbrev pub departs : (ℕ → ℕ) → ℕ → ℕ → Bool
departs address r a = not (line_of (address r) == line_of a) && not (shared address r)

module _ (address : ℕ → ℕ) (r a : ℕ) (real : is_zero r ≡ false) (small : r < 128) where
  -- Another register still names what it named.
  other_names : (q n : ℕ) → (q == r) ≡ false → names address q n ≡ true → names (at address r a) q n ≡ true
  other_names q n apart h = grind (arith, nat_tests, apart, h)

  -- Every other line is named as before.
  pub others_named : (n : ℕ) → (line_of (address r) == n) ≡ false → named address n ≡ true → named (at address r a) n ≡ true
  others_named n apart h =
      let q = namer address n h in
      is_named (at address r a) q.0 n q.1 (other_names q.0 n (grind (arith, nat_tests, apart, q.2)) q.2)

  -- Its own line was named.
  pub own_named : named address (line_of (address r)) ≡ true
  own_named = is_named address r (line_of (address r)) small (grind (arith, nat_tests, real))

  -- It names the line that it goes to.
  pub new_named : named (at address r a) (line_of a) ≡ true
  new_named = is_named (at address r a) r (line_of a) small (grind (arith, nat_tests, real))

  -- If it departs, its line is not named any more.
  pub own_left : departs address r a ≡ true → named (at address r a) (line_of (address r)) ≡ false
  own_left d = by_value (named (at address r a) (line_of (address r))) refl
    where
      none : (q : ℕ) → q < 128 → names (at address r a) q (line_of (address r)) ≡ true → (e : Bool) → (q == r) ≡ e → true ≡ false
      none q within h true e = grind (arith, nat_tests, h, e, d)
      none q within h false e = let s = shares address r q within (grind (arith, nat_tests, h, e)) in grind (arith, nat_tests, s, d)

      by_value : (b : Bool) → named (at address r a) (line_of (address r)) ≡ b → b ≡ false
      by_value false h = refl
      by_value true h = let q = namer (at address r a) (line_of (address r)) h in none q.0 q.1 q.2 (q.0 == r) refl

  -- If it does not, every line that was named still is.
  pub all_named : (n : ℕ) → departs address r a ≡ false → named address n ≡ true → named (at address r a) n ≡ true
  all_named n d h = by_place (line_of (address r) == n) refl
    where
      by_share : (s : Bool) → shared address r ≡ s → (line_of (address r) == n) ≡ true → named (at address r a) n ≡ true
      by_share true s e =
          let q = sharer address r s in
          is_named (at address r a) q.0 n q.1 (other_names q.0 n (grind (arith, nat_tests, q.2)) (grind (arith, nat_tests, q.2, e)))
      by_share false s e = is_named (at address r a) r n small (grind (arith, nat_tests, real, s, e, d))

      by_place : (b : Bool) → (line_of (address r) == n) ≡ b → named (at address r a) n ≡ true
      by_place false e = others_named n e h
      by_place true e = by_share (shared address r) refl e
