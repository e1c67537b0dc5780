-- What `find_map` over a range of numbers found.
use Rattle.std.proofs.Common.{◌≡◌, ◌<◌, ℕ, ◌+◌, ◌≤◌, ◌-◌, Option, Some, None, MatchOption, IfSome, IsSomeAnd, IsTrue, subst, ap, arith}
use Rattle.std.specs.Option.{option_map}
use Rattle.std.specs.Fn.{Called, Mut}
use Rattle.std.specs.Iterator.Runs.{SomeRun, Run, AllItemsGive, IsFirstToGive, CallKeepsClosure}
use Rattle.std.specs.declared.ops.Range.{Range}
use Rattle.std.proofs.iter.Yields.{nat_range_steps}
use Rattle.std.proofs.iter.runs.Sources.{range_runs}

-- There is an item, and it is this one.
at_some_and : (o : Option ℕ) (x : ℕ) (P : ℕ → Type 0) → option_map (λ y. y) o ≡ Some x → IsSomeAnd o P → P x
at_some_and None x P e h = absurd (cc)
at_some_and (Some y) x P e h = let same : y ≡ x = cc in subst P same h

-- There is an item, so what holds of it if it is there holds.
is_there : (o : Option ℕ) (x : ℕ) (P : ℕ → Type 0) → option_map (λ y. y) o ≡ Some x → IfSome o P → IsSomeAnd o P
is_there None x P e h = absurd (cc)
is_there (Some y) x P e h = h

module _ {F B : Type 0} (g : Mut F (ℕ × Unit {0}) (Option B)) (f : F) (No : ℕ → Type 0) (Yes : ℕ → B → Type 0) (keeps : CallKeepsClosure g f) (no : (x : ℕ) (q : F) → Called g f (x, tt) None q → No x) (yes : (x : ℕ) (y : B) (q : F) → Called g f (x, tt) (Some y) q → Yes x y) where
  -- Nothing was found at the first n numbers.
  passed : (p : Run nat_range_steps) (a n : ℕ) → p.from.start ≡ a → ((j : ℕ) → j < n → IsSomeAnd (p.at j) (λ x. Called g f (x, tt) None f)) → n ≤ p.len → (k : ℕ) → a ≤ k → k < a + n → No k
  passed p a n from gave within k low high =
      let j : ℕ = k - a in
      let there : p.from.start + j ≡ k = omega arith in
      no k f (subst (λ x. Called g f (x, tt) None f) there (at_some_and (p.at j) (p.from.start + j) (λ x. Called g f (x, tt) None f) ((range_runs p p.seen).3 j (omega arith)) (gave j (omega arith))))

  -- `find_map` over a range, said of the numbers in it.
  pub found : (s : Range ℕ) (r : Option B) → SomeRun nat_range_steps s (λ p. MatchOption r (IsTrue p.whole × AllItemsGive p g f None) (λ y. (i : ℕ) × (i < p.len) × (p.len ≡ i + 1) × IsFirstToGive p g f (Some y) None i)) → MatchOption r ((k : ℕ) → s.start ≤ k → k < s.end → No k) (λ y. (i : ℕ) × (s.start ≤ i) × (i < s.end) × Yes i y × ((k : ℕ) → s.start ≤ k → k < i → No k))
  found s None h =
      let p = h.0 in
      let start : p.from.start ≡ s.start = ap (λ t. t.start) h.1 in
      let end : p.from.end ≡ s.end = ap (λ t. t.end) h.1 in
      let ran = range_runs p p.seen in
      let all : p.len ≡ p.from.end - p.from.start = ran.1 h.2.0 in
      λ k low high. passed p s.start p.len start (λ j less. is_there (p.at j) (p.from.start + j) (λ x. Called g f (x, tt) None f) (ran.3 j less) (h.2.1 keeps j)) (omega arith) k low (omega arith)
  found s (Some y) h =
      let p = h.0 in
      let i = h.2.0 in
      let start : p.from.start ≡ s.start = ap (λ t. t.start) h.1 in
      let end : p.from.end ≡ s.end = ap (λ t. t.end) h.1 in
      let ran = range_runs p p.seen in
      let first = h.2.3 keeps in
      let here : p.from.start + i ≡ s.start + i = omega arith in
      let call : Called g f (s.start + i, tt) (Some y) f = subst (λ x. Called g f (x, tt) (Some y) f) here (at_some_and (p.at i) (p.from.start + i) (λ x. Called g f (x, tt) (Some y) f) (ran.3 i h.2.1) first.0) in
      (s.start + i, omega arith, omega (arith, ran.0, h.2.1), yes (s.start + i) y f call, passed p s.start i start first.1 (omega (arith, h.2.1)))
