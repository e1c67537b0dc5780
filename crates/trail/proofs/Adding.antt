-- Laws of `Added`: nothing added, one adding after another, what that leaves in the slots, and what
-- space it takes. Crates that add to trails build their own claims from these.
use Rattle.std.proofs.Common.{◌≡◌, ℕ, ◌+◌, ◌-◌, ◌≤◌, List, [], ◌++◌, length, drop, sym, refl, ap, ◌∙◌, zero-add, arith}
use Rattle.std.proofs.lemmas.List.{append-nil, append_assoc, length-append, length-take, drop-drop, take-append-drop}
use Rattle.trail.specs.declared.Trail.{Trail}
use Rattle.trail.specs.Trails.{held, space, Added, filled}

-- Lists that agree past one place agree past every later one.
same_past : {X : Type 0} (n m : ℕ) (xs ys : List X) → n ≤ m → drop n xs ≡ drop n ys → drop m xs ≡ drop m ys
same_past n m xs ys h e =
    let d : n + (m - n) ≡ m = omega arith in
    ap (λ k. drop k xs) (sym d) ∙ sym (drop-drop (m - n) n xs) ∙ ap (drop (m - n)) e ∙ drop-drop (m - n) n ys ∙ ap (λ k. drop k ys) d

-- A trail is itself with nothing added.
pub added_none : {X : Type 0} (t : Trail X) → Added t t []
added_none t =
    record { records = sym (append-nil (held t)); used = omega arith; rest = refl; size = refl; loan = refl }

-- Records added after records added.
pub added_then : {X : Type 0} {a b c : Trail X} {xs ys : List X} → Added a b xs → Added b c ys → Added a c (xs ++ ys)
added_then {a = a} {b = b} {c = c} {xs = xs} {ys = ys} p q =
    record {
      records = q.records ∙ ap (λ l. l ++ ys) p.records ∙ append_assoc (held a) xs ys;
      used = omega (arith, p.used, q.used, length-append xs ys);
      rest = q.rest ∙ same_past b.used c.used b.slots.now a.slots.now (omega (arith, q.used)) p.rest;
      size = q.size ∙ p.size;
      loan = q.loan ∙ p.loan;
    }

-- What the slots hold after records are added: those held before, those added, and past them what was there.
pub slots_after : {X : Type 0} {a b : Trail X} {more : List X} → Added a b more
    → b.slots.now ≡ (held a ++ more) ++ drop (a.used + length more) a.slots.now
slots_after {a = a} {b = b} {more = more} p =
    sym (take-append-drop b.used b.slots.now)
    ∙ ap (λ l. l ++ drop b.used b.slots.now) p.records
    ∙ ap (λ l. (held a ++ more) ++ l) (p.rest ∙ ap (λ n. drop n a.slots.now) p.used)

-- What was added had space.
pub added_fits : {X : Type 0} {a b : Trail X} {more : List X} → Added a b more → length more ≤ space a
added_fits {a = a} {b = b} {more = more} p =
    omega (
      arith,
      ap length p.records,
      length-append (held a) more,
      length-take a.used a.slots.now,
      length-take b.used b.slots.now,
      p.size,
      p.used,
    )

-- It takes that much of the space.
pub space_after : {X : Type 0} {a b : Trail X} {more : List X} → Added a b more → space b ≡ space a - length more
space_after {a = a} {b = b} {more = more} p = omega (arith, p.size, p.used)

-- The caller's slots, where the trail held nothing at first.
pub filled_after : {X : Type 0} {a b : Trail X} {more : List X} → a.used ≡ 0 → Added a b more → b.slots.now ≡ filled a.slots.now more
filled_after {a = a} {more = more} none p = slots_after p ∙ rw (none, zero-add)
