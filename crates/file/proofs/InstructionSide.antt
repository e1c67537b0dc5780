-- What taking a line does to what the instruction registers stand for.
use Rattle.std.proofs.Common.{◌≡◌, ◌≤◌, ℕ, zero, suc, ◌<◌, Bool, true, false, ◌==◌, if◌then◌else◌, List, Some, None, Option, refl, sym, ap, ◌∙◌, arith}
use Rattle.std.proofs.Math.Path.{fun_ext}
use Rattle.std.proofs.lemmas.Bool.{cond-false, true≢false}
use Rattle.std.proofs.lemmas.Bool.Decides.{nat_tests}
use Rattle.std.specs.Option.{option_or, option_map, unwrap_or}
use Rattle.flat.specs.Instructions.{held, take}
use Rattle.flat.specs.Registers.{zeros, at, is_zero, is_real, line_of, names, shared}
use Rattle.flat.proofs.Somewhere.{some_decides}
use Rattle.tags.specs.Names.{Names, Unused, gone, tag_of}
use Rattle.file.specs.Standing.{instructions_of, of_tag}

-- the lines that registers name have tags, and tags are those of lines that registers name
abbrev pub Linked : Names → Type 0
Linked s = (r : ℕ) → r < 128 → is_zero r ≡ false → s.tag (line_of (s.address r)) ≡ Some (tag_of s r)

abbrev pub Used : Names → Type 0
Used s = (n t : ℕ) → s.tag n ≡ Some t → (r : ℕ) × (r < 128) × (is_zero r ≡ false) × (line_of (s.address r) ≡ n)

names_line : (s : Names) (r n : ℕ) → is_zero r ≡ false → line_of (s.address r) ≡ n → names s.address r n ≡ true
names_line s r n z e = grind (arith, nat_tests, z, e)

named_real : (s : Names) (r n : ℕ) → names s.address r n ≡ true → is_zero r ≡ false
named_real s r n e = grind (arith, nat_tests, e)

module _ (s : Names) (n : ℕ) where
  abbrev line_bytes : List ℕ
  line_bytes = of_tag (s.tag n) s.bytes zeros

  -- the words of a register that names the line
  words_here : (k : ℕ) → k < 128 → names s.address k n ≡ true → (instructions_of s k).bytes ≡ line_bytes
  unfolding instructions_of
  words_here k l h = grind (arith, nat_tests, h, l)

  -- the words of register k where it names the line
  abbrev own : ℕ → Option (List ℕ)
  own k = if names s.address k n then Some (instructions_of s k).bytes else None

  own_bytes : (k : ℕ) → k < 128 → (x : List ℕ) (z : Bool) → names s.address k n ≡ z → own k ≡ Some x → (x ≡ line_bytes) × (z ≡ true)
  own_bytes k l x true h e = (grind (arith, h, e, words_here k l h), refl)
  own_bytes k l x false h e = grind (arith, h, e)

  own_none : (k : ℕ) (z : Bool) → names s.address k n ≡ z → own k ≡ None → z ≡ false
  own_none k true h e = grind (arith, h, e)
  own_none k false h e = refl

  -- words that are held below k are those of the line's tag, and some register below k names the line
  abbrev HeldFrom : ℕ → List ℕ → Type 0
  HeldFrom k x = (x ≡ line_bytes) × ((r : ℕ) × (r < k) × (names s.address r n ≡ true))

  held_step : (k : ℕ) → k < 128 → (x : List ℕ) (o : Option (List ℕ)) → ((y : List ℕ) → o ≡ Some y → HeldFrom k y) → option_or o (own k) ≡ Some x → HeldFrom (suc k) x
  held_step k b x None lower e =
      let g = own_bytes k b x (names s.address k n) refl e in
      (g.0, (k, omega arith, g.1))
  held_step k b x (Some y) lower e =
      let g = lower y refl in
      let l = g.1.1 in
      (grind (arith, e, g.0), (g.1.0, omega arith, g.1.2))

  held_bytes : (k : ℕ) → k ≤ 128 → (x : List ℕ) → held (instructions_of s) n k ≡ Some x → HeldFrom k x
  unfolding held instructions_of
  held_bytes zero b x e = grind (arith, e)
  held_bytes (suc k) b x e = held_step k (omega arith) x (held (instructions_of s) n k) (held_bytes k (omega arith)) e

  none_step : (k r : ℕ) (o : Option (List ℕ)) → (o ≡ None → r < k → names s.address r n ≡ false) → r < suc k → option_or o (own k) ≡ None → names s.address r n ≡ false
  none_step k r None lower h e = grind (arith, lower refl, h, own_none k (names s.address k n) refl e)
  none_step k r (Some y) lower h e = grind (arith, e)

  not_held : (k r : ℕ) → r < k → held (instructions_of s) n k ≡ None → names s.address r n ≡ false
  unfolding held instructions_of
  not_held zero r h e = grind (arith, h)
  not_held (suc k) r h e = none_step k r (held (instructions_of s) n k) (λ f g. not_held k r g f) h e

  module _ (linked : Linked s) (used : Used s) where
    held_is : (o : Option ℕ) → s.tag n ≡ o → (w : Option (List ℕ)) → held (instructions_of s) n 128 ≡ w → w ≡ option_map s.bytes o
    held_is None h None g = refl
    held_is (Some t) h None g =
        let r = used n t h in
        absurd (true≢false (sym (names_line s r.0 n r.2 r.3) ∙ not_held 128 r.0 r.1 g))
    held_is None h (Some x) g =
        let f = held_bytes 128 (omega arith) x g in
        let l = linked f.1.0 f.1.1 (named_real s f.1.0 n f.1.2) in
        grind (arith, nat_tests, h, l, f.1.2)
    held_is (Some t) h (Some x) g =
        let f = held_bytes 128 (omega arith) x g in
        grind (arith, h, f.0)

    -- the words that a move copies are the bytes of the line's tag
    pub held_tag : held (instructions_of s) n 128 ≡ option_map s.bytes (s.tag n)
    held_tag = held_is (s.tag n) refl (held (instructions_of s) n 128) refl

-- another register than r that names r's line shares it
shares : (s : Names) (q r : ℕ) → is_real q ≡ true → (q == r) ≡ false → (line_of (s.address q) == line_of (s.address r)) ≡ true → shared s.address r ≡ true
unfolding shared
shares s q r real other same = (some_decides 128 _).1 (q, grind (arith, nat_tests, real), grind (arith, nat_tests, real, other, same))

-- register r takes the line of an address
module _ (s : Names) (r u a : ℕ) (memory : ℕ → List ℕ) (within : r < 128) (real : is_zero r ≡ false) (linked : Linked s) (used : Used s) (fresh : s.tag (line_of a) ≡ None → Unused s u) where
  abbrev after : Names
  after = gone r a u (memory (line_of a)) s

  -- r itself
  words_own : (q : ℕ) (o : Option ℕ) → s.tag (line_of a) ≡ o → q ≡ r → instructions_of after q ≡ record { address = a; bytes = unwrap_or (option_map s.bytes o) (memory (line_of a)) }
  unfolding instructions_of gone
  words_own q None h e = grind (arith, nat_tests, h, e, real, within)
  words_own q (Some t) h e = grind (arith, nat_tests, h, e, real, within)

  -- another register
  words_other : (q : ℕ) (o : Option ℕ) (y x : Bool) → s.tag (line_of a) ≡ o → is_real q ≡ y → (q == r) ≡ false → (line_of (s.address q) == line_of (s.address r)) ≡ x → instructions_of after q ≡ instructions_of s q
  unfolding instructions_of gone
  words_other q o false x h z e w = grind (arith, nat_tests, z, e, real)
  words_other q None true true h z e w =
      let l = linked q (grind (arith, nat_tests, z)) (grind (arith, nat_tests, z)) in
      grind (arith, nat_tests, h, z, e, w, real, shares s q r z e w, l, fresh h)
  words_other q None true false h z e w =
      let l = linked q (grind (arith, nat_tests, z)) (grind (arith, nat_tests, z)) in
      grind (arith, nat_tests, h, z, e, w, real, l, fresh h)
  words_other q (Some t) true true h z e w =
      let l = linked q (grind (arith, nat_tests, z)) (grind (arith, nat_tests, z)) in
      grind (arith, nat_tests, h, z, e, w, real, shares s q r z e w, l)
  words_other q (Some t) true false h z e w =
      let l = linked q (grind (arith, nat_tests, z)) (grind (arith, nat_tests, z)) in
      grind (arith, nat_tests, h, z, e, w, real, l)

  words_after : (q : ℕ) (y : Bool) → (q == r) ≡ y → instructions_of after q ≡ (if y then record { address = a; bytes = unwrap_or (option_map s.bytes (s.tag (line_of a))) (memory (line_of a)) } else instructions_of s q)
  words_after q true e = words_own q (s.tag (line_of a)) refl (grind (arith, nat_tests, e))
  words_after q false e = words_other q (s.tag (line_of a)) (is_real q) (line_of (s.address q) == line_of (s.address r)) refl refl e refl

  pub takes : instructions_of after ≡ take r a memory (instructions_of s)
  unfolding take
  takes =
      fun_ext (λ q. words_after q (q == r) refl)
      ∙ (ap (λ w. at (instructions_of s) r (record { address = a; bytes = unwrap_or w (memory (line_of a)) })) (sym (held_tag s (line_of a) linked used))
      ∙ sym (cond-false _ _ _ real))
