-- What the columns of a warm bank show.
use Rattle.std.proofs.Common.{◌≡◌, ◌≢◌, ℕ, zero, suc, is_some, nat_lt, ◌<◌, ◌/◌, ◌^◌, ◌==◌, Bool, true, false, not, ◌&&◌, List, length, slice_index, get_or, Option, Some, None, ◌↔◌, refl, sym, ap, ◌∙◌, arith}
use Rattle.std.proofs.lemmas.Bool.Decides.{nat_tests, same_from_decides}
use Rattle.flat.specs.Registers.{is_zero}
use Rattle.tags.specs.Invariants.{Warm, Whole, no_bytes}
use Rattle.tags.specs.Names.{Sound, names_of, find, all_lines, tag_of, carriers_of}
use Rattle.flat.specs.Registers.{shared}
use Rattle.line.specs.Dividing.{somewhere}
use Rattle.tags.proofs.Counts.{alone, another, somebody}
use Rattle.tags.proofs.Finds.{find_is, found}
use Rattle.tags.proofs.All.{length-all}
use Rattle.flat.proofs.Somewhere.{some_decides}
use Rattle.tags.proofs.Tests.{list_count}
use Rattle.marks.proofs.Counting.{how_many-same, how_many-none}
use Rattle.tags.proofs.Holding.{Holds}
use Rattle.tags.specs.Sounds.{whole_at}

-- Every register but the zero registers carries a tag, and addresses have 32 bits.
pub record Shows (addresses carried lines counts : List ℕ) : Type 0 where
  pub held : Holds addresses carried lines counts
  pub warm : Warm carried
  pub small : (r : ℕ) → slice_index addresses r < 2 ^ 32

-- What is one thing and another is one.
pub some_same : {o : Option ℕ} {a b : ℕ} → o ≡ Some a → o ≡ Some b → a ≡ b
some_same e f = cc

-- The tag that a register carries is the one that names its line.
pub named : {addresses carried lines counts : List ℕ} (r : ℕ) → Shows addresses carried lines counts → r < 128 → is_zero r ≡ false → find lines (slice_index addresses r / 128) ≡ Some (slice_index carried r)
named {addresses} {carried} {lines} {counts} r s hr real =
    let h = s.held in
    let l = h.linked r hr (s.warm r hr real) in
    let b = s.small r in
    find_is lines (slice_index addresses r / 128) (slice_index carried r) (omega arith) (omega (arith, h.named)) l.1 (λ k hk e. let a = h.apart k (slice_index carried r) (omega (arith, h.named)) l.0 in grind arith)

-- A tag that names a line holds it, and is not tag 0.
pub holds_line : {addresses carried lines counts : List ℕ} (n t : ℕ) → Holds addresses carried lines counts → find lines n ≡ Some t → (0 < t) × (t < 128) × (n < all_lines) × (slice_index lines t ≡ n)
holds_line {addresses} {carried} {lines} {counts} n t h e =
    let f = found lines n t e in
    let nonzero : t ≢ 0 = λ z. let g = ap (λ k. slice_index lines k) z in omega (arith, g, h.nameless, f.2, f.0) in
    (grind arith, omega (arith, f.1, h.named), f.0, f.2)

-- A tag that is no tag's line names none.
pub names_line : {addresses carried lines counts : List ℕ} (n t : ℕ) → Holds addresses carried lines counts → t < 128 → n < all_lines → slice_index lines t ≡ n → find lines n ≡ Some t
names_line {addresses} {carried} {lines} {counts} n t h ht small e =
    find_is lines n t small (omega (arith, h.named)) e (λ k hk f. let a = h.apart k t (omega (arith, h.named)) ht in grind arith)

-- The tag of a register is the one that it carries.
pub tag_is : {addresses carried lines counts : List ℕ} (bytes : List (List ℕ)) (r : ℕ) → Shows addresses carried lines counts → r < 128 → tag_of (names_of addresses lines bytes) r ≡ slice_index carried r
unfolding names_of
tag_is {addresses} {carried} {lines} {counts} bytes r s hr =
    let n = named r s hr in
    let z = s.held.no_tag in
    grind (arith, nat_tests)

-- Registers that carry one tag name one line.
pub same_line : {addresses carried lines counts : List ℕ} (q r : ℕ) → Shows addresses carried lines counts → q < 128 → r < 128 → is_zero r ≡ false → slice_index carried q ≡ slice_index carried r → (is_zero q ≡ false) × (slice_index addresses q / 128 ≡ slice_index addresses r / 128)
same_line {addresses} {carried} {lines} {counts} q r s hq hr real e =
    let w = s.warm r hr real in
    let z = s.held.no_tag in
    let l = s.held.linked r hr w in
    let m = s.held.linked q hq (λ f. w (sym e ∙ f)) in
    (grind (arith, nat_tests), sym m.1 ∙ ap (λ k. slice_index lines k) e ∙ l.1)

-- Registers that name one line carry one tag.
pub same_tag : {addresses carried lines counts : List ℕ} (q r : ℕ) → Shows addresses carried lines counts → q < 128 → r < 128 → is_zero q ≡ false → is_zero r ≡ false → slice_index addresses q / 128 ≡ slice_index addresses r / 128 → slice_index carried q ≡ slice_index carried r
same_tag {addresses} {carried} {lines} {counts} q r s hq hr unreal real e =
    let n = named r s hr real in
    let m = named q s hq unreal in
    let f = ap (λ k. find lines k) e in
    cc

-- The test of another register on r's line.
abbrev other : List ℕ → ℕ → ℕ → Bool
other addresses r q =
    not (q == r) && (not (is_zero q) && (slice_index addresses q / 128 == slice_index addresses r / 128))

shared_more : {addresses carried lines counts : List ℕ} (r : ℕ) → Shows addresses carried lines counts → r < 128 → is_zero r ≡ false → not (slice_index counts (slice_index carried r) == 1) ≡ true → (k : ℕ) × (k < 128) × (other addresses r k ≡ true)
shared_more {addresses} {carried} {lines} {counts} r s hr real more =
    let h = s.held in
    let w = s.warm r hr real in
    let t = slice_index carried r in
    let l = h.linked r hr w in
    let e = h.counted t (omega arith) l.0 in
    let a = another carried r t (omega (arith, h.registers)) refl (grind (arith, nat_tests)) in
    let hk : a.0 < 128 = omega (arith, a.1, h.registers) in
    let b = same_line a.0 r s hk hr real a.3 in
    (a.0, hk, grind (arith, nat_tests))

more_shared : {addresses carried lines counts : List ℕ} (r k : ℕ) → Shows addresses carried lines counts → r < 128 → is_zero r ≡ false → k < 128 → other addresses r k ≡ true → not (slice_index counts (slice_index carried r) == 1) ≡ true
more_shared {addresses} {carried} {lines} {counts} r k s hr real hk other_one =
    let h = s.held in
    let w = s.warm r hr real in
    let t = slice_index carried r in
    let l = h.linked r hr w in
    let e = h.counted t (omega arith) l.0 in
    let a = alone carried r t k (omega (arith, h.registers)) refl in
    let b = same_tag k r s hk hr in
    grind (arith, nat_tests, h.registers)

-- A register's line is shared where its tag counts more than it.
pub shared_is : {addresses carried lines counts : List ℕ} (r : ℕ) → Shows addresses carried lines counts → r < 128 → is_zero r ≡ false → shared (slice_index addresses) r ≡ not (slice_index counts (slice_index carried r) == 1)
unfolding shared
shared_is {addresses} {carried} {lines} {counts} r s hr real =
    same_from_decides (somewhere (other addresses r) 128) (not (slice_index counts (slice_index carried r) == 1)) (some_decides 128 (other addresses r)) (shared_more r s hr real, λ k. more_shared r k.0 s hr real k.1 k.2)

-- Whether a register carries a tag, in the words of what the bank shows.
abbrev carries : List ℕ → List ℕ → List (List ℕ) → ℕ → ℕ → Bool
carries addresses lines bytes t r =
    not (is_zero r) && is_some (find lines (slice_index addresses r / 128)) && (tag_of (names_of addresses lines bytes) r == t)

carries_is : {addresses carried lines counts : List ℕ} (bytes : List (List ℕ)) (t r : ℕ) → Shows addresses carried lines counts → 0 < t → r < 128 → carries addresses lines bytes t r ≡ (slice_index carried r == t)
unfolding names_of
carries_is {addresses} {carried} {lines} {counts} bytes t r s pt hr =
    let n = named r s hr in
    let z = s.held.no_tag in
    grind (arith, nat_tests)

carries_none : {addresses carried lines counts : List ℕ} (bytes : List (List ℕ)) (r : ℕ) → Shows addresses carried lines counts → r < 128 → carries addresses lines bytes 0 r ≡ false
unfolding names_of
carries_none {addresses} {carried} {lines} {counts} bytes r s hr =
    let n = named r s hr in
    let w = s.warm r hr in
    grind (arith, nat_tests)

count_some : {addresses carried lines counts : List ℕ} (bytes : List (List ℕ)) (t : ℕ) → Shows addresses carried lines counts → 0 < t → t < 128 → carriers_of (names_of addresses lines bytes) t ≡ slice_index counts t
unfolding carriers_of names_of
count_some {addresses} {carried} {lines} {counts} bytes t s pt ht =
    how_many-same (carries addresses lines bytes t) (λ k. slice_index carried k == t) 128 (λ k hk. carries_is bytes t k s pt hk)
    ∙ (list_count (λ c. c == t) carried 128 s.held.registers ∙ sym (s.held.counted t pt ht))

count_none : {addresses carried lines counts : List ℕ} (bytes : List (List ℕ)) → Shows addresses carried lines counts → carriers_of (names_of addresses lines bytes) 0 ≡ slice_index counts 0
unfolding carriers_of names_of
count_none {addresses} {carried} {lines} {counts} bytes s =
    how_many-same (carries addresses lines bytes 0) (λ k. false) 128 (λ k hk. carries_none bytes k s hk)
    ∙ (how_many-none 128 ∙ sym s.held.uncounted)

-- A tag counts the registers on its line.
pub count_is : {addresses carried lines counts : List ℕ} (bytes : List (List ℕ)) (t : ℕ) → Shows addresses carried lines counts → t < 128 → carriers_of (names_of addresses lines bytes) t ≡ slice_index counts t
count_is bytes zero s ht = count_none bytes s
count_is bytes (suc t) s ht = count_some bytes (suc t) s (omega arith) ht

used_by : {addresses carried lines counts : List ℕ} (n t : ℕ) → Holds addresses carried lines counts → find lines n ≡ Some t → (r : ℕ) × (r < 128) × (is_zero r ≡ false) × (slice_index addresses r / 128 ≡ n)
used_by {addresses} {carried} {lines} {counts} n t h e =
    let f = holds_line n t h e in
    let some = h.free t f.0 f.1 in
    let count = h.counted t f.0 f.1 in
    let k = somebody carried t (grind arith) in
    let hk : k.0 < 128 = omega (arith, k.1, h.registers) in
    let l = h.linked k.0 hk (omega (arith, f.0, k.2)) in
    (k.0, hk, grind (arith, nat_tests, h.no_tag), sym l.1 ∙ (ap (λ u. slice_index lines u) k.2 ∙ f.3))

zero_line : length no_bytes ≡ 128
zero_line = length-all 0

-- The line that a tag names, if any.
line_named : {addresses carried lines counts : List ℕ} (t : ℕ) (small in_use : Bool) → nat_lt t 128 ≡ small → nat_lt (slice_index lines t) all_lines ≡ in_use → Holds addresses carried lines counts → (o : Option ℕ) × ((n : ℕ) → (find lines n ≡ Some t) ↔ (o ≡ Some n))
line_named {addresses} {carried} {lines} {counts} t true true e f h =
    (Some (slice_index lines t), λ n. (λ g. ap Some (holds_line n t h g).3, λ g. let k = some_same {o = Some (slice_index lines t)} refl g in names_line n t h (grind (arith, nat_tests, e)) (grind (arith, nat_tests, f, k)) k))
line_named {addresses} {carried} {lines} {counts} t true false e f h =
    (None, λ n. (λ g. let l = holds_line n t h g in absurd (grind (arith, nat_tests, f, l.2, l.3)), λ g. absurd (cc)))
line_named {addresses} {carried} {lines} {counts} t false in_use e f h =
    (None, λ n. (λ g. let l = holds_line n t h g in absurd (grind (arith, nat_tests, e, l.1)), λ g. absurd (cc)))

-- What holds of what a warm bank shows.
pub sound_names : {addresses carried lines counts : List ℕ} (bytes : List (List ℕ)) → Shows addresses carried lines counts → get_or bytes 0 no_bytes ≡ no_bytes → Whole bytes → Sound (names_of addresses lines bytes)
unfolding names_of
sound_names {addresses} {carried} {lines} {counts} bytes s z b =
    let h = s.held in
    record {
      linked = λ r hr real. named r s hr real ∙ ap Some (sym (tag_is bytes r s hr));
      used = λ n t e. used_by n t h e;
      named = λ t. line_named t (nat_lt t 128) (nat_lt (slice_index lines t) all_lines) refl refl h;
      one = λ n m t e f. let a = holds_line n t h e in let b = holds_line m t h f in omega (arith, a.3, b.3);
      tags = λ n t e. let a = holds_line n t h e in (a.0, a.1);
      lines = λ n t e. (holds_line n t h e).2;
      addresses = s.small;
      shares = λ q r hq hr unreal real. let tq = tag_is bytes q s hq in let tr = tag_is bytes r s hr in (λ e. (same_line q r s hq hr real (sym tq ∙ (e ∙ tr))).1, λ e. tq ∙ (same_tag q r s hq hr unreal real e ∙ sym tr));
      zero_user = h.no_tag.0;
      zero_supervisor = h.no_tag.1;
      zero_bytes = z;
      whole = λ t. whole_at bytes t (nat_lt t 128) refl b;
    }

last_at : {addresses carried lines counts : List ℕ} (bytes : List (List ℕ)) (r t : ℕ) (zero_one : Bool) → is_zero r ≡ zero_one → Shows addresses carried lines counts → r < 128 → t < 128 → (is_zero r ≡ false → find lines (slice_index addresses r / 128) ≡ Some t) → (is_zero r ≡ true → t ≡ 0) → (carriers_of (names_of addresses lines bytes) t == 1) ≡ (not zero_one && not (shared (slice_index addresses) r))
last_at {addresses} {carried} {lines} {counts} bytes r t true z s hr ht real none =
    let e = count_is bytes t s ht in
    let f = ap (λ k. slice_index counts k) (none z) in
    let g = s.held.uncounted in
    grind (arith, nat_tests)
last_at {addresses} {carried} {lines} {counts} bytes r t false z s hr ht real none =
    let e = count_is bytes t s ht in
    let n = some_same (named r s hr z) (real z) in
    let f = ap (λ k. slice_index counts k) n in
    let g = shared_is r s hr z in
    grind (arith, nat_tests)

-- A register is the last on its line where its tag counts one.
pub last_is : {addresses carried lines counts : List ℕ} (bytes : List (List ℕ)) (r t : ℕ) → Shows addresses carried lines counts → r < 128 → t < 128 → (is_zero r ≡ false → find lines (slice_index addresses r / 128) ≡ Some t) → (is_zero r ≡ true → t ≡ 0) → (carriers_of (names_of addresses lines bytes) t == 1) ≡ (not (is_zero r) && not (shared (slice_index addresses) r))
last_is {addresses} {carried} {lines} {counts} bytes r t s hr ht real none =
    last_at bytes r t (is_zero r) refl s hr ht real none

-- A tag that a real register has is not tag 0, and is the register's.
pub tag_number : {addresses carried lines counts : List ℕ} (bytes : List (List ℕ)) (r t : ℕ) → Shows addresses carried lines counts → r < 128 → is_zero r ≡ false → find lines (slice_index addresses r / 128) ≡ Some t → (0 < t) × (t < 128) × (t ≡ tag_of (names_of addresses lines bytes) r)
tag_number {addresses} {carried} {lines} {counts} bytes r t s hr real e =
    let h = holds_line (slice_index addresses r / 128) t s.held e in
    (h.0, h.1, some_same e (named r s hr real) ∙ sym (tag_is bytes r s hr))
