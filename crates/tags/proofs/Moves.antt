-- A register goes to an address: what the bank shows then.
use Rattle.std.proofs.Common.{◌≡◌, ◌≢◌, ℕ, ◌<◌, ◌/◌, ◌^◌, ◌==◌, true, false, Bool, not, ◌&&◌, subst, if◌then◌else◌, List, length, get_or, slice_index, set, Some, None, Option, unwrap_or, is_none, refl, sym, ap, ◌∙◌, arith}
use Rattle.std.proofs.Math.Path.{fun_ext}
use Rattle.std.proofs.lemmas.Bool.{cases_eq}
use Rattle.std.proofs.lemmas.Bool.Decides.{nat_tests}
use Rattle.std.proofs.lemmas.List.{length-set, get_or-set_same, get_or-set_other}
use Rattle.flat.specs.Registers.{is_zero}
use Rattle.tags.specs.Invariants.{Warm, free, no_bytes, laid_down, filled_for}
use Rattle.tags.specs.Names.{Names, Goes, names_of, find, gone, written, tag_of, all_lines}
use Rattle.flat.specs.Registers.{shared}
use Rattle.tags.proofs.Finds.{find_is, find_none, find-set}
use Rattle.tags.proofs.Holding.{Holds}
use Rattle.tags.proofs.Showing.{Shows, named, names_line, holds_line, shared_is, tag_is, some_same}
use Rattle.tags.proofs.Steps.{at}

abbrev names_with : (ℕ → ℕ) → (ℕ → Option ℕ) → (ℕ → List ℕ) → Names
names_with a t b = record { address = a; tag = t; bytes = b }

abbrev gone_address : ℕ → ℕ → Names → ℕ → ℕ
gone_address r a s q = if q == r then a else s.address q

abbrev gone_tag : ℕ → ℕ → ℕ → Names → ℕ → Option ℕ
gone_tag r a u s n =
    if n == a / 128 then Some (unwrap_or (s.tag n) u) else if n == s.address r / 128 && not (shared s.address r) then None else s.tag n

abbrev gone_bytes : ℕ → ℕ → List ℕ → Names → ℕ → List ℕ
gone_bytes a u b s t = if t == u && is_none (s.tag (a / 128)) then b else s.bytes t

-- What a tag shows after a write of its bytes.
pub bytes_at : (bytes : List (List ℕ)) (t v : ℕ) (b : List ℕ) (s : Bool) → (v == t) ≡ s → t < length bytes → get_or (set bytes t b) v no_bytes ≡ (if s then b else get_or bytes v no_bytes)
bytes_at bytes t v b true e h =
    let f : v ≡ t = grind (arith, nat_tests) in
    ap (λ k. get_or (set bytes t b) k no_bytes) f ∙ get_or-set_same bytes t b no_bytes h
bytes_at bytes t v b false e h = get_or-set_other bytes t v b no_bytes (grind (arith, nat_tests))

-- The bytes of a register's line are replaced.
pub written_names : {addresses carried lines counts : List ℕ} (bytes : List (List ℕ)) (r : ℕ) (b : List ℕ) → Shows addresses carried lines counts → r < 128 → is_zero r ≡ false → length bytes ≡ 128 → names_of addresses lines (set bytes (tag_of (names_of addresses lines bytes) r) b) ≡ written r b (names_of addresses lines bytes)
unfolding names_of written
written_names {addresses} {carried} {lines} {counts} bytes r b s hr real size =
    let before = names_of addresses lines bytes in
    let t = tag_of before r in
    let after : ℕ → List ℕ = λ v. if v == t then b else get_or bytes v no_bytes in
    let ht : t < length bytes = omega (arith, tag_is bytes r s hr, s.held.linked r hr (s.warm r hr real)) in
    let shown = fun_ext {f = λ v. get_or (set bytes t b) v no_bytes} {g = after} (λ v. bytes_at bytes t v b (v == t) refl ht) in
    ap (λ f. names_with (slice_index addresses) (find lines) f) shown
    ∙ ap (λ z. if z then before else names_with (slice_index addresses) (find lines) after) (sym real)

-- A zero register's zeros stay.
pub unwritten : (r : ℕ) (b : List ℕ) (s : Names) → is_zero r ≡ true → s ≡ written r b s
unfolding written
unwritten r b s z = ap (λ y. if y then s else names_with s.address s.tag (λ v. if v == tag_of s r then b else s.bytes v)) (sym z)

-- A zero register stays.
pub gone_zero : (r a u : ℕ) (b : List ℕ) (s : Names) → is_zero r ≡ true → s ≡ gone r a u b s
unfolding gone
gone_zero r a u b s z = ap (λ y. if y then s else names_with (gone_address r a s) (gone_tag r a u s) (gone_bytes a u b s)) (sym z)

-- Any other register goes.
gone_real : (r a u : ℕ) (b : List ℕ) (s : Names) → is_zero r ≡ false → names_with (gone_address r a s) (gone_tag r a u s) (gone_bytes a u b s) ≡ gone r a u b s
unfolding gone
gone_real r a u b s z = ap (λ y. if y then s else names_with (gone_address r a s) (gone_tag r a u s) (gone_bytes a u b s)) (sym z)

address_at : (addresses : List ℕ) (r a q : ℕ) (b : Bool) → (q == r) ≡ b → r < length addresses → slice_index (set addresses r a) q ≡ (if b then a else slice_index addresses q)
address_at addresses r a q true e h = (at addresses r q a h).0 (grind (arith, nat_tests))
address_at addresses r a q false e h = (at addresses r q a h).1 (grind (arith, nat_tests))

unwrap_is : (o : Option ℕ) (u t : ℕ) → ((v : ℕ) → o ≡ Some v → v ≡ t) → (o ≡ None → u ≡ t) → unwrap_or o u ≡ t
unwrap_is (Some v) u t h n = h v refl
unwrap_is None u t h n = n refl

-- The tag of each line when a register goes to another place on its line.
stay_tag : {addresses carried lines counts : List ℕ} (bytes : List (List ℕ)) (r a n : ℕ) (b : Bool) → (n == a / 128) ≡ b → Shows addresses carried lines counts → r < 128 → is_zero r ≡ false → a / 128 ≡ slice_index addresses r / 128 → find lines n ≡ (if b then Some (unwrap_or (find lines n) 0) else if n == slice_index addresses r / 128 && not (shared (slice_index addresses) r) then None else find lines n)
stay_tag {addresses} {carried} {lines} {counts} bytes r a n true e s hr real line =
    let f : n ≡ slice_index addresses r / 128 = grind (arith, nat_tests) in
    let g : find lines n ≡ Some (slice_index carried r) = ap (find lines) f ∙ named r s hr real in
    g ∙ ap Some (sym (unwrap_is (find lines n) 0 (slice_index carried r) (λ v h. some_same h g) (λ h. absurd (cc))))
stay_tag {addresses} {carried} {lines} {counts} bytes r a n false e s hr real line =
    let f : (n == slice_index addresses r / 128) ≡ false = ap (λ k. n == k) (sym line) ∙ e in
    ap (λ z. if z && not (shared (slice_index addresses) r) then None else find lines n) (sym f)

stay_bytes : (bytes : List (List ℕ)) (v : ℕ) (b : List ℕ) (o : Option ℕ) (t : ℕ) → o ≡ Some t → get_or bytes v no_bytes ≡ (if v == 0 && is_none o then b else get_or bytes v no_bytes)
stay_bytes bytes v b o t e = grind (arith, nat_tests)

-- A register that goes to another place on its line changes nothing else.
pub stay_goes : {addresses carried lines counts : List ℕ} (bytes : List (List ℕ)) (r a : ℕ) (b : List ℕ) → Shows addresses carried lines counts → r < 128 → is_zero r ≡ false → a / 128 ≡ slice_index addresses r / 128 → Goes r a b (names_of addresses lines bytes) (names_of (set addresses r a) lines bytes)
unfolding names_of
stay_goes {addresses} {carried} {lines} {counts} bytes r a b s hr real line =
    let before = names_of addresses lines bytes in
    let g : find lines (a / 128) ≡ Some (slice_index carried r) = ap (find lines) line ∙ named r s hr real in
    let p = fun_ext {f = slice_index (set addresses r a)} {g = gone_address r a before} (λ q. address_at addresses r a q (q == r) refl (omega (arith, s.held.addressed))) in
    let t = fun_ext {f = find lines} {g = gone_tag r a 0 before} (λ n. stay_tag bytes r a n (n == a / 128) refl s hr real line) in
    let c = fun_ext {f = λ v. get_or bytes v no_bytes} {g = gone_bytes a 0 b before} (λ v. stay_bytes bytes v b (find lines (a / 128)) (slice_index carried r) g) in
    (0, λ z none. absurd (cc), (λ i. names_with (p i) (t i) (c i)) ∙ gone_real r a 0 b before real)

-- A tag for a line: the one that holds it, or a free one where none does.
pub record Ready (lines : List ℕ) (line t : ℕ) : Type 0 where
  pub some : 0 < t
  pub tags : t < 128
  pub only : (u : ℕ) → u < 128 → slice_index lines u ≡ line → u ≡ t
  pub ready : slice_index lines t ≢ free → slice_index lines t ≡ line

laid_length_at : (lines : List ℕ) (t : ℕ) (b : Bool) → length (if b then set lines t free else lines) ≡ length lines
laid_length_at lines t true = length-set lines t free
laid_length_at lines t false = refl

pub laid_length : (lines counts : List ℕ) (t : ℕ) → length (laid_down lines counts t) ≡ length lines
laid_length lines counts t = laid_length_at lines t (slice_index counts t == 1)

laid_names_at : (lines : List ℕ) (t k : ℕ) (b : Bool) → t < length lines → slice_index (if b then set lines t free else lines) k ≢ free → slice_index (if b then set lines t free else lines) k ≡ slice_index lines k
laid_names_at lines t k true h named_one = let l = at lines t k free h in grind (arith, cases_eq k t)
laid_names_at lines t k false h named_one = refl

-- A tag that holds a line once a register laid down its tag held it before.
pub laid_names : (lines counts : List ℕ) (t k : ℕ) → t < length lines → slice_index (laid_down lines counts t) k ≢ free → slice_index (laid_down lines counts t) k ≡ slice_index lines k
laid_names lines counts t k h named_one = laid_names_at lines t k (slice_index counts t == 1) h named_one

laid_find_at : {addresses carried lines counts : List ℕ} (t n : ℕ) (b e : Bool) → (n == slice_index lines t) ≡ e → Holds addresses carried lines counts → t < 128 → slice_index lines t < all_lines → find (if b then set lines t free else lines) n ≡ (if e && b then None else find lines n)
laid_find_at {addresses} {carried} {lines} {counts} t n true true e h ht small =
    find_none (set lines t free) n (λ k hk hn f. let l = at lines t k free (omega (arith, h.named)) in let a = h.apart k t (omega (arith, hk, length-set lines t free, h.named)) ht in grind (arith, nat_tests, cases_eq k t))
laid_find_at {addresses} {carried} {lines} {counts} t n true false e h ht small =
    find-set lines t free n (λ hn. grind (arith, nat_tests))
laid_find_at t n false true e h ht small = refl
laid_find_at t n false false e h ht small = refl

-- The tag of each line when a register goes to another line.
move_tag : {addresses carried lines counts : List ℕ} (bytes : List (List ℕ)) (r a t n : ℕ) (b : Bool) → (n == a / 128) ≡ b → Shows addresses carried lines counts → r < 128 → is_zero r ≡ false → a < 2 ^ 32 → Ready lines (a / 128) t → find (set (laid_down lines counts (slice_index carried r)) t (a / 128)) n ≡ (if b then Some (unwrap_or (find lines n) t) else if n == slice_index addresses r / 128 && not (shared (slice_index addresses) r) then None else find lines n)
move_tag {addresses} {carried} {lines} {counts} bytes r a t n true e s hr real ha y =
    let h = s.held in
    let o = h.linked r hr (s.warm r hr real) in
    let laid = laid_down lines counts (slice_index carried r) in
    let len : length laid ≡ 128 = laid_length lines counts (slice_index carried r) ∙ h.named in
    let f : n ≡ a / 128 = grind (arith, nat_tests) in
    let here = at laid t t (a / 128) (omega (arith, y.tags)) in
    let there = find_is (set laid t (a / 128)) n t (omega arith) (omega (arith, y.tags, length-set laid t (a / 128))) (here.0 refl ∙ sym f) (λ k hk g. let l = at laid t k (a / 128) (omega (arith, y.tags)) in let m = laid_names lines counts (slice_index carried r) k (omega (arith, o.0, h.named)) in let w = y.only k (omega (arith, hk, length-set laid t (a / 128))) in grind (arith, cases_eq k t)) in
    there ∙ ap Some (sym (unwrap_is (find lines n) t t (λ v g. let i = holds_line n v h g in y.only v i.1 (i.3 ∙ f)) (λ _. refl)))
move_tag {addresses} {carried} {lines} {counts} bytes r a t n false e s hr real ha y =
    let h = s.held in
    let o = h.linked r hr (s.warm r hr real) in
    let small = s.small r in
    let laid = laid_down lines counts (slice_index carried r) in
    let len : length laid ≡ 128 = laid_length lines counts (slice_index carried r) ∙ h.named in
    let m = laid_names lines counts (slice_index carried r) t (omega (arith, o.0, h.named)) in
    let ready = y.ready in
    let first = find-set laid t (a / 128) n (λ hn. grind (arith, nat_tests)) in
    let second = laid_find_at (slice_index carried r) n (slice_index counts (slice_index carried r) == 1) (n == slice_index lines (slice_index carried r)) refl h o.0 (omega arith) in
    let lone = shared_is r s hr real in
    let alike : (slice_index counts (slice_index carried r) == 1) ≡ not (shared (slice_index addresses) r) = grind (arith, nat_tests) in
    first
    ∙ (second
    ∙ (ap (λ k. if n == k && (slice_index counts (slice_index carried r) == 1) then None else find lines n) o.1
    ∙ ap (λ z. if n == slice_index addresses r / 128 && z then None else find lines n) alike))

move_bytes : {addresses carried lines counts : List ℕ} (bytes : List (List ℕ)) (line t v : ℕ) (b : List ℕ) (e : Bool) → (slice_index lines t == line) ≡ e → Holds addresses carried lines counts → line < all_lines → Ready lines line t → length bytes ≡ 128 → get_or (if e then bytes else set bytes t b) v no_bytes ≡ (if v == t && is_none (find lines line) then b else get_or bytes v no_bytes)
move_bytes {addresses} {carried} {lines} {counts} bytes line t v b true e h small y size =
    let n = names_line line t h y.tags small (grind (arith, nat_tests)) in
    grind (arith, nat_tests)
move_bytes {addresses} {carried} {lines} {counts} bytes line t v b false e h small y size =
    let n = find_none lines line (λ k hk _ f. let w = y.only k (omega (arith, h.named)) f in grind (arith, nat_tests)) in
    let m = bytes_at bytes t v b (v == t) refl (omega (arith, y.tags)) in
    grind (arith, nat_tests)

move_unused : {addresses carried lines counts : List ℕ} (bytes : List (List ℕ)) (line t : ℕ) → Holds addresses carried lines counts → line < all_lines → Ready lines line t → find lines line ≡ None → (n : ℕ) → find lines n ≢ Some t
move_unused {addresses} {carried} {lines} {counts} bytes line t h small y none n e =
    let f = holds_line n t h e in
    let g = y.ready (omega (arith, f.2, f.3)) in
    let m = names_line line t h y.tags small g in
    cc

-- A register that goes to another line takes its tag and lays down its own.
pub move_goes : {addresses carried lines counts : List ℕ} (bytes : List (List ℕ)) (r a t : ℕ) (b : List ℕ) → Shows addresses carried lines counts → r < 128 → is_zero r ≡ false → a < 2 ^ 32 → Ready lines (a / 128) t → length bytes ≡ 128 → Goes r a b (names_of addresses lines bytes) (names_of (set addresses r a) (set (laid_down lines counts (slice_index carried r)) t (a / 128)) (filled_for (a / 128) b t lines bytes))
unfolding names_of
move_goes {addresses} {carried} {lines} {counts} bytes r a t b s hr real ha y size =
    let before = names_of addresses lines bytes in
    let after = names_of (set addresses r a) (set (laid_down lines counts (slice_index carried r)) t (a / 128)) (filled_for (a / 128) b t lines bytes) in
    let p = fun_ext {f = slice_index (set addresses r a)} {g = gone_address r a before} (λ q. address_at addresses r a q (q == r) refl (omega (arith, s.held.addressed))) in
    let q = fun_ext {f = after.tag} {g = gone_tag r a t before} (λ n. move_tag bytes r a t n (n == a / 128) refl s hr real ha y) in
    let c = fun_ext {f = after.bytes} {g = gone_bytes a t b before} (λ v. move_bytes bytes (a / 128) t v b (slice_index lines t == a / 128) refl s.held (omega arith) y size) in
    (t, λ z none. (y.some, y.tags, move_unused bytes (a / 128) t s.held (omega arith) y none), (λ i. names_with (p i) (q i) (c i)) ∙ gone_real r a t b before real)

-- A register that lays down its tag and takes one carries a tag, as all others do.
pub warm_moved : (carried laid taken : List ℕ) (r t : ℕ) → laid ≡ set carried r 0 → taken ≡ set laid r t → r < length carried → 0 < t → Warm carried → Warm taken
warm_moved carried laid taken r t el et hr pt warm =
    λ q hq real. let w = warm q hq real in let a = at carried r q 0 hr in let b = at (set carried r 0) r q t (rw length-set hr) in rw (et, el) (grind (arith, cases_eq q r))

-- Lists that are the same show the same.
pub goes_same : (r a : ℕ) (b : List ℕ) (before : Names) {a1 a2 l1 l2 : List ℕ} {s1 s2 : List (List ℕ)} → a1 ≡ a2 → l1 ≡ l2 → s1 ≡ s2 → Goes r a b before (names_of a2 l2 s2) → Goes r a b before (names_of a1 l1 s1)
goes_same r a b before e f g h =
    subst (λ (s : Names). Goes r a b before s) (λ i. names_of (sym e i) (sym f i) (sym g i)) h

pub names_same : {a1 a2 l1 l2 : List ℕ} {s1 s2 : List (List ℕ)} → a1 ≡ a2 → l1 ≡ l2 → s1 ≡ s2 → names_of a1 l1 s1 ≡ names_of a2 l2 s2
names_same e f g = λ i. names_of (e i) (f i) (g i)
