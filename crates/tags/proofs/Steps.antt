-- A register lays down its tag, and a register without a tag takes one.
use Rattle.std.proofs.Common.{◌≡◌, ◌≢◌, ℕ, ◌+◌, ◌-◌, ◌<◌, ◌/◌, ◌^◌, false, List, length, slice_index, set, sym, ap, ◌∙◌, arith}
use Rattle.std.proofs.lemmas.Bool.{cases_eq}
use Rattle.std.proofs.lemmas.Bool.Decides.{nat_tests}
use Rattle.std.proofs.lemmas.List.{length-set, get_or-set_same, get_or-set_other}
use Rattle.flat.specs.Registers.{is_zero}
use Rattle.tags.specs.Invariants.{free, carriers}
use Rattle.tags.proofs.Counts.{carriers-set, carried_counts, alone, too_many}
use Rattle.tags.proofs.Holding.{Holds}

-- What stands at a place after a write.
pub at : (xs : List ℕ) (i k y : ℕ) → i < length xs → (k ≡ i → slice_index (set xs i y) k ≡ y) × (k ≢ i → slice_index (set xs i y) k ≡ slice_index xs k)
at xs i k y h =
    (λ e. ap (λ m. slice_index (set xs i y) m) e ∙ get_or-set_same xs i y 0 h, λ e. get_or-set_other xs i k y 0 e)

counts_less : (carried counts : List ℕ) (r t u : ℕ) → r < length carried → t < length counts → 0 < t → 0 < u → slice_index carried r ≡ t → slice_index counts t ≡ carriers carried t → slice_index counts u ≡ carriers carried u → slice_index (set counts t (slice_index counts t - 1)) u ≡ carriers (set carried r 0) u
counts_less carried counts r t u hr ht pt pu e et eu =
    grind (arith, nat_tests, carriers-set carried r 0 u hr, at counts t u (slice_index counts t - 1) ht, cases_eq u t)

-- A register lays down a tag that others carry too.
pub laid_kept : {addresses carried lines counts : List ℕ} (r t : ℕ) → Holds addresses carried lines counts → r < 128 → is_zero r ≡ false → 0 < t → slice_index carried r ≡ t → t < 128 → slice_index counts t ≢ 1 → Holds addresses (set carried r 0) lines (set counts t (slice_index counts t - 1))
laid_kept {addresses} {carried} {lines} {counts} r t h hr real pt e ht more =
    let c0 = at carried r 0 0 (omega (arith, h.registers)) in
    let c64 = at carried r 64 0 (omega (arith, h.registers)) in
    let some = carried_counts carried r t (omega (arith, h.registers)) e in
    record {
      no_tag = (h.no_tag.0, h.no_tag.1, grind (arith, nat_tests, h.no_tag), grind (arith, nat_tests, h.no_tag));
      nameless = h.nameless;
      uncounted = let k = at counts t 0 (slice_index counts t - 1) (omega (arith, h.tags)) in grind (arith, h.uncounted);
      linked = λ q hq tagged. let k = at carried r q 0 (omega (arith, h.registers)) in let l = h.linked q hq in grind (arith, cases_eq q r);
      counted = λ u pu hu. counts_less carried counts r t u (omega (arith, h.registers)) (omega (arith, h.tags)) pt pu e (h.counted t pt ht) (h.counted u pu hu);
      free = λ u pu hu none. let k = at counts t u (slice_index counts t - 1) (omega (arith, h.tags)) in let f = h.free u pu hu in grind (arith, h.counted t pt ht, cases_eq u t);
      apart = h.apart;
      addressed = h.addressed;
      registers = length-set carried r 0 ∙ h.registers;
      named = h.named;
      tags = length-set counts t _ ∙ h.tags;
    }

-- The last carrier of a tag lays it down, and it is free.
pub laid_free : {addresses carried lines counts : List ℕ} (r t : ℕ) → Holds addresses carried lines counts → r < 128 → is_zero r ≡ false → 0 < t → slice_index carried r ≡ t → t < 128 → slice_index counts t ≡ 1 → Holds addresses (set carried r 0) (set lines t free) (set counts t (slice_index counts t - 1))
laid_free {addresses} {carried} {lines} {counts} r t h hr real pt e ht last =
    let c0 = at carried r 0 0 (omega (arith, h.registers)) in
    let c64 = at carried r 64 0 (omega (arith, h.registers)) in
    let l = λ (u : ℕ). at lines t u free (omega (arith, h.named)) in
    let others = λ (q : ℕ). alone carried r t q (omega (arith, h.registers)) e (sym (h.counted t pt ht) ∙ last) in
    record {
      no_tag = (h.no_tag.0, h.no_tag.1, grind (arith, nat_tests, h.no_tag), grind (arith, nat_tests, h.no_tag));
      nameless = grind (arith, l 0, h.nameless);
      uncounted = let k = at counts t 0 (slice_index counts t - 1) (omega (arith, h.tags)) in grind (arith, h.uncounted);
      linked = λ q hq tagged. let k = at carried r q 0 (omega (arith, h.registers)) in let o = others q (omega (arith, h.registers)) in let n = h.linked q hq in grind (arith, cases_eq q r, l (slice_index carried q));
      counted = λ u pu hu. counts_less carried counts r t u (omega (arith, h.registers)) (omega (arith, h.tags)) pt pu e (h.counted t pt ht) (h.counted u pu hu);
      free = λ u pu hu none. let k = at counts t u (slice_index counts t - 1) (omega (arith, h.tags)) in let f = h.free u pu hu in grind (arith, cases_eq u t, l u);
      apart = λ u w hu hw names same. grind (arith, cases_eq u t, cases_eq w t, l u, l w, h.apart u w hu hw);
      addressed = h.addressed;
      registers = length-set carried r 0 ∙ h.registers;
      named = length-set lines t free ∙ h.named;
      tags = length-set counts t _ ∙ h.tags;
    }

counts_more : (carried counts : List ℕ) (r t u : ℕ) → r < length carried → t < length counts → 0 < t → 0 < u → slice_index carried r ≡ 0 → slice_index counts t ≡ carriers carried t → slice_index counts u ≡ carriers carried u → slice_index (set counts t (slice_index counts t + 1)) u ≡ carriers (set carried r t) u
counts_more carried counts r t u hr ht pt pu e et eu =
    grind (arith, nat_tests, carriers-set carried r t u hr, at counts t u (slice_index counts t + 1) ht, cases_eq u t)

-- A register without a tag goes to an address and takes the tag of its line: the one that holds it, or a free one where none does.
pub taken : {addresses carried lines counts : List ℕ} (r t a : ℕ) → Holds addresses carried lines counts → r < 128 → is_zero r ≡ false → 0 < t → slice_index carried r ≡ 0 → t < 128 → a < 2 ^ 32 → ((q : ℕ) → slice_index addresses q < 2 ^ 32) → ((u : ℕ) → u < 128 → slice_index lines u ≡ a / 128 → u ≡ t) → (slice_index lines t ≢ free → slice_index lines t ≡ a / 128) → Holds (set addresses r a) (set carried r t) (set lines t (a / 128)) (set counts t (slice_index counts t + 1))
taken {addresses} {carried} {lines} {counts} r t a h hr real pt e ht ha small only ready =
    let c = λ (q : ℕ). at carried r q t (omega (arith, h.registers)) in
    let d = λ (q : ℕ). at addresses r q a (omega (arith, h.addressed)) in
    let l = λ (u : ℕ). at lines t u (a / 128) (omega (arith, h.named)) in
    record {
      no_tag = (grind (arith, nat_tests, h.no_tag, d 0), grind (arith, nat_tests, h.no_tag, d 64), grind (arith, nat_tests, h.no_tag, c 0), grind (arith, nat_tests, h.no_tag, c 64));
      nameless = grind (arith, l 0, h.nameless);
      uncounted = let k = at counts t 0 (slice_index counts t + 1) (omega (arith, h.tags)) in grind (arith, h.uncounted);
      linked = λ q hq tagged. let n = h.linked q hq in let s = small q in grind (arith, cases_eq q r, c q, d q, cases_eq (slice_index carried q) t, l (slice_index carried q), l t);
      counted = λ u pu hu. counts_more carried counts r t u (omega (arith, h.registers)) (omega (arith, h.tags)) pt pu e (h.counted t pt ht) (h.counted u pu hu);
      free = λ u pu hu none. let k = at counts t u (slice_index counts t + 1) (omega (arith, h.tags)) in let f = h.free u pu hu in grind (arith, cases_eq u t, l u);
      apart = λ u w hu hw names same. grind (arith, cases_eq u t, cases_eq w t, l u, l w, h.apart u w hu hw, only u hu, only w hw);
      addressed = length-set addresses r a ∙ h.addressed;
      registers = length-set carried r t ∙ h.registers;
      named = length-set lines t _ ∙ h.named;
      tags = length-set counts t _ ∙ h.tags;
    }

-- Some tag is free: two registers carry none, and there is one tag less than there are registers.
pub some_free : {addresses carried lines counts : List ℕ} → Holds addresses carried lines counts → ((k : ℕ) → k < 128 → slice_index lines k ≢ free) → ⊥
some_free {addresses} {carried} {lines} {counts} h none =
    too_many carried 0 64 127 (omega (arith, h.registers)) (omega (arith, h.registers)) (omega arith) h.no_tag.2 h.no_tag.3 (omega (arith, h.registers)) (λ t pt ht. let n = none t (omega arith) in let f = h.free t pt (omega arith) in let e = h.counted t pt (omega arith) in grind arith)

-- An address of 32 bits among addresses of 32 bits.
pub small-set : (addresses : List ℕ) (r a : ℕ) → r < length addresses → a < 2 ^ 32 → ((q : ℕ) → slice_index addresses q < 2 ^ 32) → (q : ℕ) → slice_index (set addresses r a) q < 2 ^ 32
small-set addresses r a hr ha s q = let d = at addresses r q a hr in let e = s q in grind (arith, cases_eq q r)

stayed_at : (addresses : List ℕ) (r q a : ℕ) → r < length addresses → a / 128 ≡ slice_index addresses r / 128 → slice_index addresses q / 128 ≡ slice_index (set addresses r a) q / 128
stayed_at addresses r q a hr e = let d = at addresses r q a hr in grind (arith, cases_eq q r)

-- A register goes to another address on its line.
pub stayed : {addresses carried lines counts : List ℕ} (r a : ℕ) → Holds addresses carried lines counts → r < 128 → is_zero r ≡ false → a / 128 ≡ slice_index addresses r / 128 → Holds (set addresses r a) carried lines counts
stayed {addresses} {carried} {lines} {counts} r a h hr real e =
    let d = λ (q : ℕ). at addresses r q a (omega (arith, h.addressed)) in
    record {
      no_tag = (grind (arith, nat_tests, h.no_tag, d 0), grind (arith, nat_tests, h.no_tag, d 64), h.no_tag.2, h.no_tag.3);
      nameless = h.nameless;
      uncounted = h.uncounted;
      linked = λ q hq tagged. let n = h.linked q hq tagged in let m = d q in (n.0, n.1 ∙ stayed_at addresses r q a (omega (arith, h.addressed)) e);
      counted = h.counted;
      free = h.free;
      apart = h.apart;
      addressed = length-set addresses r a ∙ h.addressed;
      registers = h.registers;
      named = h.named;
      tags = h.tags;
    }
