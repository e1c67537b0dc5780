-- A bank at its start.
use Rattle.std.proofs.Common.{◌≡◌, ◌≢◌, ℕ, ◌*◌, ◌<◌, ◌^◌, ◌==◌, true, false, Bool, nat_lt, if◌then◌else◌, cond, List, length, get_or, slice_index, set, Some, None, refl, ap, ◌∙◌, arith}
use Rattle.std.proofs.Math.Path.{fun_ext}
use Rattle.std.proofs.lemmas.Bool.{cases_eq}
use Rattle.std.proofs.lemmas.Bool.Decides.{nat_tests}
use Rattle.std.proofs.lemmas.List.{length-set, get_or_past, get_or-set_same, get_or-set_other}
use Rattle.flat.specs.Registers.{is_zero}
use Rattle.tags.proofs.Copies.{whole-set}
use Rattle.tags.specs.Invariants.{Whole, Warm, all, free, unnamed, no_bytes, carriers}
use Rattle.tags.specs.Names.{names_of, find, started}
use Rattle.tags.proofs.All.{length-all, get_or-all, carriers-all}
use Rattle.tags.proofs.Counts.{carriers-set}
use Rattle.tags.proofs.Finds.{find_is, find_none}
use Rattle.tags.proofs.Holding.{Holds}
use Rattle.tags.proofs.Steps.{at}

abbrev pub first_carried : List ℕ
first_carried = set (set (all 1) 0 0) 64 0

abbrev pub first_lines : List ℕ
first_lines = set (set (all free) 0 unnamed) 1 0

abbrev pub first_counts : List ℕ
first_counts = set (all 0) 1 126

carried_at : (k : ℕ) → k < 128 → (is_zero k ≡ true → slice_index first_carried k ≡ 0) × (is_zero k ≡ false → slice_index first_carried k ≡ 1)
carried_at k h =
    let l = length-all {X = ℕ} 1 in
    let m = length-set {A = ℕ} (all 1) 0 0 in
    let a = at (all 1) 0 k 0 (omega arith) in
    let b = at (set (all 1) 0 0) 64 k 0 (omega arith) in
    let c = get_or-all {X = ℕ} k 1 0 h in
    (λ z. grind (arith, nat_tests, cases_eq k 0, cases_eq k 64), λ z. grind (arith, nat_tests, cases_eq k 0, cases_eq k 64))

lines_at : (k : ℕ) → k < 128 → (k ≡ 0 → slice_index first_lines k ≡ unnamed) × (k ≡ 1 → slice_index first_lines k ≡ 0) × (1 < k → slice_index first_lines k ≡ free)
lines_at k h =
    let l = length-all {X = ℕ} free in
    let m = length-set {A = ℕ} (all free) 0 unnamed in
    let a = at (all free) 0 k unnamed (omega arith) in
    let b = at (set (all free) 0 unnamed) 1 k 0 (omega arith) in
    let c = get_or-all {X = ℕ} k free 0 h in
    (λ z. grind (arith, cases_eq k 0, cases_eq k 1), λ z. grind (arith, cases_eq k 0, cases_eq k 1), λ z. grind (arith, cases_eq k 0, cases_eq k 1))

counts_at : (k : ℕ) → k < 128 → (k ≡ 1 → slice_index first_counts k ≡ 126) × (k ≢ 1 → slice_index first_counts k ≡ 0)
counts_at k h =
    let l = length-all {X = ℕ} 0 in
    let a = at (all 0) 1 k 126 (omega arith) in
    let c = get_or-all {X = ℕ} k 0 0 h in
    (λ z. grind arith, λ z. grind arith)

carriers_at : (t : ℕ) → 0 < t → carriers first_carried t ≡ 126 * cond (1 == t) 1 0
carriers_at t h =
    let l = length-all {X = ℕ} 1 in
    let m = length-set {A = ℕ} (all 1) 0 0 in
    let a = carriers-set (all 1) 0 0 t (omega arith) in
    let b = carriers-set (set (all 1) 0 0) 64 0 t (omega arith) in
    let c = get_or-all {X = ℕ} 0 1 0 (omega arith) in
    let d = get_or-all {X = ℕ} 64 1 0 (omega arith) in
    let e : slice_index (set (all 1) 0 0) 64 ≡ slice_index (all 1) 64 = get_or-set_other (all 1) 0 64 0 0 (omega arith) in
    let f = carriers-all 1 t in
    grind (arith, nat_tests)

pub start_holds : Holds (all 0) first_carried first_lines first_counts
start_holds =
    let a = λ (r : ℕ). get_or-all {X = ℕ} r 0 0 in
    record {
      no_tag = (a 0 (omega arith), a 64 (omega arith), (carried_at 0 (omega arith)).0 refl, (carried_at 64 (omega arith)).0 refl);
      nameless = (lines_at 0 (omega arith)).0 refl;
      uncounted = (counts_at 0 (omega arith)).1 (omega arith);
      linked = λ r hr tagged. let c = carried_at r hr in let z = a r hr in let l = (lines_at 1 (omega arith)).1 refl in grind (arith, nat_tests);
      counted = λ t pt ht. let c = counts_at t ht in let d = carriers_at t pt in grind (arith, nat_tests, cases_eq t 1);
      free = λ t pt ht none. let c = counts_at t ht in let l = lines_at t ht in grind (arith, cases_eq t 1);
      apart = λ t u ht hu some same. let l = lines_at t ht in let m = lines_at u hu in grind (arith, cases_eq t 0, cases_eq t 1, cases_eq u 0, cases_eq u 1);
      addressed = length-all {X = ℕ} 0;
      registers = length-set {A = ℕ} (set (all 1) 0 0) 64 0 ∙ (length-set {A = ℕ} (all 1) 0 0 ∙ length-all {X = ℕ} 1);
      named = length-set {A = ℕ} (set (all free) 0 unnamed) 1 0 ∙ (length-set {A = ℕ} (all free) 0 unnamed ∙ length-all {X = ℕ} free);
      tags = length-set {A = ℕ} (all 0) 1 126 ∙ length-all {X = ℕ} 0;
    }

pub start_warm : Warm first_carried
start_warm = λ r hr real. let c = carried_at r hr in grind arith

start_address_at : (r : ℕ) (b : Bool) → nat_lt r 128 ≡ b → slice_index (all 0) r ≡ 0
start_address_at r true e = get_or-all {X = ℕ} r 0 0 (grind (arith, nat_tests))
start_address_at r false e =
    get_or_past {X = ℕ} (all 0) r 0 (let l = length-all {X = ℕ} 0 in grind (arith, nat_tests))

start_address : (r : ℕ) → slice_index (all 0) r ≡ 0
start_address r = start_address_at r (nat_lt r 128) refl

pub start_small : (r : ℕ) → slice_index (all 0) r < 2 ^ 32
start_small r = omega (arith, start_address r)

first_named : length first_lines ≡ 128
first_named =
    length-set {A = ℕ} (set (all free) 0 unnamed) 1 0 ∙ (length-set {A = ℕ} (all free) 0 unnamed ∙ length-all {X = ℕ} free)

start_line : (n : ℕ) (b : Bool) → (n == 0) ≡ b → find first_lines n ≡ (if b then Some 1 else None)
start_line n true e =
    let l = (lines_at 1 (omega arith)).1 refl in
    find_is first_lines n 1 (grind (arith, nat_tests)) (omega (arith, first_named)) (grind (arith, nat_tests)) (λ k hk f. let m = lines_at k (omega (arith, first_named)) in grind (arith, nat_tests, cases_eq k 0, cases_eq k 1))
start_line n false e =
    find_none first_lines n (λ k hk small f. let m = lines_at k (omega (arith, first_named)) in grind (arith, nat_tests, cases_eq k 0, cases_eq k 1))

zeros_at : (t : ℕ) (s : Bool) → nat_lt t 128 ≡ s → get_or (all no_bytes) t no_bytes ≡ no_bytes
zeros_at t true e = get_or-all {X = List ℕ} t no_bytes no_bytes (grind (arith, nat_tests))
zeros_at t false e =
    get_or_past {X = List ℕ} (all no_bytes) t no_bytes (let l = length-all {X = List ℕ} no_bytes in grind (arith, nat_tests))

start_bytes : (b : List ℕ) (t : ℕ) (s : Bool) → (t == 1) ≡ s → get_or (set (all no_bytes) 1 b) t no_bytes ≡ (if s then b else no_bytes)
start_bytes b t true e =
    let f : t ≡ 1 = grind (arith, nat_tests) in
    ap (λ k. get_or (set (all no_bytes) 1 b) k no_bytes) f
    ∙ get_or-set_same (all no_bytes) 1 b no_bytes (let l = length-all {X = List ℕ} no_bytes in omega arith)
start_bytes b t false e =
    get_or-set_other (all no_bytes) 1 t b no_bytes (grind (arith, nat_tests)) ∙ zeros_at t (nat_lt t 128) refl

pub start_names : (b : List ℕ) → names_of (all 0) first_lines (set (all no_bytes) 1 b) ≡ started b
unfolding names_of started
start_names b =
    λ i. record {
      address = fun_ext {f = slice_index (all 0)} {g = λ _. 0} start_address i;
      tag = fun_ext {f = find first_lines} {g = λ n. if n == 0 then Some 1 else None} (λ n. start_line n (n == 0) refl) i;
      bytes = fun_ext {f = λ t. get_or (set (all no_bytes) 1 b) t no_bytes} {g = λ t. if t == 1 then b else no_bytes} (λ t. start_bytes b t (t == 1) refl) i;
    }

start_whole : (b : List ℕ) → length b ≡ 128 → Whole (set (all no_bytes) 1 b)
start_whole b h =
    whole-set (all no_bytes) 1 b (omega arith) h (length-all {X = List ℕ} no_bytes, λ t ht. ap length (zeros_at t (nat_lt t 128) refl) ∙ length-all {X = ℕ} 0)

-- The same of lists that were filled.
pub held_start : {a c l n : List ℕ} → a ≡ all 0 → c ≡ all 1 → l ≡ all free → n ≡ all 0 → Holds a (set (set c 0 0) 64 0) (set (set l 0 unnamed) 1 0) (set n 1 126)
held_start ea ec el en = rw (ea, ec, el, en) start_holds

pub warm_start : {c : List ℕ} → c ≡ all 1 → Warm (set (set c 0 0) 64 0)
warm_start ec = rw ec start_warm

pub small_start : {a : List ℕ} → a ≡ all 0 → (r : ℕ) → slice_index a r < 2 ^ 32
small_start ea = rw ea start_small

pub whole_start : {s : List (List ℕ)} (b : List ℕ) → s ≡ all no_bytes → length b ≡ 128 → Whole (set s 1 b)
whole_start b es h = rw es (start_whole b h)

pub zeros_start : {s : List (List ℕ)} (b : List ℕ) → s ≡ all no_bytes → get_or (set s 1 b) 0 no_bytes ≡ no_bytes
zeros_start b es = rw es (start_bytes b 0 false refl)

pub names_start : {a l : List ℕ} {s : List (List ℕ)} (b : List ℕ) → a ≡ all 0 → l ≡ all free → s ≡ all no_bytes → names_of a (set (set l 0 unnamed) 1 0) (set s 1 b) ≡ started b
names_start b ea el es = rw (ea, el, es) (start_names b)
