-- A register goes to an address and takes its bytes along: what the bank shows then.
use Rattle.std.proofs.Common.{◌≡◌, ℕ, ◌<◌, ◌/◌, ◌^◌, ◌==◌, true, false, Bool, if◌then◌else◌, subst, List, length, get_or, slice_index, set, unwrap_or, refl, sym, ap, ◌∙◌, arith}
use Rattle.std.proofs.Math.Path.{fun_ext}
use Rattle.std.proofs.lemmas.Bool.Decides.{nat_tests}
use Rattle.std.proofs.lemmas.List.{length-set, get_or-set_same, set-set}
use Rattle.flat.specs.Registers.{is_zero}
use Rattle.tags.specs.Invariants.{no_bytes, laid_down, filled_for}
use Rattle.tags.specs.Names.{Names, Carries, names_of, find, gone, written, tag_of}
use Rattle.tags.proofs.Showing.{Shows, tag_is}
use Rattle.tags.proofs.Moves.{Ready, gone_zero, goes_same, move_goes, stay_goes, unwritten, written_names}

-- A zero register stays, and so do its zeros.
pub carries_zero : (r a : ℕ) (s : Names) → is_zero r ≡ true → Carries r a s s
carries_zero r a s z =
    (0, λ real none. grind (arith, z, real), gone_zero r a 0 no_bytes s z ∙ unwritten r _ _ z)

kept_at : (r t : ℕ) (b : List ℕ) (s : Names) (z : Bool) → (t == tag_of s r) ≡ z → s.bytes (tag_of s r) ≡ b → s.bytes t ≡ (if z then b else s.bytes t)
kept_at r t b s true h e =
    let same : t ≡ tag_of s r = grind (arith, nat_tests, h) in
    ap s.bytes same ∙ e
kept_at r t b s false h e = refl

-- Writing the bytes that a line has changes nothing.
kept : (r : ℕ) (b : List ℕ) (s : Names) → is_zero r ≡ false → s.bytes (tag_of s r) ≡ b → s ≡ written r b s
unfolding written
kept r b s real e =
    let after : ℕ → List ℕ = λ t. if t == tag_of s r then b else s.bytes t in
    let shown = fun_ext {f = s.bytes} {g = after} (λ t. kept_at r t b s (t == tag_of s r) refl e) in
    let new : Names = record { address = s.address; tag = s.tag; bytes = after } in
    ap (λ f. let x : Names = record { address = s.address; tag = s.tag; bytes = f } in x) shown
    ∙ ap (λ z. if z then s else new) (sym real)

-- A register that goes to another place on its line has its bytes there.
pub stay_carries : {addresses carried lines counts : List ℕ} (bytes : List (List ℕ)) (r a : ℕ) → Shows addresses carried lines counts → r < 128 → is_zero r ≡ false → a / 128 ≡ slice_index addresses r / 128 → Carries r a (names_of addresses lines bytes) (names_of (set addresses r a) lines bytes)
unfolding names_of
stay_carries {addresses} {carried} {lines} {counts} bytes r a s hr real line =
    let before = names_of addresses lines bytes in
    let after = names_of (set addresses r a) lines bytes in
    let b = before.bytes (tag_of before r) in
    let g = stay_goes bytes r a no_bytes s hr real line in
    let here = get_or-set_same addresses r a 0 (omega (arith, s.held.addressed)) in
    let same : tag_of after r ≡ tag_of before r = ap (λ (n : ℕ). if is_zero r then 0 else unwrap_or (find lines n) 0) (ap (λ n. n / 128) here ∙ line) in
    (g.0, g.1, kept r b after real (ap (λ t. get_or bytes t no_bytes) same) ∙ ap (written r b) g.2)

filled_size : (bytes : List (List ℕ)) (t : ℕ) (z : Bool) → length (if z then bytes else set bytes t no_bytes) ≡ length bytes
filled_size bytes t true = refl
filled_size bytes t false = length-set bytes t no_bytes

filled_over : (bytes : List (List ℕ)) (t : ℕ) (b : List ℕ) (z : Bool) → set bytes t b ≡ set (if z then bytes else set bytes t no_bytes) t b
filled_over bytes t b true = refl
filled_over bytes t b false = sym (set-set bytes t no_bytes b)

-- The tag that a register carries once it laid down its own and took one.
pub carried_at : (carried after : List ℕ) (r t : ℕ) → after ≡ set (set carried r 0) r t → r < length carried → slice_index after r ≡ t
carried_at carried after r t e h =
    ap (λ x. slice_index x r) e ∙ get_or-set_same (set carried r 0) r t 0 (rw length-set h)

-- A register that goes to another line takes its tag, which gets the bytes of its old one, and lays down that.
pub move_carries : {addresses carried lines counts addresses' carried' lines' counts' : List ℕ} (bytes bytes' : List (List ℕ)) (r a t : ℕ) → Shows addresses carried lines counts → Shows addresses' carried' lines' counts' → r < 128 → is_zero r ≡ false → a < 2 ^ 32 → Ready lines (a / 128) t → length bytes ≡ 128 → addresses' ≡ set addresses r a → lines' ≡ set (laid_down lines counts (slice_index carried r)) t (a / 128) → slice_index carried' r ≡ t → bytes' ≡ set bytes t (get_or bytes (slice_index carried r) no_bytes) → Carries r a (names_of addresses lines bytes) (names_of addresses' lines' bytes')
unfolding names_of
move_carries {addresses} {carried} {lines} {counts} {addresses'} {carried'} {lines'} {counts'} bytes bytes' r a t s s' hr real ha y size ea el et eb =
    let before = names_of addresses lines bytes in
    let filled = filled_for (a / 128) no_bytes t lines bytes in
    let b = get_or bytes (slice_index carried r) no_bytes in
    let went = goes_same r a no_bytes before {s1 = filled} {s2 = filled} ea el refl (move_goes bytes r a t no_bytes s hr real ha y size) in
    let there = tag_is filled r s' hr ∙ et in
    let over : bytes' ≡ set filled (tag_of (names_of addresses' lines' filled) r) b = eb ∙ (filled_over bytes t b (slice_index lines t == a / 128) ∙ ap (λ k. set filled k b) (sym there)) in
    let wrote = written_names filled r b s' hr real (filled_size bytes t (slice_index lines t == a / 128) ∙ size) in (
      went.0,
      went.1,
      ap (names_of addresses' lines') over
          ∙ (wrote
          ∙ (ap (written r b) went.2
          ∙ ap (λ k. written r (get_or bytes k no_bytes) (gone r a went.0 no_bytes before)) (sym (tag_is bytes r s hr)))),
    )

-- Lists that are the same show the same.
pub carries_same : (r a : ℕ) (before : Names) {a1 a2 l1 l2 : List ℕ} {s1 s2 : List (List ℕ)} → a1 ≡ a2 → l1 ≡ l2 → s1 ≡ s2 → Carries r a before (names_of a2 l2 s2) → Carries r a before (names_of a1 l1 s1)
carries_same r a before e f g h =
    subst (λ (s : Names). Carries r a before s) (λ i. names_of (sym e i) (sym f i) (sym g i)) h
