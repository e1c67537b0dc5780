-- A data register moves.
use Rattle.std.proofs.Common.{◌≡◌, ℕ, ◌<◌, Bool, true, false, not, ◌&&◌, ◌==◌, if◌then◌else◌, refl, sym, subst, ap, ◌∙◌, arith}
use Rattle.std.proofs.Math.Path.{fun_ext}
use Rattle.std.proofs.lemmas.Bool.{cond-true, cond-false, true≢false}
use Rattle.std.proofs.lemmas.Bool.Decides.{nat_tests}
use Rattle.store.specs.Meaning.{Meaning}
use Rattle.flat.specs.Data.{Data, addresses, line, leaves, left, move_to, placed}
use Rattle.flat.specs.Registers.{at, is_zero, line_of, named, shared}
use Rattle.flat.specs.declared.registers.DataRegister.{DataRegister}
use Rattle.flat.proofs.Coherence.{Coherent, Goes, Keeps, leaving}
use Rattle.flat.proofs.Leaving.{Left, leaves_line}
use Rattle.flat.proofs.Naming.{departs, new_named, others_named, own_named, own_left, all_named}
use Rattle.flat.proofs.Writing.{stays}

-- A line that is named before and after is not left.
stayed : (n : ℕ) (d after : Data) → (named (addresses d) n ≡ true → named (addresses after) n ≡ true) → leaving n d after ≡ false
stayed n d after h = by_name (named (addresses d) n) refl
  where
    by_name : (b : Bool) → named (addresses d) n ≡ b → (b && not (named (addresses after) n)) ≡ false
    by_name true e = ap not (h e)
    by_name false e = refl

-- Where the addresses stay, no line is left.
nothing_left : (n : ℕ) (d after : Data) → addresses after ≡ addresses d → leaving n d after ≡ false
nothing_left n d after e = stayed n d after (λ h. ap (λ (a : ℕ → ℕ). named a n) e ∙ h)

pub keeps_goes : (d after : Data) → Keeps d after → Goes d after
keeps_goes d after k = record {
  coherent = k.coherent;
  sends = record {
    size = ap (λ m. m.size) k.backing;
    canwrite = ap (λ m. m.canwrite) k.backing;
    beside = ap (λ m. m.kept) k.backing;
    others = λ n h e. ap (λ m. m.line n) k.backing;
    sent = λ n h e. absurd (true≢false (sym e ∙ nothing_left n d after k.addresses));
    held = λ n h e. absurd (true≢false (sym e ∙ nothing_left n d after k.addresses));
  };
}

-- Register r, no zero register, is given an address and a type, in data with the same registers.
module _ (r : ℕ) (to : DataRegister) (d : Data) (small : r < 128) (real : is_zero r ≡ false) where
  placed_at : (x : Data) → x.registers ≡ d.registers → (q : ℕ) → addresses (placed r to x) q ≡ at (addresses d) r to.address q
  placed_at x e q = by_place (q == r) refl
    where
      by_place : (b : Bool) → (q == r) ≡ b → (if b then to else x.registers q).address ≡ (if b then to.address else (d.registers q).address)
      by_place true h = refl
      by_place false h = ap (λ (f : ℕ → DataRegister). (f q).address) e

  same_names : (x : Data) → x.registers ≡ d.registers → addresses (placed r to x) ≡ at (addresses d) r to.address
  same_names x e = fun_ext (placed_at x e)

  name_after : (x : Data) → x.registers ≡ d.registers → (n : ℕ) → named (addresses (placed r to x)) n ≡ named (at (addresses d) r to.address) n
  name_after x e n = ap (λ (a : ℕ → ℕ). named a n) (same_names x e)

  placed_coherent : (x : Data) → Coherent x → Coherent (placed r to x)
  placed_coherent x c = record { untouched = c.untouched; touched = c.touched; within = c.within }

  -- It stays on its line, or others stay there.
  placed_stays : departs (addresses d) r to.address ≡ false → Coherent d → Goes d (placed r to d)
  placed_stays v c = record {
    coherent = placed_coherent d c;
    sends = record {
      size = refl;
      canwrite = refl;
      beside = refl;
      others = λ n h e. refl;
      held = λ n h e. refl;
      sent = λ n h e. absurd (true≢false (sym e ∙ stayed n d (placed r to d) (λ g. name_after d refl n ∙ all_named (addresses d) r to.address real small n v g)));
    };
  }

  -- It is its line's last and goes to another.
  module _ (v : departs (addresses d) r to.address ≡ true) (x : Data) (l : Left (line d r) d x) where
    own_leaves : leaving (line d r) d (placed r to x) ≡ true
    own_leaves =
        ap (λ (b : Bool). b && not (named (addresses (placed r to x)) (line d r))) (own_named (addresses d) r to.address real small)
        ∙ ap not (name_after x l.registers (line d r) ∙ own_left (addresses d) r to.address real small v)

    other : (n : ℕ) (b : Bool) → (line d r == n) ≡ b → leaving n d (placed r to x) ≡ false → b ≡ false
    other n false e h = refl
    other n true e h =
        let same : line d r ≡ n = grind (arith, nat_tests, e) in
        sym own_leaves ∙ ap (λ k. leaving k d (placed r to x)) same ∙ h

    own : (n : ℕ) (b : Bool) → (line d r == n) ≡ b → leaving n d (placed r to x) ≡ true → line d r ≡ n
    own n true e h = grind (arith, nat_tests, e)
    own n false e h =
        absurd (true≢false (sym h ∙ stayed n d (placed r to x) (λ g. name_after x l.registers n ∙ others_named (addresses d) r to.address real small n e g)))

    placed_leaves : Goes d (placed r to x)
    placed_leaves = record {
      coherent = placed_coherent x l.coherent;
      sends = record {
        size = l.size;
        canwrite = l.canwrite;
        beside = l.beside;
        held = λ n h e. l.memory n;
        others = λ n h e. l.others n (other n (line d r == n) refl e);
        sent = λ n h e. let same = own n (line d r == n) refl e in subst (λ (k : ℕ). k < d.backing.size → x.backing.line k ≡ d.memory k) same l.own h;
      };
    }

  is_leaving : leaves r to.address d ≡ departs (addresses d) r to.address
  is_leaving = ap (λ z. not z && not (line_of (addresses d r) == line_of to.address) && not (shared (addresses d) r)) real

  abbrev gone : Bool → Data
  gone v = placed r to (if v then left (line d r) d else d)

  real_goes : Coherent d → (v : Bool) → leaves r to.address d ≡ v → Goes d (gone v)
  real_goes c true h = placed_leaves (sym is_leaving ∙ h) (left (line d r) d) (leaves_line (line d r) d c)
  real_goes c false h = placed_stays (sym is_leaving ∙ h) c

pub move_goes : (r : ℕ) (to : DataRegister) (d : Data) → r < 128 → Coherent d → Goes d (move_to r to d)
unfolding move_to
move_goes r to d small c = by_zero (is_zero r) refl
  where
    by_zero : (z : Bool) → is_zero r ≡ z → Goes d (move_to r to d)
    by_zero true h = subst (λ (x : Data). Goes d x) (sym (cond-true _ _ _ h)) (keeps_goes d d (stays d c))
    by_zero false h = subst (λ (x : Data). Goes d x) (sym (cond-false _ _ _ h)) (real_goes r to d small h c (leaves r to.address d) refl)

-- A register that moves names the line that it goes to.
pub arrives : (r : ℕ) (to : DataRegister) (d : Data) → r < 128 → is_zero r ≡ false → Coherent d → named (addresses (move_to r to d)) (line_of to.address) ≡ true
unfolding move_to
arrives r to d small real c =
    ap (λ (x : Data). named (addresses x) (line_of to.address)) (cond-false _ _ _ real)
    ∙ (name_after r to d small real (if leaves r to.address d then left (line d r) d else d) (registers (leaves r to.address d)) (line_of to.address)
    ∙ new_named (addresses d) r to.address real small)
  where
    registers : (v : Bool) → (if v then left (line d r) d else d).registers ≡ d.registers
    registers true = (leaves_line (line d r) d c).registers
    registers false = refl

-- So that line is not left.
pub not_there : (n : ℕ) (r : ℕ) (to : DataRegister) (d x : Data) → r < 128 → is_zero r ≡ false → Coherent d → leaving n x (move_to r to d) ≡ true → (n == line_of to.address) ≡ false
not_there n r to d x small real c h = by_place (n == line_of to.address) refl
  where
    by_place : (b : Bool) → (n == line_of to.address) ≡ b → b ≡ false
    by_place false e = refl
    by_place true e =
        let same : n ≡ line_of to.address = grind (arith, nat_tests, e) in
        let there : named (addresses (move_to r to d)) n ≡ true = ap (λ k. named (addresses (move_to r to d)) k) same ∙ arrives r to d small real c in
        absurd (true≢false (sym h ∙ stayed n x (move_to r to d) (λ g. there)))

-- A move_to of what keeps addresses and backing copy, and memory too where a line is left.
pub then_goes : (d x after : Data) → Keeps d x → ((n : ℕ) → leaving n d after ≡ true → x.memory n ≡ d.memory n) → Goes x after → Goes d after
then_goes d x after k same g = record {
  coherent = g.coherent;
  sends = record {
    size = g.sends.size ∙ ap (λ m. m.size) k.backing;
    canwrite = g.sends.canwrite ∙ ap (λ m. m.canwrite) k.backing;
    beside = g.sends.beside ∙ ap (λ m. m.kept) k.backing;
    others = λ n h e. g.sends.others n (within n h) (gone n e) ∙ ap (λ m. m.line n) k.backing;
    sent = λ n h e. g.sends.sent n (within n h) (gone n e) ∙ same n e;
    held = λ n h e. g.sends.held n (within n h) (gone n e) ∙ same n e;
  };
}
  where
    within : (n : ℕ) → n < d.backing.size → n < x.backing.size
    within n h = subst (λ (m : Meaning). n < m.size) (sym k.backing) h

    gone : {b : Bool} (n : ℕ) → leaving n d after ≡ b → leaving n x after ≡ b
    gone n e = ap (λ (a : ℕ → ℕ). named a n && not (named (addresses after) n)) k.addresses ∙ e
