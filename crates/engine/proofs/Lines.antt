-- Instruction registers that take lines, as the code does it.
use Rattle.std.proofs.Common.{◌≡◌, ℕ, zero, suc, ◌+◌, ◌*◌, ◌%◌, ◌^◌, ℤ, pos, ◌+ℤ◌, ◌*ℤ◌, refl, sym, ap, ap₂, ◌∙◌, arith}
use Rattle.std.proofs.Math.Nat.{add-mod-mod, mod-add-mod}
use Rattle.std.proofs.Math.Path.{fun_ext}
use Rattle.std.proofs.lemmas.Int.{to_z-of_z}
use Rattle.line.specs.Reductions.{over}
use Rattle.word.specs.declared.operations.Operation.TheVariants.{Fetch, Hand}
use Rattle.scalar.specs.Casts.{residue}
use Rattle.scalar.proofs.Casts.{mod_fewer}
use Rattle.scalar.proofs.Residues.{residue-pos, residue-add}
use Rattle.flat.specs.Instructions.{take}
use Rattle.flat.specs.Bus.{followed_by, quiet}
use Rattle.flat.specs.Machine.{Machine, take_bus, take_line, ipc, wrapped}
use Rattle.flat.specs.Operands.{reg, fetch_target, next_address, word_place}
use Rattle.flat.specs.Operations.{bus_of, carried_out, data_after, instructions_after, control_after, fetched as flat_fetched, fetched_bus as flat_fetched_bus, moved_on, next_bus}
use Rattle.flat.specs.Raising.{moves_on, is_taken}
use Rattle.flat.specs.Registers.{of_mode}
use Rattle.flat.specs.declared.bus.Bus.{Bus}
use Rattle.flat.specs.declared.control.Control.{Control}
use Rattle.flat.specs.declared.control.Mode.TheVariants.{User}
use Rattle.store.specs.Meaning.{Meaning}
use Rattle.file.specs.Machine.{stands}
use Rattle.file.specs.declared.machine.Machine.{Machine as FileMachine}
use Rattle.engine.specs.Fetching.{fetched, fetched_bus, in_row, in_row_bus}

-- hand, once ipc has moved on
pub handed_on : (b w r p : ℕ) (m n : Machine) → n ≡ take_line (ipc m) (next_address m) m → r ≡ of_mode User 63 → p ≡ word_place m b w → take_line r p n ≡ carried_out (Hand b w) m
unfolding carried_out data_after instructions_after control_after moved_on moves_on is_taken
handed_on b w r p m n e f g = ap (take_line r p) e ∙ ap₂ (λ x y. take_line x y (take_line (ipc m) (next_address m) m)) f g

-- a taken jump
pub jumped : (b w r p : ℕ) (f : FileMachine) (m : Meaning) (next : Machine) → r ≡ of_mode f.control.mode 63 → p ≡ word_place (stands f m) b w → next ≡ take_line r p (stands f m) → next ≡ take_line (ipc (stands f m)) (word_place (stands f m) b w) (stands f m)
unfolding stands
jumped b w r p f m next e g h = h ∙ ap₂ (λ x y. take_line x y (stands f m)) e g

pub handed_on_bus : (b w r p : ℕ) (m n : Machine) (next : Bus) → n ≡ take_line (ipc m) (next_address m) m → next ≡ next_bus m → r ≡ of_mode User 63 → p ≡ word_place m b w → followed_by next (take_bus r p n) ≡ bus_of (Hand b w) m
unfolding bus_of moved_on moves_on is_taken
handed_on_bus b w r p m n next e h f g =
    ap₂ (λ x y. followed_by x (take_bus r p y)) h e ∙ ap₂ (λ x y. followed_by (next_bus m) (take_bus x y (take_line (ipc m) (next_address m) m))) f g

pub ruleset hands_on = (handed_on, handed_on_bus)

pub jumped_bus : (b w r p : ℕ) (f : FileMachine) (m : Meaning) (bus : Bus) → r ≡ of_mode f.control.mode 63 → p ≡ word_place (stands f m) b w → bus ≡ take_bus r p (stands f m) → bus ≡ take_bus (ipc (stands f m)) (word_place (stands f m) b w) (stands f m)
unfolding stands
jumped_bus b w r p f m bus e g h = h ∙ ap₂ (λ x y. take_bus x y (stands f m)) e g

pub ruleset jumps = (jumped, jumped_bus)

-- one register, whose field is a number of 8 bits
pub row_place : (a s k l r : ℕ) (f : FileMachine) (m : Meaning) (next : Machine) → l ≡ k → r ≡ of_mode f.control.mode ((a + k) % 256 % 64) → next ≡ take_line r (wrapped (s + 128 * l)) (stands f m) → next ≡ in_row a s k (stands f m)
unfolding in_row stands
row_place a s k l r f m next e g h =
    let field : of_mode f.control.mode ((a + k) % 256 % 64) ≡ of_mode f.control.mode ((a + k) % 64) = ap (of_mode f.control.mode) (mod_fewer (a + k) 6 8 (omega arith)) in
    h ∙ ap₂ (λ x y. take_line x (wrapped (s + 128 * y)) (stands f m)) (g ∙ field) e

pub row_bus : (a s k l r : ℕ) (f : FileMachine) (m : Meaning) (bus : Bus) → l ≡ k → r ≡ of_mode f.control.mode ((a + k) % 256 % 64) → bus ≡ take_bus r (wrapped (s + 128 * l)) (stands f m) → bus ≡ in_row_bus a s k (stands f m)
unfolding in_row_bus stands
row_bus a s k l r f m bus e g h =
    let field : of_mode f.control.mode ((a + k) % 256 % 64) ≡ of_mode f.control.mode ((a + k) % 64) = ap (of_mode f.control.mode) (mod_fewer (a + k) 6 8 (omega arith)) in
    h ∙ ap₂ (λ x y. take_bus x (wrapped (s + 128 * y)) (stands f m)) (g ∙ field) e

pub ruleset row_places = (row_place, row_bus)

-- no register went, or one more did
pub fetched_none : (a s : ℕ) (m : Machine) → m ≡ fetched a s 0 m
unfolding fetched over
fetched_none a s m = refl

pub fetched_none_bus : (a s : ℕ) (m : Machine) → quiet ≡ fetched_bus a s 0 m
unfolding fetched_bus over
fetched_none_bus a s m = refl

pub fetched_more : (a s k n : ℕ) (m held : Machine) → held ≡ fetched a s k m → n ≡ suc k → in_row a s k held ≡ fetched a s n m
unfolding fetched over
fetched_more a s k n m held e f = ap (in_row a s k) e ∙ ap (λ x. fetched a s x m) (sym f)

pub fetched_more_bus : (a s k n : ℕ) (m held : Machine) (bus : Bus) → held ≡ fetched a s k m → bus ≡ fetched_bus a s k m → n ≡ suc k → followed_by bus (in_row_bus a s k held) ≡ fetched_bus a s n m
unfolding fetched_bus over
fetched_more_bus a s k n m held bus e g f =
    ap₂ (λ x y. followed_by x (in_row_bus a s k y)) g e ∙ ap (λ x. fetched_bus a s x m) (sym f)

pub ruleset in_rows = (fetched_none, fetched_more, fetched_none_bus, fetched_more_bus)

-- the lines' addresses are 128 apart
residue-more : (n m : ℕ) (z : ℤ) → residue n (z +ℤ pos m) ≡ (residue n z + m) % 2 ^ n
residue-more n m z =
    residue-add n z (pos m) ∙ (ap (λ x. (residue n z + x) % 2 ^ n) (residue-pos n m) ∙ add-mod-mod (residue n z) m (2 ^ n))

apart : (n s m : ℕ) (z : ℤ) → s ≡ residue n (z +ℤ pos 0) → (s + m) % 2 ^ n ≡ residue n (z +ℤ pos m)
apart n s m z e =
    let first : s ≡ residue n z % 2 ^ n = e ∙ residue-more n 0 z ∙ ap (λ x. x % 2 ^ n) (omega arith) in
    ap (λ x. (x + m) % 2 ^ n) first ∙ (mod-add-mod (residue n z) (2 ^ n) m ∙ sym (residue-more n m z))

targets : (m : Machine) (b k : ℕ) (i : ℤ) → wrapped (fetch_target m b i 0 + 128 * k) ≡ fetch_target m b i k
targets m b k i = apart 32 (fetch_target m b i 0) (128 * k) (pos (m.instructions (reg m b)).address +ℤ pos 4 *ℤ i) refl

-- registers that go to lines take them one after the other
takes_over : (a s n : ℕ) (m : Machine) → fetched a s n m ≡ record m { instructions = over (λ held k. take (reg m (a + k)) (wrapped (s + 128 * k)) m.data_registers.memory held) m.instructions n }
unfolding fetched in_row over
takes_over a s zero m = refl
takes_over a s (suc n) m = ap (in_row a s n) (takes_over a s n m)

-- fetch, once ipc has moved on
module _ (a b s j : ℕ) (i : ℤ) (m : Machine) (start : s ≡ fetch_target m b i 0) where
  abbrev moved : Machine
  moved = take_line (ipc m) (next_address m) m

  places : (λ k. wrapped (s + 128 * k)) ≡ fetch_target m b i
  places = fun_ext (λ k. ap (λ x. wrapped (x + 128 * k)) start ∙ targets m b k i)

  pub fetched_on : (n : Machine) → n ≡ moved → fetched a s (suc j) n ≡ carried_out (Fetch a b i j) m
  unfolding carried_out data_after instructions_after control_after moved_on moves_on is_taken
  fetched_on n e =
      ap (fetched a s (suc j)) e
      ∙ takes_over a s (suc j) moved
      ∙ ap (λ g. record moved { instructions = over (λ held k. take (reg m (a + k)) (g k) m.data_registers.memory held) moved.instructions (suc j) }) places

  -- in the flat machine's words: the mode stays, and so does which registers the fields name
  same_mode : (k : ℕ) → (flat_fetched a b i m moved k).control ≡ m.control
  unfolding flat_fetched over
  same_mode zero = refl
  same_mode (suc k) = same_mode k

  same_lines : (k : ℕ) → fetched a s k moved ≡ flat_fetched a b i m moved k
  unfolding fetched in_row flat_fetched over
  same_lines zero = refl
  same_lines (suc k) =
      let y = flat_fetched a b i m moved k in
      ap (in_row a s k) (same_lines k)
      ∙ ap₂ (λ (c : Control) (f : ℕ → ℕ). take_line (of_mode c.mode ((a + k) % 64)) (f k) y) (same_mode k) places

  same_bus : (k : ℕ) → fetched_bus a s k moved ≡ flat_fetched_bus a b i m moved k
  unfolding fetched_bus in_row_bus flat_fetched_bus over
  same_bus zero = refl
  same_bus (suc k) =
      let y = flat_fetched a b i m moved k in
      ap₂ (λ (x : Bus) (z : Machine). followed_by x (in_row_bus a s k z)) (same_bus k) (same_lines k)
      ∙ ap₂ (λ (c : Control) (f : ℕ → ℕ). followed_by (flat_fetched_bus a b i m moved k) (take_bus (of_mode c.mode ((a + k) % 64)) (f k) y)) (same_mode k) places

  pub fetched_on_bus : (n : Machine) (next : Bus) → n ≡ moved → next ≡ next_bus m → followed_by next (fetched_bus a s (suc j) n) ≡ bus_of (Fetch a b i j) m
  unfolding bus_of moved_on moves_on is_taken
  fetched_on_bus n next e f =
      ap₂ (λ (x : Bus) (y : Machine). followed_by x (fetched_bus a s (suc j) y)) f e
      ∙ ap (followed_by (next_bus m)) (same_bus (suc j))

pub ruleset fetches = (fetched_on, fetched_on_bus, to_z-of_z)
