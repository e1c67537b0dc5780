-- An operation that raises no exception, on the data.
use Rattle.std.proofs.Common.{◌≡◌, ℕ, ◌<◌, ◌%◌, Bool, true, false, ◌||◌, List, ◌∷◌, Some, None, Option, refl, ap, ◌∙◌, arith}
use Rattle.std.specs.Option.{option_or}
use Rattle.store.specs.Meaning.{Meaning}
use Rattle.word.specs.declared.opcodes.Form.TheVariants.{Scalar, Vector}
use Rattle.word.specs.declared.opcodes.Special.TheVariants.{Ie, Xct, Swiarg0, Swiarg1, Swiarg2, Swiarg3}
use Rattle.word.specs.declared.operations.Operation.{Operation}
use Rattle.word.specs.declared.operations.Operation.TheVariants.{Arith as Arithmetic, AddAddress, Div, Reduce, Load, Store, Dup, CopyOut}
use Rattle.flat.specs.Data.{Data, line}
use Rattle.flat.specs.Machine.{Machine}
use Rattle.flat.specs.Operands.{reg, target}
use Rattle.flat.specs.Operations.{arithmetic, add_address, divide, data_after}
use Rattle.flat.specs.Raising.{first, fixed, own_fixed, writes_fixed, raised}
use Rattle.flat.specs.Registers.{is_zero, line_of, of_mode}
use Rattle.flat.specs.declared.control.Mode.{Mode}
use Rattle.flat.specs.declared.control.Mode.TheVariants.{User, Supervisor}
use Rattle.flat.specs.declared.exception.Exception.{Exception}
use Rattle.flat.proofs.Coherence.{Coherent, Goes, Keeps, leaving}
use Rattle.flat.proofs.Moving.{keeps_goes, move_goes, not_there, then_goes}
use Rattle.flat.proofs.Writing.{stays, both_keep, write_keeps, element_keeps, retype_keeps, copied_keeps, copied_others}

-- Of two, neither.
second_none : (x y : Option Exception) → option_or x y ≡ None → y ≡ None
second_none None y h = h
second_none (Some x) y h = grind (arith, h)

-- The first test of a list of which none holds, and the others.
none_first : (b : Bool) (x : Exception) (ts : List (Bool × Exception)) → first ((b, x) ∷ ts) ≡ None → (b ≡ false) × (first ts ≡ None)
unfolding first
none_first true x ts h = grind (arith, h)
none_first false x ts h = (refl, h)

-- No line that cannot be written is written.
pub not_fixed : (m : Machine) (op : Operation) → raised m op ≡ None → fixed m op ≡ false
unfolding raised
not_fixed m op h =
    let wide = none_first _ _ _ (second_none _ _ h) in
    let uneven = none_first _ _ _ wide.1 in
    let missing = none_first _ _ _ uneven.1 in
    (none_first _ _ _ missing.1).0

mode_small : (mode : Mode) (field : ℕ) → of_mode mode (field % 64) < 128
mode_small User field = omega arith
mode_small Supervisor field = omega arith

-- A field names one of 128 registers.
reg_small : (m : Machine) (field : ℕ) → reg m field < 128
reg_small m field = mode_small m.control.mode field

can_write : (m : Machine) (r n : ℕ) → writes_fixed m r n ≡ false → is_zero r ≡ false → m.data_registers.backing.canwrite n ≡ true
can_write m r n h real = grind (arith, h, real)

-- What could be written still can.
still : (d x : Data) (r : ℕ) → Keeps d x → d.backing.canwrite (line d r) ≡ true → x.backing.canwrite (line x r) ≡ true
still d x r k h =
    ap (λ (b : Meaning). b.canwrite (line x r)) k.backing
    ∙ (ap (λ (a : ℕ → ℕ). d.backing.canwrite (line_of (a r))) k.addresses ∙ h)

either : (x y : Bool) → (x || y) ≡ false → (x ≡ false) × (y ≡ false)
either x y h = grind (arith, h)

module _ (m : Machine) (c : Coherent m.data_registers) where
  abbrev d : Data
  d = m.data_registers

  abbrev at_hand : ℕ → Type 0
  at_hand a = is_zero (reg m a) ≡ false → d.backing.canwrite (line d (reg m a)) ≡ true

  own : (a : ℕ) → own_fixed m a ≡ false → at_hand a
  own a h real = can_write m (reg m a) (line d (reg m a)) h real

  operates : (op : Operation) → fixed m op ≡ false → Goes d (data_after op m)
  unfolding data_after fixed arithmetic add_address divide
  operates (Arithmetic op Scalar x y z) h = keeps_goes _ _ (element_keeps (reg m x) _ d (own x h) c)
  operates (Arithmetic op Vector x y z) h = keeps_goes _ _ (write_keeps (reg m x) _ d (own x h) c)
  operates (AddAddress Scalar x y z) h = keeps_goes _ _ (element_keeps (reg m x) _ d (own x h) c)
  operates (AddAddress Vector x y z) h = keeps_goes _ _ (write_keeps (reg m x) _ d (own x h) c)
  operates (Div Scalar x y z w) h =
      let e = either (own_fixed m x) (own_fixed m w) h in
      let k = element_keeps (reg m x) _ d (own x e.0) c in
      keeps_goes _ _ (both_keep _ _ _ k (element_keeps (reg m w) _ _ (λ real. still d _ (reg m w) k (own w e.1 real)) k.coherent))
  operates (Div Vector x y z w) h =
      let e = either (own_fixed m x) (own_fixed m w) h in
      let k = write_keeps (reg m x) _ d (own x e.0) c in
      keeps_goes _ _ (both_keep _ _ _ k (write_keeps (reg m w) _ _ (λ real. still d _ (reg m w) k (own w e.1 real)) k.coherent))
  operates (Reduce op x y) h = keeps_goes _ _ (element_keeps (reg m x) _ d (own x h) c)
  operates (Load kind x y i) h = move_goes (reg m x) _ d (reg_small m x) c
  operates (Store kind x y i) h =
      let k = copied_keeps (reg m x) (target m y i) d (can_write m (reg m x) (line_of (target m y i)) h) c in
      let apart = λ (n : ℕ) (l : leaving n d (data_after (Store kind x y i) m) ≡ true). copied_others (reg m x) (target m y i) n d (λ real. not_there n (reg m x) _ _ d (reg_small m x) real k.coherent l) in
      then_goes _ _ _ k apart (move_goes (reg m x) _ _ (reg_small m x) k.coherent)
  operates (Dup kind x y) h =
      let k = write_keeps (reg m x) _ d (own x h) c in
      keeps_goes _ _ (both_keep _ _ _ k (retype_keeps (reg m x) kind _ k.coherent))
  operates (CopyOut Ie x) h = keeps_goes _ _ (element_keeps (reg m x) _ d (own x h) c)
  operates (CopyOut Xct x) h = keeps_goes _ _ (element_keeps (reg m x) _ d (own x h) c)
  operates (CopyOut Swiarg0 x) h = keeps_goes _ _ (write_keeps (reg m x) _ d (own x h) c)
  operates (CopyOut Swiarg1 x) h = keeps_goes _ _ (write_keeps (reg m x) _ d (own x h) c)
  operates (CopyOut Swiarg2 x) h = keeps_goes _ _ (write_keeps (reg m x) _ d (own x h) c)
  operates (CopyOut Swiarg3 x) h = keeps_goes _ _ (write_keeps (reg m x) _ d (own x h) c)
  operates op h = keeps_goes _ _ (stays d c)

  -- What an operation does that raises no exception.
  pub data_goes : (op : Operation) → raised m op ≡ None → Goes d (data_after op m)
  data_goes op h = operates op (not_fixed m op h)
