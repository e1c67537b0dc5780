-- What carrying out an operation comes to.
use Rattle.std.proofs.Common.{◌≡◌, ◌⊎◌, inl, inr, subst, ℕ, ℤ, Bool, true, false, not, List, [], ◌∷◌, if◌then◌else◌, refl, sym, ap, ◌∙◌}
use Rattle.word.specs.declared.opcodes.Form.TheVariants.{Scalar, Vector}
use Rattle.word.specs.declared.opcodes.Special.TheVariants.{Ie, Xct, Swiarg0, Swiarg1, Swiarg2, Swiarg3}
use Rattle.word.specs.declared.operations.Operation.{Operation}
use Rattle.word.specs.declared.operations.Operation.TheVariants.{Arith as Arithmetic, AddAddress, Div, Reduce, Load, Store, Dup, JumpNotZero, JumpZero, CopyOut, CopyIn, Swi, Reti, Retx}
use Rattle.store.specs.Meaning.{Meaning}
use Rattle.file.specs.Data.{stands as data_stands}
use Rattle.file.specs.Machine.{stands}
use Rattle.file.specs.Standing.{data_of}
use Rattle.file.specs.declared.machine.Machine.{Machine as File}
use Rattle.flat.specs.Instructions.{Instruction}
use Rattle.flat.specs.Machine.{Machine, take_bus, take_line, ipc, with_data, with_control}
use Rattle.flat.specs.Operands.{next_address, word_place}
use Rattle.flat.specs.Data.{Data}
use Rattle.flat.specs.declared.control.Control.{Control}
use Rattle.word.specs.declared.element.ElementType.{ElementType}
use Rattle.word.specs.declared.opcodes.Arith.{Arith}
use Rattle.word.specs.declared.opcodes.Form.{Form}
use Rattle.word.specs.declared.opcodes.Reduction.{Reduction}
use Rattle.word.specs.declared.opcodes.Special.{Special}
use Rattle.flat.specs.Operations.{put_at, arithmetic, add_address, divide, data_after, instructions_after, control_after, carried_out, moved_on, bus_of, jump_bus, load_bus, next_bus, store_bus}
use Rattle.flat.specs.Raising.{is_taken, moves_on, uneven, uneven_widths, even}

-- what an operation does to the data registers does not depend on the instruction registers
data_after_go : (op : Operation) (r a : ℕ) (m : Machine) → data_after op (take_line r a m) ≡ data_after op m
unfolding data_after arithmetic add_address divide
data_after_go (Arithmetic op Scalar x y z) r a m = refl
data_after_go (Arithmetic op Vector x y z) r a m = refl
data_after_go (AddAddress Scalar x y z) r a m = refl
data_after_go (AddAddress Vector x y z) r a m = refl
data_after_go (Div Scalar x y z w) r a m = refl
data_after_go (Div Vector x y z w) r a m = refl
data_after_go (Reduce op x y) r a m = refl
data_after_go (Load kind x y i) r a m = refl
data_after_go (Store kind x y i) r a m = refl
data_after_go (Dup kind x y) r a m = refl
data_after_go (CopyOut Ie x) r a m = refl
data_after_go (CopyOut Xct x) r a m = refl
data_after_go (CopyOut Swiarg0 x) r a m = refl
data_after_go (CopyOut Swiarg1 x) r a m = refl
data_after_go (CopyOut Swiarg2 x) r a m = refl
data_after_go (CopyOut Swiarg3 x) r a m = refl
data_after_go op r a m = refl

-- nor does what it does to the rest
control_after_go : (op : Operation) (r a : ℕ) (m : Machine) → control_after op (take_line r a m) ≡ control_after op m
unfolding control_after
control_after_go (CopyIn Ie x) r a m = refl
control_after_go (CopyIn Xct x) r a m = refl
control_after_go (CopyIn Swiarg0 x) r a m = refl
control_after_go (CopyIn Swiarg1 x) r a m = refl
control_after_go (CopyIn Swiarg2 x) r a m = refl
control_after_go (CopyIn Swiarg3 x) r a m = refl
control_after_go op r a m = refl

-- ipc moved on
abbrev pub Moved : Machine → Machine → Type 0
Moved m mid = mid ≡ take_line (ipc m) (next_address m) m

module _ (op : Operation) (m mid : Machine) (on : moves_on m op ≡ true) (same : (i : ℕ → Instruction) → instructions_after op m i ≡ i) (moved : Moved m mid) where
  carried : carried_out op m ≡ record { data_registers = data_after op m; instructions = (take_line (ipc m) (next_address m) m).instructions; control = control_after op m }
  unfolding carried_out moved_on
  carried =
      ap (λ (i : ℕ → Instruction). let x : Machine = record { data_registers = data_after op m; instructions = i; control = control_after op m } in x)
      (same (if moves_on m op then take_line (ipc m) (next_address m) m else m).instructions ∙ ap (λ (b : Bool). (if b then take_line (ipc m) (next_address m) m else m).instructions) on)

  abbrev next : Machine
  next = take_line (ipc m) (next_address m) m

  -- an operation that moves on and changes the data registers alone
  data_carried : m.control ≡ control_after op m → with_data (data_after op mid) mid ≡ carried_out op m
  data_carried e =
      ap (λ (x : Machine). with_data (data_after op x) x) moved
      ∙ (ap (λ (d : Data). with_data d next) (data_after_go op (ipc m) (next_address m) m)
      ∙ (ap (λ (c : Control). let x : Machine = record { data_registers = data_after op m; instructions = next.instructions; control = c } in x) e
      ∙ sym carried))

  -- an operation that moves on and changes the rest alone
  control_carried : m.data_registers ≡ data_after op m → with_control (control_after op mid) mid ≡ carried_out op m
  control_carried e =
      ap (λ (x : Machine). with_control (control_after op x) x) moved
      ∙ (ap (λ (c : Control). with_control c next) (control_after_go op (ipc m) (next_address m) m)
      ∙ (ap (λ (d : Data). let x : Machine = record { data_registers = d; instructions = next.instructions; control = control_after op m } in x) e
      ∙ sym carried))

  -- an operation that moves on and does nothing else
  only_moved : m.data_registers ≡ data_after op m → m.control ≡ control_after op m → mid ≡ carried_out op m
  only_moved d e =
      moved
      ∙ (ap (λ (c : Control). let x : Machine = record { data_registers = m.data_registers; instructions = next.instructions; control = c } in x) e
      ∙ (ap (λ (d : Data). let x : Machine = record { data_registers = d; instructions = next.instructions; control = control_after op m } in x) d
      ∙ sym carried))

-- each operation by name
module _ (m mid : Machine) (moved : Moved m mid) where
  pub arith_carried : (op : Arith) (form : Form) (a b c : ℕ) → with_data (arithmetic op form a b c mid) mid ≡ carried_out (Arithmetic op form a b c) m
  unfolding data_after instructions_after control_after moves_on is_taken
  arith_carried op form a b c = data_carried (Arithmetic op form a b c) m mid refl (λ i. refl) moved refl

  pub address_carried : (form : Form) (a b c : ℕ) → with_data (add_address form a b c mid) mid ≡ carried_out (AddAddress form a b c) m
  unfolding data_after instructions_after control_after moves_on is_taken
  address_carried form a b c = data_carried (AddAddress form a b c) m mid refl (λ i. refl) moved refl

  pub div_carried : (form : Form) (a b c d : ℕ) → with_data (divide form a b c d mid) mid ≡ carried_out (Div form a b c d) m
  unfolding data_after instructions_after control_after moves_on is_taken
  div_carried form a b c d = data_carried (Div form a b c d) m mid refl (λ i. refl) moved refl

  pub reduce_carried : (op : Reduction) (a b : ℕ) → with_data (data_after (Reduce op a b) mid) mid ≡ carried_out (Reduce op a b) m
  unfolding instructions_after control_after moves_on is_taken
  reduce_carried op a b = data_carried (Reduce op a b) m mid refl (λ i. refl) moved refl

  pub load_carried : (kind : ElementType) (a b : ℕ) (i : ℤ) → with_data (data_after (Load kind a b i) mid) mid ≡ carried_out (Load kind a b i) m
  unfolding instructions_after control_after moves_on is_taken
  load_carried kind a b i = data_carried (Load kind a b i) m mid refl (λ i. refl) moved refl

  pub store_carried : (kind : ElementType) (a b : ℕ) (i : ℤ) → with_data (data_after (Store kind a b i) mid) mid ≡ carried_out (Store kind a b i) m
  unfolding instructions_after control_after moves_on is_taken
  store_carried kind a b i = data_carried (Store kind a b i) m mid refl (λ i. refl) moved refl

  pub dup_carried : (kind : ElementType) (a b : ℕ) → with_data (data_after (Dup kind a b) mid) mid ≡ carried_out (Dup kind a b) m
  unfolding instructions_after control_after moves_on is_taken
  dup_carried kind a b = data_carried (Dup kind a b) m mid refl (λ i. refl) moved refl

  pub copy_out_carried : (from : Special) (a : ℕ) → with_data (data_after (CopyOut from a) mid) mid ≡ carried_out (CopyOut from a) m
  unfolding instructions_after control_after moves_on is_taken
  copy_out_carried from a = data_carried (CopyOut from a) m mid refl (λ i. refl) moved refl

  pub copy_in_carried : (to : Special) (a : ℕ) → with_control (control_after (CopyIn to a) mid) mid ≡ carried_out (CopyIn to a) m
  unfolding data_after instructions_after moves_on is_taken
  copy_in_carried to a = control_carried (CopyIn to a) m mid refl (λ i. refl) moved refl

  pub swi_carried : (a b c d : ℕ) → with_control (control_after (Swi a b c d) mid) mid ≡ carried_out (Swi a b c d) m
  unfolding data_after instructions_after moves_on is_taken
  swi_carried a b c d = control_carried (Swi a b c d) m mid refl (λ i. refl) moved refl

-- what returns to user mode does not move on
pub reti_carried : (m : Machine) → with_control (control_after Reti m) m ≡ carried_out Reti m
unfolding carried_out data_after instructions_after moved_on moves_on
reti_carried m = refl

pub retx_carried : (m : Machine) → with_control (control_after Retx m) m ≡ carried_out Retx m
unfolding carried_out data_after instructions_after moved_on moves_on
retx_carried m = refl

-- a jump that is taken, where t is true, or moves on
abbrev taken_with : Machine → ℕ → ℕ → Bool → Machine
taken_with m b w t =
    let before : ℕ → Instruction = (if not t then take_line (ipc m) (next_address m) m else m).instructions in
    record { data_registers = m.data_registers; instructions = if t then put_at (ipc m) b w m before else before; control = m.control }

pub jump_nonzero_taken : (m : Machine) (a b w : ℕ) → is_taken m (JumpNotZero a b w) ≡ true → take_line (ipc m) (word_place m b w) m ≡ carried_out (JumpNotZero a b w) m
unfolding carried_out data_after instructions_after control_after moved_on moves_on is_taken
jump_nonzero_taken m a b w h = sym (ap (taken_with m b w) h)

pub jump_zero_taken : (m : Machine) (a b w : ℕ) → is_taken m (JumpZero a b w) ≡ true → take_line (ipc m) (word_place m b w) m ≡ carried_out (JumpZero a b w) m
unfolding carried_out data_after instructions_after control_after moved_on moves_on is_taken
jump_zero_taken m a b w h = sym (ap (taken_with m b w) h)

pub jump_nonzero_on : (m mid : Machine) (a b w : ℕ) → is_taken m (JumpNotZero a b w) ≡ false → Moved m mid → mid ≡ carried_out (JumpNotZero a b w) m
unfolding data_after instructions_after control_after moves_on is_taken
jump_nonzero_on m mid a b w h moved = only_moved (JumpNotZero a b w) m mid (ap not h) (λ i. ap (λ (t : Bool). if t then put_at (ipc m) b w m i else i) h) moved refl refl

pub jump_zero_on : (m mid : Machine) (a b w : ℕ) → is_taken m (JumpZero a b w) ≡ false → Moved m mid → mid ≡ carried_out (JumpZero a b w) m
unfolding data_after instructions_after control_after moves_on is_taken
jump_zero_on m mid a b w h moved = only_moved (JumpZero a b w) m mid (ap not h) (λ i. ap (λ (t : Bool). if t then put_at (ipc m) b w m i else i) h) moved refl refl

-- what load and store do on the bus, seen before ipc moved on
pub load_bus_moved : (a b : ℕ) (i : ℤ) (m mid : Machine) → Moved m mid → load_bus a b i mid ≡ load_bus a b i m
load_bus_moved a b i m mid moved = ap (load_bus a b i) moved

pub store_bus_moved : (a b : ℕ) (i : ℤ) (m mid : Machine) → Moved m mid → store_bus a b i mid ≡ store_bus a b i m
store_bus_moved a b i m mid moved = ap (store_bus a b i) moved

-- widths are those of the data registers, which no move of ipc changes
uneven_any : (n : Machine) (i : ℕ → Instruction) (fields : List ℕ) → uneven_widths (record { data_registers = n.data_registers; instructions = i; control = n.control }) fields ≡ uneven_widths n fields
unfolding uneven_widths
uneven_any n i [] = refl
uneven_any n i (a ∷ fields) = refl

pub uneven_moved : (op : Operation) (m mid : Machine) → Moved m mid → uneven m op ≡ false → uneven mid op ≡ false
uneven_moved op m mid moved h = ap (λ (x : Machine). uneven x op) moved ∙ (uneven_any m (take_line (ipc m) (next_address m) m).instructions (even op) ∙ h)

-- and of a file's registers on every store
uneven_stores : (f : File) (m other : Meaning) (fields : List ℕ) → uneven_widths (stands f other) fields ≡ uneven_widths (stands f m) fields
unfolding uneven_widths stands data_stands data_of
uneven_stores f m other [] = refl
uneven_stores f m other (a ∷ fields) = refl

pub uneven_on_any : (op : Operation) (f : File) (m other : Meaning) → uneven (stands f m) op ≡ false → uneven (stands f other) op ≡ false
uneven_on_any op f m other h = uneven_stores f m other (even op) ∙ h

-- a jump of either kind
abbrev pub IsJump : Operation → ℕ → ℕ → Type 0
IsJump op b w = ((a : ℕ) × (op ≡ JumpNotZero a b w)) ⊎ ((a : ℕ) × (op ≡ JumpZero a b w))

pub jump_taken : (op : Operation) (m : Machine) (b w : ℕ) → IsJump op b w → is_taken m op ≡ true → take_line (ipc m) (word_place m b w) m ≡ carried_out op m
jump_taken op m b w (inl s) = subst (λ (o : Operation). is_taken m o ≡ true → take_line (ipc m) (word_place m b w) m ≡ carried_out o m) (sym s.1) (jump_nonzero_taken m s.0 b w)
jump_taken op m b w (inr s) = subst (λ (o : Operation). is_taken m o ≡ true → take_line (ipc m) (word_place m b w) m ≡ carried_out o m) (sym s.1) (jump_zero_taken m s.0 b w)

pub jump_on : (op : Operation) (m mid : Machine) (b w : ℕ) → IsJump op b w → is_taken m op ≡ false → Moved m mid → mid ≡ carried_out op m
jump_on op m mid b w (inl s) = subst (λ (o : Operation). is_taken m o ≡ false → Moved m mid → mid ≡ carried_out o m) (sym s.1) (jump_nonzero_on m mid s.0 b w)
jump_on op m mid b w (inr s) = subst (λ (o : Operation). is_taken m o ≡ false → Moved m mid → mid ≡ carried_out o m) (sym s.1) (jump_zero_on m mid s.0 b w)

jump_bus_of : (op : Operation) (m : Machine) (b w : ℕ) → IsJump op b w → jump_bus (is_taken m op) b w m ≡ bus_of op m
unfolding bus_of
jump_bus_of op m b w (inl s) = ap (λ (o : Operation). jump_bus (is_taken m o) b w m) s.1 ∙ sym (ap (λ (o : Operation). bus_of o m) s.1)
jump_bus_of op m b w (inr s) = ap (λ (o : Operation). jump_bus (is_taken m o) b w m) s.1 ∙ sym (ap (λ (o : Operation). bus_of o m) s.1)

-- what a jump does on the bus, taken or not
pub jump_taken_bus : (op : Operation) (m : Machine) (b w : ℕ) → IsJump op b w → is_taken m op ≡ true → take_bus (ipc m) (word_place m b w) m ≡ bus_of op m
jump_taken_bus op m b w jump h = ap (λ (t : Bool). jump_bus t b w m) (sym h) ∙ jump_bus_of op m b w jump

pub jump_on_bus : (op : Operation) (m : Machine) (b w : ℕ) → IsJump op b w → is_taken m op ≡ false → next_bus m ≡ bus_of op m
jump_on_bus op m b w jump h = ap (λ (t : Bool). jump_bus t b w m) (sym h) ∙ jump_bus_of op m b w jump
