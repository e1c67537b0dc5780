-- What a machine stands for once arithmetic has changed its data registers.
use Rattle.std.proofs.Math.Path.{fun_ext}
use Rattle.std.proofs.Common.{◌≡◌, ℕ, ◌*◌, ◌/◌, ◌%◌, false, List, [], ◌∷◌, ℤ, pos, refl, sym, subst, ap, ap₂, ◌∙◌}
use Rattle.store.specs.Meaning.{Meaning}
use Rattle.word.specs.Types.{width, bits}
use Rattle.word.specs.declared.element.ElementType.{ElementType}
use Rattle.word.specs.declared.opcodes.Arith.{Arith}
use Rattle.word.specs.declared.opcodes.Form.TheVariants.{Scalar, Vector}
use Rattle.word.specs.declared.operations.Operation.{Operation}
use Rattle.word.specs.declared.operations.Operation.TheVariants.{Arith as Arithmetic, AddAddress, Div}
use Rattle.scalar.specs.Arithmetic.{remainder}
use Rattle.scalar.specs.Casts.{cast, residue}
use Rattle.scalar.proofs.Casts.{cast-cast, residue-cast}
use Rattle.line.specs.Elements.{bytes, splice}
use Rattle.line.specs.Vectors.{line_of, row}
use Rattle.flat.specs.Data.{Data, place, shown, write, write_element}
use Rattle.flat.specs.Machine.{Machine as Flat, with_data}
use Rattle.flat.specs.Operations.{arithmetic, add_address, divide}
use Rattle.flat.specs.Raising.{even, uneven, uneven_widths}
use Rattle.flat.specs.Registers.{of_mode}
use Rattle.file.specs.Data.{stands as shows}
use Rattle.file.specs.Instructions.{stands as instructions_stand}
use Rattle.file.specs.Machine.{stands}
use Rattle.file.specs.Standing.{data_of}
use Rattle.file.specs.declared.data.DataRegisters.{DataRegisters}
use Rattle.file.specs.declared.machine.Machine.{Machine}
use Rattle.engine.specs.Arithmetic.{AsWide, kind, element_at, quotients_of, remainders_of, result_of, results_of, sum_of, sums_of}
use Rattle.engine.proofs.Vectors.{first_wide, second_wide, address_wide, div_first_wide, div_second_wide, div_last_wide}

-- a machine with other data registers
with_registers : (f g : Machine) → g.instructions ≡ f.instructions → g.control ≡ f.control → (after : Flat → Data) → ((m : Meaning) → shows g.registers m ≡ after (stands f m)) → stands g ≡ (λ m. with_data (after (stands f m)) (stands f m))
unfolding stands
with_registers f g i e after h =
    fun_ext (λ m.
    ap (λ d. with_data d (stands g m)) (h m)
    ∙ ap₂ (λ j k. record { data_registers = after (stands f m); instructions = instructions_stand j; control = k }) i e)

-- an element is written alike by numbers that are cast alike
written_alike : (d : Data) (r : ℕ) (x z : ℤ) → cast (kind d r) x ≡ cast (kind d r) z → write_element r x d ≡ write_element r z d
unfolding write_element
written_alike d r x z e =
    let t = kind d r in
    let same : residue (bits t) x ≡ residue (bits t) z = sym (residue-cast t x) ∙ ap (residue (bits t)) e ∙ residue-cast t z in
    ap (λ m. write r (splice (shown d r) (place (d.registers r) * width t) (bytes (width t) m)) d) same

-- a scalar form, of which a lane of the result is written
pub scalar_stands : (f g : Machine) (op : Arith) (a b c x y z lane : ℕ) → shows g.registers ≡ (λ m. write_element x (pos lane) (shows f.registers m)) → ((m : Meaning) → cast (kind (shows f.registers m) x) (pos lane) ≡ result_of (shows f.registers m) op x y z) → x ≡ of_mode f.control.mode (a % 64) → y ≡ of_mode f.control.mode (b % 64) → z ≡ of_mode f.control.mode (c % 64) → g.instructions ≡ f.instructions → g.control ≡ f.control → stands g ≡ (λ m. with_data (arithmetic op Scalar a b c (stands f m)) (stands f m))
unfolding stands arithmetic
scalar_stands f g op a b c x y z lane h made e_x e_y e_z i e =
    with_registers f g i e (arithmetic op Scalar a b c) (λ m.
    let d = shows f.registers m in
    ap (λ s. s m) h
    ∙ written_alike d x (pos lane) (result_of d op x y z) (made m ∙ sym (cast-cast (kind d x) _))
    ∙ ap₂ (λ q r. write_element x (result_of d op x q r) d) e_y e_z
    ∙ ap (λ p. write_element p (result_of d op p (of_mode f.control.mode (b % 64)) (of_mode f.control.mode (c % 64))) d) e_x)

-- a vector form
pub vector_stands : (f g : Machine) (op : Arith) (a b c x y z : ℕ) (out : List ℕ) → shows g.registers ≡ (λ m. write x out (shows f.registers m)) → ((m : Meaning) → out ≡ results_of (shows f.registers m) op x y z) → x ≡ of_mode f.control.mode (a % 64) → y ≡ of_mode f.control.mode (b % 64) → z ≡ of_mode f.control.mode (c % 64) → g.instructions ≡ f.instructions → g.control ≡ f.control → stands g ≡ (λ m. with_data (arithmetic op Vector a b c (stands f m)) (stands f m))
unfolding stands arithmetic
vector_stands f g op a b c x y z out h made e_x e_y e_z i e =
    with_registers f g i e (arithmetic op Vector a b c) (λ m.
    let d = shows f.registers m in
    ap (λ s. s m) h
    ∙ ap (λ l. write x l d) (made m)
    ∙ ap₂ (λ q r. write x (results_of d op x q r) d) e_y e_z
    ∙ ap (λ p. write p (results_of d op p (of_mode f.control.mode (b % 64)) (of_mode f.control.mode (c % 64))) d) e_x)

-- the scalar form of addr, of which a lane of the result is written
pub sum_stands : (f g : Machine) (a b c x y z lane : ℕ) → shows g.registers ≡ (λ m. write_element x (pos lane) (shows f.registers m)) → ((m : Meaning) → cast (kind (shows f.registers m) x) (pos lane) ≡ sum_of (shows f.registers m) x y z) → x ≡ of_mode f.control.mode (a % 64) → y ≡ of_mode f.control.mode (b % 64) → z ≡ of_mode f.control.mode (c % 64) → g.instructions ≡ f.instructions → g.control ≡ f.control → stands g ≡ (λ m. with_data (add_address Scalar a b c (stands f m)) (stands f m))
unfolding stands add_address
sum_stands f g a b c x y z lane h made e_x e_y e_z i e =
    with_registers f g i e (add_address Scalar a b c) (λ m.
    let d = shows f.registers m in
    ap (λ s. s m) h
    ∙ written_alike d x (pos lane) (sum_of d x y z) (made m ∙ sym (cast-cast (kind d x) _))
    ∙ ap₂ (λ q r. write_element x (sum_of d x q r) d) e_y e_z
    ∙ ap (λ p. write_element p (sum_of d p (of_mode f.control.mode (b % 64)) (of_mode f.control.mode (c % 64))) d) e_x)

-- its vector form
pub sums_stands : (f g : Machine) (a b c x y z : ℕ) (out : List ℕ) → shows g.registers ≡ (λ m. write x out (shows f.registers m)) → ((m : Meaning) → out ≡ sums_of (shows f.registers m) x y z) → x ≡ of_mode f.control.mode (a % 64) → y ≡ of_mode f.control.mode (b % 64) → z ≡ of_mode f.control.mode (c % 64) → g.instructions ≡ f.instructions → g.control ≡ f.control → stands g ≡ (λ m. with_data (add_address Vector a b c (stands f m)) (stands f m))
unfolding stands add_address
sums_stands f g a b c x y z out h made e_x e_y e_z i e =
    with_registers f g i e (add_address Vector a b c) (λ m.
    let d = shows f.registers m in
    ap (λ s. s m) h
    ∙ ap (λ l. write x l d) (made m)
    ∙ ap₂ (λ q r. write x (sums_of d x q r) d) e_y e_z
    ∙ ap (λ p. write p (sums_of d p (of_mode f.control.mode (b % 64)) (of_mode f.control.mode (c % 64))) d) e_x)

-- a line of elements of a width
as_wide : (t s : ElementType) (g : ℕ → ℤ) → width s ≡ width t → line_of t g ≡ line_of s g
as_wide t s g h = ap (λ n. row n g (128 / n)) (sym h)

-- the data registers after a division of registers y and z at the type of x, with remainders for w
abbrev divided : Data → ℕ → ℕ → ℕ → ℕ → Data
divided d x y z w = write w (line_of (kind d w) (λ k. remainder (kind d x) (element_at d y k) (element_at d z k))) (write x (quotients_of d x y z) d)

-- a vector form of div
pub divide_stands : (f g : Machine) (one : DataRegisters) (a b c d x y z w : ℕ) (q r : List ℕ) → shows g.registers ≡ (λ m. write w r (shows one m)) → shows one ≡ (λ m. write x q (shows f.registers m)) → ((m : Meaning) → q ≡ quotients_of (shows f.registers m) x y z) → ((m : Meaning) → r ≡ remainders_of (shows f.registers m) x y z) → ((m : Meaning) → uneven (stands f m) (Div Vector a b c d) ≡ false) → x ≡ of_mode f.control.mode (a % 64) → y ≡ of_mode f.control.mode (b % 64) → z ≡ of_mode f.control.mode (c % 64) → w ≡ of_mode f.control.mode (d % 64) → g.instructions ≡ f.instructions → g.control ≡ f.control → stands g ≡ (λ m. with_data (divide Vector a b c d (stands f m)) (stands f m))
unfolding stands divide
divide_stands f g one a b c d x y z w q r second first made left even e_x e_y e_z e_w i e =
    with_registers f g i e (divide Vector a b c d) (λ m.
    let s = shows f.registers m in
    let wide : AsWide s x w = div_last_wide (stands f m) a b c d (even m) x w e_x e_w in
    ap (λ n. n m) second
    ∙ ap (λ n. write w r (n m)) first
    ∙ ap₂ (λ u v. write w u (write x v s)) (left m) (made m)
    ∙ ap (λ u. write w u (write x (quotients_of s x y z) s)) (as_wide (kind s x) (kind s w) (λ k. remainder (kind s x) (element_at s y k) (element_at s z k)) wide)
    ∙ ap₂ (λ i j. divided s i j z w) e_x e_y
    ∙ ap₂ (λ i j. divided s (of_mode f.control.mode (a % 64)) (of_mode f.control.mode (b % 64)) i j) e_z e_w)

-- the widths that a vector form needs
module _ (f : Machine) (op : Arith) (a b c : ℕ) (h : (m : Meaning) → uneven (stands f m) (Arithmetic op Vector a b c) ≡ false) (d : DataRegisters) (is : d ≡ f.registers) (r s : ℕ) (is_r : r ≡ of_mode f.control.mode (a % 64)) where
  pub arithmetic_second : s ≡ of_mode f.control.mode (c % 64) → (m : Meaning) → AsWide (shows d m) r s
  unfolding stands
  arithmetic_second is_s m = subst (λ (d : DataRegisters). AsWide (shows d m) r s) (sym is) (second_wide (stands f m) op a b c (h m) r s is_r is_s)

  pub arithmetic_first : s ≡ of_mode f.control.mode (b % 64) → (m : Meaning) → AsWide (shows d m) r s
  unfolding stands
  arithmetic_first is_s m = subst (λ (d : DataRegisters). AsWide (shows d m) r s) (sym is) (first_wide (stands f m) op a b c (h m) r s is_r is_s)

module _ (f : Machine) (a b c : ℕ) (h : (m : Meaning) → uneven (stands f m) (AddAddress Vector a b c) ≡ false) (d : DataRegisters) (is : d ≡ f.registers) (r s : ℕ) (is_r : r ≡ of_mode f.control.mode (a % 64)) where
  pub address_second : s ≡ of_mode f.control.mode (c % 64) → (m : Meaning) → AsWide (shows d m) r s
  unfolding stands
  address_second is_s m = subst (λ (d : DataRegisters). AsWide (shows d m) r s) (sym is) (address_wide (stands f m) a b c (h m) r s is_r is_s)

module _ (f : Machine) (a b c d : ℕ) (h : (m : Meaning) → uneven (stands f m) (Div Vector a b c d) ≡ false) (e : DataRegisters) (is : e ≡ f.registers) (r s : ℕ) (is_r : r ≡ of_mode f.control.mode (a % 64)) where
  pub divide_first : s ≡ of_mode f.control.mode (b % 64) → (m : Meaning) → AsWide (shows e m) r s
  unfolding stands
  divide_first is_s m = subst (λ (e : DataRegisters). AsWide (shows e m) r s) (sym is) (div_first_wide (stands f m) a b c d (h m) r s is_r is_s)

  pub divide_second : s ≡ of_mode f.control.mode (c % 64) → (m : Meaning) → AsWide (shows e m) r s
  unfolding stands
  divide_second is_s m = subst (λ (e : DataRegisters). AsWide (shows e m) r s) (sym is) (div_second_wide (stands f m) a b c d (h m) r s is_r is_s)

pub ruleset arithmetic_forms = (vector_stands, arithmetic_first, arithmetic_second)

pub ruleset address_forms = (sums_stands, address_second)

pub ruleset divide_forms = (divide_stands, divide_first, divide_second)

-- the widths of registers do not depend on the store
same_widths : (f : Machine) (m n : Meaning) (fields : List ℕ) → uneven_widths (stands f n) fields ≡ uneven_widths (stands f m) fields
unfolding stands shows data_of uneven_widths
same_widths f m n [] = refl
same_widths f m n (a ∷ fields) = refl

-- so an operation whose widths are even on one store has even widths on any
pub even_anywhere : (f : Machine) (m : Meaning) (op : Operation) → uneven (stands f m) op ≡ false → (n : Meaning) → uneven (stands f n) op ≡ false
even_anywhere f m op h n = same_widths f m n (even op) ∙ h
