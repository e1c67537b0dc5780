-- Vector forms: lines of one width, each read by its own type.
use Rattle.std.proofs.Math.Path.{fun_ext}
use Rattle.std.proofs.Common.{◌≡◌, ℕ, Bool, true, false, not, ◌||◌, List, ℤ, pos, sym, refl, ap, ap₂, ◌∙◌, arith}
use Rattle.std.specs.Prelude.{◌==◌}
use Rattle.std.proofs.lemmas.Bool.Decides.{nat_tests}
use Rattle.word.specs.Types.{width, bits}
use Rattle.word.specs.declared.element.ElementType.{ElementType}
use Rattle.word.specs.declared.opcodes.Arith.{Arith}
use Rattle.word.specs.declared.opcodes.Arith.TheVariants.{Add}
use Rattle.word.specs.declared.opcodes.Form.TheVariants.{Vector}
use Rattle.word.specs.declared.operations.Operation.TheVariants.{Arith as Arithmetic, AddAddress, Div}
use Rattle.scalar.specs.Arithmetic.{compute, cut_quotient, cut_remainder}
use Rattle.scalar.specs.Casts.{cast}
use Rattle.line.specs.Dividing.{quotient_line, remainder_line}
use Rattle.line.specs.Elements.{element}
use Rattle.line.specs.Vectors.{line_of, vector, vector_addr}
use Rattle.line.proofs.Readback.{recast}
use Rattle.line.proofs.Rows.{element-cast}
use Rattle.flat.specs.Data.{Data, shown}
use Rattle.flat.specs.Machine.{Machine}
use Rattle.flat.specs.Operands.{kind_of, reg}
use Rattle.flat.specs.Raising.{uneven, uneven_widths, even}
use Rattle.flat.specs.declared.registers.DataRegister.{DataRegister}
use Rattle.engine.specs.Arithmetic.{AsWide, quotients_of, remainders_of, results_of, sums_of}

-- lines of the same elements
same_line : (t : ElementType) (f g : ℕ → ℤ) → ((k : ℕ) → f k ≡ g k) → line_of t f ≡ line_of t g
same_line t f g h = ap (line_of t) (fun_ext h)

-- an element is cast to a type of its width as it is read by that type
cast_even : (t s : ElementType) (line : List ℕ) (k : ℕ) → width s ≡ width t → cast t (element t line k) ≡ cast t (element s line k)
cast_even t s line k e = element-cast t line k ∙ sym (recast t s (sym e) line k)

module _ (d : Data) (op : Arith) (a b c : ℕ) (ra : DataRegister) (is : ra ≡ d.registers a) (y out : List ℕ) (on_y : y ≡ shown d c) (even_c : AsWide d a c) where
  pub vector_results : (x : List ℕ) → x ≡ shown d b → AsWide d a b → out ≡ vector op ra.kind x y → out ≡ results_of d op a b c
  vector_results x on_x even_b h =
      let t = (d.registers a).kind in
      let s = (d.registers b).kind in
      let u = (d.registers c).kind in
      h
      ∙ ap (λ r. vector op r.kind x y) is
      ∙ ap₂ (λ v w. vector op t v w) on_x on_y
      ∙ same_line t _ _ (λ k. ap₂ (λ v w. cast t (compute op (bits t) v w)) (cast_even t s (shown d b) k even_b) (cast_even t u (shown d c) k even_c))

module _ (d : Data) (a b c : ℕ) (ra : DataRegister) (is : ra ≡ d.registers a) (y out : List ℕ) (on_y : y ≡ shown d c) (even_c : AsWide d a c) where
  pub addr_results : (rb : DataRegister) → rb ≡ d.registers b → out ≡ vector_addr ra.kind rb.address y → out ≡ sums_of d a b c
  addr_results rb is_b h =
      let t = (d.registers a).kind in
      let u = (d.registers c).kind in
      h
      ∙ ap (λ r. vector_addr r.kind rb.address y) is
      ∙ ap (λ r. vector_addr t r.address y) is_b
      ∙ ap (λ w. vector_addr t (d.registers b).address w) on_y
      ∙ same_line t _ _ (λ k. ap (λ w. cast t (compute Add (bits t) (cast t (pos (d.registers b).address)) w)) (cast_even t u (shown d c) k even_c))

-- a line made of the elements of two lines, cast
abbrev made_of : (ElementType → ℤ → ℤ → ℤ) → (t s u : ElementType) → List ℕ → List ℕ → List ℕ
made_of make t s u x y = line_of t (λ k. make t (cast t (element s x k)) (cast t (element u y k)))

-- the lines of a division
divided_lines : (d : Data) (a b c : ℕ) (ra : DataRegister) → ra ≡ d.registers a → (x y : List ℕ) → x ≡ shown d b → y ≡ shown d c → AsWide d a b → AsWide d a c → (make : ElementType → ℤ → ℤ → ℤ) (out : List ℕ) → out ≡ made_of make ra.kind ra.kind ra.kind x y → out ≡ made_of make (d.registers a).kind (d.registers b).kind (d.registers c).kind (shown d b) (shown d c)
divided_lines d a b c ra is x y on_x on_y even_b even_c make out h =
    let t = (d.registers a).kind in
    let s = (d.registers b).kind in
    let u = (d.registers c).kind in
    h
    ∙ ap (λ r. made_of make r.kind r.kind r.kind x y) is
    ∙ ap₂ (λ v w. made_of make t t t v w) on_x on_y
    ∙ same_line t _ _ (λ k. ap₂ (make t) (cast_even t s (shown d b) k even_b) (cast_even t u (shown d c) k even_c))

module _ (d : Data) (a b c : ℕ) (ra : DataRegister) (is : ra ≡ d.registers a) (x y out : List ℕ) (on_x : x ≡ shown d b) (on_y : y ≡ shown d c) (even_b : AsWide d a b) (even_c : AsWide d a c) where
  pub quotient_lines : out ≡ quotient_line ra.kind x y → out ≡ quotients_of d a b c
  quotient_lines h = divided_lines d a b c ra is x y on_x on_y even_b even_c (λ t v w. cast t (cut_quotient v w)) out h

  pub remainder_lines : out ≡ remainder_line ra.kind x y → out ≡ remainders_of d a b c
  remainder_lines h = divided_lines d a b c ra is x y on_x on_y even_b even_c (λ t v w. cut_remainder v w) out h

pub ruleset arithmetic_lines = (vector_results)

pub ruleset address_lines = (addr_results)

pub ruleset division_lines = (quotient_lines, remainder_lines)

-- widths that are not uneven
equal_width : (x y : ℕ) (rest : Bool) → (not (x == y) || rest) ≡ false → (x ≡ y) × (rest ≡ false)
equal_width x y rest h = by (x == y) refl h
  where
    by : (z : Bool) → (x == y) ≡ z → (not z || rest) ≡ false → (x ≡ y) × (rest ≡ false)
    by true e h = (grind (arith, nat_tests, e), h)
    by false e h = absurd cc

arith_even : (m : Machine) (op : Arith) (a b c : ℕ) → uneven m (Arithmetic op Vector a b c) ≡ false → (width (kind_of m b) ≡ width (kind_of m a)) × (width (kind_of m c) ≡ width (kind_of m a))
unfolding uneven_widths even
arith_even m op a b c h =
    let kind = width (kind_of m a) in
    let first = equal_width (width (kind_of m b)) kind (not (width (kind_of m c) == kind) || false) h in
    (first.0, (equal_width (width (kind_of m c)) kind false first.1).0)

address_even : (m : Machine) (a b c : ℕ) → uneven m (AddAddress Vector a b c) ≡ false → width (kind_of m c) ≡ width (kind_of m a)
unfolding uneven_widths even
address_even m a b c h = (equal_width (width (kind_of m c)) (width (kind_of m a)) false h).0

-- the registers that the fields name
wide : (m : Machine) (a b r s : ℕ) → r ≡ reg m a → s ≡ reg m b → width (kind_of m b) ≡ width (kind_of m a) → AsWide m.data_registers r s
wide m a b r s e f h =
    let k = m.data_registers.registers in
    ap (λ n. width (k n).kind) f ∙ h ∙ ap (λ n. width (k n).kind) (sym e)

module _ (m : Machine) (op : Arith) (a b c : ℕ) (h : uneven m (Arithmetic op Vector a b c) ≡ false) (r s : ℕ) (is_r : r ≡ reg m a) where
  pub second_wide : s ≡ reg m c → AsWide m.data_registers r s
  second_wide is_s = wide m a c r s is_r is_s (arith_even m op a b c h).1

  pub first_wide : s ≡ reg m b → AsWide m.data_registers r s
  first_wide is_s = wide m a b r s is_r is_s (arith_even m op a b c h).0

module _ (m : Machine) (a b c : ℕ) (h : uneven m (AddAddress Vector a b c) ≡ false) (r s : ℕ) (is_r : r ≡ reg m a) where
  pub address_wide : s ≡ reg m c → AsWide m.data_registers r s
  address_wide is_s = wide m a c r s is_r is_s (address_even m a b c h)

div_even : (m : Machine) (a b c d : ℕ) → uneven m (Div Vector a b c d) ≡ false → (width (kind_of m b) ≡ width (kind_of m a)) × (width (kind_of m c) ≡ width (kind_of m a)) × (width (kind_of m d) ≡ width (kind_of m a))
unfolding uneven_widths even
div_even m a b c d h =
    let kind = width (kind_of m a) in
    let on_c = not (width (kind_of m c) == kind) in
    let on_d = not (width (kind_of m d) == kind) in
    let first = equal_width (width (kind_of m b)) kind (on_c || (on_d || false)) h in
    let second = equal_width (width (kind_of m c)) kind (on_d || false) first.1 in
    let third = equal_width (width (kind_of m d)) kind false second.1 in
    (first.0, second.0, third.0)

module _ (m : Machine) (a b c d : ℕ) (h : uneven m (Div Vector a b c d) ≡ false) (r s : ℕ) (is_r : r ≡ reg m a) where
  pub div_first_wide : s ≡ reg m b → AsWide m.data_registers r s
  div_first_wide is_s = wide m a b r s is_r is_s (div_even m a b c d h).0

  pub div_second_wide : s ≡ reg m c → AsWide m.data_registers r s
  div_second_wide is_s = wide m a c r s is_r is_s (div_even m a b c d h).1

  pub div_last_wide : s ≡ reg m d → AsWide m.data_registers r s
  div_last_wide is_s = wide m a d r s is_r is_s (div_even m a b c d h).2
