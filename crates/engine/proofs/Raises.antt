-- What the machine's exceptions are raised by, over a store.
use Rattle.std.proofs.Common.{◌≡◌, ℕ, Bool, false, ◌==◌, Some, None, Option, option_map, is_some, List, ℤ, nat_abs, ap, refl, sym, arith}
use Rattle.std.proofs.Math.Path.{fun_ext}
use Rattle.std.proofs.lemmas.Bool.Decides.{nat_tests}
use Rattle.std.proofs.lemmas.Int.{to_z-of_z}
use Rattle.word.specs.Types.{width}
use Rattle.word.specs.declared.element.ElementType.{ElementType}
use Rattle.word.specs.declared.opcodes.Form.TheVariants.{Vector}
use Rattle.word.specs.declared.operations.Operation.{Operation}
use Rattle.word.specs.declared.operations.Operation.TheVariants.{Div}
use Rattle.scalar.specs.Arithmetic.{casts_to_zero}
use Rattle.line.specs.Dividing.{any_zero, somewhere}
use Rattle.line.specs.Elements.{Recast, count, element}
use Rattle.line.proofs.Readback.{recast}
use Rattle.store.specs.Meaning.{Meaning}
use Rattle.flat.specs.Machine.{Machine as Flat}
use Rattle.flat.specs.Operands.{kind_of}
use Rattle.flat.specs.Raising.{rules_of, uneven, even, uneven_widths}
use Rattle.flat.specs.Registers.{named}
use Rattle.flat.specs.declared.rules.Divisor.TheVariants.{Cast}
use Rattle.tags.specs.Names.{Names, Sound}
use Rattle.tags.specs.Numbers.{number}
use Rattle.tags.specs.declared.tag.Tag.{Tag}
use Rattle.file.proofs.Handing.{named_tag}
use Rattle.file.specs.Machine.{stands}
use Rattle.file.specs.Data.{stands as data_stands}
use Rattle.file.specs.Standing.{data_of}
use Rattle.file.specs.declared.machine.Machine.{Machine}

-- the backing copy is the store
pub backing : (f : Machine) (m : Meaning) → (stands f m).data_registers.backing ≡ m
unfolding stands data_stands data_of
backing f m = refl

-- a divisor in vectors has the width of the type that it is cast to, where the widths are equal
pub even_divisor : (f : Flat) (op : Operation) (a c : ℕ) → (rules_of op).divisor ≡ Cast Vector a c → uneven f op ≡ false → width (kind_of f c) ≡ width (kind_of f a)
unfolding even uneven_widths
even_divisor f (Div Vector a b c d) x z is e = grind (arith, nat_tests, is, e)
even_divisor f op a c is e = grind (arith, is)

pub found : (s : Names) (n : ℕ) (o : Option Tag) → Sound s → option_map number o ≡ s.tag n → is_some o ≡ named s.address n
found s n None sound e = sym (named_tag s n None (named s.address n) (sym e) refl sound)
found s n (Some t) sound e = sym (named_tag s n (Some t.number) (named s.address n) (sym e) refl sound)

-- the elements of a type of equal width, cast, are those of the type
pub divisors : (a c : ElementType) (bs : List ℕ) → width c ≡ width a → any_zero a bs ≡ somewhere (λ k. casts_to_zero a (element c bs k)) (count a)
divisors a c bs e =
    let recasts : Recast a c = recast a c (sym e) in
    ap (λ (f : ℕ → Bool). somewhere f (count a)) (fun_ext (λ k. ap (λ (z : ℤ). nat_abs z == 0) (sym (recasts bs k))))

pub ruleset over_store = (backing, to_z-of_z)
