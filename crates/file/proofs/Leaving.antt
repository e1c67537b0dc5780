-- Registers from which one has left its line, with the bank and the registers that there were before.
use Rattle.std.proofs.Common.{◌≡◌, ℕ, true, false, ap, sym, subst, ◌∙◌}
use Rattle.store.specs.Meaning.{Meaning}
use Rattle.flat.specs.Data.{leaves}
use Rattle.marks.specs.Marks.{marked}
use Rattle.tags.specs.Meaning.{names}
use Rattle.tags.specs.Names.{tag_of}
use Rattle.file.specs.Data.{stands}
use Rattle.file.specs.Standing.{data_of, known}
use Rattle.file.specs.declared.data.DataRegisters.{DataRegisters}

-- what registers with the same bank and registers stand for
pub same : (d e : DataRegisters) (m : Meaning) → e.bank ≡ d.bank → e.registers ≡ d.registers → stands d m ≡ data_of (names e.bank) (known e.registers) (marked d.marks) m
unfolding stands
same d e m h k = λ i. data_of (names (sym h i)) (known (sym k i)) (marked d.marks) m

-- where the register leaves its line, the tag of that line is not marked by then
pub clean : (d e : DataRegisters) (m : Meaning) (r a : ℕ) → e.bank ≡ d.bank → e.registers ≡ d.registers → (leaves r a (stands d m) ≡ true → marked e.marks (tag_of (names d.bank) r) ≡ false) → leaves r a (data_of (names e.bank) (known e.registers) (marked d.marks) m) ≡ true → marked e.marks (tag_of (names e.bank) r) ≡ false
clean d e m r a h k f l = subst (λ b. marked e.marks (tag_of (names b) r) ≡ false) (sym h) (f (ap (leaves r a) (same d e m h k) ∙ l))
