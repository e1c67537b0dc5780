-- Every line that a store gives, and every line of memory, has 128 bytes. These are proofs, and nothing that a reader must believe: a law can cite them only from here.
use Rattle.std.specs.Prelude.{◌≡◌, ℕ, Bool, true, false, length, nat_lt, Some, None, Option}
use Rattle.std.proofs.Common.{arith, refl}
use Rattle.std.proofs.lemmas.List.{length-replicate}
use Rattle.std.proofs.lemmas.Bool.Decides.{nat_tests}
use Rattle.store.specs.Meaning.{Meaning, Sound}
use Rattle.flat.specs.Data.{given}
use Rattle.flat.specs.Registers.{zeros}
use Rattle.tags.specs.Meaning.{names}
use Rattle.tags.specs.Sounds.{bank_whole}
use Rattle.file.specs.Data.{stands}
use Rattle.file.specs.Standing.{data_of, of_tag}
use Rattle.file.specs.declared.data.DataRegisters.{DataRegisters}

pub given_whole : (m : Meaning) → Sound m → (n : ℕ) → length (given m n) ≡ 128
unfolding given zeros
given_whole m s n = by_place (nat_lt n m.size) refl
  where
    by_place : (z : Bool) → nat_lt n m.size ≡ z → length (given m n) ≡ 128
    by_place true h = grind (arith, nat_tests, h, s.whole n)
    by_place false h = grind (arith, nat_tests, h, length-replicate)

pub memory_whole : (d : DataRegisters) (m : Meaning) → Sound m → (n : ℕ) → length ((stands d m).memory n) ≡ 128
unfolding stands data_of
memory_whole d m s n = by_tag ((names d.bank).tag n)
  where
    by_tag : (o : Option ℕ) → length (of_tag o (names d.bank).bytes (given m n)) ≡ 128
    by_tag None = given_whole m s n
    by_tag (Some t) = bank_whole d.bank t
