-- Every tag has 128 bytes. These are proofs, and nothing that a reader must believe: a law can cite them only from here.
use Rattle.std.specs.Prelude.{◌≡◌, ℕ, Bool, true, false, List, length, get_or, nat_lt}
use Rattle.std.proofs.Common.{arith, ap, refl, ◌∙◌}
use Rattle.std.proofs.lemmas.Bool.Decides.{nat_tests}
use Rattle.std.proofs.lemmas.List.{get_or_past, length-replicate}
use Rattle.tags.specs.Invariants.{Whole, all, no_bytes}
use Rattle.tags.specs.Meaning.{names}
use Rattle.tags.specs.Names.{names_of}
use Rattle.tags.specs.declared.bank.Bank.{Bank}

zero_bytes : length no_bytes ≡ 128
unfolding all
zero_bytes = length-replicate {A = ℕ} 128 0

pub whole_at : (bytes : List (List ℕ)) (t : ℕ) (b : Bool) → nat_lt t 128 ≡ b → Whole bytes → length (get_or bytes t no_bytes) ≡ 128
whole_at bytes t true e w = w.1 t (grind (arith, nat_tests))
whole_at bytes t false e w = ap length (get_or_past bytes t no_bytes (grind (arith, nat_tests, w.0))) ∙ zero_bytes

pub bank_whole : (b : Bank) (t : ℕ) → length ((names b).bytes t) ≡ 128
unfolding names names_of
bank_whole b t = whole_at b.columns.bytes t (nat_lt t 128) refl b.columns.whole
