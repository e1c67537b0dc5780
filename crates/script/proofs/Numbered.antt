-- Where a line is no other call with numbers, a trace is what is left.
use Rattle.std.proofs.Common.{◌≡◌, ◌↔◌, ℕ, ◌≤◌, List, ◌++◌, codes, arith, Option, Some}
use Rattle.std.specs.Fmt.{decimal}
use Rattle.flat.specs.declared.call.Call.{Call}
use Rattle.flat.specs.declared.call.Call.TheVariants.{Boot, Step, Run, Trace, Pin, ShowData, ShowInstruction, ShowRest, Flush, Halt}
use Rattle.script.specs.Kinds.{HasNumbers, IsTrace}
use Rattle.script.specs.Texts.{Fits, text_of}

-- That no number up to this one stands behind these words.
abbrev pub Absent : List ℕ → ℕ → List ℕ → Type 0
Absent words most line = (n : ℕ) → n ≤ most → line ≡ words ++ decimal n → ⊥

-- That a result is just the call with this text, among calls of a kind.
abbrev pub Reads : (Call → Type 0) → Option Call → List ℕ → Call → Type 0
Reads kind r line c = (r ≡ Some c) ↔ (kind c × Fits c × (line ≡ text_of c))

pub left : (line : List ℕ) (r : Option Call) → Absent (codes "run ") 4294967295 line → Absent (codes "show d ") 255 line → Absent (codes "show i ") 255 line → ((c : Call) → Reads IsTrace r line c) → (c : Call) → Reads HasNumbers r line c
left line r run d i trace (Run n) = (λ h. absurd ((trace (Run n)).0 h).0, λ x. absurd (run n (omega arith) x.2))
left line r run d i trace (ShowData n) = (λ h. absurd ((trace (ShowData n)).0 h).0, λ x. absurd (d n (omega arith) x.2))
left line r run d i trace (ShowInstruction n) = (λ h. absurd ((trace (ShowInstruction n)).0 h).0, λ x. absurd (i n (omega arith) x.2))
left line r run d i trace (Trace limit most) = trace (Trace limit most)
left line r run d i trace Boot = (λ h. absurd ((trace Boot).0 h).0, λ x. absurd x.0)
left line r run d i trace Step = (λ h. absurd ((trace Step).0 h).0, λ x. absurd x.0)
left line r run d i trace (Pin up) = (λ h. absurd ((trace (Pin up)).0 h).0, λ x. absurd x.0)
left line r run d i trace ShowRest = (λ h. absurd ((trace ShowRest).0 h).0, λ x. absurd x.0)
left line r run d i trace Flush = (λ h. absurd ((trace Flush).0 h).0, λ x. absurd x.0)
left line r run d i trace Halt = (λ h. absurd ((trace Halt).0 h).0, λ x. absurd x.0)
