-- The text of a script, line by line.
use Rattle.std.proofs.Common.{◌≡◌, ℕ, List, [], ◌∷◌, ◌++◌, codes, drop, take, length, refl, arith, Result, Option, Some, None}
use Rattle.flat.specs.declared.records.StepRecord.{StepRecord}
use Rattle.flat.specs.declared.answer.Answer.{Answer}
use Rattle.flat.specs.declared.call.Call.{Call}
use Rattle.flat.specs.declared.refusal.Refusal.{Refusal}
use Rattle.telling.specs.Reports.{answered_text, made, script_text, sent}

pub ended : (script : List (Option Call)) (answers : List (Result Answer Refusal)) (steps : List StepRecord) (lines : List ℕ) → length script ≡ 0 → script_text script answers steps lines ≡ []
unfolding script_text
ended [] answers steps lines none = refl
ended (x ∷ script) answers steps lines none = absurd (omega arith)

pub no_call : (script : List (Option Call)) (answers : List (Result Answer Refusal)) (steps : List StepRecord) (lines : List ℕ) → script_text (None ∷ script) answers steps lines ≡ codes "?" ++ 10 ∷ script_text script answers steps lines
unfolding script_text
no_call script answers steps lines = refl

pub no_answer : (script rest : List (Option Call)) (call : Call) (answers : List (Result Answer Refusal)) (steps : List StepRecord) (lines : List ℕ) → script ≡ Some call ∷ rest → length answers ≡ 0 → script_text script answers steps lines ≡ []
unfolding script_text
no_answer script rest call [] steps lines same none = rw same refl
no_answer script rest call (x ∷ answers) steps lines same none = absurd (omega arith)

pub one_answer : (call : Call) (script : List (Option Call)) (answer : Result Answer Refusal) (answers : List (Result Answer Refusal)) (steps : List StepRecord) (lines : List ℕ) → script_text (Some call ∷ script) (answer ∷ answers) steps lines ≡ answered_text call answer (take (made answer) steps) (take (sent answer) lines) ++ script_text script answers (drop (made answer) steps) (drop (sent answer) lines)
unfolding script_text
one_answer call script answer answers steps lines = refl

pub ruleset reporting = (no_call, one_answer)
