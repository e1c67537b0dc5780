-- How many words are undefined.
use Rattle.std.specs.Prelude.{ℕ, ◌+◌, List, [], ◌∷◌, Some, None}
use Rattle.store.specs.Meaning.{Meaning}
use Rattle.word.specs.Decodes.{Defined}
use Rattle.word.specs.Lines.{WordsOf}
use Rattle.survey.specs.declared.runs.Run.{Run}
use Rattle.survey.specs.Runs.{NextRun}

-- So many of the words hold no operation.
pub data UndefinedAmong : List ℕ → ℕ → Type 0 where
  nil : UndefinedAmong [] 0
  defined : {w : ℕ} {ws : List ℕ} {n : ℕ} → Defined w → UndefinedAmong ws n → UndefinedAmong (w ∷ ws) n
  undefined : {w : ℕ} {ws : List ℕ} {n : ℕ} → (Defined w → ⊥) → UndefinedAmong ws n → UndefinedAmong (w ∷ ws) (1 + n)

-- So many of the words hold no operation in the runs of a store from a line on. The words of a run are counted once, and blank lines are not counted.
pub data UndefinedFrom : Meaning → ℕ → ℕ → Type 0 where
  no_more : {m : Meaning} {from : ℕ} → NextRun m from None → UndefinedFrom m from 0
  and_run : {m : Meaning} {from : ℕ} {run : Run} {ws : List ℕ} {n rest : ℕ} → NextRun m from (Some run) → WordsOf run.line.bytes ws → UndefinedAmong ws n → UndefinedFrom m run.after rest → UndefinedFrom m from (n + rest)
