-- What reading and writing a word answer.
use Rattle.std.specs.Prelude.{◌≡◌, ℕ, ◌*◌, ◌^◌, List, Some, None, Ok, Err, Option, Result}
use Rattle.word.specs.Codes.{Codes}
use Rattle.word.specs.Fields.{Field, Fits, bits_of, AllFit, Made}
use Rattle.word.specs.declared.no_word.NoWord.{NoWord}
use Rattle.word.specs.declared.operations.Operation.{Operation}

-- The word w is defined: it holds some operation.
abbrev pub Defined : ℕ → Type 0
Defined w = (op : Operation) × Codes op w

-- Some word holds the operation.
abbrev pub Held : Operation → Type 0
Held op = (w : ℕ) × Codes op w

-- What is found in a word is held by it.
abbrev pub Found : ℕ → Option Operation → Type 0
Found w (Some op) = Codes op w
Found w None = Unit {0}

-- Reading the word w answers Some op exactly when the word holds op, for every operation: what is
-- found is held, and what is held is found. So None says that the word is undefined.
pub record Decodes (w : ℕ) (r : Option Operation) : Type 0 where
  pub found : Found w r
  pub held : (op : Operation) → Codes op w → r ≡ Some op

-- A word that is written holds the operation; of one that is refused no word does.
abbrev pub Put : Operation → Result ℕ NoWord → Type 0
Put op (Ok w) = Codes op w
Put op (Err _) = Held op → ⊥

-- Writing an operation answers Ok w exactly when the word w holds it, for every word, and is
-- refused as NoWord exactly when no word holds it.
pub record Coded (op : Operation) (r : Result ℕ NoWord) : Type 0 where
  pub put : Put op r
  pub held : (w : ℕ) → Codes op w → r ≡ Ok w

-- Writing a field at a place answers its bits from bit `at` up, and is refused as NoWord where it does
-- not fit.
abbrev pub Placed : Field → ℕ → Result ℕ NoWord → Type 0
Placed f at (Ok n) = Fits f × (n ≡ bits_of f * 2 ^ at)
Placed f at (Err _) = Fits f → ⊥

-- Writing a list of fields answers the word that is made of them, and is refused as NoWord where
-- one of them does not fit.
abbrev pub Written : List Field → Result ℕ NoWord → Type 0
Written fs (Ok w) = Made fs w
Written fs (Err _) = AllFit fs → ⊥

-- Reading a word and writing what was found gives the word again exactly when it is defined, and
-- None when it is not.
abbrev pub Recoded : ℕ → Option ℕ → Type 0
Recoded w (Some v) = (v ≡ w) × Defined w
Recoded w None = Defined w → ⊥

-- Writing an operation and reading the word gives the operation again exactly when some word holds
-- it, and None when no word does.
abbrev pub Redecoded : Operation → Option Operation → Type 0
Redecoded op (Some o) = (o ≡ op) × Held op
Redecoded op None = Held op → ⊥
