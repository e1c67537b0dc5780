-- What follows of a reading, and worked words.
use Rattle.std.proofs.Common.{◌≡◌, ℕ, pos, Some, None, Option, map, sym, refl, arith, rules}
use Rattle.word.specs.Codes.{Codes}
use Rattle.word.specs.Decodes.{Decodes, Defined}
use Rattle.word.specs.Reading.{operation}
use Rattle.word.specs.Worked.{words, answers}
use Rattle.word.specs.declared.element.ElementType.TheVariants.{S16}
use Rattle.word.specs.declared.operations.Operation.{Operation}
use Rattle.word.specs.declared.operations.Operation.TheVariants.{Load}

-- an undefined word is read as None
pub reads_none : (w : ℕ) (r : Option Operation) → (Defined w → ⊥) → Decodes w r → r ≡ None
reads_none w (Some op) h d = absurd (h (op, d.found))
reads_none w None h d = refl

-- a word is read in one way
pub reads_once : (w : ℕ) (r s : Option Operation) → Decodes w r → Decodes w s → r ≡ s
reads_once w (Some op) s d e = sym (e.held op d.found)
reads_once w None None d e = refl
reads_once w None (Some op) d e = d.held op e.found

-- 0x21400C83 is load s16, a 5, b 0, i 200
pub worked_load : (r : Option Operation) → Decodes 0x21400C83 r → r ≡ Some (Load S16 5 0 (pos 200))
worked_load r d = d.held (Load S16 5 0 (pos 200)) (search rules)

-- 0x00000020 is undefined: add's d is 1
pub undefined_add : Defined 0x00000020 → ⊥
undefined_add h = nothing h.0 h.1
  where
    nothing : (op : Operation) → Codes op 0x00000020 → ⊥
    nothing op h = grind arith

pub worked_add : (r : Option Operation) → Decodes 0x00000020 r → r ≡ None
worked_add r = reads_none 0x00000020 r undefined_add

-- the worked words, computed
pub worked : map operation words ≡ answers
unfolding operation
worked = refl
