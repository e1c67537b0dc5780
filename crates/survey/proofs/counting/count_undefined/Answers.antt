-- The words that pass the filter are undefined, and those that it passes over are defined.
use Rattle.std.proofs.Common.{◌≡◌, ℕ, suc, true, false, Bool, List, [], ◌∷◌, length, Some, None, Option, is_some, sym, ap, ◌∙◌, subst, rules, one-add}
use Rattle.std.proofs.lemmas.Bool.{false≢true}
use Rattle.std.proofs.lemmas.List.{nil_from_length}
use Rattle.std.proofs.iter.Yields.{fronts}
use Rattle.std.specs.Borrow.{Bor}
use Rattle.std.specs.Fn.{CalledAt, Mut}
use Rattle.std.specs.Iterator.{Yields}
use Rattle.std.specs.Iterator.Adapters.{filter_steps, filter_source, filter_callee}
use Rattle.std.specs.List.{FoldsTo}
use Rattle.std.specs.Slice.Iter.{iter_rest}
use Rattle.std.specs.declared.slice.Iter.{Iter}
use Rattle.std.specs.declared.iter.Filter.{Filter}
use Rattle.word.specs.Decodes.{Decodes, Defined}
use Rattle.word.specs.declared.operations.Operation.{Operation}
use Rattle.survey.specs.Counts.{UndefinedAmong, nil, defined, undefined}
use Rattle.survey.proofs.counting.count_undefined.Goals as goal

module _ {F : Type 0} (g : Mut F (Bor (Bor ℕ) × Unit {0}) Bool) (passes : (w : Bor ℕ) (f q : F) → CalledAt g f w true q → Defined w.now → ⊥) (fails : (w : Bor ℕ) (f q : F) → CalledAt g f w false q → Defined w.now) where
  over : (ws : List (Bor ℕ)) (s t : Iter ℕ) (f q : F) (n : ℕ) → Yields fronts s ws t → FoldsTo (λ p w r. CalledAt g p w false r) f ws q → UndefinedAmong (iter_rest t) n → UndefinedAmong (iter_rest s) n
  over [] s t f q n y k h = subst (λ i. UndefinedAmong (iter_rest i) n) (sym y) h
  over (w ∷ ws) s t f q n y k h = rw y.1 (defined (fails w f k.0 k.1) (over ws y.0 t k.0 q n y.2 k.2 h))

  counted : (ws : List (Bor ℕ)) (s t u : Filter (Iter ℕ) F) → Yields (filter_steps fronts g) s ws t → filter_steps fronts g t None u → UndefinedAmong (iter_rest (filter_source s)) (length ws)
  counted [] s t u y last =
      let none_left : UndefinedAmong (iter_rest last.2.0) 0 = rw (nil_from_length _ last.2.2.0) nil in
      subst (λ i. UndefinedAmong (iter_rest (filter_source i)) 0) (sym y) (over last.0 (filter_source t) last.2.0 (filter_callee t) last.1 0 last.2.1 last.3 none_left)
  counted (w ∷ ws) s t u y last =
      let step = y.1 in
      let more : UndefinedAmong (iter_rest step.2.0) (suc (length ws)) = rw (step.2.2, ← one-add) (undefined (passes w step.1 (filter_callee y.0) step.4) (counted ws y.0 t u y.2 last)) in
      over step.0 (filter_source s) step.2.0 (filter_callee s) step.1 (suc (length ws)) step.2.1 step.3 more

-- Nothing is found in a word exactly when it is undefined.
is_undefined : (w : ℕ) (r : Option Operation) → Decodes w r → is_some r ≡ false → Defined w → ⊥
is_undefined w r d e held = false≢true (sym e ∙ ap is_some (d.held held.0 held.1))

is_defined : (w : ℕ) (r : Option Operation) → Decodes w r → is_some r ≡ true → Defined w
is_defined w (Some op) d e = (op, d.found)
is_defined w None d e = absurd (false≢true e)

pub returns-clause-counted : goal.returns-clause-counted
returns-clause-counted c =
    let ran = c.count.ensures.ran in
    let all = counted _ (λ w f q k. search (rules, is_undefined)) (λ w f q k. search (rules, is_defined)) ran.0 c.filter.result ran.1.1.0 ran.1.0 ran.1.1.1 ran.1.1.2 in
    rw ran.2 (rw (c.filter.ensures.source, c.iter.ensures.rest) at all)
