-- Writing lines of memory.
use Rattle.std.proofs.Common.{◌≡◌, ◌==◌, if◌then◌else◌, ℕ, Bool, true, false, List, refl, sym, subst, ◌∙◌, arith, ℤ}
use Rattle.std.proofs.Math.Path.{fun_ext}
use Rattle.std.proofs.lemmas.Bool.{cond-true, cond-false}
use Rattle.std.proofs.lemmas.Bool.Decides.{nat_tests}
use Rattle.word.specs.declared.element.ElementType.{ElementType}
use Rattle.flat.specs.Data.{Data, shown, addresses, line, written, write, write_element, placed, retype, copied}
use Rattle.flat.specs.Registers.{is_zero, line_of}
use Rattle.flat.proofs.Coherence.{Coherent, Keeps}

-- A line that can be written may be.
written_keeps : (n : ℕ) (b : List ℕ) (d : Data) → d.backing.canwrite n ≡ true → Coherent d → Keeps d (written n b d)
written_keeps n b d can c = record {
  coherent = record {
    untouched = λ k h. grind (arith, nat_tests, h, c.untouched k);
    touched = λ k h. grind (arith, nat_tests, h, can, c.touched k);
    within = c.within;
  };
  addresses = refl;
  backing = refl;
}

-- Nothing happens.
pub stays : (d : Data) → Coherent d → Keeps d d
stays d c = record { coherent = c; addresses = refl; backing = refl }

-- One after the other.
pub both_keep : (d e f : Data) → Keeps d e → Keeps e f → Keeps d f
both_keep d e f k l = record { coherent = l.coherent; addresses = l.addresses ∙ k.addresses; backing = l.backing ∙ k.backing }

pub write_keeps : (r : ℕ) (b : List ℕ) (d : Data) → (is_zero r ≡ false → d.backing.canwrite (line d r) ≡ true) → Coherent d → Keeps d (write r b d)
unfolding write
write_keeps r b d can c = by_zero (is_zero r) refl
  where
    by_zero : (z : Bool) → is_zero r ≡ z → Keeps d (write r b d)
    by_zero true h = subst (λ (x : Data). Keeps d x) (sym (cond-true _ _ _ h)) (stays d c)
    by_zero false h = subst (λ (x : Data). Keeps d x) (sym (cond-false _ _ _ h)) (written_keeps (line d r) b d (can h) c)

pub element_keeps : (r : ℕ) (z : ℤ) (d : Data) → (is_zero r ≡ false → d.backing.canwrite (line d r) ≡ true) → Coherent d → Keeps d (write_element r z d)
unfolding write_element
element_keeps r z d can c = write_keeps r _ d can c

-- A register with another type.
retyped : (r : ℕ) (kind : ElementType) (d : Data) (q : ℕ) → addresses (placed r (record { address = (d.registers r).address; kind = kind }) d) q ≡ addresses d q
retyped r kind d q = grind (arith, nat_tests)

placed_keeps : (r : ℕ) (kind : ElementType) (d : Data) → Coherent d → Keeps d (placed r (record { address = (d.registers r).address; kind = kind }) d)
placed_keeps r kind d c = record {
  coherent = record { untouched = c.untouched; touched = c.touched; within = c.within };
  addresses = fun_ext (retyped r kind d);
  backing = refl;
}

pub retype_keeps : (r : ℕ) (kind : ElementType) (d : Data) → Coherent d → Keeps d (retype r kind d)
retype_keeps r kind d c = by_zero (is_zero r) refl
  where
    by_zero : (z : Bool) → is_zero r ≡ z → Keeps d (retype r kind d)
    by_zero true h = subst (λ (x : Data). Keeps d x) (sym (cond-true _ _ _ h)) (stays d c)
    by_zero false h = subst (λ (x : Data). Keeps d x) (sym (cond-false _ _ _ h)) (placed_keeps r kind d c)

-- Copying onto a line leaves the others.
pub copied_others : (r address n : ℕ) (d : Data) → (is_zero r ≡ false → (n == line_of address) ≡ false) → (copied r address d).memory n ≡ d.memory n
unfolding copied
copied_others r address n d apart = by_zero (is_zero r) refl
  where
    by_zero : (z : Bool) → is_zero r ≡ z → (if z then d else written (line_of address) (shown d r) d).memory n ≡ d.memory n
    by_zero true h = refl
    by_zero false h = cond-false _ _ _ (apart h)

pub copied_keeps : (r address : ℕ) (d : Data) → (is_zero r ≡ false → d.backing.canwrite (line_of address) ≡ true) → Coherent d → Keeps d (copied r address d)
unfolding copied
copied_keeps r address d can c = by_zero (is_zero r) refl
  where
    by_zero : (z : Bool) → is_zero r ≡ z → Keeps d (copied r address d)
    by_zero true h = subst (λ (x : Data). Keeps d x) (sym (cond-true _ _ _ h)) (stays d c)
    by_zero false h = subst (λ (x : Data). Keeps d x) (sym (cond-false _ _ _ h)) (written_keeps (line_of address) _ d (can h) c)
