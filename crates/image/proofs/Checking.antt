-- Checking the places of an image one after the other.
use Rattle.std.proofs.Common.{◌≡◌, ℕ, ◌+◌, List, drop, Some, None, Ok, Err, Option, sym, subst}
use Rattle.std.proofs.lemmas.List.{drop-drop}
use Rattle.store.specs.Meaning.{Meaning}
use Rattle.store.specs.declared.fault.LineFault.{LineFault}
use Rattle.image.specs.declared.fault.Cause.TheVariants.{Line}
use Rattle.image.specs.declared.fault.Fault.{Fault}
use Rattle.image.specs.declared.place.Place.{Place}
use Rattle.image.specs.Records.{Gives}
use Rattle.image.specs.Format.{Placed, Image, front, places, taken}
use Rattle.image.specs.Placing.{FitsIn, Misfits}
use Rattle.image.specs.Loading.{AllFit, FirstMisfit, this, next, Good, PlaceChecks, Faulty}
use Rattle.image.proofs.Walks.{image_at_place, image_at_end, not_end_and_place, not_ill_formed}

-- Of the places of the image, those from `at` on are left. If they fit, all do, and the first at fault among them is so among all.
pub record Unchecked (m : Meaning) (image : List ℕ) (at : ℕ) : Type 0 where
  pub all : List Placed
  pub left : List Placed
  pub whole : Image 0 image all
  pub rest : Image at (drop at image) left
  pub fit : AllFit m left → AllFit m all
  pub misfit : (x n : ℕ) → FirstMisfit m left x n → FirstMisfit m all x n

-- Before the first record, all places of an image with whole records are left.
pub unchecked_all : (m : Meaning) (image : List ℕ) (ps : List Placed) → Image 0 image ps → Unchecked m image 0
unchecked_all m image ps w =
    record { all = ps; left = ps; whole = w; rest = w; fit = λ h. h; misfit = λ x n h. h }

module _ (m : Meaning) (image : List ℕ) (at : ℕ) (u : Unchecked m image at) where
  module _ (a : ℕ) (b : List ℕ) (f : front (drop at image) ≡ places a b) where
    here : Placed
    here = record { at = at; address = a; bytes = b }

    -- Behind a place that fits, the places after it are left.
    pub unchecked_more : FitsIn m a b → Unchecked m image (at + taken b)
    unchecked_more h =
        let step = image_at_place at (drop at image) a b u.left f u.rest in
        record {
          all = u.all;
          left = step.0;
          whole = u.whole;
          rest = subst (λ l. Image (at + taken b) l step.0) (drop-drop (taken b) at image) step.2;
          fit = λ k. u.fit (subst (AllFit m) (sym step.1) (h, k));
          misfit = λ x n k. u.misfit x n (subst (λ l. FirstMisfit m l x n) (sym step.1) (next h k));
        }

    -- A place that does not fit is the first of the image that does not.
    pub misfit_here : (n : ℕ) → Misfits m a b n → (ps : List Placed) × Image 0 image ps × FirstMisfit m ps at n
    misfit_here n h =
        let step = image_at_place at (drop at image) a b u.left f u.rest in
        (u.all, u.whole, u.misfit at n (subst (λ l. FirstMisfit m l at n) (sym step.1) (this h)))

  -- Where no further place stands, every place fits.
  pub checked_all : ((a : ℕ) (b : List ℕ) → front (drop at image) ≡ places a b → ⊥) → (ps : List Placed) × Good m image ps
  checked_all none =
      let e = image_at_end at (drop at image) u.left none u.rest in
      (u.all, (u.whole, u.fit (subst (AllFit m) (sym e) tt)))

-- The same where an iterator over the records stands.
abbrev pub UncheckedFrom : Meaning → List ℕ → Option ℕ → Type 0
UncheckedFrom m image (Some at) = Unchecked m image at
UncheckedFrom m image None = ⊥

module _ (m : Meaning) (image : List ℕ) where
  pub unchecked_step : (o : Option ℕ) (p : ℕ × Place) (n : Option ℕ) → UncheckedFrom m image o → Gives image o (Some (Ok p)) n → FitsIn m p.1.address p.1.bytes.now → UncheckedFrom m image n
  unchecked_step (Some at) p n u h fits = subst (UncheckedFrom m image) (sym h.2) (unchecked_more m image at u p.1.address p.1.bytes.now h.1 fits)
  unchecked_step None p n u h fits = absurd u

  -- A record of an image with whole records is not at fault.
  pub unchecked_whole : (o : Option ℕ) (f : Fault) (n : Option ℕ) → UncheckedFrom m image o → Gives image o (Some (Err f)) n → ⊥
  unchecked_whole (Some at) f n u h = not_ill_formed u.rest f.at f.cause h.0
  unchecked_whole None f n u h = u

  pub unchecked_misfit : (o : Option ℕ) (p : ℕ × Place) (n : Option ℕ) (e : LineFault) → UncheckedFrom m image o → Gives image o (Some (Ok p)) n → PlaceChecks m p.1.address p.1.bytes.now (Err e) → Faulty m image p.0 (Line e)
  unchecked_misfit (Some at) p n e u h k =
      let found = misfit_here m image at u p.1.address p.1.bytes.now h.1 e.line k.0 in
      (found.0, found.1, subst (λ x. FirstMisfit m found.0 x e.line) (sym h.0) found.2, k.1)
  unchecked_misfit None p n e u h k = absurd u

  pub unchecked_none : (o n : Option ℕ) → UncheckedFrom m image o → Gives image o None n → (ps : List Placed) × Good m image ps
  unchecked_none (Some at) n u h = checked_all m image at u (λ a b f. not_end_and_place (drop at image) a b h.0 f)
  unchecked_none None n u h = absurd u

-- What the loop of check_places steps by.
pub ruleset check_steps = (unchecked_step, unchecked_whole, unchecked_misfit, unchecked_none)
