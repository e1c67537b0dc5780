-- Writing the places of an image one after the other.
use Rattle.std.proofs.Common.{◌≡◌, ℕ, ◌+◌, List, [], ◌∷◌, drop, Some, None, Ok, Err, Option, Result, rules, sym, refl, ap, ◌∙◌, subst}
use Rattle.std.proofs.lemmas.List.{drop-drop}
use Rattle.store.specs.Meaning.{Meaning}
use Rattle.std.specs.Result.{IsOk}
use Rattle.image.specs.declared.fault.Fault.{Fault}
use Rattle.image.specs.declared.place.Place.{Place}
use Rattle.image.specs.Records.{Gives}
use Rattle.image.specs.Format.{Placed, Image, front, places, taken}
use Rattle.image.specs.Placing.{FitsIn, put}
use Rattle.image.specs.Loading.{AllFit, Good, put_all}
use Rattle.image.proofs.Walks.{image_at_place, image_at_end, not_end_and_place, not_ill_formed}

-- Of the places of a good image, those from `at` on are left, and writing them into what the store now is comes to writing all into what it was.
pub record Unwritten (was : Meaning) (image : List ℕ) (at : ℕ) (is : Meaning) : Type 0 where
  pub all : List Placed
  pub left : List Placed
  pub good : Good was image all
  pub rest : Image at (drop at image) left
  pub fit : AllFit is left
  pub same : put_all is left ≡ put_all was all

-- Before the first record, all places of a good image are left.
pub unwritten_all : (m : Meaning) (image : List ℕ) (ps : List Placed) → Good m image ps → Unwritten m image 0 m
unwritten_all m image ps w = record { all = ps; left = ps; good = w; rest = w.0; fit = w.1; same = refl }

-- Writing bytes does not change which lines can be written.
fit_put : (m : Meaning) (a : ℕ) (b : List ℕ) (ps : List Placed) → AllFit m ps → AllFit (put m a b) ps
unfolding put
fit_put m a b [] h = tt
fit_put m a b (p ∷ ps) h = (h.0, fit_put m a b ps h.1)

module _ (was : Meaning) (image : List ℕ) (at : ℕ) (is : Meaning) (u : Unwritten was image at is) where
  module _ (a : ℕ) (b : List ℕ) (f : front (drop at image) ≡ places a b) where
    step : (rs : List Placed) × (u.left ≡ record { at = at; address = a; bytes = b } ∷ rs) × Image (at + taken b) (drop (taken b) (drop at image)) rs
    step = image_at_place at (drop at image) a b u.left f u.rest

    fits : FitsIn is a b × AllFit is step.0
    fits = subst (AllFit is) step.1 u.fit

    -- The next place fits what the store now is.
    pub fits_here : FitsIn is a b
    fits_here = fits.0

    -- Once it is written, the places after it are left.
    pub unwritten_more : (next : Meaning) → next ≡ put is a b → Unwritten was image (at + taken b) next
    unwritten_more next e =
        record {
          all = u.all;
          left = step.0;
          good = u.good;
          rest = subst (λ l. Image (at + taken b) l step.0) (drop-drop (taken b) at image) step.2;
          fit = subst (λ m. AllFit m step.0) (sym e) (fit_put is a b step.0 fits.1);
          same = ap (λ m. put_all m step.0) e ∙ sym (ap (put_all is) step.1) ∙ u.same;
        }

  -- Where no further place stands, all places are written.
  pub written_all :
      ((a : ℕ) (b : List ℕ) → front (drop at image) ≡ places a b → ⊥) → (ps : List Placed) × Good was image ps × (is ≡ put_all was ps)
  written_all none =
      let e = image_at_end at (drop at image) u.left none u.rest in
      (u.all, u.good, sym (ap (put_all is) e) ∙ u.same)

-- The same where an iterator over the records stands.
abbrev pub UnwrittenFrom : Meaning → List ℕ → Option ℕ → Meaning → Type 0
UnwrittenFrom was image (Some at) is = Unwritten was image at is
UnwrittenFrom was image None is = ⊥

module _ (was : Meaning) (image : List ℕ) (is : Meaning) where
  -- Of whole records each is read.
  pub unwritten_ok : (o : Option ℕ) (r : Result (ℕ × Place) Fault) (n : Option ℕ) → UnwrittenFrom was image o is → Gives image o (Some r) n → IsOk r
  unwritten_ok (Some at) (Ok p) n u h = search rules
  unwritten_ok (Some at) (Err f) n u h = absurd (not_ill_formed u.rest f.at f.cause h.0)
  unwritten_ok None r n u h = absurd u

  pub unwritten_fits : (o : Option ℕ) (p : ℕ × Place) (n : Option ℕ) → UnwrittenFrom was image o is → Gives image o (Some (Ok p)) n → FitsIn is p.1.address p.1.bytes.now
  unwritten_fits (Some at) p n u h = fits_here was image at is u p.1.address p.1.bytes.now h.1
  unwritten_fits None p n u h = absurd u

  pub unwritten_step : (o : Option ℕ) (p : ℕ × Place) (n : Option ℕ) (next : Meaning) → UnwrittenFrom was image o is → Gives image o (Some (Ok p)) n → next ≡ put is p.1.address p.1.bytes.now → UnwrittenFrom was image n next
  unwritten_step (Some at) p n next u h e = subst (λ k. UnwrittenFrom was image k next) (sym h.2) (unwritten_more was image at is u p.1.address p.1.bytes.now h.1 next e)
  unwritten_step None p n next u h e = absurd u

  pub unwritten_none : (o n : Option ℕ) → UnwrittenFrom was image o is → Gives image o None n → (ps : List Placed) × Good was image ps × (is ≡ put_all was ps)
  unwritten_none (Some at) n u h = written_all was image at is u (λ a b f. not_end_and_place (drop at image) a b h.0 f)
  unwritten_none None n u h = absurd u

-- What the loop of put_places steps by.
pub ruleset put_steps = (unwritten_ok, unwritten_fits, unwritten_step, unwritten_none)
