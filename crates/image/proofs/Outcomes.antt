-- An image has one outcome in a store: what is said of it by `Loads` is said of one result and one store only.
use Rattle.std.proofs.Common.{◌≡◌, ℕ, ◌+◌, true, List, ◌∷◌, drop, Ok, Err, Result, sym, refl, ap, ◌∙◌, subst, ⊎_elim}
use Rattle.std.proofs.lemmas.Bool.{cases_order, both_ways}
use Rattle.image.specs.declared.fault.ImageRefusal.{ImageRefusal}
use Rattle.store.specs.Meaning.{Meaning}
use Rattle.store.specs.Rules.{refused}
use Rattle.image.specs.declared.fault.Cause.{Cause}
use Rattle.image.specs.declared.fault.Cause.TheVariants.{Form, Line}
use Rattle.image.specs.declared.fault.Fault.{Fault}
use Rattle.image.specs.Format.{bad, taken, Placed, Image, ended, placed, Malformed, here, behind, later}
use Rattle.image.specs.Placing.{line_at, FitsIn, Misfits}
use Rattle.image.specs.Loading.{AllFit, FirstMisfit, this, next, put_all, Faulty, Loads}
use Rattle.image.proofs.Walks.{image_at_place, image_at_end, not_end_and_place, image_sound}

-- The places of an image are determined.
image_one : {at : ℕ} {bs : List ℕ} {ps : List Placed} (qs : List Placed) → Image at bs ps → Image at bs qs → ps ≡ qs
image_one {at} {bs} qs (ended e l) v = sym (image_at_end at bs qs (λ a b f. not_end_and_place bs a b e f) v)
image_one {at} {bs} qs (placed {a = a} {b = b} e w) v =
    let step = image_at_place at bs a b qs e v in
    ap (λ l. record { at = at; address = a; bytes = b } ∷ l) (image_one step.0 w step.2) ∙ sym step.1

-- The first record at fault is determined.
malformed_one :
    {at : ℕ} {bs : List ℕ} {x y : ℕ} {r s : ImageRefusal} → Malformed at bs x r → Malformed at bs y s → (x ≡ y) × (r ≡ s)
malformed_one {r = r} {s = s} (here e) (here f) = let n : bad r ≡ bad s = sym e ∙ f in (refl, cc)
malformed_one (here e) (behind f k) = absurd cc
malformed_one (here e) (later f w) = absurd cc
malformed_one (behind e k) (here f) = absurd cc
malformed_one (behind e k) (behind f l) = (refl, refl)
malformed_one (behind e k) (later f w) = absurd cc
malformed_one (later e v) (here f) = absurd cc
malformed_one (later e v) (behind f k) = absurd cc
malformed_one {at} {bs} {y = y} {s = s} (later {a = a} {b = b} e v) (later {a = c} {b = d} f w) =
    let same : d ≡ b = cc in malformed_one v (subst (λ z. Malformed (at + taken z) (drop (taken z) bs) y s) same w)

module _ (m : Meaning) where
  -- A place fits or has a first line at fault, and not both; and that line is one.
  misfits_not : (a : ℕ) (b : List ℕ) (n : ℕ) → Misfits m a b n → FitsIn m a b → ⊥
  misfits_not a b n h fits =
      both_ways (m.canwrite n) h.3 (subst (λ k. m.canwrite k ≡ true) h.2 (fits h.0 h.1))

  misfits_one : (a : ℕ) (b : List ℕ) (n k : ℕ) → Misfits m a b n → Misfits m a b k → n ≡ k
  misfits_one a b n k h g =
      ⊎_elim (λ e. sym h.2 ∙ ap (line_at a) e ∙ g.2)
      (⊎_elim
      (λ l. absurd (both_ways (m.canwrite n) h.3 (subst (λ y. m.canwrite y ≡ true) h.2 (g.4 h.0 l))))
      (λ l. absurd (both_ways (m.canwrite k) g.3 (subst (λ y. m.canwrite y ≡ true) g.2 (h.4 g.0 l)))))
      (cases_order h.0 g.0)

  first_not : {ps : List Placed} {x n : ℕ} → FirstMisfit m ps x n → AllFit m ps → ⊥
  first_not {x = x} {n = n} (this {p = p} h) fits = misfits_not p.address p.bytes n h fits.0
  first_not (next h w) fits = first_not w fits.1

  first_one : {ps : List Placed} {x y n k : ℕ} → FirstMisfit m ps x n → FirstMisfit m ps y k → (x ≡ y) × (n ≡ k)
  first_one {n = n} {k = k} (this {p = p} h) (this g) = (refl, misfits_one p.address p.bytes n k h g)
  first_one {n = n} (this {p = p} h) (next g w) = absurd (misfits_not p.address p.bytes n h g)
  first_one {k = k} (next {p = p} h v) (this g) = absurd (misfits_not p.address p.bytes k g h)
  first_one (next h v) (next g w) = first_one v w

  same_fault : (f g : Fault) → f.cause ≡ g.cause → f.at ≡ g.at → f ≡ g
  same_fault f g p q = λ i. record { cause = p i; at = q i }

  faulty_one : (image : List ℕ) (x y : ℕ) (c d : Cause) → Faulty m image x c → Faulty m image y d → (c ≡ d) × (x ≡ y)
  faulty_one image x y (Form r) (Form s) h g = let e = malformed_one h g in (ap Form e.1, e.0)
  faulty_one image x y (Form r) (Line e) h g = absurd (image_sound g.1 h)
  faulty_one image x y (Line e) (Form s) h g = absurd (image_sound h.1 g)
  faulty_one image x y (Line e) (Line d) h g =
      let same = image_one g.0 h.1 g.1 in
      let one = first_one h.2 (subst (λ l. FirstMisfit m l y d.line) (sym same) g.2) in
      (ap Line (h.3 ∙ ap (refused m) one.1 ∙ sym g.3), one.0)

  fits_not_faulty : (image : List ℕ) (ps : List Placed) (x : ℕ) (c : Cause) → Image 0 image ps → AllFit m ps → Faulty m image x c → ⊥
  fits_not_faulty image ps x (Form r) w fits h = image_sound w h
  fits_not_faulty image ps x (Line e) w fits h = first_not h.2 (subst (AllFit m) (image_one h.0 w h.1) fits)

  pub one_outcome :
      (image : List ℕ) (r s : Result (Unit {0}) Fault) (a b : Meaning) → Loads m image r a → Loads m image s b → (s ≡ r) × (b ≡ a)
  one_outcome image (Ok _) (Ok _) a b h g =
      (refl, g.2 ∙ ap (put_all m) (image_one h.0 g.1.0 h.1.0) ∙ sym h.2)
  one_outcome image (Ok _) (Err f) a b h g =
      absurd (fits_not_faulty image h.0 f.at f.cause h.1.0 h.1.1 g.0)
  one_outcome image (Err f) (Ok _) a b h g =
      absurd (fits_not_faulty image g.0 f.at f.cause g.1.0 g.1.1 h.0)
  one_outcome image (Err f) (Err d) a b h g =
      let one = faulty_one image d.at f.at d.cause f.cause g.0 h.0 in
      (ap Err (same_fault d f one.0 one.1), g.1 ∙ sym h.1)
