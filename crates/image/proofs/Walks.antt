-- Going from record to record.
use Rattle.std.proofs.Common.{◌≡◌, ℕ, ◌+◌, List, [], ◌∷◌, drop, Some, None, Ok, Err, Option, sym, refl, ap, ◌∙◌, subst, arith}
use Rattle.std.proofs.lemmas.List.{drop-drop}
use Rattle.image.specs.declared.fault.Cause.{Cause}
use Rattle.image.specs.declared.fault.Cause.TheVariants.{Form, Line}
use Rattle.image.specs.declared.fault.Fault.{Fault}
use Rattle.image.specs.declared.place.Place.{Place}
use Rattle.image.specs.Records.{Gives, IllFormed}
use Rattle.image.specs.declared.fault.ImageRefusal.{ImageRefusal}
use Rattle.image.specs.Format.{places, ends, front, taken, Placed, Image, Malformed, here, behind, later, ended, placed}

module _ (image : List ℕ) (at next a : ℕ) (b : List ℕ) (f : front (drop at image) ≡ places a b) (e : next ≡ at + taken b) where
  on : drop next image ≡ drop (taken b) (drop at image)
  on = ap (λ n. drop n image) e ∙ sym (drop-drop (taken b) at image)

  -- What is at fault behind a place is at fault from the place on.
  pub malformed_before : (x : ℕ) (r : ImageRefusal) → Malformed next (drop next image) x r → Malformed at (drop at image) x r
  malformed_before x r w = later f (subst (λ l. Malformed (at + taken b) l x r) on (subst (λ n. Malformed n (drop next image) x r) e w))

  -- Whole records behind a place are whole with the place.
  pub image_before : (ps : List Placed) → Image next (drop next image) ps → Image at (drop at image) (record { at = at; address = a; bytes = b } ∷ ps)
  image_before ps w = placed f (subst (λ l. Image (at + taken b) l ps) on (subst (λ n. Image n (drop next image) ps) e w))

-- What is true of the records from `at` on is true of the whole image.
pub record Walked (image : List ℕ) (at : ℕ) : Type 0 where
  pub malformed : (x : ℕ) (r : ImageRefusal) → Malformed at (drop at image) x r → Malformed 0 image x r
  pub whole : (ps : List Placed) → Image at (drop at image) ps → (qs : List Placed) × Image 0 image qs

pub walked_more : (image : List ℕ) (at a : ℕ) (b : List ℕ) → front (drop at image) ≡ places a b → Walked image at → Walked image (at + taken b)
walked_more image at a b f w =
    record {
      malformed = λ x r v. w.malformed x r (malformed_before image at (at + taken b) a b f refl x r v);
      whole = λ ps v. w.whole (record { at = at; address = a; bytes = b } ∷ ps) (image_before image at (at + taken b) a b f refl ps v);
    }

ill_formed_before : (image : List ℕ) (at : ℕ) → Walked image at → (x : ℕ) (c : Cause) → IllFormed at (drop at image) x c → IllFormed 0 image x c
ill_formed_before image at w x (Form r) h = w.malformed x r h
ill_formed_before image at w x (Line e) h = h

-- The same where an iterator over the records stands.
abbrev pub WalkedTo : List ℕ → Option ℕ → Type 0
WalkedTo image (Some at) = Walked image at
WalkedTo image None = ⊥

pub walked_step : (image : List ℕ) (o : Option ℕ) (p : ℕ × Place) (n : Option ℕ) → WalkedTo image o → Gives image o (Some (Ok p)) n → WalkedTo image n
walked_step image (Some at) p n w h = subst (WalkedTo image) (sym h.2) (walked_more image at p.1.address p.1.bytes.now h.1 w)
walked_step image None p n w h = absurd w

pub walked_fault : (image : List ℕ) (o : Option ℕ) (f : Fault) (n : Option ℕ) → WalkedTo image o → Gives image o (Some (Err f)) n → IllFormed 0 image f.at f.cause
walked_fault image (Some at) f n w h = ill_formed_before image at w f.at f.cause h.0
walked_fault image None f n w h = absurd w

pub walked_all : (image : List ℕ) (o n : Option ℕ) → WalkedTo image o → Gives image o None n → (ps : List Placed) × Image 0 image ps
walked_all image (Some at) n w h = w.whole [] (ended h.0 h.1)
walked_all image None n w h = absurd w

-- Whole records that begin with a place are that place and whole records behind it.
pub image_at_place :
    (at : ℕ) (bs : List ℕ) (a : ℕ) (b : List ℕ) (qs : List Placed) → front bs ≡ places a b → Image at bs qs
    → (rs : List Placed) × (qs ≡ record { at = at; address = a; bytes = b } ∷ rs) × Image (at + taken b) (drop (taken b) bs) rs
image_at_place at bs a b _ f (ended e l) = absurd cc
image_at_place at bs a b _ f (placed {a = a'} {b = b'} {ps = ps} e w) =
    let q : b' ≡ b = cc in let p : a' ≡ a = cc in (ps, cc, subst (λ y. Image (at + taken y) (drop (taken y) bs) ps) q w)

-- Whole records that begin with no place have none.
pub image_at_end : (at : ℕ) (bs : List ℕ) (qs : List Placed) → ((a : ℕ) (b : List ℕ) → front bs ≡ places a b → ⊥) → Image at bs qs → qs ≡ []
image_at_end at bs _ none (ended e l) = refl
image_at_end at bs _ none (placed {a = a} {b = b} e w) = absurd (none a b e)

-- The end and a place do not stand at one front.
pub not_end_and_place : (bs : List ℕ) (a : ℕ) (b : List ℕ) → front bs ≡ ends → front bs ≡ places a b → ⊥
not_end_and_place bs a b e f = cc

-- Whole records have none at fault.
pub image_sound : {at : ℕ} {bs : List ℕ} {ps : List Placed} {x : ℕ} {r : ImageRefusal} → Image at bs ps → Malformed at bs x r → ⊥
image_sound (ended e l) (here f) = cc
image_sound (ended e l) (behind f k) = omega arith
image_sound (ended e l) (later f w) = cc
image_sound (placed e v) (here f) = cc
image_sound (placed e v) (behind f k) = cc
image_sound {at} {bs} {x = x} {r = r} (placed {a = a} {b = b} e v) (later {a = c} {b = d} f w) =
    let same : d ≡ b = cc in image_sound v (subst (λ y. Malformed (at + taken y) (drop (taken y) bs) x r) same w)

pub not_ill_formed : {at : ℕ} {bs : List ℕ} {ps : List Placed} → Image at bs ps → (x : ℕ) (c : Cause) → IllFormed at bs x c → ⊥
not_ill_formed w x (Form r) h = image_sound w h
not_ill_formed w x (Line e) h = h

-- What the loop of check_records steps by.
pub ruleset walk_steps = (walked_step, walked_fault, walked_all)
