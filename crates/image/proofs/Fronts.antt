-- Which record stands at the front of some bytes, and that it lies within them.
use Rattle.std.proofs.Common.{◌≡◌, ℕ, ◌+◌, ◌<◌, ◌≤◌, ◌≢◌, List, length, drop, Some, None, Err, Option, arith, length-drop, length-take}
use Rattle.std.proofs.lemmas.List.{take_rest}
use Rattle.image.specs.declared.fault.ImageRefusal.{ImageRefusal}
use Rattle.image.specs.declared.fault.ImageRefusal.TheVariants.{Cut, Kind}
use Rattle.image.specs.declared.fault.Cause.TheVariants.{Form}
use Rattle.image.specs.Records.{Gives}
use Rattle.std.proofs.lemmas.Bool.Decides.{nat_tests}
use Rattle.image.specs.Format.{places, ends, bad, front, front_place, front_end, body_length, kind, taken, here, behind}

module _ (bs : List ℕ) where
  -- A record without a whole header is cut.
  pub front_cut : length bs < 6 → front bs ≡ bad Cut
  unfolding front
  front_cut h = grind (arith, nat_tests)

  module _ (h : 6 ≤ length bs) where
    -- A record of kind 1 is read as a place.
    pub front_is_place : kind bs ≡ 1 → front bs ≡ front_place bs
    unfolding front
    front_is_place k = grind (arith, nat_tests)

    -- A record of kind 2 is read as an end.
    pub front_is_end : kind bs ≡ 2 → front bs ≡ front_end bs
    unfolding front
    front_is_end k = grind (arith, nat_tests)

    -- A record of another kind is at fault.
    pub front_unknown : kind bs ≢ 1 → kind bs ≢ 2 → front bs ≡ bad Kind
    unfolding front
    front_unknown n m = grind (arith, nat_tests)

    -- An end with no body ends the image.
    pub front_ends : kind bs ≡ 2 → body_length bs ≡ 0 → front bs ≡ ends
    unfolding front
    front_ends k z = grind (arith, nat_tests)

    -- An end with a body is at fault.
    pub front_full_end : kind bs ≡ 2 → body_length bs ≢ 0 → front bs ≡ bad Kind
    unfolding front
    front_full_end k z = grind (arith, nat_tests)

-- A record that places bytes lies within the bytes that it stands in.
pub places_within : (bs : List ℕ) (a : ℕ) (b : List ℕ) → front bs ≡ places a b → taken b ≤ length bs
unfolding front
places_within bs a b e = grind (arith, nat_tests, length-take {A = ℕ}, length-drop {A = ℕ})

-- An end lies within the bytes that it stands in.
pub ends_within : (bs : List ℕ) → front bs ≡ ends → 6 ≤ length bs
unfolding front
ends_within bs e = grind (arith, nat_tests)

-- A record at fault, and bytes behind the end, are the first at fault from there on.
pub fault_here : (image : List ℕ) (at : ℕ) (o n : Option ℕ) (r : ImageRefusal) → Some at ≡ o → front (drop at image) ≡ bad r → n ≡ None → Gives image o (Some (Err (record { cause = Form r; at = at }))) n
fault_here image at o n r p f e = rw (← p) (here f, e)

pub fault_behind : (image : List ℕ) (at : ℕ) (o n : Option ℕ) → Some at ≡ o → front (drop at image) ≡ ends → length (drop at image) ≢ 6 → n ≡ None → Gives image o (Some (Err (record { cause = Form Cut; at = at + 6 }))) n
fault_behind image at o n p f h e =
    let within = ends_within (drop at image) f in
    let long : 6 < length (drop at image) = omega arith in
    rw (← p) (behind f long, e)

-- What reading a record steps by.
pub ruleset front_steps = (places_within, fault_here, fault_behind, take_rest, length-drop, length-take)
