-- Lines stay 128 bytes long. These are proofs, and nothing that a reader must believe: a law can cite them only from here.
use Rattle.std.specs.Prelude.{◌≡◌, ◌*◌, ◌<◌, ℕ, zero, suc, List, length, ℤ}
use Rattle.std.proofs.Common.{◌∙◌, arith, suc-mul}
use Rattle.std.proofs.lemmas.List.{length-append}
use Rattle.word.specs.Types.{width}
use Rattle.word.specs.declared.element.ElementType.{ElementType}
use Rattle.word.specs.declared.element.ElementType.TheVariants.{U8, S8, U16, S16, U32, S32, U64, S64}
use Rattle.line.specs.Elements.{bytes, count, put}
use Rattle.line.specs.Places.{element_number}
use Rattle.line.specs.Vectors.{row, filled}
use Rattle.line.specs.declared.places.Place.{Place}
use Rattle.line.proofs.Bytes.{length-bytes}
use Rattle.line.proofs.Rows.{splice_length}
use Rattle.scalar.specs.Casts.{residue}

-- the element at a place is one of the line's
place_within : (t : ElementType) (p : Place) → element_number t p < count t
place_within U8 p = omega (arith, p.inside)
place_within S8 p = omega (arith, p.inside)
place_within U16 p = omega (arith, p.inside)
place_within S16 p = omega (arith, p.inside)
place_within U32 p = omega (arith, p.inside)
place_within S32 p = omega (arith, p.inside)
place_within U64 p = omega (arith, p.inside)
place_within S64 p = omega (arith, p.inside)

pub put_whole : (t : ElementType) (p : Place) (z : ℤ) (line : List ℕ) → length line ≡ 128 → length (put (width t) line (element_number t p) z) ≡ 128
put_whole t p z line h = splice_length t line (element_number t p) _ h (place_within t p)

length-row : (w n : ℕ) (f : ℕ → ℤ) → length (row w f n) ≡ n * w
unfolding row
length-row w zero f = omega arith
length-row w (suc n) f =
    let front = length-row w n f in
    let last = length-bytes w (residue (8 * w) (f n)) in
    length-append (row w f n) (bytes w (residue (8 * w) (f n))) ∙ omega (arith, front, last, suc-mul n w)

-- the elements of a line fill it
pub filled_whole : (t : ElementType) (z : ℤ) → length (filled t z) ≡ 128
filled_whole U8 z = length-row 1 128 (λ k. z)
filled_whole S8 z = length-row 1 128 (λ k. z)
filled_whole U16 z = length-row 2 64 (λ k. z)
filled_whole S16 z = length-row 2 64 (λ k. z)
filled_whole U32 z = length-row 4 32 (λ k. z)
filled_whole S32 z = length-row 4 32 (λ k. z)
filled_whole U64 z = length-row 8 16 (λ k. z)
filled_whole S64 z = length-row 8 16 (λ k. z)
