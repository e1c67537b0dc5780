-- Lines that are written element by element.
use Rattle.std.proofs.Common.{◌≡◌, ℕ, zero, suc, ◌+◌, ◌*◌, ◌<◌, ◌≤◌, List, [], ◌++◌, length, take, ℤ, sym, refl, ap, ap₂, ◌∙◌, add-mul, mul-le-mul_right, suc-mul, zero-mul, add-one, arith}
use Rattle.word.specs.Types.{bits, width}
use Rattle.word.specs.declared.element.ElementType.{ElementType}
use Rattle.word.specs.declared.element.ElementType.TheVariants.{U8, S8, U16, S16, U32, S32, U64, S64}
use Rattle.line.specs.Elements.{bytes, splice, count, element, zero_line}
use Rattle.line.specs.Vectors.{row, line_of}
use Rattle.line.proofs.Bytes.{length-bytes, length-splice, take-splice}
use Rattle.scalar.specs.Arithmetic.{applied, remainder, cut_remainder}
use Rattle.scalar.specs.Casts.{residue, cast}
use Rattle.scalar.proofs.Casts.{residue-cast, cast-cast}
use Rattle.std.proofs.lemmas.List.{take_all, length-replicate}

-- the elements of a line fill it
count_width : (t : ElementType) → count t * width t ≡ 128
count_width U8 = refl
count_width S8 = refl
count_width U16 = refl
count_width S16 = refl
count_width U32 = refl
count_width S32 = refl
count_width U64 = refl
count_width S64 = refl

-- element k lies in the line
pub within : (t : ElementType) (k : ℕ) → k < count t → k * width t + width t ≤ 128
within t k h = let more : suc k * width t ≤ count t * width t = mul-le-mul_right (width t) h in omega (arith, more, suc-mul k (width t), count_width t)

-- a line of which the elements below k are those of f
abbrev pub Made : ElementType → (ℕ → ℤ) → List ℕ → ℕ → Type 0
Made t f line k = (length line ≡ 128) × (take (k * width t) line ≡ row (width t) f k)

pub zero_length : length zero_line ≡ 128
zero_length = length-replicate {A = ℕ} 128 0

pub row_none : (w : ℕ) (f : ℕ → ℤ) → row w f 0 ≡ []
unfolding row
row_none w f = refl

-- one element more
pub row_more : (w : ℕ) (f : ℕ → ℤ) (k : ℕ) → row w f (k + 1) ≡ row w f k ++ bytes w (residue (8 * w) (f k))
unfolding row
row_more w f k = ap (row w f) (add-one k)

module _ (t : ElementType) (line : List ℕ) (k v : ℕ) (long : length line ≡ 128) (h : k < count t) where
  inside : k * width t + length (bytes (width t) v) ≤ length line
  inside = omega (arith, within t k h, length-bytes (width t) v)

  pub splice_length : length (splice line (k * width t) (bytes (width t) v)) ≡ 128
  splice_length = length-splice line (k * width t) (bytes (width t) v) inside ∙ long

  pub splice_more : take ((k + 1) * width t) (splice line (k * width t) (bytes (width t) v)) ≡ take (k * width t) line ++ bytes (width t) v
  splice_more =
      let next : (k + 1) * width t ≡ k * width t + length (bytes (width t) v) = omega (arith, add-mul k 1 (width t), length-bytes (width t) v) in
      ap (λ n. take n (splice line (k * width t) (bytes (width t) v))) next ∙ take-splice line (k * width t) (bytes (width t) v) inside

-- elements with the same residues
pub row_same : (w : ℕ) (f g : ℕ → ℤ) (n : ℕ) → ((k : ℕ) → k < n → residue (8 * w) (f k) ≡ residue (8 * w) (g k)) → row w f n ≡ row w g n
unfolding row
row_same w f g zero e = refl
row_same w f g (suc n) e = ap₂ (λ a b. a ++ bytes w b) (row_same w f g n (λ k h. e k (omega arith))) (e n (omega arith))

-- an element is a number of its type
pub element-cast : (t : ElementType) (line : List ℕ) (k : ℕ) → cast t (element t line k) ≡ element t line k
unfolding element
element-cast t line k = cast-cast t _

-- so an operation on elements needs no cast before it, and its residue none after it
pub residue-applied : (make : ℕ → ℤ → ℤ → ℤ) (t : ElementType) (x y : List ℕ) (k : ℕ) → residue (bits t) (make (bits t) (element t x k) (element t y k)) ≡ residue (bits t) (applied make t (element t x k) (element t y k))
residue-applied make t x y k =
    ap₂ (λ a b. residue (bits t) (make (bits t) a b)) (sym (element-cast t x k)) (sym (element-cast t y k)) ∙ sym (residue-cast t (make (bits t) (cast t (element t x k)) (cast t (element t y k))))

-- a remainder of elements needs no cast before it either
pub residue-remainder : (t : ElementType) (x y : List ℕ) (k : ℕ) → residue (bits t) (cut_remainder (element t x k) (element t y k)) ≡ residue (bits t) (remainder t (element t x k) (element t y k))
residue-remainder t x y k = ap₂ (λ a b. residue (bits t) (cut_remainder a b)) (sym (element-cast t x k)) (sym (element-cast t y k))

-- no element of a line, and all
pub none_taken : (t : ElementType) (line : List ℕ) → take (0 * width t) line ≡ []
none_taken t line = ap (λ n. take n line) (zero-mul (width t))

pub all_taken : (t : ElementType) (line : List ℕ) (k : ℕ) → length line ≡ 128 → k ≡ count t → take (k * width t) line ≡ line
all_taken t line k long e = take_all (k * width t) line (omega (arith, ap (λ n. n * width t) e, count_width t))

pub row_all : (t : ElementType) (f : ℕ → ℤ) (k : ℕ) → k ≡ count t → row (width t) f k ≡ row (width t) f (count t)
row_all t f k e = ap (row (width t) f) e

-- a line of which no element is made yet
pub made_none : (t : ElementType) (f : ℕ → ℤ) (line : List ℕ) → length line ≡ 128 → Made t f line 0
made_none t f line e = (e, none_taken t line ∙ sym (row_none (width t) f))

-- a line of which one element more, of n, is made
pub made_more : (t : ElementType) (f : ℕ → ℤ) (line after : List ℕ) (k n v : ℕ) → n ≡ count t → k < n → Made t f line k → v ≡ residue (bits t) (f k) → after ≡ splice line (k * width t) (bytes (width t) v) → Made t f after (k + 1)
made_more t f line after k n v all h (long, inv) is e =
    let few : k < count t = omega arith in (
      ap length e ∙ splice_length t line k v long few,
      ap (take ((k + 1) * width t)) e ∙ splice_more t line k v long few ∙ ap₂ (λ a b. a ++ bytes (width t) b) inv is ∙ sym (row_more (width t) f k),
    )

-- a line of which all elements are made
pub made_all : (t : ElementType) (f : ℕ → ℤ) (line : List ℕ) (k n : ℕ) → n ≡ count t → k ≤ n → n ≤ k → Made t f line k → line ≡ line_of t f
made_all t f line k n all low high (long, inv) = let is : k ≡ count t = omega arith in sym (all_taken t line k long is) ∙ inv ∙ row_all t f k is

pub ruleset rows = (row_none, row_more, row_all, splice_length, splice_more, none_taken, all_taken, zero_length, element-cast, residue-cast)
