-- Bytes and the numbers that they make, in a line of any length.
use Rattle.std.proofs.Common.{◌≡◌, ℕ, zero, suc, ◌+◌, ◌-◌, ◌*◌, ◌/◌, ◌%◌, ◌^◌, ◌<◌, ◌≤◌, ◌⊎◌, List, [], ◌∷◌, ◌++◌, length, take, drop, get_or, set, replicate, sym, refl, ap, ap₂, ◌∙◌, ⊎_elim, add-one, zero-mul, arith}
use borrow.Rule.Slice.PartMut.{put_mid}
use lib.Pow.{field, mod-mod-pow}
use Rattle.word.specs.Types.{width}
use Rattle.word.specs.declared.element.ElementType.{ElementType}
use Rattle.word.specs.declared.element.ElementType.TheVariants.{U8, S8, U16, S16, U32, S32, U64, S64}
use Rattle.line.specs.Elements.{number, bytes, splice}
use Rattle.std.proofs.lemmas.Grind.{elements}
use Rattle.std.proofs.lemmas.List.{append_assoc, length-append, length-take-le, length-drop, length_push, take_at, drop-drop, set_split}

-- the width of a type that is one of two
pub width_is : (t s u v : ElementType) (w : ℕ) → t ≡ s → (t ≡ u) ⊎ (t ≡ v) → width u ≡ w → width v ≡ w → width s ≡ w
width_is t s u v w is one first second = ap width (sym is) ∙ ⊎_elim (λ e. ap width e ∙ first) (λ e. ap width e ∙ second) one

pub length-bytes : (w m : ℕ) → length (bytes w m) ≡ w
unfolding bytes
length-bytes zero m = refl
length-bytes (suc zero) m = refl
length-bytes (suc (suc w)) m = length_push (bytes (suc w) m) (m / 256 ^ suc w % 256) ∙ add-one _ ∙ ap suc (length-bytes (suc w) m)

-- the lowest bytes of eight
pub front_bytes : (t : ElementType) (v : ℕ) → take (width t) (bytes 8 v) ≡ bytes (width t) v
unfolding bytes
front_bytes U8 v = refl
front_bytes S8 v = refl
front_bytes U16 v = refl
front_bytes S16 v = refl
front_bytes U32 v = refl
front_bytes S32 v = refl
front_bytes U64 v = refl
front_bytes S64 v = refl

-- a byte of a number that was cut above it
kept : (v j k : ℕ) → v % 2 ^ (j + 8 + k) / 2 ^ k % 2 ^ 8 ≡ v / 2 ^ k % 2 ^ 8
kept v j k = ap (λ x. x % 2 ^ 8) (field v (j + 8) k) ∙ mod-mod-pow (v / 2 ^ k) j 8

-- the lowest two bytes of a number that was cut to them
pub lowest_two : (v : ℕ) → (v % 65536 % 256) ∷ (v % 65536 / 256 % 256) ∷ [] ≡ bytes 2 v
unfolding bytes
lowest_two v = λ i. mod-mod-pow v 8 8 i ∷ kept v 0 8 i ∷ []

-- the lowest four bytes of a number that was cut to them
pub lowest_four : (v : ℕ) → (v % 4294967296 % 256) ∷ (v % 4294967296 / 256 % 256) ∷ (v % 4294967296 / 65536 % 256) ∷ (v % 4294967296 / 16777216 % 256) ∷ [] ≡ bytes 4 v
unfolding bytes
lowest_four v = λ i. mod-mod-pow v 24 8 i ∷ kept v 16 8 i ∷ kept v 8 16 i ∷ kept v 0 24 i ∷ []

-- a number by its bytes
number-suc : (n : ℕ) (xs : List ℕ) (p : ℕ) → number (suc n) xs p ≡ number n xs p + get_or xs (p + n) 0 * 256 ^ n
unfolding number
number-suc zero xs p =
    let here : p + 0 ≡ p = omega arith in
    let is : get_or xs (p + 0) 0 ≡ get_or xs p 0 = ap (λ i. get_or xs i 0) here in
    omega (arith, is)
number-suc (suc n) xs p = refl

number_same : (n : ℕ) (xs ys : List ℕ) (p q : ℕ) → ((i : ℕ) → i < n → get_or xs (p + i) 0 ≡ get_or ys (q + i) 0) → number n xs p ≡ number n ys q
unfolding number
number_same zero xs ys p q e = refl
number_same (suc n) xs ys p q e =
    number-suc n xs p ∙ ap₂ (λ a b. a + b * 256 ^ n) (number_same n xs ys p q (λ i h. e i (omega arith))) (e n (omega arith)) ∙ sym (number-suc n ys q)

-- bytes that are zero add nothing
number_cut : (d n : ℕ) (xs : List ℕ) → ((i : ℕ) → n ≤ i → get_or xs i 0 ≡ 0) → number (d + n) xs 0 ≡ number n xs 0
number_cut zero n xs e = let none : zero + n ≡ n = omega arith in ap (λ k. number k xs 0) none
number_cut (suc d) n xs e =
    let last : get_or xs (0 + (d + n)) 0 ≡ 0 = e (0 + (d + n)) (omega arith) in
    let next : suc d + n ≡ suc (d + n) = omega arith in
    let product : 0 * 256 ^ (d + n) ≡ 0 = zero-mul (256 ^ (d + n)) in
    ap (λ k. number k xs 0) next ∙ number-suc (d + n) xs 0 ∙ ap₂ (λ a b. a + b * 256 ^ (d + n)) (number_cut d n xs e) last ∙ omega (arith, product)

-- w bytes of a line, with zeros above them
pub number_loaded : (w p : ℕ) (line : List ℕ) → w ≤ 8 → p + w ≤ length line → number 8 (take w (drop p line) ++ drop w (0 ∷ 0 ∷ 0 ∷ 0 ∷ 0 ∷ 0 ∷ 0 ∷ 0 ∷ [])) 0 ≡ number w line p
number_loaded w p line small inside =
    let all : 8 ≡ 8 - w + w = omega arith in
    ap (λ k. number k loaded 0) all ∙ number_cut (8 - w) w loaded above ∙ number_same w loaded line 0 p below
  where
    loaded : List ℕ
    loaded = take w (drop p line) ++ drop w (replicate 8 0)

    long : length (take w (drop p line)) ≡ w
    long = length-take-le w (drop p line) (omega (arith, length-drop p line))

    above : (i : ℕ) → w ≤ i → get_or loaded i 0 ≡ 0
    above i h = grind (arith, elements)

    below : (i : ℕ) → i < w → get_or loaded (0 + i) 0 ≡ get_or line (p + i) 0
    below i h = grind (arith, elements)

-- a write of a part is a splice
pub spliced : (line : List ℕ) (p k : ℕ) (bs cs : List ℕ) → cs ≡ bs → k ≡ length bs → put_mid p k line cs ≡ splice line p bs
unfolding splice
spliced line p k bs cs e h = ap (λ x. put_mid p k line x) e ∙ ap (λ i. take p line ++ (bs ++ drop i (drop p line))) h ∙ ap (λ x. take p line ++ (bs ++ x)) (drop-drop (length bs) p line)

-- a write of one byte is a splice
pub spliced_one : (line : List ℕ) (p b : ℕ) → p < length line → set line p b ≡ splice line p (b ∷ [])
unfolding splice
spliced_one line p b h = set_split line p b h ∙ ap (λ i. take p line ++ (b ∷ drop i line)) (sym (add-one p))

module _ (line : List ℕ) (p : ℕ) (bs : List ℕ) (h : p + length bs ≤ length line) where
  pub length-splice : length (splice line p bs) ≡ length line
  unfolding splice
  length-splice =
      let front : length (take p line) ≡ p = length-take-le p line (omega arith) in
      simp (length-append, length-drop) (omega arith)

  pub take-splice : take (p + length bs) (splice line p bs) ≡ take p line ++ bs
  unfolding splice
  take-splice =
      let front : length (take p line) ≡ p = length-take-le p line (omega arith) in
      ap (take (p + length bs)) (sym (append_assoc (take p line) bs (drop (p + length bs) line)))
      ∙ take_at (take p line ++ bs) (drop (p + length bs) line) (p + length bs) (length-append (take p line) bs ∙ ap (λ n. n + length bs) front)
