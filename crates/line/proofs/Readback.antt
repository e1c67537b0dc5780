-- What is written is read back.
use Rattle.std.proofs.Common.{◌≡◌, ℕ, zero, suc, ◌+◌, ◌*◌, ◌/◌, ◌%◌, ◌^◌, ◌<◌, ◌≤◌, List, [], ◌∷◌, ◌++◌, length, get_or, take, drop, ℤ, pos, sym, refl, ap, ◌∙◌, ap₂, ⊎_elim, suc-mul, pow-suc, zero-mul, arith}
use lib.Arith.{mod-mul}
use native.Mathlib.Nat.{mod-one, pow-succ'}
use Rattle.word.specs.Types.{bits, width}
use Rattle.word.specs.declared.element.ElementType.{ElementType}
use Rattle.word.specs.declared.element.ElementType.TheVariants.{U8, S8, U16, S16, U32, S32, U64, S64}
use Rattle.line.specs.Elements.{number, bytes, splice, count, element}
use Rattle.line.specs.Vectors.{row, line_of}
use Rattle.line.proofs.Bytes.{length-bytes}
use Rattle.scalar.specs.Casts.{residue, cast}
use Rattle.scalar.proofs.Casts.{cast-residue, cast_same, residue-cast}
use Rattle.scalar.proofs.Residues.{residue-pos}
use Rattle.line.proofs.Rows.{within}
use Rattle.std.proofs.lemmas.Int.{to_z-of_z}
use Rattle.std.proofs.lemmas.Bool.{cases_eq}
use Rattle.std.proofs.lemmas.List.{append_assoc, append-nil, length-append, length-take-le, get_or-append-add, get_or_at}

pow_pos' : (w : ℕ) → 0 < 256 ^ w
pow_pos' zero = omega arith
pow_pos' (suc w) = omega (arith, pow-suc 256 w, pow_pos' w)

-- the number of the bytes of a number
pub number-bytes : (w m : ℕ) (xs ys : List ℕ) → number w (xs ++ (bytes w m ++ ys)) (length xs) ≡ m % 256 ^ w
unfolding number bytes
number-bytes zero m xs ys = sym (mod-one m)
number-bytes (suc zero) m xs ys = ap (λ n. get_or (xs ++ (m % 256 ∷ ys)) n 0) (omega arith) ∙ get_or-append-add xs (m % 256 ∷ ys) 0 0
number-bytes (suc (suc w)) m xs ys =
    let d = m / 256 ^ suc w % 256 in
    let low = bytes (suc w) m in
    let end = append_assoc low (d ∷ []) ys in
    let first : number (suc w) (xs ++ (low ++ d ∷ [] ++ ys)) (length xs) ≡ m % 256 ^ suc w = ap (λ l. number (suc w) (xs ++ l) (length xs)) end ∙ number-bytes (suc w) m xs (d ∷ ys) in
    let top : get_or (xs ++ (low ++ d ∷ [] ++ ys)) (length xs + suc w) 0 ≡ d =
    get_or-append-add xs (low ++ d ∷ [] ++ ys) (suc w) 0 ∙ ap (λ l. get_or l (suc w) 0) end ∙ get_or_at low d ys 0 (suc w) (length-bytes (suc w) m) in
    let whole : m % 256 ^ suc (suc w) ≡ d * 256 ^ suc w + m % 256 ^ suc w = ap (λ n. m % n) (pow-succ' 256 (suc w)) ∙ mod-mul m (omega arith) (pow_pos' (suc w)) in
    ap₂ (λ a b. a + b * 256 ^ suc w) first top ∙ sym (whole ∙ omega arith)

-- the numbers below 256 ^ width are those of the type's bits
bits-width : (t : ElementType) → 256 ^ width t ≡ 2 ^ bits t
bits-width U8 = refl
bits-width S8 = refl
bits-width U16 = refl
bits-width S16 = refl
bits-width U32 = refl
bits-width S32 = refl
bits-width U64 = refl
bits-width S64 = refl

-- an element whose bytes lie between other bytes
bytes_between : (t : ElementType) (v : ℕ) (xs ys : List ℕ) (k : ℕ) → length xs ≡ k * width t → element t (xs ++ (bytes (width t) v ++ ys)) k ≡ cast t (pos v)
unfolding element
bytes_between t v xs ys k h =
    let line = xs ++ (bytes (width t) v ++ ys) in
    let is : number (width t) line (k * width t) ≡ v % 2 ^ bits t = ap (number (width t) line) (sym h) ∙ number-bytes (width t) v xs ys ∙ ap (λ n. v % n) (bits-width t) in
    ap (λ n. cast t (pos n)) (is ∙ sym (residue-pos (bits t) v)) ∙ cast-residue t (pos v)

-- an element that lies between other bytes
pub element_between : (t : ElementType) (z : ℤ) (xs ys : List ℕ) (k : ℕ) → length xs ≡ k * width t → element t (xs ++ (bytes (width t) (residue (bits t) z) ++ ys)) k ≡ cast t z
element_between t z xs ys k h = bytes_between t (residue (bits t) z) xs ys k h ∙ cast-residue t z

-- an element that was put
pub element-put : (t : ElementType) (z : ℤ) (line : List ℕ) (k : ℕ) → k * width t ≤ length line → element t (splice line (k * width t) (bytes (width t) (residue (bits t) z))) k ≡ cast t z
unfolding splice
element-put t z line k h = element_between t z (take (k * width t) line) (drop (k * width t + length (bytes (width t) (residue (bits t) z))) line) k (length-take-le (k * width t) line h)

-- an element that was written
pub element_written : (t : ElementType) (line : List ℕ) (k v : ℕ) → length line ≡ 128 → k < count t → element t (splice line (k * width t) (bytes (width t) v)) k ≡ cast t (pos v)
unfolding splice
element_written t line k v long h =
    bytes_between t v (take (k * width t) line) (drop (k * width t + length (bytes (width t) v)) line) k (length-take-le (k * width t) line (omega (arith, within t k h)))

pub ruleset written = (element_written, to_z-of_z)

-- a row is as long as its elements
pub length-row : (w : ℕ) (f : ℕ → ℤ) (n : ℕ) → length (row w f n) ≡ n * w
unfolding row
length-row w f zero = sym (zero-mul w)
length-row w f (suc n) =
    length-append (row w f n) (bytes w (residue (8 * w) (f n))) ∙ ap₂ (λ a b. a + b) (length-row w f n) (length-bytes w (residue (8 * w) (f n))) ∙ sym (suc-mul n w)

-- a row is what comes before an element, the element, and what comes after it
row_at : (w : ℕ) (f : ℕ → ℤ) (n k : ℕ) → k < n → (rest : List ℕ) × (row w f n ≡ row w f k ++ (bytes w (residue (8 * w) (f k)) ++ rest))
unfolding row
row_at w f zero k h = absurd (omega arith)
row_at w f (suc n) k h = ⊎_elim last (λ ne. earlier (row_at w f n k (omega arith))) (cases_eq k n)
  where
    last : k ≡ n → (rest : List ℕ) × (row w f n ++ bytes w (residue (8 * w) (f n)) ≡ row w f k ++ (bytes w (residue (8 * w) (f k)) ++ rest))
    last e = ([], ap (λ j. row w f j ++ bytes w (residue (8 * w) (f j))) (sym e) ∙ ap (λ l. row w f k ++ l) (sym (append-nil (bytes w (residue (8 * w) (f k))))))

    earlier : (rest : List ℕ) × (row w f n ≡ row w f k ++ (bytes w (residue (8 * w) (f k)) ++ rest)) → (rest : List ℕ) × (row w f n ++ bytes w (residue (8 * w) (f n)) ≡ row w f k ++ (bytes w (residue (8 * w) (f k)) ++ rest))
    earlier found =
        let rest = found.0 in
        let here = bytes w (residue (8 * w) (f k)) in
        let end = bytes w (residue (8 * w) (f n)) in
        (rest ++ end, ap (λ l. l ++ end) found.1 ∙ append_assoc (row w f k) (here ++ rest) end ∙ ap (λ l. row w f k ++ l) (append_assoc here rest end))

-- the elements of a line that is made of them
pub element_line : (t : ElementType) (f : ℕ → ℤ) (k : ℕ) → k < count t → element t (line_of t f) k ≡ cast t (f k)
element_line t f k h =
    let found = row_at (width t) f (count t) k h in
    ap (λ l. element t l k) found.1 ∙ element_between t (f k) (row (width t) f k) found.0 k (length-row (width t) f k)

-- types of one width have the same bytes
pub recast : (a b : ElementType) → width a ≡ width b → (line : List ℕ) (k : ℕ) → cast a (element b line k) ≡ element a line k
unfolding element
recast a b e line k =
    let m = number (width b) line (k * width b) in
    let same : residue (bits a) (cast b (pos m)) ≡ residue (bits a) (pos m) =
    ap (λ w. residue (8 * w) (cast b (pos m))) e ∙ residue-cast b (pos m) ∙ ap (λ w. residue (8 * w) (pos m)) (sym e) in
    cast_same a (cast b (pos m)) (pos m) same ∙ ap (λ w. cast a (pos (number w line (k * w)))) (sym e)
