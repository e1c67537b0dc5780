-- Placed bytes within a row of bytes.
use Rattle.std.proofs.Common.{◌≡◌, ℕ, zero, suc, ◌+◌, ◌-◌, ◌<◌, ◌≤◌, min, max, List, [], ◌∷◌, ◌++◌, length, get_or, take, drop, sym, refl, ap, ◌∙◌, le_of_suc-le-suc, add-zero, arith}
use borrow.Rule.Slice.PartMut.{put_mid}
use Rattle.std.proofs.lemmas.List.{ext_get_or, get_or_append_left, get_or-append_right, get_or-take, get_or-drop, length-append, length-take, length-drop}
use Rattle.std.proofs.lemmas.Bool.Decides.{nat_tests}
use Rattle.image.specs.Placing.{byte_at, spliced}

pub length-spliced : (x : ℕ) (old : List ℕ) (a : ℕ) (b : List ℕ) → length (spliced x old a b) ≡ length old
length-spliced x [] a b = refl
length-spliced x (o ∷ old) a b = ap suc (length-spliced (suc x) old a b)

pub get_or-spliced : (x : ℕ) (old : List ℕ) (a : ℕ) (b : List ℕ) (i d : ℕ) → i < length old → get_or (spliced x old a b) i d ≡ byte_at (x + i) a b (get_or old i d)
get_or-spliced x [] a b i d h = absurd (omega arith)
get_or-spliced x (o ∷ old) a b zero d h = ap (λ n. byte_at n a b o) (sym (add-zero x))
get_or-spliced x (o ∷ old) a b (suc i) d h =
    let e : suc x + i ≡ x + suc i = omega arith in
    get_or-spliced (suc x) old a b i d (le_of_suc-le-suc h) ∙ ap (λ n. byte_at n a b (get_or old i d)) e

-- A byte before the placed bytes is as it was.
pub byte_before : (x a : ℕ) (b : List ℕ) (old : ℕ) → x < a → byte_at x a b old ≡ old
byte_before x a b old h = grind (arith, nat_tests)

-- So is a byte behind them.
pub byte_behind : (x a : ℕ) (b : List ℕ) (old : ℕ) → a + length b ≤ x → byte_at x a b old ≡ old
byte_behind x a b old h = grind (arith, nat_tests)

-- A byte among them is the placed one.
pub byte_within : (x a : ℕ) (b : List ℕ) (old : ℕ) → a ≤ x → x < a + length b → byte_at x a b old ≡ get_or b (x - a) 0
byte_within x a b old h k = grind (arith, nat_tests)

-- Bytes that fall wholly before or behind a row leave it as it was.
pub spliced_none : (x : ℕ) (old : List ℕ) (a : ℕ) (b : List ℕ) → ((i : ℕ) → i < length old → byte_at (x + i) a b (get_or old i 0) ≡ get_or old i 0) → spliced x old a b ≡ old
spliced_none x old a b same =
    ext_get_or 0 (spliced x old a b) old (length-spliced x old a b)
    (λ i h. let k : i < length old = omega (arith, length-spliced x old a b) in get_or-spliced x old a b i 0 k ∙ same i k)

pub spliced_apart : (x : ℕ) (old : List ℕ) (a : ℕ) (b : List ℕ) → min (a + length b) (x + length old) ≤ max a x → spliced x old a b ≡ old
spliced_apart x old a b h = spliced_none x old a b (λ i k. grind (arith, nat_tests))

-- Where they meet the row, the placed bytes from p on and of the row w bytes from place q on are those that meet.
module _
    (x : ℕ) (old : List ℕ) (a : ℕ) (b new : List ℕ) (q w p : ℕ) (eq : q ≡ max a x - x) (ep : p ≡ max a x - a)
    (ew : q + w ≡ min (a + length b) (x + length old) - x) (en : new ≡ take w (drop p b))
    (meet : max a x < min (a + length b) (x + length old)) where
  new_long : length new ≡ w
  new_long = ap length en ∙ simp (length-take, length-drop) (omega arith)

  over : List ℕ
  over = put_mid q w old new

  over_long : length over ≡ length old
  unfolding over
  over_long = let n : length new ≡ w = new_long in simp (length-append, length-take, length-drop) (omega arith)

  rest : List ℕ
  rest = drop w (drop q old)

  q_long : length (take q old) ≡ q
  q_long = simp length-take (omega arith)

  over_front : (i : ℕ) → i < q → get_or (take q old ++ (new ++ rest)) i 0 ≡ get_or old i 0
  over_front i h = get_or_append_left (take q old) (new ++ rest) 0 i (omega (arith, q_long)) ∙ get_or-take q old i 0 h

  over_mid : (i : ℕ) → q ≤ i → i < q + w → get_or (take q old ++ (new ++ rest)) i 0 ≡ get_or b (p + (i - q)) 0
  over_mid i l h =
      get_or-append_right (take q old) (new ++ rest) q i 0 q_long l
      ∙ get_or_append_left new rest 0 (i - q) (omega (arith, new_long))
      ∙ ap (λ y. get_or y (i - q) 0) en
      ∙ get_or-take w (drop p b) (i - q) 0 (omega arith)
      ∙ get_or-drop p b (i - q) 0

  over_back : (i : ℕ) → q + w ≤ i → get_or (take q old ++ (new ++ rest)) i 0 ≡ get_or old i 0
  unfolding rest
  over_back i h =
      let e : q + (w + (i - q - w)) ≡ i = omega arith in
      get_or-append_right (take q old) (new ++ rest) q i 0 q_long (omega arith)
      ∙ get_or-append_right new rest w (i - q) 0 new_long (omega arith)
      ∙ get_or-drop w (drop q old) (i - q - w) 0
      ∙ get_or-drop q old (w + (i - q - w)) 0
      ∙ ap (λ n. get_or old n 0) e

  over_at : (i : ℕ) → i < length old → get_or over i 0 ≡ byte_at (x + i) a b (get_or old i 0)
  unfolding over rest
  over_at i h = grind (arith, nat_tests, over_front i, over_mid i, over_back i)

  pub spliced_meets : put_mid q w old new ≡ spliced x old a b
  unfolding over
  spliced_meets =
      ext_get_or 0 over (spliced x old a b) (over_long ∙ sym (length-spliced x old a b))
      (λ i h. let k : i < length old = omega (arith, over_long) in over_at i k ∙ sym (get_or-spliced x old a b i 0 k))

-- The two cases of splice.
pub ruleset splice_cases = (spliced_apart, spliced_meets)
