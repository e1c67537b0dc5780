-- What flushing does: the marked tags are the touched lines, one by one.
use Rattle.std.proofs.Common.{◌≡◌, ◌≤◌, ℕ, zero, suc, ◌+◌, ◌<◌, Bool, true, false, ◌&&◌, ◌==◌, if◌then◌else◌, Some, None, Option, is_some, nat_lt, refl, sym, ap, ◌∙◌, arith, rules}
use Rattle.std.proofs.Math.Path.{fun_ext}
use Rattle.std.proofs.lemmas.Bool.{true≢false}
use Rattle.std.proofs.lemmas.Bool.Decides.{nat_tests}
use Rattle.store.specs.Meaning.{Meaning}
use Rattle.flat.specs.Data.{Data, accepted, sent_back, flushed}
use Rattle.flat.specs.declared.registers.DataRegister.{DataRegister}
use Rattle.marks.specs.Marks.{none, with_mark, how_many}
use Rattle.marks.proofs.Counting.{how_many-insert, how_many-remove, how_many-same, how_many-none}
use Rattle.tags.specs.Names.{Names, IsLineOf}
use Rattle.file.specs.Standing.{data_of, of_tag, Quiet}
use Rattle.file.proofs.DataSide.{same_data, OneLine}

same_meaning : (m o : Meaning) → m.size ≡ o.size → m.line ≡ o.line → m.canwrite ≡ o.canwrite → m.kept ≡ o.kept → m ≡ o
same_meaning m o s l c k = search (rules, s, l, c, k)

-- once a touched line was sent back, flushing comes to the same
module _ (n : ℕ) (d : Data) (touched : d.touched n ≡ true) where
  flushed_line : (w : Bool) → d.backing.canwrite n ≡ w → (k : ℕ) → (flushed (sent_back n d)).backing.line k ≡ (flushed d).backing.line k
  unfolding flushed sent_back accepted
  flushed_line true h k = grind (arith, nat_tests, h, touched)
  flushed_line false h k = grind (arith, nat_tests, h, touched)

  same_store : (w : Bool) → d.backing.canwrite n ≡ w → ((accepted d.backing n (d.memory n)).size ≡ d.backing.size) × ((accepted d.backing n (d.memory n)).canwrite ≡ d.backing.canwrite) × ((accepted d.backing n (d.memory n)).kept ≡ d.backing.kept)
  unfolding accepted
  same_store true h = grind (arith, h)
  same_store false h = grind (arith, h)

  pub flushed_rest : flushed (sent_back n d) ≡ flushed d
  unfolding flushed sent_back
  flushed_rest =
      let same = same_store (d.backing.canwrite n) refl in
      same_data _ _ refl refl refl (same_meaning _ _ same.0 (fun_ext (flushed_line (d.backing.canwrite n) refl)) same.1 same.2)

-- where no line is touched there is nothing to flush
flushed_none_line : (d : Data) → d.touched ≡ none → (k : ℕ) → (flushed d).backing.line k ≡ d.backing.line k
unfolding flushed
flushed_none_line d h k = rw h (refl)

pub flushed_none : (d : Data) → d.touched ≡ none → flushed d ≡ d
unfolding flushed
flushed_none d h = same_data _ _ refl refl (sym h) (same_meaning _ _ refl (fun_ext (flushed_none_line d h)) refl refl)

-- the marked tags below k, seen by the lines that they name
module _ (s : Names) (marked : ℕ → Bool) (most : ℕ) (one : OneLine s) (quiet : Quiet s marked) (lines : (t : ℕ) → (o : Option ℕ) × IsLineOf s t o) (within : (n t : ℕ) → s.tag n ≡ Some t → n < most) where
  seen : ℕ → ℕ → Bool
  seen k n = of_tag (s.tag n) (λ t. marked t && nat_lt t k) false

  -- where tag k is not marked, it adds no line
  seen_unmarked : (k n : ℕ) (o : Option ℕ) → s.tag n ≡ o → marked k ≡ false → of_tag o (λ t. marked t && nat_lt t (suc k)) false ≡ of_tag o (λ t. marked t && nat_lt t k) false
  seen_unmarked k n None h e = refl
  seen_unmarked k n (Some t) h e = by_place (t == k) refl
    where
      by_place : (z : Bool) → (t == k) ≡ z → (marked t && nat_lt t (suc k)) ≡ (marked t && nat_lt t k)
      by_place true f = let g : t ≡ k = grind (arith, nat_tests, f) in grind (arith, nat_tests, e, g)
      by_place false f = ap (λ z. marked t && z) (grind (arith, nat_tests, f))

  -- where it is, it adds the line that it names
  seen_marked : (k m n : ℕ) (o : Option ℕ) → s.tag m ≡ Some k → s.tag n ≡ o → marked k ≡ true → of_tag o (λ t. marked t && nat_lt t (suc k)) false ≡ (if n == m then true else of_tag o (λ t. marked t && nat_lt t k) false)
  seen_marked k m n None g h e = grind (arith, nat_tests, g, h)
  seen_marked k m n (Some t) g h e = by_place (t == k) refl (n == m) refl
    where
      by_place : (z : Bool) → (t == k) ≡ z → (y : Bool) → (n == m) ≡ y → (marked t && nat_lt t (suc k)) ≡ (if y then true else marked t && nat_lt t k)
      by_place true f true x = let w : t ≡ k = grind (arith, nat_tests, f) in grind (arith, nat_tests, e, w)
      by_place true f false x = grind (arith, nat_tests, f, x, g, h, one n m k)
      by_place false f true x = grind (arith, nat_tests, f, x, g, h)
      by_place false f false x = ap (λ z. marked t && z) (grind (arith, nat_tests, f))

  -- as many lines are seen as tags are marked below k
  seen_step : (k : ℕ) (w : Bool) → marked k ≡ w → (o : Option ℕ) → IsLineOf s k o → how_many (seen k) most ≡ how_many marked k → how_many (seen (suc k)) most ≡ how_many marked (suc k)
  unfolding how_many seen with_mark
  seen_step k false e o l before =
      how_many-same (seen (suc k)) (seen k) most (λ n h. seen_unmarked k n (s.tag n) refl e) ∙ (before ∙ grind (arith, e))
  seen_step k true e None l before = absurd (true≢false (sym e ∙ quiet k (λ n h. grind (arith, (l n).0 h))))
  seen_step k true e (Some m) l before =
      let named = (l m).1 refl in
      how_many-same (seen (suc k)) (with_mark (seen k) m true) most (λ n h. seen_marked k m n (s.tag n) named refl e)
      ∙ (how_many-insert (seen k) m most (grind (arith, nat_tests, named)) (within m k named) ∙ (ap (λ x. x + 1) before ∙ grind (arith, e)))

  seen_all : (k : ℕ) → how_many (seen k) most ≡ how_many marked k
  unfolding seen how_many
  seen_all zero = how_many-same (seen zero) none most (λ n h. nothing (s.tag n)) ∙ how_many-none most
    where
      nothing : (o : Option ℕ) → of_tag o (λ t. marked t && nat_lt t zero) false ≡ false
      nothing None = refl
      nothing (Some t) = grind (arith, nat_tests)
  seen_all (suc k) = seen_step k (marked k) refl (lines k).0 (lines k).1 (seen_all k)

  -- the touched lines are as many as the marked tags
  pub as_many : (last : ℕ) → ((t : ℕ) → last ≤ t → marked t ≡ false) → how_many (λ n. of_tag (s.tag n) marked false) most ≡ how_many marked last
  unfolding seen
  as_many last past = how_many-same _ (seen last) most (λ n h. all (s.tag n)) ∙ seen_all last
    where
      all : (o : Option ℕ) → of_tag o marked false ≡ of_tag o (λ t. marked t && nat_lt t last) false
      all None = refl
      all (Some t) = grind (arith, nat_tests, past t)

-- the next marked tag, and the line that it names
pub named_marked : (s : Names) (marked : ℕ → Bool) (t : ℕ) → Quiet s marked → marked t ≡ true → (o : Option ℕ) → IsLineOf s t o → is_some o ≡ true
named_marked s marked t quiet e None l = absurd (true≢false (sym e ∙ quiet t (λ n h. grind (arith, (l n).0 h))))
named_marked s marked t quiet e (Some n) l = refl

-- where no tag is marked, no line is touched
none_touched : (o : Option ℕ) → of_tag o none false ≡ false
none_touched None = refl
none_touched (Some t) = refl

pub flushed_unmarked : (s : Names) (registers : ℕ → DataRegister) (marked : ℕ → Bool) (m : Meaning) → marked ≡ none → data_of s registers marked m ≡ flushed (data_of s registers marked m)
unfolding data_of
flushed_unmarked s registers marked m e = sym (flushed_none _ (fun_ext (λ n. ap (λ (x : ℕ → Bool). of_tag (s.tag n) x false) e ∙ none_touched (s.tag n))))

-- a line sent back, flushing comes to the same
pub flushed_on : (s : Names) (registers : ℕ → DataRegister) (marked : ℕ → Bool) (m : Meaning) (d : Data) (n t : ℕ) → s.tag n ≡ Some t → marked t ≡ true → d ≡ sent_back n (data_of s registers marked m) → flushed d ≡ flushed (data_of s registers marked m)
unfolding data_of
flushed_on s registers marked m d n t named e f = ap flushed f ∙ flushed_rest n _ (ap (λ (o : Option ℕ). of_tag o marked false) named ∙ e)

-- fewer are marked once a mark is taken away
pub fewer : (marked marks : ℕ → Bool) (t last : ℕ) → marked t ≡ true → t < last → marks ≡ with_mark marked t false → how_many marks last < how_many marked last
fewer marked marks t last e l f =
    let g = how_many-remove marked t last e l in
    let h = ap (λ (x : ℕ → Bool). how_many x last) f in
    omega (arith, g, h)
