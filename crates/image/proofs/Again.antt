-- What a caller knows of its bytes once the store that lay over them has ended.
use Rattle.std.proofs.Common.{◌≡◌, ℕ, ◌&&◌, ltb, leb, List, [], ◌∷◌, Ok, Err, Result, sym, refl, ap, ◌∙◌, subst}
use Rattle.store.specs.declared.ram.Ram.{Ram}
use Rattle.store.specs.Meaning.{Meaning}
use Rattle.store.specs.Kinds.{ram, fuse, whole_lines}
use Rattle.store.proofs.Lines.{same_meaning, same_name, same_bytes}
use Rattle.image.specs.declared.fault.Fault.{Fault}
use Rattle.image.specs.Format.{Placed}
use Rattle.image.specs.Placing.{put}
use Rattle.image.specs.Loading.{Loads, LoadsBytes, put_all}

-- Placing bytes keeps all but the lines' bytes.
put-size : (m : Meaning) (ps : List Placed) → (put_all m ps).size ≡ m.size
unfolding put
put-size m [] = refl
put-size m (p ∷ ps) = put-size (put m p.address p.bytes) ps

put-canwrite : (m : Meaning) (ps : List Placed) (n : ℕ) → (put_all m ps).canwrite n ≡ m.canwrite n
unfolding put
put-canwrite m [] n = refl
put-canwrite m (p ∷ ps) n = put-canwrite (put m p.address p.bytes) ps n

put_keeps : (m : Meaning) (ps : List Placed) → (put_all m ps).kept ≡ m.kept
unfolding put
put_keeps m [] = refl
put_keeps m (p ∷ ps) = put_keeps (put m p.address p.bytes) ps

load_keeps : (m : Meaning) (image : List ℕ) (r : Result (Unit {0}) Fault) (after : Meaning) → Loads m image r after → m.kept ≡ after.kept
load_keeps m image (Ok x) after w = sym (ap (λ n. n.kept) w.2 ∙ put_keeps m w.0)
load_keeps m image (Err f) after w = ap (λ n. n.kept) (sym w.1)

-- A fuse that came out of loading is as good as the one that went in.
module _ (below other γ δ : ℕ) (before after : List ℕ) where
  same_fuse :
      (t : Meaning) → t.size ≡ whole_lines before → ((n : ℕ) → t.canwrite n ≡ (fuse below (ram γ before)).canwrite n)
      → fuse other (ram δ after) ≡ t → fuse below (ram δ after) ≡ t
  same_fuse t long can e =
      same_meaning (fuse below (ram δ after)) t (ap (λ m. m.size) e) (λ k. ap (λ m. m.line k) e)
      (λ k. ap (λ s. leb below k && ltb k s) (ap (λ m. m.size) e ∙ long) ∙ sym (can k)) (ap (λ m. m.kept) e)

  fuse_again :
      (image : List ℕ) (r : Result (Unit {0}) Fault) → Loads (fuse below (ram γ before)) image r (fuse other (ram δ after))
      → Loads (fuse below (ram γ before)) image r (fuse below (ram δ after))
  fuse_again image (Ok x) w =
      let m = fuse below (ram γ before) in
      (w.0, w.1, same_fuse (put_all m w.0) (put-size m w.0) (put-canwrite m w.0) w.2)
  fuse_again image (Err f) w = (w.0, same_fuse (fuse below (ram γ before)) refl (λ n. refl) w.1)

-- A fuse hides nothing of the RAM's lines.
under : (below γ : ℕ) (a b : List ℕ) → fuse below (ram γ a) ≡ fuse below (ram γ b) → a ≡ b
under below γ a b e = same_bytes γ γ a b (ap (λ m. m.size) e) (λ n. ap (λ m. m.line n) e) (ap (λ m. m.kept) e)

loads_bytes : (below γ : ℕ) (before image : List ℕ) (r : Result (Unit {0}) Fault) (after : List ℕ) → Loads (fuse below (ram γ before)) image r (fuse below (ram γ after)) → LoadsBytes below before image r after
loads_bytes below γ before image (Ok x) after w = (γ, w)
loads_bytes below γ before image (Err f) after w = (γ, w.0, under below γ after before w.1)

-- The RAM that came back from under the fuse holds the loan that went under, and the bytes are those of the loaded store.
pub fuse_off :
    (below other : ℕ) (went under came : Ram) (image : List ℕ) (r : Result (Unit {0}) Fault) → under ≡ went
    → Loads (fuse below (ram under.bytes.ghost_name under.bytes.now)) image r (fuse other (ram came.bytes.ghost_name came.bytes.now))
    → (came.bytes.ghost_name ≡ went.bytes.ghost_name) × LoadsBytes below went.bytes.now image r came.bytes.now
fuse_off below other went under came image r q w =
    let γ = went.bytes.ghost_name in
    let δ = came.bytes.ghost_name in
    let before = went.bytes.now in
    let after = came.bytes.now in
    let u = subst (λ x. Loads (fuse below (ram x.bytes.ghost_name x.bytes.now)) image r (fuse other (ram δ after))) q w in
    let n : γ ≡ δ = same_name γ δ before after (load_keeps (fuse below (ram γ before)) image r (fuse other (ram δ after)) u) in
    let same = fuse_again below other γ δ before after image r u in
    (sym n, loads_bytes below γ before image r after (subst (λ x. Loads (fuse below (ram γ before)) image r (fuse below (ram x after))) (sym n) same))
