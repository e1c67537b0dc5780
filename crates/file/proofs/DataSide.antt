-- What moving, writing and sending back do to what the data registers stand for.
use Rattle.std.proofs.Common.{◌≡◌, ◌≢◌, ℕ, Bool, true, false, not, ◌&&◌, ◌==◌, if◌then◌else◌, List, Some, None, Option, refl, sym, ap, ◌∙◌, arith, rules}
use Rattle.std.proofs.Math.Path.{fun_ext}
use Rattle.std.proofs.lemmas.Bool.{cond-false, true≢false}
use Rattle.std.proofs.lemmas.Bool.Decides.{nat_tests}
use Rattle.store.specs.Meaning.{Meaning}
use Rattle.flat.specs.Data.{Data, given, accepted, sent_back, let_go, placed, written}
use Rattle.flat.specs.Registers.{at, is_zero, line_of, shared}
use Rattle.flat.specs.declared.registers.DataRegister.{DataRegister}
use Rattle.marks.specs.Marks.{with_mark}
use Rattle.tags.specs.Names.{Names, Unused, gone, tag_of, written as written_names}
use Rattle.file.specs.Standing.{data_of, of_tag, Quiet}

-- data with the same registers, memory, marks and backing copy are the same
pub same_data : (d e : Data) → d.registers ≡ e.registers → d.memory ≡ e.memory → d.touched ≡ e.touched → d.backing ≡ e.backing → d ≡ e
same_data d e r m t b = search (rules, r, m, t, b)

-- a line that another one replaced is given as it was
pub given_other : (m : Meaning) (n k : ℕ) (b : List ℕ) → (k == n) ≡ false → given (accepted m n b) k ≡ given m k
unfolding given accepted
given_other m n k b h = grind (arith, nat_tests, h)

-- the tag names one line
abbrev pub OneLine : Names → Type 0
OneLine s = (n k t : ℕ) → s.tag n ≡ Some t → s.tag k ≡ Some t → n ≡ k

module _ (s : Names) (registers : ℕ → DataRegister) (marked : ℕ → Bool) (m : Meaning) (n t : ℕ) (named : s.tag n ≡ Some t) (one : OneLine s) where
  unmarked_at : (k : ℕ) (o : Option ℕ) → s.tag k ≡ o → of_tag o (with_mark marked t false) false ≡ (if k == n then false else of_tag o marked false)
  unfolding with_mark
  unmarked_at k None h = grind (arith, nat_tests)
  unmarked_at k (Some u) h = grind (arith, nat_tests, h, named, one)

  memory_at : (k : ℕ) (o : Option ℕ) → s.tag k ≡ o → of_tag o s.bytes (given (accepted m n (s.bytes t)) k) ≡ of_tag o s.bytes (given m k)
  memory_at k None h = grind (arith, nat_tests, h, named, one, given_other)
  memory_at k (Some u) h = refl

  -- sending back the line of a tag
  pub sends_back : data_of s registers (with_mark marked t false) (accepted m n (s.bytes t)) ≡ sent_back n (data_of s registers marked m)
  unfolding data_of sent_back
  sends_back =
      same_data _ _ refl
      (fun_ext (λ k. memory_at k (s.tag k) refl))
      (fun_ext (λ k. unmarked_at k (s.tag k) refl))
      (ap (λ (o : Option ℕ). accepted m n (of_tag o s.bytes (given m n))) (sym named))

-- registers and tags after register r went to address a, where the line that it leaves is not marked
module _ (s : Names) (registers : ℕ → DataRegister) (marked : ℕ → Bool) (m : Meaning) (r u a : ℕ) (real : is_zero r ≡ false) where
  abbrev b : List ℕ
  b = given m (line_of a)

  -- whether r leaves its line
  abbrev pub lv : Bool
  lv = not (line_of (s.address r) == line_of a) && not (shared s.address r)

  abbrev after : Names
  after = gone r a u b s

  module _ (one : OneLine s) (quiet : Quiet s marked) (fresh : s.tag (line_of a) ≡ None → Unused s u) (clean : lv ≡ true → of_tag (s.tag (line_of (s.address r))) marked false ≡ false) where
    gone_memory : (v : Bool) → lv ≡ v → (k : ℕ) (o p : Option ℕ) → s.tag k ≡ o → s.tag (line_of a) ≡ p → of_tag (after.tag k) after.bytes (given m k) ≡ (if v && (k == line_of (s.address r)) then given m (line_of (s.address r)) else of_tag o s.bytes (given m k))
    unfolding gone
    gone_memory v e k None None h g = grind (arith, nat_tests, e, h, g, real)
    gone_memory v e k (Some t) None h g = grind (arith, nat_tests, e, h, g, real, fresh, one)
    gone_memory v e k None (Some w) h g = grind (arith, nat_tests, e, h, g, real)
    gone_memory v e k (Some t) (Some w) h g = grind (arith, nat_tests, e, h, g, real)

    unmarked : s.tag (line_of a) ≡ None → marked u ≡ false
    unmarked g = quiet u (fresh g).2

    gone_touched : (k : ℕ) (o p : Option ℕ) → s.tag k ≡ o → s.tag (line_of a) ≡ p → of_tag (after.tag k) marked false ≡ of_tag o marked false
    unfolding gone
    gone_touched k None None h g = grind (arith, nat_tests, h, g, real, fresh, unmarked, clean)
    gone_touched k (Some t) None h g = grind (arith, nat_tests, h, g, real, fresh, unmarked, clean)
    gone_touched k None (Some v) h g = grind (arith, nat_tests, h, g, real, clean)
    gone_touched k (Some t) (Some v) h g = grind (arith, nat_tests, h, g, real, clean)

    went : (to : DataRegister) (v : Bool) → lv ≡ v → data_of after (at registers r to) marked m ≡ placed r to (if v then let_go (line_of (s.address r)) (data_of s registers marked m) else data_of s registers marked m)
    unfolding data_of let_go
    went to true h = same_data _ _ refl (fun_ext (λ k. gone_memory true h k (s.tag k) (s.tag (line_of a)) refl refl)) (fun_ext (λ k. gone_touched k (s.tag k) (s.tag (line_of a)) refl refl)) refl
    went to false h = same_data _ _ refl (fun_ext (λ k. gone_memory false h k (s.tag k) (s.tag (line_of a)) refl refl)) (fun_ext (λ k. gone_touched k (s.tag k) (s.tag (line_of a)) refl refl)) refl

    -- register r goes to an address, and is another register then
    pub goes : (to : DataRegister) → data_of after (at registers r to) marked m ≡ placed r to (if lv then let_go (line_of (s.address r)) (data_of s registers marked m) else data_of s registers marked m)
    goes to = went to lv refl

-- writing the line of register r
module _ (s : Names) (registers : ℕ → DataRegister) (marked : ℕ → Bool) (m : Meaning) (r : ℕ) (bs : List ℕ) (real : is_zero r ≡ false) (linked : s.tag (line_of (s.address r)) ≡ Some (tag_of s r)) (one : OneLine s) where
  abbrev new : Names
  new = record { address = s.address; tag = s.tag; bytes = λ t. if t == tag_of s r then bs else s.bytes t }

  is_new : written_names r bs s ≡ new
  unfolding written_names
  is_new = cond-false _ _ _ real

  write_memory : (k : ℕ) (o : Option ℕ) → s.tag k ≡ o → of_tag o new.bytes (given m k) ≡ (if k == line_of (s.address r) then bs else of_tag o s.bytes (given m k))
  write_memory k None h = grind (arith, nat_tests, h, linked, real)
  write_memory k (Some t) h = grind (arith, nat_tests, h, linked, real, one)

  write_touched : (k : ℕ) (o : Option ℕ) → s.tag k ≡ o → of_tag o (with_mark marked (tag_of s r) true) false ≡ (if k == line_of (s.address r) then true else of_tag o marked false)
  unfolding with_mark
  write_touched k None h = grind (arith, nat_tests, h, linked, real)
  write_touched k (Some t) h = grind (arith, nat_tests, h, linked, real, one)

  pub writes : data_of (written_names r bs s) registers (with_mark marked (tag_of s r) true) m ≡ written (line_of (s.address r)) bs (data_of s registers marked m)
  unfolding data_of
  writes =
      ap (λ x. data_of x registers (with_mark marked (tag_of s r) true) m) is_new
      ∙ same_data _ _ refl (fun_ext (λ k. write_memory k (s.tag k) refl)) (fun_ext (λ k. write_touched k (s.tag k) refl)) refl

-- tags that are not in use stay unmarked
pub quiet_removed : (s : Names) (marked : ℕ → Bool) (t : ℕ) → Quiet s marked → Quiet s (with_mark marked t false)
unfolding with_mark
quiet_removed s marked t quiet u h = grind (arith, nat_tests, quiet u h)

written_tag : (s : Names) (r n : ℕ) (bs : List ℕ) (z : Bool) → is_zero r ≡ z → (written_names r bs s).tag n ≡ s.tag n
unfolding written_names
written_tag s r n bs true h = grind (arith, h)
written_tag s r n bs false h = grind (arith, h)

pub quiet_written : (s : Names) (marked : ℕ → Bool) (r t : ℕ) (bs : List ℕ) → s.tag (line_of (s.address r)) ≡ Some t → Quiet s marked → Quiet (written_names r bs s) (with_mark marked t true)
unfolding with_mark
quiet_written s marked r t bs linked quiet u h =
    let unused = λ (n : ℕ) (e : s.tag n ≡ Some u). h n (written_tag s r n bs (is_zero r) refl ∙ e) in
    grind (arith, nat_tests, linked, unused (line_of (s.address r)), quiet u unused)

-- a tag that register r's going left not in use was not in use before, or was r's alone
gone_unused : (s : Names) (r u a t : ℕ) (b : List ℕ) → is_zero r ≡ false → ((n : ℕ) → (gone r a u b s).tag n ≢ Some t) → ((t ≡ tag_of s r) → (not (line_of (s.address r) == line_of a) && not (shared s.address r)) ≡ false) → (n : ℕ) → s.tag n ≢ Some t
unfolding gone
gone_unused s r u a t b real h other n e = grind (arith, nat_tests, real, h n, e, other)

pub quiet_gone : (s : Names) (marked : ℕ → Bool) (r u a : ℕ) (b : List ℕ) → is_zero r ≡ false → Quiet s marked → ((not (line_of (s.address r) == line_of a) && not (shared s.address r)) ≡ true → marked (tag_of s r) ≡ false) → Quiet (gone r a u b s) marked
quiet_gone s marked r u a b real quiet clean t h = by_tag (marked t) (not (line_of (s.address r) == line_of a) && not (shared s.address r)) refl refl
  where
    by_tag : (y v : Bool) → marked t ≡ y → (not (line_of (s.address r) == line_of a) && not (shared s.address r)) ≡ v → marked t ≡ false
    by_tag false v e f = e
    by_tag true true e f = quiet t (gone_unused s r u a t b real h (λ g. absurd (true≢false (sym e ∙ (ap marked g ∙ clean f)))))
    by_tag true false e f = quiet t (gone_unused s r u a t b real h (λ g. f))
