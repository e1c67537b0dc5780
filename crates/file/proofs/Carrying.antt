-- Taking a line's bytes along: copying a register's line onto another and then going there is going there and then writing what it showed. So it does not matter which bytes the line there had.
use Rattle.std.proofs.Common.{◌≡◌, ℕ, ◌/◌, ◌<◌, Bool, true, false, not, ◌&&◌, ◌==◌, if◌then◌else◌, nat_lt, List, length, slice_set, Some, None, Option, unwrap_or, is_none, ap, refl, sym, subst, ◌∙◌, arith}
use Rattle.std.proofs.Math.Path.{fun_ext}
use Rattle.std.proofs.lemmas.Bool.{cond-true, cond-false}
use Rattle.std.proofs.lemmas.Bool.Decides.{nat_tests}
use Rattle.store.specs.Meaning.{Meaning}
use Rattle.flat.specs.Data.{Data, given, accepted, shown, written, write, sent_back, left, let_go, leaves, line, placed, move_to, copied}
use Rattle.flat.specs.Registers.{at, is_zero, line_of, shared}
use Rattle.flat.specs.declared.registers.DataRegister.{DataRegister}
use Rattle.marks.specs.Marks.{with_mark}
use Rattle.tags.specs.Invariants.{no_bytes}
use Rattle.tags.specs.Names.{Names, Sound, Goes, Carries, gone, tag_of, written as written_names}
use Rattle.file.specs.Data.{sends}
use Rattle.file.specs.Standing.{data_of, known, Placed, Quiet}
use Rattle.file.proofs.DataSide.{same_data}
use Rattle.file.proofs.Sending.{go_placed, go_quiet, go_stands}
use Rattle.file.proofs.Writing.{shows, write_placed, write_quiet, write_stands}

-- of two lines, written one after the other in either order
at_other : {X : Type 0} (f : ℕ → X) (n k : ℕ) (x y : X) (q : ℕ) → (n == k) ≡ false → at (at f n x) k y q ≡ at (at f k y) n x q
at_other f n k x y q h = grind (arith, nat_tests, h)

-- where the register leaves its line, that is another than the one that it goes to
leaves_other : (d : Data) (r a : ℕ) → leaves r a d ≡ true → (line d r == line_of a) ≡ false
leaves_other d r a h = grind (arith, nat_tests, h)

module _ (d : Data) (r a : ℕ) (bs : List ℕ) (apart : (line d r == line_of a) ≡ false) where
  abbrev old : ℕ
  old = line d r

  abbrev new : ℕ
  new = line_of a

  abbrev copy : Data
  copy = written new bs d

  same_mark : copy.touched old ≡ d.touched old
  same_mark = cond-false _ _ _ apart

  same_bytes : copy.memory old ≡ d.memory old
  same_bytes = cond-false _ _ _ apart

  -- leaving a line and then writing another is writing that and then leaving
  let_go_other : let_go old copy ≡ written new bs (let_go old d)
  unfolding let_go
  let_go_other = same_data _ _ refl (fun_ext (λ k. at_other d.memory new old bs (given d.backing old) k (grind (arith, nat_tests, apart)))) refl refl

  sent_other : let_go old (sent_back old copy) ≡ written new bs (let_go old (sent_back old d))
  unfolding let_go sent_back
  sent_other =
      same_data _ _ refl
      (fun_ext (λ k. ap (λ (y : List ℕ). at copy.memory old (given (accepted d.backing old y) old) k) same_bytes ∙ at_other d.memory new old bs (given (accepted d.backing old (d.memory old)) old) k (grind (arith, nat_tests, apart))))
      (fun_ext (λ k. at_other d.touched new old true false k (grind (arith, nat_tests, apart))))
      (ap (accepted d.backing old) same_bytes)

  left_by : (t : Bool) → d.touched old ≡ t → let_go old (if t then sent_back old copy else copy) ≡ written new bs (let_go old (if t then sent_back old d else d))
  left_by true h = sent_other
  left_by false h = let_go_other

  left_other : left old copy ≡ written new bs (left old d)
  unfolding left
  left_other = ap (λ (t : Bool). let_go old (if t then sent_back old copy else copy)) same_mark ∙ left_by (d.touched old) refl

module _ (d : Data) (r : ℕ) (to : DataRegister) (real : is_zero r ≡ false) where
  carried_by : (v : Bool) → leaves r to.address d ≡ v → placed r to (if v then left (line d r) (written (line_of to.address) (shown d r) d) else written (line_of to.address) (shown d r) d) ≡ written (line_of to.address) (shown d r) (placed r to (if v then left (line d r) d else d))
  carried_by true h = ap (placed r to) (left_other d r to.address (shown d r) (leaves_other d r to.address h))
  carried_by false h = refl

  -- the line that a register names once it moved
  moved_line : (v : Bool) → line (placed r to (if v then left (line d r) d else d)) r ≡ line_of to.address
  moved_line v = ap line_of (ap (λ (x : DataRegister). x.address) (cond-true (r == r) _ _ (grind (arith, nat_tests))))

  copied_real : copied r to.address d ≡ written (line_of to.address) (shown d r) d
  unfolding copied
  copied_real = cond-false _ _ _ real

  move_real : (x : Data) → move_to r to x ≡ placed r to (if leaves r to.address x then left (line x r) x else x)
  unfolding move_to
  move_real x = cond-false _ _ _ real

  write_real : (x : Data) → write r (shown d r) x ≡ written (line x r) (shown d r) x
  unfolding write
  write_real x = cond-false _ _ _ real

  pub carried : move_to r to (copied r to.address d) ≡ write r (shown d r) (move_to r to d)
  carried =
      ap (move_to r to) copied_real
      ∙ (move_real (written (line_of to.address) (shown d r) d)
      ∙ (carried_by (leaves r to.address d) refl
      ∙ sym (write_real (move_to r to d)
      ∙ (ap (λ (x : Data). written (line x r) (shown d r) x) (move_real d)
      ∙ ap (λ (n : ℕ). written n (shown d r) (placed r to (if leaves r to.address d then left (line d r) d else d))) (moved_line (leaves r to.address d))))))

-- a zero register neither copies nor moves
pub carried_zero : (d : Data) (r : ℕ) (to : DataRegister) → is_zero r ≡ true → d ≡ move_to r to (copied r to.address d)
unfolding move_to copied
carried_zero d r to h = sym (cond-true _ _ _ h ∙ cond-true _ _ _ h)

-- writing the line that a register went to: what its tag had before is not seen
module _ (s : Names) (r a u : ℕ) (bs : List ℕ) (real : is_zero r ≡ false) where
  abbrev there : List ℕ → Names
  there x = record {
    address = λ q. if q == r then a else s.address q;
    tag = λ n. if n == a / 128 then Some (unwrap_or (s.tag n) u) else if n == s.address r / 128 && not (shared s.address r) then None else s.tag n;
    bytes = λ t. if t == u && is_none (s.tag (a / 128)) then x else s.bytes t;
  }

  is_there : (x : List ℕ) → gone r a u x s ≡ there x
  unfolding gone
  is_there x = cond-false _ _ _ real

  abbrev wrote : Names → Names
  wrote n = record { address = n.address; tag = n.tag; bytes = λ t. if t == tag_of n r then bs else n.bytes t }

  is_wrote : (n : Names) → written_names r bs n ≡ wrote n
  unfolding written_names
  is_wrote n = cond-false _ _ _ real

  other_tag : (x : List ℕ) (t : ℕ) (o : Option ℕ) → s.tag (a / 128) ≡ o → (t == tag_of (there x) r) ≡ false → (t == u && is_none (s.tag (a / 128))) ≡ false
  other_tag x t None e h = grind (arith, nat_tests, real, e, h)
  other_tag x t (Some v) e h = grind (arith, nat_tests, real, e, h)

  bytes_over : (x y : List ℕ) (t : ℕ) (z : Bool) → (t == tag_of (there x) r) ≡ z → (if z then bs else (there x).bytes t) ≡ (if z then bs else (there y).bytes t)
  bytes_over x y t true h = refl
  bytes_over x y t false h =
      ap (λ (b : Bool). if b then x else s.bytes t) (other_tag x t (s.tag (a / 128)) refl h)
      ∙ sym (ap (λ (b : Bool). if b then y else s.bytes t) (other_tag x t (s.tag (a / 128)) refl h))

  same_wrote : (x y : List ℕ) → wrote (there x) ≡ wrote (there y)
  same_wrote x y =
      let f = fun_ext {f = (wrote (there x)).bytes} {g = (wrote (there y)).bytes} (λ t. bytes_over x y t (t == tag_of (there x) r) refl) in
      ap (λ (b : ℕ → List ℕ). let n : Names = record { address = (there x).address; tag = (there x).tag; bytes = b } in n) f

  over : (x y : List ℕ) → written_names r bs (gone r a u x s) ≡ written_names r bs (gone r a u y s)
  over x y =
      ap (written_names r bs) (is_there x)
      ∙ (is_wrote (there x) ∙ (same_wrote x y ∙ sym (ap (written_names r bs) (is_there y) ∙ is_wrote (there y))))

-- as the code does it: the old line is left, the bank carries its bytes, and the new tag is marked
module _ (s after : Names) (registers : List DataRegister) (marked marks new_marks : ℕ → Bool) (m store : Meaning) (r : ℕ) (to : DataRegister) (within : r < 128) (real : is_zero r ≡ false) (sound : Sound s) (placed_at : Placed s registers) (i : ℕ) (e : i ≡ r) (long : r < length registers) (carries : Carries r to.address s after) (sound_after : Sound after) (t : ℕ) (tag : t ≡ tag_of after r) where
  abbrev flat : Data
  flat = data_of s (known registers) marked m

  abbrev bytes : List ℕ
  bytes = s.bytes (tag_of s r)

  abbrev went : Names
  went = gone r to.address carries.0 (given store (line_of to.address)) s

  went_goes : Goes r to.address (given store (line_of to.address)) s went
  went_goes = (carries.0, carries.1, refl)

  is_written : after ≡ written_names r bytes went
  is_written = carries.2 ∙ over s r to.address carries.0 bytes real no_bytes (given store (line_of to.address))

  is_after : after ≡ wrote went r to.address carries.0 bytes real went
  is_after = is_written ∙ is_wrote went r to.address carries.0 bytes real went

  sound_went : Sound (wrote went r to.address carries.0 bytes real went)
  sound_went = subst Sound is_after sound_after

  linked : went.tag (line_of (went.address r)) ≡ Some (tag_of went r)
  linked = sound_went.linked r within real

  small : tag_of went r < 128
  small = (sound_went.tags (line_of (went.address r)) (tag_of went r) linked).1

  tag_went : t ≡ tag_of went r
  tag_went = tag ∙ ap (λ (x : Names). tag_of x r) is_after

  pub carry_placed : Placed after (slice_set registers i to)
  carry_placed =
      write_placed went after marks marks r t bytes real linked small tag_went is_written (known (slice_set registers i to)) (go_placed s registers marked marks m store r to within real sound placed_at i e long went went_goes)

  module _ (quiet : Quiet s marks) (clean : leaves r to.address flat ≡ true → marks (tag_of s r) ≡ false) (inserted : new_marks ≡ (if nat_lt t 128 then with_mark marks t true else marks)) where
    pub carry_stands : data_of s (known registers) marks store ≡ sends r to.address flat → data_of after (known (slice_set registers i to)) new_marks store ≡ move_to r to (copied r to.address flat)
    carry_stands f =
        write_stands went after marks new_marks r t bytes real linked small tag_went is_written inserted (known (slice_set registers i to)) (go_placed s registers marked marks m store r to within real sound placed_at i e long went went_goes r) sound_went.one store
        ∙ (ap (write r bytes) (go_stands s registers marked marks m store r to within real sound placed_at i e long went went_goes f quiet clean)
        ∙ (ap (λ (b : List ℕ). write r b (move_to r to flat)) (shows s (known registers) marked m r (placed_at r) within sound)
        ∙ sym (carried flat r to real)))

    pub carry_quiet : Quiet after new_marks
    carry_quiet =
        write_quiet went after marks new_marks r t bytes real linked small tag_went is_written inserted (go_quiet s registers marked marks m store r to within real sound placed_at i e long went went_goes quiet clean)
