-- The engine is fed as the flat machine is.
use Rattle.std.proofs.Common.{◌≡◌, ◌<◌, ℕ, suc, ◌+◌, List, [], ◌∷◌, ◌++◌, length, take, get_or, min, fold, Ok, Err, Result, IsOk, refl, sym, subst, ap, ap₂, ◌∙◌, zero-add, arith}
use Rattle.std.proofs.Math.Seq.{take-suc}
use Rattle.std.proofs.lemmas.List.{length-append, length-take, take_min}
use Rattle.std.proofs.lemmas.List.Sums.{fold-append}
use Rattle.flat.specs.declared.refusal.Refusal.{Refusal}
use Rattle.store.specs.Meaning.{Meaning, Sound}
use Rattle.trail.specs.declared.FullTrail.{FullTrail}
use Rattle.trail.specs.declared.Trail.{Trail}
use Rattle.trail.specs.Trails.{space as space_of, Added, Adds}
use Rattle.trail.proofs.Adding.{added_none, added_then, space_after}
use Rattle.flat.proofs.StoreLaw.{store_after_each}
use Rattle.flat.specs.Calls.{Flat, Kept, backing, kept_then, nothing_kept}
use Rattle.flat.specs.Fed.{Fed, Told, unfed, made, next, one_call, fed, space_left}
use Rattle.flat.specs.declared.answer.Answer.{Answer}
use Rattle.flat.specs.declared.call.Call.{Call}
use Rattle.flat.specs.declared.records.Slots.{Slots}
use Rattle.calls.proofs.Ending.{stands_on}
use Rattle.calls.proofs.TagsRight.{all_right}
use Rattle.calls.specs.Files.{stands}
use Rattle.calls.specs.Law.{Answers, Continues, Lawful}
use Rattle.calls.specs.Made.{Makes}
use Rattle.calls.specs.Trails.{Keeps, space}
use Rattle.calls.specs.declared.files.File.{File}
use Rattle.calls.specs.declared.files.File.TheVariants.{Cold}
use Rattle.calls.specs.declared.trails.Trails.{Trails}

-- nothing was added to the trails, or more was
pub keeps_none : (t : Trails) → Keeps t t nothing_kept
keeps_none t = (added_none t.steps, added_none t.lines)

pub keeps_then : {before now after : Trails} {k l : Kept} → Keeps before now k → Keeps now after l → Keeps before after (kept_then k l)
keeps_then p q = (added_then p.0 q.0, added_then p.1 q.1)

-- the space that is left
pub space_now : {before now : Trails} {k : Kept} → Keeps before now k → space now ≡ space_left (space before) k
space_now p = ap₂ (λ (a b : ℕ). let s : Slots = record { steps = a; lines = b } in s) (space_after p.0) (space_after p.1)

-- no call was made yet
none_made : (m : Meaning) (t : Trails) → Answers (unfed m) t t Cold m
unfolding stands
none_made m t = record { traced = keeps_none t; machine = refl }

-- the first calls and one more
fed_more : (s : Slots) (calls : List Call) (call : Call) (m : Meaning) → fed s (calls ++ call ∷ []) m ≡ one_call s (fed s calls m) call
fed_more s calls call m = fold-append (one_call s) (unfed m) calls (call ∷ [])

-- what the code was told is what the flat machine is told next
is_next : {h : Fed} {before now : Trails} {file : File} {m : Meaning} (call : Call) → Answers h before now file m → made (space now) call (stands file m) ≡ next (space before) h call
is_next {h = h} {before = before} call p =
    ap₂ (λ (s : Slots) (f : Flat). made s call f) (space_now p.traced) p.machine

-- one more call was made
one_made : {h : Fed} {before now after : Trails} {file next_file : File} {m n : Meaning} {answer : Result Answer Refusal} (call : Call)
    → Answers h before now file m
    → Makes (next (space before) h call) answer (stands next_file n) now after
    → Answers (one_call (space before) h call) before after next_file n
unfolding one_call
one_made call p q = record { traced = keeps_then p.traced q.2; machine = q.1 }

-- the law after any list of calls, from what the flat machine was fed
lawful : (calls : List Call) (start : Meaning) (before now : Trails) (file : File) (m : Meaning) → Sound start → Answers (fed (space before) calls start) before now file m → Lawful calls start before now file m
lawful calls start before now file m sound p = record {
  answers = p;
  store = record {
    backing = sym (stands_on file m) ∙ ap (λ (f : Flat). backing f) p.machine;
    each = λ earlier call later e. store_after_each _ earlier call _ sound;
  };
  tags = all_right file;
}

-- before the first call
pub begins : (m : Meaning) (t : Trails) → Sound m → Lawful [] m t t Cold m
begins m t sound = lawful [] m t t Cold m sound (none_made m t)

-- and after one more
pub continues : (call : Call) (answer : Result Answer Refusal) (now after : Trails) (file next_file : File) (m n : Meaning) → Makes (made (space now) call (stands file m)) answer (stands next_file n) now after → Continues call answer now after file next_file m n
continues call answer now after file next_file m n made_so calls start before sound law =
    let h = fed (space before) calls start in
    let q : Makes (next (space before) h call) answer (stands next_file n) now after = subst (λ (t : Told). Makes t answer (stands next_file n) now after) (is_next call law.answers) made_so in
    let p : Answers (fed (space before) (calls ++ call ∷ []) start) before after next_file n = subst (λ (x : Fed). Answers x before after next_file n) (sym (fed_more (space before) calls call start)) (one_made call law.answers q) in
    (q.0, lawful (calls ++ call ∷ []) start before after next_file n sound p)

-- as many answers as calls
answer_count : (s : Slots) (calls : List Call) (h : Fed) → length (fold (one_call s) h calls).answers ≡ length h.answers + length calls
unfolding one_call
answer_count s [] h = omega arith
answer_count s (c ∷ calls) h = answer_count s calls (one_call s h c) ∙ omega (arith, length-append h.answers ((next s h c).answer ∷ []))

fed_count : (s : Slots) (calls : List Call) (m : Meaning) → length (fed s calls m).answers ≡ length calls
fed_count s calls m = answer_count s calls (unfed m) ∙ zero-add (length calls)

-- where there is space, a record is added
pub is_added : {X Y : Type 0} {before after : Trail X} {x : X} (r : Result Y FullTrail) → 0 < space_of before → Adds before x r after → IsOk r × Added before after (x ∷ [])
is_added (Ok y) h a = (refl, a.1)
is_added (Err why) h a = absurd (omega (arith, a.0))

-- the first i calls and the next one
first_calls : (calls : List Call) (i : ℕ) (d : Call) → i < length calls → take (i + 1) calls ≡ take i calls ++ get_or calls i d ∷ []
first_calls calls i d small = ap (λ k. take k calls) (let e : i + 1 ≡ suc i = omega arith in e) ∙ take-suc calls i d small

-- the answers of the first i calls are in the trail, and the law holds
pub record Reached (calls : List Call) (i : ℕ) (start : Meaning) (answers_before answers_now : Trail (Result Answer Refusal)) (before now : Trails) (file : File) (m : Meaning) : Type 0 where
  pub added : Added answers_before answers_now (fed (space before) (take i calls) start).answers
  pub law : Lawful (take i calls) start before now file m

pub nothing_reached : (calls : List Call) (start : Meaning) (answers : Trail (Result Answer Refusal)) (t : Trails) → Sound start → Reached calls 0 start answers answers t t Cold start
nothing_reached calls start answers t sound = record { added = added_none answers; law = begins start t sound }

pub reached_more : {answers_before answers_now answers_after : Trail (Result Answer Refusal)} {before now after : Trails} {file next_file : File} {m n : Meaning} {answer : Result Answer Refusal} (calls : List Call) (start : Meaning) (i : ℕ) (d : Call)
    → i < length calls
    → Sound start
    → Reached calls i start answers_before answers_now before now file m
    → Continues (get_or calls i d) answer now after file next_file m n
    → Added answers_now answers_after (answer ∷ [])
    → Reached calls (i + 1) start answers_before answers_after before after next_file n
unfolding one_call
reached_more {answers_before = a0} {answers_now = a1} {answers_after = a2} {before = before} {after = after} {next_file = next_file} {n = n} {answer = answer} calls start i d small sound p continues added =
    let q = continues (take i calls) start before sound p.law in
    let e = sym (first_calls calls i d small) in
    let more : (fed (space before) (take i calls ++ get_or calls i d ∷ []) start).answers ≡ (fed (space before) (take i calls) start).answers ++ answer ∷ [] =
    ap (λ (h : Fed). h.answers) (fed_more (space before) (take i calls) (get_or calls i d) start)
    ∙ ap (λ (x : Result Answer Refusal). (fed (space before) (take i calls) start).answers ++ x ∷ []) (sym q.0) in
    record {
      added = subst (λ (cs : List Call). Added a0 a2 (fed (space before) cs start).answers) e (subst (λ (xs : List (Result Answer Refusal)). Added a0 a2 xs) (sym more) (added_then p.added added));
      law = subst (λ (cs : List Call). Lawful cs start before after next_file n) e q.1;
    }

-- as long as fewer calls were made than there was space for answers, there is space for one more
pub room : {before now : Trail (Result Answer Refusal)} (s : Slots) (calls : List Call) (start : Meaning) (i : ℕ) → Added before now (fed s (take i calls) start).answers → i < space_of before → 0 < space_of now
room s calls start i p small = omega (arith, space_after p, fed_count s (take i calls) start, length-take i calls, small)

-- at the end
pub all_reached : {answers_before answers_now : Trail (Result Answer Refusal)} {before now : Trails} {file : File} {m : Meaning} (calls : List Call) (start : Meaning) (i n : ℕ)
    → i ≡ min n (length calls)
    → Reached calls i start answers_before answers_now before now file m
    → Added answers_before answers_now (fed (space before) (take n calls) start).answers × Lawful (take n calls) start before now file m
all_reached {answers_before = a0} {answers_now = a1} {before = before} {now = now} {file = file} {m = m} calls start i n e p =
    let same : take i calls ≡ take n calls = ap (λ k. take k calls) e ∙ take_min n calls in (
      subst (λ (cs : List Call). Added a0 a1 (fed (space before) cs start).answers) same p.added,
      subst (λ (cs : List Call). Lawful cs start before now file m) same p.law,
    )
