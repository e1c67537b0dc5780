-- The law over whole histories. Whatever calls are made of the engine, in whatever order and with whatever they are given, refused ones too, from a cold file on and on one store, plain or layered:
--
-- a. Every answer, every refusal, everything shown and everything traced is what a flat machine that is fed the same calls gives, and the file that is left stands for the machine that is left. The flat machine starts cold and unmarked, with the store's lines as they stood before the first call; from then on it gets the calls and, of the trails, the space left, and nothing of the file or the store.
--
-- b. The store holds what the flat machine's backing copy holds. After an accepted flush or halt that is its memory too. Any other call changes a line of the store only if, in one of its steps as the flat machine takes them, the line's last data register leaves it, and then the line holds the bytes that memory held when this last happened.
--
-- c. In a warm file every data register carries a tag from 1 to 127, which holds the line that it names; two carry one tag exactly when they name one line, and the count of a tag is the number of registers that carry it; so too the instruction registers. Zero registers are excepted: they carry no tag.
--
-- Every list of calls is the beginning of longer ones, and a beginning is a list of its own: so the law is said of what stands after each call.
use Rattle.std.specs.Prelude.{◌≡◌, ◌↔◌, ℕ, ◌<◌, false, List, [], ◌∷◌, ◌++◌, Result, slice_index}
use Rattle.flat.specs.declared.refusal.Refusal.{Refusal}
use Rattle.store.specs.Meaning.{Meaning, Sound}
use Rattle.flat.specs.Calls.{backing}
use Rattle.flat.specs.Fed.{Fed, fed, next}
use Rattle.flat.specs.Leaving.{StoreAfter}
use Rattle.flat.specs.Registers.{is_zero, line_of}
use Rattle.flat.specs.declared.answer.Answer.{Answer}
use Rattle.flat.specs.declared.call.Call.{Call}
use Rattle.flat.specs.declared.records.Slots.{Slots}
use Rattle.tags.specs.Invariants.{carriers}
use Rattle.tags.specs.declared.bank.Bank.{Bank}
use Rattle.calls.specs.Files.{stands}
use Rattle.calls.specs.Trails.{Keeps, space}
use Rattle.calls.specs.declared.files.File.{File}
use Rattle.calls.specs.declared.files.File.TheVariants.{Cold, Warm}
use Rattle.calls.specs.declared.trails.Trails.{Trails}

-- a. h is what the flat machine was fed: what traces kept is in the trails, and the file stands for its machine on the store.
pub record Answers (h : Fed) (before now : Trails) (file : File) (m : Meaning) : Type 0 where
  pub traced : Keeps before now h.kept
  pub machine : stands file m ≡ h.flat

-- b. The store meant `before` before the first call and `after` after the last.
pub record StoreKept (space : Slots) (calls : List Call) (before after : Meaning) : Type 0 where
  pub backing : after ≡ backing (fed space calls before).flat
  pub each : (earlier : List Call) (call : Call) (later : List Call) → calls ≡ earlier ++ call ∷ later → let h = fed space earlier before in StoreAfter h.flat (next space h call)

-- The tag that a register carries, the line that it names, and the line and the count that are kept of a tag.
abbrev pub tag : Bank → ℕ → ℕ
tag b r = slice_index b.columns.carried r

abbrev pub line : Bank → ℕ → ℕ
line b r = line_of (slice_index b.columns.addresses r)

abbrev pub held : Bank → ℕ → ℕ
held b t = slice_index b.columns.lines t

abbrev pub count : Bank → ℕ → ℕ
count b t = slice_index b.columns.counts t

-- Of the registers of one kind.
pub record TagsRight (b : Bank) : Type 0 where
  pub carried : (r : ℕ) → r < 128 → is_zero r ≡ false → (0 < tag b r) × (tag b r < 128) × (held b (tag b r) ≡ line b r)
  pub shared : (q r : ℕ) → q < 128 → r < 128 → is_zero q ≡ false → is_zero r ≡ false → (tag b q ≡ tag b r) ↔ (line b q ≡ line b r)
  pub counted : (t : ℕ) → 0 < t → t < 128 → count b t ≡ carriers b.columns.carried t
  pub zero_registers : (tag b 0 ≡ 0) × (tag b 64 ≡ 0)

-- c. Of a file.
abbrev pub AllTagsRight : File → Type 0
AllTagsRight Cold = Unit {0}
AllTagsRight (Warm m) = TagsRight m.registers.bank × TagsRight m.instructions.bank

-- The law of what stands after a list of calls: the file, the trails and what the store means now, where the store meant `start` before the first call and the trails were `before`.
pub record Lawful (calls : List Call) (start : Meaning) (before now : Trails) (file : File) (m : Meaning) : Type 0 where
  pub answers : Answers (fed (space before) calls start) before now file m
  pub store : StoreKept (space before) calls start m
  pub tags : AllTagsRight file

-- One more call: where the law holds of what stands before it, after some list of calls, it is answered as the flat machine that is fed that list answers it, and the law holds of what stands after it.
abbrev pub Continues : Call → Result Answer Refusal → Trails → Trails → File → File → Meaning → Meaning → Type 0
Continues call answer trails_before trails_after file_before file_after m_before m_after =
    (calls : List Call) (start : Meaning) (before : Trails) → Sound start → Lawful calls start before trails_before file_before m_before
    → (answer ≡ (next (space before) (fed (space before) calls start) call).answer) × Lawful (calls ++ call ∷ []) start before trails_after file_after m_after
