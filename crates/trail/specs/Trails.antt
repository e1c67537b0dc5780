-- What a trail holds, and what adding to it does.
use Rattle.std.specs.Prelude.{◌≡◌, ℕ, ◌+◌, ◌-◌, ◌<◌, List, [], ◌∷◌, ◌++◌, length, take, drop, Ok, Err, Result}
use Rattle.trail.specs.declared.FullTrail.{FullTrail}
use Rattle.trail.specs.declared.Trail.{Trail}

-- The records held: what stands in the used slots, in their order.
abbrev pub held : {X : Type 0} → Trail X → List X
held t = take t.used t.slots.now

-- The space left: the slice's length less the records held. A trail is full at 0.
abbrev pub space : {X : Type 0} → Trail X → ℕ
space t = length t.slots.now - t.used

-- `after` is `before` with the records `more` added behind those held. No slot past them changes,
-- and it lies over the same loan of as many slots.
pub record Added {X : Type 0} (before after : Trail X) (more : List X) : Type 0 where
  pub records : held after ≡ held before ++ more
  pub used : after.used ≡ before.used + length more
  pub rest : drop after.used after.slots.now ≡ drop after.used before.slots.now
  pub size : length after.slots.now ≡ length before.slots.now
  pub loan : after.slots.ghost_name ≡ before.slots.ghost_name

-- Adding one record: with space left it is added; a full trail refuses it, and nothing changes.
abbrev pub Adds : {X Y : Type 0} → Trail X → X → Result Y FullTrail → Trail X → Type 0
Adds before x (Ok y) after = (0 < space before) × Added before after (x ∷ [])
Adds before x (Err _) after = (space before ≡ 0) × (after ≡ before)

-- The caller's slots when a trail that was made over them ends with the records `more`: these in
-- front, and every other slot as it was.
abbrev pub filled : {X : Type 0} → List X → List X → List X
filled slots more = more ++ drop (length more) slots
