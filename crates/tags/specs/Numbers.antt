-- The number of a tag.
use Rattle.std.specs.Prelude.{ℕ}
use Rattle.tags.specs.declared.tag.Tag.{Tag}

-- Tags go by their numbers.
abbrev pub number : Tag → ℕ
number t = t.number
