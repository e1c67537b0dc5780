-- What the C functions leave in the caller's memory.
use Rattle.std.specs.Prelude.{ℕ, ◌≤◌, ◌≡◌}
use Rattle.word.specs.Numbers.{type_number}
use Rattle.word.specs.declared.element.ElementType.{ElementType}

-- What is made for the type that has the number n; a number that no type has leaves all as it was.
pub record Leaves {X : Type 0} (n : ℕ) (made : ElementType → X) (before after : X) : Type 0 where
  pub known : (t : ElementType) → type_number t ≡ n → after ≡ made t
  pub unknown : 8 ≤ n → after ≡ before
