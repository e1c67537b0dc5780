-- The elements of a line: the numbers that its bytes make, the lowest byte first.
use Rattle.std.specs.Prelude.{◌≡◌, ℕ, zero, suc, ◌+◌, ◌*◌, ◌/◌, ◌%◌, ◌^◌, List, [], ◌∷◌, ◌++◌, length, take, drop, replicate, ℤ, pos, slice_index}
use Rattle.word.specs.Types.{width}
use Rattle.word.specs.declared.element.ElementType.{ElementType}
use Rattle.scalar.specs.Casts.{residue, cast}

-- The number that w bytes from the place p on make.
unfoldable pub number : ℕ → List ℕ → ℕ → ℕ
number zero bs p = 0
number (suc zero) bs p = slice_index bs p
number (suc (suc w)) bs p = number (suc w) bs p + slice_index bs (p + suc w) * 256 ^ suc w

-- The w lowest bytes of the number m.
unfoldable pub bytes : ℕ → ℕ → List ℕ
bytes zero m = []
bytes (suc zero) m = (m % 256) ∷ []
bytes (suc (suc w)) m = bytes (suc w) m ++ (m / 256 ^ suc w % 256) ∷ []

-- A line is 128 bytes, and so many elements.
abbrev pub count : ElementType → ℕ
count t = 128 / width t

-- Element k of a line is the number of its bytes, read by the type.
unfoldable pub element : ElementType → List ℕ → ℕ → ℤ
element t line k = cast t (pos (number (width t) line (k * width t)))

-- The line with the bytes bs from the place p on, and its others as they were.
unfoldable pub splice : List ℕ → ℕ → List ℕ → List ℕ
splice line p bs = take p line ++ (bs ++ drop (p + length bs) line)

-- The line with its element k, of w bytes, replaced by z, which is cast.
abbrev pub put : ℕ → List ℕ → ℕ → ℤ → List ℕ
put w line k z = splice line (k * w) (bytes w (residue (8 * w) z))

-- The zero line.
abbrev pub zero_line : List ℕ
zero_line = replicate 128 0

-- Every element by type b, cast to type a, is the element by type a.
abbrev pub Recast : ElementType → ElementType → Type 0
Recast a b = (line : List ℕ) (k : ℕ) → cast a (element b line k) ≡ element a line k
