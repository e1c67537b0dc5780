-- A write of one element leaves as many bytes.
use Rattle.std.specs.Prelude.{◌≡◌, ℕ, ◌<◌, ◌/◌, List, length, ℤ}
use Rattle.std.proofs.Common.{arith}
use Rattle.word.specs.declared.element.ElementType.TheVariants.{U16}
use Rattle.line.specs.Elements.{put}
use Rattle.line.proofs.Rows.{splice_length}

pub put_whole : (offset : ℕ) (z : ℤ) (b : List ℕ) → offset < 128 → length b ≡ 128 → length (put 2 b (offset / 2) z) ≡ 128
put_whole offset z b h long = splice_length U16 b (offset / 2) _ long (omega (arith, h))
