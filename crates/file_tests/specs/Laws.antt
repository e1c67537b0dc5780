-- A write of one byte leaves as many bytes.
use Rattle.std.specs.Prelude.{◌≡◌, ℕ, List, length, set}
use Rattle.std.proofs.Common.{◌∙◌}
use Rattle.std.proofs.lemmas.List.{length-set}

pub poked : (place byte : ℕ) (b : List ℕ) → length b ≡ 128 → length (set b place byte) ≡ 128
poked place byte b h = length-set b place byte ∙ h
