-- Each kind of store is sound. These are proofs, and nothing that a reader must believe: a law can cite them only from here.
use Rattle.std.specs.Prelude.{◌≡◌, ℕ, ◌-◌, ◌≤◌, List, [], length}
use Rattle.std.proofs.Common.{arith, length-take, length-drop, length-append}
use Rattle.std.proofs.lemmas.List.{length-replicate}
use Rattle.std.proofs.lemmas.Bool.{false≢true}
use Rattle.std.proofs.lemmas.Bool.Decides.{nat_tests}
use Rattle.store.specs.Meaning.{Meaning, Sound}
use Rattle.store.specs.Kinds.{line_of, filled, ram, rom, open_bus, fuse, split}

pub ram_sound : (name : ℕ) (bytes : List ℕ) → Sound (ram name bytes)
ram_sound name bytes =
    record { bounded = omega arith; whole = λ n h. simp (length-take, length-drop) (omega arith); within = λ n e. grind (arith, nat_tests) }

filled_line : (bytes : List ℕ) (more : ℕ) → length bytes ≤ 128 → length (filled bytes more) ≡ 128
unfolding filled
filled_line bytes more h = simp (length-append, length-replicate) (omega arith)

pub rom_sound : (bytes : List ℕ) → Sound (rom bytes)
rom_sound bytes =
    record { bounded = omega arith; whole = λ n h. filled_line (line_of bytes n) 0 (simp length-take (omega arith)); within = λ n e. absurd (false≢true e) }

pub open_sound : (lines : ℕ) → Sound (open_bus lines)
open_sound lines = record { bounded = omega arith; whole = λ n h. filled_line [] 0xFF (omega arith); within = λ n e. absurd (false≢true e) }

pub fuse_sound : (below : ℕ) (m : Meaning) → Sound m → Sound (fuse below m)
fuse_sound below m s = record { bounded = s.bounded; whole = s.whole; within = λ n e. grind (arith, nat_tests, s.within n) }

pub split_sound : (low high : Meaning) → Sound low → Sound high → Sound (split low high)
split_sound low high s t =
    record {
      bounded = omega arith;
      whole = λ n h. grind (arith, nat_tests, s.whole n, t.whole (n - low.size));
      within = λ n e. grind (arith, nat_tests, s.within n, t.within (n - low.size));
    }
