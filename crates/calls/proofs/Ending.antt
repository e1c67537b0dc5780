-- What showing words and halting come to.
use Rattle.std.proofs.Common.{◌≡◌, ℕ, zero, suc, ◌*◌, ◌<◌, ◌≤◌, Bool, true, false, List, [], ◌∷◌, ◌++◌, length, take, slice_index, get_or, Ok, ap, refl, sym, ◌∙◌, arith}
use Rattle.std.proofs.Math.Seq.{take-suc}
use Rattle.std.proofs.lemmas.List.{take_all}
use Rattle.word.specs.Lines.{little_endian, WordsOf}
use Rattle.store.specs.Meaning.{Meaning}
use Rattle.flat.specs.Calls.{Flat, backing, cold, flush, halt, words_from}
use Rattle.calls.specs.Files.{stands}
use Rattle.file.specs.Machine.{stands as machine_stands}
use Rattle.file.specs.Data.{stands as data_stands}
use Rattle.file.specs.Standing.{data_of}
use Rattle.calls.specs.declared.files.File.{File}
use Rattle.calls.specs.declared.files.File.TheVariants.{Cold, Warm}

words_are : (line ws : List ℕ) (n : ℕ) → n ≤ length ws → ((k : ℕ) → k < n → slice_index ws k ≡ little_endian line (4 * k)) → take n ws ≡ words_from line n
unfolding words_from
words_are line ws zero l h = refl
words_are line ws (suc n) l h =
    take-suc ws n 0 (omega arith)
    ∙ (ap (λ xs. xs ++ get_or ws n 0 ∷ []) (words_are line ws n (omega arith) (λ k m. h k (omega arith)))
    ∙ ap (λ x. words_from line n ++ x ∷ []) (h n (omega arith)))

-- the 32 words of a line
pub all_words : (line ws : List ℕ) → WordsOf line ws → ws ≡ words_from line 32
all_words line ws h = sym (take_all 32 ws (omega (arith, h.0))) ∙ words_are line ws 32 (omega (arith, h.0)) h.1

-- a file stands on the store that it is handed
pub stands_on : (f : File) (m : Meaning) → backing (stands f m) ≡ m
unfolding stands cold machine_stands data_stands data_of
stands_on Cold m = refl
stands_on (Warm f) m = refl

-- once every touched line was sent back, the cold machine stands on what the store then holds
halted_by : (f : Flat) (m : Meaning) (w : Bool) (count : ℕ) → f.warm ≡ w → Ok count ≡ (flush f).answer → backing (flush f).flat ≡ m → cold m ≡ (halt f).flat
unfolding flush halt
halted_by f m true count h e g = grind (arith, h, e, g)
halted_by f m false count h e g = grind (arith, h, e)

pub halted : (f : Flat) (m : Meaning) (count : ℕ) → Ok count ≡ (flush f).answer → backing (flush f).flat ≡ m → cold m ≡ (halt f).flat
halted f m count = halted_by f m f.warm count refl
