-- The instruction registers, as the code has them.
use Rattle.std.proofs.Common.{◌≡◌, ℕ, ◌<◌, Bool, true, false, List, ap, refl, sym, ◌∙◌, arith}
use Rattle.std.proofs.Math.Path.{fun_ext}
use Rattle.std.proofs.lemmas.Bool.{cond-true}
use Rattle.std.proofs.lemmas.Bool.Decides.{nat_tests}
use Rattle.flat.specs.Calls.{started_instructions}
use Rattle.flat.specs.Registers.{zeros, is_real, is_zero, line_of}
use Rattle.flat.specs.Instructions.{take}
use Rattle.tags.specs.Names.{Names, Sound, Goes, gone, started, tag_of}
use Rattle.tags.specs.Invariants.{all}
use Rattle.file.specs.Standing.{instructions_of}
use Rattle.file.proofs.InstructionSide.{takes}

start_at : (b : List ℕ) (r : ℕ) (z : Bool) → is_real r ≡ z → instructions_of (started b) r ≡ started_instructions b r
unfolding instructions_of started
start_at b r true h = grind (arith, nat_tests, h)
start_at b r false h = grind (arith, nat_tests, h)

pub starts : (s : Names) (b : List ℕ) → s ≡ started b → instructions_of s ≡ started_instructions b
starts s b e = ap instructions_of e ∙ fun_ext (λ r. start_at b r (is_real r) refl)

took_by : (s after : Names) (r a : ℕ) (memory : ℕ → List ℕ) (z : Bool) → is_zero r ≡ z → r < 128 → Sound s → Goes r a (memory (line_of a)) s after → instructions_of after ≡ take r a memory (instructions_of s)
unfolding take gone
took_by s after r a memory true h within sound goes = ap instructions_of (goes.2 ∙ cond-true _ _ _ h) ∙ sym (cond-true _ _ _ h)
took_by s after r a memory false h within sound goes =
    ap instructions_of goes.2 ∙ takes s r goes.0 a memory within h sound.linked sound.used (goes.1 h)

-- going to an address is taking its line
pub took : (s after : Names) (r a : ℕ) (memory : ℕ → List ℕ) → r < 128 → Sound s → Goes r a (memory (line_of a)) s after → instructions_of after ≡ take r a memory (instructions_of s)
took s after r a memory = took_by s after r a memory (is_zero r) refl

words_by : (s : Names) (r t : ℕ) (z : Bool) → is_zero r ≡ z → r < 128 → Sound s → t ≡ tag_of s r → s.bytes t ≡ (instructions_of s r).bytes
unfolding instructions_of zeros all
words_by s r t true h within sound e = grind (arith, nat_tests, h, within, e, sound.zero_bytes)
words_by s r t false h within sound e = grind (arith, nat_tests, h, within, e, sound.linked r within h)

-- a register has the bytes of its tag
pub words_are : (s : Names) (r t : ℕ) → r < 128 → Sound s → t ≡ tag_of s r → s.bytes t ≡ (instructions_of s r).bytes
words_are s r t = words_by s r t (is_zero r) refl
