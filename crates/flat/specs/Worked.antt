-- One word, carried out by a machine that was just booted on a store of which it is the first word.
use Rattle.std.specs.Prelude.{ℕ, true, if◌then◌else◌, ◌++◌, replicate, ◌==◌}
use Rattle.line.specs.Elements.{bytes}
use Rattle.store.specs.Meaning.{Meaning, nothing}
use Rattle.flat.specs.Registers.{zeros}
use Rattle.flat.specs.Calls.{started}
use Rattle.flat.specs.Step.{AfterStep, step}

-- A store of two writable lines of zeros, but for the word w at its front.
abbrev pub store_with : ℕ → Meaning
store_with w = record { size = 2; line = λ n. if n == 0 then bytes 4 w ++ replicate 124 0 else zeros; canwrite = λ n. true; kept = nothing }

-- What the step leaves and answers.
abbrev pub after_word : ℕ → AfterStep
after_word w = step (started (store_with w))
