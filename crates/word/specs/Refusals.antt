-- What writing a word refuses, with its number.
use Rattle.std.specs.Prelude.{ℕ}
use Rattle.word.specs.declared.no_word.NoWord.{NoWord}

abbrev pub refusal_number : NoWord → ℕ
refusal_number _ = 6
