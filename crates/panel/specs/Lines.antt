-- The lines that are printed after a command, and of a refused image.
use Rattle.std.specs.Prelude.{ℕ, List, ◌++◌, encode_utf8, codes}
use Rattle.std.specs.Fmt.{decimal}
use Rattle.flat.specs.Calls.{Flat, Called, answered, when_warm}
use Rattle.flat.specs.Machine.{Machine, ipc_address}
use Rattle.image.specs.Refusals.{refusal_number}
use Rattle.text.specs.Hex.{hex}
use Rattle.text.specs.Modes.{mode_text}
use Rattle.panel.specs.declared.refused.RefusedImage.{RefusedImage}
use Rattle.panel.specs.declared.shown.Line.{Line}

-- A line has the letter, the mode, ipc's address and xct.
abbrev pub line_of : ℕ → Machine → Line
line_of letter m = record { letter = letter; mode = m.control.mode; address = ipc_address m; xct = m.control.xct }

-- As every call, it is refused on a cold machine; it changes nothing.
abbrev pub line_call : ℕ → Flat → Called Line
line_call letter = when_warm (λ f. answered (line_of letter f.machine) f)

-- The printed line, with one space between.
abbrev pub text_of : Line → List ℕ
text_of line = encode_utf8 line.letter ++ codes " " ++ mode_text line.mode ++ codes " " ++ hex 8 line.address ++ codes " " ++ hex 8 line.xct

-- The line of a refused image: x, a space and the refusal's number.
abbrev pub refused_text : RefusedImage → List ℕ
refused_text image = codes "x " ++ decimal (refusal_number image.0)
