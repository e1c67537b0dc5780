-- The text of each call.
use Rattle.std.specs.Prelude.{ℕ, ◌<◌, ◌^◌, List, ◌++◌, codes, true, false}
use Rattle.std.specs.Fmt.{decimal}
use Rattle.flat.specs.declared.call.Call.{Call}
use Rattle.flat.specs.declared.call.Call.TheVariants.{Boot, Step, Run, Trace, Pin, ShowData, ShowInstruction, ShowRest, Flush, Halt}

-- One space stands between words, and numbers are in decimal, with no sign and no zero in front.
abbrev pub text_of : Call → List ℕ
text_of Boot = codes "boot"
text_of Step = codes "step"
text_of (Run limit) = codes "run " ++ decimal limit
text_of (Trace limit most) = codes "trace " ++ decimal limit ++ codes " " ++ decimal most.steps ++ codes " " ++ decimal most.lines
text_of (Pin true) = codes "pin up"
text_of (Pin false) = codes "pin down"
text_of (ShowData number) = codes "show d " ++ decimal number
text_of (ShowInstruction number) = codes "show i " ++ decimal number
text_of ShowRest = codes "show rest"
text_of Flush = codes "flush"
text_of Halt = codes "halt"

-- The numbers of a call fit their types: limits have 32 bits, spaces 64, and numbers of registers 8.
abbrev pub Fits : Call → Type 0
Fits (Run limit) = limit < 2 ^ 32
Fits (Trace limit most) = (limit < 2 ^ 32) × (most.steps < 2 ^ 64) × (most.lines < 2 ^ 64)
Fits (ShowData number) = number < 2 ^ 8
Fits (ShowInstruction number) = number < 2 ^ 8
Fits Boot = Unit {0}
Fits Step = Unit {0}
Fits (Pin up) = Unit {0}
Fits ShowRest = Unit {0}
Fits Flush = Unit {0}
Fits Halt = Unit {0}
