-- Which calls a private function reads.
use Rattle.flat.specs.declared.call.Call.{Call}
use Rattle.flat.specs.declared.call.Call.TheVariants.{Boot, Step, Run, Trace, Pin, ShowData, ShowInstruction, ShowRest, Flush, Halt}

-- A trace.
abbrev pub IsTrace : Call → Type 0
IsTrace (Trace limit most) = Unit {0}
IsTrace Boot = ⊥
IsTrace Step = ⊥
IsTrace (Run limit) = ⊥
IsTrace (Pin up) = ⊥
IsTrace (ShowData number) = ⊥
IsTrace (ShowInstruction number) = ⊥
IsTrace ShowRest = ⊥
IsTrace Flush = ⊥
IsTrace Halt = ⊥

-- A call that is given numbers.
abbrev pub HasNumbers : Call → Type 0
HasNumbers (Run limit) = Unit {0}
HasNumbers (Trace limit most) = Unit {0}
HasNumbers (ShowData number) = Unit {0}
HasNumbers (ShowInstruction number) = Unit {0}
HasNumbers Boot = ⊥
HasNumbers Step = ⊥
HasNumbers (Pin up) = ⊥
HasNumbers ShowRest = ⊥
HasNumbers Flush = ⊥
HasNumbers Halt = ⊥
