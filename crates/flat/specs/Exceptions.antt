-- Every exception with its number.
use Rattle.std.specs.Prelude.{ℕ, ◌+◌, ◌*◌}
use Rattle.word.specs.Numbers.{special_number}
use Rattle.flat.specs.declared.exception.Exception.{Exception}
use Rattle.flat.specs.declared.exception.Exception.TheVariants.{Interrupt, ZeroDivisor, Undefined, Wide, Software, UserReti, UserRetx, UserCopyOut, UserCopyIn, NextLine, MissingLine, FixedLine}

-- In user mode cpy enters 0x7 + its opcode, which is 2 n out of the special register n and 2 n + 1 into it.
abbrev pub exception_number : Exception → ℕ
exception_number Interrupt = 0x0
exception_number ZeroDivisor = 0x1
exception_number Undefined = 0x2
exception_number Wide = 0x3
exception_number Software = 0x4
exception_number UserReti = 0x5
exception_number UserRetx = 0x6
exception_number (UserCopyOut from) = 0x7 + 2 * special_number from
exception_number (UserCopyIn to) = 0x7 + (2 * special_number to + 1)
exception_number NextLine = 0x15
exception_number MissingLine = 0x16
exception_number FixedLine = 0x17
