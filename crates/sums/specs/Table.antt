-- The worked sums, with the answers that the rules give.
use Rattle.std.specs.Prelude.{ℕ, pos, negsuc, Some, None, Option}
use Rattle.flat.specs.Data.{line, place}
use Rattle.flat.specs.Exceptions.{exception_number}
use Rattle.flat.specs.Worked.{after_word}
use Rattle.flat.specs.declared.exception.Stepped.{Stepped}
use Rattle.flat.specs.declared.exception.Stepped.TheVariants.{Done, Entered}
use Rattle.sums.specs.declared.rows.Sums.{Sums}
use Rattle.word.specs.declared.element.ElementType.TheVariants.{S16}
use Rattle.word.specs.declared.operations.Operation.TheVariants.{Load}

-- What is asked of the code, and of the flat machine: the numbers of the exceptions that it enters at the words 0x0000000E and 0x0000001E, and the line and the element that d5 of the supervisor, which is register 69, has after 0x21400C83.
pub record Table : Type 0 where
  pub sums : Sums
  pub zero_divisor : Option ℕ
  pub vector_form : Option ℕ
  pub line : ℕ
  pub element : ℕ

-- The number of the exception that a step entered, if it entered one.
abbrev pub entered : Stepped → Option ℕ
entered Done = None
entered (Entered x) = Some (exception_number x)

-- The table of what the code answered and what the flat machine does with these words.
abbrev pub asked : Sums → Table
asked sums = record {
  sums = sums;
  zero_divisor = entered (after_word 0x0000000E).answer;
  vector_form = entered (after_word 0x0000001E).answer;
  line = line (after_word 0x21400C83).machine.data_registers 69;
  element = place ((after_word 0x21400C83).machine.data_registers.registers 69);
}

-- 0x21400C83 is load s16, a 5, b 0, i 200; d5 then has line 1, element 36. 0x00000020 is undefined. 0x0000000E enters 0x1, 0x0000001E enters 0x2.
-- 200 cast to s8 is -56. s8 -7 over 2 is -3, remainder -1. s8 -1 shr 9 is -1. u8 0x81 rol 9 is 0x03.
-- add.r into u8 of 64 u16 fives is 64. (`negsuc m` is the number -(m + 1).)
abbrev pub table : Table
table = record {
  sums = record {
    load = Some (Load S16 5 0 (pos 200));
    unused_field = None;
    cast = negsuc 55;
    division = Some (record { quotient = negsuc 2; remainder = negsuc 0 });
    shift = negsuc 0;
    rotation = pos 3;
    sum = pos 64;
  };
  zero_divisor = Some 0x1;
  vector_form = Some 0x2;
  line = 1;
  element = 36;
}
