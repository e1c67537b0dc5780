-- The word formats: which word holds which operation.
use Rattle.std.specs.Prelude.{ℕ, ◌+◌, ◌*◌, ◌≤◌, [], ◌∷◌}
use Rattle.word.specs.Fields.{plain, nonzero, signed, Made}
use Rattle.word.specs.Numbers.{type_number, arith_number, reduction_number, special_number, form_number}
use Rattle.word.specs.declared.operations.Operation.{Operation}
use Rattle.word.specs.declared.operations.Operation.TheVariants.{Arith, AddAddress, Div, Reduce, Load, Store, Dup, Fetch, JumpNotZero, JumpZero, Hand, CopyOut, CopyIn, Swi, Reti, Retx}

-- The word w holds the operation. Each row gives the fields from bit 31 down, the group of 4 bits
-- first and the opcode last, with a zero in each unused field. No other word holds the operation,
-- and a word that holds none is undefined.
abbrev pub Codes : Operation → ℕ → Type 0
Codes (Arith op form a b c) word = Made (plain 0 4 ∷ plain a 6 ∷ plain b 6 ∷ plain c 6 ∷ plain 0 5 ∷ plain (form_number form) 1 ∷ plain (arith_number op) 4 ∷ []) word
-- address add is opcode 11
Codes (AddAddress form a b c) word = Made (plain 0 4 ∷ plain a 6 ∷ plain b 6 ∷ plain c 6 ∷ plain 0 5 ∷ plain (form_number form) 1 ∷ plain 11 4 ∷ []) word
-- div.s is opcode 14 and has v = 0, div.v is opcode 15 and has v = 1
Codes (Div form a b c d) word = Made (plain 0 4 ∷ plain a 6 ∷ plain b 6 ∷ plain c 6 ∷ plain d 5 ∷ plain (form_number form) 1 ∷ plain (14 + form_number form) 4 ∷ []) word
Codes (Reduce op a b) word = Made (plain 1 4 ∷ plain a 6 ∷ plain b 6 ∷ plain 0 12 ∷ plain (reduction_number op) 4 ∷ []) word
Codes (Load kind a b i) word = Made (plain 2 4 ∷ plain a 6 ∷ plain b 6 ∷ signed i 12 ∷ plain (type_number kind) 4 ∷ []) word
Codes (Store kind a b i) word = Made (plain 3 4 ∷ plain a 6 ∷ plain b 6 ∷ signed i 12 ∷ plain (type_number kind) 4 ∷ []) word
Codes (Dup kind a b) word = Made (plain 4 4 ∷ plain a 6 ∷ plain b 6 ∷ plain 0 12 ∷ plain (type_number kind) 4 ∷ []) word
-- the registers a to a + j end at 62
Codes (Fetch a b i j) word = Made (plain 5 4 ∷ plain a 6 ∷ plain b 6 ∷ signed i 11 ∷ plain j 4 ∷ plain 1 1 ∷ []) word × (a + j ≤ 62)
-- in group 6, b is not 0
Codes (JumpNotZero a b w) word = Made (plain 6 4 ∷ plain a 6 ∷ nonzero b 6 ∷ plain w 5 ∷ plain 0 7 ∷ plain 0 4 ∷ []) word
Codes (JumpZero a b w) word = Made (plain 6 4 ∷ plain a 6 ∷ nonzero b 6 ∷ plain w 5 ∷ plain 0 7 ∷ plain 1 4 ∷ []) word
Codes (Hand b w) word = Made (plain 6 4 ∷ plain 0 6 ∷ nonzero b 6 ∷ plain w 5 ∷ plain 0 7 ∷ plain 2 4 ∷ []) word
-- out of the special register of number n is opcode 2 n, into it 2 n + 1
Codes (CopyOut from a) word = Made (plain 8 4 ∷ plain a 6 ∷ plain 0 6 ∷ plain 0 6 ∷ plain 0 6 ∷ plain (2 * special_number from) 4 ∷ []) word
Codes (CopyIn to a) word = Made (plain 8 4 ∷ plain a 6 ∷ plain 0 6 ∷ plain 0 6 ∷ plain 0 6 ∷ plain (2 * special_number to + 1) 4 ∷ []) word
Codes (Swi a b c d) word = Made (plain 8 4 ∷ plain a 6 ∷ plain b 6 ∷ plain c 6 ∷ plain d 6 ∷ plain 12 4 ∷ []) word
Codes Reti word = Made (plain 8 4 ∷ plain 0 6 ∷ plain 0 6 ∷ plain 0 6 ∷ plain 0 6 ∷ plain 13 4 ∷ []) word
Codes Retx word = Made (plain 8 4 ∷ plain 0 6 ∷ plain 0 6 ∷ plain 0 6 ∷ plain 0 6 ∷ plain 14 4 ∷ []) word
