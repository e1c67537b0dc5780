-- The fields of an operation's word behind its group, as `Codes` has them.
use Rattle.std.proofs.Common.{◌+◌, ◌*◌, List, [], ◌∷◌}
use Rattle.word.specs.Fields.{Field}
use Rattle.word.specs.Fields.Field.{plain, nonzero, signed}
use Rattle.word.specs.Numbers.{type_number, arith_number, reduction_number, special_number, form_number}
use Rattle.word.specs.declared.operations.Operation.{Operation}
use Rattle.word.specs.declared.operations.Operation.TheVariants.{Arith as Arithmetic, AddAddress, Div, Reduce, Load, Store, Dup, Fetch, JumpNotZero, JumpZero, Hand, CopyOut, CopyIn, Swi, Reti, Retx}

abbrev pub row : Operation → List Field
row (Arithmetic op form a b c) = plain a 6 ∷ plain b 6 ∷ plain c 6 ∷ plain 0 5 ∷ plain (form_number form) 1 ∷ plain (arith_number op) 4 ∷ []
row (AddAddress form a b c) = plain a 6 ∷ plain b 6 ∷ plain c 6 ∷ plain 0 5 ∷ plain (form_number form) 1 ∷ plain 11 4 ∷ []
row (Div form a b c d) = plain a 6 ∷ plain b 6 ∷ plain c 6 ∷ plain d 5 ∷ plain (form_number form) 1 ∷ plain (14 + form_number form) 4 ∷ []
row (Reduce op a b) = plain a 6 ∷ plain b 6 ∷ plain 0 12 ∷ plain (reduction_number op) 4 ∷ []
row (Load kind a b i) = plain a 6 ∷ plain b 6 ∷ signed i 12 ∷ plain (type_number kind) 4 ∷ []
row (Store kind a b i) = plain a 6 ∷ plain b 6 ∷ signed i 12 ∷ plain (type_number kind) 4 ∷ []
row (Dup kind a b) = plain a 6 ∷ plain b 6 ∷ plain 0 12 ∷ plain (type_number kind) 4 ∷ []
row (Fetch a b i j) = plain a 6 ∷ plain b 6 ∷ signed i 11 ∷ plain j 4 ∷ plain 1 1 ∷ []
row (JumpNotZero a b w) = plain a 6 ∷ nonzero b 6 ∷ plain w 5 ∷ plain 0 7 ∷ plain 0 4 ∷ []
row (JumpZero a b w) = plain a 6 ∷ nonzero b 6 ∷ plain w 5 ∷ plain 0 7 ∷ plain 1 4 ∷ []
row (Hand b w) = plain 0 6 ∷ nonzero b 6 ∷ plain w 5 ∷ plain 0 7 ∷ plain 2 4 ∷ []
row (CopyOut from a) = plain a 6 ∷ plain 0 6 ∷ plain 0 6 ∷ plain 0 6 ∷ plain (2 * special_number from) 4 ∷ []
row (CopyIn to a) = plain a 6 ∷ plain 0 6 ∷ plain 0 6 ∷ plain 0 6 ∷ plain (2 * special_number to + 1) 4 ∷ []
row (Swi a b c d) = plain a 6 ∷ plain b 6 ∷ plain c 6 ∷ plain d 6 ∷ plain 12 4 ∷ []
row Reti = plain 0 6 ∷ plain 0 6 ∷ plain 0 6 ∷ plain 0 6 ∷ plain 13 4 ∷ []
row Retx = plain 0 6 ∷ plain 0 6 ∷ plain 0 6 ∷ plain 0 6 ∷ plain 14 4 ∷ []
