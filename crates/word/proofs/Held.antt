-- What a word holds is found by `operation`.
use Rattle.std.proofs.Common.{◌≡◌, ℕ, ◌+◌, ◌*◌, ◌/◌, ◌%◌, ◌<◌, ◌≤◌, Some, refl, arith}
use Rattle.std.specs.Prelude.{true, false, ◌==◌, nat_lt, nat_le}
use Rattle.std.proofs.lemmas.Bool.Decides.{nat_tests}
use Rattle.word.specs.Codes.{Codes}
use Rattle.word.specs.Fields.{extract}
use Rattle.word.specs.Fields.Field.{plain}
use Rattle.word.specs.Numbers.{arith_number, form_number, special_number}
use Rattle.word.specs.declared.opcodes.Arith.{Arith}
use Rattle.word.specs.declared.opcodes.Form.{Form}
use Rattle.word.specs.declared.opcodes.Special.{Special}
use Rattle.word.specs.declared.operations.Operation.{Operation}
use Rattle.word.specs.declared.operations.Operation.TheVariants.{Arith as Arithmetic, AddAddress, Div, Reduce, Load, Store, Dup, Fetch, JumpNotZero, JumpZero, Hand, CopyOut, CopyIn, Swi, Reti, Retx}
use Rattle.word.specs.Reading.{operation}
use Rattle.word.proofs.Numbered.{type_listed, arith_listed, reduction_listed, special_listed, form_listed, from_twos_of}
use Rattle.word.proofs.Places.{made_has}
use Rattle.word.proofs.Rows.{row}

-- no arithmetic has the opcode of div
not_div : (op : Arith) (form : Form) → (arith_number op == 14 + form_number form) ≡ false
not_div op form = grind arith

-- nor that of addr, which is not that of div
not_addr : (op : Arith) → (arith_number op == 11) ≡ false
not_addr op = grind arith

addr_not_div : (form : Form) → (11 == 14 + form_number form) ≡ false
addr_not_div form = grind arith

is_div : (form : Form) → (14 + form_number form == 14 + form_number form) ≡ true
is_div form = grind arith

-- an opcode of cpy is below that of swi, and has its register and its direction
is_copy : (n : Special) (k : ℕ) → k < 2 → ((2 * special_number n + k == 12) ≡ false) × ((2 * special_number n + k == 13) ≡ false) × ((2 * special_number n + k == 14) ≡ false) × ((2 * special_number n + k) % 2 ≡ k) × ((2 * special_number n + k) / 2 ≡ special_number n)
is_copy n k h =
    let most : special_number n ≤ 5 = grind arith in
    (grind (arith, nat_tests), grind (arith, nat_tests), grind (arith, nat_tests), omega arith, omega arith)

pub operation_held : (w : ℕ) (op : Operation) → Codes op w → operation w ≡ Some op
unfolding operation
operation_held w (Arithmetic op form a b c) h =
    let e = made_has w (plain 0 4) (row (Arithmetic op form a b c)) refl h in
    rw (e.1, e.0.0, e.0.1.0, e.0.1.1.0, e.0.1.1.1.0, e.0.1.1.1.1.0, e.0.1.1.1.1.1.0, form_listed form, not_div op form, not_addr op, arith_listed op) refl
operation_held w (AddAddress form a b c) h =
    let e = made_has w (plain 0 4) (row (AddAddress form a b c)) refl h in
    rw (e.1, e.0.0, e.0.1.0, e.0.1.1.0, e.0.1.1.1.0, e.0.1.1.1.1.0, e.0.1.1.1.1.1.0, form_listed form, addr_not_div form) refl
operation_held w (Div form a b c d) h =
    let e = made_has w (plain 0 4) (row (Div form a b c d)) refl h in
    rw (e.1, e.0.0, e.0.1.0, e.0.1.1.0, e.0.1.1.1.0, e.0.1.1.1.1.0, e.0.1.1.1.1.1.0, form_listed form, is_div form) refl
operation_held w (Reduce op a b) h =
    let e = made_has w (plain 1 4) (row (Reduce op a b)) refl h in
    rw (e.1, e.0.0, e.0.1.0, e.0.1.1.0, e.0.1.1.1.0, reduction_listed op) refl
operation_held w (Load kind a b i) h =
    let e = made_has w (plain 2 4) (row (Load kind a b i)) refl h in
    rw (e.1, e.0.0, e.0.1.0, e.0.1.1.0, e.0.1.1.1.0, from_twos_of 2048 i h.0.1.1.1.0, type_listed kind) refl
operation_held w (Store kind a b i) h =
    let e = made_has w (plain 3 4) (row (Store kind a b i)) refl h in
    rw (e.1, e.0.0, e.0.1.0, e.0.1.1.0, e.0.1.1.1.0, from_twos_of 2048 i h.0.1.1.1.0, type_listed kind) refl
operation_held w (Dup kind a b) h =
    let e = made_has w (plain 4 4) (row (Dup kind a b)) refl h in
    rw (e.1, e.0.0, e.0.1.0, e.0.1.1.0, e.0.1.1.1.0, type_listed kind) refl
operation_held w (Fetch a b i j) h =
    let e = made_has w (plain 5 4) (row (Fetch a b i j)) refl h.0 in
    let most : nat_le (a + j) 62 ≡ true = grind (arith, nat_tests) in
    rw (e.1, e.0.0, e.0.1.0, e.0.1.1.0, e.0.1.1.1.0, e.0.1.1.1.1.0, from_twos_of 1024 i h.0.0.1.1.1.0, most) refl
operation_held w (JumpNotZero a b k) h =
    let e = made_has w (plain 6 4) (row (JumpNotZero a b k)) refl h in
    let some : nat_lt 0 b ≡ true = grind (arith, nat_tests) in
    rw (e.1, e.0.0, e.0.1.0, e.0.1.1.0, e.0.1.1.1.0, e.0.1.1.1.1.0, some) refl
operation_held w (JumpZero a b k) h =
    let e = made_has w (plain 6 4) (row (JumpZero a b k)) refl h in
    let some : nat_lt 0 b ≡ true = grind (arith, nat_tests) in
    rw (e.1, e.0.0, e.0.1.0, e.0.1.1.0, e.0.1.1.1.0, e.0.1.1.1.1.0, some) refl
operation_held w (Hand b k) h =
    let e = made_has w (plain 6 4) (row (Hand b k)) refl h in
    let some : nat_lt 0 b ≡ true = grind (arith, nat_tests) in
    rw (e.1, e.0.0, e.0.1.0, e.0.1.1.0, e.0.1.1.1.0, e.0.1.1.1.1.0, some) refl
operation_held w (CopyOut n a) h =
    let e = made_has w (plain 8 4) (row (CopyOut n a)) refl h in
    let k = is_copy n 0 (omega arith) in
    let even : extract w 0 4 ≡ 2 * special_number n + 0 = omega (arith, e.0.1.1.1.1.0) in
    rw (e.1, e.0.0, e.0.1.0, e.0.1.1.0, e.0.1.1.1.0, even, k.0, k.1, k.2, k.3, k.4, special_listed n) refl
operation_held w (CopyIn n a) h =
    let e = made_has w (plain 8 4) (row (CopyIn n a)) refl h in
    let k = is_copy n 1 (omega arith) in
    rw (e.1, e.0.0, e.0.1.0, e.0.1.1.0, e.0.1.1.1.0, e.0.1.1.1.1.0, k.0, k.1, k.2, k.3, k.4, special_listed n) refl
operation_held w (Swi a b c d) h =
    let e = made_has w (plain 8 4) (row (Swi a b c d)) refl h in
    rw (e.1, e.0.0, e.0.1.0, e.0.1.1.0, e.0.1.1.1.0, e.0.1.1.1.1.0) refl
operation_held w Reti h =
    let e = made_has w (plain 8 4) (row Reti) refl h in
    rw (e.1, e.0.0, e.0.1.0, e.0.1.1.0, e.0.1.1.1.0, e.0.1.1.1.1.0) refl
operation_held w Retx h =
    let e = made_has w (plain 8 4) (row Retx) refl h in
    rw (e.1, e.0.0, e.0.1.0, e.0.1.1.0, e.0.1.1.1.0, e.0.1.1.1.1.0) refl
