use Rattle.std.proofs.Common.{◌≡◌, refl}
use Rattle.flat.specs.Worked.{after_word}
use Rattle.flat.specs.Step.{step, does, obeyed, obeyed_unless}
use Rattle.flat.specs.Machine.{entered}
use Rattle.flat.specs.Calls.{started}
use Rattle.flat.specs.Data.{given, accepted, left, let_go, sent_back, move_to, line, place}
use Rattle.flat.specs.Instructions.{held, take}
use Rattle.flat.specs.Operations.{carried_out, data_after}
use Rattle.flat.specs.Raising.{raised, first, reserved, narrow, even, too_wide, uneven_widths, missing, fixed, by_zero, no_next_line, moves_on, is_taken}
use Rattle.flat.specs.Registers.{shared, zeros}
use Rattle.word.specs.Reading.{operation}
use Rattle.line.specs.Dividing.{somewhere}
use Rattle.line.specs.Elements.{bytes, element, number}
use Rattle.scalar.specs.Casts.{cast, read_bits, residue}
use Rattle.flat.specs.declared.exception.Exception.TheVariants.{ZeroDivisor, Undefined}
use Rattle.flat.specs.declared.exception.Stepped.TheVariants.{Entered}

pub divides : (after_word 0x0000000E).answer ≡ Entered ZeroDivisor
unfolding bytes zeros step does obeyed obeyed_unless entered started given take held operation raised first reserved narrow even too_wide uneven_widths missing fixed by_zero no_next_line moves_on is_taken element number cast read_bits residue
divides = refl

pub undefined : (after_word 0x0000001E).answer ≡ Entered Undefined
unfolding bytes zeros step does obeyed obeyed_unless entered started given take held operation
undefined = refl

pub loads : line (after_word 0x21400C83).machine.data_registers 69 ≡ 1
unfolding bytes zeros step does obeyed obeyed_unless started given take held operation carried_out data_after move_to left let_go sent_back raised first reserved narrow even too_wide uneven_widths missing fixed by_zero no_next_line moves_on is_taken residue shared somewhere accepted
loads = refl

pub loads_element : place ((after_word 0x21400C83).machine.data_registers.registers 69) ≡ 36
unfolding bytes zeros step does obeyed obeyed_unless started given take held operation carried_out data_after move_to left let_go sent_back raised first reserved narrow even too_wide uneven_widths missing fixed by_zero no_next_line moves_on is_taken residue shared somewhere accepted
loads_element = refl
