use Rattle.std.proofs.Common.{◌≡◌, ◌∙◌, ℤ, ap, ap₂, sym, rules}
use mir.Syntax.{w16}
use mir.Val.{to_z, of_z}
use Rattle.store.specs.Meaning.{Meaning}
use Rattle.flat.specs.Machine.{Machine}
use Rattle.flat.specs.Bus.{followed_by}
use Rattle.flat.specs.Operations.{bus_of, carried_out, data_after, load_bus, store_bus}
use Rattle.flat.specs.Raising.{is_taken, uneven}
use Rattle.word.specs.declared.operations.Operation.{Operation}
use Rattle.word.specs.declared.operations.Operation.TheVariants.{Load, Store}
use Rattle.file.specs.Machine.{stands}
use Rattle.engine.proofs.Carried.{arith_carried, address_carried, div_carried, reduce_carried, load_carried, store_carried, dup_carried, copy_out_carried, copy_in_carried, swi_carried, reti_carried, retx_carried, jump_taken, jump_on, jump_taken_bus, jump_on_bus, load_bus_moved, store_bus_moved, uneven_moved, uneven_on_any}
use Rattle.engine.proofs.stepping.carry_out.Goals as goal

pub returns-in-Arith-clause-machine : goal.returns-in-Arith-clause-machine
returns-in-Arith-clause-machine g c =
    ap (λ (f : Meaning → Machine). f (g.S.Store.meaning c.args.store.now)) c.arithmetic.ensures
    ∙ (arith_carried _ _ c.move_on-bus.ensures.machine _ _ _ _ _
    ∙ sym (ap (λ (o : Operation). carried_out o (stands c.args.machine.now (g.S.Store.meaning c.args.store.now))) c.in-Arith.is))

pub returns-in-AddAddress-clause-machine : goal.returns-in-AddAddress-clause-machine
returns-in-AddAddress-clause-machine g c =
    ap (λ (f : Meaning → Machine). f (g.S.Store.meaning c.args.store.now)) c.add_address.ensures
    ∙ (address_carried _ _ c.move_on-bus-in-AddAddress.ensures.machine _ _ _ _
    ∙ sym (ap (λ (o : Operation). carried_out o (stands c.args.machine.now (g.S.Store.meaning c.args.store.now))) c.in-AddAddress.is))

pub returns-in-Div-clause-machine : goal.returns-in-Div-clause-machine
returns-in-Div-clause-machine g c =
    ap (λ (f : Meaning → Machine). f (g.S.Store.meaning c.args.store.now)) c.divide.ensures
    ∙ (div_carried _ _ c.move_on-bus-in-Div.ensures.machine _ _ _ _ _
    ∙ sym (ap (λ (o : Operation). carried_out o (stands c.args.machine.now (g.S.Store.meaning c.args.store.now))) c.in-Div.is))

pub returns-in-Reduce-clause-machine : goal.returns-in-Reduce-clause-machine
unfolding data_after
returns-in-Reduce-clause-machine g c =
    ap (λ (f : Meaning → Machine). f (g.S.Store.meaning c.args.store.now)) c.reduce.ensures
    ∙ (reduce_carried _ _ c.move_on-bus-in-Reduce.ensures.machine _ _ _
    ∙ sym (ap (λ (o : Operation). carried_out o (stands c.args.machine.now (g.S.Store.meaning c.args.store.now))) c.in-Reduce.is))

pub returns-in-Load-clause-machine : goal.returns-in-Load-clause-machine
returns-in-Load-clause-machine g c =
    let e : to_z w16 (of_z w16 c.in-Load.i) ≡ c.in-Load.i = search rules in
    c.load.ensures.data
    ∙ (load_carried _ _ c.move_on-bus-in-Load.ensures.machine _ _ _ _
    ∙ (ap (λ (i : ℤ). carried_out (Load c.in-Load.kind c.in-Load.a c.in-Load.b i) (stands c.args.machine.now (g.S.Store.meaning c.args.store.now))) e
    ∙ sym (ap (λ (o : Operation). carried_out o (stands c.args.machine.now (g.S.Store.meaning c.args.store.now))) c.in-Load.is)))

pub returns-in-Store-clause-machine : goal.returns-in-Store-clause-machine
returns-in-Store-clause-machine g c =
    let e : to_z w16 (of_z w16 c.in-Store.i) ≡ c.in-Store.i = search rules in
    c.store.ensures.data
    ∙ (store_carried _ _ c.move_on-bus-in-Store.ensures.machine _ _ _ _
    ∙ (ap (λ (i : ℤ). carried_out (Store c.in-Store.kind c.in-Store.a c.in-Store.b i) (stands c.args.machine.now (g.S.Store.meaning c.args.store.now))) e
    ∙ sym (ap (λ (o : Operation). carried_out o (stands c.args.machine.now (g.S.Store.meaning c.args.store.now))) c.in-Store.is)))

pub returns-in-Dup-clause-machine : goal.returns-in-Dup-clause-machine
returns-in-Dup-clause-machine g c =
    ap (λ (f : Meaning → Machine). f (g.S.Store.meaning c.args.store.now)) c.dup.ensures
    ∙ (dup_carried _ _ c.move_on-bus-in-Dup.ensures.machine _ _ _
    ∙ sym (ap (λ (o : Operation). carried_out o (stands c.args.machine.now (g.S.Store.meaning c.args.store.now))) c.in-Dup.is))

pub returns-in-CopyOut-clause-machine : goal.returns-in-CopyOut-clause-machine
returns-in-CopyOut-clause-machine g c =
    ap (λ (f : Meaning → Machine). f (g.S.Store.meaning c.args.store.now)) c.copy_out.ensures
    ∙ (copy_out_carried _ _ c.move_on-bus-in-CopyOut.ensures.machine _ _
    ∙ sym (ap (λ (o : Operation). carried_out o (stands c.args.machine.now (g.S.Store.meaning c.args.store.now))) c.in-CopyOut.is))

pub returns-in-CopyIn-clause-machine : goal.returns-in-CopyIn-clause-machine
returns-in-CopyIn-clause-machine g c =
    ap (λ (f : Meaning → Machine). f (g.S.Store.meaning c.args.store.now)) c.copy_in.ensures
    ∙ (copy_in_carried _ _ c.move_on-bus-in-CopyIn.ensures.machine _ _
    ∙ sym (ap (λ (o : Operation). carried_out o (stands c.args.machine.now (g.S.Store.meaning c.args.store.now))) c.in-CopyIn.is))

pub returns-in-Swi-clause-machine : goal.returns-in-Swi-clause-machine
returns-in-Swi-clause-machine g c =
    ap (λ (f : Meaning → Machine). f (g.S.Store.meaning c.args.store.now)) c.swi.ensures
    ∙ (swi_carried _ _ c.move_on-bus-in-Swi.ensures.machine _ _ _ _
    ∙ sym (ap (λ (o : Operation). carried_out o (stands c.args.machine.now (g.S.Store.meaning c.args.store.now))) c.in-Swi.is))

pub returns-in-Reti-clause-machine : goal.returns-in-Reti-clause-machine
returns-in-Reti-clause-machine g c =
    ap (λ (f : Meaning → Machine). f (g.S.Store.meaning c.args.store.now)) c.reti.ensures
    ∙ (reti_carried _
    ∙ sym (ap (λ (o : Operation). carried_out o (stands c.args.machine.now (g.S.Store.meaning c.args.store.now))) c.in-Reti.is))

pub returns-in-Retx-clause-machine : goal.returns-in-Retx-clause-machine
returns-in-Retx-clause-machine g c =
    ap (λ (f : Meaning → Machine). f (g.S.Store.meaning c.args.store.now)) c.retx.ensures
    ∙ (retx_carried _
    ∙ sym (ap (λ (o : Operation). carried_out o (stands c.args.machine.now (g.S.Store.meaning c.args.store.now))) c.in-Retx.is))

pub arithmetic-requires : goal.arithmetic-requires
arithmetic-requires g c other =
    uneven_on_any _ c.move_on-bus.new.machine (g.S.Store.meaning c.args.store.now) other (uneven_moved _ _ _ c.move_on-bus.ensures.machine (ap (λ (o : Operation). uneven (stands c.args.machine.now (g.S.Store.meaning c.args.store.now)) o) (sym c.in-Arith.is) ∙ c.requires))

pub add_address-requires : goal.add_address-requires
add_address-requires g c other =
    uneven_on_any _ c.move_on-bus-in-AddAddress.new.machine (g.S.Store.meaning c.args.store.now) other (uneven_moved _ _ _ c.move_on-bus-in-AddAddress.ensures.machine (ap (λ (o : Operation). uneven (stands c.args.machine.now (g.S.Store.meaning c.args.store.now)) o) (sym c.in-AddAddress.is) ∙ c.requires))

pub divide-requires : goal.divide-requires
divide-requires g c other =
    uneven_on_any _ c.move_on-bus-in-Div.new.machine (g.S.Store.meaning c.args.store.now) other (uneven_moved _ _ _ c.move_on-bus-in-Div.ensures.machine (ap (λ (o : Operation). uneven (stands c.args.machine.now (g.S.Store.meaning c.args.store.now)) o) (sym c.in-Div.is) ∙ c.requires))

pub returns-then-is_taken-clause-machine : goal.returns-then-is_taken-clause-machine
returns-then-is_taken-clause-machine g c =
    c.jump.ensures.machine ∙ jump_taken _ _ _ _ c.in-JumpNotZero.is (ap (λ (o : Operation). is_taken (stands c.args.machine.now (g.S.Store.meaning c.args.store.now)) o) (sym c.in-JumpNotZero.op-is) ∙ sym (c.if-is_taken.ensures {u = tt} (g.S.Store.meaning c.args.store.now)))

pub returns-else-is_taken-clause-machine : goal.returns-else-is_taken-clause-machine
returns-else-is_taken-clause-machine g c =
    jump_on _ _ _ _ _ c.in-JumpNotZero.is (ap (λ (o : Operation). is_taken (stands c.args.machine.now (g.S.Store.meaning c.args.store.now)) o) (sym c.in-JumpNotZero.op-is) ∙ sym (c.if-is_taken.ensures {u = tt} (g.S.Store.meaning c.args.store.now))) c.move_on.ensures.machine

pub returns-in-Arith-clause-bus : goal.returns-in-Arith-clause-bus
unfolding bus_of
returns-in-Arith-clause-bus g c = c.move_on-bus.ensures.bus ∙ sym (ap (λ (o : Operation). bus_of o (stands c.args.machine.now (g.S.Store.meaning c.args.store.now))) c.in-Arith.is)

pub returns-in-AddAddress-clause-bus : goal.returns-in-AddAddress-clause-bus
unfolding bus_of
returns-in-AddAddress-clause-bus g c = c.move_on-bus-in-AddAddress.ensures.bus ∙ sym (ap (λ (o : Operation). bus_of o (stands c.args.machine.now (g.S.Store.meaning c.args.store.now))) c.in-AddAddress.is)

pub returns-in-Div-clause-bus : goal.returns-in-Div-clause-bus
unfolding bus_of
returns-in-Div-clause-bus g c = c.move_on-bus-in-Div.ensures.bus ∙ sym (ap (λ (o : Operation). bus_of o (stands c.args.machine.now (g.S.Store.meaning c.args.store.now))) c.in-Div.is)

pub returns-in-Reduce-clause-bus : goal.returns-in-Reduce-clause-bus
unfolding bus_of
returns-in-Reduce-clause-bus g c = c.move_on-bus-in-Reduce.ensures.bus ∙ sym (ap (λ (o : Operation). bus_of o (stands c.args.machine.now (g.S.Store.meaning c.args.store.now))) c.in-Reduce.is)

pub returns-in-Dup-clause-bus : goal.returns-in-Dup-clause-bus
unfolding bus_of
returns-in-Dup-clause-bus g c = c.move_on-bus-in-Dup.ensures.bus ∙ sym (ap (λ (o : Operation). bus_of o (stands c.args.machine.now (g.S.Store.meaning c.args.store.now))) c.in-Dup.is)

pub returns-in-CopyOut-clause-bus : goal.returns-in-CopyOut-clause-bus
unfolding bus_of
returns-in-CopyOut-clause-bus g c = c.move_on-bus-in-CopyOut.ensures.bus ∙ sym (ap (λ (o : Operation). bus_of o (stands c.args.machine.now (g.S.Store.meaning c.args.store.now))) c.in-CopyOut.is)

pub returns-in-CopyIn-clause-bus : goal.returns-in-CopyIn-clause-bus
unfolding bus_of
returns-in-CopyIn-clause-bus g c = c.move_on-bus-in-CopyIn.ensures.bus ∙ sym (ap (λ (o : Operation). bus_of o (stands c.args.machine.now (g.S.Store.meaning c.args.store.now))) c.in-CopyIn.is)

pub returns-in-Swi-clause-bus : goal.returns-in-Swi-clause-bus
unfolding bus_of
returns-in-Swi-clause-bus g c = c.move_on-bus-in-Swi.ensures.bus ∙ sym (ap (λ (o : Operation). bus_of o (stands c.args.machine.now (g.S.Store.meaning c.args.store.now))) c.in-Swi.is)

pub returns-in-Reti-clause-bus : goal.returns-in-Reti-clause-bus
unfolding bus_of
returns-in-Reti-clause-bus g c = c.quiet.ensures ∙ sym (ap (λ (o : Operation). bus_of o (stands c.args.machine.now (g.S.Store.meaning c.args.store.now))) c.in-Reti.is)

pub returns-in-Retx-clause-bus : goal.returns-in-Retx-clause-bus
unfolding bus_of
returns-in-Retx-clause-bus g c = c.quiet-in-Retx.ensures ∙ sym (ap (λ (o : Operation). bus_of o (stands c.args.machine.now (g.S.Store.meaning c.args.store.now))) c.in-Retx.is)

pub returns-in-Load-clause-bus : goal.returns-in-Load-clause-bus
unfolding bus_of
returns-in-Load-clause-bus g c =
    let e : to_z w16 (of_z w16 c.in-Load.i) ≡ c.in-Load.i = search rules in
    c.followed_by.ensures
    ∙ (ap₂ followed_by c.move_on-bus-in-Load.ensures.bus (c.load.ensures.bus ∙ (load_bus_moved _ _ _ (stands c.args.machine.now (g.S.Store.meaning c.args.store.now)) (stands c.move_on-bus-in-Load.new.machine (g.S.Store.meaning c.args.store.now)) c.move_on-bus-in-Load.ensures.machine ∙ ap (λ (i : ℤ). load_bus c.in-Load.a c.in-Load.b i (stands c.args.machine.now (g.S.Store.meaning c.args.store.now))) e))
    ∙ sym (ap (λ (o : Operation). bus_of o (stands c.args.machine.now (g.S.Store.meaning c.args.store.now))) c.in-Load.is))

pub returns-in-Store-clause-bus : goal.returns-in-Store-clause-bus
unfolding bus_of
returns-in-Store-clause-bus g c =
    let e : to_z w16 (of_z w16 c.in-Store.i) ≡ c.in-Store.i = search rules in
    c.followed_by-in-Store.ensures
    ∙ (ap₂ followed_by c.move_on-bus-in-Store.ensures.bus (c.store.ensures.bus ∙ (store_bus_moved _ _ _ (stands c.args.machine.now (g.S.Store.meaning c.args.store.now)) (stands c.move_on-bus-in-Store.new.machine (g.S.Store.meaning c.args.store.now)) c.move_on-bus-in-Store.ensures.machine ∙ ap (λ (i : ℤ). store_bus c.in-Store.a c.in-Store.b i (stands c.args.machine.now (g.S.Store.meaning c.args.store.now))) e))
    ∙ sym (ap (λ (o : Operation). bus_of o (stands c.args.machine.now (g.S.Store.meaning c.args.store.now))) c.in-Store.is))

pub returns-then-is_taken-clause-bus : goal.returns-then-is_taken-clause-bus
returns-then-is_taken-clause-bus g c =
    c.jump.ensures.bus ∙ jump_taken_bus _ _ _ _ c.in-JumpNotZero.is (ap (λ (o : Operation). is_taken (stands c.args.machine.now (g.S.Store.meaning c.args.store.now)) o) (sym c.in-JumpNotZero.op-is) ∙ sym (c.if-is_taken.ensures {u = tt} (g.S.Store.meaning c.args.store.now)))

pub returns-else-is_taken-clause-bus : goal.returns-else-is_taken-clause-bus
returns-else-is_taken-clause-bus g c =
    c.move_on.ensures.bus ∙ jump_on_bus _ _ _ _ c.in-JumpNotZero.is (ap (λ (o : Operation). is_taken (stands c.args.machine.now (g.S.Store.meaning c.args.store.now)) o) (sym c.in-JumpNotZero.op-is) ∙ sym (c.if-is_taken.ensures {u = tt} (g.S.Store.meaning c.args.store.now)))
