-- The law on the flat machine's backing copy, after any list of calls and one more.
use Rattle.std.proofs.Common.{List, [], ◌∷◌, fold}
use Rattle.store.specs.Meaning.{Meaning, Sound}
use Rattle.flat.specs.Calls.{cold}
use Rattle.flat.proofs.Calling.{data_of, started_coherent, calls}
use Rattle.flat.proofs.Coherence.{Coherent}
use Rattle.flat.specs.Fed.{Fed, unfed, one_call, fed, next}
use Rattle.flat.specs.Leaving.{StoreAfter}
use Rattle.flat.specs.declared.call.Call.{Call}
use Rattle.flat.specs.declared.records.Slots.{Slots}

-- A cold machine over a sound store.
cold_coherent : (m : Meaning) → Sound m → Coherent (data_of (cold m))
unfolding cold
cold_coherent m s = started_coherent m s.within

one_coherent : (space : Slots) (h : Fed) (call : Call) → Coherent (data_of h.flat) → Coherent (data_of (one_call space h call).flat)
unfolding one_call
one_coherent space h call c = (calls h.flat c _ call).coherent

-- After any list of calls.
coherent_after : (space : Slots) (list : List Call) (h : Fed) → Coherent (data_of h.flat) → Coherent (data_of (fold (one_call space) h list).flat)
coherent_after space [] h c = c
coherent_after space (call ∷ list) h c =
    coherent_after space list (one_call space h call) (one_coherent space h call c)

pub store_after_each : (space : Slots) (earlier : List Call) (call : Call) (m : Meaning) → Sound m → let h = fed space earlier m in StoreAfter h.flat (next space h call)
store_after_each space earlier call m s =
    let h = fed space earlier m in
    (calls h.flat (coherent_after space earlier (unfed m) (cold_coherent m s)) _ call).store
