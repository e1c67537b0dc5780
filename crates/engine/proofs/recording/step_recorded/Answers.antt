use Rattle.std.proofs.Common.{refl}
use Rattle.file.specs.Machine.{stands}
use Rattle.engine.proofs.Records.{record_of}
use Rattle.engine.proofs.recording.step_recorded.Goals as goal

pub returns-clause-record : goal.returns-clause-record
unfolding stands
returns-clause-record g c =
    record_of (stands c.args.machine.now (g.S.Store.meaning c.args.store.now)) _ _ _ _ _ refl (c.ipc_address-address.ensures (g.S.Store.meaning c.args.store.now)) (c.word-word.ensures (g.S.Store.meaning c.args.store.now)) c.step-after.ensures.1
