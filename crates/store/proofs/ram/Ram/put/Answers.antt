use Rattle.std.proofs.Common.{◌≡◌, ◌+◌, ◌-◌, ◌*◌, length, arith}
use Rattle.store.proofs.Lines.{ram_write}
use Rattle.store.proofs.ram.Ram.put.Goals as goal

pub returns : goal.returns
returns c =
    let n = c.args.line in
    let old = c.args.self.now.bytes in
    let full : length c.args.new.now ≡ 128 = omega arith in
    let written = ram_write old.now c.args.new.now n (128 * n + 128 - 128 * n) (omega arith) full c.requires old.ghost_name in
    rw c.copy_from_slice.ensures.after written
