use Rattle.file.proofs.Registers.{put_fields}
use Rattle.file.proofs.data.put.Goals as goal

pub returns : goal.returns
returns c = put_fields c.args.registers.now c.args.r c.args.to.address c.args.to.kind _ _
