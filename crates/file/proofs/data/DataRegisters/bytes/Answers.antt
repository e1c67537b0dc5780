use Rattle.std.proofs.Common.{◌∙◌, ap}
use Rattle.marks.specs.Marks.{marked}
use Rattle.tags.specs.Meaning.{names}
use Rattle.file.specs.Data.{stands}
use Rattle.file.specs.Standing.{known}
use Rattle.file.proofs.Writing.{shows}
use Rattle.file.proofs.data.DataRegisters.bytes.Goals as goal

pub returns : goal.returns
unfolding stands
returns c m =
    let d = c.args.self.now in
    c.bytes.ensures
    ∙ (ap (names d.bank).bytes c.tag.ensures.tag
    ∙ shows (names d.bank) (known d.registers) (marked d.marks) m c.args.register.number (d.placed c.args.register.number) c.args.register.inside c.sound.ensures)
