use Rattle.std.proofs.Math.Path.{fun_ext}
use Rattle.std.proofs.Common.{List, ℕ, ◌∙◌, sym, ap}
use Rattle.marks.specs.Marks.{marked}
use Rattle.flat.specs.Data.{write}
use Rattle.tags.specs.Meaning.{names}
use Rattle.file.specs.Data.{stands}
use Rattle.file.specs.Standing.{data_of, known}
use Rattle.file.proofs.Writing.{write_zero, write_stands, write_quiet, write_placed, tag_small, shows}
use Rattle.file.proofs.data.DataRegisters.write.Goals as goal

pub returns-then-is_zero : goal.returns-then-is_zero
returns-then-is_zero g c = fun_ext (λ m. write_zero _ _ _ (sym c.if-is_zero.ensures))

pub invariant_of-self : goal.invariant_of-self
invariant_of-self g c =
    let d = c.args.self.now in
    let r = c.args.register.number in
    let within = c.args.register.inside in
    let real = sym c.if-is_zero.ensures in
    let linked = c.sound.ensures.linked r within real in
    let small = tag_small (names d.bank) r within real c.sound.ensures in
    let tag = c.number.ensures ∙ c.tag-tag.ensures.tag in
    record {
      quiet = write_quiet (names d.bank) (names c.write.new.self) (marked d.marks) (marked c.insert.new.self) r c.number.result _ real linked small tag c.write.ensures c.insert.ensures d.quiet;
      sized = d.sized;
      placed = write_placed (names d.bank) (names c.write.new.self) (marked d.marks) (marked c.insert.new.self) r c.number.result _ real linked small tag c.write.ensures (known d.registers) d.placed;
      zeros_blank = d.zeros_blank;
    }

pub returns : goal.returns
unfolding stands
returns g c =
    let d = c.args.self.now in
    let r = c.args.register.number in
    let within = c.args.register.inside in
    let real = sym c.if-is_zero.ensures in
    let linked = c.sound.ensures.linked r within real in
    let small = tag_small (names d.bank) r within real c.sound.ensures in
    let tag = c.number.ensures ∙ c.tag-tag.ensures.tag in
    fun_ext (λ m. write_stands (names d.bank) (names c.write.new.self) (marked d.marks) (marked c.insert.new.self) r c.number.result _ real linked small tag c.write.ensures c.insert.ensures (known d.registers) (d.placed r) c.sound.ensures.one m
    ∙ ap (λ (b : List ℕ). write r (g.C.Change.changed c.args.change.now b) (data_of (names d.bank) (known d.registers) (marked d.marks) m)) (shows (names d.bank) (known d.registers) (marked d.marks) m r (d.placed r) within c.sound.ensures))
