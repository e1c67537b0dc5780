use Rattle.std.proofs.Common.{◌∙◌, sym}
use Rattle.store.specs.Meaning.{most}
use Rattle.marks.specs.Marks.{marked}
use Rattle.tags.specs.Meaning.{names}
use Rattle.file.specs.Data.{stands}
use Rattle.file.proofs.Flushing.{fewer, flushed_on, flushed_unmarked, as_many}
use Rattle.marks.proofs.Words.{marked_past}
use Rattle.file.specs.Standing.{data_of, known}
use Rattle.file.proofs.data.DataRegisters.flush.Goals as goal

pub loop-tag-smaller : goal.loop-tag-smaller
loop-tag-smaller g c =
    let e = c.in-Some.ensures {u = tt} in
    fewer _ _ _ 128 e.0 e.1 c.send_back.ensures.marks

pub loop-tag-preserved : goal.loop-tag-preserved
unfolding stands
loop-tag-preserved g c =
    let e = c.in-Some.ensures {u = tt} in
    let now = c.loop-tag.self in
    flushed_on (names now.bank) (known now.registers) (marked now.marks) _ _ _ _ e.2 e.0 c.send_back.ensures.data ∙ c.loop-tag.invariant

pub returns-clause-data : goal.returns-clause-data
unfolding stands
returns-clause-data g c =
    let now = c.loop-tag.self in
    flushed_unmarked (names now.bank) (known now.registers) (marked now.marks) _ (c.in_default.ensures {u = tt}) ∙ c.loop-tag.invariant

pub returns-clause-count : goal.returns-clause-count
unfolding stands data_of
returns-clause-count g c =
    let s = c.sound.ensures in
    let d = c.args.self.now in
    c.count-count.ensures ∙ sym (as_many (names d.bank) (marked d.marks) most s.one d.quiet s.named s.lines 128 (marked_past d.marks))
