use Rattle.std.proofs.Common.{◌<◌, length, arith}
use Rattle.trail.specs.Trails.{space as space_of}
use Rattle.calls.proofs.Feeding.{nothing_reached, reached_more, all_reached, room, is_added}
use Rattle.calls.proofs.histories.history.Goals as goal

pub loop-i-init : goal.loop-i-init
loop-i-init g c = nothing_reached _ _ _ _ (g.met.S.Store.sound c.args.store.now)

pub unwrap-requires : goal.unwrap-requires
unwrap-requires g c =
    let small : c.loop-i.i < space_of c.args.answers.now = omega (arith, c.loop-i-test.true, c.min-count.ensures, c.space.ensures) in
    (is_added c.add.result (room _ c.args.calls.now (g.S.Store.meaning c.args.store.now) c.loop-i.i c.loop-i.invariant.added small) c.add.ensures).0

pub loop-i-preserved : goal.loop-i-preserved
loop-i-preserved g c =
    let inside : c.loop-i.i < length c.args.calls.now = omega (arith, c.loop-i-test.true, c.min-count.ensures) in
    let small : c.loop-i.i < space_of c.args.answers.now = omega (arith, c.loop-i-test.true, c.min-count.ensures, c.space.ensures) in
    reached_more c.args.calls.now (g.S.Store.meaning c.args.store.now) c.loop-i.i _ inside (g.met.S.Store.sound c.args.store.now) c.loop-i.invariant c.call-answer.ensures.law
    (is_added c.add.result (room _ c.args.calls.now (g.S.Store.meaning c.args.store.now) c.loop-i.i c.loop-i.invariant.added small) c.add.ensures).1

pub returns-clause-answers : goal.returns-clause-answers
returns-clause-answers g c =
    (all_reached c.args.calls.now _ c.loop-i.i (space_of c.args.answers.now) (omega (arith, c.loop-i.auto.i-end, c.loop-i-test.false, c.min-count.ensures, c.space.ensures)) c.loop-i.invariant).0

pub returns-clause-law : goal.returns-clause-law
returns-clause-law g c =
    (all_reached c.args.calls.now _ c.loop-i.i (space_of c.args.answers.now) (omega (arith, c.loop-i.auto.i-end, c.loop-i-test.false, c.min-count.ensures, c.space.ensures)) c.loop-i.invariant).1
