use Rattle.std.proofs.Common.{◌≡◌, ◌+◌, ◌<◌, ◌≤◌, ap, ◌∙◌, subst, arith}
use Rattle.survey.specs.Counts.{UndefinedFrom, no_more, and_run}
use Rattle.survey.proofs.counting.undefined_words.Goals as goal

pub loop-run-preserved : goal.loop-run-preserved
loop-run-preserved g c =
    let m = g.S.Store.meaning c.args.store.now in
    let run = c.in-Some.run' in
    let inv = c.loop-run.invariant in
    let steps = c.in-Some.ensures.steps in
    let next = (rw inv.0 at steps.1).0 in
    let after = steps.1.1 in
    let within : run.after ≤ m.size = next.0.lines.within next.0.there in
    let forward : run.first < run.after = next.0.lines.forward next.0.there in (
      ap (λ s. s.now) steps.0 ∙ inv.0,
      omega arith,
      omega (arith, next.1, c.undefined_among-total.ensures.bound),
      λ n rest.
          let e : c.loop-run.total + (c.undefined_among-total.result + n) ≡ (c.loop-run.total + c.undefined_among-total.result) + n = omega arith in
          subst (UndefinedFrom m 0) e (inv.3 (c.undefined_among-total.result + n) (and_run next c.words.ensures c.undefined_among-total.ensures.counted (rw after at rest))),
    )

pub returns : goal.returns
returns g c =
    let none = c.in-None.ensures.steps in
    let e : c.loop-run.total + 0 ≡ c.loop-run.total = omega arith in
    subst (UndefinedFrom (g.S.Store.meaning c.args.store.now) 0) e (c.loop-run.invariant.3 0 (no_more (rw c.loop-run.invariant.0 at none.1).0))
