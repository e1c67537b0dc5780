use Rattle.std.proofs.Common.{rules}
use Rattle.trail.proofs.Adding.{filled_after}
use Rattle.trail_tests.proofs.keep.Goals as goal

pub returns : goal.returns
returns c =
    let filled = filled_after c.new-trail.ensures.used c.add_all.ensures.added in
    record { count = search rules; slots = search rules }
