use Rattle.std.proofs.Common.{arith, inl, inr}
use Rattle.ept_command.proofs.Usages.{numbers_refused}
use Rattle.ept_command.proofs.words.trial_of.Goals as goal
use Rattle.ept_command.proofs.words.trial_of.Goals.{then-workers-lt1-via-then-workers-lt1, then-workers-lt1-via-else-workers-lt1+then-cache-workers}

pub returns-then-workers-lt1 : goal.returns-then-workers-lt1
returns-then-workers-lt1 c =
    let workers = c.in-Some-Some-Some.ensures'.some in
    let cache = c.in-Some-Some-Some.ensures''.some in
    numbers_refused c.args.points.now c.args.workers.now c.args.cache.now c.in-Some-Some-Some.workers c.in-Some-Some-Some.cache workers.0 workers.1 cache.0 cache.1 (elim c.then-workers-lt1.branch [
      | then-workers-lt1-via-then-workers-lt1 w ↦ inl (omega (arith, w.if-workers-lt1.true))
      | then-workers-lt1-via-else-workers-lt1+then-cache-workers w ↦ inr (omega (arith, w.if-cache-workers.true))
    ])
