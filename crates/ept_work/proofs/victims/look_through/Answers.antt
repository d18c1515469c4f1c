use Rattle.std.proofs.Common.{◌∙◌, ℕ, ap, Vec, Global}
use Rattle.ept_work.proofs.Ascending.{with-one, same-up}
use Rattle.ept_work.proofs.victims.look_through.Goals as goal
use Rattle.ept_work.proofs.victims.look_through.Goals.{then-is_seen+in_ok-push, else-is_seen}

pub loop-before-preserved : goal.loop-before-preserved
loop-before-preserved g c = elim c.if-is_seen.branch [
  | then-is_seen+in_ok-push w ↦ with-one c.loop-before.slots.items c.if-is_seen.slots.items c.loop-before.before (ap (λ (v : Vec ℕ Global). v.items) w.slots-is ∙ w.in_ok-push.ensures.items) c.loop-before.invariant
  | else-is_seen w ↦ same-up c.loop-before.slots.items c.if-is_seen.slots.items c.loop-before.before (ap (λ (v : Vec ℕ Global). v.items) w.slots-is) c.loop-before.invariant
]
