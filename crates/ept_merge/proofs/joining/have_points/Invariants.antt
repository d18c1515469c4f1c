use Rattle.std.proofs.Common.{◌≡◌, ◌+◌, take}
use Rattle.std.specs.Prelude.{sum_by}
use Rattle.ept_ckpt.specs.declared.checkpoint.Checkpoint.{Checkpoint}
use Rattle.ept_merge.specs.Joining.{bodies_in}
use Rattle.ept_merge.proofs.joining.have_points.Given as goal

abbrev pub invariant-loop-part : goal.invariant-loop-part
invariant-loop-part l = sum_by (λ (c : Checkpoint). c.inserted) (bodies_in (take l.part-index l.parts)) + l.left ≡ l.points
