use Rattle.std.proofs.Common.{◌≡◌, ℕ, take}
use Rattle.std.specs.Prelude.{count_by}
use Rattle.ept_grid.specs.Mask.{opened}
use Rattle.ept_merge.proofs.dividing.parts_with.Given as goal

abbrev pub invariant-loop-part : goal.invariant-loop-part
invariant-loop-part l = l.count ≡ count_by (λ (part : ℕ). opened part l.octant) (take l.part-index l.parts)
