use Rattle.std.proofs.Common.{ℕ, ◌-◌, ◌/◌, sym, subst}
use Rattle.ept_space.specs.VoxelKey.{VoxelKey, IsKey, parent}
use Rattle.ept_space.proofs.Family.{IsKey-parent}
use Rattle.ept_check.proofs.keys.parent.Goals as goal

pub invariant_of-result : goal.invariant_of-result
unfolding parent
invariant_of-result c =
    let key : VoxelKey = record { depth = c.key.inside.depth; x = c.key.inside.x; y = c.key.inside.y; z = c.key.inside.z } in
    subst (λ (d : ℕ). IsKey (record { depth = d; x = key.x / 2; y = key.y / 2; z = key.z / 2 })) (sym c.saturating_sub.ensures) (IsKey-parent key c.key.invariant)
