-- The whole cube of a trial, and the corners of its boxes.
use Rattle.std.proofs.Common.{◌≡◌, ℕ, zero, suc, pos, ◌+◌, ◌-◌, ◌*◌, ◌^◌, ◌<◌, ◌≤◌, [], ◌∷◌, refl, sym, subst, arith}
use Rattle.std.specs.Prelude.{◌+ℤ◌}
use Rattle.std.proofs.lemmas.Int.{ints}
use Rattle.std.proofs.lemmas.Nat.{pow_pos}
use lib.Count.{count_leading_zeros}
use Rattle.ept_space.specs.declared.box3.Box3.{Box3}
use Rattle.ept_space.specs.Place.{Place}
use Rattle.ept_space.specs.VoxelKey.{VoxelKey, IsKey}
use Rattle.ept_space.specs.OctreeCube.{OctreeCube, IsFrom, InBox}
use Rattle.ept_space.specs.ClosedBox.{IsBetween, IsIn}
use Rattle.ept_space.specs.CubeOfBounds.{cube_of}
use Rattle.ept_trial.specs.Trials.{trial_rules}

-- the area of it
abbrev pub whole : Box3
whole = record { min = pos 0 ∷ pos 0 ∷ pos 0 ∷ []; max = pos 131071 ∷ pos 131071 ∷ pos 131071 ∷ [] }

-- an index of a depth times the side of a box lies in the cube
corner-below : (index depth : ℕ) → depth ≤ 10 → index < 2 ^ depth → index * 2 ^ (17 - depth) + 2 ^ (17 - depth) ≤ 131072
corner-below index depth shallow within = by-depth depth shallow within
  where
    by-depth : (d : ℕ) → d ≤ 10 → index < 2 ^ d → index * 2 ^ (17 - d) + 2 ^ (17 - d) ≤ 131072
    by-depth zero s w = omega (arith, w)
    by-depth (suc zero) s w = omega (arith, w)
    by-depth (suc (suc zero)) s w = omega (arith, w)
    by-depth (suc (suc (suc zero))) s w = omega (arith, w)
    by-depth (suc (suc (suc (suc zero)))) s w = omega (arith, w)
    by-depth (suc (suc (suc (suc (suc zero))))) s w = omega (arith, w)
    by-depth (suc (suc (suc (suc (suc (suc zero)))))) s w = omega (arith, w)
    by-depth (suc (suc (suc (suc (suc (suc (suc zero))))))) s w = omega (arith, w)
    by-depth (suc (suc (suc (suc (suc (suc (suc (suc zero)))))))) s w = omega (arith, w)
    by-depth (suc (suc (suc (suc (suc (suc (suc (suc (suc zero))))))))) s w = omega (arith, w)
    by-depth (suc (suc (suc (suc (suc (suc (suc (suc (suc (suc zero)))))))))) s w = omega (arith, w)
    by-depth (suc (suc (suc (suc (suc (suc (suc (suc (suc (suc (suc d))))))))))) s w = absurd (omega (arith, s))

-- a coordinate of the corner of a box lies in the box and in the whole cube
axis-box : (index depth : ℕ) → depth ≤ 10 → index < 2 ^ depth → IsFrom (pos 0 +ℤ pos (index * 2 ^ (17 - depth))) (2 ^ (17 - depth)) (pos (index * 2 ^ (17 - depth))) × IsBetween (pos 0) (pos 131071) (pos (index * 2 ^ (17 - depth)))
axis-box index depth shallow within =
    let some = pow_pos (17 - depth) in
    let below = corner-below index depth shallow within in
    let at = index * 2 ^ (17 - depth) in
    axis-at at (2 ^ (17 - depth)) some below
  where
    axis-at : (n side : ℕ) → 0 < side → n + side ≤ 131072 → IsFrom (pos 0 +ℤ pos n) side (pos n) × IsBetween (pos 0) (pos 131071) (pos n)
    axis-at n side some below = ((omega (arith, ints), omega (arith, ints, some)), (omega (arith, ints), omega (arith, ints, some, below)))

-- a box of a depth that there is has a place in it
pub meets-box : (cube : OctreeCube) (key : VoxelKey) → cube ≡ trial_rules.cube → IsKey key → key.depth ≤ 10 → (at : Place) × InBox cube key at × IsIn whole at
unfolding InBox cube_of count_leading_zeros
meets-box cube key is spelled shallow =
    let x = axis-box key.x key.depth shallow spelled.x_in in
    let y = axis-box key.y key.depth shallow spelled.y_in in
    let z = axis-box key.z key.depth shallow spelled.z_in in
    subst (λ (c : OctreeCube). (at : Place) × InBox c key at × IsIn whole at) (sym is) (
      pos (key.x * 2 ^ (17 - key.depth)) ∷ pos (key.y * 2 ^ (17 - key.depth)) ∷ pos (key.z * 2 ^ (17 - key.depth)) ∷ [],
      record { x = x.0; y = y.0; z = z.0 },
      record { x = x.1; y = y.1; z = z.1 },
    )

pub trial-depth : trial_rules.cube.depth ≡ 10
unfolding cube_of count_leading_zeros
trial-depth = refl
