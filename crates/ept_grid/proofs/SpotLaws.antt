-- Points of one box that are in one place lie in one cell.
use Rattle.std.proofs.Common.{◌≡◌, ◌∙◌, ℕ, ◌+◌, ◌-◌, ◌*◌, ◌/◌, ◌%◌, ◌^◌, ◌≤◌, true, sym, ap, arith}
use Rattle.std.proofs.lemmas.Nat.{mod_below, pow_pos, div-add-mod', same_from_place}
use Rattle.ept_point.specs.declared.point.Point.{Point}
use Rattle.ept_space.specs.declared.cube.Rules.{Rules}
use Rattle.ept_space.specs.VoxelKey.{VoxelKey}
use Rattle.ept_space.specs.Place.{Place}
use Rattle.ept_space.specs.OctreeCube.{OctreeCube, InBox, offset, key_at, cell_index}
use Rattle.ept_space.proofs.Axis.{index-coarser}
use Rattle.ept_space.proofs.PlaceKeys.{key_at-box}
use Rattle.ept_space.proofs.Cells.{IsSameCell-from, same_cell-from}
use Rattle.ept_sample.specs.Place.{place}
use Rattle.ept_grid.specs.declared.spot.Spot.{Spot}
use Rattle.ept_grid.specs.Settling.{share_cell}
use Rattle.ept_grid.specs.Columns.{column_of, spot}

-- a number by its quotient and its remainder
pub from-parts : (m n side : ℕ) → m / side ≡ n / side → m % side ≡ n % side → m ≡ n
from-parts m n side quotients rests =
    sym (div-add-mod' m side) ∙ ap (λ q. q * side + m % side) quotients ∙ ap (λ r. n / side * side + r) rests ∙ div-add-mod' n side

pub column-parts : (cube : OctreeCube) (x y u v : ℕ) → column_of cube x y ≡ column_of cube u v → (x % 2 ^ cube.s ≡ u % 2 ^ cube.s) × (y % 2 ^ cube.s ≡ v % 2 ^ cube.s)
unfolding column_of
column-parts cube x y u v same =
    let positive = pow_pos cube.s in
    let swapped : y % 2 ^ cube.s * 2 ^ cube.s + x % 2 ^ cube.s ≡ v % 2 ^ cube.s * 2 ^ cube.s + u % 2 ^ cube.s = omega (arith, same) in
    let parts = same_from_place (y % 2 ^ cube.s) (x % 2 ^ cube.s) (v % 2 ^ cube.s) (u % 2 ^ cube.s) (2 ^ cube.s) (mod_below x (2 ^ cube.s) positive) (mod_below u (2 ^ cube.s) positive) swapped in
    (parts.1, parts.0)

-- a cell's index determines the index of its box
box-of-cell : (cube : OctreeCube) (depth n : ℕ) → depth + cube.s ≤ cube.e → n / 2 ^ (cube.e - depth - cube.s) / 2 ^ cube.s ≡ n / 2 ^ (cube.e - depth)
box-of-cell cube depth n whole =
    let steps : cube.e - depth - (cube.e - depth - cube.s) ≡ cube.s = omega arith in
    ap (λ k. n / 2 ^ (cube.e - depth - cube.s) / 2 ^ k) (sym steps) ∙ sym (index-coarser n (cube.e - depth - cube.s) (cube.e - depth) (omega arith))

pub record HasKey (cube : OctreeCube) (key : VoxelKey) (at : Place) : Type 0 where
  pub x : cell_index cube key.depth at 0 / 2 ^ cube.s ≡ key.x
  pub y : cell_index cube key.depth at 1 / 2 ^ cube.s ≡ key.y
  pub z : cell_index cube key.depth at 2 / 2 ^ cube.s ≡ key.z

pub has-key : (cube : OctreeCube) (key : VoxelKey) (at : Place) → key.depth + cube.s ≤ cube.e → InBox cube key at → HasKey cube key at
unfolding key_at
has-key cube key at whole inside =
    let is = key_at-box cube key at inside in
    record {
      x = box-of-cell cube key.depth (offset cube at 0) whole ∙ ap (λ (k : VoxelKey). k.x) is;
      y = box-of-cell cube key.depth (offset cube at 1) whole ∙ ap (λ (k : VoxelKey). k.y) is;
      z = box-of-cell cube key.depth (offset cube at 2) whole ∙ ap (λ (k : VoxelKey). k.z) is;
    }

-- points of a box that are in one place lie in one cell
pub share_cell-spot : (rules : Rules) (key : VoxelKey) (p q : Point) → key.depth + rules.cube.s ≤ rules.cube.e → InBox rules.cube key (place p) → InBox rules.cube key (place q) → spot rules key.depth p ≡ spot rules key.depth q → share_cell rules key.depth p q ≡ true
share_cell-spot rules key p q whole in_p in_q same =
    let has_p = has-key rules.cube key (place p) whole in_p in
    let has_q = has-key rules.cube key (place q) whole in_q in
    let parts = column-parts rules.cube _ _ _ _ (ap (λ (s : Spot). s.column) same) in
    same_cell-from rules.cube key.depth (place p) (place q) (record {
      x = from-parts _ _ (2 ^ rules.cube.s) (has_p.x ∙ sym has_q.x) parts.0;
      y = from-parts _ _ (2 ^ rules.cube.s) (has_p.y ∙ sym has_q.y) parts.1;
      z = ap (λ (s : Spot). s.level) same;
    })

-- and points of one cell are in one place
pub spot-share_cell : (rules : Rules) (depth : ℕ) (p q : Point) → share_cell rules depth p q ≡ true → spot rules depth p ≡ spot rules depth q
spot-share_cell rules depth p q shared =
    let same = IsSameCell-from rules.cube depth (place p) (place q) shared in
    let x = same.x in
    let y = same.y in
    let z = same.z in
    cc
