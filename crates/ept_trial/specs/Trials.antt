-- The generated scans of a trial, and what their octree comes to.
use Rattle.std.specs.Prelude.{◌≡◌, ℕ, zero, suc, pos, ◌+◌, ◌*◌, ◌/◌, ◌%◌, ◌^◌, ◌<◌, List, [], ◌∷◌, length, map, max, sum_by, replicate, Contains}
use Rattle.std.specs.List.{flat_map}
use Rattle.ept_num.specs.Generator.{after}
use Rattle.ept_point.specs.declared.point.Point.{Point}
use Rattle.ept_point.specs.Order.{IsAscending}
use Rattle.ept_point.specs.Packed.{tile}
use Rattle.ept_space.specs.declared.bounds.Bounds.{Bounds}
use Rattle.ept_space.specs.declared.cube.Rules.{Rules}
use Rattle.ept_space.specs.CubeOfBounds.{cube_of}
use Rattle.ept_space.specs.Group.{plain_rules}
use Rattle.ept_sample.specs.Nodes.{node_keys, sampled}
use Rattle.ept_trial.specs.declared.trial.Trial.{Trial}

-- ---- the points

-- the state of the generator after this number of steps from the first one
abbrev pub state : ℕ → ℕ → ℕ
state first zero = first
state first (suc steps) = after (state first steps)

-- what it draws at a step: a number below another one
abbrev pub draw : ℕ → ℕ → ℕ → ℕ
draw first step below = (state first step / 2 ^ 33) % below

-- Point i of `count`, from 0. Its coordinates are the next three numbers that are drawn from a generator which begins
-- with the number of points. It is record i / 4 of input i mod 4.
pub record IsTrialPoint (count i : ℕ) (p : Point) : Type 0 where
  pub x_is : p.x ≡ pos (draw count (3 * i + 1) 100000)
  pub y_is : p.y ≡ pos (draw count (3 * i + 2) 100000)
  pub z_is : p.z ≡ pos (draw count (3 * i + 3) 1000)
  pub intensity_is : p.intensity ≡ i % 65536
  pub return_number_is : p.return_number ≡ 0
  pub number_of_returns_is : p.number_of_returns ≡ 0
  pub scan_direction_is : p.scan_direction ≡ 0
  pub edge_is : p.edge ≡ 0
  pub class_is : p.class ≡ 0
  pub class_flags_is : p.class_flags ≡ 0
  pub channel_is : p.channel ≡ 0
  pub angle_rank_is : p.angle_rank ≡ pos 0
  pub angle_is : p.angle ≡ pos 0
  pub user_is : p.user ≡ 0
  pub source_id_is : p.source_id ≡ 0
  pub gps_is : p.gps ≡ replicate 8 0
  pub red_is : p.red ≡ 0
  pub green_is : p.green ≡ 0
  pub blue_is : p.blue ≡ 0
  pub origin_is : p.origin ≡ i % 4
  pub number_is : p.number ≡ i / 4

-- a point of a list is point i of `count`
abbrev pub HasTrialPoint : ℕ → List Point → ℕ → Type 0
HasTrialPoint count points i = (p : Point) × Contains points p × IsTrialPoint count i p

-- a point is one of them
abbrev pub IsTrialPointOf : ℕ → Point → Type 0
IsTrialPointOf count p = (i : ℕ) × (i < count) × IsTrialPoint count i p

-- these are the `count` points of the generated scans, input by input, as they are read: each of them and no others
pub record AreTrialPoints (count : ℕ) (points : List Point) : Type 0 where
  pub ascend : IsAscending points
  pub length_is : length points ≡ count
  pub each : (i : ℕ) → i < count → HasTrialPoint count points i
  pub only : (p : Point) → Contains points p → IsTrialPointOf count p

-- ---- their octree

-- where the points may lie
abbrev pub trial_bounds : Bounds
trial_bounds = record { min = pos 0 ∷ pos 0 ∷ pos 0 ∷ []; max = pos 99999 ∷ pos 99999 ∷ pos 999 ∷ [] }

-- the rules of their sampling: a span of 2^7 cells, depths up to 32, and 4096 losers that an octant keeps
abbrev pub trial_rules : Rules
trial_rules = plain_rules (cube_of trial_bounds 7 32) 4096

-- the greatest of some numbers, or 0 if there is none
abbrev pub greatest : List ℕ → ℕ
greatest [] = 0
greatest (n ∷ ns) = max n (greatest ns)

-- the sum of all bytes of all tiles
abbrev pub sum_of_bytes : List Point → ℕ
sum_of_bytes points = sum_by (λ byte. byte) (flat_map (λ t. tile t.points) (sampled trial_rules points))

-- What the octree of the generated scans of `count` points comes to: how many points and nodes it has, and its greatest
-- depth. The sum is that of all bytes of all tiles, modulo 2^64.
pub record IsTrialOf (count : ℕ) (trial : Trial) : Type 0 where
  pub points : List Point
  pub are : AreTrialPoints count points
  pub points_are : trial.points ≡ count
  pub nodes_are : trial.nodes ≡ length (node_keys trial_rules points)
  pub depth_is : trial.depth ≡ greatest (map (λ key. key.depth) (node_keys trial_rules points))
  pub sum_is : trial.sum ≡ sum_of_bytes points % 2 ^ 64

-- Trials of the same number of points have the same result. The contract of a function of `laws` states it.
abbrev pub TrialIsOne : Type 0
TrialIsOne = (count : ℕ) (a b : Trial) → IsTrialOf count a → IsTrialOf count b → a ≡ b
