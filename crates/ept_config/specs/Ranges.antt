-- The ranges of a configuration.
use Rattle.std.specs.Prelude.{ℕ, ℤ, ◌≡◌, ◌≤◌, ◌^◌, List, length, FitsSigned, Option}
use Rattle.std.specs.Option.{ForSome}
use Rattle.std.specs.List.{All}
use Rattle.std.specs.Int.{w32}
use Rattle.ept_space.specs.declared.bounds.Bounds.{Bounds}
use Rattle.ept_space.specs.Place.{coordinate}
use Rattle.ept_space.specs.CubeOfBounds.{HasPlace}
use Rattle.ept_config.specs.declared.input.Input.{Input}
use Rattle.ept_config.specs.InputRanges.{AreThreeWithin}

-- what the octree is built of, and how its points are stored
pub record LayoutInRange (scale : ℕ) (offset : List ℤ) (s threshold max_depth step : ℕ) (inputs : List Input) : Type 0 where
  pub scale_most : scale ≤ 9
  pub offset_within : AreThreeWithin (10 ^ 9) offset
  pub span_least : 1 ≤ s
  pub span_most : s ≤ 10
  pub threshold_most : threshold ≤ 2 ^ 31
  pub depth_most : max_depth ≤ 32
  pub step_most : step ≤ 32
  pub inputs_some : 1 ≤ length inputs
  pub inputs_most : length inputs ≤ 65535
  pub inputs_scale : All (λ input. input.scale ≤ scale) inputs

-- three coordinates of 32 bits
pub record AreCoordinates (xs : List ℤ) : Type 0 where
  pub three : length xs ≡ 3
  pub x : FitsSigned w32 (coordinate xs 0)
  pub y : FitsSigned w32 (coordinate xs 1)
  pub z : FitsSigned w32 (coordinate xs 2)

pub record BoundsInRange (bounds : Bounds) : Type 0 where
  pub min_is : AreCoordinates bounds.min
  pub max_is : AreCoordinates bounds.max
  pub ordered : HasPlace bounds

-- the bounds, if they are given
abbrev pub GivenBoundsInRange : Option Bounds → Type 0
GivenBoundsInRange bounds = ForSome bounds BoundsInRange

-- how much of the machine is used
pub record WorkInRange (threads cache max_nodes checkpoint : ℕ) : Type 0 where
  pub threads_least : 1 ≤ threads
  pub threads_most : threads ≤ 64
  pub cache_holds : threads ≤ cache
  pub cache_most : cache ≤ 2 ^ 20
  pub nodes_least : 1 ≤ max_nodes
  pub nodes_most : max_nodes ≤ 2 ^ 20
  pub checkpoint_least : 1 ≤ checkpoint
  pub checkpoint_most : checkpoint ≤ 2 ^ 40
