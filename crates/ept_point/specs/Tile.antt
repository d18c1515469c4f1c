use Rattle.std.specs.Prelude.{ℕ, ◌≡◌, ◌≢◌, ◌%◌, List, [], ◌∷◌, ◌++◌, length, Option, IfSome, Result, Ok, Err}
use Rattle.ept_point.specs.declared.point.Point.{Point}
use Rattle.ept_point.specs.declared.id.PointId.{PointId}
use Rattle.ept_point.specs.declared.layout.Layout.{Layout}
use Rattle.ept_point.specs.declared.tile.TileError.{TileError}
use Rattle.ept_point.specs.declared.tile.TileError.TheVariants.{Length, Field, Order, Memory}
use Rattle.ept_point.specs.Layout.{width_of, HasFieldAboveIn, IsPackedIn, IsTileIn}
use Rattle.ept_point.specs.Order.{id, IsBefore, IsAscending}

-- In bytes of whole points, the points before the place `at` ascend, and this holds of them and of the bytes there.
pub record HasFaultAt (layout : Layout) (bytes : List ℕ) (at : ℕ) (IsFaulty : List Point → List ℕ → Type 0) : Type 0 where
  pub before : List Point
  pub front : List ℕ
  pub piece : List ℕ
  pub rest : List ℕ
  pub is_whole : length bytes % width_of layout ≡ 0
  pub parts : bytes ≡ front ++ (piece ++ rest)
  pub is_front : IsTileIn layout front before
  pub place : length before ≡ at
  pub ascends : IsAscending before
  pub piece_length : length piece ≡ width_of layout
  pub is_faulty : IsFaulty before piece

-- the piece after these points is a point whose id does not come after theirs
abbrev pub IsOutOfOrder : Layout → List Point → List ℕ → Type 0
IsOutOfOrder layout before piece = (p : Point) × IsPackedIn layout piece p × ¬ IsAscending (before ++ p ∷ [])

-- Bytes read as the points of a tile, or as the first fault. They never read as running out of memory.
abbrev pub ReadsIn : Layout → List ℕ → Result (List Point) TileError → Type 0
ReadsIn layout bytes (Ok points) = IsTileIn layout bytes points × IsAscending points
ReadsIn layout bytes (Err Length) = length bytes % width_of layout ≢ 0
ReadsIn layout bytes (Err (Field at)) = HasFaultAt layout bytes at (λ before piece. HasFieldAboveIn layout piece)
ReadsIn layout bytes (Err (Order at)) = HasFaultAt layout bytes at (IsOutOfOrder layout)
ReadsIn layout bytes (Err Memory) = ⊥

-- What a call returns that finds this reading. It appends the points, unless memory runs out.
abbrev pub AppendsReading : Result (Unit {0}) TileError → List Point → List Point → Result (List Point) TileError → Type 0
AppendsReading (Ok done) old new reading = (points : List Point) × (reading ≡ Ok points) × (new ≡ old ++ points)
AppendsReading (Err Memory) old new reading = new ≡ old
AppendsReading (Err fault) old new reading = (reading ≡ Err fault) × (new ≡ old)

-- what is wrong with the bytes of a point at this place, after the point whose id is `last`
abbrev pub IsPointFault : Layout → List ℕ → Option PointId → ℕ → TileError → Type 0
IsPointFault layout bytes last at Length = ⊥
IsPointFault layout bytes last at (Field k) = (k ≡ at) × HasFieldAboveIn layout bytes
IsPointFault layout bytes last at (Order k) = (k ≡ at) × ((p : Point) × IsPackedIn layout bytes p × ¬ IfSome last (λ a. IsBefore a (id p)))
IsPointFault layout bytes last at Memory = ⊥
