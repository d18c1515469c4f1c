-- What a query or a selection writes: what is kept of the parts of tiles, one after another. The folder may hold
-- anything.
use Rattle.std.specs.Prelude.{◌≡◌, ℕ, ◌+◌, ◌-◌, ◌^◌, ◌<◌, ◌≤◌, length, min, List, ◌∷◌, ◌++◌, Option}
use Rattle.std.specs.List.{AllZip}
use Rattle.std.specs.Io.KnownBytes.{Appends}
use Rattle.ept_base.specs.Devices.{AppendsPrefix}
use Rattle.ept_base.specs.Files.{Files, Tells}
use Rattle.ept_point.specs.declared.point.Point.{Point}
use Rattle.ept_space.specs.declared.box3.Box3.{Box3}
use Rattle.ept_space.specs.VoxelKey.{VoxelKey}
use Rattle.ept_hier.specs.Hierarchy.{Node}
use Rattle.ept_filter.specs.declared.sift.Sift.{Sift}
use Rattle.ept_query.specs.declared.query_error.QueryFile.TheVariants.{BuildJson, Hierarchy, Tile}
use Rattle.ept_query.specs.declared.query_error.QueryError.{QueryError}
use Rattle.ept_query.specs.declared.query_error.QueryError.TheVariants.{NotComplete, StoreFault, Damaged, SinkFault, Memory}
use Rattle.ept_query.specs.Damage.{HasNoTile}
use Rattle.ept_query.specs.Parts.{Plan, node_at, IsPart, points_of}
use Rattle.ept_query.specs.Kept.{kept_bytes, kept_count}

-- ---- one tile

-- what is kept of its part was appended, and `count` is how many points that is
pub record WritesTile (sift : Option Sift) (area : Box3) (node : Node) (old new : Option (List ℕ)) (count : ℕ) (files : Files) : Type 0 where
  pub part : List Point
  pub is_part : IsPart files area node part
  pub written : Appends old new (kept_bytes sift part)
  pub counted : count ≡ kept_count sift part

-- a prefix of what is kept of its part was appended
pub record WritesSome (sift : Option Sift) (area : Box3) (node : Node) (old new : Option (List ℕ)) (files : Files) : Type 0 where
  pub part : List Point
  pub is_part : IsPart files area node part
  pub written : AppendsPrefix old new (kept_bytes sift part)

-- what is left of a tile that was refused: nothing was written, or a prefix if the sink failed
abbrev pub LeavesTile : Option Sift → Box3 → Node → Option Files → Option (List ℕ) → Option (List ℕ) → QueryError → Type 0
LeavesTile sift area node files old new NotComplete = ⊥
LeavesTile sift area node files old new StoreFault = new ≡ old
LeavesTile sift area node files old new (Damaged file) = (file ≡ Tile node.0) × (new ≡ old) × Tells (λ all. HasNoTile all node.0 node.1) files
LeavesTile sift area node files old new SinkFault = Tells (WritesSome sift area node old new) files
LeavesTile sift area node files old new Memory = new ≡ old

-- ---- the tiles of a plan

-- all of them were read, and what is kept of their parts was appended
pub record WritesAll (sift : Option Sift) (plan : Plan) (old new : Option (List ℕ)) (count : ℕ) (files : Files) : Type 0 where
  pub parts : List (List Point)
  pub read : AllZip (IsPart files plan.area) plan.tiles parts
  pub written : Appends old new (kept_bytes sift (points_of parts))
  pub counted : count ≡ min (kept_count sift (points_of parts)) (2 ^ 64 - 1)

-- the first tiles were read, and a prefix of what is kept of their parts was appended
pub record WritesFront (sift : Option Sift) (plan : Plan) (old new : Option (List ℕ)) (files : Files) : Type 0 where
  pub front : List Node
  pub back : List Node
  pub split : plan.tiles ≡ front ++ back
  pub parts : List (List Point)
  pub read : AllZip (IsPart files plan.area) front parts
  pub written : AppendsPrefix old new (kept_bytes sift (points_of parts))

-- The tiles before the tile of a key were read, and what is kept of their parts was appended. The tile of the key is
-- damaged.
pub record WritesBefore (sift : Option Sift) (plan : Plan) (key : VoxelKey) (old new : Option (List ℕ)) (files : Files) : Type 0 where
  pub front : List Node
  pub count : ℕ
  pub back : List Node
  pub split : plan.tiles ≡ front ++ (key, count) ∷ back
  pub damaged : HasNoTile files key count
  pub parts : List (List Point)
  pub read : AllZip (IsPart files plan.area) front parts
  pub written : Appends old new (kept_bytes sift (points_of parts))

-- what is left if the tiles were refused
abbrev pub LeavesTiles : Option Sift → Plan → Option Files → Option (List ℕ) → Option (List ℕ) → QueryError → Type 0
LeavesTiles sift plan files old new NotComplete = ⊥
LeavesTiles sift plan files old new StoreFault = Tells (WritesFront sift plan old new) files
LeavesTiles sift plan files old new (Damaged BuildJson) = ⊥
LeavesTiles sift plan files old new (Damaged (Hierarchy key)) = ⊥
LeavesTiles sift plan files old new (Damaged (Tile key)) = Tells (WritesBefore sift plan key old new) files
LeavesTiles sift plan files old new SinkFault = Tells (WritesFront sift plan old new) files
LeavesTiles sift plan files old new Memory = Tells (WritesFront sift plan old new) files

-- no more tiles of a plan were read than there are up to the tile of this key
pub record GetsTo (plan : Plan) (key : VoxelKey) (before now : ℕ) : Type 0 where
  pub number : ℕ
  pub within : number < length plan.tiles
  pub key_is : (node_at plan number).0 ≡ key
  pub few : now ≤ before + number + 1
