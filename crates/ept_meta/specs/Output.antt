-- The files of the output: the octree of some points as files.
use Rattle.std.specs.Prelude.{◌≡◌, ◌⊎◌, ℕ, ◌<◌, ◌==◌, Option, List, [], ◌∷◌, ◌++◌, length, slice_index_or, codes, map, filter}
use Rattle.ept_point.specs.declared.point.Point.{Point}
use Rattle.ept_point.specs.Packed.{tile}
use Rattle.ept_space.specs.declared.bounds.Bounds.{Bounds}
use Rattle.ept_space.specs.declared.cube.Rules.{Rules}
use Rattle.ept_space.specs.CubeOfBounds.{cube_of}
use Rattle.ept_space.specs.VoxelKey.{VoxelKey}
use Rattle.ept_space.specs.KeyText.{key_text}
use Rattle.ept_sample.specs.declared.tiles.Tile.{Tile}
use Rattle.ept_sample.specs.Nodes.{sampled}
use Rattle.ept_config.specs.declared.kept.Kept.{Kept}
use Rattle.ept_config.specs.declared.source_count.SourceCount.{SourceCount}
use Rattle.ept_config.specs.Extents.{HasExtent}
use Rattle.ept_config.specs.Counts.{IsCountOf}
use Rattle.ept_hier.specs.declared.file.HierFile.{HierFile}
use Rattle.ept_hier.specs.Hierarchy.{hierarchy}
use Rattle.ept_meta.specs.EptText.{ept_text}
use Rattle.ept_meta.specs.ManifestText.{manifest_text}
use Rattle.ept_meta.specs.BuildText.{build_text}

-- ---- names (Entwine Point Tile 1.1.0)

-- the name of the tile of a key
unfoldable pub tile_name : VoxelKey → List ℕ
tile_name key = codes "ept-data/" ++ key_text key ++ codes ".bin"

-- the name of the hierarchy file of a key
unfoldable pub hierarchy_name : VoxelKey → List ℕ
hierarchy_name key = codes "ept-hierarchy/" ++ key_text key ++ codes ".json"

-- the names of the metadata, of the manifest of the scans, and of the file of what the output depends on
abbrev pub metadata_name : List ℕ
metadata_name = codes "ept.json"

abbrev pub manifest_name : List ℕ
manifest_name = codes "ept-sources/manifest.json"

abbrev pub build_file_name : List ℕ
build_file_name = codes "ept-build.json"

-- the name is that of a file of an output
abbrev pub IsOutputName : List ℕ → Type 0
IsOutputName name =
    ((key : VoxelKey) × (name ≡ tile_name key)) ⊎ ((key : VoxelKey) × (name ≡ hierarchy_name key))
    ⊎ (name ≡ metadata_name) ⊎ (name ≡ manifest_name) ⊎ (name ≡ build_file_name)

-- a name in a folder
abbrev pub IsIn : List ℕ → List ℕ → Type 0
IsIn folder name = (rest : List ℕ) × (name ≡ folder ++ codes "/" ++ rest)

-- the name is in none of the folders that only a build uses
abbrev pub IsOutsideWork : List ℕ → Type 0
IsOutsideWork name = (¬ IsIn (codes "ept-work") name) × (¬ IsIn (codes "ept-spill") name)

-- each file of an output is outside these folders
abbrev pub EachIsOutsideWork : Type 0
EachIsOutsideWork = (name : List ℕ) → IsOutputName name → IsOutsideWork name

-- ---- files

-- a file: its name and its bytes
abbrev pub File : Type 0
File = List ℕ × List ℕ

abbrev pub tile_file : Tile → File
tile_file t = (tile_name t.key, tile t.points)

abbrev pub hierarchy_file : HierFile → File
hierarchy_file f = (hierarchy_name f.key, f.text)

-- a node's key and how many points it has
abbrev pub counted : Tile → VoxelKey × ℕ
counted t = (t.key, length t.points)

-- the rules of the sampling: the cube of the bounds, the threshold, and which points come first and last
abbrev pub rules_of : Kept → Rules
rules_of kept = record {
  cube = cube_of kept.bounds kept.s kept.max_depth;
  threshold = kept.threshold;
  first = kept.first;
  withheld_last = kept.withheld_last;
}

-- The files of these tiles, of this number of points with this extent: each tile, the hierarchy, and three texts.
abbrev pub files_of : Kept → List SourceCount → Option Bounds → ℕ → List Tile → List File
files_of kept counts extent points tiles =
    map tile_file tiles ++ map hierarchy_file (hierarchy kept.step (map counted tiles))
    ++ (metadata_name, ept_text kept extent points) ∷ (manifest_name, manifest_text kept counts) ∷ (build_file_name, build_text kept) ∷ []

-- the output of points: the files of their sampling
abbrev pub output : Kept → List SourceCount → Option Bounds → List Point → List File
output kept counts extent points = files_of kept counts extent (length points) (sampled (rules_of kept) points)

-- ---- the output as a function of what is kept and of the points

-- the points of the input of this place
abbrev pub points_from : ℕ → List Point → List Point
points_from source points = filter (λ p. p.origin == source) points

-- there is a count for each input: the number and the extent of its points
pub record AreCountsOf (kept : Kept) (points : List Point) (counts : List SourceCount) : Type 0 where
  pub each : length counts ≡ length kept.inputs
  pub counted : (source : ℕ) (none : SourceCount) → source < length counts → IsCountOf (points_from source points) (slice_index_or counts source none)

-- these are the files of the output of points, and only what is kept and the points determine them
pub record IsOutput (kept : Kept) (points : List Point) (files : List File) : Type 0 where
  pub counts : List SourceCount
  pub are_counts : AreCountsOf kept points counts
  pub extent : Option Bounds
  pub has_extent : HasExtent points extent
  pub files_are : files ≡ output kept counts extent points

-- the names of files, in order
abbrev pub names_of : List File → List (List ℕ)
names_of files = map (λ (f : File). f.0) files
