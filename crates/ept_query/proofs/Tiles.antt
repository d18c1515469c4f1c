-- Why bytes are no tile of `count` points.
use Rattle.std.proofs.Common.{◌≡◌, ◌≢◌, ◌∙◌, ℕ, List, [], ◌++◌, length, refl, sym, ap, subst, Result, Ok, Err}
use Rattle.ept_point.specs.declared.point.Point.{Point}
use Rattle.ept_point.specs.declared.tile.TileError.{TileError}
use Rattle.ept_point.specs.declared.tile.TileError.TheVariants as tile
use Rattle.ept_point.specs.Packed.{tile as tile_of}
use Rattle.ept_point.specs.Order.{IsAscending}
use Rattle.ept_point.specs.declared.layout.Layout.TheVariants.{New}
use Rattle.ept_point.specs.Tile.{ReadsIn, AppendsReading}
use Rattle.ept_query.specs.declared.query_error.QueryFile.{QueryFile}
use Rattle.ept_query.specs.Causes.{of_tile}
use Rattle.ept_query.specs.Damage.{IsTileOf, RefusesBytes}

-- the bytes are no tile of `count` points
abbrev pub IsNoTile : List ℕ → ℕ → Type 0
IsNoTile bytes count = (points : List Point) → ¬ IsTileOf bytes count points

-- a reading that is refused
pub refuses-tile : (file : QueryFile) (bytes : List ℕ) (count : ℕ) (error : TileError) (old new : List Point) → ((reading : Result (List Point) TileError) → ReadsIn New bytes reading → AppendsReading (Err error) old new reading) → RefusesBytes file (IsNoTile bytes count) (of_tile file error)
refuses-tile file bytes count tile.Length old new exact = (refl, λ points is. let wrong = (exact (Ok points) (is.packed, is.ascend)).0 in cc)
refuses-tile file bytes count (tile.Field at) old new exact = (refl, λ points is. let wrong = (exact (Ok points) (is.packed, is.ascend)).0 in cc)
refuses-tile file bytes count (tile.Order at) old new exact = (refl, λ points is. let wrong = (exact (Ok points) (is.packed, is.ascend)).0 in cc)
refuses-tile file bytes count tile.Memory old new exact = tt

-- a reading of another number of points
pub miscounted : (bytes : List ℕ) (count : ℕ) (old found : List Point) → ((reading : Result (List Point) TileError) → ReadsIn New bytes reading → AppendsReading (Ok tt) old found reading) → old ≡ [] → length found ≢ count → IsNoTile bytes count
miscounted bytes count old found exact none other = λ points is.
    let read = exact (Ok points) (is.packed, is.ascend) in
    let same : points ≡ read.0 = (let e = read.1 in cc) in
    let all : found ≡ points = read.2 ∙ (ap (λ (w : List Point). w ++ read.0) none ∙ sym same) in
    other (ap (λ (w : List Point). length w) all ∙ is.counted)

pub read-tile : (bytes : List ℕ) (count : ℕ) (old found : List Point) → (points : List Point) × ReadsIn New bytes (Ok points) × (found ≡ old ++ points) → old ≡ [] → length found ≡ count → IsTileOf bytes count found
read-tile bytes count old found read none many =
    let all : read.0 ≡ found = sym (read.2 ∙ ap (λ (w : List Point). w ++ read.0) none) in
    record {
      packed = subst (λ (w : List Point). bytes ≡ tile_of w) all read.1.0;
      ascend = subst IsAscending all read.1.1;
      counted = many;
    }
