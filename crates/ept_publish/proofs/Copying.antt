-- The tiles of the current checkpoint, copied line by line.
use Rattle.std.proofs.Common.{◌≡◌, ◌∙◌, inl, inr, ℕ, zero, suc, ◌<◌, List, [], ◌∷◌, ◌++◌, map, length, get_or, refl, sym, ap, subst, arith, Option, Some, None}
use Rattle.std.specs.Prelude.{Contains}
use Rattle.std.specs.List.{AllZip}
use Rattle.std.proofs.lemmas.List.{map-append}
use Rattle.ept_base.specs.Files.{Files, SameFiles, Puts, StepsBy, Tells}
use Rattle.ept_point.specs.declared.layout.Layout.TheVariants.{New}
use Rattle.ept_point.specs.declared.point.Point.{Point}
use Rattle.ept_point.specs.Packed.{tile}
use Rattle.ept_space.specs.VoxelKey.{VoxelKey, AreAscending}
use Rattle.ept_space.specs.declared.bounds.Bounds.{Bounds}
use Rattle.ept_sample.specs.declared.tiles.Tile.{Tile}
use Rattle.ept_sample.specs.Members.{IsMember}
use Rattle.ept_sample.proofs.Members.{member-map, IsMember-append, IsMember-contains}
use Rattle.ept_config.specs.declared.kept.Kept.{Kept}
use Rattle.ept_config.specs.declared.source_count.SourceCount.{SourceCount}
use Rattle.ept_ckpt.specs.declared.letter.Letter.{Letter}
use Rattle.ept_ckpt.specs.declared.node_line.NodeLine.{NodeLine}
use Rattle.ept_ckpt.specs.declared.checkpoint.Checkpoint.{Checkpoint}
use Rattle.ept_ckpt.specs.Octree as ckpt
use Rattle.ept_hier.specs.Hierarchy.{Node, KeysAscend, hierarchy, keys_of}
use Rattle.ept_hier.specs.declared.file.HierFile.{HierFile}
use Rattle.ept_meta.specs.EptText.{ept_text}
use Rattle.ept_meta.specs.ManifestText.{manifest_text}
use Rattle.ept_meta.specs.BuildText.{build_text}
use Rattle.ept_meta.specs.Output.{File, IsOutputName, IsOutsideWork, EachIsOutsideWork, tile_name, tile_file, hierarchy_file, metadata_name, manifest_name, build_file_name, counted, files_of, names_of}
use Rattle.ept_save.specs.Names.{IsSavedName}
use Rattle.ept_save.specs.Current.{Current, tile_of_line}
use Rattle.ept_save.specs.Loading.{HasTile, IsDamaged}
use Rattle.ept_save.specs.Opening.{lines_of}
use Rattle.ept_save.specs.Sound.{IsSavedAs}
use Rattle.ept_save.proofs.DamagedTiles.{damaged-before}
use Rattle.ept_save.proofs.WorkNames.{outside-saved}
use Rattle.ept_publish.specs.Lines.{counted_by, named_by, output_names}
use Rattle.ept_publish.specs.Publishing.{SameButThese}
use Rattle.ept_publish.proofs.Putting.{puts-then}

-- ---- the lines of a checkpoint and the tiles that they name

-- the tile of a line
pub tile-at : (files : Files) (tiles : List Tile) (lines : List NodeLine) (k : ℕ) (line : NodeLine) → AllZip (IsSavedAs New files) tiles lines → k < length lines → get_or lines k line ≡ line → (t : Tile) × (k < length tiles) × (get_or tiles k t ≡ t) × IsSavedAs New files t line
tile-at files [] [] k line all low is = absurd (omega (arith, low))
tile-at files [] (l ∷ ls) k line all low is = absurd all
tile-at files (t ∷ ts) [] k line all low is = absurd all
tile-at files (t ∷ ts) (l ∷ ls) zero line all low is = (t, omega arith, refl, subst (IsSavedAs New files t) is all.0)
tile-at files (t ∷ ts) (l ∷ ls) (suc k) line all low is =
    let more = tile-at files ts ls k line all.1 (omega (arith, low)) is in (more.0, omega (arith, more.1), more.2, more.3)

-- their numbers are equal
pub as-many : (files : Files) (tiles : List Tile) (lines : List NodeLine) → AllZip (IsSavedAs New files) tiles lines → length tiles ≡ length lines
as-many files [] [] all = refl
as-many files [] (l ∷ ls) all = absurd all
as-many files (t ∷ ts) [] all = absurd all
as-many files (t ∷ ts) (l ∷ ls) all = let more = as-many files ts ls all.1 in omega (arith, more)

-- with the same keys and counts
pub counted-same : (files : Files) (tiles : List Tile) (lines : List NodeLine) → AllZip (IsSavedAs New files) tiles lines → map counted tiles ≡ map counted_by lines
counted-same files [] [] all = refl
counted-same files [] (l ∷ ls) all = absurd all
counted-same files (t ∷ ts) [] all = absurd all
counted-same files (t ∷ ts) (l ∷ ls) all =
    let head : counted t ≡ counted_by l = λ j. (sym all.0.key j, sym all.0.count j) in
    ap (λ (n : Node). n ∷ map counted ts) head ∙ ap (λ (w : List Node). counted_by l ∷ w) (counted-same files ts ls all.1)

-- ---- the names of the output

tile_names : (tiles : List Tile) → names_of (map tile_file tiles) ≡ map (λ (n : Node). tile_name n.0) (map counted tiles)
tile_names [] = refl
tile_names (t ∷ ts) = ap (λ (w : List (List ℕ)). tile_name t.key ∷ w) (tile_names ts)

line_names : (lines : List NodeLine) → map (λ (n : Node). tile_name n.0) (map counted_by lines) ≡ map named_by lines
line_names [] = refl
line_names (l ∷ ls) = ap (λ (w : List (List ℕ)). tile_name l.key ∷ w) (line_names ls)

-- they follow from the keys and counts of the nodes
pub names-same : (kept : Kept) (counts : List SourceCount) (extent : Option Bounds) (points : ℕ) (tiles : List Tile) (lines : List NodeLine) → map counted tiles ≡ map counted_by lines → names_of (files_of kept counts extent points tiles) ≡ output_names kept lines
names-same kept counts extent points tiles lines same =
    let name : File → List ℕ = λ f. f.0 in
    let branches : List File = map hierarchy_file (hierarchy kept.step (map counted tiles)) in
    let texts : List File = (metadata_name, ept_text kept extent points) ∷ (manifest_name, manifest_text kept counts) ∷ (build_file_name, build_text kept) ∷ [] in
    let first : names_of (map tile_file tiles) ≡ map named_by lines = tile_names tiles ∙ (ap (λ (w : List Node). map (λ (n : Node). tile_name n.0) w) same ∙ line_names lines) in
    let second : names_of branches ≡ names_of (map hierarchy_file (hierarchy kept.step (map counted_by lines))) = ap (λ (w : List Node). names_of (map hierarchy_file (hierarchy kept.step w))) same in
    map-append name (map tile_file tiles ++ branches) texts
    ∙ ap (λ (w : List (List ℕ)). w ++ metadata_name ∷ manifest_name ∷ build_file_name ∷ [])
    (map-append name (map tile_file tiles) branches ∙ (ap (λ (w : List (List ℕ)). w ++ names_of branches) first ∙ ap (λ (w : List (List ℕ)). map named_by lines ++ w) second))

-- and are those of an output
pub output-named : (kept : Kept) (lines : List NodeLine) (name : List ℕ) → Contains (output_names kept lines) name → IsOutputName name
output-named kept lines name has =
    let branches : List HierFile = hierarchy kept.step (map counted_by lines) in
    let texts : List (List ℕ) = metadata_name ∷ manifest_name ∷ build_file_name ∷ [] in
    elim (IsMember-append name (map named_by lines ++ names_of (map hierarchy_file branches)) texts (IsMember-contains name (output_names kept lines) has)) [
      | inl node ↦ elim (IsMember-append name (map named_by lines) (names_of (map hierarchy_file branches)) node) [
        | inl tiles ↦ (
            let at = member-map named_by name lines tiles in
            inl (at.0.key, sym at.2))
        | inr files ↦ (
            let f = member-map (λ (g : File). g.0) name (map hierarchy_file branches) files in
            let h = member-map hierarchy_file f.0 branches f.1 in
            inr (inl (h.0.key, sym f.2 ∙ ap (λ (g : File). g.0) (sym h.2))))
      ]
      | inr (inl is) ↦ inr (inr (inl (sym is)))
      | inr (inr (inl is)) ↦ inr (inr (inr (inl (sym is))))
      | inr (inr (inr (inl is))) ↦ inr (inr (inr (inr (sym is))))
      | inr (inr (inr (inr none))) ↦ absurd none
    ]

-- so what is put leaves each name of a checkpoint
pub saved-stays : EachIsOutsideWork → (kept : Kept) (lines : List NodeLine) (old new : Files) → SameButThese (output_names kept lines) old new → (name : List ℕ) → IsSavedName name → new name ≡ old name
saved-stays outside kept lines old new same name saved =
    same name (λ among. outside-saved name (outside name (output-named kept lines name among)) saved)

-- ---- the keys ascend

line_keys : (lines : List NodeLine) → keys_of (map counted_by lines) ≡ ckpt.keys_of lines
line_keys [] = refl
line_keys (l ∷ ls) = ap (λ (w : List VoxelKey). l.key ∷ w) (line_keys ls)

pub keys-ascend : (current : Current) → KeysAscend (map counted_by (lines_of current))
unfolding KeysAscend
keys-ascend None = λ i j d before inside. absurd (omega (arith, inside))
keys-ascend (Some (letter, c)) = subst AreAscending (sym (line_keys c.nodes)) c.is_checkpoint.nodes_are.octree.ascend

-- ---- what is put leaves the tiles of the checkpoint

apart : EachIsOutsideWork → (lines : List NodeLine) (line : NodeLine) → ¬ Contains (map named_by lines) (tile_of_line line)
apart outside lines line among =
    let at = member-map named_by (tile_of_line line) lines (IsMember-contains (tile_of_line line) (map named_by lines) among) in
    outside-saved (tile_of_line line) (subst IsOutsideWork at.2 (outside (tile_name at.0.key) (inl (at.0.key, refl)))) (inr (inr (line.letter, line.key, refl)))

pub stays : EachIsOutsideWork → (lines : List NodeLine) (line : NodeLine) (old new : Files) → SameButThese (map named_by lines) old new → new (tile_of_line line) ≡ old (tile_of_line line)
stays outside lines line old new same = same (tile_of_line line) (apart outside lines line)

-- so one that is damaged was damaged before
pub damaged-start : EachIsOutsideWork → (current : Current) (key other : VoxelKey) → key ≡ other → (old mid : Option Files) → StepsBy (SameButThese (map named_by (lines_of current))) old mid → Tells (IsDamaged current key) mid → Tells (IsDamaged current other) old
damaged-start outside current key other is None mid same damaged = tt
damaged-start outside current key other is (Some a) None same damaged = absurd same
damaged-start outside current key other is (Some a) (Some b) same damaged =
    subst (λ (k : VoxelKey). IsDamaged current k a) is (damaged-before current key a b (λ line found. stays outside (lines_of current) line a b same) damaged)

-- ---- one tile is copied

pub copied : (current : Current) (key : VoxelKey) (points : List Point) (bytes put : List ℕ) → put ≡ bytes → (old mid new : Option Files) → Tells (λ all. HasTile current key points all → bytes ≡ tile points) old → StepsBy SameFiles old mid → StepsBy (Puts (tile_name key) put) mid new → Tells (λ all. HasTile current key points all → StepsBy (Puts (tile_name key) (tile points)) old new) old
copied current key points bytes put same None mid new found reads puts = tt
copied current key points bytes put same (Some all) mid new found reads puts = λ has.
    subst (λ (w : List ℕ). StepsBy (Puts (tile_name key) w) (Some all) new) (same ∙ found has) (puts-then (tile_name key) put (Some all) mid new reads puts)
