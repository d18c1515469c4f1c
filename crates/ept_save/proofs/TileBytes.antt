-- The bytes of a tile of the current checkpoint, in the new layout, by their length alone.
use Rattle.std.proofs.Common.{◌≡◌, ◌≢◌, ◌∙◌, ◌⊎◌, inl, inr, ℕ, ◌*◌, Bool, true, cond, List, length, Option, Some, None, refl, sym, ap, subst}
use Rattle.std.specs.Prelude.{Result, Ok, Err, IfOk, IfErr, OnOk}
use Rattle.ept_base.specs.Files.{Files, Tells}
use Rattle.ept_base.specs.Devices.{Gets}
use Rattle.ept_point.specs.declared.point.Point.{Point}
use Rattle.ept_point.specs.declared.tile.TileError.{TileError}
use Rattle.ept_point.specs.declared.tile.TileError.TheVariants.{Memory as OutOfMemory}
use Rattle.ept_point.specs.declared.layout.Layout.{Layout}
use Rattle.ept_point.specs.declared.layout.Layout.TheVariants.{New}
use Rattle.ept_point.specs.Dimensions.{packed_width}
use Rattle.ept_point.specs.Packed.{tile}
use Rattle.ept_point.specs.Tile.{ReadsIn}
use Rattle.ept_point.specs.Laws.{EachTileHasLength}
use Rattle.ept_space.specs.VoxelKey.{VoxelKey}
use Rattle.ept_space.specs.declared.cube.Rules.{Rules}
use Rattle.ept_ckpt.specs.declared.letter.Letter.{Letter}
use Rattle.ept_ckpt.specs.declared.node_line.NodeLine.{NodeLine}
use Rattle.ept_ckpt.specs.declared.checkpoint.Checkpoint.{Checkpoint}
use Rattle.ept_ckpt.specs.Versions.{layout_of}
use Rattle.ept_ckpt.specs.Lookup.{line_of_key}
use Rattle.ept_save.specs.declared.error.SaveError.{SaveError}
use Rattle.ept_save.specs.declared.error.SaveError.TheVariants.{StoreFault, TileDamaged, Memory}
use Rattle.ept_save.specs.Current.{Current, tile_of_line}
use Rattle.ept_save.specs.Errors.{IsStores}
use Rattle.ept_save.specs.Tiles.{HasTileUnder}
use Rattle.ept_save.specs.Loading.{OfLine, HasTile, IsWrong, IsDamagedLine, IsOfOtherLengthUnder, IsOfOtherLength}
use Rattle.ept_save.proofs.LoadedLines.{line-key, of-line, at-line}

-- ---- bytes of another length

-- bytes that read as points, of another number
pub other-number : EachTileHasLength → (rules : Rules) (line : NodeLine) (bytes : List ℕ) → length bytes ≢ packed_width * line.count → (points : List Point) → ReadsIn New bytes (Ok points) → IsWrong New rules line bytes
other-number has_length rules line bytes other points reads =
    inr (inl (points, reads, λ same. other (ap length reads.0 ∙ (has_length New points ∙ ap (λ (n : ℕ). packed_width * n) same))))

-- bytes of another length that were read, without running out of memory
pub wrong-read : EachTileHasLength → (rules : Rules) (line : NodeLine) (bytes : List ℕ) → length bytes ≢ packed_width * line.count → {U : Type 0} (P : List Point → Type 0) (read : Result U TileError) → OnOk read ((points : List Point) × ReadsIn New bytes (Ok points) × P points) → IfErr read (λ e. e ≢ OutOfMemory → ReadsIn New bytes (Err e)) → read ≢ Err OutOfMemory → IsWrong New rules line bytes
wrong-read has_length rules line bytes other P (Ok u) ok fault not_memory = other-number has_length rules line bytes other ok.0 ok.1
wrong-read has_length rules line bytes other P (Err e) ok fault not_memory = inl (e, fault (λ same. not_memory (ap Err same)))

-- a file was read, and has these bytes
pub bytes-told : (files : Option Files) (name : List ℕ) (found : Bool) (bytes read : List ℕ) → found ≡ true → read ≡ bytes → Tells (λ all. Gets all name found bytes) files → Tells (λ (all : Files). all name ≡ Some read) files
bytes-told None name found bytes read there same gets = tt
bytes-told (Some all) name found bytes read there same gets =
    subst (λ (b : Bool). all name ≡ cond b (Some bytes) None) there gets.0 ∙ ap (λ (w : List ℕ). Some w) (sym same)

-- ---- the line of a key

one_file : (name : List ℕ) (files : Files) (a b : List ℕ) → files name ≡ Some a → files name ≡ Some b → a ≡ b
one_file name files a b first second = let both : Some a ≡ Some b = sym first ∙ second in cc

measured : (name bytes : List ℕ) (line : NodeLine) (files : Files) → files name ≡ Some bytes → length bytes ≡ packed_width * line.count → ¬ IsOfOtherLengthUnder name line files
measured name bytes line files has is (inl none) = let both : Some bytes ≡ None = sym has ∙ none in cc
measured name bytes line files has is (inr other) =
    other.2 (subst (λ (w : List ℕ). length w ≡ packed_width * line.count) (one_file name files bytes other.0 has other.1) is)

module _ (current : Current) (key : VoxelKey) (at : Letter × Checkpoint) (line : NodeLine) (is : current ≡ Some at) (found : line_of_key at.1.nodes key ≡ Some line) where
  -- what files have of the line, they have of the key
  pub of-told : (fact : Checkpoint → NodeLine → Files → Type 0) (files : Option Files) → Tells (fact at.1 line) files → Tells (λ all. OfLine current key (λ c l. fact c l all)) files
  of-told fact None has = tt
  of-told fact (Some all) has = of-line current key at line (λ c l. fact c l all) is found has

  -- the bytes are the tile of the points that the file is the tile of
  pub bytes-tile : layout_of at.1.version ≡ New → (bytes : List ℕ) (files : Option Files) → Tells (λ (all : Files). all (tile_of_line line) ≡ Some bytes) files → (points : List Point) → Tells (λ all. HasTile current key points all → bytes ≡ tile points) files
  bytes-tile newest bytes None has points = tt
  bytes-tile newest bytes (Some all) has points = λ tiles.
      let its : HasTileUnder (layout_of at.1.version) (tile_of_line line) points all = at-line current key at line (λ c l. HasTileUnder (layout_of c.version) (tile_of_line l) points all) is found tiles in
      one_file (tile_of_line line) all bytes (tile points) has (subst (λ (w : Layout). HasTileUnder w (tile_of_line line) points all) newest its)

  -- it is damaged in the layout of the checkpoint
  pub bytes-damaged : layout_of at.1.version ≡ New → (rules : Rules) (files : Option Files) → Tells (IsDamagedLine New rules line) files → Tells (IsDamagedLine (layout_of at.1.version) rules line) files
  bytes-damaged newest rules files = subst (λ (w : Layout). Tells (IsDamagedLine w rules line) files) (sym newest)

  -- bytes of that length are not of another one
  not_other : (bytes : List ℕ) (all : Files) → all (tile_of_line line) ≡ Some bytes → length bytes ≡ packed_width * line.count → ¬ IsOfOtherLength current key all
  not_other bytes all has measure other =
      measured (tile_of_line line) bytes line all has measure (at-line current key at line (λ c l. IsOfOtherLengthUnder (tile_of_line l) l all) is found other)

  -- a refusal is named by the key
  pub only-key : {T : Type 0} (result : Result T SaveError) → IfErr result (λ e. (e ≡ TileDamaged line.key) ⊎ IsStores e) → IfErr result (λ e. (e ≡ TileDamaged key) ⊎ IsStores e)
  only-key (Ok t) only = tt
  only-key (Err e) only = subst (λ (k : VoxelKey). (e ≡ TileDamaged k) ⊎ IsStores e) (line-key at.1.nodes key line found) only

  -- and comes where the file has another length
  pub other-comes : {T : Type 0} (bytes_in : T → List ℕ) (result : Result T SaveError) (files : Option Files) (all : Files) → IfOk result (λ t. Tells (λ (f : Files). f (tile_of_line line) ≡ Some (bytes_in t)) files) → IfOk result (λ t. length (bytes_in t) ≡ packed_width * line.count) → IfErr result (λ e. (e ≡ TileDamaged key) ⊎ IsStores e) → files ≡ Some all
      → IsOfOtherLength current key all → (result ≡ Err (TileDamaged key)) ⊎ (result ≡ Err StoreFault) ⊎ (result ≡ Err Memory)
  other-comes bytes_in (Ok t) files all has measure only told other =
      absurd (not_other (bytes_in t) all (subst (λ (o : Option Files). Tells (λ (f : Files). f (tile_of_line line) ≡ Some (bytes_in t)) o) told has) measure other)
  other-comes bytes_in (Err e) files all has measure only told other = elim only [
    | inl tile_is ↦ inl (ap Err tile_is)
    | inr (inl fault) ↦ inr (inl (ap Err fault))
    | inr (inr memory) ↦ inr (inr (ap Err memory))
  ]
