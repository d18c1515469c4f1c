-- The line of a key in the current checkpoint, and what its tile is loaded as.
use Rattle.std.proofs.Common.{◌≡◌, ◌≢◌, ◌∙◌, ◌⊎◌, inl, inr, ℕ, suc, ◌<◌, ◌≤◌, Bool, true, false, cond, List, [], ◌∷◌, ◌++◌, length, get_or, take, drop, ◌-◌, Option, Some, None, refl, sym, ap, subst, arith}
use Rattle.std.proofs.lemmas.List.{drop_at, take_rest}
use Rattle.std.specs.Prelude.{find, Result, Ok, Err, IfOk, IfErr, OnOk, IsSomeAnd}
use Rattle.ept_base.specs.Files.{Files, Tells}
use Rattle.ept_base.specs.Devices.{Gets}
use Rattle.ept_point.specs.declared.point.Point.{Point}
use Rattle.ept_point.specs.declared.layout.Layout.{Layout}
use Rattle.ept_point.specs.Layout.{IsTileIn}
use Rattle.ept_point.specs.Tile.{ReadsIn}
use Rattle.ept_point.specs.Laws.{ReadInOneWay}
use Rattle.ept_space.specs.VoxelKey.{VoxelKey, same_key}
use Rattle.ept_space.specs.declared.cube.Rules.{Rules}
use Rattle.ept_space.proofs.Within.{same_key-true}
use Rattle.ept_grid.specs.declared.error.GridError.{GridError}
use Rattle.ept_grid.specs.declared.error.GridError.TheVariants.{Outside, OpenLoser, TooMany, Deep, Memory}
use Rattle.ept_grid.specs.Node.{Node, IsNodeOf}
use Rattle.ept_grid.specs.Tile.{IsTile, IsTileFault}
use Rattle.ept_ckpt.specs.declared.letter.Letter.{Letter}
use Rattle.ept_ckpt.specs.declared.node_line.NodeLine.{NodeLine}
use Rattle.ept_ckpt.specs.declared.checkpoint.Checkpoint.{Checkpoint}
use Rattle.ept_ckpt.specs.Versions.{layout_of}
use Rattle.ept_ckpt.specs.Lookup.{line_of_key}
use Rattle.ept_ckpt.specs.Valid.{deepest}
use Rattle.ept_meta.specs.Output.{rules_of}
use Rattle.ept_save.specs.declared.error.SaveError.{SaveError}
use Rattle.ept_save.specs.declared.error.SaveError.TheVariants.{StoreFault, TileDamaged}
use Rattle.ept_save.specs.declared.error.SaveError.TheVariants as save
use Rattle.ept_save.specs.Current.{Current, tile_of_line}
use Rattle.ept_save.specs.Errors.{IsStores}
use Rattle.ept_save.specs.Tiles.{HasTileUnder}
use Rattle.ept_save.specs.Loading.{OfLine, AreOfLine, HasTile, IsNodeFound, IsWrong, IsDamagedUnder, IsDamagedLine, IsDamaged}
use Rattle.ept_save.proofs.TileFiles.{file-tile}

-- ---- the line of a key

-- what is found is in the list, and passes
pub found_stands : {X : Type 0} (test : X → Bool) (xs : List X) (x : X) → find test xs ≡ Some x → (i : ℕ) × (i < length xs) × (get_or xs i x ≡ x) × (test x ≡ true)
found_stands test [] x e = cc
found_stands {X} test (y ∷ xs) x e = by_test (test y) refl (found_stands test xs x) e
  where
    by_test : (b : Bool) → test y ≡ b → (find test xs ≡ Some x → (i : ℕ) × (i < length xs) × (get_or xs i x ≡ x) × (test x ≡ true)) → cond b (Some y) (find test xs) ≡ Some x → (i : ℕ) × (i < length (y ∷ xs)) × (get_or (y ∷ xs) i x ≡ x) × (test x ≡ true)
    by_test true passes below is = let same : y ≡ x = cc in (0, omega arith, same, subst (λ (w : X). test w ≡ true) same passes)
    by_test false fails below is = let more = below is in (suc more.0, omega (arith, more.1), more.2, more.3)

-- the line of a key has that key
pub line-key : (nodes : List NodeLine) (key : VoxelKey) (line : NodeLine) → line_of_key nodes key ≡ Some line → line.key ≡ key
line-key nodes key line found =
    let stands = found_stands (λ (l : NodeLine). same_key l.key key) nodes line found in
    same_key-true line.key key stands.3

-- and lies no deeper than the rules of the checkpoint say
pub line-low : (c : Checkpoint) (key : VoxelKey) (line : NodeLine) → line_of_key c.nodes key ≡ Some line → line.key.depth ≤ (rules_of c.kept).cube.depth
line-low c key line found =
    let stands = found_stands (λ (l : NodeLine). same_key l.key key) c.nodes line found in
    subst (λ (l : NodeLine). l.key.depth ≤ deepest c.kept.bounds c.kept.s c.kept.max_depth) stands.2 (c.is_checkpoint.lines stands.0 line stands.1).depth_most

-- a fact on the line of a key
pub of-line : (current : Current) (key : VoxelKey) (at : Letter × Checkpoint) (line : NodeLine) (fact : Checkpoint → NodeLine → Type 0) → current ≡ Some at → line_of_key at.1.nodes key ≡ Some line → fact at.1 line → OfLine current key fact
of-line current key at line fact is found has =
    subst (λ (w : Current). OfLine w key fact) (sym is) (subst (λ (o : Option NodeLine). IsSomeAnd o (fact at.1)) (sym found) has)

pub at-line : (current : Current) (key : VoxelKey) (at : Letter × Checkpoint) (line : NodeLine) (fact : Checkpoint → NodeLine → Type 0) → current ≡ Some at → line_of_key at.1.nodes key ≡ Some line → OfLine current key fact → fact at.1 line
at-line current key at line fact is found has =
    subst (λ (o : Option NodeLine). IsSomeAnd o (fact at.1)) found (subst (λ (w : Current). OfLine w key fact) is has)

-- ---- a tile that was loaded is not damaged

-- points of a node have no fault
no-fault : (key : VoxelKey) (rules : Rules) (mask : ℕ) (points : List Point) (fault : GridError) → IsTile key rules mask points → IsTileFault key rules mask points fault → ⊥
no-fault key rules mask [] (Outside at) fits fault = absurd (let none = fault.within in omega (arith, none))
no-fault key rules mask (p ∷ points) (Outside at) fits fault = fault.outside p (fits.inside at p fault.within)
no-fault key rules mask points (OpenLoser at) fits fault = let e = sym fits.no_open_loser ∙ fault.1 in cc
no-fault key rules mask points (TooMany o) fits fault = let e : true ≡ false = sym fault.2.overfull ∙ fits.none_overfull o fault.2.one_of_eight in cc
no-fault key rules mask points Deep fits fault = fault.4 (fits.not_deep fault.3)
no-fault key rules mask points Memory fits fault = fault

not-wrong : ReadInOneWay → (layout : Layout) (rules : Rules) (line : NodeLine) (bytes : List ℕ) (points : List Point) → AreOfLine rules line points → IsTileIn layout bytes points → ¬ IsWrong layout rules line bytes
not-wrong once layout rules line bytes points are is wrong = elim wrong [
  | inl none ↦ (let e = once layout bytes (Ok points) (Err none.0) (is, are.ascend) none.1 in cc)
  | inr (inl other) ↦ other.2 (subst (λ (w : List Point). length w ≡ line.count) (same other.0 other.1) are.counted)
  | inr (inr unfit) ↦ no-fault line.key rules line.mask points unfit.2.0 are.fits (subst (λ (w : List Point). IsTileFault line.key rules line.mask w unfit.2.0) (sym (same unfit.0 unfit.1)) unfit.2.1)
]
  where
    same : (found : List Point) → ReadsIn layout bytes (Ok found) → points ≡ found
    same found reads = let e = once layout bytes (Ok points) (Ok found) (is, are.ascend) reads in cc

not-damaged-under : ReadInOneWay → (layout : Layout) (rules : Rules) (name : List ℕ) (line : NodeLine) (points : List Point) (files : Files) → AreOfLine rules line points → HasTileUnder layout name points files → ¬ IsDamagedUnder layout rules name line files
not-damaged-under once layout rules name line points files are has damaged =
    let file = file-tile layout name points files has in
    elim damaged [
      | inl absent ↦ (let e = sym absent ∙ file.1 in cc)
      | inr wrong ↦ not-wrong once layout rules line file.0 points are file.2 (subst (IsWrong layout rules line) (some_same wrong.0 file.0 (sym wrong.1 ∙ file.1)) wrong.2)
    ]
  where
    some_same : (one two : List ℕ) → Some one ≡ Some two → one ≡ two
    some_same one two same = cc

pub not-damaged-line : ReadInOneWay → (layout : Layout) (rules : Rules) (line : NodeLine) (points : List Point) (files : Files) → AreOfLine rules line points → HasTileUnder layout (tile_of_line line) points files → ¬ IsDamagedLine layout rules line files
not-damaged-line once layout rules line points files are has = not-damaged-under once layout rules (tile_of_line line) line points files are has

-- a tile that was loaded was not damaged
pub line-intact : ReadInOneWay → (layout : Layout) (rules : Rules) (name : List ℕ) (line : NodeLine) (result : Result Node SaveError) (files : Option Files) → IfOk result (λ node. AreOfLine rules line node.points) → IfOk result (λ node. Tells (HasTileUnder layout name node.points) files) → OnOk result (Tells (λ all. ¬ IsDamagedUnder layout rules name line all) files)
line-intact once layout rules name line (Err e) files are has = tt
line-intact once layout rules name line (Ok node) None are has = tt
line-intact once layout rules name line (Ok node) (Some all) are has = not-damaged-under once layout rules name line node.points all are has

module _ (current : Current) (key : VoxelKey) (at : Letter × Checkpoint) (line : NodeLine) (is : current ≡ Some at) (found : line_of_key at.1.nodes key ≡ Some line) where
  -- a node that was loaded has the key that was asked for
  pub loaded-node : (result : Result Node SaveError) → IfOk result (λ node. IsNodeOf line.key (rules_of at.1.kept) line.mask node.points node) → IfOk result (IsNodeFound current key)
  loaded-node (Err e) has = tt
  loaded-node (Ok node) has =
      of-line current key at line (λ c l. IsNodeOf key (rules_of c.kept) l.mask node.points node) is found (subst (λ (k : VoxelKey). IsNodeOf k (rules_of at.1.kept) line.mask node.points node) (line-key at.1.nodes key line found) has)

  -- its tile is the one that the line names
  pub loaded-tile : (result : Result Node SaveError) (files : Option Files) → IfOk result (λ node. Tells (HasTileUnder (layout_of at.1.version) (tile_of_line line) node.points) files) → IfOk result (λ node. Tells (HasTile current key node.points) files)
  loaded-tile (Err e) files has = tt
  loaded-tile (Ok node) None has = tt
  loaded-tile (Ok node) (Some all) has = of-line current key at line (λ c l. HasTileUnder (layout_of c.version) (tile_of_line l) node.points all) is found has

  -- it is refused where that is damaged
  pub loaded-refused : (files : Option Files) → Tells (IsDamagedLine (layout_of at.1.version) (rules_of at.1.kept) line) files → Tells (IsDamaged current key) files
  loaded-refused None damaged = tt
  loaded-refused (Some all) damaged = of-line current key at line (λ c l. IsDamagedLine (layout_of c.version) (rules_of c.kept) l all) is found damaged

  -- and else was not
  pub loaded-intact : ReadInOneWay → (result : Result Node SaveError) (files : Option Files) → IfOk result (λ node. AreOfLine (rules_of at.1.kept) line node.points) → IfOk result (λ node. Tells (HasTileUnder (layout_of at.1.version) (tile_of_line line) node.points) files) → OnOk result (Tells (λ all. ¬ IsDamaged current key all) files)
  loaded-intact once (Err e) files are has = tt
  loaded-intact once (Ok node) None are has = tt
  loaded-intact once (Ok node) (Some all) are has = λ damaged.
      not-damaged-line once (layout_of at.1.version) (rules_of at.1.kept) line node.points all are has (at-line current key at line (λ c l. IsDamagedLine (layout_of c.version) (rules_of c.kept) l all) is found damaged)

  -- and one that was reported as damaged is named by that key
  pub loaded-only : (result : Result Node SaveError) → IfErr result (λ e. (e ≡ TileDamaged line.key) ⊎ IsStores e) → IfErr result (λ e. (e ≡ TileDamaged key) ⊎ IsStores e)
  loaded-only (Ok node) only = tt
  loaded-only (Err e) only = subst (λ (k : VoxelKey). (e ≡ TileDamaged k) ⊎ IsStores e) (line-key at.1.nodes key line found) only

-- and a refusal comes where it is damaged
pub refusal-comes : {T : Type 0} (result : Result T SaveError) (current : Current) (key : VoxelKey) (files : Option Files) (all : Files) → OnOk result (Tells (λ f. ¬ IsDamaged current key f) files) → IfErr result (λ e. (e ≡ TileDamaged key) ⊎ IsStores e) → files ≡ Some all
    → IsDamaged current key all → (result ≡ Err (TileDamaged key)) ⊎ (result ≡ Err StoreFault) ⊎ (result ≡ Err save.Memory)
refusal-comes (Ok t) current key files all intact only told damaged =
    absurd (subst (λ (o : Option Files). Tells (λ f. ¬ IsDamaged current key f) o) told intact damaged)
refusal-comes (Err e) current key files all intact only told damaged = elim only [
  | inl is ↦ inl (ap Err is)
  | inr (inl is) ↦ inr (inl (ap Err is))
  | inr (inr is) ↦ inr (inr (ap Err is))
]

-- none comes where it is not
pub sound-only : {T : Type 0} (result : Result T SaveError) (current : Current) (key : VoxelKey) (files : Option Files) (all : Files) → (result ≡ Err (TileDamaged key) → Tells (IsDamaged current key) files) → IfErr result (λ e. (e ≡ TileDamaged key) ⊎ IsStores e)
    → ¬ IsDamaged current key all → files ≡ Some all → IfErr result IsStores
sound-only (Ok t) current key files all refused only intact told = tt
sound-only (Err e) current key files all refused only intact told = elim only [
  | inl is ↦ absurd (intact (subst (λ (o : Option Files). Tells (IsDamaged current key) o) told (refused (ap Err is))))
  | inr stores ↦ stores
]

-- so it is with a call that hands the refusal on
pub handed-on : {X Y : Type 0} (inner : Result X SaveError) (outer : Result Y SaveError) (e : SaveError) → inner ≡ Err e → outer ≡ Err e → IfErr inner IsStores → IfErr outer IsStores
handed-on {X} {Y} inner outer e was is stores =
    subst (λ (r : Result Y SaveError). IfErr r IsStores) (sym is) (subst (λ (r : Result X SaveError). IfErr r IsStores) was stores)

-- ---- why it is reported as damaged

pub is-wrong : (layout : Layout) (rules : Rules) (line : NodeLine) (bytes : List ℕ) (points slice : List Point) → slice ≡ points → ReadsIn layout bytes (Ok points)
    → (length slice ≢ line.count) ⊎ ((fault : GridError) × IsTileFault line.key rules line.mask slice fault) → IsWrong layout rules line bytes
is-wrong layout rules line bytes points slice same reads why = elim why [
  | inl other ↦ inr (inl (points, reads, λ e. other (ap length same ∙ e)))
  | inr unfit ↦ inr (inr (points, reads, (unfit.0, subst (λ (w : List Point). IsTileFault line.key rules line.mask w unfit.0) same unfit.1)))
]

-- what comes after the old points
pub behind-old : (old points new now : List Point) (n : ℕ) → length old ≡ n → now ≡ new → new ≡ old ++ points → take (length now - n) (drop n now) ≡ points
behind-old old points new now n is same e =
    take_rest now n ∙ (ap (λ (w : List Point). drop n w) (same ∙ e) ∙ drop_at old points n is)

-- the file of a line was read, and is wrong
pub damaged-told : (layout : Layout) (rules : Rules) (line : NodeLine) (files : Option Files) (name : List ℕ) (found : Bool) (bytes read : List ℕ) → found ≡ true → read ≡ bytes → Tells (λ all. Gets all name found bytes) files → IsWrong layout rules line read → Tells (IsDamagedUnder layout rules name line) files
damaged-told layout rules line None name found bytes read there same gets wrong = tt
damaged-told layout rules line (Some all) name found bytes read there same gets wrong =
    inr (bytes, subst (λ (b : Bool). all name ≡ cond b (Some bytes) None) there gets.0, subst (IsWrong layout rules line) same wrong)
