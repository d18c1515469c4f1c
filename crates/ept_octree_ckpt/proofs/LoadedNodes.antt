-- The nodes of a checkpoint's lines, added to an octree one after another.
use Rattle.std.proofs.Common.{◌≡◌, ◌≢◌, ◌∙◌, ◌⊎◌, inl, inr, ℕ, zero, suc, ◌+◌, ◌<◌, ◌≤◌, true, false, List, [], ◌∷◌, ◌++◌, take, length, get_or, refl, sym, ap, subst, arith, Option, Some, None, Ordering}
use Rattle.std.specs.BTreeMap.{insert_entry}
use Rattle.std.specs.declared.cmp.Ordering.TheVariants.{Less, Equal}
use Rattle.std.specs.Ordering.{match_ordering}
use Rattle.ept_base.specs.Files.{Files, SameFiles, StepsBy, Tells}
use Rattle.ept_point.specs.declared.point.Point.{Point}
use Rattle.ept_space.specs.declared.cube.Rules.{Rules}
use Rattle.ept_space.specs.VoxelKey.{VoxelKey, root, key_cmp}
use Rattle.ept_space.proofs.KeyOrder.{key_cmp-less, key_cmp-same}
use Rattle.ept_sample.specs.Members.{IsMember}
use Rattle.ept_sample.proofs.Members.{member-map}
use Rattle.ept_grid.specs.Node.{Node}
use Rattle.ept_grid.specs.Tile.{IsTile, IsTileFault}
use Rattle.ept_grid.specs.declared.error.GridError.{GridError}
use Rattle.ept_grid.specs.declared.error.GridError.TheVariants.{Outside, OpenLoser, TooMany, Deep, Memory}
use Rattle.ept_node.specs.Shown.{empty_node}
use Rattle.ept_ckpt.specs.declared.node_line.NodeLine.{NodeLine}
use Rattle.ept_ckpt.specs.declared.checkpoint.Checkpoint.{Checkpoint}
use Rattle.ept_ckpt.specs.Octree.{keys_of, AreWholeOctree}
use Rattle.ept_save.specs.Current.{tile_of_line}
use Rattle.ept_save.specs.Loading.{AreOfLine}
use Rattle.ept_table.specs.Octree.{Branch}
use Rattle.ept_octree.specs.Adding.{filled, IsFree, HasRoomFor}
use Rattle.ept_octree.specs.declared.octree.Octree.{Octree}
use Rattle.ept_octree.specs.Octree.{cache_of, residents_of, AreAlike}
use Rattle.ept_octree_ckpt.specs.Lines.{TellsNode, TellNodes, NamesTile, NameTiles}
use Rattle.ept_point.specs.declared.layout.Layout.{Layout}
use Rattle.ept_ckpt.specs.Versions.{layout_of}
use Rattle.ept_save.proofs.TileFiles.{tile-same}
use Rattle.ept_save.proofs.KeyLines.{DoAscend, do-ascend, before-next, take-next}
use Rattle.ept_octree_ckpt.proofs.Telling.{among-member}
use Rattle.ept_octree_ckpt.proofs.Lining.{zip-more, tells-both, tells-back, insert-last, entries-low, told-few}

-- points of a node have no fault
pub no-fault : (key : VoxelKey) (rules : Rules) (mask : ℕ) (points : List Point) (fault : GridError) → IsTile key rules mask points → IsTileFault key rules mask points fault → ⊥
no-fault key rules mask [] (Outside at) fits fault = absurd (let none = fault.within in omega (arith, none))
no-fault key rules mask (p ∷ points) (Outside at) fits fault = fault.outside p (fits.inside at p fault.within)
no-fault key rules mask points (OpenLoser at) fits fault = let e = sym fits.no_open_loser ∙ fault.1 in cc
no-fault key rules mask points (TooMany o) fits fault = let e : true ≡ false = sym fault.2.overfull ∙ fits.none_overfull o fault.2.one_of_eight in cc
no-fault key rules mask points Deep fits fault = fault.4 (fits.not_deep fault.3)
no-fault key rules mask points Memory fits fault = fault

-- ---- the first line is that of the root

none_before : (key : VoxelKey) → key_cmp key root ≡ Less → ⊥
none_before key less = elim (key_cmp-less key root less) [
  | inl low ↦ omega (arith, low)
  | inr (_, inl low) ↦ omega (arith, low)
  | inr (_, inr (_, inl low)) ↦ omega (arith, low)
  | inr (_, inr (_, inr (_, low))) ↦ omega (arith, low)
]

pub first-root : (lines : List NodeLine) (line : NodeLine) → AreWholeOctree lines → get_or lines 0 line ≡ line → 0 < length lines → line.key ≡ root
first-root [] line octree is some = absurd (omega (arith, some))
first-root (l ∷ ls) line octree is some = elim (among-member (keys_of (l ∷ ls)) root octree.rooted) [
  | inl at ↦ ap (λ (x : NodeLine). x.key) (sym is) ∙ at
  | inr m ↦
      let it = member-map (λ (x : NodeLine). x.key) root ls m in
      let up : DoAscend (l ∷ ls) = do-ascend (l ∷ ls) octree.ascend in
      absurd (none_before l.key (subst (λ (k : VoxelKey). key_cmp l.key k ≡ Less) it.2 (up.0 it.0 it.1)))
]

pub some-lines : (lines : List NodeLine) → AreWholeOctree lines → 0 < length lines
some-lines [] octree = absurd (among-member [] root octree.rooted)
some-lines (l ∷ ls) octree = omega arith

-- ---- the nodes that are there

abbrev pub alone : Rules → List Branch
alone rules = (let b : Branch = (root, empty_node root rules) in b) ∷ []

-- The nodes of these lines were added to the octree of no points, which has its root from the beginning. If spill files
-- are known, the files that the lines name are their tiles.
pub record AreLoaded (telling : Type 0) (layout : Layout) (rules : Rules) (lines : List NodeLine) (nodes : List Branch) (files : Option Files) : Type 0 where
  pub loaded : List Branch
  pub told : TellNodes loaded lines
  pub tiles : telling → Tells (λ all. NameTiles layout all loaded lines) files
  pub there : (nodes ≡ loaded) ⊎ ((loaded ≡ []) × (nodes ≡ alone rules))

-- before the first line the root is in memory, and after each there is room for one node more
abbrev pub HasPlace : {F : Type 0} → ℕ → Octree F → Type 0
HasPlace i tree = ((i ≡ 0) × (0 < residents_of tree)) ⊎ ((0 < i) × (residents_of tree < cache_of tree))

none_named : (layout : Layout) (files : Option Files) → Tells (λ all. NameTiles layout all [] []) files
none_named layout None = tt
none_named layout (Some all) = tt

pub loaded-none : (telling : Type 0) (layout : Layout) (rules : Rules) (nodes : List Branch) (files : Option Files) → nodes ≡ alone rules → AreLoaded telling layout rules [] nodes files
loaded-none telling layout rules nodes files is =
    record { loaded = []; told = tt; tiles = λ tell. none_named layout files; there = inr (refl, is) }

-- if no node is described there is no line
first_taken : (lines : List NodeLine) (i : ℕ) → i < length lines → TellNodes [] (take i lines) → i ≡ 0
first_taken lines zero inside told = refl
first_taken [] (suc i) inside told = absurd (omega (arith, inside))
first_taken (l ∷ ls) (suc i) inside told = absurd told

-- nodes that some first lines describe are equal in number to these
told_count : (nodes : List Branch) (lines : List NodeLine) (i : ℕ) → i < length lines → TellNodes nodes (take i lines) → length nodes ≡ i
told_count [] lines zero inside told = refl
told_count [] [] (suc i) inside told = absurd (omega (arith, inside))
told_count [] (l ∷ ls) (suc i) inside told = absurd told
told_count (b ∷ bs) lines zero inside told = absurd told
told_count (b ∷ bs) [] (suc i) inside told = absurd (omega (arith, inside))
told_count (b ∷ bs) (l ∷ ls) (suc i) inside told = let fewer = told_count bs ls i (omega (arith, inside)) told.1 in omega (arith, fewer)

none_or_some : (n : ℕ) → (n ≡ 0) ⊎ (0 < n)
none_or_some zero = inl refl
none_or_some (suc n) = inr (omega arith)

-- what lines say of nodes they say of nodes that are alike
pub alike-told : (old new : List Branch) (lines : List NodeLine) → AreAlike old new → TellNodes old lines → TellNodes new lines
alike-told [] [] lines alike told = told
alike-told [] (c ∷ cs) lines alike told = absurd alike
alike-told (b ∷ bs) [] lines alike told = absurd alike
alike-told (b ∷ bs) (c ∷ cs) [] alike told = absurd told
alike-told (b ∷ bs) (c ∷ cs) (l ∷ ls) alike told = (
  record { key = told.0.key ∙ sym alike.0.0; mask = told.0.mask ∙ sym alike.0.1.mask; count = told.0.count ∙ sym alike.0.1.count },
  alike-told bs cs ls alike.1 told.1,
)

module _ (telling : Type 0) (rules : Rules) (c : Checkpoint) (items : List NodeLine) (same : items ≡ c.nodes) (i : ℕ) (line : NodeLine) (inside : i < length items) (is : get_or items i line ≡ line) (nodes : List Branch) (old : Option Files) (at : AreLoaded telling (layout_of c.version) rules (take i items) nodes old) where
  octree : AreWholeOctree items
  octree = subst (λ (w : List NodeLine). AreWholeOctree w) (sym same) c.is_checkpoint.nodes_are.octree

  up : DoAscend items
  up = do-ascend items octree.ascend

  low : (e : Branch) → IsMember e at.loaded → key_cmp e.0 line.key ≡ Less
  low = entries-low at.loaded items i line up inside is at.told

  -- where only the root stands, the line is that of the root
  alone_first : at.loaded ≡ [] → line.key ≡ root
  alone_first none =
      let zeroth : i ≡ 0 = first_taken items i inside (subst (λ (w : List Branch). TellNodes w (take i items)) none at.told) in
      first-root items line octree (subst (λ (k : ℕ). get_or items k line ≡ line) zeroth is) (omega (arith, inside))

  apart : (e : Branch) → IsMember e at.loaded → e.0 ≡ line.key → ⊥
  apart e m same_key = let equal : key_cmp e.0 line.key ≡ Equal = key_cmp-same e.0 line.key same_key in two_ways (key_cmp e.0 line.key) (low e m) equal
    where
      two_ways : (o : Ordering) → o ≡ Less → o ≡ Equal → ⊥
      two_ways o less equal = absurd (cc)

  pub next-free : IsFree line.key nodes
  next-free = elim at.there [
    | inl all ↦ inl (λ e m same_key. apart e (subst (λ (w : List Branch). IsMember e w) all m) same_key)
    | inr first ↦ inr (alone_first first.0, empty_node root rules, first.1, refl)
  ]

  -- each but the first has room once the one before it was added
  pub next-room : {F : Type 0} (tree : Octree F) → HasPlace i tree → HasRoomFor line.key tree
  next-room tree (inl first) = inl (first-root items line octree (subst (λ (k : ℕ). get_or items k line ≡ line) first.0 is) (omega (arith, inside)))
  next-room tree (inr behind) = inr behind.1

  -- only the first is that of the root
  not_root : 0 < i → line.key ≡ root → ⊥
  not_root some rooted = root_behind items i some up inside is
    where
      root_behind : (ls : List NodeLine) (k : ℕ) → 0 < k → DoAscend ls → k < length ls → get_or ls k line ≡ line → ⊥
      root_behind [] k some up low at = absurd (omega (arith, low))
      root_behind (l ∷ ls) zero some up low at = absurd (omega (arith, some))
      root_behind (l ∷ ls) (suc k) some up low at =
          none_before l.key (subst (λ (w : VoxelKey). key_cmp l.key w ≡ Less) rooted (before-next (l ∷ ls) (suc k) line l up low at (inl refl)))

  -- which is in memory
  pub next-here : {F : Type 0} (tree : Octree F) → HasPlace i tree → line.key ≡ root → 0 < residents_of tree
  next-here tree (inl first) rooted = first.1
  next-here tree (inr behind) rooted = absurd (not_root behind.0 rooted)

  -- where it has a slot, there is one for each line up to it
  pub next-slot : (most : ℕ) → 0 < most → (line.key ≢ root → length nodes < most) → i < most
  next-slot most some room = elim (none_or_some i) [
    | inl none ↦ omega (arith, none, some)
    | inr more ↦ elim at.there [
      | inl all ↦
          let here : length at.loaded ≡ i = told_count at.loaded items i inside at.told in
          let less : length nodes < most = room (not_root more) in
          let same_count : length nodes ≡ length at.loaded = ap length all in
          omega (arith, here, less, same_count)
      | inr first ↦
          let none : i ≡ 0 = first_taken items i inside (subst (λ (w : List Branch). TellNodes w (take i items)) first.0 at.told) in
          absurd (omega (arith, none, more))
    ]
  ]

  -- where it has none, there is one for each line before it, and for no more
  pub next-last : (most : ℕ) → (line.key ≢ root) × (most ≤ length nodes) → length nodes ≤ most → i ≡ most
  next-last most full few = elim at.there [
    | inl all ↦
        let here : length at.loaded ≡ i = told_count at.loaded items i inside at.told in
        let same_count : length nodes ≡ length at.loaded = ap length all in
        omega (arith, here, same_count, full.1, few)
    | inr first ↦ absurd (full.0 (alone_first first.0))
  ]

  -- it is one too many only if there are more lines than there may be nodes
  pub next-full : (most : ℕ) → (line.key ≢ root) × (most ≤ length nodes) → most < length c.nodes
  next-full most full = elim at.there [
    | inl all ↦
        let few : length at.loaded < length items = told-few at.loaded items i inside at.told in
        omega (arith, full.1, ap length all, few, ap length same)
    | inr first ↦ absurd (full.0 (alone_first first.0))
  ]

  module _ (node : Node) (more : List Branch) (alike : AreAlike (insert_entry key_cmp nodes line.key node) more) (inserted : telling → more ≡ insert_entry key_cmp nodes line.key node) where
    abbrev next : Branch
    next = (line.key, node)

    abbrev layout : Layout
    layout = layout_of c.version

    last : insert_entry key_cmp nodes line.key node ≡ at.loaded ++ next ∷ []
    last = elim at.there [
      | inl all ↦ ap (λ (w : List Branch). insert_entry key_cmp w line.key node) all ∙ insert-last at.loaded line.key node low
      | inr first ↦
          let here : key_cmp line.key root ≡ Equal = key_cmp-same line.key root (alone_first first.0) in
          ap (λ (w : List Branch). insert_entry key_cmp w line.key node) first.1
          ∙ (ap (λ (o : Ordering). match_ordering o (next ∷ alone rules) ((root, node) ∷ []) ((root, empty_node root rules) ∷ insert_entry key_cmp [] line.key node)) here
          ∙ (ap (λ (k : VoxelKey). let b : Branch = (k, node) in b ∷ []) (sym (alone_first first.0)) ∙ ap (λ (w : List Branch). w ++ next ∷ []) (sym first.0)))
    ]

    taken : take i items ++ line ∷ [] ≡ take (i + 1) items
    taken = take-next items i line inside is

    pub loaded-more : (mid : Option Files) → StepsBy SameFiles old mid → TellsNode next line → Tells (λ all. NamesTile (layout_of c.version) all next line) mid → AreLoaded telling (layout_of c.version) rules (take (i + 1) items) more old
    loaded-more mid unchanged tells name = record {
      loaded = more;
      told = alike-told (at.loaded ++ next ∷ []) more (take (i + 1) items) (subst (λ (w : List Branch). AreAlike w more) last alike)
          (subst (λ (ls : List NodeLine). TellNodes (at.loaded ++ next ∷ []) ls) taken (zip-more TellsNode at.loaded (take i items) next line at.told tells));
      tiles = λ tell. subst (λ (w : List Branch). Tells (λ all. NameTiles layout all w (take (i + 1) items)) old) (sym (inserted tell ∙ last))
          (subst (λ (ls : List NodeLine). Tells (λ all. NameTiles layout all (at.loaded ++ next ∷ []) ls) old) taken
          (tells-both (λ all. NameTiles layout all at.loaded (take i items)) (λ all. NamesTile layout all next line) (λ all. NameTiles layout all (at.loaded ++ next ∷ []) (take i items ++ line ∷ [])) (λ all names name. zip-more (NamesTile layout all) at.loaded (take i items) next line names name) old (at.tiles tell)
          (tells-back (λ all. NamesTile layout all next line) (λ all. NamesTile layout all next line) (λ a b step here. tile-same layout (tile_of_line line) (tile_of_line line) next.1.points b a (sym (step (tile_of_line line))) here) old mid unchanged name)));
      there = inl refl;
    }

-- the node of the points that were found is the one that the line describes
pub tells-filled : (rules its : Rules) (line : NodeLine) (points : List Point) → AreOfLine its line points → TellsNode (line.key, filled line.key rules line.mask points) line
tells-filled rules its line points are = record { key = refl; mask = refl; count = sym are.counted }

-- with all lines, these are the octree's nodes
pub all-loaded : (telling : Type 0) (rules : Rules) (c : Checkpoint) (nodes : List Branch) (files : Option Files) → AreLoaded telling (layout_of c.version) rules c.nodes nodes files → TellNodes nodes c.nodes × (telling → Tells (λ all. NameTiles (layout_of c.version) all nodes c.nodes) files)
all-loaded telling rules c nodes files at = elim at.there [
  | inl all ↦ (
    subst (λ (w : List Branch). TellNodes w c.nodes) (sym all) at.told,
    λ tell. subst (λ (w : List Branch). Tells (λ here. NameTiles (layout_of c.version) here w c.nodes) files) (sym all) (at.tiles tell),
  )
  | inr first ↦ absurd (none_told c.nodes c.is_checkpoint.nodes_are.octree (subst (λ (w : List Branch). TellNodes w c.nodes) first.0 at.told))
]
  where
    none_told : (lines : List NodeLine) → AreWholeOctree lines → TellNodes [] lines → ⊥
    none_told [] whole told = among-member [] root whole.rooted
    none_told (l ∷ ls) whole told = told
