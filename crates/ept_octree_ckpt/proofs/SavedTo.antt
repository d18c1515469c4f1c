-- How far the saving of an octree's nodes has come.
use Rattle.std.proofs.Common.{◌≡◌, ◌∙◌, ◌⊎◌, inl, inr, ℕ, zero, suc, ◌<◌, ◌≤◌, ◌^◌, true, List, [], ◌∷◌, ◌++◌, append_assoc, take, drop, length, refl, sym, ap, subst, arith, Option, Some, None}
use Rattle.std.specs.Prelude.{AllPairs, IsSomeAnd, Result, Ok, Err, OnOk}
use Rattle.std.proofs.lemmas.List.{map-append, take_all}
use Rattle.std.specs.List.{cons_option}
use Rattle.std.specs.declared.cmp.Ordering.TheVariants.{Less}
use Rattle.ept_base.specs.Files.{Files, SameFiles, SameBut, Puts, StepsBy, Tells}
use Rattle.ept_base.proofs.Changing.{changed_same}
use Rattle.ept_point.specs.declared.point.Point.{Point}
use Rattle.ept_point.specs.declared.layout.Layout.{Layout}
use Rattle.ept_point.specs.declared.layout.Layout.TheVariants.{Old, New}
use Rattle.ept_point.specs.Packed.{tile}
use Rattle.ept_space.specs.VoxelKey.{VoxelKey, IsKey, key_cmp}
use Rattle.ept_sample.specs.Members.{IsMember}
use Rattle.ept_sample.proofs.Ascending.{IsRising}
use Rattle.ept_sample.proofs.Members.{IsMember-filter, all-member}
use Rattle.ept_sample.proofs.KeyOrder.{key_before, key-self, IsRising-AllPairs}
use Rattle.ept_ckpt.specs.declared.letter.Letter.{Letter}
use Rattle.ept_ckpt.specs.declared.node_line.NodeLine.{NodeLine}
use Rattle.ept_ckpt.specs.declared.checkpoint.Checkpoint.{Checkpoint}
use Rattle.ept_ckpt.specs.Versions.{layout_of}
use Rattle.ept_ckpt.specs.Octree.{is_among}
use Rattle.ept_ckpt.specs.Lookup.{line_of_key}
use Rattle.ept_save.specs.Names.{work_tile_name}
use Rattle.ept_save.specs.Current.{Current, tile_of_line}
use Rattle.ept_save.specs.Lines.{with_line}
use Rattle.ept_save.specs.Loading.{current_line, OfLine, HasTile}
use Rattle.ept_save.specs.Opening.{lines_of}
use Rattle.ept_save.specs.Tiles.{HasTileUnder, IsOfLayout}
use Rattle.ept_save.specs.View.{View}
use Rattle.ept_save.proofs.TileFiles.{new-layout}
use Rattle.ept_save.proofs.NamesDiffer.{tile-key}
use Rattle.ept_save.proofs.LoadedLines.{line-key}
use Rattle.ept_save.proofs.KeyLines.{AreBehind, AreBefore, DoAscend, line-between, do-ascend, lt_less}
use Rattle.ept_table.specs.Octree.{Branch}
use Rattle.ept_octree_ckpt.specs.Lines.{TellsNode, TellNodes, NamesTile, NameTiles}
use Rattle.ept_octree_ckpt.specs.Saving.{IsTold, HasNode, StaysLine, ComesLine, SavesNode, keys_in, AreKnown, HasEachNodeOf}
use Rattle.ept_octree_ckpt.proofs.Telling.{among-member}
use Rattle.ept_octree_ckpt.proofs.Merging.{lines_among, next-lines, all-lines}
use Rattle.ept_octree_ckpt.proofs.Lining.{zip-more, some-same, tells-more}

-- ---- keys that rise

abbrev pub Rise : List VoxelKey → Type 0
Rise [] = Unit {0}
Rise (k ∷ ks) = ((m : VoxelKey) → IsMember m ks → key_cmp k m ≡ Less) × Rise ks

rise : (keys : List VoxelKey) → IsRising key_before keys → Rise keys
rise [] up = tt
rise (k ∷ ks) up = (λ m is. lt_less (key_cmp k m) (up.0 m is), rise ks up.1)

pub keys-rise : (keys : List VoxelKey) → AllPairs (λ a b. key_cmp a b ≡ Less) keys → Rise keys
keys-rise keys all = rise keys (IsRising-AllPairs keys all)

member_last : (key : VoxelKey) (front back : List VoxelKey) → IsMember key (front ++ key ∷ back)
member_last key [] back = inl refl
member_last key (k ∷ front) back = inr (member_last key front back)

pub rise-around : (front : List VoxelKey) (key : VoxelKey) (back : List VoxelKey) → Rise (front ++ key ∷ back) → ((k : VoxelKey) → IsMember k front → key_cmp k key ≡ Less) × ((k : VoxelKey) → IsMember k back → key_cmp key k ≡ Less)
rise-around [] key back up = (λ k m. absurd m, up.0)
rise-around (f ∷ front) key back up =
    let more = rise-around front key back up.1 in
    (λ k m. by_member k m more.0, more.1)
  where
    by_member : (k : VoxelKey) → IsMember k (f ∷ front) → ((j : VoxelKey) → IsMember j front → key_cmp j key ≡ Less) → key_cmp k key ≡ Less
    by_member k (inl is) low = ap (λ (w : VoxelKey). key_cmp w key) (sym is) ∙ up.0 key (member_last key front back)
    by_member k (inr m) low = low k m

-- ---- the current checkpoint's line of a key

pub line-of-current : (current : Current) (key : VoxelKey) → current_line current key ≡ line_of_key (lines_of current) key
line-of-current None key = refl
line-of-current (Some (letter, c)) key = refl

pub lines-ascend : (current : Current) → DoAscend (lines_of current)
lines-ascend None = tt
lines-ascend (Some (letter, c)) = do-ascend c.nodes c.is_checkpoint.nodes_are.octree.ascend

-- of the line of which a fact is stated, it is so
some_line : (c : Checkpoint) (found : Option NodeLine) (fact : Checkpoint → NodeLine → Type 0) → IsSomeAnd found (fact c) → (line : NodeLine) × (found ≡ Some line) × fact c line
some_line c None fact is = absurd is
some_line c (Some line) fact is = (line, refl, is)

pub found-line : (current : Current) (key : VoxelKey) (fact : Checkpoint → NodeLine → Type 0) → OfLine current key fact → (c : Checkpoint) × (line : NodeLine) × (current_line current key ≡ Some line) × fact c line
found-line None key fact is = absurd is
found-line (Some (letter, c)) key fact is =
    let at = some_line c (line_of_key c.nodes key) fact is in
    (c, at.0, at.1, at.2)

pub one_line : (found : Option NodeLine) (a b : NodeLine) → found ≡ Some a → found ≡ Some b → a ≡ b
one_line found a b is also = some-same a b (sym is ∙ also)

-- the tile of the line that was found, where the current checkpoint has no old tiles
pub line-tile : (current : Current) (key : VoxelKey) (line : NodeLine) (points : List Point) (files : Files) → ¬ IsOfLayout Old current → current_line current key ≡ Some line → HasTile current key points files → files (tile_of_line line) ≡ Some (tile points)
line-tile None key line points files newest is has = absurd has
line-tile (Some (letter, c)) key line points files newest is has =
    let at = some_line c (line_of_key c.nodes key) (λ d l. HasTileUnder (layout_of d.version) (tile_of_line l) points files) has in
    let here : HasTileUnder (layout_of c.version) (tile_of_line line) points files = subst (λ (l : NodeLine). HasTileUnder (layout_of c.version) (tile_of_line l) points files) (one_line (line_of_key c.nodes key) at.0 line at.1 is) at.2 in
    subst (λ (layout : Layout). HasTileUnder layout (tile_of_line line) points files) (new-layout letter c newest) here

pub line-is : (current : Current) (key : VoxelKey) (line : NodeLine) → current_line current key ≡ Some line → line.key ≡ key
line-is None key line is = absurd (cc)
line-is (Some (letter, c)) key line is = line-key c.nodes key line is

-- ---- a node is saved

told_on : (old new : Option Files) (was is : Files → Type 0) → ((a b : Files) → SameFiles a b → was a → is b) → StepsBy SameFiles old new → Tells was old → Tells is new
told_on None None was is on same told = tt
told_on None (Some new) was is on same told = absurd same
told_on (Some old) None was is on same told = absurd same
told_on (Some old) (Some new) was is on same told = on old new same told

-- where the current checkpoint has the node, its line stays
pub stays : (view : View) (key : VoxelKey) (mask : ℕ) (points : List Point) (old new : Option Files) → ¬ IsOfLayout Old view.current → IsTold view.current key mask points → Tells (HasNode view.current key mask points) old → StepsBy SameFiles old new → SavesNode view view key mask points new
stays view key mask points old new newest told has same =
    let at = found-line view.current key (λ c line. (line.mask ≡ mask) × (line.count ≡ length points)) told in
    let line : NodeLine = at.1 in
    let is_key : line.key ≡ key = line-is view.current key line at.2 in
    record {
      line = line;
      is_key = is_key;
      is_mask = at.3.0;
      is_count = at.3.1;
      comes = inl (refl, ap (current_line view.current) is_key ∙ at.2);
      has_tile = told_on old new (HasNode view.current key mask points) (λ (all : Files). all (tile_of_line line) ≡ Some (tile points)) (λ a b is node. is (tile_of_line line) ∙ line-tile view.current key line points a newest at.2 node.1) same has;
    }

put_told : (old new : Option Files) (name bytes : List ℕ) → StepsBy (Puts name bytes) old new → Tells (λ (all : Files). all name ≡ Some bytes) new
put_told None None name bytes puts = tt
put_told None (Some new) name bytes puts = absurd puts
put_told (Some old) None name bytes puts = absurd puts
put_told (Some old) (Some new) name bytes puts = puts name ∙ changed_same old name (Some bytes)

-- where its tile is put, a new line comes
pub comes : (old new : View) (key : VoxelKey) (mask : ℕ) (points : List Point) (letter : Letter) (before after : Option Files) → new ≡ record old { lines = with_line (record { key = key; count = length points; mask = mask; letter = letter }) old.lines }
    → StepsBy (Puts (work_tile_name letter key) (tile points)) before after → SavesNode old new key mask points after
comes old new key mask points letter before after view puts = record {
  line = record { key = key; count = length points; mask = mask; letter = letter };
  is_key = refl;
  is_mask = refl;
  is_count = refl;
  comes = inr view;
  has_tile = put_told before after (work_tile_name letter key) (tile points) puts;
}

pub saved-tile : {T E : Type 0} (result : Result T E) (old new : View) (key : VoxelKey) (mask : ℕ) (points : List Point) (letter : Letter) (before after : Option Files) → OnOk result (new ≡ record old { lines = with_line (record { key = key; count = length points; mask = mask; letter = letter }) old.lines })
    → OnOk result (StepsBy (Puts (work_tile_name letter key) (tile points)) before after) → OnOk result (SavesNode old new key mask points after)
saved-tile (Ok t) old new key mask points letter before after line puts = comes old new key mask points letter before after line puts
saved-tile (Err e) old new key mask points letter before after line puts = tt

-- ---- the line of a node

-- A line describes the node: it stays, or is new. If tiles are known, the one that it names is there.
pub record HasItsLine (telling : Type 0) (now new : View) (b : Branch) (files : Option Files) : Type 0 where
  pub line : NodeLine
  pub tells : TellsNode b line
  pub comes : StaysLine now new line ⊎ ComesLine now new line
  pub has_tile : telling → Tells (λ (all : Files). all (tile_of_line line) ≡ Some (tile b.1.points)) files

-- that of a node that was saved
pub line-saved : (telling : Type 0) (now new : View) (b : Branch) (points : List Point) (files : Option Files) → SavesNode now new b.0 b.1.mask points files → length points ≡ length b.1.points → (telling → points ≡ b.1.points) → HasItsLine telling now new b files
line-saved telling now new b points files saves many points_are = record {
  line = saves.line;
  tells = record { key = saves.is_key; mask = saves.is_mask; count = saves.is_count ∙ many };
  comes = saves.comes;
  has_tile = λ tell. subst (λ (w : List Point). Tells (λ (all : Files). all (tile_of_line saves.line) ≡ Some (tile w)) files) (points_are tell) saves.has_tile;
}

-- that of a node that the current checkpoint describes
pub line-stays : (telling : Type 0) (current : Current) (now : View) (b : Branch) (files : Option Files) → now.current ≡ current → ¬ IsOfLayout Old current → IsTold current b.0 b.1.mask b.1.points → (telling → Tells (HasTile current b.0 b.1.points) files) → HasItsLine telling now now b files
line-stays telling current now b files same newest told has =
    let at = found-line current b.0 (λ c line. (line.mask ≡ b.1.mask) × (line.count ≡ length b.1.points)) told in
    let line : NodeLine = at.1 in
    let is_key : line.key ≡ b.0 = line-is current b.0 line at.2 in
    record {
      line = line;
      tells = record { key = is_key; mask = at.3.0; count = at.3.1 };
      comes = inl (refl, ap (λ (c : Current). current_line c line.key) same ∙ (ap (current_line current) is_key ∙ at.2));
      has_tile = λ tell. tells-more (HasTile current b.0 b.1.points) (λ (all : Files). all (tile_of_line line) ≡ Some (tile b.1.points)) (λ all there. line-tile current b.0 line b.1.points all newest at.2 there) files (has tell);
    }

-- ---- the nodes, one after another

-- The lines of the nodes that are done are there, with their tiles if spill files are known. For the rest the current
-- checkpoint's lines stand.
pub record IsSavedTo (telling : Type 0) (start now : View) (done rest : List Branch) (files : Option Files) : Type 0 where
  pub lines : List NodeLine
  pub view_is : now ≡ record start { lines = lines ++ lines_among (keys_in rest) (lines_of start.current) }
  pub told : TellNodes done lines
  pub tiles : telling → Tells (λ all. NameTiles New all done lines) files
  pub known : AreKnown done

tells_nothing : (files : Option Files) → Tells (λ all. NameTiles New all [] []) files
tells_nothing None = tt
tells_nothing (Some all) = tt

pub saved-none : (telling : Type 0) (start : View) (nodes : List Branch) (files : Option Files) → start.lines ≡ lines_of start.current → HasEachNodeOf start.current nodes → IsSavedTo telling start start [] nodes files
saved-none telling start nodes files fresh each = record {
  lines = [];
  view_is = view;
  told = tt;
  tiles = λ tell. tells_nothing files;
  known = λ b m. absurd m;
}
  where
    among : lines_among (keys_in nodes) (lines_of start.current) ≡ lines_of start.current
    among = all-lines (keys_in nodes) (lines_of start.current) (λ l m. all-member (λ (line : NodeLine). is_among (keys_in nodes) line.key ≡ true) l (lines_of start.current) each m)

    view : start ≡ record start { lines = lines_among (keys_in nodes) (lines_of start.current) }
    view = let same : start.lines ≡ lines_among (keys_in nodes) (lines_of start.current) = fresh ∙ sym among in λ i. record start { lines = same i }

-- only the lines changed
pub lines-only : (start now : View) (lines : List NodeLine) → now ≡ record start { lines = lines } → now ≡ record start { lines = now.lines }
lines-only start now lines is = is ∙ ap (λ (w : List NodeLine). record start { lines = w }) (sym (ap (λ (v : View). v.lines) is))

-- in the end all lines are those of the nodes
pub saved-all : (telling : Type 0) (start now : View) (nodes : List Branch) (files : Option Files) → IsSavedTo telling start now nodes [] files → TellNodes nodes now.lines × (telling → Tells (λ all. NameTiles New all nodes now.lines) files)
saved-all telling start now nodes files at = (
  subst (TellNodes nodes) lines at.told,
  λ tell. subst (λ (w : List NodeLine). Tells (λ all. NameTiles New all nodes w) files) lines (at.tiles tell),
)
  where
    none : (ls : List NodeLine) → lines_among [] ls ≡ []
    none [] = refl
    none (l ∷ ls) = none ls

    nothing : (ls : List NodeLine) → ls ++ [] ≡ ls
    nothing [] = refl
    nothing (l ∷ ls) = ap (λ (w : List NodeLine). l ∷ w) (nothing ls)

    lines : at.lines ≡ now.lines
    lines = sym (ap (λ (v : View). v.lines) at.view_is ∙ (ap (λ (w : List NodeLine). at.lines ++ w) (none (lines_of start.current)) ∙ nothing at.lines))

none_left : {X : Type 0} (xs : List X) (i : ℕ) → length xs ≤ i → drop i xs ≡ []
none_left [] zero end = refl
none_left [] (suc i) end = refl
none_left (x ∷ xs) zero end = absurd (omega (arith, end))
none_left (x ∷ xs) (suc i) end = none_left xs i (omega (arith, end))

pub saved-end : (telling : Type 0) (start now : View) (nodes : List Branch) (i : ℕ) (files : Option Files) → length nodes ≤ i → IsSavedTo telling start now (take i nodes) (drop i nodes) files → IsSavedTo telling start now nodes [] files
saved-end telling start now nodes i files end at =
    subst (λ (w : List Branch). IsSavedTo telling start now w [] files) (take_all i nodes end)
    (subst (λ (w : List Branch). IsSavedTo telling start now (take i nodes) w files) (none_left nodes i end) at)

module _ (telling : Type 0) (start now new : View) (done rest : List Branch) (b : Branch) (files after : Option Files) (rises : Rise (keys_in (done ++ b ∷ rest))) (is_key : IsKey b.0) (shallow : b.1.key.depth ≤ b.1.rules.cube.depth) (byte : b.1.mask < 2 ^ 8) (at : IsSavedTo telling start now done (b ∷ rest) files) (has : HasItsLine telling now new b after) (letter : Letter) (one : StepsBy (SameBut (work_tile_name letter b.0)) files after) where
  abbrev key : VoxelKey
  key = b.0

  abbrev lines : List NodeLine
  lines = at.lines

  abbrev current : Current
  current = start.current

  abbrev behind : List NodeLine
  behind = lines_among (keys_in rest) (lines_of current)

  around : ((k : VoxelKey) → IsMember k (keys_in done) → key_cmp k key ≡ Less) × ((k : VoxelKey) → IsMember k (keys_in rest) → key_cmp key k ≡ Less)
  around = rise-around (keys_in done) key (keys_in rest) (subst Rise (map-append (λ (c : Branch). c.0) done (b ∷ rest)) rises)

  -- the lines of the rest, this one's first
  front : lines_among (keys_in (b ∷ rest)) (lines_of current) ≡ cons_option (line_of_key (lines_of current) key) behind
  front = next-lines key (keys_in rest) (lines_of current) (lines-ascend current) around.1

  same_current : now.current ≡ current
  same_current = ap (λ (v : View). v.current) at.view_is

  now_lines : now.lines ≡ lines ++ cons_option (line_of_key (lines_of current) key) behind
  now_lines = ap (λ (v : View). v.lines) at.view_is ∙ ap (λ (w : List NodeLine). lines ++ w) front

  low : AreBefore key lines
  low l m = in_order done lines at.told around.0 l m
    where
      in_order : (nodes : List Branch) (ls : List NodeLine) → TellNodes nodes ls → ((k : VoxelKey) → IsMember k (keys_in nodes) → key_cmp k key ≡ Less) → (x : NodeLine) → IsMember x ls → key_cmp x.key key ≡ Less
      in_order [] [] told less x m = absurd m
      in_order [] (y ∷ ys) told less x m = absurd told
      in_order (n ∷ ns) [] told less x m = absurd m
      in_order (n ∷ ns) (y ∷ ys) told less x (inl is) = ap (λ (w : NodeLine). key_cmp w.key key) (sym is) ∙ (ap (λ (k : VoxelKey). key_cmp k key) told.0.key ∙ less n.0 (inl refl))
      in_order (n ∷ ns) (y ∷ ys) told less x (inr m) = in_order ns ys told.1 (λ k i. less k (inr i)) x m

  high : AreBehind key behind
  high l m = around.1 l.key (among-member (keys_in rest) l.key (IsMember-filter (λ (x : NodeLine). is_among (keys_in rest) x.key) l (lines_of current) m).1)

  new_lines : StaysLine now new has.line ⊎ ComesLine now new has.line → new ≡ record start { lines = lines ++ has.line ∷ behind }
  new_lines (inl stay) =
      let found : line_of_key (lines_of current) key ≡ Some has.line =
      sym (line-of-current current key) ∙ (ap (λ (c : Current). current_line c key) (sym same_current) ∙ (ap (current_line now.current) (sym has.tells.key) ∙ stay.1)) in
      stay.0 ∙ (at.view_is ∙ ap (λ (w : List NodeLine). record start { lines = lines ++ w }) (front ∙ ap (λ (o : Option NodeLine). cons_option o behind) found))
  new_lines (inr come) =
      let at_key : (l : NodeLine) → line_of_key (lines_of current) key ≡ Some l → l.key ≡ has.line.key =
      λ l is. line-is current key l (line-of-current current key ∙ is) ∙ sym has.tells.key in
      let between : with_line has.line now.lines ≡ lines ++ has.line ∷ behind =
      ap (with_line has.line) now_lines
      ∙ line-between has.line lines (line_of_key (lines_of current) key) behind (subst (λ (k : VoxelKey). AreBefore k lines) (sym has.tells.key) low) at_key (subst (λ (k : VoxelKey). AreBehind k behind) (sym has.tells.key) high) in
      come ∙ (ap (λ (v : View). record v { lines = with_line has.line now.lines }) at.view_is ∙ ap (λ (w : List NodeLine). record start { lines = w }) between)

  -- what was put is no tile of those before
  others : (all then : Files) → SameBut (work_tile_name letter key) all then → (nodes : List Branch) (ls : List NodeLine) → TellNodes nodes ls → AreKnown nodes → AreBefore key ls → NameTiles New all nodes ls → NameTiles New then nodes ls
  others all then same [] [] told are less names = tt
  others all then same [] (y ∷ ys) told are less names = absurd told
  others all then same (n ∷ ns) [] told are less names = absurd told
  others all then same (n ∷ ns) (y ∷ ys) told are less names = (
    same (tile_of_line y) (λ is. apart (tile-key y.letter letter y.key key (subst IsKey (sym told.0.key) (are n (inl refl)).0) is_key is)) ∙ names.0,
    others all then same ns ys told.1 (λ c m. are c (inr m)) (λ l m. less l (inr m)) names.1,
  )
    where
      apart : y.key ≡ key → ⊥
      apart is =
          let less_here : key_cmp y.key key ≡ Less = less y (inl refl) in
          let equal = ap (λ (k : VoxelKey). key_cmp k key) is ∙ key-self key in
          absurd (cc)

  tell_tiles : telling → (old new : Option Files) → StepsBy (SameBut (work_tile_name letter key)) old new → Tells (λ all. NameTiles New all done lines) old → Tells (λ (all : Files). all (tile_of_line has.line) ≡ Some (tile b.1.points)) new → Tells (λ all. NameTiles New all (done ++ b ∷ []) (lines ++ has.line ∷ [])) new
  tell_tiles tell None None step names there = tt
  tell_tiles tell None (Some then) step names there = absurd step
  tell_tiles tell (Some all) None step names there = absurd step
  tell_tiles tell (Some all) (Some then) step names there =
      zip-more (NamesTile New then) done lines b has.line (others all then step done lines at.told at.known low names) there

  known_more : (nodes : List Branch) → AreKnown nodes → AreKnown (nodes ++ b ∷ [])
  known_more [] are c (inl is) = subst (λ (w : Branch). IsKey w.0 × (w.1.key.depth ≤ w.1.rules.cube.depth) × (w.1.mask < 2 ^ 8)) is (is_key, shallow, byte)
  known_more [] are c (inr m) = absurd m
  known_more (n ∷ ns) are c (inl is) = are c (inl is)
  known_more (n ∷ ns) are c (inr m) = known_more ns (λ d i. are d (inr i)) c m

  pub saved-more : IsSavedTo telling start new (done ++ b ∷ []) rest after
  saved-more = record {
    lines = lines ++ has.line ∷ [];
    view_is = new_lines has.comes ∙ ap (λ (w : List NodeLine). record start { lines = w }) (sym (append_assoc lines (has.line ∷ []) behind));
    told = zip-more TellsNode done lines b has.line at.told has.tells;
    tiles = λ tell. tell_tiles tell files after one (at.tiles tell) (has.has_tile tell);
    known = known_more done at.known;
  }
