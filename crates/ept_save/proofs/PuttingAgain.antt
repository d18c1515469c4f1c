-- How far the tiles of a checkpoint of the old layout are put again.
use Rattle.std.proofs.Common.{◌≡◌, ◌≢◌, ◌∙◌, inl, inr, ℕ, zero, suc, ◌+◌, ◌<◌, ◌≤◌, List, [], ◌∷◌, ◌++◌, map, take, length, get_or, refl, sym, ap, subst, Option, Some, None}
use Rattle.std.specs.Prelude.{IsSome}
use Rattle.std.specs.List.{AllByRecursion}
use Rattle.std.proofs.lemmas.Bool.{false≢true}
use Rattle.std.specs.declared.cmp.Ordering.TheVariants.{Less}
use Rattle.std.proofs.lemmas.List.{take_all}
use Rattle.ept_base.specs.Files.{Files, SameFiles, Puts, StepsBy, Tells}
use Rattle.ept_base.proofs.Changing.{changed_same, changed_other}
use Rattle.ept_point.specs.declared.point.Point.{Point}
use Rattle.ept_point.specs.declared.layout.Layout.{Layout}
use Rattle.ept_point.specs.declared.layout.Layout.TheVariants.{Old, New}
use Rattle.ept_point.specs.Packed.{tile}
use Rattle.ept_space.specs.VoxelKey.{VoxelKey, IsKey, key_cmp}
use Rattle.ept_sample.specs.Members.{IsMember}
use Rattle.ept_sample.proofs.Members.{all-member}
use Rattle.ept_sample.proofs.KeyOrder.{key-self}
use Rattle.ept_ckpt.specs.declared.letter.Letter.{Letter}
use Rattle.ept_ckpt.specs.declared.node_line.NodeLine.{NodeLine}
use Rattle.ept_ckpt.specs.declared.checkpoint.Checkpoint.{Checkpoint}
use Rattle.ept_ckpt.specs.Lookup.{line_of_key}
use Rattle.ept_ckpt.specs.Versions.{layout_of}
use Rattle.ept_ckpt.specs.Valid.{IsNode, deepest}
use Rattle.ept_meta.specs.Output.{rules_of}
use Rattle.ept_save.specs.Names.{other, work_tile_name}
use Rattle.ept_save.specs.Current.{Current, Keeps, tile_of_line}
use Rattle.ept_save.specs.Lines.{free_of, free_letter, with_line}
use Rattle.ept_save.specs.Loading.{current_line, HasLine, AreOfLine, AreFound, HasTile, IsDamaged, HasNoDamage}
use Rattle.ept_save.specs.Migrating.{turned, IsPutAgain, ArePutAgain}
use Rattle.ept_save.specs.Tiles.{HasTileUnder}
use Rattle.ept_save.specs.View.{View}
use Rattle.ept_save.proofs.DamagedTiles.{line-stands, line-named, damaged-before}
use Rattle.ept_save.proofs.KeyLines.{DoAscend, do-ascend, line-here, member-at, before-next, take-next}
use Rattle.ept_save.proofs.LoadedLines.{at-line, line-key}
use Rattle.ept_save.proofs.NamesDiffer.{tile-key}
use Rattle.ept_save.proofs.Standing.{stepped, tells_some, told_some}
use Rattle.ept_save.proofs.TileFiles.{tile-same}
use Rattle.ept_save.proofs.TurnedLines.{turned_to, turned-next, turned-end}

-- the tile of a line is put again, and it was not damaged
pub record IsTurned (current : Current) (start now : Files) (line : NodeLine) : Type 0 where
  pub again : IsPutAgain start now line
  pub intact : ¬ IsDamaged current line.key start

-- this number of the lines is turned, and their tiles put again
pub record IsTurnedTo (start now : View) (items : List NodeLine) (i : ℕ) (first files : Option Files) : Type 0 where
  pub view_is : now ≡ record start { lines = turned_to i items }
  pub tiles : (all : Files) → first ≡ Some all → Tells (λ here. AllByRecursion (IsTurned start.current all here) (take i items)) files

tells_none : (current : Current) (all : Files) (files : Option Files) → Tells (λ here. AllByRecursion (IsTurned current all here) []) files
tells_none current all None = tt
tells_none current all (Some here) = tt

-- at the start none is
pub turned-start : (start : View) (items : List NodeLine) (first : Option Files) → items ≡ start.lines → IsTurnedTo start start items 0 first first
turned-start start items first is = record {
  view_is = λ i. record start { lines = sym is i };
  tiles = λ all told. tells_none start.current all first;
}

-- one more in a list of which each is so
one_more : (P : NodeLine → Type 0) (lines : List NodeLine) (line : NodeLine) → AllByRecursion P lines → P line → AllByRecursion P (lines ++ line ∷ [])
one_more P [] line all is = (is, tt)
one_more P (l ∷ lines) line all is = (all.0, one_more P lines line all.1 is)

-- a first item is one of all
first_of : (lines : List NodeLine) (i : ℕ) (l : NodeLine) → IsMember l (take i lines) → IsMember l lines
first_of [] zero l m = absurd m
first_of [] (suc i) l m = absurd m
first_of (x ∷ lines) zero l m = absurd m
first_of (x ∷ lines) (suc i) l (inl is) = inl is
first_of (x ∷ lines) (suc i) l (inr m) = inr (first_of lines i l m)

-- the tiles that were put are in other files too, if those names read the same
still_turned : (current : Current) (start old new : Files) (lines : List NodeLine) → ((l : NodeLine) → IsMember l lines → new (tile_of_line (turned l)) ≡ old (tile_of_line (turned l))) → AllByRecursion (IsTurned current start old) lines → AllByRecursion (IsTurned current start new) lines
still_turned current start old new [] same all = tt
still_turned current start old new (l ∷ lines) same all = (
  record {
    again = record {
      points = all.0.again.points;
      was = all.0.again.was;
      put = tile-same New (tile_of_line (turned l)) (tile_of_line (turned l)) all.0.again.points old new (same l (inl refl)) all.0.again.put;
    };
    intact = all.0.intact;
  },
  still_turned current start old new lines (λ m is. same m (inr is)) all.1,
)

-- a fact on the line of a key of the current checkpoint
module _ (current : Current) (letter : Letter) (c : Checkpoint) (is_current : current ≡ Some (letter, c)) (line : NodeLine) (member : IsMember line c.nodes) where
  found : line_of_key c.nodes line.key ≡ Some line
  found = line-here c.nodes line (do-ascend c.nodes c.is_checkpoint.nodes_are.octree.ascend) member

  pub line-there : HasLine current line.key
  line-there = subst (λ (w : Current). HasLine w line.key) (sym is_current) (has (line_of_key c.nodes line.key) found)
    where
      has : (o : Option NodeLine) → o ≡ Some line → IsSome o
      has o is = subst IsSome (sym is) refl

  found_current : current_line current line.key ≡ Some line
  found_current = ap (λ (w : Current). current_line w line.key) is_current ∙ found

  -- its tile is put under the other version
  free-other : free_letter current line.key ≡ other line.letter
  free-other = ap (λ (w : Current). free_letter w line.key) is_current ∙ ap free_of found

  counted-there : (points : List Point) → AreFound current line.key points → length points ≡ line.count
  counted-there points are = (at-line current line.key (letter, c) line (λ d l. AreOfLine (rules_of d.kept) l points) is_current found are).counted

  tile-there : layout_of c.version ≡ Old → (points : List Point) (files : Files) → HasTile current line.key points files → HasTileUnder Old (tile_of_line line) points files
  tile-there old points files has =
      subst (λ (layout : Layout). HasTileUnder layout (tile_of_line line) points files) old
      (at-line current line.key (letter, c) line (λ d l. HasTileUnder (layout_of d.version) (tile_of_line l) points files) is_current found has)

  -- where the current checkpoint is kept, its tile reads as before
  kept-tile : (start here : Files) → Keeps current start here → start (tile_of_line line) ≡ here (tile_of_line line)
  kept-tile start here keeps = sym (keeps.tiles (tile_of_line line) (line-named current line.key line found_current))

  kept-intact : (start here : Files) → Keeps current start here → ¬ IsDamaged current line.key here → ¬ IsDamaged current line.key start
  kept-intact start here keeps intact damaged =
      intact (damaged-before current line.key here start (λ l is. sym (keeps.tiles (tile_of_line l) (line-named current line.key l is))) damaged)

-- ---- the next line

module _ (start now new : View) (letter : Letter) (c : Checkpoint) (is_current : start.current ≡ Some (letter, c)) (old : layout_of c.version ≡ Old) (items : List NodeLine) (same : items ≡ c.nodes) (i : ℕ) (line : NodeLine) (inside : i < length items) (at : get_or items i line ≡ line) (first files mid after : Option Files) (far : IsTurnedTo start now items i first files) (keeps : StepsBy (Keeps start.current) first files) (load : StepsBy SameFiles files mid) (points : List Point) (are : AreFound now.current line.key points) (has : Tells (HasTile now.current line.key points) files) (whole : Tells (λ all. ¬ IsDamaged now.current line.key all) files)
    (noted : new ≡ record now { lines = with_line (record { key = line.key; count = length points; mask = line.mask; letter = free_letter now.current line.key }) now.lines }) (puts : StepsBy (Puts (work_tile_name (free_letter now.current line.key) line.key) (tile points)) mid after) where
  same_current : now.current ≡ start.current
  same_current = ap (λ (v : View). v.current) far.view_is

  now_current : now.current ≡ Some (letter, c)
  now_current = same_current ∙ is_current

  up : DoAscend items
  up = subst DoAscend (sym same) (do-ascend c.nodes c.is_checkpoint.nodes_are.octree.ascend)

  there : IsMember line c.nodes
  there = subst (IsMember line) same (member-at items i line inside at)

  free : free_letter now.current line.key ≡ other line.letter
  free = free-other now.current letter c now_current line there

  -- the line that is noted is the one before, turned
  its_line : (let l : NodeLine = record { key = line.key; count = length points; mask = line.mask; letter = free_letter now.current line.key } in l) ≡ turned line
  its_line =
      let count : length points ≡ line.count = counted-there now.current letter c now_current line there points are in
      λ i. let l : NodeLine = record { key = line.key; count = count i; mask = line.mask; letter = free i } in l

  view_is : new ≡ record start { lines = turned_to (i + 1) items }
  view_is =
      noted
      ∙ (ap (λ (l : NodeLine). record now { lines = with_line l now.lines }) its_line
      ∙ (ap (λ (v : View). record v { lines = with_line (turned line) v.lines }) far.view_is
      ∙ ap (λ (w : List NodeLine). record start { lines = w }) (turned-next items i line up inside at)))

  is_key : (l : NodeLine) → IsMember l c.nodes → IsKey l.key
  is_key l m = (all-member (IsNode (deepest c.kept.bounds c.kept.s c.kept.max_depth)) l c.nodes c.is_checkpoint.lines m).is_key

  -- what is put is no tile of the lines before
  apart : (l : NodeLine) → IsMember l (take i items) → tile_of_line (turned l) ≢ work_tile_name (free_letter now.current line.key) line.key
  apart l m is =
      let low : key_cmp l.key line.key ≡ Less = before-next items i line l up inside at m in
      let key : l.key ≡ line.key = tile-key (other l.letter) (free_letter now.current line.key) l.key line.key (is_key l (subst (IsMember l) same (first_of items i l m))) (is_key line there) is in
      let equal = ap (λ (k : VoxelKey). key_cmp k line.key) key ∙ key-self line.key in
      absurd (cc)

  module _ (all here then later : Files) (kept : Keeps start.current all here) (unchanged : SameFiles here then) (put : Puts (work_tile_name (free_letter now.current line.key) line.key) (tile points) then later) where
    name : List ℕ
    name = work_tile_name (free_letter now.current line.key) line.key

    others : (l : NodeLine) → IsMember l (take i items) → later (tile_of_line (turned l)) ≡ here (tile_of_line (turned l))
    others l m =
        put (tile_of_line (turned l))
        ∙ (changed_other then (work_tile_name (free_letter now.current line.key) line.key) (Some (tile points)) (tile_of_line (turned l)) (apart l m) ∙ unchanged (tile_of_line (turned l)))

    its_tile : later (tile_of_line (turned line)) ≡ Some (tile points)
    its_tile =
        subst (λ (w : Letter). later (work_tile_name w line.key) ≡ Some (tile points)) free
        (put (work_tile_name (free_letter now.current line.key) line.key) ∙ changed_same then (work_tile_name (free_letter now.current line.key) line.key) (Some (tile points)))

    this : HasTile now.current line.key points here → ¬ IsDamaged now.current line.key here → IsTurned start.current all later line
    this found intact = record {
      again = record {
        points = points;
        was = tile-same Old (tile_of_line line) (tile_of_line line) points here all (kept-tile start.current letter c is_current line there all here kept) (tile-there now.current letter c now_current line there old points here found);
        put = its_tile;
      };
      intact = kept-intact start.current letter c is_current line there all here kept (subst (λ (w : Current). ¬ IsDamaged w line.key here) same_current intact);
    }

    next_tiles : HasTile now.current line.key points here → ¬ IsDamaged now.current line.key here → AllByRecursion (IsTurned start.current all here) (take i items) → AllByRecursion (IsTurned start.current all later) (take (i + 1) items)
    next_tiles found intact before =
        subst (AllByRecursion (IsTurned start.current all later)) (take-next items i line inside at)
        (one_more (IsTurned start.current all later) (take i items) line (still_turned start.current all here later (take i items) others before) (this found intact))

  pub turned-more : IsTurnedTo start new items (i + 1) first after
  turned-more = record {
    view_is = view_is;
    tiles = λ all told. (
        let one = stepped (Keeps start.current) first files all told keeps in
        let two = stepped SameFiles files mid one.0 one.1 load in
        let three = stepped (Puts (work_tile_name (free_letter now.current line.key) line.key) (tile points)) mid after two.0 two.1 puts in
        tells_some (λ later. AllByRecursion (IsTurned start.current all later) (take (i + 1) items)) after three.0 three.1
        (next_tiles all one.0 two.0 three.0 one.2 two.2 three.2 (told_some (HasTile now.current line.key points) files one.0 one.1 has) (told_some (λ f. ¬ IsDamaged now.current line.key f) files one.0 one.1 whole)
        (told_some (λ here. AllByRecursion (IsTurned start.current all here) (take i items)) files one.0 one.1 (far.tiles all told))));
  }

-- ---- in the end

turned_again : (current : Current) (start now : Files) (lines : List NodeLine) → AllByRecursion (IsTurned current start now) lines → ArePutAgain start now lines
turned_again current start now [] all = tt
turned_again current start now (l ∷ lines) all = (all.0.again, turned_again current start now lines all.1)

turned_intact : (current : Current) (start now : Files) (lines : List NodeLine) → AllByRecursion (IsTurned current start now) lines → (l : NodeLine) → IsMember l lines → ¬ IsDamaged current l.key start
turned_intact current start now [] all l m = absurd m
turned_intact current start now (x ∷ lines) all l (inl is) = subst (λ (w : NodeLine). ¬ IsDamaged current w.key start) is all.0.intact
turned_intact current start now (x ∷ lines) all l (inr m) = turned_intact current start now lines all.1 l m

module _ (start now : View) (letter : Letter) (c : Checkpoint) (is_current : start.current ≡ Some (letter, c)) (items : List NodeLine) (same : items ≡ c.nodes) (i : ℕ) (end : length items ≤ i) (first files : Option Files) (far : IsTurnedTo start now items i first files) where
  pub end-lines : now ≡ record start { lines = map turned c.nodes }
  end-lines = far.view_is ∙ ap (λ (w : List NodeLine). record start { lines = w }) (turned-end items i end ∙ ap (map turned) same)

  all_of : (all : Files) → first ≡ Some all → Tells (λ here. AllByRecursion (IsTurned start.current all here) c.nodes) files
  all_of all told =
      subst (λ (w : List NodeLine). Tells (λ here. AllByRecursion (IsTurned start.current all here) w) files) (take_all i items end ∙ same) (far.tiles all told)

  pub end-again : (all : Files) → first ≡ Some all → Tells (λ here. ArePutAgain all here c.nodes) files
  end-again all told = more files (all_of all told)
    where
      more : (o : Option Files) → Tells (λ here. AllByRecursion (IsTurned start.current all here) c.nodes) o → Tells (λ here. ArePutAgain all here c.nodes) o
      more None is = tt
      more (Some here) is = turned_again start.current all here c.nodes is

  -- none of the tiles was damaged
  pub end-intact : (all here : Files) → first ≡ Some all → files ≡ Some here → HasNoDamage start.current all
  end-intact all here told now_told key has damaged =
      by_line (line_of_key c.nodes key) refl (subst (λ (w : Current). HasLine w key) is_current has)
    where
      by_line : (found : Option NodeLine) → line_of_key c.nodes key ≡ found → IsSome found → ⊥
      by_line None is none = absurd (false≢true none)
      by_line (Some l) is some =
          let turned_all = told_some (λ f. AllByRecursion (IsTurned start.current all f) c.nodes) files here now_told (all_of all told) in
          turned_intact start.current all here c.nodes turned_all l (line-stands c.nodes key l is)
          (subst (λ (k : VoxelKey). IsDamaged start.current k all) (sym (line-key c.nodes key l is)) damaged)

  pub end-undamaged : StepsBy (Keeps start.current) first files → Tells (HasNoDamage start.current) first
  end-undamaged keeps = at first refl
    where
      at : (o : Option Files) → first ≡ o → Tells (HasNoDamage start.current) o
      at None told = tt
      at (Some all) told = let here = stepped (Keeps start.current) first files all told keeps in end-intact all here.0 told here.1
