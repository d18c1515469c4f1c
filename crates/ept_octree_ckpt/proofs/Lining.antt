-- The lines of the current checkpoint one after another, and entries that are put after those before them.
use Rattle.std.proofs.Common.{◌≡◌, ◌∙◌, inl, inr, ℕ, zero, suc, ◌<◌, ◌≤◌, List, [], ◌∷◌, ◌++◌, take, length, get_or, refl, sym, ap, subst, arith, Option, Some, None, Ordering}
use Rattle.std.specs.Prelude.{IsSome}
use Rattle.std.specs.List.{AllZip}
use Rattle.std.specs.Option.{option_map}
use Rattle.std.specs.BTreeMap.{insert_entry}
use Rattle.std.specs.declared.cmp.Ordering.TheVariants.{Less, Greater}
use Rattle.std.specs.Ordering.{match_ordering, ordering_reverse}
use Rattle.ept_base.specs.Files.{Files, SameFiles, StepsBy, Tells}
use Rattle.ept_point.specs.declared.point.Point.{Point}
use Rattle.ept_ckpt.specs.Versions.{layout_of}
use Rattle.ept_space.specs.VoxelKey.{VoxelKey, key_cmp}
use Rattle.ept_space.proofs.KeyOrder.{key_cmp_total}
use Rattle.ept_sample.specs.Members.{IsMember}
use Rattle.ept_sample.proofs.Members.{all-member}
use Rattle.ept_ckpt.specs.declared.letter.Letter.{Letter}
use Rattle.ept_ckpt.specs.declared.node_line.NodeLine.{NodeLine}
use Rattle.ept_ckpt.specs.declared.checkpoint.Checkpoint.{Checkpoint}
use Rattle.ept_ckpt.specs.Valid.{IsNode, deepest}
use Rattle.ept_ckpt.specs.Lookup.{line_of_key}
use Rattle.ept_meta.specs.Output.{rules_of}
use Rattle.ept_save.specs.Current.{Current, tile_of_line}
use Rattle.ept_save.specs.Loading.{HasLine, AreFound, HasTile, AreOfLine}
use Rattle.ept_save.specs.Tiles.{HasTileUnder}
use Rattle.ept_save.proofs.LoadedLines.{at-line}
use Rattle.ept_save.proofs.KeyLines.{DoAscend, do-ascend, line-here, before-next}
use Rattle.ept_table.specs.Octree.{Branch}
use Rattle.ept_octree_ckpt.specs.LinesLaws.{HaveKeys}
use Rattle.ept_octree_ckpt.specs.Lines.{TellNodes}
use Rattle.ept_octree_ckpt.proofs.Telling.{node-line}

-- ---- pairs, and files that are known

pub zip-more : {A B : Type 0} (R : A → B → Type 0) (xs : List A) (ys : List B) (x : A) (y : B) → AllZip R xs ys → R x y → AllZip R (xs ++ x ∷ []) (ys ++ y ∷ [])
zip-more R [] [] x y all r = (r, tt)
zip-more R [] (b ∷ bs) x y all r = absurd all
zip-more R (a ∷ rest) [] x y all r = absurd all
zip-more R (a ∷ rest) (b ∷ bs) x y all r = (all.0, zip-more R rest bs x y all.1 r)

pub tells-both : (one other both : Files → Type 0) → ((all : Files) → one all → other all → both all) → (files : Option Files) → Tells one files → Tells other files → Tells both files
tells-both one other both makes None a b = tt
tells-both one other both makes (Some all) a b = makes all a b

-- what is known of the files as they are holds of them as they were, where they are the same
pub tells-back : (was is : Files → Type 0) → ((old new : Files) → SameFiles old new → is new → was old) → (old new : Option Files) → StepsBy SameFiles old new → Tells is new → Tells was old
tells-back was is back None None same told = tt
tells-back was is back None (Some new) same told = absurd same
tells-back was is back (Some old) None same told = absurd same
tells-back was is back (Some old) (Some new) same told = back old new same told

-- ---- an entry after all others

turned : (a b : VoxelKey) → key_cmp a b ≡ Less → key_cmp b a ≡ Greater
turned a b is = key_cmp_total.antisymm b a ∙ ap ordering_reverse is

pub insert-last : {X : Type 0} (entries : List (VoxelKey × X)) (key : VoxelKey) (x : X) → ((e : VoxelKey × X) → IsMember e entries → key_cmp e.0 key ≡ Less) → insert_entry key_cmp entries key x ≡ entries ++ (key, x) ∷ []
insert-last [] key x low = refl
insert-last {X} (e ∷ es) key x low =
    ap (λ (o : Ordering). match_ordering o ((key, x) ∷ e ∷ es) ((e.0, x) ∷ es) (e ∷ insert_entry key_cmp es key x)) (turned e.0 key (low e (inl refl)))
    ∙ ap (λ (w : List (VoxelKey × X)). e ∷ w) (insert-last es key x (λ d m. low d (inr m)))

-- ---- the next node

abbrev value_or : {X : Type 0} → X → Option X → X
value_or x None = x
value_or x (Some y) = y

pub some-same : {X : Type 0} (a b : X) → Some a ≡ Some b → a ≡ b
some-same a b is = ap (value_or a) is

pub at-current : (current : Current) (c : Checkpoint) → option_map (λ (at : Letter × Checkpoint). at.1) current ≡ Some c → (at : Letter × Checkpoint) × (current ≡ Some at) × (at.1 ≡ c)
at-current None c is = absurd (cc)
at-current (Some at) c is = (at, refl, some-same at.1 c is)

module _ (current : Current) (c : Checkpoint) (is_current : option_map (λ (at : Letter × Checkpoint). at.1) current ≡ Some c) where
  abbrev lines : List NodeLine
  lines = c.nodes

  up : DoAscend lines
  up = do-ascend lines c.is_checkpoint.nodes_are.octree.ascend

  found : (line : NodeLine) → IsMember line lines → line_of_key lines line.key ≡ Some line
  found line m = line-here lines line up m

  -- the current checkpoint has a line of the key of each of its lines
  pub line-there : (line : NodeLine) → IsMember line lines → HasLine current line.key
  line-there line m =
      let at = at-current current c is_current in
      subst (λ (w : Current). HasLine w line.key) (sym at.1)
      (subst (λ (o : Option NodeLine). IsSome o) (sym (ap (λ (d : Checkpoint). line_of_key d.nodes line.key) at.2 ∙ found line m)) refl)

  -- and that is no deeper than may be
  pub line-depth : (line : NodeLine) → IsMember line lines → line.key.depth ≤ (rules_of c.kept).cube.depth
  line-depth line m = (all-member (IsNode (deepest c.kept.bounds c.kept.s c.kept.max_depth)) line lines c.is_checkpoint.lines m).depth_most

  module _ (line : NodeLine) (m : IsMember line lines) (points : List Point) where
    abbrev at : (at : Letter × Checkpoint) × (current ≡ Some at) × (at.1 ≡ c)
    at = at-current current c is_current

    found_at : line_of_key at.0.1.nodes line.key ≡ Some line
    found_at = ap (λ (d : Checkpoint). line_of_key d.nodes line.key) at.2 ∙ found line m

    pub next-are : AreFound current line.key points → AreOfLine (rules_of c.kept) line points
    next-are are = subst (λ (d : Checkpoint). AreOfLine (rules_of d.kept) line points) at.2 (at-line current line.key at.0 line (λ d l. AreOfLine (rules_of d.kept) l points) at.1 found_at are)

    pub next-tile : (files : Files) → HasTile current line.key points files → HasTileUnder (layout_of c.version) (tile_of_line line) points files
    next-tile files has =
        subst (λ (d : Checkpoint). HasTileUnder (layout_of d.version) (tile_of_line line) points files) at.2 (at-line current line.key at.0 line (λ d l. HasTileUnder (layout_of d.version) (tile_of_line l) points files) at.1 found_at has)

-- the entries before are those of earlier lines, so the next one comes after them
pub entries-low : (entries : List Branch) (lines : List NodeLine) (i : ℕ) (line : NodeLine) → DoAscend lines → i < length lines → get_or lines i line ≡ line → TellNodes entries (take i lines) → (e : Branch) → IsMember e entries → key_cmp e.0 line.key ≡ Less
entries-low entries lines i line up inside is told e m =
    let l = node-line entries (take i lines) e told m in
    ap (λ (k : VoxelKey). key_cmp k line.key) (sym l.2.key) ∙ before-next lines i line l.0 up inside is l.1

-- if the files are known, so is what follows
pub tells-more : (one other : Files → Type 0) → ((all : Files) → one all → other all) → (files : Option Files) → Tells one files → Tells other files
tells-more one other makes None a = tt
tells-more one other makes (Some all) a = makes all a

-- the keys of a checkpoint's lines are keys
pub have-keys : (c : Checkpoint) → HaveKeys c.nodes
have-keys c = λ k line inside. (c.is_checkpoint.lines k line inside).is_key

-- nodes that some first lines describe are fewer than all lines
pub told-few : (nodes : List Branch) (lines : List NodeLine) (i : ℕ) → i < length lines → TellNodes nodes (take i lines) → length nodes < length lines
told-few [] (l ∷ ls) zero inside told = omega arith
told-few (b ∷ bs) (l ∷ ls) zero inside told = absurd told
told-few [] (l ∷ ls) (suc i) inside told = omega arith
told-few (b ∷ bs) (l ∷ ls) (suc i) inside told = let fewer = told-few bs ls i (omega (arith, inside)) told.1 in omega (arith, fewer)
told-few nodes [] i inside told = absurd (omega (arith, inside))
