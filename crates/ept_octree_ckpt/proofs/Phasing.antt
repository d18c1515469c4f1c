-- An octree becomes the next checkpoint: why that is one, and how the files change.
use Rattle.std.proofs.Common.{◌≡◌, ◌∙◌, inl, inr, ⊎_elim, ℕ, zero, suc, ◌+◌, ◌<◌, ◌≤◌, ◌^◌, List, [], ◌∷◌, map, length, get_or, refl, sym, ap, subst, arith, Option, Some, None}
use Rattle.std.specs.Prelude.{All, false}
use Rattle.ept_base.specs.Files.{Files, Tells}
use Rattle.ept_base.specs.Moves.{Moves}
use Rattle.ept_base.proofs.Moving.{moves_weaker, moves_both}
use Rattle.ept_point.specs.declared.layout.Layout.TheVariants.{New}
use Rattle.ept_space.specs.VoxelKey.{VoxelKey, IsKey}
use Rattle.ept_space.specs.declared.cube.Rules.{Rules}
use Rattle.ept_config.specs.declared.kept.Kept.{Kept}
use Rattle.ept_config.specs.declared.source_count.SourceCount.{SourceCount}
use Rattle.ept_sample.specs.Members.{IsMember}
use Rattle.ept_sample.proofs.Members.{All-members}
use Rattle.ept_ckpt.specs.declared.letter.Letter.{Letter}
use Rattle.ept_ckpt.specs.declared.node_line.NodeLine.{NodeLine}
use Rattle.ept_ckpt.specs.declared.checkpoint.Checkpoint.{Checkpoint}
use Rattle.ept_ckpt.specs.declared.version.BodyVersion.{BodyVersion}
use Rattle.ept_ckpt.specs.declared.version.BodyVersion.TheVariants.{V1, V2, V3}
use Rattle.ept_ckpt.specs.Versions.{spare_of}
use Rattle.ept_ckpt.specs.Facts.{facts}
use Rattle.ept_ckpt.specs.Laws.{CheckpointByFacts}
use Rattle.ept_ckpt.specs.Octree.{AreNodesOf}
use Rattle.ept_ckpt.specs.Valid.{IsCheckpoint, IsNode, deepest}
use Rattle.ept_meta.specs.Output.{rules_of}
use Rattle.ept_save.specs.Current.{Current, HasCurrent, IsNamed, IsNow, Keeps, Commits, tile_of_line}
use Rattle.ept_save.specs.View.{View, StandsFor, next_letter, next_generation, next_facts}
use Rattle.ept_save.proofs.Keeping.{keeps-both}
use Rattle.ept_save.proofs.Moving.{moves_where}
use Rattle.ept_save.proofs.Standing.{told_some, tells_some, in-images}
use Rattle.ept_table.specs.Octree.{Branch, AreNodes, entry_of, points_in, AreWhole}
use Rattle.ept_octree_ckpt.specs.Lines.{TellNodes, NameTiles}
use Rattle.ept_octree_ckpt.specs.LinesLaws.{WholeIsTold}
use Rattle.ept_octree_ckpt.specs.Loaded.{OfCurrent}
use Rattle.ept_octree_ckpt.specs.Phase.{AreGiven, GoesFurther, IsNext, HasNext, GoesOn, IsSaved}
use Rattle.ept_octree_ckpt.specs.Saving.{StillAreSame, AreKnown}
use Rattle.ept_octree_ckpt.proofs.Telling.{line-node}
use Rattle.ept_octree_ckpt.proofs.Lining.{some-same}
use Rattle.ept_octree_ckpt.proofs.Stillness.{still-same}

-- ---- the next checkpoint

generation_least : (current : Current) → 1 ≤ next_generation current
generation_least None = omega arith
generation_least (Some (letter, c)) = omega arith

spare_few : (version : BodyVersion) → spare_of version ≤ 1
spare_few V1 = omega arith
spare_few V2 = omega arith
spare_few V3 = omega arith

generation_most : (current : Current) (kept : Kept) (inserted : ℕ) → GoesFurther current inserted (length kept.inputs) → next_generation current ≤ inserted + length kept.inputs + 1
generation_most None kept inserted further = omega (arith, kept.layout.inputs_some)
generation_most (Some (letter, c)) kept inserted further = omega (arith, further, c.is_checkpoint.generation_most, spare_few c.version)

pub length-told : (nodes : List Branch) (lines : List NodeLine) → TellNodes nodes lines → length lines ≡ length nodes
length-told [] [] told = refl
length-told [] (l ∷ ls) told = absurd told
length-told (b ∷ bs) [] told = absurd told
length-told (b ∷ bs) (l ∷ ls) told = let more = length-told bs ls told.1 in omega (arith, more)

-- the lines describe nodes that are no deeper than may be
are_lines : (kept : Kept) (nodes : List Branch) (lines : List NodeLine) → TellNodes nodes lines → AreKnown nodes → AreNodes (rules_of kept) nodes → All (IsNode (deepest kept.bounds kept.s kept.max_depth)) lines
are_lines kept nodes lines told known own = All-members (IsNode (deepest kept.bounds kept.s kept.max_depth)) lines (λ l m.
    let b = line-node nodes lines l told m in
    let it = known b.0 b.1 in
    let its = own b.0 b.1 in
    record {
      is_key = subst IsKey (sym b.2.key) it.0;
      depth_most =
          let depth : l.key.depth ≡ b.0.1.key.depth = ap (λ (k : VoxelKey). k.depth) (b.2.key ∙ sym its.0) in
          let most : b.0.1.key.depth ≤ deepest kept.bounds kept.s kept.max_depth = subst (λ (r : _). b.0.1.key.depth ≤ r.cube.depth) its.1 it.1 in
          omega (arith, depth, most);
    })

pub next-valid : (current : Current) (kept : Kept) (counts : List SourceCount) (inserted : ℕ) (nodes : List Branch) (lines : List NodeLine) → AreGiven kept counts inserted → GoesFurther current inserted (length kept.inputs) → length nodes < 2 ^ 32 → TellNodes nodes lines → AreKnown nodes → AreNodes (rules_of kept) nodes
    → AreNodesOf inserted lines → IsCheckpoint V3 (next_generation current) kept counts inserted lines
next-valid current kept counts inserted nodes lines given further few told known own are = record {
  each = given.each;
  few = λ k d inside. (given.counted k d inside).few;
  plain = λ other. absurd (other refl);
  counted = given.counted;
  extents = given.extents;
  inserted_most = given.inserted_most;
  generation_least = generation_least current;
  generation_most = generation_most current kept inserted further;
  nodes_few = omega (arith, few, length-told nodes lines told);
  lines = are_lines kept nodes lines told known own;
  nodes_are = are;
}

module _ (by_facts : CheckpointByFacts) (view : View) (kept : Kept) (counts : List SourceCount) (inserted : ℕ) (nodes : List Branch) (valid : IsCheckpoint V3 (next_generation view.current) kept counts inserted view.lines) (told : TellNodes nodes view.lines) where
  abbrev pub the-next : Checkpoint
  the-next = record {
    version = V3;
    generation = next_generation view.current;
    kept = kept;
    counts = counts;
    inserted = inserted;
    nodes = view.lines;
    is_checkpoint = valid;
  }

  pub its-facts : facts the-next ≡ next_facts view kept counts inserted
  its-facts = refl

  is-the-next : IsNext view kept counts inserted nodes the-next
  is-the-next = record { generation = refl; kept_is = refl; counts_are = refl; inserted_is = refl; told = told; newest = refl }

  pub next-is : (next : Checkpoint) → facts next ≡ next_facts view kept counts inserted → (next ≡ the-next) × IsNext view kept counts inserted nodes next
  next-is next are =
      let same : next ≡ the-next = by_facts next the-next are in
      (same, subst (IsNext view kept counts inserted nodes) (sym same) is-the-next)

-- ---- how the files change

pub named_tiles : (start now : Files) (nodes : List Branch) (lines : List NodeLine) → ((l : NodeLine) → IsMember l lines → now (tile_of_line l) ≡ start (tile_of_line l)) → NameTiles New start nodes lines → NameTiles New now nodes lines
named_tiles start now [] [] same names = tt
named_tiles start now [] (l ∷ ls) same names = absurd names
named_tiles start now (b ∷ bs) [] same names = absurd names
named_tiles start now (b ∷ bs) (l ∷ ls) same names = (same l (inl refl) ∙ names.0, named_tiles start now bs ls (λ m i. same m (inr i)) names.1)

any_at : (lines : List NodeLine) (l : NodeLine) → IsMember l lines → (k : ℕ) × (k < length lines) × (get_or lines k l ≡ l)
any_at [] l m = absurd m
any_at (x ∷ xs) l (inl is) = (zero, omega arith, is)
any_at (x ∷ xs) l (inr m) = let at = any_at xs l m in (suc at.0, omega (arith, at.1), at.2)

line_named : (letter : Letter) (next : Checkpoint) (l : NodeLine) → IsMember l next.nodes → IsNamed (Some (letter, next)) (tile_of_line l)
line_named letter next l m = let at = any_at next.nodes l m in (at.0, l, at.1, at.2, refl)

module _ (view : View) (kept : Kept) (counts : List SourceCount) (inserted : ℕ) (nodes : List Branch) where
  pub keeps-on : (old new : Files) → Keeps view.current old new → GoesOn view kept counts inserted nodes old new
  keeps-on old new keeps = record { either = inl keeps; apart = keeps.apart }

  pub behind-on : (a b c : Files) → Keeps view.current a b → GoesOn view kept counts inserted nodes b c → GoesOn view kept counts inserted nodes a c
  behind-on a b c keeps on = record {
    either = ⊎_elim (λ kept. inl (keeps-both view.current a b c keeps kept)) (λ has. inr (behind has)) on.either;
    apart = λ name apart. on.apart name apart ∙ keeps.apart name apart;
  }
    where
      behind : HasNext view kept counts inserted nodes b c → HasNext view kept counts inserted nodes a c
      behind has = record {
        next = has.next;
        is_next = has.is_next;
        is_current = has.is_current;
        tiles = λ still. has.tiles (still-same view.current nodes a b (λ line named. keeps.tiles (tile_of_line line) named) still);
      }

  -- the tiles that the current checkpoint names are those of the start
  abbrev pub HasNamed : Files → Files → Type 0
  HasNamed start files = (name : List ℕ) → IsNamed view.current name → files name ≡ start name

  pub commits-on : (next : Checkpoint) (start a b : Files) → IsNext view kept counts inserted nodes next → (StillAreSame view.current nodes start → NameTiles New start nodes next.nodes) → HasNamed start a → Commits view.current (next_letter view.current) next start a b → GoesOn view kept counts inserted nodes a b
  commits-on next start a b is_next names named commits = record { either = ⊎_elim (λ keeps. inl keeps) (λ now. inr (has now)) commits.either; apart = commits.apart }
    where
      has : IsNow (next_letter view.current) next start b → HasNext view kept counts inserted nodes a b
      has now = record {
        next = next;
        is_next = is_next;
        is_current = now.is_current;
        tiles = λ still.
            named_tiles start b nodes next.nodes (λ l m. now.tiles (tile_of_line l) (line_named (next_letter view.current) next l m))
            (names (still-same view.current nodes a start (λ line is. sym (named (tile_of_line line) is)) still));
      }

-- ---- a whole phase

-- the nodes of a whole octree that were saved are those of a next checkpoint
pub tree-valid : WholeIsTold → (view : View) (rules : Rules) (kept : Kept) (counts : List SourceCount) (inserted : ℕ) (nodes : List Branch) → AreGiven kept counts inserted → GoesFurther view.current inserted (length kept.inputs) → length nodes < 2 ^ 32 → TellNodes nodes view.lines → AreKnown nodes
    → AreNodes rules nodes → rules ≡ rules_of kept → AreWhole (map entry_of nodes) → length (points_in nodes) ≡ inserted → IsCheckpoint V3 (next_generation view.current) kept counts inserted view.lines
tree-valid law view rules kept counts inserted nodes given further few told known own is whole holds =
    next-valid view.current kept counts inserted nodes view.lines given further few told known (subst (λ (r : Rules). AreNodes r nodes) is own)
    (subst (λ (n : ℕ). AreNodesOf n view.lines) holds (law nodes view.lines told whole))

-- what a store represents is the current checkpoint of what it reads
pub stands-current : (view : View) (files : Option Files) (may_leave : Files → Type 0) (all : Files) → StandsFor view files may_leave → files ≡ Some all → HasCurrent view.current all
stands-current view files may_leave all stands told =
    subst (HasCurrent view.current) (some-same stands.all all (sym stands.told ∙ told)) stands.has_current

module _ (by_facts : CheckpointByFacts) (start view : View) (same : view.current ≡ start.current) (kept : Kept) (counts : List SourceCount) (inserted : ℕ) (nodes : List Branch) (valid : IsCheckpoint V3 (next_generation view.current) kept counts inserted view.lines) (told : TellNodes nodes view.lines) where
  abbrev its : Checkpoint
  its = the-next by_facts view kept counts inserted nodes valid told

  from_start : (next : Checkpoint) → IsNext view kept counts inserted nodes next → IsNext start kept counts inserted nodes next
  from_start next is = record {
    generation = is.generation ∙ ap next_generation same;
    kept_is = is.kept_is;
    counts_are = is.counts_are;
    inserted_is = is.inserted_is;
    told = is.told;
    newest = is.newest;
  }

  pub is-saved : (new : View) → ((next : Checkpoint) × (facts next ≡ next_facts view kept counts inserted) × (new ≡ record view { current = Some (next_letter view.current, next); begun = false })) → IsSaved start new kept counts inserted nodes
  is-saved new committed =
      let next : Checkpoint = committed.0 in
      let is = next-is by_facts view kept counts inserted nodes valid told next committed.1 in
      record {
        next = next;
        is_next = from_start next is.1;
        view_is = committed.2
            ∙ (ap (λ (current : Current). let v : View = record { current = Some (next_letter current, next); lines = view.lines; begun = false } in v) same
            ∙ ap (λ (lines : List NodeLine). let v : View = record { current = Some (next_letter start.current, next); lines = lines; begun = false } in v) (sym (ap (λ (c : Checkpoint). c.nodes) is.0)));
      }

  -- and it names the tiles that the lines named
  pub names-saved : (new : View) → ((next : Checkpoint) × (facts next ≡ next_facts view kept counts inserted) × (new ≡ record view { current = Some (next_letter view.current, next); begun = false })) → (files : Option Files) → Tells (λ all. NameTiles New all nodes view.lines) files
      → Tells (λ all. OfCurrent new.current (λ (c : Checkpoint). NameTiles New all nodes c.nodes)) files
  names-saved new committed files tiles =
      let next : Checkpoint = committed.0 in
      let is = next-is by_facts view kept counts inserted nodes valid told next committed.1 in
      subst (λ (current : Current). Tells (λ all. OfCurrent current (λ (c : Checkpoint). NameTiles New all nodes c.nodes)) files) (sym (ap (λ (v : View). v.current) committed.2))
      (subst (λ (c : Checkpoint). Tells (λ all. NameTiles New all nodes c.nodes) files) (sym is.0) tiles)

  module _ {D : Type 0} (files : D → Option Files) (may_leave : D → Files → Type 0) (moment : D → ℕ) (image_since : D → ℕ → Files → Type 0) where
    pub goes-all : (old mid new : D) → Moves files may_leave moment image_since (Keeps start.current) old mid → (stands : StandsFor view (files mid) (may_leave mid)) → (StillAreSame start.current nodes stands.all → Tells (λ all. NameTiles New all nodes view.lines) (files mid))
        → ((next : Checkpoint) → facts next ≡ next_facts view kept counts inserted → (at : StandsFor view (files mid) (may_leave mid)) → Moves files may_leave moment image_since (Commits view.current (next_letter view.current) next at.all) mid new)
        → Moves files may_leave moment image_since (GoesOn start kept counts inserted nodes) old new
    goes-all old mid new keeps stands tiles commits =
        let is = next-is by_facts view kept counts inserted nodes valid told its (its-facts by_facts view kept counts inserted nodes valid told) in
        let names : StillAreSame start.current nodes stands.all → NameTiles New stands.all nodes its.nodes = λ still. told_some (λ all. NameTiles New all nodes view.lines) (files mid) stands.all stands.told (tiles still) in
        let moved = commits its (its-facts by_facts view kept counts inserted nodes valid told) stands in
        let images = in-images view (files mid) (may_leave mid) stands in
        moves_both files may_leave moment image_since (Keeps start.current) (GoesOn start kept counts inserted nodes) (GoesOn start kept counts inserted nodes)
        (λ a b c k on. behind-on start kept counts inserted nodes a b c k on)
        (keeps-on start kept counts inserted nodes) old mid new keeps
        (moves_where files may_leave moment image_since (HasNamed start kept counts inserted nodes stands.all) (Commits start.current (next_letter start.current) its stands.all) (GoesOn start kept counts inserted nodes)
        (λ b c named m. commits-on start kept counts inserted nodes its stands.all b c (from_start its is.1) names named m) mid new
        (tells_some (HasNamed start kept counts inserted nodes stands.all) (files mid) stands.all stands.told (λ name named. refl))
        (λ image may. subst (λ (current : Current). (name : List ℕ) → IsNamed current name → image name ≡ stands.all name) same (images.tiles image may))
        (subst (λ (current : Current). Moves files may_leave moment image_since (Commits current (next_letter current) its stands.all) mid new) same moved))

module _ {D : Type 0} (files : D → Option Files) (may_leave : D → Files → Type 0) (moment : D → ℕ) (image_since : D → ℕ → Files → Type 0) (start : View) (kept : Kept) (counts : List SourceCount) (inserted : ℕ) (nodes : List Branch) where
  -- the current checkpoint is kept
  pub keeps-goes : (old new : D) → Moves files may_leave moment image_since (Keeps start.current) old new → Moves files may_leave moment image_since (GoesOn start kept counts inserted nodes) old new
  keeps-goes old new = moves_weaker files may_leave moment image_since (Keeps start.current) (GoesOn start kept counts inserted nodes) (keeps-on start kept counts inserted nodes) old new
