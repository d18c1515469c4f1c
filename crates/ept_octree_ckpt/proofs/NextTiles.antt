-- The tiles that the next checkpoint names: those of its nodes, and where these are a sampling's, not damaged.
use Rattle.std.proofs.Common.{◌≡◌, ◌≢◌, inl, inr, ℕ, List, [], ◌∷◌, refl, sym, ap, subst, Option, Some, None}
use Rattle.std.specs.Prelude.{IsSomeAnd}
use Rattle.ept_base.specs.Files.{Files, StepsBy, Tells}
use Rattle.ept_point.specs.declared.layout.Layout.{Layout}
use Rattle.ept_point.specs.declared.layout.Layout.TheVariants.{New}
use Rattle.ept_point.specs.declared.point.Point.{Point}
use Rattle.ept_point.specs.Laws.{ReadInOneWay}
use Rattle.ept_point.specs.Order.{IsAscending}
use Rattle.ept_space.specs.declared.cube.Rules.{Rules}
use Rattle.ept_space.specs.VoxelKey.{VoxelKey}
use Rattle.ept_config.specs.declared.kept.Kept.{Kept}
use Rattle.ept_config.specs.declared.source_count.SourceCount.{SourceCount}
use Rattle.ept_sample.specs.Members.{IsMember}
use Rattle.ept_sample.specs.Sampling.{sampling}
use Rattle.ept_sample.specs.SamplingLaws.{CanBeSampled}
use Rattle.ept_sample.proofs.IdLaws.{IsAscending-IsRising}
use Rattle.ept_sample.proofs.SamplingLaws.{IsRising-sampling}
use Rattle.ept_grid.specs.Tile.{IsTile}
use Rattle.ept_ckpt.specs.declared.letter.Letter.{Letter}
use Rattle.ept_ckpt.specs.declared.node_line.NodeLine.{NodeLine}
use Rattle.ept_ckpt.specs.declared.checkpoint.Checkpoint.{Checkpoint}
use Rattle.ept_ckpt.specs.Versions.{layout_of}
use Rattle.ept_ckpt.specs.Lookup.{line_of_key}
use Rattle.ept_meta.specs.Output.{rules_of}
use Rattle.ept_save.specs.Names.{gate_name, body_name}
use Rattle.ept_save.specs.Current.{Current, tile_of_line}
use Rattle.ept_save.specs.Loading.{AreOfLine, IsDamagedLine, HasNoDamage}
use Rattle.ept_save.specs.View.{View, next_letter}
use Rattle.ept_save.proofs.LoadedLines.{not-damaged-line}
use Rattle.ept_save.proofs.NamesDiffer.{gate-tile, body-tile}
use Rattle.ept_table.specs.Octree.{Branch, AreSampled}
use Rattle.ept_octree.proofs.Sampled.{node-points}
use Rattle.ept_octree_ckpt.specs.Lines.{TellsNode, TellNodes, NamesTile, NameTiles}
use Rattle.ept_octree_ckpt.specs.Loaded.{OfCurrent}
use Rattle.ept_octree_ckpt.specs.Phase.{IsSaved}
use Rattle.ept_octree_ckpt.specs.Saving.{AreKnown}
use Rattle.ept_octree_ckpt.proofs.Lining.{tells-more}
use Rattle.ept_octree_ckpt.proofs.Phasing.{named_tiles}
use Rattle.ept_save.proofs.SampledTiles.{sampled-IsTile}
use Rattle.ept_save.proofs.DamagedTiles.{line-stands}

-- a commit puts no tile
pub still-named : (letter : Letter) (nodes : List Branch) (lines : List NodeLine) (old new : Option Files) → StepsBy (λ (a : Files) (b : Files). (name : List ℕ) → name ≢ body_name letter → name ≢ gate_name letter → b name ≡ a name) old new → Tells (λ all. NameTiles New all nodes lines) old → Tells (λ all. NameTiles New all nodes lines) new
still-named letter nodes lines None None same names = tt
still-named letter nodes lines None (Some b) same names = absurd same
still-named letter nodes lines (Some a) None same names = absurd same
still-named letter nodes lines (Some a) (Some b) same names =
    named_tiles a b nodes lines (λ l m. same (tile_of_line l) (λ e. body-tile letter l.letter l.key (sym e)) (λ e. gate-tile letter l.letter l.key (sym e))) names

-- ---- the node of a line

both-at : (files : Files) (nodes : List Branch) (lines : List NodeLine) (line : NodeLine) → TellNodes nodes lines → NameTiles New files nodes lines → IsMember line lines → (b : Branch) × IsMember b nodes × TellsNode b line × NamesTile New files b line
both-at files [] [] line told names m = absurd m
both-at files [] (l ∷ ls) line told names m = absurd told
both-at files (b ∷ bs) [] line told names m = absurd told
both-at files (b ∷ bs) (l ∷ ls) line told names (inl is) =
    (b, inl refl, subst (λ (x : NodeLine). TellsNode b x) is told.0, subst (λ (x : NodeLine). NamesTile New files b x) is names.0)
both-at files (b ∷ bs) (l ∷ ls) line told names (inr m) =
    let more = both-at files bs ls line told.1 names.1 m in
    (more.0, inr more.1, more.2, more.3)

-- ---- the nodes of a sampling

module _ (once : ReadInOneWay) (rules : Rules) (points : List Point) (can : CanBeSampled rules points) (nodes : List Branch) (are : AreSampled rules points nodes) (known : AreKnown nodes) where
  are_of_line : (b : Branch) (line : NodeLine) → IsMember b nodes → TellsNode b line → AreOfLine rules line b.1.points
  are_of_line b line m told =
      let here : List Point = sampling rules points b.0 in
      let points_are : b.1.points ≡ here = node-points rules points nodes b are m in
      let rises : IsAscending here = IsAscending-IsRising here (IsRising-sampling rules points b.0 can.distinct) in
      let fits : IsTile b.0 rules b.1.mask here = sampled-IsTile rules points can b.0 b.1.mask (known b m).2 (λ o low. are.opens b o m low) in
      let fits_line : IsTile line.key rules line.mask here =
      subst (λ (k : VoxelKey). IsTile k rules line.mask here) (sym told.key) (subst (λ (n : ℕ). IsTile b.0 rules n here) (sym told.mask) fits) in
      record {
        counted = sym told.count;
        ascend = subst (λ (w : List Point). IsAscending w) (sym points_are) rises;
        fits = subst (λ (w : List Point). IsTile line.key rules line.mask w) (sym points_are) fits_line;
      }

  line_intact : (files : Files) (lines : List NodeLine) (line : NodeLine) → TellNodes nodes lines → NameTiles New files nodes lines → IsMember line lines → ¬ IsDamagedLine New rules line files
  line_intact files lines line told names m =
      let at = both-at files nodes lines line told names m in
      not-damaged-line once New rules line at.0.1.points files (are_of_line at.0 line at.1 at.2) at.3

  next_undamaged : (files : Files) (letter : Letter) (next : Checkpoint) → rules_of next.kept ≡ rules → layout_of next.version ≡ New → TellNodes nodes next.nodes → NameTiles New files nodes next.nodes → HasNoDamage (Some (letter, next)) files
  next_undamaged files letter next same newest told names key has damaged = at (line_of_key next.nodes key) refl damaged
    where
      at : (found : Option NodeLine) → line_of_key next.nodes key ≡ found → IsSomeAnd found (λ line. IsDamagedLine (layout_of next.version) (rules_of next.kept) line files) → ⊥
      at None found is = is
      at (Some line) found is =
          line_intact files next.nodes line told names (line-stands next.nodes key line found) (subst (λ (r : Rules). IsDamagedLine New r line files) same (subst (λ (w : Layout). IsDamagedLine w (rules_of next.kept) line files) newest is))

-- of a sampling that was saved, no tile that the checkpoint names is damaged
pub saved-undamaged : ReadInOneWay → (start new : View) (kept : Kept) (counts : List SourceCount) (inserted : ℕ) (nodes : List Branch) (points : List Point) → CanBeSampled (rules_of kept) points → AreSampled (rules_of kept) points nodes → AreKnown nodes → (files : Option Files) → IsSaved start new kept counts inserted nodes
    → Tells (λ all. OfCurrent new.current (λ (c : Checkpoint). NameTiles New all nodes c.nodes)) files → Tells (HasNoDamage new.current) files
saved-undamaged once start new kept counts inserted nodes points can are known files saved tiles =
    let next : Checkpoint = saved.next in
    let letter : Letter = next_letter start.current in
    let is : new.current ≡ Some (letter, next) = ap (λ (v : View). v.current) saved.view_is in
    let names : Tells (λ all. NameTiles New all nodes next.nodes) files =
    subst (λ (current : Current). Tells (λ all. OfCurrent current (λ (c : Checkpoint). NameTiles New all nodes c.nodes)) files) is tiles in
    subst (λ (current : Current). Tells (HasNoDamage current) files) (sym is)
    (tells-more (λ all. NameTiles New all nodes next.nodes) (HasNoDamage (Some (letter, next)))
    (λ all named. next_undamaged once (rules_of kept) points can nodes are known all letter next (ap (λ (k : Kept). rules_of k) saved.is_next.kept_is) saved.is_next.newest saved.is_next.told named) files names)
