-- Sound files stay sound while the nodes of sound parts are put and committed.
use Rattle.std.proofs.Common.{◌≡◌, ◌∙◌, ℕ, ◌<◌, List, refl, sym, ap, subst, length, Option, Some, None}
use Rattle.std.specs.List.{AllZip}
use Rattle.ept_base.specs.Files.{Files}
use Rattle.ept_base.specs.Moves.{Moves, IsSettled}
use Rattle.ept_point.specs.declared.layout.Layout.TheVariants.{New}
use Rattle.ept_point.specs.declared.point.Point.{Point}
use Rattle.ept_space.specs.declared.bounds.Bounds.{Bounds}
use Rattle.ept_space.specs.declared.cube.Rules.{Rules}
use Rattle.ept_sample.specs.Ids.{HasDistinctIds, in_id_order}
use Rattle.ept_sample.specs.Nodes.{sampled}
use Rattle.ept_sample.specs.SamplingLaws.{CanBeSampled}
use Rattle.ept_sample.proofs.Members.{all-member}
use Rattle.ept_config.specs.declared.config.Config.{Config}
use Rattle.ept_config.specs.Counts.{IsCountOf}
use Rattle.ept_config.specs.Extents.{HasExtent}
use Rattle.ept_scan.specs.Scans.{in_order}
use Rattle.ept_grid.specs.Mask.{opened}
use Rattle.ept_ckpt.specs.declared.node_line.NodeLine.{NodeLine}
use Rattle.ept_ckpt.specs.declared.checkpoint.Checkpoint.{Checkpoint}
use Rattle.ept_ckpt.specs.Facts.{facts}
use Rattle.ept_meta.specs.Output.{rules_of}
use Rattle.ept_meta.specs.OutputLaws.{PointsCanBeSampled}
use Rattle.ept_save.specs.Current.{Current, HasCurrent, Keeps, Commits}
use Rattle.ept_save.specs.Sound.{IsSavedAs, IsSavedUnder, IsSaved, IsSound}
use Rattle.ept_save.specs.SoundLaws.{CurrentIsOne, KeepingKeepsSound, CommittingKeepsSound}
use Rattle.ept_save.specs.View.{View, StandsFor, next_letter, next_facts}
use Rattle.ept_parts.specs.PartLaws.{RootsJoin}
use Rattle.ept_parts.specs.MergeLaws.{part_nodes, MergedIsSampled}
use Rattle.ept_plan.specs.declared.plan.Plan.{Plan}
use Rattle.ept_plan.specs.Plans.{IsPlan}
use Rattle.ept_part.specs.Names.{part_tile_of}
use Rattle.ept_merge.specs.declared.bodies.PartBody.{PartBody}
use Rattle.ept_merge.specs.declared.joining.PartNode.{PartNode}
use Rattle.ept_merge.specs.Putting.{AreLike, PutsAll, FitTogether, AreOfParts}
use Rattle.ept_merge.proofs.Loads.{part-rooted}
use Rattle.ept_merge.proofs.Fits.{fit-ascends}
use Rattle.ept_merge.proofs.Found.{scan-can}
use Rattle.ept_merge.proofs.MergedTiles.{lines-saved}
use Rattle.ept_merge.proofs.Public.{total-lists}
use Rattle.ept_merge.proofs.PutAll.{target, target-facts}
use Rattle.ept_merge.proofs.Sounding.{output-of, saved-all, settled-bare, keeps-sound, commit-sound, keeps-bare, sound-both}
use Rattle.ept_merge.proofs.Steps.{keep-both}

module _ (config : Config) (plan : Plan) (is : IsPlan config None plan) (parts : List PartBody) (like : AreLike plan parts) (nodes : List PartNode) (fit : FitTogether parts nodes plan.points) (few : length nodes < config.max_nodes) (can_be : PointsCanBeSampled) (join : RootsJoin) (merged : MergedIsSampled) where
  -- the checkpoint is saved
  module _ (all start now : Files) (points : List Point) (of : AreOfParts all start plan (rules_of plan.kept) parts points) (lines : List NodeLine) (puts : PutsAll (rules_of plan.kept) parts nodes (Some start) (Some now) lines) where
    abbrev rules : Rules
    rules = rules_of plan.kept

    can : CanBeSampled rules points
    can = scan-can can_be all plan.kept plan.counts points of.scan

    number : plan.points ≡ length points
    number = is.points_are ∙ sym (ap length of.scan.points_are ∙ total-lists of.scan.lists plan.counts of.scan.counts_are)

    nodes-saved : AllZip (IsSavedAs New now) (sampled rules points) lines
    nodes-saved =
        subst (λ (w : List NodeLine). AllZip (IsSavedAs New now) (sampled rules points) w) (sym puts.lines_are)
        (lines-saved rules start now points can parts (λ part m. part-rooted part)
        (λ part m. all-member (λ (p : PartBody). AllZip (IsSavedUnder New (part_tile_of p.octants) start) (part_nodes rules (opened p.octants) points) p.body.nodes) part parts of.nodes m)
        of.divided join merged puts.roots.lists puts.roots.tiles nodes fit.order.same (fit-ascends parts nodes fit.order) puts.tiles.1 puts.points
        (λ distinct. puts.order (subst (λ (w : List Point). HasDistinctIds w) (sym puts.roots.appended) distinct) ∙ ap in_id_order puts.roots.appended) puts.mask puts.tiles.0)

    pub next-saved : IsSaved all now (target config plan is parts like nodes fit few rules (Some start) (Some now) lines puts) points
    next-saved = saved-all all now plan.kept plan.counts points (target config plan is parts like nodes fit few rules (Some start) (Some now) lines puts) refl refl refl number of.scan nodes-saved

  module _ (one : CurrentIsOne) (keeping : KeepingKeepsSound) (committing : CommittingKeepsSound) (all start : Files) (sound : IsSound all start) (none : HasCurrent None start) {D : Type 0} (files : D → Option Files) (may_leave : D → Files → Type 0) (moment : D → ℕ) (image_since : D → ℕ → Files → Type 0) (d0 d1 d2 d3 : D) (told : files d0 ≡ Some start) (settled : IsSettled (files d0) (may_leave d0)) where
    abbrev Stays : D → D → Type 0
    Stays old new = Moves files may_leave moment image_since (λ (a : Files) (b : Files). IsSound all b) old new

    abbrev MovesKeep : D → D → Type 0
    MovesKeep old new = Moves files may_leave moment image_since (Keeps None) old new

    pub begun-sound : MovesKeep d0 d1 → Stays d0 d1
    begun-sound moved = keeps-sound one keeping committing all files may_leave moment image_since d0 d1 (settled-bare one keeping committing all files may_leave moment image_since d0 start told settled (sound, none)) moved

    pub put-sound : MovesKeep d0 d1 → MovesKeep d1 d2 → Stays d0 d2
    put-sound first second =
        keeps-sound one keeping committing all files may_leave moment image_since d0 d2 (settled-bare one keeping committing all files may_leave moment image_since d0 start told settled (sound, none)) (keep-both files may_leave moment image_since None d0 d1 d2 first second)

    module _ (points : List Point) (of : AreOfParts all start plan (rules_of plan.kept) parts points) (extent : Option Bounds) (found : (lists : List (List Point)) → AllZip IsCountOf lists plan.counts → HasExtent (in_order lists) extent)
        (view : View) (fresh : view.current ≡ None) (puts : PutsAll (rules_of plan.kept) parts nodes (files d1) (files d2) view.lines) (reads : files d1 ≡ Some start) (stands : StandsFor view (files d2) (may_leave d2)) where
      its : PutsAll (rules_of plan.kept) parts nodes (Some start) (Some stands.all) view.lines
      its =
          subst (λ (o : Option Files). PutsAll (rules_of plan.kept) parts nodes (Some start) o view.lines) stands.told
          (subst (λ (o : Option Files). PutsAll (rules_of plan.kept) parts nodes o (files d2) view.lines) reads puts)

      abbrev next : Checkpoint
      next = target config plan is parts like nodes fit few (rules_of plan.kept) (Some start) (Some stands.all) view.lines its

      pub committed-sound : MovesKeep d0 d1 → MovesKeep d1 d2
          → ((c : Checkpoint) → facts c ≡ next_facts view plan.kept plan.counts plan.points → (s : StandsFor view (files d2) (may_leave d2)) → Moves files may_leave moment image_since (Commits view.current (next_letter view.current) c s.all) d2 d3)
          → Stays d0 d3
      committed-sound first second commits =
          let bare = settled-bare one keeping committing all files may_leave moment image_since d0 start told settled (sound, none) in
          let kept = keep-both files may_leave moment image_since None d0 d1 d2 first second in
          let out = output-of all plan.kept plan.counts points extent of.scan found in
          let same : facts next ≡ next_facts view plan.kept plan.counts plan.points = target-facts config plan is parts like nodes fit few (rules_of plan.kept) (Some start) (Some stands.all) view.lines its view fresh refl in
          let moved = subst (λ (c : Current). Moves files may_leave moment image_since (Commits c (next_letter c) next stands.all) d2 d3) fresh (commits next same stands) in
          sound-both one keeping committing all files may_leave moment image_since d0 d2 d3 (keeps-sound one keeping committing all files may_leave moment image_since d0 d2 bare kept)
          (commit-sound one keeping committing all files may_leave moment image_since d2 d3 stands.all next points out.0 (keeps-bare one keeping committing all files may_leave moment image_since d0 d2 bare kept)
          (next-saved all start stands.all points of view.lines its) out.1 moved)
