-- What a plan says of the inputs, and why there is no part of them.
use Rattle.std.proofs.Common.{◌≡◌, ◌∙◌, inl, inr, ℕ, ◌<◌, List, sym, ap, subst, length, Option, Some, None}
use Rattle.std.specs.Prelude.{Result, Ok, Err, IfOk}
use Rattle.ept_base.specs.Files.{Files, Tells}
use Rattle.ept_point.specs.declared.point.Point.{Point}
use Rattle.ept_grid.specs.Mask.{opened}
use Rattle.ept_config.specs.declared.config.Config.{Config}
use Rattle.ept_config.specs.declared.source_count.SourceCount.{SourceCount}
use Rattle.ept_scan.specs.declared.scan_error.ScanError.{ScanError}
use Rattle.ept_scan.specs.declared.scan_error.ScanError.TheVariants as scan
use Rattle.ept_scan.specs.Scans.{IsScan}
use Rattle.ept_scan.specs.Opening.{IsKeptScan}
use Rattle.ept_meta.specs.Output.{rules_of}
use Rattle.ept_meta.specs.OutputLaws.{PointsCanBeSampled}
use Rattle.ept_plan.specs.declared.plan.Plan.{Plan}
use Rattle.ept_plan.specs.Plans.{IsPlan, HasPoints}
use Rattle.ept_plan.specs.Plans as plans
use Rattle.ept_plan.specs.Steps.{IsFound}
use Rattle.ept_table.specs.Octree.{AreSampled}
use Rattle.ept_tree.specs.declared.octree.Tree.{Tree}
use Rattle.ept_tree.specs.Grown.{nodes_of, points_of}
use Rattle.ept_parts.specs.Parts.{part_of}
use Rattle.ept_part.specs.declared.error.PartError.{PartError}
use Rattle.ept_part.specs.declared.error.PartError.TheVariants.{Shallow, TooManyNodes, SourceChanged, Memory}
use Rattle.ept_part.specs.Errors.{of_scan, IsStores, IsOfSampling}
use Rattle.ept_part.specs.declared.making.Ready.{Ready}
use Rattle.ept_part.specs.declared.sampling.Sampled.{Sampled}
use Rattle.ept_part.specs.Sampling.{IsGrown}
use Rattle.ept_part.specs.Making.{IsPartOf, HasInputs, depth_of, node_count, IsRefused}
use Rattle.ept_part.proofs.Bodies.{scan-kept, part-ready}

-- ---- what is known

-- what follows of a known fact is known
pub tells-more : {X : Type 0} (P Q : X → Type 0) → ((x : X) → P x → Q x) → (o : Option X) → Tells P o → Tells Q o
tells-more P Q more None told = tt
tells-more P Q more (Some x) told = more x told

pub tells-always : {X : Type 0} (Q : X → Type 0) → ((x : X) → Q x) → (o : Option X) → Tells Q o
tells-always Q all None = tt
tells-always Q all (Some x) = all x

pub tells-both : {X : Type 0} (P Q R : X → Type 0) → ((x : X) → P x → Q x → R x) → (o : Option X) → Tells P o → Tells Q o → Tells R o
tells-both P Q R both None one other = tt
tells-both P Q R both (Some x) one other = both x one other

-- ---- the plan

pub has-points : (files : Option Files) (config : Config) (plan : Plan) → IsFound files config None plan → Tells (λ all. (points : List Point) × HasPoints all config None plan points) files
has-points files config plan found =
    tells-more _ _ (λ all has. (has.0, subst (λ (w : List SourceCount). IsScan all config.scale config.bounds config.inputs 0 has.0 (record { counts = w; bounds = plan.kept.bounds })) (sym found.counts_are) has.1)) files found.scan

-- so the inputs have them, and the plan has what is kept
pub plan-inputs : (all : Files) (config : Config) (plan : Plan) → IsPlan config None plan → (points : List Point) → HasPoints all config None plan points → HasInputs all config plan.kept points
plan-inputs all config plan is points has = record { done = record { counts = plan.counts; bounds = plan.kept.bounds }; scan = has; kept_is = is.kept_is }

-- ---- why the inputs are refused

pub refused-scan : (files : Option Files) (config : Config) (octants : ℕ) (e : ScanError) → Tells (λ all. plans.AreRefused all config None e) files → Tells (λ all. IsRefused all config octants (of_scan e)) files
refused-scan files config octants scan.SourceFault told = tells-always _ (λ all. tt) files
refused-scan files config octants (scan.BadLas source fault) told = told
refused-scan files config octants (scan.OutOfBounds source number) told = told
refused-scan files config octants (scan.TooManyPoints source) told = told
refused-scan files config octants scan.NoBounds told = told
refused-scan files config octants scan.Memory told = tells-always _ (λ all. tt) files

-- ---- why the part is refused

module _ (files : Option Files) (config : Config) (octants : ℕ) where
  pub memory-refused : (e : PartError) → e ≡ Memory → Tells (λ all. IsRefused all config octants e) files
  memory-refused e is = subst (λ (w : PartError). Tells (λ all. IsRefused all config octants w) files) (sym is) (tells-always _ (λ all. tt) files)

  pub stores-refused : (e : PartError) → IsStores e → Tells (λ all. IsRefused all config octants e) files
  stores-refused e (inl is) = subst (λ (w : PartError). Tells (λ all. IsRefused all config octants w) files) (sym is) (tells-always _ (λ all. tt) files)
  stores-refused e (inr is) = memory-refused e is

  module _ (plan : Plan) (is : IsPlan config None plan) (has : Tells (λ all. (points : List Point) × HasPoints all config None plan points) files) where
    pub shallow-refused : depth_of plan.kept ≡ 0 → Tells (λ all. IsRefused all config octants Shallow) files
    shallow-refused flat =
        tells-more _ _ (λ all h. (plan.kept, h.0, plan-inputs all config plan is h.0 h.1, flat)) files has

    many-refused : 0 < depth_of plan.kept → Tells (λ all. (points : List Point) → IsKeptScan all plan.kept plan.counts points → config.max_nodes < node_count octants plan.kept points) files
        → Tells (λ all. IsRefused all config octants TooManyNodes) files
    many-refused deep many =
        tells-both _ _ _ (λ all h more. (plan.kept, h.0, plan-inputs all config plan is h.0 h.1, (deep, more h.0 (scan-kept all config plan is h.0 h.1)))) files has many

    pub sampling-refused : (e : PartError) → IsOfSampling e → 0 < depth_of plan.kept
        → (e ≡ TooManyNodes → Tells (λ all. (points : List Point) → IsKeptScan all plan.kept plan.counts points → config.max_nodes < node_count octants plan.kept points) files)
        → ((source number : ℕ) → e ≡ SourceChanged source number → Tells (λ all. (points : List Point) → IsKeptScan all plan.kept plan.counts points → ⊥) files) → Tells (λ all. IsRefused all config octants e) files
    sampling-refused e (inl is_it) deep many change = subst (λ (w : PartError). Tells (λ all. IsRefused all config octants w) files) (sym is_it) (tells-always _ (λ all. tt) files)
    sampling-refused e (inr (inl is_it)) deep many change = subst (λ (w : PartError). Tells (λ all. IsRefused all config octants w) files) (sym is_it) (many-refused deep (many is_it))
    sampling-refused e (inr (inr (inl is_it))) deep many change = memory-refused e is_it
    sampling-refused e (inr (inr (inr (source, number, is_it)))) deep many change =
        subst (λ (w : PartError). Tells (λ all. IsRefused all config octants w) files) (sym is_it)
        (tells-both _ _ _ (λ all h none. none h.0 (scan-kept all config plan is h.0 h.1)) files has (change source number is_it))

-- ---- the part

module _ (can_be : PointsCanBeSampled) (files : Option Files) (config : Config) (octants : ℕ) (plan : Plan) (is : IsPlan config None plan) (has : Tells (λ all. (points : List Point) × HasPoints all config None plan points) files)
    (s : Sampled) (grown : IsGrown (rules_of plan.kept) config.max_nodes s.inserted s.tree)
    (are : Tells (λ all. (points : List Point) → IsKeptScan all plan.kept plan.counts points → AreSampled (rules_of plan.kept) (part_of (rules_of plan.kept) (opened octants) points) (nodes_of s.tree)) files) where
  ready_told : (ready : Ready) → ready.tree ≡ s.tree → ready.checkpoint.kept ≡ plan.kept → ready.checkpoint.counts ≡ plan.counts → ready.checkpoint.inserted ≡ s.inserted → Tells (λ all. (points : List Point) × IsPartOf all config octants ready points) files
  ready_told ready tree kept counts inserted =
      tells-both _ _ _ (λ all h own. (
        h.0,
        part-ready can_be all config octants plan is ready kept counts h.0 h.1
            (subst (λ (t : Tree). AreSampled (rules_of plan.kept) (part_of (rules_of plan.kept) (opened octants) h.0) (nodes_of t)) (sym tree) (own h.0 (scan-kept all config plan is h.0 h.1)))
            (inserted ∙ (sym grown.number ∙ ap (λ (t : Tree). length (points_of t)) (sym tree))),
      )) files has are

  pub part-told : (result : Result Ready PartError) → IfOk result (λ r. r.tree ≡ s.tree) → IfOk result (λ r. r.checkpoint.kept ≡ plan.kept) → IfOk result (λ r. r.checkpoint.counts ≡ plan.counts) → IfOk result (λ r. r.checkpoint.inserted ≡ s.inserted)
      → IfOk result (λ ready. Tells (λ all. (points : List Point) × IsPartOf all config octants ready points) files)
  part-told (Ok ready) tree kept counts inserted = ready_told ready tree kept counts inserted
  part-told (Err e) tree kept counts inserted = tt
