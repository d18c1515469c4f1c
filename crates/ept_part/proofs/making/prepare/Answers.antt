use Rattle.std.proofs.Common.{◌≡◌, ◌∙◌, ◌<◌, List, length, sym, ap, subst, arith, rules, Option}
use Rattle.std.specs.Prelude.{Err}
use Rattle.std.proofs.lemmas.Result.{IfErr-weaker, err_from_is_err_and}
use Rattle.ept_base.specs.Files.{Files, Tells}
use Rattle.ept_point.specs.declared.point.Point.{Point}
use Rattle.ept_space.specs.declared.cube.Rules.{Rules}
use Rattle.ept_sample.specs.Nodes.{sampled}
use Rattle.ept_grid.specs.Mask.{opened}
use Rattle.ept_scan.specs.Opening.{IsKeptScan}
use Rattle.ept_table.specs.Octree.{AreSampled}
use Rattle.ept_tree.specs.Grown.{nodes_of}
use Rattle.ept_parts.specs.Parts.{part_of}
use Rattle.ept_part.specs.declared.error.PartError.{PartError}
use Rattle.ept_part.specs.Sampling.{IsGrown}
use Rattle.ept_part.proofs.Causes.{sampling-no_store}
use Rattle.ept_part.proofs.Planned.{memory-refused, shallow-refused, sampling-refused, part-told}
use Rattle.ept_part.proofs.making.prepare.Goals as goal

pub sampled_of-requires : goal.sampled_of-requires
sampled_of-requires g c = record {
  plan = c.in_ok-plan.ensures.plan;
  rules = c.rules_of-rules.ensures.value;
  of_bounds = c.rules_of-rules.ensures.of_bounds;
  deep = let same : c.rules.inside.0.0.depth ≡ c.rules_of-rules.result.cube.depth = ap (λ (r : Rules). r.cube.depth) c.rules.view_is in omega (arith, c.if-rules-eq0.false, same);
}

pub ready_of-requires : goal.ready_of-requires
ready_of-requires g c = record {
  plan = c.in_ok-plan.ensures.plan;
  grown = subst (λ (r : Rules). IsGrown r c.args.config.now.max_nodes c.in_ok-sampled.sampled.inserted c.in_ok-sampled.sampled.tree) c.rules_of-rules.ensures.value c.in_ok-sampled.ensures.grown;
  number = c.in_ok-sampled.ensures.number;
  deep = subst (λ (r : Rules). 0 < r.cube.depth) c.rules_of-rules.ensures.value (let same : c.rules.inside.0.0.depth ≡ c.rules_of-rules.result.cube.depth = ap (λ (r : Rules). r.cube.depth) c.rules.view_is in omega (arith, c.if-rules-eq0.false, same));
}

-- ---- the plan is refused

pub returns-in_err-plan-clause-refused : goal.returns-in_err-plan-clause-refused
returns-in_err-plan-clause-refused g c =
    let p = err_from_is_err_and c.from_residual.result c.from_residual.ensures.1 in
    rw (p.1, p.2) (c.in_err-plan.ensures.refused c.args.octants)

pub returns-then-rules-eq0-clause-refused : goal.returns-then-rules-eq0-clause-refused
returns-then-rules-eq0-clause-refused g c =
    shallow-refused (g.H.Shelf.files c.args.shelf.now) c.args.config.now c.args.octants c.in_ok-plan.plan c.in_ok-plan.ensures.plan c.in_ok-plan.ensures.scan
    (subst (λ (r : Rules). r.cube.depth ≡ 0) c.rules_of-rules.ensures.value (sym (ap (λ (r : Rules). r.cube.depth) c.rules.view_is) ∙ c.if-rules-eq0.true))

-- ---- the sampling is refused

pub returns-in_err-sampled-clause-refused : goal.returns-in_err-sampled-clause-refused
returns-in_err-sampled-clause-refused g c =
    let plan = c.in_ok-plan.plan in
    let e = c.in_err-sampled.field-0.0 in
    let octants = opened c.args.octants in
    let p = err_from_is_err_and c.from_residual-in_err-sampled.result c.from_residual-in_err-sampled.ensures.1 in
    rw (p.1, p.2)
    (sampling-refused (g.H.Shelf.files c.args.shelf.now) c.args.config.now c.args.octants plan c.in_ok-plan.ensures.plan c.in_ok-plan.ensures.scan e c.in_err-sampled.ensures.only
    (subst (λ (r : Rules). 0 < r.cube.depth) c.rules_of-rules.ensures.value (let same : c.rules.inside.0.0.depth ≡ c.rules_of-rules.result.cube.depth = ap (λ (r : Rules). r.cube.depth) c.rules.view_is in omega (arith, c.if-rules-eq0.false, same)))
    (λ is. subst (λ (r : Rules). Tells (λ all. (points : List Point) → IsKeptScan all plan.kept plan.counts points → c.args.config.now.max_nodes < length (sampled r (part_of r octants points))) (g.H.Shelf.files c.args.shelf.now)) c.rules_of-rules.ensures.value
    (subst (λ (o : Option Files). Tells (λ all. (points : List Point) → IsKeptScan all plan.kept plan.counts points → c.args.config.now.max_nodes < length (sampled c.rules_of-rules.result (part_of c.rules_of-rules.result octants points))) o) c.plan_of.ensures.files (c.in_err-sampled.ensures.too_many (ap (λ (x : PartError). Err x) is))))
    (λ source number is. subst (λ (o : Option Files). Tells (λ all. (points : List Point) → IsKeptScan all plan.kept plan.counts points → ⊥) o) c.plan_of.ensures.files (c.in_err-sampled.ensures.no_change source number (ap (λ (x : PartError). Err x) is))))

pub returns-in_err-sampled-clause-no_store : goal.returns-in_err-sampled-clause-no_store
returns-in_err-sampled-clause-no_store g c = λ is. sampling-no_store c.in_err-sampled.field-0.0 c.in_err-sampled.ensures.only (search (rules, is))

-- ---- the part is ready

pub returns-clause-part : goal.returns-clause-part
returns-clause-part g c =
    let plan = c.in_ok-plan.plan in
    let s = c.in_ok-sampled.sampled in
    let octants = opened c.args.octants in
    let files = g.H.Shelf.files c.args.shelf.now in
    let value = c.rules_of-rules.ensures.value in
    part-told c.output_once_law.ensures.sampled files c.args.config.now c.args.octants plan c.in_ok-plan.ensures.plan c.in_ok-plan.ensures.scan s
    (subst (λ (r : Rules). IsGrown r c.args.config.now.max_nodes s.inserted s.tree) value c.in_ok-sampled.ensures.grown)
    (subst (λ (r : Rules). Tells (λ all. (points : List Point) → IsKeptScan all plan.kept plan.counts points → AreSampled r (part_of r octants points) (nodes_of s.tree)) files) value
    (subst (λ (o : Option Files). Tells (λ all. (points : List Point) → IsKeptScan all plan.kept plan.counts points → AreSampled c.rules_of-rules.result (part_of c.rules_of-rules.result octants points) (nodes_of s.tree)) o) c.plan_of.ensures.files c.in_ok-sampled.ensures.sampled))
    c.ready_of.result c.ready_of.ensures.tree c.ready_of.ensures.kept c.ready_of.ensures.counts c.ready_of.ensures.inserted

pub returns-clause-refused : goal.returns-clause-refused
returns-clause-refused g c =
    IfErr-weaker c.ready_of.result _ _ (λ e is. memory-refused (g.H.Shelf.files c.args.shelf.now) c.args.config.now c.args.octants e is) c.ready_of.ensures.only

pub returns-clause-files : goal.returns-clause-files
returns-clause-files g c = c.sampled_of.ensures.files ∙ c.plan_of.ensures.files
