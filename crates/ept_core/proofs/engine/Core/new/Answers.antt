use Rattle.std.proofs.Common.{◌≡◌, ◌∙◌, List, [], map, ap, sym, subst, true}
use Rattle.ept_point.specs.declared.point.Point.{Point}
use Rattle.ept_space.specs.declared.cube.Rules.{Rules}
use Rattle.ept_space.specs.VoxelKey.{root}
use Rattle.ept_space.specs.OctreeCube.{IsCube}
use Rattle.ept_sample.specs.Arrivals.{none_open, all_octants}
use Rattle.ept_sample.specs.SamplingLaws.{CanBeSampled}
use Rattle.ept_core.specs.declared.node.Node.{Node}
use Rattle.ept_core.specs.State.{Entry}
use Rattle.ept_core.specs.Law.{KeepsLaw}
use Rattle.ept_core.specs.Steps.{with_node}
use Rattle.ept_core.proofs.CoreLaws.{begins}
use Rattle.ept_core.proofs.engine.Core.new.Goals as goal

abbrev node_with : List Point → Node
node_with points = record { points = points; opened = map none_open all_octants; is_resident = true }

pub invariant_of-result : goal.invariant_of-result
invariant_of-result c =
    let can : CanBeSampled c.args.rules.now c.args.points.now = record { cube = subst (λ (r : Rules). IsCube r.cube) c.rules.view_is c.rules.invariant; inside = c.requires.inside; distinct = c.requires.distinct } in
    let ps : c.of-points.result ≡ c.args.points.now = c.of-points.ensures ∙ c.in_ok-from_slice.ensures.items in
    let nodes : c.insert.new.self.entries ≡ with_node [] root (node_with []) = c.in_ok-insert.ensures.entries ∙ (ap (λ (es : List Entry). with_node es root (node_with c.of.result)) c.new-nodes.ensures.empty ∙ ap (λ (xs : List Point). with_node [] root (node_with xs)) (c.of.ensures ∙ c.new.ensures.items)) in
    record { law = ∣ subst (λ (r : Rules). KeepsLaw r c.of-points.result (record { left = c.of-points.result; flights = c.new-2.result.items; nodes = c.insert.new.self.entries })) (sym c.rules.view_is) (begins c.args.rules.now c.args.points.now c.of-points.result (record { left = c.of-points.result; flights = c.new-2.result.items; nodes = c.insert.new.self.entries }) can ps (λ i. record { left = ps i; flights = c.new-2.ensures.items i; nodes = nodes i })) ∣₁ }
