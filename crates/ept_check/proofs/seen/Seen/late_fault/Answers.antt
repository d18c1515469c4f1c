use Rattle.std.proofs.Common.{◌≡◌, List, true, false, refl, sym, subst, arith}
use Rattle.std.specs.List.{All}
use Rattle.std.proofs.lemmas.Bool.{false≢true}
use Rattle.ept_space.specs.VoxelKey.{is_below}
use Rattle.ept_sample.specs.Place.{AllInBox}
use Rattle.ept_sample.proofs.Members.{all-member}
use Rattle.ept_grid.specs.Node.{Node as GridNode}
use Rattle.ept_hier.specs.Hierarchy.{keys_of}
use Rattle.ept_fit.specs.Fit.{IsInOctree}
use Rattle.ept_check.specs.Walking.{LoseTo, HaveNewIds}
use Rattle.ept_check.proofs.Looks.{above-boxes, before-empty, before-twice, late-all}
use Rattle.ept_check.proofs.seen.Seen.late_fault.Goals as goal

pub lose_to-requires : goal.lose_to-requires
lose_to-requires c =
    let octree = c.args.octree.now in
    let key = c.args.key.now in
    let points = c.args.points.now in
    subst (λ (w : List GridNode). All (λ (g : GridNode). is_below g.key key ≡ true → AllInBox g.rules.cube g.key points) w) (sym c.deref.ensures.value)
    (above-boxes octree.rules c.args.self.now.above.items key points c.requires.sound.cube (all-member (IsInOctree octree.rules) key (keys_of octree.nodes.items) c.requires.sound.in_octree c.requires.listed).1 c.requires.of_rules c.requires.inside)

pub returns-then-not-has_none_of-clause-some : goal.returns-then-not-has_none_of-clause-some
returns-then-not-has_none_of-clause-some c =
    let octree = c.args.octree.now in
    let key = c.args.key.now in
    let points = c.args.points.now in
    let above = c.args.self.now.above.items in
    let lose : LoseTo above key points = subst (λ (w : List GridNode). LoseTo w key points) c.deref.ensures.value (c.if-not-lose_to.ensures.0 refl) in
    record {
      late = omega arith;
      lacks = λ has. false≢true (c.if-not-has_none_of.ensures.1 has);
      before = before-twice (LoseTo above key points) (HaveNewIds c.args.self.now.ids points) octree.rules octree.nodes.items key points lose (c.if-not-has_full_children.ensures.0 refl) (c.if-not-is_filled.ensures.0 refl);
    }

pub returns-clause-none : goal.returns-clause-none
returns-clause-none c =
    let octree = c.args.octree.now in
    let key = c.args.key.now in
    let points = c.args.points.now in
    let above = c.args.self.now.above.items in
    let lose : LoseTo above key points = subst (λ (w : List GridNode). LoseTo w key points) c.deref.ensures.value (c.if-not-lose_to.ensures.0 refl) in
    late-all (LoseTo above key points) (HaveNewIds c.args.self.now.ids points) octree.rules octree.nodes.items key points lose (c.if-not-has_full_children.ensures.0 refl) (c.if-not-is_filled.ensures.0 refl) (c.if-not-has_none_of.ensures.0 refl)

pub returns-then-not-is_filled-clause-some : goal.returns-then-not-is_filled-clause-some
returns-then-not-is_filled-clause-some c =
    let octree = c.args.octree.now in
    let key = c.args.key.now in
    let points = c.args.points.now in
    let above = c.args.self.now.above.items in
    let lose : LoseTo above key points = subst (λ (w : List GridNode). LoseTo w key points) c.deref.ensures.value (c.if-not-lose_to.ensures.0 refl) in
    record {
      late = omega arith;
      lacks = λ has. false≢true (c.if-not-is_filled.ensures.1 has);
      before = before-empty (LoseTo above key points) (HaveNewIds c.args.self.now.ids points) octree.rules octree.nodes.items key points lose (c.if-not-has_full_children.ensures.0 refl);
    }
