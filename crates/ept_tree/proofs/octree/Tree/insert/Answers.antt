use Rattle.std.proofs.Common.{◌≡◌, ◌∙◌, List, [], ◌∷◌, map, refl, sym, subst, ap, arith, count_by}
use Rattle.std.proofs.lemmas.List.Elements.{All-nil, All-cons}
use Rattle.ept_space.specs.declared.cube.Rules.{Rules}
use Rattle.ept_space.specs.VoxelKey.{root}
use Rattle.ept_space.proofs.PlaceKeys.{InBox-root}
use Rattle.ept_sample.specs.Place.{place}
use Rattle.ept_tree.specs.declared.octree.Tree.{Tree}
use Rattle.ept_tree.specs.declared.arrival.Arrival.{Arrival}
use Rattle.ept_tree.specs.Sending.{arrival_at}
use Rattle.ept_tree.specs.Whole.{AreWholeWith}
use Rattle.ept_tree.proofs.Wholeness.{drawn-whole, whole-alone, alone-whole}
use Rattle.ept_table.specs.Octree.{entry_of, points_in}
use Rattle.ept_tree.specs.Tree.{IsTree, IsPlaced, ArePlaced, AreAtDepth, on_the_way}
use Rattle.ept_tree.proofs.Growing.{drawn-tree, none-deeper}
use Rattle.ept_sample.proofs.IdLaws.{count_by-append}
use Rattle.ept_tree.proofs.Together.{none-below}
use Rattle.ept_tree.proofs.octree.Tree.insert.Goals as goal

pub loop-depth-init : goal.loop-depth-init
loop-depth-init c =
    let one : c.in_ok-arrivals.arrivals.items ≡ arrival_at root c.args.point ∷ [] = c.in_ok-arrivals.ensures.items in
    let rules = c.args.self.now.rules in
    record {
      rules = refl;
      rest = c.requires.rest;
      placed = subst (λ (w : List Arrival). ArePlaced rules w) (sym one) (All-cons (IsPlaced rules) (arrival_at root c.args.point) [] (record { inside = InBox-root rules.cube (place c.args.point) c.requires.inside; shallow = omega arith }) (All-nil (IsPlaced rules)));
      at = subst (λ (w : List Arrival). AreAtDepth 0 w) (sym one) (All-cons (λ (b : Arrival). b.key.depth ≡ 0) (arrival_at root c.args.point) [] refl (All-nil (λ (b : Arrival). b.key.depth ≡ 0)));
      together = λ test. (
          let way : count_by test (on_the_way c.in_ok-arrivals.arrivals.items) ≡ count_by test (c.args.point ∷ []) = ap (λ (w : List Arrival). count_by test (on_the_way w)) one in
          omega (arith, way, count_by-append test (c.args.point ∷ []) (points_in c.args.self.now.nodes.entries)));
      whole = λ whole. (subst (λ (w : List Arrival). AreWholeWith w (map entry_of c.args.self.now.nodes.entries)) (sym one) (drawn-whole (arrival_at root c.args.point) refl (map entry_of c.args.self.now.nodes.entries) whole), λ key is. is);
      becomes = λ points left tree. subst (λ (w : List Arrival). IsTree rules points left w c.args.self.now.nodes.entries) (sym one) (drawn-tree rules points left c.args.point c.args.self.now.nodes.entries tree);
    }

pub descend-requires-clause-rest : goal.descend-requires-clause-rest
descend-requires-clause-rest c = c.loop-depth.invariant.rest

pub descend-requires-clause-placed : goal.descend-requires-clause-placed
descend-requires-clause-placed c =
    subst (λ (r : Rules). ArePlaced r c.deref.result.now) (sym c.loop-depth.invariant.rules) (subst (λ (w : List Arrival). ArePlaced c.args.self.now.rules w) (sym c.deref.ensures.value) c.loop-depth.invariant.placed)

pub returns-clause-rest : goal.returns-clause-rest
returns-clause-rest c = c.loop-depth.invariant.rest

pub returns-clause-taken : goal.returns-clause-taken
returns-clause-taken c = λ points left tree. (
    let rules = c.args.self.now.rules in
    let t = c.loop-depth.invariant.becomes points left tree in
    let none : c.loop-depth.arrivals.items ≡ [] = none-deeper rules points left c.loop-depth.arrivals.items c.loop-depth.self.nodes.entries c.loop-depth._depth t c.loop-depth.invariant.at (omega (arith, ap (λ (t : Tree). t.rules.cube.depth) c.self.view_is)) in
    subst (λ (r : Rules). IsTree r points left [] c.loop-depth.self.nodes.entries) (sym c.loop-depth.invariant.rules) (subst (λ (w : List Arrival). IsTree rules points left w c.loop-depth.self.nodes.entries) none t))

pub returns-clause-together : goal.returns-clause-together
returns-clause-together c = λ test. (
    let i = c.loop-depth in
    let none : i.arrivals.items ≡ [] = none-below c.args.self.now.rules i.arrivals.items i._depth i.invariant.placed i.invariant.at (omega (arith, ap (λ (t : Tree). t.rules.cube.depth) c.self.view_is)) in
    let way : count_by test (on_the_way i.arrivals.items) ≡ 0 = ap (λ (w : List Arrival). count_by test (on_the_way w)) none in
    omega (arith, i.invariant.together test, way))

pub loop-depth-preserved : goal.loop-depth-preserved
loop-depth-preserved c =
    let i = c.loop-depth in
    let rules = c.args.self.now.rules in
    let next = c.in_ok-arrivals-2 in
    record {
      rules = next.ensures.rules ∙ i.invariant.rules;
      rest = next.ensures.rest;
      placed = subst (λ (r : Rules). ArePlaced r next.arrivals.items) i.invariant.rules next.ensures.placed;
      at = next.ensures.deeper i._depth (subst (λ (w : List Arrival). AreAtDepth i._depth w) (sym c.deref.ensures.value) i.invariant.at);
      together = λ test. (
          let given : count_by test (on_the_way c.deref.result.now) ≡ count_by test (on_the_way i.arrivals.items) = ap (λ (w : List Arrival). count_by test (on_the_way w)) c.deref.ensures.value in
          omega (arith, next.ensures.together test, i.invariant.together test, given));
      whole = λ whole. (
          let before = i.invariant.whole whole in
          let after = next.ensures.whole (subst (λ (w : List Arrival). AreWholeWith w (map entry_of i.self.nodes.entries)) (sym c.deref.ensures.value) before.0) in
          (after.0, λ key is. after.1 key (before.1 key is)));
      becomes = λ points left tree. subst (λ (r : Rules). IsTree r points left next.arrivals.items c.descend.new.self.nodes.entries) i.invariant.rules (next.ensures.becomes points left (subst (λ (r : Rules). IsTree r points left c.deref.result.now i.self.nodes.entries) (sym i.invariant.rules) (subst (λ (w : List Arrival). IsTree rules points left w i.self.nodes.entries) (sym c.deref.ensures.value) (i.invariant.becomes points left tree))));
    }

pub returns-clause-whole : goal.returns-clause-whole
returns-clause-whole c = λ whole. (
    let i = c.loop-depth in
    let none : i.arrivals.items ≡ [] = none-below c.args.self.now.rules i.arrivals.items i._depth i.invariant.placed i.invariant.at (omega (arith, ap (λ (t : Tree). t.rules.cube.depth) c.self.view_is)) in
    let now = i.invariant.whole (alone-whole (map entry_of c.args.self.now.nodes.entries) whole) in
    (whole-alone (map entry_of i.self.nodes.entries) (subst (λ (w : List Arrival). AreWholeWith w (map entry_of i.self.nodes.entries)) none now.0), now.1))
