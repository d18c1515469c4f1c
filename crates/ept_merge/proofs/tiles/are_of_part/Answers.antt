use Rattle.std.proofs.Common.{◌≡◌, ◌≤◌, ◌∙◌, inl, inr, ◌∷◌, [], true, List, length, sym, subst, arith, rules, take}
use Rattle.std.proofs.lemmas.List.{take_all}
use Rattle.std.proofs.lemmas.List.Elements.{All-get_or}
use Rattle.std.proofs.lemmas.Bool.{false≢true}
use Rattle.ept_point.specs.declared.point.Point.{Point}
use Rattle.ept_space.specs.OctreeCube.{InCube}
use Rattle.ept_sample.specs.Place.{place}
use Rattle.ept_sample.specs.Arrivals.{octant}
use Rattle.ept_sample.specs.Members.{IsMember}
use Rattle.ept_sample.proofs.Members.{IsMember-append, all-member, All-members}
use Rattle.ept_grid.specs.Mask.{opened}
use Rattle.ept_merge.proofs.Loads.{take-more, item-member}
use Rattle.ept_merge.proofs.tiles.are_of_part.Goals as goal

pub loop-point-init : goal.loop-point-init
loop-point-init c = λ q m. absurd m

pub is_of_part-requires-clause-inside : goal.is_of_part-requires-clause-inside
is_of_part-requires-clause-inside c =
    let cube = c.args.rules.now.cube in
    let p = c.point-item.result in
    subst (λ (q : Point). InCube cube (place q)) (sym c.point-item.is) (All-get_or (λ (q : Point). InCube cube (place q)) c.args.points.now c.loop-point.point-index p c.loop-point-test.true c.requires.inside)

pub returns-then-not-is_of_part : goal.returns-then-not-is_of_part
returns-then-not-is_of_part c = (
  λ is. absurd (false≢true is),
  λ all.
      let p = c.point-item.result in
      absurd (false≢true (sym c.if-not-is_of_part.true ∙ (c.is_of_part.ensures ∙ all-member (λ (q : Point). opened c.args.octants (octant c.args.rules.now 0 q) ≡ true) p c.args.points.now all (item-member c.args.points.now c.loop-point.point-index p c.loop-point-test.true c.point-item.is)))),
)

pub loop-point-preserved : goal.loop-point-preserved
loop-point-preserved c = λ q m.
    let p = c.point-item.result in
    let i = c.loop-point in
    elim (IsMember-append q (take i.point-index c.args.points.now) (p ∷ []) (subst (λ (w : List Point). IsMember q w) (take-more c.args.points.now i.point-index p c.loop-point-test.true c.point-item.is) m)) as (λ _. opened c.args.octants (octant c.args.rules.now 0 q) ≡ true) [
      | inl l ↦ i.invariant q l
      | inr r ↦ elim r as (λ _. opened c.args.octants (octant c.args.rules.now 0 q) ≡ true) [
        | inl is ↦ subst (λ (x : Point). opened c.args.octants (octant c.args.rules.now 0 x) ≡ true) is (sym c.is_of_part.ensures ∙ c.if-not-is_of_part.false)
        | inr none ↦ absurd none
      ]
    ]

pub returns : goal.returns
returns c =
    let i = c.loop-point in
    let end : length c.args.points.now ≤ i.point-index = omega arith in (
      λ is. All-members (λ (q : Point). opened c.args.octants (octant c.args.rules.now 0 q) ≡ true) c.args.points.now (λ q m. i.invariant q (subst (λ (w : List Point). IsMember q w) (sym (take_all i.point-index c.args.points.now end)) m)),
      λ all. search rules,
    )
