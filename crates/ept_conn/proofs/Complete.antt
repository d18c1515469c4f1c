-- What is sent of a folder that is complete for some points.
use Rattle.std.proofs.Common.{◌≡◌, ℕ, List, Some, refl, sym, ap, subst}
use Rattle.std.specs.Prelude.{Contains}
use Rattle.ept_base.specs.Files.{Files}
use Rattle.ept_point.specs.declared.point.Point.{Point}
use Rattle.ept_point.specs.Packed.{tile}
use Rattle.ept_space.specs.declared.box3.Box3.{Box3}
use Rattle.ept_sample.specs.Sampling.{sampling}
use Rattle.ept_config.specs.declared.kept.Kept.{Kept}
use Rattle.ept_hier.specs.Hierarchy.{Node}
use Rattle.ept_meta.specs.Output.{rules_of}
use Rattle.ept_save.specs.Complete.{IsComplete}
use Rattle.ept_query.specs.Damage.{HasTile}
use Rattle.ept_query.specs.Parts.{Plan, points_in}
use Rattle.ept_query.specs.CompleteLaws.{CompleteHasPlan, CompleteHasTiles, TileIsOfOne}
use Rattle.ept_conn.specs.Answers.{Served}
use Rattle.ept_conn.specs.Served.{HasPart, IsOpenTo}

some-one : {X : Type 0} (a b : X) → Some a ≡ Some b → a ≡ b
some-one a b is = cc

module _ (has-plan : CompleteHasPlan) (has-tiles : CompleteHasTiles) (once : TileIsOfOne) (kept : Kept) (points : List Point) (files : Files) (whole : IsComplete kept points files) where
  nodes : Box3 → ℕ → ℕ → List Node
  nodes area first second = (has-plan kept points files whole area first second).0

  points-at : Node → List Point
  points-at node = sampling (rules_of kept) points node.0

  sent : Served
  sent = record {
    files = files;
    file = files;
    plan = λ area first second. Some (nodes area first second);
    part = λ area node. tile (points_in area (points-at node));
  }

  tile-there : (area : Box3) (first second : ℕ) (node : Node) → Contains (nodes area first second) node → HasTile files node.0 node.1 (points-at node)
  unfolding nodes points-at
  tile-there area first second node there =
      let plan : Plan = record { area = area; tiles = nodes area first second } in
      has-tiles kept points files whole area first second plan (has-plan kept points files whole area first second).1 node there

  has-part : (area : Box3) (first second : ℕ) (found : List Node) (node : Node) → Some (nodes area first second) ≡ Some found → Contains found node → HasPart files area node (sent.part area node)
  unfolding sent
  has-part area first second found node is there =
      let has : HasTile files node.0 node.1 (points-at node) = tile-there area first second node (subst (λ (ns : List Node). Contains ns node) (sym (some-one (nodes area first second) found is)) there) in
      record {
        points = points-at node;
        has = has;
        packed = λ others other. ap (λ (ps : List Point). tile (points_in area ps)) (once files node.0 node.1 (points-at node) others has other);
      }

  pub complete-served : (served : Served) × IsOpenTo files served
  unfolding sent nodes
  complete-served = (
    sent,
    record {
      folder = refl;
      done = whole.done;
      file = λ name. refl;
      plan = λ area first second ordered depths. (nodes area first second, refl, (has-plan kept points files whole area first second).1);
      part = has-part;
    },
  )
