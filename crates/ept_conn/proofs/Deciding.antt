-- What is sent of a folder of which it is decided which plans and tiles it has.
use Rattle.std.proofs.Common.{◌≡◌, ◌⊎◌, inl, inr, ℕ, List, [], Option, Some, None, refl, ap}
use Rattle.ept_base.specs.Files.{Files}
use Rattle.ept_point.specs.declared.point.Point.{Point}
use Rattle.ept_point.specs.Packed.{tile}
use Rattle.ept_space.specs.declared.box3.Box3.{Box3}
use Rattle.ept_hier.specs.Hierarchy.{Node}
use Rattle.ept_save.specs.Done.{IsDone}
use Rattle.ept_query.specs.CompleteLaws.{TileIsOfOne}
use Rattle.ept_query.specs.Damage.{HasTile}
use Rattle.ept_query.specs.Planning.{IsPlanFor}
use Rattle.ept_query.specs.Parts.{Plan, points_in}
use Rattle.ept_conn.specs.Answers.{Served}
use Rattle.ept_conn.specs.Served.{IsSentOf, HasPlan, IsThere, IsDecided}
use Rattle.ept_conn.proofs.Plans.{one-plan}

-- the plan, if it is there, and the points in an area of a tile, if it is there
abbrev found-nodes : (files : Files) (area : Box3) (first second : ℕ) → HasPlan files area first second ⊎ (¬ HasPlan files area first second) → Option (List Node)
found-nodes files area first second (inl has) = Some has.0
found-nodes files area first second (inr none) = None

abbrev found-part : (files : Files) (area : Box3) (node : Node) → IsThere files node ⊎ (¬ IsThere files node) → List ℕ
found-part files area node (inl has) = tile (points_in area has.0)
found-part files area node (inr none) = []

plan-found : (files : Files) (area : Box3) (first second : ℕ) (plan : Plan) (decided : HasPlan files area first second ⊎ (¬ HasPlan files area first second)) → IsPlanFor area first second plan files → found-nodes files area first second decided ≡ Some plan.tiles
plan-found files area first second plan (inl has) is =
    ap Some (one-plan files area first second (record { area = area; tiles = has.0 }) plan has.1 is)
plan-found files area first second plan (inr none) is =
    absurd (none (plan.tiles, record { done = is.done; build = is.build; each = is.each; tiles = is.tiles }))

part-found : TileIsOfOne → (files : Files) (area : Box3) (node : Node) (points : List Point) (decided : IsThere files node ⊎ (¬ IsThere files node)) → HasTile files node.0 node.1 points → found-part files area node decided ≡ tile (points_in area points)
part-found once files area node points (inl has) there =
    ap (λ (ps : List Point). tile (points_in area ps)) (once files node.0 node.1 has.0 points has.1 there)
part-found once files area node points (inr none) there = absurd (none (points, there))

pub decided-sent : TileIsOfOne → (files : Files) → IsDecided files → (served : Served) × IsSentOf files served
decided-sent once files decided = by decided.done
  where
    by : IsDone files ⊎ (¬ IsDone files) → (served : Served) × IsSentOf files served
    by (inl open_is) = (
      record {
        files = files;
        file = files;
        plan = λ area first second. found-nodes files area first second (decided.plan area first second);
        part = λ area node. found-part files area node (decided.tile node);
      },
      inr (record {
        folder = refl;
        done = open_is;
        file = λ name. refl;
        plan = λ area first second plan ordered depths is. plan-found files area first second plan (decided.plan area first second) is;
        part = λ area first second nodes node points planned there has. part-found once files area node points (decided.tile node) has;
      }),
    )
    by (inr shut) = (
      record { files = files; file = λ name. None; plan = λ area first second. None; part = λ area node. [] },
      inl (record { folder = refl; done = shut; file = λ name. refl; plan = λ area first second. refl }),
    )
