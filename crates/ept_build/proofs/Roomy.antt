-- Slots that are enough for the nodes of the points.
use Rattle.std.proofs.Common.{◌≡◌, ℕ, ◌+◌, ◌<◌, ◌≤◌, List, length, take, drop, ap, arith, length-append}
use Rattle.std.proofs.lemmas.List.{take-append-drop}
use Rattle.ept_point.specs.declared.point.Point.{Point}
use Rattle.ept_sample.specs.Nodes.{sampled}
use Rattle.ept_sample.specs.SamplingLaws.{CanBeSampled}
use Rattle.ept_node_bound.specs.Few.{TilesAreFew}
use Rattle.ept_meta.specs.Output.{rules_of}
use Rattle.ept_save.specs.Current.{Current}
use Rattle.ept_plan.specs.declared.plan.Plan.{Plan}
use Rattle.ept_plan.specs.Plans.{inserted_by}
use Rattle.ept_build.specs.Phases.{AreMany, HasRoom}
use Rattle.ept_build.proofs.Fronts.{can-front}

fewer : (n : ℕ) (points : List Point) → length (take n points) ≤ length points
fewer n points = omega (arith, length-append (take n points) (drop n points), ap (λ (w : List Point). length w) (take-append-drop n points))

module _ (law : TilesAreFew) (plan : Plan) (current : Current) (max slots : ℕ) (room : HasRoom plan current max slots) (points : List Point) (can : CanBeSampled (rules_of plan.kept) points) (number : length points ≡ plan.points) where
  -- if the nodes of the first points are more than the slots, they are more than there may be
  pub many-front : (n : ℕ) → slots < length (sampled (rules_of plan.kept) (take n points)) → max < length (sampled (rules_of plan.kept) (take n points))
  many-front n many =
      let few = law (rules_of plan.kept) (take n points) plan.points (can-front (rules_of plan.kept) n points can) (omega (arith, number, fewer n points)) in
      let all : slots ≡ max = room.for_points (omega (arith, many, few)) in
      omega (arith, all, many)

  pub many-phases : (from now : Current) (step : ℕ) → AreMany plan from step slots points now → AreMany plan from step max points now
  many-phases from now step are = record {
    phases = are.phases;
    after = are.after;
    few = omega (arith, are.few, room.few);
    many = many-front (inserted_by now + step) are.many;
  }
