-- Trials of the same number of points have the same result.
use Rattle.std.proofs.Common.{◌≡◌, ◌∙◌, ℕ, List, refl, sym, ap, subst}
use Rattle.std.specs.Prelude.{map, ◌%◌, ◌^◌, length}
use Rattle.ept_space.specs.VoxelKey.{VoxelKey}
use Rattle.ept_sample.specs.Nodes.{node_keys}
use Rattle.ept_point.specs.declared.point.Point.{Point}
use Rattle.ept_point.specs.Laws.{IsPackedFormOfOne}
use Rattle.ept_point.specs.Packed.{packed, field_bytes}
use Rattle.ept_sample.specs.Ids.{comes_before}
use Rattle.ept_sample.specs.Members.{IsMember}
use Rattle.ept_sample.proofs.Ascending.{same_rising}
use Rattle.ept_sample.proofs.IdLaws.{id_order, IsRising-IsAscending}
use Rattle.ept_trial.specs.declared.trial.Trial.{Trial}
use Rattle.ept_trial.specs.Trials.{IsTrialPoint, AreTrialPoints, trial_rules, greatest, sum_of_bytes, IsTrialOf, TrialIsOne}
use Rattle.ept_trial.proofs.Containing.{contains-member, member-contains}

module _ (packed-one : IsPackedFormOfOne) where
  -- point i is one
  same-point : (count i : ℕ) (p q : Point) → IsTrialPoint count i p → IsTrialPoint count i q → p ≡ q
  unfolding packed field_bytes
  same-point count i p q h g =
      packed-one p q (rw (h.x_is, h.y_is, h.z_is, h.intensity_is, h.return_number_is, h.number_of_returns_is, h.scan_direction_is, h.edge_is, h.class_is, h.class_flags_is, h.channel_is, h.angle_rank_is, h.angle_is, h.user_is, h.source_id_is, h.gps_is, h.red_is, h.green_is, h.blue_is, h.origin_is, h.number_is, g.x_is, g.y_is, g.z_is, g.intensity_is, g.return_number_is, g.number_of_returns_is, g.scan_direction_is, g.edge_is, g.class_is, g.class_flags_is, g.channel_is, g.angle_rank_is, g.angle_is, g.user_is, g.source_id_is, g.gps_is, g.red_is, g.green_is, g.blue_is, g.origin_is, g.number_is) refl)

  among : (count : ℕ) (a b : List Point) → AreTrialPoints count a → AreTrialPoints count b → (p : Point) → IsMember p a → IsMember p b
  among count a b is_a is_b p m =
      let one = is_a.only p (member-contains a p m) in
      let other = is_b.each one.0 one.1 in
      subst (λ (q : Point). IsMember q b) (same-point count one.0 other.0 p other.2 one.2) (contains-member b other.0 other.1)

  points-one : (count : ℕ) (a b : List Point) → AreTrialPoints count a → AreTrialPoints count b → a ≡ b
  points-one count a b is_a is_b =
      same_rising comes_before id_order a b (IsRising-IsAscending a is_a.ascend) (IsRising-IsAscending b is_b.ascend) (among count a b is_a is_b) (among count b a is_b is_a)

  of-points : (count : ℕ) (a b : Trial) (is_a : IsTrialOf count a) (is_b : IsTrialOf count b) → is_b.points ≡ is_a.points → a ≡ b
  of-points count a b is_a is_b same =
      let points : a.points ≡ b.points = is_a.points_are ∙ sym is_b.points_are in
      let nodes : a.nodes ≡ b.nodes = is_a.nodes_are ∙ sym (is_b.nodes_are ∙ ap (λ (w : List Point). length (node_keys trial_rules w)) same) in
      let depth : a.depth ≡ b.depth = is_a.depth_is ∙ sym (is_b.depth_is ∙ ap (λ (w : List Point). greatest (map (λ (key : VoxelKey). key.depth) (node_keys trial_rules w))) same) in
      let sum : a.sum ≡ b.sum = is_a.sum_is ∙ sym (is_b.sum_is ∙ ap (λ (w : List Point). sum_of_bytes w % 2 ^ 64) same) in
      λ i. record { points = points i; nodes = nodes i; depth = depth i; sum = sum i }

  pub trial-one : TrialIsOne
  trial-one count a b is_a is_b = of-points count a b is_a is_b (points-one count is_b.points is_a.points is_b.are is_a.are)
