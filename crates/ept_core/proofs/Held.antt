-- The points that are held.
use Rattle.std.proofs.Common.{inl, inr, List, ◌++◌, refl, sym, subst, arith}
use Rattle.std.proofs.lemmas.List.Sorted.{IsPermutation-sym}
use Rattle.ept_point.specs.declared.point.Point.{Point}
use Rattle.ept_space.specs.VoxelKey.{VoxelKey}
use Rattle.ept_space.specs.declared.cube.Rules.{Rules}
use Rattle.ept_sample.specs.Ids.{same_id, HasDistinctIds}
use Rattle.ept_sample.specs.Members.{IsMember}
use Rattle.ept_sample.proofs.Members.{IsMember-left, IsMember-right, IsMember-append, IsMember-flat_map, member-flat_map}
use Rattle.ept_sample.proofs.Ascending.{IsRising}
use Rattle.ept_sample.proofs.KeyOrder.{key_before, IsRising-AllPairs}
use Rattle.ept_sample.proofs.IdLaws.{count_by-append, HasDistinctIds-IsPermutation, IsMember-IsPermutation}
use Rattle.ept_core.specs.declared.flight.Flight.{Flight}
use Rattle.ept_core.specs.declared.node.Node.{Node}
pub use Rattle.ept_core.specs.State.{flown}
use Rattle.ept_core.specs.State.{State, Entry, keys_of, held, IsHeld}
use Rattle.ept_core.specs.Law.{KeepsLaw}
use Rattle.ept_core.proofs.NodeMap.{points_of, node_at-entry, node_at-member}

-- the first points of a list have distinct ids if all have
pub HasDistinctIds-left : (xs ys : List Point) → HasDistinctIds (xs ++ ys) → HasDistinctIds xs
unfolding HasDistinctIds
HasDistinctIds-left xs ys once p = omega (arith, once p, count_by-append (same_id p) xs ys)

-- a point that is held at a key is one of those held
pub held-member : (s : State) (k : VoxelKey) (p : Point) → IsHeld s k p → IsMember p (held s)
held-member s k p (inl m) =
    let e = node_at-entry s.nodes k p m in
    IsMember-left p (points_of s.nodes) (flown s.flights) (IsMember-flat_map (λ (w : Entry). w.1.points) e.0 p s.nodes e.1 (subst (λ (n : Node). IsMember p n.points) (sym e.3) m))
held-member s k p (inr h) =
    IsMember-right p (points_of s.nodes) (flown s.flights) (IsMember-flat_map (λ (w : Flight). w.points) h.0 p s.flights h.1 h.3)

-- and each of those is held at a key
pub member-held : (s : State) (p : Point) → IsRising key_before (keys_of s.nodes) → IsMember p (held s) → (k : VoxelKey) × IsHeld s k p
member-held s p up m =
    elim (IsMember-append p (points_of s.nodes) (flown s.flights) m) [
      | inl l ↦
          let e = member-flat_map (λ (w : Entry). w.1.points) p s.nodes l in
          (e.0.0, inl (subst (λ (n : Node). IsMember p n.points) (sym (node_at-member s.nodes e.0 up e.1)) e.2))
      | inr r ↦ let g = member-flat_map (λ (w : Flight). w.points) p s.flights r in (g.0.key, inr (g.0, g.1, refl, g.2))
    ]

module _ (rules : Rules) (points : List Point) (s : State) (law : KeepsLaw rules points s) where
  -- each held point was drawn, and is one of the points
  pub held-drawn : (k : VoxelKey) (p : Point) → IsHeld s k p → IsMember p law.same_points.0
  held-drawn k p h =
      IsMember-IsPermutation p (held s) law.same_points.0 (IsPermutation-sym law.same_points.0 (held s) law.same_points.1.held_once) (held-member s k p h)

  pub drawn-point : (p : Point) → IsMember p law.same_points.0 → IsMember p points
  drawn-point p m =
      subst (λ (w : List Point). IsMember p w) (sym law.same_points.1.suffix) (IsMember-left p law.same_points.0 s.left m)

  pub held-point : (k : VoxelKey) (p : Point) → IsHeld s k p → IsMember p points
  held-point k p h = drawn-point p (held-drawn k p h)

  pub keys-rise : IsRising key_before (keys_of s.nodes)
  keys-rise = IsRising-AllPairs (keys_of s.nodes) law.tidy.in_order

  -- each drawn point is held
  pub drawn-held : (p : Point) → IsMember p law.same_points.0 → (k : VoxelKey) × IsHeld s k p
  drawn-held p m =
      member-held s p keys-rise (IsMember-IsPermutation p law.same_points.0 (held s) law.same_points.1.held_once m)

  pub distinct-drawn : HasDistinctIds law.same_points.0
  distinct-drawn =
      HasDistinctIds-left law.same_points.0 s.left (subst (λ (w : List Point). HasDistinctIds w) law.same_points.1.suffix law.points_law.distinct)

  -- no id is held twice
  pub distinct-held : HasDistinctIds (held s)
  distinct-held =
      HasDistinctIds-IsPermutation law.same_points.0 (held s) law.same_points.1.held_once distinct-drawn
