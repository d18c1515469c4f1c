-- The best point of a cell beats a point of the cell if and only if one of the points does.
use Rattle.std.proofs.Common.{◌≡◌, ◌∙◌, ◌+◌, ◌-◌, ◌/◌, ◌^◌, ◌<◌, ◌≤◌, ℕ, Bool, true, false, inl, inr, List, [], ◌∷◌, refl, sym, ap, subst, arith}
use Rattle.std.specs.List.{All, list_any}
use Rattle.std.proofs.lemmas.Bool.{false≢true}
use Rattle.ept_point.specs.declared.point.Point.{Point}
use Rattle.ept_space.specs.declared.cube.Rules.{Rules}
use Rattle.ept_space.specs.VoxelKey.{VoxelKey, IsKey}
use Rattle.ept_space.specs.Place.{Place}
use Rattle.ept_space.specs.OctreeCube.{OctreeCube, IsCube, InBox, InCube, offset, key_at, cell_at, same_cell}
use Rattle.ept_space.proofs.Axis.{index-coarser}
use Rattle.ept_space.proofs.PlaceKeys.{key_at-box, InCube-box}
use Rattle.ept_sample.specs.Place.{place, AllInBox}
use Rattle.ept_sample.specs.Rank.{Rank, rank_at, is_better, beats}
use Rattle.ept_sample.specs.Arrivals.{loses}
use Rattle.ept_sample.specs.Members.{IsMember}
use Rattle.ept_sample.proofs.Choices.{either, not_both}
use Rattle.ept_sample.proofs.Members.{member-any, any-member, all-member, IsMember-contains}
use Rattle.ept_sample.proofs.RankLaws.{is_better-trans, is_better-total, beats-cell, beats-rank, beats-from}
use Rattle.ept_grid.specs.Winner.{IsCellOf, lies_in, NoneIn, IsBestIn}

pub inside-cube : (cube : OctreeCube) (key : VoxelKey) (at : Place) → IsCube cube → IsKey key → key.depth ≤ cube.depth → InBox cube key at → InCube cube at
inside-cube cube key at is a-key low inside =
    let whole = is.cells_whole in InCube-box cube key at a-key (omega (arith, whole, low)) inside

coarse : (n e d s index : ℕ) → d + s ≤ e → n / 2 ^ (e - d) ≡ index → n / 2 ^ (e - d - s) / 2 ^ s ≡ index
coarse n e d s index fits is =
    let step = index-coarser n (e - d - s) (e - d) (omega arith) in
    let back : s ≡ (e - d) - (e - d - s) = omega (arith, fits) in
    ap (λ (k : ℕ). n / 2 ^ (e - d - s) / 2 ^ k) back ∙ (sym step ∙ is)

-- the cell of a point in a node's box is one of the node's
pub cell-of : (rules : Rules) (key : VoxelKey) (at : Place) → IsCube rules.cube → key.depth ≤ rules.cube.depth → InBox rules.cube key at → IsCellOf rules key (cell_at rules.cube key.depth at)
unfolding cell_at key_at
cell-of rules key at is low inside =
    let whole = is.cells_whole in
    let fits : key.depth + rules.cube.s ≤ rules.cube.e = omega (arith, whole, low) in
    let same = key_at-box rules.cube key at inside in
    record {
      x = coarse (offset rules.cube at 0) rules.cube.e key.depth rules.cube.s key.x fits (ap (λ (k : VoxelKey). k.x) same);
      y = coarse (offset rules.cube at 1) rules.cube.e key.depth rules.cube.s key.y fits (ap (λ (k : VoxelKey). k.y) same);
      z = coarse (offset rules.cube at 2) rules.cube.e key.depth rules.cube.s key.z fits (ap (λ (k : VoxelKey). k.z) same);
    }

-- a point lies in the cell of another if the two share it
lies : (rules : Rules) (depth : ℕ) (p q : Point) → lies_in rules depth (cell_at rules.cube depth (place p)) q ≡ same_cell rules.cube depth (place q) (place p)
unfolding cell_at same_cell
lies rules depth p q = refl

better-both : (a b c : Rank) → is_better a b ≡ true → is_better a c ≡ false → is_better c b ≡ true
better-both a b c less not-less =
    elim (either (is_better c a)) [
      | inl more ↦ is_better-trans c a b more less
      | inr none ↦
          let level = is_better-total a c not-less none in
          let same : a ≡ c = (λ i. record { group = level.0 i; distance = level.1 i; origin = level.2 i; number = level.3 i }) in
          subst (λ (r : Rank). is_better r b ≡ true) same less
    ]

module _ (rules : Rules) (depth : ℕ) (points : List Point) (p : Point) where
  -- a point that beats it
  beaten : loses rules depth points p ≡ true → (q : Point) × IsMember q points × (beats rules depth q p ≡ true)
  unfolding loses
  beaten some = member-any (λ (q : Point). beats rules depth q p) points some

  beaten-by : (q : Point) → IsMember q points → beats rules depth q p ≡ true → loses rules depth points p ≡ true
  unfolding loses
  beaten-by q m is = any-member (λ (w : Point). beats rules depth w p) q points m is

  shares : (q : Point) → beats rules depth q p ≡ true → lies_in rules depth (cell_at rules.cube depth (place p)) q ≡ true
  shares q is = lies rules depth p q ∙ beats-cell rules depth q p is

  pub best-beats : (best : Point) → IsBestIn rules depth (cell_at rules.cube depth (place p)) points best → is_better (rank_at rules depth best) (rank_at rules depth p) ≡ loses rules depth points p
  best-beats best is =
      elim (either (is_better (rank_at rules depth best) (rank_at rules depth p))) [
        | inl better ↦
            better ∙ sym (beaten-by best (IsMember-contains best points is.one_of_them) (beats-from rules depth best p (sym (lies rules depth p best) ∙ is.in_cell) better))
        | inr worse ↦ worse ∙ sym (none worse)
      ]
    where
      none : is_better (rank_at rules depth best) (rank_at rules depth p) ≡ false → loses rules depth points p ≡ false
      none worse =
          elim (either (loses rules depth points p)) [
            | inr fails ↦ fails
            | inl some ↦
                let q = beaten some in
                let not-better = all-member (λ (w : Point). lies_in rules depth (cell_at rules.cube depth (place p)) w ≡ true → is_better (rank_at rules depth w) (rank_at rules depth best) ≡ false) q.0 points is.best q.1 (shares q.0 q.2) in
                absurd (not_both (is_better (rank_at rules depth best) (rank_at rules depth p)) (better-both (rank_at rules depth q.0) (rank_at rules depth p) (rank_at rules depth best) (beats-rank rules depth q.0 p q.2) not-better) worse)
          ]

  pub none-beats : NoneIn rules depth (cell_at rules.cube depth (place p)) points → false ≡ loses rules depth points p
  none-beats none =
      elim (either (loses rules depth points p)) [
        | inr fails ↦ sym fails
        | inl some ↦
            let q = beaten some in
            absurd (not_both (lies_in rules depth (cell_at rules.cube depth (place p)) q.0) (shares q.0 q.2) (all-member (λ (w : Point). lies_in rules depth (cell_at rules.cube depth (place p)) w ≡ false) q.0 points none q.1))
      ]
