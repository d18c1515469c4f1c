use Rattle.std.proofs.Common.{◌≡◌, ◌≤◌, ◌∙◌, List, Bool, ℕ, sym, ap, subst, arith}
use Rattle.ept_point.specs.declared.point.Point.{Point}
use Rattle.ept_space.specs.declared.cube.Rules.{Rules}
use Rattle.ept_space.specs.Place.{Place}
use Rattle.ept_space.specs.VoxelKey.{VoxelKey, IsKey}
use Rattle.ept_space.specs.OctreeCube.{IsCube, InBox, InCube, cell_at}
use Rattle.ept_sample.specs.Place.{place}
use Rattle.ept_sample.specs.Rank.{rank_at, is_better}
use Rattle.ept_sample.specs.Arrivals.{loses}
use Rattle.ept_sample.proofs.Members.{all-member, IsMember-contains}
use Rattle.ept_grid.specs.Winner.{IsCellOf, NoneIn, IsBestIn}
use Rattle.ept_check.proofs.Beating.{inside-cube, cell-of, best-beats, none-beats}
use Rattle.ept_check.proofs.above.loses_in.Goals as goal

-- of a node's rules, as they were read
in-cube : (rules read : Rules) (key : VoxelKey) (at : Place) → read ≡ rules → IsCube read.cube → IsKey key → key.depth ≤ rules.cube.depth → InBox rules.cube key at → InCube read.cube at
in-cube rules read key at same cube a-key low inside =
    subst (λ (r : Rules). InCube r.cube at) (sym same) (inside-cube rules.cube key at (subst (λ (r : Rules). IsCube r.cube) same cube) a-key low inside)

better-read : (rules read : Rules) (depth at : ℕ) (best p : Point) → read ≡ rules → at ≡ depth → is_better (rank_at read at best) (rank_at read at p) ≡ is_better (rank_at rules depth best) (rank_at rules depth p)
better-read rules read depth at best p same deep = λ i. is_better (rank_at (same i) (deep i) best) (rank_at (same i) (deep i) p)

pub cell-cell-requires-clause-in_cube : goal.cell-cell-requires-clause-in_cube
cell-cell-requires-clause-in_cube g c =
    subst (λ (at : Place). InCube c.rules-rules.result.now.cube at) (sym c.place_of.ensures)
    (in-cube c.args.grid.now.rules c.rules-rules.result.now c.args.grid.now.key (place c.args.point.now) c.rules-rules.ensures c.known-2.ensures (subst IsKey c.key-key.ensures (subst IsKey c.key.view_is c.key.invariant)) c.known.ensures.low c.requires.inside)

pub winner-requires : goal.winner-requires
winner-requires g c =
    let rules = c.args.grid.now.rules in
    let key = c.args.grid.now.key in
    let cube : IsCube rules.cube = subst (λ (r : Rules). IsCube r.cube) c.rules-rules.ensures c.known-2.ensures in
    let cell = cell-of rules key (place c.args.point.now) cube c.known.ensures.low c.requires.inside in
    let depth : c.key.inside.depth ≡ key.depth = ap (λ (k : VoxelKey). k.depth) (c.key.view_is ∙ c.key-key.ensures) in
    let same : cell_at rules.cube key.depth (place c.args.point.now) ≡ c.cell-cell.result = sym (c.cell-cell.ensures.cell ∙ (λ i. cell_at (c.rules-rules.ensures i).cube (depth i) (c.place_of.ensures i))) in
    subst (λ (w : List ℕ). IsCellOf rules key w) same cell

pub is_better-requires-clause-first_inside : goal.is_better-requires-clause-first_inside
is_better-requires-clause-first_inside g c =
    in-cube c.args.grid.now.rules c.rules-rules.result.now c.args.grid.now.key (place c.in-Some.best) c.rules-rules.ensures c.known-2.ensures (subst IsKey c.key-key.ensures (subst IsKey c.key.view_is c.key.invariant)) c.known.ensures.low
    (all-member (λ (q : Point). InBox c.args.grid.now.rules.cube c.args.grid.now.key (place q)) c.in-Some.best c.args.grid.now.points c.known.ensures.inside (IsMember-contains c.in-Some.best c.args.grid.now.points c.in-Some.ensures.best.one_of_them))

pub is_better-requires-clause-second_inside : goal.is_better-requires-clause-second_inside
is_better-requires-clause-second_inside g c =
    in-cube c.args.grid.now.rules c.rules-rules.result.now c.args.grid.now.key (place c.args.point.now) c.rules-rules.ensures c.known-2.ensures (subst IsKey c.key-key.ensures (subst IsKey c.key.view_is c.key.invariant)) c.known.ensures.low c.requires.inside

pub returns-in-Some : goal.returns-in-Some
returns-in-Some g c =
    let rules = c.args.grid.now.rules in
    let key = c.args.grid.now.key in
    let depth : c.key.inside.depth ≡ key.depth = ap (λ (k : VoxelKey). k.depth) (c.key.view_is ∙ c.key-key.ensures) in
    let cell : c.cell-cell.result ≡ cell_at rules.cube key.depth (place c.args.point.now) = c.cell-cell.ensures.cell ∙ (λ i. cell_at (c.rules-rules.ensures i).cube (depth i) (c.place_of.ensures i)) in
    let best : IsBestIn rules key.depth (cell_at rules.cube key.depth (place c.args.point.now)) c.args.grid.now.points c.in-Some.best = subst (λ (w : List ℕ). IsBestIn rules key.depth w c.args.grid.now.points c.in-Some.best) cell c.in-Some.ensures.best in
    c.is_better.ensures ∙ (better-read rules c.rules-rules.result.now key.depth c.key.inside.depth c.in-Some.best c.args.point.now c.rules-rules.ensures depth ∙ best-beats rules key.depth c.args.grid.now.points c.args.point.now c.in-Some.best best)

pub returns : goal.returns
returns g c =
    let rules = c.args.grid.now.rules in
    let key = c.args.grid.now.key in
    let depth : c.key.inside.depth ≡ key.depth = ap (λ (k : VoxelKey). k.depth) (c.key.view_is ∙ c.key-key.ensures) in
    let cell : c.cell-cell.result ≡ cell_at rules.cube key.depth (place c.args.point.now) = c.cell-cell.ensures.cell ∙ (λ i. cell_at (c.rules-rules.ensures i).cube (depth i) (c.place_of.ensures i)) in
    none-beats rules key.depth c.args.grid.now.points c.args.point.now (subst (λ (w : List ℕ). NoneIn rules key.depth w c.args.grid.now.points) cell c.in-None.ensures.best)
