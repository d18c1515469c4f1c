-- A folder with the whole output of some points has the plan of each query, and its tiles.
use Rattle.std.proofs.Common.{◌≡◌, ◌∙◌, ℕ, List, [], ◌∷◌, map, filter, Bool, true, sym, ap, subst}
use Rattle.std.specs.List.{AllZip, Contains}
use Rattle.ept_base.specs.Files.{Files}
use Rattle.ept_point.specs.declared.point.Point.{Point}
use Rattle.ept_space.specs.declared.box3.Box3.{Box3}
use Rattle.ept_space.specs.VoxelKey.{VoxelKey}
use Rattle.ept_sample.specs.Members.{IsMember}
use Rattle.ept_sample.specs.Sampling.{sampling}
use Rattle.ept_sample.specs.Nodes.{node_keys, tile_at, sampled}
use Rattle.ept_sample.proofs.Ascending.{IsRising, IsRising-filter}
use Rattle.ept_sample.proofs.KeyOrder.{key_before, AllPairs-IsRising}
use Rattle.ept_sample.proofs.Members.{IsMember-contains, contains-IsMember, IsMember-filter, IsMember-kept, member-map}
use Rattle.ept_sample.proofs.NodeLaws.{IsRising-node_keys}
use Rattle.ept_config.specs.declared.kept.Kept.{Kept}
use Rattle.ept_hier.specs.Hierarchy.{Node, keys_of}
use Rattle.ept_hier.specs.ReadingLaws.{FilesAreReadBack}
use Rattle.ept_meta.specs.Output.{rules_of, counted}
use Rattle.ept_meta.specs.OutputLaws.{BuildFileIsOfOne, PointsCanBeSampled}
use Rattle.ept_save.specs.Complete.{IsComplete}
use Rattle.ept_query.specs.declared.search.Search.{Search}
use Rattle.ept_query.specs.Search.{search_of}
use Rattle.ept_query.specs.Damage.{HasTile}
use Rattle.ept_query.specs.Complete.{IsWholePlan}
use Rattle.ept_query.specs.Parts.{Plan, IsPart, points_of}
use Rattle.ept_query.specs.Rows.{Row, asked_rows}
use Rattle.ept_query.specs.Plan.{IsBuiltWith, EachIsThere, IsPlanned, IsPlan}
use Rattle.ept_query.specs.Planning.{IsPlanFor}
use Rattle.ept_query.specs.CompleteLaws.{TileIsOfOne}
use Rattle.ept_query.proofs.Readings.{some-is}
use Rattle.ept_query.proofs.Laid.{IsLaid, nodes_of, node-at, at-node, each-laid, planned-laid, laid-planned, tile-laid}
use Rattle.ept_query.proofs.Asked.{tile-once, parts-whole}
use Rattle.ept_query.proofs.Whole.{plan-tiles}
use Rattle.ept_query.proofs.FewPoints.{few-of-inputs}
use Rattle.ept_query.proofs.Completing.{output-laid}
use Rattle.ept_query.proofs.Meeting.{is_so, holds, passes, asked-decided}

-- ---- a tile has one list of points

pub tile-of-one : TileIsOfOne
tile-of-one files key count one two has other =
    let bytes : has.bytes ≡ other.bytes = some-is (sym has.there ∙ other.there) in
    tile-once one two (sym has.form.packed ∙ (bytes ∙ other.form.packed))

-- ---- nodes in key order

abbrev pub node_before : Node → Node → Bool
node_before a b = key_before a.0 b.0

pub keys-rise : (nodes : List Node) → IsRising node_before nodes → IsRising key_before (keys_of nodes)
keys-rise [] up = tt
keys-rise (n ∷ nodes) up = (
  λ k m. (let found = member-map (λ (x : Node). x.0) k nodes m in subst (λ (w : VoxelKey). key_before n.0 w ≡ true) found.2 (up.0 found.0 found.1)),
  keys-rise nodes up.1,
)

module _ (kept : Kept) (points : List Point) where
  counted-rise : (keys : List VoxelKey) → IsRising key_before keys → IsRising node_before (map counted (map (tile_at (rules_of kept) points) keys))
  counted-rise [] up = tt
  counted-rise (k ∷ keys) up = (
    λ n m. (
        let tile = member-map counted n (map (tile_at (rules_of kept) points) keys) m in
        let found = member-map (tile_at (rules_of kept) points) tile.0 keys tile.1 in
        subst (λ (x : Node). key_before k x.0 ≡ true) (ap counted found.2 ∙ tile.2) (up.0 found.0 found.1)),
    counted-rise keys up.1,
  )

  nodes-rise : IsRising node_before (nodes_of kept points)
  unfolding nodes_of sampled
  nodes-rise = counted-rise (node_keys (rules_of kept) points) (IsRising-node_keys (rules_of kept) points)

-- ---- the plan

module _ (read-back : FilesAreReadBack) (can-sample : PointsCanBeSampled) (kept : Kept) (points : List Point) (files : Files) (whole : IsComplete kept points files) where
  laid : IsLaid kept points files
  laid = output-laid read-back can-sample kept points files whole.output whole.is_output whole.there whole.points_are.ascend whole.points_are.inside (few-of-inputs kept points whole.points_are)

  module _ (area : Box3) (first last : ℕ) where
    search : Search
    search = search_of kept area first last

    asked : Node → Bool
    asked n = is_so (asked-decided search n.0)

    tiles : List Node
    tiles = filter asked (nodes_of kept points)

    is-plan : IsPlan search files tiles
    unfolding search asked tiles
    is-plan = record {
      ascend = AllPairs-IsRising (keys_of tiles) (keys-rise tiles (IsRising-filter node_before asked (nodes_of kept points) (nodes-rise kept points)));
      each = λ key count. (
        (λ has. (
            let found = IsMember-filter asked (key, count) (nodes_of kept points) (IsMember-contains (key, count) tiles has) in
            let node = node-at kept points key count found.0 in
            let wanted = holds (asked-decided search key) found.1 in
            subst (λ (n : ℕ). IsPlanned search files key n) (sym node.1) (laid-planned kept points files area first last laid key node.0 wanted.0 wanted.1))),
        (λ planned. (
            let node = planned-laid kept points files area first last laid key count planned in
            let there = subst (λ (n : ℕ). IsMember (key, n) (nodes_of kept points)) (sym node.1) (at-node kept points key laid.can node.0) in
            contains-IsMember (key, count) tiles (IsMember-kept asked (key, count) (nodes_of kept points) (passes (asked-decided search key) (planned.has_depth, planned.meets)) there))),
      );
    }

    module _ (build-once : BuildFileIsOfOne) where
      one-build : (other : Kept) → IsBuiltWith files other → kept ≡ other
      one-build other built = build-once kept other (some-is (sym laid.built ∙ built))

      pub has-plan : (nodes : List Node) × IsPlanFor area first last (record { area = area; tiles = nodes }) files
      unfolding search
      has-plan = (
        tiles,
        record {
          done = whole.done;
          build = (kept, laid.built);
          each = λ other built. subst (λ (k : Kept). EachIsThere (search_of k area first last) files) (one-build other built) (each-laid kept points files area first last laid);
          tiles = λ other built. subst (λ (k : Kept). IsPlan (search_of k area first last) files tiles) (one-build other built) is-plan;
        },
      )

    -- ---- its tiles

    pub has-tiles : (plan : Plan) → IsPlanFor area first last plan files → (node : Node) → Contains plan.tiles node → HasTile files node.0 node.1 (sampling (rules_of kept) points node.0)
    has-tiles plan is-for node there =
        tile-laid kept points files area first last laid node.0 node.1 (((is-for.tiles kept laid.built).each node.0 node.1).0 there)

    -- ---- what they are

    pub plans-whole : (plan : Plan) → IsPlanFor area first last plan files → IsWholePlan kept points area first last plan.tiles
    plans-whole plan is-for =
        plan-tiles read-back can-sample kept points area first last files whole plan.tiles (is-for.tiles kept laid.built)

    pub plans-answer : (plan : Plan) → IsPlanFor area first last plan files → (parts : List (List Point)) → AllZip (IsPart files area) plan.tiles parts → points_of parts ≡ map (λ (row : Row). row.1) (asked_rows kept points area first last)
    plans-answer plan is-for parts read =
        parts-whole kept points files area first last laid plan.tiles (is-for.tiles kept laid.built) parts read
