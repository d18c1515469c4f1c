-- Nodes without a fault are the sampling of their points, and the other way.
use Rattle.std.proofs.Common.{◌≡◌, ◌≢◌, ◌∙◌, ◌<◌, ℕ, Bool, true, false, inl, inr, ◌⊎◌, List, length, refl, sym, ap, subst, arith, Ordering, Less, Equal, Greater}
use Rattle.std.specs.List.{All}
use Rattle.std.specs.Ordering.{nat_cmp, ordering_reverse}
use Rattle.std.specs.Cmp.Lexicographic.{slice_cmp}
use Rattle.std.proofs.lemmas.Bool.{false≢true}
use Rattle.std.proofs.lemmas.Cmp.{nat_list_cmp_total, tied_itself}
use Rattle.ept_base.specs.Files.{Files}
use Rattle.ept_point.specs.declared.point.Point.{Point}
use Rattle.ept_space.specs.declared.cube.Rules.{Rules}
use Rattle.ept_space.specs.VoxelKey.{VoxelKey, IsKey, root, child, is_within, is_below, AreAscending}
use Rattle.ept_space.specs.OctreeCube.{IsCube}
use Rattle.ept_sample.specs.declared.tiles.Tile.{Tile}
use Rattle.ept_sample.specs.Ids.{same_id, HasDistinctIds}
use Rattle.ept_sample.specs.Arrivals.{loses}
use Rattle.ept_sample.specs.Members.{IsMember}
use Rattle.ept_sample.specs.Nodes.{sampled}
use Rattle.ept_sample.proofs.KeyOrder.{IsRising-AllPairs}
use Rattle.ept_sample.proofs.IdLaws.{HasDistinctIds-IsAscending}
use Rattle.ept_sample.proofs.Members.{all-member, All-members, IsMember-map, member-map}
use Rattle.ept_hier.specs.Hierarchy.{Node, keys_of}
use Rattle.ept_query.specs.Damage.{HasTile}
use Rattle.ept_query.specs.CompleteLaws.{TileIsOfOne}
use Rattle.ept_query.specs.Listed.{HasTilesOf}
use Rattle.ept_fit.specs.Fit as fit
use Rattle.ept_fit.specs.Fit.{keys_in, points_in, points_within, is_among, has_child, AreFit}
use Rattle.ept_fit.specs.FitLaws.{FitIsSampled, SampledIsFit}
use Rattle.ept_check.specs.declared.fault.Fault.{Fault}
use Rattle.ept_check.specs.declared.fault.Fault.TheVariants.{Orphan, Outside, OpenLoser, TooMany, Above, Few, Empty, Twice}
use Rattle.ept_check.specs.Nodes.{counted_within, AreInOctree, ComesBefore, HasNode}
use Rattle.ept_check.specs.Facts.{Holds}
use Rattle.ept_check.specs.Folder.{IsFit, IsFaultless}
use Rattle.ept_check.specs.Verdicts.{AreFaultless}
use Rattle.ept_check.proofs.Tiled.{tiled-keys, tile-node, node-tile, tiles-for, count-once, node-once, counted-within, counted-all}
use Rattle.ept_check.proofs.Apart.{AreApart, turned, distinct-apart, apart-distinct}
use Rattle.ept_check.proofs.Paths.{one-first, before-self}

module _ (once : TileIsOfOne) (rules : Rules) (files : Files) (nodes : List Node) where
  -- ---- without a fault

  module _ (cube : IsCube rules.cube) (ascend : AreAscending (keys_of nodes)) (in_octree : AreInOctree rules nodes) (rooted : is_among (keys_of nodes) root ≡ true) (points count : ℕ) (none : AreFaultless rules files nodes points count) where
    there : (tiles : List Tile) × HasTilesOf files nodes tiles
    there = tiles-for files nodes (λ n m. (
        let f = none.each n.0 (IsMember-map (λ (x : Node). x.0) n nodes m) in
        let same = count-once nodes ascend n.0 f.has.count n.1 f.has.listed m in
        (f.points, subst (λ (c : ℕ). HasTile files n.0 c f.points) same f.has.tile)))

    tiles : List Tile
    tiles = there.0

    has : HasTilesOf files nodes tiles
    unfolding tiles
    has = there.1

    same-keys : keys_of nodes ≡ keys_in tiles
    same-keys = sym (tiled-keys files nodes tiles has)

    -- each fact of a tile
    fact : (t : Tile) → IsMember t tiles → (f : Fault) → Holds rules files nodes t.key t.points f
    fact t m f =
        let node = tile-node files nodes tiles has t m in
        let found = none.each t.key (IsMember-map (λ (x : Node). x.0) (t.key, node.count) nodes node.listed) in
        let same = node-once once files nodes ascend t.key found.points t.points found.has node in
        subst (λ (ps : List Point). Holds rules files nodes t.key ps f) same (found.holds f)

    key-of : (t : Tile) → IsMember t tiles → IsKey t.key
    key-of t m =
        let node = tile-node files nodes tiles has t m in
        (all-member (fit.IsInOctree rules) t.key (keys_of nodes) in_octree (IsMember-map (λ (x : Node). x.0) (t.key, node.count) nodes node.listed)).0

    -- no id of a tile is in a tile before it
    new : (t u : Tile) → IsMember t tiles → IsMember u tiles → ComesBefore u.key t.key → (p q : Point) → IsMember p t.points → IsMember q u.points → same_id p q ≡ false
    new t u m n less p q a b =
        all-member (λ (y : Point). same_id p y ≡ false) q u.points (all-member (λ (x : Point). All (λ (y : Point). same_id x y ≡ false) u.points) p t.points (fact t m Twice u.key u.points (tile-node files nodes tiles has u n) less) a) b

    apart : AreApart tiles
    apart t u m n other p q a b = by_order (one-first t.key u.key (key-of t m) (key-of u n) other)
      where
        by_order : ComesBefore t.key u.key ⊎ ComesBefore u.key t.key → same_id p q ≡ false
        by_order (inl less) = turned p q (new u t n m less q p b a)
        by_order (inr more) = new t u m n more p q a b

    are-fit : AreFit rules tiles
    are-fit = record {
      cube = cube;
      ascend = subst AreAscending same-keys ascend;
      keys = subst (λ (ks : List VoxelKey). All (fit.IsInOctree rules) ks) same-keys in_octree;
      rooted = subst (λ (ks : List VoxelKey). is_among ks root ≡ true) same-keys rooted;
      parents = subst (λ (ks : List VoxelKey). All (fit.HasParent ks) ks) same-keys none.parents;
      inside = All-members (fit.LiesInBox rules) tiles (λ t m. fact t m Outside);
      winners = All-members (fit.HasNoOpenLoser rules (keys_in tiles)) tiles (λ t m. subst (λ (ks : List VoxelKey). fit.HasNoOpenLoser rules ks t) same-keys (fact t m OpenLoser));
      few_losers = All-members (fit.HasFewLosers rules (keys_in tiles)) tiles (λ t m. subst (λ (ks : List VoxelKey). fit.HasFewLosers rules ks t) same-keys (fact t m TooMany));
      passed = All-members (fit.LosesAbove rules tiles) tiles (λ t m. All-members (λ (top : Tile). is_below top.key t.key ≡ true → All (λ (p : Point). loses rules top.key.depth top.points p ≡ true) t.points) tiles (λ top n. fact t m Above top.key top.points (tile-node files nodes tiles has top n)));
      many = All-members (fit.HasFullChildren rules tiles) tiles (λ t m o small is-open. subst (λ (k : ℕ). rules.threshold < k) (counted-within files nodes tiles (child t.key o) has) (fact t m Few o small (subst (λ (ks : List VoxelKey). has_child ks t.key o ≡ true) (sym same-keys) is-open)));
      filled = All-members fit.IsFilled tiles (λ t m. fact t m Empty);
      in_order = All-members fit.IsInOrder tiles (λ t m. (tile-node files nodes tiles has t m).tile.form.ascend);
      once = apart-distinct tiles (IsRising-AllPairs (keys_in tiles) (subst AreAscending same-keys ascend)) (λ t m. HasDistinctIds-IsAscending t.points (tile-node files nodes tiles has t m).tile.form.ascend) apart;
    }

    pub faultless-fit : FitIsSampled → IsFit rules files nodes points count
    faultless-fit law =
        let is = law rules tiles are-fit in
        record {
          tiles = tiles;
          there = has;
          can = is.0;
          sampling = is.1;
          points_are = none.points_are ∙ counted-all files nodes tiles has;
          count_is = none.count_is;
        }

  -- ---- the other way

  module _ (tiles : List Tile) (has : HasTilesOf files nodes tiles) (is : AreFit rules tiles) where
    keys-same : keys_in tiles ≡ keys_of nodes
    keys-same = tiled-keys files nodes tiles has

    -- a node above is a tile
    above : (t : Tile) → IsMember t tiles → (top : VoxelKey) (tops : List Point) → HasNode files nodes top tops → is_below top t.key ≡ true → All (λ (p : Point). loses rules top.depth tops p ≡ true) t.points
    above t m top tops node below =
        let u = node-tile once files nodes tiles has top tops node in
        let passed = all-member (λ (w : Tile). is_below w.key t.key ≡ true → All (λ (p : Point). loses rules w.key.depth w.points p ≡ true) t.points) u.0 tiles (all-member (fit.LosesAbove rules tiles) t tiles is.passed m) u.1 in
        subst (λ (k : VoxelKey). All (λ (p : Point). loses rules k.depth tops p ≡ true) t.points) u.2
        (subst (λ (ps : List Point). All (λ (p : Point). loses rules u.0.key.depth ps p ≡ true) t.points) u.3
        (passed (subst (λ (k : VoxelKey). is_below k t.key ≡ true) (sym u.2) below)))

    before : (t : Tile) → IsMember t tiles → (other : VoxelKey) (others : List Point) → HasNode files nodes other others → ComesBefore other t.key → All (λ (p : Point). All (λ (q : Point). same_id p q ≡ false) others) t.points
    before t m other others node less =
        let u = node-tile once files nodes tiles has other others node in
        let distinct = t.key ≢ u.0.key in
        let differ : distinct = λ same. before-self other (subst (λ (k : VoxelKey). ComesBefore other k) (same ∙ u.2) less) in
        All-members (λ (p : Point). All (λ (q : Point). same_id p q ≡ false) others) t.points (λ p a.
        All-members (λ (q : Point). same_id p q ≡ false) others (λ q b.
        distinct-apart tiles is.once t u.0 m u.1 differ p q a (subst (λ (ps : List Point). IsMember q ps) (sym u.3) b)))

    holds : (t : Tile) → IsMember t tiles → (f : Fault) → Holds rules files nodes t.key t.points f
    holds t m Orphan = subst (λ (ks : List VoxelKey). fit.HasParent ks t.key) keys-same (all-member (fit.HasParent (keys_in tiles)) t.key (keys_in tiles) is.parents (IsMember-map (λ (x : Tile). x.key) t tiles m))
    holds t m Outside = all-member (fit.LiesInBox rules) t tiles is.inside m
    holds t m OpenLoser = subst (λ (ks : List VoxelKey). fit.HasNoOpenLoser rules ks t) keys-same (all-member (fit.HasNoOpenLoser rules (keys_in tiles)) t tiles is.winners m)
    holds t m TooMany = subst (λ (ks : List VoxelKey). fit.HasFewLosers rules ks t) keys-same (all-member (fit.HasFewLosers rules (keys_in tiles)) t tiles is.few_losers m)
    holds t m Above = above t m
    holds t m Few = λ o small is-open. subst (λ (k : ℕ). rules.threshold < k) (sym (counted-within files nodes tiles (child t.key o) has)) (all-member (fit.HasFullChildren rules tiles) t tiles is.many m o small (subst (λ (ks : List VoxelKey). has_child ks t.key o ≡ true) (sym keys-same) is-open))
    holds t m Empty = all-member fit.IsFilled t tiles is.filled m
    holds t m Twice = before t m

    faultless : (key : VoxelKey) → IsMember key (keys_of nodes) → IsFaultless rules files nodes key
    faultless key m =
        let t = member-map (λ (x : Tile). x.key) key tiles (subst (λ (ks : List VoxelKey). IsMember key ks) (sym keys-same) m) in
        subst (λ (k : VoxelKey). IsFaultless rules files nodes k) t.2 (record {
          points = t.0.points;
          has = tile-node files nodes tiles has t.0 t.1;
          holds = holds t.0 t.1;
        })

  pub fit-faultless : SampledIsFit → (points count : ℕ) → IsFit rules files nodes points count → AreFaultless rules files nodes points count
  fit-faultless law points count is =
      let fits : AreFit rules is.tiles = subst (λ (ts : List Tile). AreFit rules ts) (sym is.sampling) (law rules (points_in is.tiles) is.can) in
      record {
        parents = subst (λ (ks : List VoxelKey). All (fit.HasParent ks) ks) (tiled-keys files nodes is.tiles is.there) fits.parents;
        each = faultless is.tiles is.there fits;
        points_are = is.points_are ∙ sym (counted-all files nodes is.tiles is.there);
        count_is = is.count_is;
      }
