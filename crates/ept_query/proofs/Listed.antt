-- All nodes of a folder: there is one list of them, the root is there, and those of a complete folder are the
-- sampling's.
use Rattle.std.proofs.Common.{◌≡◌, ◌≢◌, ◌∙◌, ◌-◌, ◌*◌, ◌^◌, ◌<◌, ◌≤◌, ℕ, zero, suc, ℤ, pos, negsuc, ◌+ℤ◌, List, [], ◌∷◌, length, get_or, map, refl, sym, ap, subst, inl, inr, arith, Option, Some, None, Result, Ok, Err, Bool, true, false}
use Rattle.std.specs.Prelude.{IfOk, IfErr, FitsSigned, if◌then◌else◌}
use Rattle.std.specs.Int.Signed.{lt_z}
use Rattle.std.specs.List.{All, Any, Contains}
use Rattle.std.specs.Int.{w32}
use Rattle.std.proofs.lemmas.Bool.Decides.{nat_tests}
use Rattle.std.proofs.lemmas.Int.{ints}
use Rattle.std.proofs.lemmas.Nat.{pow_pos}
use Rattle.std.proofs.lemmas.List.Elements.{All-contains}
use Rattle.std.proofs.lemmas.List.Sorted.{IsPermutation-sym, Contains-permutation}
use Rattle.std.specs.Option.{option_and_then}
use Rattle.serde_json.specs.Data.{Data, null}
use Rattle.serde_json.specs.Find.{as_i64, as_number}
use Rattle.ept_base.specs.Files.{Files, Tells}
use Rattle.ept_point.specs.declared.point.Point.{Point}
use Rattle.ept_space.specs.declared.cube.Rules.{Rules}
use Rattle.ept_space.specs.Place.{Place, coordinate}
use Rattle.ept_space.specs.VoxelKey.{VoxelKey, IsKey, root}
use Rattle.ept_space.specs.OctreeCube.{IsCube, IsFrom, InBox, box_side}
use Rattle.ept_space.specs.ClosedBox.{IsBetween}
use Rattle.ept_space.proofs.Extents.{IsCube-cube_of}
use Rattle.ept_space.proofs.Intervals.{near-code}
use Rattle.ept_sample.specs.Members.{IsMember}
use Rattle.ept_sample.specs.Sampling.{sampling, is_node}
use Rattle.ept_sample.specs.Nodes.{node_keys, tile_at, sampled}
use Rattle.ept_sample.proofs.Ascending.{IsRising, same_rising}
use Rattle.ept_sample.proofs.KeyOrder.{key_before, key_order, IsRising-AllPairs}
use Rattle.ept_sample.proofs.Members.{IsMember-contains, contains-IsMember, IsMember-map, member-map, All-members}
use Rattle.ept_sample.proofs.NodeLaws.{node_keys-is}
use Rattle.ept_sample.proofs.SamplingLaws.{IsKey-root, node-IsKey, node-depth}
use Rattle.ept_hier.specs.Hierarchy.{Entry, Node, keys_of}
use Rattle.ept_hier.specs.Reading.{IsReading, IsEntryOf, Member, number_in}
use Rattle.ept_hier.specs.ReadingLaws.{FilesAreReadBack}
use Rattle.ept_meta.specs.Output.{rules_of}
use Rattle.ept_meta.specs.OutputLaws.{PointsCanBeSampled}
use Rattle.ept_query.specs.declared.search.Search.{Search}
use Rattle.ept_query.specs.declared.listing.AllNodes.{AllNodes}
use Rattle.ept_query.specs.declared.listing.TheConstants.{EVERYWHERE}
use Rattle.ept_query.specs.declared.query_error.QueryError.{QueryError}
use Rattle.ept_query.specs.Search.{rules_in}
use Rattle.ept_query.specs.Hierarchies.{IsEntryIn, IsOwn}
use Rattle.ept_query.specs.Plan.{IsNeeded, at_root, IsPlanned, IsPlan}
use Rattle.ept_query.specs.Damage.{HasTile}
use Rattle.ept_query.specs.Planning.{IsSearchFor, IsPlanFor}
use Rattle.ept_query.specs.Refusals.{RefusesPlan, CallsOfPlan, RefusesAsCalled}
use Rattle.ept_query.specs.Listed.{search_all, HasNodes, HasTilesOf, EverywhereIsMet, NodesAreOfOne, RootIsThere, NodesAreInOctree, PlanIsUncalled, PlanIsCalledOnce, NodesAreGot, CompleteHasNodes}
use Rattle.ept_query.proofs.Readings.{some-is, then-is, zip-at, each-key}
use Rattle.ept_query.proofs.Told.{tells-from, told}
use Rattle.ept_query.proofs.Querying.{plan-query, gets-tiles}
use Rattle.ept_query.proofs.Calling.{plan-uncalled, called-once, of-plan, refusal-as}
use Rattle.ept_query.proofs.FewPoints.{few-of-inputs}
use Rattle.ept_query.proofs.Completing.{output-laid}
use Rattle.ept_query.proofs.CompletePlans.{node_before, plans-whole, has-tiles}

-- ---- wherever a node lies

-- a box has a least coordinate on an axis, which is of 64 bits
axis-met : (corner : ℤ) (index depth e : ℕ) → FitsSigned w32 corner → index < 2 ^ depth → depth ≤ e → e ≤ 32 → IsFrom (corner +ℤ pos (index * 2 ^ (e - depth))) (2 ^ (e - depth)) (corner +ℤ pos (index * 2 ^ (e - depth))) × IsBetween (coordinate EVERYWHERE.min 0) (coordinate EVERYWHERE.max 0) (corner +ℤ pos (index * 2 ^ (e - depth)))
axis-met corner index depth e fits within deep small =
    let some = pow_pos (e - depth) in
    let near = near-code index depth e (e - depth) within refl deep small in
    ((omega (arith, ints), omega (arith, ints, some)), (omega (arith, ints, near), omega (arith, ints, near)))

pub everywhere-met : EverywhereIsMet
unfolding InBox
everywhere-met kept key is shallow =
    let cube = (search_all kept).cube in
    let c = IsCube-cube_of kept.bounds kept.s kept.max_depth kept.layout.span_least kept.layout.span_most kept.has_bounds.min_is.x kept.has_bounds.min_is.y kept.has_bounds.min_is.z in
    let whole = c.cells_whole in
    let deep : key.depth ≤ cube.e = omega (arith, whole, shallow) in
    let on-x = axis-met (coordinate cube.corner 0) key.x key.depth cube.e c.corner_x is.x_in deep c.side_high in
    let on-y = axis-met (coordinate cube.corner 1) key.y key.depth cube.e c.corner_y is.y_in deep c.side_high in
    let on-z = axis-met (coordinate cube.corner 2) key.z key.depth cube.e c.corner_z is.z_in deep c.side_high in
    let side = box_side cube key.depth in
    let at : Place = (coordinate cube.corner 0 +ℤ pos (key.x * side)) ∷ (coordinate cube.corner 1 +ℤ pos (key.y * side)) ∷ (coordinate cube.corner 2 +ℤ pos (key.z * side)) ∷ [] in
    (at, record { x = on-x.0; y = on-y.0; z = on-z.0 }, record { x = on-x.1; y = on-y.1; z = on-z.1 })

-- ---- one list

node-order : (a b : Node) → node_before a b ≡ true → key_before a.0 b.0 ≡ true
node-order a b is = is

nodes-rising : (nodes : List Node) → IsRising key_before (keys_of nodes) → IsRising node_before nodes
nodes-rising [] up = tt
nodes-rising (n ∷ nodes) up = ((λ m there. up.0 m.0 (IsMember-map (λ (x : Node). x.0) m nodes there)), nodes-rising nodes up.1)

plan-once : (search : Search) (files : Files) (one two : List Node) → IsPlan search files one → IsPlan search files two → one ≡ two
plan-once search files one two a b =
    same_rising node_before
    (record { none_itself = λ x. key_order.none_itself x.0; goes_on = λ x y z. key_order.goes_on x.0 y.0 z.0 })
    one two
    (nodes-rising one (IsRising-AllPairs (keys_of one) a.ascend))
    (nodes-rising two (IsRising-AllPairs (keys_of two) b.ascend))
    (λ n m. moved one two a b n m)
    (λ n m. moved two one b a n m)
  where
    moved : (from to : List Node) → IsPlan search files from → IsPlan search files to → (n : Node) → IsMember n from → IsMember n to
    moved from to x y n m = IsMember-contains n to ((y.each n.0 n.1).1 ((x.each n.0 n.1).0 (contains-IsMember n from m)))

pub nodes-once : NodesAreOfOne
nodes-once files rules rules' nodes nodes' a b =
    let kept = a.plan.build.0 in
    let built = a.plan.build.1 in
    (a.rules_are kept built ∙ sym (b.rules_are kept built), plan-once (search_all kept) files nodes nodes' (a.plan.tiles kept built) (b.plan.tiles kept built))

-- ---- the root

count-of : (value : Data) (z : ℤ) → number_in value ≡ Some z → z ≢ negsuc 0 → (n : ℕ) × (z ≡ pos n)
unfolding number_in
count-of value z is other =
    let found = then-is (λ (x : ℤ). if lt_z x (negsuc 0) then None else Some x) (option_and_then as_i64 (as_number value)) z is in
    by_number found.0 found.2
  where
    by_number : (x : ℤ) → (if lt_z x (negsuc 0) then None else Some x) ≡ Some z → (n : ℕ) × (z ≡ pos n)
    by_number (pos n) at = (n, sym (some-is at))
    by_number (negsuc zero) at = absurd (other (sym (some-is at)))
    by_number (negsuc (suc m)) at = absurd (less (lt_z (negsuc (suc m)) (negsuc 0)) (grind (arith, nat_tests)) at)
      where
        less : (b : Bool) → b ≡ true → (if b then None else Some (negsuc (suc m))) ≡ Some z → ⊥
        less true e at = let wrong : None ≡ Some z = at in cc
        less false e at = cc

own-count : (bytes : List ℕ) (entries : List Entry) (key : VoxelKey) → IsReading bytes entries → Any (IsOwn key) entries → (n : ℕ) × Contains entries (key, pos n)
own-count bytes entries key reading own =
    let x : Entry = own.1 in
    let has : Contains entries x = (own.0, own.2, own.3) in
    let in_said : Contains reading.said x = Contains-permutation entries reading.said x (IsPermutation-sym reading.said entries reading.same) has in
    let none : Member = ([], null) in
    let one : IsEntryOf (get_or reading.members in_said.0 none) x = subst (λ (e : Entry). IsEntryOf (get_or reading.members in_said.0 none) e) in_said.2 (zip-at IsEntryOf reading.members reading.said in_said.0 none x reading.each in_said.1) in
    let n = count-of (get_or reading.members in_said.0 none).1 x.1 one.number own.4.1 in
    (n.0, subst (λ (e : Entry). Contains entries e) (ap (λ (k : VoxelKey). let e : Entry = (k, x.1) in e) own.4.0 ∙ ap (λ (z : ℤ). let e : Entry = (key, z) in e) n.1) has)

pub root-there : RootIsThere
root-there files rules nodes has =
    let kept = has.plan.build.0 in
    let built = has.plan.build.1 in
    let search = search_all kept in
    let meets = everywhere-met kept root IsKey-root (omega arith) in
    let needed : IsNeeded search files root = at_root meets in
    let there = has.plan.each kept built root needed in
    let own = own-count there.1.bytes there.0 root there.1.reading there.1.form.own in
    let planned : IsPlanned search files root own.0 = record { top = root; needed = needed; entries = there.0; file = there.1; counted = own.1; has_depth = (omega arith, omega arith); meets = meets } in
    let m = IsMember-contains (root, own.0) nodes (((has.plan.tiles kept built).each root own.0).1 planned) in
    contains-IsMember root (keys_of nodes) (IsMember-map (λ (x : Node). x.0) (root, own.0) nodes m)

-- ---- an octree

pub nodes-octree : NodesAreInOctree
nodes-octree files rules nodes has =
    let kept = has.plan.build.0 in
    let built = has.plan.build.1 in
    let cube = IsCube-cube_of kept.bounds kept.s kept.max_depth kept.layout.span_least kept.layout.span_most kept.has_bounds.min_is.x kept.has_bounds.min_is.y kept.has_bounds.min_is.z in
    let same : rules_of kept ≡ rules = sym (has.rules_are kept built) in
    subst (λ (r : Rules). IsCube r.cube × All (λ (key : VoxelKey). IsKey key × (key.depth ≤ r.cube.depth)) (keys_of nodes)) same (
      cube,
      All-members (λ (key : VoxelKey). IsKey key × (key.depth ≤ (rules_of kept).cube.depth)) (keys_of nodes) (λ key m. (
          let n = member-map (λ (x : Node). x.0) key nodes m in
          let planned = ((has.plan.tiles kept built).each n.0.0 n.0.1).0 (contains-IsMember n.0 nodes n.1) in
          let e : Entry = (n.0.0, pos n.0.1) in
          subst (λ (k : VoxelKey). IsKey k × (k.depth ≤ (rules_of kept).cube.depth)) n.2 (
            All-contains (λ (x : Entry). IsKey x.0) planned.entries e (each-key planned.file.bytes planned.entries planned.file.reading) planned.counted,
            (All-contains (λ (x : Entry). IsEntryIn (search_all kept) planned.top x) planned.entries e planned.file.form.each planned.counted).shallow,
          ))),
    )

-- ---- what the folder states

pub plan-not-called : PlanIsUncalled
plan-not-called files nodes is error = plan-uncalled EVERYWHERE 0 32 files (record { area = EVERYWHERE; tiles = nodes }) is error

pub plan-called-once : PlanIsCalledOnce
plan-called-once files one other a b = called-once EVERYWHERE 0 32 files one other (of-plan EVERYWHERE 0 32 files one a) (of-plan EVERYWHERE 0 32 files other b)

pub found-nodes : (search : Search) (files : Option Files) (nodes : List Node) → Tells (IsSearchFor EVERYWHERE 0 32 search) files → Tells (IsPlanFor EVERYWHERE 0 32 (record { area = EVERYWHERE; tiles = nodes })) files → Tells (HasNodes (rules_in search) nodes) files
found-nodes search files nodes found planned = tells-from (HasNodes (rules_in search) nodes) files (λ all is. (
    let s = told (IsSearchFor EVERYWHERE 0 32 search) files all is found in
    record {
      plan = told (IsPlanFor EVERYWHERE 0 32 (record { area = EVERYWHERE; tiles = nodes })) files all is planned;
      rules_are = λ kept built. ap rules_in (s.search_is kept built);
    }))

pub nodes-comes : (files : Option Files) (r : Result AllNodes QueryError) → IfOk r (λ found. Tells (HasNodes found.rules found.nodes.items) files) → IfErr r (RefusesPlan EVERYWHERE 0 32 files) → RefusesAsCalled (CallsOfPlan EVERYWHERE 0 32) files r
nodes-comes files (Ok found) made refused = λ all is error called. absurd (plan-uncalled EVERYWHERE 0 32 all (record { area = EVERYWHERE; tiles = found.nodes.items }) (told (HasNodes found.rules found.nodes.items) files all is made).plan error called)
nodes-comes files (Err found) made refused = λ all is error called. refusal-as AllNodes EVERYWHERE 0 32 files all is found error (plan-query EVERYWHERE 0 32 files found refused) (of-plan EVERYWHERE 0 32 all error called)

-- ---- a complete folder

tiled : (rules : Rules) (points : List Point) (files : Files) (nodes : List Node) → ((n : Node) → IsMember n nodes → HasTile files n.0 n.1 (sampling rules points n.0)) → HasTilesOf files nodes (map (tile_at rules points) (keys_of nodes))
tiled rules points files [] each = tt
tiled rules points files (n ∷ nodes) each = ((refl, each n (inl refl)), tiled rules points files nodes (λ m there. each m (inr there)))

pub complete-nodes : FilesAreReadBack → PointsCanBeSampled → CompleteHasNodes
unfolding sampled
complete-nodes read-back can-sample kept points files whole rules nodes has =
    let laid = output-laid read-back can-sample kept points files whole.output whole.is_output whole.there whole.points_are.ascend whole.points_are.inside (few-of-inputs kept points whole.points_are) in
    let planned = plans-whole read-back can-sample kept points files whole EVERYWHERE 0 32 (record { area = EVERYWHERE; tiles = nodes }) has.plan in
    let rules' = rules_of kept in
    let same : keys_of nodes ≡ node_keys rules' points = node_keys-is rules' points (keys_of nodes) laid.can.cube laid.can.inside (IsRising-AllPairs (keys_of nodes) planned.ascend)
    (λ k m. (let n = member-map (λ (x : Node). x.0) k nodes m in subst (λ (q : VoxelKey). is_node rules' points q ≡ true) n.2 ((planned.each n.0.0 n.0.1).0 (contains-IsMember n.0 nodes n.1)).0))
    (λ k is. (
    let a-key = node-IsKey rules' points k laid.can.cube laid.can.inside is in
    let deep = a-key.shallow in
    let here = (planned.each k (length (sampling rules' points k))).1 (is, refl, (omega arith, omega (arith, deep)), everywhere-met kept k a-key (node-depth rules' points k is)) in
    IsMember-map (λ (x : Node). x.0) (k, length (sampling rules' points k)) nodes (IsMember-contains (k, length (sampling rules' points k)) nodes here))) in (
      has.rules_are kept laid.built,
      subst (λ (keys : List VoxelKey). HasTilesOf files nodes (map (tile_at rules' points) keys)) same
          (tiled rules' points files nodes (λ n m. has-tiles read-back can-sample kept points files whole EVERYWHERE 0 32 (record { area = EVERYWHERE; tiles = nodes }) has.plan n (contains-IsMember n nodes m))),
    )

-- ---- how many files

pub nodes-got : NodesAreGot
nodes-got files rules nodes old mid new has few more =
    gets-tiles None EVERYWHERE 0 32 (record { area = EVERYWHERE; tiles = nodes }) refl (Some files) (Some files) has.plan (λ name. refl) old mid new few more
