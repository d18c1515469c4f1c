-- What a query finds in a folder that has the output of some points.
use Rattle.std.proofs.Common.{◌≡◌, ◌∙◌, ◌+◌, ◌-◌, ◌*◌, ◌/◌, ◌%◌, ◌<◌, ◌≤◌, ℕ, zero, suc, ℤ, List, length, get_or, map, filter, refl, sym, ap, subst, inl, inr, ◌⊎◌, ⊎_elim, arith, Some, Bool, true, false}
use Rattle.std.specs.Prelude.{pos, negsuc, nat_le, ◌==◌, ◌||◌, ◌&&◌, if◌then◌else◌, ◌↔◌}
use Rattle.std.specs.List.{Contains}
use Rattle.std.proofs.lemmas.Bool.{cases_lt, false≢true}
use Rattle.std.proofs.lemmas.Bool.Decides.{nat_tests}
use Rattle.std.proofs.lemmas.Nat.{div-add-mod'}
use Rattle.std.proofs.Math.Nat.{mul-mod_left}
use Rattle.std.proofs.lemmas.List.Elements.{Contains-get_or}
use Rattle.ept_base.specs.Files.{Files}
use Rattle.ept_point.specs.declared.point.Point.{Point}
use Rattle.ept_point.specs.Packed.{tile}
use Rattle.ept_space.specs.declared.box3.Box3.{Box3}
use Rattle.ept_space.specs.declared.cube.Rules.{Rules}
use Rattle.ept_space.specs.VoxelKey.{VoxelKey, root, ancestor, same_key, is_within}
use Rattle.ept_space.specs.KeyLaws.{parents}
use Rattle.ept_space.proofs.Family.{root-only}
use Rattle.ept_space.proofs.PlaceKeys.{InBox-within}
use Rattle.ept_space.proofs.Within.{same_key-true, same_key-same, parents-ancestor, is_within-ancestor, is_within-root, is_within-self}
use Rattle.ept_sample.specs.declared.tiles.Tile.{Tile}
use Rattle.ept_sample.specs.Sampling.{sampling, is_node}
use Rattle.ept_sample.specs.Nodes.{node_keys, tile_at, sampled}
use Rattle.ept_sample.specs.Members.{IsMember}
use Rattle.ept_sample.specs.SamplingLaws.{CanBeSampled}
use Rattle.ept_sample.proofs.Members.{IsMember-contains, contains-IsMember, IsMember-map, member-map, IsMember-filter, IsMember-kept}
use Rattle.ept_sample.proofs.SamplingLaws.{is_node-root, is_node-parent, node-depth, node-IsKey, IsRising-sampling}
use Rattle.ept_sample.proofs.IdLaws.{IsAscending-IsRising}
use Rattle.ept_sample.proofs.NodeLaws.{IsMember-node_keys, node_keys-IsMember}
use Rattle.ept_config.specs.declared.kept.Kept.{Kept}
use Rattle.ept_hier.specs.Hierarchy.{Entry, Node, has_file, stands_in, is_link, entry_in, entries_of, hierarchy_text}
use Rattle.ept_hier.specs.Reading.{IsReading}
use Rattle.ept_meta.specs.Output.{rules_of, counted, tile_name, hierarchy_name}
use Rattle.ept_query.specs.declared.search.Search.{Search}
use Rattle.ept_query.specs.Search.{search_of, MeetsArea, HasDepth}
use Rattle.ept_query.specs.Hierarchies.{AreOf, IsEntryIn, HasHierarchy}
use Rattle.ept_query.specs.Damage.{HasTile}
use Rattle.ept_query.specs.Plan.{IsBuiltWith, IsNeeded, at_root, behind, EachIsThere, IsPlanned}
use Rattle.ept_query.proofs.Walking.{hierarchy-same, link-deeper, link-as}

-- ---- which keys have hierarchy files

filed-root : (step : ℕ) (key : VoxelKey) → step ≡ 0 → has_file step key ≡ true → key ≡ root
unfolding has_file
filed-root step key none file = same_key-true key root (by_test (step == 0) (grind (arith, nat_tests)) file)
  where
    by_test : (b : Bool) → b ≡ true → (if b then same_key key root else (key.depth % step == 0)) ≡ true → same_key key root ≡ true
    by_test true is file = file
    by_test false is file = absurd (cc)

filed-level : (step : ℕ) (key : VoxelKey) → 0 < step → has_file step key ≡ true → (n : ℕ) × (key.depth ≡ n * step)
unfolding has_file
filed-level step key some file =
    let passes : (key.depth % step == 0) ≡ true = by_test (step == 0) (grind (arith, nat_tests)) file in
    let none : key.depth % step ≡ 0 = (let t = passes in grind (arith, nat_tests)) in
    let whole = div-add-mod' key.depth step in
    (key.depth / step, omega (arith, none, whole))
  where
    by_test : (b : Bool) → b ≡ false → (if b then same_key key root else (key.depth % step == 0)) ≡ true → (key.depth % step == 0) ≡ true
    by_test true is file = absurd (cc)
    by_test false is file = file

level-filed : (step : ℕ) (key : VoxelKey) (n : ℕ) → 0 < step → key.depth ≡ n * step → has_file step key ≡ true
unfolding has_file
level-filed step key n some level = by_test (step == 0) (grind (arith, nat_tests))
  where
    none : key.depth % step ≡ 0
    none = ap (λ (d : ℕ). d % step) level ∙ mul-mod_left n step

    by_test : (b : Bool) → b ≡ false → (if b then same_key key root else (key.depth % step == 0)) ≡ true
    by_test true is = absurd (cc)
    by_test false is = (let t = none in grind (arith, nat_tests))

root-filed : (step : ℕ) → has_file step root ≡ true
unfolding has_file
root-filed step = by_test (step == 0) refl
  where
    by_test : (b : Bool) → (step == 0) ≡ b → (if b then same_key root root else (root.depth % step == 0)) ≡ true
    by_test true is = same_key-same root root refl
    by_test false is = (
        let some : 0 < step = (let t = is in grind (arith, nat_tests)) in
        let none : 0 % step ≡ 0 = ap (λ (d : ℕ). d % step) (let z : 0 ≡ 0 * step = grind arith in z) ∙ mul-mod_left 0 step in
        let t = none in grind (arith, nat_tests))

-- ---- keys above

depth-above : (n : ℕ) (key : VoxelKey) → (ancestor n key).depth ≡ key.depth - n
unfolding ancestor
depth-above n key = refl

-- a key is in the file of a key that it is within, if it is no deeper than the file reaches
stands-from : (step : ℕ) (top key : VoxelKey) → is_within top key ≡ true → (step ≡ 0) ⊎ (key.depth ≤ top.depth + step) → stands_in step top key ≡ true
unfolding stands_in
stands-from step top key within near = ap (λ (t : Bool). t && ((step == 0) || nat_le key.depth (top.depth + step))) within ∙ (⊎_elim (λ (none : step ≡ 0). (let t = none in grind (arith, nat_tests))) (λ (close : key.depth ≤ top.depth + step). (let t = close in grind (arith, nat_tests))) near)

not-link : (step : ℕ) (top key : VoxelKey) → (step ≡ 0) ⊎ (key.depth < top.depth + step) → is_link step top key ≡ false
unfolding is_link
not-link step top key (inl none) = (let t = none in grind (arith, nat_tests))
not-link step top key (inr near) = (let t = near in grind (arith, nat_tests))

-- ---- the nodes of an octree, and their counts

unfoldable pub nodes_of : Kept → List Point → List Node
nodes_of kept points = map counted (sampled (rules_of kept) points)

module _ (kept : Kept) (points : List Point) where
  unfoldable pub size-at : VoxelKey → ℕ
  size-at key = length (sampling (rules_of kept) points key)

  pub node-at : (key : VoxelKey) (n : ℕ) → IsMember (key, n) (nodes_of kept points) → (is_node (rules_of kept) points key ≡ true) × (n ≡ size-at key)
  unfolding nodes_of sampled size-at
  node-at key n m =
      let tile = member-map counted (key, n) (map (tile_at (rules_of kept) points) (node_keys (rules_of kept) points)) m in
      let found = member-map (tile_at (rules_of kept) points) tile.0 (node_keys (rules_of kept) points) tile.1 in
      let same_key' : found.0 ≡ key = ap (λ (t : Tile). t.key) found.2 ∙ ap (λ (x : Node). x.0) tile.2 in
      let size : n ≡ length (sampling (rules_of kept) points found.0) = sym (ap (λ (x : Node). x.1) tile.2) ∙ sym (ap (λ (t : Tile). length t.points) found.2) in (
        subst (λ (k : VoxelKey). is_node (rules_of kept) points k ≡ true) same_key' (IsMember-node_keys (rules_of kept) points found.0 found.1),
        size ∙ ap (λ (k : VoxelKey). length (sampling (rules_of kept) points k)) same_key',
      )

  pub at-node : (key : VoxelKey) → CanBeSampled (rules_of kept) points → is_node (rules_of kept) points key ≡ true → IsMember (key, size-at key) (nodes_of kept points)
  unfolding nodes_of sampled size-at
  at-node key can node =
      IsMember-map counted (tile_at (rules_of kept) points key) (map (tile_at (rules_of kept) points) (node_keys (rules_of kept) points))
      (IsMember-map (tile_at (rules_of kept) points) key (node_keys (rules_of kept) points) (node_keys-IsMember (rules_of kept) points key can.cube can.inside node))

-- ---- the entries of a file

entry-of : (step : ℕ) (nodes : List Node) (top : VoxelKey) (e : Entry) → IsMember e (entries_of step nodes top) → (n : Node) × IsMember n nodes × (stands_in step top n.0 ≡ true) × (entry_in step top n ≡ e)
unfolding entries_of
entry-of step nodes top e m =
    let found = member-map (entry_in step top) e (filter (λ (n : Node). stands_in step top n.0) nodes) m in
    let passed = IsMember-filter (λ (n : Node). stands_in step top n.0) found.0 nodes found.1 in
    (found.0, passed.0, passed.1, found.2)

of-entry : (step : ℕ) (nodes : List Node) (top : VoxelKey) (n : Node) → IsMember n nodes → stands_in step top n.0 ≡ true → IsMember (entry_in step top n) (entries_of step nodes top)
unfolding entries_of
of-entry step nodes top n m stands =
    IsMember-map (entry_in step top) n (filter (λ (x : Node). stands_in step top x.0) nodes) (IsMember-kept (λ (x : Node). stands_in step top x.0) n nodes stands m)

number-link : (step : ℕ) (top : VoxelKey) (n : Node) → is_link step top n.0 ≡ true → entry_in step top n ≡ (n.0, negsuc 0)
number-link step top n link = ap (λ (b : Bool). let e : Entry = (n.0, if b then negsuc 0 else pos n.1) in e) link

number-count : (step : ℕ) (top : VoxelKey) (n : Node) → is_link step top n.0 ≡ false → entry_in step top n ≡ (n.0, pos n.1)
number-count step top n link = ap (λ (b : Bool). let e : Entry = (n.0, if b then negsuc 0 else pos n.1) in e) link

-- the number of an entry, for a link and for a node with a count
told-of : (step : ℕ) (top : VoxelKey) (n : Node) (b : Bool) → is_link step top n.0 ≡ b → ((entry_in step top n).1 ≡ negsuc 0) ↔ (b ≡ true)
told-of step top n true is = ((λ _. refl), (λ _. ap (λ (e : Entry). e.1) (number-link step top n is)))
told-of step top n false is = (
  (λ marked. let wrong : pos n.1 ≡ negsuc 0 = sym (ap (λ (e : Entry). e.1) (number-count step top n is)) ∙ marked in absurd (cc)),
  (λ link. absurd (false≢true link)),
)

-- a key with a number among the entries is a node
entry-node : (step : ℕ) (nodes : List Node) (top key : VoxelKey) (number : ℤ) → IsMember (key, number) (entries_of step nodes top) → (count : ℕ) × IsMember (key, count) nodes × (stands_in step top key ≡ true) × (entry_in step top (key, count) ≡ (key, number))
entry-node step nodes top key number m =
    let found = entry-of step nodes top (key, number) m in
    let n : Node = found.0 in
    let same : n.0 ≡ key = ap (λ (e : Entry). e.0) found.3 in
    let whole : n ≡ (key, n.1) = ap (λ (k : VoxelKey). let x : Node = (k, n.1) in x) same in (
      n.1,
      subst (λ (x : Node). IsMember x nodes) whole found.1,
      subst (λ (k : VoxelKey). stands_in step top k ≡ true) same found.2,
      subst (λ (x : Node). entry_in step top x ≡ (key, number)) whole found.3,
    )

-- ---- a folder with the output of some points

-- the files of the output that a query reads are there, and each hierarchy file is read as its entries
pub record IsLaid (kept : Kept) (points : List Point) (files : Files) : Type 0 where
  pub can : CanBeSampled (rules_of kept) points
  pub built : IsBuiltWith files kept
  pub tiles : (key : VoxelKey) → is_node (rules_of kept) points key ≡ true → files (tile_name key) ≡ Some (tile (sampling (rules_of kept) points key))
  pub texts : (top : VoxelKey) → is_node (rules_of kept) points top ≡ true → has_file kept.step top ≡ true → files (hierarchy_name top) ≡ Some (hierarchy_text (entries_of kept.step (nodes_of kept points) top))
  pub reading : (top : VoxelKey) → is_node (rules_of kept) points top ≡ true → has_file kept.step top ≡ true → IsReading (hierarchy_text (entries_of kept.step (nodes_of kept points) top)) (entries_of kept.step (nodes_of kept points) top)

module _ (rules : Rules) (points : List Point) (key : VoxelKey) (node : is_node rules points key ≡ true) where
  depth-parents : (n : ℕ) → (parents n key).depth ≡ key.depth - n
  depth-parents n = ap (λ (k : VoxelKey). k.depth) (parents-ancestor n key) ∙ depth-above n key

  parents-node : (n : ℕ) → n ≤ key.depth → is_node rules points (parents n key) ≡ true
  parents-node zero short = node
  parents-node (suc n) short =
      let deep = depth-parents n in is_node-parent rules points (parents n key) (omega (arith, short, deep)) (parents-node n (omega (arith, short)))

  ancestor-node : (n : ℕ) → n ≤ key.depth → is_node rules points (ancestor n key) ≡ true
  ancestor-node n short = subst (λ (k : VoxelKey). is_node rules points k ≡ true) (parents-ancestor n key) (parents-node n short)

meets-above : (search : Search) (top key : VoxelKey) → is_within top key ≡ true → key.depth ≤ search.cube.e → MeetsArea search key → MeetsArea search top
meets-above search top key within deep meets = (meets.0, InBox-within search.cube top key meets.0 within deep meets.1, meets.2)

module _ (kept : Kept) (points : List Point) (files : Files) (area : Box3) (first last : ℕ) (laid : IsLaid kept points files) where
  abbrev IsNode : VoxelKey → Type 0
  IsNode key = is_node (rules_of kept) points key ≡ true

  entries : VoxelKey → List Entry
  entries top = entries_of kept.step (nodes_of kept points) top

  node-deep : (key : VoxelKey) → IsNode key → key.depth ≤ (search_of kept area first last).cube.e
  node-deep key node =
      let low = node-depth (rules_of kept) points key node in
      let cells = laid.can.cube.cells_whole in
      omega (arith, low, cells)

  form-laid : (top : VoxelKey) → IsNode top → AreOf (search_of kept area first last) top (entries top)
  unfolding entries
  form-laid top node = record {
    own = (
        let own : Entry = (top, pos (size-at kept points top)) in
        let stands : stands_in kept.step top top ≡ true = stands-from kept.step top top (is_within-self top) (inr (omega arith)) in
        let plain : is_link kept.step top top ≡ false = (elim (cases_lt 0 kept.step) [ inl some ↦ not-link kept.step top top (inr (omega (arith, some))) | inr none ↦ not-link kept.step top top (inl (omega (arith, none))) ]) in
        let m = subst (λ (e : Entry). IsMember e (entries top)) (number-count kept.step top (top, size-at kept points top) plain) (of-entry kept.step (nodes_of kept points) top (top, size-at kept points top) (at-node kept points top laid.can node) stands) in
        let c = contains-IsMember own (entries top) m in
        (c.0, own, c.1, c.2, (refl, λ wrong. cc)));
    each = λ k d within. (
        let e : Entry = get_or (entries top) k d in
        let found = entry-of kept.step (nodes_of kept points) top e (IsMember-contains e (entries top) (Contains-get_or (entries top) k d within)) in
        let n : Node = found.0 in
        let is = node-at kept points n.0 n.1 found.1 in
        subst (λ (x : Entry). IsEntryIn (search_of kept area first last) top x) found.3 (record {
          stands = found.2;
          shallow = node-depth (rules_of kept) points n.0 is.0;
          link = told-of kept.step top n (is_link kept.step top n.0) refl;
        }));
  }

  file-laid : (top : VoxelKey) → IsNode top → has_file kept.step top ≡ true → HasHierarchy (search_of kept area first last) files top (entries top)
  unfolding entries
  file-laid top node file = record {
    bytes = hierarchy_text (entries top);
    there = laid.texts top node file;
    reading = laid.reading top node file;
    form = form-laid top node;
  }

  -- the entries of a needed file are those of its node
  same-laid : (top : VoxelKey) (found : List Entry) (e : Entry) → IsNode top → has_file kept.step top ≡ true → HasHierarchy (search_of kept area first last) files top found → Contains found e → IsMember e (entries top)
  same-laid top found e node file has there =
      IsMember-contains e (entries top) (hierarchy-same (search_of kept area first last) files top found (entries top) e has (file-laid top node file) there)

  pub needed-laid : (key : VoxelKey) → IsNeeded (search_of kept area first last) files key → IsNode key × (has_file kept.step key ≡ true)
  unfolding entries
  needed-laid key (at_root meets) = (is_node-root (rules_of kept) points, root-filed kept.step)
  needed-laid key (behind top key' found needed file has meets) =
      let above = needed-laid top needed in
      let m = same-laid top found (key', negsuc 0) above.0 above.1 file has in
      let n = entry-node kept.step (nodes_of kept points) top key' (negsuc 0) m in
      let link : is_link kept.step top key' ≡ true = (told-of kept.step top (key', n.0) (is_link kept.step top key') refl).0 (ap (λ (e : Entry). e.1) n.3) in
      let deeper = link-deeper kept.step top key' link in
      let level = filed-level kept.step top deeper.0 above.1 in (
        (node-at kept points key' n.0 n.1).0,
        level-filed kept.step key' (suc level.0) deeper.0 (let a = deeper.1 in let b = level.1 in let next : suc level.0 * kept.step ≡ level.0 * kept.step + kept.step = grind arith in omega (arith, a, b, next)),
      )

  -- so each needed file is there
  pub each-laid : EachIsThere (search_of kept area first last) files
  each-laid key needed = (let is = needed-laid key needed in (entries key, file-laid key is.0 is.1))

  -- and what is planned is a node with its number of points
  pub planned-laid : (key : VoxelKey) (count : ℕ) → IsPlanned (search_of kept area first last) files key count → IsNode key × (count ≡ size-at kept points key)
  unfolding entries
  planned-laid key count plan =
      let above = needed-laid plan.top plan.needed in
      let m = same-laid plan.top plan.entries (key, pos count) above.0 above.1 plan.file plan.counted in
      let n = entry-node kept.step (nodes_of kept points) plan.top key (pos count) m in
      let is = node-at kept points key n.0 n.1 in
      (is.0, sym (same-count n.0 n.3 (is_link kept.step plan.top key) refl) ∙ is.1)
    where
      same-count : (k : ℕ) → entry_in kept.step plan.top (key, k) ≡ (key, pos count) → (b : Bool) → is_link kept.step plan.top key ≡ b → k ≡ count
      same-count k at true link = (let wrong : negsuc 0 ≡ pos count = sym (ap (λ (e : Entry). e.1) (number-link kept.step plan.top (key, k) link)) ∙ ap (λ (e : Entry). e.1) at in absurd (cc))
      same-count k at false link = (let same : pos k ≡ pos count = sym (ap (λ (e : Entry). e.1) (number-count kept.step plan.top (key, k) link)) ∙ ap (λ (e : Entry). e.1) at in cc)

  needed-of : (n : ℕ) (top : VoxelKey) → 0 < kept.step → IsNode top → top.depth ≡ n * kept.step → MeetsArea (search_of kept area first last) top → IsNeeded (search_of kept area first last) files top
  unfolding entries
  needed-of zero top some node level meets =
      let is : root ≡ top = sym (root-only top (node-IsKey (rules_of kept) points top laid.can.cube laid.can.inside node) (level ∙ (let z : 0 * kept.step ≡ 0 = grind arith in z))) in
      subst (λ (k : VoxelKey). IsNeeded (search_of kept area first last) files k) is (at_root (subst (λ (k : VoxelKey). MeetsArea (search_of kept area first last) k) (sym is) meets))
  needed-of (suc n) top some node level meets =
      let up = ancestor kept.step top in
      let next : suc n * kept.step ≡ n * kept.step + kept.step = grind arith in
      let short : kept.step ≤ top.depth = omega (arith, level, next) in
      let deep : up.depth ≡ top.depth - kept.step = depth-above kept.step top in
      let up-node : is_node (rules_of kept) points up ≡ true = ancestor-node (rules_of kept) points top node kept.step short in
      let up-level : up.depth ≡ n * kept.step = omega (arith, deep, level, next) in
      let within : is_within up top ≡ true = is_within-ancestor kept.step top short in
      let level' : top.depth ≡ up.depth + kept.step = omega (arith, deep, short) in
      let link : is_link kept.step up top ≡ true = link-as kept.step up top some level' in
      let stands : stands_in kept.step up top ≡ true = stands-from kept.step up top within (inr (omega (arith, level'))) in
      let m = subst (λ (e : Entry). IsMember e (entries up)) (number-link kept.step up (top, size-at kept points top) link) (of-entry kept.step (nodes_of kept points) up (top, size-at kept points top) (at-node kept points top laid.can node) stands) in
      behind up top (entries up) (needed-of n up some up-node up-level (meets-above (search_of kept area first last) up top within (node-deep top node) meets)) (file-laid up up-node (level-filed kept.step up n some up-level)) (contains-IsMember (top, negsuc 0) (entries up) m) meets

  planned-in : (key top : VoxelKey) → IsNode key → IsNode top → has_file kept.step top ≡ true → IsNeeded (search_of kept area first last) files top → stands_in kept.step top key ≡ true → is_link kept.step top key ≡ false → HasDepth (search_of kept area first last) key → MeetsArea (search_of kept area first last) key → IsPlanned (search_of kept area first last) files key (size-at kept points key)
  unfolding entries
  planned-in key top node top-node file needed stands plain depth meets = record {
    top = top;
    needed = needed;
    entries = entries top;
    file = file-laid top top-node file;
    counted = contains-IsMember (key, pos (size-at kept points key)) (entries top) (subst (λ (e : Entry). IsMember e (entries top)) (number-count kept.step top (key, size-at kept points key) plain) (of-entry kept.step (nodes_of kept points) top (key, size-at kept points key) (at-node kept points key laid.can node) stands));
    has_depth = depth;
    meets = meets;
  }

  -- and each node that is asked for and whose box meets the area is planned
  pub laid-planned : (key : VoxelKey) → IsNode key → HasDepth (search_of kept area first last) key → MeetsArea (search_of kept area first last) key → IsPlanned (search_of kept area first last) files key (size-at kept points key)
  unfolding entries
  laid-planned key node depth meets =
      elim (cases_lt 0 kept.step) [
        | inl some ↦ (
            let rest : key.depth % kept.step < kept.step = omega (arith, some) in
            let whole = div-add-mod' key.depth kept.step in
            let short : key.depth % kept.step ≤ key.depth = omega (arith, whole) in
            let top = ancestor (key.depth % kept.step) key in
            let deep : top.depth ≡ key.depth - key.depth % kept.step = depth-above (key.depth % kept.step) key in
            let level : top.depth ≡ key.depth / kept.step * kept.step = omega (arith, deep, whole) in
            let top-node : is_node (rules_of kept) points top ≡ true = ancestor-node (rules_of kept) points key node (key.depth % kept.step) short in
            let within : is_within top key ≡ true = is_within-ancestor (key.depth % kept.step) key short in
            let needed = needed-of (key.depth / kept.step) top some top-node level (meets-above (search_of kept area first last) top key within (node-deep key node) meets) in
            planned-in key top node top-node (level-filed kept.step top (key.depth / kept.step) some level) needed (stands-from kept.step top key within (inr (omega (arith, deep, rest, short)))) (not-link kept.step top key (inr (omega (arith, deep, rest, short)))) depth meets)
        | inr none ↦ (
            let zero' : kept.step ≡ 0 = omega (arith, none) in
            let within : is_within root key ≡ true = is_within-root key (node-IsKey (rules_of kept) points key laid.can.cube laid.can.inside node) in
            planned-in key root node (is_node-root (rules_of kept) points) (root-filed kept.step) (at_root (meets-above (search_of kept area first last) root key within (node-deep key node) meets)) (stands-from kept.step root key within (inl zero')) (not-link kept.step root key (inl zero')) depth meets)
      ]

  -- the tile of a node is there
  pub tile-laid : (key : VoxelKey) (count : ℕ) → IsPlanned (search_of kept area first last) files key count → HasTile files key count (sampling (rules_of kept) points key)
  unfolding size-at
  tile-laid key count plan =
      let is = planned-laid key count plan in
      record {
        bytes = tile (sampling (rules_of kept) points key);
        there = laid.tiles key is.0;
        form = record {
          packed = refl;
          ascend = IsAscending-IsRising (sampling (rules_of kept) points key) (IsRising-sampling (rules_of kept) points key laid.can.distinct);
          counted = sym is.1;
        };
      }
