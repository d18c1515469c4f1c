-- The parts of the tiles of a plan are together the rows that are asked for.
use Rattle.std.proofs.Common.{◌≡◌, ◌∙◌, ◌≤◌, ℕ, List, [], ◌∷◌, ◌++◌, length, map, filter, refl, sym, ap, subst, inl, inr, arith, Bool, true, false, cond, ◌&&◌, length-append}
use Rattle.std.specs.Prelude.{nat_le}
use Rattle.std.specs.List.{AllZip, flat_map, list_any, Contains}
use Rattle.std.proofs.lemmas.Bool.{and_parts, false≢true}
use Rattle.std.proofs.lemmas.Bool.Decides.{nat_tests}
use Rattle.std.proofs.lemmas.List.{map-append}
use Rattle.std.proofs.lemmas.List.Elements.{filter-append}
use Rattle.std.proofs.lemmas.List.Concat.{flat_map-append}
use Rattle.ept_base.specs.Files.{Files}
use Rattle.ept_point.specs.declared.point.Point.{Point}
use Rattle.ept_point.specs.Packed.{packed, tile}
use Rattle.ept_point.proofs.PackedLaws.{length-packed, append_same, packed_one}
use Rattle.ept_space.specs.declared.box3.Box3.{Box3}
use Rattle.ept_space.specs.VoxelKey.{VoxelKey, same_key}
use Rattle.ept_space.specs.OctreeCube.{InCube}
use Rattle.ept_space.proofs.Within.{same_key-true, same_key-same}
use Rattle.ept_sample.specs.Place.{place}
use Rattle.ept_sample.specs.Sampling.{sampling, is_node}
use Rattle.ept_sample.specs.Nodes.{node_keys, tile_at, sampled}
use Rattle.ept_sample.specs.Members.{IsMember}
use Rattle.ept_sample.proofs.Ascending.{IsRising, IsRising-filter, same_rising}
use Rattle.ept_sample.proofs.KeyOrder.{key_before, key_order, IsRising-AllPairs}
use Rattle.ept_sample.proofs.Members.{IsMember-contains, contains-IsMember, IsMember-left, IsMember-filter, IsMember-kept, IsMember-map, member-map, any-member, member-any, all-member}
use Rattle.ept_sample.proofs.NodeLaws.{IsMember-node_keys, node_keys-IsMember, IsRising-node_keys}
use Rattle.ept_sample.proofs.SamplingLaws.{IsMember-sampling, given-IsMember, given-InBox}
use Rattle.ept_config.specs.declared.kept.Kept.{Kept}
use Rattle.ept_hier.specs.Hierarchy.{Node, keys_of}
use Rattle.ept_meta.specs.Output.{rules_of}
use Rattle.ept_query.specs.Rows.{Row, rows_of, is_inside, is_asked, asked_rows}
use Rattle.ept_query.specs.Search.{search_of, MeetsArea}
use Rattle.ept_query.specs.Plan.{IsPlanned, IsPlan}
use Rattle.ept_query.specs.Parts.{IsPart, points_in, points_of}
use Rattle.ept_query.proofs.Inside.{is_in-yes}
use Rattle.ept_query.proofs.Readings.{some-is}
use Rattle.ept_query.proofs.Laid.{IsLaid, size-at, planned-laid, laid-planned, tile-laid}

-- ---- lists

-- items that fail a test and give nothing may be left out
skip : {X Y : Type 0} (f : X → List Y) (test : X → Bool) (xs : List X) → ((x : X) → IsMember x xs → test x ≡ false → f x ≡ []) → flat_map f xs ≡ flat_map f (filter test xs)
skip f test [] none = refl
skip f test (x ∷ xs) none = by_test (test x) refl (skip f test xs (λ y m. none y (inr m)))
  where
    by_test : (b : Bool) → test x ≡ b → flat_map f xs ≡ flat_map f (filter test xs) → f x ++ flat_map f xs ≡ flat_map f (cond b (x ∷ filter test xs) (filter test xs))
    by_test true is rest = ap (λ (w : List _). f x ++ w) rest
    by_test false is rest = ap (λ (w : List _). w ++ flat_map f xs) (none x (inl refl) is) ∙ rest

is_picked : List VoxelKey → VoxelKey → Bool
is_picked picked key = list_any (λ k. same_key k key) picked

picked-yes : (picked : List VoxelKey) (key : VoxelKey) → IsMember key picked → is_picked picked key ≡ true
unfolding is_picked
picked-yes picked key m = any-member (λ k. same_key k key) key picked m (same_key-same key key refl)

yes-picked : (picked : List VoxelKey) (key : VoxelKey) → is_picked picked key ≡ true → IsMember key picked
unfolding is_picked
yes-picked picked key is =
    let found = member-any (λ k. same_key k key) picked is in subst (λ (k : VoxelKey). IsMember k picked) (same_key-true found.0 key found.2) found.1

-- keys that are not picked have nothing, so the picked keys have all
collect : {X : Type 0} (f : VoxelKey → List X) (keys picked : List VoxelKey) → IsRising key_before keys → IsRising key_before picked → ((k : VoxelKey) → IsMember k picked → IsMember k keys) → ((k : VoxelKey) → IsMember k keys → ¬ IsMember k picked → f k ≡ []) → flat_map f keys ≡ flat_map f picked
collect f keys picked up rise among none =
    let same : picked ≡ filter (is_picked picked) keys = same_rising key_before key_order picked (filter (is_picked picked) keys) rise (IsRising-filter key_before (is_picked picked) keys up) (λ k m. IsMember-kept (is_picked picked) k keys (picked-yes picked k m) (among k m)) (λ k m. yes-picked picked k (IsMember-filter (is_picked picked) k keys m).1) in
    skip f (is_picked picked) keys (λ k m is. none k m (λ there. false≢true (sym is ∙ picked-yes picked k there))) ∙ ap (λ (w : List VoxelKey). flat_map f w) (sym same)

filter-none : {X : Type 0} (test : X → Bool) (xs : List X) → ((x : X) → IsMember x xs → test x ≡ true → ⊥) → filter test xs ≡ []
filter-none test [] none = refl
filter-none test (x ∷ xs) none = by_test (test x) refl (filter-none test xs (λ y m. none y (inr m)))
  where
    by_test : (b : Bool) → test x ≡ b → filter test xs ≡ [] → cond b (x ∷ filter test xs) (filter test xs) ≡ []
    by_test true is rest = absurd (none x (inl refl) is)
    by_test false is rest = rest

-- equal tiles have equal points
pub tile-once : (one two : List Point) → tile one ≡ tile two → one ≡ two
tile-once [] [] same = refl
tile-once [] (q ∷ two) same = absurd (let size : 0 ≡ length (packed q ++ tile two) = ap (λ (w : List ℕ). length w) same in let long = length-append (packed q) (tile two) in let wide = length-packed q in omega (arith, size, long, wide))
tile-once (p ∷ one) [] same = absurd (let size : length (packed p ++ tile one) ≡ 0 = ap (λ (w : List ℕ). length w) same in let long = length-append (packed p) (tile one) in let wide = length-packed p in omega (arith, size, long, wide))
tile-once (p ∷ one) (q ∷ two) same =
    let parts = append_same (packed p) (packed q) (tile one) (tile two) (length-packed p ∙ sym (length-packed q)) same in
    ap (λ (x : Point). x ∷ one) (packed_one p q parts.0) ∙ ap (λ (w : List Point). q ∷ w) (tile-once one two parts.1)

-- ---- the rows of a node

-- what a node has of the rows that are asked for
rows-at : Box3 → ℕ → ℕ → VoxelKey → List Point → List Point
rows-at area first last key points = map (λ (row : Row). row.1) (filter (is_asked area first last) (map (λ (p : Point). let r : Row = (key, p) in r) points))

rows-all : (area : Box3) (first last : ℕ) (f : VoxelKey → List Point) (keys : List VoxelKey) → map (λ (row : Row). row.1) (filter (is_asked area first last) (flat_map (λ (k : VoxelKey). map (λ (p : Point). let r : Row = (k, p) in r) (f k)) keys)) ≡ flat_map (λ (k : VoxelKey). rows-at area first last k (f k)) keys
unfolding rows-at
rows-all area first last f [] = refl
rows-all area first last f (k ∷ keys) =
    let here : List Row = map (λ (p : Point). let r : Row = (k, p) in r) (f k) in
    let later : List Row = flat_map (λ (k : VoxelKey). map (λ (p : Point). let r : Row = (k, p) in r) (f k)) keys in
    ap (λ (w : List Row). map (λ (row : Row). row.1) w) (filter-append (is_asked area first last) here later)
    ∙ map-append (λ (row : Row). row.1) (filter (is_asked area first last) here) (filter (is_asked area first last) later)
    ∙ ap (λ (w : List Point). map (λ (row : Row). row.1) (filter (is_asked area first last) here) ++ w) (rows-all area first last f keys)

-- of a depth that is asked for: the points in the area
rows-inside : (area : Box3) (first last : ℕ) (key : VoxelKey) (points : List Point) → nat_le first key.depth ≡ true → nat_le key.depth last ≡ true → rows-at area first last key points ≡ points_in area points
unfolding rows-at
rows-inside area first last key [] low high = refl
rows-inside area first last key (p ∷ points) low high =
    let test : is_asked area first last (key, p) ≡ is_inside area p = ap (λ (b : Bool). b && nat_le key.depth last && is_inside area p) low ∙ ap (λ (b : Bool). b && is_inside area p) high in
    ap (λ (b : Bool). map (λ (row : Row). row.1) (cond b (let r : Row = (key, p) in r ∷ filter (is_asked area first last) (map (λ (q : Point). let r : Row = (key, q) in r) points)) (filter (is_asked area first last) (map (λ (q : Point). let r : Row = (key, q) in r) points)))) test
    ∙ by_test (is_inside area p) (rows-inside area first last key points low high)
  where
    by_test : (b : Bool) → rows-at area first last key points ≡ points_in area points → map (λ (row : Row). row.1) (cond b (let r : Row = (key, p) in r ∷ filter (is_asked area first last) (map (λ (q : Point). let r : Row = (key, q) in r) points)) (filter (is_asked area first last) (map (λ (q : Point). let r : Row = (key, q) in r) points))) ≡ cond b (p ∷ points_in area points) (points_in area points)
    by_test true rest = ap (λ (w : List Point). p ∷ w) rest
    by_test false rest = rest

-- a row that is asked for
asked-parts : (area : Box3) (first last : ℕ) (key : VoxelKey) (p : Point) → is_asked area first last (key, p) ≡ true → (first ≤ key.depth) × (key.depth ≤ last) × (is_inside area p ≡ true)
asked-parts area first last key p is =
    let last-part = and_parts (nat_le first key.depth && nat_le key.depth last) (is_inside area p) is in
    let first-part = and_parts (nat_le first key.depth) (nat_le key.depth last) last-part.0 in
    (let t = first-part.0 in grind (arith, nat_tests), let t = first-part.1 in grind (arith, nat_tests), last-part.1)

-- ---- the whole

module _ (kept : Kept) (points : List Point) (files : Files) (area : Box3) (first last : ℕ) (laid : IsLaid kept points files) (tiles : List Node) (plan : IsPlan (search_of kept area first last) files tiles) where
  sampled-at : VoxelKey → List Point
  sampled-at key = sampling (rules_of kept) points key

  rows-of-key : VoxelKey → List Point
  rows-of-key key = rows-at area first last key (sampled-at key)

  tile-member : (key : VoxelKey) → IsMember key (keys_of tiles) → (count : ℕ) × IsPlanned (search_of kept area first last) files key count
  tile-member key m =
      let found = member-map (λ (n : Node). n.0) key tiles m in
      let n : Node = found.0 in
      (n.1, subst (λ (k : VoxelKey). IsPlanned (search_of kept area first last) files k n.1) found.2 ((plan.each n.0 n.1).0 (contains-IsMember n tiles found.1)))

  not-tile : (key : VoxelKey) → is_node (rules_of kept) points key ≡ true → ¬ IsMember key (keys_of tiles) → rows-of-key key ≡ []
  unfolding rows-of-key sampled-at rows-at
  not-tile key node apart =
      ap (λ (w : List Row). map (λ (row : Row). row.1) w) (filter-none (is_asked area first last) (map (λ (p : Point). let r : Row = (key, p) in r) (sampling (rules_of kept) points key)) (λ row m is. (
      let found = member-map (λ (p : Point). let r : Row = (key, p) in r) row (sampling (rules_of kept) points key) m in
      let p : Point = found.0 in
      let asked = asked-parts area first last key p (subst (λ (r : Row). is_asked area first last r ≡ true) (sym found.2) is) in
      let given = IsMember-sampling (rules_of kept) points key p found.1 in
      let in_cube = all-member (λ (q : Point). InCube (rules_of kept).cube (place q)) p points laid.can.inside (given-IsMember (rules_of kept) points key p given.0) in
      let in_box = given-InBox (rules_of kept) points key p laid.can.cube in_cube given.0 in
      let meets : MeetsArea (search_of kept area first last) key = (place p, in_box, is_in-yes area (place p) asked.2) in
      let planned = laid-planned kept points files area first last laid key node (asked.0, asked.1) meets in
      apart (IsMember-map (λ (n : Node). n.0) (key, size-at kept points key) tiles (IsMember-contains (key, size-at kept points key) tiles ((plan.each key (size-at kept points key)).1 planned))))))

  -- the rows of the sampling that are asked for are those of the tiles of the plan
  rows-planned : map (λ (row : Row). row.1) (asked_rows kept points area first last) ≡ flat_map rows-of-key (keys_of tiles)
  unfolding rows-of-key sampled-at sampled
  rows-planned =
      ap (λ (w : List Row). map (λ (row : Row). row.1) (filter (is_asked area first last) w)) (rows-tiles (node_keys (rules_of kept) points))
      ∙ rows-all area first last (λ (k : VoxelKey). sampling (rules_of kept) points k) (node_keys (rules_of kept) points)
      ∙ collect rows-of-key (node_keys (rules_of kept) points) (keys_of tiles) (IsRising-node_keys (rules_of kept) points) (IsRising-AllPairs (keys_of tiles) plan.ascend)
      (λ k m. (let t = tile-member k m in node_keys-IsMember (rules_of kept) points k laid.can.cube laid.can.inside (planned-laid kept points files area first last laid k t.0 t.1).0))
      (λ k m apart. not-tile k (IsMember-node_keys (rules_of kept) points k m) apart)
    where
      rows-tiles : (keys : List VoxelKey) → rows_of (map (tile_at (rules_of kept) points) keys) ≡ flat_map (λ (k : VoxelKey). map (λ (p : Point). let r : Row = (k, p) in r) (sampling (rules_of kept) points k)) keys
      rows-tiles [] = refl
      rows-tiles (k ∷ keys) = ap (λ (w : List Row). map (λ (p : Point). let r : Row = (k, p) in r) (sampling (rules_of kept) points k) ++ w) (rows-tiles keys)

  -- the part of a tile is what its node has of them
  part-rows : (node : Node) (part : List Point) → Contains tiles node → IsPart files area node part → part ≡ rows-of-key node.0
  unfolding rows-of-key sampled-at
  part-rows node part has is =
      let planned = (plan.each node.0 node.1).0 has in
      let laid-tile = tile-laid kept points files area first last laid node.0 node.1 planned in
      let bytes : is.has.bytes ≡ laid-tile.bytes = some-is (sym is.has.there ∙ laid-tile.there) in
      let same : is.points ≡ sampling (rules_of kept) points node.0 = tile-once is.points (sampling (rules_of kept) points node.0) (sym is.has.form.packed ∙ (bytes ∙ laid-tile.form.packed)) in
      let low = planned.has_depth.0 in
      let high = planned.has_depth.1 in
      is.inside ∙ (ap (λ (w : List Point). points_in area w) same ∙ sym (rows-inside area first last node.0 (sampling (rules_of kept) points node.0) (grind (arith, nat_tests)) (grind (arith, nat_tests))))

  parts-rows : (nodes : List Node) (parts : List (List Point)) → ((n : Node) → IsMember n nodes → Contains tiles n) → AllZip (IsPart files area) nodes parts → points_of parts ≡ flat_map rows-of-key (keys_of nodes)
  parts-rows [] [] among each = refl
  parts-rows [] (part ∷ parts) among each = absurd each
  parts-rows (n ∷ nodes) [] among each = absurd each
  parts-rows (n ∷ nodes) (part ∷ parts) among each =
      ap (λ (w : List Point). w ++ points_of parts) (part-rows n part (among n (inl refl)) each.0) ∙ ap (λ (w : List Point). rows-of-key n.0 ++ w) (parts-rows nodes parts (λ x m. among x (inr m)) each.1)

  -- the parts of all tiles are the rows that are asked for
  pub parts-whole : (parts : List (List Point)) → AllZip (IsPart files area) tiles parts → points_of parts ≡ map (λ (row : Row). row.1) (asked_rows kept points area first last)
  parts-whole parts each = parts-rows tiles parts (λ n m. contains-IsMember n tiles m) each ∙ sym rows-planned

  -- the points of the first tiles are a prefix of all points
  pub parts-front : (front back : List Node) (parts : List (List Point)) → tiles ≡ front ++ back → AllZip (IsPart files area) front parts → (rest : List Point) × (map (λ (row : Row). row.1) (asked_rows kept points area first last) ≡ points_of parts ++ rest)
  parts-front front back parts split each = (
    flat_map rows-of-key (keys_of back),
    rows-planned ∙ (ap (λ (ns : List Node). flat_map rows-of-key (keys_of ns)) split ∙ (ap (λ (ks : List VoxelKey). flat_map rows-of-key ks) (map-append (λ (n : Node). n.0) front back) ∙ (flat_map-append rows-of-key (keys_of front) (keys_of back) ∙ ap (λ (w : List Point). w ++ flat_map rows-of-key (keys_of back)) (sym (parts-rows front parts (λ n m. subst (λ (ns : List Node). Contains ns n) (sym split) (contains-IsMember n (front ++ back) (IsMember-left n front back m))) each))))),
  )
