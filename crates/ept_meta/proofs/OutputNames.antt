-- The names of an output. Each is one of the names of outputs, no two are the same, and with more points all names
-- remain.
use Rattle.std.proofs.Common.{◌≡◌, ◌≢◌, ◌∙◌, inl, inr, ℕ, ◌<◌, Bool, true, false, cond, List, [], ◌∷◌, ◌++◌, map, filter, refl, sym, ap, subst, arith, append_assoc, Option}
use Rattle.std.specs.Prelude.{⊤, AllPairs, Contains}
use Rattle.std.specs.List.{All}
use Rattle.std.proofs.lemmas.List.{map-append}
use Rattle.std.proofs.lemmas.List.Elements.{All-nil, All-cons, All-append, All-same}
use Rattle.std.proofs.lemmas.List.Kept.{AllPairs-cons}
use Rattle.ept_point.specs.declared.point.Point.{Point}
use Rattle.ept_space.specs.declared.bounds.Bounds.{Bounds}
use Rattle.ept_space.specs.declared.cube.Rules.{Rules}
use Rattle.ept_space.specs.VoxelKey.{VoxelKey, IsKey}
use Rattle.ept_sample.specs.Members.{IsMember}
use Rattle.ept_sample.specs.Ids.{HasDistinctIds}
use Rattle.ept_sample.specs.Nodes.{node_keys, sampled, tile_at}
use Rattle.ept_sample.proofs.Members.{IsMember-left, IsMember-right, IsMember-append, IsMember-filter, IsMember-kept, IsMember-map, member-map, All-members, IsMember-contains, contains-IsMember}
use Rattle.ept_sample.proofs.Ascending.{IsRising, IsRising-filter}
use Rattle.ept_sample.proofs.KeyOrder.{key_before, key_order}
use Rattle.ept_sample.proofs.NodeLaws.{IsMember-node_keys, node_keys-IsMember, IsRising-node_keys}
use Rattle.ept_sample.proofs.MorePoints.{is_node-among}
use Rattle.ept_sample.proofs.SamplingLaws.{node-IsKey}
use Rattle.ept_config.specs.declared.kept.Kept.{Kept}
use Rattle.ept_config.specs.declared.source_count.SourceCount.{SourceCount}
use Rattle.ept_config.specs.Extents.{IsWithin}
use Rattle.ept_hier.specs.Hierarchy.{Node, has_file, file_of, hierarchy}
use Rattle.ept_meta.specs.Output.{tile_name, hierarchy_name, metadata_name, manifest_name, build_file_name, IsOutputName, File, tile_file, hierarchy_file, counted, rules_of, output, IsOutput, names_of}
use Rattle.ept_meta.proofs.NamesDiffer.{one-tile, one-hierarchy, tile-hierarchy, tile-metadata, tile-manifest, tile-build, hierarchy-metadata, hierarchy-manifest, hierarchy-build, metadata-manifest, metadata-build, manifest-build}
use Rattle.ept_meta.proofs.InBounds.{cube-of-kept, all-in-cube}

-- ---- the names of some nodes' files

texts : List (List ℕ)
texts = metadata_name ∷ manifest_name ∷ build_file_name ∷ []

-- the tiles, the hierarchy files, and the three texts
names : ℕ → List VoxelKey → List (List ℕ)
names step keys = map tile_name keys ++ (map hierarchy_name (filter (has_file step) keys) ++ texts)

tile_names : (rules : Rules) (points : List Point) (keys : List VoxelKey) → names_of (map tile_file (map (tile_at rules points) keys)) ≡ map tile_name keys
tile_names rules points [] = refl
tile_names rules points (k ∷ keys) = ap (λ w. tile_name k ∷ w) (tile_names rules points keys)

module _ (step : ℕ) (nodes : List Node) (rules : Rules) (points : List Point) where
  files_of_nodes : List VoxelKey → List (List ℕ)
  files_of_nodes keys = names_of (map hierarchy_file (map (file_of step nodes) (filter (λ (n : Node). has_file step n.0) (map counted (map (tile_at rules points) keys)))))

  file_step : (k : VoxelKey) (keys : List VoxelKey) (b : Bool) → files_of_nodes keys ≡ map hierarchy_name (filter (has_file step) keys)
      → names_of (map hierarchy_file (map (file_of step nodes) (cond b (counted (tile_at rules points k) ∷ filter (λ (n : Node). has_file step n.0) (map counted (map (tile_at rules points) keys))) (filter (λ (n : Node). has_file step n.0) (map counted (map (tile_at rules points) keys)))))) ≡ map hierarchy_name (cond b (k ∷ filter (has_file step) keys) (filter (has_file step) keys))
  unfolding files_of_nodes
  file_step k keys true rest = ap (λ w. hierarchy_name k ∷ w) rest
  file_step k keys false rest = rest

  file_names : (keys : List VoxelKey) → files_of_nodes keys ≡ map hierarchy_name (filter (has_file step) keys)
  unfolding files_of_nodes
  file_names [] = refl
  file_names (k ∷ keys) = file_step k keys (has_file step k) (file_names keys)

names_are : (kept : Kept) (counts : List SourceCount) (extent : Option Bounds) (points : List Point) → names_of (output kept counts extent points) ≡ names kept.step (node_keys (rules_of kept) points)
unfolding names texts sampled hierarchy files_of_nodes
names_are kept counts extent points =
    let keys = node_keys (rules_of kept) points in
    let tiles = map (tile_at (rules_of kept) points) keys in
    let name : File → List ℕ = λ f. f.0 in
    map-append name (map tile_file tiles ++ map hierarchy_file (hierarchy kept.step (map counted tiles))) _
    ∙ (ap (λ w. w ++ texts) (map-append name (map tile_file tiles) (map hierarchy_file (hierarchy kept.step (map counted tiles))))
    ∙ (append_assoc (names_of (map tile_file tiles)) (names_of (map hierarchy_file (hierarchy kept.step (map counted tiles)))) texts
    ∙ (ap (λ w. w ++ (names_of (map hierarchy_file (hierarchy kept.step (map counted tiles))) ++ texts)) (tile_names (rules_of kept) points keys)
    ∙ ap (λ w. map tile_name keys ++ (w ++ texts)) (file_names kept.step (map counted tiles) (rules_of kept) points keys))))

names-of-output : (kept : Kept) (points : List Point) (files : List File) → IsOutput kept points files → names_of files ≡ names kept.step (node_keys (rules_of kept) points)
names-of-output kept points files is = ap names_of is.files_are ∙ names_are kept is.counts is.extent points

-- ---- each is one of the names

all_mapped : {X Y : Type 0} (P : Y → Type 0) (f : X → Y) (xs : List X) → ((x : X) → P (f x)) → All P (map f xs)
all_mapped P f [] each = All-nil P
all_mapped P f (x ∷ xs) each = All-cons P (f x) (map f xs) (each x) (all_mapped P f xs each)

pub have-names : (kept : Kept) (points : List Point) (files : List File) → IsOutput kept points files → All IsOutputName (names_of files)
unfolding names texts
have-names kept points files is =
    let keys = node_keys (rules_of kept) points in
    All-same IsOutputName (names_of files) (names kept.step keys) (names-of-output kept points files is)
    (All-append IsOutputName (map tile_name keys) (map hierarchy_name (filter (has_file kept.step) keys) ++ texts) (all_mapped IsOutputName tile_name keys (λ k. inl (k, refl)))
    (All-append IsOutputName (map hierarchy_name (filter (has_file kept.step) keys)) texts (all_mapped IsOutputName hierarchy_name (filter (has_file kept.step) keys) (λ k. inr (inl (k, refl))))
    (All-cons IsOutputName metadata_name (manifest_name ∷ build_file_name ∷ []) (inr (inr (inl refl))) (All-cons IsOutputName manifest_name (build_file_name ∷ []) (inr (inr (inr (inl refl)))) (All-cons IsOutputName build_file_name [] (inr (inr (inr (inr refl)))) (All-nil IsOutputName))))))

-- ---- no two are the same

abbrev AreApart : {X : Type 0} → List X → Type 0
AreApart [] = ⊤
AreApart {X} (x ∷ xs) = ((y : X) → IsMember y xs → x ≢ y) × AreApart xs

apart_pairs : {X : Type 0} (xs : List X) → AreApart xs → AllPairs (λ a b. a ≢ b) xs
apart_pairs [] apart = λ i j d less inside. absurd (let below : j < 0 = inside in omega arith)
apart_pairs (x ∷ xs) apart = AllPairs-cons (λ a b. a ≢ b) x xs (All-members (λ y. x ≢ y) xs apart.0) (apart_pairs xs apart.1)

apart_append : {X : Type 0} (xs ys : List X) → AreApart xs → AreApart ys → ((x y : X) → IsMember x xs → IsMember y ys → x ≢ y) → AreApart (xs ++ ys)
apart_append [] ys first second across = second
apart_append (x ∷ xs) ys first second across = (
  λ y m. elim (IsMember-append y xs ys m) [ inl among ↦ first.0 y among | inr among ↦ across x y (inl refl) among ],
  apart_append xs ys first.1 second (λ a b m n. across a b (inr m) n),
)

apart_mapped : {X Y : Type 0} (f : X → Y) (xs : List X) → ((a b : X) → IsMember a xs → IsMember b xs → f a ≡ f b → a ≡ b) → AreApart xs → AreApart (map f xs)
apart_mapped f [] once apart = tt
apart_mapped f (x ∷ xs) once apart = (
  λ y m same. let from = member-map f y xs m in apart.0 from.0 from.1 (once x from.0 (inl refl) (inr from.1) (same ∙ sym from.2)),
  apart_mapped f xs (λ a b m n. once a b (inr m) (inr n)) apart.1,
)

not_both : (b : Bool) → b ≡ true → b ≡ false → ⊥
not_both b holds fails = let e : true ≡ false = sym holds ∙ fails in cc

apart_rising : (keys : List VoxelKey) → IsRising key_before keys → AreApart keys
apart_rising [] up = tt
apart_rising (k ∷ keys) up = (
  λ y m same. not_both (key_before k k) (subst (λ (w : VoxelKey). key_before k w ≡ true) (sym same) (up.0 y m)) (key_order.none_itself k),
  apart_rising keys up.1,
)

apart_texts : AreApart texts
unfolding texts
apart_texts = (
  λ y m. elim m [ inl e ↦ subst (λ w. metadata_name ≢ w) e metadata-manifest | inr n ↦ elim n [ inl e ↦ subst (λ w. metadata_name ≢ w) e metadata-build | inr o ↦ absurd o ] ],
  (λ y m. elim m [ inl e ↦ subst (λ w. manifest_name ≢ w) e manifest-build | inr n ↦ absurd n ], (λ y m. absurd m, tt)),
)

tile_apart_texts : (k : VoxelKey) (y : List ℕ) → IsMember y texts → tile_name k ≢ y
unfolding texts
tile_apart_texts k y (inl e) = subst (λ w. tile_name k ≢ w) e (tile-metadata k)
tile_apart_texts k y (inr (inl e)) = subst (λ w. tile_name k ≢ w) e (tile-manifest k)
tile_apart_texts k y (inr (inr (inl e))) = subst (λ w. tile_name k ≢ w) e (tile-build k)
tile_apart_texts k y (inr (inr (inr m))) = absurd m

hierarchy_apart_texts : (k : VoxelKey) (y : List ℕ) → IsMember y texts → hierarchy_name k ≢ y
unfolding texts
hierarchy_apart_texts k y (inl e) = subst (λ w. hierarchy_name k ≢ w) e (hierarchy-metadata k)
hierarchy_apart_texts k y (inr (inl e)) = subst (λ w. hierarchy_name k ≢ w) e (hierarchy-manifest k)
hierarchy_apart_texts k y (inr (inr (inl e))) = subst (λ w. hierarchy_name k ≢ w) e (hierarchy-build k)
hierarchy_apart_texts k y (inr (inr (inr m))) = absurd m

hierarchy_apart : (files : List VoxelKey) (x y : List ℕ) → IsMember x (map hierarchy_name files) → IsMember y texts → x ≢ y
hierarchy_apart files x y m n =
    let from = member-map hierarchy_name x files m in subst (λ w. w ≢ y) from.2 (hierarchy_apart_texts from.0 y n)

tile_apart : (keys files : List VoxelKey) (x y : List ℕ) → IsMember x (map tile_name keys) → IsMember y (map hierarchy_name files ++ texts) → x ≢ y
tile_apart keys files x y m n =
    let from = member-map tile_name x keys m in
    subst (λ w. w ≢ y) from.2 (elim (IsMember-append y (map hierarchy_name files) texts n) [
      | inl among ↦ (let file = member-map hierarchy_name y files among in subst (λ w. tile_name from.0 ≢ w) file.2 (tile-hierarchy from.0 file.0))
      | inr among ↦ tile_apart_texts from.0 y among
    ])

names_apart : (step : ℕ) (keys : List VoxelKey) → IsRising key_before keys → ((k : VoxelKey) → IsMember k keys → IsKey k) → AreApart (names step keys)
unfolding names
names_apart step keys up are =
    let files = filter (has_file step) keys in
    let in_keys : (k : VoxelKey) → IsMember k files → IsMember k keys = λ k m. (IsMember-filter (has_file step) k keys m).0 in
    apart_append (map tile_name keys) (map hierarchy_name files ++ texts) (apart_mapped tile_name keys (λ a b m n same. one-tile a b (are a m) (are b n) same) (apart_rising keys up))
    (apart_append (map hierarchy_name files) texts (apart_mapped hierarchy_name files (λ a b m n same. one-hierarchy a b (are a (in_keys a m)) (are b (in_keys b n)) same) (apart_rising files (IsRising-filter key_before (has_file step) keys up))) apart_texts (hierarchy_apart files))
    (tile_apart keys files)

pub stand-once : (kept : Kept) (points : List Point) (files : List File) → All (IsWithin kept.bounds) points → IsOutput kept points files → AllPairs (λ a b. a ≢ b) (names_of files)
stand-once kept points files within is =
    let rules = rules_of kept in
    let apart = names_apart kept.step (node_keys rules points) (IsRising-node_keys rules points) (λ k m. node-IsKey rules points k (cube-of-kept kept) (all-in-cube kept points within) (IsMember-node_keys rules points k m)) in
    subst (λ (w : List (List ℕ)). AllPairs (λ a b. a ≢ b) w) (sym (names-of-output kept points files is)) (apart_pairs (names kept.step (node_keys rules points)) apart)

-- ---- with more points all names remain

names_more : (step : ℕ) (keys more : List VoxelKey) → ((k : VoxelKey) → IsMember k keys → IsMember k more) → (name : List ℕ) → IsMember name (names step keys) → IsMember name (names step more)
unfolding names
names_more step keys more among name m =
    elim (IsMember-append name (map tile_name keys) (map hierarchy_name (filter (has_file step) keys) ++ texts) m) [
      | inl tile ↦ (let from = member-map tile_name name keys tile in
          subst (λ w. IsMember w (map tile_name more ++ (map hierarchy_name (filter (has_file step) more) ++ texts))) from.2 (IsMember-left (tile_name from.0) (map tile_name more) (map hierarchy_name (filter (has_file step) more) ++ texts) (IsMember-map tile_name from.0 more (among from.0 from.1))))
      | inr others ↦ IsMember-right name (map tile_name more) (map hierarchy_name (filter (has_file step) more) ++ texts) (elim (IsMember-append name (map hierarchy_name (filter (has_file step) keys)) texts others) [
        | inl file ↦ (let from = member-map hierarchy_name name (filter (has_file step) keys) file in
            let has = IsMember-filter (has_file step) from.0 keys from.1 in
            subst (λ w. IsMember w (map hierarchy_name (filter (has_file step) more) ++ texts)) from.2 (IsMember-left (hierarchy_name from.0) (map hierarchy_name (filter (has_file step) more)) texts (IsMember-map hierarchy_name from.0 (filter (has_file step) more) (IsMember-kept (has_file step) from.0 more has.1 (among from.0 has.0)))))
        | inr text ↦ IsMember-right name (map hierarchy_name (filter (has_file step) more)) texts text
      ])
    ]

pub names-grow : (kept later : Kept) (first points : List Point) (files more : List File) → rules_of later ≡ rules_of kept → later.step ≡ kept.step → HasDistinctIds first → ((p : Point) → Contains first p → Contains points p) → All (IsWithin later.bounds) points → IsOutput kept first files → IsOutput later points more → (name : List ℕ) → Contains (names_of files) name → Contains (names_of more) name
names-grow kept later first points files more rules step distinct among within is is_more name there =
    let old : List VoxelKey = node_keys (rules_of later) first in
    let new : List VoxelKey = node_keys (rules_of later) points in
    let of_first : names_of files ≡ names later.step old =
    names-of-output kept first files is ∙ (ap (λ (r : Rules). names kept.step (node_keys r first)) (sym rules) ∙ ap (λ (k : ℕ). names k old) (sym step)) in
    let each : (k : VoxelKey) → IsMember k old → IsMember k new =
    λ k m. node_keys-IsMember (rules_of later) points k (cube-of-kept later) (all-in-cube later points within) (is_node-among (rules_of later) first points k distinct (λ p n. IsMember-contains p points (among p (contains-IsMember p first n))) (IsMember-node_keys (rules_of later) first k m)) in
    let found : IsMember name (names later.step old) = subst (λ (w : List (List ℕ)). IsMember name w) of_first (IsMember-contains name (names_of files) there) in
    contains-IsMember name (names_of more) (subst (λ (w : List (List ℕ)). IsMember name w) (sym (names-of-output later points more is_more)) (names_more later.step old new each name found))
