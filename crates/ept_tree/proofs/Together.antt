-- The points of all nodes and those that leave are together those from before and the point that arrives, whatever the
-- ids.
use Rattle.std.proofs.Common.{◌≡◌, ◌∙◌, ℕ, ◌+◌, ◌<◌, Bool, true, false, cond, List, [], ◌∷◌, ◌++◌, refl, ap, arith, length, count_by, Option, Some, None, Ordering}
use Rattle.std.specs.List.{flat_map}
use Rattle.std.specs.declared.cmp.Ordering.TheVariants.{Less, Equal, Greater}
use Rattle.std.specs.Ordering.{match_ordering, is_eq}
use Rattle.std.specs.BTreeMap.{is_at, insert_entry}
use Rattle.std.specs.Map.{lookup, set_value}
use Rattle.std.proofs.lemmas.List.Elements.{All-head}
use Rattle.ept_point.specs.declared.point.Point.{Point}
use Rattle.ept_space.specs.declared.cube.Rules.{Rules}
use Rattle.ept_space.specs.VoxelKey.{VoxelKey, child, key_cmp}
use Rattle.ept_sample.specs.Arrivals.{all_octants}
use Rattle.ept_sample.proofs.IdLaws.{count_by-append}
use Rattle.ept_grid.specs.Node as grid
use Rattle.ept_grid.specs.Outgoing.{Leaving, points_at, all_points}
use Rattle.ept_tree.specs.declared.arrival.Arrival.{Arrival}
use Rattle.ept_tree.specs.Sending.{arrivals_to, sending}
use Rattle.ept_table.specs.Octree.{Branch, points_in}
use Rattle.ept_tree.specs.Tree.{on_the_way, IsPlaced, ArePlaced, AreAtDepth}

-- ---- a node written at its key

set_step : (test : Point → Bool) (b : Branch) (bs : List Branch) (old new : grid.Node) (rest : List Branch) (found : Option grid.Node) (here : Bool) → (Some old ≡ found → count_by test (points_in rest) + count_by test old.points ≡ count_by test (points_in bs) + count_by test new.points) → Some old ≡ cond here (Some b.1) found → count_by test (points_in (cond here ((b.0, new) ∷ bs) (b ∷ rest))) + count_by test old.points ≡ count_by test (points_in (b ∷ bs)) + count_by test new.points
set_step test b bs old new rest found true more is =
    let same : old ≡ b.1 = cc in
    let count : count_by test old.points ≡ count_by test b.1.points = ap (λ (n : grid.Node). count_by test n.points) same in
    omega (arith, count, count_by-append test new.points (points_in bs), count_by-append test b.1.points (points_in bs))
set_step test b bs old new rest found false more is =
    omega (arith, more is, count_by-append test b.1.points (points_in rest), count_by-append test b.1.points (points_in bs))

pub set-together : (test : Point → Bool) (nodes : List Branch) (k : VoxelKey) (old new : grid.Node) → Some old ≡ lookup (is_at (key_cmp k)) nodes → count_by test (points_in (set_value (is_at (key_cmp k)) nodes new)) + count_by test old.points ≡ count_by test (points_in nodes) + count_by test new.points
set-together test [] k old new is = absurd (cc)
set-together test (b ∷ bs) k old new is =
    set_step test b bs old new (set_value (is_at (key_cmp k)) bs new) (lookup (is_at (key_cmp k)) bs) (is_at (key_cmp k) b.0) (set-together test bs k old new) is

insert_step : (test : Point → Bool) (k : VoxelKey) (b : Branch) (bs rest : List Branch) (new : grid.Node) (found : Option grid.Node) (o : Ordering) → (None ≡ found → count_by test (points_in rest) ≡ count_by test (points_in bs) + count_by test new.points) → None ≡ cond (is_eq o) (Some b.1) found → count_by test (points_in (match_ordering o ((k, new) ∷ b ∷ bs) ((b.0, new) ∷ bs) (b ∷ rest))) ≡ count_by test (points_in (b ∷ bs)) + count_by test new.points
insert_step test k b bs rest new found Less more is = omega (arith, count_by-append test new.points (points_in (b ∷ bs)))
insert_step test k b bs rest new found Equal more is = absurd (cc)
insert_step test k b bs rest new found Greater more is =
    omega (arith, more is, count_by-append test b.1.points (points_in rest), count_by-append test b.1.points (points_in bs))

pub insert-together : (test : Point → Bool) (nodes : List Branch) (k : VoxelKey) (new : grid.Node) → None ≡ lookup (is_at (key_cmp k)) nodes → count_by test (points_in (insert_entry key_cmp nodes k new)) ≡ count_by test (points_in nodes) + count_by test new.points
insert-together test [] k new is = omega (arith, count_by-append test new.points [])
insert-together test (b ∷ bs) k new is =
    insert_step test k b bs (insert_entry key_cmp bs k new) new (lookup (is_at (key_cmp k)) bs) (key_cmp k b.0) (insert-together test bs k new) is

-- ---- a point that has landed

pub found-together : (test : Point → Bool) (nodes nodes' : List Branch) (k : VoxelKey) (p : Point) (old new : grid.Node) (leaving : List Leaving) → Some old ≡ lookup (is_at (key_cmp k)) nodes → nodes' ≡ set_value (is_at (key_cmp k)) nodes new → count_by test new.points + count_by test (all_points leaving) ≡ count_by test (p ∷ old.points) → count_by test (points_in nodes') + count_by test (all_points leaving) ≡ count_by test (p ∷ points_in nodes)
found-together test nodes nodes' k p old new leaving found is taken =
    let written : count_by test (points_in nodes') ≡ count_by test (points_in (set_value (is_at (key_cmp k)) nodes new)) = ap (λ (w : List Branch). count_by test (points_in w)) is in
    omega (arith, written, set-together test nodes k old new found, taken, count_by-append test (p ∷ []) old.points, count_by-append test (p ∷ []) (points_in nodes))

pub new-together : (test : Point → Bool) (nodes nodes' : List Branch) (k : VoxelKey) (p : Point) (old new : grid.Node) (leaving : List Leaving) → None ≡ lookup (is_at (key_cmp k)) nodes → nodes' ≡ insert_entry key_cmp nodes k new → old.points ≡ [] → count_by test new.points + count_by test (all_points leaving) ≡ count_by test (p ∷ old.points) → count_by test (points_in nodes') + count_by test (all_points leaving) ≡ count_by test (p ∷ points_in nodes)
new-together test nodes nodes' k p old new leaving none is empty taken =
    let written : count_by test (points_in nodes') ≡ count_by test (points_in (insert_entry key_cmp nodes k new)) = ap (λ (w : List Branch). count_by test (points_in w)) is in
    let first : count_by test (p ∷ old.points) ≡ count_by test (p ∷ []) = ap (λ (w : List Point). count_by test (p ∷ w)) empty in
    omega (arith, written, insert-together test nodes k new none, taken, first, count_by-append test (p ∷ []) (points_in nodes))

-- ---- the points that leave are those that are sent

to_points : (key : VoxelKey) (points : List Point) → on_the_way (arrivals_to key points) ≡ points
to_points key [] = refl
to_points key (p ∷ points) = ap (λ (w : List Point). p ∷ w) (to_points key points)

pub way-append : (xs ys : List Arrival) → on_the_way (xs ++ ys) ≡ on_the_way xs ++ on_the_way ys
way-append [] ys = refl
way-append (x ∷ xs) ys = ap (λ (w : List Point). x.point ∷ w) (way-append xs ys)

each_octant : (key : VoxelKey) (part : ℕ → List Point) (os : List ℕ) → on_the_way (flat_map (λ o. arrivals_to (child key o) (part o)) os) ≡ flat_map part os
each_octant key part [] = refl
each_octant key part (o ∷ os) =
    way-append (arrivals_to (child key o) (part o)) (flat_map (λ k. arrivals_to (child key k) (part k)) os)
    ∙ (ap (λ (w : List Point). w ++ on_the_way (flat_map (λ k. arrivals_to (child key k) (part k)) os)) (to_points (child key o) (part o))
    ∙ ap (λ (w : List Point). part o ++ w) (each_octant key part os))

all_eight : (out : List Leaving) → length out ≡ 8 → flat_map (points_at out) all_octants ≡ all_points out
all_eight [] eight = absurd (omega (arith, eight))
all_eight (a ∷ []) eight = absurd (omega (arith, eight))
all_eight (a ∷ b ∷ []) eight = absurd (omega (arith, eight))
all_eight (a ∷ b ∷ c ∷ []) eight = absurd (omega (arith, eight))
all_eight (a ∷ b ∷ c ∷ d ∷ []) eight = absurd (omega (arith, eight))
all_eight (a ∷ b ∷ c ∷ d ∷ e ∷ []) eight = absurd (omega (arith, eight))
all_eight (a ∷ b ∷ c ∷ d ∷ e ∷ f ∷ []) eight = absurd (omega (arith, eight))
all_eight (a ∷ b ∷ c ∷ d ∷ e ∷ f ∷ g ∷ []) eight = absurd (omega (arith, eight))
all_eight (a ∷ b ∷ c ∷ d ∷ e ∷ f ∷ g ∷ h ∷ []) eight = refl
all_eight (a ∷ b ∷ c ∷ d ∷ e ∷ f ∷ g ∷ h ∷ i ∷ out) eight = absurd (omega (arith, eight))

pub sending-all : (key : VoxelKey) (leaving : List Leaving) → length leaving ≡ 8 → on_the_way (sending key leaving) ≡ all_points leaving
sending-all key leaving eight = each_octant key (points_at leaving) all_octants ∙ all_eight leaving eight

pub sent-together : (test : Point → Bool) (before : List Point) (nodes' : List Branch) (key : VoxelKey) (leaving : List Leaving) → length leaving ≡ 8 → count_by test (points_in nodes') + count_by test (all_points leaving) ≡ count_by test before → count_by test (points_in nodes') + count_by test (on_the_way (sending key leaving)) ≡ count_by test before
sent-together test before nodes' key leaving eight landed =
    let all : count_by test (on_the_way (sending key leaving)) ≡ count_by test (all_points leaving) = ap (λ (w : List Point). count_by test w) (sending-all key leaving eight) in
    omega (arith, all, landed)

-- ---- one after another

pub next-together : (test : Point → Bool) (first before now : List Point) (a : Arrival) (arrivals behind next sent next' : List Arrival) (nodes' : List Branch) → arrivals ≡ a ∷ behind → next' ≡ next ++ sent → count_by test (points_in nodes') + count_by test (on_the_way sent) ≡ count_by test (a.point ∷ now) → count_by test now + count_by test (on_the_way next) + count_by test (on_the_way arrivals) ≡ count_by test first + count_by test before → count_by test (points_in nodes') + count_by test (on_the_way next') + count_by test (on_the_way behind) ≡ count_by test first + count_by test before
next-together test first before now a arrivals behind next sent next' nodes' front grows arrived so_far =
    let waiting : count_by test (on_the_way arrivals) ≡ count_by test (a.point ∷ on_the_way behind) = ap (λ (w : List Arrival). count_by test (on_the_way w)) front in
    let on : count_by test (on_the_way next') ≡ count_by test (on_the_way next ++ on_the_way sent) = ap (λ (w : List Arrival). count_by test (on_the_way w)) grows ∙ ap (λ (w : List Point). count_by test w) (way-append next sent) in
    omega (arith, waiting, on, arrived, so_far, count_by-append test (on_the_way next) (on_the_way sent), count_by-append test (a.point ∷ []) now, count_by-append test (a.point ∷ []) (on_the_way behind))

-- no point that may arrive is on its way below the greatest depth
pub none-below : (rules : Rules) (arrivals : List Arrival) (depth : ℕ) → ArePlaced rules arrivals → AreAtDepth depth arrivals → rules.cube.depth < depth → arrivals ≡ []
none-below rules [] depth placed at deep = refl
none-below rules (a ∷ arrivals) depth placed at deep =
    absurd (omega (arith, (All-head (IsPlaced rules) a arrivals placed).shallow, All-head (λ (b : Arrival). b.key.depth ≡ depth) a arrivals at, deep))
