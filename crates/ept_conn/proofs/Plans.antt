-- A folder has one plan for a query, and one part for a tile.
use Rattle.std.proofs.Common.{◌≡◌, ◌∙◌, ◌<◌, ◌≤◌, ◌⊎◌, ◌↔◌, inl, inr, ℕ, zero, suc, List, [], ◌∷◌, length, get_or, Some, None, refl, sym, ap, subst, arith}
use Rattle.std.specs.Prelude.{Contains}
use Rattle.std.proofs.lemmas.List.{get_or_default}
use Rattle.ept_base.specs.Files.{Files}
use Rattle.ept_point.specs.Packed.{tile}
use Rattle.ept_space.specs.declared.box3.Box3.{Box3}
use Rattle.ept_space.specs.VoxelKey.{VoxelKey, root, AreAscending}
use Rattle.ept_sample.specs.Members.{IsMember}
use Rattle.ept_sample.proofs.Ascending.{IsOrder, IsRising, same_rising}
use Rattle.ept_sample.proofs.KeyOrder.{key_before, key_order, IsRising-AllPairs}
use Rattle.ept_hier.specs.Hierarchy.{Node, keys_of}
use Rattle.ept_http.specs.QueryWords.{IsOrdered}
use Rattle.ept_query.specs.Planning.{IsPlanFor}
use Rattle.ept_query.specs.Damage.{HasTile}
use Rattle.ept_query.specs.Parts.{Plan, node_at, IsPartOf}
use Rattle.ept_conn.specs.declared.turn.Turn.{Turn}
use Rattle.ept_conn.specs.Answers.{Served}
use Rattle.ept_conn.specs.Served.{HasPart, IsOpenTo, IsServed, IsSentOf}
use Rattle.ept_conn.specs.declared.hand.Hand.{Hand}
use Rattle.ept_conn.specs.declared.hand.Hand.TheVariants.{Empty, Decided, Tiles}
use Rattle.ept_conn.specs.Works.{IsTurnsPlan, IsPlanOfTurn, HasPlanOf, HasNoTiles}

-- ---- members

at-member : {X : Type 0} (xs : List X) (k : ℕ) (x d : X) → k < length xs → get_or xs k d ≡ x → IsMember x xs
at-member [] k x d within is = absurd (omega (arith, within))
at-member (y ∷ ys) zero x d within is = inl is
at-member (y ∷ ys) (suc k) x d within is = inr (at-member ys k x d (omega (arith, within)) is)

contains-member : {X : Type 0} (xs : List X) (x : X) → Contains xs x → IsMember x xs
contains-member xs x has = at-member xs has.0 x x has.1 has.2

member-contains : {X : Type 0} (xs : List X) (x : X) → IsMember x xs → Contains xs x
member-contains [] x m = absurd m
member-contains (y ∷ ys) x (inl is) = (0, omega arith, is)
member-contains (y ∷ ys) x (inr m) =
    let rest = member-contains ys x m in
    (suc rest.0, omega (arith, rest.1), rest.2)

-- ---- one plan

nodes_rise : (nodes : List Node) → IsRising key_before (keys_of nodes) → IsRising (λ (a b : Node). key_before a.0 b.0) nodes
nodes_rise [] up = tt
nodes_rise (n ∷ nodes) up = (λ y m. up.0 y.0 (there y nodes m), nodes_rise nodes up.1)
  where
    there : (y : Node) (ys : List Node) → IsMember y ys → IsMember y.0 (keys_of ys)
    there y [] m = absurd m
    there y (z ∷ ys) (inl is) = inl (ap (λ (n : Node). n.0) is)
    there y (z ∷ ys) (inr m) = inr (there y ys m)

node_order : IsOrder (λ (a b : Node). key_before a.0 b.0)
node_order = record {
  none_itself = λ n. key_order.none_itself n.0;
  goes_on = λ a b c. key_order.goes_on a.0 b.0 c.0;
}

plan-once : (IsAsked : VoxelKey → ℕ → Type 0) (a b : List Node) → AreAscending (keys_of a) → AreAscending (keys_of b) → ((key : VoxelKey) (count : ℕ) → Contains a (key, count) ↔ IsAsked key count) → ((key : VoxelKey) (count : ℕ) → Contains b (key, count) ↔ IsAsked key count) → a ≡ b
plan-once IsAsked a b up up' p q =
    same_rising (λ (x y : Node). key_before x.0 y.0) node_order a b
    (nodes_rise a (IsRising-AllPairs (keys_of a) up))
    (nodes_rise b (IsRising-AllPairs (keys_of b) up'))
    (λ z m. contains-member b z ((q z.0 z.1).1 ((p z.0 z.1).0 (member-contains a z m))))
    (λ z m. contains-member a z ((p z.0 z.1).1 ((q z.0 z.1).0 (member-contains b z m))))

-- a query has at most one plan
pub one-plan : (files : Files) (area : Box3) (first second : ℕ) (a b : Plan) → IsPlanFor area first second a files → IsPlanFor area first second b files → a.tiles ≡ b.tiles
one-plan files area first second a b is other =
    let one = is.tiles other.build.0 other.build.1 in
    let two = other.tiles other.build.0 other.build.1 in
    plan-once _ a.tiles b.tiles one.ascend two.ascend one.each two.each

plan-open : (files : Files) (served : Served) (area : Box3) (first second : ℕ) (plan : Plan) → IsOpenTo files served → IsOrdered area → first ≤ second → IsPlanFor area first second plan files → served.plan area first second ≡ Some plan.tiles
plan-open files served area first second plan is ordered depths has =
    let there = is.plan area first second ordered depths in
    there.1 ∙ ap Some (one-plan files area first second (record { area = area; tiles = there.0 }) plan there.2 has)

-- `IsServed` is a special case of `IsSentOf`
pub served-sent : (files : Files) (served : Served) → IsServed files served → IsSentOf files served
served-sent files served (inl shut) = inl shut
served-sent files served (inr is) = inr (record {
  folder = is.folder;
  done = is.done;
  file = is.file;
  plan = λ area first second plan ordered depths has. plan-open files served area first second plan is ordered depths has;
  part = λ area first second nodes node points planned there has. (is.part area first second nodes node planned there).packed points has;
})

pub plan-served : (files : Files) (served : Served) (area : Box3) (first second : ℕ) (plan : Plan) → IsSentOf files served → IsOrdered area → first ≤ second → IsPlanFor area first second plan files → served.plan area first second ≡ Some plan.tiles
plan-served files served area first second plan (inl shut) ordered depths has = absurd (shut.done has.done)
plan-served files served area first second plan (inr is) ordered depths has = is.plan area first second plan ordered depths has

-- the folder of which it is sent is this one
pub folder-is : (files : Files) (served : Served) → IsSentOf files served → served.files ≡ files
folder-is files served (inl shut) = shut.folder
folder-is files served (inr is) = is.folder

-- ---- one part

pub part-there : (files : Files) (served : Served) (turn : Turn) (plan : Plan) (done : ℕ) → IsOpenTo files served → done < length plan.tiles → IsTurnsPlan served turn plan → HasPart files plan.area (node_at plan done) (served.part plan.area (node_at plan done))
part-there files served turn plan done is within planned =
    let node = node_at plan done in
    let there : Contains plan.tiles node = (done, within, get_or_default plan.tiles done node (root, 0) within) in
    is.part plan.area planned.first planned.second plan.tiles node planned.plan_is there

pub part-served : (files : Files) (served : Served) (turn : Turn) (plan : Plan) (done : ℕ) (bytes : List ℕ) (count : ℕ) → IsSentOf files served → IsTurnsPlan served turn plan → done < length plan.tiles → IsPartOf plan.area (node_at plan done) bytes count (Some files) → served.part plan.area (node_at plan done) ≡ bytes
part-served files served turn plan done bytes count (inl shut) planned within part =
    let none : Some plan.tiles ≡ None = sym planned.plan_is ∙ shut.plan plan.area planned.first planned.second in
    absurd cc
part-served files served turn plan done bytes count (inr is) planned within part =
    let node = node_at plan done in
    let has : HasTile files node.0 node.1 part.points = record {
      bytes = tile part.points;
      there = part.there;
      form = record { packed = refl; ascend = part.ascend; counted = part.counted };
    } in
    let there : Contains plan.tiles node = (done, within, get_or_default plan.tiles done node (root, 0) within) in
    is.part plan.area planned.first planned.second plan.tiles node part.points planned.plan_is there has ∙ sym part.bytes_are

-- ---- the plan in hand

pub no-tiles-plan : (files : Files) (hand : Hand) → HasNoTiles hand → HasPlanOf files hand
no-tiles-plan files Empty none = tt
no-tiles-plan files (Decided turn) none = tt
no-tiles-plan files (Tiles turn plan done) none = absurd none

pub tiles-plan : (files : Files) (turn : Turn) (plan : Plan) (done : ℕ) (hand : Hand) → (hand ≡ Empty) ⊎ (hand ≡ Tiles turn plan done) → IsPlanOfTurn files turn plan → HasPlanOf files hand
tiles-plan files turn plan done hand (inl is) has = subst (HasPlanOf files) (sym is) tt
tiles-plan files turn plan done hand (inr is) has = subst (HasPlanOf files) (sym is) has
