-- Points that arrive one after another, and the points that then continue.
use Rattle.std.proofs.Common.{◌≡◌, ◌∙◌, ℕ, suc, ◌+◌, ◌<◌, List, [], ◌∷◌, ◌++◌, drop, map, refl, sym, ap, subst, arith, length, get_or, append_assoc}
use Rattle.std.proofs.Math.Seq.{drop-cons}
use Rattle.std.proofs.lemmas.List.{append-nil}
use Rattle.std.proofs.lemmas.List.Elements.{All-append, All-get_or}
use Rattle.ept_point.specs.declared.point.Point.{Point}
use Rattle.ept_space.specs.declared.cube.Rules.{Rules}
use Rattle.ept_tree.specs.declared.arrival.Arrival.{Arrival}
use Rattle.ept_tree.specs.Whole.{AreWholeWith, StaysWhole}
use Rattle.ept_table.specs.Octree.{Branch, entry_of}
use Rattle.ept_tree.specs.Tree.{IsTree, IsPlaced, ArePlaced, Becomes, AreAtDepth}
use Rattle.ept_tree.specs.Landing.{HasArrived}

-- the item of an index comes before the items after it
pub front-of : {X : Type 0} (xs : List X) (i : ℕ) (x : X) → i < length xs → x ≡ get_or xs i x → drop i xs ≡ x ∷ drop (i + 1) xs
front-of {X} xs i x low is =
    let one : suc i ≡ i + 1 = omega arith in
    drop-cons xs i x low ∙ (ap (λ (y : X). y ∷ drop (suc i) xs) (sym is) ∙ ap (λ (n : ℕ). x ∷ drop n xs) one)

drop_whole : {X : Type 0} (xs : List X) → drop (length xs) xs ≡ []
drop_whole [] = refl
drop_whole (x ∷ xs) = drop_whole xs

-- after the last item there is none
pub none-left : {X : Type 0} (xs : List X) (i : ℕ) → i ≡ length xs → drop i xs ≡ []
none-left xs i end = ap (λ (n : ℕ). drop n xs) end ∙ drop_whole xs

-- before the first point arrives, all are on their way
pub descent-begins : (rules : Rules) (arrivals next : List Arrival) (nodes : List Branch) → next ≡ [] → Becomes rules arrivals nodes (arrivals ++ next) nodes
descent-begins rules arrivals next nodes none = λ points left tree. (
    let same : arrivals ++ next ≡ arrivals = ap (λ (w : List Arrival). arrivals ++ w) none ∙ append-nil arrivals in
    subst (λ (w : List Arrival). IsTree rules points left w nodes) (sym same) tree)

pub whole-begins : (arrivals next : List Arrival) (nodes : List Branch) → next ≡ [] → StaysWhole arrivals nodes (arrivals ++ next) nodes
whole-begins arrivals next nodes none whole =
    (subst (λ (w : List Arrival). AreWholeWith w (map entry_of nodes)) (sym (ap (λ (w : List Arrival). arrivals ++ w) none ∙ append-nil arrivals)) whole, λ key is. is)

module _ (rules rules' : Rules) (same_rules : rules' ≡ rules) (arrivals next : List Arrival) (i : ℕ) (a : Arrival) (low : i < length arrivals) (a_is : a ≡ get_or arrivals i a) (old now : List Branch) (so_far : Becomes rules arrivals old (drop i arrivals ++ next) now) where
  at_front : drop i arrivals ≡ a ∷ drop (i + 1) arrivals
  at_front = front-of arrivals i a low a_is

  abbrev pub others : List Arrival
  others = drop (i + 1) arrivals ++ next

  -- the next point to arrive comes first
  pub descent-next : (points left : List Point) → IsTree rules points left arrivals old → IsTree rules' points left (a ∷ others) now
  descent-next points left tree =
      subst (λ (r : Rules). IsTree r points left (a ∷ others) now) (sym same_rules) (subst (λ (w : List Arrival). IsTree rules points left (w ++ next) now) at_front (so_far points left tree))

  module _ (new : List Branch) (next' : List Arrival) (arrived : HasArrived rules' a now new next next') where
    -- once it has arrived, the points that it sent come after the others
    pub descent-goes-on : Becomes rules arrivals old (drop (i + 1) arrivals ++ next') new
    descent-goes-on points left tree =
        let t = arrived.becomes others points left (descent-next points left tree) in
        let same : others ++ arrived.sent ≡ drop (i + 1) arrivals ++ next' = append_assoc (drop (i + 1) arrivals) next arrived.sent ∙ ap (λ (w : List Arrival). drop (i + 1) arrivals ++ w) (sym arrived.grows) in
        subst (λ (r : Rules). IsTree r points left (drop (i + 1) arrivals ++ next') new) same_rules (subst (λ (w : List Arrival). IsTree rules' points left w new) same t)

    -- and the nodes are whole with them
    pub whole-goes-on : StaysWhole arrivals old (drop i arrivals ++ next) now → StaysWhole arrivals old (drop (i + 1) arrivals ++ next') new
    whole-goes-on before whole =
        let t = arrived.whole others (subst (λ (w : List Arrival). AreWholeWith (w ++ next) (map entry_of now)) at_front (before whole).0) in
        let same : others ++ arrived.sent ≡ drop (i + 1) arrivals ++ next' = append_assoc (drop (i + 1) arrivals) next arrived.sent ∙ ap (λ (w : List Arrival). drop (i + 1) arrivals ++ w) (sym arrived.grows) in
        (subst (λ (w : List Arrival). AreWholeWith w (map entry_of new)) same t.0, λ key is. t.1 key ((before whole).1 key is))

    -- the points that it sent are one depth below
    pub descent-deepens : ((depth : ℕ) → AreAtDepth depth arrivals → AreAtDepth (depth + 1) next) → (depth : ℕ) → AreAtDepth depth arrivals → AreAtDepth (depth + 1) next'
    descent-deepens before depth at =
        let here : a.key.depth ≡ depth = ap (λ (b : Arrival). b.key.depth) a_is ∙ All-get_or (λ (b : Arrival). b.key.depth ≡ depth) arrivals i a low at in
        let sent : AreAtDepth (depth + 1) arrived.sent = subst (λ (d : ℕ). AreAtDepth (d + 1) arrived.sent) here arrived.deeper in
        subst (λ (w : List Arrival). AreAtDepth (depth + 1) w) (sym arrived.grows) (All-append (λ (b : Arrival). b.key.depth ≡ depth + 1) next arrived.sent (before depth at) sent)

-- each point that comes next may arrive
pub descent-placed : (rules rules' : Rules) → rules' ≡ rules → (arrivals : List Arrival) (i : ℕ) (a : Arrival) → i < length arrivals → a ≡ get_or arrivals i a → ArePlaced rules arrivals → IsPlaced rules' a
descent-placed rules rules' same arrivals i a low a_is placed =
    subst (λ (r : Rules). IsPlaced r a) (sym same) (subst (λ (b : Arrival). IsPlaced rules b) (sym a_is) (All-get_or (IsPlaced rules) arrivals i a low placed))

-- and the points that it sends may arrive
pub descent-places : (rules rules' : Rules) → rules' ≡ rules → (a : Arrival) (now new : List Branch) (next next' : List Arrival) → HasArrived rules' a now new next next' → ArePlaced rules next → ArePlaced rules next'
descent-places rules rules' same a now new next next' arrived placed =
    subst (λ (w : List Arrival). ArePlaced rules w) (sym arrived.grows) (All-append (IsPlaced rules) next arrived.sent placed (subst (λ (r : Rules). ArePlaced r arrived.sent) same arrived.placed))

-- at the end only the points that were sent are on their way
pub descent-ends : (rules : Rules) (arrivals next : List Arrival) (i : ℕ) (old now : List Branch) → i ≡ length arrivals → Becomes rules arrivals old (drop i arrivals ++ next) now → Becomes rules arrivals old next now
descent-ends rules arrivals next i old now end so_far = λ points left tree. (
    subst (λ (w : List Arrival). IsTree rules points left (w ++ next) now) (none-left arrivals i end) (so_far points left tree))

pub whole-ends : (arrivals next : List Arrival) (i : ℕ) (old now : List Branch) → i ≡ length arrivals → StaysWhole arrivals old (drop i arrivals ++ next) now → StaysWhole arrivals old next now
whole-ends arrivals next i old now end so_far whole =
    (subst (λ (w : List Arrival). AreWholeWith (w ++ next) (map entry_of now)) (none-left arrivals i end) (so_far whole).0, (so_far whole).1)
