-- The walk over the nodes, in preorder: what is kept says what the tiles say.
use Rattle.std.proofs.Common.{◌≡◌, ◌≢◌, ◌∙◌, ◌+◌, ◌<◌, ◌≤◌, ℕ, zero, suc, Bool, true, false, ◌||◌, inl, inr, ◌⊎◌, ⊎_elim, List, [], ◌∷◌, ◌++◌, length, get_or, take, drop, refl, sym, ap, subst, arith, Option, Some, None, Result, Ok, Err, ◌↔◌}
use Rattle.std.specs.Prelude.{IfOk, MatchOption}
use Rattle.std.specs.List.{All, AllPairs, list_any, sum_by}
use Rattle.std.specs.List.Sorted.{IsPermutation}
use Rattle.std.proofs.lemmas.Bool.{cases_lt, false≢true}
use Rattle.std.proofs.lemmas.List.{take_more, get_or-take, length-take, get_or_default}
use Rattle.std.proofs.lemmas.List.Elements.{Contains-get_or}
use Rattle.std.proofs.lemmas.List.Sorted.{Contains-permutation, IsPermutation-sym, sum_by-IsPermutation}
use Rattle.std.proofs.lemmas.List.Sums.{sum_by-cons, sum_by-append}
use Rattle.ept_base.specs.Files.{Files, SameFiles, StepsBy, Tells}
use Rattle.ept_point.specs.declared.point.Point.{Point}
use Rattle.ept_point.specs.declared.id.PointId.{PointId}
use Rattle.ept_point.specs.Order.{id}
use Rattle.ept_space.specs.declared.cube.Rules.{Rules}
use Rattle.ept_space.specs.VoxelKey.{VoxelKey, IsKey, AreAscending, is_within, is_below}
use Rattle.ept_space.proofs.Within.{is_below-within, is_below-from, is_within-level, depth-within}
use Rattle.ept_sample.specs.Ids.{same_id}
use Rattle.ept_sample.specs.Arrivals.{loses}
use Rattle.ept_sample.specs.Members.{IsMember}
use Rattle.ept_sample.proofs.Choices.{either}
use Rattle.ept_sample.proofs.IdLaws.{same_id-sym}
use Rattle.ept_sample.proofs.Members.{IsMember-append, IsMember-left, IsMember-right, IsMember-map, member-map, all-member, All-members, IsMember-contains, contains-IsMember, member-any, any-member}
use Rattle.ept_grid.specs.Node.{Node as GridNode}
use Rattle.ept_hier.specs.Hierarchy.{Node, keys_of}
use Rattle.ept_query.specs.Damage.{HasTile, HasNoTile, RefusesReading}
use Rattle.ept_query.specs.declared.query_error.QueryFile.TheVariants as file
use Rattle.ept_query.specs.declared.query_error.QueryError.{QueryError}
use Rattle.ept_query.specs.declared.query_error.QueryError.TheVariants as query
use Rattle.ept_check.specs.Causes.{of_query}
use Rattle.ept_check.specs.Verdicts.{AnswersWalk}
use Rattle.ept_check.proofs.Told.{tells-from, told-back, no-tile-back}
use Rattle.ept_query.specs.CompleteLaws.{TileIsOfOne}
use Rattle.ept_check.specs.declared.fault.Fault.{Fault}
use Rattle.ept_check.specs.declared.fault.Fault.TheVariants.{Orphan, Outside, OpenLoser, TooMany, Above, Few, Empty, Twice}
use Rattle.ept_check.specs.declared.octree.Octree.{Octree}
use Rattle.ept_check.specs.declared.seen.Seen.{Seen}
use Rattle.ept_check.specs.Nodes.{count_of, ComesBefore, HasNode, LoseAbove, AreNew}
use Rattle.ept_check.specs.Facts.{Fact, Holds, IsFirstLack, number_of}
use Rattle.ept_check.specs.Folder.{HaveParents, IsFaultless, IsFirstFault, IsFirstDamage}
use Rattle.ept_check.specs.Looking.{Finds, AreFound, HasTaken}
use Rattle.ept_check.specs.Walking.{AreInPreorder, AreOfRules, LoseTo, HaveNewIds, has_id, is_of, is_one_id, HasCome}
use Rattle.ept_check.proofs.Paths.{before-self, before-both, below-before, between-within}
use Rattle.ept_check.proofs.Tiled.{count-once, node-once}

-- ---- the facts, given in two ways

pub lack-as : (A A' B B' : Type 0) (rules : Rules) (nodes : List Node) (key : VoxelKey) (points : List Point) → (A → A') → (A' → A) → (B → B') → (B' → B) → (f : Fault) → Fact A B rules nodes key points f → Fact A' B' rules nodes key points f
lack-as A A' B B' rules nodes key points to-above from-above to-before from-before Orphan h = h
lack-as A A' B B' rules nodes key points to-above from-above to-before from-before Outside h = h
lack-as A A' B B' rules nodes key points to-above from-above to-before from-before OpenLoser h = h
lack-as A A' B B' rules nodes key points to-above from-above to-before from-before TooMany h = h
lack-as A A' B B' rules nodes key points to-above from-above to-before from-before Above h = to-above h
lack-as A A' B B' rules nodes key points to-above from-above to-before from-before Few h = h
lack-as A A' B B' rules nodes key points to-above from-above to-before from-before Empty h = h
lack-as A A' B B' rules nodes key points to-above from-above to-before from-before Twice h = to-before h

-- ---- what is kept on the way

module _ (once : TileIsOfOne) (rules : Rules) (files : Files) (nodes order : List Node) (ascend : AreAscending (keys_of nodes)) (are_keys : (key : VoxelKey) → IsMember key (keys_of nodes) → IsKey key) (each : IsPermutation nodes order) (sorted : AreInPreorder order) where
  pub in-nodes : (n : Node) → IsMember n order → IsMember n nodes
  in-nodes n m = IsMember-contains n nodes (Contains-permutation order nodes n (IsPermutation-sym nodes order each) (contains-IsMember n order m))

  in-order : (n : Node) → IsMember n nodes → IsMember n order
  in-order n m = IsMember-contains n order (Contains-permutation nodes order n each (contains-IsMember n nodes m))

  key-of : (n : Node) → IsMember n nodes → IsKey n.0
  key-of n m = are_keys n.0 (IsMember-map (λ (x : Node). x.0) n nodes m)

  -- what is kept of the first `i` nodes of the walk
  pub record IsSeen (i : ℕ) (seen : Seen) : Type 0 where
    pub clean : (n : Node) → IsMember n (take i order) → IsFaultless rules files nodes n.0
    pub above : (g : GridNode) → IsMember g seen.above.items → HasNode files nodes g.key g.points
    pub tops : (top : VoxelKey) (tops : List Point) → IsMember top (keys_of (take i order)) → HasNode files nodes top tops → (n : Node) → IsMember n order → ¬ IsMember n (take i order) → is_below top n.0 ≡ true → (g : GridNode) × IsMember g seen.above.items × (g.key ≡ top) × (g.points ≡ tops)
    pub ids : (q : PointId) → has_id seen.ids q ≡ true → (other : VoxelKey) × (others : List Point) × IsMember other (keys_of (take i order)) × HasNode files nodes other others × (is_of others q ≡ true)
    pub noted : (other : VoxelKey) (others : List Point) → IsMember other (keys_of (take i order)) → HasNode files nodes other others → (q : PointId) → is_of others q ≡ true → has_id seen.ids q ≡ true

  -- ---- nothing yet

  pub seen-none : (seen : Seen) → seen.above.items ≡ [] → ((q : PointId) → has_id seen.ids q ≡ false) → IsSeen 0 seen
  seen-none seen none new = record {
    clean = λ n m. absurd m;
    above = λ g m. absurd (subst (λ (w : List GridNode). IsMember g w) none m);
    tops = λ top tops m node n in-it out below. absurd m;
    ids = λ q is. absurd (false≢true (sym (new q) ∙ is));
    noted = λ other others m node q is. absurd m;
  }

  -- ---- the next node

  module _ (i : ℕ) (n : Node) (within : i < length order) (at : n ≡ get_or order i n) where
    next-in : IsMember n order
    next-in = subst (λ (m : Node). IsMember m order) (sym at) (IsMember-contains (get_or order i n) order (Contains-get_or order i n within))

    front-before : (m : Node) → IsMember m (take i order) → ComesBefore m.0 n.0
    front-before m there =
        let c = contains-IsMember m (take i order) there in
        let short = length-take i order in
        let less : c.0 < i = (let inside = c.1 in omega (arith, short, inside)) in
        let here : get_or order c.0 n ≡ m = get_or_default order c.0 n m (omega (arith, less, within)) ∙ (sym (get_or-take i order c.0 m less) ∙ c.2) in
        subst (λ (x : Node). ComesBefore x.0 n.0) here (subst (λ (x : Node). ComesBefore (get_or order c.0 n).0 x.0) (sym at) (sorted c.0 i n less within))

    before-front : (m : Node) → IsMember m order → ComesBefore m.0 n.0 → IsMember m (take i order)
    before-front m there less =
        let c = contains-IsMember m order there in
        let short = length-take i order in
        elim (cases_lt c.0 i) [
          | inl front ↦ IsMember-contains m (take i order) (c.0, omega (arith, short, front, within), get_or-take i order c.0 m front ∙ c.2)
          | inr behind ↦ absurd (behind-before m c.0 c.1 c.2 behind less)
        ]
      where
        behind-before : (m : Node) (k : ℕ) → k < length order → get_or order k m ≡ m → i ≤ k → ComesBefore m.0 n.0 → ⊥
        behind-before m k inside is later less =
            let here : get_or order k n ≡ m = get_or_default order k n m inside ∙ is in
            elim (cases_lt i k) [
              | inl after ↦ before-both m.0 n.0 less (subst (λ (x : Node). ComesBefore n.0 x.0) here (subst (λ (x : Node). ComesBefore x.0 (get_or order k n).0) (sym at) (sorted i k n after inside)))
              | inr level ↦
                  let same : m ≡ n = sym here ∙ (ap (λ (j : ℕ). get_or order j n) (let e : k ≡ i = omega (arith, later, level) in e) ∙ sym at) in
                  before-self n.0 (subst (λ (x : Node). ComesBefore x.0 n.0) same less)
            ]

    not-front : ¬ IsMember n (take i order)
    not-front there = before-self n.0 (front-before n there)

    after-next : (m : Node) → IsMember m order → ¬ IsMember m (take i order) → n.0 ≢ m.0 → ComesBefore n.0 m.0
    after-next m there out apart =
        let c = contains-IsMember m order there in
        let short = length-take i order in
        let here : get_or order c.0 n ≡ m = get_or_default order c.0 n m c.1 ∙ c.2 in
        elim (cases_lt c.0 i) [
          | inl front ↦ absurd (out (IsMember-contains m (take i order) (c.0, omega (arith, short, front, within), get_or-take i order c.0 m front ∙ c.2)))
          | inr behind ↦ (elim (cases_lt i c.0) [
            | inl after ↦ subst (λ (x : Node). ComesBefore n.0 x.0) here (subst (λ (x : Node). ComesBefore x.0 (get_or order c.0 n).0) (sym at) (sorted i c.0 n after c.1))
            | inr level ↦ absurd (apart (ap (λ (x : Node). x.0) (at ∙ (ap (λ (j : ℕ). get_or order j n) (let e : i ≡ c.0 = omega (arith, behind, level) in e) ∙ here))))
          ])
        ]

    key-before-front : (key : VoxelKey) (count : ℕ) → IsMember (key, count) nodes → ComesBefore key n.0 → IsMember key (keys_of (take i order))
    key-before-front key count m less =
        IsMember-map (λ (x : Node). x.0) (key, count) (take i order) (before-front (key, count) (in-order (key, count) m) less)

    front-key-before : (key : VoxelKey) → IsMember key (keys_of (take i order)) → ComesBefore key n.0
    front-key-before key m =
        let x = member-map (λ (y : Node). y.0) key (take i order) m in
        subst (λ (k : VoxelKey). ComesBefore k n.0) x.2 (front-before x.0 x.1)

    front-more : take (i + 1) order ≡ take i order ++ n ∷ []
    front-more = take_more order i n within ∙ ap (λ (m : Node). take i order ++ m ∷ []) (sym at)

    front-cases : (m : Node) → IsMember m (take (i + 1) order) → IsMember m (take i order) ⊎ (n ≡ m)
    front-cases m there = by_case (IsMember-append m (take i order) (n ∷ []) (subst (λ (w : List Node). IsMember m w) front-more there))
      where
        by_case : IsMember m (take i order) ⊎ IsMember m (n ∷ []) → IsMember m (take i order) ⊎ (n ≡ m)
        by_case (inl front) = inl front
        by_case (inr (inl same)) = inr same
        by_case (inr (inr none)) = absurd none

    key-cases : (key : VoxelKey) → IsMember key (keys_of (take (i + 1) order)) → IsMember key (keys_of (take i order)) ⊎ (n.0 ≡ key)
    key-cases key there =
        let x = member-map (λ (y : Node). y.0) key (take (i + 1) order) there in
        ⊎_elim (λ (m : IsMember x.0 (take i order)). inl (subst (λ (k : VoxelKey). IsMember k (keys_of (take i order))) x.2 (IsMember-map (λ (y : Node). y.0) x.0 (take i order) m)))
        (λ (same : n ≡ x.0). inr (ap (λ (y : Node). y.0) same ∙ x.2)) (front-cases x.0 x.1)

    front-grows : (m : Node) → IsMember m (take i order) → IsMember m (take (i + 1) order)
    front-grows m there = subst (λ (w : List Node). IsMember m w) (sym front-more) (IsMember-left m (take i order) (n ∷ []) there)

    next-front : IsMember n (take (i + 1) order)
    next-front = subst (λ (w : List Node). IsMember n w) (sym front-more) (IsMember-right n (take i order) (n ∷ []) (inl refl))

    keys-grow : (key : VoxelKey) → IsMember key (keys_of (take i order)) → IsMember key (keys_of (take (i + 1) order))
    keys-grow key there =
        let x = member-map (λ (y : Node). y.0) key (take i order) there in
        subst (λ (k : VoxelKey). IsMember k (keys_of (take (i + 1) order))) x.2 (IsMember-map (λ (y : Node). y.0) x.0 (take (i + 1) order) (front-grows x.0 x.1))

    module _ (seen : Seen) (is : IsSeen i seen) where
      pub clean-before : (other : VoxelKey) → IsMember other (keys_of nodes) → ComesBefore other n.0 → IsFaultless rules files nodes other
      clean-before other m less =
          let x = member-map (λ (y : Node). y.0) other nodes m in
          subst (λ (k : VoxelKey). IsFaultless rules files nodes k) x.2 (is.clean x.0 (before-front x.0 (in-order x.0 x.1) (subst (λ (k : VoxelKey). ComesBefore k n.0) (sym x.2) less)))

      pub damage-first : HaveParents nodes → ((points : List Point) → ¬ HasTile files n.0 n.1 points) → IsFirstDamage rules files nodes n.0
      damage-first parents none = record { parents = parents; before = clean-before; count = n.1; listed = in-nodes n next-in; damaged = none }

      module _ (of-rules : AreOfRules rules seen.above.items) (points : List Point) (has : HasNode files nodes n.0 points) where
        lose-there : LoseTo seen.above.items n.0 points → LoseAbove rules files nodes n.0 points
        lose-there lose top tops node below =
            let g = is.tops top tops (key-before-front top node.count node.listed (below-before top n.0 below)) node n next-in not-front below in
            let all = all-member (λ (h : GridNode). is_below h.key n.0 ≡ true → All (λ (p : Point). loses h.rules h.key.depth h.points p ≡ true) points) g.0 seen.above.items lose g.1 (subst (λ (k : VoxelKey). is_below k n.0 ≡ true) (sym g.2) below) in
            let same = all-member (λ (h : GridNode). h.rules ≡ rules) g.0 seen.above.items of-rules g.1 in
            subst (λ (ps : List Point). All (λ (p : Point). loses rules top.depth ps p ≡ true) points) g.3
            (subst (λ (k : VoxelKey). All (λ (p : Point). loses rules k.depth g.0.points p ≡ true) points) g.2
            (subst (λ (r : Rules). All (λ (p : Point). loses r g.0.key.depth g.0.points p ≡ true) points) same all))

        lose-back : LoseAbove rules files nodes n.0 points → LoseTo seen.above.items n.0 points
        lose-back lose =
            All-members (λ (h : GridNode). is_below h.key n.0 ≡ true → All (λ (p : Point). loses h.rules h.key.depth h.points p ≡ true) points) seen.above.items (λ g m below.
            subst (λ (r : Rules). All (λ (p : Point). loses r g.key.depth g.points p ≡ true) points) (sym (all-member (λ (h : GridNode). h.rules ≡ rules) g seen.above.items of-rules m)) (lose g.key g.points (is.above g m) below))

        new-there : HaveNewIds seen.ids points → AreNew files nodes n.0 points
        new-there new other others node less =
            All-members (λ (p : Point). All (λ (q : Point). same_id p q ≡ false) others) points (λ p a.
            All-members (λ (q : Point). same_id p q ≡ false) others (λ q b. by_test p a q b (same_id p q) refl))
          where
            by_test : (p : Point) → IsMember p points → (q : Point) → IsMember q others → (t : Bool) → same_id p q ≡ t → t ≡ false
            by_test p a q b false e = refl
            by_test p a q b true e =
                let of-it = any-member (λ (x : Point). is_one_id (id x) (id p)) q others b (same_id-sym p q e) in
                let known = is.noted other others (key-before-front other node.count node.listed less) node (id p) of-it in
                absurd (false≢true (sym (all-member (λ (x : Point). has_id seen.ids (id x) ≡ false) p points new a) ∙ known))

        new-back : AreNew files nodes n.0 points → HaveNewIds seen.ids points
        new-back new = All-members (λ (p : Point). has_id seen.ids (id p) ≡ false) points (λ p a. by_test p a (has_id seen.ids (id p)) refl)
          where
            by_test : (p : Point) → IsMember p points → (t : Bool) → has_id seen.ids (id p) ≡ t → t ≡ false
            by_test p a false e = refl
            by_test p a true e =
                let o = is.ids (id p) e in
                let q = member-any (λ (x : Point). is_one_id (id x) (id p)) o.1 o.4 in
                let apart = all-member (λ (y : Point). same_id p y ≡ false) q.0 o.1 (all-member (λ (x : Point). All (λ (y : Point). same_id x y ≡ false) o.1) p points (new o.0 o.1 o.3 (front-key-before o.0 o.2)) a) q.1 in
                absurd (false≢true (sym apart ∙ same_id-sym q.0 p q.2))

        found-holds : (f : Fault) → Fact (LoseTo seen.above.items n.0 points) (HaveNewIds seen.ids points) rules nodes n.0 points f → Holds rules files nodes n.0 points f
        found-holds = lack-as (LoseTo seen.above.items n.0 points) (LoseAbove rules files nodes n.0 points) (HaveNewIds seen.ids points) (AreNew files nodes n.0 points) rules nodes n.0 points lose-there lose-back new-there new-back

        holds-found : (f : Fault) → Holds rules files nodes n.0 points f → Fact (LoseTo seen.above.items n.0 points) (HaveNewIds seen.ids points) rules nodes n.0 points f
        holds-found = lack-as (LoseAbove rules files nodes n.0 points) (LoseTo seen.above.items n.0 points) (AreNew files nodes n.0 points) (HaveNewIds seen.ids points) rules nodes n.0 points lose-back lose-there new-back new-there

        pub fault-first : HaveParents nodes → (why : Fault) → IsFirstLack (Fact (LoseTo seen.above.items n.0 points) (HaveNewIds seen.ids points) rules nodes n.0 points) why → IsFirstFault rules files nodes n.0 why
        fault-first parents why lack = record {
          parents = parents;
          before = clean-before;
          points = points;
          has = has;
          lack = record { lacks = λ holds. lack.lacks (holds-found why holds); before = λ other less. found-holds other (lack.before other less) };
        }

        pub seen-more : ((f : Fault) → Fact (LoseTo seen.above.items n.0 points) (HaveNewIds seen.ids points) rules nodes n.0 points f) → (new : Seen) → HasTaken n.0 points seen new → IsSeen (i + 1) new
        seen-more found new taken = record {
          clean = λ m there. by_clean m (front-cases m there);
          above = λ g m. by_above g (taken.come.only g m);
          tops = λ top tops m node x in-it out below. by_top top tops node x in-it out below (key-cases top m);
          ids = λ q known. by_id q (has_id seen.ids q) (is_of points q) refl refl (sym (taken.ids q) ∙ known);
          noted = λ other others m node q of-it. by_noted other others node q of-it (key-cases other m);
        }
          where
            by_clean : (m : Node) → IsMember m (take i order) ⊎ (n ≡ m) → IsFaultless rules files nodes m.0
            by_clean m (inl front) = is.clean m front
            by_clean m (inr same) = subst (λ (x : Node). IsFaultless rules files nodes x.0) same (record { points = points; has = has; holds = λ f. found-holds f (found f) })

            node-there : HasNode files nodes taken.node.key taken.node.points
            node-there = subst (λ (k : VoxelKey). HasNode files nodes k taken.node.points) (sym taken.key_is) (subst (λ (ps : List Point). HasNode files nodes n.0 ps) (sym taken.points_are) has)

            by_above : (g : GridNode) → IsMember g seen.above.items ⊎ (g ≡ taken.node) → HasNode files nodes g.key g.points
            by_above g (inl m) = is.above g m
            by_above g (inr same) = subst (λ (h : GridNode). HasNode files nodes h.key h.points) (sym same) node-there

            by_top : (top : VoxelKey) (tops : List Point) → HasNode files nodes top tops → (x : Node) → IsMember x order → ¬ IsMember x (take (i + 1) order) → is_below top x.0 ≡ true → IsMember top (keys_of (take i order)) ⊎ (n.0 ≡ top) → (g : GridNode) × IsMember g new.above.items × (g.key ≡ top) × (g.points ≡ tops)
            by_top top tops node x in-it out below (inl front) =
                let g = is.tops top tops front node x in-it (λ m. out (front-grows x m)) below in
                let first = front-key-before top front in
                let differ : n.0 ≢ x.0 = λ same. out (subst (λ (y : Node). IsMember y (take (i + 1) order)) (same-node x in-it same) next-front) in
                let second = after-next x in-it (λ m. out (front-grows x m)) differ in
                let inside = between-within top n.0 x.0 (are_keys top (IsMember-map (λ (y : Node). y.0) (top, node.count) nodes node.listed)) (key-of n (in-nodes n next-in)) first second (is_below-within top x.0 below) in
                (g.0, taken.come.stay g.0 g.1 (subst (λ (k : VoxelKey). is_below g.0.key k ≡ true) (sym taken.key_is) (subst (λ (k : VoxelKey). is_below k n.0 ≡ true) (sym g.2) (below-it top inside first))), g.2, g.3)
              where
                same-node : (x : Node) → IsMember x order → n.0 ≡ x.0 → n ≡ x
                same-node x in-it same =
                    let counts = count-once nodes ascend n.0 n.1 x.1 (in-nodes n next-in) (subst (λ (k : VoxelKey). IsMember (k, x.1) nodes) (sym same) (in-nodes x in-it)) in
                    λ j. (same j, counts j)

                below-it : (top : VoxelKey) → is_within top n.0 ≡ true → ComesBefore top n.0 → is_below top n.0 ≡ true
                below-it top inside first =
                    elim (cases_lt top.depth n.0.depth) [
                      | inl less ↦ is_below-from top n.0 inside less
                      | inr level ↦ absurd (before-self n.0 (subst (λ (k : VoxelKey). ComesBefore k n.0) (is_within-level top n.0 inside level) first))
                    ]
            by_top top tops node x in-it out below (inr same) =
                (taken.node, taken.come.there, taken.key_is ∙ same, taken.points_are ∙ node-once once files nodes ascend top points tops (subst (λ (k : VoxelKey). HasNode files nodes k points) same has) node)

            by_id : (q : PointId) (a b : Bool) → has_id seen.ids q ≡ a → is_of points q ≡ b → (has_id seen.ids q || is_of points q) ≡ true → (other : VoxelKey) × (others : List Point) × IsMember other (keys_of (take (i + 1) order)) × HasNode files nodes other others × (is_of others q ≡ true)
            by_id q true b e f known = (let o = is.ids q e in (o.0, o.1, keys-grow o.0 o.2, o.3, o.4))
            by_id q false true e f known = (n.0, points, IsMember-map (λ (y : Node). y.0) n (take (i + 1) order) next-front, has, f)
            by_id q false false e f known = absurd (let wrong : false ≡ true = sym (λ j. e j || f j) ∙ known in cc)

            or-true : (b : Bool) → (b || true) ≡ true
            or-true true = refl
            or-true false = refl

            by_noted : (other : VoxelKey) (others : List Point) → HasNode files nodes other others → (q : PointId) → is_of others q ≡ true → IsMember other (keys_of (take i order)) ⊎ (n.0 ≡ other) → has_id new.ids q ≡ true
            by_noted other others node q of-it (inl front) =
                taken.ids q ∙ ap (λ (b : Bool). b || is_of points q) (is.noted other others front node q of-it)
            by_noted other others node q of-it (inr same) =
                let mine = node-once once files nodes ascend other others points node (subst (λ (k : VoxelKey). HasNode files nodes k points) same has) in
                taken.ids q ∙ (ap (λ (b : Bool). has_id seen.ids q || b) (sym (ap (λ (ps : List Point). is_of ps q) mine) ∙ of-it) ∙ or-true (has_id seen.ids q))

  -- ---- all nodes

  pub all-clean : (i : ℕ) (seen : Seen) → IsSeen i seen → take i order ≡ order → (key : VoxelKey) → IsMember key (keys_of nodes) → IsFaultless rules files nodes key
  all-clean i seen is all key m =
      let x = member-map (λ (y : Node). y.0) key nodes m in
      subst (λ (k : VoxelKey). IsFaultless rules files nodes k) x.2 (is.clean x.0 (subst (λ (w : List Node). IsMember x.0 w) (sym all) (in-order x.0 x.1)))

-- ---- counts

pub count-more : (order : List Node) (i : ℕ) (n : Node) (total : ℕ) → i < length order → n ≡ get_or order i n → total ≡ count_of (take i order) → total + n.1 ≡ count_of (take (i + 1) order)
count-more order i n total within at was =
    let whole : take (i + 1) order ≡ take i order ++ n ∷ [] = take_more order i n within ∙ ap (λ (m : Node). take i order ++ m ∷ []) (sym at) in
    let both = ap (λ (w : List Node). count_of w) whole ∙ sum_by-append (λ (m : Node). m.1) (take i order) (n ∷ []) in
    let one = sum_by-cons (λ (m : Node). m.1) n [] in
    let none : count_of [] ≡ 0 = refl in
    omega (arith, was, both, one, none)

pub count-whole : (nodes order : List Node) (i total : ℕ) → IsPermutation nodes order → take i order ≡ order → total ≡ count_of (take i order) → total ≡ count_of nodes
count-whole nodes order i total each all was =
    was ∙ (ap (λ (w : List Node). count_of w) all ∙ sum_by-IsPermutation (λ (m : Node). m.1) nodes order each)

pub listed : (nodes order : List Node) (n : Node) → IsPermutation nodes order → IsMember n order → IsMember n.0 (keys_of nodes)
listed nodes order n each m =
    IsMember-map (λ (x : Node). x.0) n nodes (IsMember-contains n nodes (Contains-permutation order nodes n (IsPermutation-sym nodes order each) (contains-IsMember n order m)))

-- ---- as the code has it

abbrev pub Sees : Rules → Files → List Node → List Node → ℕ → Seen → Type 0
Sees rules files nodes order i seen =
    (once : TileIsOfOne) (ascend : AreAscending (keys_of nodes)) (are_keys : (key : VoxelKey) → IsMember key (keys_of nodes) → IsKey key) (each : IsPermutation nodes order) (sorted : AreInPreorder order) → IsSeen once rules files nodes order ascend are_keys each sorted i seen

pub none-all : (A : Type 0) (B : Fault → Type 0) (o : Option Fault) → o ≡ None → MatchOption o A B → A
none-all A B o is found = subst (λ (x : Option Fault). MatchOption x A B) is found

pub some-of : (A : Type 0) (B : Fault → Type 0) (o : Option Fault) (why : Fault) → o ≡ Some why → MatchOption o A B → B why
some-of A B o why is found = subst (λ (x : Option Fault). MatchOption x A B) is found

pub walk-refused : (rules : Rules) (nodes : List Node) (before now : Option Files) (key : VoxelKey) (count : ℕ) (error : QueryError) → ((all : Files) → before ≡ Some all → HasNoTile all key count → IsFirstDamage rules all nodes key) → StepsBy SameFiles before now → RefusesReading (file.Tile key) (λ all. HasNoTile all key count) now error → AnswersWalk rules nodes before (Err (of_query error))
walk-refused rules nodes before now key count query.NotComplete first steps refused = absurd refused
walk-refused rules nodes before now key count query.StoreFault first steps refused = tt
walk-refused rules nodes before now key count query.SinkFault first steps refused = absurd refused
walk-refused rules nodes before now key count query.Memory first steps refused = tt
walk-refused rules nodes before now key count (query.Damaged file.BuildJson) first steps refused = (let wrong = refused.0 in absurd (cc))
walk-refused rules nodes before now key count (query.Damaged (file.Hierarchy k)) first steps refused = (let wrong = refused.0 in absurd (cc))
walk-refused rules nodes before now key count (query.Damaged (file.Tile k)) first steps refused =
    let named = refused.0 in
    let same : key ≡ k = cc in
    tells-from (λ all. IsFirstDamage rules all nodes k) before (λ all is.
    subst (λ (x : VoxelKey). IsFirstDamage rules all nodes x) same (first all is (told-back (λ (f : Files). HasNoTile f key count) (no-tile-back key count) before now all is steps refused.1)))
