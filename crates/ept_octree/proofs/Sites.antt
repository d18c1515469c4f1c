-- The slot of each key.
use Rattle.std.proofs.Common.{◌≡◌, ◌∙◌, ℕ, zero, suc, ◌+◌, ◌<◌, ◌≤◌, true, cond, ◌⊎◌, inl, inr, List, [], ◌∷◌, ◌++◌, map, length, get_or, take, refl, sym, ap, subst, arith, Option, Some, None, Ordering, sum_by}
use Rattle.std.specs.List.{flat_map}
use Rattle.std.specs.declared.cmp.Ordering.TheVariants.{Less, Equal, Greater}
use Rattle.std.specs.Ordering.{match_ordering, is_eq, is_lt}
use Rattle.std.specs.BTreeMap.{is_at, insert_entry}
use Rattle.std.proofs.lemmas.Bool.{false≢true}
use Rattle.std.proofs.lemmas.List.{length-append, map-append}
use Rattle.std.proofs.lemmas.List.Concat.{flat_map-append}
use Rattle.std.proofs.lemmas.List.Sums.{sum_by-cons}
use Rattle.ept_point.specs.declared.point.Point.{Point}
use Rattle.ept_space.specs.declared.cube.Rules.{Rules}
use Rattle.ept_space.specs.VoxelKey.{VoxelKey, key_cmp, AreAscending}
use Rattle.ept_sample.specs.Members.{IsMember}
use Rattle.ept_sample.proofs.Ascending.{IsRising}
use Rattle.ept_sample.proofs.KeyOrder.{key_before, key-self, key-equal, IsRising-AllPairs}
use Rattle.ept_sample.proofs.Members.{IsMember-map, member-map}
use Rattle.ept_grid.specs.Node as grid
use Rattle.ept_table.specs.At.{At}
use Rattle.ept_table.specs.Octree.{Branch, points_in, AreNodes}
use Rattle.ept_table.proofs.Lists.{at-next, at-zero}
use Rattle.ept_octree.specs.Index.{Site, node_or, branch_at, branches, count_in, slot_of, node_in, key_seen, AreSites, IsIndex}

le_or_less : (a b : ℕ) → (a ≤ b) ⊎ (b < a)
le_or_less zero b = inl (omega arith)
le_or_less (suc a) zero = inr (omega arith)
le_or_less (suc a) (suc b) =
    elim (le_or_less a b) [ inl le ↦ inl (omega (arith, le)) | inr less ↦ inr (omega (arith, less)) ]

-- ---- a place of a list

pub get-at : {X : Type 0} (xs : List (Option X)) (k : ℕ) (x : X) → get_or xs k None ≡ Some x → At xs k (Some x)
get-at [] k x is = absurd (cc)
get-at {X} (y ∷ ys) zero x is = subst (λ (z : Option X). At (y ∷ ys) 0 z) is (at-zero y ys)
get-at (y ∷ ys) (suc k) x is = at-next y ys k (Some x) (get-at ys k x is)

pub sum-next : {X : Type 0} (f : X → ℕ) (xs : List X) (k : ℕ) (d : X) → k < length xs → sum_by f (take (suc k) xs) ≡ sum_by f (take k xs) + f (get_or xs k d)
sum-next f [] k d low = absurd (omega (arith, low))
sum-next f (y ∷ ys) zero d low =
    let one : sum_by f (take 1 (y ∷ ys)) ≡ f y + 0 = sum_by-cons f y [] in omega (arith, one)
sum-next f (y ∷ ys) (suc k) d low =
    let more : sum_by f (take (suc k) ys) ≡ sum_by f (take k ys) + f (get_or ys k d) = sum-next f ys k d (omega (arith, low)) in
    let left : sum_by f (take (suc (suc k)) (y ∷ ys)) ≡ f y + sum_by f (take (suc k) ys) = sum_by-cons f y (take (suc k) ys) in
    let right : sum_by f (take (suc k) (y ∷ ys)) ≡ f y + sum_by f (take k ys) = sum_by-cons f y (take k ys) in
    let same : f (get_or (y ∷ ys) (suc k) d) ≡ f (get_or ys k d) = refl in
    omega (arith, more, left, right, same)

-- ---- what lies in a slot

pub seen-some : (x : Option grid.Node) (key : VoxelKey) → key_seen x ≡ Some key → (g : grid.Node) × (x ≡ Some g) × (g.key ≡ key)
seen-some None key is = absurd (cc)
seen-some (Some g) key is = (g, refl, some_same g.key key is)
  where
    some_same : (a b : VoxelKey) → Some a ≡ Some b → a ≡ b
    some_same a b e = ap from e
      where
        from : Option VoxelKey → VoxelKey
        from (Some k) = k
        from None = a

pub some-seen : (x : Option grid.Node) (g : grid.Node) → x ≡ Some g → key_seen x ≡ Some g.key
some-seen x g is = ap key_seen is

-- ---- lookups

pub some-number : (a b : ℕ) → Some a ≡ Some b → a ≡ b
some-number a b e = ap from e
  where
    from : Option ℕ → ℕ
    from (Some k) = k
    from None = a

member_step : (key : VoxelKey) (k : ℕ) (s : Site) (sites : List Site) (o : Ordering) → key_cmp key s.0 ≡ o → (slot_of sites key ≡ Some k → IsMember (let t : Site = (key, k) in t) sites) → cond (is_eq o) (Some s.1) (slot_of sites key) ≡ Some k → IsMember (let t : Site = (key, k) in t) (s ∷ sites)
member_step key k s sites Less at more is = inr (more is)
member_step key k s sites Greater at more is = inr (more is)
member_step key k s sites Equal at more is =
    inl (λ i. (sym (key-equal key s.0 at) i, some-number s.1 k is i))

pub slot-member : (sites : List Site) (key : VoxelKey) (k : ℕ) → slot_of sites key ≡ Some k → IsMember (let t : Site = (key, k) in t) sites
slot-member [] key k is = absurd (cc)
slot-member (s ∷ sites) key k is =
    member_step key k s sites (key_cmp key s.0) refl (slot-member sites key k) is

same_step : (a b : VoxelKey) (x y : Option ℕ) → key_cmp a b ≡ Equal → cond (is_eq (key_cmp a b)) x y ≡ x
same_step a b x y at = ap (λ (o : Ordering). cond (is_eq o) x y) at

less_step : (a b : VoxelKey) (x y : Option ℕ) (o : Ordering) → key_cmp a b ≡ o → (a ≡ b → ⊥) → cond (is_eq o) x y ≡ y
less_step a b x y Less at apart = refl
less_step a b x y Greater at apart = refl
less_step a b x y Equal at apart = absurd (apart (key-equal a b at))

never_before : (a : VoxelKey) → key_before a a ≡ true → ⊥
never_before a is = false≢true (sym (ap is_lt (key-self a)) ∙ is)

pub member-slot : (sites : List Site) (s : Site) → IsRising key_before (map (λ (s : Site). s.0) sites) → IsMember s sites → slot_of sites s.0 ≡ Some s.1
member-slot [] s up m = absurd m
member-slot (t ∷ sites) s up (inl same) =
    subst (λ (u : Site). slot_of (t ∷ sites) u.0 ≡ Some u.1) same (same_step t.0 t.0 (Some t.1) (slot_of sites t.0) (key-self t.0))
member-slot (t ∷ sites) s up (inr m) =
    less_step s.0 t.0 (Some t.1) (slot_of sites s.0) (key_cmp s.0 t.0) refl (λ e. never_before t.0 (subst (λ (k : VoxelKey). key_before t.0 k ≡ true) e (up.0 s.0 (IsMember-map (λ (s : Site). s.0) s sites m))))
    ∙ member-slot sites s up.1 m

-- ---- a site more

-- a key that has no slot comes between the others
pub record IsPutBetween (key : VoxelKey) (k : ℕ) (sites after : List Site) : Type 0 where
  pub front : List Site
  pub back : List Site
  pub before : sites ≡ front ++ back
  pub now : after ≡ front ++ (let t : Site = (key, k) in t) ∷ back

put_step : (key : VoxelKey) (k : ℕ) (s : Site) (sites : List Site) (o : Ordering) → key_cmp key s.0 ≡ o → cond (is_eq o) (Some s.1) (slot_of sites key) ≡ None → (slot_of sites key ≡ None → IsPutBetween key k sites (insert_entry key_cmp sites key k)) → IsPutBetween key k (s ∷ sites) (match_ordering o ((key, k) ∷ s ∷ sites) ((s.0, k) ∷ sites) (s ∷ insert_entry key_cmp sites key k))
put_step key k s sites Less at none more = record {
  front = [];
  back = s ∷ sites;
  before = refl;
  now = refl;
}
put_step key k s sites Equal at none more = absurd (cc)
put_step key k s sites Greater at none more =
    let p = more none in
    record {
      front = s ∷ p.front;
      back = p.back;
      before = ap (λ (w : List Site). s ∷ w) p.before;
      now = ap (λ (w : List Site). s ∷ w) p.now;
    }

pub put-between : (sites : List Site) (key : VoxelKey) (k : ℕ) → slot_of sites key ≡ None → IsPutBetween key k sites (insert_entry key_cmp sites key k)
put-between [] key k none = record {
  front = [];
  back = [];
  before = refl;
  now = refl;
}
put-between (s ∷ sites) key k none = put_step key k s sites (key_cmp key s.0) refl none (put-between sites key k)

-- the nodes by their keys, with one more
branch_step : (slots : List (Option grid.Node)) (s : Site) (sites : List Site) (key : VoxelKey) (k : ℕ) (o : Ordering) → branches slots (insert_entry key_cmp sites key k) ≡ insert_entry key_cmp (branches slots sites) key (node_or (node_in slots k)) → map (branch_at slots) (match_ordering o ((key, k) ∷ s ∷ sites) ((s.0, k) ∷ sites) (s ∷ insert_entry key_cmp sites key k)) ≡ match_ordering o ((key, node_or (node_in slots k)) ∷ branch_at slots s ∷ branches slots sites) ((s.0, node_or (node_in slots k)) ∷ branches slots sites) (branch_at slots s ∷ insert_entry key_cmp (branches slots sites) key (node_or (node_in slots k)))
branch_step slots s sites key k Less more = refl
branch_step slots s sites key k Equal more = refl
branch_step slots s sites key k Greater more = ap (λ (w : List Branch). branch_at slots s ∷ w) more

pub branches-put : (slots : List (Option grid.Node)) (sites : List Site) (key : VoxelKey) (k : ℕ) → branches slots (insert_entry key_cmp sites key k) ≡ insert_entry key_cmp (branches slots sites) key (node_or (node_in slots k))
branches-put slots [] key k = refl
branches-put slots (s ∷ sites) key k =
    branch_step slots s sites key k (key_cmp key s.0) (branches-put slots sites key k)

-- the nodes of sites whose slots have the same nodes
pub branches-same : (slots others : List (Option grid.Node)) (sites : List Site) → ((s : Site) → IsMember s sites → node_in others s.1 ≡ node_in slots s.1) → branches others sites ≡ branches slots sites
branches-same slots others [] same = refl
branches-same slots others (s ∷ sites) same =
    ap (λ (x : Option grid.Node). (s.0, node_or x) ∷ branches others sites) (same s (inl refl))
    ∙ ap (λ (w : List Branch). branch_at slots s ∷ w) (branches-same slots others sites (λ t m. same t (inr m)))

pub points-apart : (xs ys : List Branch) (b : Branch) → length (points_in (xs ++ b ∷ ys)) ≡ length (points_in (xs ++ ys)) + length b.1.points
points-apart xs ys b =
    let points : Branch → List Point = λ c. c.1.points in
    let one : length (flat_map points (xs ++ b ∷ ys)) ≡ length (flat_map points xs) + length (flat_map points (b ∷ ys)) = ap (λ (w : List Point). length w) (flat_map-append points xs (b ∷ ys)) ∙ length-append (flat_map points xs) (flat_map points (b ∷ ys)) in
    let two : length (flat_map points (xs ++ ys)) ≡ length (flat_map points xs) + length (flat_map points ys) = ap (λ (w : List Point). length w) (flat_map-append points xs ys) ∙ length-append (flat_map points xs) (flat_map points ys) in
    let three : length (flat_map points (b ∷ ys)) ≡ length b.1.points + length (flat_map points ys) = length-append b.1.points (flat_map points ys) in
    omega (arith, one, two, three)

-- ---- the next slot

module _ (last : ℕ) (slots : List (Option grid.Node)) (sites after : List Site) (g : grid.Node) (s : AreSites last slots sites) (here : node_in slots (suc last) ≡ Some g) (low : suc last < length slots) (free : slot_of sites g.key ≡ None) (put : after ≡ insert_entry key_cmp sites g.key (suc last)) (finds : (q : VoxelKey) → slot_of after q ≡ cond (is_at (key_cmp g.key) q) (Some (suc last)) (slot_of sites q)) (ascend : AreAscending (map (λ (s : Site). s.0) after)) where
  between : IsPutBetween g.key (suc last) sites after
  between = subst (λ (w : List Site). IsPutBetween g.key (suc last) sites w) (sym put) (put-between sites g.key (suc last) free)

  at_key : slot_of after g.key ≡ Some (suc last)
  at_key = finds g.key ∙ same_step g.key g.key (Some (suc last)) (slot_of sites g.key) (key-self g.key)

  at_other : (q : VoxelKey) → (g.key ≡ q → ⊥) → slot_of after q ≡ slot_of sites q
  at_other q apart = finds q ∙ less_step g.key q (Some (suc last)) (slot_of sites q) (key_cmp g.key q) refl apart

  stands_step : (q : VoxelKey) (k : ℕ) (o : Ordering) → key_cmp g.key q ≡ o → cond (is_eq o) (Some (suc last)) (slot_of sites q) ≡ Some k → (key_seen (node_in slots k) ≡ Some q) × (0 < k) × (k ≤ suc last)
  stands_step q k Equal at is =
      let same : suc last ≡ k = some-number (suc last) k is in
      (ap (λ (n : ℕ). key_seen (node_in slots n)) (sym same) ∙ (ap key_seen here ∙ ap Some (key-equal g.key q at)), omega (arith, same), omega (arith, same))
  stands_step q k Less at is = let r = s.stands q k is in (r.0, r.1, omega (arith, r.2))
  stands_step q k Greater at is = let r = s.stands q k is in (r.0, r.1, omega (arith, r.2))

  listed_step : (q : VoxelKey) (k : ℕ) → 0 < k → k ≤ suc last → key_seen (node_in slots k) ≡ Some q → (k ≤ last) ⊎ (last < k) → slot_of after q ≡ Some k
  listed_step q k some within is (inl below) =
      let was : slot_of sites q ≡ Some k = s.listed q k some below is in
      at_other q (λ e. absurd (let none : slot_of sites q ≡ None = ap (λ (j : VoxelKey). slot_of sites j) (sym e) ∙ free in let both : None ≡ Some k = sym none ∙ was in cc)) ∙ was
  listed_step q k some within is (inr above) =
      let same : k ≡ suc last = omega (arith, within, above) in
      let mine : key_seen (Some g) ≡ Some q = ap key_seen (sym here) ∙ (ap (λ (n : ℕ). key_seen (node_in slots n)) (sym same) ∙ is) in
      subst (λ (j : VoxelKey). slot_of after j ≡ Some k) (key_of mine) (at_key ∙ ap Some (sym same))
    where
      key_of : key_seen (Some g) ≡ Some q → g.key ≡ q
      key_of e = ap from e
        where
          from : Option VoxelKey → VoxelKey
          from (Some j) = j
          from None = g.key

  pub next-site : AreSites (suc last) slots after
  next-site = record {
    many = (
        let one : length after ≡ length between.front + suc (length between.back) = ap (λ (w : List Site). length w) between.now ∙ length-append between.front ((g.key, suc last) ∷ between.back) in
        let two : length sites ≡ length between.front + length between.back = ap (λ (w : List Site). length w) between.before ∙ length-append between.front between.back in
        omega (arith, one, two, s.many));
    ascend = ascend;
    stands = λ q k is. stands_step q k (key_cmp g.key q) refl (sym (finds q) ∙ is);
    listed = λ q k some within is. listed_step q k some within is (le_or_less k last);
    together = (
        let f : Site → Branch = branch_at slots in
        let new : branches slots after ≡ map f between.front ++ f (g.key, suc last) ∷ map f between.back = ap (λ (w : List Site). map f w) between.now ∙ map-append f between.front ((g.key, suc last) ∷ between.back) in
        let old : branches slots sites ≡ map f between.front ++ map f between.back = ap (λ (w : List Site). map f w) between.before ∙ map-append f between.front between.back in
        let more : length (points_in (branches slots after)) ≡ length (points_in (branches slots sites)) + count_in (node_in slots (suc last)) = ap (λ (w : List Branch). length (points_in w)) new ∙ (points-apart (map f between.front) (map f between.back) (f (g.key, suc last)) ∙ ap (λ (w : List Branch). length (points_in w) + count_in (node_in slots (suc last))) (sym old)) in
        let sum : sum_by count_in (take (suc (suc last)) slots) ≡ sum_by count_in (take (suc last) slots) + count_in (node_in slots (suc last)) = sum-next count_in slots (suc last) None low in
        let was : length (points_in (branches slots sites)) ≡ sum_by count_in (take (suc last) slots) = s.together in
        omega (arith, more, sum, was));
  }

-- ---- the nodes have their keys and the rules, and none is too deep

pub own-nodes : (rules : Rules) (used : ℕ) (slots : List (Option grid.Node)) (sites : List Site) → IsIndex rules used slots sites → AreNodes rules (branches slots sites)
own-nodes rules used slots sites index b m =
    let s = member-map (branch_at slots) b sites m in
    let slot : slot_of sites s.0.0 ≡ Some s.0.1 = member-slot sites s.0 (IsRising-AllPairs (map (λ (s : Site). s.0) sites) index.are.ascend) s.1 in
    let g = seen-some (node_in slots s.0.1) s.0.0 (index.are.stands s.0.0 s.0.1 slot).0 in
    subst (λ (w : Branch). (w.1.key ≡ w.0) × (w.1.rules ≡ rules)) s.2 (
      ap (λ (x : Option grid.Node). (node_or x).key) g.1 ∙ g.2,
      ap (λ (x : Option grid.Node). (node_or x).rules) g.1 ∙ (index.sound s.0.1 g.0 g.1).rules,
    )

pub shallow-nodes : (rules : Rules) (used : ℕ) (slots : List (Option grid.Node)) (sites : List Site) → IsIndex rules used slots sites → (b : Branch) → IsMember b (branches slots sites) → b.0.depth ≤ rules.cube.depth
shallow-nodes rules used slots sites index b m =
    let s = member-map (branch_at slots) b sites m in
    let slot : slot_of sites s.0.0 ≡ Some s.0.1 = member-slot sites s.0 (IsRising-AllPairs (map (λ (s : Site). s.0) sites) index.are.ascend) s.1 in
    let g = seen-some (node_in slots s.0.1) s.0.0 (index.are.stands s.0.0 s.0.1 slot).0 in
    subst (λ (w : Branch). w.0.depth ≤ rules.cube.depth) s.2
    (subst (λ (k : VoxelKey). k.depth ≤ rules.cube.depth) g.2 (index.sound s.0.1 g.0 g.1).low)
