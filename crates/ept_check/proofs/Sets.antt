-- Keys and ids as sets and lists.
use Rattle.std.proofs.Common.{◌≡◌, ◌≢◌, ◌∙◌, ◌+◌, ◌<◌, ◌≤◌, ℕ, zero, suc, Bool, true, false, cond, ◌||◌, inl, inr, ◌⊎◌, List, [], ◌∷◌, ◌++◌, length, map, get_or, take, refl, sym, ap, subst, arith, Ordering, Less, Equal, Greater}
use Rattle.std.specs.List.{All, list_any, Contains}
use Rattle.std.specs.Ordering.{is_eq}
use Rattle.std.specs.BTreeMap.{is_at}
use Rattle.std.proofs.lemmas.Bool.{false≢true}
use Rattle.std.proofs.Math.Seq.{take-length}
use Rattle.std.proofs.lemmas.Bool.{cases_lt}
use Rattle.std.proofs.lemmas.List.{take_more, map-append, get_or-take, get_or_default, length-take}
use Rattle.std.proofs.lemmas.List.Elements.{Contains-get_or}
use Rattle.std.proofs.lemmas.List.Folds.{list_any-append}
use Rattle.ept_point.specs.declared.point.Point.{Point}
use Rattle.ept_point.specs.declared.id.PointId.{PointId}
use Rattle.ept_point.specs.Order.{id}
use Rattle.ept_space.specs.declared.cube.Rules.{Rules}
use Rattle.ept_space.specs.VoxelKey.{VoxelKey, IsKey, IsBefore, AreAscending, same_key, key_cmp, child, parent}
use Rattle.ept_space.proofs.Family.{depth-child}
use Rattle.ept_space.proofs.Ascending.{ascend-at}
use Rattle.ept_space.proofs.KeyOrder.{key_cmp_total, key_cmp-before, key_cmp-equal, key_cmp-same}
use Rattle.ept_space.proofs.Within.{same_key-true, same_key-same}
use Rattle.ept_sample.specs.Members.{IsMember}
use Rattle.ept_sample.proofs.Choices.{either}
use Rattle.ept_sample.proofs.Members.{IsMember-append, IsMember-map, member-map, all-member, All-members, contains-IsMember, IsMember-contains}
use Rattle.ept_hier.specs.Hierarchy.{Node, keys_of}
use Rattle.ept_fit.specs.Fit.{is_among, has_child, IsInOctree, HasParent}
use Rattle.ept_fit.proofs.Keys.{among-member}
use Rattle.ept_check.specs.declared.octree.Octree.{Octree}
use Rattle.ept_check.specs.Folder.{IsFirstOrphan}
use Rattle.ept_check.specs.Walking.{IsOctree, is_one_id, is_of}

-- ---- one key in a set

at-true : (a b : VoxelKey) → is_at (key_cmp a) b ≡ true → a ≡ b
at-true a b is = key_cmp-equal a b (by_order (key_cmp a b) is)
  where
    by_order : (o : Ordering) → is_eq o ≡ true → o ≡ Equal
    by_order Less e = cc
    by_order Equal e = refl
    by_order Greater e = cc

at-same : (a b : VoxelKey) → a ≡ b → is_at (key_cmp a) b ≡ true
at-same a b is = ap is_eq (key_cmp-same a b is)

-- the test of a set for a key is that of keys
pub at-key : (a b : VoxelKey) → is_at (key_cmp a) b ≡ same_key b a
at-key a b =
    elim (either (same_key b a)) [
      | inl same ↦ at-same a b (sym (same_key-true b a same)) ∙ sym same
      | inr apart ↦
          (elim (either (is_at (key_cmp a) b)) [
            | inl at ↦ absurd (false≢true (sym apart ∙ same_key-same b a (sym (at-true a b at))))
            | inr none ↦ none ∙ sym apart
          ])
    ]

pub with-false : (b : Bool) → (b || false) ≡ b
with-false true = refl
with-false false = refl

either-way : (old b : Bool) → cond b true old ≡ (old || b)
either-way true true = refl
either-way true false = refl
either-way false true = refl
either-way false false = refl

-- one more key
among-push : (ks : List VoxelKey) (k q : VoxelKey) → is_among (ks ++ k ∷ []) q ≡ (is_among ks q || same_key q k)
among-push ks k q = list_any-append (same_key q) ks (k ∷ []) ∙ ap (λ (b : Bool). is_among ks q || b) (with-false (same_key q k))

pub keys-more : (nodes : List Node) (i : ℕ) (n : Node) → i < length nodes → n ≡ get_or nodes i n → keys_of (take (i + 1) nodes) ≡ keys_of (take i nodes) ++ n.0 ∷ []
keys-more nodes i n within at =
    ap (λ (w : List Node). keys_of w) (take_more nodes i n within ∙ ap (λ (m : Node). take i nodes ++ m ∷ []) (sym at))
    ∙ map-append (λ (m : Node). m.0) (take i nodes) (n ∷ [])

pub set-more : (nodes : List Node) (i : ℕ) (n : Node) (q : VoxelKey) (old new : Bool) → i < length nodes → n ≡ get_or nodes i n → old ≡ is_among (keys_of (take i nodes)) q → new ≡ cond (is_at (key_cmp n.0) q) true old → new ≡ is_among (keys_of (take (i + 1) nodes)) q
set-more nodes i n q old new within at was put =
    put ∙ (either-way old (is_at (key_cmp n.0) q)
    ∙ (ap (λ (b : Bool). old || b) (at-key n.0 q)
    ∙ (ap (λ (b : Bool). b || same_key q n.0) was
    ∙ (sym (among-push (keys_of (take i nodes)) n.0 q)
    ∙ ap (λ (ks : List VoxelKey). is_among ks q) (sym (keys-more nodes i n within at))))))

pub all-more : (P : VoxelKey → Type 0) (nodes : List Node) (i : ℕ) (n : Node) → i < length nodes → n ≡ get_or nodes i n → All P (keys_of (take i nodes)) → P n.0 → All P (keys_of (take (i + 1) nodes))
all-more P nodes i n within at was here =
    subst (λ (ks : List VoxelKey). All P ks) (sym (keys-more nodes i n within at)) (All-members P (keys_of (take i nodes) ++ n.0 ∷ []) (λ k m. by_case k (IsMember-append k (keys_of (take i nodes)) (n.0 ∷ []) m)))
  where
    by_case : (k : VoxelKey) → IsMember k (keys_of (take i nodes)) ⊎ IsMember k (n.0 ∷ []) → P k
    by_case k (inl m) = all-member P k (keys_of (take i nodes)) was m
    by_case k (inr (inl same)) = subst P same here
    by_case k (inr (inr none)) = absurd none

-- ---- lists that a loop runs through

pub whole : {X : Type 0} (xs : List X) (i : ℕ) → i ≤ length xs → length xs ≤ i → take i xs ≡ xs
whole xs i low high = ap (λ (k : ℕ). take k xs) (let e : i ≡ length xs = omega (arith, low, high) in e) ∙ take-length xs

pub push-all : {X : Type 0} (P : X → Type 0) (xs : List X) (i : ℕ) (x : X) → i < length xs → x ≡ get_or xs i x → All P (take i xs) → P x → All P (take (i + 1) xs)
push-all {X} P xs i x within at was here =
    subst (λ (w : List X). All P w) (sym (take_more xs i x within ∙ ap (λ (y : X). take i xs ++ y ∷ []) (sym at))) (All-members P (take i xs ++ x ∷ []) (λ y m. by_case y (IsMember-append y (take i xs) (x ∷ []) m)))
  where
    by_case : (y : X) → IsMember y (take i xs) ⊎ IsMember y (x ∷ []) → P y
    by_case y (inl m) = all-member P y (take i xs) was m
    by_case y (inr (inl same)) = subst P same here
    by_case y (inr (inr none)) = absurd none

pub item-in : {X : Type 0} (xs : List X) (i : ℕ) (x : X) → i < length xs → x ≡ get_or xs i x → IsMember x xs
item-in {X} xs i x within at = subst (λ (y : X). IsMember y xs) (sym at) (IsMember-contains (get_or xs i x) xs (Contains-get_or xs i x within))

pub none-in : (P : VoxelKey → Type 0) → All P []
none-in P = All-members P [] (λ k m. absurd m)

-- ---- parents

pub parent-there : (nodes : List Node) (key : VoxelKey) (found : Bool) → found ≡ is_among (keys_of nodes) (parent key) → (0 < key.depth → found ≡ true) → HasParent (keys_of nodes) key
parent-there nodes key found same there = λ deep. sym same ∙ there deep

pub no-parent : (nodes : List Node) (key : VoxelKey) (found : Bool) → found ≡ is_among (keys_of nodes) (parent key) → HasParent (keys_of nodes) key → (0 < key.depth → found ≡ true)
no-parent nodes key found same has = λ deep. same ∙ has deep

-- if nodes are in key order, those before a node are in the list before it
pub first-of : (nodes : List Node) (i : ℕ) (n : Node) → AreAscending (keys_of nodes) → i < length nodes → n ≡ get_or nodes i n → All (HasParent (keys_of nodes)) (keys_of (take i nodes)) → ¬ HasParent (keys_of nodes) n.0 → IsFirstOrphan nodes n.0
first-of nodes i n ascend within at have none = record {
  listed = IsMember-map (λ (m : Node). m.0) n nodes (subst (λ (m : Node). IsMember m nodes) (sym at) (IsMember-contains (get_or nodes i n) nodes (Contains-get_or nodes i n within)));
  orphan = none;
  first = λ other m less. (
      let o = member-map (λ (x : Node). x.0) other nodes m in
      let c = contains-IsMember o.0 nodes o.1 in
      elim (cases_lt c.0 i) [
        | inl before ↦ subst (HasParent (keys_of nodes)) o.2 (all-member (HasParent (keys_of nodes)) o.0.0 (keys_of (take i nodes)) have (IsMember-map (λ (x : Node). x.0) o.0 (take i nodes) (front c.0 o.0 before c.1 c.2)))
        | inr after ↦ absurd (behind c.0 o.0 after c.1 c.2 (subst (λ (k : VoxelKey). IsBefore k n.0) (sym o.2) less))
      ]);
}
  where
    front : (k : ℕ) (o : Node) → k < i → k < length nodes → get_or nodes k o ≡ o → IsMember o (take i nodes)
    front k o before inside is =
        let short = length-take i nodes in
        let here : get_or (take i nodes) k o ≡ o = get_or-take i nodes k o before ∙ is in
        IsMember-contains o (take i nodes) (k, omega (arith, short, before, within), here)

    twice : (a b : VoxelKey) → key_cmp a b ≡ Less → key_cmp b a ≡ Less → ⊥
    twice a b one other =
        let less : key_cmp a a ≡ Less = key_cmp_total.trans a b a one other in
        let tied : key_cmp a a ≡ Equal = key_cmp-same a a refl in
        let wrong : Less ≡ Equal = sym less ∙ tied in
        cc

    behind : (k : ℕ) (o : Node) → i ≤ k → k < length nodes → get_or nodes k o ≡ o → IsBefore o.0 n.0 → ⊥
    behind k o after inside is less =
        let up : key_cmp o.0 n.0 ≡ Less = key_cmp-before o.0 n.0 less in
        let there : get_or nodes k n ≡ o = get_or_default nodes k n o inside ∙ is in
        elim (cases_lt i k) [
          | inl later ↦
              let down : key_cmp (get_or nodes i n).0 (get_or nodes k n).0 ≡ Less = ascend-at (λ (m : Node). m.0) nodes i k n later inside ascend in
              let down' : key_cmp n.0 o.0 ≡ Less = subst (λ (m : Node). key_cmp n.0 m.0 ≡ Less) there (subst (λ (m : Node). key_cmp m.0 (get_or nodes k n).0 ≡ Less) (sym at) down) in
              twice o.0 n.0 up down'
          | inr level ↦
              let here : i ≡ k = omega (arith, after, level) in
              let same : n ≡ o = at ∙ (ap (λ (j : ℕ). get_or nodes j n) here ∙ there) in
              let down' : key_cmp n.0 o.0 ≡ Less = subst (λ (m : Node). key_cmp m.0 o.0 ≡ Less) (sym same) (subst (λ (m : Node). key_cmp o.0 m.0 ≡ Less) same up) in
              twice o.0 n.0 up down'
        ]

-- ---- children

-- a node with a child is not of the greatest depth
pub child-shallow : (octree : Octree) (key : VoxelKey) (o : ℕ) → IsOctree octree → has_child (keys_of octree.nodes.items) key o ≡ true → key.depth < octree.rules.cube.depth
child-shallow octree key o is some =
    let m = among-member (keys_of octree.nodes.items) (child key o) some in
    let low = (all-member (IsInOctree octree.rules) (child key o) (keys_of octree.nodes.items) is.in_octree m).1 in
    let deeper = depth-child key o in
    omega (arith, low, deeper)

pub no-child : (octree : Octree) (key : VoxelKey) (o : ℕ) → IsOctree octree → octree.rules.cube.depth ≤ key.depth → has_child (keys_of octree.nodes.items) key o ≡ false
no-child octree key o is deep =
    elim (either (has_child (keys_of octree.nodes.items) key o)) [
      | inl some ↦ absurd (let low = child-shallow octree key o is some in omega (arith, low, deep))
      | inr none ↦ none
    ]

-- no node lies as deep as 32
pub cube-shallow : (octree : Octree) → IsOctree octree → octree.rules.cube.depth ≤ 31
cube-shallow octree is =
    let low = is.cube.span_low in let whole = is.cube.cells_whole in let high = is.cube.side_high in omega (arith, low, whole, high)

-- ---- ids

pub id-more : (points : List Point) (i : ℕ) (p : Point) (q : PointId) (mid new first : Bool) → i < length points → p ≡ get_or points i p → mid ≡ (first || is_of (take i points) q) → new ≡ (mid || is_one_id (id p) q) → new ≡ (first || is_of (take (i + 1) points) q)
id-more points i p q mid new first within at was put =
    let whole : take (i + 1) points ≡ take i points ++ p ∷ [] = take_more points i p within ∙ ap (λ (w : Point). take i points ++ w ∷ []) (sym at) in
    put ∙ (ap (λ (b : Bool). b || is_one_id (id p) q) was
    ∙ (assoc first (is_of (take i points) q) (is_one_id (id p) q)
    ∙ ap (λ (b : Bool). first || b) (sym (ap (λ (w : List Point). is_of w q) whole ∙ (list_any-append (λ (x : Point). is_one_id (id x) q) (take i points) (p ∷ []) ∙ ap (λ (b : Bool). is_of (take i points) q || b) (with-false (is_one_id (id p) q)))))))
  where
    assoc : (a b c : Bool) → ((a || b) || c) ≡ (a || (b || c))
    assoc true b c = refl
    assoc false b c = refl

pub octree-keys : (rules : Rules) (nodes : List Node) → All IsKey (keys_of nodes) → All (λ (n : Node). n.0.depth ≤ rules.cube.depth) nodes → All (IsInOctree rules) (keys_of nodes)
octree-keys rules nodes keys low =
    All-members (IsInOctree rules) (keys_of nodes) (λ key m. (
    let n = member-map (λ (x : Node). x.0) key nodes m in
    (all-member IsKey key (keys_of nodes) keys m, subst (λ (k : VoxelKey). k.depth ≤ rules.cube.depth) n.2 (all-member (λ (x : Node). x.0.depth ≤ rules.cube.depth) n.0 nodes low n.1))))
