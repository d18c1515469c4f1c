-- Lines of parts, joined at the root, are those of a whole octree.
use Rattle.std.proofs.Common.{◌≡◌, ◌∙◌, ◌⊎◌, inl, inr, ℕ, ◌+◌, ◌<◌, ◌≤◌, ◌==◌, Bool, true, false, cond, List, [], ◌∷◌, ◌++◌, refl, sym, ap, subst, arith, drop, count_by}
use Rattle.std.specs.Prelude.{sum_by}
use Rattle.std.specs.List.{flat_map, list_any}
use Rattle.std.specs.List.Sorted.{IsPermutation}
use Rattle.std.specs.Int.{bit_at}
use Rattle.std.specs.Ordering.{nat_cmp, ordering_then, is_lt}
use Rattle.std.specs.declared.cmp.Ordering.TheVariants.{Less}
use Rattle.std.proofs.lemmas.Bool.{false≢true}
use Rattle.std.proofs.lemmas.Bool.Decides.{nat_tests}
use Rattle.std.proofs.lemmas.List.{map-append}
use Rattle.std.proofs.lemmas.List.Sums.{sum_by-cons, sum_by-append}
use Rattle.std.proofs.lemmas.List.Sorted.{IsPermutation-sym, IsPermutation-map, Contains-permutation, list_any-IsPermutation, sum_by-IsPermutation}
use Rattle.ept_space.specs.VoxelKey.{VoxelKey, same_key, root, parent, child, key_cmp, AreAscending}
use Rattle.ept_space.proofs.Family.{parent-child, depth-child}
use Rattle.ept_space.proofs.Within.{same_key-true, same_key-same}
use Rattle.ept_space.proofs.KeyOrder.{less-is_lt}
use Rattle.ept_sample.specs.Members.{IsMember}
use Rattle.ept_sample.proofs.Members.{IsMember-flat_map, member-flat_map, IsMember-map, member-map, member-any, any-member, all-member, All-members, IsMember-contains, contains-IsMember}
use Rattle.ept_sample.proofs.Ascending.{IsRising}
use Rattle.ept_sample.proofs.KeyOrder.{key-self, key_before, key_order, AllPairs-IsRising, IsRising-AllPairs}
use Rattle.ept_ckpt.specs.declared.node_line.NodeLine.{NodeLine}
use Rattle.ept_ckpt.specs.Octree.{keys_of, is_among, HasParent, TellsChildren, AreWholeOctree, points_in}

abbrev pub Lines : Type 0
Lines = List NodeLine

-- ---- tests

both_ways : (a b : Bool) → (a ≡ true → b ≡ true) → (b ≡ true → a ≡ true) → a ≡ b
both_ways true true there back = refl
both_ways true false there back = sym (there refl)
both_ways false true there back = back refl
both_ways false false there back = refl

-- ---- keys

none_less : (a b c d : ℕ) → ordering_then (nat_cmp a 0) (ordering_then (nat_cmp b 0) (ordering_then (nat_cmp c 0) (nat_cmp d 0))) ≡ Less → ⊥
none_less a b c d e = grind (arith, nat_tests)

-- no key is before the root's
root-first : (key : VoxelKey) → key_cmp key root ≡ Less → ⊥
root-first key e = none_less key.depth key.x key.y key.z e

pub not-root : (key : VoxelKey) → key_cmp root key ≡ Less → key ≡ root → ⊥
not-root key less is = let same = ap (λ (k : VoxelKey). key_cmp root k) is ∙ key-self root in absurd (cc)

child-not-root : (key : VoxelKey) (o : ℕ) → child key o ≡ root → ⊥
child-not-root key o is = absurd (omega (arith, depth-child key o, ap (λ (k : VoxelKey). k.depth) is))

pub among-member : (keys : List VoxelKey) (key : VoxelKey) → is_among keys key ≡ true → IsMember key keys
among-member keys key is =
    let r = member-any (same_key key) keys is in
    subst (λ (k : VoxelKey). IsMember k keys) (sym (same_key-true key r.0 r.2)) r.1

pub member-among : (keys : List VoxelKey) (key : VoxelKey) → IsMember key keys → is_among keys key ≡ true
member-among keys key m = any-member (same_key key) key keys m (same_key-same key key refl)

-- ---- keys that are there once

abbrev pub Once : List VoxelKey → Type 0
Once keys = (key : VoxelKey) → count_by (same_key key) keys ≤ 1

count_cons : (key k : VoxelKey) (keys : List VoxelKey) → count_by (same_key key) (k ∷ keys) ≡ cond (same_key key k) 1 0 + count_by (same_key key) keys
count_cons key k keys = sum_by-cons (λ x. cond (same_key key x) 1 0) k keys

count_append : (key : VoxelKey) (xs ys : List VoxelKey) → count_by (same_key key) (xs ++ ys) ≡ count_by (same_key key) xs + count_by (same_key key) ys
count_append key xs ys = sum_by-append (λ x. cond (same_key key x) 1 0) xs ys

count_yes : (key k : VoxelKey) (keys : List VoxelKey) → same_key key k ≡ true → count_by (same_key key) (k ∷ keys) ≡ 1 + count_by (same_key key) keys
count_yes key k keys e = count_cons key k keys ∙ ap (λ (b : Bool). cond b 1 0 + count_by (same_key key) keys) e

count_no : (key k : VoxelKey) (keys : List VoxelKey) → same_key key k ≡ false → count_by (same_key key) (k ∷ keys) ≡ count_by (same_key key) keys
count_no key k keys e = omega (arith, count_cons key k keys, ap (λ (b : Bool). cond {A = ℕ} b 1 0) e)

pub count_member : (key : VoxelKey) (keys : List VoxelKey) → IsMember key keys → 1 ≤ count_by (same_key key) keys
count_member key [] m = absurd m
count_member key (k ∷ keys) (inl is) = omega (arith, count_yes key k keys (same_key-same key k (sym is)))
count_member key (k ∷ keys) (inr m) = omega (arith, count_cons key k keys, count_member key keys m)

pub count_none : (key : VoxelKey) (keys : List VoxelKey) → (IsMember key keys → ⊥) → count_by (same_key key) keys ≡ 0
count_none key [] none = refl
count_none key (k ∷ keys) none = by_test (same_key key k) refl (count_none key keys (λ m. none (inr m)))
  where
    by_test : (b : Bool) → same_key key k ≡ b → count_by (same_key key) keys ≡ 0 → count_by (same_key key) (k ∷ keys) ≡ 0
    by_test true e rest = absurd (none (inl (sym (same_key-true key k e))))
    by_test false e rest = count_no key k keys e ∙ rest

pub rising-once : (keys : List VoxelKey) → IsRising key_before keys → Once keys
rising-once [] up key = omega arith
rising-once (k ∷ keys) up key = by_test (same_key key k) refl (rising-once keys up.1 key)
  where
    by_test : (b : Bool) → same_key key k ≡ b → count_by (same_key key) keys ≤ 1 → count_by (same_key key) (k ∷ keys) ≤ 1
    by_test true e rest =
        let is : k ≡ key = sym (same_key-true key k e) in
        let none : count_by (same_key key) keys ≡ 0 = count_none key keys (λ m. absurd (false≢true (sym (key_order.none_itself key) ∙ subst (λ (w : VoxelKey). key_before w key ≡ true) is (up.0 key m)))) in
        omega (arith, count_yes key k keys e, none)
    by_test false e rest = omega (arith, count_no key k keys e, rest)

apart : (key : VoxelKey) (xs ys : List VoxelKey) → Once (xs ++ ys) → IsMember key xs → IsMember key ys → ⊥
apart key xs ys once m n = absurd (omega (arith, once key, count_append key xs ys, count_member key xs m, count_member key ys n))

once-right : (xs ys : List VoxelKey) → Once (xs ++ ys) → Once ys
once-right xs ys once key = omega (arith, once key, count_append key xs ys)

-- ---- the lines of one part

-- the root has the first line of a whole octree, and all other keys are later
pub record IsRooted (lines : Lines) : Type 0 where
  pub whole : AreWholeOctree lines
  pub head : NodeLine
  pub is : lines ≡ head ∷ drop 1 lines
  pub at_root : head.key ≡ root
  pub others : (line : NodeLine) → IsMember line (drop 1 lines) → key_cmp root line.key ≡ Less

pub rooted : (lines : Lines) → AreWholeOctree lines → IsRooted lines
rooted [] whole = absurd (false≢true whole.rooted)
rooted (l ∷ ls) whole = record {
  whole = whole;
  head = l;
  is = refl;
  at_root = first (among-member (keys_of (l ∷ ls)) root whole.rooted);
  others = λ line m. subst (λ (k : VoxelKey). key_cmp k line.key ≡ Less) (first (among-member (keys_of (l ∷ ls)) root whole.rooted)) (less-is_lt (key_cmp l.key line.key) (up.0 line.key (IsMember-map (λ (n : NodeLine). n.key) line ls m)));
}
  where
    up : IsRising key_before (keys_of (l ∷ ls))
    up = IsRising-AllPairs (keys_of (l ∷ ls)) whole.ascend

    first : IsMember root (keys_of (l ∷ ls)) → l.key ≡ root
    first (inl is) = is
    first (inr m) = absurd (root-first l.key (less-is_lt (key_cmp l.key root) (up.0 root m)))

-- a key of the part is the root's, or one below
part-key : (lines : Lines) → IsRooted lines → (key : VoxelKey) → IsMember key (keys_of lines) → (key ≡ root) ⊎ IsMember key (keys_of (drop 1 lines))
part-key lines r key m = by_head (subst (λ (w : Lines). IsMember key (keys_of w)) r.is m)
  where
    by_head : IsMember key (keys_of (r.head ∷ drop 1 lines)) → (key ≡ root) ⊎ IsMember key (keys_of (drop 1 lines))
    by_head (inl is) = inl (sym is ∙ r.at_root)
    by_head (inr n) = inr n

below-part : (lines : Lines) → IsRooted lines → (line : NodeLine) → IsMember line (drop 1 lines) → IsMember line lines
below-part lines r line m = subst (λ (w : Lines). IsMember line w) (sym r.is) (inr m)

below-key : (lines : Lines) → IsRooted lines → (key : VoxelKey) → IsMember key (keys_of (drop 1 lines)) → IsMember key (keys_of lines) × (key_cmp root key ≡ Less)
below-key lines r key m =
    let l = member-map (λ (n : NodeLine). n.key) key (drop 1 lines) m in (
      subst (λ (k : VoxelKey). IsMember k (keys_of lines)) l.2 (IsMember-map (λ (n : NodeLine). n.key) l.0 lines (below-part lines r l.0 l.1)),
      subst (λ (k : VoxelKey). key_cmp root k ≡ Less) l.2 (r.others l.0 l.1),
    )

-- the parent of a child in the part is in the part
parent-there : (lines : Lines) → IsRooted lines → (key : VoxelKey) (o : ℕ) → IsMember (child key o) (keys_of lines) → IsMember key (keys_of lines)
parent-there lines r key o m =
    subst (λ (k : VoxelKey). IsMember k (keys_of lines)) (parent-child key o)
    (among-member (keys_of lines) (parent (child key o)) (all-member (HasParent (keys_of lines)) (child key o) (keys_of lines) r.whole.parents m (omega (arith, depth-child key o))))

-- ---- the lines of all parts

-- those below the root
abbrev pub below : List Lines → Lines
below parts = flat_map (λ (lines : Lines). drop 1 lines) parts

-- and the keys of the root and of those
abbrev pub all_keys : List Lines → List VoxelKey
all_keys parts = root ∷ keys_of (below parts)

abbrev pub AreRooted : List Lines → Type 0
AreRooted parts = (lines : Lines) → IsMember lines parts → IsRooted lines

keys-below : (p : Lines) (parts : List Lines) → keys_of (below (p ∷ parts)) ≡ keys_of (drop 1 p) ++ keys_of (below parts)
keys-below p parts = map-append (λ (n : NodeLine). n.key) (drop 1 p) (below parts)

-- a key below the root is that of a part
key-part : (parts : List Lines) (key : VoxelKey) → IsMember key (keys_of (below parts)) → (lines : Lines) × IsMember lines parts × IsMember key (keys_of (drop 1 lines))
key-part parts key m =
    let l = member-map (λ (n : NodeLine). n.key) key (below parts) m in
    let p = member-flat_map (λ (lines : Lines). drop 1 lines) l.0 parts l.1 in
    (p.0, p.1, subst (λ (k : VoxelKey). IsMember k (keys_of (drop 1 p.0))) l.2 (IsMember-map (λ (n : NodeLine). n.key) l.0 (drop 1 p.0) p.2))

part-below : (parts : List Lines) (lines : Lines) (key : VoxelKey) → IsMember lines parts → IsMember key (keys_of (drop 1 lines)) → IsMember key (keys_of (below parts))
part-below parts lines key among m =
    let l = member-map (λ (n : NodeLine). n.key) key (drop 1 lines) m in
    subst (λ (k : VoxelKey). IsMember k (keys_of (below parts))) l.2
    (IsMember-map (λ (n : NodeLine). n.key) l.0 (below parts) (IsMember-flat_map (λ (ls : Lines). drop 1 ls) lines l.0 parts among l.1))

-- a key that is there once is that of one part
one-part : (parts : List Lines) → Once (keys_of (below parts)) → (a b : Lines) (key : VoxelKey) → IsMember a parts → IsMember b parts → IsMember key (keys_of (drop 1 a)) → IsMember key (keys_of (drop 1 b)) → a ≡ b
one-part [] once a b key among other m n = absurd among
one-part (p ∷ parts) once a b key among other m n = by_place (λ here there. one-part parts (once-right (keys_of (drop 1 p)) (keys_of (below parts)) both) a b key here there m n) among other
  where
    both : Once (keys_of (drop 1 p) ++ keys_of (below parts))
    both = subst (λ (w : List VoxelKey). Once w) (keys-below p parts) once

    by_place : (IsMember a parts → IsMember b parts → a ≡ b) → IsMember a (p ∷ parts) → IsMember b (p ∷ parts) → a ≡ b
    by_place rest (inl is) (inl also) = sym is ∙ also
    by_place rest (inl is) (inr there) =
        absurd (apart key (keys_of (drop 1 p)) (keys_of (below parts)) both (subst (λ (w : Lines). IsMember key (keys_of (drop 1 w))) (sym is) m) (part-below parts b key there n))
    by_place rest (inr here) (inl also) =
        absurd (apart key (keys_of (drop 1 p)) (keys_of (below parts)) both (subst (λ (w : Lines). IsMember key (keys_of (drop 1 w))) (sym also) n) (part-below parts a key here m))
    by_place rest (inr here) (inr there) = rest here there

module _ (parts : List Lines) (are : AreRooted parts) where
  -- a key of a part is there
  part-all : (lines : Lines) (key : VoxelKey) → IsMember lines parts → IsMember key (keys_of lines) → IsMember key (all_keys parts)
  part-all lines key among m = elim (part-key lines (are lines among) key m) [ inl is ↦ inl (sym is) | inr n ↦ inr (part-below parts lines key among n) ]

  -- each key but the root's has its parent
  parents : (key : VoxelKey) → IsMember key (all_keys parts) → HasParent (all_keys parts) key
  parents key (inl is) deep = absurd (omega (arith, deep, ap (λ (k : VoxelKey). k.depth) is))
  parents key (inr m) deep =
      let p = key-part parts key m in
      let r = are p.0 p.1 in
      member-among (all_keys parts) (parent key)
      (part-all p.0 (parent key) p.1 (among-member (keys_of p.0) (parent key) (all-member (HasParent (keys_of p.0)) key (keys_of p.0) r.whole.parents (below-key p.0 r key p.2).0 deep)))

  -- the masks below the root state the children
  module _ (once : Once (keys_of (below parts))) where
    children-below : (lines : Lines) (line : NodeLine) → IsMember lines parts → IsMember line (drop 1 lines) → TellsChildren (all_keys parts) line
    children-below lines line among m o low =
        both_ways (bit_at line.mask o == 1) (is_among (all_keys parts) (child line.key o)) there back
      where
        r : IsRooted lines
        r = are lines among

        tells : (bit_at line.mask o == 1) ≡ is_among (keys_of lines) (child line.key o)
        tells = all-member (TellsChildren (keys_of lines)) line lines r.whole.children (below-part lines r line m) o low

        there : (bit_at line.mask o == 1) ≡ true → is_among (all_keys parts) (child line.key o) ≡ true
        there bit = member-among (all_keys parts) (child line.key o) (part-all lines (child line.key o) among (among-member (keys_of lines) (child line.key o) (sym tells ∙ bit)))

        its_key : IsMember line.key (keys_of (drop 1 lines))
        its_key = IsMember-map (λ (n : NodeLine). n.key) line (drop 1 lines) m

        by_member : IsMember (child line.key o) (all_keys parts) → (bit_at line.mask o == 1) ≡ true
        by_member (inl is) = absurd (child-not-root line.key o (sym is))
        by_member (inr n) =
            let q = key-part parts (child line.key o) n in
            let s = are q.0 q.1 in
            let inside = below-key q.0 s (child line.key o) q.2 in
            let mine : IsMember line.key (keys_of (drop 1 q.0)) = elim (part-key q.0 s line.key (parent-there q.0 s line.key o inside.0)) [ inl is ↦ absurd (not-root line.key (r.others line m) is) | inr below ↦ below ] in
            let same : lines ≡ q.0 = one-part parts once lines q.0 line.key among q.1 its_key mine in
            tells ∙ member-among (keys_of lines) (child line.key o) (subst (λ (w : Lines). IsMember (child line.key o) (keys_of w)) (sym same) inside.0)

        back : is_among (all_keys parts) (child line.key o) ≡ true → (bit_at line.mask o == 1) ≡ true
        back is = by_member (among-member (all_keys parts) (child line.key o) is)

  -- and so does the union of the roots' masks
  pub children-root : (mask : ℕ) (first : Lines → ℕ) → ((lines : Lines) → (among : IsMember lines parts) → first lines ≡ (are lines among).head.mask)
      → ((o : ℕ) → o < 8 → (bit_at mask o == 1) ≡ list_any (λ (lines : Lines). bit_at (first lines) o == 1) parts) → (o : ℕ) → o < 8 → (bit_at mask o == 1) ≡ is_among (all_keys parts) (child root o)
  children-root mask first firsts union o low = union o low ∙ both_ways (list_any (λ (lines : Lines). bit_at (first lines) o == 1) parts) (is_among (all_keys parts) (child root o)) there back
    where
      tells : (lines : Lines) (among : IsMember lines parts) → (bit_at (first lines) o == 1) ≡ is_among (keys_of lines) (child root o)
      tells lines among =
          let r = are lines among in
          ap (λ (n : ℕ). bit_at n o == 1) (firsts lines among)
          ∙ (all-member (TellsChildren (keys_of lines)) r.head lines r.whole.children (subst (λ (w : Lines). IsMember r.head w) (sym r.is) (inl refl)) o low
          ∙ ap (λ (k : VoxelKey). is_among (keys_of lines) (child k o)) r.at_root)

      there : list_any (λ (lines : Lines). bit_at (first lines) o == 1) parts ≡ true → is_among (all_keys parts) (child root o) ≡ true
      there is =
          let p = member-any (λ (lines : Lines). bit_at (first lines) o == 1) parts is in
          member-among (all_keys parts) (child root o) (part-all p.0 (child root o) p.1 (among-member (keys_of p.0) (child root o) (sym (tells p.0 p.1) ∙ p.2)))

      by_member : IsMember (child root o) (all_keys parts) → list_any (λ (lines : Lines). bit_at (first lines) o == 1) parts ≡ true
      by_member (inl is) = absurd (child-not-root root o (sym is))
      by_member (inr n) =
          let q = key-part parts (child root o) n in
          any-member (λ (lines : Lines). bit_at (first lines) o == 1) q.0 parts q.1
          (tells q.0 q.1 ∙ member-among (keys_of q.0) (child root o) (below-key q.0 (are q.0 q.1) (child root o) q.2).0)

      back : is_among (all_keys parts) (child root o) ≡ true → list_any (λ (lines : Lines). bit_at (first lines) o == 1) parts ≡ true
      back is = by_member (among-member (all_keys parts) (child root o) is)

  -- ---- in key order

  -- these are the lines below the root, in key order
  module _ (lines : Lines) (same : IsPermutation (below parts) lines) (ascend : AreAscending (keys_of lines)) (top : NodeLine) (at_root : top.key ≡ root)
      (tells_root : (o : ℕ) → o < 8 → (bit_at top.mask o == 1) ≡ is_among (all_keys parts) (child root o)) where
    same_keys : IsPermutation (keys_of (below parts)) (keys_of lines)
    same_keys = IsPermutation-map (λ (n : NodeLine). n.key) (below parts) lines same

    once : Once (keys_of (below parts))
    once key = omega (arith, rising-once (keys_of lines) (IsRising-AllPairs (keys_of lines) ascend) key, sum_by-IsPermutation (λ x. cond (same_key key x) 1 0) (keys_of (below parts)) (keys_of lines) same_keys)

    -- the same keys are there
    same-among : (key : VoxelKey) → is_among (keys_of (top ∷ lines)) key ≡ is_among (all_keys parts) key
    same-among key =
        ap (λ (k : VoxelKey). is_among (k ∷ keys_of lines) key) at_root
        ∙ both_ways (is_among (root ∷ keys_of lines) key) (is_among (all_keys parts) key)
        (λ is. member-among (all_keys parts) key (there (among-member (root ∷ keys_of lines) key is)))
        (λ is. member-among (root ∷ keys_of lines) key (back (among-member (all_keys parts) key is)))
      where
        any : is_among (keys_of (below parts)) key ≡ is_among (keys_of lines) key
        any = list_any-IsPermutation (same_key key) (keys_of (below parts)) (keys_of lines) same_keys

        there : IsMember key (root ∷ keys_of lines) → IsMember key (all_keys parts)
        there (inl is) = inl is
        there (inr m) = inr (among-member (keys_of (below parts)) key (any ∙ member-among (keys_of lines) key m))

        back : IsMember key (all_keys parts) → IsMember key (root ∷ keys_of lines)
        back (inl is) = inl is
        back (inr m) = inr (among-member (keys_of lines) key (sym any ∙ member-among (keys_of (below parts)) key m))

    line-part : (line : NodeLine) → IsMember line lines → IsMember line (below parts)
    line-part line m =
        IsMember-contains line (below parts) (Contains-permutation lines (below parts) line (IsPermutation-sym (below parts) lines same) (contains-IsMember line lines m))

    after-root : (key : VoxelKey) → IsMember key (keys_of lines) → key_cmp root key ≡ Less
    after-root key m =
        let l = member-map (λ (n : NodeLine). n.key) key lines m in
        let p = member-flat_map (λ (ls : Lines). drop 1 ls) l.0 parts (line-part l.0 l.1) in
        subst (λ (k : VoxelKey). key_cmp root k ≡ Less) l.2 ((are p.0 p.1).others l.0 p.2)

    known-key : (key : VoxelKey) → IsMember key (keys_of (top ∷ lines)) → IsMember key (all_keys parts)
    known-key key m = among-member (all_keys parts) key (sym (same-among key) ∙ member-among (keys_of (top ∷ lines)) key m)

    tells : (line : NodeLine) → IsMember line (top ∷ lines) → TellsChildren (keys_of (top ∷ lines)) line
    tells line (inl is) o low =
        subst (λ (l : NodeLine). (bit_at l.mask o == 1) ≡ is_among (keys_of (top ∷ lines)) (child l.key o)) is
        (tells_root o low ∙ (sym (same-among (child root o)) ∙ ap (λ (k : VoxelKey). is_among (keys_of (top ∷ lines)) (child k o)) (sym at_root)))
    tells line (inr m) o low =
        let p = member-flat_map (λ (ls : Lines). drop 1 ls) line parts (line-part line m) in
        children-below once p.0 line p.1 p.2 o low ∙ sym (same-among (child line.key o))

    pub merged-whole : AreWholeOctree (top ∷ lines)
    merged-whole = record {
      ascend = AllPairs-IsRising (keys_of (top ∷ lines)) (λ key m. ap is_lt (subst (λ (k : VoxelKey). key_cmp k key ≡ Less) (sym at_root) (after-root key m)), IsRising-AllPairs (keys_of lines) ascend);
      rooted = member-among (keys_of (top ∷ lines)) root (inl at_root);
      parents = All-members (HasParent (keys_of (top ∷ lines))) (keys_of (top ∷ lines)) (λ key m deep. same-among (parent key) ∙ parents key (known-key key m) deep);
      children = All-members (TellsChildren (keys_of (top ∷ lines))) (top ∷ lines) tells;
    }

-- ---- how many points they have

points-cons : (l : NodeLine) (lines : Lines) → points_in (l ∷ lines) ≡ l.count + points_in lines
points-cons l lines = sum_by-cons (λ (n : NodeLine). n.count) l lines

-- the points of all parts are those at the root and those below
pub parts-points : (parts : List Lines) (count_of : Lines → ℕ) → ((lines : Lines) → IsMember lines parts → points_in lines ≡ count_of lines + points_in (drop 1 lines)) → sum_by points_in parts ≡ sum_by count_of parts + points_in (below parts)
parts-points [] count_of each = refl
parts-points (p ∷ parts) count_of each =
    omega (arith, sum_by-cons points_in p parts, sum_by-cons count_of p parts, each p (inl refl), sum_by-append (λ (n : NodeLine). n.count) (drop 1 p) (below parts), parts-points parts count_of (λ lines m. each lines (inr m)))

-- and those of the merged lines
pub merged-points : (parts : List Lines) (count_of : Lines → ℕ) (lines : Lines) (top : NodeLine) → ((ls : Lines) → IsMember ls parts → points_in ls ≡ count_of ls + points_in (drop 1 ls)) → IsPermutation (below parts) lines → top.count ≡ sum_by count_of parts → points_in (top ∷ lines) ≡ sum_by points_in parts
merged-points parts count_of lines top each same count =
    omega (arith, points-cons top lines, parts-points parts count_of each, sum_by-IsPermutation (λ (n : NodeLine). n.count) (below parts) lines same, count)
