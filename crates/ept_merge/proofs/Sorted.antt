-- Sorted keys that are there once ascend.
use Rattle.std.proofs.Common.{◌≡◌, ◌≢◌, ◌∙◌, ℕ, zero, suc, ◌+◌, ◌<◌, Bool, true, false, cond, Ordering, List, [], ◌∷◌, refl, sym, ap, subst, arith, map, length, get_or, count_by}
use Rattle.std.specs.List.Sorted.{IsPermutation, IsSortedByKey}
use Rattle.std.specs.Ordering.{is_lt}
use Rattle.std.specs.declared.cmp.Ordering.TheVariants.{Less, Equal, Greater}
use Rattle.std.proofs.lemmas.Bool.{false≢true}
use Rattle.std.proofs.lemmas.List.Sums.{sum_by-cons}
use Rattle.std.proofs.lemmas.List.Sorted.{IsPermutation-map, sum_by-IsPermutation}
use Rattle.ept_space.specs.VoxelKey.{VoxelKey, same_key, key_cmp, AreAscending}
use Rattle.ept_space.proofs.KeyOrder.{key_cmp-equal}
use Rattle.ept_space.proofs.Ascending.{ascend-tested}
use Rattle.ept_space.proofs.Within.{same_key-same}
use Rattle.ept_sample.proofs.KeyOrder.{key-greater}
use Rattle.ept_merge.specs.declared.joining.PartNode.{PartNode}
use Rattle.ept_merge.specs.Joining.{keys_of, AreDistinctKeys}

count-cons : (key k : VoxelKey) (keys : List VoxelKey) → count_by (same_key key) (k ∷ keys) ≡ cond (same_key key k) 1 0 + count_by (same_key key) keys
count-cons key k keys = sum_by-cons (λ x. cond (same_key key x) 1 0) k keys

counts : (key k : VoxelKey) → k ≡ key → cond {A = ℕ} (same_key key k) 1 0 ≡ 1
counts key k is = ap (λ (b : Bool). cond {A = ℕ} b 1 0) (same_key-same key k (sym is))

-- two neighbours have two keys
differ : {X : Type 0} (key : X → VoxelKey) (xs : List X) → AreDistinctKeys (map key xs) → (k : ℕ) (d : X) → suc k < length xs → key (get_or xs k d) ≢ key (get_or xs (suc k) d)
differ key [] once k d low same = absurd (omega (arith, low))
differ key (x ∷ []) once k d low same = absurd (omega (arith, low))
differ key (x ∷ y ∷ xs) once zero d low same =
    absurd (omega (
      arith,
      once (key x),
      count-cons (key x) (key x) (key y ∷ map key xs),
      count-cons (key x) (key y) (map key xs),
      counts (key x) (key x) refl,
      counts (key x) (key y) (sym same),
    ))
differ key (x ∷ y ∷ xs) once (suc k) d low same =
    differ key (y ∷ xs) (λ (w : VoxelKey). omega (arith, once w, count-cons w (key x) (map key (y ∷ xs)))) k d (omega (arith, low)) same

rises : (a b : VoxelKey) → a ≢ b → is_lt (key_cmp b a) ≡ false → key_cmp a b ≡ Less
rises a b apart not_less = by_order (key_cmp a b) refl
  where
    by_order : (o : Ordering) → key_cmp a b ≡ o → key_cmp a b ≡ Less
    by_order Less is = is
    by_order Equal is = absurd (apart (key_cmp-equal a b is))
    by_order Greater is = absurd (false≢true (sym not_less ∙ ap is_lt (key-greater a b is)))

pub sorted-ascend : (nodes : List PartNode) → IsSortedByKey (λ (n : PartNode). n.line.key) key_cmp nodes → AreDistinctKeys (keys_of nodes) → AreAscending (keys_of nodes)
sorted-ascend nodes up once =
    (ascend-tested (λ (n : PartNode). n.line.key) nodes true (λ k d low. sym (ap is_lt (
    let next : k + 1 ≡ suc k = omega arith in
    rises (get_or nodes k d).line.key (get_or nodes (k + 1) d).line.key
    (subst (λ (i : ℕ). (get_or nodes k d).line.key ≢ (get_or nodes i d).line.key) (sym next) (differ (λ (n : PartNode). n.line.key) nodes once k d (omega (arith, low))))
    (up k d (omega arith) low))))).0 refl

-- the same keys in another order are there once too
pub distinct-permuted : (xs ys : List PartNode) → IsPermutation xs ys → AreDistinctKeys (keys_of xs) → AreDistinctKeys (keys_of ys)
distinct-permuted xs ys same once key =
    omega (arith, once key, sum_by-IsPermutation (λ x. cond (same_key key x) 1 0) (keys_of xs) (keys_of ys) (IsPermutation-map (λ (n : PartNode). n.line.key) xs ys same))
