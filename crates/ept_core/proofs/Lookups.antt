-- What lookups in a map of nodes return.
use Rattle.std.proofs.Common.{◌≡◌, ◌∙◌, ℕ, Bool, true, false, cond, ◌||◌, inl, inr, List, [], ◌∷◌, refl, sym, ap, subst, Option, Some, None, Ordering, zero, suc, ◌<◌, arith, get_or, replicate}
use Rattle.std.specs.declared.cmp.Ordering.TheVariants.{Less, Equal, Greater}
use Rattle.std.specs.Ordering.{match_ordering, is_lt, is_eq}
use Rattle.std.specs.BTreeMap.{is_at}
use Rattle.std.specs.Map.{lookup, set_value}
use Rattle.std.specs.List.{AllByRecursion}
use Rattle.std.specs.List.Sorted.{IsStrictlySortedBy}
use Rattle.std.proofs.lemmas.Bool.{false≢true}
use Rattle.ept_space.specs.VoxelKey.{VoxelKey, same_key, key_cmp}
use Rattle.ept_space.proofs.Within.{same_key-same}
use Rattle.ept_sample.specs.Members.{IsMember}
use Rattle.ept_sample.proofs.Ascending.{IsRising, IsBeforeAll}
use Rattle.ept_sample.proofs.KeyOrder.{key_before, key_order, key-self, key-equal}
use Rattle.ept_sample.proofs.Choices.{not_both}
use Rattle.ept_core.specs.declared.node.Node.{Node}
use Rattle.ept_core.specs.State.{Entry, blank, node_at, has_node, has_open, keys_of}
use Rattle.ept_core.specs.Steps.{with_node}
use Rattle.ept_core.proofs.NodeMap.{same_key-apart, has_node-key}

-- keys that a map holds rise
each_above : (k : VoxelKey) (ks : List VoxelKey) → AllByRecursion (λ j. key_cmp k j ≡ Less) ks → IsBeforeAll key_before k ks
each_above k [] all j m = absurd m
each_above k (i ∷ ks) all j (inl is) = ap is_lt (subst (λ (w : VoxelKey). key_cmp k w ≡ Less) is all.0)
each_above k (i ∷ ks) all j (inr m) = each_above k ks all.1 j m

pub sorted-rising : (ks : List VoxelKey) → IsStrictlySortedBy key_cmp ks → IsRising key_before ks
unfolding IsStrictlySortedBy
sorted-rising [] up = tt
sorted-rising (k ∷ ks) up = (each_above k ks up.0, sorted-rising ks up.1)

-- what is found at a key
abbrev pub IsFound : List Entry → VoxelKey → Option Node → Type 0
IsFound nodes k None = (has_node nodes k ≡ false) × (node_at nodes k ≡ blank)
IsFound nodes k (Some n) = (has_node nodes k ≡ true) × (node_at nodes k ≡ n)

at_first : (e : Entry) (es : List Entry) (k : VoxelKey) (b : Bool) → same_key e.0 k ≡ b → (node_at (e ∷ es) k ≡ cond b e.1 (node_at es k)) × (has_node (e ∷ es) k ≡ (b || has_node es k))
unfolding node_at has_node
at_first e es k b is =
    (ap (λ (c : Bool). cond c e.1 (node_at es k)) is, ap (λ (c : Bool). c || has_node es k) is)

apart_by : (k a : VoxelKey) (o : Ordering) → key_cmp k a ≡ o → (o ≡ Equal → ⊥) → same_key a k ≡ false
apart_by k a o is differ =
    same_key-apart a k (λ same. differ (sym is ∙ (ap (λ (w : VoxelKey). key_cmp k w) same ∙ key-self k)))

later : (e : Entry) (es : List Entry) (k : VoxelKey) (r : Option Node) → same_key e.0 k ≡ false → IsFound es k r → IsFound (e ∷ es) k r
later e es k None apart more = let h = at_first e es k false apart in (h.1 ∙ more.0, h.0 ∙ more.1)
later e es k (Some n) apart more = let h = at_first e es k false apart in (h.1 ∙ more.0, h.0 ∙ more.1)

found_step : (e : Entry) (es : List Entry) (k : VoxelKey) (o : Ordering) → key_cmp k e.0 ≡ o → IsFound es k (lookup (is_at (key_cmp k)) es) → IsFound (e ∷ es) k (cond (is_eq o) (Some e.1) (lookup (is_at (key_cmp k)) es))
found_step e es k Less is more = later e es k (lookup (is_at (key_cmp k)) es) (apart_by k e.0 Less is (λ h. absurd (cc))) more
found_step e es k Greater is more = later e es k (lookup (is_at (key_cmp k)) es) (apart_by k e.0 Greater is (λ h. absurd (cc))) more
found_step e es k Equal is more =
    let h = at_first e es k true (same_key-same e.0 k (sym (key-equal k e.0 is))) in (h.1, h.0)

nothing_there : (k : VoxelKey) → IsFound [] k None
unfolding node_at has_node
nothing_there k = (refl, refl)

pub lookup-found : (nodes : List Entry) (k : VoxelKey) → IsFound nodes k (lookup (is_at (key_cmp k)) nodes)
lookup-found [] k = nothing_there k
lookup-found (e ∷ es) k = found_step e es k (key_cmp k e.0) refl (lookup-found es k)

pub found-some : (nodes : List Entry) (k : VoxelKey) (n : Node) → Some n ≡ lookup (is_at (key_cmp k)) nodes → (has_node nodes k ≡ true) × (node_at nodes k ≡ n)
found-some nodes k n is = subst (λ (r : Option Node). IsFound nodes k r) (sym is) (lookup-found nodes k)

pub found-none : (nodes : List Entry) (k : VoxelKey) → None ≡ lookup (is_at (key_cmp k)) nodes → (has_node nodes k ≡ false) × (node_at nodes k ≡ blank)
found-none nodes k is = subst (λ (r : Option Node). IsFound nodes k r) (sym is) (lookup-found nodes k)

-- a value written at a key that is there
set_step : (e : Entry) (es : List Entry) (k : VoxelKey) (w : Node) (o : Ordering) → key_cmp k e.0 ≡ o → (has_node (e ∷ es) k ≡ true) → IsRising key_before (keys_of (e ∷ es)) → (has_node es k ≡ true → set_value (is_at (key_cmp k)) es w ≡ with_node es k w) → cond (is_eq o) ((e.0, w) ∷ es) (e ∷ set_value (is_at (key_cmp k)) es w) ≡ match_ordering o ((k, w) ∷ e ∷ es) ((e.0, w) ∷ es) (e ∷ with_node es k w)
set_step e es k w Equal is there up more = refl
set_step e es k w Greater is there up more =
    ap (λ (xs : List Entry). e ∷ xs) (more (sym (at_first e es k false (apart_by k e.0 Greater is (λ h. absurd (cc)))).1 ∙ there))
set_step e es k w Less is there up more =
    let m : IsMember k (keys_of (e ∷ es)) = has_node-key (e ∷ es) k there in
    absurd (not_both (key_before k k) (first k m) (key_order.none_itself k))
  where
    first : IsBeforeAll key_before k (keys_of (e ∷ es))
    first j (inl same) = ap is_lt (subst (λ (v : VoxelKey). key_cmp k v ≡ Less) same is)
    first j (inr m) = key_order.goes_on k e.0 j (ap is_lt is) (up.0 j m)

nothing_has : (k : VoxelKey) → has_node [] k ≡ true → ⊥
unfolding has_node
nothing_has k e = false≢true e

pub set_value-with : (nodes : List Entry) (k : VoxelKey) (w : Node) → IsRising key_before (keys_of nodes) → has_node nodes k ≡ true → set_value (is_at (key_cmp k)) nodes w ≡ with_node nodes k w
set_value-with [] k w up there = absurd (nothing_has k there)
set_value-with (e ∷ es) k w up there =
    set_step e es k w (key_cmp k e.0) refl there up (λ h. set_value-with es k w up.1 h)

-- the node, with its points kept there
abbrev pub resident_as : Node → Bool → Node
resident_as n resident = record { points = n.points; opened = n.opened; is_resident = resident }

none_of_eight : (o : ℕ) → o < 8 → false ≡ get_or (replicate 8 false) o false
none_of_eight zero low = refl
none_of_eight (suc zero) low = refl
none_of_eight (suc (suc zero)) low = refl
none_of_eight (suc (suc (suc zero))) low = refl
none_of_eight (suc (suc (suc (suc zero)))) low = refl
none_of_eight (suc (suc (suc (suc (suc zero))))) low = refl
none_of_eight (suc (suc (suc (suc (suc (suc zero)))))) low = refl
none_of_eight (suc (suc (suc (suc (suc (suc (suc zero))))))) low = refl
none_of_eight (suc (suc (suc (suc (suc (suc (suc (suc o)))))))) low = absurd (omega (arith, low))

pub open-blank : (o : ℕ) → o < 8 → has_open blank o ≡ get_or (replicate 8 false) o false
unfolding has_open
open-blank o low = none_of_eight o low
