-- The map of nodes.
use Rattle.std.proofs.Common.{◌≡◌, ◌∙◌, Bool, true, false, cond, ◌⊎◌, inl, inr, List, [], ◌∷◌, ◌++◌, refl, sym, ap, subst, Ordering, append_assoc}
use Rattle.std.specs.declared.cmp.Ordering.TheVariants.{Less, Equal, Greater}
use Rattle.std.specs.Ordering.{match_ordering, is_lt}
use Rattle.std.specs.List.{flat_map}
use Rattle.std.specs.List.Sorted.{IsPermutation}
use Rattle.std.proofs.lemmas.Bool.{false≢true}
use Rattle.std.proofs.lemmas.List.Sorted.{IsPermutation-refl, IsPermutation-trans, IsPermutation-append_comm, IsPermutation-append_left, IsPermutation-append_right}
use Rattle.ept_point.specs.declared.point.Point.{Point}
use Rattle.ept_space.specs.VoxelKey.{VoxelKey, same_key, key_cmp}
use Rattle.ept_space.proofs.Within.{same_key-true, same_key-same}
use Rattle.ept_sample.specs.Nodes.{with_key}
use Rattle.ept_sample.specs.Members.{IsMember}
use Rattle.ept_sample.proofs.Members.{member-any, any-member, IsMember-map, member-map}
use Rattle.ept_sample.proofs.Ascending.{IsRising, IsBeforeAll}
use Rattle.ept_sample.proofs.Choices.{either, not_both}
use Rattle.ept_sample.proofs.KeyOrder.{key_before, key_order, key-self, key-equal, with_key-put}
use Rattle.ept_core.specs.declared.node.Node.{Node}
use Rattle.ept_core.specs.State.{Entry, blank, node_at, has_node, keys_of}
use Rattle.ept_core.specs.Steps.{with_node}

-- ---- tests of keys

pub same_key-self : (k : VoxelKey) → same_key k k ≡ true
same_key-self k = same_key-same k k refl

pub same_key-apart : (a b : VoxelKey) → (a ≡ b → ⊥) → same_key a b ≡ false
same_key-apart a b apart =
    elim (either (same_key a b)) [ inl same ↦ absurd (apart (same_key-true a b same)) | inr fine ↦ fine ]

-- ---- the node of a key

-- a choice made twice
twice : {X : Type 0} (n x y : X) (a b : Bool) → a ≡ b → cond a n x ≡ cond b n (cond a y x)
twice n x y true true e = refl
twice n x y true false e = absurd (false≢true (sym e))
twice n x y false true e = absurd (false≢true e)
twice n x y false false e = refl

-- two choices that are not both made
either_way : {X : Type 0} (n x y : X) (a b : Bool) → (a ≡ true → b ≡ true → ⊥) → cond b y (cond a n x) ≡ cond a n (cond b y x)
either_way n x y true true apart = absurd (apart refl refl)
either_way n x y true false apart = refl
either_way n x y false true apart = refl
either_way n x y false false apart = refl

greater_apart : (k a j : VoxelKey) → key_cmp k a ≡ Greater → same_key k j ≡ true → same_key a j ≡ true → ⊥
greater_apart k a j is one two =
    let same : k ≡ a = same_key-true k j one ∙ sym (same_key-true a j two) in
    let both : Equal ≡ Greater = sym (key-self a) ∙ (ap (λ (w : VoxelKey). key_cmp w a) (sym same) ∙ is) in
    absurd (cc)

at_step : (e : Entry) (es : List Entry) (k : VoxelKey) (n : Node) (j : VoxelKey) (o : Ordering) → key_cmp k e.0 ≡ o → node_at (with_node es k n) j ≡ cond (same_key k j) n (node_at es j) → node_at (match_ordering o ((k, n) ∷ e ∷ es) ((e.0, n) ∷ es) (e ∷ with_node es k n)) j ≡ cond (same_key k j) n (node_at (e ∷ es) j)
unfolding node_at
at_step e es k n j Less is more = refl
at_step e es k n j Equal is more =
    twice n (node_at es j) e.1 (same_key e.0 j) (same_key k j) (ap (λ (w : VoxelKey). same_key w j) (sym (key-equal k e.0 is)))
at_step e es k n j Greater is more =
    ap (λ (w : Node). cond (same_key e.0 j) e.1 w) more
    ∙ either_way n (node_at es j) e.1 (same_key k j) (same_key e.0 j) (λ one two. greater_apart k e.0 j is one two)

-- the node that was put there, and every other one as it was
pub node_at-with : (nodes : List Entry) (k : VoxelKey) (n : Node) (j : VoxelKey) → node_at (with_node nodes k n) j ≡ cond (same_key k j) n (node_at nodes j)
unfolding node_at
node_at-with [] k n j = refl
node_at-with (e ∷ es) k n j = at_step e es k n j (key_cmp k e.0) refl (node_at-with es k n j)

pub node_at-here : (nodes : List Entry) (k : VoxelKey) (n : Node) → node_at (with_node nodes k n) k ≡ n
node_at-here nodes k n =
    node_at-with nodes k n k ∙ ap (λ (b : Bool). cond b n (node_at nodes k)) (same_key-self k)

pub node_at-other : (nodes : List Entry) (k : VoxelKey) (n : Node) (j : VoxelKey) → same_key k j ≡ false → node_at (with_node nodes k n) j ≡ node_at nodes j
node_at-other nodes k n j apart =
    node_at-with nodes k n j ∙ ap (λ (b : Bool). cond b n (node_at nodes j)) apart

absent_step : (e : Entry) (es : List Entry) (k : VoxelKey) → same_key e.0 k ≡ false → node_at (e ∷ es) k ≡ node_at es k
unfolding node_at
absent_step e es k apart = ap (λ (b : Bool). cond b e.1 (node_at es k)) apart

present_step : (e : Entry) (es : List Entry) (k : VoxelKey) → same_key e.0 k ≡ true → node_at (e ∷ es) k ≡ e.1
unfolding node_at
present_step e es k same = ap (λ (b : Bool). cond b e.1 (node_at es k)) same

blank_at : (k : VoxelKey) → node_at [] k ≡ blank
unfolding node_at
blank_at k = refl

-- if there is no node of the key
pub node_at-absent : (nodes : List Entry) (k : VoxelKey) → ((e : Entry) → IsMember e nodes → same_key e.0 k ≡ false) → node_at nodes k ≡ blank
node_at-absent [] k none = blank_at k
node_at-absent (e ∷ es) k none =
    absent_step e es k (none e (inl refl)) ∙ node_at-absent es k (λ g m. none g (inr m))

nothing_in : (k : VoxelKey) (p : Point) → IsMember p (node_at [] k).points → ⊥
unfolding node_at
nothing_in k p m = m

-- a point of the node of a key is in a node of that key
pub node_at-entry : (nodes : List Entry) (k : VoxelKey) (p : Point) → IsMember p (node_at nodes k).points → (e : Entry) × IsMember e nodes × (e.0 ≡ k) × (e.1 ≡ node_at nodes k)
node_at-entry [] k p m = absurd (nothing_in k p m)
node_at-entry (e ∷ es) k p m =
    elim (either (same_key e.0 k)) [
      | inl same ↦ (e, inl refl, same_key-true e.0 k same, sym (present_step e es k same))
      | inr apart ↦
          let stay : node_at (e ∷ es) k ≡ node_at es k = absent_step e es k apart in
          let r = node_at-entry es k p (subst (λ (n : Node). IsMember p n.points) stay m) in
          (r.0, inr r.1, r.2, r.3 ∙ sym stay)
    ]

-- if keys rise, a node is that of its key
pub node_at-member : (nodes : List Entry) (e : Entry) → IsRising key_before (keys_of nodes) → IsMember e nodes → node_at nodes e.0 ≡ e.1
node_at-member [] e up m = absurd m
node_at-member (g ∷ es) e up (inl is) =
    present_step g es e.0 (same_key-same g.0 e.0 (ap (λ (w : Entry). w.0) is)) ∙ ap (λ (w : Entry). w.1) is
node_at-member (g ∷ es) e up (inr m) =
    absent_step g es e.0 (same_key-apart g.0 e.0 (λ is. not_both (key_before g.0 e.0) (up.0 e.0 (IsMember-map (λ (w : Entry). w.0) e es m)) (subst (λ (w : VoxelKey). key_before g.0 w ≡ false) is (key_order.none_itself g.0))))
    ∙ node_at-member es e up.1 m

-- ---- keys

keys_step : (k : VoxelKey) (n : Node) (e : Entry) (es : List Entry) (o : Ordering) → keys_of (with_node es k n) ≡ with_key k (keys_of es) → keys_of (match_ordering o ((k, n) ∷ e ∷ es) ((e.0, n) ∷ es) (e ∷ with_node es k n)) ≡ match_ordering o (k ∷ e.0 ∷ keys_of es) (e.0 ∷ keys_of es) (e.0 ∷ with_key k (keys_of es))
keys_step k n e es Less more = refl
keys_step k n e es Equal more = refl
keys_step k n e es Greater more = ap (λ (w : List VoxelKey). e.0 ∷ w) more

pub keys_of-with : (k : VoxelKey) (n : Node) (es : List Entry) → keys_of (with_node es k n) ≡ with_key k (keys_of es)
keys_of-with k n [] = refl
keys_of-with k n (e ∷ es) = keys_step k n e es (key_cmp k e.0) (keys_of-with k n es)

-- keys in key order, each once, rise, and rising keys are in key order
pub rising-with : (nodes : List Entry) (k : VoxelKey) (n : Node) → IsRising key_before (keys_of nodes) → IsRising key_before (keys_of (with_node nodes k n))
rising-with nodes k n up =
    subst (λ (w : List VoxelKey). IsRising key_before w) (sym (keys_of-with k n nodes)) ((with_key-put k (keys_of nodes)).3 up)

pub has_node-key : (nodes : List Entry) (k : VoxelKey) → has_node nodes k ≡ true → IsMember k (keys_of nodes)
unfolding has_node
has_node-key nodes k e =
    let r = member-any (λ (w : Entry). same_key w.0 k) nodes e in
    subst (λ (w : VoxelKey). IsMember w (keys_of nodes)) (same_key-true r.0.0 k r.2) (IsMember-map (λ (w : Entry). w.0) r.0 nodes r.1)

pub key-has_node : (nodes : List Entry) (k : VoxelKey) → IsMember k (keys_of nodes) → has_node nodes k ≡ true
unfolding has_node
key-has_node nodes k m =
    let r = member-map (λ (w : Entry). w.0) k nodes m in
    any-member (λ (w : Entry). same_key w.0 k) r.0 nodes r.1 (same_key-same r.0.0 k r.2)

pub has_node-with : (nodes : List Entry) (k : VoxelKey) (n : Node) (j : VoxelKey) → has_node nodes j ≡ true → has_node (with_node nodes k n) j ≡ true
has_node-with nodes k n j e =
    key-has_node (with_node nodes k n) j (subst (λ (w : List VoxelKey). IsMember j w) (sym (keys_of-with k n nodes)) ((with_key-put k (keys_of nodes)).1 j (has_node-key nodes j e)))

entry_step : (g : Entry) (k : VoxelKey) (n : Node) (e : Entry) (es : List Entry) (o : Ordering) → key_cmp k e.0 ≡ o → (IsMember g (with_node es k n) → ((k, n) ≡ g) ⊎ IsMember g es) → IsMember g (match_ordering o ((k, n) ∷ e ∷ es) ((e.0, n) ∷ es) (e ∷ with_node es k n)) → ((k, n) ≡ g) ⊎ IsMember g (e ∷ es)
entry_step g k n e es Less is more (inl h) = inl h
entry_step g k n e es Less is more (inr m) = inr m
entry_step g k n e es Equal is more (inl h) =
    inl (ap (λ (j : VoxelKey). let t : Entry = (j, n) in t) (key-equal k e.0 is) ∙ h)
entry_step g k n e es Equal is more (inr m) = inr (inr m)
entry_step g k n e es Greater is more (inl h) = inr (inl h)
entry_step g k n e es Greater is more (inr m) =
    elim (more m) [ inl h ↦ inl h | inr r ↦ inr (inr r) ]

-- an entry of the map is the one that was put there, or was there
pub IsMember-with : (g : Entry) (k : VoxelKey) (n : Node) (es : List Entry) → IsMember g (with_node es k n) → ((k, n) ≡ g) ⊎ IsMember g es
IsMember-with g k n [] (inl h) = inl h
IsMember-with g k n [] (inr m) = absurd m
IsMember-with g k n (e ∷ es) m = entry_step g k n e es (key_cmp k e.0) refl (IsMember-with g k n es) m

-- ---- the points of all nodes

-- the points of nodes
abbrev pub points_of : List Entry → List Point
points_of nodes = flat_map (λ (e : Entry). e.1.points) nodes

-- the nodes without the first of a key
abbrev pub without : List Entry → VoxelKey → List Entry
without [] k = []
without (e ∷ es) k = cond (same_key e.0 k) es (e ∷ without es k)

pub IsPermutation-past : {X : Type 0} (xs ys zs : List X) → IsPermutation (xs ++ (ys ++ zs)) (ys ++ (xs ++ zs))
IsPermutation-past {X} xs ys zs =
    let P : List X → List X → Type 0 = λ a b. IsPermutation a b in
    subst (λ (w : List X). P w (ys ++ (xs ++ zs))) (append_assoc xs ys zs) (subst (λ (w : List X). P ((xs ++ ys) ++ zs) w) (append_assoc ys xs zs) (IsPermutation-append_left zs (xs ++ ys) (ys ++ xs) (IsPermutation-append_comm xs ys)))

split_step : (e : Entry) (es : List Entry) (k : VoxelKey) (b : Bool) → same_key e.0 k ≡ b → IsPermutation (points_of es) ((node_at es k).points ++ points_of (without es k)) → IsPermutation (e.1.points ++ points_of es) ((node_at (e ∷ es) k).points ++ points_of (cond b es (e ∷ without es k)))
split_step e es k true is more =
    subst (λ (n : Node). IsPermutation (e.1.points ++ points_of es) (n.points ++ points_of es)) (sym (present_step e es k is)) (IsPermutation-refl (e.1.points ++ points_of es))
split_step e es k false is more =
    subst (λ (n : Node). IsPermutation (e.1.points ++ points_of es) (n.points ++ (e.1.points ++ points_of (without es k)))) (sym (absent_step e es k is)) (IsPermutation-trans (e.1.points ++ points_of es) (e.1.points ++ ((node_at es k).points ++ points_of (without es k))) ((node_at es k).points ++ (e.1.points ++ points_of (without es k))) (IsPermutation-append_right e.1.points (points_of es) ((node_at es k).points ++ points_of (without es k)) more) (IsPermutation-past e.1.points (node_at es k).points (points_of (without es k))))

empty_split : (k : VoxelKey) → IsPermutation {X = Point} [] ((node_at [] k).points ++ [])
unfolding node_at
empty_split k = IsPermutation-refl []

-- they are those of one node and those of the others
pub points_of-split : (nodes : List Entry) (k : VoxelKey) → IsPermutation (points_of nodes) ((node_at nodes k).points ++ points_of (without nodes k))
points_of-split [] k = empty_split k
points_of-split (e ∷ es) k = split_step e es k (same_key e.0 k) refl (points_of-split es k)

without-absent : (nodes : List Entry) (k : VoxelKey) → IsBeforeAll key_before k (keys_of nodes) → without nodes k ≡ nodes
without-absent [] k first = refl
without-absent (e ∷ es) k first =
    ap (λ (b : Bool). cond b es (e ∷ without es k)) (same_key-apart e.0 k (λ is. not_both (key_before k e.0) (first e.0 (inl refl)) (subst (λ (w : VoxelKey). key_before k w ≡ false) (sym is) (key_order.none_itself k))))
    ∙ ap (λ (w : List Entry). e ∷ w) (without-absent es k (λ j m. first j (inr m)))

before_first : (k : VoxelKey) (e : Entry) (es : List Entry) → key_cmp k e.0 ≡ Less → IsRising key_before (keys_of (e ∷ es)) → IsBeforeAll key_before k (keys_of (e ∷ es))
before_first k e es is up j (inl same) = ap is_lt (subst (λ (w : VoxelKey). key_cmp k w ≡ Less) same is)
before_first k e es is up j (inr m) = key_order.goes_on k e.0 j (ap is_lt is) (up.0 j m)

without_step : (k : VoxelKey) (n : Node) (e : Entry) (es : List Entry) (o : Ordering) → key_cmp k e.0 ≡ o → IsRising key_before (keys_of (e ∷ es)) → without (with_node es k n) k ≡ without es k → without (match_ordering o ((k, n) ∷ e ∷ es) ((e.0, n) ∷ es) (e ∷ with_node es k n)) k ≡ without (e ∷ es) k
without_step k n e es Less is up more =
    ap (λ (b : Bool). cond b (e ∷ es) ((k, n) ∷ without (e ∷ es) k)) (same_key-self k)
    ∙ sym (without-absent (e ∷ es) k (before_first k e es is up))
without_step k n e es Equal is up more =
    let same : same_key e.0 k ≡ true = same_key-same e.0 k (sym (key-equal k e.0 is)) in
    ap (λ (b : Bool). cond b es ((e.0, n) ∷ without es k)) same ∙ sym (ap (λ (b : Bool). cond b es (e ∷ without es k)) same)
without_step k n e es Greater is up more =
    let apart : same_key e.0 k ≡ false = same_key-apart e.0 k (λ same. greater_apart k e.0 k is (same_key-self k) (same_key-same e.0 k same)) in
    ap (λ (b : Bool). cond b (with_node es k n) (e ∷ without (with_node es k n) k)) apart
    ∙ (ap (λ (w : List Entry). e ∷ w) more ∙ sym (ap (λ (b : Bool). cond b es (e ∷ without es k)) apart))

-- a node put there leaves the others
pub without-with : (nodes : List Entry) (k : VoxelKey) (n : Node) → IsRising key_before (keys_of nodes) → without (with_node nodes k n) k ≡ without nodes k
without-with [] k n up = ap (λ (b : Bool). cond b [] ((k, n) ∷ [])) (same_key-self k)
without-with (e ∷ es) k n up = without_step k n e es (key_cmp k e.0) refl up (without-with es k n up.1)

-- the points of the nodes with one put there
pub points_of-with : (nodes : List Entry) (k : VoxelKey) (n : Node) → IsRising key_before (keys_of nodes) → IsPermutation (points_of (with_node nodes k n)) (n.points ++ points_of (without nodes k))
points_of-with nodes k n up =
    subst (λ (w : Node). IsPermutation (points_of (with_node nodes k n)) (w.points ++ points_of (without nodes k))) (node_at-here nodes k n) (subst (λ (w : List Entry). IsPermutation (points_of (with_node nodes k n)) ((node_at (with_node nodes k n) k).points ++ points_of w)) (without-with nodes k n up) (points_of-split (with_node nodes k n) k))
