-- The reader and the nodes as they lie in slots.
use Rattle.std.proofs.Common.{◌≡◌, ◌∙◌, ℕ, zero, suc, ◌+◌, ◌<◌, ◌≤◌, List, [], ◌∷◌, ◌++◌, map, reverse, length, refl, sym, ap, subst, arith, Option, Some, None}
use Rattle.std.proofs.lemmas.List.{reverse-reverse, reverse-append, append_assoc}
use Rattle.std.specs.List.{sum_by, All, Any}
use Rattle.std.proofs.lemmas.List.Elements.{All-nil, All-cons, All-head, All-tail}
use Rattle.std.specs.Prelude.{cond}
use Rattle.std.proofs.lemmas.List.Sums.{sum_by-cons}
use Rattle.ept_scan.specs.declared.second_reading.Reader.{Reader}
use Rattle.ept_node.specs.declared.node.Node as node
use Rattle.ept_slots.specs.declared.view.View as slots
use Rattle.ept_slots.specs.Views.{first_view, whole}
use Rattle.ept_forest.specs.Slots.{residents_of}
use Rattle.ept_table.specs.Permits.{weight_of}
use Rattle.ept_table.specs.declared.item.Item.{Item}
use Rattle.ept_table.specs.declared.item.Item.TheVariants as items
use Rattle.ept_table.specs.declared.note.Note.{Note}
use Rattle.ept_table.specs.declared.note.Told.{Told}
use Rattle.ept_table.specs.At.{At}
use Rattle.ept_table.specs.Steps.{first_note}
use Rattle.ept_table.specs.Tells.{IsLanded}
use Rattle.ept_table.specs.Item.{taken_as, cell_of, seen_node, seen_reader, seen, broken_by, IsFiled, IsFiledNode, Filed}
use Rattle.ept_table.specs.Standing.{HasBroken, HaveBroken, Stands}
use Rattle.ept_table.specs.Row.{items_of, row}
use Rattle.ept_table.specs.declared.taken.Cell.{Cell}
use Rattle.ept_table.specs.declared.taken.Progress.{Progress}
use Rattle.ept_table.specs.declared.taken.Taken.{Taken}
use Rattle.ept_table.specs.declared.taken.Taken.TheVariants.{Reading}
use Rattle.ept_table.specs.View.{View}
use Rattle.ept_table.specs.Shown.{Holds}
use Rattle.ept_node.specs.Shown.{state_of, is_here, fault_of}
use Rattle.ept_node.specs.declared.error.NodeError.{NodeError}
use Rattle.ept_sample.specs.Members.{IsMember}
use Rattle.ept_node.specs.declared.state.NodeState.{NodeState}
use Rattle.ept_node.specs.declared.state.NodeState.TheVariants as states
use Rattle.ept_table.proofs.Lists.{at-head, at-next, at-rest, at-zero, nothing-at}
use Rattle.ept_table.proofs.Glue.{at-map}
use Rattle.ept_table.proofs.Ending.{first-seat-holds}

-- ---- permits

module _ (F S : Type 0) where
  nodes-weight : (nodes : List (node.Node F)) → sum_by (weight_of {F = F} {S = S}) (map items.Node nodes) ≡ residents_of nodes
  nodes-weight [] = refl
  nodes-weight (n ∷ ns) =
      let first : sum_by (weight_of {F = F} {S = S}) (items.Node n ∷ map items.Node ns) ≡ weight_of {F = F} {S = S} (items.Node n) + sum_by (weight_of {F = F} {S = S}) (map items.Node ns) = sum_by-cons (weight_of {F = F} {S = S}) (items.Node n) (map items.Node ns) in
      let counted : residents_of (n ∷ ns) ≡ weight_of {F = F} {S = S} (items.Node n) + residents_of ns = sum_by-cons (λ (m : node.Node F). cond (is_here m) 1 0) n ns in
      let rest : sum_by (weight_of {F = F} {S = S}) (map items.Node ns) ≡ residents_of ns = nodes-weight ns in
      first ∙ (ap (λ (k : ℕ). weight_of {F = F} {S = S} (items.Node n) + k) rest ∙ sym counted)

  -- the items take a permit for each node that is in memory
  pub row-weight : (reader : Reader S) (nodes : List (node.Node F)) → sum_by weight_of (items_of reader nodes) ≡ residents_of nodes
  row-weight reader nodes =
      let first : sum_by (weight_of {F = F} {S = S}) (items_of reader nodes) ≡ 0 + sum_by (weight_of {F = F} {S = S}) (map items.Node nodes) = sum_by-cons (weight_of {F = F} {S = S}) (items.Reader reader) (map items.Node nodes) in
      let rest : sum_by (weight_of {F = F} {S = S}) (map items.Node nodes) ≡ residents_of nodes = nodes-weight nodes in omega (arith, first, rest)

-- ---- lists

pub cons-parts : {X : Type 0} (x y : X) (xs ys : List X) → x ∷ xs ≡ y ∷ ys → (x ≡ y) × (xs ≡ ys)
cons-parts {X} x y xs ys e = (ap (first_of x) e, ap rest_of e)
  where
    first_of : X → List X → X
    first_of d [] = d
    first_of d (z ∷ zs) = z

    rest_of : List X → List X
    rest_of [] = []
    rest_of (z ∷ zs) = zs

-- the list whose last item comes first when it is reversed
pub turned : {X : Type 0} (xs front : List X) (x : X) → reverse xs ≡ front ++ x ∷ [] → xs ≡ x ∷ reverse front
turned xs front x e = sym (reverse-reverse xs) ∙ (ap reverse e ∙ reverse-append front (x ∷ []))

pub turned-again : {X : Type 0} (xs front : List X) (x : X) → xs ≡ front ++ x ∷ [] → reverse xs ≡ x ∷ reverse front
turned-again xs front x e = ap reverse e ∙ reverse-append front (x ∷ [])

pub length-map : {X Y : Type 0} (f : X → Y) (xs : List X) → length (map f xs) ≡ length xs
length-map f [] = refl
length-map f (x ∷ xs) = ap suc (length-map f xs)

module _ {F S : Type 0} where
  abbrev as_item : node.Node F → Item F S
  as_item n = items.Node n

  node_same : (a b : node.Node F) → as_item a ≡ as_item b → a ≡ b
  node_same a b e = ap from e
    where
      from : Item F S → node.Node F
      from (items.Node n) = n
      from (items.Reader r) = a

  pub reader-same : (a b : Reader S) → (let x : Item F S = items.Reader a in x) ≡ items.Reader b → a ≡ b
  reader-same a b e = ap from e
    where
      from : Item F S → Reader S
      from (items.Node n) = a
      from (items.Reader r) = r

  -- ---- taken apart

  pub back-step : (x : Item F S) (xs : List (Item F S)) (rest : List (node.Node F)) → x ∷ xs ≡ map as_item rest → (n : node.Node F) × (ns : List (node.Node F)) × (rest ≡ n ∷ ns) × (x ≡ as_item n) × (xs ≡ map as_item ns)
  back-step x xs [] e = absurd (cc)
  back-step x xs (n ∷ ns) e = let p = cons-parts x (as_item n) xs (map as_item ns) e in (n, ns, refl, p.0, p.1)

  pub one-more-back : (r : Reader S) (all : List (Item F S)) (before rest ns : List (node.Node F)) (n m : node.Node F) (x : Item F S) (now : List (node.Node F)) → all ≡ items_of r (before ++ rest) → rest ≡ n ∷ ns → x ≡ as_item n → x ≡ as_item m → now ≡ before ++ m ∷ [] → all ≡ items_of r (now ++ ns)
  one-more-back r all before rest ns n m x now e f is it g =
      let same : n ≡ m = node_same n m (sym is ∙ it) in
      let list : before ++ rest ≡ now ++ ns = ap (λ (w : List (node.Node F)). before ++ w) f ∙ (ap (λ (w : node.Node F). before ++ w ∷ ns) same ∙ (sym (append_assoc before (m ∷ []) ns) ∙ ap (λ (w : List (node.Node F)). w ++ ns) (sym g))) in
      e ∙ ap (λ (w : List (node.Node F)). items_of r w) list

  pub nothing-back : (ns : List (node.Node F)) → (let none : List (Item F S) = [] in none) ≡ map as_item ns → ns ≡ []
  nothing-back [] e = refl
  nothing-back (n ∷ ns) e = absurd (cc)

  map_same : (ns ms : List (node.Node F)) → map as_item ns ≡ map as_item ms → ns ≡ ms
  map_same [] [] e = refl
  map_same [] (m ∷ ms) e = absurd (cc)
  map_same (n ∷ ns) [] e = absurd (cc)
  map_same (n ∷ ns) (m ∷ ms) e =
      let p = cons-parts (as_item n) (as_item m) (map as_item ns) (map as_item ms) e in
      ap (λ (w : node.Node F). w ∷ ns) (node_same n m p.0) ∙ ap (λ (w : List (node.Node F)). m ∷ w) (map_same ns ms p.1)

  pub items-same : (r q : Reader S) (ns ms : List (node.Node F)) → items_of r ns ≡ items_of q ms → (r ≡ q) × (ns ≡ ms)
  items-same r q ns ms e =
      let p = cons-parts (items.Reader r) (items.Reader q) (map as_item ns) (map as_item ms) e in
      (reader-same r q p.0, map_same ns ms p.1)

  -- ---- a table is made

  module _ (held : F → Option (List ℕ)) (node_faults keeps : F → ℕ) (whole_of left : S → Option (List ℕ)) (given faults : S → ℕ) (told : Told) where
    abbrev its : Item F S → Type 0
    its x = Filed held node_faults keeps whole_of left given faults told x

    abbrev are : List (node.Node F) → Type 0
    are ns = All (IsFiledNode held node_faults keeps told) ns

    nodes_filed : (ns : List (node.Node F)) → are ns → (k : ℕ) (x : Item F S) → At (map as_item ns) k x → its x
    nodes_filed [] all k x a = absurd (nothing-at a)
    nodes_filed (n ∷ ns) all zero x a = subst (λ (z : Item F S). its z) (at-head a) (All-head (IsFiledNode held node_faults keeps told) n ns all)
    nodes_filed (n ∷ ns) all (suc k) x a = nodes_filed ns (All-tail (IsFiledNode held node_faults keeps told) n ns all) k x (at-rest (as_item n) (map as_item ns) k x a)

    all_filed : (r : Reader S) (ns : List (node.Node F)) → IsFiled whole_of left given faults told r → are ns → (k : ℕ) (x : Item F S) → At (items_of r ns) k x → its x
    all_filed r ns filed all zero x a = subst (λ (z : Item F S). its z) (at-head a) filed
    all_filed r ns filed all (suc k) x a = nodes_filed ns all k x (at-rest (items.Reader r) (map as_item ns) k x a)

    -- and the nodes of items of which this is known
    filed_nodes : (ns : List (node.Node F)) → ((k : ℕ) (x : Item F S) → At (map as_item ns) k x → its x) → are ns
    filed_nodes [] filed = All-nil (IsFiledNode held node_faults keeps told)
    filed_nodes (n ∷ ns) filed = All-cons (IsFiledNode held node_faults keeps told) n ns (filed 0 (as_item n) (at-zero (as_item n) (map as_item ns))) (filed_nodes ns (λ k x a. filed (suc k) x (at-next (as_item n) (map as_item ns) k x a)))

    -- a first seat notes no refusal of a node
    none_broken : (most : ℕ) (all : List (Item F S)) → HaveBroken all (first_view most (first_note told) ∷ [])
    none_broken most all zero v why a m = absurd (let none : IsMember why [] = subst (λ (z : slots.View (Item F S) Note). IsMember why z.note.broken) (sym (at-head a)) m in none)
    none_broken most all (suc i) v why a m = absurd (nothing-at (at-rest (first_view most (first_note told)) [] i v a))

    pub make-stands : (most used : ℕ) (r : Reader S) (ns : List (node.Node F)) (all : List (Item F S)) → all ≡ items_of r ns → IsLanded told used (row held whole_of r ns) → IsFiled whole_of left given faults told r → are ns → Stands held node_faults keeps whole_of left given faults told used all (first_view most (first_note told) ∷ [])
    make-stands most used r ns all e landed filed nodes =
        subst (λ (xs : List (Item F S)). Stands held node_faults keeps whole_of left given faults told used xs (first_view most (first_note told) ∷ [])) (sym e) (record { rule = first-seat-holds told used (row held whole_of r ns) whole landed; filed = all_filed r ns filed nodes; broken = none_broken most (items_of r ns) })

    pub landed-low : (used : ℕ) (r : Reader S) (ns : List (node.Node F)) → IsLanded told used (row held whole_of r ns) → used ≤ told.most
    landed-low used r ns landed = not_over (λ over. nothing-at (landed.seats.above_full over).2)
      where
        not_over : (told.most < used → ⊥) → used ≤ told.most
        not_over apart = omega (arith, apart)

    pub landed-most : (used : ℕ) (r : Reader S) (ns : List (node.Node F)) → IsLanded told used (row held whole_of r ns) → length ns ≡ told.most
    landed-most used r ns landed =
        let size : length (row held whole_of r ns) ≡ told.most + 1 = landed.base.size in
        let same : length (row held whole_of r ns) ≡ length (items_of r ns) = length-map (seen held whole_of) (items_of r ns) in
        let nodes : length (map as_item ns) ≡ length ns = length-map as_item ns in
        omega (arith, size, same, nodes)

    -- ---- a table is closed

    -- what lies in the slots of a table is the reader, then nodes
    as_nodes : (xs : List (Item F S)) → ((k : ℕ) (x : Item F S) → At xs k x → (r : Reader S) → (x ≡ items.Reader r) → ⊥) → (ns : List (node.Node F)) × (xs ≡ map as_item ns)
    as_nodes [] none = ([], refl)
    as_nodes (items.Node n ∷ xs) none =
        let more = as_nodes xs (λ k x a. none (suc k) x (at-next (items.Node n) xs k x a)) in
        (n ∷ more.0, ap (λ (w : List (Item F S)). items.Node n ∷ w) more.1)
    as_nodes (items.Reader r ∷ xs) none = absurd (none 0 (items.Reader r) (at-zero (items.Reader r) xs) r refl)

    pub closed-row : (drawn : ℕ) (xs : List (Item F S)) (views : List View) → Holds told drawn (map (seen held whole_of) xs) views → (r : Reader S) × (ns : List (node.Node F)) × (xs ≡ items_of r ns)
    closed-row drawn [] views h = absurd (nothing-at h.base.at_first)
    closed-row drawn (items.Node n ∷ xs) views h =
        absurd (no_reader (at-head h.base.at_first))
      where
        no_reader : {q : Progress} → seen_node held n ≡ Reading q → ⊥
        no_reader e = not_reading (cell_of held n) (state_of n) e
          where
            not_reading : {q : Progress} (c : Cell) (s : NodeState) → taken_as s c ≡ Reading q → ⊥
            not_reading c states.Blank e = cc
            not_reading c states.Resident e = cc
            not_reading c states.Spilled e = cc
            not_reading c states.Broken e = cc
    closed-row drawn (items.Reader r ∷ xs) views h =
        let rest = as_nodes xs (λ k x a q e. (
        let b : At (map (seen held whole_of) (items.Reader r ∷ xs)) (suc k) (seen held whole_of x) = at-map (seen held whole_of) (items.Reader r ∷ xs) (suc k) x (at-next (items.Reader r) xs k x a) in
        let z : suc k ≡ 0 = h.base.one_reader (suc k) (seen_reader whole_of q) (subst (λ (t : Taken). At (map (seen held whole_of) (items.Reader r ∷ xs)) (suc k) t) (ap (seen held whole_of) e) b) in
        omega (arith, z))) in
        (r, rest.0, ap (λ (w : List (Item F S)). items.Reader r ∷ w) rest.1)

    pub filed-first : (xs : List (Item F S)) (r : Reader S) (ns : List (node.Node F)) → xs ≡ items_of r ns → ((k : ℕ) (x : Item F S) → At xs k x → its x) → IsFiled whole_of left given faults told r
    filed-first xs r ns e filed =
        filed 0 (items.Reader r) (subst (λ (w : List (Item F S)). At w 0 (items.Reader r)) (sym e) (at-zero (items.Reader r) (map as_item ns)))

    pub closed-most : (drawn : ℕ) (xs : List (Item F S)) (views : List View) (r : Reader S) (ns : List (node.Node F)) → Holds told drawn (map (seen held whole_of) xs) views → xs ≡ items_of r ns → length ns ≡ told.most
    closed-most drawn xs views r ns h e =
        let size : length (map (seen held whole_of) xs) ≡ told.most + 1 = h.base.size in
        let same : length (map (seen held whole_of) xs) ≡ length xs = length-map (seen held whole_of) xs in
        let both : length xs ≡ length (items_of r ns) = ap (λ (w : List (Item F S)). length w) e in
        let nodes : length (map as_item ns) ≡ length ns = length-map as_item ns in
        omega (arith, size, same, both, nodes)

    -- a broken node among the items is one of the nodes
    broken_there : (ns : List (node.Node F)) (why : NodeError) (k : ℕ) (x : Item F S) → At (map as_item ns) k x → broken_by x ≡ Some why → Any (λ (n : node.Node F). fault_of n ≡ Some why) ns
    broken_there [] why k x a is = absurd (nothing-at a)
    broken_there (n ∷ ns) why zero x a is = (0, n, omega arith, refl, ap (λ (w : Item F S). broken_by w) (at-head a) ∙ is)
    broken_there (n ∷ ns) why (suc k) x a is =
        let more = broken_there ns why k x (at-rest (as_item n) (map as_item ns) k x a) is in
        (suc more.0, more.1, omega (arith, more.2), more.3, more.4)

    broken_behind : (r : Reader S) (ns : List (node.Node F)) (why : NodeError) (k : ℕ) (x : Item F S) → At (items_of r ns) k x → broken_by x ≡ Some why → Any (λ (n : node.Node F). fault_of n ≡ Some why) ns
    broken_behind r ns why zero x a is = absurd (let none : None ≡ Some why = ap (λ (w : Item F S). broken_by w) (at-head a) ∙ is in cc)
    broken_behind r ns why (suc k) x a is = broken_there ns why k x (at-rest (items.Reader r) (map as_item ns) k x a) is

    pub broken-rest : (xs : List (Item F S)) (r : Reader S) (ns : List (node.Node F)) → xs ≡ items_of r ns → (why : NodeError) → HasBroken xs why → Any (λ (n : node.Node F). fault_of n ≡ Some why) ns
    broken-rest xs r ns e why has = broken_behind r ns why has.0 has.1 (subst (λ (w : List (Item F S)). At w has.0 has.1) e has.2) has.3

    pub filed-rest : (xs : List (Item F S)) (r : Reader S) (ns : List (node.Node F)) → xs ≡ items_of r ns → ((k : ℕ) (x : Item F S) → At xs k x → its x) → are ns
    filed-rest xs r ns e filed =
        filed_nodes ns (λ k x a. filed (suc k) x (subst (λ (w : List (Item F S)). At w (suc k) x) (sym e) (at-next (items.Reader r) (map as_item ns) k x a)))
