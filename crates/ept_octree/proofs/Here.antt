-- Which nodes have their points in memory, and what their files keep.
use Rattle.std.proofs.Common.{◌≡◌, ℕ, zero, suc, ◌+◌, ◌<◌, ◌≤◌, Bool, true, false, cond, ◌⊎◌, inl, inr, List, [], ◌∷◌, length, get_or, set, refl, ap, subst, arith, Option, Some, None}
use Rattle.std.specs.List.{All}
use Rattle.std.proofs.lemmas.List.Elements.{All-nil, All-cons, All-head, All-tail}
use Rattle.std.proofs.lemmas.List.Sums.{sum_by-cons, sum_by-set, get_or-le-sum_by}
use Rattle.ept_base.specs.Files.{Tells}
use Rattle.ept_node.specs.declared.node.Node as node
use Rattle.ept_node.specs.declared.state.NodeState.TheVariants as states
use Rattle.ept_node.specs.Shown.{file_of, state_of, is_here, fault_of, AgreesWithFile}
use Rattle.ept_node.proofs.Here.{resident-here, either-state}
use Rattle.ept_forest.specs.Slots as forest
use Rattle.ept_forest.proofs.Residents.{weight, residents-cons, none-here}
use Rattle.ept_table.specs.At.{At}
use Rattle.ept_table.proofs.Lists.{at-get, at-below, at-zero, at-next, at-head, nothing-at}

-- what holds if the contents of a file are visible holds, since they are
pub telling : {X P : Type 0} (told : Option X) → (x : X) × (told ≡ Some x) → Tells (λ _. P) told → P
telling None does holds = absurd (let is = does.1 in cc)
telling (Some y) does holds = holds

-- ---- how many are in memory

pub all-at : {X : Type 0} (P : X → Type 0) (xs : List X) (k : ℕ) (x : X) → All P xs → At xs k x → P x
all-at P xs k x all at = subst P (at-get x at) (all k x (at-below at))

module _ {F : Type 0} where
  module _ (ns : List (node.Node F)) (k : ℕ) (n : node.Node F) (at : At ns k n) (m : node.Node F) where
    swapped : forest.residents_of (set ns k m) + weight n ≡ forest.residents_of ns + weight m
    swapped =
        subst (λ (w : node.Node F). forest.residents_of (set ns k m) + weight w ≡ forest.residents_of ns + weight m) (at-get n at) (sum_by-set weight ns k m n (at-below at))

    -- the same number
    pub residents-same : is_here m ≡ is_here n → forest.residents_of (set ns k m) ≡ forest.residents_of ns
    residents-same same =
        let e : weight m ≡ weight n = ap (λ (b : Bool). cond b 1 0) same in omega (arith, e, swapped)

    -- one more
    pub residents-more : is_here n ≡ false → is_here m ≡ true → forest.residents_of (set ns k m) ≡ forest.residents_of ns + 1
    residents-more away here =
        let a : weight n ≡ 0 = ap (λ (b : Bool). cond b 1 0) away in
        let b : weight m ≡ 1 = ap (λ (b : Bool). cond b 1 0) here in
        omega (arith, a, b, swapped)

    -- one fewer
    pub residents-less : is_here n ≡ true → is_here m ≡ false → forest.residents_of (set ns k m) + 1 ≡ forest.residents_of ns
    residents-less here away =
        let a : weight n ≡ 1 = ap (λ (b : Bool). cond b 1 0) here in
        let b : weight m ≡ 0 = ap (λ (b : Bool). cond b 1 0) away in
        omega (arith, a, b, swapped)

    pub residents-some : is_here n ≡ true → 0 < forest.residents_of ns
    residents-some here =
        let a : weight n ≡ 1 = ap (λ (b : Bool). cond b 1 0) here in
        let low : weight (get_or ns k n) ≤ forest.residents_of ns = get_or-le-sum_by weight ns k n (at-below at) in
        let its : weight (get_or ns k n) ≡ weight n = ap weight (at-get n at) in
        omega (arith, a, low, its)

  all_blank : (ns : List (node.Node F)) → ((k : ℕ) (m : node.Node F) → At ns k m → state_of m ≡ states.Blank) → All forest.IsBlank ns
  all_blank [] each = All-nil forest.IsBlank
  all_blank (n ∷ ns) each =
      All-cons forest.IsBlank n ns (each 0 n (at-zero n ns)) (all_blank ns (λ k m at. each (suc k) m (at-next n ns k m at)))

  -- if only the first is the node of a key, and some node is in memory, the first is in memory
  pub first-here : (ns : List (node.Node F)) (n : node.Node F) → At ns 0 n → ((k : ℕ) (m : node.Node F) → At ns (suc k) m → state_of m ≡ states.Blank) → 0 < forest.residents_of ns → is_here n ≡ true
  first-here [] n at blank some = absurd (nothing-at at)
  first-here (x ∷ xs) n at blank some =
      subst (λ (w : node.Node F). is_here w ≡ true) (at-head at) (is_true (is_here x) (λ away. (
      let a : weight x ≡ 0 = ap (λ (b : Bool). cond b 1 0) away in
      let rest : forest.residents_of xs ≡ 0 = none-here xs (all_blank xs (λ k m b. blank k m (at-next x xs k m b))) in
      omega (arith, a, some, residents-cons x xs, rest))))
    where
      is_true : (b : Bool) → (b ≡ false → ⊥) → b ≡ true
      is_true true never = refl
      is_true false never = absurd (never refl)

-- ---- nodes and their files

module _ {F : Type 0} (held : F → Option (List ℕ)) (faults keeps : F → ℕ) where
  -- each node except those in memory was kept by its file
  pub each-kept : (ns : List (node.Node F)) (used : ℕ) → used ≤ length ns → ((k : ℕ) (n : node.Node F) → At ns k n → k < used → state_of n ≡ states.Blank → ⊥) → All (λ n. fault_of n ≡ None) ns → All (AgreesWithFile held faults keeps) ns → used ≤ forest.residents_of ns + forest.kept_by keeps ns
  each-kept ns zero low named sound agrees = omega arith
  each-kept [] (suc used) low named sound agrees = absurd (omega (arith, low))
  each-kept (n ∷ ns) (suc used) low named sound agrees =
      let rest : used ≤ forest.residents_of ns + forest.kept_by keeps ns = each-kept ns used (omega (arith, low)) (λ k m at less. named (suc k) m (at-next n ns k m at) (omega (arith, less))) (All-tail (λ n. fault_of n ≡ None) n ns sound) (All-tail (AgreesWithFile held faults keeps) n ns agrees) in
      let mine : 1 ≤ weight n + keeps (file_of n) = first (either-state n (named 0 n (at-zero n ns) (omega arith)) (All-head (λ n. fault_of n ≡ None) n ns sound)) in
      omega (arith, rest, mine, residents-cons n ns, sum_by-cons (λ (m : node.Node F). keeps (file_of m)) n ns)
    where
      first : (state_of n ≡ states.Resident) ⊎ (state_of n ≡ states.Spilled) → 1 ≤ weight n + keeps (file_of n)
      first (inl here) =
          let a : weight n ≡ 1 = ap (λ (b : Bool). cond b 1 0) (resident-here n here) in omega (arith, a)
      first (inr away) =
          let some : 0 < keeps (file_of n) = (All-head (AgreesWithFile held faults keeps) n ns agrees).kept away in
          omega (arith, some)

  -- a file that failed is counted
  pub faults-at : (ns : List (node.Node F)) (k : ℕ) (n : node.Node F) → At ns k n → 0 < faults (file_of n) → 0 < forest.faults_of faults ns
  faults-at ns k n at some =
      let f : node.Node F → ℕ = λ m. faults (file_of m) in
      let low : f (get_or ns k n) ≤ forest.faults_of faults ns = get_or-le-sum_by f ns k n (at-below at) in
      let its : f (get_or ns k n) ≡ f n = ap f (at-get n at) in
      omega (arith, low, its, some)
