-- How many nodes have their points in memory.
use Rattle.std.proofs.Common.{◌≡◌, ℕ, ◌+◌, Bool, cond, List, [], ◌∷◌, refl, ap, arith}
use Rattle.std.specs.List.{All}
use Rattle.std.proofs.lemmas.List.Elements.{All-head, All-tail}
use Rattle.std.proofs.lemmas.List.Sums.{sum_by-cons}
use Rattle.ept_node.specs.declared.node.Node.{Node}
use Rattle.ept_node.specs.Shown.{is_here}
use Rattle.ept_node.proofs.Here.{blank-away}
use Rattle.ept_forest.specs.Slots.{residents_of, IsBlank}

module _ {F : Type 0} where
  -- 1 if its points are in memory
  abbrev pub weight : Node F → ℕ
  weight n = cond (is_here n) 1 0

  pub residents-cons : (n : Node F) (ns : List (Node F)) → residents_of (n ∷ ns) ≡ weight n + residents_of ns
  residents-cons n ns = sum_by-cons weight n ns

  -- no blank node has its points in memory
  pub none-here : (ns : List (Node F)) → All IsBlank ns → residents_of ns ≡ 0
  none-here [] all = refl
  none-here (n ∷ ns) all =
      let here : weight n ≡ 0 = ap (λ (b : Bool). cond b 1 0) (blank-away n (All-head IsBlank n ns all)) in
      let rest : residents_of ns ≡ 0 = none-here ns (All-tail IsBlank n ns all) in
      omega (arith, here, rest, residents-cons n ns)
