use Rattle.std.proofs.Common.{◌≡◌, ◌∙◌, ℕ, suc, ◌+◌, ◌<◌, ◌≤◌, ◌++◌, ◌∷◌, [], List, take, length, get_or, refl, Option, None, Some, sym, ap, subst, arith}
use Rattle.std.specs.List.{All}
use Rattle.std.proofs.Math.Seq.{take-suc}
use Rattle.std.proofs.lemmas.List.Elements.{All-push}
use Rattle.std.proofs.lemmas.List.{take_all}
use Rattle.ept_node.specs.declared.node.Node.{Node}
use Rattle.ept_node.specs.declared.error.NodeError.{NodeError}
use Rattle.ept_node.specs.Shown.{fault_of}
use Rattle.ept_forest.proofs.forest.Forest.fault.Goals as goal

none_of : (o : Option NodeError) → ((e : NodeError) → o ≡ Some e → ⊥) → o ≡ None
none_of None not = refl
none_of (Some e) not = absurd (not e refl)

pub returns-in-Some-clause-some : goal.returns-in-Some-clause-some
returns-in-Some-clause-some g c =
    let same = c.deref-node-items.ensures.value in
    let low : c.loop-node.node-index < length c.args.self.now.nodes.items = subst (λ (ns : List (Node g.row.F.Denot)). c.loop-node.node-index < length ns) same c.loop-node-test.true in
    let at : get_or c.args.self.now.nodes.items c.loop-node.node-index c.node-item.result ≡ c.node-item.result = subst (λ (ns : List (Node g.row.F.Denot)). get_or ns c.loop-node.node-index c.node-item.result ≡ c.node-item.result) same (sym c.node-item.is) in
    (c.loop-node.node-index, c.node-item.result, low, at, sym c.fault.ensures.fault ∙ c.in-Some.is)

pub loop-node-preserved : goal.loop-node-preserved
loop-node-preserved g c =
    let F : Type 0 = g.row.F.Denot in
    let xs : List (Node F) = c.args.self.now.nodes.items in
    let i : ℕ = c.loop-node.node-index in
    let n : Node F = c.node-item.result in
    let same = c.deref-node-items.ensures.value in
    let low : i < length xs = subst (λ (ns : List (Node F)). i < length ns) same c.loop-node-test.true in
    let at : get_or xs i n ≡ n = subst (λ (ns : List (Node F)). get_or ns i n ≡ n) same (sym c.node-item.is) in
    let next : take i xs ++ n ∷ [] ≡ take (i + 1) xs = ap (λ (m : Node F). take i xs ++ m ∷ []) (sym at) ∙ (sym (take-suc xs i n low) ∙ ap (λ (k : ℕ). take k xs) (let after : suc i ≡ i + 1 = omega arith in after)) in
    subst (λ (ns : List (Node F)). All (λ (m : Node F). fault_of m ≡ None) ns) next (All-push (λ (m : Node F). fault_of m ≡ None) (take i xs) n c.loop-node.invariant (sym c.fault.ensures.fault ∙ none_of c.fault.result c.in_default.not-Some))

pub returns-clause-none : goal.returns-clause-none
returns-clause-none g c none =
    let F : Type 0 = g.row.F.Denot in
    let xs : List (Node F) = c.args.self.now.nodes.items in
    let end : length xs ≤ c.loop-node.node-index = subst (λ (ns : List (Node F)). length ns ≤ c.loop-node.node-index) c.deref-node-items.ensures.value c.loop-node-test.false in
    subst (λ (ns : List (Node F)). All (λ (m : Node F). fault_of m ≡ None) ns) (take_all c.loop-node.node-index xs end) c.loop-node.invariant
