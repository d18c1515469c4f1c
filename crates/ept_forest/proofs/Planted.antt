-- Blank nodes; the first of them is begun.
use Rattle.std.proofs.Common.{◌≡◌, ℕ, ◌≤◌, ◌∙◌, Option, List, [], ◌∷◌, length, set, refl, ap, sym, subst, arith}
use Rattle.std.specs.List.{All}
use Rattle.std.proofs.lemmas.List.Elements.{All-cons, All-head, All-tail, All-weaker}
use Rattle.std.proofs.lemmas.List.Sums.{sum_by-le}
use Rattle.ept_space.specs.declared.cube.Rules.{Rules}
use Rattle.ept_node.specs.declared.node.Node.{Node}
use Rattle.ept_node.specs.Shown.{file_of}
use Rattle.ept_forest.specs.declared.forest.Forest.{Forest}
use Rattle.ept_forest.specs.Slots.{nodes_of, used_of, IsBegun, IsBlank, IsPlanted, kept_by}

-- the first of blank nodes is begun, and keeps its file
pub planted : {F : Type 0} (held : F → Option (List ℕ)) (faults keeps : F → ℕ) (count : ℕ) (rules : Rules) (forest : Forest F) (blanks : List (Node F)) (d first : Node F) → length blanks ≡ count → 1 ≤ count → All IsBlank blanks → All (λ node. faults (file_of node) ≡ 0) blanks → All (λ node. keeps (file_of node) ≡ 0) blanks → IsBegun held rules first → ((old : Node F) → (others : List (Node F)) → blanks ≡ old ∷ others → file_of first ≡ file_of old) → nodes_of forest ≡ set blanks 0 first → used_of forest ≡ 1 → IsPlanted held faults keeps count rules forest
planted {F = F} held faults keeps count rules forest [] d first long some blank fresh unused begun kept are used = absurd (omega (arith, long, some))
planted {F = F} held faults keeps count rules forest (old ∷ others) d first long some blank fresh unused begun kept are used = record {
  slots = ap length are ∙ long;
  used = used;
  first = first;
  others = others;
  are = are;
  begun = begun;
  blank = All-tail IsBlank old others blank;
  fresh = subst (λ (l : List (Node F)). All (λ node. faults (file_of node) ≡ 0) l) (sym are)
      (All-cons (λ node. faults (file_of node) ≡ 0) first others (ap faults (kept old others refl) ∙ All-head (λ node. faults (file_of node) ≡ 0) old others fresh) (All-tail (λ node. faults (file_of node) ≡ 0) old others fresh));
  unused = subst (λ (l : List (Node F)). All (λ node. keeps (file_of node) ≡ 0) l) (sym are)
      (All-cons (λ node. keeps (file_of node) ≡ 0) first others (ap keeps (kept old others refl) ∙ All-head (λ node. keeps (file_of node) ≡ 0) old others unused) (All-tail (λ node. keeps (file_of node) ≡ 0) old others unused));
}

-- files that were asked to keep nothing
pub kept_none : {F : Type 0} (keeps : F → ℕ) (nodes : List (Node F)) → All (λ node. keeps (file_of node) ≡ 0) nodes → kept_by keeps nodes ≡ 0
kept_none keeps nodes unused =
    omega (arith, sum_by-le (λ node. keeps (file_of node)) 0 nodes (All-weaker (λ node. keeps (file_of node) ≡ 0) (λ node. keeps (file_of node) ≤ 0) (λ node none. omega (arith, none)) nodes unused))
