-- Files that are returned one after the other.
use Rattle.std.proofs.Common.{◌≡◌, ◌≢◌, ◌⊎◌, ⊎_elim, inl, inr, ℕ, ◌+◌, ◌<◌, ◌≤◌, List, [], ◌∷◌, ◌++◌, arith, ap, ◌∙◌}
use Rattle.std.proofs.lemmas.Bool.{cases_lt}
use Rattle.std.proofs.lemmas.List.Sums.{sum_by_push}
use Rattle.ept_base.specs.Causes.{Rose}
use Rattle.ept_base.specs.Devices.{counts_on}
use Rattle.ept_node.specs.declared.node.Node.{Node}
use Rattle.ept_node.specs.Shown.{file_of}
use Rattle.ept_forest.specs.Slots.{faults_of, kept_by}

module _ {F : Type 0} (count : F → ℕ) (all rest : List (Node F)) (node : Node F) (is : all ≡ rest ++ node ∷ []) where
  pub of_last : faults_of count all ≡ faults_of count rest + count (file_of node)
  of_last = ap (λ (l : List (Node F)). faults_of count l) is ∙ sum_by_push (λ (n : Node F). count (file_of n)) rest node

  module _ (h0 h h' : ℕ) (later : h0 ≤ h) (on : h ≤ h') where
    pub retired_failed : (count (file_of node) ≢ 0 → Rose h h') → (0 < faults_of count all ⊎ Rose h0 h) → 0 < faults_of count rest ⊎ Rose h0 h'
    retired_failed rises was =
        ⊎_elim (λ (some : 0 < faults_of count all). ⊎_elim (λ (left : 0 < faults_of count rest). inl left)
        (λ (none : faults_of count rest ≤ 0). inr (first (rises (λ zero. omega (arith, some, none, zero, of_last))))) (cases_lt 0 (faults_of count rest)))
        (λ (rose : Rose h0 h). inr (second rose)) was
      where
        first : Rose h h' → Rose h0 h'
        first rose = omega (arith, rose, later)

        second : Rose h0 h → Rose h0 h'
        second rose = omega (arith, rose, on)

    pub retired_sound : (count (file_of node) ≡ 0 → h' ≡ h) → (faults_of count all ≡ 0) × (h ≡ h0) → (faults_of count rest ≡ 0) × (h' ≡ h0)
    retired_sound same was = (omega (arith, was.0, of_last), same (omega (arith, was.0, of_last)) ∙ was.1)

  pub retired_kept : (k k' k0 s0 : ℕ) → k' ≡ counts_on k (count (file_of node)) → counts_on k (kept_by count all) ≡ counts_on k0 s0 → counts_on k' (kept_by count rest) ≡ counts_on k0 s0
  retired_kept k k' k0 s0 more was = omega (arith, more, was, of_last)
