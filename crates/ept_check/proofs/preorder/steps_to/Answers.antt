use Rattle.std.proofs.Common.{◌≡◌, ◌≢◌, ◌≤◌, ◌<◌, ◌∙◌, ◌+◌, ◌-◌, ℕ, suc, true, List, [], length, get_or, set, inl, inr, refl, sym, ap, subst, arith, get_or-set_other, get_or-set_same}
use Rattle.std.proofs.lemmas.Bool.{cases_lt}
use Rattle.std.proofs.lemmas.List.{ext_get_or, length-set}
use Rattle.ept_space.specs.VoxelKey.{VoxelKey, IsKey, is_within, parent, octant_of}
use Rattle.ept_space.proofs.Family.{depth-parent}
use Rattle.ept_space.proofs.Within.{is_within-self, is_within-parent, is_within-trans, depth-within}
use Rattle.ept_fit.specs.Walk.{path}
use Rattle.ept_check.specs.Walking.{padded}
use Rattle.ept_check.proofs.Padded.{length-path, length-padded, padded-zero, padded-at, octant-at}
use Rattle.ept_check.proofs.preorder.steps_to.Goals as goal

zeros : (i : ℕ) → get_or (padded 32 []) i 0 ≡ 0
zeros i = padded-zero 32 [] i (let none : 0 ≤ i = omega arith in none)

begun : (key : VoxelKey) (i : ℕ) → key.depth ≤ i → get_or (padded 32 []) i 0 ≡ get_or (padded 32 (path key)) i 0
begun key i past = zeros i ∙ sym (padded-zero 32 (path key) i (let size = length-path key in omega (arith, size, past)))

-- one more step, a depth up
further : (at key : VoxelKey) (steps : List ℕ) (at-index step : ℕ) → 0 < at.depth → at.depth ≤ 31 → is_within at key ≡ true → length steps ≡ 32 → at-index ≡ at.depth - 1 → step ≡ octant_of at + 1 → ((i : ℕ) → at.depth ≤ i → i < 32 → get_or steps i 0 ≡ get_or (padded 32 (path key)) i 0) → (i : ℕ) → (parent at).depth ≤ i → i < 32 → get_or (set steps at-index step) i 0 ≡ get_or (padded 32 (path key)) i 0
further at key steps at-index step deep low inside size index octant done i past short =
    elim (cases_lt at-index i) [
      | inl later ↦
          let apart : i ≢ at-index = omega (arith, later) in
          get_or-set_other steps at-index i step 0 apart ∙ done i (omega (arith, later, index, deep)) short
      | inr here ↦
          let up = depth-parent at in
          let same : i ≡ at-index = omega (arith, here, index, up, past) in
          let fits : at-index < length steps = omega (arith, size, index, deep, low) in
          let long = length-path key in
          let below = depth-within at key inside in
          ap (λ (k : ℕ). get_or (set steps at-index step) k 0) same
          ∙ (get_or-set_same steps at-index step 0 fits
          ∙ (octant
          ∙ ((let one : octant_of at + 1 ≡ suc (octant_of at) = omega arith in one)
          ∙ (ap suc (sym (ap (λ (k : ℕ). get_or (path key) k 0) (same ∙ index) ∙ octant-at at key deep inside))
          ∙ sym (padded-at 32 (path key) i (omega (arith, long, below, same, index, deep)) short)))))
    ]

pub loop-at-init : goal.loop-at-init
loop-at-init c = record {
  within = is_within-self c.args.key.now;
  size = refl;
  done = λ i past short. begun c.args.key.now i past;
}

pub loop-at-smaller : goal.loop-at-smaller
loop-at-smaller c =
    let deep : 0 < c.loop-at.at.depth = subst (λ (k : VoxelKey). 0 < k.depth) c.at.view_is c.loop-at-test.true in
    let up : c.parent-at.result.depth ≡ c.loop-at.at.depth - 1 = ap (λ (k : VoxelKey). k.depth) c.parent-at.ensures ∙ depth-parent c.loop-at.at in
    let less : c.parent-at.result.depth < c.loop-at.at.depth = omega (arith, deep, up) in
    less

pub loop-at-preserved : goal.loop-at-preserved
loop-at-preserved c =
    let at = c.loop-at.at in
    let key = c.args.key.now in
    let deep : 0 < c.loop-at.at.depth = subst (λ (k : VoxelKey). 0 < k.depth) c.at.view_is c.loop-at-test.true in
    let a-key : IsKey c.loop-at.at = subst IsKey c.at.view_is c.at.invariant in
    let index : c.from.result - 1 ≡ c.loop-at.at.depth - 1 = ap (λ (n : ℕ). n - 1) (c.from.ensures ∙ ap (λ (k : VoxelKey). k.depth) c.at.view_is) in
    let step : c.octant_of.result + 1 ≡ octant_of c.loop-at.at + 1 = ap (λ (n : ℕ). n + 1) c.octant_of.ensures.octant in
    let up : c.parent-at.result.depth ≡ (parent c.loop-at.at).depth = ap (λ (k : VoxelKey). k.depth) c.parent-at.ensures in
    record {
      within = subst (λ (k : VoxelKey). is_within k key ≡ true) (sym c.parent-at.ensures) (is_within-trans (parent at) at key (is_within-parent at deep) c.loop-at.invariant.within);
      size = length-set c.loop-at.steps (c.from.result - 1) (c.octant_of.result + 1) ∙ c.loop-at.invariant.size;
      done = λ i past short. further at key c.loop-at.steps (c.from.result - 1) (c.octant_of.result + 1) deep a-key.shallow c.loop-at.invariant.within c.loop-at.invariant.size index step c.loop-at.invariant.done i (omega (arith, past, up)) short;
    }

pub returns : goal.returns
returns c =
    let none : c.loop-at.at.depth ≤ 0 = subst (λ (k : VoxelKey). k.depth ≤ 0) c.at.view_is c.loop-at-test.false in
    let size = c.loop-at.invariant.size in
    ext_get_or 0 c.loop-at.steps (padded 32 (path c.args.key.now)) (size ∙ sym (length-padded 32 (path c.args.key.now))) (λ i inside. c.loop-at.invariant.done i (omega (arith, none)) (omega (arith, inside, size)))
