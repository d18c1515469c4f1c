use Rattle.std.proofs.Common.{◌≡◌, ◌≢◌, ◌<◌, ◌≤◌, ◌+◌, ◌∙◌, ℕ, Bool, true, false, inl, inr, refl, sym, subst, ap, arith, min}
use Rattle.std.proofs.lemmas.Bool.{cases_lt, false≢true}
use Rattle.ept_space.specs.VoxelKey.{VoxelKey, child}
use Rattle.ept_hier.specs.Hierarchy.{keys_of}
use Rattle.ept_fit.specs.Fit.{has_child}
use Rattle.ept_check.specs.declared.octree.Octree.{Octree}
use Rattle.ept_check.specs.Nodes.{counted_within}
use Rattle.ept_check.specs.Walking.{IsOctree, total_at}
use Rattle.ept_check.proofs.Sets.{child-shallow, cube-shallow}
use Rattle.ept_check.proofs.octree.Octree.has_full_children.Goals as goal
use Rattle.ept_check.proofs.octree.Octree.has_full_children.Goals.{else-has_child-via-then-has_child+else-not-is_full, else-has_child-via-else-has_child}

-- a number that saturates at 2^64 - 1 is above a threshold of 64 bits if the sum is
full-there : (octree : Octree) (key at : VoxelKey) → IsOctree octree → at ≡ key → octree.rules.threshold < total_at octree.totals at → octree.rules.threshold < counted_within octree.nodes.items key
full-there octree key at is same less =
    let total = is.totals_are key in
    let here : octree.rules.threshold < total_at octree.totals key = subst (λ (k : VoxelKey). octree.rules.threshold < total_at octree.totals k) same less in
    omega (arith, total, here)

not-there : (octree : Octree) (key at : VoxelKey) → IsOctree octree → octree.rules.threshold < 18446744073709551615 → at ≡ key → (octree.rules.threshold < total_at octree.totals at → false ≡ true) → octree.rules.threshold < counted_within octree.nodes.items key → false ≡ true
not-there octree key at is small same none more =
    let total = is.totals_are key in
    let here : octree.rules.threshold < total_at octree.totals key = omega (arith, total, more, small) in
    none (subst (λ (k : VoxelKey). octree.rules.threshold < total_at octree.totals k) (sym same) here)

pub loop-octant-init : goal.loop-octant-init
loop-octant-init c = λ o less. absurd (omega (arith, less))

pub child-requires-clause-shallow : goal.child-requires-clause-shallow
child-requires-clause-shallow c =
    let low = child-shallow c.args.self.now c.args.key.now c.loop-octant.octant c.requires (sym c.if-has_child.ensures) in
    let high = cube-shallow c.args.self.now c.requires in
    omega (arith, low, high)

pub returns-then-not-is_full : goal.returns-then-not-is_full
returns-then-not-is_full c = (
  λ e. absurd (false≢true e),
  λ full. not-there c.args.self.now (child c.args.key.now c.loop-octant.octant) c.child.result c.requires c.requires.threshold_fits c.child.ensures.key c.if-not-is_full.ensures.1 (full c.loop-octant.octant c.loop-octant-test.true (sym c.if-has_child.ensures)),
)

pub loop-octant-preserved : goal.loop-octant-preserved
loop-octant-preserved c = λ o less some.
    elim (cases_lt o c.loop-octant.octant) [
      | inl before ↦ c.loop-octant.invariant o before some
      | inr after ↦
          let here : o ≡ c.loop-octant.octant = omega (arith, less, after) in
          let there : has_child (keys_of c.args.self.now.nodes.items) c.args.key.now c.loop-octant.octant ≡ true = subst (λ (n : ℕ). has_child (keys_of c.args.self.now.nodes.items) c.args.key.now n ≡ true) here some in
          (elim c.else-has_child.branch [
            | else-has_child-via-then-has_child+else-not-is_full w ↦
                full-there c.args.self.now (child c.args.key.now o) w.child.result c.requires (w.child.ensures.key ∙ ap (λ (n : ℕ). child c.args.key.now n) (sym here)) (w.if-not-is_full.ensures.0 refl)
            | else-has_child-via-else-has_child w ↦ absurd (false≢true (sym w.if-has_child.false ∙ (c.has_child.ensures ∙ there)))
          ])
    ]

pub returns : goal.returns
returns c = (
  λ e o small some. c.loop-octant.invariant o (let end = c.loop-octant-test.false in omega (arith, small, end)) some,
  λ full. refl,
)
