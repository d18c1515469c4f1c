use Rattle.std.proofs.Common.{◌≡◌, inl, inr, ℕ, arith, map, sym, subst}
use Rattle.std.proofs.lemmas.Bool.{false≢true}
use Rattle.std.proofs.Math.Nat.{eq-or-lt_of_le}
use Rattle.ept_grid.specs.Mask.{opened}
use Rattle.ept_parts.specs.Parts.{parts_with}
use Rattle.ept_merge.proofs.Numbered.{parts-counted}
use Rattle.ept_merge.proofs.dividing.are_all_parts.Goals as goal

pub returns-then-parts_with-ne1 : goal.returns-then-parts_with-ne1
returns-then-parts_with-ne1 c = (
  λ is. absurd (false≢true is),
  λ all.
      let o = c.loop-octant.octant in
      absurd (omega (arith, all o (omega arith), parts-counted o c.args.parts.now, c.parts_with.ensures, c.if-parts_with-ne1.true)),
)

pub loop-octant-preserved : goal.loop-octant-preserved
loop-octant-preserved c = λ o low.
    let i = c.loop-octant in
    let parts = c.args.parts.now in
    elim (eq-or-lt_of_le {n = o} {m = i.octant} (omega (arith, low))) as (λ _. parts_with o (map opened parts) ≡ 1) [
      | inl is ↦ subst (λ (n : ℕ). parts_with n (map opened parts) ≡ 1) (sym is) (omega (arith, parts-counted i.octant parts, c.parts_with.ensures, c.if-parts_with-ne1.false))
      | inr before ↦ i.invariant o before
    ]
