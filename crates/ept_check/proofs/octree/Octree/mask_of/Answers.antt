use Rattle.std.proofs.Common.{◌≡◌, ◌<◌, ◌+◌, ◌∙◌, ℕ, Bool, true, false, refl, sym, subst, ap, arith}
use Rattle.ept_hier.specs.Hierarchy.{keys_of}
use Rattle.ept_fit.specs.Fit.{has_child}
use Rattle.ept_check.proofs.Masks.{AreOpen, open-none, open-more, open-less}
use Rattle.ept_check.proofs.Sets.{child-shallow}
use Rattle.ept_check.proofs.octree.Octree.mask_of.Goals as goal
use Rattle.ept_check.proofs.octree.Octree.mask_of.Goals.{then-has_child, else-has_child}

pub loop-octant-init : goal.loop-octant-init
loop-octant-init c = record {
  open_are = open-none (has_child (keys_of c.args.self.now.nodes.items) c.args.key.now);
  deepest = λ e. refl;
}

pub loop-octant-preserved : goal.loop-octant-preserved
loop-octant-preserved c =
    let test = has_child (keys_of c.args.self.now.nodes.items) c.args.key.now in
    elim c.if-has_child.branch [
      | then-has_child w ↦ record {
        open_are = subst (λ (m : ℕ). AreOpen m test (c.loop-octant.octant + 1)) (sym w.mask-is) (open-more c.loop-octant.mask test c.loop-octant.octant c.loop-octant-test.true c.loop-octant.invariant.open_are (sym c.has_child.ensures ∙ w.if-has_child.true));
        deepest = λ e. absurd (let low = child-shallow c.args.self.now c.args.key.now c.loop-octant.octant c.requires (sym c.has_child.ensures ∙ w.if-has_child.true) in omega (arith, low, e));
      }
      | else-has_child w ↦ record {
        open_are = subst (λ (m : ℕ). AreOpen m test (c.loop-octant.octant + 1)) (sym w.mask-is) (open-less c.loop-octant.mask test c.loop-octant.octant c.loop-octant.invariant.open_are (sym c.has_child.ensures ∙ w.if-has_child.false));
        deepest = λ e. w.mask-is ∙ c.loop-octant.invariant.deepest e;
      }
    ]

pub returns : goal.returns
returns c = record {
  «open» = λ o small. c.loop-octant.invariant.open_are.opens o (let end = c.loop-octant-test.false in omega (arith, small, end));
  deepest = c.loop-octant.invariant.deepest;
}
