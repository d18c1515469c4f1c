use Rattle.std.proofs.Common.{◌≡◌, ◌+◌, refl, arith, rules}
use Rattle.ept_filter.proofs.Parts.{start-zero, starts-more, start-suc, start-most}
use Rattle.ept_filter.proofs.layout.Layout.new.Goals as goal

pub loop-dim-init : goal.loop-dim-init
loop-dim-init c = (refl, λ k most. let none : k ≡ 0 = omega arith in rw (none, start-zero) refl)

pub overflow_add-starts : goal.overflow_add-starts
overflow_add-starts c =
    omega (arith, c.loop-dim.invariant.1 c.loop-dim.dim (omega arith), start-suc c.loop-dim.dim (search rules), start-most (c.loop-dim.dim + 1), c.width_of.ensures)

pub loop-dim-preserved : goal.loop-dim-preserved
loop-dim-preserved c =
    starts-more c.loop-dim.starts c.loop-dim.dim c.width_of.result c.loop-dim.invariant.0 (search rules) c.width_of.ensures c.loop-dim.invariant.1
