use Rattle.std.proofs.Common.{◌≡◌, ◌∙◌, ◌+◌, ◌-◌, ◌<◌, ◌≤◌, ℕ, ap, subst, sym, arith}
use Rattle.ept_space.specs.OctreeCube.{InCube}
use Rattle.ept_sample.specs.Place.{place}
use Rattle.ept_grid.specs.declared.pool.Cell.{Cell}
use Rattle.ept_grid.specs.declared.spot.Spot.{Spot}
use Rattle.ept_grid.specs.Columns.{spots_of, nexts_of, level_at}
use Rattle.ept_grid.proofs.Chains.{left}
use Rattle.ept_grid.proofs.Winners.{winner-in-cube, length-spots, shown-next, shown-spot, shown-stands}
use Rattle.ept_grid.proofs.Seeks.{IsSeeking, seek-step, seek-nearer, seek-cost, seek-end, seek-alone}
use Rattle.ept_grid.proofs.seeking.seek.Goals as goal

there : (l n spots : ℕ) → l ≤ spots → spots ≡ n → l ≤ n
there l n spots le is = omega arith

pub level_of-level-requires-clause-inside : goal.level_of-level-requires-clause-inside
level_of-level-requires-clause-inside g c =
    let cells = c.args.cells.now in
    let within = there _ _ _ c.loop-link.invariant.leads.there (length-spots c.args.rules.now c.args.depth cells) in
    subst (λ (e : Cell). InCube c.args.rules.now.cube (place e.point)) (sym c.look-cell.ensures.cell) (winner-in-cube c.args.rules.now.cube cells (c.loop-link.link - 1) c.look-cell.result c.requires.inside (omega arith))

pub returns-then-level-spot-clause-found : goal.returns-then-level-spot-clause-found
returns-then-level-spot-clause-found g c =
    let cells = c.args.cells.now in
    let within = there _ _ _ c.loop-link.invariant.leads.there (length-spots c.args.rules.now c.args.depth cells) in
    shown-stands c.args.rules.now c.args.depth cells c.loop-link.link c.look-cell.result c.args.spot (omega arith) within c.look-cell.ensures.cell (c.loop-link.invariant.leads.of_column (omega arith)) (sym c.level_of-level.ensures ∙ c.if-level-spot.true)

pub returns-then-level-spot-clause-cost : goal.returns-then-level-spot-clause-cost
returns-then-level-spot-clause-cost g c =
    let cost = seek-cost (spots_of c.args.rules.now c.args.depth c.args.cells.now) c.args.spot.column c.args.spot.level c.loop-link.link c.args.steps.now c.loop-link.steps c.loop-link.invariant (omega arith) in
    omega (arith, c.look-cell.ensures.step)

pub returns-then-level-spot-2-clause-found : goal.returns-then-level-spot-2-clause-found
returns-then-level-spot-2-clause-found g c =
    let cells = c.args.cells.now in
    let spots = spots_of c.args.rules.now c.args.depth cells in
    let within = there _ _ _ c.loop-link.invariant.leads.there (length-spots c.args.rules.now c.args.depth cells) in
    let is : level_at spots (c.loop-link.link - 1) ≡ c.level_of-level.result = ap (λ (s : Spot). s.level) (shown-spot c.args.rules.now c.args.depth cells c.loop-link.link c.look-cell.result (omega arith) within c.look-cell.ensures.cell) ∙ sym c.level_of-level.ensures in
    seek-alone spots c.args.spot c.loop-link.link c.args.steps.now c.loop-link.steps c.loop-link.invariant (λ _. subst (λ n. c.args.spot.level < n) (sym is) c.if-level-spot-2.true)

pub returns-then-level-spot-2-clause-cost : goal.returns-then-level-spot-2-clause-cost
returns-then-level-spot-2-clause-cost g c =
    let cost = seek-cost (spots_of c.args.rules.now c.args.depth c.args.cells.now) c.args.spot.column c.args.spot.level c.loop-link.link c.args.steps.now c.loop-link.steps c.loop-link.invariant (omega arith) in
    omega (arith, c.look-cell.ensures.step)

pub loop-link-preserved : goal.loop-link-preserved
loop-link-preserved g c =
    let cells = c.args.cells.now in
    let spots = spots_of c.args.rules.now c.args.depth cells in
    let within = there _ _ _ c.loop-link.invariant.leads.there (length-spots c.args.rules.now c.args.depth cells) in
    let is : level_at spots (c.loop-link.link - 1) ≡ c.level_of-level.result = ap (λ (s : Spot). s.level) (shown-spot c.args.rules.now c.args.depth cells c.loop-link.link c.look-cell.result (omega arith) within c.look-cell.ensures.cell) ∙ sym c.level_of-level.ensures in
    let below : level_at spots (c.loop-link.link - 1) < c.args.spot.level = omega (arith, is, c.if-level-spot.false, c.if-level-spot-2.false) in
    let stepped = seek-step c.args.heads.now (nexts_of cells) spots c.args.spot.column c.args.spot.level c.loop-link.link c.args.steps.now c.loop-link.steps c.requires.chained c.loop-link.invariant (omega arith) below in
    let by_link = subst (λ n. IsSeeking spots c.args.spot.column c.args.spot.level n c.args.steps.now (c.loop-link.steps + 1)) (shown-next cells c.loop-link.link c.look-cell.result (omega arith) within c.look-cell.ensures.cell) stepped in
    subst (λ n. IsSeeking spots c.args.spot.column c.args.spot.level c.look-cell.result.next c.args.steps.now n) (sym c.look-cell.ensures.step) by_link

pub loop-link-smaller : goal.loop-link-smaller
loop-link-smaller g c =
    let cells = c.args.cells.now in
    let spots = spots_of c.args.rules.now c.args.depth cells in
    let within = there _ _ _ c.loop-link.invariant.leads.there (length-spots c.args.rules.now c.args.depth cells) in
    let is : level_at spots (c.loop-link.link - 1) ≡ c.level_of-level.result = ap (λ (s : Spot). s.level) (shown-spot c.args.rules.now c.args.depth cells c.loop-link.link c.look-cell.result (omega arith) within c.look-cell.ensures.cell) ∙ sym c.level_of-level.ensures in
    let below : level_at spots (c.loop-link.link - 1) < c.args.spot.level = omega (arith, is, c.if-level-spot.false, c.if-level-spot-2.false) in
    let nearer = seek-nearer c.args.heads.now (nexts_of cells) spots c.args.spot.column c.args.spot.level c.loop-link.link c.args.steps.now c.loop-link.steps c.requires.chained c.loop-link.invariant (omega arith) below in
    subst (λ n. left spots c.args.spot.level n < left spots c.args.spot.level c.loop-link.link) (shown-next cells c.loop-link.link c.look-cell.result (omega arith) within c.look-cell.ensures.cell) nearer

pub returns-clause-cost : goal.returns-clause-cost
returns-clause-cost g c =
    let spots = spots_of c.args.rules.now c.args.depth c.args.cells.now in
    let none : c.loop-link.link ≡ 0 = omega arith in
    seek-end spots c.args.spot.column c.args.spot.level c.args.steps.now c.loop-link.steps (subst (λ n. IsSeeking spots c.args.spot.column c.args.spot.level n c.args.steps.now c.loop-link.steps) none c.loop-link.invariant)
