use Rattle.std.proofs.Common.{◌∙◌, sym, ap}
use Rattle.ept_point.specs.declared.point.Point.{Point}
use Rattle.ept_grid.specs.declared.pool.Cell.{Cell}
use Rattle.ept_grid.specs.Columns.{spot}
use Rattle.ept_grid.proofs.Winners.{nexts-point}
use Rattle.ept_grid.proofs.Contending.{displaces, loses-there, spots-point}
use Rattle.ept_grid.proofs.settling.contend.Goals as goal

pub returns-then-is_better-clause-contended : goal.returns-then-is_better-clause-contended
returns-then-is_better-clause-contended c =
    displaces c.args.rules.now c.args.depth c.args.point c.index.result.now.point c.replace.result c.replace.new.dest c.args.cells.now.items c.args.at c.index_mut.result.now.next c.index.result.now c.index_mut.result.now c.requires.there (ap (λ (e : Cell). e.point) c.index.ensures) (c.replace.ensures.value ∙ ap (λ (e : Cell). e.point) c.index_mut.ensures.value) c.replace.ensures.after c.requires.one_cell (sym c.is_better.ensures ∙ c.if-is_better.true)

pub returns-then-is_better-clause-links : goal.returns-then-is_better-clause-links
returns-then-is_better-clause-links c =
    nexts-point c.args.cells.now.items c.args.at c.index_mut.result.now.next c.index_mut.result.now c.replace.new.dest c.requires.there (ap (λ (e : Cell). e.next) c.index_mut.ensures.value)

pub returns-then-is_better-clause-spots : goal.returns-then-is_better-clause-spots
returns-then-is_better-clause-spots c =
    spots-point c.args.rules.now c.args.depth c.args.cells.now.items c.args.at c.index_mut.result.now.next c.replace.new.dest (c.requires.meets ∙ ap (λ (p : Point). spot c.args.rules.now c.args.depth p) (sym c.replace.ensures.after)) c.requires.there

pub returns-clause-contended : goal.returns-clause-contended
returns-clause-contended c =
    loses-there c.args.rules.now c.args.depth c.args.point c.index.result.now.point c.args.cells.now.items c.args.at c.index.result.now c.requires.there (ap (λ (e : Cell). e.point) c.index.ensures) c.requires.one_cell (sym c.is_better.ensures ∙ c.if-is_better.false)
