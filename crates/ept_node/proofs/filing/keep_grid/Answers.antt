use Rattle.std.proofs.Common.{◌∙◌}
use Rattle.ept_node.proofs.Filings.{filed-shows, filed-tile, steps-tell, tile-read}
use Rattle.ept_node.proofs.filing.keep_grid.Goals as goal

pub returns-in-Ok-clause-told : goal.returns-in-Ok-clause-told
returns-in-Ok-clause-told g c =
    let told = g.F.SpillFile.held c.keep.new.self in
    let kept = steps-tell c.as_slice.result.now (g.F.SpillFile.held c.args.file.now) told c.in-Ok.ensures.ok in
    filed-shows c.in_ok-filed.filed.value told c.args.grid.now c.in_ok-filed.ensures.label c.known.ensures.inside c.in_ok-filed.ensures.in_order
    (tile-read told c.as_slice.result.now c.args.grid.now.points kept (c.as_slice.ensures.value ∙ c.in_ok-filed.ensures.bytes))

pub returns-in-Ok-clause-filed : goal.returns-in-Ok-clause-filed
returns-in-Ok-clause-filed g c =
    let told = g.F.SpillFile.held c.keep.new.self in
    let kept = steps-tell c.as_slice.result.now (g.F.SpillFile.held c.args.file.now) told c.in-Ok.ensures.ok in
    filed-tile c.in_ok-filed.filed.value told c.args.grid.now c.in_ok-filed.ensures.label c.known.ensures.inside c.in_ok-filed.ensures.in_order c.known.ensures.tile
    (tile-read told c.as_slice.result.now c.args.grid.now.points kept (c.as_slice.ensures.value ∙ c.in_ok-filed.ensures.bytes))
