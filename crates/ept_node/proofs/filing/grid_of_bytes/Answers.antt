use Rattle.std.proofs.Common.{◌≡◌, ◌≢◌, ◌∙◌, length, sym, ap}
use Rattle.ept_grid.specs.declared.error.GridError.{GridError}
use Rattle.ept_grid.specs.declared.error.GridError.TheVariants.{TooMany, Memory}
use Rattle.ept_node.specs.Damage.{place_of}
use Rattle.ept_node.proofs.Filings.{fits-label, unfit-together}
use Rattle.ept_node.proofs.filing.grid_of_bytes.Goals as goal

pub returns-in-Ok-clause-fits : goal.returns-in-Ok-clause-fits
returns-in-Ok-clause-fits c =
    let has = c.in_ok-points.ensures.points in
    fits-label c.args.filed.now c.args.bytes.items c.requires c.tile_length_law.ensures.length c.in_ok-points.points.items (has.bytes_are, has.ascend) c.as_slice.result.now c.in-Ok.grid c.as_slice.ensures.value c.in-Ok.ensures.node c.in-Ok.ensures.tile

pub returns-in-Err-TooMany-clause-wrong : goal.returns-in-Err-TooMany-clause-wrong
returns-in-Err-TooMany-clause-wrong c =
    let has = c.in_ok-points.ensures.points in
    let points = c.as_slice.result.now in
    let fault = c.in-Err-TooMany.field-0 in
    let no_memory : fault ≢ Memory = λ m. (let clash : TooMany c.in-Err-TooMany._octant ≡ Memory = sym c.in-Err-TooMany.field-0-is ∙ m in cc) in
    let place : place_of points fault ≡ length points = ap (λ (e : GridError). place_of points e) c.in-Err-TooMany.field-0-is in
    unfit-together c.args.filed.now c.args.bytes.items c.requires c.tile_length_law.ensures.length c.in_ok-points.points.items (has.bytes_are, has.ascend) c.damaged_at-in-Err-TooMany.result points fault c.as_slice.ensures.value (c.in-Err-TooMany.ensures.refused no_memory) place c.damaged_at-in-Err-TooMany.ensures
