use Rattle.std.proofs.Common.{◌≡◌, ◌∙◌, ◌%◌, ap, arith, length, Err}
use Rattle.ept_point.specs.declared.layout.Layout.TheVariants.{New}
use Rattle.ept_point.specs.Dimensions.{packed_width}
use Rattle.ept_filter.specs.declared.sift_error.SiftError.{SiftError}
use Rattle.ept_query.proofs.trimming.trim.Goals as goal

-- the bytes of a tile are a multiple of a packed point's
pub unreachable-requires : goal.unreachable-requires
unreachable-requires c =
    let size = c.tile_length_law.ensures.length New c.requires.0 in
    let whole : length c.deref.result.now % packed_width ≡ 0 = omega (arith, ap length c.deref.ensures.value, ap length c.requires.1, size) in
    c.sift_points.ensures.length.0 (c.in-Err-Length.is ∙ ap (λ (e : SiftError). Err e) c.in-Err-Length.field-0-is) whole
