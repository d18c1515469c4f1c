use Rattle.std.proofs.Common.{◌∙◌, ap, pos, ◌^◌, ℕ}
use Rattle.ept_space.specs.Place.{coordinate}
use Rattle.ept_meta.proofs.Near.{near_at, origin_fits, origin_is, origin_near}
use Rattle.ept_meta.proofs.units.origin.Goals as goal

pub overflow_mul-result : goal.overflow_mul-result
overflow_mul-result c =
    let kept = c.args.kept.now in
    origin_fits (coordinate kept.offset c.args.axis) c.pow.result kept.scale (near_at _ _ _ kept.layout.offset_within c.requires) kept.layout.scale_most (c.pow.ensures ∙ ap (λ (k : ℕ). pos (10 ^ k)) c.from.ensures)

pub returns-clause-value : goal.returns-clause-value
returns-clause-value c =
    let kept = c.args.kept.now in
    origin_is (coordinate kept.offset c.args.axis) c.pow.result kept.scale (near_at _ _ _ kept.layout.offset_within c.requires) kept.layout.scale_most (c.pow.ensures ∙ ap (λ (k : ℕ). pos (10 ^ k)) c.from.ensures)

pub returns-clause-range : goal.returns-clause-range
returns-clause-range c =
    let kept = c.args.kept.now in
    origin_near (coordinate kept.offset c.args.axis) c.pow.result kept.scale (near_at _ _ _ kept.layout.offset_within c.requires) kept.layout.scale_most (c.pow.ensures ∙ ap (λ (k : ℕ). pos (10 ^ k)) c.from.ensures)
