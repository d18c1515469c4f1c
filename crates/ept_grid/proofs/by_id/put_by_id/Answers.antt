use Rattle.std.proofs.Common.{◌≡◌, ◌∙◌, ap, sym, List, length}
use Rattle.std.specs.Prelude.{insert, position, vec_len}
use Rattle.ept_point.specs.declared.point.Point.{Point}
use Rattle.ept_sample.specs.Ids.{comes_before}
use Rattle.ept_grid.proofs.InOrder.{put-position, ok-branch}
use Rattle.ept_grid.proofs.by_id.put_by_id.Goals as goal

pub returns-clause-items : goal.returns-clause-items
returns-clause-items c =
    let long : vec_len c.args.points.now ≡ length c.args.points.now.items = sym c.as_slice.ensures.len ∙ ap (λ (w : List Point). length w) c.as_slice.ensures.value in
    let new : c.insert.new.self.items ≡ insert c.args.points.now.items c.unwrap_or-at.result c.args.point = ok-branch c.insert.result _ _ _ (c.insert.ensures.succeeds c.requires) c.insert.ensures.items in
    put-position c.args.point c.args.points.now.items c.insert.new.self.items c.first_after.result c.unwrap_or-at.result c.len-end.result (c.first_after.ensures.place ∙ ap (λ (w : List Point). position (comes_before c.args.point) w) c.as_slice.ensures.value) (c.len-end.ensures ∙ long) c.unwrap_or-at.ensures new
