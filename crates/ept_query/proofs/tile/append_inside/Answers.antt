use Rattle.std.proofs.Common.{◌≡◌, ◌∙◌, ◌*◌, ◌-◌, ◌<◌, ◌++◌, ℕ, List, length, take, drop, sym, ap, subst, arith}
use Rattle.ept_point.specs.declared.point.Point.{Point}
use Rattle.ept_point.specs.Dimensions.{packed_width}
use Rattle.ept_point.specs.Packed.{tile}
use Rattle.ept_point.specs.Laws.{EachTileHasLength}
use Rattle.ept_query.proofs.Runs.{HasCopied, bytes-between, length-bytes, copied-on, copied-off, all-copied}
use Rattle.ept_query.proofs.tile.append_inside.Goals as goal
use Rattle.ept_query.proofs.tile.append_inside.Goals.{then-is_inside, else-is_inside+in_ok-extend_from_slice}

-- the runs lie within the bytes
long : (points : List Point) (bytes : List ℕ) → EachTileHasLength → bytes ≡ tile points → length bytes ≡ length points * 53
long points bytes tiles is = length-bytes tiles bytes points is

pub slice_bounds-extend_from_slice-end : goal.slice_bounds-extend_from_slice-end
slice_bounds-extend_from_slice-end c =
    let all = long c.args.points.now c.args.bytes.now c.tile_length_law.ensures.length c.requires in
    omega (arith, all, c.loop-at.invariant.within, c.loop-at.invariant.order, c.loop-at-test.true)

pub slice_bounds-extend_from_slice-count-2 : goal.slice_bounds-extend_from_slice-count-2
slice_bounds-extend_from_slice-count-2 c =
    let all = long c.args.points.now c.args.bytes.now c.tile_length_law.ensures.length c.requires in
    omega (arith, all, c.loop-at.invariant.within, c.loop-at.invariant.order)

pub slice_bounds-extend_from_slice-start-2 : goal.slice_bounds-extend_from_slice-start-2
slice_bounds-extend_from_slice-start-2 c =
    let all = long c.args.points.now c.args.bytes.now c.tile_length_law.ensures.length c.requires in
    omega (arith, all, c.loop-at.invariant.within, c.loop-at.invariant.order)

pub loop-at-preserved : goal.loop-at-preserved
loop-at-preserved c =
    let points = c.args.points.now in
    let there : c.loop-at.at < length points = omega (arith, c.loop-at-test.true, c.loop-at.auto.at-end) in
    elim c.if-is_inside.branch [
      | then-is_inside w ↦
          rw (w.into-is, w.start-is, w.count-is)
          (copied-on c.args.area.now points _ _ _ _ _ c.index-points-at.result c.loop-at.invariant there (sym c.index-points-at.is) (sym c.is_inside.ensures ∙ w.if-is_inside.true))
      | else-is_inside+in_ok-extend_from_slice w ↦
          let run = bytes-between c.tile_length_law.ensures.length c.args.bytes.now points c.loop-at.start c.loop-at.at c.requires c.loop-at.invariant.order c.loop-at.invariant.within in
          rw (w.into-is, w.start-is, w.count-is)
          (copied-off c.args.area.now points _ _ _ _ _ c.index-points-at.result c.loop-at.invariant there (sym c.index-points-at.is) w.extend_from_slice.new.self.items (sym c.is_inside.ensures ∙ w.if-is_inside.false) (w.in_ok-extend_from_slice.ensures.items ∙ ap (λ (bs : List ℕ). c.loop-at.into.items ++ bs) run))
    ]

pub returns-clause-bytes : goal.returns-clause-bytes
returns-clause-bytes c =
    let points = c.args.points.now in
    let bytes = c.args.bytes.now in
    let h = c.loop-at.invariant in
    let end : c.loop-at.at ≡ length points = omega (arith, h.within, c.loop-at-test.false) in
    let all = subst (λ (k : ℕ). HasCopied c.args.area.now points c.args.into.now.items c.loop-at.into.items c.loop-at.start k c.loop-at.count) end h in
    let run = ap (λ (n : ℕ). take (n - c.loop-at.start * packed_width) (drop (c.loop-at.start * packed_width) bytes)) (length-bytes c.tile_length_law.ensures.length bytes points c.requires)
    ∙ bytes-between c.tile_length_law.ensures.length bytes points c.loop-at.start (length points) c.requires all.order all.within in
    (all-copied c.args.area.now points c.args.into.now.items c.loop-at.into.items c.extend_from_slice-2.new.self.items c.loop-at.start c.loop-at.count all (c.in_ok-extend_from_slice-2.ensures.items ∙ ap (λ (bs : List ℕ). c.loop-at.into.items ++ bs) run)).0
