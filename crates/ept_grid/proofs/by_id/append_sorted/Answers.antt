use Rattle.std.proofs.Common.{◌∙◌, ap, sym, subst, List, length, drop, Bor}
use Rattle.std.specs.Prelude.{map}
use Rattle.std.specs.List.Sorted.{IsPermutation}
use Rattle.std.proofs.Math.Seq.{drop-append_seam}
use Rattle.std.proofs.lemmas.List.Sorted.{IsPermutation-map}
use Rattle.std.proofs.lemmas.Result.{on_ok_weaker}
use Rattle.ept_point.specs.declared.id.PointId.{PointId}
use Rattle.ept_point.specs.declared.point.Point.{Point}
use Rattle.ept_grid.proofs.by_id.append_sorted.Goals as goal

abbrev point : PointId × Bor Point → Point
point e = e.1.now

pub returns-clause-moved : goal.returns-clause-moved
returns-clause-moved c =
    on_ok_weaker c.append_entries.result (λ is. subst (λ (w : List Point). IsPermutation w (drop (length c.args.out.now.items) c.append_entries.new.out.items)) c.in_ok-order.ensures (subst (λ (w : List Point). IsPermutation (map point c.in_ok-order.order.items) w) (sym (ap (λ (w : List Point). drop (length c.args.out.now.items) w) is ∙ drop-append_seam c.args.out.now.items _ ∙ ap (λ (w : List (PointId × Bor Point)). map point w) c.as_slice.ensures.value)) (IsPermutation-map point _ _ c.sort_unstable_by_key.ensures.permutation))) c.append_entries.ensures.ok
