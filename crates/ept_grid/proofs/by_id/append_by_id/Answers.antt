use Rattle.std.proofs.Common.{◌≡◌, ◌∙◌, ◌-◌, ◌++◌, ap, sym, subst, arith, length-drop, List, length, take, drop, ℕ}
use Rattle.std.proofs.lemmas.List.{take-append-drop, take_all}
use Rattle.ept_point.specs.declared.point.Point.{Point}
use Rattle.ept_point.specs.Order.{IsAscending}
use Rattle.ept_sample.specs.Ids.{in_id_order}
use Rattle.ept_grid.specs.Settling.{winners}
use Rattle.ept_grid.specs.Contents.{contents}
use Rattle.ept_grid.proofs.InOrder.{ascending-order}
use Rattle.ept_grid.proofs.by_id.append_by_id.Goals as goal

-- the points from a place on, as a slice has them
from : (n m : ℕ) (xs ys : List Point) → xs ≡ ys → n ≡ m → take (length xs - n) (drop n xs) ≡ drop m ys
from n m xs ys e f =
    take_all (length xs - n) (drop n xs) (omega (arith, length-drop n xs)) ∙ ap (λ (w : List Point). drop n w) e ∙ ap (λ (k : ℕ). drop k ys) f

pub returns-then-ids_ascend-clause-ok : goal.returns-then-ids_ascend-clause-ok
returns-then-ids_ascend-clause-ok c =
    let old : ℕ = length c.args.out.now.items in
    let new : List Point = c.append_sorted.new.out.items in
    let ascend : IsAscending (drop old new) = subst (λ (w : List Point). IsAscending w) (from c.len-before.result old c.as_slice.result.now new c.as_slice.ensures.value (omega (arith, c.len-before.ensures, c.args.out.now.ok.0))) (c.ids_ascend.ensures.ascend.0 c.if-ids_ascend.true) in
    let rest : drop old new ≡ in_id_order (contents (winners c.args.cells.now) c.args.losers.now) = ascending-order (contents (winners c.args.cells.now) c.args.losers.now) (drop old new) c.in_ok-append_sorted.ensures.moved ascend in
    sym (take-append-drop old new) ∙ ap (λ (w : List Point). w ++ drop old new) c.in_ok-append_sorted.ensures.before ∙ ap (λ (w : List Point). c.args.out.now.items ++ w) rest
