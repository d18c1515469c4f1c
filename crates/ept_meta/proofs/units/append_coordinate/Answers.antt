use Rattle.std.proofs.Common.{◌≡◌, ◌∙◌, ◌++◌, ◌+ℤ◌, ℕ, List, ℤ, ap, subst}
use Rattle.std.specs.Prelude.{OnOk}
use Rattle.ept_num.specs.Decimals.{decimal_text_of}
use Rattle.ept_space.specs.Place.{coordinate}
use Rattle.ept_meta.specs.Units.{coordinate_text}
use Rattle.ept_meta.proofs.Near.{near_at, sum_fits, sum_is}
use Rattle.ept_meta.proofs.units.append_coordinate.Goals as goal

pub overflow_add-units : goal.overflow_add-units
overflow_add-units c =
    sum_fits (coordinate c.args.place.now c.args.axis) c.origin.result (near_at _ _ _ c.requires.near c.requires.axis) c.origin.ensures.range

pub returns : goal.returns
unfolding coordinate_text
returns c =
    let at = coordinate c.args.place.now c.args.axis in
    let units = sum_is at c.origin.result (near_at _ _ _ c.requires.near c.requires.axis) c.origin.ensures.range in
    subst (λ (t : List ℕ). OnOk c.append.result (c.append.new.text.items ≡ c.args.text.now.items ++ t))
    (c.decimal_text-length.ensures.text ∙ ap (λ (n : ℤ). decimal_text_of n c.args.kept.now.scale) (units ∙ ap (λ (z : ℤ). at +ℤ z) c.origin.ensures.value))
    c.append.ensures
