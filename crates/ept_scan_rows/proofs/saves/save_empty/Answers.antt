use Rattle.std.proofs.Common.{sym, ap, subst}
use Rattle.ept_point.specs.declared.layout.Layout.TheVariants.{Old}
use Rattle.ept_save.specs.Current.{Current}
use Rattle.ept_save.specs.Tiles.{IsOfLayout}
use Rattle.ept_save.specs.View.{View}
use Rattle.ept_scan_rows.proofs.saves.save_empty.Goals as goal

pub save_tile-requires : goal.save_tile-requires
save_tile-requires c = record {
  newest = subst (λ (w : Current). ¬ IsOfLayout Old w) (sym (ap (λ (v : View). v.current) c.in_ok-begin.ensures.begun)) c.requires;
}
