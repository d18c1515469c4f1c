use Rattle.std.proofs.Common.{◌≡◌, ◌∙◌, Some, refl, sym, ap, subst, length}
use Rattle.std.specs.Prelude.{option_map}
use Rattle.std.specs.Option.{option_copied}
use Rattle.ept_space.specs.VoxelKey.{root}
use Rattle.ept_ckpt.specs.declared.letter.Letter.{Letter}
use Rattle.ept_ckpt.specs.declared.node_line.NodeLine.{NodeLine}
use Rattle.ept_ckpt.specs.declared.checkpoint.Checkpoint.{Checkpoint}
use Rattle.ept_point.specs.declared.layout.Layout.TheVariants.{Old}
use Rattle.ept_save.specs.Current.{Current}
use Rattle.ept_save.specs.Lines.{free_letter, with_line}
use Rattle.ept_save.specs.Tiles.{IsOfLayout}
use Rattle.ept_save.specs.View.{View}
use Rattle.ept_scan_rows.proofs.NextRoot.{next-valid, valid-same}
use Rattle.ept_scan_rows.proofs.crashes.commit_root.Goals as goal

pub commit-requires-clause-valid : goal.commit-requires-clause-valid
commit-requires-clause-valid c =
    let now : View = c.args.saved.now in
    let last : Checkpoint = c.in-Some.checkpoint.now in
    let line : NodeLine = c.in-Some-only_root.line in
    let only = c.in-Some-only_root.ensures line refl in
    let is : option_map (λ (a : Letter × Checkpoint). a.1) now.current ≡ Some last = sym c.current.ensures ∙ ap option_copied c.in-Some.is in
    let new : NodeLine = record { key = root; count = length c.args.points.now; mask = line.mask; letter = free_letter c.begin.new.saved.current root } in
    let begun = c.in_ok-begin.ensures.begun in
    let saved = c.in_ok-save_tile.ensures.line in
    valid-same now.current c.save_tile.new.saved.current last.kept c.in_ok-kept.kept last.counts c.deref.result.now last.inserted (with_line new now.lines) c.save_tile.new.saved.lines
    (ap (λ (v : View). v.current) saved ∙ ap (λ (v : View). v.current) begun)
    c.in_ok-kept.ensures.same
    (c.deref.ensures.value ∙ (c.in_ok-counts.ensures.items ∙ c.as_slice.ensures))
    (ap (λ (v : View). v.lines) saved ∙ ap (λ (v : View). with_line new v.lines) begun)
    (next-valid now.current last line new now.lines is c.requires.fresh only.0 only.1 (sym only.2) (sym only.3) refl)

pub save_tile-requires : goal.save_tile-requires
save_tile-requires c = record {
  newest = subst (λ (w : Current). ¬ IsOfLayout Old w) (sym (ap (λ (v : View). v.current) c.in_ok-begin.ensures.begun)) c.requires.newest;
}

pub commit-requires-clause-newest : goal.commit-requires-clause-newest
commit-requires-clause-newest c =
    subst (λ (w : Current). ¬ IsOfLayout Old w) (sym (ap (λ (v : View). v.current) c.in_ok-save_tile.ensures.line ∙ ap (λ (v : View). v.current) c.in_ok-begin.ensures.begun)) c.requires.newest
