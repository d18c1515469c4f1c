use Rattle.std.proofs.Common.{◌≡◌, ◌∙◌, List, map, Some, sym, ap, subst}
use Rattle.std.specs.Option.{option_copied}
use Rattle.std.proofs.lemmas.Result.{IfOk-weaker}
use Rattle.ept_point.specs.declared.layout.Layout.TheVariants.{Old}
use Rattle.ept_config.specs.declared.source_count.SourceCount.{SourceCount}
use Rattle.ept_ckpt.specs.declared.checkpoint.Checkpoint.{Checkpoint}
use Rattle.ept_ckpt.specs.Facts.{facts}
use Rattle.ept_ckpt.specs.Valid.{IsCheckpoint}
use Rattle.ept_ckpt.specs.Versions.{layout_of}
use Rattle.ept_ckpt.specs.declared.version.BodyVersion.TheVariants.{V3}
use Rattle.ept_save.specs.Current.{Current}
use Rattle.ept_save.specs.Migrating.{turned, IsTurnOf}
use Rattle.ept_save.specs.Opening.{lines_of}
use Rattle.ept_save.specs.View.{View, next_generation, next_facts}
use Rattle.ept_save.proofs.Turning.{turned-next-valid, is-turn, old-current, one-current}
use Rattle.ept_save.proofs.saved.Saved.next_turned.Goals as goal

pub next-requires : goal.next-requires
next-requires c =
    let at = c.unwrap.result.now in
    let view : View = c.args.self.now in
    let current : view.current ≡ Some at = sym (ap (λ (v : View). v.current) c.self.view_is) ∙ (sym c.as_ref.ensures.value ∙ ap option_copied c.unwrap.ensures) in
    let old : layout_of at.1.version ≡ Old = old-current view.current at current c.requires.old in
    subst (λ (w : List SourceCount). IsCheckpoint V3 (next_generation view.current) at.1.kept w at.1.inserted view.lines) (sym c.as_slice.ensures)
    (turned-next-valid at.1 old view at.0 current (c.requires.turned ∙ ap (λ (w : Current). map turned (lines_of w)) current))

pub returns : goal.returns
returns c =
    let at = c.unwrap.result.now in
    let view : View = c.args.self.now in
    let current : view.current ≡ Some at = sym (ap (λ (v : View). v.current) c.self.view_is) ∙ (sym c.as_ref.ensures.value ∙ ap option_copied c.unwrap.ensures) in
    let old : layout_of at.1.version ≡ Old = old-current view.current at current c.requires.old in
    IfOk-weaker c.next.result _ _
    (λ next are letter d is.
    let its : facts next ≡ next_facts view at.1.kept at.1.counts at.1.inserted = subst (λ (w : List SourceCount). facts next ≡ next_facts view at.1.kept w at.1.inserted) c.as_slice.ensures are in
    let turn : IsTurnOf at.1 next = is-turn at.1 old view at.0 current (c.requires.turned ∙ ap (λ (w : Current). map turned (lines_of w)) current) next its in
    subst (λ (e : Checkpoint). IsTurnOf e next) (ap (λ (w : _). w.1) (one-current at letter d (sym current ∙ is))) turn)
    c.next.ensures
