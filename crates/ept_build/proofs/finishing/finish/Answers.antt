use Rattle.std.proofs.Common.{rules, ◌≡◌, ◌∙◌, inl, List, sym, ap, subst}
use Rattle.std.specs.Prelude.{Err}
use Rattle.ept_base.specs.Files.{StepsBy}
use Rattle.ept_sample.specs.Nodes.{sampled}
use Rattle.ept_meta.specs.Output.{File, rules_of}
use Rattle.ept_point.specs.declared.layout.Layout.TheVariants.{Old}
use Rattle.ept_save.specs.Current.{Current}
use Rattle.ept_save.specs.Opening.{lines_of}
use Rattle.ept_save.specs.Tiles.{IsOfLayout}
use Rattle.ept_save.proofs.TileFiles.{new-layout}
use Rattle.ept_publish.specs.declared.error.PublishError.{PublishError}
use Rattle.ept_publish.specs.Publishing.{PutsAll}
use Rattle.ept_plan.specs.Plans.{inserted_by}
use Rattle.ept_build.specs.Errors.{of_publish, of_save}
use Rattle.ept_build.specs.Phases.{IsEndFault}
use Rattle.ept_build.proofs.Causes.{stores-undamaged, publish-tile, publish-undamaged, publish-end, if-refused}
use Rattle.ept_build.proofs.Judging.{err-one}
use Rattle.ept_build.proofs.Renewed.{save-stores}
use Rattle.ept_build.proofs.PhaseSound.{way-sound}
use Rattle.ept_build.proofs.Ending.{the-checkpoint, files-same, named, put-moves, put-guarded, put-damage, end-moves, ends-complete}
use Rattle.ept_build.proofs.finishing.finish.Goals as goal

pub returns-in_err-publish-clause-sound : goal.returns-in_err-publish-clause-sound
returns-in_err-publish-clause-sound g c = λ shelf points output are number has_extent way.
    let plan = c.args.plan.now in
    let view = c.args.saved.now in
    let it = the-checkpoint plan view.current c.requires.all in
    let all_in = sym (ap inserted_by it.2) ∙ c.requires.inserted in
    let newest = new-layout it.0 it.1 (subst (λ (w : Current). ¬ IsOfLayout Old w) it.2 c.requires.newest) in
    put-moves c.output_once_law.ensures.one c.output_names_law.ensures.names c.output_names_law.ensures.outside c.published_law.ensures.there c.sound_steps_law.ensures.putting c.sound_steps_law.ensures.guarding shelf plan points output are number c.args.extent.now has_extent it.0 it.1 it.3 all_in newest
    g.T.Store.files g.T.Store.may_leave g.T.Store.moment g.T.Store.image_since c.args.store.now (g.met.T.Store.reads_an_image c.args.store.now) view it.2 way c.publish.new.store c.publish.ensures.any_moment

pub returns-in_err-open_done-clause-sound : goal.returns-in_err-open_done-clause-sound
returns-in_err-open_done-clause-sound g c = λ shelf points output are number has_extent way.
    let plan = c.args.plan.now in
    let view = c.args.saved.now in
    let it = the-checkpoint plan view.current c.requires.all in
    let all_in = sym (ap inserted_by it.2) ∙ c.requires.inserted in
    let newest = new-layout it.0 it.1 (subst (λ (w : Current). ¬ IsOfLayout Old w) it.2 c.requires.newest) in
    let tiles = sampled (rules_of plan.kept) points in
    let names = named c.output_once_law.ensures.one c.output_names_law.ensures.names c.output_names_law.ensures.outside c.published_law.ensures.there c.sound_steps_law.ensures.putting c.sound_steps_law.ensures.guarding shelf plan points output are number c.args.extent.now has_extent it.0 it.1 it.3 all_in newest
    g.T.Store.files g.T.Store.may_leave g.T.Store.moment g.T.Store.image_since c.args.store.now (g.met.T.Store.reads_an_image c.args.store.now) view it.2 way in
    let puts = subst (λ (w : List File). StepsBy (PutsAll w) (g.T.Store.files c.args.store.now) (g.T.Store.files c.publish.new.store)) (files-same plan c.args.extent.now c.as_slice-counts.result.now tiles c.as_slice-counts.ensures)
    (c.in_ok-publish.ensures.puts way.stands.all tiles way.stands.told names) in
    let guarded = put-guarded c.output_once_law.ensures.one c.output_names_law.ensures.names c.output_names_law.ensures.outside c.published_law.ensures.there c.sound_steps_law.ensures.putting c.sound_steps_law.ensures.guarding shelf plan points output are number c.args.extent.now has_extent it.0 it.1 it.3 all_in newest
    g.T.Store.files g.T.Store.may_leave g.T.Store.moment g.T.Store.image_since c.args.store.now (g.met.T.Store.reads_an_image c.args.store.now) view it.2 way c.publish.new.store c.publish.ensures.any_moment in
    end-moves c.output_once_law.ensures.one c.output_names_law.ensures.names c.output_names_law.ensures.outside c.published_law.ensures.there c.sound_steps_law.ensures.putting c.sound_steps_law.ensures.guarding shelf plan points output are number c.args.extent.now has_extent it.0 it.1 it.3 all_in newest
    g.T.Store.files g.T.Store.may_leave g.T.Store.moment g.T.Store.image_since c.args.store.now (g.met.T.Store.reads_an_image c.args.store.now) view it.2 way c.publish.new.store c.publish.ensures.any_moment puts c.open_done.new.store (c.open_done.ensures.guards guarded)

pub returns-clause-sound : goal.returns-clause-sound
returns-clause-sound g c = λ shelf points output are number has_extent way.
    let plan = c.args.plan.now in
    let view = c.args.saved.now in
    let it = the-checkpoint plan view.current c.requires.all in
    let all_in = sym (ap inserted_by it.2) ∙ c.requires.inserted in
    let newest = new-layout it.0 it.1 (subst (λ (w : Current). ¬ IsOfLayout Old w) it.2 c.requires.newest) in
    let tiles = sampled (rules_of plan.kept) points in
    let names = named c.output_once_law.ensures.one c.output_names_law.ensures.names c.output_names_law.ensures.outside c.published_law.ensures.there c.sound_steps_law.ensures.putting c.sound_steps_law.ensures.guarding shelf plan points output are number c.args.extent.now has_extent it.0 it.1 it.3 all_in newest
    g.T.Store.files g.T.Store.may_leave g.T.Store.moment g.T.Store.image_since c.args.store.now (g.met.T.Store.reads_an_image c.args.store.now) view it.2 way in
    let puts = subst (λ (w : List File). StepsBy (PutsAll w) (g.T.Store.files c.args.store.now) (g.T.Store.files c.publish.new.store)) (files-same plan c.args.extent.now c.as_slice-counts.result.now tiles c.as_slice-counts.ensures)
    (c.in_ok-publish.ensures.puts way.stands.all tiles way.stands.told names) in
    let guarded = put-guarded c.output_once_law.ensures.one c.output_names_law.ensures.names c.output_names_law.ensures.outside c.published_law.ensures.there c.sound_steps_law.ensures.putting c.sound_steps_law.ensures.guarding shelf plan points output are number c.args.extent.now has_extent it.0 it.1 it.3 all_in newest
    g.T.Store.files g.T.Store.may_leave g.T.Store.moment g.T.Store.image_since c.args.store.now (g.met.T.Store.reads_an_image c.args.store.now) view it.2 way c.publish.new.store c.publish.ensures.any_moment in
    end-moves c.output_once_law.ensures.one c.output_names_law.ensures.names c.output_names_law.ensures.outside c.published_law.ensures.there c.sound_steps_law.ensures.putting c.sound_steps_law.ensures.guarding shelf plan points output are number c.args.extent.now has_extent it.0 it.1 it.3 all_in newest
    g.T.Store.files g.T.Store.may_leave g.T.Store.moment g.T.Store.image_since c.args.store.now (g.met.T.Store.reads_an_image c.args.store.now) view it.2 way c.publish.new.store c.publish.ensures.any_moment puts c.open_done.new.store (c.open_done.ensures.guards guarded)

pub returns-clause-complete : goal.returns-clause-complete
returns-clause-complete g c = λ shelf points output are number has_extent way.
    let plan = c.args.plan.now in
    let view = c.args.saved.now in
    let it = the-checkpoint plan view.current c.requires.all in
    let all_in = sym (ap inserted_by it.2) ∙ c.requires.inserted in
    let newest = new-layout it.0 it.1 (subst (λ (w : Current). ¬ IsOfLayout Old w) it.2 c.requires.newest) in
    let tiles = sampled (rules_of plan.kept) points in
    let names = named c.output_once_law.ensures.one c.output_names_law.ensures.names c.output_names_law.ensures.outside c.published_law.ensures.there c.sound_steps_law.ensures.putting c.sound_steps_law.ensures.guarding shelf plan points output are number c.args.extent.now has_extent it.0 it.1 it.3 all_in newest
    g.T.Store.files g.T.Store.may_leave g.T.Store.moment g.T.Store.image_since c.args.store.now (g.met.T.Store.reads_an_image c.args.store.now) view it.2 way in
    let puts = subst (λ (w : List File). StepsBy (PutsAll w) (g.T.Store.files c.args.store.now) (g.T.Store.files c.publish.new.store)) (files-same plan c.args.extent.now c.as_slice-counts.result.now tiles c.as_slice-counts.ensures)
    (c.in_ok-publish.ensures.puts way.stands.all tiles way.stands.told names) in
    let guarded = put-guarded c.output_once_law.ensures.one c.output_names_law.ensures.names c.output_names_law.ensures.outside c.published_law.ensures.there c.sound_steps_law.ensures.putting c.sound_steps_law.ensures.guarding shelf plan points output are number c.args.extent.now has_extent it.0 it.1 it.3 all_in newest
    g.T.Store.files g.T.Store.may_leave g.T.Store.moment g.T.Store.image_since c.args.store.now (g.met.T.Store.reads_an_image c.args.store.now) view it.2 way c.publish.new.store c.publish.ensures.any_moment in
    ends-complete c.output_once_law.ensures.one c.output_names_law.ensures.names c.output_names_law.ensures.outside c.published_law.ensures.there c.sound_steps_law.ensures.putting c.sound_steps_law.ensures.guarding shelf plan points output are number c.args.extent.now has_extent it.0 it.1 it.3 all_in newest
    g.T.Store.files g.T.Store.may_leave g.T.Store.moment g.T.Store.image_since c.args.store.now (g.met.T.Store.reads_an_image c.args.store.now) view it.2 way c.publish.new.store c.publish.ensures.any_moment puts c.open_done.new.store (c.open_done.ensures.guards guarded) c.sound_law.ensures.complete c.in_ok-open_done.ensures.opened

-- ---- a tile that is reported

pub returns-in_err-publish-clause-damaged : goal.returns-in_err-publish-clause-damaged
returns-in_err-publish-clause-damaged g c = λ key is stands.
    let e = c.in_err-publish.field-0.0 in
    let its : c.from_residual.result ≡ Err (of_publish e) = search rules in
    let view = c.args.saved.now in
    let found = c.in_err-publish.ensures.damaged key (ap (λ (w : PublishError). Err w) (publish-tile e key (err-one (sym its ∙ is)))) in
    put-damage c.output_names_law.ensures.outside c.args.plan.now.kept (lines_of view.current) view key (g.T.Store.files c.args.store.now) (g.T.Store.files c.publish.new.store) stands c.publish.ensures.any_moment.reads found.0 found.1

pub returns-in_err-publish-clause-undamaged : goal.returns-in_err-publish-clause-undamaged
returns-in_err-publish-clause-undamaged g c = λ shelf points output way key is.
    let e = c.in_err-publish.field-0.0 in
    let its : c.from_residual.result ≡ Err (of_publish e) = search rules in
    let sound = way-sound shelf points output c.args.saved.now (g.T.Store.files c.args.store.now) (g.T.Store.may_leave c.args.store.now) (g.met.T.Store.reads_an_image c.args.store.now) way in
    publish-undamaged e key (c.in_err-publish.ensures.sound shelf way.stands.all way.stands.told sound.sound way.stands.has_current) (err-one (sym its ∙ is))

pub returns-in_err-open_done-clause-damaged : goal.returns-in_err-open_done-clause-damaged
returns-in_err-open_done-clause-damaged g c = λ key is stands.
    let its : c.from_residual-in_err-open_done.result ≡ Err (of_save c.in_err-open_done.field-0.0) = search rules in
    absurd (stores-undamaged c.in_err-open_done.field-0.0 key c.in_err-open_done.ensures.only (err-one (sym its ∙ is)))

pub returns-in_err-open_done-clause-undamaged : goal.returns-in_err-open_done-clause-undamaged
returns-in_err-open_done-clause-undamaged g c = λ shelf points output way key is.
    let its : c.from_residual-in_err-open_done.result ≡ Err (of_save c.in_err-open_done.field-0.0) = search rules in
    stores-undamaged c.in_err-open_done.field-0.0 key c.in_err-open_done.ensures.only (err-one (sym its ∙ is))

-- ---- which causes there are

pub returns-in_err-publish-clause-only : goal.returns-in_err-publish-clause-only
returns-in_err-publish-clause-only g c =
    let e = c.in_err-publish.field-0.0 in
    let its : c.from_residual.result ≡ Err (of_publish e) = search rules in
    if-refused IsEndFault c.from_residual.result (of_publish e) its (publish-end e)

pub returns-in_err-open_done-clause-only : goal.returns-in_err-open_done-clause-only
returns-in_err-open_done-clause-only g c =
    let e = c.in_err-open_done.field-0.0 in
    let its : c.from_residual-in_err-open_done.result ≡ Err (of_save e) = search rules in
    if-refused IsEndFault c.from_residual-in_err-open_done.result (of_save e) its (inl (save-stores e c.in_err-open_done.ensures.only))
