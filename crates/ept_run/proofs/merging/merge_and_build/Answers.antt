use Rattle.std.proofs.Common.{◌⊎◌, ◌∙◌, ap, subst, arith, inl, Option, Err}
use Rattle.std.specs.Prelude.{IsOk}
use Rattle.std.proofs.lemmas.Result.{err_from_is_err_and}
use Rattle.ept_base.specs.Causes.{Rose}
use Rattle.ept_base.specs.Files.{Files, SameFiles, Tells}
use Rattle.ept_base.specs.Moves.{Moves, IsSettled}
use Rattle.ept_build.specs.Building.{BeginsWith}
use Rattle.ept_build.specs.declared.summary.Summary.{Summary}
use Rattle.ept_merge.specs.declared.error.MergeError.{MergeError}
use Rattle.ept_merge.specs.Merging as merging
use Rattle.ept_command.specs.declared.refusal.MergeRefusal.{MergeRefusal}
use Rattle.ept_run.specs.Merges.{of_merge, FailsMerge, ReportsMerge}
use Rattle.ept_run.proofs.Refused.{stays}
use Rattle.ept_run.proofs.Parted.{rose_after}
use Rattle.ept_run.proofs.Ready.{ready_over, comes_over, never_comes}
use Rattle.ept_run.proofs.Merged.{unread_merge, unmerged, refused_foreign, came_after, between_of, sound_both, of_both}
use Rattle.ept_run.proofs.merging.merge_and_build.Goals as goal

-- ---- the configuration can't be read

pub returns-in_err-config-clause-comes_to : goal.returns-in_err-config-clause-comes_to
returns-in_err-config-clause-comes_to g c =
    let p = err_from_is_err_and c.from_residual.result c.from_residual.ensures.1 in
    rw (p.1, p.2) (unread_merge c.args.path.now c.args.parts.now (g.T.Store.files c.args.store.now) (BeginsWith g.M.File.SpillFile.held (g.H.Shelf.files c.args.shelf.now) (g.T.Store.files c.args.store.now) (g.T.Store.may_leave c.args.store.now)) (g.T.Store.files c.args.store.now) (IsSettled (g.T.Store.files c.args.store.now) (g.T.Store.may_leave c.args.store.now)) (Moves g.T.Store.files g.T.Store.may_leave g.T.Store.moment g.T.Store.image_since SameFiles c.args.store.now c.args.store.now) (Rose (g.H.Shelf.faults c.args.shelf.now) (g.H.Shelf.faults c.read_configuration.new.shelf)) (Rose (g.T.Store.faults c.args.store.now) (g.T.Store.faults c.args.store.now)) (Rose (g.M.Room.faults c.args.room.now) (g.M.Room.faults c.args.room.now)) (g.H.Shelf.files c.args.shelf.now) c.in_err-config.field-0.0
    c.in_err-config.ensures.causes c.in_err-config.ensures.refused (stays g.T.Store.files g.T.Store.may_leave g.T.Store.moment g.T.Store.image_since c.args.store.now)
    (λ is. c.read_configuration.ensures.cause.failed (c.in_err-config.was ∙ ap Err is)))

-- ---- the parts are not merged

pub returns-in_err-merge_parts-clause-comes_to : goal.returns-in_err-merge_parts-clause-comes_to
returns-in_err-merge_parts-clause-comes_to g c =
    let p = err_from_is_err_and c.from_residual-in_err-merge_parts.result c.from_residual-in_err-merge_parts.ensures.1 in
    let why = c.in_err-merge_parts.ensures.refused in
    let same = c.read_configuration.ensures.files in
    rw (p.1, p.2) (unmerged c.args.path.now c.args.parts.now (g.T.Store.files c.args.store.now) (BeginsWith g.M.File.SpillFile.held (g.H.Shelf.files c.args.shelf.now) (g.T.Store.files c.args.store.now) (g.T.Store.may_leave c.args.store.now)) (g.T.Store.files c.merge_parts.new.store) (IsSettled (g.T.Store.files c.merge_parts.new.store) (g.T.Store.may_leave c.merge_parts.new.store)) (Moves g.T.Store.files g.T.Store.may_leave g.T.Store.moment g.T.Store.image_since SameFiles c.args.store.now c.merge_parts.new.store) (Rose (g.H.Shelf.faults c.args.shelf.now) (g.H.Shelf.faults c.merge_parts.new.shelf)) (Rose (g.T.Store.faults c.args.store.now) (g.T.Store.faults c.merge_parts.new.store)) (Rose (g.M.Room.faults c.args.room.now) (g.M.Room.faults c.args.room.now)) (g.H.Shelf.files c.args.shelf.now) c.in_ok-config.config c.in_ok-config.ensures.ok c.in_err-merge_parts.field-0.0 why.0 why.1
    (subst (λ (o : Option Files). Tells (λ all. Tells (λ start. merging.IsRefused all start c.in_ok-config.config c.args.parts.now why.0) (g.T.Store.files c.args.store.now)) o) same why.2)
    (λ all start told stored ready. ready_over Summary c.merge_parts.result c.in_err-merge_parts.field-0.0 c.in_err-merge_parts.was (of_both (λ a s. merging.AreReady a s c.in_ok-config.config c.args.parts.now → IsOk c.merge_parts.result ⊎ FailsMerge c.merge_parts.result) (g.H.Shelf.files c.read_configuration.new.shelf) (g.T.Store.files c.args.store.now) all start (same ∙ told) stored c.merge_parts.ensures.ready ready))
    (λ all start told stored error definite refused. comes_over Summary c.merge_parts.result c.in_err-merge_parts.field-0.0 c.in_err-merge_parts.was (of_merge error) (of_both (λ a s. (e : MergeError) → merging.IsDefinite e → merging.IsRefused a s c.in_ok-config.config c.args.parts.now e → ReportsMerge (of_merge e) c.merge_parts.result ⊎ FailsMerge c.merge_parts.result) (g.H.Shelf.files c.read_configuration.new.shelf) (g.T.Store.files c.args.store.now) all start (same ∙ told) stored c.merge_parts.ensures.comes error definite refused))
    (λ all start told stored own. c.in_err-merge_parts.ensures.own all start (same ∙ told) stored own)
    c.in_err-merge_parts.ensures.early
    (λ is. rose_after (g.H.Shelf.faults c.args.shelf.now) (g.H.Shelf.faults c.read_configuration.new.shelf) (g.H.Shelf.faults c.merge_parts.new.shelf) c.read_configuration.ensures.cause.later (c.merge_parts.ensures.sources.failed (c.in_err-merge_parts.was ∙ ap (λ (r : MergeRefusal). Err r) is)))
    (λ is. c.merge_parts.ensures.stores.failed (c.in_err-merge_parts.was ∙ ap (λ (r : MergeRefusal). Err r) is)))

pub returns-in_err-merge_parts-clause-named : goal.returns-in_err-merge_parts-clause-named
returns-in_err-merge_parts-clause-named g c =
    let p = err_from_is_err_and c.from_residual-in_err-merge_parts.result c.from_residual-in_err-merge_parts.ensures.1 in
    let why = c.in_err-merge_parts.ensures.refused in
    rw (p.1, p.2) (λ is. refused_foreign c.in_err-merge_parts.field-0.0 why.0 why.1 (inl is))

pub returns-in_err-merge_parts-clause-sound : goal.returns-in_err-merge_parts-clause-sound
returns-in_err-merge_parts-clause-sound g c = λ all start begins sound.
    c.merge_parts.ensures.sound all start (c.read_configuration.ensures.files ∙ begins.shelf_told) begins.told begins.settled begins.sound sound

-- ---- they are, and the build follows

pub returns-clause-comes_to : goal.returns-clause-comes_to
returns-clause-comes_to g c =
    came_after c.args.path.now c.args.parts.now (g.T.Store.files c.args.store.now) (BeginsWith g.M.File.SpillFile.held (g.H.Shelf.files c.args.shelf.now) (g.T.Store.files c.args.store.now) (g.T.Store.may_leave c.args.store.now)) (g.T.Store.files c.build_merged.new.store) (IsSettled (g.T.Store.files c.build_merged.new.store) (g.T.Store.may_leave c.build_merged.new.store)) (Moves g.T.Store.files g.T.Store.may_leave g.T.Store.moment g.T.Store.image_since SameFiles c.args.store.now c.build_merged.new.store) (Rose (g.H.Shelf.faults c.args.shelf.now) (g.H.Shelf.faults c.build_merged.new.shelf)) (Rose (g.T.Store.faults c.args.store.now) (g.T.Store.faults c.build_merged.new.store)) (Rose (g.M.Room.faults c.args.room.now) (g.M.Room.faults c.build_merged.new.room)) (g.H.Shelf.files c.args.shelf.now) c.in_ok-config.config c.in_ok-config.ensures.ok
    (subst (λ (o : Option Files). Tells (λ all. Tells (λ start. merging.WereMerged all start c.in_ok-config.config c.args.parts.now) (g.T.Store.files c.args.store.now)) o) c.read_configuration.ensures.files c.in_ok-merge_parts.ensures.accepted)
    (λ all start told stored error definite refused. never_comes c.merge_parts.result _ c.in_ok-merge_parts.was (of_merge error) (of_both (λ a s. (e : MergeError) → merging.IsDefinite e → merging.IsRefused a s c.in_ok-config.config c.args.parts.now e → ReportsMerge (of_merge e) c.merge_parts.result ⊎ FailsMerge c.merge_parts.result) (g.H.Shelf.files c.read_configuration.new.shelf) (g.T.Store.files c.args.store.now) all start (c.read_configuration.ensures.files ∙ told) stored c.merge_parts.ensures.comes error definite refused))
    (BeginsWith g.M.File.SpillFile.held (g.H.Shelf.files c.merge_parts.new.shelf) (g.T.Store.files c.merge_parts.new.store) (g.T.Store.may_leave c.merge_parts.new.store)) (λ all between begins. begins.sound)
    (λ all start shelf begins sound.
    let told = c.read_configuration.ensures.files ∙ begins.shelf_told in
    between_of g.M.File.SpillFile.held all c.in_ok-config.config (g.H.Shelf.files c.args.shelf.now) (g.H.Shelf.files c.merge_parts.new.shelf) (g.T.Store.files c.args.store.now) (g.T.Store.files c.merge_parts.new.store) (g.T.Store.may_leave c.args.store.now) (g.T.Store.may_leave c.merge_parts.new.store) start
    (c.merge_parts.ensures.files ∙ c.read_configuration.ensures.files) begins (c.merge_parts.ensures.sound all start told begins.told begins.settled begins.sound sound).reads
    (subst (λ (o : Option Files). Tells (λ a. Tells (merging.HasMerged a c.in_ok-config.config) (g.T.Store.files c.merge_parts.new.store)) o) told c.in_ok-merge_parts.ensures.merged) c.in_ok-merge_parts.ensures.settled)
    c.build_merged.result c.build_merged.ensures.settled c.build_merged.ensures.built c.build_merged.ensures.refused c.build_merged.ensures.accepted
    (λ is. rose_after (g.H.Shelf.faults c.args.shelf.now) (g.H.Shelf.faults c.merge_parts.new.shelf) (g.H.Shelf.faults c.build_merged.new.shelf) (omega (arith, c.read_configuration.ensures.cause.later, c.merge_parts.ensures.sources.later)) (c.build_merged.ensures.sources.failed is))
    (λ is. rose_after (g.T.Store.faults c.args.store.now) (g.T.Store.faults c.merge_parts.new.store) (g.T.Store.faults c.build_merged.new.store) c.merge_parts.ensures.stores.later (c.build_merged.ensures.stores.failed is))
    c.build_merged.ensures.spills.failed

pub returns-clause-sound : goal.returns-clause-sound
returns-clause-sound g c = λ all start begins sound.
    let m =
    let told = c.read_configuration.ensures.files ∙ begins.shelf_told in
    between_of g.M.File.SpillFile.held all c.in_ok-config.config (g.H.Shelf.files c.args.shelf.now) (g.H.Shelf.files c.merge_parts.new.shelf) (g.T.Store.files c.args.store.now) (g.T.Store.files c.merge_parts.new.store) (g.T.Store.may_leave c.args.store.now) (g.T.Store.may_leave c.merge_parts.new.store) start
    (c.merge_parts.ensures.files ∙ c.read_configuration.ensures.files) begins (c.merge_parts.ensures.sound all start told begins.told begins.settled begins.sound sound).reads
    (subst (λ (o : Option Files). Tells (λ a. Tells (merging.HasMerged a c.in_ok-config.config) (g.T.Store.files c.merge_parts.new.store)) o) told c.in_ok-merge_parts.ensures.merged) c.in_ok-merge_parts.ensures.settled in
    sound_both g.T.Store.files g.T.Store.may_leave g.T.Store.moment g.T.Store.image_since all c.args.store.now c.merge_parts.new.store c.build_merged.new.store
    (c.merge_parts.ensures.sound all start (c.read_configuration.ensures.files ∙ begins.shelf_told) begins.told begins.settled begins.sound sound) (c.build_merged.ensures.sound all m.0 m.1)
