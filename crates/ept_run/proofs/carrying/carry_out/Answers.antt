use Rattle.std.proofs.Common.{◌≡◌, ◌⊎◌, map, string_bytes, refl, sym, inl, inr, ⊎_elim, subst, ℕ, List, None, Some, arith}
use Rattle.ept_base.specs.Causes.{Rose}
use Rattle.ept_command.specs.declared.ended.Failure.TheVariants.{Refused}
use Rattle.ept_command.specs.declared.refusal.Refusal.{Refusal}
use Rattle.ept_command.specs.declared.refusal.Refusal.TheVariants.{Usage, BadCheckpoint}
use Rattle.ept_run.specs.Requests.{IsDoneAt, ComesAt, DiffersAt, ComesToDamageAt, IsConfigured, HasSpilled, IsDefinite}
use Rattle.ept_run.specs.Answers.{YieldsRefusal, SaysOfStore, IsFaulty, IsRefused, EndsTrial, EndsWith}
use Rattle.ept_run.proofs.Runs.{Carries, some_or_none, ends_with, no_failure, never_usage, is_done, has_risen, is_refused, refusal_yields, accepted_yields, comes_yields, differs_yields, damage_yields, usage_yields, bad_configuration, carried_out}
use Rattle.ept_run.proofs.Asked.{told_always, one_build, of_build, build_or_info, build_carries, info_carries, info_accepted}
use Rattle.ept_build.specs.Building.{BeginsWith}
use Rattle.ept_base.specs.Files.{Files, SameFiles}
use Rattle.ept_base.specs.Moves.{Moves, IsSettled}
use Rattle.ept_run.proofs.Refused.{stays}
use Rattle.ept_run.proofs.Queried.{query_or_build, query_or_info, query_asked, query_unrefused, query_ends, query_not_usage, query_no_failure, query_rose, first_two}
use Rattle.ept_run.proofs.Tried.{trial_or_build, trial_or_info, trial_or_query, one_count, trial_carries, trial_ends, trial_yields}
use Rattle.ept_run.proofs.Selected.{select_ends}
use Rattle.ept_run.proofs.Checked.{check_not_usage, check_rose}
use Rattle.ept_part.specs.Files.{ChangesPart, IsPartSound}
use Rattle.ept_merge.specs.Merging.{AreAllParts, AreSoundParts}
use Rattle.ept_command.specs.Words.{IsPart, IsMerge}
use Rattle.ept_command.proofs.OctantTexts.{part_once}
use Rattle.ept_command.proofs.PartTexts.{merge_once}
use Rattle.ept_run.proofs.Merged.{merge_same, merge_comes}
use Rattle.ept_run.proofs.Parted.{ends_same, part_comes}
use Rattle.ept_run.proofs.Apart.{merge_or_build, merge_or_part, merge_or_info, merge_or_query, merge_or_select, merge_or_check, merge_or_trial, merge_asked, merge_unrefused, part_or_build, part_or_info, part_or_query, part_or_select, part_or_check, part_or_trial, part_asked, part_unrefused, select_or_build, select_or_info, select_or_query, select_or_trial, select_asked, select_unrefused, check_or_build, check_or_info, check_or_query, check_or_select, check_or_trial, check_asked, check_unrefused}
use Rattle.ept_run.proofs.Coming.{build_can, part_can, merge_can, info_can, query_can, check_can, trial_can, nothing_can}
use Rattle.ept_run.proofs.carrying.carry_out.Given as given
use Rattle.ept_run.proofs.carrying.carry_out.Goals as goal

-- ---- build

build_known : (g : given.Over) (c : goal.After-finish g) → Carries (map string_bytes c.args.words.now) (g.H.Shelf.files c.args.shelf.now) (BeginsWith g.M.File.SpillFile.held (g.H.Shelf.files c.args.shelf.now) (g.T.Store.files c.args.store.now) (g.T.Store.may_leave c.args.store.now)) (SaysOfStore (map string_bytes c.args.words.now) (g.H.Shelf.files c.args.shelf.now) (g.T.Store.files c.args.store.now) (g.T.Store.files c.build_line-line.new.store) (IsSettled (g.T.Store.files c.args.store.now) (g.T.Store.may_leave c.args.store.now))) (g.T.Store.files c.build_line-line.new.store) (Rose (g.H.Shelf.faults c.args.shelf.now) (g.H.Shelf.faults c.build_line-line.new.shelf)) (Rose (g.T.Store.faults c.args.store.now) (g.T.Store.faults c.build_line-line.new.store)) (Rose (g.M.Room.faults c.args.room.now) (g.M.Room.faults c.build_line-line.new.room)) (Moves g.T.Store.files g.T.Store.may_leave g.T.Store.moment g.T.Store.image_since SameFiles c.args.store.now c.build_line-line.new.store) c.build_line-line.result
build_known g c =
    build_carries (map string_bytes c.args.words.now) c.in-Build.config.now c.in-Build.out.now c.in-Build.ensures c.build_line-line.result (g.H.Shelf.files c.args.shelf.now) (g.T.Store.files c.args.store.now) (IsSettled (g.T.Store.files c.args.store.now) (g.T.Store.may_leave c.args.store.now)) (BeginsWith g.M.File.SpillFile.held (g.H.Shelf.files c.args.shelf.now) (g.T.Store.files c.args.store.now) (g.T.Store.may_leave c.args.store.now)) (g.T.Store.files c.build_line-line.new.store) (Rose (g.H.Shelf.faults c.args.shelf.now) (g.H.Shelf.faults c.build_line-line.new.shelf)) (Rose (g.T.Store.faults c.args.store.now) (g.T.Store.faults c.build_line-line.new.store)) (Rose (g.M.Room.faults c.args.room.now) (g.M.Room.faults c.build_line-line.new.room)) (Moves g.T.Store.files g.T.Store.may_leave g.T.Store.moment g.T.Store.image_since SameFiles c.args.store.now c.build_line-line.new.store)
    c.build_line-line.ensures.said c.build_line-line.ensures.built c.build_line-line.ensures.comes_to.causes c.build_line-line.ensures.comes_to.refused c.build_line-line.ensures.comes_to.of_store c.build_line-line.ensures.sources.failed c.build_line-line.ensures.stores.failed c.build_line-line.ensures.spills.failed
    c.build_line-line.ensures.comes_to.early c.build_line-line.ensures.comes_to.refusal_comes

build_ended : (g : given.Over) (c : goal.After-finish g) → EndsWith c.build_line-line.result c.finish.result.status (g.O.Sink.written c.args.out.now) (g.O.Sink.written c.finish.new.out) (Rose (g.O.Sink.faults c.args.out.now) (g.O.Sink.faults c.finish.new.out))
build_ended g c = ends_with c.finish.result.status (g.O.Sink.written c.args.out.now) (g.O.Sink.written c.finish.new.out) (Rose (g.O.Sink.faults c.args.out.now) (g.O.Sink.faults c.finish.new.out)) c.build_line-line.result c.finish.result.failure c.finish.ensures

pub returns-in-Build-clause-failure : goal.returns-in-Build-clause-failure
returns-in-Build-clause-failure g c = no_failure c.finish.result.status (g.O.Sink.written c.args.out.now) (g.O.Sink.written c.finish.new.out) (Rose (g.O.Sink.faults c.args.out.now) (g.O.Sink.faults c.finish.new.out)) c.build_line-line.result c.finish.result.failure c.finish.ensures

pub returns-in-Build-clause-usage : goal.returns-in-Build-clause-usage
returns-in-Build-clause-usage g c = (
  λ is. absurd (never_usage c.finish.result.status (g.O.Sink.written c.args.out.now) (g.O.Sink.written c.finish.new.out) (Rose (g.O.Sink.faults c.args.out.now) (g.O.Sink.faults c.finish.new.out)) c.build_line-line.result (build_known g c).named (build_ended g c) is),
  λ usage. absurd (usage.not_build c.in-Build.config.now c.in-Build.out.now c.in-Build.ensures),
)

pub returns-in-Build-clause-done : goal.returns-in-Build-clause-done
returns-in-Build-clause-done g c = λ ok. inl (is_done c.finish.result.status (g.O.Sink.written c.args.out.now) (g.O.Sink.written c.finish.new.out) (Rose (g.O.Sink.faults c.args.out.now) (g.O.Sink.faults c.finish.new.out)) (map string_bytes c.args.words.now) (g.H.Shelf.files c.args.shelf.now) (BeginsWith g.M.File.SpillFile.held (g.H.Shelf.files c.args.shelf.now) (g.T.Store.files c.args.store.now) (g.T.Store.may_leave c.args.store.now)) (SaysOfStore (map string_bytes c.args.words.now) (g.H.Shelf.files c.args.shelf.now) (g.T.Store.files c.args.store.now) (g.T.Store.files c.build_line-line.new.store) (IsSettled (g.T.Store.files c.args.store.now) (g.T.Store.may_leave c.args.store.now))) (g.T.Store.files c.build_line-line.new.store) (Rose (g.H.Shelf.faults c.args.shelf.now) (g.H.Shelf.faults c.build_line-line.new.shelf)) (Rose (g.T.Store.faults c.args.store.now) (g.T.Store.faults c.build_line-line.new.store)) (Rose (g.M.Room.faults c.args.room.now) (g.M.Room.faults c.build_line-line.new.room)) (Moves g.T.Store.files g.T.Store.may_leave g.T.Store.moment g.T.Store.image_since SameFiles c.args.store.now c.build_line-line.new.store) c.build_line-line.result (build_known g c) (build_ended g c) ok)

pub returns-in-Build-clause-refused : goal.returns-in-Build-clause-refused
returns-in-Build-clause-refused g c = λ not_ok. first_two (is_refused c.finish.result.status (g.O.Sink.written c.args.out.now) (g.O.Sink.written c.finish.new.out) (Rose (g.O.Sink.faults c.args.out.now) (g.O.Sink.faults c.finish.new.out)) (map string_bytes c.args.words.now) (g.H.Shelf.files c.args.shelf.now) (BeginsWith g.M.File.SpillFile.held (g.H.Shelf.files c.args.shelf.now) (g.T.Store.files c.args.store.now) (g.T.Store.may_leave c.args.store.now)) (SaysOfStore (map string_bytes c.args.words.now) (g.H.Shelf.files c.args.shelf.now) (g.T.Store.files c.args.store.now) (g.T.Store.files c.build_line-line.new.store) (IsSettled (g.T.Store.files c.args.store.now) (g.T.Store.may_leave c.args.store.now))) (g.T.Store.files c.build_line-line.new.store) (Rose (g.H.Shelf.faults c.args.shelf.now) (g.H.Shelf.faults c.build_line-line.new.shelf)) (Rose (g.T.Store.faults c.args.store.now) (g.T.Store.faults c.build_line-line.new.store)) (Rose (g.M.Room.faults c.args.room.now) (g.M.Room.faults c.build_line-line.new.room)) (Moves g.T.Store.files g.T.Store.may_leave g.T.Store.moment g.T.Store.image_since SameFiles c.args.store.now c.build_line-line.new.store) c.build_line-line.result c.finish.result.failure (build_known g c) c.finish.ensures not_ok)

pub returns-in-Build-clause-fault : goal.returns-in-Build-clause-fault
returns-in-Build-clause-fault g c =
    has_risen c.finish.result.status (g.O.Sink.written c.args.out.now) (g.O.Sink.written c.finish.new.out) (Rose (g.O.Sink.faults c.args.out.now) (g.O.Sink.faults c.finish.new.out)) (map string_bytes c.args.words.now) (g.H.Shelf.files c.args.shelf.now) (BeginsWith g.M.File.SpillFile.held (g.H.Shelf.files c.args.shelf.now) (g.T.Store.files c.args.store.now) (g.T.Store.may_leave c.args.store.now)) (SaysOfStore (map string_bytes c.args.words.now) (g.H.Shelf.files c.args.shelf.now) (g.T.Store.files c.args.store.now) (g.T.Store.files c.build_line-line.new.store) (IsSettled (g.T.Store.files c.args.store.now) (g.T.Store.may_leave c.args.store.now))) (g.T.Store.files c.build_line-line.new.store) (Rose (g.H.Shelf.faults c.args.shelf.now) (g.H.Shelf.faults c.build_line-line.new.shelf)) (Rose (g.T.Store.faults c.args.store.now) (g.T.Store.faults c.build_line-line.new.store)) (Rose (g.M.Room.faults c.args.room.now) (g.M.Room.faults c.build_line-line.new.room)) (Moves g.T.Store.files g.T.Store.may_leave g.T.Store.moment g.T.Store.image_since SameFiles c.args.store.now c.build_line-line.new.store) c.build_line-line.result (build_known g c) (build_ended g c)

pub returns-in-Build-clause-refusal_comes : goal.returns-in-Build-clause-refusal_comes
returns-in-Build-clause-refusal_comes g c =
    refusal_yields c.finish.result.status (g.O.Sink.written c.args.out.now) (g.O.Sink.written c.finish.new.out) (Rose (g.O.Sink.faults c.args.out.now) (g.O.Sink.faults c.finish.new.out)) c.build_line-line.result (g.H.Shelf.files c.args.shelf.now) (λ all r. IsFaulty (map string_bytes c.args.words.now) all r) (build_ended g c) (build_known g c).comes

pub returns-in-Build-clause-done_already : goal.returns-in-Build-clause-done_already
returns-in-Build-clause-done_already g c = λ all start begins asks.
    c.build_line-line.ensures.done_already all start begins (of_build (map string_bytes c.args.words.now) c.in-Build.config.now c.in-Build.out.now c.in-Build.ensures {P = IsDoneAt all start} asks)

pub returns-in-Build-clause-kept : goal.returns-in-Build-clause-kept
returns-in-Build-clause-kept g c = λ config folder is ok all start begins.
    subst (λ (p : List ℕ). HasSpilled all start (g.M.Room.keeps c.args.room.now) (g.M.Room.keeps c.build_line-line.new.room) p) (one_build (map string_bytes c.args.words.now) config folder c.in-Build.config.now c.in-Build.out.now is c.in-Build.ensures)
    (carried_out c.finish.result.status (g.O.Sink.written c.args.out.now) (g.O.Sink.written c.finish.new.out) (Rose (g.O.Sink.faults c.args.out.now) (g.O.Sink.faults c.finish.new.out)) c.build_line-line.result (c.build_line-line.ensures.kept all start begins) (build_ended g c) ok)

pub returns-in-Build-clause-others_put_nothing : goal.returns-in-Build-clause-others_put_nothing
returns-in-Build-clause-others_put_nothing g c = inl (record { path = c.in-Build.config.now; out = c.in-Build.out.now; words_are = c.in-Build.ensures; holds = tt })

pub returns-in-Build-clause-sound : goal.returns-in-Build-clause-sound
returns-in-Build-clause-sound g c = λ config folder is. c.build_line-line.ensures.sound

-- ---- info

info_known : (g : given.Over) (c : goal.After-finish-in-Info g) → Carries (map string_bytes c.args.words.now) (g.H.Shelf.files c.args.shelf.now) (BeginsWith g.M.File.SpillFile.held (g.H.Shelf.files c.args.shelf.now) (g.T.Store.files c.args.store.now) (g.T.Store.may_leave c.args.store.now)) (SaysOfStore (map string_bytes c.args.words.now) (g.H.Shelf.files c.args.shelf.now) (g.T.Store.files c.args.store.now) (g.T.Store.files c.args.store.now) (IsSettled (g.T.Store.files c.args.store.now) (g.T.Store.may_leave c.args.store.now))) (g.T.Store.files c.args.store.now) (Rose (g.H.Shelf.faults c.args.shelf.now) (g.H.Shelf.faults c.info_line-line.new.shelf)) (Rose (g.T.Store.faults c.args.store.now) (g.T.Store.faults c.args.store.now)) (Rose (g.M.Room.faults c.args.room.now) (g.M.Room.faults c.args.room.now)) (Moves g.T.Store.files g.T.Store.may_leave g.T.Store.moment g.T.Store.image_since SameFiles c.args.store.now c.args.store.now) c.info_line-line.result
info_known g c =
    info_carries (map string_bytes c.args.words.now) c.in-Info.las.now c.in-Info.ensures c.info_line-line.result (g.H.Shelf.files c.args.shelf.now) (g.T.Store.files c.args.store.now) (IsSettled (g.T.Store.files c.args.store.now) (g.T.Store.may_leave c.args.store.now)) (BeginsWith g.M.File.SpillFile.held (g.H.Shelf.files c.args.shelf.now) (g.T.Store.files c.args.store.now) (g.T.Store.may_leave c.args.store.now)) (g.T.Store.files c.args.store.now) (Rose (g.H.Shelf.faults c.args.shelf.now) (g.H.Shelf.faults c.info_line-line.new.shelf)) (Rose (g.T.Store.faults c.args.store.now) (g.T.Store.faults c.args.store.now)) (Rose (g.M.Room.faults c.args.room.now) (g.M.Room.faults c.args.room.now)) (Moves g.T.Store.files g.T.Store.may_leave g.T.Store.moment g.T.Store.image_since SameFiles c.args.store.now c.args.store.now) (stays g.T.Store.files g.T.Store.may_leave g.T.Store.moment g.T.Store.image_since c.args.store.now)
    c.info_line-line.ensures.said c.info_line-line.ensures.told c.info_line-line.ensures.causes c.info_line-line.ensures.refused c.info_line-line.ensures.sources.failed c.info_line-line.ensures.refusal_comes

info_ended : (g : given.Over) (c : goal.After-finish-in-Info g) → EndsWith c.info_line-line.result c.finish-in-Info.result.status (g.O.Sink.written c.args.out.now) (g.O.Sink.written c.finish-in-Info.new.out) (Rose (g.O.Sink.faults c.args.out.now) (g.O.Sink.faults c.finish-in-Info.new.out))
info_ended g c = ends_with c.finish-in-Info.result.status (g.O.Sink.written c.args.out.now) (g.O.Sink.written c.finish-in-Info.new.out) (Rose (g.O.Sink.faults c.args.out.now) (g.O.Sink.faults c.finish-in-Info.new.out)) c.info_line-line.result c.finish-in-Info.result.failure c.finish-in-Info.ensures

pub returns-in-Info-clause-failure : goal.returns-in-Info-clause-failure
returns-in-Info-clause-failure g c = no_failure c.finish-in-Info.result.status (g.O.Sink.written c.args.out.now) (g.O.Sink.written c.finish-in-Info.new.out) (Rose (g.O.Sink.faults c.args.out.now) (g.O.Sink.faults c.finish-in-Info.new.out)) c.info_line-line.result c.finish-in-Info.result.failure c.finish-in-Info.ensures

pub returns-in-Info-clause-usage : goal.returns-in-Info-clause-usage
returns-in-Info-clause-usage g c = (
  λ is. absurd (never_usage c.finish-in-Info.result.status (g.O.Sink.written c.args.out.now) (g.O.Sink.written c.finish-in-Info.new.out) (Rose (g.O.Sink.faults c.args.out.now) (g.O.Sink.faults c.finish-in-Info.new.out)) c.info_line-line.result (info_known g c).named (info_ended g c) is),
  λ usage. absurd (usage.not_info c.in-Info.las.now c.in-Info.ensures),
)

pub returns-in-Info-clause-done : goal.returns-in-Info-clause-done
returns-in-Info-clause-done g c = λ ok. inl (is_done c.finish-in-Info.result.status (g.O.Sink.written c.args.out.now) (g.O.Sink.written c.finish-in-Info.new.out) (Rose (g.O.Sink.faults c.args.out.now) (g.O.Sink.faults c.finish-in-Info.new.out)) (map string_bytes c.args.words.now) (g.H.Shelf.files c.args.shelf.now) (BeginsWith g.M.File.SpillFile.held (g.H.Shelf.files c.args.shelf.now) (g.T.Store.files c.args.store.now) (g.T.Store.may_leave c.args.store.now)) (SaysOfStore (map string_bytes c.args.words.now) (g.H.Shelf.files c.args.shelf.now) (g.T.Store.files c.args.store.now) (g.T.Store.files c.args.store.now) (IsSettled (g.T.Store.files c.args.store.now) (g.T.Store.may_leave c.args.store.now))) (g.T.Store.files c.args.store.now) (Rose (g.H.Shelf.faults c.args.shelf.now) (g.H.Shelf.faults c.info_line-line.new.shelf)) (Rose (g.T.Store.faults c.args.store.now) (g.T.Store.faults c.args.store.now)) (Rose (g.M.Room.faults c.args.room.now) (g.M.Room.faults c.args.room.now)) (Moves g.T.Store.files g.T.Store.may_leave g.T.Store.moment g.T.Store.image_since SameFiles c.args.store.now c.args.store.now) c.info_line-line.result (info_known g c) (info_ended g c) ok)

pub returns-in-Info-clause-refused : goal.returns-in-Info-clause-refused
returns-in-Info-clause-refused g c = λ not_ok. first_two (is_refused c.finish-in-Info.result.status (g.O.Sink.written c.args.out.now) (g.O.Sink.written c.finish-in-Info.new.out) (Rose (g.O.Sink.faults c.args.out.now) (g.O.Sink.faults c.finish-in-Info.new.out)) (map string_bytes c.args.words.now) (g.H.Shelf.files c.args.shelf.now) (BeginsWith g.M.File.SpillFile.held (g.H.Shelf.files c.args.shelf.now) (g.T.Store.files c.args.store.now) (g.T.Store.may_leave c.args.store.now)) (SaysOfStore (map string_bytes c.args.words.now) (g.H.Shelf.files c.args.shelf.now) (g.T.Store.files c.args.store.now) (g.T.Store.files c.args.store.now) (IsSettled (g.T.Store.files c.args.store.now) (g.T.Store.may_leave c.args.store.now))) (g.T.Store.files c.args.store.now) (Rose (g.H.Shelf.faults c.args.shelf.now) (g.H.Shelf.faults c.info_line-line.new.shelf)) (Rose (g.T.Store.faults c.args.store.now) (g.T.Store.faults c.args.store.now)) (Rose (g.M.Room.faults c.args.room.now) (g.M.Room.faults c.args.room.now)) (Moves g.T.Store.files g.T.Store.may_leave g.T.Store.moment g.T.Store.image_since SameFiles c.args.store.now c.args.store.now) c.info_line-line.result c.finish-in-Info.result.failure (info_known g c) c.finish-in-Info.ensures not_ok)

pub returns-in-Info-clause-fault : goal.returns-in-Info-clause-fault
returns-in-Info-clause-fault g c =
    has_risen c.finish-in-Info.result.status (g.O.Sink.written c.args.out.now) (g.O.Sink.written c.finish-in-Info.new.out) (Rose (g.O.Sink.faults c.args.out.now) (g.O.Sink.faults c.finish-in-Info.new.out)) (map string_bytes c.args.words.now) (g.H.Shelf.files c.args.shelf.now) (BeginsWith g.M.File.SpillFile.held (g.H.Shelf.files c.args.shelf.now) (g.T.Store.files c.args.store.now) (g.T.Store.may_leave c.args.store.now)) (SaysOfStore (map string_bytes c.args.words.now) (g.H.Shelf.files c.args.shelf.now) (g.T.Store.files c.args.store.now) (g.T.Store.files c.args.store.now) (IsSettled (g.T.Store.files c.args.store.now) (g.T.Store.may_leave c.args.store.now))) (g.T.Store.files c.args.store.now) (Rose (g.H.Shelf.faults c.args.shelf.now) (g.H.Shelf.faults c.info_line-line.new.shelf)) (Rose (g.T.Store.faults c.args.store.now) (g.T.Store.faults c.args.store.now)) (Rose (g.M.Room.faults c.args.room.now) (g.M.Room.faults c.args.room.now)) (Moves g.T.Store.files g.T.Store.may_leave g.T.Store.moment g.T.Store.image_since SameFiles c.args.store.now c.args.store.now) c.info_line-line.result (info_known g c) (info_ended g c)

pub returns-in-Info-clause-refusal_comes : goal.returns-in-Info-clause-refusal_comes
returns-in-Info-clause-refusal_comes g c =
    refusal_yields c.finish-in-Info.result.status (g.O.Sink.written c.args.out.now) (g.O.Sink.written c.finish-in-Info.new.out) (Rose (g.O.Sink.faults c.args.out.now) (g.O.Sink.faults c.finish-in-Info.new.out)) c.info_line-line.result (g.H.Shelf.files c.args.shelf.now) (λ all r. IsFaulty (map string_bytes c.args.words.now) all r) (info_ended g c) (info_known g c).comes

pub returns-in-Info-clause-done_already : goal.returns-in-Info-clause-done_already
returns-in-Info-clause-done_already g c = λ all start begins asks. stays g.T.Store.files g.T.Store.may_leave g.T.Store.moment g.T.Store.image_since c.args.store.now

pub returns-in-Info-clause-others_put_nothing : goal.returns-in-Info-clause-others_put_nothing
returns-in-Info-clause-others_put_nothing g c = inr (inr (stays g.T.Store.files g.T.Store.may_leave g.T.Store.moment g.T.Store.image_since c.args.store.now))

pub returns-in-Info-clause-sound : goal.returns-in-Info-clause-sound
returns-in-Info-clause-sound g c = λ config folder is. absurd (build_or_info (map string_bytes c.args.words.now) config folder c.in-Info.las.now is c.in-Info.ensures)

pub returns-in-Info-clause-kept : goal.returns-in-Info-clause-kept
returns-in-Info-clause-kept g c = λ config folder is ok all start begins. absurd (build_or_info (map string_bytes c.args.words.now) config folder c.in-Info.las.now is c.in-Info.ensures)

-- ---- words that are no command

pub returns-in-Usage-clause-kept : goal.returns-in-Usage-clause-kept
returns-in-Usage-clause-kept g c = λ config folder is ok all start begins. absurd (c.in-Usage.ensures.not_build config folder is)

pub returns-in-Usage-clause-done_already : goal.returns-in-Usage-clause-done_already
returns-in-Usage-clause-done_already g c = λ all start begins asks. stays g.T.Store.files g.T.Store.may_leave g.T.Store.moment g.T.Store.image_since c.args.store.now

pub returns-in-Usage-clause-others_put_nothing : goal.returns-in-Usage-clause-others_put_nothing
returns-in-Usage-clause-others_put_nothing g c = inr (inr (stays g.T.Store.files g.T.Store.may_leave g.T.Store.moment g.T.Store.image_since c.args.store.now))

pub returns-in-Usage-clause-sound : goal.returns-in-Usage-clause-sound
returns-in-Usage-clause-sound g c = λ config folder is. absurd (c.in-Usage.ensures.not_build config folder is)

pub returns-in-Usage-clause-failure : goal.returns-in-Usage-clause-failure
returns-in-Usage-clause-failure g c = (
  λ is. absurd (omega (arith, c.refuse_usage.ensures.status, is)),
  λ none. absurd (some_or_none (Refused Usage) c.refuse_usage.result.failure c.refuse_usage.ensures.failure none),
)

pub returns-in-Usage-clause-refused : goal.returns-in-Usage-clause-refused
returns-in-Usage-clause-refused g c = λ not_ok. inl (
  record {
    cause = Usage;
    status_is = sym c.refuse_usage.ensures.status;
    has_cause = told_always (λ all. IsRefused (map string_bytes c.args.words.now) all (BeginsWith g.M.File.SpillFile.held (g.H.Shelf.files c.args.shelf.now) (g.T.Store.files c.args.store.now) (g.T.Store.may_leave c.args.store.now)) Usage) (g.H.Shelf.files c.args.shelf.now) (λ all. inl (refl, c.in-Usage.ensures));
    of_store = λ path out is. absurd (c.in-Usage.ensures.not_build path out is);
    risen = tt;
    says = c.refuse_usage.ensures.says;
    early = λ early. stays g.T.Store.files g.T.Store.may_leave g.T.Store.moment g.T.Store.image_since c.args.store.now;
  },
  c.refuse_usage.ensures.failure,
)

pub returns-in-Usage-clause-refusal_comes : goal.returns-in-Usage-clause-refusal_comes
returns-in-Usage-clause-refusal_comes g c =
    usage_yields (g.H.Shelf.files c.args.shelf.now) (map string_bytes c.args.words.now) c.refuse_usage.result.status (g.O.Sink.written c.args.out.now) (g.O.Sink.written c.refuse_usage.new.out)
    (Rose (g.O.Sink.faults c.args.out.now) (g.O.Sink.faults c.refuse_usage.new.out)) c.in-Usage.ensures c.refuse_usage.ensures.status c.refuse_usage.ensures.says

-- ---- query

pub returns-in-Query-clause-failure : goal.returns-in-Query-clause-failure
returns-in-Query-clause-failure g c = query_no_failure c.answer_query.ensures.ends.0.answer c.answer_query.result.status c.answer_query.result.failure c.answer_query.ensures.ends.0.status_is c.answer_query.ensures.ends.1

pub returns-in-Query-clause-usage : goal.returns-in-Query-clause-usage
returns-in-Query-clause-usage g c = (
  λ is. absurd (query_not_usage None c.in-Query.area c.in-Query.depths.0 c.in-Query.depths.1 c.answer_query.result.status (g.T.Store.files c.args.store.now) (g.O.Sink.written c.args.out.now) (g.O.Sink.written c.answer_query.new.out) (Rose (g.T.Store.faults c.args.store.now) (g.T.Store.faults c.answer_query.new.store)) (Rose (g.O.Sink.faults c.args.out.now) (g.O.Sink.faults c.answer_query.new.out)) c.answer_query.ensures.ends.0 is),
  λ usage. absurd (usage.not_query c.in-Query.out.now c.in-Query.area c.in-Query.depths.0 c.in-Query.depths.1 c.in-Query.ensures),
)

pub returns-in-Query-clause-done : goal.returns-in-Query-clause-done
returns-in-Query-clause-done g c = λ ok. inr (inl (query_asked (map string_bytes c.args.words.now) c.in-Query.out.now c.in-Query.area c.in-Query.depths.0 c.in-Query.depths.1 c.in-Query.ensures))

pub returns-in-Query-clause-settled : goal.returns-in-Query-clause-settled
returns-in-Query-clause-settled g c = λ config folder is ok. absurd (query_or_build (map string_bytes c.args.words.now) c.in-Query.out.now c.in-Query.area c.in-Query.depths.0 c.in-Query.depths.1 c.in-Query.ensures config folder is)

pub returns-in-Query-clause-kept : goal.returns-in-Query-clause-kept
returns-in-Query-clause-kept g c = λ config folder is ok all start begins. absurd (query_or_build (map string_bytes c.args.words.now) c.in-Query.out.now c.in-Query.area c.in-Query.depths.0 c.in-Query.depths.1 c.in-Query.ensures config folder is)

pub returns-in-Query-clause-done_already : goal.returns-in-Query-clause-done_already
returns-in-Query-clause-done_already g c = λ all start begins asks. c.answer_query.ensures.any_moment

pub returns-in-Query-clause-others_put_nothing : goal.returns-in-Query-clause-others_put_nothing
returns-in-Query-clause-others_put_nothing g c = inr (inr c.answer_query.ensures.any_moment)

pub returns-in-Query-clause-sound : goal.returns-in-Query-clause-sound
returns-in-Query-clause-sound g c = λ config folder is. absurd (query_or_build (map string_bytes c.args.words.now) c.in-Query.out.now c.in-Query.area c.in-Query.depths.0 c.in-Query.depths.1 c.in-Query.ensures config folder is)

pub returns-in-Query-clause-query : goal.returns-in-Query-clause-query
returns-in-Query-clause-query g c = λ folder area first last is. query_ends c.query_words_law.ensures.one_box c.query_words_law.ensures.one_range (map string_bytes c.args.words.now) c.in-Query.out.now folder c.in-Query.area area c.in-Query.depths.0 c.in-Query.depths.1 first last c.answer_query.result.status c.answer_query.result.failure (g.T.Store.files c.args.store.now) (g.O.Sink.written c.args.out.now) (g.O.Sink.written c.answer_query.new.out) (Rose (g.T.Store.faults c.args.store.now) (g.T.Store.faults c.answer_query.new.store)) (Rose (g.O.Sink.faults c.args.out.now) (g.O.Sink.faults c.answer_query.new.out)) c.in-Query.ensures is c.answer_query.ensures.ends

pub returns-in-Query-clause-query_puts_nothing : goal.returns-in-Query-clause-query_puts_nothing
returns-in-Query-clause-query_puts_nothing g c = λ asks. c.answer_query.ensures.any_moment

pub returns-in-Query-clause-refused : goal.returns-in-Query-clause-refused
returns-in-Query-clause-refused g c = λ not_ok. inr (inr (inl (query_asked (map string_bytes c.args.words.now) c.in-Query.out.now c.in-Query.area c.in-Query.depths.0 c.in-Query.depths.1 c.in-Query.ensures)))

pub returns-in-Query-clause-refusal_comes : goal.returns-in-Query-clause-refusal_comes
returns-in-Query-clause-refusal_comes g c =
    told_always (λ all. (r : Refusal) → IsDefinite r → IsFaulty (map string_bytes c.args.words.now) all r → YieldsRefusal r c.answer_query.result.status (g.O.Sink.written c.args.out.now) (g.O.Sink.written c.answer_query.new.out) (Rose (g.O.Sink.faults c.args.out.now) (g.O.Sink.faults c.answer_query.new.out))) (g.H.Shelf.files c.args.shelf.now) (λ all r definite refused. absurd (query_unrefused (map string_bytes c.args.words.now) c.in-Query.out.now c.in-Query.area c.in-Query.depths.0 c.in-Query.depths.1 c.in-Query.ensures all r refused))

pub returns-in-Query-clause-fault : goal.returns-in-Query-clause-fault
returns-in-Query-clause-fault g c = λ is. ⊎_elim (λ store. inr (inl store)) (λ sink. inr (inr (inr sink))) (query_rose None c.in-Query.area c.in-Query.depths.0 c.in-Query.depths.1 c.answer_query.result.status (g.T.Store.files c.args.store.now) (g.O.Sink.written c.args.out.now) (g.O.Sink.written c.answer_query.new.out) (Rose (g.T.Store.faults c.args.store.now) (g.T.Store.faults c.answer_query.new.store)) (Rose (g.O.Sink.faults c.args.out.now) (g.O.Sink.faults c.answer_query.new.out)) c.answer_query.ensures.ends.0 is)

-- ---- no query

pub returns-in-Build-clause-query : goal.returns-in-Build-clause-query
returns-in-Build-clause-query g c = λ folder area first last is. absurd (query_or_build (map string_bytes c.args.words.now) folder area first last is c.in-Build.config.now c.in-Build.out.now c.in-Build.ensures)

pub returns-in-Build-clause-query_puts_nothing : goal.returns-in-Build-clause-query_puts_nothing
returns-in-Build-clause-query_puts_nothing g c = λ asks. absurd (query_or_build (map string_bytes c.args.words.now) asks.folder asks.area asks.first asks.last asks.words_are c.in-Build.config.now c.in-Build.out.now c.in-Build.ensures)

pub returns-in-Info-clause-query : goal.returns-in-Info-clause-query
returns-in-Info-clause-query g c = λ folder area first last is. absurd (query_or_info (map string_bytes c.args.words.now) folder area first last is c.in-Info.las.now c.in-Info.ensures)

pub returns-in-Info-clause-query_puts_nothing : goal.returns-in-Info-clause-query_puts_nothing
returns-in-Info-clause-query_puts_nothing g c = λ asks. absurd (query_or_info (map string_bytes c.args.words.now) asks.folder asks.area asks.first asks.last asks.words_are c.in-Info.las.now c.in-Info.ensures)

pub returns-in-Usage-clause-query : goal.returns-in-Usage-clause-query
returns-in-Usage-clause-query g c = λ folder area first last is. absurd (c.in-Usage.ensures.not_query folder area first last is)

pub returns-in-Usage-clause-query_puts_nothing : goal.returns-in-Usage-clause-query_puts_nothing
returns-in-Usage-clause-query_puts_nothing g c = λ asks. absurd (c.in-Usage.ensures.not_query asks.folder asks.area asks.first asks.last asks.words_are)

-- ---- a build that is refused

pub returns-in-Build-clause-build_refusal_comes : goal.returns-in-Build-clause-build_refusal_comes
returns-in-Build-clause-build_refusal_comes g c = λ all start begins r asks.
    comes_yields c.finish.result.status (g.O.Sink.written c.args.out.now) (g.O.Sink.written c.finish.new.out) (Rose (g.O.Sink.faults c.args.out.now) (g.O.Sink.faults c.finish.new.out)) c.build_line-line.result r (c.build_line-line.ensures.comes_to.comes all start begins r (of_build (map string_bytes c.args.words.now) c.in-Build.config.now c.in-Build.out.now c.in-Build.ensures {P = ComesAt all start r} asks)) (build_ended g c)

pub returns-in-Build-clause-differs_comes : goal.returns-in-Build-clause-differs_comes
returns-in-Build-clause-differs_comes g c = λ all start told stored asks.
    differs_yields c.finish.result.status (g.O.Sink.written c.args.out.now) (g.O.Sink.written c.finish.new.out) (Rose (g.O.Sink.faults c.args.out.now) (g.O.Sink.faults c.finish.new.out)) c.build_line-line.result (c.build_line-line.ensures.comes_to.differs_comes all start told stored (of_build (map string_bytes c.args.words.now) c.in-Build.config.now c.in-Build.out.now c.in-Build.ensures {P = DiffersAt all start} asks)) (build_ended g c)

pub returns-in-Build-clause-damaged_comes : goal.returns-in-Build-clause-damaged_comes
returns-in-Build-clause-damaged_comes g c = λ all start told stored asks.
    damage_yields c.finish.result.status (g.O.Sink.written c.args.out.now) (g.O.Sink.written c.finish.new.out) (Rose (g.O.Sink.faults c.args.out.now) (g.O.Sink.faults c.finish.new.out)) c.build_line-line.result (c.build_line-line.ensures.comes_to.damaged_comes all start told stored (of_build (map string_bytes c.args.words.now) c.in-Build.config.now c.in-Build.out.now c.in-Build.ensures {P = ComesToDamageAt all start} asks)) (build_ended g c)

pub returns-in-Build-clause-bad_comes : goal.returns-in-Build-clause-bad_comes
returns-in-Build-clause-bad_comes g c = λ all start letter told stored bad asks.
    comes_yields c.finish.result.status (g.O.Sink.written c.args.out.now) (g.O.Sink.written c.finish.new.out) (Rose (g.O.Sink.faults c.args.out.now) (g.O.Sink.faults c.finish.new.out)) c.build_line-line.result (BadCheckpoint letter) (c.build_line-line.ensures.comes_to.bad_comes all start letter told stored bad (of_build (map string_bytes c.args.words.now) c.in-Build.config.now c.in-Build.out.now c.in-Build.ensures {P = IsConfigured all} asks)) (build_ended g c)

pub returns-in-Usage-clause-build_refusal_comes : goal.returns-in-Usage-clause-build_refusal_comes
returns-in-Usage-clause-build_refusal_comes g c = λ all start begins r asks. absurd (c.in-Usage.ensures.not_build asks.path asks.out asks.words_are)

pub returns-in-Usage-clause-differs_comes : goal.returns-in-Usage-clause-differs_comes
returns-in-Usage-clause-differs_comes g c = λ all start told stored asks. absurd (c.in-Usage.ensures.not_build asks.path asks.out asks.words_are)

pub returns-in-Usage-clause-damaged_comes : goal.returns-in-Usage-clause-damaged_comes
returns-in-Usage-clause-damaged_comes g c = λ all start told stored asks. absurd (c.in-Usage.ensures.not_build asks.path asks.out asks.words_are)

pub returns-in-Usage-clause-bad_comes : goal.returns-in-Usage-clause-bad_comes
returns-in-Usage-clause-bad_comes g c = λ all start letter told stored bad asks. absurd (c.in-Usage.ensures.not_build asks.path asks.out asks.words_are)

pub returns-in-Info-clause-build_refusal_comes : goal.returns-in-Info-clause-build_refusal_comes
returns-in-Info-clause-build_refusal_comes g c = λ all start begins r asks. absurd (build_or_info (map string_bytes c.args.words.now) asks.path asks.out c.in-Info.las.now asks.words_are c.in-Info.ensures)

pub returns-in-Info-clause-differs_comes : goal.returns-in-Info-clause-differs_comes
returns-in-Info-clause-differs_comes g c = λ all start told stored asks. absurd (build_or_info (map string_bytes c.args.words.now) asks.path asks.out c.in-Info.las.now asks.words_are c.in-Info.ensures)

pub returns-in-Info-clause-damaged_comes : goal.returns-in-Info-clause-damaged_comes
returns-in-Info-clause-damaged_comes g c = λ all start told stored asks. absurd (build_or_info (map string_bytes c.args.words.now) asks.path asks.out c.in-Info.las.now asks.words_are c.in-Info.ensures)

pub returns-in-Info-clause-bad_comes : goal.returns-in-Info-clause-bad_comes
returns-in-Info-clause-bad_comes g c = λ all start letter told stored bad asks. absurd (build_or_info (map string_bytes c.args.words.now) asks.path asks.out c.in-Info.las.now asks.words_are c.in-Info.ensures)

pub returns-in-Query-clause-build_refusal_comes : goal.returns-in-Query-clause-build_refusal_comes
returns-in-Query-clause-build_refusal_comes g c = λ all start begins r asks. absurd (query_or_build (map string_bytes c.args.words.now) c.in-Query.out.now c.in-Query.area c.in-Query.depths.0 c.in-Query.depths.1 c.in-Query.ensures asks.path asks.out asks.words_are)

pub returns-in-Query-clause-differs_comes : goal.returns-in-Query-clause-differs_comes
returns-in-Query-clause-differs_comes g c = λ all start told stored asks. absurd (query_or_build (map string_bytes c.args.words.now) c.in-Query.out.now c.in-Query.area c.in-Query.depths.0 c.in-Query.depths.1 c.in-Query.ensures asks.path asks.out asks.words_are)

pub returns-in-Query-clause-damaged_comes : goal.returns-in-Query-clause-damaged_comes
returns-in-Query-clause-damaged_comes g c = λ all start told stored asks. absurd (query_or_build (map string_bytes c.args.words.now) c.in-Query.out.now c.in-Query.area c.in-Query.depths.0 c.in-Query.depths.1 c.in-Query.ensures asks.path asks.out asks.words_are)

pub returns-in-Query-clause-bad_comes : goal.returns-in-Query-clause-bad_comes
returns-in-Query-clause-bad_comes g c = λ all start letter told stored bad asks. absurd (query_or_build (map string_bytes c.args.words.now) c.in-Query.out.now c.in-Query.area c.in-Query.depths.0 c.in-Query.depths.1 c.in-Query.ensures asks.path asks.out asks.words_are)

-- ---- what is opened, and how much is read

pub returns-in-Build-clause-asked : goal.returns-in-Build-clause-asked
returns-in-Build-clause-asked g c = λ start told. inl (record { path = c.in-Build.config.now; out = c.in-Build.out.now; words_are = c.in-Build.ensures; holds = c.build_line-line.ensures.asked start told })

pub returns-in-Info-clause-asked : goal.returns-in-Info-clause-asked
returns-in-Info-clause-asked g c = λ start told. inr (inl (record { path = c.in-Info.las.now; words_are = c.in-Info.ensures; holds = c.info_line-line.ensures.asked }))

pub returns-in-Query-clause-asked : goal.returns-in-Query-clause-asked
returns-in-Query-clause-asked g c = λ start told. inr (inr (inr refl))

pub returns-in-Usage-clause-asked : goal.returns-in-Usage-clause-asked
returns-in-Usage-clause-asked g c = λ start told. inr (inr (inr refl))

pub returns-in-Build-clause-header_given : goal.returns-in-Build-clause-header_given
returns-in-Build-clause-header_given g c = λ las is. absurd (build_or_info (map string_bytes c.args.words.now) c.in-Build.config.now c.in-Build.out.now las c.in-Build.ensures is)

pub returns-in-Build-clause-configuration_given : goal.returns-in-Build-clause-configuration_given
returns-in-Build-clause-configuration_given g c = λ is.
    let bad = bad_configuration c.finish.result.status (g.O.Sink.written c.args.out.now) (g.O.Sink.written c.finish.new.out) (Rose (g.O.Sink.faults c.args.out.now) (g.O.Sink.faults c.finish.new.out)) c.build_line-line.result (build_ended g c) is in
    c.build_line-line.ensures.given bad.0 bad.1

-- ---- trial

trial_known : (g : given.Over) (c : goal.After-finish-in-Trial g) → Carries (map string_bytes c.args.words.now) (g.H.Shelf.files c.args.shelf.now) (BeginsWith g.M.File.SpillFile.held (g.H.Shelf.files c.args.shelf.now) (g.T.Store.files c.args.store.now) (g.T.Store.may_leave c.args.store.now)) (SaysOfStore (map string_bytes c.args.words.now) (g.H.Shelf.files c.args.shelf.now) (g.T.Store.files c.args.store.now) (g.T.Store.files c.args.store.now) (IsSettled (g.T.Store.files c.args.store.now) (g.T.Store.may_leave c.args.store.now))) (g.T.Store.files c.args.store.now) (Rose (g.H.Shelf.faults c.args.shelf.now) (g.H.Shelf.faults c.args.shelf.now)) (Rose (g.T.Store.faults c.args.store.now) (g.T.Store.faults c.args.store.now)) (Rose (g.M.Room.faults c.args.room.now) (g.M.Room.faults c.args.room.now)) (Moves g.T.Store.files g.T.Store.may_leave g.T.Store.moment g.T.Store.image_since SameFiles c.args.store.now c.args.store.now) c.trial_line-line.result
trial_known g c =
    trial_carries (map string_bytes c.args.words.now) c.in-Trial.points c.in-Trial.workers c.in-Trial.cache c.in-Trial.ensures c.trial_line-line.result c.trial_line-line.ensures.told c.trial_line-line.ensures.refused (g.H.Shelf.files c.args.shelf.now) (g.T.Store.files c.args.store.now) (IsSettled (g.T.Store.files c.args.store.now) (g.T.Store.may_leave c.args.store.now)) (BeginsWith g.M.File.SpillFile.held (g.H.Shelf.files c.args.shelf.now) (g.T.Store.files c.args.store.now) (g.T.Store.may_leave c.args.store.now)) (g.T.Store.files c.args.store.now) (Rose (g.H.Shelf.faults c.args.shelf.now) (g.H.Shelf.faults c.args.shelf.now)) (Rose (g.T.Store.faults c.args.store.now) (g.T.Store.faults c.args.store.now)) (Rose (g.M.Room.faults c.args.room.now) (g.M.Room.faults c.args.room.now)) (Moves g.T.Store.files g.T.Store.may_leave g.T.Store.moment g.T.Store.image_since SameFiles c.args.store.now c.args.store.now) (stays g.T.Store.files g.T.Store.may_leave g.T.Store.moment g.T.Store.image_since c.args.store.now)

trial_ended : (g : given.Over) (c : goal.After-finish-in-Trial g) → EndsWith c.trial_line-line.result c.finish-in-Trial.result.status (g.O.Sink.written c.args.out.now) (g.O.Sink.written c.finish-in-Trial.new.out) (Rose (g.O.Sink.faults c.args.out.now) (g.O.Sink.faults c.finish-in-Trial.new.out))
trial_ended g c = ends_with c.finish-in-Trial.result.status (g.O.Sink.written c.args.out.now) (g.O.Sink.written c.finish-in-Trial.new.out) (Rose (g.O.Sink.faults c.args.out.now) (g.O.Sink.faults c.finish-in-Trial.new.out)) c.trial_line-line.result c.finish-in-Trial.result.failure c.finish-in-Trial.ensures

pub returns-in-Trial-clause-failure : goal.returns-in-Trial-clause-failure
returns-in-Trial-clause-failure g c = no_failure c.finish-in-Trial.result.status (g.O.Sink.written c.args.out.now) (g.O.Sink.written c.finish-in-Trial.new.out) (Rose (g.O.Sink.faults c.args.out.now) (g.O.Sink.faults c.finish-in-Trial.new.out)) c.trial_line-line.result c.finish-in-Trial.result.failure c.finish-in-Trial.ensures

pub returns-in-Trial-clause-usage : goal.returns-in-Trial-clause-usage
returns-in-Trial-clause-usage g c = (
  λ is. absurd (never_usage c.finish-in-Trial.result.status (g.O.Sink.written c.args.out.now) (g.O.Sink.written c.finish-in-Trial.new.out) (Rose (g.O.Sink.faults c.args.out.now) (g.O.Sink.faults c.finish-in-Trial.new.out)) c.trial_line-line.result (trial_known g c).named (trial_ended g c) is),
  λ usage. absurd (usage.not_trial c.in-Trial.points c.in-Trial.workers c.in-Trial.cache c.in-Trial.ensures),
)

pub returns-in-Trial-clause-done : goal.returns-in-Trial-clause-done
returns-in-Trial-clause-done g c = λ ok. inl (is_done c.finish-in-Trial.result.status (g.O.Sink.written c.args.out.now) (g.O.Sink.written c.finish-in-Trial.new.out) (Rose (g.O.Sink.faults c.args.out.now) (g.O.Sink.faults c.finish-in-Trial.new.out)) (map string_bytes c.args.words.now) (g.H.Shelf.files c.args.shelf.now) (BeginsWith g.M.File.SpillFile.held (g.H.Shelf.files c.args.shelf.now) (g.T.Store.files c.args.store.now) (g.T.Store.may_leave c.args.store.now)) (SaysOfStore (map string_bytes c.args.words.now) (g.H.Shelf.files c.args.shelf.now) (g.T.Store.files c.args.store.now) (g.T.Store.files c.args.store.now) (IsSettled (g.T.Store.files c.args.store.now) (g.T.Store.may_leave c.args.store.now))) (g.T.Store.files c.args.store.now) (Rose (g.H.Shelf.faults c.args.shelf.now) (g.H.Shelf.faults c.args.shelf.now)) (Rose (g.T.Store.faults c.args.store.now) (g.T.Store.faults c.args.store.now)) (Rose (g.M.Room.faults c.args.room.now) (g.M.Room.faults c.args.room.now)) (Moves g.T.Store.files g.T.Store.may_leave g.T.Store.moment g.T.Store.image_since SameFiles c.args.store.now c.args.store.now) c.trial_line-line.result (trial_known g c) (trial_ended g c) ok)

pub returns-in-Trial-clause-refused : goal.returns-in-Trial-clause-refused
returns-in-Trial-clause-refused g c = λ not_ok. first_two (is_refused c.finish-in-Trial.result.status (g.O.Sink.written c.args.out.now) (g.O.Sink.written c.finish-in-Trial.new.out) (Rose (g.O.Sink.faults c.args.out.now) (g.O.Sink.faults c.finish-in-Trial.new.out)) (map string_bytes c.args.words.now) (g.H.Shelf.files c.args.shelf.now) (BeginsWith g.M.File.SpillFile.held (g.H.Shelf.files c.args.shelf.now) (g.T.Store.files c.args.store.now) (g.T.Store.may_leave c.args.store.now)) (SaysOfStore (map string_bytes c.args.words.now) (g.H.Shelf.files c.args.shelf.now) (g.T.Store.files c.args.store.now) (g.T.Store.files c.args.store.now) (IsSettled (g.T.Store.files c.args.store.now) (g.T.Store.may_leave c.args.store.now))) (g.T.Store.files c.args.store.now) (Rose (g.H.Shelf.faults c.args.shelf.now) (g.H.Shelf.faults c.args.shelf.now)) (Rose (g.T.Store.faults c.args.store.now) (g.T.Store.faults c.args.store.now)) (Rose (g.M.Room.faults c.args.room.now) (g.M.Room.faults c.args.room.now)) (Moves g.T.Store.files g.T.Store.may_leave g.T.Store.moment g.T.Store.image_since SameFiles c.args.store.now c.args.store.now) c.trial_line-line.result c.finish-in-Trial.result.failure (trial_known g c) c.finish-in-Trial.ensures not_ok)

pub returns-in-Trial-clause-fault : goal.returns-in-Trial-clause-fault
returns-in-Trial-clause-fault g c =
    has_risen c.finish-in-Trial.result.status (g.O.Sink.written c.args.out.now) (g.O.Sink.written c.finish-in-Trial.new.out) (Rose (g.O.Sink.faults c.args.out.now) (g.O.Sink.faults c.finish-in-Trial.new.out)) (map string_bytes c.args.words.now) (g.H.Shelf.files c.args.shelf.now) (BeginsWith g.M.File.SpillFile.held (g.H.Shelf.files c.args.shelf.now) (g.T.Store.files c.args.store.now) (g.T.Store.may_leave c.args.store.now)) (SaysOfStore (map string_bytes c.args.words.now) (g.H.Shelf.files c.args.shelf.now) (g.T.Store.files c.args.store.now) (g.T.Store.files c.args.store.now) (IsSettled (g.T.Store.files c.args.store.now) (g.T.Store.may_leave c.args.store.now))) (g.T.Store.files c.args.store.now) (Rose (g.H.Shelf.faults c.args.shelf.now) (g.H.Shelf.faults c.args.shelf.now)) (Rose (g.T.Store.faults c.args.store.now) (g.T.Store.faults c.args.store.now)) (Rose (g.M.Room.faults c.args.room.now) (g.M.Room.faults c.args.room.now)) (Moves g.T.Store.files g.T.Store.may_leave g.T.Store.moment g.T.Store.image_since SameFiles c.args.store.now c.args.store.now) c.trial_line-line.result (trial_known g c) (trial_ended g c)

pub returns-in-Trial-clause-refusal_comes : goal.returns-in-Trial-clause-refusal_comes
returns-in-Trial-clause-refusal_comes g c =
    refusal_yields c.finish-in-Trial.result.status (g.O.Sink.written c.args.out.now) (g.O.Sink.written c.finish-in-Trial.new.out) (Rose (g.O.Sink.faults c.args.out.now) (g.O.Sink.faults c.finish-in-Trial.new.out)) c.trial_line-line.result (g.H.Shelf.files c.args.shelf.now) (λ all r. IsFaulty (map string_bytes c.args.words.now) all r) (trial_ended g c) (trial_known g c).comes

pub returns-in-Trial-clause-trial : goal.returns-in-Trial-clause-trial
returns-in-Trial-clause-trial g c = λ count workers cache is.
    subst (λ (n : ℕ). EndsTrial n c.finish-in-Trial.result.status (g.O.Sink.written c.args.out.now) (g.O.Sink.written c.finish-in-Trial.new.out) (Rose (g.O.Sink.faults c.args.out.now) (g.O.Sink.faults c.finish-in-Trial.new.out))) (one_count (map string_bytes c.args.words.now) c.in-Trial.points c.in-Trial.workers c.in-Trial.cache c.in-Trial.ensures count workers cache is)
    (trial_ends c.in-Trial.points c.finish-in-Trial.result.status (g.O.Sink.written c.args.out.now) (g.O.Sink.written c.finish-in-Trial.new.out) (Rose (g.O.Sink.faults c.args.out.now) (g.O.Sink.faults c.finish-in-Trial.new.out)) c.trial_line-line.result c.trial_line-line.ensures.told c.trial_line-line.ensures.refused (trial_ended g c))

pub returns-in-Trial-clause-settled : goal.returns-in-Trial-clause-settled
returns-in-Trial-clause-settled g c = λ config folder is ok. absurd (trial_or_build (map string_bytes c.args.words.now) c.in-Trial.points c.in-Trial.workers c.in-Trial.cache c.in-Trial.ensures config folder is)

pub returns-in-Trial-clause-kept : goal.returns-in-Trial-clause-kept
returns-in-Trial-clause-kept g c = λ config folder is ok all start begins. absurd (trial_or_build (map string_bytes c.args.words.now) c.in-Trial.points c.in-Trial.workers c.in-Trial.cache c.in-Trial.ensures config folder is)

pub returns-in-Trial-clause-done_already : goal.returns-in-Trial-clause-done_already
returns-in-Trial-clause-done_already g c = λ all start begins asks. stays g.T.Store.files g.T.Store.may_leave g.T.Store.moment g.T.Store.image_since c.args.store.now

pub returns-in-Trial-clause-others_put_nothing : goal.returns-in-Trial-clause-others_put_nothing
returns-in-Trial-clause-others_put_nothing g c = inr (inr (stays g.T.Store.files g.T.Store.may_leave g.T.Store.moment g.T.Store.image_since c.args.store.now))

pub returns-in-Trial-clause-sound : goal.returns-in-Trial-clause-sound
returns-in-Trial-clause-sound g c = λ config folder is. absurd (trial_or_build (map string_bytes c.args.words.now) c.in-Trial.points c.in-Trial.workers c.in-Trial.cache c.in-Trial.ensures config folder is)

pub returns-in-Trial-clause-query : goal.returns-in-Trial-clause-query
returns-in-Trial-clause-query g c = λ folder area first last is. absurd (trial_or_query (map string_bytes c.args.words.now) c.in-Trial.points c.in-Trial.workers c.in-Trial.cache c.in-Trial.ensures folder area first last is)

pub returns-in-Trial-clause-query_puts_nothing : goal.returns-in-Trial-clause-query_puts_nothing
returns-in-Trial-clause-query_puts_nothing g c = λ asks. absurd (trial_or_query (map string_bytes c.args.words.now) c.in-Trial.points c.in-Trial.workers c.in-Trial.cache c.in-Trial.ensures asks.folder asks.area asks.first asks.last asks.words_are)

pub returns-in-Trial-clause-build_refusal_comes : goal.returns-in-Trial-clause-build_refusal_comes
returns-in-Trial-clause-build_refusal_comes g c = λ all start begins r asks. absurd (trial_or_build (map string_bytes c.args.words.now) c.in-Trial.points c.in-Trial.workers c.in-Trial.cache c.in-Trial.ensures asks.path asks.out asks.words_are)

pub returns-in-Trial-clause-differs_comes : goal.returns-in-Trial-clause-differs_comes
returns-in-Trial-clause-differs_comes g c = λ all start told stored asks. absurd (trial_or_build (map string_bytes c.args.words.now) c.in-Trial.points c.in-Trial.workers c.in-Trial.cache c.in-Trial.ensures asks.path asks.out asks.words_are)

pub returns-in-Trial-clause-damaged_comes : goal.returns-in-Trial-clause-damaged_comes
returns-in-Trial-clause-damaged_comes g c = λ all start told stored asks. absurd (trial_or_build (map string_bytes c.args.words.now) c.in-Trial.points c.in-Trial.workers c.in-Trial.cache c.in-Trial.ensures asks.path asks.out asks.words_are)

pub returns-in-Trial-clause-bad_comes : goal.returns-in-Trial-clause-bad_comes
returns-in-Trial-clause-bad_comes g c = λ all start letter told stored bad asks. absurd (trial_or_build (map string_bytes c.args.words.now) c.in-Trial.points c.in-Trial.workers c.in-Trial.cache c.in-Trial.ensures asks.path asks.out asks.words_are)

pub returns-in-Trial-clause-asked : goal.returns-in-Trial-clause-asked
returns-in-Trial-clause-asked g c = λ start told. inr (inr (inr refl))

-- ---- what can be done

pub returns-in-Build-clause-comes : goal.returns-in-Build-clause-comes
returns-in-Build-clause-comes g c =
    build_can (map string_bytes c.args.words.now) (g.H.Shelf.files c.args.shelf.now) (g.T.Store.files c.args.store.now) (BeginsWith g.M.File.SpillFile.held (g.H.Shelf.files c.args.shelf.now) (g.T.Store.files c.args.store.now) (g.T.Store.may_leave c.args.store.now)) c.finish.result.status (Rose (g.H.Shelf.faults c.args.shelf.now) (g.H.Shelf.faults c.build_line-line.new.shelf) ⊎ Rose (g.T.Store.faults c.args.store.now) (g.T.Store.faults c.build_line-line.new.store) ⊎ Rose (g.M.Room.faults c.args.room.now) (g.M.Room.faults c.build_line-line.new.room) ⊎ Rose (g.O.Sink.faults c.args.out.now) (g.O.Sink.faults c.finish.new.out)) (returns-in-Build-clause-fault g c)
    c.in-Build.config.now c.in-Build.out.now c.in-Build.ensures
    (λ all start begins asked. accepted_yields c.finish.result.status (g.O.Sink.written c.args.out.now) (g.O.Sink.written c.finish.new.out) (Rose (g.O.Sink.faults c.args.out.now) (g.O.Sink.faults c.finish.new.out)) c.build_line-line.result
    (⊎_elim (λ accepted. c.build_line-line.ensures.comes_to.accepted all start begins accepted) (λ done. c.build_line-line.ensures.comes_to.done_comes all start begins done) asked) (build_ended g c))

pub returns-in-Info-clause-comes : goal.returns-in-Info-clause-comes
returns-in-Info-clause-comes g c =
    info_can (map string_bytes c.args.words.now) (g.H.Shelf.files c.args.shelf.now) (g.T.Store.files c.args.store.now) (BeginsWith g.M.File.SpillFile.held (g.H.Shelf.files c.args.shelf.now) (g.T.Store.files c.args.store.now) (g.T.Store.may_leave c.args.store.now)) c.finish-in-Info.result.status (Rose (g.H.Shelf.faults c.args.shelf.now) (g.H.Shelf.faults c.info_line-line.new.shelf) ⊎ Rose (g.T.Store.faults c.args.store.now) (g.T.Store.faults c.args.store.now) ⊎ Rose (g.M.Room.faults c.args.room.now) (g.M.Room.faults c.args.room.now) ⊎ Rose (g.O.Sink.faults c.args.out.now) (g.O.Sink.faults c.finish-in-Info.new.out)) (returns-in-Info-clause-fault g c)
    c.in-Info.las.now c.in-Info.ensures
    (λ all header told asks. accepted_yields c.finish-in-Info.result.status (g.O.Sink.written c.args.out.now) (g.O.Sink.written c.finish-in-Info.new.out) (Rose (g.O.Sink.faults c.args.out.now) (g.O.Sink.faults c.finish-in-Info.new.out)) c.info_line-line.result
    (info_accepted (map string_bytes c.args.words.now) c.in-Info.las.now c.in-Info.ensures c.info_line-line.result (g.H.Shelf.files c.args.shelf.now) c.info_line-line.ensures.accepted all header told asks) (info_ended g c))

pub returns-in-Query-clause-comes : goal.returns-in-Query-clause-comes
returns-in-Query-clause-comes g c =
    query_can (map string_bytes c.args.words.now) (g.H.Shelf.files c.args.shelf.now) (g.T.Store.files c.args.store.now) (BeginsWith g.M.File.SpillFile.held (g.H.Shelf.files c.args.shelf.now) (g.T.Store.files c.args.store.now) (g.T.Store.may_leave c.args.store.now)) c.answer_query.result.status (Rose (g.H.Shelf.faults c.args.shelf.now) (g.H.Shelf.faults c.args.shelf.now) ⊎ Rose (g.T.Store.faults c.args.store.now) (g.T.Store.faults c.answer_query.new.store) ⊎ Rose (g.M.Room.faults c.args.room.now) (g.M.Room.faults c.args.room.now) ⊎ Rose (g.O.Sink.faults c.args.out.now) (g.O.Sink.faults c.answer_query.new.out)) (returns-in-Query-clause-fault g c)
    None c.in-Query.area c.in-Query.depths.0 c.in-Query.depths.1 (g.O.Sink.written c.args.out.now) (g.O.Sink.written c.answer_query.new.out) (Rose (g.T.Store.faults c.args.store.now) (g.T.Store.faults c.answer_query.new.store)) (Rose (g.O.Sink.faults c.args.out.now) (g.O.Sink.faults c.answer_query.new.out))
    (query_asked (map string_bytes c.args.words.now) c.in-Query.out.now c.in-Query.area c.in-Query.depths.0 c.in-Query.depths.1 c.in-Query.ensures) c.answer_query.ensures.ends.0

pub returns-in-Trial-clause-comes : goal.returns-in-Trial-clause-comes
returns-in-Trial-clause-comes g c =
    trial_can (map string_bytes c.args.words.now) (g.H.Shelf.files c.args.shelf.now) (g.T.Store.files c.args.store.now) (BeginsWith g.M.File.SpillFile.held (g.H.Shelf.files c.args.shelf.now) (g.T.Store.files c.args.store.now) (g.T.Store.may_leave c.args.store.now)) c.finish-in-Trial.result.status (Rose (g.H.Shelf.faults c.args.shelf.now) (g.H.Shelf.faults c.args.shelf.now) ⊎ Rose (g.T.Store.faults c.args.store.now) (g.T.Store.faults c.args.store.now) ⊎ Rose (g.M.Room.faults c.args.room.now) (g.M.Room.faults c.args.room.now) ⊎ Rose (g.O.Sink.faults c.args.out.now) (g.O.Sink.faults c.finish-in-Trial.new.out)) (returns-in-Trial-clause-fault g c)
    c.in-Trial.points c.in-Trial.workers c.in-Trial.cache c.in-Trial.ensures
    (trial_yields c.in-Trial.points c.finish-in-Trial.result.status (g.O.Sink.written c.args.out.now) (g.O.Sink.written c.finish-in-Trial.new.out) (Rose (g.O.Sink.faults c.args.out.now) (g.O.Sink.faults c.finish-in-Trial.new.out))
    (trial_ends c.in-Trial.points c.finish-in-Trial.result.status (g.O.Sink.written c.args.out.now) (g.O.Sink.written c.finish-in-Trial.new.out) (Rose (g.O.Sink.faults c.args.out.now) (g.O.Sink.faults c.finish-in-Trial.new.out)) c.trial_line-line.result c.trial_line-line.ensures.told c.trial_line-line.ensures.refused (trial_ended g c)))

pub returns-in-Usage-clause-comes : goal.returns-in-Usage-clause-comes
returns-in-Usage-clause-comes g c = λ can. absurd (nothing_can (map string_bytes c.args.words.now) (g.H.Shelf.files c.args.shelf.now) (g.T.Store.files c.args.store.now) (BeginsWith g.M.File.SpillFile.held (g.H.Shelf.files c.args.shelf.now) (g.T.Store.files c.args.store.now) (g.T.Store.may_leave c.args.store.now)) c.in-Usage.ensures can)

-- ---- no trial

pub returns-in-Build-clause-trial : goal.returns-in-Build-clause-trial
returns-in-Build-clause-trial g c = λ count workers cache is. absurd (trial_or_build (map string_bytes c.args.words.now) count workers cache is c.in-Build.config.now c.in-Build.out.now c.in-Build.ensures)

pub returns-in-Info-clause-trial : goal.returns-in-Info-clause-trial
returns-in-Info-clause-trial g c = λ count workers cache is. absurd (trial_or_info (map string_bytes c.args.words.now) count workers cache is c.in-Info.las.now c.in-Info.ensures)

pub returns-in-Query-clause-trial : goal.returns-in-Query-clause-trial
returns-in-Query-clause-trial g c = λ count workers cache is. absurd (trial_or_query (map string_bytes c.args.words.now) count workers cache is c.in-Query.out.now c.in-Query.area c.in-Query.depths.0 c.in-Query.depths.1 c.in-Query.ensures)

pub returns-in-Usage-clause-trial : goal.returns-in-Usage-clause-trial
returns-in-Usage-clause-trial g c = λ count workers cache is. absurd (c.in-Usage.ensures.not_trial count workers cache is)

-- ---- which devices stay as they were

pub returns-in-Build-clause-same_store : goal.returns-in-Build-clause-same_store
returns-in-Build-clause-same_store g c = inl (record { path = c.in-Build.config.now; out = c.in-Build.out.now; words_are = c.in-Build.ensures; holds = tt })

pub returns-in-Info-clause-same_store : goal.returns-in-Info-clause-same_store
returns-in-Info-clause-same_store g c = inr (inr refl)

pub returns-in-Query-clause-same_store : goal.returns-in-Query-clause-same_store
returns-in-Query-clause-same_store g c = inr (inl (inl (query_asked (map string_bytes c.args.words.now) c.in-Query.out.now c.in-Query.area c.in-Query.depths.0 c.in-Query.depths.1 c.in-Query.ensures)))

pub returns-in-Trial-clause-same_store : goal.returns-in-Trial-clause-same_store
returns-in-Trial-clause-same_store g c = inr (inr refl)

pub returns-in-Usage-clause-same_store : goal.returns-in-Usage-clause-same_store
returns-in-Usage-clause-same_store g c = inr (inr refl)

pub returns-in-Build-clause-same_shelf : goal.returns-in-Build-clause-same_shelf
returns-in-Build-clause-same_shelf g c = inl (record { path = c.in-Build.config.now; out = c.in-Build.out.now; words_are = c.in-Build.ensures; holds = tt })

pub returns-in-Info-clause-same_shelf : goal.returns-in-Info-clause-same_shelf
returns-in-Info-clause-same_shelf g c = inr (inl (record { path = c.in-Info.las.now; words_are = c.in-Info.ensures; holds = tt }))

pub returns-in-Query-clause-same_shelf : goal.returns-in-Query-clause-same_shelf
returns-in-Query-clause-same_shelf g c = inr (inr (inr refl))

pub returns-in-Trial-clause-same_shelf : goal.returns-in-Trial-clause-same_shelf
returns-in-Trial-clause-same_shelf g c = inr (inr (inr refl))

pub returns-in-Usage-clause-same_shelf : goal.returns-in-Usage-clause-same_shelf
returns-in-Usage-clause-same_shelf g c = inr (inr (inr refl))

pub returns-in-Build-clause-same_room : goal.returns-in-Build-clause-same_room
returns-in-Build-clause-same_room g c = inl (record { path = c.in-Build.config.now; out = c.in-Build.out.now; words_are = c.in-Build.ensures; holds = tt })

pub returns-in-Info-clause-same_room : goal.returns-in-Info-clause-same_room
returns-in-Info-clause-same_room g c = inr (inr refl)

pub returns-in-Query-clause-same_room : goal.returns-in-Query-clause-same_room
returns-in-Query-clause-same_room g c = inr (inr refl)

pub returns-in-Trial-clause-same_room : goal.returns-in-Trial-clause-same_room
returns-in-Trial-clause-same_room g c = inr (inr refl)

pub returns-in-Usage-clause-same_room : goal.returns-in-Usage-clause-same_room
returns-in-Usage-clause-same_room g c = inr (inr refl)

-- ---- select

pub returns-in-Select-clause-done : goal.returns-in-Select-clause-done
returns-in-Select-clause-done g c = λ ok. inr (inl (select_asked (map string_bytes c.args.words.now) c.in-Select.out.now c.in-Select.area c.in-Select.depths.0 c.in-Select.depths.1 c.in-Select.sift c.in-Select.ensures))

pub returns-in-Select-clause-settled : goal.returns-in-Select-clause-settled
returns-in-Select-clause-settled g c = λ config folder is ok. absurd (select_or_build (map string_bytes c.args.words.now) c.in-Select.out.now c.in-Select.area c.in-Select.depths.0 c.in-Select.depths.1 c.in-Select.sift c.in-Select.ensures config folder is)

pub returns-in-Select-clause-kept : goal.returns-in-Select-clause-kept
returns-in-Select-clause-kept g c = λ config folder is ok all start begins. absurd (select_or_build (map string_bytes c.args.words.now) c.in-Select.out.now c.in-Select.area c.in-Select.depths.0 c.in-Select.depths.1 c.in-Select.sift c.in-Select.ensures config folder is)

pub returns-in-Select-clause-done_already : goal.returns-in-Select-clause-done_already
returns-in-Select-clause-done_already g c = λ all start begins asks. c.answer_select.ensures.any_moment

pub returns-in-Select-clause-others_put_nothing : goal.returns-in-Select-clause-others_put_nothing
returns-in-Select-clause-others_put_nothing g c = inr (inr c.answer_select.ensures.any_moment)

pub returns-in-Select-clause-sound : goal.returns-in-Select-clause-sound
returns-in-Select-clause-sound g c = λ config folder is. absurd (select_or_build (map string_bytes c.args.words.now) c.in-Select.out.now c.in-Select.area c.in-Select.depths.0 c.in-Select.depths.1 c.in-Select.sift c.in-Select.ensures config folder is)

pub returns-in-Select-clause-query : goal.returns-in-Select-clause-query
returns-in-Select-clause-query g c = λ folder area first last is. absurd (select_or_query (map string_bytes c.args.words.now) c.in-Select.out.now c.in-Select.area c.in-Select.depths.0 c.in-Select.depths.1 c.in-Select.sift c.in-Select.ensures folder area first last is)

pub returns-in-Select-clause-query_puts_nothing : goal.returns-in-Select-clause-query_puts_nothing
returns-in-Select-clause-query_puts_nothing g c = λ asks. c.answer_select.ensures.any_moment

pub returns-in-Select-clause-trial : goal.returns-in-Select-clause-trial
returns-in-Select-clause-trial g c = λ count workers cache is. absurd (select_or_trial (map string_bytes c.args.words.now) c.in-Select.out.now c.in-Select.area c.in-Select.depths.0 c.in-Select.depths.1 c.in-Select.sift c.in-Select.ensures count workers cache is)

pub returns-in-Select-clause-refused : goal.returns-in-Select-clause-refused
returns-in-Select-clause-refused g c = λ not_ok. inr (inr (inl (select_asked (map string_bytes c.args.words.now) c.in-Select.out.now c.in-Select.area c.in-Select.depths.0 c.in-Select.depths.1 c.in-Select.sift c.in-Select.ensures)))

pub returns-in-Select-clause-refusal_comes : goal.returns-in-Select-clause-refusal_comes
returns-in-Select-clause-refusal_comes g c =
    told_always (λ all. (r : Refusal) → IsDefinite r → IsFaulty (map string_bytes c.args.words.now) all r → YieldsRefusal r c.answer_select.result.status (g.O.Sink.written c.args.out.now) (g.O.Sink.written c.answer_select.new.out) (Rose (g.O.Sink.faults c.args.out.now) (g.O.Sink.faults c.answer_select.new.out))) (g.H.Shelf.files c.args.shelf.now) (λ all r definite refused. absurd (select_unrefused (map string_bytes c.args.words.now) c.in-Select.out.now c.in-Select.area c.in-Select.depths.0 c.in-Select.depths.1 c.in-Select.sift c.in-Select.ensures all r refused))

pub returns-in-Select-clause-build_refusal_comes : goal.returns-in-Select-clause-build_refusal_comes
returns-in-Select-clause-build_refusal_comes g c = λ all start begins r asks. absurd (select_or_build (map string_bytes c.args.words.now) c.in-Select.out.now c.in-Select.area c.in-Select.depths.0 c.in-Select.depths.1 c.in-Select.sift c.in-Select.ensures asks.path asks.out asks.words_are)

pub returns-in-Select-clause-differs_comes : goal.returns-in-Select-clause-differs_comes
returns-in-Select-clause-differs_comes g c = λ all start told stored asks. absurd (select_or_build (map string_bytes c.args.words.now) c.in-Select.out.now c.in-Select.area c.in-Select.depths.0 c.in-Select.depths.1 c.in-Select.sift c.in-Select.ensures asks.path asks.out asks.words_are)

pub returns-in-Select-clause-damaged_comes : goal.returns-in-Select-clause-damaged_comes
returns-in-Select-clause-damaged_comes g c = λ all start told stored asks. absurd (select_or_build (map string_bytes c.args.words.now) c.in-Select.out.now c.in-Select.area c.in-Select.depths.0 c.in-Select.depths.1 c.in-Select.sift c.in-Select.ensures asks.path asks.out asks.words_are)

pub returns-in-Select-clause-bad_comes : goal.returns-in-Select-clause-bad_comes
returns-in-Select-clause-bad_comes g c = λ all start letter told stored bad asks. absurd (select_or_build (map string_bytes c.args.words.now) c.in-Select.out.now c.in-Select.area c.in-Select.depths.0 c.in-Select.depths.1 c.in-Select.sift c.in-Select.ensures asks.path asks.out asks.words_are)

pub returns-in-Select-clause-asked : goal.returns-in-Select-clause-asked
returns-in-Select-clause-asked g c = λ start told. inr (inr (inr refl))

pub returns-in-Select-clause-same_store : goal.returns-in-Select-clause-same_store
returns-in-Select-clause-same_store g c = inr (inl (inl (select_asked (map string_bytes c.args.words.now) c.in-Select.out.now c.in-Select.area c.in-Select.depths.0 c.in-Select.depths.1 c.in-Select.sift c.in-Select.ensures)))

pub returns-in-Select-clause-same_shelf : goal.returns-in-Select-clause-same_shelf
returns-in-Select-clause-same_shelf g c = inr (inr (inr refl))

pub returns-in-Select-clause-same_room : goal.returns-in-Select-clause-same_room
returns-in-Select-clause-same_room g c = inr (inr refl)

pub returns-in-Select-clause-failure : goal.returns-in-Select-clause-failure
returns-in-Select-clause-failure g c = query_no_failure c.answer_select.ensures.ends.0.answer c.answer_select.result.status c.answer_select.result.failure c.answer_select.ensures.ends.0.status_is c.answer_select.ensures.ends.1

pub returns-in-Select-clause-usage : goal.returns-in-Select-clause-usage
returns-in-Select-clause-usage g c = (
  λ is. absurd (query_not_usage (Some c.in-Select.sift) c.in-Select.area c.in-Select.depths.0 c.in-Select.depths.1 c.answer_select.result.status (g.T.Store.files c.args.store.now) (g.O.Sink.written c.args.out.now) (g.O.Sink.written c.answer_select.new.out) (Rose (g.T.Store.faults c.args.store.now) (g.T.Store.faults c.answer_select.new.store)) (Rose (g.O.Sink.faults c.args.out.now) (g.O.Sink.faults c.answer_select.new.out)) c.answer_select.ensures.ends.0 is),
  λ usage. absurd (usage.not_select c.in-Select.out.now c.in-Select.area c.in-Select.depths.0 c.in-Select.depths.1 c.in-Select.sift c.in-Select.ensures),
)

pub returns-in-Select-clause-fault : goal.returns-in-Select-clause-fault
returns-in-Select-clause-fault g c = λ is. ⊎_elim (λ store. inr (inl store)) (λ sink. inr (inr (inr sink))) (query_rose (Some c.in-Select.sift) c.in-Select.area c.in-Select.depths.0 c.in-Select.depths.1 c.answer_select.result.status (g.T.Store.files c.args.store.now) (g.O.Sink.written c.args.out.now) (g.O.Sink.written c.answer_select.new.out) (Rose (g.T.Store.faults c.args.store.now) (g.T.Store.faults c.answer_select.new.store)) (Rose (g.O.Sink.faults c.args.out.now) (g.O.Sink.faults c.answer_select.new.out)) c.answer_select.ensures.ends.0 is)

pub returns-in-Select-clause-select : goal.returns-in-Select-clause-select
returns-in-Select-clause-select g c = λ folder area first last sift is. select_ends c.query_words_law-in-Select.ensures.one_box c.query_words_law-in-Select.ensures.one_range c.sift_text_law.ensures.once (map string_bytes c.args.words.now) c.in-Select.out.now folder c.in-Select.area area c.in-Select.depths.0 c.in-Select.depths.1 first last c.in-Select.sift sift c.answer_select.result.status c.answer_select.result.failure (g.T.Store.files c.args.store.now) (g.O.Sink.written c.args.out.now) (g.O.Sink.written c.answer_select.new.out) (Rose (g.T.Store.faults c.args.store.now) (g.T.Store.faults c.answer_select.new.store)) (Rose (g.O.Sink.faults c.args.out.now) (g.O.Sink.faults c.answer_select.new.out)) c.in-Select.ensures is c.answer_select.ensures.ends

pub returns-in-Select-clause-check : goal.returns-in-Select-clause-check
returns-in-Select-clause-check g c = λ folder is. absurd (check_or_select (map string_bytes c.args.words.now) folder is c.in-Select.out.now c.in-Select.area c.in-Select.depths.0 c.in-Select.depths.1 c.in-Select.sift c.in-Select.ensures)

pub returns-in-Select-clause-comes : goal.returns-in-Select-clause-comes
returns-in-Select-clause-comes g c =
    query_can (map string_bytes c.args.words.now) (g.H.Shelf.files c.args.shelf.now) (g.T.Store.files c.args.store.now) (BeginsWith g.M.File.SpillFile.held (g.H.Shelf.files c.args.shelf.now) (g.T.Store.files c.args.store.now) (g.T.Store.may_leave c.args.store.now)) c.answer_select.result.status (Rose (g.H.Shelf.faults c.args.shelf.now) (g.H.Shelf.faults c.args.shelf.now) ⊎ Rose (g.T.Store.faults c.args.store.now) (g.T.Store.faults c.answer_select.new.store) ⊎ Rose (g.M.Room.faults c.args.room.now) (g.M.Room.faults c.args.room.now) ⊎ Rose (g.O.Sink.faults c.args.out.now) (g.O.Sink.faults c.answer_select.new.out)) (returns-in-Select-clause-fault g c)
    (Some c.in-Select.sift) c.in-Select.area c.in-Select.depths.0 c.in-Select.depths.1 (g.O.Sink.written c.args.out.now) (g.O.Sink.written c.answer_select.new.out) (Rose (g.T.Store.faults c.args.store.now) (g.T.Store.faults c.answer_select.new.store)) (Rose (g.O.Sink.faults c.args.out.now) (g.O.Sink.faults c.answer_select.new.out))
    (select_asked (map string_bytes c.args.words.now) c.in-Select.out.now c.in-Select.area c.in-Select.depths.0 c.in-Select.depths.1 c.in-Select.sift c.in-Select.ensures) c.answer_select.ensures.ends.0

-- ---- check

pub returns-in-Check-clause-done : goal.returns-in-Check-clause-done
returns-in-Check-clause-done g c = λ ok. inr (inl (check_asked (map string_bytes c.args.words.now) c.in-Check.out.now c.in-Check.ensures))

pub returns-in-Check-clause-settled : goal.returns-in-Check-clause-settled
returns-in-Check-clause-settled g c = λ config folder is ok. absurd (check_or_build (map string_bytes c.args.words.now) c.in-Check.out.now c.in-Check.ensures config folder is)

pub returns-in-Check-clause-kept : goal.returns-in-Check-clause-kept
returns-in-Check-clause-kept g c = λ config folder is ok all start begins. absurd (check_or_build (map string_bytes c.args.words.now) c.in-Check.out.now c.in-Check.ensures config folder is)

pub returns-in-Check-clause-done_already : goal.returns-in-Check-clause-done_already
returns-in-Check-clause-done_already g c = λ all start begins asks. c.answer_check.ensures.any_moment

pub returns-in-Check-clause-others_put_nothing : goal.returns-in-Check-clause-others_put_nothing
returns-in-Check-clause-others_put_nothing g c = inr (inr c.answer_check.ensures.any_moment)

pub returns-in-Check-clause-sound : goal.returns-in-Check-clause-sound
returns-in-Check-clause-sound g c = λ config folder is. absurd (check_or_build (map string_bytes c.args.words.now) c.in-Check.out.now c.in-Check.ensures config folder is)

pub returns-in-Check-clause-query : goal.returns-in-Check-clause-query
returns-in-Check-clause-query g c = λ folder area first last is. absurd (check_or_query (map string_bytes c.args.words.now) c.in-Check.out.now c.in-Check.ensures folder area first last is)

pub returns-in-Check-clause-query_puts_nothing : goal.returns-in-Check-clause-query_puts_nothing
returns-in-Check-clause-query_puts_nothing g c = λ asks. c.answer_check.ensures.any_moment

pub returns-in-Check-clause-trial : goal.returns-in-Check-clause-trial
returns-in-Check-clause-trial g c = λ count workers cache is. absurd (check_or_trial (map string_bytes c.args.words.now) c.in-Check.out.now c.in-Check.ensures count workers cache is)

pub returns-in-Check-clause-refused : goal.returns-in-Check-clause-refused
returns-in-Check-clause-refused g c = λ not_ok. inr (inr (inl (check_asked (map string_bytes c.args.words.now) c.in-Check.out.now c.in-Check.ensures)))

pub returns-in-Check-clause-refusal_comes : goal.returns-in-Check-clause-refusal_comes
returns-in-Check-clause-refusal_comes g c =
    told_always (λ all. (r : Refusal) → IsDefinite r → IsFaulty (map string_bytes c.args.words.now) all r → YieldsRefusal r c.answer_check.result.status (g.O.Sink.written c.args.out.now) (g.O.Sink.written c.answer_check.new.out) (Rose (g.O.Sink.faults c.args.out.now) (g.O.Sink.faults c.answer_check.new.out))) (g.H.Shelf.files c.args.shelf.now) (λ all r definite refused. absurd (check_unrefused (map string_bytes c.args.words.now) c.in-Check.out.now c.in-Check.ensures all r refused))

pub returns-in-Check-clause-build_refusal_comes : goal.returns-in-Check-clause-build_refusal_comes
returns-in-Check-clause-build_refusal_comes g c = λ all start begins r asks. absurd (check_or_build (map string_bytes c.args.words.now) c.in-Check.out.now c.in-Check.ensures asks.path asks.out asks.words_are)

pub returns-in-Check-clause-differs_comes : goal.returns-in-Check-clause-differs_comes
returns-in-Check-clause-differs_comes g c = λ all start told stored asks. absurd (check_or_build (map string_bytes c.args.words.now) c.in-Check.out.now c.in-Check.ensures asks.path asks.out asks.words_are)

pub returns-in-Check-clause-damaged_comes : goal.returns-in-Check-clause-damaged_comes
returns-in-Check-clause-damaged_comes g c = λ all start told stored asks. absurd (check_or_build (map string_bytes c.args.words.now) c.in-Check.out.now c.in-Check.ensures asks.path asks.out asks.words_are)

pub returns-in-Check-clause-bad_comes : goal.returns-in-Check-clause-bad_comes
returns-in-Check-clause-bad_comes g c = λ all start letter told stored bad asks. absurd (check_or_build (map string_bytes c.args.words.now) c.in-Check.out.now c.in-Check.ensures asks.path asks.out asks.words_are)

pub returns-in-Check-clause-asked : goal.returns-in-Check-clause-asked
returns-in-Check-clause-asked g c = λ start told. inr (inr (inr refl))

pub returns-in-Check-clause-same_store : goal.returns-in-Check-clause-same_store
returns-in-Check-clause-same_store g c = inr (inl (inl (check_asked (map string_bytes c.args.words.now) c.in-Check.out.now c.in-Check.ensures)))

pub returns-in-Check-clause-same_shelf : goal.returns-in-Check-clause-same_shelf
returns-in-Check-clause-same_shelf g c = inr (inr (inr refl))

pub returns-in-Check-clause-same_room : goal.returns-in-Check-clause-same_room
returns-in-Check-clause-same_room g c = inr (inr refl)

pub returns-in-Check-clause-failure : goal.returns-in-Check-clause-failure
returns-in-Check-clause-failure g c = c.answer_check.ensures.failure

pub returns-in-Check-clause-usage : goal.returns-in-Check-clause-usage
returns-in-Check-clause-usage g c = (
  λ is. absurd (check_not_usage c.answer_check.result.status (g.O.Sink.written c.args.out.now) (g.O.Sink.written c.answer_check.new.out) (Rose (g.O.Sink.faults c.args.out.now) (g.O.Sink.faults c.answer_check.new.out)) c.answer_check.ensures.ends.0.answer c.answer_check.ensures.ends.0.says is),
  λ usage. absurd (usage.not_check c.in-Check.out.now c.in-Check.ensures),
)

pub returns-in-Check-clause-fault : goal.returns-in-Check-clause-fault
returns-in-Check-clause-fault g c = λ is. ⊎_elim (λ store. inr (inl store)) (λ sink. inr (inr (inr sink))) (check_rose c.answer_check.result.status (g.O.Sink.written c.args.out.now) (g.O.Sink.written c.answer_check.new.out) (Rose (g.O.Sink.faults c.args.out.now) (g.O.Sink.faults c.answer_check.new.out)) c.answer_check.ensures.ends.0.answer (Rose (g.T.Store.faults c.args.store.now) (g.T.Store.faults c.answer_check.new.store)) c.answer_check.ensures.ends.0.stores c.answer_check.ensures.ends.0.says is)

pub returns-in-Check-clause-select : goal.returns-in-Check-clause-select
returns-in-Check-clause-select g c = λ folder area first last sift is. absurd (check_or_select (map string_bytes c.args.words.now) c.in-Check.out.now c.in-Check.ensures folder area first last sift is)

pub returns-in-Check-clause-check : goal.returns-in-Check-clause-check
returns-in-Check-clause-check g c = λ folder is. c.answer_check.ensures.ends

pub returns-in-Check-clause-comes : goal.returns-in-Check-clause-comes
returns-in-Check-clause-comes g c =
    check_can (map string_bytes c.args.words.now) (g.H.Shelf.files c.args.shelf.now) (g.T.Store.files c.args.store.now) (BeginsWith g.M.File.SpillFile.held (g.H.Shelf.files c.args.shelf.now) (g.T.Store.files c.args.store.now) (g.T.Store.may_leave c.args.store.now)) c.answer_check.result.status (Rose (g.H.Shelf.faults c.args.shelf.now) (g.H.Shelf.faults c.args.shelf.now) ⊎ Rose (g.T.Store.faults c.args.store.now) (g.T.Store.faults c.answer_check.new.store) ⊎ Rose (g.M.Room.faults c.args.room.now) (g.M.Room.faults c.args.room.now) ⊎ Rose (g.O.Sink.faults c.args.out.now) (g.O.Sink.faults c.answer_check.new.out)) (returns-in-Check-clause-fault g c)
    (g.O.Sink.written c.args.out.now) (g.O.Sink.written c.answer_check.new.out) (Rose (g.T.Store.faults c.args.store.now) (g.T.Store.faults c.answer_check.new.store)) (Rose (g.O.Sink.faults c.args.out.now) (g.O.Sink.faults c.answer_check.new.out))
    (check_asked (map string_bytes c.args.words.now) c.in-Check.out.now c.in-Check.ensures) c.answer_check.ensures.ends.0

-- ---- no selection and no check

pub returns-in-Build-clause-select : goal.returns-in-Build-clause-select
returns-in-Build-clause-select g c = λ folder area first last sift is. absurd (select_or_build (map string_bytes c.args.words.now) folder area first last sift is c.in-Build.config.now c.in-Build.out.now c.in-Build.ensures)

pub returns-in-Build-clause-check : goal.returns-in-Build-clause-check
returns-in-Build-clause-check g c = λ folder is. absurd (check_or_build (map string_bytes c.args.words.now) folder is c.in-Build.config.now c.in-Build.out.now c.in-Build.ensures)

pub returns-in-Info-clause-select : goal.returns-in-Info-clause-select
returns-in-Info-clause-select g c = λ folder area first last sift is. absurd (select_or_info (map string_bytes c.args.words.now) folder area first last sift is c.in-Info.las.now c.in-Info.ensures)

pub returns-in-Info-clause-check : goal.returns-in-Info-clause-check
returns-in-Info-clause-check g c = λ folder is. absurd (check_or_info (map string_bytes c.args.words.now) folder is c.in-Info.las.now c.in-Info.ensures)

pub returns-in-Query-clause-select : goal.returns-in-Query-clause-select
returns-in-Query-clause-select g c = λ folder area first last sift is. absurd (select_or_query (map string_bytes c.args.words.now) folder area first last sift is c.in-Query.out.now c.in-Query.area c.in-Query.depths.0 c.in-Query.depths.1 c.in-Query.ensures)

pub returns-in-Query-clause-check : goal.returns-in-Query-clause-check
returns-in-Query-clause-check g c = λ folder is. absurd (check_or_query (map string_bytes c.args.words.now) folder is c.in-Query.out.now c.in-Query.area c.in-Query.depths.0 c.in-Query.depths.1 c.in-Query.ensures)

pub returns-in-Trial-clause-select : goal.returns-in-Trial-clause-select
returns-in-Trial-clause-select g c = λ folder area first last sift is. absurd (select_or_trial (map string_bytes c.args.words.now) folder area first last sift is c.in-Trial.points c.in-Trial.workers c.in-Trial.cache c.in-Trial.ensures)

pub returns-in-Trial-clause-check : goal.returns-in-Trial-clause-check
returns-in-Trial-clause-check g c = λ folder is. absurd (check_or_trial (map string_bytes c.args.words.now) folder is c.in-Trial.points c.in-Trial.workers c.in-Trial.cache c.in-Trial.ensures)

pub returns-in-Usage-clause-select : goal.returns-in-Usage-clause-select
returns-in-Usage-clause-select g c = λ folder area first last sift is. absurd (c.in-Usage.ensures.not_select folder area first last sift is)

pub returns-in-Usage-clause-check : goal.returns-in-Usage-clause-check
returns-in-Usage-clause-check g c = λ folder is. absurd (c.in-Usage.ensures.not_check folder is)

-- ---- part

pub returns-in-Part-clause-done : goal.returns-in-Part-clause-done
returns-in-Part-clause-done g c = λ ok. inr (inr (inl (part_asked (map string_bytes c.args.words.now) c.in-Part.config.now c.in-Part.out.now c.in-Part.octants c.in-Part.ensures)))

pub returns-in-Part-clause-settled : goal.returns-in-Part-clause-settled
returns-in-Part-clause-settled g c = λ config folder is ok. absurd (part_or_build (map string_bytes c.args.words.now) c.in-Part.config.now c.in-Part.out.now c.in-Part.octants c.in-Part.ensures config folder is)

pub returns-in-Part-clause-kept : goal.returns-in-Part-clause-kept
returns-in-Part-clause-kept g c = λ config folder is ok all start begins. absurd (part_or_build (map string_bytes c.args.words.now) c.in-Part.config.now c.in-Part.out.now c.in-Part.octants c.in-Part.ensures config folder is)

pub returns-in-Part-clause-done_already : goal.returns-in-Part-clause-done_already
returns-in-Part-clause-done_already g c = λ all start begins asks. absurd (part_or_build (map string_bytes c.args.words.now) c.in-Part.config.now c.in-Part.out.now c.in-Part.octants c.in-Part.ensures asks.path asks.out asks.words_are)

pub returns-in-Part-clause-others_put_nothing : goal.returns-in-Part-clause-others_put_nothing
returns-in-Part-clause-others_put_nothing g c = inr (inl (inl (part_asked (map string_bytes c.args.words.now) c.in-Part.config.now c.in-Part.out.now c.in-Part.octants c.in-Part.ensures)))

pub returns-in-Part-clause-sound : goal.returns-in-Part-clause-sound
returns-in-Part-clause-sound g c = λ config folder is. absurd (part_or_build (map string_bytes c.args.words.now) c.in-Part.config.now c.in-Part.out.now c.in-Part.octants c.in-Part.ensures config folder is)

pub returns-in-Part-clause-query : goal.returns-in-Part-clause-query
returns-in-Part-clause-query g c = λ folder area first last is. absurd (part_or_query (map string_bytes c.args.words.now) c.in-Part.config.now c.in-Part.out.now c.in-Part.octants c.in-Part.ensures folder area first last is)

pub returns-in-Part-clause-query_puts_nothing : goal.returns-in-Part-clause-query_puts_nothing
returns-in-Part-clause-query_puts_nothing g c = λ asks. absurd (part_or_query (map string_bytes c.args.words.now) c.in-Part.config.now c.in-Part.out.now c.in-Part.octants c.in-Part.ensures asks.folder asks.area asks.first asks.last asks.words_are)

pub returns-in-Part-clause-select : goal.returns-in-Part-clause-select
returns-in-Part-clause-select g c = λ folder area first last sift is. absurd (part_or_select (map string_bytes c.args.words.now) c.in-Part.config.now c.in-Part.out.now c.in-Part.octants c.in-Part.ensures folder area first last sift is)

pub returns-in-Part-clause-check : goal.returns-in-Part-clause-check
returns-in-Part-clause-check g c = λ folder is. absurd (part_or_check (map string_bytes c.args.words.now) c.in-Part.config.now c.in-Part.out.now c.in-Part.octants c.in-Part.ensures folder is)

pub returns-in-Part-clause-trial : goal.returns-in-Part-clause-trial
returns-in-Part-clause-trial g c = λ count workers cache is. absurd (part_or_trial (map string_bytes c.args.words.now) c.in-Part.config.now c.in-Part.out.now c.in-Part.octants c.in-Part.ensures count workers cache is)

pub returns-in-Part-clause-refused : goal.returns-in-Part-clause-refused
returns-in-Part-clause-refused g c = λ not_ok. inr (inr (inr (inl (part_asked (map string_bytes c.args.words.now) c.in-Part.config.now c.in-Part.out.now c.in-Part.octants c.in-Part.ensures))))

pub returns-in-Part-clause-refusal_comes : goal.returns-in-Part-clause-refusal_comes
returns-in-Part-clause-refusal_comes g c =
    told_always (λ all. (r : Refusal) → IsDefinite r → IsFaulty (map string_bytes c.args.words.now) all r → YieldsRefusal r c.answer_part.result.status (g.O.Sink.written c.args.out.now) (g.O.Sink.written c.answer_part.new.out) (Rose (g.O.Sink.faults c.args.out.now) (g.O.Sink.faults c.answer_part.new.out))) (g.H.Shelf.files c.args.shelf.now) (λ all r definite refused. absurd (part_unrefused (map string_bytes c.args.words.now) c.in-Part.config.now c.in-Part.out.now c.in-Part.octants c.in-Part.ensures all r refused))

pub returns-in-Part-clause-build_refusal_comes : goal.returns-in-Part-clause-build_refusal_comes
returns-in-Part-clause-build_refusal_comes g c = λ all start begins r asks. absurd (part_or_build (map string_bytes c.args.words.now) c.in-Part.config.now c.in-Part.out.now c.in-Part.octants c.in-Part.ensures asks.path asks.out asks.words_are)

pub returns-in-Part-clause-differs_comes : goal.returns-in-Part-clause-differs_comes
returns-in-Part-clause-differs_comes g c = λ all start told stored asks. absurd (part_or_build (map string_bytes c.args.words.now) c.in-Part.config.now c.in-Part.out.now c.in-Part.octants c.in-Part.ensures asks.path asks.out asks.words_are)

pub returns-in-Part-clause-damaged_comes : goal.returns-in-Part-clause-damaged_comes
returns-in-Part-clause-damaged_comes g c = λ all start told stored asks. absurd (part_or_build (map string_bytes c.args.words.now) c.in-Part.config.now c.in-Part.out.now c.in-Part.octants c.in-Part.ensures asks.path asks.out asks.words_are)

pub returns-in-Part-clause-bad_comes : goal.returns-in-Part-clause-bad_comes
returns-in-Part-clause-bad_comes g c = λ all start letter told stored bad asks. absurd (part_or_build (map string_bytes c.args.words.now) c.in-Part.config.now c.in-Part.out.now c.in-Part.octants c.in-Part.ensures asks.path asks.out asks.words_are)

pub returns-in-Part-clause-asked : goal.returns-in-Part-clause-asked
returns-in-Part-clause-asked g c = λ start told. inr (inr (inl (inl (part_asked (map string_bytes c.args.words.now) c.in-Part.config.now c.in-Part.out.now c.in-Part.octants c.in-Part.ensures))))

pub returns-in-Part-clause-header_given : goal.returns-in-Part-clause-header_given
returns-in-Part-clause-header_given g c = λ las is. absurd (part_or_info (map string_bytes c.args.words.now) c.in-Part.config.now c.in-Part.out.now c.in-Part.octants c.in-Part.ensures las is)

pub returns-in-Part-clause-configuration_given : goal.returns-in-Part-clause-configuration_given
returns-in-Part-clause-configuration_given g c = c.answer_part.ensures.given

pub returns-in-Part-clause-same_store : goal.returns-in-Part-clause-same_store
returns-in-Part-clause-same_store g c = inr (inl (inr (inl (part_asked (map string_bytes c.args.words.now) c.in-Part.config.now c.in-Part.out.now c.in-Part.octants c.in-Part.ensures))))

pub returns-in-Part-clause-same_shelf : goal.returns-in-Part-clause-same_shelf
returns-in-Part-clause-same_shelf g c = inr (inr (inl (inl (part_asked (map string_bytes c.args.words.now) c.in-Part.config.now c.in-Part.out.now c.in-Part.octants c.in-Part.ensures))))

pub returns-in-Part-clause-same_room : goal.returns-in-Part-clause-same_room
returns-in-Part-clause-same_room g c = inr (inr refl)

pub returns-in-Part-clause-failure : goal.returns-in-Part-clause-failure
returns-in-Part-clause-failure g c = c.answer_part.ensures.failure

pub returns-in-Part-clause-usage : goal.returns-in-Part-clause-usage
returns-in-Part-clause-usage g c = (
  λ is. absurd (c.answer_part.ensures.not_usage is),
  λ usage. absurd (usage.not_part c.in-Part.config.now c.in-Part.out.now c.in-Part.octants c.in-Part.ensures),
)

pub returns-in-Part-clause-fault : goal.returns-in-Part-clause-fault
returns-in-Part-clause-fault g c = λ is. ⊎_elim (λ source. inl source) (λ other. ⊎_elim (λ store. inr (inl store)) (λ sink. inr (inr (inr sink))) other) (c.answer_part.ensures.fault is)

part_asked_once : (g : given.Over) (c : goal.After-answer_part g) (path folder : List ℕ) (octants : ℕ) → IsPart (map string_bytes c.args.words.now) path folder octants → (c.in-Part.config.now ≡ path) × (c.in-Part.octants ≡ octants)
part_asked_once g c path folder octants is = part_once c.class_set_law.ensures.once (map string_bytes c.args.words.now) c.in-Part.config.now c.in-Part.out.now path folder c.in-Part.octants octants c.in-Part.ensures is

pub returns-in-Part-clause-part : goal.returns-in-Part-clause-part
returns-in-Part-clause-part g c = λ path folder octants is.
    let same = part_asked_once g c path folder octants is in
    ends_same c.in-Part.config.now path c.in-Part.octants octants c.answer_part.result.status c.answer_part.result.failure (g.H.Shelf.files c.args.shelf.now) (g.T.Store.files c.answer_part.new.store) (IsSettled (g.T.Store.files c.answer_part.new.store) (g.T.Store.may_leave c.answer_part.new.store)) (c.answer_part.new.store ≡ c.args.store.now) (g.O.Sink.written c.args.out.now) (g.O.Sink.written c.answer_part.new.out) (Rose (g.H.Shelf.faults c.args.shelf.now) (g.H.Shelf.faults c.answer_part.new.shelf)) (Rose (g.T.Store.faults c.args.store.now) (g.T.Store.faults c.answer_part.new.store)) (Rose (g.O.Sink.faults c.args.out.now) (g.O.Sink.faults c.answer_part.new.out)) same.0 same.1 c.answer_part.ensures.ends

pub returns-in-Part-clause-part_folder : goal.returns-in-Part-clause-part_folder
returns-in-Part-clause-part_folder g c = λ path folder octants is.
    subst (λ (o : ℕ). Moves g.T.Store.files g.T.Store.may_leave g.T.Store.moment g.T.Store.image_since (ChangesPart o) c.args.store.now c.answer_part.new.store) (part_asked_once g c path folder octants is).1 c.answer_part.ensures.folder

pub returns-in-Part-clause-part_own : goal.returns-in-Part-clause-part_own
returns-in-Part-clause-part_own g c = λ path folder octants is all start told stored settled sound.
    let same = (part_asked_once g c path folder octants is).1 in
    subst (λ (o : ℕ). Moves g.T.Store.files g.T.Store.may_leave g.T.Store.moment g.T.Store.image_since (λ (a b : Files). IsPartSound all b o) c.args.store.now c.answer_part.new.store) same
    (c.answer_part.ensures.own all start told stored settled (subst (λ (o : ℕ). IsPartSound all start o) (sym same) sound))

pub returns-in-Part-clause-part_sound : goal.returns-in-Part-clause-part_sound
returns-in-Part-clause-part_sound g c = λ asks all start stored settled sound. c.answer_part.ensures.sound all start stored settled sound

pub returns-in-Part-clause-comes : goal.returns-in-Part-clause-comes
returns-in-Part-clause-comes g c =
    part_can (map string_bytes c.args.words.now) (g.H.Shelf.files c.args.shelf.now) (g.T.Store.files c.args.store.now) (BeginsWith g.M.File.SpillFile.held (g.H.Shelf.files c.args.shelf.now) (g.T.Store.files c.args.store.now) (g.T.Store.may_leave c.args.store.now)) c.answer_part.result.status ((Rose (g.H.Shelf.faults c.args.shelf.now) (g.H.Shelf.faults c.answer_part.new.shelf)) ⊎ (Rose (g.T.Store.faults c.args.store.now) (g.T.Store.faults c.answer_part.new.store)) ⊎ Rose (g.M.Room.faults c.args.room.now) (g.M.Room.faults c.args.room.now) ⊎ (Rose (g.O.Sink.faults c.args.out.now) (g.O.Sink.faults c.answer_part.new.out))) (returns-in-Part-clause-fault g c)
    c.in-Part.config.now c.in-Part.out.now c.in-Part.octants c.in-Part.ensures
    (part_comes (map string_bytes c.args.words.now) c.in-Part.config.now c.in-Part.out.now c.in-Part.octants c.in-Part.ensures c.class_set_law.ensures.once (g.H.Shelf.files c.args.shelf.now) (g.T.Store.files c.answer_part.new.store) (IsSettled (g.T.Store.files c.answer_part.new.store) (g.T.Store.may_leave c.answer_part.new.store)) (c.answer_part.new.store ≡ c.args.store.now) c.answer_part.result.status (g.O.Sink.written c.args.out.now) (g.O.Sink.written c.answer_part.new.out) (Rose (g.H.Shelf.faults c.args.shelf.now) (g.H.Shelf.faults c.answer_part.new.shelf)) (Rose (g.T.Store.faults c.args.store.now) (g.T.Store.faults c.answer_part.new.store)) (Rose (g.O.Sink.faults c.args.out.now) (g.O.Sink.faults c.answer_part.new.out)) c.answer_part.ensures.ends.0)

-- ---- no part

pub returns-in-Build-clause-part : goal.returns-in-Build-clause-part
returns-in-Build-clause-part g c = λ path folder octants is. absurd (part_or_build (map string_bytes c.args.words.now) path folder octants is c.in-Build.config.now c.in-Build.out.now c.in-Build.ensures)

pub returns-in-Build-clause-part_folder : goal.returns-in-Build-clause-part_folder
returns-in-Build-clause-part_folder g c = λ path folder octants is. absurd (part_or_build (map string_bytes c.args.words.now) path folder octants is c.in-Build.config.now c.in-Build.out.now c.in-Build.ensures)

pub returns-in-Build-clause-part_own : goal.returns-in-Build-clause-part_own
returns-in-Build-clause-part_own g c = λ path folder octants is all start told stored settled sound. absurd (part_or_build (map string_bytes c.args.words.now) path folder octants is c.in-Build.config.now c.in-Build.out.now c.in-Build.ensures)

pub returns-in-Build-clause-part_sound : goal.returns-in-Build-clause-part_sound
returns-in-Build-clause-part_sound g c = λ asks all start stored settled sound. absurd (part_or_build (map string_bytes c.args.words.now) asks.path asks.out asks.octants asks.words_are c.in-Build.config.now c.in-Build.out.now c.in-Build.ensures)

pub returns-in-Info-clause-part : goal.returns-in-Info-clause-part
returns-in-Info-clause-part g c = λ path folder octants is. absurd (part_or_info (map string_bytes c.args.words.now) path folder octants is c.in-Info.las.now c.in-Info.ensures)

pub returns-in-Info-clause-part_folder : goal.returns-in-Info-clause-part_folder
returns-in-Info-clause-part_folder g c = λ path folder octants is. absurd (part_or_info (map string_bytes c.args.words.now) path folder octants is c.in-Info.las.now c.in-Info.ensures)

pub returns-in-Info-clause-part_own : goal.returns-in-Info-clause-part_own
returns-in-Info-clause-part_own g c = λ path folder octants is all start told stored settled sound. absurd (part_or_info (map string_bytes c.args.words.now) path folder octants is c.in-Info.las.now c.in-Info.ensures)

pub returns-in-Info-clause-part_sound : goal.returns-in-Info-clause-part_sound
returns-in-Info-clause-part_sound g c = λ asks all start stored settled sound. absurd (part_or_info (map string_bytes c.args.words.now) asks.path asks.out asks.octants asks.words_are c.in-Info.las.now c.in-Info.ensures)

pub returns-in-Query-clause-part : goal.returns-in-Query-clause-part
returns-in-Query-clause-part g c = λ path folder octants is. absurd (part_or_query (map string_bytes c.args.words.now) path folder octants is c.in-Query.out.now c.in-Query.area c.in-Query.depths.0 c.in-Query.depths.1 c.in-Query.ensures)

pub returns-in-Query-clause-part_folder : goal.returns-in-Query-clause-part_folder
returns-in-Query-clause-part_folder g c = λ path folder octants is. absurd (part_or_query (map string_bytes c.args.words.now) path folder octants is c.in-Query.out.now c.in-Query.area c.in-Query.depths.0 c.in-Query.depths.1 c.in-Query.ensures)

pub returns-in-Query-clause-part_own : goal.returns-in-Query-clause-part_own
returns-in-Query-clause-part_own g c = λ path folder octants is all start told stored settled sound. absurd (part_or_query (map string_bytes c.args.words.now) path folder octants is c.in-Query.out.now c.in-Query.area c.in-Query.depths.0 c.in-Query.depths.1 c.in-Query.ensures)

pub returns-in-Query-clause-part_sound : goal.returns-in-Query-clause-part_sound
returns-in-Query-clause-part_sound g c = λ asks all start stored settled sound. absurd (part_or_query (map string_bytes c.args.words.now) asks.path asks.out asks.octants asks.words_are c.in-Query.out.now c.in-Query.area c.in-Query.depths.0 c.in-Query.depths.1 c.in-Query.ensures)

pub returns-in-Select-clause-part : goal.returns-in-Select-clause-part
returns-in-Select-clause-part g c = λ path folder octants is. absurd (part_or_select (map string_bytes c.args.words.now) path folder octants is c.in-Select.out.now c.in-Select.area c.in-Select.depths.0 c.in-Select.depths.1 c.in-Select.sift c.in-Select.ensures)

pub returns-in-Select-clause-part_folder : goal.returns-in-Select-clause-part_folder
returns-in-Select-clause-part_folder g c = λ path folder octants is. absurd (part_or_select (map string_bytes c.args.words.now) path folder octants is c.in-Select.out.now c.in-Select.area c.in-Select.depths.0 c.in-Select.depths.1 c.in-Select.sift c.in-Select.ensures)

pub returns-in-Select-clause-part_own : goal.returns-in-Select-clause-part_own
returns-in-Select-clause-part_own g c = λ path folder octants is all start told stored settled sound. absurd (part_or_select (map string_bytes c.args.words.now) path folder octants is c.in-Select.out.now c.in-Select.area c.in-Select.depths.0 c.in-Select.depths.1 c.in-Select.sift c.in-Select.ensures)

pub returns-in-Select-clause-part_sound : goal.returns-in-Select-clause-part_sound
returns-in-Select-clause-part_sound g c = λ asks all start stored settled sound. absurd (part_or_select (map string_bytes c.args.words.now) asks.path asks.out asks.octants asks.words_are c.in-Select.out.now c.in-Select.area c.in-Select.depths.0 c.in-Select.depths.1 c.in-Select.sift c.in-Select.ensures)

pub returns-in-Check-clause-part : goal.returns-in-Check-clause-part
returns-in-Check-clause-part g c = λ path folder octants is. absurd (part_or_check (map string_bytes c.args.words.now) path folder octants is c.in-Check.out.now c.in-Check.ensures)

pub returns-in-Check-clause-part_folder : goal.returns-in-Check-clause-part_folder
returns-in-Check-clause-part_folder g c = λ path folder octants is. absurd (part_or_check (map string_bytes c.args.words.now) path folder octants is c.in-Check.out.now c.in-Check.ensures)

pub returns-in-Check-clause-part_own : goal.returns-in-Check-clause-part_own
returns-in-Check-clause-part_own g c = λ path folder octants is all start told stored settled sound. absurd (part_or_check (map string_bytes c.args.words.now) path folder octants is c.in-Check.out.now c.in-Check.ensures)

pub returns-in-Check-clause-part_sound : goal.returns-in-Check-clause-part_sound
returns-in-Check-clause-part_sound g c = λ asks all start stored settled sound. absurd (part_or_check (map string_bytes c.args.words.now) asks.path asks.out asks.octants asks.words_are c.in-Check.out.now c.in-Check.ensures)

pub returns-in-Trial-clause-part : goal.returns-in-Trial-clause-part
returns-in-Trial-clause-part g c = λ path folder octants is. absurd (part_or_trial (map string_bytes c.args.words.now) path folder octants is c.in-Trial.points c.in-Trial.workers c.in-Trial.cache c.in-Trial.ensures)

pub returns-in-Trial-clause-part_folder : goal.returns-in-Trial-clause-part_folder
returns-in-Trial-clause-part_folder g c = λ path folder octants is. absurd (part_or_trial (map string_bytes c.args.words.now) path folder octants is c.in-Trial.points c.in-Trial.workers c.in-Trial.cache c.in-Trial.ensures)

pub returns-in-Trial-clause-part_own : goal.returns-in-Trial-clause-part_own
returns-in-Trial-clause-part_own g c = λ path folder octants is all start told stored settled sound. absurd (part_or_trial (map string_bytes c.args.words.now) path folder octants is c.in-Trial.points c.in-Trial.workers c.in-Trial.cache c.in-Trial.ensures)

pub returns-in-Trial-clause-part_sound : goal.returns-in-Trial-clause-part_sound
returns-in-Trial-clause-part_sound g c = λ asks all start stored settled sound. absurd (part_or_trial (map string_bytes c.args.words.now) asks.path asks.out asks.octants asks.words_are c.in-Trial.points c.in-Trial.workers c.in-Trial.cache c.in-Trial.ensures)

pub returns-in-Usage-clause-part : goal.returns-in-Usage-clause-part
returns-in-Usage-clause-part g c = λ path folder octants is. absurd (c.in-Usage.ensures.not_part path folder octants is)

pub returns-in-Usage-clause-part_folder : goal.returns-in-Usage-clause-part_folder
returns-in-Usage-clause-part_folder g c = λ path folder octants is. absurd (c.in-Usage.ensures.not_part path folder octants is)

pub returns-in-Usage-clause-part_own : goal.returns-in-Usage-clause-part_own
returns-in-Usage-clause-part_own g c = λ path folder octants is all start told stored settled sound. absurd (c.in-Usage.ensures.not_part path folder octants is)

pub returns-in-Usage-clause-part_sound : goal.returns-in-Usage-clause-part_sound
returns-in-Usage-clause-part_sound g c = λ asks all start stored settled sound. absurd (c.in-Usage.ensures.not_part asks.path asks.out asks.octants asks.words_are)

-- ---- merge

merge_is : (g : given.Over) (c : goal.After-answer_merge g) → IsMerge (map string_bytes c.args.words.now) c.in-Merge.config.now c.in-Merge.out.now c.as_slice.result.now
merge_is g c = subst (λ (p : List ℕ). IsMerge (map string_bytes c.args.words.now) c.in-Merge.config.now c.in-Merge.out.now p) (sym c.as_slice.ensures) c.in-Merge.ensures

merge_asked_once : (g : given.Over) (c : goal.After-answer_merge g) (path folder parts : List ℕ) → IsMerge (map string_bytes c.args.words.now) path folder parts → (c.in-Merge.config.now ≡ path) × (c.as_slice.result.now ≡ parts)
merge_asked_once g c path folder parts is = merge_once c.class_set_law-in-Merge.ensures.once (map string_bytes c.args.words.now) c.in-Merge.config.now c.in-Merge.out.now path folder c.as_slice.result.now parts (merge_is g c) is

pub returns-in-Merge-clause-done : goal.returns-in-Merge-clause-done
returns-in-Merge-clause-done g c = λ ok. inr (inr (inr (merge_asked (map string_bytes c.args.words.now) c.in-Merge.config.now c.in-Merge.out.now c.as_slice.result.now (merge_is g c))))

pub returns-in-Merge-clause-settled : goal.returns-in-Merge-clause-settled
returns-in-Merge-clause-settled g c = λ config folder is ok. absurd (merge_or_build (map string_bytes c.args.words.now) c.in-Merge.config.now c.in-Merge.out.now c.as_slice.result.now (merge_is g c) config folder is)

pub returns-in-Merge-clause-kept : goal.returns-in-Merge-clause-kept
returns-in-Merge-clause-kept g c = λ config folder is ok all start begins. absurd (merge_or_build (map string_bytes c.args.words.now) c.in-Merge.config.now c.in-Merge.out.now c.as_slice.result.now (merge_is g c) config folder is)

pub returns-in-Merge-clause-done_already : goal.returns-in-Merge-clause-done_already
returns-in-Merge-clause-done_already g c = λ all start begins asks. absurd (merge_or_build (map string_bytes c.args.words.now) c.in-Merge.config.now c.in-Merge.out.now c.as_slice.result.now (merge_is g c) asks.path asks.out asks.words_are)

pub returns-in-Merge-clause-others_put_nothing : goal.returns-in-Merge-clause-others_put_nothing
returns-in-Merge-clause-others_put_nothing g c = inr (inl (inr (merge_asked (map string_bytes c.args.words.now) c.in-Merge.config.now c.in-Merge.out.now c.as_slice.result.now (merge_is g c))))

pub returns-in-Merge-clause-sound : goal.returns-in-Merge-clause-sound
returns-in-Merge-clause-sound g c = λ config folder is. absurd (merge_or_build (map string_bytes c.args.words.now) c.in-Merge.config.now c.in-Merge.out.now c.as_slice.result.now (merge_is g c) config folder is)

pub returns-in-Merge-clause-query : goal.returns-in-Merge-clause-query
returns-in-Merge-clause-query g c = λ folder area first last is. absurd (merge_or_query (map string_bytes c.args.words.now) c.in-Merge.config.now c.in-Merge.out.now c.as_slice.result.now (merge_is g c) folder area first last is)

pub returns-in-Merge-clause-query_puts_nothing : goal.returns-in-Merge-clause-query_puts_nothing
returns-in-Merge-clause-query_puts_nothing g c = λ asks. absurd (merge_or_query (map string_bytes c.args.words.now) c.in-Merge.config.now c.in-Merge.out.now c.as_slice.result.now (merge_is g c) asks.folder asks.area asks.first asks.last asks.words_are)

pub returns-in-Merge-clause-select : goal.returns-in-Merge-clause-select
returns-in-Merge-clause-select g c = λ folder area first last sift is. absurd (merge_or_select (map string_bytes c.args.words.now) c.in-Merge.config.now c.in-Merge.out.now c.as_slice.result.now (merge_is g c) folder area first last sift is)

pub returns-in-Merge-clause-check : goal.returns-in-Merge-clause-check
returns-in-Merge-clause-check g c = λ folder is. absurd (merge_or_check (map string_bytes c.args.words.now) c.in-Merge.config.now c.in-Merge.out.now c.as_slice.result.now (merge_is g c) folder is)

pub returns-in-Merge-clause-part : goal.returns-in-Merge-clause-part
returns-in-Merge-clause-part g c = λ path folder octants is. absurd (merge_or_part (map string_bytes c.args.words.now) c.in-Merge.config.now c.in-Merge.out.now c.as_slice.result.now (merge_is g c) path folder octants is)

pub returns-in-Merge-clause-part_folder : goal.returns-in-Merge-clause-part_folder
returns-in-Merge-clause-part_folder g c = λ path folder octants is. absurd (merge_or_part (map string_bytes c.args.words.now) c.in-Merge.config.now c.in-Merge.out.now c.as_slice.result.now (merge_is g c) path folder octants is)

pub returns-in-Merge-clause-part_own : goal.returns-in-Merge-clause-part_own
returns-in-Merge-clause-part_own g c = λ path folder octants is all start told stored settled sound. absurd (merge_or_part (map string_bytes c.args.words.now) c.in-Merge.config.now c.in-Merge.out.now c.as_slice.result.now (merge_is g c) path folder octants is)

pub returns-in-Merge-clause-part_sound : goal.returns-in-Merge-clause-part_sound
returns-in-Merge-clause-part_sound g c = λ asks all start stored settled sound. absurd (merge_or_part (map string_bytes c.args.words.now) c.in-Merge.config.now c.in-Merge.out.now c.as_slice.result.now (merge_is g c) asks.path asks.out asks.octants asks.words_are)

pub returns-in-Merge-clause-trial : goal.returns-in-Merge-clause-trial
returns-in-Merge-clause-trial g c = λ count workers cache is. absurd (merge_or_trial (map string_bytes c.args.words.now) c.in-Merge.config.now c.in-Merge.out.now c.as_slice.result.now (merge_is g c) count workers cache is)

pub returns-in-Merge-clause-refused : goal.returns-in-Merge-clause-refused
returns-in-Merge-clause-refused g c = λ not_ok. inr (inr (inr (inr (merge_asked (map string_bytes c.args.words.now) c.in-Merge.config.now c.in-Merge.out.now c.as_slice.result.now (merge_is g c)))))

pub returns-in-Merge-clause-refusal_comes : goal.returns-in-Merge-clause-refusal_comes
returns-in-Merge-clause-refusal_comes g c =
    told_always (λ all. (r : Refusal) → IsDefinite r → IsFaulty (map string_bytes c.args.words.now) all r → YieldsRefusal r c.answer_merge.result.status (g.O.Sink.written c.args.out.now) (g.O.Sink.written c.answer_merge.new.out) (Rose (g.O.Sink.faults c.args.out.now) (g.O.Sink.faults c.answer_merge.new.out))) (g.H.Shelf.files c.args.shelf.now) (λ all r definite faulty. absurd (merge_unrefused (map string_bytes c.args.words.now) c.in-Merge.config.now c.in-Merge.out.now c.as_slice.result.now (merge_is g c) all r faulty))

pub returns-in-Merge-clause-build_refusal_comes : goal.returns-in-Merge-clause-build_refusal_comes
returns-in-Merge-clause-build_refusal_comes g c = λ all start begins r asks. absurd (merge_or_build (map string_bytes c.args.words.now) c.in-Merge.config.now c.in-Merge.out.now c.as_slice.result.now (merge_is g c) asks.path asks.out asks.words_are)

pub returns-in-Merge-clause-differs_comes : goal.returns-in-Merge-clause-differs_comes
returns-in-Merge-clause-differs_comes g c = λ all start told stored asks. absurd (merge_or_build (map string_bytes c.args.words.now) c.in-Merge.config.now c.in-Merge.out.now c.as_slice.result.now (merge_is g c) asks.path asks.out asks.words_are)

pub returns-in-Merge-clause-damaged_comes : goal.returns-in-Merge-clause-damaged_comes
returns-in-Merge-clause-damaged_comes g c = λ all start told stored asks. absurd (merge_or_build (map string_bytes c.args.words.now) c.in-Merge.config.now c.in-Merge.out.now c.as_slice.result.now (merge_is g c) asks.path asks.out asks.words_are)

pub returns-in-Merge-clause-bad_comes : goal.returns-in-Merge-clause-bad_comes
returns-in-Merge-clause-bad_comes g c = λ all start letter told stored bad asks. absurd (merge_or_build (map string_bytes c.args.words.now) c.in-Merge.config.now c.in-Merge.out.now c.as_slice.result.now (merge_is g c) asks.path asks.out asks.words_are)

pub returns-in-Merge-clause-asked : goal.returns-in-Merge-clause-asked
returns-in-Merge-clause-asked g c = λ start told. inr (inr (inl (inr (merge_asked (map string_bytes c.args.words.now) c.in-Merge.config.now c.in-Merge.out.now c.as_slice.result.now (merge_is g c)))))

pub returns-in-Merge-clause-header_given : goal.returns-in-Merge-clause-header_given
returns-in-Merge-clause-header_given g c = λ las is. absurd (merge_or_info (map string_bytes c.args.words.now) c.in-Merge.config.now c.in-Merge.out.now c.as_slice.result.now (merge_is g c) las is)

pub returns-in-Merge-clause-configuration_given : goal.returns-in-Merge-clause-configuration_given
returns-in-Merge-clause-configuration_given g c = c.answer_merge.ensures.given

pub returns-in-Merge-clause-same_store : goal.returns-in-Merge-clause-same_store
returns-in-Merge-clause-same_store g c = inr (inl (inr (inr (merge_asked (map string_bytes c.args.words.now) c.in-Merge.config.now c.in-Merge.out.now c.as_slice.result.now (merge_is g c)))))

pub returns-in-Merge-clause-same_shelf : goal.returns-in-Merge-clause-same_shelf
returns-in-Merge-clause-same_shelf g c = inr (inr (inl (inr (merge_asked (map string_bytes c.args.words.now) c.in-Merge.config.now c.in-Merge.out.now c.as_slice.result.now (merge_is g c)))))

pub returns-in-Merge-clause-same_room : goal.returns-in-Merge-clause-same_room
returns-in-Merge-clause-same_room g c = inr (inl (merge_asked (map string_bytes c.args.words.now) c.in-Merge.config.now c.in-Merge.out.now c.as_slice.result.now (merge_is g c)))

pub returns-in-Merge-clause-failure : goal.returns-in-Merge-clause-failure
returns-in-Merge-clause-failure g c = c.answer_merge.ensures.failure

pub returns-in-Merge-clause-usage : goal.returns-in-Merge-clause-usage
returns-in-Merge-clause-usage g c = (
  λ is. absurd (c.answer_merge.ensures.not_usage is),
  λ usage. absurd (usage.not_merge c.in-Merge.config.now c.in-Merge.out.now c.as_slice.result.now (merge_is g c)),
)

pub returns-in-Merge-clause-fault : goal.returns-in-Merge-clause-fault
returns-in-Merge-clause-fault g c = c.answer_merge.ensures.fault

pub returns-in-Merge-clause-comes : goal.returns-in-Merge-clause-comes
returns-in-Merge-clause-comes g c =
    merge_can (map string_bytes c.args.words.now) (g.H.Shelf.files c.args.shelf.now) (g.T.Store.files c.args.store.now) (BeginsWith g.M.File.SpillFile.held (g.H.Shelf.files c.args.shelf.now) (g.T.Store.files c.args.store.now) (g.T.Store.may_leave c.args.store.now)) c.answer_merge.result.status (Rose (g.H.Shelf.faults c.args.shelf.now) (g.H.Shelf.faults c.answer_merge.new.shelf) ⊎ Rose (g.T.Store.faults c.args.store.now) (g.T.Store.faults c.answer_merge.new.store) ⊎ Rose (g.M.Room.faults c.args.room.now) (g.M.Room.faults c.answer_merge.new.room) ⊎ Rose (g.O.Sink.faults c.args.out.now) (g.O.Sink.faults c.answer_merge.new.out)) c.answer_merge.ensures.fault
    c.in-Merge.config.now c.in-Merge.out.now c.as_slice.result.now (merge_is g c)
    (λ all start begins asks.
    merge_comes (map string_bytes c.args.words.now) c.in-Merge.config.now c.in-Merge.out.now c.as_slice.result.now (merge_is g c) c.class_set_law-in-Merge.ensures.once (g.H.Shelf.files c.args.shelf.now) (g.T.Store.files c.args.store.now) (BeginsWith g.M.File.SpillFile.held (g.H.Shelf.files c.args.shelf.now) (g.T.Store.files c.args.store.now) (g.T.Store.may_leave c.args.store.now)) (g.T.Store.files c.answer_merge.new.store) (IsSettled (g.T.Store.files c.answer_merge.new.store) (g.T.Store.may_leave c.answer_merge.new.store)) (Moves g.T.Store.files g.T.Store.may_leave g.T.Store.moment g.T.Store.image_since SameFiles c.args.store.now c.answer_merge.new.store) c.answer_merge.result.status (g.O.Sink.written c.args.out.now) (g.O.Sink.written c.answer_merge.new.out) (Rose (g.H.Shelf.faults c.args.shelf.now) (g.H.Shelf.faults c.answer_merge.new.shelf)) (Rose (g.T.Store.faults c.args.store.now) (g.T.Store.faults c.answer_merge.new.store)) (Rose (g.M.Room.faults c.args.room.now) (g.M.Room.faults c.answer_merge.new.room)) (Rose (g.O.Sink.faults c.args.out.now) (g.O.Sink.faults c.answer_merge.new.out))
    c.answer_merge.ensures.ends.0 all start begins.shelf_told begins.told begins asks)

pub returns-in-Merge-clause-merge : goal.returns-in-Merge-clause-merge
returns-in-Merge-clause-merge g c = λ path folder parts is.
    let one = merge_asked_once g c path folder parts is in
    merge_same c.in-Merge.config.now path c.as_slice.result.now parts c.answer_merge.result.status c.answer_merge.result.failure (g.H.Shelf.files c.args.shelf.now) (g.T.Store.files c.args.store.now) (BeginsWith g.M.File.SpillFile.held (g.H.Shelf.files c.args.shelf.now) (g.T.Store.files c.args.store.now) (g.T.Store.may_leave c.args.store.now)) (g.T.Store.files c.answer_merge.new.store) (IsSettled (g.T.Store.files c.answer_merge.new.store) (g.T.Store.may_leave c.answer_merge.new.store)) (Moves g.T.Store.files g.T.Store.may_leave g.T.Store.moment g.T.Store.image_since SameFiles c.args.store.now c.answer_merge.new.store) (g.O.Sink.written c.args.out.now) (g.O.Sink.written c.answer_merge.new.out) (Rose (g.H.Shelf.faults c.args.shelf.now) (g.H.Shelf.faults c.answer_merge.new.shelf)) (Rose (g.T.Store.faults c.args.store.now) (g.T.Store.faults c.answer_merge.new.store)) (Rose (g.M.Room.faults c.args.room.now) (g.M.Room.faults c.answer_merge.new.room)) (Rose (g.O.Sink.faults c.args.out.now) (g.O.Sink.faults c.answer_merge.new.out)) one.0 one.1 c.answer_merge.ensures.ends

pub returns-in-Merge-clause-merge_sound : goal.returns-in-Merge-clause-merge_sound
returns-in-Merge-clause-merge_sound g c = λ path folder parts is all start begins sound.
    c.answer_merge.ensures.sound all start begins (subst (λ (p : List ℕ). AreSoundParts all start p) (sym (merge_asked_once g c path folder parts is).1) sound)

-- ---- no merge

pub returns-in-Build-clause-merge : goal.returns-in-Build-clause-merge
returns-in-Build-clause-merge g c = λ path folder parts is. absurd (merge_or_build (map string_bytes c.args.words.now) path folder parts is c.in-Build.config.now c.in-Build.out.now c.in-Build.ensures)

pub returns-in-Build-clause-merge_sound : goal.returns-in-Build-clause-merge_sound
returns-in-Build-clause-merge_sound g c = λ path folder parts is all start begins sound. absurd (merge_or_build (map string_bytes c.args.words.now) path folder parts is c.in-Build.config.now c.in-Build.out.now c.in-Build.ensures)

pub returns-in-Part-clause-merge : goal.returns-in-Part-clause-merge
returns-in-Part-clause-merge g c = λ path folder parts is. absurd (merge_or_part (map string_bytes c.args.words.now) path folder parts is c.in-Part.config.now c.in-Part.out.now c.in-Part.octants c.in-Part.ensures)

pub returns-in-Part-clause-merge_sound : goal.returns-in-Part-clause-merge_sound
returns-in-Part-clause-merge_sound g c = λ path folder parts is all start begins sound. absurd (merge_or_part (map string_bytes c.args.words.now) path folder parts is c.in-Part.config.now c.in-Part.out.now c.in-Part.octants c.in-Part.ensures)

pub returns-in-Info-clause-merge : goal.returns-in-Info-clause-merge
returns-in-Info-clause-merge g c = λ path folder parts is. absurd (merge_or_info (map string_bytes c.args.words.now) path folder parts is c.in-Info.las.now c.in-Info.ensures)

pub returns-in-Info-clause-merge_sound : goal.returns-in-Info-clause-merge_sound
returns-in-Info-clause-merge_sound g c = λ path folder parts is all start begins sound. absurd (merge_or_info (map string_bytes c.args.words.now) path folder parts is c.in-Info.las.now c.in-Info.ensures)

pub returns-in-Query-clause-merge : goal.returns-in-Query-clause-merge
returns-in-Query-clause-merge g c = λ path folder parts is. absurd (merge_or_query (map string_bytes c.args.words.now) path folder parts is c.in-Query.out.now c.in-Query.area c.in-Query.depths.0 c.in-Query.depths.1 c.in-Query.ensures)

pub returns-in-Query-clause-merge_sound : goal.returns-in-Query-clause-merge_sound
returns-in-Query-clause-merge_sound g c = λ path folder parts is all start begins sound. absurd (merge_or_query (map string_bytes c.args.words.now) path folder parts is c.in-Query.out.now c.in-Query.area c.in-Query.depths.0 c.in-Query.depths.1 c.in-Query.ensures)

pub returns-in-Select-clause-merge : goal.returns-in-Select-clause-merge
returns-in-Select-clause-merge g c = λ path folder parts is. absurd (merge_or_select (map string_bytes c.args.words.now) path folder parts is c.in-Select.out.now c.in-Select.area c.in-Select.depths.0 c.in-Select.depths.1 c.in-Select.sift c.in-Select.ensures)

pub returns-in-Select-clause-merge_sound : goal.returns-in-Select-clause-merge_sound
returns-in-Select-clause-merge_sound g c = λ path folder parts is all start begins sound. absurd (merge_or_select (map string_bytes c.args.words.now) path folder parts is c.in-Select.out.now c.in-Select.area c.in-Select.depths.0 c.in-Select.depths.1 c.in-Select.sift c.in-Select.ensures)

pub returns-in-Check-clause-merge : goal.returns-in-Check-clause-merge
returns-in-Check-clause-merge g c = λ path folder parts is. absurd (merge_or_check (map string_bytes c.args.words.now) path folder parts is c.in-Check.out.now c.in-Check.ensures)

pub returns-in-Check-clause-merge_sound : goal.returns-in-Check-clause-merge_sound
returns-in-Check-clause-merge_sound g c = λ path folder parts is all start begins sound. absurd (merge_or_check (map string_bytes c.args.words.now) path folder parts is c.in-Check.out.now c.in-Check.ensures)

pub returns-in-Trial-clause-merge : goal.returns-in-Trial-clause-merge
returns-in-Trial-clause-merge g c = λ path folder parts is. absurd (merge_or_trial (map string_bytes c.args.words.now) path folder parts is c.in-Trial.points c.in-Trial.workers c.in-Trial.cache c.in-Trial.ensures)

pub returns-in-Trial-clause-merge_sound : goal.returns-in-Trial-clause-merge_sound
returns-in-Trial-clause-merge_sound g c = λ path folder parts is all start begins sound. absurd (merge_or_trial (map string_bytes c.args.words.now) path folder parts is c.in-Trial.points c.in-Trial.workers c.in-Trial.cache c.in-Trial.ensures)

pub returns-in-Usage-clause-merge : goal.returns-in-Usage-clause-merge
returns-in-Usage-clause-merge g c = λ path folder parts is. absurd (c.in-Usage.ensures.not_merge path folder parts is)

pub returns-in-Usage-clause-merge_sound : goal.returns-in-Usage-clause-merge_sound
returns-in-Usage-clause-merge_sound g c = λ path folder parts is all start begins sound. absurd (c.in-Usage.ensures.not_merge path folder parts is)

-- the parts that words ask for have each octant once
pub answer_merge-requires-clause-all : goal.answer_merge-requires-clause-all
answer_merge-requires-clause-all g c κs within = subst AreAllParts (sym c.as_slice.ensures) c.in-Merge.ensures.parts_are.all
