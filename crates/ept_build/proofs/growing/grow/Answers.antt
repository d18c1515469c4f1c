use Rattle.std.proofs.Common.{◌∙◌, List, drop, sym, ap, subst, arith}
use Rattle.std.specs.Prelude.{Err, All}
use Rattle.ept_scan.specs.declared.read_error.ReadError.{ReadError}
use Rattle.ept_base.specs.Files.{Files}
use Rattle.ept_point.specs.declared.point.Point.{Point}
use Rattle.ept_config.specs.declared.source_count.SourceCount.{SourceCount}
use Rattle.ept_config.specs.Counts.{total}
use Rattle.ept_scan.specs.Opening.{IsKeptScan, IsFileOf}
use Rattle.ept_scan.specs.Reader.{files_of, IsRest}
use Rattle.ept_meta.specs.Output.{rules_of}
use Rattle.ept_build.specs.Phases.{IsSoundUndone}
use Rattle.ept_build.proofs.Causes.{read-changed, read-no-spill, read-no-damage, tells-more, tells-all}
use Rattle.ept_build.proofs.Ground.{kept-number}
use Rattle.ept_save.proofs.Inside.{lies-in-cube}
use Rattle.ept_scan.specs.Asking.{paths_left}
use Rattle.ept_build.specs.Reached.{HasGone}
use Rattle.ept_build.proofs.Asking.{AsksFront, opens-front}
use Rattle.ept_build.proofs.Counting.{after-none, reached-now}
use Rattle.ept_build.proofs.PhaseSound.{none-moves}
use Rattle.ept_build.proofs.Moved.{moves-none, all-images}
use Rattle.ept_build.proofs.growing.grow.Goals as goal

pub phases-requires-clause-reader : goal.phases-requires-clause-reader
phases-requires-clause-reader g c lives within =
    let r = c.in-Ok.ensures in
    let files = files_of g.H.Source.Source.whole c.in-Ok.reader in
    record {
      is_reader = r.reader;
      fresh = r.refusal;
      drawn = r.drawn;
      to_come = omega (arith, r.left, c.requires.fit.points_are, ap total c.as_slice-counts.ensures);
      inside = λ p lies. lies-in-cube c.args.plan.now.kept c.args.plan.now.counts files (rules_of c.args.plan.now.kept).cube c.requires.of_bounds c.requires.fit.counted (subst (λ (w : List SourceCount). All (IsFileOf c.args.plan.now.kept w) files) c.as_slice-counts.ensures r.inputs) p lies;
    }

-- ---- all points are inserted

pub returns-in-Ok-phases-clause-sampled : goal.returns-in-Ok-phases-clause-sampled
returns-in-Ok-phases-clause-sampled g c = λ telling.
    let plan = c.args.plan.now in
    tells-more (λ (all : Files). (points : List Point) → IsKeptScan all plan.kept c.as_slice-counts.result.now points → IsRest g.H.Source.Source.whole c.in-Ok.reader (drop c.args.at.inserted points)) _
    (λ all rest points scan can are. c.in-Ok-phases.ensures.sampled points can (kept-number all plan.kept plan.counts points scan ∙ sym c.requires.fit.points_are) (record { telling = telling; sampled = are; rest = rest points (subst (λ (w : List SourceCount). IsKeptScan all plan.kept w points) (sym c.as_slice-counts.ensures) scan) })) (g.H.Shelf.files c.args.shelf.now) c.in-Ok.ensures.rest

pub returns-in-Ok-phases-clause-on_way : goal.returns-in-Ok-phases-clause-on_way
returns-in-Ok-phases-clause-on_way g c = λ telling.
    let plan = c.args.plan.now in
    tells-more (λ (all : Files). (points : List Point) → IsKeptScan all plan.kept c.as_slice-counts.result.now points → IsRest g.H.Source.Source.whole c.in-Ok.reader (drop c.args.at.inserted points)) _
    (λ all rest points output are inserted way. c.in-Ok-phases.ensures.on_way all points output are (record { telling = telling; sampled = inserted; rest = rest points (subst (λ (w : List SourceCount). IsKeptScan all plan.kept w points) (sym c.as_slice-counts.ensures) are.scan) }) way) (g.H.Shelf.files c.args.shelf.now) c.in-Ok.ensures.rest

pub returns-in-Ok-phases-clause-sound : goal.returns-in-Ok-phases-clause-sound
returns-in-Ok-phases-clause-sound g c = λ telling.
    let plan = c.args.plan.now in
    tells-more (λ (all : Files). (points : List Point) → IsKeptScan all plan.kept c.as_slice-counts.result.now points → IsRest g.H.Source.Source.whole c.in-Ok.reader (drop c.args.at.inserted points)) _
    (λ all rest points output are inserted way. c.phases.ensures.sound all points output are (record { telling = telling; sampled = inserted; rest = rest points (subst (λ (w : List SourceCount). IsKeptScan all plan.kept w points) (sym c.as_slice-counts.ensures) are.scan) }) way) (g.H.Shelf.files c.args.shelf.now) c.in-Ok.ensures.rest

pub returns-in-Ok-phases-clause-asked : goal.returns-in-Ok-phases-clause-asked
returns-in-Ok-phases-clause-asked g c =
    subst (λ (w : List SourceCount). AsksFront (paths_left c.args.plan.now.kept.inputs w c.args.at.inserted) (g.H.Shelf.asked c.args.shelf.now) (g.H.Shelf.asked c.retire_all.new.shelf)) c.as_slice-counts.ensures
    (subst (λ (w : _). AsksFront (paths_left c.args.plan.now.kept.inputs c.as_slice-counts.result.now c.args.at.inserted) (g.H.Shelf.asked c.args.shelf.now) w) (sym c.retire_all.ensures.asked)
    (opens-front (paths_left c.args.plan.now.kept.inputs c.as_slice-counts.result.now c.args.at.inserted) c.reader.result (g.H.Shelf.asked c.args.shelf.now) (g.H.Shelf.asked c.reader.new.shelf) c.reader.ensures.asked))

-- ---- a phase is refused

pub returns-in-Err-phases-clause-sound : goal.returns-in-Err-phases-clause-sound
returns-in-Err-phases-clause-sound g c = λ telling.
    let plan = c.args.plan.now in
    tells-more (λ (all : Files). (points : List Point) → IsKeptScan all plan.kept c.as_slice-counts.result.now points → IsRest g.H.Source.Source.whole c.in-Ok.reader (drop c.args.at.inserted points)) _
    (λ all rest points output are inserted way. c.phases.ensures.sound all points output are (record { telling = telling; sampled = inserted; rest = rest points (subst (λ (w : List SourceCount). IsKeptScan all plan.kept w points) (sym c.as_slice-counts.ensures) are.scan) }) way) (g.H.Shelf.files c.args.shelf.now) c.in-Ok.ensures.rest

pub returns-in-Err-phases-clause-undamaged : goal.returns-in-Err-phases-clause-undamaged
returns-in-Err-phases-clause-undamaged g c = λ telling.
    let plan = c.args.plan.now in
    tells-more (λ (all : Files). (points : List Point) → IsKeptScan all plan.kept c.as_slice-counts.result.now points → IsRest g.H.Source.Source.whole c.in-Ok.reader (drop c.args.at.inserted points)) _
    (λ all rest points output are inserted way. c.in-Err-phases.ensures.undamaged all points output are (record { telling = telling; sampled = inserted; rest = rest points (subst (λ (w : List SourceCount). IsKeptScan all plan.kept w points) (sym c.as_slice-counts.ensures) are.scan) }) way) (g.H.Shelf.files c.args.shelf.now) c.in-Ok.ensures.rest

pub returns-in-Err-phases-clause-too_many : goal.returns-in-Err-phases-clause-too_many
returns-in-Err-phases-clause-too_many g c = λ telling is.
    let plan = c.args.plan.now in
    tells-more (λ (all : Files). (points : List Point) → IsKeptScan all plan.kept c.as_slice-counts.result.now points → IsRest g.H.Source.Source.whole c.in-Ok.reader (drop c.args.at.inserted points)) _
    (λ all rest points scan can are. c.in-Err-phases.ensures.too_many is points can (kept-number all plan.kept plan.counts points scan ∙ sym c.requires.fit.points_are) (record { telling = telling; sampled = are; rest = rest points (subst (λ (w : List SourceCount). IsKeptScan all plan.kept w points) (sym c.as_slice-counts.ensures) scan) })) (g.H.Shelf.files c.args.shelf.now) c.in-Ok.ensures.rest

pub returns-in-Err-phases-clause-no_change : goal.returns-in-Err-phases-clause-no_change
returns-in-Err-phases-clause-no_change g c = λ telling source number is.
    let plan = c.args.plan.now in
    tells-more (λ (all : Files). (points : List Point) → IsKeptScan all plan.kept c.as_slice-counts.result.now points → IsRest g.H.Source.Source.whole c.in-Ok.reader (drop c.args.at.inserted points)) _
    (λ all rest points scan can are. c.in-Err-phases.ensures.no_change source number is points can (record { telling = telling; sampled = are; rest = rest points (subst (λ (w : List SourceCount). IsKeptScan all plan.kept w points) (sym c.as_slice-counts.ensures) scan) })) (g.H.Shelf.files c.args.shelf.now) c.in-Ok.ensures.rest

pub returns-in-Err-phases-clause-no_damage : goal.returns-in-Err-phases-clause-no_damage
returns-in-Err-phases-clause-no_damage g c = λ telling kept found number is.
    let plan = c.args.plan.now in
    tells-more (λ (all : Files). (points : List Point) → IsKeptScan all plan.kept c.as_slice-counts.result.now points → IsRest g.H.Source.Source.whole c.in-Ok.reader (drop c.args.at.inserted points)) _
    (λ all rest points scan can are. c.in-Err-phases.ensures.no_damage kept found number is points can (record { telling = telling; sampled = are; rest = rest points (subst (λ (w : List SourceCount). IsKeptScan all plan.kept w points) (sym c.as_slice-counts.ensures) scan) })) (g.H.Shelf.files c.args.shelf.now) c.in-Ok.ensures.rest

pub returns-in-Err-phases-clause-asked : goal.returns-in-Err-phases-clause-asked
returns-in-Err-phases-clause-asked g c =
    subst (λ (w : List SourceCount). AsksFront (paths_left c.args.plan.now.kept.inputs w c.args.at.inserted) (g.H.Shelf.asked c.args.shelf.now) (g.H.Shelf.asked c.retire_all-in-Err-phases.new.shelf)) c.as_slice-counts.ensures
    (subst (λ (w : _). AsksFront (paths_left c.args.plan.now.kept.inputs c.as_slice-counts.result.now c.args.at.inserted) (g.H.Shelf.asked c.args.shelf.now) w) (sym c.retire_all-in-Err-phases.ensures.asked)
    (opens-front (paths_left c.args.plan.now.kept.inputs c.as_slice-counts.result.now c.args.at.inserted) c.reader.result (g.H.Shelf.asked c.args.shelf.now) (g.H.Shelf.asked c.reader.new.shelf) c.reader.ensures.asked))

pub returns-in-Err-phases-clause-sources : goal.returns-in-Err-phases-clause-sources
returns-in-Err-phases-clause-sources g c = λ is.
    omega (arith, c.in-Ok.ensures.cause.later, c.retire_all-in-Err-phases.ensures.failed (c.in-Err-phases.ensures.fault is))

-- ---- the reader is refused

pub returns-in-Err-clause-sound : goal.returns-in-Err-clause-sound
returns-in-Err-clause-sound g c = λ telling.
    tells-all _ (λ all points output are sampled way.
    moves-none g.T.Store.files g.T.Store.may_leave g.T.Store.moment g.T.Store.image_since (IsSoundUndone all) c.args.store.now
    (all-images g.T.Store.files g.T.Store.may_leave g.T.Store.moment g.T.Store.image_since (IsSoundUndone all) c.args.store.now (g.met.T.Store.reads_an_image c.args.store.now) way.sound))
    (g.H.Shelf.files c.args.shelf.now)

pub returns-in-Err-clause-reached : goal.returns-in-Err-clause-reached
returns-in-Err-clause-reached g c = λ telling stands.
    none-moves g.T.Store.files g.T.Store.may_leave g.T.Store.moment g.T.Store.image_since c.args.at.saved c.args.store.now (g.met.T.Store.reads_an_image c.args.store.now) stands (HasGone c.args.at.saved.current c.args.plan.now.kept c.args.step c.args.plan.now.points)
    (reached-now c.args.at.saved.current c.args.at.saved.current c.args.plan.now.kept c.args.step c.args.plan.now.points 0 (after-none c.args.at.saved.current c.args.plan.now.kept c.args.step c.args.plan.now.points (omega (arith, c.requires.tree.by_checkpoint, c.requires.inserted))))

pub returns-in-Err-clause-no_change : goal.returns-in-Err-clause-no_change
returns-in-Err-clause-no_change g c = λ telling source number is.
    absurd (c.in-Err.ensures.no_change source number (ap (λ (e : ReadError). Err e) (read-changed c.in-Err.refused source number (sym c.from.ensures ∙ (sym c.stop.ensures.error ∙ is)))))

pub returns-in-Err-clause-no_damage : goal.returns-in-Err-clause-no_damage
returns-in-Err-clause-no_damage g c = λ telling kept found number is.
    absurd (read-no-damage c.in-Err.refused kept found number (sym c.from.ensures ∙ (sym c.stop.ensures.error ∙ is)))

pub returns-in-Err-clause-spill : goal.returns-in-Err-clause-spill
returns-in-Err-clause-spill g c = λ is.
    absurd (read-no-spill c.in-Err.refused (sym c.from.ensures ∙ (sym c.stop.ensures.error ∙ is)))
