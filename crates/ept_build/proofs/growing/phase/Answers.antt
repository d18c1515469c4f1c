use Rattle.std.proofs.Common.{inl, ◌∙◌, ◌+◌, ◌<◌, List, take, drop, sym, ap, subst, arith}
use Rattle.std.specs.Prelude.{Err}
use Rattle.ept_point.specs.declared.point.Point.{Point}
use Rattle.ept_space.specs.OctreeCube.{InCube}
use Rattle.ept_space.specs.declared.cube.Rules.{Rules}
use Rattle.ept_sample.specs.Place.{place}
use Rattle.ept_config.specs.declared.source_count.SourceCount.{SourceCount}
use Rattle.ept_table.specs.Octree.{Branch, AreSampled}
use Rattle.ept_forest.specs.declared.forest.Forest.{Forest}
use Rattle.ept_forest.specs.Slots.{faults_of, nodes_of}
use Rattle.ept_octree.specs.Octree as tree
use Rattle.ept_octree_ckpt.specs.declared.error.PhaseError.{PhaseError}
use Rattle.ept_save.specs.View.{View}
use Rattle.ept_meta.specs.Output.{rules_of}
use Rattle.ept_octree_ckpt.specs.Phase.{AreGiven, IsSaved}
use Rattle.ept_scan.specs.Reader.{HasFault, IsRest}
use Rattle.ept_build.proofs.Causes.{inserted-many, inserted-changed, inserted-fault, inserted-spill, inserted-damage, phase-no-source, phase-damaged, phase-spill, phase-damage, devices-undamaged, broken-fault}
use Rattle.ept_build.proofs.Fronts.{rest-then, can-front}
use Rattle.ept_build.proofs.Phased.{stands-between, next-sampled, next-tree, many-then, each-stays, given-fit, saved-of}
use Rattle.ept_build.proofs.PhaseSound.{phase-moves, phase-images, way-sound, names-of, first-of, either-moves, none-moves}
use Rattle.ept_build.specs.Reached.{HasThisOrNext, generation_by}
use Rattle.ept_build.proofs.Counting.{next-one}
use Rattle.ept_build.proofs.Damage.{kept-damage}
use Rattle.ept_build.proofs.Still.{sound-still}
use Rattle.ept_build.proofs.growing.phase.Goals as goal

-- ---- nothing is inserted

pub returns-in-Err-clause-either : goal.returns-in-Err-clause-either
returns-in-Err-clause-either g c = λ telling stands.
    none-moves g.T.Store.files g.T.Store.may_leave g.T.Store.moment g.T.Store.image_since c.args.at.saved c.args.store.now (g.met.T.Store.reads_an_image c.args.store.now) stands (HasThisOrNext c.args.at.saved.current c.args.plan.now.kept (c.args.at.inserted + c.args.count)) (λ files has. inl has)

pub returns-in-Err-clause-too_many : goal.returns-in-Err-clause-too_many
returns-in-Err-clause-too_many g c = λ is points can has.
    let n = c.args.at.inserted in
    let own = c.args.at.octree in
    many-then (tree.rules_of own) (rules_of c.args.plan.now.kept) c.requires.tree.rules n c.args.count points (tree.most_of own)
    (c.in-Err.ensures.too_many (inserted-many c.in-Err.refused.error (sym c.not_inserted.ensures.error ∙ is)) (take n points) (drop n points) (stands-between g.F.SpillFile.held g.S.Source.whole c.args.plan.now points n c.args.reader own c.requires.tree.rules can has))

pub returns-in-Err-clause-no_change : goal.returns-in-Err-clause-no_change
returns-in-Err-clause-no_change g c = λ source number is points can has.
    let n = c.args.at.inserted in
    c.in-Err.ensures.no_change source number (inserted-changed c.in-Err.refused.error source number (sym c.not_inserted.ensures.error ∙ is)) (take n points) (drop n points) (stands-between g.F.SpillFile.held g.S.Source.whole c.args.plan.now points n c.args.reader c.args.at.octree c.requires.tree.rules can has)

pub returns-in-Err-clause-fault : goal.returns-in-Err-clause-fault
returns-in-Err-clause-fault g c = λ is.
    subst (HasFault g.S.Source.faults) (sym c.not_inserted.ensures.reader) (c.in-Err.ensures.fault (inserted-fault c.in-Err.refused.error (sym c.not_inserted.ensures.error ∙ is)))

pub returns-in-Err-clause-no_damage : goal.returns-in-Err-clause-no_damage
returns-in-Err-clause-no_damage g c = λ kept found number is points can has.
    let n = c.args.at.inserted in
    c.in-Err.ensures.no_damage kept found number (inserted-damage c.in-Err.refused.error kept found number (sym c.not_inserted.ensures.error ∙ is)) (take n points) (drop n points) (stands-between g.F.SpillFile.held g.S.Source.whole c.args.plan.now points n c.args.reader c.args.at.octree c.requires.tree.rules can has)

pub returns-in-Err-clause-spill : goal.returns-in-Err-clause-spill
returns-in-Err-clause-spill g c = λ is.
    subst (λ (w : Forest _). 0 < faults_of g.F.SpillFile.faults (nodes_of w)) (sym c.not_inserted.ensures.forest) (broken-fault g.F.SpillFile.faults (nodes_of c.in-Err.refused.forest) (c.in-Err.ensures.spill (inserted-spill c.in-Err.refused.error (sym c.not_inserted.ensures.error ∙ is))))

-- ---- the octree is saved

pub save_octree-requires-clause-each : goal.save_octree-requires-clause-each
save_octree-requires-clause-each g c =
    each-stays c.args.at.saved.current (tree.nodes_of g.F.SpillFile.held c.args.at.octree) (tree.nodes_of g.F.SpillFile.held c.in-Ok.grown.0) c.in-Ok.ensures.kept c.requires.tree.each

pub save_octree-requires-clause-newest : goal.save_octree-requires-clause-newest
save_octree-requires-clause-newest g c = c.requires.tree.newest

pub save_octree-requires-clause-given : goal.save_octree-requires-clause-given
save_octree-requires-clause-given g c =
    subst (λ (w : List SourceCount). AreGiven c.args.plan.now.kept w (c.args.at.inserted + c.args.count)) (sym c.as_slice-counts.ensures) (given-fit c.args.plan.now (c.args.at.inserted + c.args.count) c.requires.fit c.requires.count)

pub returns-in-Ok-save_octree-clause-tree : goal.returns-in-Ok-save_octree-clause-tree
returns-in-Ok-save_octree-clause-tree g c =
    let plan = c.args.plan.now in
    let inserted = c.args.at.inserted + c.args.count in
    let grown = c.in-Ok.grown.0 in
    let saved : IsSaved c.args.at.saved c.save_octree.new.saved plan.kept plan.counts inserted (tree.nodes_of g.F.SpillFile.held grown) = subst (λ (w : List SourceCount). IsSaved c.args.at.saved c.save_octree.new.saved plan.kept w inserted (tree.nodes_of g.F.SpillFile.held grown)) c.as_slice-counts.ensures c.in-Ok-save_octree.ensures.saved in
    next-tree g.F.SpillFile.held g.F.SpillFile.faults g.F.SpillFile.keeps plan inserted grown c.save_octree.new.octree c.args.at.saved c.save_octree.new.saved (c.in-Ok.ensures.rules ∙ c.requires.tree.rules) c.in-Ok.ensures.whole (omega (arith, c.in-Ok.ensures.number, c.requires.reader.drawn)) c.save_octree.ensures.same c.save_octree.ensures.rules
    (c.save_octree.ensures.linked c.in-Ok.ensures.linked) c.save_octree.ensures.agrees (c.in-Ok-save_octree.ensures.unbroken c.in-Ok.ensures.unbroken) saved

pub returns-in-Ok-save_octree-clause-reader : goal.returns-in-Ok-save_octree-clause-reader
returns-in-Ok-save_octree-clause-reader g c =
    let its = c.in-Ok.ensures in
    record {
      is_reader = its.reader;
      fresh = its.fresh;
      drawn = omega (arith, its.drawn, c.requires.reader.drawn);
      to_come = omega (arith, its.left, c.requires.reader.to_come);
      inside = λ p lies. subst (λ (r : Rules). InCube r.cube (place p)) c.requires.tree.rules (its.inside p lies);
    }

pub returns-in-Ok-save_octree-clause-generation : goal.returns-in-Ok-save_octree-clause-generation
returns-in-Ok-save_octree-clause-generation g c =
    let saved = c.in-Ok-save_octree.ensures.saved in
    ap (λ (v : View). generation_by v.current) saved.view_is ∙ (saved.is_next.generation ∙ next-one c.args.at.saved.current)

pub returns-in-Ok-save_octree-clause-either : goal.returns-in-Ok-save_octree-clause-either
returns-in-Ok-save_octree-clause-either g c = λ telling stands.
    either-moves g.T.Store.files g.T.Store.may_leave g.T.Store.moment g.T.Store.image_since c.args.at.saved c.args.store.now (g.met.T.Store.reads_an_image c.args.store.now) stands c.args.plan.now.kept c.as_slice-counts.result.now (c.args.at.inserted + c.args.count) (tree.nodes_of g.F.SpillFile.held c.in-Ok.grown.0) c.save_octree.new.store (c.save_octree.ensures.goes_on telling stands)

pub returns-in-Err-save_octree-clause-either : goal.returns-in-Err-save_octree-clause-either
returns-in-Err-save_octree-clause-either g c = λ telling stands.
    either-moves g.T.Store.files g.T.Store.may_leave g.T.Store.moment g.T.Store.image_since c.args.at.saved c.args.store.now (g.met.T.Store.reads_an_image c.args.store.now) stands c.args.plan.now.kept c.as_slice-counts.result.now (c.args.at.inserted + c.args.count) (tree.nodes_of g.F.SpillFile.held c.in-Ok.grown.0) c.save_octree.new.store (c.save_octree.ensures.goes_on telling stands)

pub returns-in-Ok-save_octree-clause-has : goal.returns-in-Ok-save_octree-clause-has
returns-in-Ok-save_octree-clause-has g c = λ points can has.
    let n = c.args.at.inserted in
    let k = c.args.count in
    let between = stands-between g.F.SpillFile.held g.S.Source.whole c.args.plan.now points n c.args.reader c.args.at.octree c.requires.tree.rules can has in
    record {
      telling = has.telling;
      sampled = subst (λ (w : List Branch). AreSampled (rules_of c.args.plan.now.kept) (take (n + k) points) w) (sym c.save_octree.ensures.same) (next-sampled g.F.SpillFile.held g.S.Source.whole c.args.plan.now points n c.args.reader c.args.at.octree c.requires.tree.rules can has k (tree.nodes_of g.F.SpillFile.held c.in-Ok.grown.0) c.in-Ok.ensures.sampled);
      rest = subst (λ (w : List Point). IsRest g.S.Source.whole c.in-Ok.grown.1 w) (rest-then n k points) (c.in-Ok.ensures.rest_left (take n points) (drop n points) between);
    }

pub returns-in-Ok-save_octree-clause-on_way : goal.returns-in-Ok-save_octree-clause-on_way
returns-in-Ok-save_octree-clause-on_way g c = λ shelf points output are has way.
    let plan = c.args.plan.now in
    let n = c.args.at.inserted in
    let old = c.args.at.saved in
    let new = c.save_octree.new.saved in
    let inserted = n + c.args.count in
    let nodes = tree.nodes_of g.F.SpillFile.held c.in-Ok.grown.0 in
    let saved : IsSaved old new plan.kept plan.counts inserted nodes = subst (λ (w : List SourceCount). IsSaved old new plan.kept w inserted nodes) c.as_slice-counts.ensures c.in-Ok-save_octree.ensures.saved in
    let sampled = next-sampled g.F.SpillFile.held g.S.Source.whole plan points n c.args.reader c.args.at.octree c.requires.tree.rules are.can has c.args.count nodes c.in-Ok.ensures.sampled in
    let still = sound-still c.stay_law.ensures.same shelf plan points are.can old.current c.requires.tree.rules_stay way.first inserted (omega (arith, c.requires.tree.by_checkpoint)) nodes sampled in
    record {
      first = first-of shelf plan points output are new.current (saved-of plan old new inserted nodes saved);
      names = names-of c.output_once_law.ensures.one shelf plan points output are new.current (saved-of plan old new inserted nodes saved);
      stands = c.in-Ok-save_octree.ensures.stands way.stands;
      sound = phase-images c.saved_law.ensures.saved c.sound_steps_law.ensures.keeping c.sound_steps_law.ensures.committing shelf plan points output are old inserted nodes sampled still c.as_slice-counts.result.now c.as_slice-counts.ensures
          g.T.Store.files g.T.Store.may_leave g.T.Store.moment g.T.Store.image_since c.args.store.now c.save_octree.new.store (g.met.T.Store.reads_an_image c.args.store.now) way (c.save_octree.ensures.goes_on has.telling way.stands);
    }

pub returns-in-Ok-save_octree-clause-sound : goal.returns-in-Ok-save_octree-clause-sound
returns-in-Ok-save_octree-clause-sound g c = λ shelf points output are has way.
    let plan = c.args.plan.now in
    let n = c.args.at.inserted in
    let nodes = tree.nodes_of g.F.SpillFile.held c.in-Ok.grown.0 in
    let sampled = next-sampled g.F.SpillFile.held g.S.Source.whole plan points n c.args.reader c.args.at.octree c.requires.tree.rules are.can has c.args.count nodes c.in-Ok.ensures.sampled in
    let still = sound-still c.stay_law.ensures.same shelf plan points are.can c.args.at.saved.current c.requires.tree.rules_stay way.first (n + c.args.count) (omega (arith, c.requires.tree.by_checkpoint)) nodes sampled in
    phase-moves c.saved_law.ensures.saved c.sound_steps_law.ensures.keeping c.sound_steps_law.ensures.committing shelf plan points output are c.args.at.saved (n + c.args.count) nodes sampled still c.as_slice-counts.result.now c.as_slice-counts.ensures
    g.T.Store.files g.T.Store.may_leave g.T.Store.moment g.T.Store.image_since c.args.store.now c.save_octree.new.store (g.met.T.Store.reads_an_image c.args.store.now) way (c.save_octree.ensures.goes_on has.telling way.stands)

pub returns-in-Err-save_octree-clause-sound : goal.returns-in-Err-save_octree-clause-sound
returns-in-Err-save_octree-clause-sound g c = λ shelf points output are has way.
    let plan = c.args.plan.now in
    let n = c.args.at.inserted in
    let nodes = tree.nodes_of g.F.SpillFile.held c.in-Ok.grown.0 in
    let sampled = next-sampled g.F.SpillFile.held g.S.Source.whole plan points n c.args.reader c.args.at.octree c.requires.tree.rules are.can has c.args.count nodes c.in-Ok.ensures.sampled in
    let still = sound-still c.stay_law.ensures.same shelf plan points are.can c.args.at.saved.current c.requires.tree.rules_stay way.first (n + c.args.count) (omega (arith, c.requires.tree.by_checkpoint)) nodes sampled in
    phase-moves c.saved_law.ensures.saved c.sound_steps_law.ensures.keeping c.sound_steps_law.ensures.committing shelf plan points output are c.args.at.saved (n + c.args.count) nodes sampled still c.as_slice-counts.result.now c.as_slice-counts.ensures
    g.T.Store.files g.T.Store.may_leave g.T.Store.moment g.T.Store.image_since c.args.store.now c.save_octree.new.store (g.met.T.Store.reads_an_image c.args.store.now) way (c.save_octree.ensures.goes_on has.telling way.stands)

pub returns-in-Err-save_octree-clause-damaged : goal.returns-in-Err-save_octree-clause-damaged
returns-in-Err-save_octree-clause-damaged g c = λ key is stands.
    let told = phase-damaged c.in-Err-save_octree.refused key (sym c.from.ensures ∙ (sym c.stop.ensures.error ∙ is)) in
    let damaged = c.in-Err-save_octree.ensures.damaged key (ap (λ (e : PhaseError). Err e) told) stands in
    kept-damage c.args.at.saved key (g.T.Store.files c.args.store.now) (g.T.Store.files c.save_octree.new.store) stands damaged.0 damaged.1 damaged.2

pub returns-in-Err-save_octree-clause-undamaged : goal.returns-in-Err-save_octree-clause-undamaged
returns-in-Err-save_octree-clause-undamaged g c = λ shelf points output are way key is.
    let sound = (way-sound shelf points output c.args.at.saved (g.T.Store.files c.args.store.now) (g.T.Store.may_leave c.args.store.now) (g.met.T.Store.reads_an_image c.args.store.now) way).sound in
    devices-undamaged c.in-Err-save_octree.refused key (c.in-Err-save_octree.ensures.sound shelf way.stands.all way.stands.told sound way.stands) (sym c.from.ensures ∙ (sym c.stop.ensures.error ∙ is))

pub returns-in-Err-save_octree-clause-fault : goal.returns-in-Err-save_octree-clause-fault
returns-in-Err-save_octree-clause-fault g c = λ is.
    absurd (phase-no-source c.in-Err-save_octree.refused (sym c.from.ensures ∙ (sym c.stop.ensures.error ∙ is)))

pub returns-in-Err-save_octree-clause-spill : goal.returns-in-Err-save_octree-clause-spill
returns-in-Err-save_octree-clause-spill g c = λ is.
    let told = phase-spill c.in-Err-save_octree.refused (sym c.from.ensures ∙ (sym c.stop.ensures.error ∙ is)) in
    subst (λ (w : Forest _). 0 < faults_of g.F.SpillFile.faults (nodes_of w)) (sym c.stop.ensures.forest) (c.in-Err-save_octree.ensures.spill (ap (λ (e : PhaseError). Err e) told))

pub returns-in-Err-save_octree-clause-no_damage : goal.returns-in-Err-save_octree-clause-no_damage
returns-in-Err-save_octree-clause-no_damage g c = λ kept found number is points can has.
    let n = c.args.at.inserted in
    let k = c.args.count in
    let told = phase-damage c.in-Err-save_octree.refused kept found number (sym c.from.ensures ∙ (sym c.stop.ensures.error ∙ is)) in
    let sampled = next-sampled g.F.SpillFile.held g.S.Source.whole c.args.plan.now points n c.args.reader c.args.at.octree c.requires.tree.rules can has k (tree.nodes_of g.F.SpillFile.held c.in-Ok.grown.0) c.in-Ok.ensures.sampled in
    c.in-Err-save_octree.ensures.no_damage (take (n + k) points) (can-front (rules_of c.args.plan.now.kept) (n + k) points can) sampled c.in-Ok.ensures.unbroken has.telling kept found number (ap (λ (e : PhaseError). Err e) told)
