use Rattle.std.proofs.Common.{◌≡◌, ◌≢◌, ◌∙◌, inl, inr, ℕ, ◌<◌, List, length, take, refl, sym, ap, subst}
use Rattle.std.specs.Prelude.{Err}
use Rattle.ept_base.specs.Files.{SameFiles}
use Rattle.ept_space.specs.VoxelKey.{VoxelKey}
use Rattle.ept_sample.specs.Nodes.{sampled as sampled-nodes}
use Rattle.ept_table.specs.Octree.{Branch}
use Rattle.ept_forest.specs.declared.forest.Forest.{Forest}
use Rattle.ept_forest.specs.Slots as trees
use Rattle.ept_forest.specs.Slots.{faults_of, kept_by}
use Rattle.ept_octree.specs.Octree.{nodes_of, most_of}
use Rattle.ept_config.specs.declared.input.Input.{Input}
use Rattle.ept_meta.specs.Output.{rules_of}
use Rattle.ept_save.specs.Current.{HasCurrent}
use Rattle.ept_save.proofs.Standing.{stepped, told_some}
use Rattle.ept_save.specs.Opening.{lines_of}
use Rattle.ept_save.specs.Loading.{HasNoDamage}
use Rattle.ept_octree_ckpt.specs.Loaded.{AreIntact}
use Rattle.ept_build.specs.declared.error.BuildError.{BuildError}
use Rattle.ept_build.specs.declared.error.BuildError.TheVariants.{TileDamaged, SourceChanged, SpillDamaged, TooManyNodes}
use Rattle.ept_build.specs.Building.{IsUnderWay}
use Rattle.ept_build.specs.Reached.{IsThrough}
use Rattle.ept_build.specs.Phases.{AreMany}
use Rattle.ept_build.proofs.Asking.{asks-none}
use Rattle.ept_build.proofs.Caused.{start-phase, end-phase, renew-no-spill}
use Rattle.ept_build.proofs.Causes.{tells-some}
use Rattle.ept_build.proofs.Ended.{asks-alike, no-refusal, cause-none, cause-after, cause-last, finds-none, kept-after}
use Rattle.ept_build.proofs.Ground.{IsGround, ground as ground-of, extent-found, many-at}
use Rattle.ept_build.proofs.Damage.{loading-tells, first-more, slot-intact}
use Rattle.ept_build.proofs.Judging.{err-one, end-refused, end-not-many, end-no-source}
use Rattle.ept_build.proofs.Moved.{moves-then}
use Rattle.ept_build.proofs.Numbers.{nodes-number}
use Rattle.ept_build.proofs.Refusals.{phase-refused, start-refused}
use Rattle.ept_build.proofs.Roomy.{many-phases}
use Rattle.ept_build.proofs.Running.{few-lines}
use Rattle.ept_build.proofs.TakenUp.{inserted-few, taken-inputs, taken-of}
use Rattle.ept_build.proofs.UnderWay.{first-moves, grow-moves, end-moves, stopped-at, too-many-already, settled-stays, complete-end}
use Rattle.ept_build.proofs.building.built.Goals as goal

pub grow-requires-clause-same : goal.grow-requires-clause-same
grow-requires-clause-same g c lives within = λ all.
    let taken = c.in_default.ensures.taken_up.taken in
    taken-of c.args.plan.now c.args.at.saved.current c.take_up.new.at.saved.current taken (c.requires.plan.same (sym (taken-inputs c.args.at.saved.current c.take_up.new.at.saved.current taken) ∙ all))

-- ---- the nodes are not loaded

pub returns-in-Err-clause-ends : goal.returns-in-Err-clause-ends
returns-in-Err-clause-ends g c = λ all start shelf_told starts.
    let it : IsGround all start c.args.config.now c.args.at.saved.current c.args.plan.now c.whole_extent-extent.result =
    ground-of c.output_once_law.ensures.one c.output_once_law.ensures.sampled c.output_names_law.ensures.grow c.saved_law.ensures.loaded all start c.args.config.now c.args.at.saved.current c.args.plan.now c.requires.plan starts.scans starts.ready.has_current starts.ready.sound c.whole_extent-extent.result (extent-found c.args.plan.now.counts c.as_slice.result.now c.whole_extent-extent.result c.as_slice.ensures c.whole_extent-extent.ensures) in
    let less : most_of c.args.at.octree < length (lines_of c.args.at.saved.current) → c.args.config.now.max_nodes < length (sampled-nodes (rules_of c.args.plan.now.kept) (take c.args.plan.now.inserted it.points)) =
    λ many. few-lines c.args.config.now.max_nodes (most_of c.args.at.octree) _ _ c.requires.room.for_lines many it.lines in record {
      built = tt;
      under_way = first-moves all start c.args.config.now c.args.at.saved.current c.args.plan.now c.whole_extent-extent.result it starts.ready.has_current g.T.Store.files g.T.Store.may_leave g.T.Store.moment g.T.Store.image_since c.args.store.now c.take_up.new.store (inserted-few c.args.config.now c.args.at.saved.current c.args.plan.now c.requires.plan) (c.take_up.ensures.sound all start starts.ready);
      stopped = λ is. (
          let its = ap (λ (w : BuildError). Err w) (err-one is) in
          let untouched = c.in-Err.ensures.refused.untouched its in
          let now = stepped SameFiles (g.T.Store.files c.args.store.now) (g.T.Store.files c.take_up.new.store) start starts.ready.told untouched.0.reads in (
            settled-stays start (g.T.Store.files c.args.store.now) (g.T.Store.files c.take_up.new.store) (g.T.Store.may_leave c.args.store.now) (g.T.Store.may_leave c.take_up.new.store) starts.ready.told starts.ready.settled now.0 now.1 now.2 untouched.1,
            inl (too-many-already all start c.args.config.now c.args.at.saved.current c.args.plan.now c.whole_extent-extent.result it starts.ready.has_current c.requires.plan.inserted_is (less (c.in-Err.ensures.refused.too_many its)), untouched.0),
          ));
      refused = start-refused all c.args.config.now c.args.at.saved.current c.in-Err.refused c.in-Err.ensures.only (λ key same. c.in-Err.ensures.refused.undamaged all start starts.ready key (ap (λ (w : BuildError). Err w) same))
          (λ same. many-at c.node_law.ensures.more_nodes all start c.args.config.now c.args.at.saved.current c.args.plan.now c.whole_extent-extent.result it c.args.plan.now.inserted (less (c.in-Err.ensures.refused.too_many (ap (λ (w : BuildError). Err w) same))));
    }

pub returns-in-Err-clause-only : goal.returns-in-Err-clause-only
returns-in-Err-clause-only g c = start-phase c.in-Err.refused c.in-Err.ensures.only

pub returns-in-Err-clause-damaged : goal.returns-in-Err-clause-damaged
returns-in-Err-clause-damaged g c = λ key is stands.
    (c.args.at.saved.current, c.in-Err.ensures.refused.damaged key (ap (λ (w : BuildError). Err w) (err-one is)) stands)

pub returns-in-Err-clause-damage : goal.returns-in-Err-clause-damage
returns-in-Err-clause-damage g c = λ start told.
    let current = c.args.at.saved.current in record {
      first = λ key other damaged is. (
          let found = c.in-Err.ensures.refused.first other start told (ap (λ (w : BuildError). Err w) (err-one is)) in
          (first-more current (most_of c.args.at.octree) c.args.config.now.max_nodes other start c.requires.room.few found.0, found.1));
      comes = λ key slot damaged. loading-tells (Err c.in-Err.refused) c.in-Err.refused refl c.in-Err.ensures.only
          (λ same. (
          let its = ap (λ (w : BuildError). Err w) same in
          let wide : most_of c.args.at.octree ≡ c.args.config.now.max_nodes = c.requires.room.for_lines (c.in-Err.ensures.refused.too_many its) in
          let intact = told_some (AreIntact current (take (most_of c.args.at.octree) (lines_of current))) (g.T.Store.files c.args.store.now) start told (c.in-Err.ensures.refused.intact its) in
          slot-intact current c.args.config.now.max_nodes key start slot (subst (λ (n : ℕ). AreIntact current (take n (lines_of current)) start) wide intact) damaged));
    }

pub returns-in-Err-clause-asked : goal.returns-in-Err-clause-asked
returns-in-Err-clause-asked g c = (0, asks-none (g.H.Shelf.asked c.args.shelf.now))

pub returns-in-Err-clause-stores : goal.returns-in-Err-clause-stores
returns-in-Err-clause-stores g c =
    record {
      later = c.take_up.ensures.stores.later;
      failed = λ is. c.in-Err.ensures.stores.failed (ap (λ (w : BuildError). Err w) (err-one is));
    }

pub returns-in-Err-clause-spill : goal.returns-in-Err-clause-spill
returns-in-Err-clause-spill g c = λ is.
    subst (λ (w : Forest _). 0 < faults_of g.F.SpillFile.faults (trees.nodes_of w)) (sym c.into_forest.ensures) (c.in-Err.ensures.spill (ap (λ (w : BuildError). Err w) (err-one is)))

-- ---- a phase is refused

pub returns-in-Err-grow-clause-ends : goal.returns-in-Err-grow-clause-ends
returns-in-Err-grow-clause-ends g c = λ all start shelf_told starts.
    let it : IsGround all start c.args.config.now c.args.at.saved.current c.args.plan.now c.whole_extent-extent.result =
    ground-of c.output_once_law.ensures.one c.output_once_law.ensures.sampled c.output_names_law.ensures.grow c.saved_law.ensures.loaded all start c.args.config.now c.args.at.saved.current c.args.plan.now c.requires.plan starts.scans starts.ready.has_current starts.ready.sound c.whole_extent-extent.result (extent-found c.args.plan.now.counts c.as_slice.result.now c.whole_extent-extent.result c.as_slice.ensures c.whole_extent-extent.ensures) in
    let has : HasCurrent c.args.at.saved.current start = starts.ready.has_current in
    let taken = c.in_default.ensures.taken_up.taken in
    let inserted : c.take_up.new.at.inserted ≡ c.args.plan.now.inserted = c.take_up.ensures.inserted ∙ (sym c.requires.begun.by_checkpoint ∙ sym c.requires.plan.inserted_is) in
    let sampled = it.loaded (nodes_of g.F.SpillFile.held c.take_up.new.at.octree) (g.T.Store.files c.args.store.now) c.take_up.new.at.inserted inserted starts.ready.told (c.in_default.ensures.loaded starts.spills) in
    let way = c.in_default.ensures.on_way all start it.points it.out starts.ready it.first it.names in
    let first = first-moves all start c.args.config.now c.args.at.saved.current c.args.plan.now c.whole_extent-extent.result it has g.T.Store.files g.T.Store.may_leave g.T.Store.moment g.T.Store.image_since c.args.store.now c.take_up.new.store (inserted-few c.args.config.now c.args.at.saved.current c.args.plan.now c.requires.plan) (c.take_up.ensures.sound all start starts.ready) in
    let second = grow-moves all start c.args.config.now c.args.at.saved.current c.args.plan.now c.whole_extent-extent.result it has g.T.Store.files g.T.Store.may_leave g.T.Store.moment g.T.Store.image_since c.take_up.new.store c.grow.new.store c.take_up.new.at.saved.current taken
    (tells-some _ (g.H.Shelf.files c.args.shelf.now) all shelf_told (c.grow.ensures.sound starts.spills) it.points it.out it.are sampled way) (c.grow.ensures.reached starts.spills way.stands) in
    let both = moves-then g.T.Store.files g.T.Store.may_leave g.T.Store.moment g.T.Store.image_since (IsUnderWay all c.args.config.now start) c.args.store.now c.take_up.new.store c.grow.new.store first second in
    let many = λ (same : c.in-Err-grow.stopped.error ≡ TooManyNodes). many-phases c.room_law.ensures c.args.plan.now c.args.at.saved.current c.args.config.now.max_nodes (most_of c.args.at.octree) c.requires.room it.points it.are.can it.number c.take_up.new.at.saved.current c.in-Err-grow.stopped.saved.current c.args.config.now.checkpoint
    (subst (λ (n : ℕ). AreMany c.args.plan.now c.take_up.new.at.saved.current c.args.config.now.checkpoint n it.points c.in-Err-grow.stopped.saved.current) c.take_up.ensures.most (tells-some _ (g.H.Shelf.files c.args.shelf.now) all shelf_told (c.in-Err-grow.ensures.too_many starts.spills same) it.points it.are.scan it.are.can sampled)) in
    let damaged : (key : VoxelKey) → c.in-Err-grow.stopped.error ≢ TileDamaged key = λ key same. tells-some _ (g.H.Shelf.files c.args.shelf.now) all shelf_told (c.in-Err-grow.ensures.undamaged starts.spills) it.points it.out it.are sampled way key same in
    let changed : (source number : ℕ) → c.in-Err-grow.stopped.error ≢ SourceChanged source number = λ source number same. tells-some _ (g.H.Shelf.files c.args.shelf.now) all shelf_told (c.in-Err-grow.ensures.no_change starts.spills source number same) it.points it.are.scan it.are.can sampled in
    let whole : (kept found number : ℕ) → c.in-Err-grow.stopped.error ≢ SpillDamaged kept found number = λ kept found number same. tells-some _ (g.H.Shelf.files c.args.shelf.now) all shelf_told (c.in-Err-grow.ensures.no_damage starts.spills kept found number same) it.points it.are.scan it.are.can sampled in record {
      built = tt;
      under_way = both;
      stopped = λ is. (
          let its = err-one is in
          (c.in-Err-grow.ensures.settled its c.in_default.ensures.settled, inr (stopped-at all start c.args.config.now c.args.at.saved.current c.args.plan.now c.whole_extent-extent.result it has c.take_up.new.at.saved.current taken c.in-Err-grow.stopped.saved (g.T.Store.files c.grow.new.store) (g.T.Store.may_leave c.grow.new.store) (c.in-Err-grow.ensures.stands its way.stands) (many its))));
      refused = phase-refused all c.args.config.now c.args.at.saved.current c.in-Err-grow.stopped.error c.in-Err-grow.ensures.only damaged changed whole
          (λ same. many-at c.node_law.ensures.more_nodes all start c.args.config.now c.args.at.saved.current c.args.plan.now c.whole_extent-extent.result it _ (many same).many);
    }

pub returns-in-Err-grow-clause-damaged : goal.returns-in-Err-grow-clause-damaged
returns-in-Err-grow-clause-damaged g c = λ key is stands. c.in-Err-grow.ensures.damaged key (err-one is) (c.in_default.ensures.stands stands)

pub returns-in-Err-grow-clause-damage : goal.returns-in-Err-grow-clause-damage
returns-in-Err-grow-clause-damage g c = λ start told.
    finds-none g.T.Store.files g.T.Store.may_leave g.T.Store.moment g.T.Store.image_since c.args.config.now c.args.at.saved.current start _ c.args.store.now c.grow.new.store (told_some (HasNoDamage c.args.at.saved.current) (g.T.Store.files c.args.store.now) start told c.in_default.ensures.damaged_comes)

pub returns-in-Err-grow-clause-asked : goal.returns-in-Err-grow-clause-asked
returns-in-Err-grow-clause-asked g c =
    let inserted : c.take_up.new.at.inserted ≡ c.args.plan.now.inserted = c.take_up.ensures.inserted ∙ (sym c.requires.begun.by_checkpoint ∙ sym c.requires.plan.inserted_is) in
    asks-alike c.args.plan.now.kept.inputs c.args.plan.now.counts c.take_up.new.at.inserted c.args.plan.now.inserted (g.H.Shelf.asked c.args.shelf.now) (g.H.Shelf.asked c.grow.new.shelf) inserted c.grow.ensures.asked

pub returns-in-Err-grow-clause-spill : goal.returns-in-Err-grow-clause-spill
returns-in-Err-grow-clause-spill g c = λ is. c.in-Err-grow.ensures.spill (err-one is)

pub returns-in-Err-grow-clause-sources : goal.returns-in-Err-grow-clause-sources
returns-in-Err-grow-clause-sources g c =
    record { later = c.in-Err-grow.ensures.sources_later; failed = λ is. c.in-Err-grow.ensures.sources (err-one is) }

pub returns-in-Err-grow-clause-stores : goal.returns-in-Err-grow-clause-stores
returns-in-Err-grow-clause-stores g c =
    cause-after _ _ _ c.take_up.ensures.stores.later c.in-Err-grow.ensures.stores_later (λ is. c.in-Err-grow.ensures.stores (err-one is))

-- ---- the output is not put

pub returns-in-Err-finish-clause-ends : goal.returns-in-Err-finish-clause-ends
returns-in-Err-finish-clause-ends g c = λ all start shelf_told starts.
    let it : IsGround all start c.args.config.now c.args.at.saved.current c.args.plan.now c.whole_extent-extent.result =
    ground-of c.output_once_law.ensures.one c.output_once_law.ensures.sampled c.output_names_law.ensures.grow c.saved_law.ensures.loaded all start c.args.config.now c.args.at.saved.current c.args.plan.now c.requires.plan starts.scans starts.ready.has_current starts.ready.sound c.whole_extent-extent.result (extent-found c.args.plan.now.counts c.as_slice.result.now c.whole_extent-extent.result c.as_slice.ensures c.whole_extent-extent.ensures) in
    let has : HasCurrent c.args.at.saved.current start = starts.ready.has_current in
    let taken = c.in_default.ensures.taken_up.taken in
    let inserted : c.take_up.new.at.inserted ≡ c.args.plan.now.inserted = c.take_up.ensures.inserted ∙ (sym c.requires.begun.by_checkpoint ∙ sym c.requires.plan.inserted_is) in
    let sampled = it.loaded (nodes_of g.F.SpillFile.held c.take_up.new.at.octree) (g.T.Store.files c.args.store.now) c.take_up.new.at.inserted inserted starts.ready.told (c.in_default.ensures.loaded starts.spills) in
    let way = c.in_default.ensures.on_way all start it.points it.out starts.ready it.first it.names in
    let first = first-moves all start c.args.config.now c.args.at.saved.current c.args.plan.now c.whole_extent-extent.result it has g.T.Store.files g.T.Store.may_leave g.T.Store.moment g.T.Store.image_since c.args.store.now c.take_up.new.store (inserted-few c.args.config.now c.args.at.saved.current c.args.plan.now c.requires.plan) (c.take_up.ensures.sound all start starts.ready) in
    let second = grow-moves all start c.args.config.now c.args.at.saved.current c.args.plan.now c.whole_extent-extent.result it has g.T.Store.files g.T.Store.may_leave g.T.Store.moment g.T.Store.image_since c.take_up.new.store c.grow.new.store c.take_up.new.at.saved.current taken
    (tells-some _ (g.H.Shelf.files c.args.shelf.now) all shelf_told (c.grow.ensures.sound starts.spills) it.points it.out it.are sampled way) (c.grow.ensures.reached starts.spills way.stands) in
    let both = moves-then g.T.Store.files g.T.Store.may_leave g.T.Store.moment g.T.Store.image_since (IsUnderWay all c.args.config.now start) c.args.store.now c.take_up.new.store c.grow.new.store first second in
    let way_on = tells-some _ (g.H.Shelf.files c.args.shelf.now) all shelf_told (c.in-Ok.ensures.on_way starts.spills) it.points it.out it.are sampled way in
    record {
      built = tt;
      under_way = moves-then g.T.Store.files g.T.Store.may_leave g.T.Store.moment g.T.Store.image_since (IsUnderWay all c.args.config.now start) c.args.store.now c.grow.new.store c.finish.new.store both
          (end-moves all start c.args.config.now c.args.at.saved.current c.args.plan.now c.whole_extent-extent.result it has g.T.Store.files g.T.Store.may_leave g.T.Store.moment g.T.Store.image_since c.grow.new.store c.finish.new.store c.take_up.new.at.saved.current taken (length c.args.plan.now.kept.inputs) c.in-Ok.end.saved.current c.in-Ok.ensures.through
          (c.finish.ensures.sound all it.points it.out it.are it.number it.has_extent way_on));
      stopped = λ is. absurd (end-not-many c.in-Err-finish.refused c.in-Err-finish.ensures.only (err-one is));
      refused = end-refused all c.args.config.now c.args.at.saved.current c.in-Err-finish.refused c.in-Err-finish.ensures.only
          (λ key same. c.in-Err-finish.ensures.undamaged all it.points it.out way_on key (ap (λ (w : BuildError). Err w) same));
    }

pub returns-in-Err-finish-clause-only : goal.returns-in-Err-finish-clause-only
returns-in-Err-finish-clause-only g c =
    end-phase c.in-Err-finish.refused c.in-Err-finish.ensures.only

pub returns-in-Err-finish-clause-damaged : goal.returns-in-Err-finish-clause-damaged
returns-in-Err-finish-clause-damaged g c = λ key is stands.
    (c.in-Ok.end.saved.current, c.in-Err-finish.ensures.damaged key (ap (λ (w : BuildError). Err w) (err-one is)) (c.in-Ok.ensures.stands_after (c.in_default.ensures.stands stands)))

pub returns-in-Err-finish-clause-damage : goal.returns-in-Err-finish-clause-damage
returns-in-Err-finish-clause-damage g c = λ start told.
    finds-none g.T.Store.files g.T.Store.may_leave g.T.Store.moment g.T.Store.image_since c.args.config.now c.args.at.saved.current start _ c.args.store.now c.finish.new.store (told_some (HasNoDamage c.args.at.saved.current) (g.T.Store.files c.args.store.now) start told c.in_default.ensures.damaged_comes)

pub returns-in-Err-finish-clause-asked : goal.returns-in-Err-finish-clause-asked
returns-in-Err-finish-clause-asked g c =
    let inserted : c.take_up.new.at.inserted ≡ c.args.plan.now.inserted = c.take_up.ensures.inserted ∙ (sym c.requires.begun.by_checkpoint ∙ sym c.requires.plan.inserted_is) in
    asks-alike c.args.plan.now.kept.inputs c.args.plan.now.counts c.take_up.new.at.inserted c.args.plan.now.inserted (g.H.Shelf.asked c.args.shelf.now) (g.H.Shelf.asked c.grow.new.shelf) inserted c.grow.ensures.asked

pub returns-in-Err-finish-clause-sources : goal.returns-in-Err-finish-clause-sources
returns-in-Err-finish-clause-sources g c =
    cause-none _ _ c.in-Ok.ensures.sources_later (λ is. end-no-source c.in-Err-finish.refused c.in-Err-finish.ensures.only (err-one is))

pub returns-in-Err-finish-clause-stores : goal.returns-in-Err-finish-clause-stores
returns-in-Err-finish-clause-stores g c =
    cause-last _ _ _ _ c.take_up.ensures.stores.later c.in-Ok.ensures.stores_later c.finish.ensures.stores.later (λ is. c.in-Err-finish.ensures.stores.failed (ap (λ (w : BuildError). Err w) (err-one is)))

pub returns-in-Err-finish-clause-spill : goal.returns-in-Err-finish-clause-spill
returns-in-Err-finish-clause-spill g c = λ is. absurd (renew-no-spill c.in-Err-finish.refused c.in-Err-finish.ensures.only (err-one is))

-- ---- all is done

pub returns-in-Ok-finish-clause-ends : goal.returns-in-Ok-finish-clause-ends
returns-in-Ok-finish-clause-ends g c = λ all start shelf_told starts.
    let it : IsGround all start c.args.config.now c.args.at.saved.current c.args.plan.now c.whole_extent-extent.result =
    ground-of c.output_once_law.ensures.one c.output_once_law.ensures.sampled c.output_names_law.ensures.grow c.saved_law.ensures.loaded all start c.args.config.now c.args.at.saved.current c.args.plan.now c.requires.plan starts.scans starts.ready.has_current starts.ready.sound c.whole_extent-extent.result (extent-found c.args.plan.now.counts c.as_slice.result.now c.whole_extent-extent.result c.as_slice.ensures c.whole_extent-extent.ensures) in
    let has : HasCurrent c.args.at.saved.current start = starts.ready.has_current in
    let taken = c.in_default.ensures.taken_up.taken in
    let inserted : c.take_up.new.at.inserted ≡ c.args.plan.now.inserted = c.take_up.ensures.inserted ∙ (sym c.requires.begun.by_checkpoint ∙ sym c.requires.plan.inserted_is) in
    let sampled = it.loaded (nodes_of g.F.SpillFile.held c.take_up.new.at.octree) (g.T.Store.files c.args.store.now) c.take_up.new.at.inserted inserted starts.ready.told (c.in_default.ensures.loaded starts.spills) in
    let way = c.in_default.ensures.on_way all start it.points it.out starts.ready it.first it.names in
    let first = first-moves all start c.args.config.now c.args.at.saved.current c.args.plan.now c.whole_extent-extent.result it has g.T.Store.files g.T.Store.may_leave g.T.Store.moment g.T.Store.image_since c.args.store.now c.take_up.new.store (inserted-few c.args.config.now c.args.at.saved.current c.args.plan.now c.requires.plan) (c.take_up.ensures.sound all start starts.ready) in
    let second = grow-moves all start c.args.config.now c.args.at.saved.current c.args.plan.now c.whole_extent-extent.result it has g.T.Store.files g.T.Store.may_leave g.T.Store.moment g.T.Store.image_since c.take_up.new.store c.grow.new.store c.take_up.new.at.saved.current taken
    (tells-some _ (g.H.Shelf.files c.args.shelf.now) all shelf_told (c.grow.ensures.sound starts.spills) it.points it.out it.are sampled way) (c.grow.ensures.reached starts.spills way.stands) in
    let both = moves-then g.T.Store.files g.T.Store.may_leave g.T.Store.moment g.T.Store.image_since (IsUnderWay all c.args.config.now start) c.args.store.now c.take_up.new.store c.grow.new.store first second in
    let way_on = tells-some _ (g.H.Shelf.files c.args.shelf.now) all shelf_told (c.in-Ok.ensures.on_way starts.spills) it.points it.out it.are sampled way in
    let grown = tells-some _ (g.H.Shelf.files c.args.shelf.now) all shelf_told (c.in-Ok.ensures.sampled starts.spills) it.points it.are.scan it.are.can sampled in
    let complete = c.in-Ok-finish.ensures.complete all it.points it.out it.are it.number it.has_extent way_on in
    let ending = c.finish.ensures.sound all it.points it.out it.are it.number it.has_extent way_on in
    let nodes_are = nodes-number (rules_of c.args.plan.now.kept) it.points (nodes_of g.F.SpillFile.held c.in-Ok.end.octree) grown in
    let through = subst (λ (w : List Input). IsThrough c.take_up.new.at.saved.current c.args.plan.now.kept c.args.config.now.checkpoint c.args.plan.now.points (length w) c.in-Ok.end.saved.current) c.requires.plan.kept_is.inputs_is c.in-Ok.ensures.through in record {
      built = complete-end all start c.args.config.now c.args.at.saved.current c.args.plan.now c.whole_extent-extent.result it has c.take_up.new.at.saved.current taken c.in-Ok.end.saved.current through c.len.result (c.len.ensures.number ∙ nodes_are)
          (g.T.Store.files c.grow.new.store) (g.T.Store.files c.finish.new.store) ending.reads complete;
      under_way = moves-then g.T.Store.files g.T.Store.may_leave g.T.Store.moment g.T.Store.image_since (IsUnderWay all c.args.config.now start) c.args.store.now c.grow.new.store c.finish.new.store both
          (end-moves all start c.args.config.now c.args.at.saved.current c.args.plan.now c.whole_extent-extent.result it has g.T.Store.files g.T.Store.may_leave g.T.Store.moment g.T.Store.image_since c.grow.new.store c.finish.new.store c.take_up.new.at.saved.current taken (length c.args.plan.now.kept.inputs) c.in-Ok.end.saved.current c.in-Ok.ensures.through ending);
      stopped = λ is. absurd (no-refusal is);
      refused = tt;
    }

pub returns-in-Ok-finish-clause-damaged : goal.returns-in-Ok-finish-clause-damaged
returns-in-Ok-finish-clause-damaged g c = λ key is stands. absurd (no-refusal is)

pub returns-in-Ok-finish-clause-damage : goal.returns-in-Ok-finish-clause-damage
returns-in-Ok-finish-clause-damage g c = λ start told.
    finds-none g.T.Store.files g.T.Store.may_leave g.T.Store.moment g.T.Store.image_since c.args.config.now c.args.at.saved.current start _ c.args.store.now c.finish.new.store (told_some (HasNoDamage c.args.at.saved.current) (g.T.Store.files c.args.store.now) start told c.in_default.ensures.damaged_comes)

pub returns-in-Ok-finish-clause-asked : goal.returns-in-Ok-finish-clause-asked
returns-in-Ok-finish-clause-asked g c =
    let inserted : c.take_up.new.at.inserted ≡ c.args.plan.now.inserted = c.take_up.ensures.inserted ∙ (sym c.requires.begun.by_checkpoint ∙ sym c.requires.plan.inserted_is) in
    asks-alike c.args.plan.now.kept.inputs c.args.plan.now.counts c.take_up.new.at.inserted c.args.plan.now.inserted (g.H.Shelf.asked c.args.shelf.now) (g.H.Shelf.asked c.grow.new.shelf) inserted c.grow.ensures.asked

pub returns-in-Ok-finish-clause-sources : goal.returns-in-Ok-finish-clause-sources
returns-in-Ok-finish-clause-sources g c = cause-none _ _ c.in-Ok.ensures.sources_later no-refusal

pub returns-in-Ok-finish-clause-stores : goal.returns-in-Ok-finish-clause-stores
returns-in-Ok-finish-clause-stores g c =
    cause-last _ _ _ _ c.take_up.ensures.stores.later c.in-Ok.ensures.stores_later c.finish.ensures.stores.later (λ is. absurd (no-refusal is))

pub returns-in-Ok-finish-clause-spill : goal.returns-in-Ok-finish-clause-spill
returns-in-Ok-finish-clause-spill g c = λ is. absurd (no-refusal is)

pub returns-in-Ok-finish-clause-kept : goal.returns-in-Ok-finish-clause-kept
returns-in-Ok-finish-clause-kept g c =
    kept-after c.len.ensures.number (c.len.ensures.kept c.in-Ok.ensures.tree.unbroken c.in-Ok.ensures.tree.agrees) (c.in-Ok.ensures.cache ∙ c.take_up.ensures.cache)
    (ap (λ (w : Forest _). kept_by g.F.SpillFile.keeps (trees.nodes_of w)) c.into_forest-in-Ok-finish.ensures)
