use Rattle.std.proofs.Common.{inl, inr, ◌≡◌, ◌∙◌, ◌≤◌, ◌<◌, ◌+◌, ℕ, List, length, take, refl, sym, ap, subst, arith}
use Rattle.std.specs.Prelude.{Err}
use Rattle.std.proofs.lemmas.Result.{err_from_is_err_and}
use Rattle.ept_base.specs.Moves.{IsSettled}
use Rattle.ept_point.specs.declared.point.Point.{Point}
use Rattle.ept_octree.specs.Octree.{nodes_of, most_of}
use Rattle.ept_table.specs.Octree.{AreSampled}
use Rattle.ept_meta.specs.Output.{rules_of}
use Rattle.ept_sample.specs.Nodes.{sampled}
use Rattle.ept_save.specs.View.{View, StandsFor}
use Rattle.ept_plan.specs.Plans.{inserted_by}
use Rattle.ept_build.specs.Phases.{IsTreeOf, IsSoundUndone, AreMany}
use Rattle.ept_build.proofs.Causes.{if-refused}
use Rattle.ept_build.proofs.Fronts.{all-front}
use Rattle.ept_build.specs.Reached.{HasGone, HasThisOrNext}
use Rattle.ept_build.proofs.Counting.{keeps-of, after-none, after-next, reached-now, reached-then, no-fewer-none, no-fewer-next, through, take-most}
use Rattle.ept_build.proofs.Numbers.{nodes-number}
use Rattle.ept_build.proofs.PhaseSound.{none-moves}
use Rattle.ept_build.proofs.Moved.{moves-none, moves-then, moves-wider, all-images}
use Rattle.ept_build.proofs.Phased.{of-inputs, goes-on}
use Rattle.ept_build.proofs.growing.phases.Goals as goal

pub loop-alloc-init : goal.loop-alloc-init
loop-alloc-init g c = record {
  tree = c.requires.tree;
  most = refl;
  cache = refl;
  reads = c.requires.reader;
  same = c.requires.same;
  later = omega arith;
  has = λ points can has. has;
  way = λ shelf points output are has way. way;
  moves = λ shelf points output are has way.
      moves-none g.T.Store.files g.T.Store.may_leave g.T.Store.moment g.T.Store.image_since (IsSoundUndone shelf) c.args.store.now
      (all-images g.T.Store.files g.T.Store.may_leave g.T.Store.moment g.T.Store.image_since (IsSoundUndone shelf) c.args.store.now (g.met.T.Store.reads_an_image c.args.store.now) way.sound);
  phases = 0;
  after = after-none c.args.at.saved.current c.args.plan.now.kept c.args.step c.args.plan.now.points (omega (arith, c.requires.tree.by_checkpoint, c.requires.reader.to_come));
  begun = inl refl;
  fewest = no-fewer-none _ _ c.args.step;
  stands = λ stands. stands;
  settled = λ settled. settled;
  reached = λ telling stands.
      none-moves g.T.Store.files g.T.Store.may_leave g.T.Store.moment g.T.Store.image_since c.args.at.saved c.args.store.now (g.met.T.Store.reads_an_image c.args.store.now) stands (HasGone c.args.at.saved.current c.args.plan.now.kept c.args.step c.args.plan.now.points)
      (reached-now c.args.at.saved.current c.args.at.saved.current c.args.plan.now.kept c.args.step c.args.plan.now.points 0 (after-none c.args.at.saved.current c.args.plan.now.kept c.args.step c.args.plan.now.points (omega (arith, c.requires.tree.by_checkpoint, c.requires.reader.to_come))));
}

pub overflow_sub-plan : goal.overflow_sub-plan
overflow_sub-plan g c = omega (arith, c.loop-alloc.invariant.reads.to_come)

pub phase-requires-clause-tree : goal.phase-requires-clause-tree
phase-requires-clause-tree g c = λ lives within. c.loop-alloc.invariant.tree

pub phase-requires-clause-reader : goal.phase-requires-clause-reader
phase-requires-clause-reader g c = λ lives within. c.loop-alloc.invariant.reads

pub phase-requires-clause-count : goal.phase-requires-clause-count
phase-requires-clause-count g c = λ lives within. omega (arith, c.loop-alloc.invariant.reads.to_come, c.min-count.ensures)

pub phase-requires-clause-further : goal.phase-requires-clause-further
phase-requires-clause-further g c = λ lives within.
    let i = c.loop-alloc in
    goes-on c.args.plan.now i.at.saved.current i.at.inserted c.min-count.result c.args.step i.invariant.tree.by_checkpoint i.invariant.tree.inputs_least (omega (arith, i.invariant.reads.to_come)) c.requires.step c.min-count.ensures (λ all. let yes = c.has_all.ensures.1 all in let no = c.loop-alloc-test.true in cc)

pub loop-alloc-smaller : goal.loop-alloc-smaller
loop-alloc-smaller g c =
    let i = c.loop-alloc in
    let further = goes-on c.args.plan.now i.at.saved.current i.at.inserted c.min-count.result c.args.step i.invariant.tree.by_checkpoint i.invariant.tree.inputs_least (omega (arith, i.invariant.reads.to_come)) c.requires.step c.min-count.ensures (λ all. let yes = c.has_all.ensures.1 all in let no = c.loop-alloc-test.true in cc) in
    omega (arith, further, c.in_ok-at.ensures.inserted, c.in_ok-at.ensures.tree.by_checkpoint, of-inputs c.args.plan.now c.in_ok-at.field-0-0.saved.current c.in_ok-at.ensures.checkpoint, c.in_ok-at.ensures.reader.to_come)

pub loop-alloc-preserved : goal.loop-alloc-preserved
loop-alloc-preserved g c =
    let i = c.loop-alloc in
    record {
      tree = c.in_ok-at.ensures.tree;
      most = c.in_ok-at.ensures.most ∙ i.invariant.most;
      cache = c.in_ok-at.ensures.cache ∙ i.invariant.cache;
      reads = c.in_ok-at.ensures.reader;
      same = λ all. c.in_ok-at.ensures.checkpoint;
      later = omega (arith, i.invariant.later, c.in_ok-at.ensures.stores_later);
      has = λ points can has. c.in_ok-at.ensures.has points can (i.invariant.has points can has);
      way = λ shelf points output are has way. c.in_ok-at.ensures.on_way shelf points output are (i.invariant.has points are.can has) (i.invariant.way shelf points output are has way);
      moves = λ shelf points output are has way.
          moves-then g.T.Store.files g.T.Store.may_leave g.T.Store.moment g.T.Store.image_since (IsSoundUndone shelf) c.args.store.now i.store c.phase.new.store (i.invariant.moves shelf points output are has way)
          (c.in_ok-at.ensures.sound shelf points output are (i.invariant.has points are.can has) (i.invariant.way shelf points output are has way));
      phases = i.invariant.phases + 1;
      after =
          after-next c.args.at.saved.current i.at.saved.current c.args.plan.now.kept c.args.step c.args.plan.now.points i.invariant.phases i.invariant.after c.in_ok-at.field-0-0.saved.current c.min-count.result c.in_ok-at.ensures.generation
          (omega (arith, c.in_ok-at.ensures.tree.by_checkpoint, c.in_ok-at.ensures.inserted, i.invariant.tree.by_checkpoint)) (omega (arith, c.min-count.ensures, i.invariant.tree.by_checkpoint)) (keeps-of c.args.plan.now c.in_ok-at.field-0-0.saved.current c.in_ok-at.ensures.checkpoint);
      begun = inr c.in_ok-at.ensures.checkpoint;
      fewest =
          no-fewer-next c.args.plan.now c.args.at.saved.current i.at.saved.current c.args.step i.invariant.phases i.invariant.after (omega (arith, c.requires.tree.by_checkpoint, c.requires.reader.to_come)) c.requires.tree.inputs_least i.invariant.begun i.invariant.fewest
          (λ all. let yes = c.has_all.ensures.1 all in let no = c.loop-alloc-test.true in cc);
      stands = λ stands. c.in_ok-at.ensures.stands (i.invariant.stands stands);
      settled = λ settled. c.in_ok-at.ensures.settled;
      reached = λ telling stands.
          moves-then g.T.Store.files g.T.Store.may_leave g.T.Store.moment g.T.Store.image_since (HasGone c.args.at.saved.current c.args.plan.now.kept c.args.step c.args.plan.now.points) c.args.store.now i.store c.phase.new.store (i.invariant.reached telling stands)
          (moves-wider g.T.Store.files g.T.Store.may_leave g.T.Store.moment g.T.Store.image_since (HasThisOrNext i.at.saved.current c.args.plan.now.kept (i.at.inserted + c.min-count.result)) (HasGone c.args.at.saved.current c.args.plan.now.kept c.args.step c.args.plan.now.points)
          (reached-then c.args.at.saved.current i.at.saved.current c.args.plan.now.kept c.args.step c.args.plan.now.points i.invariant.phases i.invariant.after i.at.inserted c.min-count.result i.invariant.tree.by_checkpoint c.min-count.ensures) i.store c.phase.new.store (c.in_ok-at.ensures.either telling (i.invariant.stands stands)));
    }

pub returns-in_err-at-clause-sound : goal.returns-in_err-at-clause-sound
returns-in_err-at-clause-sound g c = λ shelf points output are has way.
    let i = c.loop-alloc in
    moves-then g.T.Store.files g.T.Store.may_leave g.T.Store.moment g.T.Store.image_since (IsSoundUndone shelf) c.args.store.now i.store c.phase.new.store (i.invariant.moves shelf points output are has way)
    (c.in_err-at.ensures.sound shelf points output are (i.invariant.has points are.can has) (i.invariant.way shelf points output are has way))

pub returns-in_err-at-clause-reached : goal.returns-in_err-at-clause-reached
returns-in_err-at-clause-reached g c = λ telling stands.
    let i = c.loop-alloc in
    moves-then g.T.Store.files g.T.Store.may_leave g.T.Store.moment g.T.Store.image_since (HasGone c.args.at.saved.current c.args.plan.now.kept c.args.step c.args.plan.now.points) c.args.store.now i.store c.phase.new.store (i.invariant.reached telling stands)
    (moves-wider g.T.Store.files g.T.Store.may_leave g.T.Store.moment g.T.Store.image_since (HasThisOrNext i.at.saved.current c.args.plan.now.kept (i.at.inserted + c.min-count.result)) (HasGone c.args.at.saved.current c.args.plan.now.kept c.args.step c.args.plan.now.points)
    (reached-then c.args.at.saved.current i.at.saved.current c.args.plan.now.kept c.args.step c.args.plan.now.points i.invariant.phases i.invariant.after i.at.inserted c.min-count.result i.invariant.tree.by_checkpoint c.min-count.ensures) i.store c.phase.new.store (c.in_err-at.ensures.either telling (i.invariant.stands stands)))

pub returns-clause-tree : goal.returns-clause-tree
returns-clause-tree g c =
    let i = c.loop-alloc in
    let all = c.has_all.ensures.0 c.loop-alloc-test.false in
    subst (λ (n : ℕ). IsTreeOf g.F.SpillFile.held g.F.SpillFile.faults g.F.SpillFile.keeps c.args.plan.now n i.at.octree i.at.saved) (sym i.invariant.tree.by_checkpoint ∙ all.inserted) i.invariant.tree

pub returns-clause-all : goal.returns-clause-all
returns-clause-all g c = c.loop-alloc.invariant.same (c.has_all.ensures.0 c.loop-alloc-test.false).inputs

pub returns-clause-sampled : goal.returns-clause-sampled
returns-clause-sampled g c = λ points can number has.
    let i = c.loop-alloc in
    let all = c.has_all.ensures.0 c.loop-alloc-test.false in
    let at_end : i.at.inserted ≡ c.args.plan.now.points = sym i.invariant.tree.by_checkpoint ∙ all.inserted in
    subst (λ (w : List Point). AreSampled (rules_of c.args.plan.now.kept) w (nodes_of g.F.SpillFile.held i.at.octree)) (ap (λ (n : ℕ). take n points) at_end ∙ all-front points c.args.plan.now.points number) (i.invariant.has points can has).sampled

pub returns-clause-on_way : goal.returns-clause-on_way
returns-clause-on_way g c = λ shelf points output are has way. c.loop-alloc.invariant.way shelf points output are has way

pub returns-clause-sound : goal.returns-clause-sound
returns-clause-sound g c = λ shelf points output are has way. c.loop-alloc.invariant.moves shelf points output are has way

pub returns-clause-through : goal.returns-clause-through
returns-clause-through g c =
    let i = c.loop-alloc in
    through c.args.plan.now c.args.at.saved.current i.at.saved.current c.args.step i.invariant.phases i.invariant.after (omega (arith, c.requires.tree.by_checkpoint, c.requires.reader.to_come)) c.requires.tree.inputs_least i.invariant.begun i.invariant.fewest (c.has_all.ensures.0 c.loop-alloc-test.false)

pub returns-clause-reached : goal.returns-clause-reached
returns-clause-reached g c = λ telling stands. c.loop-alloc.invariant.reached telling stands

pub returns-in_err-at-clause-damaged : goal.returns-in_err-at-clause-damaged
returns-in_err-at-clause-damaged g c =
    let p = err_from_is_err_and c.from_residual.result c.from_residual.ensures.1 in
    let was : c.from_residual.result ≡ Err c.in_err-at.field-0.0 = p.1 ∙ ap (λ (w : _). Err w) p.2 in
    if-refused _ c.from_residual.result c.in_err-at.field-0.0 was
    (λ key is stands. (c.loop-alloc.at.saved.current, c.in_err-at.ensures.damaged key is (c.loop-alloc.invariant.stands stands)))

pub returns-in_err-at-clause-undamaged : goal.returns-in_err-at-clause-undamaged
returns-in_err-at-clause-undamaged g c =
    let p = err_from_is_err_and c.from_residual.result c.from_residual.ensures.1 in
    let was : c.from_residual.result ≡ Err c.in_err-at.field-0.0 = p.1 ∙ ap (λ (w : _). Err w) p.2 in
    if-refused _ c.from_residual.result c.in_err-at.field-0.0 was
    (λ shelf points output are has way key is. c.in_err-at.ensures.undamaged shelf points output are (c.loop-alloc.invariant.way shelf points output are has way) key is)

pub returns-in_err-at-clause-too_many : goal.returns-in_err-at-clause-too_many
returns-in_err-at-clause-too_many g c =
    let i = c.loop-alloc in
    let p = err_from_is_err_and c.from_residual.result c.from_residual.ensures.1 in
    let was : c.from_residual.result ≡ Err c.in_err-at.field-0.0 = p.1 ∙ ap (λ (w : _). Err w) p.2 in
    if-refused _ c.from_residual.result c.in_err-at.field-0.0 was (λ is points can number has.
    let plan = c.args.plan.now in
    let its = i.invariant.has points can has in
    let by : inserted_by i.at.saved.current ≡ i.at.inserted = i.invariant.tree.by_checkpoint in
    let many = c.in_err-at.ensures.too_many is points can its in
    let same = c.in_err-at.ensures.untouched is in
    let next : take (i.at.inserted + c.min-count.result) points ≡ take (inserted_by i.at.saved.current + c.args.step) points =
    ap (λ (n : ℕ). take (i.at.inserted + n) points) c.min-count.ensures ∙ (take-most i.at.inserted c.args.step plan.points points number (omega (arith, i.invariant.reads.to_come)) ∙ ap (λ (n : ℕ). take (n + c.args.step) points) (sym by)) in
    let few : length (sampled (rules_of plan.kept) (take (inserted_by i.at.saved.current) points)) ≤ most_of c.args.at.octree =
    omega (arith, c.in_err-at.ensures.few, i.invariant.most, nodes-number (rules_of plan.kept) (take i.at.inserted points) (nodes_of g.F.SpillFile.held i.at.octree) its.sampled, ap (λ (n : ℕ). length (sampled (rules_of plan.kept) (take n points))) by) in
    let more : most_of c.args.at.octree < length (sampled (rules_of plan.kept) (take (inserted_by i.at.saved.current + c.args.step) points)) =
    subst (λ (w : List Point). most_of c.args.at.octree < length (sampled (rules_of plan.kept) w)) next (subst (λ (n : ℕ). n < length (sampled (rules_of plan.kept) (take (i.at.inserted + c.min-count.result) points))) i.invariant.most many) in
    subst (λ (v : View). AreMany plan c.args.at.saved.current c.args.step (most_of c.args.at.octree) points v.current) (sym same.0)
    (record { phases = i.invariant.phases; after = i.invariant.after; few = few; many = more }))

pub returns-in_err-at-clause-stands : goal.returns-in_err-at-clause-stands
returns-in_err-at-clause-stands g c =
    let p = err_from_is_err_and c.from_residual.result c.from_residual.ensures.1 in
    let was : c.from_residual.result ≡ Err c.in_err-at.field-0.0 = p.1 ∙ ap (λ (w : _). Err w) p.2 in
    if-refused _ c.from_residual.result c.in_err-at.field-0.0 was (λ is stands.
    let same = c.in_err-at.ensures.untouched is in
    subst (λ (v : View). StandsFor v (g.T.Store.files c.phase.new.store) (g.T.Store.may_leave c.phase.new.store)) (sym same.0)
    (subst (λ (t : _). StandsFor c.loop-alloc.at.saved (g.T.Store.files t) (g.T.Store.may_leave t)) (sym same.1) (c.loop-alloc.invariant.stands stands)))

pub returns-in_err-at-clause-settled : goal.returns-in_err-at-clause-settled
returns-in_err-at-clause-settled g c =
    let p = err_from_is_err_and c.from_residual.result c.from_residual.ensures.1 in
    let was : c.from_residual.result ≡ Err c.in_err-at.field-0.0 = p.1 ∙ ap (λ (w : _). Err w) p.2 in
    if-refused _ c.from_residual.result c.in_err-at.field-0.0 was (λ is settled.
    let same = c.in_err-at.ensures.untouched is in
    subst (λ (t : _). IsSettled (g.T.Store.files t) (g.T.Store.may_leave t)) (sym same.1) (c.loop-alloc.invariant.settled settled))

pub returns-in_err-at-clause-no_change : goal.returns-in_err-at-clause-no_change
returns-in_err-at-clause-no_change g c =
    let p = err_from_is_err_and c.from_residual.result c.from_residual.ensures.1 in
    let was : c.from_residual.result ≡ Err c.in_err-at.field-0.0 = p.1 ∙ ap (λ (w : _). Err w) p.2 in
    if-refused _ c.from_residual.result c.in_err-at.field-0.0 was
    (λ source number is points can has. c.in_err-at.ensures.no_change source number is points can (c.loop-alloc.invariant.has points can has))

pub returns-in_err-at-clause-stores : goal.returns-in_err-at-clause-stores
returns-in_err-at-clause-stores g c =
    let p = err_from_is_err_and c.from_residual.result c.from_residual.ensures.1 in
    let was : c.from_residual.result ≡ Err c.in_err-at.field-0.0 = p.1 ∙ ap (λ (w : _). Err w) p.2 in
    if-refused _ c.from_residual.result c.in_err-at.field-0.0 was
    (λ is. omega (arith, c.loop-alloc.invariant.later, c.in_err-at.ensures.stores is))

pub returns-in_err-at-clause-no_damage : goal.returns-in_err-at-clause-no_damage
returns-in_err-at-clause-no_damage g c =
    let p = err_from_is_err_and c.from_residual.result c.from_residual.ensures.1 in
    let was : c.from_residual.result ≡ Err c.in_err-at.field-0.0 = p.1 ∙ ap (λ (w : _). Err w) p.2 in
    if-refused _ c.from_residual.result c.in_err-at.field-0.0 was
    (λ kept found number is points can has. c.in_err-at.ensures.no_damage kept found number is points can (c.loop-alloc.invariant.has points can has))

pub returns-in_err-at-clause-spill : goal.returns-in_err-at-clause-spill
returns-in_err-at-clause-spill g c =
    let p = err_from_is_err_and c.from_residual.result c.from_residual.ensures.1 in
    let was : c.from_residual.result ≡ Err c.in_err-at.field-0.0 = p.1 ∙ ap (λ (w : _). Err w) p.2 in
    if-refused _ c.from_residual.result c.in_err-at.field-0.0 was (λ is. c.in_err-at.ensures.spill is)
