use Rattle.std.proofs.Common.{◌≡◌, ◌∙◌, inl, ◌++◌, List, refl, sym, ap, subst, Option, None}
use Rattle.std.proofs.lemmas.Result.{err_from_is_err_and}
use Rattle.ept_base.specs.Files.{Files, Tells, StepsBy}
use Rattle.ept_base.specs.Moves.{Moves}
use Rattle.ept_space.specs.declared.cube.Rules.{Rules}
use Rattle.std.specs.List.{AllZip}
use Rattle.ept_config.specs.declared.source_count.SourceCount.{SourceCount}
use Rattle.ept_config.specs.Counts.{IsCountOf}
use Rattle.ept_ckpt.specs.declared.version.BodyVersion.TheVariants.{V3}
use Rattle.ept_ckpt.specs.Valid.{IsCheckpoint}
use Rattle.ept_save.specs.Names.{gate_name}
use Rattle.ept_save.specs.Gates.{Closes}
use Rattle.ept_save.specs.Current.{Current, HasCurrent, Keeps}
use Rattle.ept_save.specs.View.{View, next_letter, next_generation, next_facts}
use Rattle.ept_save.proofs.Standing.{told_some}
use Rattle.ept_merge.specs.Joining.{roots_of}
use Rattle.ept_merge.specs.Putting.{AreIntact, IsNodesFault, AreOfParts, PutsAll, IsCommitted}
use Rattle.ept_merge.proofs.Reading.{tells-always}
use Rattle.ept_merge.proofs.Steps.{saved-stores}
use Rattle.ept_merge.proofs.Fits.{fit-ascends, fit-low}
use Rattle.ept_merge.proofs.PutAll.{of-rules, none-old, begun-same, begun-stands, tells-if, stepped-back, view-valid, next-committed}
use Rattle.ept_merge.proofs.Committing.{begun-sound, put-sound, committed-sound}
use Rattle.ept_merge.proofs.Early.{saved-tiles}
use Rattle.ept_merge.proofs.Staying.{begin-stays, put-stays, commit-stays, both-stay}
use Rattle.ept_merge.proofs.merging.put_all.Goals as goal

pub put_nodes-requires-clause-rules : goal.put_nodes-requires-clause-rules
put_nodes-requires-clause-rules g c = of-rules c.args.plan.now c.args.rules.now c.args.parts.now c.requires.rules c.requires.like

pub put_nodes-requires-clause-low : goal.put_nodes-requires-clause-low
put_nodes-requires-clause-low g c = fit-low c.args.parts.now c.args.nodes.now c.requires.fit.order c.args.rules.now (of-rules c.args.plan.now c.args.rules.now c.args.parts.now c.requires.rules c.requires.like)

pub put_nodes-requires-clause-ascend : goal.put_nodes-requires-clause-ascend
put_nodes-requires-clause-ascend g c = fit-ascends c.args.parts.now c.args.nodes.now c.requires.fit.order

pub put_nodes-requires-clause-none : goal.put_nodes-requires-clause-none
put_nodes-requires-clause-none g c = ap (λ (v : View). v.current) c.in_ok-begin.ensures.begun ∙ ap (λ (v : View). v.current) c.requires.fresh

pub put_nodes-requires-clause-first : goal.put_nodes-requires-clause-first
put_nodes-requires-clause-first g c = ap (λ (v : View). v.lines) c.in_ok-begin.ensures.begun ∙ ap (λ (v : View). v.lines) c.requires.fresh

pub commit-requires : goal.commit-requires
commit-requires g c =
    let s = g.T.Store in
    let view : View = c.put_nodes.new.saved in
    let stays : view ≡ record c.begin.new.saved { lines = view.lines } = c.in_ok-put_nodes.ensures.stays in
    let none : view.current ≡ None = ap (λ (v : View). v.current) stays ∙ (ap (λ (v : View). v.current) c.in_ok-begin.ensures.begun ∙ ap (λ (v : View). v.current) c.requires.fresh) in
    record {
      begun = ap (λ (v : View). v.begun) stays ∙ ap (λ (v : View). v.begun) c.in_ok-begin.ensures.begun;
      newest = none-old view.current none;
      valid = subst (λ (w : List SourceCount). IsCheckpoint V3 (next_generation view.current) c.args.plan.now.kept w c.args.plan.now.points view.lines) (sym c.as_slice-counts.ensures)
          (view-valid c.args.config.now c.args.plan.now c.requires.plan c.args.parts.now c.requires.like c.args.nodes.now c.requires.fit c.requires.few c.args.rules.now (s.files c.begin.new.store) (s.files c.put_nodes.new.store) view.lines c.in_ok-put_nodes.ensures.puts view none refl);
    }

-- ---- why it is refused

pub returns-in_err-begin-clause-refused : goal.returns-in_err-begin-clause-refused
returns-in_err-begin-clause-refused g c =
    let p = err_from_is_err_and c.from_residual.result c.from_residual.ensures.1 in
    rw (p.1, p.2) (tells-always _ (λ all. inl (saved-stores c.in_err-begin.field-0.0 c.in_err-begin.ensures.only)) (g.T.Store.files c.args.store.now))

pub returns-in_err-put_nodes-clause-refused : goal.returns-in_err-put_nodes-clause-refused
returns-in_err-put_nodes-clause-refused g c =
    let s = g.T.Store in
    let fault = λ (o : Option Files). Tells (λ all. IsNodesFault c.args.rules.now all (roots_of c.args.parts.now ++ c.args.nodes.now) c.in_err-put_nodes.field-0.0) o in
    let closes = subst (λ (w : Current). StepsBy (Closes (gate_name (next_letter w))) (s.files c.args.store.now) (s.files c.begin.new.store)) (ap (λ (v : View). v.current) c.requires.fresh) c.in_ok-begin.ensures.puts in
    let p = err_from_is_err_and c.from_residual-in_err-put_nodes.result c.from_residual-in_err-put_nodes.ensures.1 in
    rw (p.1, p.2) (subst fault (begun-same (s.files c.args.store.now) (s.files c.begin.new.store) c.requires.none closes) c.in_err-put_nodes.ensures.refused)

pub returns-in_err-commit-clause-refused : goal.returns-in_err-commit-clause-refused
returns-in_err-commit-clause-refused g c =
    let p = err_from_is_err_and c.from_residual-in_err-commit.result c.from_residual-in_err-commit.ensures.1 in
    rw (p.1, p.2) (tells-always _ (λ all. inl (saved-stores c.in_err-commit.field-0.0 c.in_err-commit.ensures.only)) (g.T.Store.files c.args.store.now))

-- ---- the files stay sound

pub returns-in_err-begin-clause-only : goal.returns-in_err-begin-clause-only
returns-in_err-begin-clause-only g c =
    let p = err_from_is_err_and c.from_residual.result c.from_residual.ensures.1 in
    rw (p.1, p.2) (saved-tiles c.in_err-begin.field-0.0 c.in_err-begin.ensures.only)

pub returns-in_err-commit-clause-only : goal.returns-in_err-commit-clause-only
returns-in_err-commit-clause-only g c =
    let p = err_from_is_err_and c.from_residual-in_err-commit.result c.from_residual-in_err-commit.ensures.1 in
    rw (p.1, p.2) (saved-tiles c.in_err-commit.field-0.0 c.in_err-commit.ensures.only)

pub returns-in_err-begin-clause-sound : goal.returns-in_err-begin-clause-sound
returns-in_err-begin-clause-sound g c = λ all start points told settled sound of.
    let s = g.T.Store in
    let fresh : c.args.saved.now.current ≡ None = ap (λ (v : View). v.current) c.requires.fresh in
    let none : HasCurrent None start = told_some (HasCurrent None) (s.files c.args.store.now) start told c.requires.none in
    let keeps = subst (λ (w : Current). Moves s.files s.may_leave s.moment s.image_since (Keeps w) c.args.store.now c.begin.new.store) fresh (c.begin.ensures.keeps (begun-stands c.args.saved.now fresh (s.files c.args.store.now) (s.may_leave c.args.store.now) start told c.requires.none settled)) in
    begun-sound c.args.config.now c.args.plan.now c.requires.plan c.args.parts.now c.requires.like c.args.nodes.now c.requires.fit c.requires.few c.output_once_law.ensures.sampled c.parts_law.ensures.roots c.merge_law.ensures.merged c.sound_law.ensures.one c.sound_steps_law.ensures.keeping c.sound_steps_law.ensures.committing all start sound none s.files s.may_leave s.moment s.image_since c.args.store.now c.begin.new.store c.begin.new.store c.begin.new.store told settled keeps

pub returns-in_err-put_nodes-clause-sound : goal.returns-in_err-put_nodes-clause-sound
returns-in_err-put_nodes-clause-sound g c = λ all start points told settled sound of.
    let s = g.T.Store in
    let fresh : c.args.saved.now.current ≡ None = ap (λ (v : View). v.current) c.requires.fresh in
    let none : HasCurrent None start = told_some (HasCurrent None) (s.files c.args.store.now) start told c.requires.none in
    let keeps = subst (λ (w : Current). Moves s.files s.may_leave s.moment s.image_since (Keeps w) c.args.store.now c.begin.new.store) fresh (c.begin.ensures.keeps (begun-stands c.args.saved.now fresh (s.files c.args.store.now) (s.may_leave c.args.store.now) start told c.requires.none settled)) in
    put-sound c.args.config.now c.args.plan.now c.requires.plan c.args.parts.now c.requires.like c.args.nodes.now c.requires.fit c.requires.few c.output_once_law.ensures.sampled c.parts_law.ensures.roots c.merge_law.ensures.merged c.sound_law.ensures.one c.sound_steps_law.ensures.keeping c.sound_steps_law.ensures.committing all start sound none s.files s.may_leave s.moment s.image_since c.args.store.now c.begin.new.store c.put_nodes.new.store c.put_nodes.new.store told settled keeps c.put_nodes.ensures.keeps

pub returns-in_err-commit-clause-sound : goal.returns-in_err-commit-clause-sound
returns-in_err-commit-clause-sound g c = λ all start points told settled sound of.
    let s = g.T.Store in
    let plan = c.args.plan.now in
    let view : View = c.put_nodes.new.saved in
    let fresh : c.args.saved.now.current ≡ None = ap (λ (v : View). v.current) c.requires.fresh in
    let none : HasCurrent None start = told_some (HasCurrent None) (s.files c.args.store.now) start told c.requires.none in
    let stands = begun-stands c.args.saved.now fresh (s.files c.args.store.now) (s.may_leave c.args.store.now) start told c.requires.none settled in
    let keeps = subst (λ (w : Current). Moves s.files s.may_leave s.moment s.image_since (Keeps w) c.args.store.now c.begin.new.store) fresh (c.begin.ensures.keeps stands) in
    let closes = subst (λ (w : Current). StepsBy (Closes (gate_name (next_letter w))) (s.files c.args.store.now) (s.files c.begin.new.store)) fresh c.in_ok-begin.ensures.puts in
    let same = begun-same (s.files c.args.store.now) (s.files c.begin.new.store) c.requires.none closes in
    let now_none : view.current ≡ None = ap (λ (v : View). v.current) c.in_ok-put_nodes.ensures.stays ∙ (ap (λ (v : View). v.current) c.in_ok-begin.ensures.begun ∙ fresh) in
    let mine = subst (λ (r : Rules). AreOfParts all start plan r c.args.parts.now points) c.requires.rules of in
    let puts = subst (λ (r : Rules). PutsAll r c.args.parts.now c.args.nodes.now (s.files c.begin.new.store) (s.files c.put_nodes.new.store) view.lines) c.requires.rules c.in_ok-put_nodes.ensures.puts in
    committed-sound c.args.config.now plan c.requires.plan c.args.parts.now c.requires.like c.args.nodes.now c.requires.fit c.requires.few c.output_once_law.ensures.sampled c.parts_law.ensures.roots c.merge_law.ensures.merged c.sound_law.ensures.one c.sound_steps_law.ensures.keeping c.sound_steps_law.ensures.committing all start sound none s.files s.may_leave s.moment s.image_since c.args.store.now c.begin.new.store c.put_nodes.new.store c.commit.new.store told settled points mine c.whole_extent.result (λ lists zip. c.whole_extent.ensures lists (subst (λ (w : List SourceCount). AllZip IsCountOf lists w) (sym c.as_slice-counts.ensures) zip)) view now_none puts (same ∙ told) (c.put_nodes.ensures.stands (c.in_ok-begin.ensures.stands stands)) keeps c.put_nodes.ensures.keeps (λ k made s2. c.commit.ensures.commits k (made ∙ ap (λ (w : List SourceCount). next_facts view plan.kept w plan.points) (sym c.as_slice-counts.ensures)) s2)

pub returns-clause-sound : goal.returns-clause-sound
returns-clause-sound g c = λ all start points told settled sound of.
    let s = g.T.Store in
    let plan = c.args.plan.now in
    let view : View = c.put_nodes.new.saved in
    let fresh : c.args.saved.now.current ≡ None = ap (λ (v : View). v.current) c.requires.fresh in
    let none : HasCurrent None start = told_some (HasCurrent None) (s.files c.args.store.now) start told c.requires.none in
    let stands = begun-stands c.args.saved.now fresh (s.files c.args.store.now) (s.may_leave c.args.store.now) start told c.requires.none settled in
    let keeps = subst (λ (w : Current). Moves s.files s.may_leave s.moment s.image_since (Keeps w) c.args.store.now c.begin.new.store) fresh (c.begin.ensures.keeps stands) in
    let closes = subst (λ (w : Current). StepsBy (Closes (gate_name (next_letter w))) (s.files c.args.store.now) (s.files c.begin.new.store)) fresh c.in_ok-begin.ensures.puts in
    let same = begun-same (s.files c.args.store.now) (s.files c.begin.new.store) c.requires.none closes in
    let now_none : view.current ≡ None = ap (λ (v : View). v.current) c.in_ok-put_nodes.ensures.stays ∙ (ap (λ (v : View). v.current) c.in_ok-begin.ensures.begun ∙ fresh) in
    let mine = subst (λ (r : Rules). AreOfParts all start plan r c.args.parts.now points) c.requires.rules of in
    let puts = subst (λ (r : Rules). PutsAll r c.args.parts.now c.args.nodes.now (s.files c.begin.new.store) (s.files c.put_nodes.new.store) view.lines) c.requires.rules c.in_ok-put_nodes.ensures.puts in
    committed-sound c.args.config.now plan c.requires.plan c.args.parts.now c.requires.like c.args.nodes.now c.requires.fit c.requires.few c.output_once_law.ensures.sampled c.parts_law.ensures.roots c.merge_law.ensures.merged c.sound_law.ensures.one c.sound_steps_law.ensures.keeping c.sound_steps_law.ensures.committing all start sound none s.files s.may_leave s.moment s.image_since c.args.store.now c.begin.new.store c.put_nodes.new.store c.commit.new.store told settled points mine c.whole_extent.result (λ lists zip. c.whole_extent.ensures lists (subst (λ (w : List SourceCount). AllZip IsCountOf lists w) (sym c.as_slice-counts.ensures) zip)) view now_none puts (same ∙ told) (c.put_nodes.ensures.stands (c.in_ok-begin.ensures.stands stands)) keeps c.put_nodes.ensures.keeps (λ k made s2. c.commit.ensures.commits k (made ∙ ap (λ (w : List SourceCount). next_facts view plan.kept w plan.points) (sym c.as_slice-counts.ensures)) s2)

-- ---- it is committed

pub returns-clause-merged : goal.returns-clause-merged
returns-clause-merged g c =
    let s = g.T.Store in
    let view : View = c.put_nodes.new.saved in
    let fresh : c.args.saved.now.current ≡ None = ap (λ (v : View). v.current) c.requires.fresh in
    let closes = subst (λ (w : Current). StepsBy (Closes (gate_name (next_letter w))) (s.files c.args.store.now) (s.files c.begin.new.store)) fresh c.in_ok-begin.ensures.puts in
    let same = begun-same (s.files c.args.store.now) (s.files c.begin.new.store) c.requires.none closes in
    let begun_none : c.begin.new.saved.current ≡ None = ap (λ (v : View). v.current) c.in_ok-begin.ensures.begun ∙ fresh in
    let now_none : view.current ≡ None = ap (λ (v : View). v.current) c.in_ok-put_nodes.ensures.stays ∙ begun_none in
    tells-if (IsCommitted c.args.plan.now) (s.files c.commit.new.store) (λ all told.
    let mid = stepped-back _ (s.files c.put_nodes.new.store) (s.files c.commit.new.store) all told c.commit.ensures.names.reads in
    let was = stepped-back _ (s.files c.begin.new.store) (s.files c.put_nodes.new.store) mid.0 mid.1 c.put_nodes.ensures.keeps.reads in
    let stands = begun-stands c.begin.new.saved begun_none (s.files c.begin.new.store) (s.may_leave c.begin.new.store) was.0 was.1 (subst (λ (o : Option Files). Tells (HasCurrent None) o) (sym same) c.requires.none) c.in_ok-begin.ensures.settled in
    let last = c.in_ok-commit.ensures.stands (c.put_nodes.ensures.stands stands) in
    let now = told_some (HasCurrent c.commit.new.saved.current) (s.files c.commit.new.store) all told (subst (λ (o : Option Files). Tells (HasCurrent c.commit.new.saved.current) o) (sym last.told) last.has_current) in
    let next = c.in_ok-commit.ensures.current in
    next-committed c.args.config.now c.args.plan.now c.requires.plan c.args.parts.now c.requires.like c.args.nodes.now c.requires.fit c.requires.few c.args.rules.now (s.files c.begin.new.store) (s.files c.put_nodes.new.store) view.lines c.in_ok-put_nodes.ensures.puts view now_none refl c.body_once_law.ensures.facts next.0 (next.1 ∙ ap (λ (w : List SourceCount). next_facts view c.args.plan.now.kept w c.args.plan.now.points) c.as_slice-counts.ensures) c.commit.new.saved next.2 all now)

pub returns-clause-intact : goal.returns-clause-intact
returns-clause-intact g c =
    let s = g.T.Store in
    let closes = subst (λ (w : Current). StepsBy (Closes (gate_name (next_letter w))) (s.files c.args.store.now) (s.files c.begin.new.store)) (ap (λ (v : View). v.current) c.requires.fresh) c.in_ok-begin.ensures.puts in
    subst (λ (o : Option Files). Tells (λ all. AreIntact c.args.rules.now all (roots_of c.args.parts.now ++ c.args.nodes.now)) o) (begun-same (s.files c.args.store.now) (s.files c.begin.new.store) c.requires.none closes) c.in_ok-put_nodes.ensures.intact

-- ---- the parts stay

pub returns-in_err-begin-clause-parts_stay : goal.returns-in_err-begin-clause-parts_stay
returns-in_err-begin-clause-parts_stay g c =
    let s = g.T.Store in
    begin-stays s.files s.may_leave s.moment s.image_since (next_letter c.args.saved.now.current) c.args.store.now c.begin.new.store c.begin.ensures.gate

pub returns-in_err-put_nodes-clause-parts_stay : goal.returns-in_err-put_nodes-clause-parts_stay
returns-in_err-put_nodes-clause-parts_stay g c =
    let s = g.T.Store in
    both-stay s.files s.may_leave s.moment s.image_since c.args.store.now c.begin.new.store c.put_nodes.new.store (begin-stays s.files s.may_leave s.moment s.image_since (next_letter c.args.saved.now.current) c.args.store.now c.begin.new.store c.begin.ensures.gate) (put-stays s.files s.may_leave s.moment s.image_since c.begin.new.store c.put_nodes.new.store c.put_nodes.ensures.keeps)

pub returns-in_err-commit-clause-parts_stay : goal.returns-in_err-commit-clause-parts_stay
returns-in_err-commit-clause-parts_stay g c =
    let s = g.T.Store in
    both-stay s.files s.may_leave s.moment s.image_since c.args.store.now c.put_nodes.new.store c.commit.new.store (both-stay s.files s.may_leave s.moment s.image_since c.args.store.now c.begin.new.store c.put_nodes.new.store (begin-stays s.files s.may_leave s.moment s.image_since (next_letter c.args.saved.now.current) c.args.store.now c.begin.new.store c.begin.ensures.gate) (put-stays s.files s.may_leave s.moment s.image_since c.begin.new.store c.put_nodes.new.store c.put_nodes.ensures.keeps)) (commit-stays s.files s.may_leave s.moment s.image_since (next_letter c.put_nodes.new.saved.current) c.put_nodes.new.store c.commit.new.store c.commit.ensures.names)

pub returns-clause-parts_stay : goal.returns-clause-parts_stay
returns-clause-parts_stay g c =
    let s = g.T.Store in
    both-stay s.files s.may_leave s.moment s.image_since c.args.store.now c.put_nodes.new.store c.commit.new.store (both-stay s.files s.may_leave s.moment s.image_since c.args.store.now c.begin.new.store c.put_nodes.new.store (begin-stays s.files s.may_leave s.moment s.image_since (next_letter c.args.saved.now.current) c.args.store.now c.begin.new.store c.begin.ensures.gate) (put-stays s.files s.may_leave s.moment s.image_since c.begin.new.store c.put_nodes.new.store c.put_nodes.ensures.keeps)) (commit-stays s.files s.may_leave s.moment s.image_since (next_letter c.put_nodes.new.saved.current) c.put_nodes.new.store c.commit.new.store c.commit.ensures.names)
