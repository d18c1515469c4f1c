use Rattle.std.proofs.Common.{◌≡◌, ◌≢◌, ◌∙◌, ℕ, ◌<◌, ◌^◌, List, length, Option, sym, ap, subst, arith, rules}
use Rattle.std.specs.Prelude.{Err}
use Rattle.ept_base.specs.Files.{Files, Tells}
use Rattle.ept_base.specs.Moves.{Moves}
use Rattle.ept_point.specs.declared.layout.Layout.TheVariants.{Old, New}
use Rattle.ept_ckpt.specs.declared.version.BodyVersion.TheVariants.{V3}
use Rattle.ept_ckpt.specs.Valid.{IsCheckpoint}
use Rattle.ept_save.specs.Tiles.{IsOfLayout}
use Rattle.ept_save.specs.Current.{Current, HasCurrent, Keeps}
use Rattle.ept_save.specs.Opening.{lines_of}
use Rattle.ept_save.specs.View.{View, next_letter, next_generation}
use Rattle.ept_octree.specs.Octree.{rules_of, nodes_of}
use Rattle.ept_table.specs.Octree.{Branch, AreSampled}
use Rattle.ept_sample.specs.SamplingLaws.{CanBeSampled}
use Rattle.ept_space.specs.declared.cube.Rules.{Rules}
use Rattle.ept_octree_ckpt.specs.declared.error.PhaseError.TheVariants.{Save, SpillFault, SpillDamaged}
use Rattle.ept_octree_ckpt.specs.Errors.{IsDevices}
use Rattle.ept_octree_ckpt.specs.Lines.{TellNodes, NameTiles}
use Rattle.ept_octree_ckpt.specs.Phase.{GoesFurther}
use Rattle.ept_save.specs.Names.{body_name, gate_name}
use Rattle.ept_octree_ckpt.specs.Saving.{StillAreSame, AreKnown, HasEachNodeOf, PutsChanged}
use Rattle.ept_octree_ckpt.proofs.OnlyChanged.{saves-begin, saves-nodes, saves-commit}
use Rattle.ept_octree_ckpt.proofs.Phasing.{tree-valid, is-saved, names-saved, goes-all, keeps-goes, stands-current}
use Rattle.ept_octree_ckpt.proofs.Compared.{keeps-then}
use Rattle.ept_octree_ckpt.proofs.NextTiles.{still-named, saved-undamaged}
use Rattle.ept_octree_ckpt.proofs.Refusing.{keeps-sound, store-devices, store-refusal, store-no-spill, store-no-damage, devices-fault, same-refusal, one-phase-refusal}
use Rattle.ept_octree_ckpt.proofs.Stillness.{still-gate, still-before}
use Rattle.ept_octree_ckpt.proofs.Undamaged.{gate-undamaged}
use Rattle.ept_save.specs.declared.error.SaveError.TheVariants.{TileDamaged}
use Rattle.ept_save.specs.Loading.{HasLine, IsDamaged, HasNoDamage}
use Rattle.ept_save.proofs.DamagedTiles.{stores-no-tile}
use Rattle.ept_octree_ckpt.proofs.phase.save_octree.Goals as goal

pub save_nodes-requires : goal.save_nodes-requires
save_nodes-requires g c =
    let begun = c.in_ok-begin.ensures.begun in
    record {
      newest = subst (λ (w : Current). ¬ IsOfLayout Old w) (sym (ap (λ (v : View). v.current) begun)) c.requires.newest;
      fresh = ap (λ (v : View). v.lines) begun ∙ (c.requires.fresh ∙ sym (ap (λ (v : View). lines_of v.current) begun));
      each = subst (λ (w : Current). HasEachNodeOf w (nodes_of g.F.SpillFile.held c.args.octree.now)) (sym (ap (λ (v : View). v.current) begun)) c.requires.each;
      agrees = c.requires.agrees;
    }

pub commit-requires : goal.commit-requires
commit-requires g c =
    let start : View = c.args.saved.now in
    let now : View = c.save_nodes.new.saved in
    let same : now.current ≡ start.current = ap (λ (v : View). v.current) c.save_nodes.ensures.lines ∙ ap (λ (v : View). v.current) c.in_ok-begin.ensures.begun in
    let nodes : List Branch = nodes_of g.F.SpillFile.held c.args.octree.now in
    let told : TellNodes nodes now.lines = c.in_ok-save_nodes.ensures.told in
    let known : AreKnown nodes = c.in_ok-save_nodes.ensures.known in
    let further : GoesFurther now.current c.args.inserted (length c.args.kept.now.inputs) = subst (λ (w : Current). GoesFurther w c.args.inserted (length c.args.kept.now.inputs)) (sym same) c.requires.further in
    let few : length nodes < 2 ^ 32 = omega (arith, c.len.ensures.few, c.len.ensures.small) in
    let valid : IsCheckpoint V3 (next_generation now.current) c.args.kept.now c.args.counts.now c.args.inserted now.lines =
    tree-valid c.lines_law.ensures.told now (rules_of c.args.octree.now) c.args.kept.now c.args.counts.now c.args.inserted nodes c.requires.given further few told known c.len.ensures.own c.requires.rules c.requires.whole c.requires.holds in
    record {
      begun = ap (λ (v : View). v.begun) c.save_nodes.ensures.lines ∙ ap (λ (v : View). v.begun) c.in_ok-begin.ensures.begun;
      newest = subst (λ (w : Current). ¬ IsOfLayout Old w) (sym same) c.requires.newest;
      valid = valid;
    }

pub returns-in_err-begin-clause-goes_on : goal.returns-in_err-begin-clause-goes_on
returns-in_err-begin-clause-goes_on g c = λ tell stands.
    keeps-goes g.T.Store.files g.T.Store.may_leave g.T.Store.moment g.T.Store.image_since c.args.saved.now c.args.kept.now c.args.counts.now c.args.inserted (nodes_of g.F.SpillFile.held c.args.octree.now) c.args.store.now c.begin.new.store (c.begin.ensures.keeps stands)

pub returns-in_err-save_nodes-clause-goes_on : goal.returns-in_err-save_nodes-clause-goes_on
returns-in_err-save_nodes-clause-goes_on g c = λ tell stands.
    let start : View = c.args.saved.now in
    let keeps = keeps-then g.T.Store.files g.T.Store.may_leave g.T.Store.moment g.T.Store.image_since start.current c.args.store.now c.begin.new.store c.save_nodes.new.store (c.begin.ensures.keeps stands)
    (subst (λ (w : Current). Moves g.T.Store.files g.T.Store.may_leave g.T.Store.moment g.T.Store.image_since (Keeps w) c.begin.new.store c.save_nodes.new.store) (ap (λ (v : View). v.current) c.in_ok-begin.ensures.begun) c.save_nodes.ensures.keeps) in
    keeps-goes g.T.Store.files g.T.Store.may_leave g.T.Store.moment g.T.Store.image_since start c.args.kept.now c.args.counts.now c.args.inserted (nodes_of g.F.SpillFile.held c.args.octree.now) c.args.store.now c.save_nodes.new.store keeps

pub returns-in_err-save_nodes-clause-sound : goal.returns-in_err-save_nodes-clause-sound
returns-in_err-save_nodes-clause-sound g c = λ shelf all told sound stands.
    let start : View = c.args.saved.now in
    let has : HasCurrent start.current all = stands-current start (g.T.Store.files c.args.store.now) (g.T.Store.may_leave c.args.store.now) all stands told in
    let at = keeps-sound c.sound_steps_law.ensures.keeping shelf all start.current (g.T.Store.files c.args.store.now) (g.T.Store.files c.begin.new.store) (c.begin.ensures.keeps stands).reads told sound has in
    let stores = c.save_nodes.ensures.sound shelf at.0 at.1 at.2 (subst (λ (w : Current). HasCurrent w at.0) (sym (ap (λ (v : View). v.current) c.in_ok-begin.ensures.begun)) at.3) in
    let is : c.from_residual-in_err-save_nodes.result ≡ Err c.in_err-save_nodes.field-0.0 = search rules in
    same-refusal c.save_nodes.result c.from_residual-in_err-save_nodes.result c.in_err-save_nodes.field-0.0 c.in_err-save_nodes.was is IsDevices stores

pub returns-in_err-save_nodes-clause-undamaged : goal.returns-in_err-save_nodes-clause-undamaged
returns-in_err-save_nodes-clause-undamaged g c = λ all told none.
    let start : View = c.args.saved.now in
    let at = gate-undamaged start.current (next_letter start.current) all (g.T.Store.files c.args.store.now) (g.T.Store.files c.begin.new.store) c.begin.ensures.gate.reads told none in
    let stores = c.save_nodes.ensures.undamaged at.0 at.1 (subst (λ (w : Current). HasNoDamage w at.0) (sym (ap (λ (v : View). v.current) c.in_ok-begin.ensures.begun)) at.2) in
    let is : c.from_residual-in_err-save_nodes.result ≡ Err c.in_err-save_nodes.field-0.0 = search rules in
    same-refusal c.save_nodes.result c.from_residual-in_err-save_nodes.result c.in_err-save_nodes.field-0.0 c.in_err-save_nodes.was is IsDevices stores

pub returns-clause-goes_on : goal.returns-clause-goes_on
returns-clause-goes_on g c = λ tell stands.
    let start : View = c.args.saved.now in
    let now : View = c.save_nodes.new.saved in
    let same : now.current ≡ start.current = ap (λ (v : View). v.current) c.save_nodes.ensures.lines ∙ ap (λ (v : View). v.current) c.in_ok-begin.ensures.begun in
    let nodes : List Branch = nodes_of g.F.SpillFile.held c.args.octree.now in
    let told : TellNodes nodes now.lines = c.in_ok-save_nodes.ensures.told in
    let known : AreKnown nodes = c.in_ok-save_nodes.ensures.known in
    let further : GoesFurther now.current c.args.inserted (length c.args.kept.now.inputs) = subst (λ (w : Current). GoesFurther w c.args.inserted (length c.args.kept.now.inputs)) (sym same) c.requires.further in
    let few : length nodes < 2 ^ 32 = omega (arith, c.len.ensures.few, c.len.ensures.small) in
    let valid : IsCheckpoint V3 (next_generation now.current) c.args.kept.now c.args.counts.now c.args.inserted now.lines =
    tree-valid c.lines_law.ensures.told now (rules_of c.args.octree.now) c.args.kept.now c.args.counts.now c.args.inserted nodes c.requires.given further few told known c.len.ensures.own c.requires.rules c.requires.whole c.requires.holds in
    let keeps = keeps-then g.T.Store.files g.T.Store.may_leave g.T.Store.moment g.T.Store.image_since start.current c.args.store.now c.begin.new.store c.save_nodes.new.store (c.begin.ensures.keeps stands)
    (subst (λ (w : Current). Moves g.T.Store.files g.T.Store.may_leave g.T.Store.moment g.T.Store.image_since (Keeps w) c.begin.new.store c.save_nodes.new.store) (ap (λ (v : View). v.current) c.in_ok-begin.ensures.begun) c.save_nodes.ensures.keeps) in
    let begun : c.begin.new.saved.current ≡ start.current = ap (λ (v : View). v.current) c.in_ok-begin.ensures.begun in
    let mid = c.save_nodes.ensures.stands (c.in_ok-begin.ensures.stands stands) in
    let tiles : StillAreSame start.current nodes mid.all → Tells (λ all. NameTiles New all nodes now.lines) (g.T.Store.files c.save_nodes.new.store) = λ still. (
    let was = still-before c.begin.new.saved.current nodes (g.T.Store.files c.begin.new.store) (g.T.Store.files c.save_nodes.new.store) mid.all mid.told c.save_nodes.ensures.keeps.reads (subst (λ (w : Current). StillAreSame w nodes mid.all) (sym begun) still) in
    c.in_ok-save_nodes.ensures.tiles tell was.0 was.1 was.2) in
    goes-all c.body_once_law.ensures.facts start now same c.args.kept.now c.args.counts.now c.args.inserted nodes valid told g.T.Store.files g.T.Store.may_leave g.T.Store.moment g.T.Store.image_since c.args.store.now c.save_nodes.new.store c.commit.new.store keeps mid tiles c.commit.ensures.commits

pub returns-in_err-commit-clause-goes_on : goal.returns-in_err-commit-clause-goes_on
returns-in_err-commit-clause-goes_on g c = λ tell stands.
    let start : View = c.args.saved.now in
    let now : View = c.save_nodes.new.saved in
    let same : now.current ≡ start.current = ap (λ (v : View). v.current) c.save_nodes.ensures.lines ∙ ap (λ (v : View). v.current) c.in_ok-begin.ensures.begun in
    let nodes : List Branch = nodes_of g.F.SpillFile.held c.args.octree.now in
    let told : TellNodes nodes now.lines = c.in_ok-save_nodes.ensures.told in
    let known : AreKnown nodes = c.in_ok-save_nodes.ensures.known in
    let further : GoesFurther now.current c.args.inserted (length c.args.kept.now.inputs) = subst (λ (w : Current). GoesFurther w c.args.inserted (length c.args.kept.now.inputs)) (sym same) c.requires.further in
    let few : length nodes < 2 ^ 32 = omega (arith, c.len.ensures.few, c.len.ensures.small) in
    let valid : IsCheckpoint V3 (next_generation now.current) c.args.kept.now c.args.counts.now c.args.inserted now.lines =
    tree-valid c.lines_law.ensures.told now (rules_of c.args.octree.now) c.args.kept.now c.args.counts.now c.args.inserted nodes c.requires.given further few told known c.len.ensures.own c.requires.rules c.requires.whole c.requires.holds in
    let keeps = keeps-then g.T.Store.files g.T.Store.may_leave g.T.Store.moment g.T.Store.image_since start.current c.args.store.now c.begin.new.store c.save_nodes.new.store (c.begin.ensures.keeps stands)
    (subst (λ (w : Current). Moves g.T.Store.files g.T.Store.may_leave g.T.Store.moment g.T.Store.image_since (Keeps w) c.begin.new.store c.save_nodes.new.store) (ap (λ (v : View). v.current) c.in_ok-begin.ensures.begun) c.save_nodes.ensures.keeps) in
    let begun : c.begin.new.saved.current ≡ start.current = ap (λ (v : View). v.current) c.in_ok-begin.ensures.begun in
    let mid = c.save_nodes.ensures.stands (c.in_ok-begin.ensures.stands stands) in
    let tiles : StillAreSame start.current nodes mid.all → Tells (λ all. NameTiles New all nodes now.lines) (g.T.Store.files c.save_nodes.new.store) = λ still. (
    let was = still-before c.begin.new.saved.current nodes (g.T.Store.files c.begin.new.store) (g.T.Store.files c.save_nodes.new.store) mid.all mid.told c.save_nodes.ensures.keeps.reads (subst (λ (w : Current). StillAreSame w nodes mid.all) (sym begun) still) in
    c.in_ok-save_nodes.ensures.tiles tell was.0 was.1 was.2) in
    goes-all c.body_once_law.ensures.facts start now same c.args.kept.now c.args.counts.now c.args.inserted nodes valid told g.T.Store.files g.T.Store.may_leave g.T.Store.moment g.T.Store.image_since c.args.store.now c.save_nodes.new.store c.commit.new.store keeps mid tiles c.commit.ensures.commits

pub returns-clause-saved : goal.returns-clause-saved
returns-clause-saved g c =
    let start : View = c.args.saved.now in
    let now : View = c.save_nodes.new.saved in
    let same : now.current ≡ start.current = ap (λ (v : View). v.current) c.save_nodes.ensures.lines ∙ ap (λ (v : View). v.current) c.in_ok-begin.ensures.begun in
    let nodes : List Branch = nodes_of g.F.SpillFile.held c.args.octree.now in
    let told : TellNodes nodes now.lines = c.in_ok-save_nodes.ensures.told in
    let known : AreKnown nodes = c.in_ok-save_nodes.ensures.known in
    let further : GoesFurther now.current c.args.inserted (length c.args.kept.now.inputs) = subst (λ (w : Current). GoesFurther w c.args.inserted (length c.args.kept.now.inputs)) (sym same) c.requires.further in
    let few : length nodes < 2 ^ 32 = omega (arith, c.len.ensures.few, c.len.ensures.small) in
    let valid : IsCheckpoint V3 (next_generation now.current) c.args.kept.now c.args.counts.now c.args.inserted now.lines =
    tree-valid c.lines_law.ensures.told now (rules_of c.args.octree.now) c.args.kept.now c.args.counts.now c.args.inserted nodes c.requires.given further few told known c.len.ensures.own c.requires.rules c.requires.whole c.requires.holds in
    is-saved c.body_once_law.ensures.facts start now same c.args.kept.now c.args.counts.now c.args.inserted nodes valid told c.commit.new.saved c.in_ok-commit.ensures.current

pub returns-clause-tiles : goal.returns-clause-tiles
returns-clause-tiles g c = λ tell all told_all still_all.
    let start : View = c.args.saved.now in
    let now : View = c.save_nodes.new.saved in
    let same : now.current ≡ start.current = ap (λ (v : View). v.current) c.save_nodes.ensures.lines ∙ ap (λ (v : View). v.current) c.in_ok-begin.ensures.begun in
    let nodes : List Branch = nodes_of g.F.SpillFile.held c.args.octree.now in
    let told : TellNodes nodes now.lines = c.in_ok-save_nodes.ensures.told in
    let known : AreKnown nodes = c.in_ok-save_nodes.ensures.known in
    let further : GoesFurther now.current c.args.inserted (length c.args.kept.now.inputs) = subst (λ (w : Current). GoesFurther w c.args.inserted (length c.args.kept.now.inputs)) (sym same) c.requires.further in
    let few : length nodes < 2 ^ 32 = omega (arith, c.len.ensures.few, c.len.ensures.small) in
    let valid : IsCheckpoint V3 (next_generation now.current) c.args.kept.now c.args.counts.now c.args.inserted now.lines =
    tree-valid c.lines_law.ensures.told now (rules_of c.args.octree.now) c.args.kept.now c.args.counts.now c.args.inserted nodes c.requires.given further few told known c.len.ensures.own c.requires.rules c.requires.whole c.requires.holds in
    let mid : Option Files = g.T.Store.files c.save_nodes.new.store in
    let after : Option Files = g.T.Store.files c.commit.new.store in
    let new : View = c.commit.new.saved in
    let begun : c.begin.new.saved.current ≡ start.current = ap (λ (v : View). v.current) c.in_ok-begin.ensures.begun in
    let first = still-gate start.current nodes (next_letter start.current) all (g.T.Store.files c.args.store.now) (g.T.Store.files c.begin.new.store) c.begin.ensures.gate.reads told_all still_all in
    let tiles : Tells (λ all. NameTiles New all nodes now.lines) mid =
    c.in_ok-save_nodes.ensures.tiles tell first.0 first.1 (subst (λ (w : Current). StillAreSame w nodes first.0) (sym begun) first.2) in
    let still : Tells (λ all. NameTiles New all nodes now.lines) after = still-named (next_letter now.current) nodes now.lines mid after c.commit.ensures.names.reads tiles in
    names-saved c.body_once_law.ensures.facts start now same c.args.kept.now c.args.counts.now c.args.inserted nodes valid told new c.in_ok-commit.ensures.current after still

pub returns-clause-intact : goal.returns-clause-intact
returns-clause-intact g c = λ tell all told_all still_all points can are.
    let start : View = c.args.saved.now in
    let now : View = c.save_nodes.new.saved in
    let same : now.current ≡ start.current = ap (λ (v : View). v.current) c.save_nodes.ensures.lines ∙ ap (λ (v : View). v.current) c.in_ok-begin.ensures.begun in
    let nodes : List Branch = nodes_of g.F.SpillFile.held c.args.octree.now in
    let told : TellNodes nodes now.lines = c.in_ok-save_nodes.ensures.told in
    let known : AreKnown nodes = c.in_ok-save_nodes.ensures.known in
    let further : GoesFurther now.current c.args.inserted (length c.args.kept.now.inputs) = subst (λ (w : Current). GoesFurther w c.args.inserted (length c.args.kept.now.inputs)) (sym same) c.requires.further in
    let few : length nodes < 2 ^ 32 = omega (arith, c.len.ensures.few, c.len.ensures.small) in
    let valid : IsCheckpoint V3 (next_generation now.current) c.args.kept.now c.args.counts.now c.args.inserted now.lines =
    tree-valid c.lines_law.ensures.told now (rules_of c.args.octree.now) c.args.kept.now c.args.counts.now c.args.inserted nodes c.requires.given further few told known c.len.ensures.own c.requires.rules c.requires.whole c.requires.holds in
    let mid : Option Files = g.T.Store.files c.save_nodes.new.store in
    let after : Option Files = g.T.Store.files c.commit.new.store in
    let new : View = c.commit.new.saved in
    let begun : c.begin.new.saved.current ≡ start.current = ap (λ (v : View). v.current) c.in_ok-begin.ensures.begun in
    let first = still-gate start.current nodes (next_letter start.current) all (g.T.Store.files c.args.store.now) (g.T.Store.files c.begin.new.store) c.begin.ensures.gate.reads told_all still_all in
    let tiles : Tells (λ all. NameTiles New all nodes now.lines) mid =
    c.in_ok-save_nodes.ensures.tiles tell first.0 first.1 (subst (λ (w : Current). StillAreSame w nodes first.0) (sym begun) first.2) in
    let still : Tells (λ all. NameTiles New all nodes now.lines) after = still-named (next_letter now.current) nodes now.lines mid after c.commit.ensures.names.reads tiles in
    saved-undamaged c.tile_once_law.ensures.once start new c.args.kept.now c.args.counts.now c.args.inserted nodes points can are known after
    (is-saved c.body_once_law.ensures.facts start now same c.args.kept.now c.args.counts.now c.args.inserted nodes valid told new c.in_ok-commit.ensures.current)
    (names-saved c.body_once_law.ensures.facts start now same c.args.kept.now c.args.counts.now c.args.inserted nodes valid told new c.in_ok-commit.ensures.current after still)

pub returns-clause-stands : goal.returns-clause-stands
returns-clause-stands g c = λ stands.
    c.in_ok-commit.ensures.stands (c.save_nodes.ensures.stands (c.in_ok-begin.ensures.stands stands))

pub returns-in_err-begin-clause-damaged : goal.returns-in_err-begin-clause-damaged
returns-in_err-begin-clause-damaged g c = λ key is stands.
    let also : c.from_residual.result ≡ Err (Save c.in_err-begin.field-0.0) = search rules in
    absurd (stores-no-tile c.begin.result key c.begin.ensures.only (store-refusal c.begin.result c.from_residual.result c.in_err-begin.field-0.0 c.in_err-begin.was also (TileDamaged key) is))

pub returns-in_err-save_nodes-clause-damaged : goal.returns-in_err-save_nodes-clause-damaged
returns-in_err-save_nodes-clause-damaged g c = λ key is stands.
    let start : View = c.args.saved.now in
    let same : c.begin.new.saved.current ≡ start.current = ap (λ (v : View). v.current) c.in_ok-begin.ensures.begun in
    let also : c.from_residual-in_err-save_nodes.result ≡ Err c.in_err-save_nodes.field-0.0 = search rules in
    let told = one-phase-refusal c.save_nodes.result c.from_residual-in_err-save_nodes.result c.in_err-save_nodes.field-0.0 c.in_err-save_nodes.was also (Save (TileDamaged key)) is in
    let keeps = keeps-then g.T.Store.files g.T.Store.may_leave g.T.Store.moment g.T.Store.image_since start.current c.args.store.now c.begin.new.store c.save_nodes.new.store (c.begin.ensures.keeps stands)
    (subst (λ (w : Current). Moves g.T.Store.files g.T.Store.may_leave g.T.Store.moment g.T.Store.image_since (Keeps w) c.begin.new.store c.save_nodes.new.store) same c.save_nodes.ensures.keeps) in
    let damaged = subst (λ (w : Current). HasLine w key × Tells (IsDamaged w key) (g.T.Store.files c.save_nodes.new.store)) same (c.save_nodes.ensures.damaged key told) in
    (keeps.reads, damaged.0, damaged.1)

pub returns-in_err-commit-clause-damaged : goal.returns-in_err-commit-clause-damaged
returns-in_err-commit-clause-damaged g c = λ key is stands.
    let also : c.from_residual-in_err-commit.result ≡ Err (Save c.in_err-commit.field-0.0) = search rules in
    absurd (stores-no-tile c.commit.result key c.commit.ensures.only (store-refusal c.commit.result c.from_residual-in_err-commit.result c.in_err-commit.field-0.0 c.in_err-commit.was also (TileDamaged key) is))

pub returns-in_err-begin-clause-only : goal.returns-in_err-begin-clause-only
returns-in_err-begin-clause-only g c =
    let is : c.from_residual.result ≡ Err (Save c.in_err-begin.field-0.0) = search rules in
    devices-fault c.from_residual.result (store-devices c.begin.result c.from_residual.result c.in_err-begin.field-0.0 c.in_err-begin.was is c.begin.ensures.only)

pub returns-in_err-begin-clause-undamaged : goal.returns-in_err-begin-clause-undamaged
returns-in_err-begin-clause-undamaged g c = λ all told none.
    let is : c.from_residual.result ≡ Err (Save c.in_err-begin.field-0.0) = search rules in
    store-devices c.begin.result c.from_residual.result c.in_err-begin.field-0.0 c.in_err-begin.was is c.begin.ensures.only

pub returns-in_err-begin-clause-sound : goal.returns-in_err-begin-clause-sound
returns-in_err-begin-clause-sound g c = λ shelf all told sound stands.
    let is : c.from_residual.result ≡ Err (Save c.in_err-begin.field-0.0) = search rules in
    store-devices c.begin.result c.from_residual.result c.in_err-begin.field-0.0 c.in_err-begin.was is c.begin.ensures.only

pub returns-in_err-begin-clause-spill : goal.returns-in_err-begin-clause-spill
returns-in_err-begin-clause-spill g c = λ told.
    let is : c.from_residual.result ≡ Err (Save c.in_err-begin.field-0.0) = search rules in
    absurd (store-no-spill c.begin.result c.from_residual.result c.in_err-begin.field-0.0 c.in_err-begin.was is told)

pub returns-in_err-begin-clause-no_damage : goal.returns-in_err-begin-clause-no_damage
returns-in_err-begin-clause-no_damage g c = λ points can are unbroken tell kept found at told.
    let is : c.from_residual.result ≡ Err (Save c.in_err-begin.field-0.0) = search rules in
    store-no-damage c.begin.result c.from_residual.result c.in_err-begin.field-0.0 c.in_err-begin.was is kept found at told

pub returns-in_err-commit-clause-only : goal.returns-in_err-commit-clause-only
returns-in_err-commit-clause-only g c =
    let is : c.from_residual-in_err-commit.result ≡ Err (Save c.in_err-commit.field-0.0) = search rules in
    devices-fault c.from_residual-in_err-commit.result (store-devices c.commit.result c.from_residual-in_err-commit.result c.in_err-commit.field-0.0 c.in_err-commit.was is c.commit.ensures.only)

pub returns-in_err-commit-clause-undamaged : goal.returns-in_err-commit-clause-undamaged
returns-in_err-commit-clause-undamaged g c = λ all told none.
    let is : c.from_residual-in_err-commit.result ≡ Err (Save c.in_err-commit.field-0.0) = search rules in
    store-devices c.commit.result c.from_residual-in_err-commit.result c.in_err-commit.field-0.0 c.in_err-commit.was is c.commit.ensures.only

pub returns-in_err-commit-clause-sound : goal.returns-in_err-commit-clause-sound
returns-in_err-commit-clause-sound g c = λ shelf all told sound stands.
    let is : c.from_residual-in_err-commit.result ≡ Err (Save c.in_err-commit.field-0.0) = search rules in
    store-devices c.commit.result c.from_residual-in_err-commit.result c.in_err-commit.field-0.0 c.in_err-commit.was is c.commit.ensures.only

pub returns-in_err-commit-clause-spill : goal.returns-in_err-commit-clause-spill
returns-in_err-commit-clause-spill g c = λ told.
    let is : c.from_residual-in_err-commit.result ≡ Err (Save c.in_err-commit.field-0.0) = search rules in
    absurd (store-no-spill c.commit.result c.from_residual-in_err-commit.result c.in_err-commit.field-0.0 c.in_err-commit.was is told)

pub returns-in_err-commit-clause-no_damage : goal.returns-in_err-commit-clause-no_damage
returns-in_err-commit-clause-no_damage g c = λ points can are unbroken tell kept found at told.
    let is : c.from_residual-in_err-commit.result ≡ Err (Save c.in_err-commit.field-0.0) = search rules in
    store-no-damage c.commit.result c.from_residual-in_err-commit.result c.in_err-commit.field-0.0 c.in_err-commit.was is kept found at told

pub returns-in_err-save_nodes-clause-spill : goal.returns-in_err-save_nodes-clause-spill
returns-in_err-save_nodes-clause-spill g c = λ told.
    let is : c.from_residual-in_err-save_nodes.result ≡ Err c.in_err-save_nodes.field-0.0 = search rules in
    c.save_nodes.ensures.spill (one-phase-refusal c.save_nodes.result c.from_residual-in_err-save_nodes.result c.in_err-save_nodes.field-0.0 c.in_err-save_nodes.was is SpillFault told)

pub returns-in_err-save_nodes-clause-no_damage : goal.returns-in_err-save_nodes-clause-no_damage
returns-in_err-save_nodes-clause-no_damage g c = λ points can are unbroken tell kept found at told.
    let is : c.from_residual-in_err-save_nodes.result ≡ Err c.in_err-save_nodes.field-0.0 = search rules in
    c.save_nodes.ensures.no_damage points (subst (λ (r : Rules). CanBeSampled r points) (sym c.requires.rules) can) (subst (λ (r : Rules). AreSampled r points (nodes_of g.F.SpillFile.held c.args.octree.now)) (sym c.requires.rules) are) unbroken tell kept found at
    (one-phase-refusal c.save_nodes.result c.from_residual-in_err-save_nodes.result c.in_err-save_nodes.field-0.0 c.in_err-save_nodes.was is (SpillDamaged kept found at) told)

pub returns-in_err-begin-clause-only_changed : goal.returns-in_err-begin-clause-only_changed
returns-in_err-begin-clause-only_changed g c = λ tell stands.
    let start : View = c.args.saved.now in
    let nodes : List Branch = nodes_of g.F.SpillFile.held c.args.octree.now in
    saves-begin g.T.Store.files g.T.Store.may_leave g.T.Store.moment g.T.Store.image_since start.current nodes stands.all c.args.store.now c.begin.new.store c.begin.ensures.gate

pub returns-in_err-save_nodes-clause-only_changed : goal.returns-in_err-save_nodes-clause-only_changed
returns-in_err-save_nodes-clause-only_changed g c = λ tell stands.
    let start : View = c.args.saved.now in
    let nodes : List Branch = nodes_of g.F.SpillFile.held c.args.octree.now in
    let begun : c.begin.new.saved.current ≡ start.current = ap (λ (v : View). v.current) c.in_ok-begin.ensures.begun in
    let saved = saves-nodes g.T.Store.files g.T.Store.may_leave g.T.Store.moment g.T.Store.image_since start.current nodes stands.all c.args.store.now c.begin.new.store c.save_nodes.new.store stands.told (c.begin.ensures.keeps stands) c.begin.ensures.gate (λ all told. subst (λ (w : Current). Moves g.T.Store.files g.T.Store.may_leave g.T.Store.moment g.T.Store.image_since (PutsChanged w nodes all) c.begin.new.store c.save_nodes.new.store) begun (c.save_nodes.ensures.only_changed tell all told)) in
    saved

pub returns-in_err-commit-clause-only_changed : goal.returns-in_err-commit-clause-only_changed
returns-in_err-commit-clause-only_changed g c = λ tell stands.
    let start : View = c.args.saved.now in
    let nodes : List Branch = nodes_of g.F.SpillFile.held c.args.octree.now in
    let begun : c.begin.new.saved.current ≡ start.current = ap (λ (v : View). v.current) c.in_ok-begin.ensures.begun in
    let saved = saves-nodes g.T.Store.files g.T.Store.may_leave g.T.Store.moment g.T.Store.image_since start.current nodes stands.all c.args.store.now c.begin.new.store c.save_nodes.new.store stands.told (c.begin.ensures.keeps stands) c.begin.ensures.gate (λ all told. subst (λ (w : Current). Moves g.T.Store.files g.T.Store.may_leave g.T.Store.moment g.T.Store.image_since (PutsChanged w nodes all) c.begin.new.store c.save_nodes.new.store) begun (c.save_nodes.ensures.only_changed tell all told)) in
    let same : c.save_nodes.new.saved.current ≡ start.current = ap (λ (v : View). v.current) c.save_nodes.ensures.lines ∙ begun in
    saves-commit g.T.Store.files g.T.Store.may_leave g.T.Store.moment g.T.Store.image_since start.current nodes stands.all c.args.store.now c.save_nodes.new.store c.commit.new.store saved (subst (λ (w : Current). Moves g.T.Store.files g.T.Store.may_leave g.T.Store.moment g.T.Store.image_since (λ (a b : Files). (name : List ℕ) → name ≢ body_name (next_letter w) → name ≢ gate_name (next_letter w) → b name ≡ a name) c.save_nodes.new.store c.commit.new.store) same c.commit.ensures.names)

pub returns-clause-only_changed : goal.returns-clause-only_changed
returns-clause-only_changed g c = λ tell stands.
    let start : View = c.args.saved.now in
    let nodes : List Branch = nodes_of g.F.SpillFile.held c.args.octree.now in
    let begun : c.begin.new.saved.current ≡ start.current = ap (λ (v : View). v.current) c.in_ok-begin.ensures.begun in
    let saved = saves-nodes g.T.Store.files g.T.Store.may_leave g.T.Store.moment g.T.Store.image_since start.current nodes stands.all c.args.store.now c.begin.new.store c.save_nodes.new.store stands.told (c.begin.ensures.keeps stands) c.begin.ensures.gate (λ all told. subst (λ (w : Current). Moves g.T.Store.files g.T.Store.may_leave g.T.Store.moment g.T.Store.image_since (PutsChanged w nodes all) c.begin.new.store c.save_nodes.new.store) begun (c.save_nodes.ensures.only_changed tell all told)) in
    let same : c.save_nodes.new.saved.current ≡ start.current = ap (λ (v : View). v.current) c.save_nodes.ensures.lines ∙ begun in
    saves-commit g.T.Store.files g.T.Store.may_leave g.T.Store.moment g.T.Store.image_since start.current nodes stands.all c.args.store.now c.save_nodes.new.store c.commit.new.store saved (subst (λ (w : Current). Moves g.T.Store.files g.T.Store.may_leave g.T.Store.moment g.T.Store.image_since (λ (a b : Files). (name : List ℕ) → name ≢ body_name (next_letter w) → name ≢ gate_name (next_letter w) → b name ≡ a name) c.save_nodes.new.store c.commit.new.store) same c.commit.ensures.names)
