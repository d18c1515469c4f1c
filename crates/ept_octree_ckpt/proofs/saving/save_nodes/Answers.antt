use Rattle.std.proofs.Common.{◌≡◌, ◌∙◌, ℕ, false, ◌+◌, ◌<◌, ◌≤◌, ◌^◌, List, [], ◌∷◌, ◌++◌, take, drop, length, map, sym, ap, subst, arith, rules, Option}
use Rattle.std.specs.Prelude.{Err}
use Rattle.std.specs.BTreeSet.{contains}
use Rattle.std.proofs.lemmas.List.{length-map, take-append-drop}
use Rattle.std.proofs.lemmas.Result.{err_from_is_err_and}
use Rattle.ept_base.specs.Files.{Files, SameBut, StepsBy, Tells}
use Rattle.ept_base.specs.Moves.{Moves}
use Rattle.ept_point.specs.declared.layout.Layout.TheVariants.{Old}
use Rattle.ept_point.specs.declared.point.Point.{Point}
use Rattle.ept_sample.specs.Members.{IsMember}
use Rattle.ept_space.specs.declared.cube.Rules.{Rules}
use Rattle.ept_space.specs.VoxelKey.{VoxelKey, IsKey, AreAscending, key_cmp}
use Rattle.ept_space.proofs.Within.{is_within-self}
use Rattle.ept_save.specs.declared.error.SaveError.TheVariants.{TileDamaged}
use Rattle.ept_save.specs.Names.{work_tile_name}
use Rattle.ept_save.specs.Current.{Current, HasCurrent, Keeps}
use Rattle.ept_save.specs.Lines.{free_letter}
use Rattle.ept_save.specs.Loading.{HasLine, HasTile, IsDamaged, HasNoDamage}
use Rattle.ept_save.specs.Tiles.{IsOfLayout}
use Rattle.ept_save.specs.View.{View}
use Rattle.ept_save.proofs.KeyLines.{take-next, drop-next}
use Rattle.ept_save.proofs.DamagedTiles.{one-tile}
use Rattle.ept_save.proofs.Standing.{tells_some}
use Rattle.ept_table.specs.Octree.{Branch, key_of}
use Rattle.ept_node.specs.Shown.{IsTelling}
use Rattle.ept_octree.specs.Octree.{rules_of, nodes_of}
use Rattle.ept_octree.proofs.Walked.{node-at}
use Rattle.ept_octree_ckpt.specs.declared.error.PhaseError.TheVariants.{Save}
use Rattle.ept_octree_ckpt.specs.Errors.{of_node}
use Rattle.ept_octree_ckpt.specs.Saving.{IsStill, StillAreSame, SavesNode, keys_in}
use Rattle.ept_octree_ckpt.proofs.Compared.{keeps-none, keeps-then, same-none, same-but}
use Rattle.ept_octree_ckpt.proofs.OnlyChanged.{puts-same, puts-more, puts-again}
use Rattle.ept_octree.proofs.Sampled.{node-distinct}
use Rattle.ept_octree_ckpt.proofs.Refusing.{keeps-sound, save-fault, store-devices, store-refusal, store-no-spill, store-no-damage, devices-fault, node-devices, node-fault, node-damaged, node-tile, node-store}
use Rattle.ept_octree_ckpt.proofs.SameForest.{still-linked, still-agrees, still-unbroken, still-most}
use Rattle.ept_octree_ckpt.proofs.SavedTo.{IsSavedTo, Rise, keys-rise, line-saved, line-stays, saved-none, saved-more, saved-all, saved-end}
use Rattle.ept_octree_ckpt.proofs.Stillness.{still-tile}
use Rattle.ept_octree_ckpt.proofs.Undamaged.{keeps-undamaged, damaged-kept}
use Rattle.ept_octree_ckpt.proofs.saving.save_nodes.Goals as goal

pub loop-key-init : goal.loop-key-init
loop-key-init g c = record {
  far = saved-none (IsTelling g.F.SpillFile.held × Tells (StillAreSame c.args.saved.now.current (nodes_of g.F.SpillFile.held c.args.octree.now)) (g.T.Store.files c.args.store.now)) c.args.saved.now (nodes_of g.F.SpillFile.held c.args.octree.now) (g.T.Store.files c.args.store.now) c.requires.fresh c.requires.each;
  keeps = keeps-none g.T.Store.files g.T.Store.may_leave g.T.Store.moment g.T.Store.image_since c.args.saved.now.current c.args.store.now;
  only = λ tell start told. puts-same g.T.Store.files g.T.Store.may_leave g.T.Store.moment g.T.Store.image_since c.args.saved.now.current (nodes_of g.F.SpillFile.held c.args.octree.now) start c.args.store.now c.args.store.now (same-none g.T.Store.files g.T.Store.may_leave g.T.Store.moment g.T.Store.image_since c.args.store.now);
  stands = λ stands. stands;
  later = omega arith;
  same = c.grown_keys.ensures.same;
  linked = still-linked c.args.octree.now c.grown_keys.new.octree c.grown_keys.ensures.nodes g.F.SpillFile.held;
  agrees = still-agrees c.args.octree.now c.grown_keys.new.octree c.grown_keys.ensures.nodes g.F.SpillFile.held g.F.SpillFile.faults g.F.SpillFile.keeps c.requires.agrees;
  unbroken = still-unbroken c.args.octree.now c.grown_keys.new.octree c.grown_keys.ensures.nodes;
  rules = c.grown_keys.ensures.rules;
  most = still-most c.args.octree.now c.grown_keys.new.octree c.grown_keys.ensures.nodes;
  cache = c.grown_keys.ensures.cache;
}

pub points_into-requires : goal.points_into-requires
points_into-requires g c =
    let nodes : List Branch = nodes_of g.F.SpillFile.held c.args.octree.now in
    let all : c.deref-key-items.result.now ≡ map key_of nodes = c.deref-key-items.ensures.value ∙ c.in_ok-keys.ensures.keys in
    let at = node-at nodes c.deref-key-items.result.now c.loop-key.key-index c.key-item.result all c.loop-key-test.true c.key-item.is in
    record {
      key = (at.0, subst (λ (w : List Branch). IsMember at.0 w) (sym (c.open_mask-mask.ensures.same ∙ c.loop-key.invariant.same)) at.3, at.4);
      agrees = still-agrees c.loop-key.octree c.open_mask-mask.new.self c.open_mask-mask.ensures.nodes g.F.SpillFile.held g.F.SpillFile.faults g.F.SpillFile.keeps c.loop-key.invariant.agrees;
    }

pub open_mask-mask-requires : goal.open_mask-mask-requires
open_mask-mask-requires g c =
    let nodes : List Branch = nodes_of g.F.SpillFile.held c.args.octree.now in
    let all : c.deref-key-items.result.now ≡ map key_of nodes = c.deref-key-items.ensures.value ∙ c.in_ok-keys.ensures.keys in
    let at = node-at nodes c.deref-key-items.result.now c.loop-key.key-index c.key-item.result all c.loop-key-test.true c.key-item.is in
    (at.0, subst (λ (w : List Branch). IsMember at.0 w) (sym c.loop-key.invariant.same) at.3, at.4)

pub save_node-requires : goal.save_node-requires
save_node-requires g c = record { newest = subst (λ (w : Current). ¬ IsOfLayout Old w) (sym (ap (λ (v : View). v.current) c.loop-key.invariant.far.view_is)) c.requires.newest }

pub loop-key-preserved : goal.loop-key-preserved
loop-key-preserved g c =
    let start : View = c.args.saved.now in
    let now : View = c.loop-key.saved in
    let new : View = c.save_node.new.saved in
    let nodes : List Branch = nodes_of g.F.SpillFile.held c.args.octree.now in
    let telling : Type 0 = IsTelling g.F.SpillFile.held × Tells (StillAreSame c.args.saved.now.current nodes) (g.T.Store.files c.args.store.now) in
    let key : VoxelKey = c.key-item.result in
    let i : ℕ = c.loop-key.key-index in
    let all : c.deref-key-items.result.now ≡ map key_of nodes = c.deref-key-items.ensures.value ∙ c.in_ok-keys.ensures.keys in
    let at = node-at nodes c.deref-key-items.result.now i key all c.loop-key-test.true c.key-item.is in
    let b : Branch = at.0 in
    let member : IsMember b (nodes_of g.F.SpillFile.held c.loop-key.octree) = subst (λ (w : List Branch). IsMember b w) (sym c.loop-key.invariant.same) at.3 in
    let member_then : IsMember b (nodes_of g.F.SpillFile.held c.open_mask-mask.new.self) = subst (λ (w : List Branch). IsMember b w) (sym c.open_mask-mask.ensures.same) member in
    let done : List Branch = take i nodes in
    let rest : List Branch = drop (i + 1) nodes in
    let next : drop i nodes ≡ b ∷ rest = drop-next nodes i b at.1 at.2 in
    let whole : done ++ b ∷ rest ≡ nodes = ap (λ (w : List Branch). done ++ w) (sym next) ∙ take-append-drop i nodes in
    let rises : Rise (keys_in (done ++ b ∷ rest)) = subst (λ (w : List Branch). Rise (keys_in w)) (sym whole) (keys-rise (keys_in nodes) (subst (λ (w : List VoxelKey). AreAscending w) c.in_ok-keys.ensures.keys c.in_ok-keys.ensures.ascend)) in
    let mask : c.open_mask-mask.result ≡ b.1.mask = c.open_mask-mask.ensures.mask b member at.4 in
    let points : List Point = c.deref.result.now in
    let alike = c.in_ok-points_into.ensures.ok b member_then at.4 in
    let many : length points ≡ length b.1.points =
    ap length (c.deref.ensures.value ∙ (alike.grows ∙ ap (λ (w : List Point). w ++ alike.added) c.clear.ensures.items)) ∙ alike.count in
    let points_are : IsTelling g.F.SpillFile.held → points ≡ b.1.points = λ tell.
    c.deref.ensures.value ∙ (c.in_ok-points_into.ensures.told tell b member_then at.4 ∙ ap (λ (w : List Point). w ++ b.1.points) c.clear.ensures.items) in
    let held = g.F.SpillFile.held in
    let after_mask = c.open_mask-mask.new.self in
    let kept = c.open_mask-mask.ensures.nodes in
    let files : Option Files = g.T.Store.files c.loop-key.store in
    let after : Option Files = g.T.Store.files c.save_node.new.store in
    let far : IsSavedTo telling start now done (b ∷ rest) files = subst (λ (w : List Branch). IsSavedTo telling start now done w files) next c.loop-key.invariant.far in
    let saves : SavesNode now new b.0 b.1.mask points after =
    subst (λ (k : VoxelKey). SavesNode now new k b.1.mask points after) (sym at.4) (subst (λ (m : ℕ). SavesNode now new key m points after) mask c.in_ok-save_node.ensures.node) in
    let is_key : IsKey b.0 = subst IsKey (sym at.4) c.known.ensures in
    let own = c.len.ensures.own b at.3 in
    let shallow : b.1.key.depth ≤ b.1.rules.cube.depth = subst (λ (r : Rules). b.1.key.depth ≤ r.cube.depth) (sym own.1) (subst (λ (k : VoxelKey). k.depth ≤ (rules_of c.args.octree.now).cube.depth) (sym own.0) (c.len.ensures.shallow b at.3)) in
    let byte : b.1.mask < 2 ^ 8 = omega (arith, mask, c.open_mask-mask.type_inv) in
    let more : IsSavedTo telling start new (done ++ b ∷ []) rest after =
    saved-more telling start now new done rest b files after rises is_key shallow byte far (line-saved telling now new b points after saves many (λ tell. points_are tell.0)) (free_letter now.current b.0) (subst (λ (k : VoxelKey). StepsBy (SameBut (work_tile_name (free_letter now.current k) k)) files after) (sym at.4) c.save_node.ensures.one_tile.reads) in
    record {
      far = subst (λ (w : List Branch). IsSavedTo telling start new w rest after) (take-next nodes i b at.1 at.2) more;
      keeps = keeps-then g.T.Store.files g.T.Store.may_leave g.T.Store.moment g.T.Store.image_since start.current c.args.store.now c.loop-key.store c.save_node.new.store c.loop-key.invariant.keeps
          (subst (λ (w : Current). Moves g.T.Store.files g.T.Store.may_leave g.T.Store.moment g.T.Store.image_since (Keeps w) c.loop-key.store c.save_node.new.store) (ap (λ (v : View). v.current) c.loop-key.invariant.far.view_is) c.save_node.ensures.keeps);
      only = λ tell first told. puts-more g.T.Store.files g.T.Store.may_leave g.T.Store.moment g.T.Store.image_since start.current nodes first b at.3 c.args.store.now c.loop-key.store c.save_node.new.store told c.loop-key.invariant.keeps (c.loop-key.invariant.only tell first told) (λ mid told_mid. puts-again g.T.Store.files g.T.Store.may_leave g.T.Store.moment g.T.Store.image_since c.loop-key.store c.save_node.new.store mid now.current start.current key b.0 c.open_mask-mask.result b.1.mask points b.1.points (ap (λ (v : View). v.current) c.loop-key.invariant.far.view_is) (sym at.4) mask (points_are tell) (c.save_node.ensures.puts mid told_mid));
      stands = λ stands. c.save_node.ensures.stands (c.loop-key.invariant.stands stands);
      later = omega (arith, c.loop-key.invariant.later, c.save_node.ensures.cause.later);
      same = c.points_into.ensures.same ∙ (c.open_mask-mask.ensures.same ∙ c.loop-key.invariant.same);
      linked = λ linked. c.points_into.ensures.linked (still-linked c.loop-key.octree after_mask kept held (c.loop-key.invariant.linked linked));
      agrees = c.points_into.ensures.agrees;
      unbroken = λ unbroken. c.in_ok-points_into.ensures.unbroken (still-unbroken c.loop-key.octree after_mask kept (c.loop-key.invariant.unbroken unbroken));
      rules = c.points_into.ensures.rules ∙ (c.open_mask-mask.ensures.rules ∙ c.loop-key.invariant.rules);
      most = c.points_into.ensures.most ∙ (still-most c.loop-key.octree after_mask kept ∙ c.loop-key.invariant.most);
      cache = c.points_into.ensures.cache ∙ (c.open_mask-mask.ensures.cache ∙ c.loop-key.invariant.cache);
    }

pub loop-key-preserved-then-not-contains : goal.loop-key-preserved-then-not-contains
loop-key-preserved-then-not-contains g c =
    let start : View = c.args.saved.now in
    let now : View = c.loop-key.saved in
    let nodes : List Branch = nodes_of g.F.SpillFile.held c.args.octree.now in
    let telling : Type 0 = IsTelling g.F.SpillFile.held × Tells (StillAreSame c.args.saved.now.current nodes) (g.T.Store.files c.args.store.now) in
    let key : VoxelKey = c.key-item.result in
    let i : ℕ = c.loop-key.key-index in
    let all : c.deref-key-items.result.now ≡ map key_of nodes = c.deref-key-items.ensures.value ∙ c.in_ok-keys.ensures.keys in
    let at = node-at nodes c.deref-key-items.result.now i key all c.loop-key-test.true c.key-item.is in
    let b : Branch = at.0 in
    let member : IsMember b (nodes_of g.F.SpillFile.held c.loop-key.octree) = subst (λ (w : List Branch). IsMember b w) (sym c.loop-key.invariant.same) at.3 in
    let done : List Branch = take i nodes in
    let rest : List Branch = drop (i + 1) nodes in
    let next : drop i nodes ≡ b ∷ rest = drop-next nodes i b at.1 at.2 in
    let whole : done ++ b ∷ rest ≡ nodes = ap (λ (w : List Branch). done ++ w) (sym next) ∙ take-append-drop i nodes in
    let rises : Rise (keys_in (done ++ b ∷ rest)) = subst (λ (w : List Branch). Rise (keys_in w)) (sym whole) (keys-rise (keys_in nodes) (subst (λ (w : List VoxelKey). AreAscending w) c.in_ok-keys.ensures.keys c.in_ok-keys.ensures.ascend)) in
    let mask : c.open_mask-mask.result ≡ b.1.mask = c.open_mask-mask.ensures.mask b member at.4 in
    let held = g.F.SpillFile.held in
    let after_mask = c.open_mask-mask.new.self in
    let kept = c.open_mask-mask.ensures.nodes in
    let files : Option Files = g.T.Store.files c.loop-key.store in
    let far : IsSavedTo telling start now done (b ∷ rest) files = subst (λ (w : List Branch). IsSavedTo telling start now done w files) next c.loop-key.invariant.far in
    let is_key : IsKey b.0 = subst IsKey (sym at.4) c.known.ensures in
    let own = c.len.ensures.own b at.3 in
    let shallow : b.1.key.depth ≤ b.1.rules.cube.depth = subst (λ (r : Rules). b.1.key.depth ≤ r.cube.depth) (sym own.1) (subst (λ (k : VoxelKey). k.depth ≤ (rules_of c.args.octree.now).cube.depth) (sym own.0) (c.len.ensures.shallow b at.3)) in
    let byte : b.1.mask < 2 ^ 8 = omega (arith, mask, c.open_mask-mask.type_inv) in
    let none : contains key_cmp c.in_ok-grown.grown key ≡ false = sym c.contains.ensures ∙ c.if-not-contains.true in
    let still : IsStill start.current nodes b.0 = subst (λ (k : VoxelKey). IsStill start.current nodes k) (sym at.4) (c.in_ok-grown.ensures.still key none) in
    let has : telling → Tells (HasTile start.current b.0 b.1.points) files = λ tell. still-tile start.current nodes b at.3 still (g.T.Store.files c.args.store.now) files c.loop-key.invariant.keeps.reads tell.1 in
    let line = line-stays telling start.current now b files (ap (λ (v : View). v.current) c.loop-key.invariant.far.view_is) c.requires.newest (still b at.3 (is_within-self b.0)) has in
    let more : IsSavedTo telling start now (done ++ b ∷ []) rest files =
    saved-more telling start now now done rest b files files rises is_key shallow byte far line (free_letter now.current b.0) (same-but g.T.Store.files g.T.Store.may_leave g.T.Store.moment g.T.Store.image_since (work_tile_name (free_letter now.current b.0) b.0) c.loop-key.store c.loop-key.store (same-none g.T.Store.files g.T.Store.may_leave g.T.Store.moment g.T.Store.image_since c.loop-key.store)).reads in
    record {
      far = subst (λ (w : List Branch). IsSavedTo telling start now w rest files) (take-next nodes i b at.1 at.2) more;
      keeps = c.loop-key.invariant.keeps;
      only = c.loop-key.invariant.only;
      stands = c.loop-key.invariant.stands;
      later = c.loop-key.invariant.later;
      same = c.open_mask-mask.ensures.same ∙ c.loop-key.invariant.same;
      linked = λ linked. still-linked c.loop-key.octree after_mask kept held (c.loop-key.invariant.linked linked);
      agrees = still-agrees c.loop-key.octree after_mask kept held g.F.SpillFile.faults g.F.SpillFile.keeps c.loop-key.invariant.agrees;
      unbroken = λ unbroken. still-unbroken c.loop-key.octree after_mask kept (c.loop-key.invariant.unbroken unbroken);
      rules = c.open_mask-mask.ensures.rules ∙ c.loop-key.invariant.rules;
      most = still-most c.loop-key.octree after_mask kept ∙ c.loop-key.invariant.most;
      cache = c.open_mask-mask.ensures.cache ∙ c.loop-key.invariant.cache;
    }

pub returns-in_err-save_node-clause-keeps : goal.returns-in_err-save_node-clause-keeps
returns-in_err-save_node-clause-keeps g c =
    let at = c.loop-key.invariant in
    keeps-then g.T.Store.files g.T.Store.may_leave g.T.Store.moment g.T.Store.image_since c.args.saved.now.current c.args.store.now c.loop-key.store c.save_node.new.store at.keeps
    (subst (λ (w : Current). Moves g.T.Store.files g.T.Store.may_leave g.T.Store.moment g.T.Store.image_since (Keeps w) c.loop-key.store c.save_node.new.store) (ap (λ (v : View). v.current) at.far.view_is) c.save_node.ensures.keeps)

pub returns-in_err-save_node-clause-only_changed : goal.returns-in_err-save_node-clause-only_changed
returns-in_err-save_node-clause-only_changed g c = λ tell first told.
    let start : View = c.args.saved.now in
    let now : View = c.loop-key.saved in
    let nodes : List Branch = nodes_of g.F.SpillFile.held c.args.octree.now in
    let key : VoxelKey = c.key-item.result in
    let all : c.deref-key-items.result.now ≡ map key_of nodes = c.deref-key-items.ensures.value ∙ c.in_ok-keys.ensures.keys in
    let at = node-at nodes c.deref-key-items.result.now c.loop-key.key-index key all c.loop-key-test.true c.key-item.is in
    let b : Branch = at.0 in
    let member : IsMember b (nodes_of g.F.SpillFile.held c.loop-key.octree) = subst (λ (w : List Branch). IsMember b w) (sym c.loop-key.invariant.same) at.3 in
    let member_then : IsMember b (nodes_of g.F.SpillFile.held c.open_mask-mask.new.self) = subst (λ (w : List Branch). IsMember b w) (sym c.open_mask-mask.ensures.same) member in
    let mask : c.open_mask-mask.result ≡ b.1.mask = c.open_mask-mask.ensures.mask b member at.4 in
    let points : List Point = c.deref.result.now in
    let points_are : points ≡ b.1.points = c.deref.ensures.value ∙ (c.in_ok-points_into.ensures.told tell b member_then at.4 ∙ ap (λ (w : List Point). w ++ b.1.points) c.clear.ensures.items) in
    puts-more g.T.Store.files g.T.Store.may_leave g.T.Store.moment g.T.Store.image_since start.current nodes first b at.3 c.args.store.now c.loop-key.store c.save_node.new.store told c.loop-key.invariant.keeps (c.loop-key.invariant.only tell first told) (λ mid told_mid. puts-again g.T.Store.files g.T.Store.may_leave g.T.Store.moment g.T.Store.image_since c.loop-key.store c.save_node.new.store mid now.current start.current key b.0 c.open_mask-mask.result b.1.mask points b.1.points (ap (λ (v : View). v.current) c.loop-key.invariant.far.view_is) (sym at.4) mask points_are (c.save_node.ensures.puts mid told_mid))

pub returns-in_err-save_node-clause-stands : goal.returns-in_err-save_node-clause-stands
returns-in_err-save_node-clause-stands g c = λ stands. c.save_node.ensures.stands (c.loop-key.invariant.stands stands)

pub returns-in_err-save_node-clause-only : goal.returns-in_err-save_node-clause-only
returns-in_err-save_node-clause-only g c =
    let p = err_from_is_err_and c.from_residual-in_err-save_node.result c.from_residual-in_err-save_node.ensures.1 in
    rw (p.1, p.2) (save-fault c.save_node.result c.in_err-save_node.field-0.0 c.in_err-save_node.was c.key-item.result c.save_node.ensures.only)

pub returns-in_err-save_node-clause-sound : goal.returns-in_err-save_node-clause-sound
returns-in_err-save_node-clause-sound g c = λ shelf all told sound has.
    let at = c.loop-key.invariant in
    let there = keeps-sound c.sound_steps_law.ensures.keeping shelf all c.args.saved.now.current (g.T.Store.files c.args.store.now) (g.T.Store.files c.loop-key.store) at.keeps.reads told sound has in
    let stores = c.save_node.ensures.sound shelf there.0 there.1 there.2 (subst (λ (w : Current). HasCurrent w there.0) (sym (ap (λ (v : View). v.current) at.far.view_is)) there.3) in
    let is : c.from_residual-in_err-save_node.result ≡ Err (Save c.in_err-save_node.field-0.0) = search rules in
    store-devices c.save_node.result c.from_residual-in_err-save_node.result c.in_err-save_node.field-0.0 c.in_err-save_node.was is stores

pub returns-in_err-save_node-clause-undamaged : goal.returns-in_err-save_node-clause-undamaged
returns-in_err-save_node-clause-undamaged g c = λ all told none.
    let at = c.loop-key.invariant in
    let there = keeps-undamaged c.args.saved.now.current all (g.T.Store.files c.args.store.now) (g.T.Store.files c.loop-key.store) at.keeps.reads told none in
    let stores = c.save_node.ensures.undamaged there.0 there.1 (subst (λ (w : Current). HasNoDamage w there.0) (sym (ap (λ (v : View). v.current) at.far.view_is)) there.2) in
    let is : c.from_residual-in_err-save_node.result ≡ Err (Save c.in_err-save_node.field-0.0) = search rules in
    store-devices c.save_node.result c.from_residual-in_err-save_node.result c.in_err-save_node.field-0.0 c.in_err-save_node.was is stores

pub returns-clause-told : goal.returns-clause-told
returns-clause-told g c =
    let nodes : List Branch = nodes_of g.F.SpillFile.held c.args.octree.now in
    let telling : Type 0 = IsTelling g.F.SpillFile.held × Tells (StillAreSame c.args.saved.now.current nodes) (g.T.Store.files c.args.store.now) in
    let all : c.deref-key-items.result.now ≡ map key_of nodes = c.deref-key-items.ensures.value ∙ c.in_ok-keys.ensures.keys in
    let end : length nodes ≤ c.loop-key.key-index = omega (arith, c.loop-key-test.false, ap length all, length-map nodes key_of) in
    let far : IsSavedTo telling c.args.saved.now c.loop-key.saved nodes [] (g.T.Store.files c.loop-key.store) = saved-end telling c.args.saved.now c.loop-key.saved nodes c.loop-key.key-index (g.T.Store.files c.loop-key.store) end c.loop-key.invariant.far in
    (saved-all telling c.args.saved.now c.loop-key.saved nodes (g.T.Store.files c.loop-key.store) far).0

pub returns-clause-tiles : goal.returns-clause-tiles
returns-clause-tiles g c = λ tell first told still.
    let nodes : List Branch = nodes_of g.F.SpillFile.held c.args.octree.now in
    let telling : Type 0 = IsTelling g.F.SpillFile.held × Tells (StillAreSame c.args.saved.now.current nodes) (g.T.Store.files c.args.store.now) in
    let all : c.deref-key-items.result.now ≡ map key_of nodes = c.deref-key-items.ensures.value ∙ c.in_ok-keys.ensures.keys in
    let end : length nodes ≤ c.loop-key.key-index = omega (arith, c.loop-key-test.false, ap length all, length-map nodes key_of) in
    let far : IsSavedTo telling c.args.saved.now c.loop-key.saved nodes [] (g.T.Store.files c.loop-key.store) = saved-end telling c.args.saved.now c.loop-key.saved nodes c.loop-key.key-index (g.T.Store.files c.loop-key.store) end c.loop-key.invariant.far in
    (saved-all telling c.args.saved.now c.loop-key.saved nodes (g.T.Store.files c.loop-key.store) far).1
    (tell, tells_some (StillAreSame c.args.saved.now.current nodes) (g.T.Store.files c.args.store.now) first told still)

pub returns-clause-known : goal.returns-clause-known
returns-clause-known g c =
    let nodes : List Branch = nodes_of g.F.SpillFile.held c.args.octree.now in
    let telling : Type 0 = IsTelling g.F.SpillFile.held × Tells (StillAreSame c.args.saved.now.current nodes) (g.T.Store.files c.args.store.now) in
    let all : c.deref-key-items.result.now ≡ map key_of nodes = c.deref-key-items.ensures.value ∙ c.in_ok-keys.ensures.keys in
    let end : length nodes ≤ c.loop-key.key-index = omega (arith, c.loop-key-test.false, ap length all, length-map nodes key_of) in
    (saved-end telling c.args.saved.now c.loop-key.saved nodes c.loop-key.key-index (g.T.Store.files c.loop-key.store) end c.loop-key.invariant.far).known

pub returns-in_err-save_node-clause-damaged : goal.returns-in_err-save_node-clause-damaged
returns-in_err-save_node-clause-damaged g c = λ key is.
    let also : c.from_residual-in_err-save_node.result ≡ Err (Save c.in_err-save_node.field-0.0) = search rules in
    let told = store-refusal c.save_node.result c.from_residual-in_err-save_node.result c.in_err-save_node.field-0.0 c.in_err-save_node.was also (TileDamaged key) is in
    let its = one-tile c.save_node.result c.key-item.result key c.save_node.ensures.only told in
    let damaged = c.save_node.ensures.damaged its.0 in
    let same : c.loop-key.saved.current ≡ c.args.saved.now.current = ap (λ (v : View). v.current) c.loop-key.invariant.far.view_is in
    subst (λ (w : Current). HasLine w key × Tells (IsDamaged w key) (g.T.Store.files c.save_node.new.store)) same
    (subst (λ (k : VoxelKey). HasLine c.loop-key.saved.current k × Tells (IsDamaged c.loop-key.saved.current k) (g.T.Store.files c.save_node.new.store)) its.1
    (damaged.0, damaged-kept c.loop-key.saved.current c.key-item.result (g.T.Store.files c.loop-key.store) (g.T.Store.files c.save_node.new.store) c.save_node.ensures.keeps.reads damaged.1))

-- ---- where the points of a node are not given

pub returns-in_err-points_into-clause-only : goal.returns-in_err-points_into-clause-only
returns-in_err-points_into-clause-only g c =
    let out = c.from_residual-in_err-points_into.result in
    let is : out ≡ Err (of_node c.in_err-points_into.field-0.0) = search rules in
    devices-fault out (node-devices c.points_into.result out c.in_err-points_into.field-0.0 c.in_err-points_into.was is)

pub returns-in_err-points_into-clause-undamaged : goal.returns-in_err-points_into-clause-undamaged
returns-in_err-points_into-clause-undamaged g c = λ all told none.
    let out = c.from_residual-in_err-points_into.result in
    let is : out ≡ Err (of_node c.in_err-points_into.field-0.0) = search rules in
    node-devices c.points_into.result out c.in_err-points_into.field-0.0 c.in_err-points_into.was is

pub returns-in_err-points_into-clause-sound : goal.returns-in_err-points_into-clause-sound
returns-in_err-points_into-clause-sound g c = λ shelf all told sound has.
    let out = c.from_residual-in_err-points_into.result in
    let is : out ≡ Err (of_node c.in_err-points_into.field-0.0) = search rules in
    node-devices c.points_into.result out c.in_err-points_into.field-0.0 c.in_err-points_into.was is

pub returns-in_err-points_into-clause-damaged : goal.returns-in_err-points_into-clause-damaged
returns-in_err-points_into-clause-damaged g c = λ key told.
    let out = c.from_residual-in_err-points_into.result in
    let is : out ≡ Err (of_node c.in_err-points_into.field-0.0) = search rules in
    absurd (node-tile c.points_into.result out c.in_err-points_into.field-0.0 c.in_err-points_into.was is key told)

pub returns-in_err-points_into-clause-spill : goal.returns-in_err-points_into-clause-spill
returns-in_err-points_into-clause-spill g c = λ told.
    let out = c.from_residual-in_err-points_into.result in
    let is : out ≡ Err (of_node c.in_err-points_into.field-0.0) = search rules in
    c.points_into.ensures.spill (node-fault c.points_into.result out c.in_err-points_into.field-0.0 c.in_err-points_into.was is told)

pub returns-in_err-points_into-clause-no_damage : goal.returns-in_err-points_into-clause-no_damage
returns-in_err-points_into-clause-no_damage g c = λ points can are unbroken tell kept found at told.
    let out = c.from_residual-in_err-points_into.result in
    let is : out ≡ Err (of_node c.in_err-points_into.field-0.0) = search rules in
    let nodes : List Branch = nodes_of g.F.SpillFile.held c.args.octree.now in
    let same = c.open_mask-mask.ensures.same ∙ c.loop-key.invariant.same in
    c.points_into.ensures.intact (still-unbroken c.loop-key.octree c.open_mask-mask.new.self c.open_mask-mask.ensures.nodes (c.loop-key.invariant.unbroken unbroken)) tell
    (λ b m at_key. node-distinct (rules_of c.args.octree.now) points can nodes are b (subst (λ (w : List Branch). IsMember b w) same m)) kept found at
    (node-damaged c.points_into.result out c.in_err-points_into.field-0.0 c.in_err-points_into.was is kept found at told)

pub returns-in_err-points_into-clause-cause : goal.returns-in_err-points_into-clause-cause
returns-in_err-points_into-clause-cause g c =
    let out = c.from_residual-in_err-points_into.result in
    let is : out ≡ Err (of_node c.in_err-points_into.field-0.0) = search rules in
    record {
      later = c.loop-key.invariant.later;
      failed = λ told. absurd (node-store c.points_into.result out c.in_err-points_into.field-0.0 c.in_err-points_into.was is told);
    }

-- ---- where a node is not saved

pub returns-in_err-save_node-clause-spill : goal.returns-in_err-save_node-clause-spill
returns-in_err-save_node-clause-spill g c = λ told.
    let out = c.from_residual-in_err-save_node.result in
    let is : out ≡ Err (Save c.in_err-save_node.field-0.0) = search rules in
    absurd (store-no-spill c.save_node.result out c.in_err-save_node.field-0.0 c.in_err-save_node.was is told)

pub returns-in_err-save_node-clause-no_damage : goal.returns-in_err-save_node-clause-no_damage
returns-in_err-save_node-clause-no_damage g c = λ points can are unbroken tell kept found at told.
    let out = c.from_residual-in_err-save_node.result in
    let is : out ≡ Err (Save c.in_err-save_node.field-0.0) = search rules in
    store-no-damage c.save_node.result out c.in_err-save_node.field-0.0 c.in_err-save_node.was is kept found at told
