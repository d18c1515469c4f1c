use Rattle.std.proofs.Common.{◌≡◌, ◌∙◌, ℕ, ◌+◌, ◌<◌, ◌≤◌, inr, List, ◌++◌, length, get_or, take, sym, ap, subst, arith, rules, Option}
use Rattle.std.specs.Prelude.{Err}
use Rattle.std.proofs.lemmas.List.{take_all}
use Rattle.std.proofs.lemmas.Result.{err_from_is_err_and}
use Rattle.ept_base.specs.Files.{Files, Tells}
use Rattle.ept_point.specs.declared.point.Point.{Point}
use Rattle.ept_ckpt.specs.Versions.{layout_of}
use Rattle.ept_sample.specs.Members.{IsMember}
use Rattle.ept_space.specs.declared.cube.Rules.{Rules}
use Rattle.ept_ckpt.specs.declared.node_line.NodeLine.{NodeLine}
use Rattle.ept_ckpt.specs.declared.checkpoint.Checkpoint.{Checkpoint}
use Rattle.ept_meta.specs.Output as meta
use Rattle.ept_node.specs.Shown.{IsTelling}
use Rattle.ept_save.specs.declared.error.SaveError.{SaveError}
use Rattle.ept_save.specs.declared.error.SaveError.TheVariants.{TileDamaged}
use Rattle.ept_save.specs.Current.{Current, tile_of_line}
use Rattle.ept_save.specs.Tiles.{HasTileUnder}
use Rattle.ept_save.specs.Loading.{HasLine, HasTile, IsDamaged, AreOfLine, HasNoDamage}
use Rattle.ept_save.proofs.Standing.{same_twice}
use Rattle.ept_save.proofs.KeyLines.{member-at}
use Rattle.ept_table.specs.Octree.{Branch}
use Rattle.ept_octree.specs.Adding.{filled}
use Rattle.ept_octree.specs.Octree.{rules_of, most_of, nodes_of}
use Rattle.ept_octree_ckpt.specs.Lines.{NamesTile}
use Rattle.ept_octree_ckpt.specs.declared.error.PhaseError.{PhaseError}
use Rattle.ept_octree_ckpt.specs.declared.error.PhaseError.TheVariants.{TooManyNodes}
use Rattle.ept_octree_ckpt.specs.Loaded.{AreIntact, IsFirstDamaged}
use Rattle.ept_octree_ckpt.proofs.Lining.{line-there, line-depth, next-are, next-tile, tells-more, tells-both}
use Rattle.ept_octree_ckpt.proofs.LoadedNodes.{next-free, next-room, next-here, next-slot, next-last, next-full, loaded-more, tells-filled}
use Rattle.ept_octree_ckpt.proofs.Compared.{images-then}
use Rattle.ept_octree_ckpt.proofs.Undamaged.{intact-next, all-intact, first-damaged, front-intact}
use Rattle.ept_save.proofs.DamagedTiles.{loaded-whole, one-tile}
use Rattle.ept_octree_ckpt.proofs.Refusing.{was-save, damaged-told, none-damaged, load-fault, stays-sound}
use Rattle.ept_octree_ckpt.proofs.loading.add_nodes.Goals as goal

pub load_tile-requires : goal.load_tile-requires
load_tile-requires g c =
    let items : List NodeLine = c.as_slice-line-items.result.now in
    let line : NodeLine = c.line-item.result in
    let there : IsMember line items = member-at items c.loop-line.line-index line c.loop-line-test.true (sym c.line-item.is) in
    record { line = line-there c.args.saved.now.current c.args.checkpoint.now c.requires.current line (subst (IsMember line) c.as_slice-line-items.ensures there) }

pub add_node-requires : goal.add_node-requires
add_node-requires g c =
    let at : Checkpoint = c.args.checkpoint.now in
    let current : Current = c.args.saved.now.current in
    let items : List NodeLine = c.as_slice-line-items.result.now in
    let line : NodeLine = c.line-item.result in
    let invariant = c.loop-line.invariant in
    let same : items ≡ at.nodes = c.as_slice-line-items.ensures in
    let there : IsMember line at.nodes = subst (IsMember line) same (member-at items c.loop-line.line-index line c.loop-line-test.true (sym c.line-item.is)) in
    let found = c.in_ok-load_tile.ensures.appended in
    let points : c.deref.result.now ≡ found.points = c.deref.ensures.value ∙ (found.appended ∙ ap (λ (w : List Point). w ++ found.points) c.clear.ensures.items) in
    let its : rules_of c.loop-line.octree ≡ meta.rules_of at.kept = invariant.rules ∙ c.requires.rules in
    record {
      low = subst (λ (r : Rules). line.key.depth ≤ r.cube.depth) (sym its) (line-depth current at c.requires.current line there);
      free = next-free (IsTelling g.F.SpillFile.held) (rules_of c.args.octree.now) at items same c.loop-line.line-index line c.loop-line-test.true (sym c.line-item.is) (nodes_of g.F.SpillFile.held c.loop-line.octree) (g.T.Store.files c.args.store.now) invariant.far;
      room = next-room (IsTelling g.F.SpillFile.held) (rules_of c.args.octree.now) at items same c.loop-line.line-index line c.loop-line-test.true (sym c.line-item.is) (nodes_of g.F.SpillFile.held c.loop-line.octree) (g.T.Store.files c.args.store.now) invariant.far c.loop-line.octree invariant.place;
      here = next-here (IsTelling g.F.SpillFile.held) (rules_of c.args.octree.now) at items same c.loop-line.line-index line c.loop-line-test.true (sym c.line-item.is) (nodes_of g.F.SpillFile.held c.loop-line.octree) (g.T.Store.files c.args.store.now) invariant.far c.loop-line.octree invariant.place;
      are = subst (λ (r : Rules). AreOfLine r line c.deref.result.now) (sym its) (subst (λ (w : List Point). AreOfLine (meta.rules_of at.kept) line w) (sym points) (next-are current at c.requires.current line there found.points found.are_found));
      agrees = invariant.agrees;
      unbroken = invariant.unbroken;
    }

pub loop-line-preserved : goal.loop-line-preserved
loop-line-preserved g c =
    let at : Checkpoint = c.args.checkpoint.now in
    let current : Current = c.args.saved.now.current in
    let items : List NodeLine = c.as_slice-line-items.result.now in
    let i : ℕ = c.loop-line.line-index in
    let line : NodeLine = c.line-item.result in
    let invariant = c.loop-line.invariant in
    let same : items ≡ at.nodes = c.as_slice-line-items.ensures in
    let is : get_or items i line ≡ line = sym c.line-item.is in
    let inside : i < length items = c.loop-line-test.true in
    let there : IsMember line at.nodes = subst (IsMember line) same (member-at items i line inside is) in
    let found = c.in_ok-load_tile.ensures.appended in
    let here : List Point = c.deref.result.now in
    let points : here ≡ found.points = c.deref.ensures.value ∙ (found.appended ∙ ap (λ (w : List Point). w ++ found.points) c.clear.ensures.items) in
    let are : AreOfLine (meta.rules_of at.kept) line here = subst (λ (w : List Point). AreOfLine (meta.rules_of at.kept) line w) (sym points) (next-are current at c.requires.current line there found.points found.are_found) in
    let rules : Rules = rules_of c.loop-line.octree in
    let files : Option Files = g.T.Store.files c.args.store.now in
    let mid : Option Files = g.T.Store.files c.loop-line.store in
    let next : Branch = (line.key, filled line.key rules line.mask here) in
    let one : length (nodes_of g.F.SpillFile.held c.args.octree.now) ≡ 1 = ap length c.requires.new in
    let some : 0 < most_of c.loop-line.octree = omega (arith, one, c.len.ensures.few, c.loop-line.invariant.most) in
    let low : c.loop-line.line-index < most_of c.loop-line.octree = next-slot (IsTelling g.F.SpillFile.held) (rules_of c.args.octree.now) c.args.checkpoint.now c.as_slice-line-items.result.now c.as_slice-line-items.ensures c.loop-line.line-index c.line-item.result c.loop-line-test.true (sym c.line-item.is) (nodes_of g.F.SpillFile.held c.loop-line.octree) (g.T.Store.files c.args.store.now) c.loop-line.invariant.far (most_of c.loop-line.octree) some (c.lacks_slot.ensures.room c.if-lacks_slot.false) in
    record {
      moves = same_twice g.T.Store.files g.T.Store.may_leave g.T.Store.moment g.T.Store.image_since c.args.store.now c.loop-line.store c.load_tile.new.store invariant.moves c.load_tile.ensures.any_moment;
      images = images-then g.T.Store.files g.T.Store.may_leave g.T.Store.moment g.T.Store.image_since c.args.store.now c.loop-line.store c.load_tile.new.store invariant.images c.load_tile.ensures.images;
      later = omega (arith, invariant.later, c.load_tile.ensures.cause.later);
      rules = c.add_node.ensures.rules ∙ invariant.rules;
      most = c.add_node.ensures.most ∙ invariant.most;
      cache = c.add_node.ensures.cache ∙ invariant.cache;
      agrees = c.add_node.ensures.agrees;
      unbroken = c.in_ok-add_node.ensures.unbroken;
      few = omega (arith, low, invariant.most);
      place = inr (let more : 0 < i + 1 = omega arith in more, c.in_ok-add_node.ensures.room);
      far = loaded-more (IsTelling g.F.SpillFile.held) (rules_of c.args.octree.now) at items same i line inside is (nodes_of g.F.SpillFile.held c.loop-line.octree) files invariant.far next.1 (nodes_of g.F.SpillFile.held c.add_node.new.octree) c.in_ok-add_node.ensures.ok c.in_ok-add_node.ensures.told mid invariant.moves.reads (tells-filled rules (meta.rules_of at.kept) line here are)
          (tells-more (HasTile current line.key found.points) (λ all. NamesTile (layout_of at.version) all next line) (λ all has. subst (λ (w : List Point). HasTileUnder (layout_of at.version) (tile_of_line line) w all) (sym points) (next-tile current at c.requires.current line there found.points all has)) mid found.has_tile);
      intact = intact-next current items i line inside is files mid invariant.moves.reads invariant.intact (loaded-whole c.load_tile.result c.in_ok-load_tile.field-0 c.in_ok-load_tile.was current line.key mid c.load_tile.ensures.refusal_comes);
    }

pub returns-clause-undamaged : goal.returns-clause-undamaged
returns-clause-undamaged g c =
    let at : Checkpoint = c.args.checkpoint.now in
    let current : Current = c.args.saved.now.current in
    let files = g.T.Store.files c.args.store.now in
    let items : List NodeLine = c.as_slice-line-items.result.now in
    let i : ℕ = c.loop-line.line-index in
    let end : length items ≤ i = omega (arith, c.loop-line-test.false) in
    let all : take i items ≡ at.nodes = take_all i items end ∙ c.as_slice-line-items.ensures in
    tells-more (AreIntact current at.nodes) (HasNoDamage current) (all-intact current at c.requires.current) files
    (subst (λ (w : List NodeLine). Tells (AreIntact current w) files) all c.loop-line.invariant.intact)

pub returns-in_err-load_tile-clause-any_moment : goal.returns-in_err-load_tile-clause-any_moment
returns-in_err-load_tile-clause-any_moment g c =
    same_twice g.T.Store.files g.T.Store.may_leave g.T.Store.moment g.T.Store.image_since c.args.store.now c.loop-line.store c.load_tile.new.store c.loop-line.invariant.moves c.load_tile.ensures.any_moment

pub returns-in_err-load_tile-clause-damaged : goal.returns-in_err-load_tile-clause-damaged
returns-in_err-load_tile-clause-damaged g c = λ key is.
    let items : List NodeLine = c.as_slice-line-items.result.now in
    let line : NodeLine = c.line-item.result in
    let current : Current = c.args.saved.now.current in
    let e : SaveError = c.in_err-load_tile.field-0.0 in
    let its : e ≡ TileDamaged key = was-save e (TileDamaged key) (search (rules, is)) in
    let there : IsMember line items = member-at items c.loop-line.line-index line c.loop-line-test.true (sym c.line-item.is) in
    let has : HasLine current line.key = line-there current c.args.checkpoint.now c.requires.current line (subst (IsMember line) c.as_slice-line-items.ensures there) in
    let told = damaged-told c.load_tile.result e c.in_err-load_tile.was current line.key key (g.T.Store.files c.args.store.now) (g.T.Store.files c.loop-line.store) c.loop-line.invariant.moves.reads has c.load_tile.ensures.only c.load_tile.ensures.refused its in
    let its_key = one-tile c.load_tile.result line.key key c.load_tile.ensures.only (c.in_err-load_tile.was ∙ ap (λ (w : SaveError). Err w) its) in
    let one : length (nodes_of g.F.SpillFile.held c.args.octree.now) ≡ 1 = ap length c.requires.new in
    let some : 0 < most_of c.loop-line.octree = omega (arith, one, c.len.ensures.few, c.loop-line.invariant.most) in
    let low : c.loop-line.line-index < most_of c.loop-line.octree = next-slot (IsTelling g.F.SpillFile.held) (rules_of c.args.octree.now) c.args.checkpoint.now c.as_slice-line-items.result.now c.as_slice-line-items.ensures c.loop-line.line-index c.line-item.result c.loop-line-test.true (sym c.line-item.is) (nodes_of g.F.SpillFile.held c.loop-line.octree) (g.T.Store.files c.args.store.now) c.loop-line.invariant.far (most_of c.loop-line.octree) some (c.lacks_slot.ensures.room c.if-lacks_slot.false) in
    let most : ℕ = most_of c.args.octree.now in
    let low_then : c.loop-line.line-index < most = omega (arith, low, c.loop-line.invariant.most) in
    (told.0, tells-both (IsDamaged current key) (AreIntact current (take c.loop-line.line-index items)) (IsFirstDamaged current most key) (λ all bad front. first-damaged current c.args.checkpoint.now c.requires.current items c.as_slice-line-items.ensures c.loop-line.line-index line c.loop-line-test.true (sym c.line-item.is) most low_then key its_key.1 all bad front) (g.T.Store.files c.args.store.now) told.1 c.loop-line.invariant.intact)

pub returns-in_err-load_tile-clause-only : goal.returns-in_err-load_tile-clause-only
returns-in_err-load_tile-clause-only g c =
    let p = err_from_is_err_and c.from_residual.result c.from_residual.ensures.1 in
    rw (p.1, p.2) (load-fault c.load_tile.result c.in_err-load_tile.field-0.0 c.in_err-load_tile.was c.line-item.result.key c.load_tile.ensures.only)

pub returns-in_err-load_tile-clause-sound : goal.returns-in_err-load_tile-clause-sound
returns-in_err-load_tile-clause-sound g c = λ shelf all told sound has key is.
    let e : SaveError = c.in_err-load_tile.field-0.0 in
    let its : e ≡ TileDamaged key = was-save e (TileDamaged key) (search (rules, is)) in
    let at = stays-sound c.sound_steps_law.ensures.same shelf all c.args.saved.now.current (g.T.Store.files c.args.store.now) (g.T.Store.files c.loop-line.store) c.loop-line.invariant.moves.reads told sound has in
    none-damaged c.load_tile.result e c.in_err-load_tile.was key (c.load_tile.ensures.sound shelf at.0 at.1 at.2 at.3) its

pub returns-in_err-load_tile-clause-images : goal.returns-in_err-load_tile-clause-images
returns-in_err-load_tile-clause-images g c =
    images-then g.T.Store.files g.T.Store.may_leave g.T.Store.moment g.T.Store.image_since c.args.store.now c.loop-line.store c.load_tile.new.store c.loop-line.invariant.images c.load_tile.ensures.images

pub returns-in_err-add_node-clause-images : goal.returns-in_err-add_node-clause-images
returns-in_err-add_node-clause-images g c =
    images-then g.T.Store.files g.T.Store.may_leave g.T.Store.moment g.T.Store.image_since c.args.store.now c.loop-line.store c.load_tile.new.store c.loop-line.invariant.images c.load_tile.ensures.images

pub returns-in_err-add_node-clause-any_moment : goal.returns-in_err-add_node-clause-any_moment
returns-in_err-add_node-clause-any_moment g c =
    same_twice g.T.Store.files g.T.Store.may_leave g.T.Store.moment g.T.Store.image_since c.args.store.now c.loop-line.store c.load_tile.new.store c.loop-line.invariant.moves c.load_tile.ensures.any_moment

pub returns-in_err-add_node-clause-too_many : goal.returns-in_err-add_node-clause-too_many
returns-in_err-add_node-clause-too_many g c = λ is.
    let its : c.in_err-add_node.field-0.0 ≡ TooManyNodes = search (rules, is) in
    let full = c.add_node.ensures.too_many (c.in_err-add_node.was ∙ ap (λ (e : PhaseError). Err e) its) in
    absurd (omega (arith, full.1, c.lacks_slot.ensures.room c.if-lacks_slot.false full.0))

pub returns-then-lacks_slot-clause-too_many : goal.returns-then-lacks_slot-clause-too_many
returns-then-lacks_slot-clause-too_many g c = λ is.
    let at : Checkpoint = c.args.checkpoint.now in
    let items : List NodeLine = c.as_slice-line-items.result.now in
    let i : ℕ = c.loop-line.line-index in
    let invariant = c.loop-line.invariant in
    let most : ℕ = most_of c.loop-line.octree in
    let full = c.lacks_slot.ensures.full c.if-lacks_slot.true in
    let many = next-full (IsTelling g.F.SpillFile.held) (rules_of c.args.octree.now) at items c.as_slice-line-items.ensures i c.line-item.result c.loop-line-test.true (sym c.line-item.is) (nodes_of g.F.SpillFile.held c.loop-line.octree) (g.T.Store.files c.args.store.now) invariant.far most full in
    let last : i ≡ most = next-last (IsTelling g.F.SpillFile.held) (rules_of c.args.octree.now) at items c.as_slice-line-items.ensures i c.line-item.result c.loop-line-test.true (sym c.line-item.is) (nodes_of g.F.SpillFile.held c.loop-line.octree) (g.T.Store.files c.args.store.now) invariant.far most full c.lacks_slot.ensures.few in
    (omega (arith, many, invariant.most), front-intact c.args.saved.now.current at items c.as_slice-line-items.ensures i (most_of c.args.octree.now) (last ∙ invariant.most) (g.T.Store.files c.args.store.now) invariant.intact)
