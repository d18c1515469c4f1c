use Rattle.std.proofs.Common.{inr, ◌∙◌, ◌≤◌, ◌∷◌, [], List, sym, subst, arith}
use Rattle.std.proofs.lemmas.Bool.{false≢true}
use Rattle.std.proofs.lemmas.Result.{err_from_is_err_and}
use Rattle.ept_base.specs.Files.{Tells}
use Rattle.ept_point.specs.declared.layout.Layout.TheVariants.{New}
use Rattle.ept_point.specs.declared.point.Point.{Point}
use Rattle.ept_space.specs.declared.cube.Rules.{Rules}
use Rattle.ept_sample.specs.Place.{AllInCube}
use Rattle.ept_save.specs.Loading.{IsDamagedUnder}
use Rattle.ept_part.specs.Names.{part_tile}
use Rattle.ept_merge.specs.Putting.{Loads, IsNodesFault}
use Rattle.ept_merge.proofs.Loading.{AreMine, tail-is, line-inside, loaded-intact, node-outside}
use Rattle.ept_merge.proofs.tiles.load_node.Goals as goal

pub load_tile-requires-clause-low : goal.load_tile-requires-clause-low
load_tile-requires-clause-low g c = subst (λ (r : Rules). c.args.node.now.line.key.depth ≤ r.cube.depth) c.requires.rules c.requires.low

pub returns-in_err-load_tile-clause-refused : goal.returns-in_err-load_tile-clause-refused
returns-in_err-load_tile-clause-refused g c =
    let p = err_from_is_err_and c.from_residual.result c.from_residual.ensures.1 in
    rw (p.1, p.2) (subst (λ (r : Rules). Tells (λ all. IsNodesFault r all (c.args.node.now ∷ []) c.in_err-load_tile.field-0.0) (g.T.Store.files c.args.store.now)) (sym c.requires.rules) c.in_err-load_tile.ensures.refused)

pub are_of_part-requires-clause-inside : goal.are_of_part-requires-clause-inside
are_of_part-requires-clause-inside g c =
    let rules = c.args.rules.now in
    let node = c.args.node.now in
    let loads = subst (λ (r : Rules). Loads r node (g.T.Store.files c.args.store.now) c.args.out.now.items c.load_tile.new.out.items) (sym c.requires.rules) c.in_ok-load_tile.ensures.loads in
    let tail = tail-is c.args.out.now.items loads.points c.load_tile.new.out.items c.as_slice.result.now c.len-before.result loads.appended c.as_slice.ensures.value (omega (arith, c.args.out.now.ok.0, c.len-before.ensures)) in
    subst (λ (w : List Point). AllInCube rules.cube w) (sym tail) (line-inside rules node.line loads.points c.known.ensures c.known-2.ensures c.requires.low loads.are)

pub returns-then-are_of_part-clause-loads : goal.returns-then-are_of_part-clause-loads
returns-then-are_of_part-clause-loads g c =
    subst (λ (r : Rules). Loads r c.args.node.now (g.T.Store.files c.args.store.now) c.args.out.now.items c.load_tile.new.out.items) (sym c.requires.rules) c.in_ok-load_tile.ensures.loads

pub returns-then-are_of_part-clause-intact : goal.returns-then-are_of_part-clause-intact
returns-then-are_of_part-clause-intact g c =
    let rules = c.args.rules.now in
    let node = c.args.node.now in
    let files = g.T.Store.files c.args.store.now in
    let loads = subst (λ (r : Rules). Loads r node files c.args.out.now.items c.load_tile.new.out.items) (sym c.requires.rules) c.in_ok-load_tile.ensures.loads in
    let tail = tail-is c.args.out.now.items loads.points c.load_tile.new.out.items c.as_slice.result.now c.len-before.result loads.appended c.as_slice.ensures.value (omega (arith, c.args.out.now.ok.0, c.len-before.ensures)) in
    loaded-intact rules node files c.args.out.now.items c.load_tile.new.out.items loads (subst (λ (w : List Point). AreMine rules node w) tail (c.are_of_part.ensures.0 c.if-are_of_part.true))
    (subst (λ (r : Rules). Tells (λ all. ¬ IsDamagedUnder New r (part_tile node.octants node.line.key) node.line all) files) (sym c.requires.rules) c.in_ok-load_tile.ensures.intact)

pub returns-else-are_of_part-clause-refused : goal.returns-else-are_of_part-clause-refused
returns-else-are_of_part-clause-refused g c =
    let rules = c.args.rules.now in
    let node = c.args.node.now in
    let files = g.T.Store.files c.args.store.now in
    let loads = subst (λ (r : Rules). Loads r node files c.args.out.now.items c.load_tile.new.out.items) (sym c.requires.rules) c.in_ok-load_tile.ensures.loads in
    let tail = tail-is c.args.out.now.items loads.points c.load_tile.new.out.items c.as_slice.result.now c.len-before.result loads.appended c.as_slice.ensures.value (omega (arith, c.args.out.now.ok.0, c.len-before.ensures)) in
    node-outside rules node c.damaged.result files c.args.out.now.items c.load_tile.new.out.items loads c.damaged.ensures.tile c.damaged.ensures.byte
    (λ mine. absurd (false≢true (sym c.if-are_of_part.false ∙ c.are_of_part.ensures.1 (subst (λ (w : List Point). AreMine rules node w) (sym tail) mine))))

pub returns-else-are_of_part-clause-only : goal.returns-else-are_of_part-clause-only
returns-else-are_of_part-clause-only g c = inr (c.args.node.now.octants, c.args.node.now.line.key, c.damaged.ensures.tile)
