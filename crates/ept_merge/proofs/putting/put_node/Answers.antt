use Rattle.std.proofs.Common.{inl, List, [], ◌∷◌, refl, sym, ap, subst}
use Rattle.std.proofs.lemmas.Result.{err_from_is_err_and}
use Rattle.ept_base.specs.Files.{Puts, SameBut, StepsBy}
use Rattle.ept_base.specs.Moves.{Moves}
use Rattle.ept_point.specs.declared.point.Point.{Point}
use Rattle.ept_point.specs.Packed.{tile}
use Rattle.ept_ckpt.specs.declared.letter.Letter.{Letter}
use Rattle.ept_ckpt.specs.declared.letter.Letter.TheVariants.{A}
use Rattle.ept_save.specs.Names.{work_tile_name}
use Rattle.ept_save.specs.Current.{Current, Keeps}
use Rattle.ept_save.specs.Lines.{free_letter}
use Rattle.ept_save.proofs.Standing.{same-stands}
use Rattle.ept_merge.specs.Putting.{Loads}
use Rattle.ept_merge.proofs.PutAll.{none-old}
use Rattle.ept_merge.proofs.Reading.{tells-more, tells-always}
use Rattle.ept_merge.proofs.Steps.{put-told, saved-stores, reads-change, tile-changes, change-both, reads-keep, keep-both, node-line, node-taken, one-intact}
use Rattle.ept_merge.proofs.Early.{saved-tiles}
use Rattle.ept_merge.proofs.putting.put_node.Goals as goal

pub load_node-requires-clause-low : goal.load_node-requires-clause-low
load_node-requires-clause-low g c = c.requires.low.1

-- ---- it is not loaded

pub returns-in_err-load_node-clause-refused : goal.returns-in_err-load_node-clause-refused
returns-in_err-load_node-clause-refused g c =
    let p = err_from_is_err_and c.from_residual.result c.from_residual.ensures.1 in
    rw (p.1, p.2) c.in_err-load_node.ensures.refused

pub returns-in_err-load_node-clause-tiles : goal.returns-in_err-load_node-clause-tiles
returns-in_err-load_node-clause-tiles g c =
    let s = g.T.Store in
    reads-change s.files s.may_leave s.moment s.image_since (c.args.node.now.line.key ∷ []) c.args.store.now c.load_node.new.store c.load_node.ensures.any_moment

pub returns-in_err-load_node-clause-keeps : goal.returns-in_err-load_node-clause-keeps
returns-in_err-load_node-clause-keeps g c =
    let s = g.T.Store in
    reads-keep s.files s.may_leave s.moment s.image_since _ c.args.store.now c.load_node.new.store c.load_node.ensures.any_moment

pub returns-in_err-load_node-clause-stands : goal.returns-in_err-load_node-clause-stands
returns-in_err-load_node-clause-stands g c = λ stands.
    let s = g.T.Store in
    same-stands s.files s.may_leave s.moment s.image_since c.args.saved.now c.args.store.now c.load_node.new.store c.load_node.ensures.any_moment stands

-- ---- it is not put

pub returns-in_err-save_tile-clause-refused : goal.returns-in_err-save_tile-clause-refused
returns-in_err-save_tile-clause-refused g c =
    let p = err_from_is_err_and c.from_residual-in_err-save_tile.result c.from_residual-in_err-save_tile.ensures.1 in
    rw (p.1, p.2) (tells-always _ (λ all. inl (saved-stores c.in_err-save_tile.field-0.0 c.in_err-save_tile.ensures.only)) (g.T.Store.files c.args.store.now))

pub returns-in_err-save_tile-clause-only : goal.returns-in_err-save_tile-clause-only
returns-in_err-save_tile-clause-only g c =
    let p = err_from_is_err_and c.from_residual-in_err-save_tile.result c.from_residual-in_err-save_tile.ensures.1 in
    rw (p.1, p.2) (saved-tiles c.in_err-save_tile.field-0.0 c.in_err-save_tile.ensures.only)

pub returns-in_err-save_tile-clause-tiles : goal.returns-in_err-save_tile-clause-tiles
returns-in_err-save_tile-clause-tiles g c =
    let s = g.T.Store in
    let key = c.args.node.now.line.key in
    let letter = ap (λ (w : Current). free_letter w key) c.requires.none in
    change-both s.files s.may_leave s.moment s.image_since (key ∷ []) c.args.store.now c.load_node.new.store c.save_tile.new.store
    (reads-change s.files s.may_leave s.moment s.image_since (key ∷ []) c.args.store.now c.load_node.new.store c.load_node.ensures.any_moment)
    (tile-changes s.files s.may_leave s.moment s.image_since (key ∷ []) key (inl refl) c.load_node.new.store c.save_tile.new.store
    (subst (λ (l : Letter). Moves s.files s.may_leave s.moment s.image_since (SameBut (work_tile_name l key)) c.load_node.new.store c.save_tile.new.store) letter c.save_tile.ensures.one_tile))

pub returns-in_err-save_tile-clause-keeps : goal.returns-in_err-save_tile-clause-keeps
returns-in_err-save_tile-clause-keeps g c =
    let s = g.T.Store in
    keep-both s.files s.may_leave s.moment s.image_since _ c.args.store.now c.load_node.new.store c.save_tile.new.store
    (reads-keep s.files s.may_leave s.moment s.image_since _ c.args.store.now c.load_node.new.store c.load_node.ensures.any_moment)
    (subst (λ (w : Current). Moves s.files s.may_leave s.moment s.image_since (Keeps w) c.load_node.new.store c.save_tile.new.store) c.requires.none c.save_tile.ensures.keeps)

pub returns-in_err-save_tile-clause-stands : goal.returns-in_err-save_tile-clause-stands
returns-in_err-save_tile-clause-stands g c = λ stands.
    let s = g.T.Store in
    c.save_tile.ensures.stands (same-stands s.files s.may_leave s.moment s.image_since c.args.saved.now c.args.store.now c.load_node.new.store c.load_node.ensures.any_moment stands)

-- ---- it is put

pub returns-clause-line : goal.returns-clause-line
returns-clause-line g c =
    node-line c.args.rules.now c.args.node.now (g.T.Store.files c.args.store.now) c.args.points.now.items c.as_slice.result.now c.args.saved.now.current c.args.saved.now c.save_tile.new.saved (subst (λ (w : List Point). Loads c.args.rules.now c.args.node.now (g.T.Store.files c.args.store.now) c.args.points.now.items w) (sym c.as_slice.ensures.value) c.in_ok-load_node.ensures.loads) c.requires.empty c.requires.none
    c.in_ok-save_tile.ensures.line

pub returns-clause-taken : goal.returns-clause-taken
returns-clause-taken g c = λ start told.
    let s = g.T.Store in
    let key = c.args.node.now.line.key in
    let letter = ap (λ (w : Current). free_letter w key) c.requires.none in
    node-taken c.args.rules.now c.args.node.now start (s.files c.args.store.now) (s.files c.save_tile.new.store) c.args.points.now.items c.as_slice.result.now (subst (λ (w : List Point). Loads c.args.rules.now c.args.node.now (s.files c.args.store.now) c.args.points.now.items w) (sym c.as_slice.ensures.value) c.in_ok-load_node.ensures.loads) c.requires.empty told
    (put-told (s.files c.load_node.new.store) (s.files c.save_tile.new.store) (work_tile_name A key) (tile c.as_slice.result.now)
    (subst (λ (l : Letter). StepsBy (Puts (work_tile_name l key) (tile c.as_slice.result.now)) (s.files c.load_node.new.store) (s.files c.save_tile.new.store)) letter c.in_ok-save_tile.ensures.puts))

pub returns-clause-intact : goal.returns-clause-intact
returns-clause-intact g c =
    tells-more _ _ (λ all intact. one-intact c.args.rules.now all c.args.node.now intact) (g.T.Store.files c.args.store.now) c.in_ok-load_node.ensures.intact

pub returns-clause-tiles : goal.returns-clause-tiles
returns-clause-tiles g c =
    let s = g.T.Store in
    let key = c.args.node.now.line.key in
    let letter = ap (λ (w : Current). free_letter w key) c.requires.none in
    change-both s.files s.may_leave s.moment s.image_since (key ∷ []) c.args.store.now c.load_node.new.store c.save_tile.new.store
    (reads-change s.files s.may_leave s.moment s.image_since (key ∷ []) c.args.store.now c.load_node.new.store c.load_node.ensures.any_moment)
    (tile-changes s.files s.may_leave s.moment s.image_since (key ∷ []) key (inl refl) c.load_node.new.store c.save_tile.new.store
    (subst (λ (l : Letter). Moves s.files s.may_leave s.moment s.image_since (SameBut (work_tile_name l key)) c.load_node.new.store c.save_tile.new.store) letter c.save_tile.ensures.one_tile))

pub returns-clause-keeps : goal.returns-clause-keeps
returns-clause-keeps g c =
    let s = g.T.Store in
    keep-both s.files s.may_leave s.moment s.image_since _ c.args.store.now c.load_node.new.store c.save_tile.new.store
    (reads-keep s.files s.may_leave s.moment s.image_since _ c.args.store.now c.load_node.new.store c.load_node.ensures.any_moment)
    (subst (λ (w : Current). Moves s.files s.may_leave s.moment s.image_since (Keeps w) c.load_node.new.store c.save_tile.new.store) c.requires.none c.save_tile.ensures.keeps)

pub returns-clause-stands : goal.returns-clause-stands
returns-clause-stands g c = λ stands.
    let s = g.T.Store in
    c.save_tile.ensures.stands (same-stands s.files s.may_leave s.moment s.image_since c.args.saved.now c.args.store.now c.load_node.new.store c.load_node.ensures.any_moment stands)

pub save_tile-requires : goal.save_tile-requires
save_tile-requires g c = record { newest = none-old c.args.saved.now.current c.requires.none }
