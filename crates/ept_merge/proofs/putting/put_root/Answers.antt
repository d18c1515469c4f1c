use Rattle.std.proofs.Common.{◌≡◌, ◌∙◌, inl, inr, ◌∷◌, List, [], refl, sym, ap, subst}
use Rattle.std.proofs.lemmas.Result.{err_from_is_err_and}
use Rattle.std.specs.List.Sorted.{IsPermutation}
use Rattle.ept_base.specs.Files.{Puts, SameBut, StepsBy}
use Rattle.ept_base.specs.Moves.{Moves}
use Rattle.ept_point.specs.declared.point.Point.{Point}
use Rattle.ept_point.specs.Packed.{tile}
use Rattle.ept_space.specs.VoxelKey.{root}
use Rattle.ept_ckpt.specs.declared.letter.Letter.{Letter}
use Rattle.ept_ckpt.specs.declared.letter.Letter.TheVariants.{A}
use Rattle.ept_save.specs.Names.{work_tile_name}
use Rattle.ept_save.specs.Current.{Current, Keeps}
use Rattle.ept_save.specs.Lines.{free_letter}
use Rattle.ept_save.proofs.Standing.{same-stands}
use Rattle.ept_point.specs.declared.layout.Layout.TheVariants.{New}
use Rattle.ept_ckpt.specs.Versions.{layout_of}
use Rattle.ept_meta.specs.Output.{rules_of}
use Rattle.ept_merge.specs.declared.bodies.PartBody.{PartBody}
use Rattle.ept_merge.specs.Joining.{roots_of}
use Rattle.ept_merge.specs.Putting.{LoadsAll}
use Rattle.ept_merge.proofs.Reading.{tells-always}
use Rattle.ept_merge.proofs.Steps.{put-told, saved-stores, reads-change, tile-changes, change-both, reads-keep, keep-both}
use Rattle.ept_merge.proofs.PutAll.{some-length, first-rules, none-old, root-view}
use Rattle.ept_merge.proofs.Early.{saved-tiles}
use Rattle.ept_merge.proofs.putting.put_root.Goals as goal

pub bounds-parts-0 : goal.bounds-parts-0
bounds-parts-0 g c = some-length c.args.parts.now c.requires.some

pub load_roots-requires-clause-newest : goal.load_roots-requires-clause-newest
load_roots-requires-clause-newest g c = subst (λ (part : PartBody). layout_of part.body.version ≡ New) c.index-parts-0.is (first-rules c.args.rules.now c.args.parts.now c.index-parts-0.result c.requires.rules c.requires.some c.index-parts-0.is).newest

pub load_roots-requires-clause-rules : goal.load_roots-requires-clause-rules
load_roots-requires-clause-rules g c = subst (λ (part : PartBody). c.args.rules.now ≡ rules_of part.body.kept) c.index-parts-0.is (first-rules c.args.rules.now c.args.parts.now c.index-parts-0.result c.requires.rules c.requires.some c.index-parts-0.is).rules_are

pub save_tile-requires : goal.save_tile-requires
save_tile-requires g c = record { newest = none-old c.args.saved.now.current c.requires.none }

-- ---- the roots are not loaded, or not sorted

pub returns-in_err-load_roots-clause-refused : goal.returns-in_err-load_roots-clause-refused
returns-in_err-load_roots-clause-refused g c =
    let p = err_from_is_err_and c.from_residual.result c.from_residual.ensures.1 in
    rw (p.1, p.2) c.in_err-load_roots.ensures.refused

pub returns-in_err-load_roots-clause-tiles : goal.returns-in_err-load_roots-clause-tiles
returns-in_err-load_roots-clause-tiles g c =
    let s = g.T.Store in
    reads-change s.files s.may_leave s.moment s.image_since (root ∷ []) c.args.store.now c.load_roots.new.store c.load_roots.ensures.any_moment

pub returns-in_err-load_roots-clause-keeps : goal.returns-in_err-load_roots-clause-keeps
returns-in_err-load_roots-clause-keeps g c =
    let s = g.T.Store in
    reads-keep s.files s.may_leave s.moment s.image_since _ c.args.store.now c.load_roots.new.store c.load_roots.ensures.any_moment

pub returns-in_err-load_roots-clause-stands : goal.returns-in_err-load_roots-clause-stands
returns-in_err-load_roots-clause-stands g c = λ stands.
    let s = g.T.Store in
    same-stands s.files s.may_leave s.moment s.image_since c.args.saved.now c.args.store.now c.load_roots.new.store c.load_roots.ensures.any_moment stands

pub returns-in_err-points-clause-refused : goal.returns-in_err-points-clause-refused
returns-in_err-points-clause-refused g c =
    let p = err_from_is_err_and c.from_residual-in_err-points.result c.from_residual-in_err-points.ensures.1 in
    rw (p.1, p.2) (tells-always _ (λ all. inl (inr refl)) (g.T.Store.files c.args.store.now))

pub returns-in_err-points-clause-tiles : goal.returns-in_err-points-clause-tiles
returns-in_err-points-clause-tiles g c =
    let s = g.T.Store in
    reads-change s.files s.may_leave s.moment s.image_since (root ∷ []) c.args.store.now c.load_roots.new.store c.load_roots.ensures.any_moment

pub returns-in_err-points-clause-keeps : goal.returns-in_err-points-clause-keeps
returns-in_err-points-clause-keeps g c =
    let s = g.T.Store in
    reads-keep s.files s.may_leave s.moment s.image_since _ c.args.store.now c.load_roots.new.store c.load_roots.ensures.any_moment

pub returns-in_err-points-clause-stands : goal.returns-in_err-points-clause-stands
returns-in_err-points-clause-stands g c = λ stands.
    let s = g.T.Store in
    same-stands s.files s.may_leave s.moment s.image_since c.args.saved.now c.args.store.now c.load_roots.new.store c.load_roots.ensures.any_moment stands

-- ---- it is not put

pub returns-in_err-save_tile-clause-refused : goal.returns-in_err-save_tile-clause-refused
returns-in_err-save_tile-clause-refused g c =
    let p = err_from_is_err_and c.from_residual-in_err-save_tile.result c.from_residual-in_err-save_tile.ensures.1 in
    rw (p.1, p.2) (tells-always _ (λ all. inl (saved-stores c.in_err-save_tile.field-0.0 c.in_err-save_tile.ensures.only)) (g.T.Store.files c.args.store.now))

pub returns-in_err-save_tile-clause-only : goal.returns-in_err-save_tile-clause-only
returns-in_err-save_tile-clause-only g c =
    let p = err_from_is_err_and c.from_residual-in_err-save_tile.result c.from_residual-in_err-save_tile.ensures.1 in
    rw (p.1, p.2) (saved-tiles c.in_err-save_tile.field-0.0 c.in_err-save_tile.ensures.only)

pub returns-in_err-save_tile-clause-tiles : goal.returns-in_err-save_tile-clause-tiles
returns-in_err-save_tile-clause-tiles g c =
    let s = g.T.Store in
    let letter = ap (λ (w : Current). free_letter w root) c.requires.none in
    change-both s.files s.may_leave s.moment s.image_since (root ∷ []) c.args.store.now c.load_roots.new.store c.save_tile.new.store
    (reads-change s.files s.may_leave s.moment s.image_since (root ∷ []) c.args.store.now c.load_roots.new.store c.load_roots.ensures.any_moment)
    (tile-changes s.files s.may_leave s.moment s.image_since (root ∷ []) root (inl refl) c.load_roots.new.store c.save_tile.new.store
    (subst (λ (l : Letter). Moves s.files s.may_leave s.moment s.image_since (SameBut (work_tile_name l root)) c.load_roots.new.store c.save_tile.new.store) letter c.save_tile.ensures.one_tile))

pub returns-in_err-save_tile-clause-keeps : goal.returns-in_err-save_tile-clause-keeps
returns-in_err-save_tile-clause-keeps g c =
    let s = g.T.Store in
    keep-both s.files s.may_leave s.moment s.image_since _ c.args.store.now c.load_roots.new.store c.save_tile.new.store
    (reads-keep s.files s.may_leave s.moment s.image_since _ c.args.store.now c.load_roots.new.store c.load_roots.ensures.any_moment)
    (subst (λ (w : Current). Moves s.files s.may_leave s.moment s.image_since (Keeps w) c.load_roots.new.store c.save_tile.new.store) c.requires.none c.save_tile.ensures.keeps)

pub returns-in_err-save_tile-clause-stands : goal.returns-in_err-save_tile-clause-stands
returns-in_err-save_tile-clause-stands g c = λ stands.
    let s = g.T.Store in
    c.save_tile.ensures.stands (same-stands s.files s.may_leave s.moment s.image_since c.args.saved.now c.args.store.now c.load_roots.new.store c.load_roots.ensures.any_moment stands)

-- ---- it is put

pub returns-clause-puts : goal.returns-clause-puts
returns-clause-puts g c =
    let s = g.T.Store in
    let letter = ap (λ (w : Current). free_letter w root) c.requires.none in
    let points = c.as_slice.result.now in
    let is = c.as_slice.ensures.value in
    record {
      loads = c.load_roots.new.out.items;
      roots = subst (λ (w : List Point). LoadsAll c.args.rules.now (roots_of c.args.parts.now) (s.files c.args.store.now) w c.load_roots.new.out.items) c.new-points.ensures.items c.in_ok-load_roots.ensures.loads;
      points = points;
      same = subst (λ (w : List Point). IsPermutation c.load_roots.new.out.items w) (sym is) c.in_ok-points.ensures.same;
      order = λ distinct. is ∙ c.in_ok-points.ensures.order distinct;
      mask = c.open_octants-mask.result;
      union = c.open_octants-mask.ensures;
      line = root-view c.args.saved.now c.save_tile.new.saved points c.open_octants-mask.result c.requires.none c.requires.first c.in_ok-save_tile.ensures.line;
      has_tile = put-told (s.files c.load_roots.new.store) (s.files c.save_tile.new.store) (work_tile_name A root) (tile points)
          (subst (λ (l : Letter). StepsBy (Puts (work_tile_name l root) (tile points)) (s.files c.load_roots.new.store) (s.files c.save_tile.new.store)) letter c.in_ok-save_tile.ensures.puts);
    }

pub returns-clause-tiles : goal.returns-clause-tiles
returns-clause-tiles g c =
    let s = g.T.Store in
    let letter = ap (λ (w : Current). free_letter w root) c.requires.none in
    change-both s.files s.may_leave s.moment s.image_since (root ∷ []) c.args.store.now c.load_roots.new.store c.save_tile.new.store
    (reads-change s.files s.may_leave s.moment s.image_since (root ∷ []) c.args.store.now c.load_roots.new.store c.load_roots.ensures.any_moment)
    (tile-changes s.files s.may_leave s.moment s.image_since (root ∷ []) root (inl refl) c.load_roots.new.store c.save_tile.new.store
    (subst (λ (l : Letter). Moves s.files s.may_leave s.moment s.image_since (SameBut (work_tile_name l root)) c.load_roots.new.store c.save_tile.new.store) letter c.save_tile.ensures.one_tile))

pub returns-clause-keeps : goal.returns-clause-keeps
returns-clause-keeps g c =
    let s = g.T.Store in
    keep-both s.files s.may_leave s.moment s.image_since _ c.args.store.now c.load_roots.new.store c.save_tile.new.store
    (reads-keep s.files s.may_leave s.moment s.image_since _ c.args.store.now c.load_roots.new.store c.load_roots.ensures.any_moment)
    (subst (λ (w : Current). Moves s.files s.may_leave s.moment s.image_since (Keeps w) c.load_roots.new.store c.save_tile.new.store) c.requires.none c.save_tile.ensures.keeps)

pub returns-clause-stands : goal.returns-clause-stands
returns-clause-stands g c = λ stands.
    let s = g.T.Store in
    c.save_tile.ensures.stands (same-stands s.files s.may_leave s.moment s.image_since c.args.saved.now c.args.store.now c.load_roots.new.store c.load_roots.ensures.any_moment stands)
