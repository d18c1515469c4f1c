use Rattle.std.proofs.Common.{◌≡◌, ◌∙◌, ℕ, ◌<◌, ◌≤◌, List, [], ◌∷◌, ◌++◌, take, get_or, length, map, sym, ap, subst, arith, rules, refl, Some}
use Rattle.std.specs.Prelude.{Err}
use Rattle.std.proofs.lemmas.List.{take_all}
use Rattle.ept_base.specs.Files.{Files, Puts, StepsBy, Tells}
use Rattle.ept_hier.specs.Hierarchy.{Node, KeysAscend}
use Rattle.ept_point.specs.Packed.{tile}
use Rattle.ept_sample.specs.declared.tiles.Tile.{Tile}
use Rattle.ept_sample.specs.Members.{IsMember}
use Rattle.ept_space.specs.VoxelKey.{VoxelKey}
use Rattle.ept_ckpt.specs.declared.node_line.NodeLine.{NodeLine}
use Rattle.ept_meta.specs.Output.{tile_name, tile_file}
use Rattle.ept_save.specs.Current.{Current}
use Rattle.ept_save.specs.Loading.{HasLine, IsDamaged}
use Rattle.ept_save.specs.Opening.{lines_of}
use Rattle.ept_save.proofs.DamagedTiles.{line-there, line-tile}
use Rattle.ept_save.proofs.KeyLines.{member-at}
use Rattle.ept_save.proofs.Standing.{stepped, told_some}
use Rattle.ept_publish.specs.Lines.{counted_by, named_by}
use Rattle.ept_publish.specs.Publishing.{PutsAll, SameButThese}
use Rattle.ept_publish.specs.declared.error.PublishError.TheVariants.{TileDamaged}
use Rattle.ept_publish.proofs.Putting.{puts-more, taken-more}
use Rattle.ept_publish.proofs.Naming.{tile-these, these-both}
use Rattle.ept_publish.proofs.Copying.{tile-at, as-many, keys-ascend, stays, damaged-start}
use Rattle.ept_publish.proofs.Refusing.{one-refusal}
use Rattle.ept_publish.proofs.tiles.put_tiles.Goals as goal

pub copy_tile-requires : goal.copy_tile-requires
copy_tile-requires g c =
    let lines : List NodeLine = c.lines_in-lines.result.now in
    let there : IsMember c.line-item.result lines = member-at lines c.loop-line.line-index c.line-item.result c.loop-line-test.true (sym c.line-item.is) in
    record {
      line = line-there c.args.saved.now.current c.line-item.result (subst (IsMember c.line-item.result) c.lines_in-lines.ensures there);
      newest = c.requires.newest;
    }

pub loop-line-preserved : goal.loop-line-preserved
loop-line-preserved g c =
    let current : Current = c.args.saved.now.current in
    let lines : List NodeLine = c.lines_in-lines.result.now in
    let line : NodeLine = c.line-item.result in
    let i : ℕ = c.loop-line.line-index in
    let here : i < length lines = c.loop-line-test.true in
    let is : get_or lines i line ≡ line = sym c.line-item.is in
    let among : IsMember line (lines_of current) = subst (IsMember line) c.lines_in-lines.ensures (member-at lines i line here is) in
    let node : Node = counted_by line in
    record {
      counts = c.in_ok-push.ensures.items ∙ (ap (λ (w : List Node). w ++ node ∷ []) c.loop-line.invariant.counts ∙ sym (taken-more counted_by lines i line here c.line-item.is));
      put = λ start tiles told names.
          let own = subst (λ (w : List NodeLine). (i < length w) × (get_or w i line ≡ line)) c.lines_in-lines.ensures (here, is) in
          let at = tile-at start tiles (lines_of current) i line names own.0 own.1 in
          let t : Tile = at.0 in
          let now = stepped (SameButThese (map named_by (lines_of current))) (g.T.Store.files c.args.store.now) (g.T.Store.files c.loop-line.store) start told c.loop-line.invariant.moves.reads in
          let has = line-tile current line among c.requires.newest t.points now.0 (stays c.output_names_law.ensures.outside (lines_of current) line start now.0 now.2 ∙ at.3.has_tile) in
          let step : StepsBy (Puts (tile_name line.key) (tile t.points)) (g.T.Store.files c.loop-line.store) (g.T.Store.files c.copy_tile.new.store) =
          told_some _ (g.T.Store.files c.loop-line.store) now.0 now.1 (c.in_ok-copy_tile.ensures.ok t.points) has in
          puts-more (map tile_file (take i tiles)) _ (tile_name t.key) (tile t.points) (taken-more tile_file tiles i t at.1 (sym at.2)) (g.T.Store.files c.args.store.now) (g.T.Store.files c.loop-line.store) (g.T.Store.files c.copy_tile.new.store) (c.loop-line.invariant.put start tiles told names)
          (subst (λ (k : VoxelKey). StepsBy (Puts (tile_name k) (tile t.points)) (g.T.Store.files c.loop-line.store) (g.T.Store.files c.copy_tile.new.store)) at.3.key step);
      moves = these-both g.T.Store.files g.T.Store.may_leave g.T.Store.moment g.T.Store.image_since (map named_by (lines_of current)) c.args.store.now c.loop-line.store c.copy_tile.new.store c.loop-line.invariant.moves
          (tile-these g.T.Store.files g.T.Store.may_leave g.T.Store.moment g.T.Store.image_since (lines_of current) line among c.loop-line.store c.copy_tile.new.store c.copy_tile.ensures.any_moment);
      later = omega (arith, c.loop-line.invariant.later, c.copy_tile.ensures.cause.later);
    }

pub returns-in_err-copy_tile-clause-any_moment : goal.returns-in_err-copy_tile-clause-any_moment
returns-in_err-copy_tile-clause-any_moment g c =
    let current : Current = c.args.saved.now.current in
    let lines : List NodeLine = c.lines_in-lines.result.now in
    let among : IsMember c.line-item.result (lines_of current) = subst (IsMember c.line-item.result) c.lines_in-lines.ensures (member-at lines c.loop-line.line-index c.line-item.result c.loop-line-test.true (sym c.line-item.is)) in
    these-both g.T.Store.files g.T.Store.may_leave g.T.Store.moment g.T.Store.image_since (map named_by (lines_of current)) c.args.store.now c.loop-line.store c.copy_tile.new.store c.loop-line.invariant.moves
    (tile-these g.T.Store.files g.T.Store.may_leave g.T.Store.moment g.T.Store.image_since (lines_of current) c.line-item.result among c.loop-line.store c.copy_tile.new.store c.copy_tile.ensures.any_moment)

pub returns-in_err-push-clause-any_moment : goal.returns-in_err-push-clause-any_moment
returns-in_err-push-clause-any_moment g c =
    let current : Current = c.args.saved.now.current in
    let lines : List NodeLine = c.lines_in-lines.result.now in
    let among : IsMember c.line-item.result (lines_of current) = subst (IsMember c.line-item.result) c.lines_in-lines.ensures (member-at lines c.loop-line.line-index c.line-item.result c.loop-line-test.true (sym c.line-item.is)) in
    these-both g.T.Store.files g.T.Store.may_leave g.T.Store.moment g.T.Store.image_since (map named_by (lines_of current)) c.args.store.now c.loop-line.store c.copy_tile.new.store c.loop-line.invariant.moves
    (tile-these g.T.Store.files g.T.Store.may_leave g.T.Store.moment g.T.Store.image_since (lines_of current) c.line-item.result among c.loop-line.store c.copy_tile.new.store c.copy_tile.ensures.any_moment)

pub returns-in_err-copy_tile-clause-damaged : goal.returns-in_err-copy_tile-clause-damaged
returns-in_err-copy_tile-clause-damaged g c = λ key told.
    let current : Current = c.args.saved.now.current in
    let line : NodeLine = c.line-item.result in
    let lines : List NodeLine = c.lines_in-lines.result.now in
    let among : IsMember line (lines_of current) = subst (IsMember line) c.lines_in-lines.ensures (member-at lines c.loop-line.line-index line c.loop-line-test.true (sym c.line-item.is)) in
    let out = c.from_residual-in_err-copy_tile.result in
    let is : out ≡ Err c.in_err-copy_tile.field-0.0 = search rules in
    let found = c.copy_tile.ensures.damaged key (one-refusal c.copy_tile.result out c.in_err-copy_tile.field-0.0 (TileDamaged key) c.in_err-copy_tile.was is told) in (
      subst (λ (k : VoxelKey). HasLine current k) found.0 (line-there current line among),
      damaged-start c.output_names_law.ensures.outside current line.key key found.0 (g.T.Store.files c.args.store.now) (g.T.Store.files c.loop-line.store) c.loop-line.invariant.moves.reads found.1,
    )

pub returns-in_err-copy_tile-clause-sound : goal.returns-in_err-copy_tile-clause-sound
returns-in_err-copy_tile-clause-sound g c = λ shelf start read sound has key told.
    let current : Current = c.args.saved.now.current in
    let line : NodeLine = c.line-item.result in
    let out = c.from_residual-in_err-copy_tile.result in
    let is : out ≡ Err c.in_err-copy_tile.field-0.0 = search rules in
    let found = c.copy_tile.ensures.damaged key (one-refusal c.copy_tile.result out c.in_err-copy_tile.field-0.0 (TileDamaged key) c.in_err-copy_tile.was is told) in
    let damaged = damaged-start c.output_names_law.ensures.outside current line.key line.key refl (g.T.Store.files c.args.store.now) (g.T.Store.files c.loop-line.store) c.loop-line.invariant.moves.reads found.1 in
    c.copy_tile.ensures.intact shelf start sound has (told_some (IsDamaged current line.key) (g.T.Store.files c.args.store.now) start read damaged)

pub returns-clause-counts : goal.returns-clause-counts
returns-clause-counts g c =
    let lines : List NodeLine = c.lines_in-lines.result.now in
    let end : length lines ≤ c.loop-line.line-index = omega (arith, c.loop-line-test.false) in
    c.loop-line.invariant.counts ∙ ap (λ (w : List NodeLine). map counted_by w) (take_all c.loop-line.line-index lines end ∙ c.lines_in-lines.ensures)

pub returns-clause-ascend : goal.returns-clause-ascend
returns-clause-ascend g c =
    let lines : List NodeLine = c.lines_in-lines.result.now in
    let end : length lines ≤ c.loop-line.line-index = omega (arith, c.loop-line-test.false) in
    subst KeysAscend (sym (c.loop-line.invariant.counts ∙ ap (λ (w : List NodeLine). map counted_by w) (take_all c.loop-line.line-index lines end ∙ c.lines_in-lines.ensures)))
    (keys-ascend c.args.saved.now.current)

pub returns-clause-ok : goal.returns-clause-ok
returns-clause-ok g c = λ start tiles told names.
    let lines : List NodeLine = c.lines_in-lines.result.now in
    let many : length tiles ≡ length lines = as-many start tiles (lines_of c.args.saved.now.current) names ∙ ap (λ (w : List NodeLine). length w) (sym c.lines_in-lines.ensures) in
    let end : length tiles ≤ c.loop-line.line-index = omega (arith, c.loop-line-test.false, many) in
    subst (λ (w : List Tile). StepsBy (PutsAll (map tile_file w)) (g.T.Store.files c.args.store.now) (g.T.Store.files c.loop-line.store)) (take_all c.loop-line.line-index tiles end) (c.loop-line.invariant.put start tiles told names)
