use Rattle.std.proofs.Common.{◌≡◌, ◌∙◌, ℕ, ◌≤◌, List, ◌++◌, map, length, sym, ap, subst, arith, rules, Option, Some}
use Rattle.std.specs.Prelude.{Err}
use Rattle.ept_base.specs.Files.{Files, Puts, StepsBy, Tells}
use Rattle.ept_base.specs.Moves.{Moves}
use Rattle.ept_point.specs.declared.point.Point.{Point}
use Rattle.ept_point.specs.Packed.{tile}
use Rattle.ept_space.specs.VoxelKey.{VoxelKey}
use Rattle.ept_sample.specs.Members.{IsMember}
use Rattle.ept_ckpt.specs.declared.node_line.NodeLine.{NodeLine}
use Rattle.ept_save.specs.declared.error.SaveError.TheVariants.{TileDamaged}
use Rattle.ept_save.specs.Names.{work_tile_name}
use Rattle.ept_save.specs.Current.{Current, Keeps}
use Rattle.ept_save.specs.Lines.{free_letter, with_line}
use Rattle.ept_save.specs.Loading.{HasLine, IsDamaged}
use Rattle.ept_save.specs.Migrating.{turned, ArePutAgain}
use Rattle.ept_save.specs.Opening.{lines_of}
use Rattle.ept_save.specs.View.{View}
use Rattle.ept_save.proofs.DamagedTiles.{loaded-whole, one-refusal, stores-no-tile, one-tile}
use Rattle.ept_save.proofs.KeyLines.{member-at}
use Rattle.ept_save.proofs.Migration.{keep-then, keeps-nothing, same-keeps, damaged-kept, some-tile, some-store}
use Rattle.ept_save.proofs.PuttingAgain.{turned-start, turned-more, line-there, end-lines, end-again, end-undamaged}
use Rattle.ept_save.proofs.Turning.{the-old}
use Rattle.ept_save.proofs.migrating.put_again.Goals as goal

pub loop-line-init : goal.loop-line-init
loop-line-init g c = record {
  far = turned-start c.args.saved.now c.deref-line-items.result.now (g.T.Store.files c.args.store.now) (c.deref-line-items.ensures.value ∙ c.in_ok-lines.ensures);
  keeps = keeps-nothing g.T.Store.files g.T.Store.may_leave g.T.Store.moment g.T.Store.image_since c.args.saved.now.current c.args.store.now;
  stands = λ stands. stands;
  later = omega arith;
}

pub load_tile-requires : goal.load_tile-requires
load_tile-requires g c =
    let start : View = c.args.saved.now in
    let now : View = c.loop-line.saved in
    let line : NodeLine = c.line-item.result in
    let at = the-old start.current c.requires.old in
    let items : List NodeLine = c.deref-line-items.result.now in
    let same : items ≡ at.0.1.nodes = c.deref-line-items.ensures.value ∙ (c.in_ok-lines.ensures ∙ (c.requires.fresh ∙ ap lines_of at.1)) in
    let current : now.current ≡ Some at.0 = ap (λ (v : View). v.current) c.loop-line.invariant.far.view_is ∙ at.1 in
    record { line = line-there now.current at.0.0 at.0.1 current line (subst (IsMember line) same (member-at items c.loop-line.line-index line c.loop-line-test.true (sym c.line-item.is))) }

pub loop-line-preserved : goal.loop-line-preserved
loop-line-preserved g c =
    let start : View = c.args.saved.now in
    let now : View = c.loop-line.saved in
    let new : View = c.save_points.new.saved in
    let line : NodeLine = c.line-item.result in
    let i : ℕ = c.loop-line.line-index in
    let at = the-old start.current c.requires.old in
    let items : List NodeLine = c.deref-line-items.result.now in
    let same : items ≡ at.0.1.nodes = c.deref-line-items.ensures.value ∙ (c.in_ok-lines.ensures ∙ (c.requires.fresh ∙ ap lines_of at.1)) in
    let found = c.in_ok-load_tile.ensures.appended in
    let points : c.deref.result.now ≡ found.points = c.deref.ensures.value ∙ (found.appended ∙ ap (λ (w : List Point). w ++ found.points) c.clear.ensures.items) in
    let first : Option Files = g.T.Store.files c.args.store.now in
    let files : Option Files = g.T.Store.files c.loop-line.store in
    let mid : Option Files = g.T.Store.files c.load_tile.new.store in
    let after : Option Files = g.T.Store.files c.save_points.new.store in
    let noted : new ≡ record now { lines = with_line (record { key = line.key; count = length found.points; mask = line.mask; letter = free_letter now.current line.key }) now.lines } =
    subst (λ (w : List Point). new ≡ record now { lines = with_line (record { key = line.key; count = length w; mask = line.mask; letter = free_letter now.current line.key }) now.lines }) points c.in_ok-save_points.ensures.line in
    let puts : StepsBy (Puts (work_tile_name (free_letter now.current line.key) line.key) (tile found.points)) mid after =
    subst (λ (w : List Point). StepsBy (Puts (work_tile_name (free_letter now.current line.key) line.key) (tile w)) mid after) points c.in_ok-save_points.ensures.puts in
    let same_current : now.current ≡ start.current = ap (λ (v : View). v.current) c.loop-line.invariant.far.view_is in
    record {
      far = turned-more start now new at.0.0 at.0.1 at.1 at.2 items same i line c.loop-line-test.true (sym c.line-item.is) first files mid after c.loop-line.invariant.far c.loop-line.invariant.keeps.reads c.load_tile.ensures.any_moment.reads found.points found.are_found found.has_tile
          (loaded-whole c.load_tile.result c.in_ok-load_tile.field-0 c.in_ok-load_tile.was now.current line.key files c.load_tile.ensures.refusal_comes) noted puts;
      keeps = keep-then g.T.Store.files g.T.Store.may_leave g.T.Store.moment g.T.Store.image_since start.current c.args.store.now c.loop-line.store c.save_points.new.store c.loop-line.invariant.keeps
          (subst (λ (w : Current). Moves g.T.Store.files g.T.Store.may_leave g.T.Store.moment g.T.Store.image_since (Keeps w) c.loop-line.store c.save_points.new.store) same_current
          (keep-then g.T.Store.files g.T.Store.may_leave g.T.Store.moment g.T.Store.image_since now.current c.loop-line.store c.load_tile.new.store c.save_points.new.store (same-keeps g.T.Store.files g.T.Store.may_leave g.T.Store.moment g.T.Store.image_since now.current c.loop-line.store c.load_tile.new.store c.load_tile.ensures.any_moment) c.save_points.ensures.keeps));
      stands = λ stands. c.save_points.ensures.stands (c.load_tile.ensures.stands now (c.loop-line.invariant.stands stands));
      later = omega (arith, c.loop-line.invariant.later, c.load_tile.ensures.cause.later, c.save_points.ensures.cause.later);
    }

-- ---- where a tile is not loaded

pub returns-in_err-load_tile-clause-current : goal.returns-in_err-load_tile-clause-current
returns-in_err-load_tile-clause-current g c = ap (λ (v : View). v.current) c.loop-line.invariant.far.view_is

pub returns-in_err-load_tile-clause-keeps : goal.returns-in_err-load_tile-clause-keeps
returns-in_err-load_tile-clause-keeps g c =
    keep-then g.T.Store.files g.T.Store.may_leave g.T.Store.moment g.T.Store.image_since c.args.saved.now.current c.args.store.now c.loop-line.store c.load_tile.new.store c.loop-line.invariant.keeps
    (same-keeps g.T.Store.files g.T.Store.may_leave g.T.Store.moment g.T.Store.image_since c.args.saved.now.current c.loop-line.store c.load_tile.new.store c.load_tile.ensures.any_moment)

pub returns-in_err-load_tile-clause-stands : goal.returns-in_err-load_tile-clause-stands
returns-in_err-load_tile-clause-stands g c = λ stands. c.load_tile.ensures.stands c.loop-line.saved (c.loop-line.invariant.stands stands)

pub returns-in_err-load_tile-clause-only : goal.returns-in_err-load_tile-clause-only
returns-in_err-load_tile-clause-only g c =
    let out = c.from_residual-in_err-load_tile.result in
    let is : out ≡ Err c.in_err-load_tile.field-0.0 = search rules in
    some-tile c.load_tile.result out c.in_err-load_tile.field-0.0 c.in_err-load_tile.was is c.line-item.result.key c.load_tile.ensures.only

pub returns-in_err-load_tile-clause-damaged : goal.returns-in_err-load_tile-clause-damaged
returns-in_err-load_tile-clause-damaged g c = λ key told.
    let start : View = c.args.saved.now in
    let now : View = c.loop-line.saved in
    let line : NodeLine = c.line-item.result in
    let at = the-old start.current c.requires.old in
    let items : List NodeLine = c.deref-line-items.result.now in
    let same : items ≡ at.0.1.nodes = c.deref-line-items.ensures.value ∙ (c.in_ok-lines.ensures ∙ (c.requires.fresh ∙ ap lines_of at.1)) in
    let same_current : now.current ≡ start.current = ap (λ (v : View). v.current) c.loop-line.invariant.far.view_is in
    let out = c.from_residual-in_err-load_tile.result in
    let is : out ≡ Err c.in_err-load_tile.field-0.0 = search rules in
    let inner = one-refusal c.load_tile.result out c.in_err-load_tile.field-0.0 (TileDamaged key) c.in_err-load_tile.was is told in
    let its = one-tile c.load_tile.result line.key key c.load_tile.ensures.only inner in
    let there : HasLine now.current line.key = line-there now.current at.0.0 at.0.1 (same_current ∙ at.1) line (subst (IsMember line) same (member-at items c.loop-line.line-index line c.loop-line-test.true (sym c.line-item.is))) in
    let damaged : Tells (IsDamaged now.current line.key) (g.T.Store.files c.loop-line.store) = c.load_tile.ensures.refused its.0 in
    subst (λ (k : VoxelKey). HasLine start.current k × Tells (IsDamaged start.current k) (g.T.Store.files c.args.store.now)) its.1 (
      subst (λ (w : Current). HasLine w line.key) same_current there,
      damaged-kept start.current line.key (g.T.Store.files c.args.store.now) (g.T.Store.files c.loop-line.store) c.loop-line.invariant.keeps.reads (subst (λ (w : Current). Tells (IsDamaged w line.key) (g.T.Store.files c.loop-line.store)) same_current damaged),
    )

-- ---- where a tile is not put

pub returns-in_err-save_points-clause-current : goal.returns-in_err-save_points-clause-current
returns-in_err-save_points-clause-current g c = ap (λ (v : View). v.current) (c.in_err-save_points.ensures.unchanged ∙ c.loop-line.invariant.far.view_is)

pub returns-in_err-save_points-clause-keeps : goal.returns-in_err-save_points-clause-keeps
returns-in_err-save_points-clause-keeps g c =
    let same_current : c.loop-line.saved.current ≡ c.args.saved.now.current = ap (λ (v : View). v.current) c.loop-line.invariant.far.view_is in
    keep-then g.T.Store.files g.T.Store.may_leave g.T.Store.moment g.T.Store.image_since c.args.saved.now.current c.args.store.now c.load_tile.new.store c.save_points.new.store
    (keep-then g.T.Store.files g.T.Store.may_leave g.T.Store.moment g.T.Store.image_since c.args.saved.now.current c.args.store.now c.loop-line.store c.load_tile.new.store c.loop-line.invariant.keeps
    (same-keeps g.T.Store.files g.T.Store.may_leave g.T.Store.moment g.T.Store.image_since c.args.saved.now.current c.loop-line.store c.load_tile.new.store c.load_tile.ensures.any_moment))
    (subst (λ (w : Current). Moves g.T.Store.files g.T.Store.may_leave g.T.Store.moment g.T.Store.image_since (Keeps w) c.load_tile.new.store c.save_points.new.store) same_current c.save_points.ensures.keeps)

pub returns-in_err-save_points-clause-stands : goal.returns-in_err-save_points-clause-stands
returns-in_err-save_points-clause-stands g c = λ stands. c.save_points.ensures.stands (c.load_tile.ensures.stands c.loop-line.saved (c.loop-line.invariant.stands stands))

pub returns-in_err-save_points-clause-only : goal.returns-in_err-save_points-clause-only
returns-in_err-save_points-clause-only g c =
    let out = c.from_residual-in_err-save_points.result in
    let is : out ≡ Err c.in_err-save_points.field-0.0 = search rules in
    some-store c.save_points.result out c.in_err-save_points.field-0.0 c.in_err-save_points.was is c.save_points.ensures.only

pub returns-in_err-save_points-clause-damaged : goal.returns-in_err-save_points-clause-damaged
returns-in_err-save_points-clause-damaged g c = λ key told.
    let out = c.from_residual-in_err-save_points.result in
    let is : out ≡ Err c.in_err-save_points.field-0.0 = search rules in
    absurd (stores-no-tile c.save_points.result key c.save_points.ensures.only (one-refusal c.save_points.result out c.in_err-save_points.field-0.0 (TileDamaged key) c.in_err-save_points.was is told))

-- ---- where all are

pub returns-clause-lines : goal.returns-clause-lines
returns-clause-lines g c =
    let start : View = c.args.saved.now in
    let at = the-old start.current c.requires.old in
    let items : List NodeLine = c.deref-line-items.result.now in
    let same : items ≡ at.0.1.nodes = c.deref-line-items.ensures.value ∙ (c.in_ok-lines.ensures ∙ (c.requires.fresh ∙ ap lines_of at.1)) in
    let end : length items ≤ c.loop-line.line-index = omega (arith, c.loop-line-test.false) in
    end-lines start c.loop-line.saved at.0.0 at.0.1 at.1 items same c.loop-line.line-index end (g.T.Store.files c.args.store.now) (g.T.Store.files c.loop-line.store) c.loop-line.invariant.far
    ∙ ap (λ (w : Current). record start { lines = map turned (lines_of w) }) (sym at.1)

pub returns-clause-current : goal.returns-clause-current
returns-clause-current g c = ap (λ (v : View). v.current) c.loop-line.invariant.far.view_is

pub returns-clause-again : goal.returns-clause-again
returns-clause-again g c = λ all told.
    let start : View = c.args.saved.now in
    let at = the-old start.current c.requires.old in
    let items : List NodeLine = c.deref-line-items.result.now in
    let same : items ≡ at.0.1.nodes = c.deref-line-items.ensures.value ∙ (c.in_ok-lines.ensures ∙ (c.requires.fresh ∙ ap lines_of at.1)) in
    let end : length items ≤ c.loop-line.line-index = omega (arith, c.loop-line-test.false) in
    subst (λ (w : Current). Tells (λ now. ArePutAgain all now (lines_of w)) (g.T.Store.files c.loop-line.store)) (sym at.1)
    (end-again start c.loop-line.saved at.0.0 at.0.1 at.1 items same c.loop-line.line-index end (g.T.Store.files c.args.store.now) (g.T.Store.files c.loop-line.store) c.loop-line.invariant.far all told)

pub returns-clause-intact : goal.returns-clause-intact
returns-clause-intact g c =
    let start : View = c.args.saved.now in
    let at = the-old start.current c.requires.old in
    let items : List NodeLine = c.deref-line-items.result.now in
    let same : items ≡ at.0.1.nodes = c.deref-line-items.ensures.value ∙ (c.in_ok-lines.ensures ∙ (c.requires.fresh ∙ ap lines_of at.1)) in
    let end : length items ≤ c.loop-line.line-index = omega (arith, c.loop-line-test.false) in
    end-undamaged start c.loop-line.saved at.0.0 at.0.1 at.1 items same c.loop-line.line-index end (g.T.Store.files c.args.store.now) (g.T.Store.files c.loop-line.store) c.loop-line.invariant.far c.loop-line.invariant.keeps.reads
