use Rattle.std.proofs.Common.{◌≡◌, ◌∙◌, inr, map, sym, ap, subst, rules}
use Rattle.std.specs.Prelude.{Some, Err}
use Rattle.std.proofs.lemmas.Result.{on_ok_weaker, on_err_weaker, IfErr-weaker}
use Rattle.ept_base.specs.Files.{SameBut, Tells}
use Rattle.ept_base.specs.Moves.{Moves}
use Rattle.ept_point.specs.declared.layout.Layout.TheVariants.{Old}
use Rattle.ept_save.specs.declared.error.SaveError.TheVariants.{TileDamaged}
use Rattle.ept_save.specs.Names.{gate_name}
use Rattle.ept_save.specs.Current.{Current, Keeps, tile_of_line}
use Rattle.ept_save.specs.Loading.{HasLine, IsDamaged, HasNoDamage}
use Rattle.ept_save.specs.Migrating.{turned, ArePutAgain}
use Rattle.ept_save.specs.Opening.{lines_of}
use Rattle.ept_save.specs.Tiles.{IsOfLayout}
use Rattle.ept_save.specs.View.{View, next_letter}
use Rattle.ept_save.proofs.DamagedTiles.{one-refusal, stores-no-tile}
use Rattle.ept_save.proofs.LoadedLines.{handed-on}
use Rattle.ept_save.proofs.Migration.{keep-then, kept-moves, commit-moves, earlier-put, damaged-at-start, intact-at-start, on-err, some-store, same-report, ok-known, stores-only}
use Rattle.ept_save.proofs.NamesDiffer.{gate-tile}
use Rattle.ept_save.proofs.Standing.{stepped, told_some}
use Rattle.ept_save.proofs.migrating.migrate.Goals as goal

-- ---- the calls

pub put_again-requires : goal.put_again-requires
put_again-requires g c =
    let begun = c.in_ok-begin.ensures.begun in
    record {
      old = subst (λ (w : Current). IsOfLayout Old w) (sym (ap (λ (v : View). v.current) begun)) c.requires.old;
      fresh = ap (λ (v : View). v.lines) begun ∙ (c.requires.fresh ∙ sym (ap (λ (v : View). lines_of v.current) begun));
    }

pub commit_again-requires : goal.commit_again-requires
commit_again-requires g c =
    let begun = c.in_ok-begin.ensures.begun in
    let lines = c.in_ok-put_again.ensures.lines in
    record {
      begun = ap (λ (v : View). v.begun) lines ∙ ap (λ (v : View). v.begun) begun;
      old = subst (λ (w : Current). IsOfLayout Old w) (sym (ap (λ (v : View). v.current) lines ∙ ap (λ (v : View). v.current) begun)) c.requires.old;
      turned = ap (λ (v : View). v.lines) lines ∙ ap (λ (w : Current). map turned (lines_of w)) (sym (ap (λ (v : View). v.current) lines));
    }

-- ---- where it is not begun

pub returns-in_err-begin-clause-refused : goal.returns-in_err-begin-clause-refused
returns-in_err-begin-clause-refused g c =
    let out = c.from_residual.result in
    let is : out ≡ Err c.in_err-begin.field-0.0 = search rules in
    on-err (c.begin.new.saved.current ≡ c.args.saved.now.current) out c.in_err-begin.field-0.0 is (ap (λ (v : View). v.current) c.in_err-begin.ensures.unchanged)

pub returns-in_err-begin-clause-migrates : goal.returns-in_err-begin-clause-migrates
returns-in_err-begin-clause-migrates g c = λ letter d next is turn stands.
    kept-moves letter d next turn g.T.Store.files g.T.Store.may_leave g.T.Store.moment g.T.Store.image_since stands.all c.args.store.now c.begin.new.store
    (subst (λ (w : Current). Moves g.T.Store.files g.T.Store.may_leave g.T.Store.moment g.T.Store.image_since (Keeps w) c.args.store.now c.begin.new.store) is (c.begin.ensures.keeps stands))

pub returns-in_err-begin-clause-only : goal.returns-in_err-begin-clause-only
returns-in_err-begin-clause-only g c =
    let out = c.from_residual.result in
    let is : out ≡ Err c.in_err-begin.field-0.0 = search rules in
    some-store c.begin.result out c.in_err-begin.field-0.0 c.in_err-begin.was is c.begin.ensures.only

pub returns-in_err-begin-clause-damaged : goal.returns-in_err-begin-clause-damaged
returns-in_err-begin-clause-damaged g c = λ key told.
    let out = c.from_residual.result in
    let is : out ≡ Err c.in_err-begin.field-0.0 = search rules in
    absurd (stores-no-tile c.begin.result key c.begin.ensures.only (one-refusal c.begin.result out c.in_err-begin.field-0.0 (TileDamaged key) c.in_err-begin.was is told))

pub returns-in_err-begin-clause-undamaged : goal.returns-in_err-begin-clause-undamaged
returns-in_err-begin-clause-undamaged g c = λ all told none.
    let out = c.from_residual.result in
    let is : out ≡ Err c.in_err-begin.field-0.0 = search rules in
    handed-on c.begin.result out c.in_err-begin.field-0.0 c.in_err-begin.was is c.begin.ensures.only

-- ---- where not all tiles are put again

pub returns-in_err-put_again-clause-refused : goal.returns-in_err-put_again-clause-refused
returns-in_err-put_again-clause-refused g c =
    let out = c.from_residual-in_err-put_again.result in
    let is : out ≡ Err c.in_err-put_again.field-0.0 = search rules in
    on-err (c.put_again.new.saved.current ≡ c.args.saved.now.current) out c.in_err-put_again.field-0.0 is (c.put_again.ensures.current ∙ ap (λ (v : View). v.current) c.in_ok-begin.ensures.begun)

pub returns-in_err-put_again-clause-migrates : goal.returns-in_err-put_again-clause-migrates
returns-in_err-put_again-clause-migrates g c = λ letter d next is turn stands.
    let same : c.begin.new.saved.current ≡ c.args.saved.now.current = ap (λ (v : View). v.current) c.in_ok-begin.ensures.begun in
    kept-moves letter d next turn g.T.Store.files g.T.Store.may_leave g.T.Store.moment g.T.Store.image_since stands.all c.args.store.now c.put_again.new.store
    (keep-then g.T.Store.files g.T.Store.may_leave g.T.Store.moment g.T.Store.image_since (Some (letter, d)) c.args.store.now c.begin.new.store c.put_again.new.store
    (subst (λ (w : Current). Moves g.T.Store.files g.T.Store.may_leave g.T.Store.moment g.T.Store.image_since (Keeps w) c.args.store.now c.begin.new.store) is (c.begin.ensures.keeps stands))
    (subst (λ (w : Current). Moves g.T.Store.files g.T.Store.may_leave g.T.Store.moment g.T.Store.image_since (Keeps w) c.begin.new.store c.put_again.new.store) (same ∙ is) c.put_again.ensures.keeps))

pub returns-in_err-put_again-clause-only : goal.returns-in_err-put_again-clause-only
returns-in_err-put_again-clause-only g c =
    let out = c.from_residual-in_err-put_again.result in
    let is : out ≡ Err c.in_err-put_again.field-0.0 = search rules in
    same-report c.put_again.result out c.in_err-put_again.field-0.0 c.in_err-put_again.was is c.put_again.ensures.only

pub returns-in_err-put_again-clause-damaged : goal.returns-in_err-put_again-clause-damaged
returns-in_err-put_again-clause-damaged g c = λ key told.
    let same : c.begin.new.saved.current ≡ c.args.saved.now.current = ap (λ (v : View). v.current) c.in_ok-begin.ensures.begun in
    let out = c.from_residual-in_err-put_again.result in
    let is : out ≡ Err c.in_err-put_again.field-0.0 = search rules in
    let inner = one-refusal c.put_again.result out c.in_err-put_again.field-0.0 (TileDamaged key) c.in_err-put_again.was is told in
    let its = c.put_again.ensures.damaged key inner in (
      subst (λ (w : Current). HasLine w key) same its.0,
      damaged-at-start c.args.saved.now.current key (next_letter c.args.saved.now.current) (g.T.Store.files c.args.store.now) (g.T.Store.files c.begin.new.store) c.begin.ensures.gate.reads
          (subst (λ (w : Current). Tells (IsDamaged w key) (g.T.Store.files c.begin.new.store)) same its.1),
    )

pub returns-in_err-put_again-clause-undamaged : goal.returns-in_err-put_again-clause-undamaged
returns-in_err-put_again-clause-undamaged g c = λ all told none.
    stores-only c.from_residual-in_err-put_again.result c.args.saved.now.current (g.T.Store.files c.args.store.now) all told
    (returns-in_err-put_again-clause-only g c) (returns-in_err-put_again-clause-damaged g c) none

-- ---- where they are

pub returns-clause-migrated : goal.returns-clause-migrated
returns-clause-migrated g c =
    let same : c.put_again.new.saved.current ≡ c.args.saved.now.current = ap (λ (v : View). v.current) c.in_ok-put_again.ensures.lines ∙ ap (λ (v : View). v.current) c.in_ok-begin.ensures.begun in
    on_ok_weaker c.commit_again.result (λ its. record { letter = its.letter; c = its.c; was = sym same ∙ its.was; next = its.next; turns = its.turns; view_is = its.view_is }) c.commit_again.ensures.migrated

pub returns-clause-refused : goal.returns-clause-refused
returns-clause-refused g c =
    let same : c.put_again.new.saved.current ≡ c.args.saved.now.current = ap (λ (v : View). v.current) c.in_ok-put_again.ensures.lines ∙ ap (λ (v : View). v.current) c.in_ok-begin.ensures.begun in
    on_err_weaker c.commit_again.result (λ its. ap (λ (v : View). v.current) its ∙ same) c.commit_again.ensures.unchanged

pub returns-clause-migrates : goal.returns-clause-migrates
returns-clause-migrates g c = λ letter d next is turn stands.
    let begun : c.begin.new.saved.current ≡ c.args.saved.now.current = ap (λ (v : View). v.current) c.in_ok-begin.ensures.begun in
    let same : c.put_again.new.saved.current ≡ c.begin.new.saved.current = ap (λ (v : View). v.current) c.in_ok-put_again.ensures.lines in
    let gate = next_letter c.args.saved.now.current in
    let one = stepped (SameBut (gate_name gate)) (g.T.Store.files c.args.store.now) (g.T.Store.files c.begin.new.store) stands.all stands.told c.begin.ensures.gate.reads in
    let mid = c.put_again.ensures.stands (c.in_ok-begin.ensures.stands stands) in
    let again : ArePutAgain one.0 mid.all (lines_of c.begin.new.saved.current) =
    told_some (λ now. ArePutAgain one.0 now (lines_of c.begin.new.saved.current)) (g.T.Store.files c.put_again.new.store) mid.all mid.told (c.in_ok-put_again.ensures.again one.0 one.1) in
    let put : ArePutAgain stands.all mid.all d.nodes =
    earlier-put stands.all one.0 mid.all d.nodes (λ l. sym (one.2 (tile_of_line l) (λ e. gate-tile gate l.letter l.key (sym e))))
    (subst (λ (w : Current). ArePutAgain one.0 mid.all (lines_of w)) (begun ∙ is) again) in
    commit-moves letter d next turn g.T.Store.files g.T.Store.may_leave g.T.Store.moment g.T.Store.image_since stands.all mid.all c.args.store.now c.put_again.new.store c.commit_again.new.store put
    (keep-then g.T.Store.files g.T.Store.may_leave g.T.Store.moment g.T.Store.image_since (Some (letter, d)) c.args.store.now c.begin.new.store c.put_again.new.store
    (subst (λ (w : Current). Moves g.T.Store.files g.T.Store.may_leave g.T.Store.moment g.T.Store.image_since (Keeps w) c.args.store.now c.begin.new.store) is (c.begin.ensures.keeps stands))
    (subst (λ (w : Current). Moves g.T.Store.files g.T.Store.may_leave g.T.Store.moment g.T.Store.image_since (Keeps w) c.begin.new.store c.put_again.new.store) (begun ∙ is) c.put_again.ensures.keeps))
    (c.commit_again.ensures.commits letter d next (same ∙ (begun ∙ is)) turn mid)

pub returns-clause-stands : goal.returns-clause-stands
returns-clause-stands g c =
    on_ok_weaker c.commit_again.result (λ then stands. then (c.put_again.ensures.stands (c.in_ok-begin.ensures.stands stands))) c.commit_again.ensures.stands

pub returns-clause-only : goal.returns-clause-only
returns-clause-only g c = IfErr-weaker c.commit_again.result _ _ (λ e stores. inr stores) c.commit_again.ensures.only

pub returns-clause-damaged : goal.returns-clause-damaged
returns-clause-damaged g c = λ key told. absurd (stores-no-tile c.commit_again.result key c.commit_again.ensures.only told)

pub returns-clause-intact : goal.returns-clause-intact
returns-clause-intact g c =
    let begun : c.begin.new.saved.current ≡ c.args.saved.now.current = ap (λ (v : View). v.current) c.in_ok-begin.ensures.begun in
    ok-known c.commit_again.result
    (intact-at-start c.args.saved.now.current (next_letter c.args.saved.now.current) (g.T.Store.files c.args.store.now) (g.T.Store.files c.begin.new.store) c.begin.ensures.gate.reads
    (subst (λ (w : Current). Tells (HasNoDamage w) (g.T.Store.files c.begin.new.store)) begun c.in_ok-put_again.ensures.intact))

pub returns-clause-undamaged : goal.returns-clause-undamaged
returns-clause-undamaged g c = λ all told none. c.commit_again.ensures.only
