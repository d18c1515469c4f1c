use Rattle.std.proofs.Common.{refl, ◌≡◌, ◌+◌, ◌*◌, ◌∙◌, sym, subst, ap, arith, Result, Err, ℕ, OnErr, length}
use Rattle.std.proofs.lemmas.Result.{err_from_is_err_and}
use Rattle.ept_las.specs.declared.header.Header.{Header}
use Rattle.ept_scan.specs.declared.read_error.ReadError.{ReadError}
use Rattle.ept_scan.specs.Changes.{IsChange}
use Rattle.ept_scan.specs.Reach.{ReadsNoFurther, TakesOfFile}
use Rattle.ept_scan.proofs.Drawing.{header_changed, far_start}
use Rattle.ept_base.specs.Files.{Tells}
use Rattle.ept_scan.proofs.Taking.{taken_head, taken_records, given_start}
use Rattle.ept_scan.proofs.draw.start.Goals as goal

same_place : (a b c x y z : ℕ) → a ≡ x → b ≡ y → c ≡ z → a + b * c ≡ x + y * z
same_place a b c x y z p q r = rw (p, q, r) refl

pub returns-in-Err-clause-changed : goal.returns-in-Err-clause-changed
returns-in-Err-clause-changed g c =
    subst (IsChange c.args.reading.now c.args.points c.args.number (g.S.Source.whole c.args.source.now)) (sym c.change_of.ensures)
    (header_changed c.args.reading.now c.args.points c.args.number (g.S.Source.whole c.args.source.now) (g.S.Source.left c.args.source.now) c.in-Err.refused c.requires.front (omega arith) (λ same. c.begin.ensures.enough (c.in-Err.is ∙ ap (λ (e : _). Err e) same)) c.in-Err.ensures.refused)

pub returns-in_err-skip-clause-far : goal.returns-in_err-skip-clause-far
returns-in_err-skip-clause-far g c =
    let p = err_from_is_err_and c.from_residual.result c.from_residual.ensures.1 in
    subst (λ (r : Result Header ReadError). OnErr r (ReadsNoFurther c.args.reading.now (g.S.Source.whole c.args.source.now) (g.S.Source.left c.skip.new.source))) (sym p.1)
    (far_start c.args.reading.now c.in-Ok.header c.args.number _ (g.S.Source.whole c.args.source.now) (g.S.Source.left c.args.source.now) (g.S.Source.left c.begin.new.source) (g.S.Source.left c.skip.new.source) c.begin.new.window (omega arith) (same_place c.from-2.result c.from.result c.args.number c.in-Ok.header.offset c.in-Ok.header.length c.args.number c.from-2.ensures c.from.ensures refl) c.requires.front c.in-Ok.ensures.header c.in-Ok.ensures.ahead c.in-Ok.ensures.reach c.in_err-skip.ensures.left)

pub returns-in-Err-clause-given : goal.returns-in-Err-clause-given
returns-in-Err-clause-given g c = taken_head c.args.reading.now (g.S.Source.whole c.args.source.now) 0 (g.S.Source.given c.begin.new.source) (omega (arith, c.begin.ensures.given, c.requires.unread))

pub returns-in_err-skip-clause-given : goal.returns-in_err-skip-clause-given
returns-in_err-skip-clause-given g c =
    let p = err_from_is_err_and c.from_residual.result c.from_residual.ensures.1 in
    let place = same_place c.from-2.result c.from.result c.args.number c.in-Ok.header.offset c.in-Ok.header.length c.args.number c.from-2.ensures c.from.ensures refl in
    subst (λ (r : Result Header ReadError). OnErr r (Tells (λ file. TakesOfFile c.args.reading.now file 0 (g.S.Source.given c.skip.new.source)) (g.S.Source.whole c.args.source.now))) (sym p.1)
    (taken_records c.args.reading.now c.in-Ok.header (omega arith) (g.S.Source.whole c.args.source.now) (g.S.Source.left c.args.source.now) 0 (g.S.Source.given c.skip.new.source) c.requires.front c.in-Ok.ensures.header
    (given_start c.in-Ok.header c.args.number _ (g.S.Source.given c.args.source.now) (length c.begin.new.window) (g.S.Source.given c.begin.new.source) (g.S.Source.given c.skip.new.source) (omega arith) place c.requires.unread c.in-Ok.ensures.gained c.in-Ok.ensures.reach c.skip.ensures.given))

pub returns-then-header-points-clause-given : goal.returns-then-header-points-clause-given
returns-then-header-points-clause-given g c = taken_head c.args.reading.now (g.S.Source.whole c.args.source.now) 0 (g.S.Source.given c.begin.new.source) (omega (arith, c.begin.ensures.given, c.requires.unread))
