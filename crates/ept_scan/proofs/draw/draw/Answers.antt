use Rattle.std.proofs.Common.{refl, inr, subst, arith, length}
use Rattle.std.specs.Io.KnownBytes.{prepend_known}
use Rattle.ept_point.specs.declared.point.Point.{Point}
use Rattle.ept_scan.specs.declared.record.Found.{Found}
use Rattle.ept_scan.specs.Records.{ReadsNext, FindsAllowed, IsWithinReach}
use Rattle.ept_scan.proofs.Drawing.{far_within, drawn_is, within_next, record_changed}
use Rattle.ept_scan.proofs.Taking.{taken_records, given_up, given_next}
use Rattle.ept_scan.proofs.draw.draw.Goals as goal

pub returns-in_err-found-clause-far : goal.returns-in_err-found-clause-far
returns-in_err-found-clause-far g c =
    far_within c.args.part.now.reading c.args.part.now.points (g.S.Source.whole c.args.part.now.source) (g.S.Source.left c.header_at.new.source) (g.S.Source.left c.next_point.new.source) c.header_at.new.window c.args.cursor.now.number c.in_ok-header.header c.in_ok-header.ensures.at (omega (arith, c.in_ok-header.ensures.at.stated)) c.in_err-found.ensures.left

pub returns-clause-far : goal.returns-clause-far
returns-clause-far g c =
    far_within c.args.part.now.reading c.args.part.now.points (g.S.Source.whole c.args.part.now.source) (g.S.Source.left c.header_at.new.source) (g.S.Source.left c.next_point.new.source) c.header_at.new.window c.args.cursor.now.number c.in_ok-header.header c.in_ok-header.ensures.at (omega (arith, c.in_ok-header.ensures.at.stated)) c.in_ok-found.ensures.left

pub returns-clause-record : goal.returns-clause-record
returns-clause-record g c =
    let next = subst (λ (it : Found Point). ReadsNext c.args.part.now.reading c.in_ok-header.header c.args.cursor.now.number (prepend_known c.header_at.new.window (g.S.Source.left c.header_at.new.source)) (prepend_known c.next_point.new.window (g.S.Source.left c.next_point.new.source)) it) c.in-At.is c.in_ok-found.ensures.next in
    let allowed = subst (FindsAllowed c.args.part.now.reading) c.in-At.is c.in_ok-found.ensures.allowed in
    drawn_is c.args.part.now.reading c.args.part.now.points c.header_at.new.window c.next_point.new.window (g.S.Source.left c.header_at.new.source) (g.S.Source.left c.next_point.new.source) c.args.cursor.now.number c.in_ok-header.header (g.S.Source.whole c.args.part.now.source) c.in-At.point c.in_ok-header.ensures.at next allowed

pub returns-clause-at : goal.returns-clause-at
returns-clause-at g c =
    let next = subst (λ (it : Found Point). ReadsNext c.args.part.now.reading c.in_ok-header.header c.args.cursor.now.number (prepend_known c.header_at.new.window (g.S.Source.left c.header_at.new.source)) (prepend_known c.next_point.new.window (g.S.Source.left c.next_point.new.source)) it) c.in-At.is c.in_ok-found.ensures.next in
    let reach = subst (IsWithinReach _ _ _) c.in-At.is c.in_ok-found.ensures.reach in
    within_next c.args.part.now.reading c.args.part.now.points c.header_at.new.window c.next_point.new.window (g.S.Source.left c.header_at.new.source) (g.S.Source.left c.next_point.new.source) c.args.cursor.now.number c.in_ok-header.header (g.S.Source.whole c.args.part.now.source) c.in-At.point (omega (arith, c.in_ok-header.ensures.at.stated)) c.in_ok-header.ensures.at next reach

pub returns-in_default-clause-changed : goal.returns-in_default-clause-changed
returns-in_default-clause-changed g c = (
  refl,
  inr (refl, record_changed c.args.part.now.reading c.args.part.now.points c.header_at.new.window c.next_point.new.window (g.S.Source.left c.header_at.new.source) (g.S.Source.left c.next_point.new.source) c.args.cursor.now.number c.in_ok-header.header (g.S.Source.whole c.args.part.now.source) c.in_ok-found.found c.requires.more c.in_default.not-At c.in_ok-header.ensures.at c.in_ok-found.ensures.next),
)

pub returns-in_default-clause-far : goal.returns-in_default-clause-far
returns-in_default-clause-far g c =
    far_within c.args.part.now.reading c.args.part.now.points (g.S.Source.whole c.args.part.now.source) (g.S.Source.left c.header_at.new.source) (g.S.Source.left c.next_point.new.source) c.header_at.new.window c.args.cursor.now.number c.in_ok-header.header c.in_ok-header.ensures.at (omega (arith, c.in_ok-header.ensures.at.stated)) c.in_ok-found.ensures.left

pub returns-in_err-found-clause-given : goal.returns-in_err-found-clause-given
returns-in_err-found-clause-given g c =
    let at = c.in_ok-header.ensures.at in
    taken_records c.args.part.now.reading c.in_ok-header.header (omega (arith, at.stated, c.requires.more)) (g.S.Source.whole c.args.part.now.source) (g.S.Source.whole c.args.part.now.source) 0 (g.S.Source.given c.next_point.new.source) refl at.has_header
    (given_up c.in_ok-header.header c.args.cursor.now.number (g.S.Source.given c.header_at.new.source) (length c.header_at.new.window) (g.S.Source.given c.next_point.new.source) (omega (arith, at.stated, c.requires.more)) c.in_ok-header.ensures.given_at at.reach c.next_point.ensures.given)

pub returns-in_default-clause-given : goal.returns-in_default-clause-given
returns-in_default-clause-given g c =
    let at = c.in_ok-header.ensures.at in
    taken_records c.args.part.now.reading c.in_ok-header.header (omega (arith, at.stated, c.requires.more)) (g.S.Source.whole c.args.part.now.source) (g.S.Source.whole c.args.part.now.source) 0 (g.S.Source.given c.next_point.new.source) refl at.has_header
    (given_up c.in_ok-header.header c.args.cursor.now.number (g.S.Source.given c.header_at.new.source) (length c.header_at.new.window) (g.S.Source.given c.next_point.new.source) (omega (arith, at.stated, c.requires.more)) c.in_ok-header.ensures.given_at at.reach c.next_point.ensures.given)

pub returns-clause-given : goal.returns-clause-given
returns-clause-given g c =
    let at = c.in_ok-header.ensures.at in
    taken_records c.args.part.now.reading c.in_ok-header.header (omega (arith, at.stated, c.requires.more)) (g.S.Source.whole c.args.part.now.source) (g.S.Source.whole c.args.part.now.source) 0 (g.S.Source.given c.next_point.new.source) refl at.has_header
    (given_up c.in_ok-header.header c.args.cursor.now.number (g.S.Source.given c.header_at.new.source) (length c.header_at.new.window) (g.S.Source.given c.next_point.new.source) (omega (arith, at.stated, c.requires.more)) c.in_ok-header.ensures.given_at at.reach c.next_point.ensures.given)

pub returns-clause-given_at : goal.returns-clause-given_at
returns-clause-given_at g c =
    given_next c.in_ok-header.header c.args.cursor.now.number (g.S.Source.given c.header_at.new.source) (length c.header_at.new.window) (g.S.Source.given c.next_point.new.source) (length c.next_point.new.window) c.in_ok-header.ensures.given_at c.in_ok-found.ensures.gained
