use Rattle.std.proofs.Common.{◌≡◌, ◌∙◌, sym, subst, arith, Result, Err, ap, refl, false, true, Bool}
use Rattle.std.specs.Prelude.{IfErr, not}
use Rattle.std.proofs.lemmas.Result.{err_from_is_err_and}
use Rattle.std.proofs.lemmas.List.{length-set}
use Rattle.ept_point.specs.declared.point.Point.{Point}
use Rattle.ept_scan.specs.declared.read_error.ReadError.{ReadError}
use Rattle.ept_scan.specs.Changes.{IfChanged}
use Rattle.ept_scan.specs.Queue.{held_of, records_left, HasChanged}
use Rattle.ept_scan.proofs.Queues.{held_same, held_is, limited_same, near_same, changed_is, rewound_same, rewound_past, given_same, drawn_next, fault_new, faults_kept, stands_old, stands_on, stands_past, current_new, never_changed, rest_on, rest_past_at, lies_is}
use Rattle.ept_scan.proofs.queue.Queue.next.Goals as goal

same_error : (r : Result Point ReadError) (a b : ReadError) → r ≡ Err a → r ≡ Err b → a ≡ b
same_error r a b is_a is_b = cc

false_from_not : (b : Bool) → not b ≡ true → b ≡ false
false_from_not true e = sym e
false_from_not false e = refl

true_from_not : (b : Bool) → not b ≡ false → b ≡ true
true_from_not true e = refl
true_from_not false e = sym e

pub returns-in_err-drawn-clause-held : goal.returns-in_err-drawn-clause-held
returns-in_err-drawn-clause-held g c = held_same g.S.Source.whole g.S.Source.left g.S.Source.given c.args.self.now.parts.items c.args.self.now.at c.index_mut.result.now c.draw_on.new.part c.requires.more c.index_mut.ensures.value c.draw_on.ensures.reading c.draw_on.ensures.points c.draw_on.ensures.same

pub returns-in_err-drawn-clause-no_change : goal.returns-in_err-drawn-clause-no_change
returns-in_err-drawn-clause-no_change g c points rest source number is =
    let p = err_from_is_err_and c.from_residual.result c.from_residual.ensures.1 in
    never_changed g.S.Source.whole g.S.Source.left g.S.Source.given c.args.self.now.parts.items c.args.self.now.at c.index_mut.result.now c.draw_on.new.part c.requires.more c.index_mut.ensures.value c.args.self.now.cursor.number points rest source number c.in_err-drawn.field-0.0 (sym p.2 ∙ same_error c.from_residual.result p.0 _ p.1 is) c.in_err-drawn.ensures.changed

pub returns-in_err-drawn-clause-changed : goal.returns-in_err-drawn-clause-changed
returns-in_err-drawn-clause-changed g c =
    let p = err_from_is_err_and c.from_residual.result c.from_residual.ensures.1 in
    let stood = stands_old g.S.Source.whole g.S.Source.left g.S.Source.given c.args.self.now.parts.items c.args.self.now.at c.index_mut.result.now c.draw_on.new.part c.requires.more c.index_mut.ensures.value c.args.self.now.cursor c.args.self.now.window c.requires.queue.stands in
    subst (λ (r : Result Point ReadError). IfErr r (IfChanged (HasChanged (held_of g.S.Source.whole c.args.self.now) (records_left c.args.self.now)))) (sym p.1) (changed_is g.S.Source.whole g.S.Source.left g.S.Source.given c.args.self.now.parts.items c.args.self.now.at c.index_mut.result.now c.draw_on.new.part c.requires.more c.index_mut.ensures.value c.args.self.now.cursor.number stood.0.more c.in_err-drawn.field-0.0 p.0 p.2 c.in_err-drawn.ensures.changed)

pub returns-in_err-drawn-clause-rewound : goal.returns-in_err-drawn-clause-rewound
returns-in_err-drawn-clause-rewound g c all = rewound_same g.S.Source.whole g.S.Source.left g.S.Source.given c.args.self.now.parts.items c.args.self.now.at c.index_mut.result.now c.draw_on.new.part c.requires.more c.index_mut.ensures.value all

pub returns-then-not-drawn-clause-rewound : goal.returns-then-not-drawn-clause-rewound
returns-then-not-drawn-clause-rewound g c all = rewound_same g.S.Source.whole g.S.Source.left g.S.Source.given c.args.self.now.parts.items c.args.self.now.at c.index_mut.result.now c.draw_on.new.part c.requires.more c.index_mut.ensures.value all

pub returns-clause-rewound : goal.returns-clause-rewound
returns-clause-rewound g c all =
    let end = c.in_ok-drawn.ensures.last (true_from_not c.in_ok-drawn.drawn.last c.if-not-drawn.false) in
    rewound_past g.S.Source.whole g.S.Source.left g.S.Source.given c.args.self.now.parts.items c.args.self.now.at c.index_mut.result.now c.draw_on.new.part c.requires.more c.index_mut.ensures.value all (end.1 ∙ sym c.draw_on.ensures.same)

pub returns-then-not-drawn-clause-drawn : goal.returns-then-not-drawn-clause-drawn
returns-then-not-drawn-clause-drawn g c =
    let stood = stands_old g.S.Source.whole g.S.Source.left g.S.Source.given c.args.self.now.parts.items c.args.self.now.at c.index_mut.result.now c.draw_on.new.part c.requires.more c.index_mut.ensures.value c.args.self.now.cursor c.args.self.now.window c.requires.queue.stands in
    drawn_next g.S.Source.whole g.S.Source.left g.S.Source.given c.args.self.now.parts.items c.args.self.now.at c.index_mut.result.now c.draw_on.new.part c.requires.more c.index_mut.ensures.value c.args.self.now.cursor.number stood.0.more c.in_ok-drawn.drawn.point c.in_ok-drawn.ensures.number c.in_ok-drawn.ensures.origin c.in_ok-drawn.ensures.record

pub returns-clause-drawn : goal.returns-clause-drawn
returns-clause-drawn g c =
    let stood = stands_old g.S.Source.whole g.S.Source.left g.S.Source.given c.args.self.now.parts.items c.args.self.now.at c.index_mut.result.now c.draw_on.new.part c.requires.more c.index_mut.ensures.value c.args.self.now.cursor c.args.self.now.window c.requires.queue.stands in
    drawn_next g.S.Source.whole g.S.Source.left g.S.Source.given c.args.self.now.parts.items c.args.self.now.at c.index_mut.result.now c.draw_on.new.part c.requires.more c.index_mut.ensures.value c.args.self.now.cursor.number stood.0.more c.in_ok-drawn.drawn.point c.in_ok-drawn.ensures.number c.in_ok-drawn.ensures.origin c.in_ok-drawn.ensures.record

pub returns-in_err-drawn-clause-fault : goal.returns-in_err-drawn-clause-fault
returns-in_err-drawn-clause-fault g c is =
    let p = err_from_is_err_and c.from_residual.result c.from_residual.ensures.1 in
    fault_new g.S.Source.whole g.S.Source.left g.S.Source.given c.args.self.now.parts.items c.args.self.now.at c.index_mut.result.now c.draw_on.new.part c.requires.more c.index_mut.ensures.value g.S.Source.faults (c.draw_on.ensures.cause.failed (c.in_err-drawn.was ∙ ap (λ (e : ReadError). Err e) (sym p.2 ∙ same_error c.from_residual.result p.0 _ p.1 is)))

pub returns-in_err-drawn-clause-faults : goal.returns-in_err-drawn-clause-faults
returns-in_err-drawn-clause-faults g c any = faults_kept g.S.Source.whole g.S.Source.left g.S.Source.given c.args.self.now.parts.items c.args.self.now.at c.index_mut.result.now c.draw_on.new.part c.requires.more c.index_mut.ensures.value g.S.Source.faults c.draw_on.ensures.cause.later any

-- not the last record of its file
pub returns-then-not-drawn-clause-queue : goal.returns-then-not-drawn-clause-queue
returns-then-not-drawn-clause-queue g c =
    let on = c.in_ok-drawn.ensures.on (false_from_not c.in_ok-drawn.drawn.last c.if-not-drawn.true) in
    let stood = stands_old g.S.Source.whole g.S.Source.left g.S.Source.given c.args.self.now.parts.items c.args.self.now.at c.index_mut.result.now c.draw_on.new.part c.requires.more c.index_mut.ensures.value c.args.self.now.cursor c.args.self.now.window c.requires.queue.stands in
    record {
      within = simp length-set c.requires.queue.within;
      stands = stands_on g.S.Source.whole g.S.Source.left g.S.Source.given c.args.self.now.parts.items c.args.self.now.at c.index_mut.result.now c.draw_on.new.part c.requires.more c.index_mut.ensures.value c.draw_on.new.cursor c.draw_on.new.window (current_new g.S.Source.whole g.S.Source.left g.S.Source.given c.args.self.now.parts.items c.args.self.now.at c.index_mut.result.now c.draw_on.new.part c.requires.more c.index_mut.ensures.value c.draw_on.ensures.reading c.draw_on.ensures.points c.draw_on.ensures.same c.draw_on.new.cursor c.draw_on.new.window on.0 on.1 c.in_ok-drawn.ensures.given_at) stood.1;
      limited = limited_same g.S.Source.whole g.S.Source.left g.S.Source.given c.args.self.now.parts.items c.args.self.now.at c.index_mut.result.now c.draw_on.new.part c.requires.more c.index_mut.ensures.value c.draw_on.ensures.reading c.draw_on.ensures.points c.draw_on.ensures.same c.requires.queue.limited;
    }

pub returns-then-not-drawn-clause-held : goal.returns-then-not-drawn-clause-held
returns-then-not-drawn-clause-held g c = held_same g.S.Source.whole g.S.Source.left g.S.Source.given c.args.self.now.parts.items c.args.self.now.at c.index_mut.result.now c.draw_on.new.part c.requires.more c.index_mut.ensures.value c.draw_on.ensures.reading c.draw_on.ensures.points c.draw_on.ensures.same

pub returns-then-not-drawn-clause-lies : goal.returns-then-not-drawn-clause-lies
returns-then-not-drawn-clause-lies g c = lies_is g.S.Source.whole g.S.Source.left g.S.Source.given c.args.self.now.parts.items c.args.self.now.at c.index_mut.result.now c.draw_on.new.part c.requires.more c.index_mut.ensures.value c.in_ok-drawn.drawn.point c.requires.queue.limited c.in_ok-drawn.ensures.origin c.in_ok-drawn.ensures.allowed

pub returns-then-not-drawn-clause-rest : goal.returns-then-not-drawn-clause-rest
returns-then-not-drawn-clause-rest g c points rest =
    let stood = stands_old g.S.Source.whole g.S.Source.left g.S.Source.given c.args.self.now.parts.items c.args.self.now.at c.index_mut.result.now c.draw_on.new.part c.requires.more c.index_mut.ensures.value c.args.self.now.cursor c.args.self.now.window c.requires.queue.stands in
    rest_on g.S.Source.whole g.S.Source.left g.S.Source.given c.args.self.now.parts.items c.args.self.now.at c.index_mut.result.now c.draw_on.new.part c.requires.more c.index_mut.ensures.value c.args.self.now.cursor.number points rest c.in_ok-drawn.drawn.point stood.0.more c.in_ok-drawn.ensures.record c.draw_on.new.cursor.number (held_is g.S.Source.whole g.S.Source.left g.S.Source.given c.args.self.now.parts.items c.args.self.now.at c.index_mut.result.now c.draw_on.new.part c.requires.more c.index_mut.ensures.value c.draw_on.ensures.reading c.draw_on.ensures.points c.draw_on.ensures.same) (sym c.in_ok-drawn.ensures.next)

pub returns-then-not-drawn-clause-near : goal.returns-then-not-drawn-clause-near
returns-then-not-drawn-clause-near g c near = near_same g.S.Source.whole g.S.Source.left g.S.Source.given c.args.self.now.parts.items c.args.self.now.at c.index_mut.result.now c.draw_on.new.part c.requires.more c.index_mut.ensures.value c.draw_on.ensures.reading c.draw_on.ensures.points c.draw_on.ensures.same c.draw_on.ensures.far near

pub returns-in_err-drawn-clause-near : goal.returns-in_err-drawn-clause-near
returns-in_err-drawn-clause-near g c near = near_same g.S.Source.whole g.S.Source.left g.S.Source.given c.args.self.now.parts.items c.args.self.now.at c.index_mut.result.now c.draw_on.new.part c.requires.more c.index_mut.ensures.value c.draw_on.ensures.reading c.draw_on.ensures.points c.draw_on.ensures.same c.draw_on.ensures.far near

pub returns-then-not-drawn-clause-faults : goal.returns-then-not-drawn-clause-faults
returns-then-not-drawn-clause-faults g c any = faults_kept g.S.Source.whole g.S.Source.left g.S.Source.given c.args.self.now.parts.items c.args.self.now.at c.index_mut.result.now c.draw_on.new.part c.requires.more c.index_mut.ensures.value g.S.Source.faults c.draw_on.ensures.cause.later any

-- the last record of its file
pub returns-clause-queue : goal.returns-clause-queue
returns-clause-queue g c =
    let stood = stands_old g.S.Source.whole g.S.Source.left g.S.Source.given c.args.self.now.parts.items c.args.self.now.at c.index_mut.result.now c.draw_on.new.part c.requires.more c.index_mut.ensures.value c.args.self.now.cursor c.args.self.now.window c.requires.queue.stands in
    record {
      within = simp length-set (omega (arith, c.requires.more));
      stands = stands_past g.S.Source.whole g.S.Source.left g.S.Source.given c.args.self.now.parts.items c.args.self.now.at c.index_mut.result.now c.draw_on.new.part c.requires.more c.index_mut.ensures.value c.before-self.result c.draw_on.new.window c.before-self.ensures.header c.before-self.ensures.number stood.1;
      limited = limited_same g.S.Source.whole g.S.Source.left g.S.Source.given c.args.self.now.parts.items c.args.self.now.at c.index_mut.result.now c.draw_on.new.part c.requires.more c.index_mut.ensures.value c.draw_on.ensures.reading c.draw_on.ensures.points c.draw_on.ensures.same c.requires.queue.limited;
    }

pub returns-clause-held : goal.returns-clause-held
returns-clause-held g c = held_same g.S.Source.whole g.S.Source.left g.S.Source.given c.args.self.now.parts.items c.args.self.now.at c.index_mut.result.now c.draw_on.new.part c.requires.more c.index_mut.ensures.value c.draw_on.ensures.reading c.draw_on.ensures.points c.draw_on.ensures.same

pub returns-clause-lies : goal.returns-clause-lies
returns-clause-lies g c = lies_is g.S.Source.whole g.S.Source.left g.S.Source.given c.args.self.now.parts.items c.args.self.now.at c.index_mut.result.now c.draw_on.new.part c.requires.more c.index_mut.ensures.value c.in_ok-drawn.drawn.point c.requires.queue.limited c.in_ok-drawn.ensures.origin c.in_ok-drawn.ensures.allowed

pub returns-clause-rest : goal.returns-clause-rest
returns-clause-rest g c points rest =
    let stood = stands_old g.S.Source.whole g.S.Source.left g.S.Source.given c.args.self.now.parts.items c.args.self.now.at c.index_mut.result.now c.draw_on.new.part c.requires.more c.index_mut.ensures.value c.args.self.now.cursor c.args.self.now.window c.requires.queue.stands in
    let end = c.in_ok-drawn.ensures.last (true_from_not c.in_ok-drawn.drawn.last c.if-not-drawn.false) in
    rest_past_at g.S.Source.whole g.S.Source.left g.S.Source.given c.args.self.now.parts.items c.args.self.now.at c.index_mut.result.now c.draw_on.new.part c.requires.more c.index_mut.ensures.value c.args.self.now.cursor.number points rest c.in_ok-drawn.drawn.point stood.0.more c.in_ok-drawn.ensures.record c.before-self.result.number c.before-self.ensures.number (sym c.in_ok-drawn.ensures.next ∙ end.0)

pub returns-clause-near : goal.returns-clause-near
returns-clause-near g c near = near_same g.S.Source.whole g.S.Source.left g.S.Source.given c.args.self.now.parts.items c.args.self.now.at c.index_mut.result.now c.draw_on.new.part c.requires.more c.index_mut.ensures.value c.draw_on.ensures.reading c.draw_on.ensures.points c.draw_on.ensures.same c.draw_on.ensures.far near

pub returns-clause-faults : goal.returns-clause-faults
returns-clause-faults g c any = faults_kept g.S.Source.whole g.S.Source.left g.S.Source.given c.args.self.now.parts.items c.args.self.now.at c.index_mut.result.now c.draw_on.new.part c.requires.more c.index_mut.ensures.value g.S.Source.faults c.draw_on.ensures.cause.later any

pub returns-in_err-drawn-clause-given : goal.returns-in_err-drawn-clause-given
returns-in_err-drawn-clause-given g c all = given_same g.S.Source.whole g.S.Source.left g.S.Source.given c.args.self.now.parts.items c.args.self.now.at c.index_mut.result.now c.draw_on.new.part c.requires.more c.index_mut.ensures.value c.draw_on.ensures.reading c.draw_on.ensures.points c.draw_on.ensures.same c.draw_on.ensures.given all

pub returns-then-not-drawn-clause-given : goal.returns-then-not-drawn-clause-given
returns-then-not-drawn-clause-given g c all = given_same g.S.Source.whole g.S.Source.left g.S.Source.given c.args.self.now.parts.items c.args.self.now.at c.index_mut.result.now c.draw_on.new.part c.requires.more c.index_mut.ensures.value c.draw_on.ensures.reading c.draw_on.ensures.points c.draw_on.ensures.same c.draw_on.ensures.given all

pub returns-clause-given : goal.returns-clause-given
returns-clause-given g c all = given_same g.S.Source.whole g.S.Source.left g.S.Source.given c.args.self.now.parts.items c.args.self.now.at c.index_mut.result.now c.draw_on.new.part c.requires.more c.index_mut.ensures.value c.draw_on.ensures.reading c.draw_on.ensures.points c.draw_on.ensures.same c.draw_on.ensures.given all
