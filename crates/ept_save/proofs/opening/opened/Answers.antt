use Rattle.std.proofs.Common.{ap, sym, subst}
use Rattle.ept_base.specs.Files.{SameFiles}
use Rattle.ept_ckpt.specs.declared.letter.Letter.TheVariants.{A, B}
use Rattle.ept_save.specs.Current.{HasCurrent}
use Rattle.ept_save.specs.Opening.{IsFound}
use Rattle.ept_save.specs.View.{View}
use Rattle.ept_save.proofs.Standing.{same_twice, opened-stands, stepped, told_some}
use Rattle.ept_save.proofs.Newer.{not-bad, found-back}
use Rattle.ept_save.proofs.opening.opened.Goals as goal

pub returns-in_err-b-clause-any_moment : goal.returns-in_err-b-clause-any_moment
returns-in_err-b-clause-any_moment g c =
    same_twice g.T.Store.files g.T.Store.may_leave g.T.Store.moment g.T.Store.image_since c.args.store.now c.checkpoint_of.new.store c.checkpoint_of-2.new.store c.checkpoint_of.ensures.any_moment c.checkpoint_of-2.ensures.any_moment

pub returns-clause-refusal_comes : goal.returns-clause-refusal_comes
returns-clause-refusal_comes g c = λ which all told bad.
    let mid = stepped SameFiles (g.T.Store.files c.args.store.now) (g.T.Store.files c.checkpoint_of.new.store) all told c.checkpoint_of.ensures.reads in
    let has : HasCurrent c.in_ok-current.current all = c.in_ok-current.ensures.current all
    (told_some (λ f. IsFound f A c.in_ok-a.a) (g.T.Store.files c.args.store.now) all told c.in_ok-a.ensures.found)
    (found-back all mid.0 B c.in_ok-b.b mid.2 (told_some (λ f. IsFound f B c.in_ok-b.b) (g.T.Store.files c.checkpoint_of.new.store) mid.0 mid.1 c.in_ok-b.ensures.found)) in
    absurd (not-bad c.in_ok-current.current all which has bad)

pub returns-clause-stands : goal.returns-clause-stands
returns-clause-stands g c = λ all told settled.
    let mid = stepped SameFiles (g.T.Store.files c.args.store.now) (g.T.Store.files c.checkpoint_of.new.store) all told c.checkpoint_of.ensures.reads in
    let has : HasCurrent c.in_ok-current.current all = c.in_ok-current.ensures.current all
    (told_some (λ f. IsFound f A c.in_ok-a.a) (g.T.Store.files c.args.store.now) all told c.in_ok-a.ensures.found)
    (found-back all mid.0 B c.in_ok-b.b mid.2 (told_some (λ f. IsFound f B c.in_ok-b.b) (g.T.Store.files c.checkpoint_of.new.store) mid.0 mid.1 c.in_ok-b.ensures.found)) in
    opened-stands g.T.Store.files g.T.Store.may_leave g.T.Store.moment g.T.Store.image_since c.in_ok-of.field-0 c.args.store.now c.checkpoint_of-2.new.store all told
    (subst (λ (v : View). HasCurrent v.current all) (sym c.in_ok-of.ensures) has) (ap (λ (v : View). v.begun) c.in_ok-of.ensures) settled
    (same_twice g.T.Store.files g.T.Store.may_leave g.T.Store.moment g.T.Store.image_since c.args.store.now c.checkpoint_of.new.store c.checkpoint_of-2.new.store c.checkpoint_of.ensures.any_moment c.checkpoint_of-2.ensures.any_moment)
