use Rattle.std.proofs.Common.{◌≡◌, ◌<◌, length, Some}
use Rattle.ept_base.specs.Causes.{Rose}
use Rattle.ept_base.specs.Files.{Files, SameFiles, StepsBy, Tells}
use Rattle.ept_base.specs.Moves.{Moves}
use Rattle.ept_query.specs.declared.query_error.QueryFile.{QueryFile}
use Rattle.ept_conn.specs.Works.{HasPlanOf, IsDamaged}
use Rattle.ept_conn.specs.declared.end.Fault.TheVariants as fault
use Rattle.ept_conn.specs.Answers.{Served}
use Rattle.ept_conn.specs.Served.{IsSentOf}
use Rattle.ept_conn.specs.Conversation.{Converses, rank}
use Rattle.ept_conn.specs.Got.{GetsSince}
use Rattle.ept_conn.proofs.Conversing.{CauseSince}
use Rattle.ept_conn.proofs.serve.serve_link.Given as given

-- what the session and the link did since the start
abbrev pub invariant-loop-end : given.invariant-loop-end
invariant-loop-end g l =
    let stores = g.T.Store.faults in
    record {
      converses : (files : Files) → g.T.Store.files l.fn.store ≡ Some files → (served : Served) → IsSentOf files served → StepsBy (λ start now. Converses served (Rose (stores l.fn.store) (stores l.store)) start l.session now) (g.L.Link.wire l.fn.link) (g.L.Link.wire l.link);
      gets : (files : Files) → g.T.Store.files l.fn.store ≡ Some files → StepsBy (λ start now. GetsSince files (g.T.Store.gets l.fn.store) start l.session (g.T.Store.gets l.store) now) (g.L.Link.wire l.fn.link) (g.L.Link.wire l.link);
      links : CauseSince fault.Link l.session (g.L.Link.faults l.fn.link) (g.L.Link.faults l.link);
      stores : CauseSince fault.Store l.session (stores l.fn.store) (stores l.store);
      plans : (files : Files) → g.T.Store.files l.fn.store ≡ Some files → HasPlanOf files l.session.hand;
      damaged : (found : QueryFile) → l.session.fault ≡ Some (fault.Damaged found) → Tells (IsDamaged found) (g.T.Store.files l.fn.store);
      moved : Moves g.T.Store.files g.T.Store.may_leave g.T.Store.moment g.T.Store.image_since SameFiles l.fn.store l.store;
      room : 0 < length l.piece;
    }

abbrev pub decreases-loop-end : given.decreases-loop-end
decreases-loop-end g l = rank l.session
