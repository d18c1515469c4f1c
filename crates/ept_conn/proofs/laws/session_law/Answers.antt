use Rattle.std.proofs.Common.{◌≡◌, true, [], None, inl, refl}
use Rattle.ept_base.specs.Causes.{Rose}
use Rattle.ept_conn.proofs.Answered.{queries-answered, selections-answered}
use Rattle.ept_conn.proofs.Complete.{complete-served}
use Rattle.ept_conn.proofs.Deciding.{decided-sent}
use Rattle.ept_conn.proofs.Plans.{served-sent}
use Rattle.ept_conn.proofs.Histories.{sends-answers, ends-has, reads-has, owes-has}
use Rattle.ept_conn.proofs.Unanswered.{works-unanswered}
use Rattle.ept_conn.proofs.laws.session_law.Goals as goal

pub returns : goal.returns
returns c = record {
  sends = λ files served before now is. sends-answers files served (Rose before now) is;
  ends = λ served before now bytes sent last has ends is. ends-has served (Rose before now) (last.closed ≡ true) bytes sent last ends (λ closed. closed) has is;
  reads = λ served before now. reads-has served (Rose before now);
  works = λ served before now. works-unanswered served (Rose before now);
  owes = λ served before now. owes-has served (Rose before now);
  sent = served-sent;
  decided = decided-sent c.complete_law.ensures.once;
  shut = λ files not. (
    record { files = files; file = λ name. None; plan = λ area first second. None; part = λ area node. [] },
    inl (record { folder = refl; done = not; file = λ name. refl; plan = λ area first second. refl }),
  );
  queries = λ kept points files served whole. queries-answered c.complete_law.ensures.answered kept points files served whole;
  selections = λ kept points files served whole. selections-answered c.complete_law.ensures.answered c.sift_law.ensures.sifts kept points files served whole;
  complete = complete-served c.complete_law.ensures.plan c.complete_law.ensures.tiles c.complete_law.ensures.once;
}
