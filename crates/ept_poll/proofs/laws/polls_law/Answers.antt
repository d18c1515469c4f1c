use Rattle.ept_poll.proofs.Running.{new-stands}
use Rattle.ept_poll.proofs.Answering.{stands-front, stands-reads, stands-end}
use Rattle.ept_poll.proofs.Getting.{polls-get}
use Rattle.ept_poll.proofs.laws.polls_law.Goals as goal

pub returns : goal.returns
returns c = record {
  stands = new-stands;
  sends = λ polls old now is polled. stands-front old.store_faults now (new-stands polls old now is polled);
  reads = λ polls old now is polled. stands-reads old.store_faults now (new-stands polls old now is polled);
  ends = λ polls old now ends is polled over. stands-end old.store_faults now ends (new-stands polls old now is polled) over;
  gets = polls-get;
}
