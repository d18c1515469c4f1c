-- What holds after a poll: its units were done, and a last call of the link may have waited.
use Rattle.std.proofs.Common.{◌≡◌, ◌≢◌, ◌≤◌, ◌⊎◌, inl, inr, ℕ, List, length, Some}
use Rattle.futures.specs.declared.task.Poll.TheVariants.{Ready}
use Rattle.ept_base.specs.Causes.{Rose}
use Rattle.ept_base.specs.Files.{Tells}
use Rattle.ept_query.specs.declared.query_error.QueryFile.{QueryFile}
use Rattle.ept_conn.specs.declared.end.Fault.TheVariants as fault
use Rattle.ept_conn.specs.declared.end.End.{End}
use Rattle.ept_conn.specs.declared.end.End.TheVariants as end
use Rattle.ept_conn.specs.declared.end.Want.TheVariants as want
use Rattle.ept_conn.specs.State.{State, want_of}
use Rattle.ept_conn.specs.Works.{IsDamaged}
use Rattle.ept_conn.specs.SessionCalls.{SessionCall}
use Rattle.ept_conn.proofs.Conversing.{rose-earlier}
use Rattle.ept_conn.proofs.Histories.{link-end, store-end, damaged-end}
use Rattle.ept_poll.specs.Units.{Seen, IsAs, AreUnits}
use Rattle.ept_poll.specs.Steps.{IsWaitFor}
use Rattle.ept_poll.specs.Polls.{Told, ToldOfWhole, Stands, Since, IsFront, IsEndOver, IsReadAnswered, IsWell, IsReading, IsWriting, IsPollable}
use Rattle.ept_poll.proofs.Standing.{as-stands, units-stand}
use Rattle.ept_poll.proofs.Causing.{IsClear, as-once, polled-links, polled-stores, polled-clear, goes-on-clear}
use Rattle.ept_poll.proofs.Answering.{stands-front, stands-reads, stands-end, stands-answered, stands-unanswered, stands-well}

-- a poll's units and its rest
pub record HasDone (old new : Seen) : Type 0 where
  pub calls : List SessionCall
  pub last : Seen
  pub units : AreUnits old calls last
  pub rest : IsAs last new

pub all-done : (n : ℕ) (old now : Seen) → (calls : List SessionCall) × (length calls ≡ n) × AreUnits old calls now → HasDone old now
all-done n old now units = record { calls = units.0; last = now; units = units.2; rest = as-once now }

pub stands-on : (old new : Seen) → HasDone old new → Since old (λ first. Stands first new)
stands-on old new d = λ first s. as-stands first d.last new d.rest (units-stand first d.calls old d.last d.units s)

pub sends-on : (old new : Seen) → HasDone old new → Since old (λ first. Told new (IsFront (Rose first new.store_faults)))
sends-on old new d = λ first s. stands-front first new (stands-on old new d first s)

pub reads-on : (old new : Seen) → HasDone old new → Since old (λ first. Told new IsReadAnswered)
reads-on old new d = λ first s. stands-reads first new (stands-on old new d first s)

pub ends-on : (old new : Seen) (ends : End) → HasDone old new → want_of new.state ≡ want.End ends → Since old (λ first. Told new (IsEndOver (Rose first new.store_faults) ends))
ends-on old new ends d is = λ first s. stands-end first new ends (stands-on old new d first s) is

-- ---- causes

ready-is : (a b : End) → Ready a ≡ Ready b → a ≡ b
ready-is a b same = cc

not-before : {A B : Type 0} → ¬ A → A ⊎ B → B
not-before not (inl a) = absurd (not a)
not-before not (inr b) = b

links-over : (old new : Seen) (ends : End) → HasDone old new → old.state.fault ≢ Some fault.Link → want_of new.state ≡ want.End ends → ends ≡ end.LinkFault → Rose old.faults new.faults
links-over old new ends d clear is same =
    not-before clear ((polled-links d.calls old d.last new d.units d.rest).rose (link-end new.state ends same is))

pub links-on : (old new : Seen) (ends : End) → HasDone old new → old.state.fault ≢ Some fault.Link → want_of new.state ≡ want.End ends → Ready ends ≡ Ready end.LinkFault → Rose old.faults new.faults
links-on old new ends d clear is same = links-over old new ends d clear is (ready-is ends end.LinkFault same)

pub stores-on : (old new : Seen) (ends : End) → HasDone old new → want_of new.state ≡ want.End ends → Ready ends ≡ Ready end.StoreFault → (old.state.fault ≡ Some fault.Store) ⊎ Rose old.store_faults new.store_faults
stores-on old new ends d is same =
    (polled-stores d.calls old d.last new d.units d.rest).rose (store-end new.state ends (ready-is ends end.StoreFault same) is)

pub damaged-over : (old new : Seen) (ends : End) (found : QueryFile) → HasDone old new → want_of new.state ≡ want.End ends → Ready ends ≡ Ready (end.Damaged found) → Since old (λ first. Tells (IsDamaged found) new.files)
damaged-over old new ends found d is same = λ first s.
    (stands-on old new d first s).damaged found (damaged-end new.state found ends (ready-is ends (end.Damaged found) same) is)

pub complete-on : (old new : Seen) (ends : End) → HasDone old new → old.state.fault ≢ Some fault.Link → want_of new.state ≡ want.End ends → Since old (λ first. ToldOfWhole new (λ served wire. (¬ Rose old.faults new.faults) → (¬ Rose first new.store_faults) → IsWell ends))
complete-on old new ends d clear is = λ first s.
    stands-well first new ends (Rose old.faults new.faults) (stands-on old new d first s) is (λ same. links-over old new ends d clear is same)

-- ---- why it is pending

pub reading-on : (old new : Seen) (before mid after : ℕ) → HasDone old new → before ≤ mid → Rose mid after → want_of new.state ≡ want.Read → IsReading old new (Rose before after)
reading-on old new before mid after d later rose is = record {
  rose = rose-earlier before mid after later rose;
  wanted = is;
  answered = λ first s. stands-answered first new (stands-on old new d first s) is;
}

pub writing-on : (old new : Seen) (before mid after : ℕ) → HasDone old new → before ≤ mid → Rose mid after → want_of new.state ≡ want.Write → IsWriting old new (Rose before after)
writing-on old new before mid after d later rose is = record {
  rose = rose-earlier before mid after later rose;
  wanted = is;
  unanswered = λ first s. stands-unanswered first new (stands-on old new d first s) is;
}

-- ---- that it may be polled again

none-clear : (state : State) → state.fault ≢ Some fault.Link → IsClear state
none-clear state clear = λ fixed. absurd (clear fixed)

pub pollable-on : (turns : ℕ) (old new : Seen) → HasDone old new → IsPollable turns old.state → ((ends : End) → want_of new.state ≢ want.End ends) → IsPollable turns new.state
pollable-on turns old new d p on = record {
  some = p.some;
  clear = goes-on-clear new.state (polled-clear d.calls old d.last new d.units d.rest (none-clear old.state p.clear)) on;
}

-- ---- a last call of the link waited

pub waiting-on : (old new : Seen) (Yields : Type 0) (read now_read reads write now_write writes : ℕ) → HasDone old new → read ≤ now_read → write ≤ now_write → IsWaitFor new.state (Rose now_read reads) (Rose now_write writes) → IsReading old new (Rose read reads) ⊎ (IsWriting old new (Rose write writes) ⊎ Yields)
waiting-on old new Yields read now_read reads write now_write writes d later_reads later_writes (inl why) =
    inl (reading-on old new read now_read reads d later_reads why.0 why.1)
waiting-on old new Yields read now_read reads write now_write writes d later_reads later_writes (inr why) =
    inr (inl (writing-on old new write now_write writes d later_writes why.0 why.1))

pub waiting-goes : (state : State) (reads writes : Type 0) → IsWaitFor state reads writes → (ends : End) → want_of state ≢ want.End ends
waiting-goes state reads writes (inl why) ends same =
    let wanted = why.1 in absurd cc
waiting-goes state reads writes (inr why) ends same =
    let wanted = why.1 in absurd cc
