-- What a session has sent after any list of calls.
use Rattle.std.proofs.Common.{◌≡◌, ◌≤◌, ◌∙◌, ◌⊎◌, inl, inr, ℕ, List, [], ◌∷◌, ◌++◌, length, arith, Bool, true, false, ◌||◌, Option, Some, None, IfSome, refl, sym, ap, subst, append_assoc, append-nil}
use Rattle.std.specs.Prelude.{⊤}
use Rattle.ept_base.specs.Files.{Files}
use Rattle.ept_http.specs.declared.asked.Asked.{Asked}
use Rattle.ept_http.specs.declared.asked.Asked.TheVariants as asked
use Rattle.ept_http.specs.Answers.{MayBeAsked}
use Rattle.ept_http.specs.QueryWords.{IsOrdered}
use Rattle.ept_query.specs.declared.query_error.QueryFile.{QueryFile}
use Rattle.ept_query.specs.declared.query_error.QueryFile.TheVariants as file
use Rattle.ept_conn.specs.declared.turn.Turn.{Turn}
use Rattle.ept_conn.specs.declared.hand.Hand.{Hand}
use Rattle.ept_conn.specs.declared.hand.Hand.TheVariants.{Empty, Decided, Tiles}
use Rattle.ept_conn.specs.declared.end.Fault.{Fault}
use Rattle.ept_conn.specs.declared.end.Fault.TheVariants as fault
use Rattle.ept_conn.specs.declared.end.End.{End}
use Rattle.ept_conn.specs.declared.end.End.TheVariants as end
use Rattle.ept_conn.specs.declared.end.Want.TheVariants as want
use Rattle.ept_conn.specs.Held.{has_turn}
use Rattle.ept_conn.specs.Wanted.{Wanted, wanted}
use Rattle.ept_conn.specs.Answers.{Served, answers, AreAnswers}
use Rattle.ept_conn.specs.Served.{IsServed, IsSentOf}
use Rattle.ept_conn.specs.State.{State, IsFit, started, end_of, wants, want_of, feeds}
use Rattle.ept_conn.specs.InHand.{turns_in, begun_of, rest_of}
use Rattle.ept_conn.specs.Works.{IsPlanned, HasPlanOf, Stops, IsDamagedOf, IsDamagedFor, IsDamagedIn}
use Rattle.ept_conn.specs.Whole.{HasAnswered, HasFound}
use Rattle.ept_conn.specs.Ends.{EndsItself, IsCutOff, AreLastWords, EndsBefore, IsStatus, AreLastBytes, IsBroken, IsEnd}
use Rattle.ept_conn.specs.History.{Goes, HasFor, Has, IsOwed}
use Rattle.ept_conn.specs.SessionCalls.{SessionCall, Fed, Worked, Sent, Failed, HasWorked, Leads, LeadsOn, fed_by, sent_by}
use Rattle.ept_conn.proofs.Plans.{served-sent, folder-is, part-there}
use Rattle.ept_conn.proofs.Sending.{answers-append, start-goes, fed-goes, worked-goes, sent-goes}
use Rattle.ept_conn.proofs.Ending.{hand-answers, stopped-cut, damaged-cut, unfed-cut, cut-as, goes-broken, cut-broken, damage-broken, rest-answers, rest-ends}
use Rattle.ept_conn.proofs.Wanting.{IsAtRest, work-parts, read-parts, write-some}

-- ---- no file that is served is damaged

-- the wanted points may be asked for
abbrev MayBeWanted : Option Wanted → Type 0
MayBeWanted None = ⊤
MayBeWanted (Some points) = IsOrdered points.area × (points.first ≤ points.second)

may-wanted : (a : Asked) → MayBeAsked a → MayBeWanted (wanted a)
may-wanted (asked.File name) may = tt
may-wanted (asked.Query area first second) may = (may.0, may.1)
may-wanted (asked.Select area first second sift) may = (may.0, may.1)
may-wanted (asked.Refuse status) may = tt

undamaged-of : (files : Files) (served : Served) (w : Option Wanted) (found : QueryFile) → IsServed files served → MayBeWanted w → IsDamagedOf w found files → ⊥
undamaged-of files served None found is may damaged = damaged
undamaged-of files served (Some points) file.BuildJson (inl shut) may damaged = shut.done damaged.0
undamaged-of files served (Some points) file.BuildJson (inr is) may damaged =
    let has = (is.plan points.area points.first points.second may.0 may.1).2 in damaged.1 has.build.0 has.build.1
undamaged-of files served (Some points) (file.Hierarchy key) (inl shut) may damaged = shut.done damaged.0
undamaged-of files served (Some points) (file.Hierarchy key) (inr is) may damaged =
    let has = (is.plan points.area points.first points.second may.0 may.1).2 in
    let at = damaged.1.1 has.build.0 has.build.1 in
    let there = has.each has.build.0 has.build.1 key at.needed in
    at.damaged there.0 there.1
undamaged-of files served (Some points) (file.Tile key) is may damaged = damaged

undamaged-for : (files : Files) (served : Served) (a : Asked) (found : QueryFile) → IsServed files served → MayBeAsked a → IsDamagedFor a found files → ⊥
undamaged-for files served a found is may damaged = undamaged-of files served (wanted a) found is (may-wanted a may) damaged

pub undamaged : (files : Files) (served : Served) (hand : Hand) (found : QueryFile) → IsServed files served → IsFit hand → IsPlanned served hand → IsDamagedIn hand found files → ⊥
undamaged files served Empty found is fit planned damaged = damaged
undamaged files served (Decided turn) found is fit planned damaged = undamaged-for files served turn.asked found is fit damaged
undamaged files served (Tiles turn plan done) found (inl shut) fit planned damaged =
    let none : Some plan.tiles ≡ None = sym planned.plan_is ∙ shut.plan plan.area planned.first planned.second in
    absurd cc
undamaged files served (Tiles turn plan done) found (inr is) fit planned damaged =
    let part = part-there files served turn plan done is fit planned in
    damaged.2 part.points part.has

-- ---- the state by its fault

has-at : (served : Served) (reason : Type 0) (bytes sent : List ℕ) (state : State) (f : Option Fault) → state.fault ≡ f → HasFor served reason bytes sent state f → Has served reason bytes sent state
has-at served reason bytes sent state f is has = subst (HasFor served reason bytes sent state) (sym is) has

at-has : (served : Served) (reason : Type 0) (bytes sent : List ℕ) (state : State) (f : Option Fault) → state.fault ≡ f → Has served reason bytes sent state → HasFor served reason bytes sent state f
at-has served reason bytes sent state f is has = subst (HasFor served reason bytes sent state) is has

-- the same for another reason
status-wider : (served : Served) (reason wider : Type 0) (others : List Turn) (text : List ℕ) → (reason → wider) → IsStatus served reason others text → IsStatus served wider others text
status-wider served reason wider others text why (inl (inl cause, is)) = inl (inl (why cause), is)
status-wider served reason wider others text why (inl (inr damaged, is)) = inl (inr damaged, is)
status-wider served reason wider others text why (inr is) = inr is

last-wider : (served : Served) (reason wider : Type 0) → (reason → wider) → (others : List Turn) (text : List ℕ) → AreLastBytes served reason others text → AreLastBytes served wider others text
last-wider served reason wider why others text (inl none) = inl none
last-wider served reason wider why others text (inr (inl front)) = inr (inl front)
last-wider served reason wider why others text (inr (inr status)) = inr (inr (status-wider served reason wider others text why status))

wider-by : (served : Served) (reason wider : Type 0) (bytes sent : List ℕ) (state : State) (f : Option Fault) → (reason → wider) → HasFor served reason bytes sent state f → HasFor served wider bytes sent state f
wider-by served reason wider bytes sent state None why h = h
wider-by served reason wider bytes sent state (Some fault.Link) why h =
    (h.0, record { whole = h.1.whole; unsent = h.1.unsent; front = h.1.front; allowed = cut-as served bytes h.1.whole (AreLastBytes served reason) (AreLastBytes served wider) (last-wider served reason wider why) h.1.allowed })
wider-by served reason wider bytes sent state (Some fault.Store) why h = (why h.0, h.1)
wider-by served reason wider bytes sent state (Some (fault.Damaged f)) why h = h
wider-by served reason wider bytes sent state (Some fault.Memory) why h = h

pub has-wider : (served : Served) (reason wider : Type 0) (bytes sent : List ℕ) (state : State) → (reason → wider) → Has served reason bytes sent state → Has served wider bytes sent state
has-wider served reason wider bytes sent state why h = wider-by served reason wider bytes sent state state.fault why h

-- ---- call by call

pub start-has : (served : Served) (reason : Type 0) → Has served reason [] [] started
start-has served reason = start-goes served

feeds-fault : (state : State) (piece : List ℕ) → (feeds state piece).fault ≡ state.fault
feeds-fault state [] = refl
feeds-fault state (b ∷ piece) = refl

pub fed-has : (served : Served) (reason : Type 0) (bytes sent piece : List ℕ) (old new : State) → Has served reason bytes sent old → want_of old ≡ want.Read → (new ≡ feeds old piece) ⊎ (new ≡ record old { fault = Some fault.Memory }) → Has served reason (bytes ++ piece) sent new
fed-has served reason bytes sent piece old new has read (inl is) =
    let rest = (read-parts old read).0 in
    let goes = at-has served reason bytes sent old None rest.going has in
    let now = fed-goes served bytes sent piece old goes in
    subst (Has served reason (bytes ++ piece) sent) (sym is) (has-at served reason (bytes ++ piece) sent (feeds old piece) None (feeds-fault old piece ∙ rest.going) now)
fed-has served reason bytes sent piece old new has read (inr is) =
    let rest = (read-parts old read).0 in
    let goes = at-has served reason bytes sent old None rest.going has in
    subst (Has served reason (bytes ++ piece) sent) (sym is) (unfed-cut served bytes sent piece old rest.out_is rest.hand_is goes)

worked-at : (files : Files) (served : Served) (reason : Type 0) (bytes sent : List ℕ) (old new : State) (f : Option Fault) → new.fault ≡ f → IsSentOf files served → old.out ≡ [] → Goes served bytes sent old → HasWorked files served reason old new → HasFor served reason bytes sent new f
worked-at files served reason bytes sent old new None is served_is out goes worked =
    let same = folder-is files served served_is in
    worked-goes served bytes sent old new out goes (worked.works is goes.planned)
    (λ has. subst (λ (all : Files). HasPlanOf all new.hand) (sym same) (worked.plans (subst (λ (all : Files). HasPlanOf all old.hand) same has)))
    (subst (λ (all : Files). HasFound all old.hand new) (sym same) (worked.found is))
worked-at files served reason bytes sent old new (Some fault.Link) is served_is out goes worked =
    let stops = subst (λ (o : Option Fault). IfSome o (Stops old.hand new)) is worked.stops in
    absurd (stops.not_link refl)
worked-at files served reason bytes sent old new (Some fault.Store) is served_is out goes worked =
    let stops = subst (λ (o : Option Fault). IfSome o (Stops old.hand new)) is worked.stops in
    (worked.stores is, stopped-cut served bytes sent old new fault.Store out goes stops)
worked-at files served reason bytes sent old new (Some (fault.Damaged found)) is served_is out goes worked =
    let stops = subst (λ (o : Option Fault). IfSome o (Stops old.hand new)) is worked.stops in
    let same = folder-is files served served_is in
    damaged-cut served bytes sent old new found out goes stops (subst (λ (all : Files). IsDamagedIn old.hand found all) (sym same) (worked.damaged found is))
worked-at files served reason bytes sent old new (Some fault.Memory) is served_is out goes worked =
    let stops = subst (λ (o : Option Fault). IfSome o (Stops old.hand new)) is worked.stops in
    stopped-cut served bytes sent old new fault.Memory out goes stops

pub worked-has : (files : Files) (served : Served) (reason : Type 0) (bytes sent : List ℕ) (old new : State) → IsSentOf files served → Has served reason bytes sent old → want_of old ≡ want.Work → HasWorked files served reason old new → Has served reason bytes sent new
worked-has files served reason bytes sent old new served_is has work worked =
    let parts = work-parts old work in
    let goes = at-has served reason bytes sent old None parts.going has in
    worked-at files served reason bytes sent old new new.fault refl served_is parts.out_is goes worked

-- the first bytes were sent
moved : (sent first rest out : List ℕ) → out ≡ first ++ rest → sent ++ out ≡ (sent ++ first) ++ rest
moved sent first rest out split = ap (λ (w : List ℕ). sent ++ w) split ∙ sym (append_assoc sent first rest)

sent-by : (served : Served) (reason : Type 0) (bytes sent first rest : List ℕ) (old : State) (f : Option Fault) → old.out ≡ first ++ rest → HasFor served reason bytes sent old f → want_of old ≡ want.Write → HasFor served reason bytes (sent ++ first) (record old { out = rest }) f
sent-by served reason bytes sent first rest old None split h write =
    sent-goes served bytes sent first rest old (record old { out = rest }) h split refl
sent-by served reason bytes sent first rest old (Some fault.Link) split h write =
    let some = write-some old write in
    let none : length old.out ≡ 0 = ap length h.0 in
    absurd (omega (arith, some, none))
sent-by served reason bytes sent first rest old (Some fault.Store) split h write =
    (h.0, subst (IsCutOff served bytes (AreLastWords served fault.Store)) (moved sent first rest old.out split) h.1)
sent-by served reason bytes sent first rest old (Some (fault.Damaged found)) split h write =
    subst (IsCutOff served bytes (EndsBefore served found)) (moved sent first rest old.out split) h
sent-by served reason bytes sent first rest old (Some fault.Memory) split h write =
    subst (IsCutOff served bytes (AreLastWords served fault.Memory)) (moved sent first rest old.out split) h

pub sent-has : (served : Served) (reason : Type 0) (bytes sent first : List ℕ) (old new : State) → Has served reason bytes sent old → want_of old ≡ want.Write → old.out ≡ first ++ new.out → new ≡ record old { out = new.out } → Has served reason bytes (sent ++ first) new
sent-has served reason bytes sent first old new has write split is =
    subst (Has served reason bytes (sent ++ first)) (sym is) (sent-by served reason bytes sent first new.out old old.fault split has write)

-- the link failed
failed-by : (served : Served) (reason : Type 0) (bytes sent : List ℕ) (old : State) (f : Option Fault) → HasFor served reason bytes sent old f → IsBroken served reason bytes sent
failed-by served reason bytes sent old None h = goes-broken served reason bytes sent old h
failed-by served reason bytes sent old (Some fault.Link) h = h.1
failed-by served reason bytes sent old (Some fault.Store) h =
    cut-broken served reason bytes sent old.out fault.Store (λ is. h.0) (λ found is. absurd cc) h.1
failed-by served reason bytes sent old (Some (fault.Damaged found)) h = damage-broken served reason bytes sent old.out found h
failed-by served reason bytes sent old (Some fault.Memory) h =
    cut-broken served reason bytes sent old.out fault.Memory (λ is. absurd cc) (λ found is. absurd cc) h

pub failed-has : (served : Served) (reason : Type 0) (bytes sent : List ℕ) (old new : State) → Has served reason bytes sent old → new ≡ record old { hand = Empty; out = []; fault = Some fault.Link } → Has served reason bytes sent new
failed-has served reason bytes sent old new has is =
    subst (Has served reason bytes sent) (sym is) (refl, failed-by served reason bytes sent old old.fault has)

-- ---- at the end

over-ends : (closed ended : Bool) → closed || ended ≡ true → (closed ≡ true) ⊎ (ended ≡ true)
over-ends true ended is = inl refl
over-ends false ended is = inr is

-- the session wants its end
record IsOver (out : List ℕ) (f : Option Fault) (hand : Hand) (due over : Bool) (ends : End) : Type 0 where
  out_is : out ≡ []
  cause : ((x : Fault) × (f ≡ Some x) × (ends ≡ end_of x)) ⊎ ((ends ≡ end.Closed) × IsAtRest out f hand due × (over ≡ true))

over-by : (out : List ℕ) (f : Option Fault) (hand : Hand) (due over : Bool) (ends : End) → wants out f hand due over ≡ want.End ends → IsOver out f hand due over ends
over-by (b ∷ out) f hand due over ends is = absurd cc
over-by [] (Some x) hand due over ends is = record { out_is = refl; cause = inl (x, refl, ended-as (end_of x) ends is) }
  where
    ended-as : (a b : End) → want.End a ≡ want.End b → b ≡ a
    ended-as a b same = cc
over-by [] None (Decided turn) due over ends is = absurd cc
over-by [] None (Tiles turn plan done) due over ends is = absurd cc
over-by [] None Empty true over ends is = absurd cc
over-by [] None Empty false false ends is = absurd cc
over-by [] None Empty false true ends is =
    let same : ends ≡ end.Closed = cc in
    record { out_is = refl; cause = inr (same, record { out_is = refl; going = refl; hand_is = refl; none = refl }, refl) }

over-parts : (state : State) (ends : End) → want_of state ≡ want.End ends → IsOver state.out state.fault state.hand (has_turn state.held) (state.closed || state.held.ended) ends
unfolding want_of
over-parts state ends is = over-by state.out state.fault state.hand (has_turn state.held) (state.closed || state.held.ended) ends is

nothing-more : (sent out : List ℕ) → out ≡ [] → sent ++ out ≡ sent
nothing-more sent out none = ap (λ (w : List ℕ). sent ++ w) none ∙ append-nil sent

fault-end : (served : Served) (reason closed : Type 0) (bytes sent : List ℕ) (last : State) (x : Fault) → last.out ≡ [] → HasFor served reason bytes sent last (Some x) → IsEnd served reason closed bytes sent (end_of x)
fault-end served reason closed bytes sent last fault.Link none h = h.1
fault-end served reason closed bytes sent last fault.Store none h =
    (h.0, subst (IsCutOff served bytes (AreLastWords served fault.Store)) (nothing-more sent last.out none) h.1)
fault-end served reason closed bytes sent last (fault.Damaged found) none h =
    subst (IsCutOff served bytes (EndsBefore served found)) (nothing-more sent last.out none) h
fault-end served reason closed bytes sent last fault.Memory none h =
    subst (IsCutOff served bytes (AreLastWords served fault.Memory)) (nothing-more sent last.out none) h

closed-end : (served : Served) (closed : Type 0) (bytes sent : List ℕ) (last : State) → IsAtRest last.out last.fault last.hand (has_turn last.held) → Goes served bytes sent last → (last.closed ≡ true → closed) → (last.closed ≡ true) ⊎ (last.held.ended ≡ true) → HasAnswered served bytes sent × (closed ⊎ EndsItself bytes)
closed-end served closed bytes sent last rest goes why (inl shut) = (rest-answers served bytes sent last rest goes, inl (why shut))
closed-end served closed bytes sent last rest goes why (inr ended) =
    (rest-answers served bytes sent last rest goes, inr (rest-ends served bytes sent last rest goes ended))

end-by : (served : Served) (reason closed : Type 0) (bytes sent : List ℕ) (last : State) (ends : End) → (last.closed ≡ true → closed) → Has served reason bytes sent last → last.out ≡ [] → ((x : Fault) × (last.fault ≡ Some x) × (ends ≡ end_of x)) ⊎ ((ends ≡ end.Closed) × IsAtRest last.out last.fault last.hand (has_turn last.held) × (last.closed || last.held.ended ≡ true)) → IsEnd served reason closed bytes sent ends
end-by served reason closed bytes sent last ends why has none (inl cause) =
    subst (IsEnd served reason closed bytes sent) (sym cause.2) (fault-end served reason closed bytes sent last cause.0 none (at-has served reason bytes sent last (Some cause.0) cause.1 has))
end-by served reason closed bytes sent last ends why has none (inr cause) =
    let goes = at-has served reason bytes sent last None cause.1.going has in
    subst (IsEnd served reason closed bytes sent) (sym cause.0) (closed-end served closed bytes sent last cause.1 goes why (over-ends last.closed last.held.ended cause.2))

pub ends-has : (served : Served) (reason closed : Type 0) (bytes sent : List ℕ) (last : State) (ends : End) → (last.closed ≡ true → closed) → Has served reason bytes sent last → want_of last ≡ want.End ends → IsEnd served reason closed bytes sent ends
ends-has served reason closed bytes sent last ends why has is =
    let over = over-parts last ends is in
    end-by served reason closed bytes sent last ends why has over.out_is over.cause

pub reads-has : (served : Served) (reason : Type 0) (bytes sent : List ℕ) (last : State) → Has served reason bytes sent last → want_of last ≡ want.Read → HasAnswered served bytes sent
reads-has served reason bytes sent last has is =
    let rest = (read-parts last is).0 in
    rest-answers served bytes sent last rest (at-has served reason bytes sent last None rest.going has)

-- if each plan and each tile is there, no connection ends for a damaged file
cut-undamaged : (files : Files) (served : Served) (found : QueryFile) (others : List Turn) (words : List ℕ) → IsServed files served → EndsBefore served found others words → ⊥
cut-undamaged files served found [] words is ends = ends
cut-undamaged files served found (turn ∷ others) words is ends =
    let same = folder-is files served (served-sent files served is) in
    undamaged files served ends.hand found is ends.fit ends.planned (subst (λ (all : Files). IsDamagedIn ends.hand found all) same ends.damaged)

pub never-damaged : (files : Files) (served : Served) (reason closed : Type 0) (bytes text : List ℕ) (found : QueryFile) → IsServed files served → IsEnd served reason closed bytes text (end.Damaged found) → ⊥
never-damaged files served reason closed bytes text found is cut = cut-undamaged files served found cut.others cut.words is cut.fits

-- the fault that an end means
ended-by : (f : Option Fault) (hand : Hand) (due : Bool) (over : Type 0) (x : Fault) (ends : End) → ¬ (end_of x ≡ end.Closed) → ((y : Fault) → end_of x ≡ end_of y → y ≡ x) → ends ≡ end_of x → ((y : Fault) × (f ≡ Some y) × (ends ≡ end_of y)) ⊎ ((ends ≡ end.Closed) × over) → f ≡ Some x
ended-by f hand due over x ends open_still one is (inl cause) = cause.1 ∙ ap Some (one cause.0 (sym is ∙ cause.2))
ended-by f hand due over x ends open_still one is (inr closed) = absurd (open_still (sym is ∙ closed.0))

link-alone : (y : Fault) → end.LinkFault ≡ end_of y → y ≡ fault.Link
link-alone fault.Link is = refl
link-alone fault.Store is = absurd cc
link-alone (fault.Damaged found) is = absurd cc
link-alone fault.Memory is = absurd cc

store-alone : (y : Fault) → end.StoreFault ≡ end_of y → y ≡ fault.Store
store-alone fault.Link is = absurd cc
store-alone fault.Store is = refl
store-alone (fault.Damaged found) is = absurd cc
store-alone fault.Memory is = absurd cc

damaged-alone : (found : QueryFile) (y : Fault) → end.Damaged found ≡ end_of y → y ≡ fault.Damaged found
damaged-alone found fault.Link is = absurd cc
damaged-alone found fault.Store is = absurd cc
damaged-alone found (fault.Damaged other) is = cc
damaged-alone found fault.Memory is = absurd cc

drop-rest : (f : Option Fault) (out : List ℕ) (hand : Hand) (due over : Bool) (ends : End) → ((x : Fault) × (f ≡ Some x) × (ends ≡ end_of x)) ⊎ ((ends ≡ end.Closed) × IsAtRest out f hand due × (over ≡ true)) → ((x : Fault) × (f ≡ Some x) × (ends ≡ end_of x)) ⊎ ((ends ≡ end.Closed) × Unit {0})
drop-rest f out hand due over ends (inl cause) = inl cause
drop-rest f out hand due over ends (inr closed) = inr (closed.0, tt)

fault-of-end : (state : State) (x : Fault) (ends : End) → ¬ (end_of x ≡ end.Closed) → ((y : Fault) → end_of x ≡ end_of y → y ≡ x) → ends ≡ end_of x → want_of state ≡ want.End ends → state.fault ≡ Some x
fault-of-end state x ends not one is wanted =
    let over = over-parts state ends wanted in
    ended-by state.fault state.hand (has_turn state.held) (Unit {0}) x ends not one is (drop-rest state.fault state.out state.hand (has_turn state.held) (state.closed || state.held.ended) ends over.cause)

pub link-end : (state : State) (ends : End) → ends ≡ end.LinkFault → want_of state ≡ want.End ends → state.fault ≡ Some fault.Link
link-end state ends is wanted = fault-of-end state fault.Link ends (λ same. absurd cc) link-alone is wanted

pub store-end : (state : State) (ends : End) → ends ≡ end.StoreFault → want_of state ≡ want.End ends → state.fault ≡ Some fault.Store
store-end state ends is wanted = fault-of-end state fault.Store ends (λ same. absurd cc) store-alone is wanted

pub damaged-end : (state : State) (found : QueryFile) (ends : End) → ends ≡ end.Damaged found → want_of state ≡ want.End ends → state.fault ≡ Some (fault.Damaged found)
damaged-end state found ends is wanted =
    fault-of-end state (fault.Damaged found) ends (λ same. absurd cc) (damaged-alone found) is wanted

-- ---- what is owed

pub owes-has : (served : Served) (reason : Type 0) (bytes sent : List ℕ) (last : State) → Has served reason bytes sent last → last.fault ≡ None → (more text : List ℕ) → IsOwed served last more text → AreAnswers served (bytes ++ more) (sent ++ text)
owes-has served reason bytes sent last has going more text owed =
    let goes = at-has served reason bytes sent last None going has in record {
      turns = goes.before ++ (turns_in last.hand ++ owed.turns);
      due = goes.turns more owed.turns owed.due;
      text_is =
          ap (λ (w : List ℕ). sent ++ w) owed.text_is
          ∙ joined sent last.out (rest_of served last.hand) (answers served owed.turns)
          ∙ ap (λ (w : List ℕ). w ++ (rest_of served last.hand ++ answers served owed.turns)) goes.written
          ∙ joined-back (answers served goes.before) (begun_of served last.hand) (rest_of served last.hand) (answers served owed.turns)
          ∙ sym (answers-append served goes.before (turns_in last.hand ++ owed.turns)
          ∙ ap (λ (w : List ℕ). answers served goes.before ++ w) (answers-append served (turns_in last.hand) owed.turns ∙ ap (λ (w : List ℕ). w ++ answers served owed.turns) (hand-answers served last.hand goes.planned)));
    }
  where
    joined : (a b c d : List ℕ) → a ++ (b ++ (c ++ d)) ≡ (a ++ b) ++ (c ++ d)
    joined a b c d = sym (append_assoc a b (c ++ d))

    joined-back : (a b c d : List ℕ) → (a ++ b) ++ (c ++ d) ≡ a ++ ((b ++ c) ++ d)
    joined-back a b c d = simp (append_assoc, append-nil) refl

-- ---- lists of calls

led-has : (files : Files) (served : Served) (reason : Type 0) (bytes sent : List ℕ) (old new : State) (call : SessionCall) → IsSentOf files served → Has served reason bytes sent old → Leads files served reason old call new → Has served reason (bytes ++ fed_by (call ∷ [])) (sent ++ sent_by (call ∷ [])) new
led-has files served reason bytes sent old new (Fed piece) is has leads =
    let now = fed-has served reason bytes sent piece old new has leads.0 leads.1 in
    subst (λ (w : List ℕ). Has served reason (bytes ++ w) (sent ++ []) new) (sym (append-nil piece)) (subst (λ (w : List ℕ). Has served reason (bytes ++ piece) w new) (sym (append-nil sent)) now)
led-has files served reason bytes sent old new Worked is has leads =
    let now = worked-has files served reason bytes sent old new is has leads.0 leads.1 in
    subst (λ (w : List ℕ). Has served reason w (sent ++ []) new) (sym (append-nil bytes)) (subst (λ (w : List ℕ). Has served reason bytes w new) (sym (append-nil sent)) now)
led-has files served reason bytes sent old new (Sent first) is has leads =
    let now = sent-has served reason bytes sent first old new has leads.0 leads.1 leads.2 in
    subst (λ (w : List ℕ). Has served reason (bytes ++ []) (sent ++ w) new) (sym (append-nil first)) (subst (λ (w : List ℕ). Has served reason w (sent ++ first) new) (sym (append-nil bytes)) now)
led-has files served reason bytes sent old new Failed is has leads =
    let now = failed-has served reason bytes sent old new has leads.1 in
    subst (λ (w : List ℕ). Has served reason w (sent ++ []) new) (sym (append-nil bytes)) (subst (λ (w : List ℕ). Has served reason bytes w new) (sym (append-nil sent)) now)

fed-first : (call : SessionCall) (calls : List SessionCall) → fed_by (call ∷ calls) ≡ fed_by (call ∷ []) ++ fed_by calls
fed-first (Fed piece) calls = ap (λ (w : List ℕ). w ++ fed_by calls) (sym (append-nil piece))
fed-first Worked calls = refl
fed-first (Sent bytes) calls = refl
fed-first Failed calls = refl

sent-first : (call : SessionCall) (calls : List SessionCall) → sent_by (call ∷ calls) ≡ sent_by (call ∷ []) ++ sent_by calls
sent-first (Fed piece) calls = refl
sent-first Worked calls = refl
sent-first (Sent bytes) calls = ap (λ (w : List ℕ). w ++ sent_by calls) (sym (append-nil bytes))
sent-first Failed calls = refl

led-on : (files : Files) (served : Served) (reason : Type 0) (calls : List SessionCall) (bytes sent : List ℕ) (old last : State) → IsSentOf files served → Has served reason bytes sent old → LeadsOn files served reason old calls last → Has served reason (bytes ++ fed_by calls) (sent ++ sent_by calls) last
led-on files served reason [] bytes sent old last is has leads =
    subst (Has served reason (bytes ++ []) (sent ++ [])) (sym leads) (subst (λ (w : List ℕ). Has served reason w (sent ++ []) old) (sym (append-nil bytes)) (subst (λ (w : List ℕ). Has served reason bytes w old) (sym (append-nil sent)) has))
led-on files served reason (call ∷ calls) bytes sent old last is has leads =
    let next = led-has files served reason bytes sent old leads.0 call is has leads.1 in
    let all = led-on files served reason calls (bytes ++ fed_by (call ∷ [])) (sent ++ sent_by (call ∷ [])) leads.0 last is next leads.2 in
    let fed_all : (bytes ++ fed_by (call ∷ [])) ++ fed_by calls ≡ bytes ++ fed_by (call ∷ calls) =
    append_assoc bytes (fed_by (call ∷ [])) (fed_by calls) ∙ ap (λ (w : List ℕ). bytes ++ w) (sym (fed-first call calls)) in
    let sent_all : (sent ++ sent_by (call ∷ [])) ++ sent_by calls ≡ sent ++ sent_by (call ∷ calls) =
    append_assoc sent (sent_by (call ∷ [])) (sent_by calls) ∙ ap (λ (w : List ℕ). sent ++ w) (sym (sent-first call calls)) in
    subst (λ (w : List ℕ). Has served reason w (sent ++ sent_by (call ∷ calls)) last) fed_all (subst (λ (w : List ℕ). Has served reason ((bytes ++ fed_by (call ∷ [])) ++ fed_by calls) w last) sent_all all)

pub sends-answers : (files : Files) (served : Served) (reason : Type 0) → IsSentOf files served → (calls : List SessionCall) (last : State) → LeadsOn files served reason started calls last → Has served reason (fed_by calls) (sent_by calls) last
sends-answers files served reason is calls last leads = led-on files served reason calls [] [] started last is (start-has served reason) leads
