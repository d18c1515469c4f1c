-- What holds for each connection of a crowd after any list of calls.
use Rattle.std.proofs.Common.{◌≡◌, ◌∙◌, ◌<◌, ◌+◌, ℕ, List, [], ◌∷◌, ◌++◌, Option, Some, None, refl, sym, ap, subst, arith}
use Rattle.std.specs.Prelude.{Result, Ok, Err}
use Rattle.std.specs.List.{AllByRecursion}
use Rattle.std.proofs.lemmas.List.{map-append}
use Rattle.futures.specs.declared.task.Poll.{Poll}
use Rattle.futures.specs.declared.task.Poll.TheVariants.{Ready, Pending}
use Rattle.futures.specs.declared.task.context.Context.{Context}
use Rattle.ept_base.specs.declared.store.Store.{Ghosts as StoreOf}
use Rattle.ept_conn.specs.declared.end.End.{End}
use Rattle.ept_conn.specs.declared.end.Want.TheVariants as want
use Rattle.ept_conn.specs.State.{want_of}
use Rattle.ept_conn.specs.SessionCalls.{SessionCall}
use Rattle.ept_poll.specs.declared.conn.PollConn.{PollConn}
use Rattle.ept_poll.specs.declared.link.PollLink.{Ghosts as LinkOf}
use Rattle.ept_poll.specs.Units.{Seen, IsAs, AreUnits}
use Rattle.ept_poll.specs.Polls.{seen, HasPolled}
use Rattle.ept_poll.specs.Runs.{IsNew, HavePolled, SendsFronts, AnswersAtReads, EndsAsServed}
use Rattle.ept_crowd.specs.declared.answers.AddError.{AddError}
use Rattle.ept_crowd.specs.declared.answers.Turned.{Turned}
use Rattle.ept_crowd.specs.declared.answers.Turned.TheVariants as turned
use Rattle.ept_crowd.specs.declared.member.Live.{Live}
use Rattle.ept_crowd.specs.declared.member.Finished.{Finished}
use Rattle.ept_crowd.specs.Members.{numbers, with_conn, ended_as}
use Rattle.ept_crowd.specs.Shown.{Shown, nothing}
use Rattle.ept_crowd.specs.Calls.{HasAdded, HasTaken}
use Rattle.ept_crowd.specs.Turns.{Goes, IsTurn, HasTurned, HaveTurned}
use Rattle.ept_crowd.specs.Laws.{Call, Add, Turn, TurnAll, TakeEnded, HaveDone, HasBeenServed, HasBeenServedTo, AreMade, AscendBelow}

-- ---- lists

module _ {X : Type 0} (P : X → Type 0) where
  all-join : (xs ys : List X) → AllByRecursion P xs → AllByRecursion P ys → AllByRecursion P (xs ++ ys)
  all-join [] ys one two = two
  all-join (x ∷ xs) ys one two = (one.0, all-join xs ys one.1 two)

  all-front : (xs ys : List X) → AllByRecursion P (xs ++ ys) → AllByRecursion P xs
  all-front [] ys all = tt
  all-front (x ∷ xs) ys all = (all.0, all-front xs ys all.1)

  all-back : (xs ys : List X) → AllByRecursion P (xs ++ ys) → AllByRecursion P ys
  all-back [] ys all = all
  all-back (x ∷ xs) ys all = all-back xs ys all.1

-- ---- one more poll

-- a connection was made, and has been polled since
record WasPolled (now : Seen) : Type 0 where
  first : Seen
  made : IsNew first
  polls : List (List SessionCall)
  polled : HavePolled first polls now

polled-more : (polls : List (List SessionCall)) (first old last now : Seen) (calls : List SessionCall) → HavePolled first polls old → AreUnits old calls last → IsAs last now → HavePolled first (polls ++ (calls ∷ [])) now
polled-more [] first old last now calls polled units rest =
    (last, now, subst (λ (s : Seen). AreUnits s calls last) polled units, rest, refl)
polled-more (poll ∷ polls) first old last now calls polled units rest =
    (polled.0, polled.1, polled.2, polled.3, polled-more polls polled.1 old last now calls polled.4 units rest)

module _ {L T : Type 0} (link : LinkOf L) (store : StoreOf T) where
  poll-more : (old new : PollConn L T) (poll : Poll End) (cx : Context) → WasPolled (seen link store old) → HasPolled link store old new poll cx → WasPolled (seen link store new)
  poll-more old new poll cx was polled = record {
    first = was.first;
    made = was.made;
    polls = was.polls ++ (polled.polls.calls ∷ []);
    polled = polled-more was.polls was.first (seen link store old) polled.polls.last (seen link store new) polled.polls.calls was.polled polled.polls.units polled.polls.rest;
  }

  -- ---- the crowd

  abbrev IsGood : Live L T → Type 0
  IsGood member = WasPolled (seen link store member.conn)

  abbrev IsGoodEnd : Finished L T → Type 0
  IsGoodEnd one = WasPolled (seen link store one.conn) × (want_of one.conn.session ≡ want.End one.end)

  record AreGood (now : Shown L T) : Type 0 where
    live : AllByRecursion IsGood now.live
    ended : AllByRecursion IsGoodEnd now.ended

  goes-good : (front : List (Live L T)) (member : Live L T) (back : List (Live L T)) (conn : PollConn L T) (poll : Poll End) (old new : Shown L T) (cx : Context) (answer : Turned) → AllByRecursion IsGood front → AllByRecursion IsGood back → AllByRecursion IsGoodEnd old.ended → WasPolled (seen link store conn) → HasPolled link store member.conn conn poll cx → Goes front (with_conn member conn) back poll old new answer → AreGood new
  goes-good front member back conn Pending old new cx answer before after ended was polled goes = record {
    live = subst (AllByRecursion IsGood) (sym goes.1) (all-join IsGood front (with_conn member conn ∷ back) before (was, after));
    ended = subst (AllByRecursion IsGoodEnd) (sym goes.2) ended;
  }
  goes-good front member back conn (Ready end) old new cx answer before after ended was polled goes = record {
    live = subst (AllByRecursion IsGood) (sym goes.1) (all-join IsGood front back before after);
    ended = subst (AllByRecursion IsGoodEnd) (sym goes.2) (all-join IsGoodEnd old.ended (ended_as (with_conn member conn) end ∷ []) ended ((was, polled.over), tt));
  }

  turn-good : (front : List (Live L T)) (member : Live L T) (back : List (Live L T)) (old new : Shown L T) (cx : Context) (answer : Turned) → IsTurn link store front member back old new cx answer → AreGood old → AreGood new
  turn-good front member back old new cx answer turn good =
      let live = subst (AllByRecursion IsGood) turn.was good.live in
      let at = all-back IsGood front (member ∷ back) live in
      goes-good front member back turn.conn turn.poll old new cx answer (all-front IsGood front (member ∷ back) live) at.1 good.ended (poll-more member.conn turn.conn turn.poll cx at.0 turn.polled) turn.polled turn.goes

  turned-good : (number : ℕ) (old new : Shown L T) (cx : Context) (answer : Turned) → HasTurned link store number old new cx answer → AreGood old → AreGood new
  turned-good number old new cx turned.Gone turn good = subst AreGood (sym turn.1) good
  turned-good number old new cx turned.Pending turn good =
      turn-good turn.front turn.member turn.back old new cx turned.Pending turn.turn good
  turned-good number old new cx turned.Ended turn good =
      turn-good turn.front turn.member turn.back old new cx turned.Ended turn.turn good

  turns-good : (turns : List (ℕ × Turned)) (old new : Shown L T) (was cx : Context) → HaveTurned link store turns old new was cx → AreGood old → AreGood new
  turns-good [] old new was cx have good = subst AreGood (sym have.0) good
  turns-good (turn ∷ turns) old new was cx have good =
      turns-good turns have.0 new have.1 cx have.4 (turned-good turn.0 old have.0 have.1 turn.1 have.3 good)

  added-good : (old new : Shown L T) (conn : PollConn L T) (result : Result ℕ (AddError L T)) → HasAdded old conn result new → WasPolled (seen link store conn) → AreGood old → AreGood new
  added-good old new conn (Ok number) added was good =
      subst AreGood (sym added.3) (record {
        live = all-join IsGood old.live (record { number = old.added; conn = conn } ∷ []) good.live (was, tt);
        ended = good.ended;
      })
  added-good old new conn (Err error) added was good = subst AreGood (sym added.1) good

  taken-good : (old new : Shown L T) (taken : Option (ℕ × End × L × T)) → HasTaken old taken new → AreGood old → AreGood new
  taken-good old new None done good = subst AreGood (sym done.1) good
  taken-good old new (Some taken) done good = record {
    live = subst (AllByRecursion IsGood) (sym done.3) good.live;
    ended = (subst (AllByRecursion IsGoodEnd) done.1 good.ended).1;
  }

  was-served : (now : Seen) → HasBeenServed now → WasPolled now
  was-served now served =
      record { first = served.first; made = served.made; polls = served.polls; polled = served.polled }

  calls-good : (calls : List (Call L T)) (old now : Shown L T) → AreMade link store calls → HaveDone link store old calls now → AreGood old → AreGood now
  calls-good [] old now made done good = subst AreGood (sym done) good
  calls-good (Add conn result ∷ calls) old now made done good =
      calls-good calls done.0 now made.1 done.2 (added-good old done.0 conn result done.1 (was-served (seen link store conn) made.0) good)
  calls-good (Turn number answer ∷ calls) old now made done good =
      calls-good calls done.0 now made done.2 (turned-good number old done.0 done.1.0 answer done.1.1 good)
  calls-good (TurnAll none ∷ calls) old now made done good =
      calls-good calls done.0 now made done.2 (turns-good done.1.2.turns old done.0 done.1.0 done.1.1 done.1.2.have good)
  calls-good (TakeEnded taken ∷ calls) old now made done good =
      calls-good calls done.0 now made done.2 (taken-good old done.0 taken done.1 good)

  module _ (sends : SendsFronts) (reads : AnswersAtReads) (ends : EndsAsServed) where
    served : (now : Seen) → WasPolled now → HasBeenServed now
    served now was = record {
      first = was.first;
      made = was.made;
      polls = was.polls;
      polled = was.polled;
      sends = sends was.polls was.first now was.made was.polled;
      reads = reads was.polls was.first now was.made was.polled;
    }

    served-all : (live : List (Live L T)) → AllByRecursion IsGood live → AllByRecursion (λ (member : Live L T). HasBeenServed (seen link store member.conn)) live
    served-all [] good = tt
    served-all (member ∷ live) good = (served (seen link store member.conn) good.0, served-all live good.1)

    served-to : (ended : List (Finished L T)) → AllByRecursion IsGoodEnd ended → AllByRecursion (λ (one : Finished L T). HasBeenServedTo one.end (seen link store one.conn)) ended
    unfolding served
    served-to [] good = tt
    served-to (one ∷ ended) good =
        let was = good.0.0 in
        let now = seen link store one.conn in (
          record {
            served = served now was;
            wanted = good.0.1;
            sends = ends was.polls was.first now one.end was.made was.polled good.0.1;
          },
          served-to ended good.1,
        )

    pub each-served : (calls : List (Call L T)) (now : Shown L T) → AreMade link store calls → HaveDone link store nothing calls now → AllByRecursion (λ (member : Live L T). HasBeenServed (seen link store member.conn)) now.live × AllByRecursion (λ (one : Finished L T). HasBeenServedTo one.end (seen link store one.conn)) now.ended
    each-served calls now made done =
        let good = calls-good calls nothing now made done (record { live = tt; ended = tt }) in
        (served-all now.live good.live, served-to now.ended good.ended)

  -- ---- numbers

  abbrev Ascend : Shown L T → Type 0
  Ascend now = AscendBelow now.added (numbers now.live)

  goes-ascend : (front : List (Live L T)) (member : Live L T) (back : List (Live L T)) (conn : PollConn L T) (poll : Poll End) (old new : Shown L T) (answer : Turned) → Goes front (with_conn member conn) back poll old new answer → AscendBelow old.added (numbers (front ++ (member ∷ back))) → AscendBelow old.added (numbers new.live)
  goes-ascend front member back conn Pending old new answer goes ascend =
      subst (AscendBelow old.added) (map-append (λ (m : Live L T). m.number) front (member ∷ back) ∙ sym (map-append (λ (m : Live L T). m.number) front (with_conn member conn ∷ back)) ∙ ap (λ (live : List (Live L T)). numbers live) (sym goes.1)) ascend
  goes-ascend front member back conn (Ready end) old new answer goes ascend =
      subst (AscendBelow old.added) (sym (map-append (λ (m : Live L T). m.number) front back) ∙ ap (λ (live : List (Live L T)). numbers live) (sym goes.1))
      (without old.added (numbers front) (numbers back) member.number (subst (AscendBelow old.added) (map-append (λ (m : Live L T). m.number) front (member ∷ back)) ascend))
    where
      fewer : (n : ℕ) (xs ys : List ℕ) (y : ℕ) → AllByRecursion (λ (later : ℕ). n < later) (xs ++ (y ∷ ys)) → AllByRecursion (λ (later : ℕ). n < later) (xs ++ ys)
      fewer n [] ys y all = all.1
      fewer n (x ∷ xs) ys y all = (all.0, fewer n xs ys y all.1)

      without : (bound : ℕ) (xs ys : List ℕ) (y : ℕ) → AscendBelow bound (xs ++ (y ∷ ys)) → AscendBelow bound (xs ++ ys)
      without bound [] ys y all = all.2
      without bound (x ∷ xs) ys y all = (all.0, fewer x xs ys y all.1, without bound xs ys y all.2)

  turn-ascend : (front : List (Live L T)) (member : Live L T) (back : List (Live L T)) (old new : Shown L T) (cx : Context) (answer : Turned) → IsTurn link store front member back old new cx answer → Ascend old → Ascend new
  turn-ascend front member back old new cx answer turn ascend =
      subst (λ (bound : ℕ). AscendBelow bound (numbers new.live)) (sym turn.added)
      (goes-ascend front member back turn.conn turn.poll old new answer turn.goes (subst (λ (live : List (Live L T)). AscendBelow old.added (numbers live)) turn.was ascend))

  turned-ascend : (number : ℕ) (old new : Shown L T) (cx : Context) (answer : Turned) → HasTurned link store number old new cx answer → Ascend old → Ascend new
  turned-ascend number old new cx turned.Gone turn ascend = subst Ascend (sym turn.1) ascend
  turned-ascend number old new cx turned.Pending turn ascend =
      turn-ascend turn.front turn.member turn.back old new cx turned.Pending turn.turn ascend
  turned-ascend number old new cx turned.Ended turn ascend =
      turn-ascend turn.front turn.member turn.back old new cx turned.Ended turn.turn ascend

  turns-ascend : (turns : List (ℕ × Turned)) (old new : Shown L T) (was cx : Context) → HaveTurned link store turns old new was cx → Ascend old → Ascend new
  turns-ascend [] old new was cx have ascend = subst Ascend (sym have.0) ascend
  turns-ascend (turn ∷ turns) old new was cx have ascend =
      turns-ascend turns have.0 new have.1 cx have.4 (turned-ascend turn.0 old have.0 have.1 turn.1 have.3 ascend)

  last-above : (n bound : ℕ) (ns : List ℕ) → n < bound → AllByRecursion (λ (later : ℕ). n < later) ns → AllByRecursion (λ (later : ℕ). n < later) (ns ++ (bound ∷ []))
  last-above n bound [] less all = (less, tt)
  last-above n bound (m ∷ ns) less all = (all.0, last-above n bound ns less all.1)

  one-above : (bound : ℕ) (ns : List ℕ) → AscendBelow bound ns → AscendBelow (bound + 1) (ns ++ (bound ∷ []))
  one-above bound [] ascend = (omega arith, tt, tt)
  one-above bound (n ∷ ns) ascend =
      let less = ascend.0 in
      (omega (arith, less), last-above n bound ns less ascend.1, one-above bound ns ascend.2)

  added-ascend : (old new : Shown L T) (conn : PollConn L T) (result : Result ℕ (AddError L T)) → HasAdded old conn result new → Ascend old → Ascend new
  added-ascend old new conn (Ok number) added ascend =
      subst Ascend (sym added.3) (subst (AscendBelow (old.added + 1)) (sym (map-append (λ (m : Live L T). m.number) old.live (record { number = old.added; conn = conn } ∷ []))) (one-above old.added (numbers old.live) ascend))
  added-ascend old new conn (Err error) added ascend = subst Ascend (sym added.1) ascend

  taken-ascend : (old new : Shown L T) (taken : Option (ℕ × End × L × T)) → HasTaken old taken new → Ascend old → Ascend new
  taken-ascend old new None done ascend = subst Ascend (sym done.1) ascend
  taken-ascend old new (Some taken) done ascend =
      subst (λ (bound : ℕ). AscendBelow bound (numbers new.live)) (sym done.4) (subst (λ (live : List (Live L T)). AscendBelow old.added (numbers live)) (sym done.3) ascend)

  calls-ascend : (calls : List (Call L T)) (old now : Shown L T) → HaveDone link store old calls now → Ascend old → Ascend now
  calls-ascend [] old now done ascend = subst Ascend (sym done) ascend
  calls-ascend (Add conn result ∷ calls) old now done ascend =
      calls-ascend calls done.0 now done.2 (added-ascend old done.0 conn result done.1 ascend)
  calls-ascend (Turn number answer ∷ calls) old now done ascend =
      calls-ascend calls done.0 now done.2 (turned-ascend number old done.0 done.1.0 answer done.1.1 ascend)
  calls-ascend (TurnAll none ∷ calls) old now done ascend =
      calls-ascend calls done.0 now done.2 (turns-ascend done.1.2.turns old done.0 done.1.0 done.1.1 done.1.2.have ascend)
  calls-ascend (TakeEnded taken ∷ calls) old now done ascend =
      calls-ascend calls done.0 now done.2 (taken-ascend old done.0 taken done.1 ascend)

  pub numbers-ascend : (calls : List (Call L T)) (now : Shown L T) → HaveDone link store nothing calls now → AscendBelow now.added (numbers now.live)
  numbers-ascend calls now done = calls-ascend calls nothing now done tt
