-- Turn after turn.
use Rattle.std.proofs.Common.{◌≡◌, ◌≢◌, ◌∙◌, ◌<◌, ◌≤◌, ◌+◌, ℕ, List, [], ◌∷◌, ◌++◌, length, refl, sym, ap, subst, arith, append_assoc, append-nil, length-append}
use Rattle.std.specs.Prelude.{◌↔◌, ◌==◌, map, Bool, true, IsTrue}
use Rattle.std.proofs.lemmas.Bool.Decides.{nat_tests}
use Rattle.std.proofs.lemmas.List.{map-append, length-map}
use Rattle.futures.specs.declared.task.Poll.{Poll}
use Rattle.futures.specs.declared.task.Poll.TheVariants.{Ready, Pending}
use Rattle.futures.specs.declared.task.context.Context.{Context}
use Rattle.futures.specs.Task.{IsArmed, Keeps, Lasting}
use Rattle.futures.specs.Poll.{OnPending}
use Rattle.ept_base.specs.declared.store.Store.{Ghosts as StoreOf}
use Rattle.ept_conn.specs.declared.end.End.{End}
use Rattle.ept_poll.specs.declared.conn.PollConn.{PollConn}
use Rattle.ept_poll.specs.declared.link.PollLink.{Ghosts as LinkOf}
use Rattle.ept_crowd.specs.declared.answers.Turned.{Turned}
use Rattle.ept_crowd.specs.declared.answers.Turned.TheVariants as turned
use Rattle.ept_crowd.specs.declared.member.Live.{Live}
use Rattle.ept_crowd.specs.Members.{numbers, with_conn, still}
use Rattle.ept_crowd.specs.Shown.{Shown}
use Rattle.ept_crowd.specs.Turns.{Goes, IsTurn, HasTurned, HaveTurned, pending_in, HasTurnedAll}

module _ {L T : Type 0} (link : LinkOf L) (store : StoreOf T) where
  not-gone : (front : List (Live L T)) (member : Live L T) (back : List (Live L T)) (poll : Poll End) (old new : Shown L T) → ¬ Goes front member back poll old new turned.Gone
  not-gone front member back Pending old new goes = let is = goes.0 in absurd cc
  not-gone front member back (Ready end) old new goes = let is = goes.0 in absurd cc

  -- a turn of a connection is a turn of its number
  pub turn-of : (number : ℕ) (front : List (Live L T)) (member : Live L T) (back : List (Live L T)) (old new : Shown L T) (cx : Context) (answer : Turned) → member.number ≡ number → IsTurn link store front member back old new cx answer → HasTurned link store number old new cx answer
  turn-of number front member back old new cx turned.Gone is turn =
      absurd (not-gone front (with_conn member turn.conn) back turn.poll old new turn.goes)
  turn-of number front member back old new cx turned.Pending is turn =
      record { front = front; member = member; back = back; number_is = is; turn = turn }
  turn-of number front member back old new cx turned.Ended is turn =
      record { front = front; member = member; back = back; number_is = is; turn = turn }

  -- one more turn
  turns-more : (turns : List (ℕ × Turned)) (old mid new : Shown L T) (was now cx : Context) (number : ℕ) (answer : Turned) → HaveTurned link store turns old mid was now → Keeps now cx → HasTurned link store number mid new cx answer → HaveTurned link store (turns ++ ((number, answer) ∷ [])) old new was cx
  turns-more [] old mid new was now cx number answer have keeps turn = (
    new,
    cx,
    subst (λ (c : Context). Keeps c cx) have.1 keeps,
    subst (λ (s : Shown L T). HasTurned link store number s new cx answer) have.0 turn,
    (refl, refl),
  )
  turns-more (first ∷ turns) old mid new was now cx number answer have keeps turn = (
    have.0,
    have.1,
    have.2,
    have.3,
    turns-more turns have.0 mid new have.1 now cx number answer have.4 keeps turn,
  )

  -- The first `count` connections have had their turn. `done` is those of them that are still live, and `rest` those
  -- that have had no turn yet.
  pub record HasGone (old now : Shown L T) (was cx : Context) (count place : ℕ) : Type 0 where
    pub turns : List (ℕ × Turned)
    pub done : List (Live L T)
    pub rest : List (Live L T)
    pub live_is : now.live ≡ done ++ rest
    pub place_is : length done ≡ place
    pub count_is : length turns ≡ count
    pub each : map (λ (turn : ℕ × Turned). turn.0) turns ++ numbers rest ≡ numbers old.live
    pub have : HaveTurned link store turns old now was cx
    pub left : numbers done ≡ pending_in turns
    pub armed : done ≢ [] → IsArmed cx

  pub gone-none : (old : Shown L T) (was : Context) → HasGone old old was was 0 0
  gone-none old was = record {
    turns = [];
    done = [];
    rest = old.live;
    live_is = refl;
    place_is = refl;
    count_is = refl;
    each = refl;
    have = (refl, refl);
    left = refl;
    armed = λ some. absurd (some refl);
  }

  rest-length : (old now : Shown L T) (was cx : Context) (count place : ℕ) (gone : HasGone old now was cx count place) → count + length gone.rest ≡ length old.live
  rest-length old now was cx count place gone =
      let all = ap length gone.each in
      let split = length-append (map (λ (turn : ℕ × Turned). turn.0) gone.turns) (numbers gone.rest) in
      let turns = length-map gone.turns (λ (turn : ℕ × Turned). turn.0) in
      let rest = length-map gone.rest (λ (member : Live L T). member.number) in
      let live = length-map old.live (λ (member : Live L T). member.number) in
      let is = gone.count_is in
      omega (arith, all, split, turns, rest, live, is)

  pub place-within : (old now : Shown L T) (was cx : Context) (count place : ℕ) → HasGone old now was cx count place → count < length old.live → place < length now.live
  place-within old now was cx count place gone less =
      let rest = rest-length old now was cx count place gone in
      let live = ap length gone.live_is in
      let split = length-append gone.done gone.rest in
      let is = gone.place_is in
      omega (arith, less, rest, live, split, is)

  -- what a turn of the next connection does
  abbrev TurnsNext : Shown L T → Shown L T → Context → ℕ → ℕ → Type 0
  TurnsNext now new cx place next =
      (front back : List (Live L T)) (member : Live L T) → now.live ≡ front ++ (member ∷ back) → length front ≡ place → (answer : Turned) × IsTurn link store front member back now new cx answer × (next ≡ place + still answer)

  pending-more : (turns : List (ℕ × Turned)) (number : ℕ) → pending_in (turns ++ ((number, turned.Pending) ∷ [])) ≡ pending_in turns ++ (number ∷ [])
  pending-more [] number = refl
  pending-more ((n, turned.Gone) ∷ turns) number = pending-more turns number
  pending-more ((n, turned.Pending) ∷ turns) number = ap (λ (ns : List ℕ). n ∷ ns) (pending-more turns number)
  pending-more ((n, turned.Ended) ∷ turns) number = pending-more turns number

  ended-more : (turns : List (ℕ × Turned)) (number : ℕ) → pending_in (turns ++ ((number, turned.Ended) ∷ [])) ≡ pending_in turns
  ended-more [] number = refl
  ended-more ((n, turned.Gone) ∷ turns) number = ended-more turns number
  ended-more ((n, turned.Pending) ∷ turns) number = ap (λ (ns : List ℕ). n ∷ ns) (ended-more turns number)
  ended-more ((n, turned.Ended) ∷ turns) number = ended-more turns number

  each-more : (turns : List (ℕ × Turned)) (member : Live L T) (back : List (Live L T)) (all : List ℕ) (answer : Turned) → map (λ (turn : ℕ × Turned). turn.0) turns ++ (member.number ∷ numbers back) ≡ all → map (λ (turn : ℕ × Turned). turn.0) (turns ++ ((member.number, answer) ∷ [])) ++ numbers back ≡ all
  each-more turns member back all answer is =
      ap (λ (ns : List ℕ). ns ++ numbers back) (map-append (λ (turn : ℕ × Turned). turn.0) turns ((member.number, answer) ∷ [])) ∙ append_assoc (map (λ (turn : ℕ × Turned). turn.0) turns) (member.number ∷ []) (numbers back) ∙ is

  one-longer : {X : Type 0} (xs : List X) (x : X) (n : ℕ) → length xs ≡ n → length (xs ++ (x ∷ [])) ≡ n + 1
  one-longer xs x n is =
      let more = length-append xs (x ∷ []) in
      omega (arith, more, is)

  module _ (old now new : Shown L T) (was at cx : Context) (count place next : ℕ) (gone : HasGone old now was at count place) (keeps : Keeps at cx) where
    by-poll : (member : Live L T) (back : List (Live L T)) (answer : Turned) (conn : PollConn L T) (poll : Poll End) → gone.rest ≡ member ∷ back → IsTurn link store gone.done member back now new cx answer → OnPending poll (IsArmed cx) → Goes gone.done (with_conn member conn) back poll now new answer → next ≡ place + still answer → HasGone old new was cx (count + 1) next
    by-poll member back answer conn Pending is turn armed goes next_is =
        let answered : answer ≡ turned.Pending = goes.0 in
        let kind = subst (λ (a : Turned). IsTurn link store gone.done member back now new cx a) answered turn in
        let moved : next ≡ place + 1 = next_is ∙ ap (λ (a : Turned). place + still a) answered in record {
          turns = gone.turns ++ ((member.number, turned.Pending) ∷ []);
          done = gone.done ++ (with_conn member conn ∷ []);
          rest = back;
          live_is = goes.1 ∙ sym (append_assoc gone.done (with_conn member conn ∷ []) back);
          place_is = one-longer gone.done (with_conn member conn) place gone.place_is ∙ sym moved;
          count_is = one-longer gone.turns (member.number, turned.Pending) count gone.count_is;
          each = each-more gone.turns member back (numbers old.live) turned.Pending (ap (λ (rest : List (Live L T)). map (λ (turn : ℕ × Turned). turn.0) gone.turns ++ numbers rest) (sym is) ∙ gone.each);
          have = turns-more gone.turns old now new was at cx member.number turned.Pending gone.have keeps (turn-of member.number gone.done member back now new cx turned.Pending refl kind);
          left = map-append (λ (m : Live L T). m.number) gone.done (with_conn member conn ∷ []) ∙ ap (λ (ns : List ℕ). ns ++ (member.number ∷ [])) gone.left ∙ sym (pending-more gone.turns member.number);
          armed = λ some. armed;
        }
    by-poll member back answer conn (Ready end) is turn armed goes next_is =
        let answered : answer ≡ turned.Ended = goes.0 in
        let kind = subst (λ (a : Turned). IsTurn link store gone.done member back now new cx a) answered turn in
        let moved : next ≡ place = (let is_next : next ≡ place + 0 = next_is ∙ ap (λ (a : Turned). place + still a) answered in omega (arith, is_next)) in record {
          turns = gone.turns ++ ((member.number, turned.Ended) ∷ []);
          done = gone.done;
          rest = back;
          live_is = goes.1;
          place_is = gone.place_is ∙ sym moved;
          count_is = one-longer gone.turns (member.number, turned.Ended) count gone.count_is;
          each = each-more gone.turns member back (numbers old.live) turned.Ended (ap (λ (rest : List (Live L T)). map (λ (turn : ℕ × Turned). turn.0) gone.turns ++ numbers rest) (sym is) ∙ gone.each);
          have = turns-more gone.turns old now new was at cx member.number turned.Ended gone.have keeps (turn-of member.number gone.done member back now new cx turned.Ended refl kind);
          left = gone.left ∙ sym (ended-more gone.turns member.number);
          armed = λ some. keeps Lasting.armed (gone.armed some);
        }

    by-rest : (rest : List (Live L T)) → gone.rest ≡ rest → count < length old.live → TurnsNext now new cx place next → HasGone old new was cx (count + 1) next
    by-rest [] is less turns =
        let all = rest-length old now was at count place gone in
        let none : length gone.rest ≡ 0 = ap length is in
        absurd (omega (arith, less, all, none))
    by-rest (member ∷ back) is less turns =
        let turn = turns gone.done back member (gone.live_is ∙ ap (λ (rest : List (Live L T)). gone.done ++ rest) is) gone.place_is in
        by-poll member back turn.0 turn.1.conn turn.1.poll is turn.1 turn.1.armed turn.1.goes turn.2

    -- the next connection has had its turn
    pub gone-more : count < length old.live → TurnsNext now new cx place next → HasGone old new was cx (count + 1) next
    gone-more less turns = by-rest gone.rest refl less turns

  -- all connections have had their turn
  pub gone-all : (old now : Shown L T) (was cx : Context) (count place : ℕ) (gone : HasGone old now was cx count place) → length old.live ≤ count → gone.rest ≡ []
  gone-all old now was cx count place gone over =
      let all = rest-length old now was cx count place gone in
      none gone.rest (omega (arith, all, over))
    where
      none : (rest : List (Live L T)) → length rest ≡ 0 → rest ≡ []
      none [] is = refl
      none (member ∷ rest) is = absurd (omega (arith, is))

  none-is : (none : Bool) (live : List (Live L T)) → none ≡ (length live == 0) → IsTrue none ↔ (live ≡ [])
  none-is none [] is = (λ yes. refl, λ same. is)
  none-is none (member ∷ live) is = (λ yes. absurd (different (sym yes ∙ is)), λ same. absurd cc)
    where
      different : true ≡ (length (member ∷ live) == 0) → ⊥
      different same = grind (arith, nat_tests)

  pub all-turned : (old now : Shown L T) (was cx : Context) (count place : ℕ) (none : Bool) → HasGone old now was cx count place → length old.live ≤ count → none ≡ (length now.live == 0) → HasTurnedAll link store old now was cx none
  all-turned old now was cx count place none gone over is =
      let no_rest = gone-all old now was cx count place gone over in
      let live : now.live ≡ gone.done = gone.live_is ∙ ap (λ (rest : List (Live L T)). gone.done ++ rest) no_rest ∙ append-nil gone.done in record {
        turns = gone.turns;
        each = sym (append-nil (map (λ (turn : ℕ × Turned). turn.0) gone.turns)) ∙ ap (λ (rest : List (Live L T)). map (λ (turn : ℕ × Turned). turn.0) gone.turns ++ numbers rest) (sym no_rest) ∙ gone.each;
        have = gone.have;
        left = ap (λ (members : List (Live L T)). numbers members) live ∙ gone.left;
        none_is = none-is none now.live is;
        armed = λ some. gone.armed (λ same. some (live ∙ same));
      }
