-- How often a session has called `get`, call by call.
use Rattle.std.proofs.Common.{◌≡◌, ◌∙◌, ◌+◌, ◌<◌, ◌≤◌, ◌⊎◌, inl, inr, ℕ, List, [], ◌∷◌, ◌++◌, length, Bool, true, false, if◌then◌else◌, Option, Some, None, refl, sym, ap, subst, arith, zero-add, append_assoc, append-nil}
use Rattle.std.specs.Prelude.{nat_lt, sum, ⊤}
use Rattle.std.specs.List.{AllZip}
use Rattle.std.proofs.lemmas.List.Sums.{sum_by-append}
use Rattle.ept_base.specs.Files.{Files}
use Rattle.ept_base.specs.Links.{Wire, Reads, FailsToRead, Writes}
use Rattle.ept_http.specs.declared.asked.Asked.{Asked}
use Rattle.ept_http.specs.declared.asked.Asked.TheVariants as asked
use Rattle.ept_query.specs.Planning.{GetsFiles}
use Rattle.ept_query.specs.Parts.{Plan}
use Rattle.ept_query.proofs.PlanSize.{plan-size}
use Rattle.ept_conn.specs.declared.turn.Turn.{Turn}
use Rattle.ept_conn.specs.declared.hand.Hand.{Hand}
use Rattle.ept_conn.specs.declared.hand.Hand.TheVariants.{Empty, Decided, Tiles}
use Rattle.ept_conn.specs.declared.end.Fault.{Fault}
use Rattle.ept_conn.specs.declared.end.Fault.TheVariants as fault
use Rattle.ept_conn.specs.declared.end.Want.TheVariants as want
use Rattle.ept_conn.specs.Held.{Held, fresh, fed}
use Rattle.ept_conn.specs.Turns.{AreDue}
use Rattle.ept_conn.specs.Wanted.{Wanted, wanted}
use Rattle.ept_conn.specs.State.{State, started, want_of, feeds}
use Rattle.ept_conn.specs.InHand.{turns_in}
use Rattle.ept_conn.specs.Works.{IsPlanOfTurn, HasPlanOf, Decides, hand_to, hand_at, IsBegun, IsOneStep, GetsFor, GetsIn}
use Rattle.ept_conn.specs.Got.{PointsTake, RequestTakes, Takes, GetsWithin, GetsForRead, HasTaken, HandHasTaken, IsWithinPlan, HasGot, HasGotFor, GetsSince, GetsOn}
use Rattle.ept_conn.proofs.TurnLemmas.{next-due, due-once, some-due}
use Rattle.ept_conn.proofs.Wanting.{work-parts, read-parts}

-- ---- one request

-- a fact of the wanted points, if there are any
abbrev OfWanted : (Wanted → Type 0) → Option Wanted → Type 0
OfWanted fact None = ⊤
OfWanted fact (Some points) = fact points

points-take : (files : Files) (a : Asked) (points : Wanted) (count : ℕ) → wanted a ≡ Some points → RequestTakes files a count → PointsTake files points count
points-take files (asked.File name) points count is takes = absurd cc
points-take files (asked.Query area first second) points count is takes =
    subst (OfWanted (λ (p : Wanted). PointsTake files p count)) is takes
points-take files (asked.Select area first second sift) points count is takes =
    subst (OfWanted (λ (p : Wanted). PointsTake files p count)) is takes
points-take files (asked.Refuse status) points count is takes = absurd cc

plan-gets : (files : Files) (a : Asked) (points : Wanted) (before now : ℕ) → wanted a ≡ Some points → GetsFor a before now (Some files) → GetsFiles points.area points.first points.second before now files
plan-gets files (asked.File name) points before now is gets = absurd cc
plan-gets files (asked.Query area first second) points before now is gets =
    subst (OfWanted (λ (p : Wanted). GetsFiles p.area p.first p.second before now files)) is gets
plan-gets files (asked.Select area first second sift) points before now is gets =
    subst (OfWanted (λ (p : Wanted). GetsFiles p.area p.first p.second before now files)) is gets
plan-gets files (asked.Refuse status) points before now is gets = absurd cc

points-gets : (files : Files) (points : Wanted) (before now count : ℕ) → GetsFiles points.area points.first points.second before now files → PointsTake files points count → now ≤ before + count
points-gets files points before now count gets takes =
    let few = gets takes.needed takes.each in
    let is = takes.count_is in
    omega (arith, few, is)

request-gets : (files : Files) (a : Asked) (before now count : ℕ) → GetsFor a before now (Some files) → RequestTakes files a count → now ≤ before + count
request-gets files (asked.File name) before now count gets takes = omega (arith, gets, takes)
request-gets files (asked.Query area first second) before now count gets takes =
    points-gets files (record { area = area; first = first; second = second }) before now count gets takes
request-gets files (asked.Select area first second sift) before now count gets takes =
    points-gets files (record { area = area; first = first; second = second }) before now count gets takes
request-gets files (asked.Refuse status) before now count gets takes = omega (arith, gets)

-- the calls for the finished tiles of a plan, and those that its other tiles take
plan-taken : (files : Files) (turn : Turn) (plan : Plan) (done count : ℕ) → IsPlanOfTurn files turn plan → RequestTakes files turn.asked count → (k : ℕ) × HasTaken files turn plan done k × (k + length plan.tiles ≤ count + done)
plan-taken files turn plan done count is takes =
    let points : Wanted = record { area = plan.area; first = is.first; second = is.second } in
    let all = points-take files turn.asked points count is.wants takes in
    let size = plan-size plan.area is.first is.second plan files is.is_plan all.planned all.others in
    let count_is = all.count_is in (
      2 + length all.needed + done,
      record { first = is.first; second = is.second; wants = is.wants; needed = all.needed; each = all.each; count_is = refl },
      omega (arith, size, count_is),
    )

-- ---- sums

-- the counts of the first turns and of the others
record AreSplit (files : Files) (one other : List Turn) (counts : List ℕ) : Type 0 where
  left : List ℕ
  right : List ℕ
  ones : AllZip (Takes files) one left
  others : AllZip (Takes files) other right
  counts_are : counts ≡ left ++ right

split : (files : Files) (one other : List Turn) (counts : List ℕ) → AllZip (Takes files) (one ++ other) counts → AreSplit files one other counts
split files [] other counts all = record { left = []; right = counts; ones = tt; others = all; counts_are = refl }
split files (turn ∷ one) other [] all = absurd all
split files (turn ∷ one) other (n ∷ counts) all =
    let rest = split files one other counts all.1 in
    record { left = n ∷ rest.left; right = rest.right; ones = (all.0, rest.ones); others = rest.others; counts_are = ap (λ (w : List ℕ). n ∷ w) rest.counts_are }

split-sum : (files : Files) (one other : List Turn) (counts : List ℕ) (s : AreSplit files one other counts) → sum counts ≡ sum s.left + sum s.right
split-sum files one other counts s = ap sum s.counts_are ∙ sum_by-append (λ (n : ℕ). n) s.left s.right

-- the count of one turn
one-count : (files : Files) (turn : Turn) (counts : List ℕ) → AllZip (Takes files) (turn ∷ []) counts → (n : ℕ) × RequestTakes files turn.asked n × (sum counts ≡ n)
one-count files turn [] all = absurd all
one-count files turn (n ∷ []) all = (n, all.0, zero-add n)
one-count files turn (n ∷ (m ∷ counts)) all = absurd all.1

-- ---- all the turns of bytes

-- if all calls for what is in hand are within what it takes, all calls are within what all turns of the bytes take
finish : (files : Files) (first : ℕ) (bytes more : List ℕ) (state : State) (now next : ℕ) → HasGot files first bytes state now → ((counts : List ℕ) → AllZip (Takes files) (turns_in state.hand) counts → (k : ℕ) × HandHasTaken files state.hand k × (next + k ≤ now + sum counts)) → GetsWithin files first (bytes ++ more) next
finish files first bytes more state now next g hand = λ turns counts due all.
    let others = some-due (fed state.held more) in
    let here = g.turns more others.0 others.1 in
    let same : turns ≡ g.before ++ (turns_in state.hand ++ others.0) = due-once (fed fresh (bytes ++ more)) turns (g.before ++ (turns_in state.hand ++ others.0)) due here in
    let parts = split files g.before (turns_in state.hand ++ others.0) counts (subst (λ (ts : List Turn). AllZip (Takes files) ts counts) same all) in
    let rest = split files (turns_in state.hand) others.0 parts.right parts.others in
    let took = hand rest.left rest.ones in
    let few = g.few parts.left took.0 parts.ones took.1 in
    let sum_all : sum counts ≡ sum parts.left + sum parts.right = split-sum files g.before (turns_in state.hand ++ others.0) counts parts in
    let sum_rest : sum parts.right ≡ sum rest.left + sum rest.right = split-sum files (turns_in state.hand) others.0 parts.right rest in
    let enough = took.2 in
    omega (arith, few, sum_all, sum_rest, enough)

hand-at : (files : Files) (hand : Hand) (now : ℕ) → HasPlanOf files hand → IsWithinPlan hand → (counts : List ℕ) → AllZip (Takes files) (turns_in hand) counts → (k : ℕ) × HandHasTaken files hand k × (now + k ≤ now + sum counts)
hand-at files Empty now plan within counts all = (0, refl, omega arith)
hand-at files (Decided turn) now plan within counts all = (0, refl, omega arith)
hand-at files (Tiles turn plan done) now has within counts all =
    let one = one-count files turn counts all in
    let taken = plan-taken files turn plan done one.0 has one.1 in
    let less = taken.2 in
    let is = one.2 in
    (taken.0, taken.1, omega (arith, less, within, is))

hand-gets : (files : Files) (hand : Hand) (now next : ℕ) → HasPlanOf files hand → GetsIn hand now next (Some files) → (counts : List ℕ) → AllZip (Takes files) (turns_in hand) counts → (k : ℕ) × HandHasTaken files hand k × (next + k ≤ now + sum counts)
hand-gets files Empty now next plan gets counts all = (0, refl, omega (arith, gets))
hand-gets files (Decided turn) now next plan gets counts all =
    let one = one-count files turn counts all in
    let few = request-gets files turn.asked now next one.0 gets one.1 in
    let is = one.2 in
    (0, refl, omega (arith, few, is))
hand-gets files (Tiles turn plan done) now next has gets counts all =
    let one = one-count files turn counts all in
    let taken = plan-taken files turn plan done one.0 has one.1 in
    let less = taken.2 in
    let is = one.2 in
    let within = gets.0 in
    let few = gets.1 in
    (taken.0, taken.1, omega (arith, less, within, few, is))

pub got-all : (files : Files) (first : ℕ) (bytes : List ℕ) (state : State) (now : ℕ) (f : Option Fault) → HasGotFor files first bytes state now f → GetsWithin files first bytes now
got-all files first bytes state now None g =
    subst (λ (w : List ℕ). GetsWithin files first w now) (append-nil bytes) (finish files first bytes [] state now now g (hand-at files state.hand now g.plan g.within))
got-all files first bytes state now (Some f) g = g

got-stopped : (files : Files) (first : ℕ) (bytes : List ℕ) (old : State) (now next : ℕ) → HasGot files first bytes old now → GetsIn old.hand now next (Some files) → GetsWithin files first bytes next
got-stopped files first bytes old now next g gets =
    subst (λ (w : List ℕ). GetsWithin files first w next) (append-nil bytes) (finish files first bytes [] old now next g (hand-gets files old.hand now next g.plan gets))

-- ---- one piece of work

-- a turn comes next after those with a response, whatever bytes follow
abbrev Stands : List ℕ → Held → List Turn → Turn → Type 0
Stands bytes held before turn =
    (more : List ℕ) (others : List Turn) → AreDue (fed held more) others → AreDue (fed fresh (bytes ++ more)) (before ++ (turn ∷ others))

-- it has its response, and took the calls made for it
answered : (files : Files) (first : ℕ) (bytes : List ℕ) (before : List Turn) (turn : Turn) (new : State) (next : ℕ) → Stands bytes new.held before turn → new.hand ≡ Empty → ((counts : List ℕ) (count : ℕ) → AllZip (Takes files) before counts → RequestTakes files turn.asked count → next ≤ first + sum counts + count) → HasGot files first bytes new next
answered files first bytes before turn new next stands hand few = record {
  before = before ++ turn ∷ [];
  turns = λ more others due.
      let H : Hand → Type 0 = λ h. AreDue (fed fresh (bytes ++ more)) ((before ++ turn ∷ []) ++ (turns_in h ++ others)) in
      subst H (sym hand) (subst (λ (ts : List Turn). AreDue (fed fresh (bytes ++ more)) ts) (sym (append_assoc before (turn ∷ []) others)) (stands more others due));
  plan = subst (HasPlanOf files) (sym hand) tt;
  within = subst IsWithinPlan (sym hand) tt;
  few = λ counts count all taken.
      let none : count ≡ 0 = subst (λ (h : Hand). HandHasTaken files h count) hand taken in
      let parts = split files before (turn ∷ []) counts all in
      let one = one-count files turn parts.right parts.others in
      let most = few parts.left one.0 parts.ones one.1 in
      let total : sum counts ≡ sum parts.left + sum parts.right = split-sum files before (turn ∷ []) counts parts in
      let is = one.2 in
      omega (arith, most, total, is, none);
}

-- it stays in hand
stays : (files : Files) (first : ℕ) (bytes : List ℕ) (before : List Turn) (turn : Turn) (new : State) (hand : Hand) (next : ℕ) → Stands bytes new.held before turn → new.hand ≡ hand → turns_in hand ≡ turn ∷ [] → HasPlanOf files hand → IsWithinPlan hand → ((counts : List ℕ) (count : ℕ) → AllZip (Takes files) before counts → HandHasTaken files hand count → next ≤ first + sum counts + count) → HasGot files first bytes new next
stays files first bytes before turn new hand next stands is one plan within few =
    let turns_now : turns_in new.hand ≡ turn ∷ [] = ap turns_in is ∙ one in record {
      before = before;
      turns = λ more others due. subst (λ (ts : List Turn). AreDue (fed fresh (bytes ++ more)) (before ++ (ts ++ others))) (sym turns_now) (stands more others due);
      plan = subst (HasPlanOf files) (sym is) plan;
      within = subst IsWithinPlan (sym is) within;
      few = λ counts count all taken. few counts count all (subst (λ (h : Hand). HandHasTaken files h count) is taken);
    }

-- the turn that was decided comes next, and so does the one in hand
decided-stands : (files : Files) (first : ℕ) (bytes : List ℕ) (old new : State) (now : ℕ) (g : HasGot files first bytes old now) → old.hand ≡ Empty → (step : Decides old new) → Stands bytes new.held g.before step.turn
decided-stands files first bytes old new now g empty step = λ more others due.
    let H : Hand → Type 0 = λ h. AreDue (fed fresh (bytes ++ more)) (g.before ++ (turns_in h ++ (step.turn ∷ others))) in
    subst H empty (g.turns more (step.turn ∷ others) (next-due old.held new.held step.turn step.next more others due))

hand-stands : (files : Files) (first : ℕ) (bytes : List ℕ) (old new : State) (now : ℕ) (hand : Hand) (turn : Turn) (g : HasGot files first bytes old now) → old.hand ≡ hand → turns_in hand ≡ turn ∷ [] → new.held ≡ old.held → Stands bytes new.held g.before turn
hand-stands files first bytes old new now hand turn g is one same =
    let in_hand : turns_in old.hand ≡ turn ∷ [] = ap turns_in is ∙ one in
    let stands : Stands bytes old.held g.before turn = λ more others due. subst (λ (ts : List Turn). AreDue (fed fresh (bytes ++ more)) (g.before ++ (ts ++ others))) in_hand (g.turns more others due) in
    subst (λ (h : Held). Stands bytes h g.before turn) (sym same) stands

-- the calls made before, by what is in hand
few-in : (files : Files) (first : ℕ) (bytes : List ℕ) (old : State) (now : ℕ) (hand : Hand) (g : HasGot files first bytes old now) → old.hand ≡ hand → (counts : List ℕ) (count : ℕ) → AllZip (Takes files) g.before counts → HandHasTaken files hand count → now ≤ first + sum counts + count
few-in files first bytes old now hand g is counts count all taken =
    g.few counts count all (subst (λ (h : Hand). HandHasTaken files h count) (sym is) taken)

decided-got : (files : Files) (first : ℕ) (bytes : List ℕ) (before : List Turn) (turn : Turn) (a : Asked) (new : State) (next : ℕ) → Stands bytes new.held before turn → new.hand ≡ hand_to a turn → ((counts : List ℕ) → AllZip (Takes files) before counts → next ≤ first + sum counts) → HasGot files first bytes new next
decided-got files first bytes before turn (asked.File name) new next stands hand few =
    stays files first bytes before turn new (Decided turn) next stands hand refl tt tt (λ counts count all taken. (let most = few counts all in omega (arith, most)))
decided-got files first bytes before turn (asked.Query area one two) new next stands hand few =
    stays files first bytes before turn new (Decided turn) next stands hand refl tt tt (λ counts count all taken. (let most = few counts all in omega (arith, most)))
decided-got files first bytes before turn (asked.Select area one two sift) new next stands hand few =
    stays files first bytes before turn new (Decided turn) next stands hand refl tt tt (λ counts count all taken. (let most = few counts all in omega (arith, most)))
decided-got files first bytes before turn (asked.Refuse status) new next stands hand few =
    answered files first bytes before turn new next stands hand (λ counts count all takes. (let most = few counts all in omega (arith, most)))

-- a plan was made for the turn, or all that it asks for was fetched
begun-got : (files : Files) (first : ℕ) (bytes : List ℕ) (before : List Turn) (turn : Turn) (new : State) (hand : Hand) (now next : ℕ) → Stands bytes new.held before turn → new.hand ≡ hand → IsBegun turn hand → HasPlanOf files hand → GetsFor turn.asked now next (Some files) → ((counts : List ℕ) → AllZip (Takes files) before counts → now ≤ first + sum counts) → HasGot files first bytes new next
begun-got files first bytes before turn new Empty now next stands is begun plan gets few =
    answered files first bytes before turn new next stands is (λ counts count all takes. (
    let most = few counts all in
    let more = request-gets files turn.asked now next count gets takes in
    omega (arith, most, more)))
begun-got files first bytes before turn new (Decided other) now next stands is begun plan gets few = absurd begun
begun-got files first bytes before turn new (Tiles other plan done) now next stands is begun has gets few =
    let none : done ≡ 0 = begun.1 in
    stays files first bytes before turn new (Tiles other plan done) next stands is (ap (λ (t : Turn). t ∷ []) begun.0) has (omega (arith, none)) (λ counts count all taken. (
    let most = few counts all in
    let points : Wanted = record { area = plan.area; first = taken.first; second = taken.second } in
    let wants : wanted turn.asked ≡ Some points = sym (ap (λ (t : Turn). wanted t.asked) begun.0) ∙ taken.wants in
    let more = plan-gets files turn.asked points now next wants gets taken.needed taken.each in
    let is_count = taken.count_is in
    omega (arith, most, more, is_count)))

-- one more tile was fetched
tile-got : (files : Files) (first : ℕ) (bytes : List ℕ) (before : List Turn) (turn : Turn) (plan : Plan) (done : ℕ) (new : State) (now next : ℕ) (b : Bool) → nat_lt (done + 1) (length plan.tiles) ≡ b → Stands bytes new.held before turn → new.hand ≡ hand_at turn plan (done + 1) → IsPlanOfTurn files turn plan → done < length plan.tiles → next ≤ now + 1 → ((counts : List ℕ) (count : ℕ) → AllZip (Takes files) before counts → HasTaken files turn plan done count → now ≤ first + sum counts + count) → HasGot files first bytes new next
tile-got files first bytes before turn plan done new now next true more stands hand has within one few =
    let there : hand_at turn plan (done + 1) ≡ Tiles turn plan (done + 1) = ap (λ (b : Bool). if b then Tiles turn plan (done + 1) else Empty) more in
    stays files first bytes before turn new (Tiles turn plan (done + 1)) next stands (hand ∙ there) refl has (omega (arith, within)) (λ counts count all taken. (
    let was : HasTaken files turn plan done (2 + length taken.needed + done) = record { first = taken.first; second = taken.second; wants = taken.wants; needed = taken.needed; each = taken.each; count_is = refl } in
    let most = few counts (2 + length taken.needed + done) all was in
    let is_count = taken.count_is in
    omega (arith, most, one, is_count)))
tile-got files first bytes before turn plan done new now next false over stands hand has within one few =
    let gone : hand_at turn plan (done + 1) ≡ Empty = ap (λ (b : Bool). if b then Tiles turn plan (done + 1) else Empty) over in
    answered files first bytes before turn new next stands (hand ∙ gone) (λ counts count all takes. (
    let taken = plan-taken files turn plan done count has takes in
    let most = few counts taken.0 all taken.1 in
    let less = taken.2 in
    omega (arith, most, one, less, within)))

worked-on : (files : Files) (first : ℕ) (bytes : List ℕ) (old new : State) (now next : ℕ) (hand : Hand) → old.hand ≡ hand → HasGot files first bytes old now → IsOneStep hand old new → GetsIn hand now next (Some files) → HasPlanOf files new.hand → HasGot files first bytes new next
worked-on files first bytes old new now next Empty is g step gets has =
    decided-got files first bytes g.before step.turn step.turn.asked new next (decided-stands files first bytes old new now g is step) step.hand (λ counts all. (
    let few = few-in files first bytes old now Empty g is counts 0 all refl in
    omega (arith, few, gets)))
worked-on files first bytes old new now next (Decided turn) is g step gets has =
    begun-got files first bytes g.before turn new new.hand now next (hand-stands files first bytes old new now (Decided turn) turn g is refl step.0) refl step.1 has gets (λ counts all. (
    let few = few-in files first bytes old now (Decided turn) g is counts 0 all refl in
    omega (arith, few)))
worked-on files first bytes old new now next (Tiles turn plan done) is g step gets has =
    let was = subst (HasPlanOf files) is g.plan in
    tile-got files first bytes g.before turn plan done new now next (nat_lt (done + 1) (length plan.tiles)) refl (hand-stands files first bytes old new now (Tiles turn plan done) turn g is refl step.1) step.2 was step.0 gets.1 (few-in files first bytes old now (Tiles turn plan done) g is)

-- ---- call by call

pub start-got : (files : Files) (now : ℕ) → HasGot files now [] started now
start-got files now = record { before = []; turns = λ more others due. due; plan = tt; within = tt; few = λ counts count all taken. omega arith }

got-at : (files : Files) (first : ℕ) (bytes : List ℕ) (state : State) (now : ℕ) (f : Option Fault) → state.fault ≡ f → HasGotFor files first bytes state now state.fault → HasGotFor files first bytes state now f
got-at files first bytes state now f is got = subst (HasGotFor files first bytes state now) is got

worked-at : (files : Files) (first : ℕ) (bytes : List ℕ) (old new : State) (now next : ℕ) (f : Option Fault) → new.fault ≡ f → HasGot files first bytes old now → (new.fault ≡ None → IsOneStep old.hand old new) → GetsIn old.hand now next (Some files) → (HasPlanOf files old.hand → HasPlanOf files new.hand) → HasGotFor files first bytes new next f
worked-at files first bytes old new now next None is g step gets plans =
    worked-on files first bytes old new now next old.hand refl g (step is) gets (plans g.plan)
worked-at files first bytes old new now next (Some f) is g step gets plans = got-stopped files first bytes old now next g gets

pub worked-got : (files : Files) (first : ℕ) (bytes : List ℕ) (old new : State) (now next : ℕ) → HasGotFor files first bytes old now old.fault → want_of old ≡ want.Work → (new.fault ≡ None → IsOneStep old.hand old new) → GetsIn old.hand now next (Some files) → (HasPlanOf files old.hand → HasPlanOf files new.hand) → HasGotFor files first bytes new next new.fault
worked-got files first bytes old new now next got work step gets plans =
    worked-at files first bytes old new now next new.fault refl (got-at files first bytes old now None (work-parts old work).going got) step gets plans

feeds-fault : (state : State) (piece : List ℕ) → (feeds state piece).fault ≡ state.fault
feeds-fault state [] = refl
feeds-fault state (b ∷ piece) = refl

feeds-got : (files : Files) (first : ℕ) (bytes piece : List ℕ) (state : State) (now : ℕ) → HasGot files first bytes state now → HasGot files first (bytes ++ piece) (feeds state piece) now
feeds-got files first bytes [] state now g =
    let shut : HasGot files first bytes (record state { closed = true }) now = record { before = g.before; turns = g.turns; plan = g.plan; within = g.within; few = g.few } in
    subst (λ (w : List ℕ). HasGot files first w (record state { closed = true }) now) (sym (append-nil bytes)) shut
feeds-got files first bytes (b ∷ piece) state now g = record {
  before = g.before;
  turns = λ more others due.
      let D : List ℕ → Type 0 = λ w. AreDue (record state.held { bytes = w }) others in
      let behind : AreDue (fed state.held ((b ∷ piece) ++ more)) others = subst D (append_assoc state.held.bytes (b ∷ piece) more) due in
      let F : List ℕ → Type 0 = λ w. AreDue (fed fresh w) (g.before ++ (turns_in state.hand ++ others)) in
      subst F (sym (append_assoc bytes (b ∷ piece) more)) (g.turns ((b ∷ piece) ++ more) others behind);
  plan = g.plan;
  within = g.within;
  few = g.few;
}

pub fed-got : (files : Files) (first : ℕ) (bytes piece : List ℕ) (old new : State) (now : ℕ) → HasGotFor files first bytes old now old.fault → want_of old ≡ want.Read → (new ≡ feeds old piece) ⊎ (new ≡ record old { fault = Some fault.Memory }) → HasGotFor files first (bytes ++ piece) new now new.fault
fed-got files first bytes piece old new now got read (inl is) =
    let rest = (read-parts old read).0 in
    let g = got-at files first bytes old now None rest.going got in
    let later : HasGotFor files first (bytes ++ piece) (feeds old piece) now (feeds old piece).fault =
    subst (HasGotFor files first (bytes ++ piece) (feeds old piece) now) (sym (feeds-fault old piece ∙ rest.going)) (feeds-got files first bytes piece old now g) in
    subst (λ (s : State). HasGotFor files first (bytes ++ piece) s now s.fault) (sym is) later
fed-got files first bytes piece old new now got read (inr is) =
    let rest = (read-parts old read).0 in
    let g = got-at files first bytes old now None rest.going got in
    let all : GetsWithin files first (bytes ++ piece) now = finish files first bytes piece old now now g (hand-at files old.hand now g.plan g.within) in
    subst (λ (s : State). HasGotFor files first (bytes ++ piece) s now s.fault) (sym is) all

sent-by : (files : Files) (first : ℕ) (bytes rest : List ℕ) (old : State) (now : ℕ) (f : Option Fault) → HasGotFor files first bytes old now f → HasGotFor files first bytes (record old { out = rest }) now f
sent-by files first bytes rest old now None g = record { before = g.before; turns = g.turns; plan = g.plan; within = g.within; few = g.few }
sent-by files first bytes rest old now (Some f) g = g

pub sent-got : (files : Files) (first : ℕ) (bytes rest : List ℕ) (old new : State) (now : ℕ) → HasGotFor files first bytes old now old.fault → new ≡ record old { out = rest } → HasGotFor files first bytes new now new.fault
sent-got files first bytes rest old new now got is =
    subst (λ (s : State). HasGotFor files first bytes s now s.fault) (sym is) (sent-by files first bytes rest old now old.fault got)

pub failed-got : (files : Files) (first : ℕ) (bytes : List ℕ) (old new : State) (now : ℕ) → HasGotFor files first bytes old now old.fault → new ≡ record old { hand = Empty; out = []; fault = Some fault.Link } → HasGotFor files first bytes new now new.fault
failed-got files first bytes old new now got is =
    subst (λ (s : State). HasGotFor files first bytes s now s.fault) (sym is) (got-all files first bytes old now old.fault got)

-- ---- over a link

pub start-gets : (files : Files) (now : ℕ) (wire : Wire) → GetsSince files now wire started now wire
start-gets files now wire = record { bytes = []; taken = sym (append-nil wire.taken); got = start-got files now }

pub read-gets : (files : Files) (first now : ℕ) (old new : State) (wire next : Wire) (piece : List ℕ) → want_of old ≡ want.Read → (new ≡ feeds old piece) ⊎ (new ≡ record old { fault = Some fault.Memory }) → Reads piece wire next → GetsOn files first now now old new wire next
read-gets files first now old new wire next piece read is reads = λ start since. record {
  bytes = since.bytes ++ piece;
  taken = reads.taken ∙ ap (λ (w : List ℕ). w ++ piece) since.taken ∙ append_assoc start.taken since.bytes piece;
  got = fed-got files first since.bytes piece old new now since.got read is;
}

pub same-taken : (wire next : Wire) → FailsToRead wire next → next.taken ≡ wire.taken
same-taken wire next (inl reads) = reads.taken ∙ append-nil wire.taken
same-taken wire next (inr same) = ap (λ (w : Wire). w.taken) same

link-failed : (files : Files) (first now : ℕ) (old new : State) (wire next : Wire) → next.taken ≡ wire.taken → new ≡ record old { hand = Empty; out = []; fault = Some fault.Link } → GetsOn files first now now old new wire next
link-failed files first now old new wire next same is = λ start since. record {
  bytes = since.bytes;
  taken = same ∙ since.taken;
  got = failed-got files first since.bytes old new now since.got is;
}

pub unread-gets : (files : Files) (first now : ℕ) (old new : State) (wire next : Wire) → FailsToRead wire next → new ≡ record old { hand = Empty; out = []; fault = Some fault.Link } → GetsOn files first now now old new wire next
unread-gets files first now old new wire next fails is = link-failed files first now old new wire next (same-taken wire next fails) is

pub unwritten-gets : (files : Files) (first now : ℕ) (old new : State) (wire : Wire) → new ≡ record old { hand = Empty; out = []; fault = Some fault.Link } → GetsOn files first now now old new wire wire
unwritten-gets files first now old new wire is = link-failed files first now old new wire wire refl is

pub write-gets : (files : Files) (first now : ℕ) (old new : State) (wire next : Wire) (passed rest : List ℕ) → Writes passed wire next → new ≡ record old { out = rest } → GetsOn files first now now old new wire next
write-gets files first now old new wire next passed rest writes is = λ start since. record {
  bytes = since.bytes;
  taken = writes.taken ∙ since.taken;
  got = sent-got files first since.bytes rest old new now since.got is;
}

pub work-gets : (files : Files) (first now next : ℕ) (old new : State) (wire : Wire) → want_of old ≡ want.Work → (new.fault ≡ None → IsOneStep old.hand old new) → GetsIn old.hand now next (Some files) → (HasPlanOf files old.hand → HasPlanOf files new.hand) → GetsOn files first now next old new wire wire
work-gets files first now next old new wire work step gets plans = λ start since. record {
  bytes = since.bytes;
  taken = since.taken;
  got = worked-got files first since.bytes old new now next since.got work step gets plans;
}

pub ends-gets : (files : Files) (first now : ℕ) (start wire : Wire) (state : State) → GetsSince files first start state now wire → GetsForRead files first now start wire
ends-gets files first now start wire state since = record {
  bytes = since.bytes;
  taken = since.taken;
  within = got-all files first since.bytes state now state.fault since.got;
}
