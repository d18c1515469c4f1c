-- What a session has sent, call by call.
use Rattle.std.proofs.Common.{inl, inr, ◌≡◌, ◌∙◌, ◌+◌, ◌-◌, ◌==◌, ◌<◌, ◌≤◌, ℕ, List, [], ◌∷◌, ◌++◌, length, take, get_or, Bool, true, false, ◌||◌, if◌then◌else◌, Option, Some, None, refl, sym, ap, subst, arith, append_assoc, append-nil}
use Rattle.std.specs.Prelude.{nat_lt}
use Rattle.std.specs.List.{AllByRecursion, flat_map}
use Rattle.ept_base.specs.Files.{Files}
use Rattle.ept_point.specs.declared.point.Point.{Point}
use Rattle.ept_query.specs.Damage.{HasTile}
use Rattle.std.proofs.lemmas.List.{take_more, take_all}
use Rattle.std.proofs.lemmas.List.Concat.{flat_map-append}
use Rattle.ept_space.specs.declared.box3.Box3.{Box3}
use Rattle.ept_space.specs.VoxelKey.{root}
use Rattle.ept_hier.specs.Hierarchy.{Node}
use Rattle.ept_http.specs.declared.asked.Asked.{Asked}
use Rattle.ept_http.specs.declared.asked.Asked.TheVariants as asked
use Rattle.ept_http.specs.declared.answer.HeadKind.TheVariants as head
use Rattle.ept_http.specs.Answers.{MayBeAsked}
use Rattle.ept_http.specs.AnswerHead.{head_text}
use Rattle.ept_query.specs.Parts.{Plan, node_at}
use Rattle.ept_conn.specs.declared.turn.Turn.{Turn}
use Rattle.ept_conn.specs.declared.hand.Hand.{Hand}
use Rattle.ept_conn.specs.declared.hand.Hand.TheVariants.{Empty, Decided, Tiles}
use Rattle.ept_conn.specs.Held.{Held, fresh, fed}
use Rattle.ept_conn.specs.HeadEnd.{Front, Whole, Long, Short, front}
use Rattle.ept_conn.specs.Turns.{AreDue, IsFirst, IsNext}
use Rattle.ept_conn.specs.Answers.{Served, chunk, chunks, last_chunk, answer_to, answer, answers, query_answer}
use Rattle.ept_conn.specs.State.{State, IsFit, started, feeds}
use Rattle.ept_conn.specs.Wanted.{Wanted, wanted, Wants, kept_of}
use Rattle.ept_conn.specs.InHand.{turns_in, begun_of}
use Rattle.ept_conn.specs.Works.{IsTurnsPlan, IsPlanned, IsPlanOfTurn, HasPlanOf, hand_to, out_to, hand_at, end_at, Begins, Gets, WorksOn, Works}
use Rattle.ept_conn.specs.Whole.{HasTiles, IsWholeFor, IsWhole, HasPlanIfOpen, HasFound, HasTilesDone}
use Rattle.ept_conn.specs.Ends.{has_last}
use Rattle.ept_conn.specs.History.{Goes}
use Rattle.ept_conn.proofs.Wanted.{wants-answer}
use Rattle.ept_conn.proofs.TurnLemmas.{next-due, next-asked}

-- ---- responses and chunks

pub answers-append : (served : Served) (xs ys : List Turn) → answers served (xs ++ ys) ≡ answers served xs ++ answers served ys
unfolding answers
answers-append served xs ys = flat_map-append (answer served) xs ys

pub answers-none : (served : Served) → answers served [] ≡ []
unfolding answers
answers-none served = refl

pub answers-one : (served : Served) (turn : Turn) → answers served (turn ∷ []) ≡ answer served turn
unfolding answers
answers-one served turn = append-nil (answer served turn)

answers-more : (served : Served) (before : List Turn) (turn : Turn) → answers served before ++ answer served turn ≡ answers served (before ++ turn ∷ [])
answers-more served before turn = ap (λ (w : List ℕ). answers served before ++ w) (sym (answers-one served turn)) ∙ sym (answers-append served before (turn ∷ []))

chunks-more : (served : Served) (a : Asked) (area : Box3) (nodes : List Node) (done : ℕ) → done < length nodes → chunks served a area (take (done + 1) nodes) ≡ chunks served a area (take done nodes) ++ chunk (kept_of a (served.part area (get_or nodes done (root, 0))))
chunks-more served a area nodes done within =
    let f : Node → List ℕ = λ node. chunk (kept_of a (served.part area node)) in
    ap (flat_map f) (take_more nodes done (root, 0) within)
    ∙ flat_map-append f (take done nodes) (get_or nodes done (root, 0) ∷ [])
    ∙ ap (λ (w : List ℕ). flat_map f (take done nodes) ++ w) (append-nil (f (get_or nodes done (root, 0))))

-- ---- the last turn

last-here : (before behind : List Turn) (turn : Turn) → turn.last ≡ true → has_last (before ++ (turn ∷ behind)) ≡ true
last-here [] behind turn last = ap (λ (b : Bool). b || has_last behind) last
last-here (t ∷ before) behind turn last = ap (λ (b : Bool). t.last || b) (last-here before behind turn last) ∙ or-true t.last
  where
    or-true : (b : Bool) → b || true ≡ true
    or-true true = refl
    or-true false = refl

-- if a turn is not the last one, more turns may follow
first-room : (behind : ℕ) (bytes : List ℕ) (f : Front) (turn : Turn) → IsFirst behind bytes f turn → turn.last ≡ false → 0 < behind
first-room behind bytes Short turn first on = absurd first
first-room behind bytes Long turn first on =
    let last : turn.last ≡ true = ap (λ (t : Turn). t.last) first in
    absurd cc
first-room behind bytes (Whole len) turn first on = some-behind behind first.closes (sym first.ends ∙ on)
  where
    some-behind : (n : ℕ) (closes : Bool) → closes || n == 0 ≡ false → 0 < n
    some-behind n true is = absurd cc
    some-behind n false is = grind (arith, is)

next-room : (old new : Held) (turn : Turn) → IsNext old turn new → new.ended ≡ false → new.given < 65536
next-room old new turn next on =
    let some = first-room (65536 - old.given - 1) old.bytes (front old.bytes) turn next.first (sym next.ended ∙ on) in
    let given = next.given in
    omega (arith, some, given)

-- ---- what is there

all-push : {X : Type 0} (P : X → Type 0) (xs : List X) (x : X) → AllByRecursion P xs → P x → AllByRecursion P (xs ++ x ∷ [])
all-push P [] x all one = (one, tt)
all-push P (y ∷ ys) x all one = (all.0, all-push P ys x all.1 one)

none-needed : (files : Files) (turn : Turn) (a : Asked) → turn.asked ≡ a → IsWholeFor files (wanted a) → IsWhole files turn
none-needed files turn a is whole = subst (λ (b : Asked). IsWholeFor files (wanted b)) (sym is) whole

-- ---- a session that continues

pub start-goes : (served : Served) → Goes served [] [] started
start-goes served = record {
  before = [];
  turns = λ more others due. due;
  over = λ ended. absurd cc;
  room = λ going. omega arith;
  fit = tt;
  planned = tt;
  has_plan = tt;
  tiles = tt;
  whole = tt;
  written = sym (append-nil (answers served []) ∙ answers-none served);
}

pub fed-goes : (served : Served) (bytes sent piece : List ℕ) (state : State) → Goes served bytes sent state → Goes served (bytes ++ piece) sent (feeds state piece)
fed-goes served bytes sent [] state g =
    let now : Goes served bytes sent (record state { closed = true }) = record { before = g.before; turns = g.turns; over = g.over; room = g.room; fit = g.fit; planned = g.planned; has_plan = g.has_plan; tiles = g.tiles; whole = g.whole; written = g.written } in
    subst (λ (w : List ℕ). Goes served w sent (record state { closed = true })) (sym (append-nil bytes)) now
fed-goes served bytes sent (b ∷ piece) state g = record {
  before = g.before;
  turns = λ more others due.
      let D : List ℕ → Type 0 = λ w. AreDue (record state.held { bytes = w }) others in
      let behind : AreDue (fed state.held ((b ∷ piece) ++ more)) others = subst D (append_assoc state.held.bytes (b ∷ piece) more) due in
      let F : List ℕ → Type 0 = λ w. AreDue (fed fresh w) (g.before ++ (turns_in state.hand ++ others)) in
      subst F (sym (append_assoc bytes (b ∷ piece) more)) (g.turns ((b ∷ piece) ++ more) others behind);
  over = g.over;
  room = g.room;
  fit = g.fit;
  planned = g.planned;
  has_plan = g.has_plan;
  tiles = g.tiles;
  whole = g.whole;
  written = g.written;
}

-- what was sent, if nothing is to be sent now
pub sent-before : (served : Served) (bytes sent : List ℕ) (old : State) (hand : Hand) (g : Goes served bytes sent old) → old.out ≡ [] → old.hand ≡ hand → sent ≡ answers served g.before ++ begun_of served hand
sent-before served bytes sent old hand g out is =
    sym (append-nil sent) ∙ ap (λ (w : List ℕ). sent ++ w) (sym out) ∙ g.written ∙ ap (λ (h : Hand). answers served g.before ++ begun_of served h) is

-- a turn comes next after those with a response, whatever bytes follow
record Stands (bytes : List ℕ) (held : Held) (before : List Turn) (turn : Turn) : Type 0 where
  turns : (more : List ℕ) (others : List Turn) → AreDue (fed held more) others → AreDue (fed fresh (bytes ++ more)) (before ++ (turn ∷ others))
  over : held.ended ≡ true → has_last (before ++ turn ∷ []) ≡ true
  room : held.ended ≡ false → held.given < 65536

-- it has its response now
answered : (served : Served) (bytes sent : List ℕ) (before : List Turn) (turn : Turn) (new : State) → AllByRecursion (IsWhole served.files) before → IsWhole served.files turn → Stands bytes new.held before turn → new.hand ≡ Empty → sent ++ new.out ≡ answers served before ++ answer served turn → Goes served bytes sent new
answered served bytes sent before turn new whole one stands hand written = record {
  before = before ++ turn ∷ [];
  turns = λ more others due.
      let H : Hand → Type 0 = λ h. AreDue (fed fresh (bytes ++ more)) ((before ++ turn ∷ []) ++ (turns_in h ++ others)) in
      subst H (sym hand) (subst (λ (ts : List Turn). AreDue (fed fresh (bytes ++ more)) ts) (sym (append_assoc before (turn ∷ []) others)) (stands.turns more others due));
  over = λ ended.
      let H : Hand → Type 0 = λ h. has_last ((before ++ turn ∷ []) ++ turns_in h) ≡ true in
      subst H (sym hand) (ap has_last (append-nil (before ++ turn ∷ [])) ∙ stands.over ended);
  room = stands.room;
  fit = subst IsFit (sym hand) tt;
  planned = subst (IsPlanned served) (sym hand) tt;
  has_plan = subst (HasPlanOf served.files) (sym hand) tt;
  tiles = subst (HasTilesDone served.files) (sym hand) tt;
  whole = all-push (IsWhole served.files) before turn whole one;
  written = written ∙ answers-more served before turn ∙ sym (ap (λ (h : Hand). answers served (before ++ turn ∷ []) ++ begun_of served h) hand ∙ append-nil (answers served (before ++ turn ∷ [])));
}

-- it stays in hand
stays : (served : Served) (bytes sent : List ℕ) (before : List Turn) (turn : Turn) (new : State) (hand : Hand) → AllByRecursion (IsWhole served.files) before → HasPlanOf served.files hand → HasTilesDone served.files hand → Stands bytes new.held before turn → new.hand ≡ hand → turns_in hand ≡ turn ∷ [] → IsFit hand → IsPlanned served hand → sent ++ new.out ≡ answers served before ++ begun_of served hand → Goes served bytes sent new
stays served bytes sent before turn new hand whole has_plan tiles stands is one fit planned written =
    let turns_now : turns_in new.hand ≡ turn ∷ [] = ap turns_in is ∙ one in record {
      before = before;
      turns = λ more others due. subst (λ (ts : List Turn). AreDue (fed fresh (bytes ++ more)) (before ++ (ts ++ others))) (sym turns_now) (stands.turns more others due);
      over = λ ended. ap (λ (ts : List Turn). has_last (before ++ ts)) turns_now ∙ stands.over ended;
      room = stands.room;
      fit = subst IsFit (sym is) fit;
      planned = subst (IsPlanned served) (sym is) planned;
      has_plan = subst (HasPlanOf served.files) (sym is) has_plan;
      tiles = subst (HasTilesDone served.files) (sym is) tiles;
      whole = whole;
      written = written ∙ sym (ap (λ (h : Hand). answers served before ++ begun_of served h) is);
    }

-- the turn that was decided comes next
decided-stands : (served : Served) (bytes sent : List ℕ) (old new : State) (turn : Turn) (g : Goes served bytes sent old) → old.hand ≡ Empty → IsNext old.held turn new.held → Stands bytes new.held g.before turn
decided-stands served bytes sent old new turn g empty next = record {
  turns = λ more others due.
      let H : Hand → Type 0 = λ h. AreDue (fed fresh (bytes ++ more)) (g.before ++ (turns_in h ++ (turn ∷ others))) in
      subst H empty (g.turns more (turn ∷ others) (next-due old.held new.held turn next more others due));
  over = λ ended. last-here g.before [] turn (sym next.ended ∙ ended);
  room = next-room old.held new.held turn next;
}

-- so does the turn in hand
hand-stands : (served : Served) (bytes sent : List ℕ) (old new : State) (hand : Hand) (turn : Turn) (g : Goes served bytes sent old) → old.hand ≡ hand → turns_in hand ≡ turn ∷ [] → new.held ≡ old.held → Stands bytes new.held g.before turn
hand-stands served bytes sent old new hand turn g is one same =
    let now : turns_in old.hand ≡ turn ∷ [] = ap turns_in is ∙ one in
    let stands : Stands bytes old.held g.before turn = record {
      turns = λ more others due. subst (λ (ts : List Turn). AreDue (fed fresh (bytes ++ more)) (g.before ++ (ts ++ others))) now (g.turns more others due);
      over = λ ended. sym (ap (λ (ts : List Turn). has_last (g.before ++ ts)) now) ∙ g.over ended;
      room = g.room;
    } in
    subst (λ (h : Held). Stands bytes h g.before turn) (sym same) stands

decided-goes : (served : Served) (bytes sent : List ℕ) (before : List Turn) (new : State) (turn : Turn) (a : Asked) → AllByRecursion (IsWhole served.files) before → turn.asked ≡ a → MayBeAsked turn.asked → Stands bytes new.held before turn → sent ≡ answers served before → new.hand ≡ hand_to a turn → new.out ≡ out_to a turn.last → Goes served bytes sent new
decided-goes served bytes sent before new turn (asked.File name) whole is may stands all hand out =
    stays served bytes sent before turn new (Decided turn) whole tt tt stands hand refl may tt (ap (λ (w : List ℕ). sent ++ w) out ∙ append-nil sent ∙ all ∙ sym (append-nil (answers served before)))
decided-goes served bytes sent before new turn (asked.Query area first second) whole is may stands all hand out =
    stays served bytes sent before turn new (Decided turn) whole tt tt stands hand refl may tt (ap (λ (w : List ℕ). sent ++ w) out ∙ append-nil sent ∙ all ∙ sym (append-nil (answers served before)))
decided-goes served bytes sent before new turn (asked.Select area first second sift) whole is may stands all hand out =
    stays served bytes sent before turn new (Decided turn) whole tt tt stands hand refl may tt (ap (λ (w : List ℕ). sent ++ w) out ∙ append-nil sent ∙ all ∙ sym (append-nil (answers served before)))
decided-goes served bytes sent before new turn (asked.Refuse status) whole is may stands all hand out =
    let text : new.out ≡ answer served turn = out ∙ sym (ap (λ (a : Asked). answer_to served a turn.last) is) in
    answered served bytes sent before turn new whole (none-needed served.files turn (asked.Refuse status) is tt) stands hand (ap (λ (w : List ℕ). sent ++ w) text ∙ ap (λ (w : List ℕ). w ++ answer served turn) all)

-- the whole response was output at once
answered-at-once : (served : Served) (bytes sent : List ℕ) (before : List Turn) (turn : Turn) (a : Asked) (new : State) → AllByRecursion (IsWhole served.files) before → IsWholeFor served.files (wanted a) → turn.asked ≡ a → Stands bytes new.held before turn → sent ≡ answers served before → new.hand ≡ Empty → new.out ≡ answer_to served a turn.last → Goes served bytes sent new
answered-at-once served bytes sent before turn a new whole one is stands all hand out =
    let text : new.out ≡ answer served turn = out ∙ sym (ap (λ (b : Asked). answer_to served b turn.last) is) in
    answered served bytes sent before turn new whole (none-needed served.files turn a is one) stands hand (ap (λ (w : List ℕ). sent ++ w) text ∙ ap (λ (w : List ℕ). w ++ answer served turn) all)

-- ---- queries

more-at : (turn : Turn) (plan : Plan) (done : ℕ) → nat_lt done (length plan.tiles) ≡ true → (hand_at turn plan done ≡ Tiles turn plan done) × (end_at plan done ≡ [])
more-at turn plan done is = (ap (λ (b : Bool). if b then Tiles turn plan done else Empty) is, ap (λ (b : Bool). if b then [] else last_chunk) is)

over-at : (turn : Turn) (plan : Plan) (done : ℕ) → nat_lt done (length plan.tiles) ≡ false → (hand_at turn plan done ≡ Empty) × (end_at plan done ≡ last_chunk)
over-at turn plan done is = (ap (λ (b : Bool). if b then Tiles turn plan done else Empty) is, ap (λ (b : Bool). if b then [] else last_chunk) is)

-- one more tile is there
is-below : (n m : ℕ) → nat_lt n m ≡ true → n < m
is-below n m is = grind (arith, is)

is-last : (n m : ℕ) → nat_lt n m ≡ false → n < m + 1 → m ≡ n
is-last n m is less = grind (arith, is, less)

abbrev IsThere : Files → Plan → ℕ → Type 0
IsThere files plan at = (points : List Point) × HasTile files (node_at plan at).0 (node_at plan at).1 points

tiles-more : (files : Files) (plan : Plan) (done : ℕ) → HasTiles files plan done → IsThere files plan done → HasTiles files plan (done + 1)
tiles-more files plan done tiles next at within = either (nat_lt at done) refl
  where
    either : (b : Bool) → nat_lt at done ≡ b → IsThere files plan at
    either true below = tiles at (is-below at done below)
    either false over = subst (IsThere files plan) (is-last at done over within) next

-- if the turn does not stay in hand, its plan has no tile
no-tiles : (turn : Turn) (plan : Plan) → hand_at turn plan 0 ≡ Empty → length plan.tiles ≡ 0
no-tiles turn plan is = either (nat_lt 0 (length plan.tiles)) refl
  where
    either : (b : Bool) → nat_lt 0 (length plan.tiles) ≡ b → length plan.tiles ≡ 0
    either true more =
        let both : Tiles turn plan 0 ≡ Empty = sym (more-at turn plan 0 more).0 ∙ is in
        absurd cc
    either false none = grind (arith, none)

at-once-whole : (files : Files) (turn : Turn) (points : Wanted) (new : State) → HasPlanIfOpen files turn (Some points) new → new.hand ≡ Empty → IsWholeFor files (Some points)
at-once-whole files turn points new (inl shut) empty = inl shut
at-once-whole files turn points new (inr made) empty =
    let none = no-tiles turn made.plan (sym made.hand ∙ empty) in
    inr (record { plan = made.plan; is_plan = made.is_plan; tiles = λ at within. absurd (omega (arith, within, none)) })

begun-whole : (files : Files) (turn : Turn) (a : Asked) (points : Wanted) (new : State) → wanted a ≡ Some points → HasPlanIfOpen files turn (wanted a) new → new.hand ≡ Empty → IsWholeFor files (wanted a)
begun-whole files turn a points new wants made empty =
    subst (IsWholeFor files) (sym wants) (at-once-whole files turn points new (subst (λ (w : Option Wanted). HasPlanIfOpen files turn w new) wants made) empty)

-- the part of a query's response that was output, tile by tile
shifted : (a h c k : List ℕ) → (a ++ (h ++ c)) ++ (k ++ []) ≡ a ++ (h ++ (c ++ k))
shifted a h c k = simp (append_assoc, append-nil) refl

shifted-over : (a h c k l : List ℕ) → (a ++ (h ++ c)) ++ (k ++ l) ≡ a ++ (h ++ ((c ++ k) ++ l))
shifted-over a h c k l = simp (append_assoc, append-nil) refl

tile-goes : (served : Served) (bytes sent : List ℕ) (before : List Turn) (turn : Turn) (plan : Plan) (done : ℕ) (new : State) (b : Bool) → nat_lt (done + 1) (length plan.tiles) ≡ b → AllByRecursion (IsWhole served.files) before → IsPlanOfTurn served.files turn plan → HasTiles served.files plan (done + 1) → done < length plan.tiles → IsTurnsPlan served turn plan → Stands bytes new.held before turn → sent ≡ answers served before ++ begun_of served (Tiles turn plan done) → new.hand ≡ hand_at turn plan (done + 1) → new.out ≡ chunk (kept_of turn.asked (served.part plan.area (node_at plan done))) ++ end_at plan (done + 1) → Goes served bytes sent new
tile-goes served bytes sent before turn plan done new true more whole has_plan tiles within planned stands all hand out =
    let there = more-at turn plan (done + 1) more in
    let k = chunk (kept_of turn.asked (served.part plan.area (node_at plan done))) in
    let text : new.out ≡ k ++ [] = out ∙ ap (λ (w : List ℕ). k ++ w) there.1 in
    let front = chunks served turn.asked plan.area (take done plan.tiles) in
    let written : sent ++ new.out ≡ answers served before ++ begun_of served (Tiles turn plan (done + 1)) =
    ap (λ (w : List ℕ). sent ++ w) text ∙ ap (λ (w : List ℕ). w ++ (k ++ [])) all
    ∙ shifted (answers served before) (head_text (head.Query turn.last)) front k
    ∙ sym (ap (λ (w : List ℕ). answers served before ++ (head_text (head.Query turn.last) ++ w)) (chunks-more served turn.asked plan.area plan.tiles done within)) in
    stays served bytes sent before turn new (Tiles turn plan (done + 1)) whole has_plan tiles stands (hand ∙ there.0) refl (fit-more (done + 1) (length plan.tiles) more) planned written
  where
    fit-more : (n m : ℕ) → nat_lt n m ≡ true → n < m
    fit-more n m is = grind (arith, is)
tile-goes served bytes sent before turn plan done new false over sound has_plan tiles within planned stands all hand out =
    let there = over-at turn plan (done + 1) over in
    let k = chunk (kept_of turn.asked (served.part plan.area (node_at plan done))) in
    let text : new.out ≡ k ++ last_chunk = out ∙ ap (λ (w : List ℕ). k ++ w) there.1 in
    let front = chunks served turn.asked plan.area (take done plan.tiles) in
    let whole : chunks served turn.asked plan.area plan.tiles ≡ front ++ k =
    sym (ap (chunks served turn.asked plan.area) (take_all (done + 1) plan.tiles (not-more done plan over))) ∙ chunks-more served turn.asked plan.area plan.tiles done within in
    let answer-is : answer served turn ≡ head_text (head.Query turn.last) ++ (chunks served turn.asked plan.area plan.tiles ++ last_chunk) =
    wants-answer served turn.asked plan.area planned.first planned.second turn.last planned.wants ∙ ap (λ (p : Option (List Node)). query_answer served turn.asked plan.area turn.last p) planned.plan_is in
    let written : sent ++ new.out ≡ answers served before ++ answer served turn =
    ap (λ (w : List ℕ). sent ++ w) text ∙ ap (λ (w : List ℕ). w ++ (k ++ last_chunk)) all
    ∙ shifted-over (answers served before) (head_text (head.Query turn.last)) front k last_chunk
    ∙ sym (ap (λ (w : List ℕ). answers served before ++ w) answer-is ∙ ap (λ (w : List ℕ). answers served before ++ (head_text (head.Query turn.last) ++ (w ++ last_chunk))) whole) in
    let all_there : IsWhole served.files turn = subst (IsWholeFor served.files) (sym has_plan.wants) (inr (record {
      plan = plan;
      is_plan = has_plan.is_plan;
      tiles = λ at below. tiles at (at-most at (length plan.tiles) (done + 1) below (not-more done plan over));
    })) in
    answered served bytes sent before turn new sound all_there stands (hand ∙ there.0) written
  where
    at-most : (n m k : ℕ) → n < m → m ≤ k → n < k
    at-most n m k below up = omega (arith, below, up)

    not-more : (done : ℕ) (plan : Plan) → nat_lt (done + 1) (length plan.tiles) ≡ false → length plan.tiles ≤ done + 1
    not-more done plan over = grind (arith, over)

begun-goes : (served : Served) (bytes sent : List ℕ) (before : List Turn) (turn : Turn) (a : Asked) (area : Box3) (first second : ℕ) (found : Option (List Node)) (new : State) → AllByRecursion (IsWhole served.files) before → HasPlanOf served.files new.hand → HasPlanIfOpen served.files turn (wanted a) new → turn.asked ≡ a → Wants a area first second → served.plan area first second ≡ found → Stands bytes new.held before turn → sent ≡ answers served before → Begins turn area found new → Goes served bytes sent new
begun-goes served bytes sent before turn a area first second None new whole has_plan made is wants plan_is stands all begins =
    let text = wants-answer served a area first second turn.last wants ∙ ap (query_answer served a area turn.last) plan_is in
    answered-at-once served bytes sent before turn a new whole (begun-whole served.files turn a (record { area = area; first = first; second = second }) new wants made begins.0) is stands all begins.0 (begins.1 ∙ sym text)
begun-goes served bytes sent before turn a area first second (Some []) new whole has_plan made is wants plan_is stands all begins =
    let text = wants-answer served a area first second turn.last wants ∙ ap (query_answer served a area turn.last) plan_is in
    answered-at-once served bytes sent before turn a new whole (begun-whole served.files turn a (record { area = area; first = first; second = second }) new wants made begins.0) is stands all begins.0 (begins.1 ∙ sym text)
begun-goes served bytes sent before turn a area first second (Some (n ∷ ns)) new whole has_plan made is wants plan_is stands all begins =
    let plan : Plan = record { area = area; tiles = n ∷ ns } in
    let there = more-at turn plan 0 (grind arith) in
    let text : new.out ≡ head_text (head.Query turn.last) ++ [] = begins.1 ∙ ap (λ (w : List ℕ). head_text (head.Query turn.last) ++ w) there.1 in
    stays served bytes sent before turn new (Tiles turn plan 0) whole (subst (HasPlanOf served.files) (begins.0 ∙ there.0) has_plan) (λ at within. absurd (omega (arith, within))) stands (begins.0 ∙ there.0) refl (omega arith) (record { first = first; second = second; wants = ap wanted is ∙ wants; plan_is = plan_is }) (ap (λ (w : List ℕ). sent ++ w) text ∙ ap (λ (w : List ℕ). w ++ (head_text (head.Query turn.last) ++ [])) all)

got-goes : (served : Served) (bytes sent : List ℕ) (before : List Turn) (turn : Turn) (a : Asked) (new : State) → AllByRecursion (IsWhole served.files) before → HasPlanOf served.files new.hand → HasPlanIfOpen served.files turn (wanted a) new → turn.asked ≡ a → Stands bytes new.held before turn → sent ≡ answers served before → Gets served turn a new → Goes served bytes sent new
got-goes served bytes sent before turn (asked.File name) new whole has_plan made is stands all gets =
    answered-at-once served bytes sent before turn (asked.File name) new whole tt is stands all gets.0 gets.1
got-goes served bytes sent before turn (asked.Query area first second) new whole has_plan made is stands all gets =
    begun-goes served bytes sent before turn (asked.Query area first second) area first second (served.plan area first second) new whole has_plan made is refl refl stands all gets
got-goes served bytes sent before turn (asked.Select area first second sift) new whole has_plan made is stands all gets =
    begun-goes served bytes sent before turn (asked.Select area first second sift) area first second (served.plan area first second) new whole has_plan made is refl refl stands all gets
got-goes served bytes sent before turn (asked.Refuse status) new whole has_plan made is stands all gets =
    answered-at-once served bytes sent before turn (asked.Refuse status) new whole tt is stands all gets.0 gets.1

-- ---- one piece of work

worked-on : (served : Served) (bytes sent : List ℕ) (old new : State) (hand : Hand) → old.hand ≡ hand → old.out ≡ [] → Goes served bytes sent old → WorksOn served hand old new → HasPlanOf served.files new.hand → HasFound served.files hand new → Goes served bytes sent new
worked-on served bytes sent old new Empty is out g works has_plan found =
    let all = sent-before served bytes sent old Empty g out is ∙ append-nil (answers served g.before) in
    decided-goes served bytes sent g.before new works.turn works.turn.asked g.whole refl (next-asked old.held new.held works.turn works.next) (decided-stands served bytes sent old new works.turn g is works.next) all works.hand works.out
worked-on served bytes sent old new (Decided turn) is out g works has_plan found =
    let all = sent-before served bytes sent old (Decided turn) g out is ∙ append-nil (answers served g.before) in
    got-goes served bytes sent g.before turn turn.asked new g.whole has_plan found refl (hand-stands served bytes sent old new (Decided turn) turn g is refl works.0) all works.1
worked-on served bytes sent old new (Tiles turn plan done) is out g works has_plan found =
    let all = sent-before served bytes sent old (Tiles turn plan done) g out is in
    let planned = subst (IsPlanned served) is g.planned in
    let was_plan = subst (HasPlanOf served.files) is g.has_plan in
    let tiles = subst (HasTilesDone served.files) is g.tiles in
    let fit = subst IsFit is g.fit in
    tile-goes served bytes sent g.before turn plan done new (nat_lt (done + 1) (length plan.tiles)) refl g.whole was_plan (tiles-more served.files plan done tiles found) fit planned (hand-stands served bytes sent old new (Tiles turn plan done) turn g is refl works.0) all works.1 works.2

pub worked-goes : (served : Served) (bytes sent : List ℕ) (old new : State) → old.out ≡ [] → Goes served bytes sent old → Works served old new → (HasPlanOf served.files old.hand → HasPlanOf served.files new.hand) → HasFound served.files old.hand new → Goes served bytes sent new
worked-goes served bytes sent old new out g works plans found = worked-on served bytes sent old new old.hand refl out g works (plans g.has_plan) found

-- ---- what was sent

pub sent-goes : (served : Served) (bytes sent first rest : List ℕ) (old new : State) → Goes served bytes sent old → old.out ≡ first ++ rest → new ≡ record old { out = rest } → Goes served bytes (sent ++ first) new
sent-goes served bytes sent first rest old new g split is =
    let now : Goes served bytes (sent ++ first) (record old { out = rest }) = record {
      before = g.before;
      turns = g.turns;
      over = g.over;
      room = g.room;
      fit = g.fit;
      planned = g.planned;
      has_plan = g.has_plan;
      tiles = g.tiles;
      whole = g.whole;
      written = append_assoc sent first rest ∙ ap (λ (w : List ℕ). sent ++ w) (sym split) ∙ g.written;
    } in
    subst (λ (s : State). Goes served bytes (sent ++ first) s) (sym is) now
