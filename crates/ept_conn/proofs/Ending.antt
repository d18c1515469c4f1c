-- What a session has sent when it ends.
use Rattle.std.proofs.Common.{◌≡◌, ◌∙◌, ◌<◌, inl, inr, ℕ, List, [], ◌∷◌, ◌++◌, length, take, drop, true, false, Option, refl, sym, ap, subst, arith, append_assoc, append-nil}
use Rattle.std.specs.List.{AllByRecursion, flat_map}
use Rattle.std.proofs.lemmas.List.{take-append-drop}
use Rattle.std.proofs.lemmas.List.Concat.{flat_map-append}
use Rattle.ept_hier.specs.Hierarchy.{Node}
use Rattle.ept_http.specs.declared.answer.HeadKind.TheVariants as head
use Rattle.ept_http.specs.AnswerHead.{head_text}
use Rattle.ept_query.specs.declared.query_error.QueryFile.{QueryFile}
use Rattle.ept_query.specs.Parts.{Plan}
use Rattle.ept_conn.specs.declared.turn.Turn.{Turn}
use Rattle.ept_conn.specs.declared.hand.Hand.{Hand}
use Rattle.ept_conn.specs.declared.hand.Hand.TheVariants.{Empty, Decided, Tiles}
use Rattle.ept_conn.specs.declared.end.Fault.{Fault}
use Rattle.ept_conn.specs.declared.end.Fault.TheVariants as fault
use Rattle.ept_conn.specs.Held.{fresh, fed, has_turn}
use Rattle.ept_conn.specs.Turns.{AreDue}
use Rattle.ept_conn.specs.Answers.{Served, chunk, chunks, last_chunk, answers, query_answer}
use Rattle.ept_conn.specs.State.{State, IsFit}
use Rattle.ept_conn.specs.Wanted.{kept_of}
use Rattle.ept_conn.specs.InHand.{turns_in, begun_of, rest_of}
use Rattle.ept_conn.specs.Works.{IsTurnsPlan, IsPlanned, IsPlanOfTurn, HasPlanOf, IsLastOf, IsLastWord, Stops, IsDamagedFor, IsDamagedIn}
use Rattle.ept_conn.specs.Whole.{HasTiles, IsWhole, HasAnswered, HasTilesDone}
use Rattle.ept_conn.specs.Ends.{has_last, EndsItself, IsCutOff, IsQueryFront, AreLastWords, EndsBefore, AreLastBytes, IsBroken}
use Rattle.ept_conn.specs.History.{Goes}
use Rattle.ept_conn.proofs.Wanted.{wants-answer}
use Rattle.ept_conn.proofs.TurnLemmas.{some-due, idle-due}
use Rattle.ept_conn.proofs.Sending.{answers-none, answers-one, sent-before}
use Rattle.ept_conn.proofs.Wanting.{IsAtRest, has-none-idle}

-- ---- the turns without a response

-- the turns of the bytes, with more after them: those with a response, the turn in hand, and those of what is held
some-others : (served : Served) (bytes sent more : List ℕ) (old : State) (hand : Hand) (g : Goes served bytes sent old) → old.hand ≡ hand → (others : List Turn) × AreDue (fed fresh (bytes ++ more)) (g.before ++ (turns_in hand ++ others))
some-others served bytes sent more old hand g is =
    let due = some-due (fed old.held more) in
    let H : Hand → Type 0 = λ h. AreDue (fed fresh (bytes ++ more)) (g.before ++ (turns_in h ++ due.0)) in
    (due.0, subst H is (g.turns more due.0 due.1))

others-now : (served : Served) (bytes sent : List ℕ) (old : State) (hand : Hand) (g : Goes served bytes sent old) → old.hand ≡ hand → (others : List Turn) × AreDue (fed fresh bytes) (g.before ++ (turns_in hand ++ others))
others-now served bytes sent old hand g is =
    let some = some-others served bytes sent [] old hand g is in
    (some.0, subst (λ (w : List ℕ). AreDue (fed fresh w) (g.before ++ (turns_in hand ++ some.0))) (append-nil bytes) some.1)

-- ---- a refusal in the work

word-cut : (served : Served) (bytes sent : List ℕ) (cause : Fault) (before others : List Turn) (word : List ℕ) → AreDue (fed fresh bytes) (before ++ others) → AllByRecursion (IsWhole served.files) before → sent ≡ answers served before → IsLastWord cause word → IsCutOff served bytes (AreLastWords served cause) (sent ++ word)
word-cut served bytes sent cause before others word due whole all is = record {
  before = before;
  others = others;
  due = due;
  whole = whole;
  words = word;
  fits = inl is;
  text_is = ap (λ (w : List ℕ). w ++ word) all;
}

-- the part of the response to a query that was output
front-of : (served : Served) (turn : Turn) (plan : Plan) (done : ℕ) → IsTurnsPlan served turn plan → IsPlanOfTurn served.files turn plan → HasTiles served.files plan done → done < length plan.tiles → IsQueryFront served turn (begun_of served (Tiles turn plan done))
front-of served turn plan done planned has_plan tiles fit = record {
  area = plan.area;
  first = planned.first;
  second = planned.second;
  nodes = plan.tiles;
  done = done;
  wants = planned.wants;
  plan = planned.plan_is;
  has = has_plan;
  tiles = tiles;
  within = omega (arith, fit);
  text_is = refl;
}

stopped-by : (served : Served) (bytes sent : List ℕ) (old new : State) (cause : Fault) (hand : Hand) → old.hand ≡ hand → old.out ≡ [] → Goes served bytes sent old → IsLastOf hand cause new.out → IsCutOff served bytes (AreLastWords served cause) (sent ++ new.out)
stopped-by served bytes sent old new cause Empty is out g words =
    let some = others-now served bytes sent old Empty g is in
    let all = sent-before served bytes sent old Empty g out is ∙ append-nil (answers served g.before) in
    word-cut served bytes sent cause g.before some.0 new.out some.1 g.whole all words
stopped-by served bytes sent old new cause (Decided turn) is out g words =
    let some = others-now served bytes sent old (Decided turn) g is in
    let all = sent-before served bytes sent old (Decided turn) g out is ∙ append-nil (answers served g.before) in
    word-cut served bytes sent cause g.before (turn ∷ some.0) new.out some.1 g.whole all words
stopped-by served bytes sent old new cause (Tiles turn plan done) is out g words =
    let some = others-now served bytes sent old (Tiles turn plan done) g is in
    let all = sent-before served bytes sent old (Tiles turn plan done) g out is in
    let fit = subst IsFit is g.fit in
    let planned = subst (IsPlanned served) is g.planned in
    let has_plan = subst (HasPlanOf served.files) is g.has_plan in
    let tiles = subst (HasTilesDone served.files) is g.tiles in record {
      before = g.before;
      others = turn ∷ some.0;
      due = some.1;
      whole = g.whole;
      words = begun_of served (Tiles turn plan done);
      fits = inr (front-of served turn plan done planned has_plan tiles fit);
      text_is = ap (λ (w : List ℕ). sent ++ w) words ∙ append-nil sent ∙ all;
    }

pub stopped-cut : (served : Served) (bytes sent : List ℕ) (old new : State) (cause : Fault) → old.out ≡ [] → Goes served bytes sent old → Stops old.hand new cause → IsCutOff served bytes (AreLastWords served cause) (sent ++ new.out)
stopped-cut served bytes sent old new cause out g stops =
    stopped-by served bytes sent old new cause old.hand refl out g stops.words

-- ---- a damaged file

damaged-by : (served : Served) (bytes sent : List ℕ) (old new : State) (found : QueryFile) (hand : Hand) (turn : Turn) → old.hand ≡ hand → turns_in hand ≡ turn ∷ [] → old.out ≡ [] → Goes served bytes sent old → IsLastOf hand (fault.Damaged found) new.out → IsDamagedIn hand found served.files → IsCutOff served bytes (EndsBefore served found) (sent ++ new.out)
damaged-by served bytes sent old new found hand turn is one out g words damaged =
    let some = others-now served bytes sent old hand g is in
    let all = sent-before served bytes sent old hand g out is in record {
      before = g.before;
      others = turn ∷ some.0;
      due = subst (λ (ts : List Turn). AreDue (fed fresh bytes) (g.before ++ (ts ++ some.0))) one some.1;
      whole = g.whole;
      words = begun_of served hand ++ new.out;
      fits = record {
        hand = hand;
        of_turn = one;
        planned = subst (IsPlanned served) is g.planned;
        has_plan = subst (HasPlanOf served.files) is g.has_plan;
        tiles = subst (HasTilesDone served.files) is g.tiles;
        fit = subst IsFit is g.fit;
        damaged = damaged;
        word = new.out;
        last = words;
        words_are = refl;
      };
      text_is = ap (λ (w : List ℕ). w ++ new.out) all ∙ append_assoc (answers served g.before) (begun_of served hand) new.out;
    }

damaged-on : (served : Served) (bytes sent : List ℕ) (old new : State) (found : QueryFile) (hand : Hand) → old.hand ≡ hand → old.out ≡ [] → Goes served bytes sent old → IsLastOf hand (fault.Damaged found) new.out → IsDamagedIn hand found served.files → IsCutOff served bytes (EndsBefore served found) (sent ++ new.out)
damaged-on served bytes sent old new found Empty is out g words damaged = absurd damaged
damaged-on served bytes sent old new found (Decided turn) is out g words damaged =
    damaged-by served bytes sent old new found (Decided turn) turn is refl out g words damaged
damaged-on served bytes sent old new found (Tiles turn plan done) is out g words damaged =
    damaged-by served bytes sent old new found (Tiles turn plan done) turn is refl out g words damaged

pub damaged-cut : (served : Served) (bytes sent : List ℕ) (old new : State) (found : QueryFile) → old.out ≡ [] → Goes served bytes sent old → Stops old.hand new (fault.Damaged found) → IsDamagedIn old.hand found served.files → IsCutOff served bytes (EndsBefore served found) (sent ++ new.out)
damaged-cut served bytes sent old new found out g stops damaged =
    damaged-on served bytes sent old new found old.hand refl out g stops.words damaged

-- ---- no memory for what is fed

pub unfed-cut : (served : Served) (bytes sent piece : List ℕ) (old : State) → old.out ≡ [] → old.hand ≡ Empty → Goes served bytes sent old → IsCutOff served (bytes ++ piece) (AreLastWords served fault.Memory) (sent ++ old.out)
unfed-cut served bytes sent piece old out hand g =
    let some = some-others served bytes sent piece old Empty g hand in
    let all = sent-before served bytes sent old Empty g out hand ∙ append-nil (answers served g.before) in
    word-cut served (bytes ++ piece) sent fault.Memory g.before some.0 old.out some.1 g.whole all (inl out)

-- ---- the link fails

-- the response to a turn in hand is the part that was output and the rest
pub hand-answers : (served : Served) (hand : Hand) → IsPlanned served hand → answers served (turns_in hand) ≡ begun_of served hand ++ rest_of served hand
hand-answers served Empty planned = answers-none served
hand-answers served (Decided turn) planned = answers-one served turn
hand-answers served (Tiles turn plan done) planned =
    let f : Node → List ℕ = λ node. chunk (kept_of turn.asked (served.part plan.area node)) in
    let h = head_text (head.Query turn.last) in
    let whole : chunks served turn.asked plan.area plan.tiles ≡ chunks served turn.asked plan.area (take done plan.tiles) ++ chunks served turn.asked plan.area (drop done plan.tiles) =
    ap (flat_map f) (sym (take-append-drop done plan.tiles)) ∙ flat_map-append f (take done plan.tiles) (drop done plan.tiles) in
    answers-one served turn
    ∙ wants-answer served turn.asked plan.area planned.first planned.second turn.last planned.wants
    ∙ ap (λ (p : Option (List Node)). query_answer served turn.asked plan.area turn.last p) planned.plan_is
    ∙ ap (λ (w : List ℕ). h ++ (w ++ last_chunk)) whole
    ∙ joined h (chunks served turn.asked plan.area (take done plan.tiles)) (chunks served turn.asked plan.area (drop done plan.tiles)) last_chunk
  where
    joined : (h a b l : List ℕ) → h ++ ((a ++ b) ++ l) ≡ (h ++ a) ++ (b ++ l)
    joined h a b l = simp (append_assoc, append-nil) refl

-- fewer bytes were sent
less-broken : (served : Served) (reason : Type 0) (bytes sent out : List ℕ) → IsCutOff served bytes (AreLastBytes served reason) (sent ++ out) → IsBroken served reason bytes sent
less-broken served reason bytes sent out cut = record { whole = sent ++ out; unsent = out; front = refl; allowed = cut }

-- the same with other words
pub cut-as : (served : Served) (bytes text : List ℕ) (P Q : List Turn → List ℕ → Type 0) → ((others : List Turn) (words : List ℕ) → P others words → Q others words) → IsCutOff served bytes P text → IsCutOff served bytes Q text
cut-as served bytes text P Q f cut = record {
  before = cut.before;
  others = cut.others;
  due = cut.due;
  whole = cut.whole;
  words = cut.words;
  fits = f cut.others cut.words cut.fits;
  text_is = cut.text_is;
}

begun-fits : (served : Served) (reason : Type 0) (hand : Hand) (others : List Turn) → IsFit hand → IsPlanned served hand → HasPlanOf served.files hand → HasTilesDone served.files hand → AreLastBytes served reason (turns_in hand ++ others) (begun_of served hand)
begun-fits served reason Empty others fit planned has_plan tiles = inl refl
begun-fits served reason (Decided turn) others fit planned has_plan tiles = inl refl
begun-fits served reason (Tiles turn plan done) others fit planned has_plan tiles =
    inr (inl (front-of served turn plan done planned has_plan tiles fit))

pub goes-broken : (served : Served) (reason : Type 0) (bytes sent : List ℕ) (old : State) → Goes served bytes sent old → IsBroken served reason bytes sent
goes-broken served reason bytes sent old g =
    let some = others-now served bytes sent old old.hand g refl in
    less-broken served reason bytes sent old.out (record {
      before = g.before;
      others = turns_in old.hand ++ some.0;
      due = some.1;
      whole = g.whole;
      words = begun_of served old.hand;
      fits = begun-fits served reason old.hand some.0 g.fit g.planned g.has_plan g.tiles;
      text_is = g.written;
    })

word-fits : (served : Served) (reason : Type 0) (cause : Fault) (others : List Turn) (words : List ℕ) → (cause ≡ fault.Store → reason) → ((found : QueryFile) → ¬ (cause ≡ fault.Damaged found)) → IsLastWord cause words → AreLastBytes served reason others words
word-fits served reason fault.Link others words why not word = inl word
word-fits served reason fault.Store others words why not word = inr (inr (inl (inl (why refl), word)))
word-fits served reason (fault.Damaged found) others words why not word = absurd (not found refl)
word-fits served reason fault.Memory others words why not (inl none) = inl none
word-fits served reason fault.Memory others words why not (inr status) = inr (inr (inr status))

words-fit : (served : Served) (reason : Type 0) (cause : Fault) → (cause ≡ fault.Store → reason) → ((found : QueryFile) → ¬ (cause ≡ fault.Damaged found)) → (others : List Turn) (words : List ℕ) → AreLastWords served cause others words → AreLastBytes served reason others words
words-fit served reason cause why not others words (inl word) = word-fits served reason cause others words why not word
words-fit served reason cause why not others words (inr front) = inr (inl front)

pub cut-broken : (served : Served) (reason : Type 0) (bytes sent out : List ℕ) (cause : Fault) → (cause ≡ fault.Store → reason) → ((found : QueryFile) → ¬ (cause ≡ fault.Damaged found)) → IsCutOff served bytes (AreLastWords served cause) (sent ++ out) → IsBroken served reason bytes sent
cut-broken served reason bytes sent out cause why not cut =
    less-broken served reason bytes sent out (cut-as served bytes (sent ++ out) (AreLastWords served cause) (AreLastBytes served reason) (words-fit served reason cause why not) cut)

-- the words that a damaged file ends
one-turn : (a b : Turn) → a ∷ [] ≡ b ∷ [] → a ≡ b
one-turn a b same = ap (λ (ts : List Turn). first-or ts) same
  where
    first-or : List Turn → Turn
    first-or [] = a
    first-or (t ∷ ts) = t

hand-fits : (served : Served) (reason : Type 0) (found : QueryFile) (turn : Turn) (others : List Turn) (words word : List ℕ) (hand : Hand) → turns_in hand ≡ turn ∷ [] → IsFit hand → IsPlanned served hand → HasPlanOf served.files hand → HasTilesDone served.files hand → IsDamagedIn hand found served.files → IsLastOf hand (fault.Damaged found) word → words ≡ begun_of served hand ++ word → AreLastBytes served reason (turn ∷ others) words
hand-fits served reason found turn others words word Empty one fit planned has_plan tiles damaged last are = absurd damaged
hand-fits served reason found turn others words word (Decided other) one fit planned has_plan tiles damaged last are =
    inr (inr (inl (inr (found, subst (λ (t : Turn). IsDamagedFor t.asked found served.files) (one-turn other turn one) damaged), are ∙ last)))
hand-fits served reason found turn others words word (Tiles other plan done) one fit planned has_plan tiles damaged last are =
    let front = front-of served other plan done planned has_plan tiles fit in
    let begun = begun_of served (Tiles other plan done) in
    let same : words ≡ begun = are ∙ ap (λ (w : List ℕ). begun ++ w) last ∙ append-nil begun in
    inr (inl (subst (λ (t : Turn). IsQueryFront served t words) (one-turn other turn one) (subst (IsQueryFront served other) (sym same) front)))

damage-fits : (served : Served) (reason : Type 0) (found : QueryFile) (others : List Turn) (words : List ℕ) → EndsBefore served found others words → AreLastBytes served reason others words
damage-fits served reason found [] words ends = absurd ends
damage-fits served reason found (turn ∷ others) words ends =
    hand-fits served reason found turn others words ends.word ends.hand ends.of_turn ends.fit ends.planned ends.has_plan ends.tiles ends.damaged ends.last ends.words_are

pub damage-broken : (served : Served) (reason : Type 0) (bytes sent out : List ℕ) (found : QueryFile) → IsCutOff served bytes (EndsBefore served found) (sent ++ out) → IsBroken served reason bytes sent
damage-broken served reason bytes sent out found cut =
    less-broken served reason bytes sent out (cut-as served bytes (sent ++ out) (EndsBefore served found) (AreLastBytes served reason) (damage-fits served reason found) cut)

-- ---- nothing is due

rest-due : (served : Served) (bytes sent : List ℕ) (old : State) (g : Goes served bytes sent old) → old.hand ≡ Empty → has_turn old.held ≡ false → AreDue (fed fresh bytes) g.before
rest-due served bytes sent old g hand none =
    let P : List ℕ → Type 0 = λ w. AreDue (record old.held { bytes = w }) [] in
    let idle : AreDue (fed old.held []) [] = subst P (sym (append-nil old.held.bytes)) (idle-due old.held (has-none-idle old.held none)) in
    let H : Hand → Type 0 = λ h. AreDue (fed fresh (bytes ++ [])) (g.before ++ (turns_in h ++ [])) in
    let all : AreDue (fed fresh (bytes ++ [])) (g.before ++ []) = subst H hand (g.turns [] [] idle) in
    subst (λ (w : List ℕ). AreDue (fed fresh w) g.before) (append-nil bytes) (subst (λ (ts : List Turn). AreDue (fed fresh (bytes ++ [])) ts) (append-nil g.before) all)

pub rest-answers : (served : Served) (bytes sent : List ℕ) (old : State) → IsAtRest old.out old.fault old.hand (has_turn old.held) → Goes served bytes sent old → HasAnswered served bytes sent
rest-answers served bytes sent old rest g = record {
  turns = g.before;
  due = rest-due served bytes sent old g rest.hand_is rest.none;
  whole = g.whole;
  text_is = sent-before served bytes sent old Empty g rest.out_is rest.hand_is ∙ append-nil (answers served g.before);
}

pub rest-ends : (served : Served) (bytes sent : List ℕ) (old : State) → IsAtRest old.out old.fault old.hand (has_turn old.held) → Goes served bytes sent old → old.held.ended ≡ true → EndsItself bytes
rest-ends served bytes sent old rest g ended =
    let H : Hand → Type 0 = λ h. has_last (g.before ++ turns_in h) ≡ true in
    (g.before, rest-due served bytes sent old g rest.hand_is rest.none, ap has_last (sym (append-nil g.before)) ∙ subst H rest.hand_is (g.over ended))
