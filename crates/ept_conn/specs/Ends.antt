-- What has been sent when a connection ends, for the bytes that came.
use Rattle.std.specs.Prelude.{◌≡◌, ◌⊎◌, ℕ, ◌≤◌, List, [], ◌∷◌, ◌++◌, Bool, true, length, take, Some, ⊤}
use Rattle.std.specs.List.{AllByRecursion, list_any}
use Rattle.ept_base.specs.Files.{Files}
use Rattle.ept_space.specs.declared.box3.Box3.{Box3}
use Rattle.ept_hier.specs.Hierarchy.{Node}
use Rattle.ept_http.specs.declared.answer.HeadKind.TheVariants as head
use Rattle.ept_http.specs.AnswerHead.{head_text}
use Rattle.ept_query.specs.declared.query_error.QueryFile.{QueryFile}
use Rattle.ept_conn.specs.declared.turn.Turn.{Turn}
use Rattle.ept_conn.specs.declared.hand.Hand.{Hand}
use Rattle.ept_conn.specs.declared.end.Fault.{Fault}
use Rattle.ept_conn.specs.declared.end.Fault.TheVariants as fault
use Rattle.ept_conn.specs.declared.end.End.{End}
use Rattle.ept_conn.specs.declared.end.End.TheVariants as end
use Rattle.ept_conn.specs.Held.{fresh, fed}
use Rattle.ept_conn.specs.Turns.{AreDue}
use Rattle.ept_conn.specs.Wanted.{Wants}
use Rattle.ept_conn.specs.Answers.{Served, refusal, chunks, answers}
use Rattle.ept_conn.specs.State.{IsFit}
use Rattle.ept_conn.specs.InHand.{turns_in, begun_of}
use Rattle.ept_conn.specs.Works.{IsPlanned, IsPlanOfTurn, HasPlanOf, IsLastWord, IsLastOf, IsDamagedFor, IsDamagedIn}
use Rattle.ept_conn.specs.Whole.{IsWhole, HasAnswered, HasTiles, HasTilesDone}

-- one of the turns is a last one
abbrev pub has_last : List Turn → Bool
has_last turns = list_any (λ (turn : Turn). turn.last) turns

-- the turns of bytes include a last one
abbrev pub EndsItself : List ℕ → Type 0
EndsItself bytes = (turns : List Turn) × AreDue (fed fresh bytes) turns × (has_last turns ≡ true)

-- the responses to the first turns of bytes, and then words that fit the other turns. No file that the first turns need
-- is missing or damaged.
pub record IsCutOff (served : Served) (bytes : List ℕ) (Fits : List Turn → List ℕ → Type 0) (text : List ℕ) : Type 0 where
  pub before : List Turn
  pub others : List Turn
  pub due : AreDue (fed fresh bytes) (before ++ others)
  pub whole : AllByRecursion (IsWhole served.files) before
  pub words : List ℕ
  pub fits : Fits others words
  pub text_is : text ≡ answers served before ++ words

-- the head of the response to a query or a selection, and whole chunks of it without the last chunk
pub record IsQueryFront (served : Served) (turn : Turn) (text : List ℕ) : Type 0 where
  pub area : Box3
  pub first : ℕ
  pub second : ℕ
  pub nodes : List Node
  pub done : ℕ
  pub wants : Wants turn.asked area first second
  pub plan : served.plan area first second ≡ Some nodes
  pub has : IsPlanOfTurn served.files turn (record { area = area; tiles = nodes })
  pub tiles : HasTiles served.files (record { area = area; tiles = nodes }) done
  pub within : done ≤ length nodes
  pub text_is : text ≡ head_text (head.Query turn.last) ++ chunks served turn.asked area (take done nodes)

-- the same for the first of some turns
abbrev pub IsFrontOf : Served → List Turn → List ℕ → Type 0
IsFrontOf served [] text = ⊥
IsFrontOf served (turn ∷ turns) text = IsQueryFront served turn text

-- the last words for a cause: no words, a status, or a prefix of the response to a query
abbrev pub AreLastWords : Served → Fault → List Turn → List ℕ → Type 0
AreLastWords served cause others text = IsLastWord cause text ⊎ IsFrontOf served others text

-- The output part of the response to a turn whose next piece of work needs a damaged file, and a last word. The word is
-- empty if the head of the response was output, and status 503 otherwise.
pub record IsCutByDamage (served : Served) (found : QueryFile) (turn : Turn) (words : List ℕ) : Type 0 where
  pub hand : Hand
  pub of_turn : turns_in hand ≡ turn ∷ []
  pub planned : IsPlanned served hand
  pub has_plan : HasPlanOf served.files hand
  pub tiles : HasTilesDone served.files hand
  pub fit : IsFit hand
  pub damaged : IsDamagedIn hand found served.files
  pub word : List ℕ
  pub last : IsLastOf hand (fault.Damaged found) word
  pub words_are : words ≡ begun_of served hand ++ word

-- the first of some turns needs a damaged file, and these words end there
abbrev pub EndsBefore : Served → QueryFile → List Turn → List ℕ → Type 0
EndsBefore served found [] words = ⊥
EndsBefore served found (turn ∷ turns) words = IsCutByDamage served found turn words

-- a file that the plan of the first of some turns needs is damaged
abbrev pub IsFirstDamaged : Files → List Turn → Type 0
IsFirstDamaged files [] = ⊥
IsFirstDamaged files (turn ∷ turns) = (found : QueryFile) × IsDamagedFor turn.asked found files

-- the words of a status: 503 for this reason or if the first of some turns needs a damaged file, or 507
abbrev pub IsStatus : Served → Type 0 → List Turn → List ℕ → Type 0
IsStatus served reason others text = ((reason ⊎ IsFirstDamaged served.files others) × (text ≡ refusal 503 true)) ⊎ (text ≡ refusal 507 true)

-- what may follow the responses to the first turns: nothing, a prefix of the response to the next one, or a status
abbrev pub AreLastBytes : Served → Type 0 → List Turn → List ℕ → Type 0
AreLastBytes served reason others words = (words ≡ []) ⊎ (IsFrontOf served others words ⊎ IsStatus served reason others words)

-- a prefix of the responses to the first turns of bytes and of what may follow them
pub record IsBroken (served : Served) (reason : Type 0) (bytes text : List ℕ) : Type 0 where
  pub whole : List ℕ
  pub unsent : List ℕ
  pub front : whole ≡ text ++ unsent
  pub allowed : IsCutOff served bytes (AreLastBytes served reason) whole

-- ---- at the end

-- what has been sent at each end; `closed` means that the input has ended
abbrev pub IsEnd : Served → Type 0 → Type 0 → List ℕ → List ℕ → End → Type 0
IsEnd served reason closed bytes text end.Closed = HasAnswered served bytes text × (closed ⊎ EndsItself bytes)
IsEnd served reason closed bytes text end.LinkFault = IsBroken served reason bytes text
IsEnd served reason closed bytes text end.StoreFault = reason × IsCutOff served bytes (AreLastWords served fault.Store) text
IsEnd served reason closed bytes text (end.Damaged file) = IsCutOff served bytes (EndsBefore served file) text
IsEnd served reason closed bytes text end.Memory = IsCutOff served bytes (AreLastWords served fault.Memory) text

-- A good end comes with the end of the input, with the last turn, or because memory runs out. A fault of the link or of
-- the store is reported only if that device failed.
abbrev pub EndsWell : End → Type 0 → Type 0 → Type 0
EndsWell end.Closed link store = ⊤
EndsWell end.LinkFault link store = link
EndsWell end.StoreFault link store = store
EndsWell (end.Damaged file) link store = ⊥
EndsWell end.Memory link store = ⊤
