-- What one piece of work does: one turn is decided, one plan is made, or one file or tile is fetched.
use Rattle.std.specs.Prelude.{◌≡◌, ◌⊎◌, ℕ, ◌+◌, ◌≤◌, ◌<◌, ◌^◌, ⊤, List, [], ◌++◌, Bool, true, if◌then◌else◌, nat_lt, length, Option, Some, None}
use Rattle.ept_base.specs.Files.{Files, Tells}
use Rattle.ept_space.specs.declared.box3.Box3.{Box3}
use Rattle.ept_hier.specs.Hierarchy.{Node}
use Rattle.ept_http.specs.declared.asked.Asked.{Asked}
use Rattle.ept_http.specs.declared.asked.Asked.TheVariants as asked
use Rattle.ept_http.specs.declared.answer.HeadKind.TheVariants as head
use Rattle.ept_http.specs.AnswerHead.{head_text}
use Rattle.ept_save.specs.Done.{IsDone}
use Rattle.ept_query.specs.declared.query_error.QueryFile.{QueryFile}
use Rattle.ept_query.specs.declared.query_error.QueryFile.TheVariants as file
use Rattle.ept_query.specs.Damage.{HasNoBuild, HasNoTile, IsFirstDamaged}
use Rattle.ept_query.specs.Planning.{IsPlanFor, GetsFiles}
use Rattle.ept_query.specs.Parts.{Plan, node_at}
use Rattle.ept_conn.specs.declared.turn.Turn.{Turn}
use Rattle.ept_conn.specs.declared.hand.Hand.{Hand}
use Rattle.ept_conn.specs.declared.hand.Hand.TheVariants.{Empty, Decided, Tiles}
use Rattle.ept_conn.specs.declared.end.Fault.{Fault}
use Rattle.ept_conn.specs.declared.end.Fault.TheVariants as fault
use Rattle.ept_conn.specs.Turns.{IsNext}
use Rattle.ept_conn.specs.Wanted.{Wanted, wanted, Wants, kept_of}
use Rattle.ept_conn.specs.Answers.{Served, refusal, is_json, file_answer, chunk, last_chunk}
use Rattle.ept_conn.specs.State.{State}

-- ---- which turn, and what stays in hand

-- a refusal is output at once, and any other turn stays in hand
abbrev pub hand_to : Asked → Turn → Hand
hand_to (asked.File name) turn = Decided turn
hand_to (asked.Query area first second) turn = Decided turn
hand_to (asked.Select area first second sift) turn = Decided turn
hand_to (asked.Refuse status) turn = Empty

abbrev pub out_to : Asked → Bool → List ℕ
out_to (asked.File name) last = []
out_to (asked.Query area first second) last = []
out_to (asked.Select area first second sift) last = []
out_to (asked.Refuse status) last = refusal status last

-- the first turn that is due was decided
pub record Decides (old new : State) : Type 0 where
  pub turn : Turn
  pub next : IsNext old.held turn new.held
  pub hand : new.hand ≡ hand_to turn.asked turn
  pub out : new.out ≡ out_to turn.asked turn.last

-- the turn stays in hand while tiles are left
abbrev pub hand_at : Turn → Plan → ℕ → Hand
hand_at turn plan done = if nat_lt done (length plan.tiles) then Tiles turn plan done else Empty

-- the last chunk follows the last tile
abbrev pub end_at : Plan → ℕ → List ℕ
end_at plan done = if nat_lt done (length plan.tiles) then [] else last_chunk

-- a plan was made and the head of the response was output, or there are no queries
abbrev pub Begins : Turn → Box3 → Option (List Node) → State → Type 0
Begins turn area None new = (new.hand ≡ Empty) × (new.out ≡ refusal 404 turn.last)
Begins turn area (Some nodes) new =
    let plan : Plan = record { area = area; tiles = nodes } in
    (new.hand ≡ hand_at turn plan 0) × (new.out ≡ head_text (head.Query turn.last) ++ end_at plan 0)

-- what was asked for was fetched
abbrev pub Gets : Served → Turn → Asked → State → Type 0
Gets served turn (asked.File name) new =
    (new.hand ≡ Empty) × (new.out ≡ file_answer (is_json name) turn.last (served.file name))
Gets served turn (asked.Query area first second) new = Begins turn area (served.plan area first second) new
Gets served turn (asked.Select area first second sift) new = Begins turn area (served.plan area first second) new
Gets served turn (asked.Refuse status) new = (new.hand ≡ Empty) × (new.out ≡ refusal status turn.last)

-- a plan is the turn's plan in what is sent
pub record IsTurnsPlan (served : Served) (turn : Turn) (plan : Plan) : Type 0 where
  pub first : ℕ
  pub second : ℕ
  pub wants : Wants turn.asked plan.area first second
  pub plan_is : served.plan plan.area first second ≡ Some plan.tiles

abbrev pub IsPlanned : Served → Hand → Type 0
IsPlanned served Empty = ⊤
IsPlanned served (Decided turn) = ⊤
IsPlanned served (Tiles turn plan done) = IsTurnsPlan served turn plan

-- the folder has this plan for a turn
pub record IsPlanOfTurn (files : Files) (turn : Turn) (plan : Plan) : Type 0 where
  pub first : ℕ
  pub second : ℕ
  pub wants : Wants turn.asked plan.area first second
  pub is_plan : IsPlanFor plan.area first second plan files

abbrev pub HasPlanOf : Files → Hand → Type 0
HasPlanOf files Empty = ⊤
HasPlanOf files (Decided turn) = ⊤
HasPlanOf files (Tiles turn plan done) = IsPlanOfTurn files turn plan

-- no tiles are in hand
abbrev pub HasNoTiles : Hand → Type 0
HasNoTiles Empty = ⊤
HasNoTiles (Decided turn) = ⊤
HasNoTiles (Tiles turn plan done) = ⊥

-- what one piece of work does, by what is in hand
abbrev pub WorksOn : Served → Hand → State → State → Type 0
WorksOn served Empty old new = Decides old new
WorksOn served (Decided turn) old new = (new.held ≡ old.held) × Gets served turn turn.asked new
WorksOn served (Tiles turn plan done) old new =
    (new.held ≡ old.held)
    × (new.hand ≡ hand_at turn plan (done + 1))
    × (new.out ≡ chunk (kept_of turn.asked (served.part plan.area (node_at plan done))) ++ end_at plan (done + 1))

abbrev pub Works : Served → State → State → Type 0
Works served old new = WorksOn served old.hand old new

-- ---- whatever a store holds

-- no turn is in hand any more, or this one is, with a plan of which no tile is done yet
abbrev pub IsBegun : Turn → Hand → Type 0
IsBegun turn Empty = ⊤
IsBegun turn (Decided other) = ⊥
IsBegun turn (Tiles other plan done) = (other ≡ turn) × (done ≡ 0) × (length plan.tiles < 2 ^ 64)

-- exactly one thing is done: a turn is decided, what it asks for is fetched, or one more tile is
abbrev pub IsOneStep : Hand → State → State → Type 0
IsOneStep Empty old new = Decides old new
IsOneStep (Decided turn) old new = (new.held ≡ old.held) × IsBegun turn new.hand
IsOneStep (Tiles turn plan done) old new =
    (done < length plan.tiles) × (new.held ≡ old.held) × (new.hand ≡ hand_at turn plan (done + 1))

-- ---- how often `get` is called

-- at most twice for a file, and for a plan at most once for each file that it needs
abbrev pub GetsFor : Asked → ℕ → ℕ → Option Files → Type 0
GetsFor (asked.File name) before now files = now ≤ before + 2
GetsFor (asked.Query area first second) before now files = Tells (GetsFiles area first second before now) files
GetsFor (asked.Select area first second sift) before now files = Tells (GetsFiles area first second before now) files
GetsFor (asked.Refuse status) before now files = now ≡ before

-- never to decide a turn, and at most once for a tile, if the plan has one more
abbrev pub GetsIn : Hand → ℕ → ℕ → Option Files → Type 0
GetsIn Empty before now files = now ≡ before
GetsIn (Decided turn) before now files = GetsFor turn.asked before now files
GetsIn (Tiles turn plan done) before now files = (done < length plan.tiles) × (now ≤ before + 1)

-- ---- refusals

-- the status with which a session ends if nothing of the response in hand was sent
abbrev pub last_status : Fault → ℕ
last_status fault.Link = 507
last_status fault.Store = 503
last_status (fault.Damaged file) = 503
last_status fault.Memory = 507

-- The words with which it ends. For the store or a damaged file they are status 503, for memory status 507 or nothing,
-- and for the link nothing.
abbrev pub IsLastWord : Fault → List ℕ → Type 0
IsLastWord fault.Link text = text ≡ []
IsLastWord fault.Store text = text ≡ refusal 503 true
IsLastWord (fault.Damaged file) text = text ≡ refusal 503 true
IsLastWord fault.Memory text = (text ≡ []) ⊎ (text ≡ refusal 507 true)

-- if the head of a response was output, there are no words
abbrev pub IsLastOf : Hand → Fault → List ℕ → Type 0
IsLastOf Empty fault text = IsLastWord fault text
IsLastOf (Decided turn) fault text = IsLastWord fault text
IsLastOf (Tiles turn plan done) fault text = text ≡ []

-- the work on what was in hand was refused for this cause, which is not the link: nothing stays in hand
pub record Stops (hand : Hand) (new : State) (cause : Fault) : Type 0 where
  pub is_empty : new.hand ≡ Empty
  pub words : IsLastOf hand cause new.out
  pub not_link : ¬ (cause ≡ fault.Link)

-- nothing is in hand, nothing is to be sent, and no end is fixed
pub record IsReady (state : State) : Type 0 where
  pub hand : state.hand ≡ Empty
  pub out : state.out ≡ []
  pub going : state.fault ≡ None

-- A file that is needed is missing or damaged. For a plan it is the build file or the first such hierarchy file, and
-- for a plan in hand the next tile.
abbrev pub IsDamagedOf : Option Wanted → QueryFile → Files → Type 0
IsDamagedOf None found files = ⊥
IsDamagedOf (Some points) file.BuildJson files = IsDone files × HasNoBuild files
IsDamagedOf (Some points) (file.Hierarchy key) files =
    IsDone files × IsFirstDamaged points.area points.first points.second (file.Hierarchy key) files
IsDamagedOf (Some points) (file.Tile key) files = ⊥

abbrev pub IsDamagedFor : Asked → QueryFile → Files → Type 0
IsDamagedFor request found files = IsDamagedOf (wanted request) found files

abbrev pub IsDamagedIn : Hand → QueryFile → Files → Type 0
IsDamagedIn Empty found files = ⊥
IsDamagedIn (Decided turn) found files = IsDamagedFor turn.asked found files
IsDamagedIn (Tiles turn plan done) found files =
    (done < length plan.tiles) × (found ≡ file.Tile (node_at plan done).0) × HasNoTile files (node_at plan done).0 (node_at plan done).1

-- no file that is needed for this request, or for what is in hand, is missing or damaged
abbrev pub IsUndamagedFor : Asked → Files → Type 0
IsUndamagedFor request files = (found : QueryFile) → ¬ IsDamagedFor request found files

abbrev pub IsUndamagedIn : Hand → Files → Type 0
IsUndamagedIn hand files = (found : QueryFile) → ¬ IsDamagedIn hand found files

-- a file of the folder is damaged: some turn in hand needs it, with the folder's plan if the turn has one
pub record IsDamaged (found : QueryFile) (files : Files) : Type 0 where
  pub hand : Hand
  pub planned : HasPlanOf files hand
  pub damaged : IsDamagedIn hand found files
