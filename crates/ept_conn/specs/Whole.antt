-- What the responses to turns need of a folder, which may lack files or have damaged ones.
use Rattle.std.specs.Prelude.{◌≡◌, ◌⊎◌, ℕ, ◌<◌, ⊤, List, length, Option, Some, None}
use Rattle.std.specs.List.{AllByRecursion}
use Rattle.ept_base.specs.Files.{Files}
use Rattle.ept_point.specs.declared.point.Point.{Point}
use Rattle.ept_save.specs.Done.{IsDone}
use Rattle.ept_query.specs.Damage.{HasTile}
use Rattle.ept_query.specs.Planning.{IsPlanFor}
use Rattle.ept_query.specs.Parts.{Plan, node_at}
use Rattle.ept_conn.specs.declared.turn.Turn.{Turn}
use Rattle.ept_conn.specs.declared.hand.Hand.{Hand}
use Rattle.ept_conn.specs.declared.hand.Hand.TheVariants.{Empty, Decided, Tiles}
use Rattle.ept_conn.specs.Held.{fresh, fed}
use Rattle.ept_conn.specs.Turns.{AreDue}
use Rattle.ept_conn.specs.Wanted.{Wanted, wanted}
use Rattle.ept_conn.specs.Answers.{Served, answers}
use Rattle.ept_conn.specs.State.{State}
use Rattle.ept_conn.specs.Works.{hand_at}

-- ---- for a whole response

-- the first `count` tiles of a plan are there
abbrev pub HasTiles : Files → Plan → ℕ → Type 0
HasTiles files plan count = (at : ℕ) → at < count → (points : List Point) × HasTile files (node_at plan at).0 (node_at plan at).1 points

-- the plan of the wanted points is there, and each of its tiles
pub record HasPoints (files : Files) (points : Wanted) : Type 0 where
  pub plan : Plan
  pub is_plan : IsPlanFor points.area points.first points.second plan files
  pub tiles : HasTiles files plan (length plan.tiles)

-- nothing is needed if no points are wanted or the done gate is not open
abbrev pub IsWholeFor : Files → Option Wanted → Type 0
IsWholeFor files None = ⊤
IsWholeFor files (Some points) = (¬ IsDone files) ⊎ HasPoints files points

-- no file that the response to a turn needs is missing or damaged
abbrev pub IsWhole : Files → Turn → Type 0
IsWhole files turn = IsWholeFor files (wanted turn.asked)

-- a text consists of the responses to all the turns of bytes, and no file that these need is missing or damaged
pub record HasAnswered (served : Served) (bytes text : List ℕ) : Type 0 where
  pub turns : List Turn
  pub due : AreDue (fed fresh bytes) turns
  pub whole : AllByRecursion (IsWhole served.files) turns
  pub text_is : text ≡ answers served turns

-- ---- for one piece of work

-- the plan of the wanted points was made, and the turn stays in hand while it has tiles
pub record HasMadePlan (files : Files) (turn : Turn) (points : Wanted) (new : State) : Type 0 where
  pub plan : Plan
  pub is_plan : IsPlanFor points.area points.first points.second plan files
  pub hand : new.hand ≡ hand_at turn plan 0

abbrev pub HasPlanIfOpen : Files → Turn → Option Wanted → State → Type 0
HasPlanIfOpen files turn None new = ⊤
HasPlanIfOpen files turn (Some points) new = (¬ IsDone files) ⊎ HasMadePlan files turn points new

-- What a piece of work needs is there. It is the plan of the points that the turn asks for, if the done gate is open,
-- or the next tile.
abbrev pub HasFound : Files → Hand → State → Type 0
HasFound files Empty new = ⊤
HasFound files (Decided turn) new = HasPlanIfOpen files turn (wanted turn.asked) new
HasFound files (Tiles turn plan done) new = (points : List Point) × HasTile files (node_at plan done).0 (node_at plan done).1 points

-- the finished tiles of the plan in hand were there
abbrev pub HasTilesDone : Files → Hand → Type 0
HasTilesDone files Empty = ⊤
HasTilesDone files (Decided turn) = ⊤
HasTilesDone files (Tiles turn plan done) = HasTiles files plan done
