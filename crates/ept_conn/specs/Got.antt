-- How often `get` is called for the turns of a connection. The folder may hold anything.
use Rattle.std.specs.Prelude.{◌≡◌, ℕ, ◌+◌, ◌≤◌, List, ◌++◌, length, sum, Option, Some, None, ⊤}
use Rattle.std.specs.List.{AllZip}
use Rattle.ept_base.specs.Files.{Files}
use Rattle.ept_base.specs.Links.{Wire}
use Rattle.ept_space.specs.VoxelKey.{VoxelKey}
use Rattle.ept_config.specs.declared.kept.Kept.{Kept}
use Rattle.ept_http.specs.declared.asked.Asked.{Asked}
use Rattle.ept_http.specs.declared.asked.Asked.TheVariants.{File, Query, Select, Refuse}
use Rattle.ept_query.specs.Search.{search_of}
use Rattle.ept_query.specs.Plan.{IsBuiltWith, HasNeeded, HasPlanned}
use Rattle.ept_query.specs.Parts.{Plan}
use Rattle.ept_conn.specs.declared.turn.Turn.{Turn}
use Rattle.ept_conn.specs.declared.hand.Hand.{Hand}
use Rattle.ept_conn.specs.declared.hand.Hand.TheVariants.{Empty, Decided, Tiles}
use Rattle.ept_conn.specs.declared.end.Fault.{Fault}
use Rattle.ept_conn.specs.Held.{fresh, fed}
use Rattle.ept_conn.specs.Turns.{AreDue}
use Rattle.ept_conn.specs.Wanted.{Wanted, Wants}
use Rattle.ept_conn.specs.State.{State}
use Rattle.ept_conn.specs.InHand.{turns_in}
use Rattle.ept_conn.specs.Works.{HasPlanOf}

-- ---- what turns take

-- points take two calls, one for each hierarchy file that is needed, and one for each tile of their plan. All lists of
-- these have the same length.
pub record PointsTake (files : Files) (points : Wanted) (count : ℕ) : Type 0 where
  pub needed : List VoxelKey
  pub planned : List VoxelKey
  pub each : (kept : Kept) → IsBuiltWith files kept → HasNeeded (search_of kept points.area points.first points.second) files needed
  pub others : (kept : Kept) → IsBuiltWith files kept → HasPlanned (search_of kept points.area points.first points.second) files planned
  pub count_is : count ≡ 2 + length needed + length planned

-- a file takes two calls, and a refusal takes none
abbrev pub RequestTakes : Files → Asked → ℕ → Type 0
RequestTakes files (File name) count = count ≡ 2
RequestTakes files (Query area first second) count = PointsTake files (record { area = area; first = first; second = second }) count
RequestTakes files (Select area first second sift) count = PointsTake files (record { area = area; first = first; second = second }) count
RequestTakes files (Refuse status) count = count ≡ 0

abbrev pub Takes : Files → Turn → ℕ → Type 0
Takes files turn count = RequestTakes files turn.asked count

-- there were no more calls than all the turns of bytes take together
abbrev pub GetsWithin : Files → ℕ → List ℕ → ℕ → Type 0
GetsWithin files first bytes now =
    (turns : List Turn) (counts : List ℕ) → AreDue (fed fresh bytes) turns → AllZip (Takes files) turns counts → now ≤ first + sum counts

-- the same for the bytes that were read in a call
pub record GetsForRead (files : Files) (before now : ℕ) (old new : Wire) : Type 0 where
  pub bytes : List ℕ
  pub taken : new.taken ≡ old.taken ++ bytes
  pub within : GetsWithin files before bytes now

-- ---- so far

-- `count` calls were made for the plan in hand and for its tiles that are done
pub record HasTaken (files : Files) (turn : Turn) (plan : Plan) (done count : ℕ) : Type 0 where
  pub first : ℕ
  pub second : ℕ
  pub wants : Wants turn.asked plan.area first second
  pub needed : List VoxelKey
  pub each : (kept : Kept) → IsBuiltWith files kept → HasNeeded (search_of kept plan.area first second) files needed
  pub count_is : count ≡ 2 + length needed + done

-- `count` calls were made for what is in hand
abbrev pub HandHasTaken : Files → Hand → ℕ → Type 0
HandHasTaken files Empty count = count ≡ 0
HandHasTaken files (Decided turn) count = count ≡ 0
HandHasTaken files (Tiles turn plan done) count = HasTaken files turn plan done count

-- no more tiles of a plan are done than it has
abbrev pub IsWithinPlan : Hand → Type 0
IsWithinPlan Empty = ⊤
IsWithinPlan (Decided turn) = ⊤
IsWithinPlan (Tiles turn plan done) = done ≤ length plan.tiles

-- For a session that continues: there were no more calls than those for the turns with a response and for what is in
-- hand.
pub record HasGot (files : Files) (first : ℕ) (bytes : List ℕ) (state : State) (now : ℕ) : Type 0 where
  pub before : List Turn
  pub turns : (more : List ℕ) (others : List Turn) → AreDue (fed state.held more) others → AreDue (fed fresh (bytes ++ more)) (before ++ (turns_in state.hand ++ others))
  pub plan : HasPlanOf files state.hand
  pub within : IsWithinPlan state.hand
  pub few : (counts : List ℕ) (count : ℕ) → AllZip (Takes files) before counts → HandHasTaken files state.hand count → now ≤ first + sum counts + count

-- for a session that ends early: no more calls than all the turns of its bytes take
abbrev pub HasGotFor : Files → ℕ → List ℕ → State → ℕ → Option Fault → Type 0
HasGotFor files first bytes state now None = HasGot files first bytes state now
HasGotFor files first bytes state now (Some fault) = GetsWithin files first bytes now

-- since a start, what was read was fed, and `get` was called no more often than this
pub record GetsSince (files : Files) (first : ℕ) (old : Wire) (state : State) (now : ℕ) (new : Wire) : Type 0 where
  pub bytes : List ℕ
  pub taken : new.taken ≡ old.taken ++ bytes
  pub got : HasGotFor files first bytes state now state.fault

-- what is known of the calls since a start is still known afterwards
abbrev pub GetsOn : Files → ℕ → ℕ → ℕ → State → State → Wire → Wire → Type 0
GetsOn files first before now old new wire next =
    (start : Wire) → GetsSince files first start old before wire → GetsSince files first start new now next
