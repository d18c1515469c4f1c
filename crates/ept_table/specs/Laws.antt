-- What holds of each step on a table. Each statement is proved by the contract of a function of `laws`.
use Rattle.std.specs.Prelude.{◌≡◌, ◌<◌, ◌≤◌, ◌+◌, ℕ, true, List, [], ◌∷◌, ◌++◌, length, take, set, Option, Some, None}
use Rattle.ept_point.specs.declared.point.Point.{Point}
use Rattle.ept_space.specs.VoxelKey.{root}
use Rattle.ept_sample.specs.Nodes.{node_keys}
use Rattle.ept_sample.specs.Members.{IsMember}
use Rattle.ept_node.specs.declared.error.NodeError.{NodeError}
use Rattle.ept_table.specs.declared.note.Told.{Told}
use Rattle.ept_table.specs.declared.note.Carried.{Carried}
use Rattle.ept_table.specs.declared.taken.Cell.{Cell}
use Rattle.ept_table.specs.declared.taken.Progress.{Progress}
use Rattle.ept_table.specs.declared.taken.Taken.{Taken}
use Rattle.ept_table.specs.declared.taken.Taken.TheVariants.{Standing, Reading}
use Rattle.ept_table.specs.At.{At}
use Rattle.ept_table.specs.View.{View, NotesFull}
use Rattle.ept_table.specs.Shown.{IsTold, Holds, AreLocked}
use Rattle.ept_table.specs.Steps.{holding, given_back, noting, refused_more, with_parts, new_seat, joined, IsSpent, wishing, noting_broken, drawing, abandoned, merged, GoTogether, read, arrived, carried_to, HasRead, HasArrived, StaysAlike, MayDraw, first_seat, IsPlanted}
use Rattle.ept_table.specs.Tells.{IsTooMany, Fits, ShowsLaw, IsLanded, IsLast, IsEnded, IsSampling}

-- ---- steps that change nothing in the slots

-- a seat that holds no slot takes one
abbrev pub TakeKeeps : Type 0
TakeKeeps =
    (told : Told) (drawn : ℕ) (items : List Taken) (views : List View) (i : ℕ) (v : View) (k : ℕ) (x : Taken) → Holds told drawn items views → At views i v → v.hold ≡ None → Holds told drawn items (set views i (holding v k x))

-- a seat that has drawn no slot returns what it holds: as it took it, or a node that moved to or from its file
abbrev pub ReturnKeeps : Type 0
ReturnKeeps =
    (told : Told) (drawn : ℕ) (items : List Taken) (views : List View) (i : ℕ) (v : View) (k : ℕ) (x y : Taken) → Holds told drawn items views → At views i v → At items k x → StaysAlike told x y → v.note.draws ≡ [] → Holds told drawn (set items k y) (set views i (given_back v v.note))

-- a seat notes an octant
abbrev pub WishKeeps : Type 0
WishKeeps =
    (told : Told) (drawn : ℕ) (items : List Taken) (views : List View) (i : ℕ) (v : View) (o : ℕ) → Holds told drawn items views → At views i v → Holds told drawn items (set views i (noting v (wishing v.note o)))

-- a seat notes the refusal by which the node that it returned is broken, if it is broken
abbrev pub BrokenKeeps : Type 0
BrokenKeeps =
    (told : Told) (drawn : ℕ) (items : List Taken) (views : List View) (i : ℕ) (v : View) (fault : Option NodeError) → Holds told drawn items views → At views i v → Holds told drawn items (set views i (noting v (noting_broken fault v.note)))

-- a seat that holds no slot abandons its flights
abbrev pub AbandonKeeps : Type 0
AbandonKeeps =
    (told : Told) (drawn : ℕ) (items : List Taken) (views : List View) (i : ℕ) (v : View) → Holds told drawn items views → At views i v → 0 < v.parts → v.hold ≡ None → Holds told drawn items (set views i (noting v (abandoned v.note)))

-- a seat that holds no slot merges its last two flights, which go to one slot and one key
abbrev pub MergeKeeps : Type 0
MergeKeeps =
    (told : Told) (drawn : ℕ) (items : List Taken) (views : List View) (i : ℕ) (v : View) → Holds told drawn items views → At views i v → 0 < v.parts → v.hold ≡ None → GoTogether v.note.flights → Holds told drawn items (set views i (noting v (merged v.note)))

-- a seat's share is divided with a new seat
abbrev pub SplitKeeps : Type 0
SplitKeeps =
    (told : Told) (drawn : ℕ) (items : List Taken) (views : List View) (i : ℕ) (v : View) (left right : ℕ) → Holds told drawn items views → At views i v → 0 < v.parts → 0 < left → Holds told drawn items (set views i (with_parts v left) ++ new_seat v right ∷ [])

-- a seat ends a further seat, which holds no slot and carries no flight
abbrev pub JoinKeeps : Type 0
JoinKeeps =
    (told : Told) (drawn : ℕ) (items : List Taken) (views : List View) (i j : ℕ) (v w spent : View) → Holds told drawn items views → At views i v → At views j w → (j ≡ i → ⊥) → 0 < v.parts → w.hold ≡ None → w.note.flights ≡ [] → IsSpent spent → Holds told drawn items (set (set views i (joined v w)) j spent)

-- ---- the reader is returned

-- a seat that holds the reader returns it: it has drawn these points, or none, or has failed, and they fly to the root
abbrev pub ReadKeeps : Type 0
ReadKeeps =
    (told : Told) (drawn : ℕ) (items : List Taken) (views : List View) (i : ℕ) (v : View) (old new : Progress) (points : List Point) (actor : ℕ) → Holds told drawn items views → AreLocked items views → At views i v → v.hold ≡ Some (0, Reading old) → HasRead told old new points → Holds told drawn (set items 0 (Reading new)) (set views i (given_back v (read v.note new (carried_to actor 1 root points))))

-- ---- a slot is drawn

-- a seat that may draw a slot for the octant that it notes draws the next one, if there is one
abbrev pub DrawKeeps : Type 0
DrawKeeps =
    (told : Told) (drawn : ℕ) (items : List Taken) (views : List View) (i : ℕ) (v : View) (held : ℕ) (x : Taken) → Holds told drawn items views → AreLocked items views → At views i v → v.hold ≡ Some (held, x) → MayDraw told v held x v.note.wish → drawn < told.most → Holds told (drawn + 1) items (set views i (noting v (drawing v.note (drawn + 1))))

-- if all slots are drawn, the draw is refused
abbrev pub RefusalKeeps : Type 0
RefusalKeeps =
    (told : Told) (drawn : ℕ) (items : List Taken) (views : List View) (i : ℕ) (v : View) (held : ℕ) (x : Taken) → Holds told drawn items views → AreLocked items views → At views i v → v.hold ≡ Some (held, x) → MayDraw told v held x v.note.wish → told.most ≤ drawn → Holds told (drawn + 1) items (set views i (refused_more v))

-- and if contents are visible, the sampling of the points up to the end of the allowance has more nodes
abbrev pub RefusalIsTrue : Type 0
RefusalIsTrue =
    (told : Told) (drawn : ℕ) (items : List Taken) (views : List View) (i : ℕ) (v : View) (held : ℕ) (x : Taken) → Holds told drawn items views → AreLocked items views → At views i v → v.hold ≡ Some (held, x) → MayDraw told v held x v.note.wish → told.most ≤ drawn → told.tells ≡ true → told.most < length (node_keys told.rules (take told.end told.points))

-- ---- a flight has arrived

-- a seat that holds the node of one of its flights returns it: the flight has arrived there, and the fresh flights
-- leave
abbrev pub ArrivalKeeps : Type 0
ArrivalKeeps =
    (told : Told) (drawn : ℕ) (items : List Taken) (views : List View) (i : ℕ) (v : View) (k : ℕ) (x : Taken) (number : ℕ) (c : Carried) (y : Cell) (fresh : List Carried) → Holds told drawn items views → AreLocked items views → At views i v → v.hold ≡ Some (k, x) → At v.note.flights number c → c.slot ≡ k → 0 < k → HasArrived told v x c.flight y fresh → Holds told drawn (set items k (Standing y)) (set views i (given_back v (arrived v.note number fresh)))

-- ---- what is known

-- what a seat takes fits it
abbrev pub TakeFits : Type 0
TakeFits =
    (told : Told) (drawn : ℕ) (items : List Taken) (views : List View) (i : ℕ) (v : View) (k : ℕ) (x : Taken) → Holds told drawn items views → At views i v → At items k x → Fits told v k x

-- if a flight has no slot and contents are visible, the sampling has more nodes than there may be
abbrev pub LackIsTooMany : Type 0
LackIsTooMany =
    (told : Told) (drawn : ℕ) (items : List Taken) (views : List View) (i : ℕ) (v : View) (c : Carried) → Holds told drawn items views → At views i v → IsMember c v.note.flights → c.slot ≡ 0 → IsTooMany told

-- so it has if a seat notes that all slots are drawn
abbrev pub FullIsTooMany : Type 0
FullIsTooMany =
    (told : Told) (drawn : ℕ) (items : List Taken) (views : List View) (i : ℕ) (v : View) → Holds told drawn items views → At views i v → NotesFull v → IsTooMany told

-- if contents are visible, the seats and the slots show at every moment a state that keeps the law
abbrev pub StateKeepsLaw : Type 0
StateKeepsLaw =
    (told : Told) (drawn : ℕ) (items : List Taken) (views : List View) (i : ℕ) (v : View) → Holds told drawn items views → AreLocked items views → At views i v → told.tells ≡ true → ShowsLaw told v

-- ---- beginning and end

-- a first seat, of all shares, that knows the ghost input of the table
abbrev pub FirstSeatHolds : Type 0
FirstSeatHolds =
    (told : Told) (drawn : ℕ) (items : List Taken) (parts : ℕ) → IsLanded told drawn items → Holds told drawn items (first_seat told parts ∷ [])

-- the root alone, and a reader of all points
abbrev pub BeginningIsLanded : Type 0
BeginningIsLanded =
    (told : Told) (items : List Taken) (r : Progress) (top : Cell) → IsTold told → IsPlanted told items r top → IsLanded told 1 items

-- the last seat, if it holds no slot and carries no flight, knows how the table ended
abbrev pub LastSeatTells : Type 0
LastSeatTells =
    (told : Told) (drawn : ℕ) (items : List Taken) (views : List View) (i : ℕ) (v : View) → Holds told drawn items views → AreLocked items views → At views i v → IsLast views i → v.hold ≡ None → IsEnded told drawn items v

-- if nothing flies and contents are visible, the nodes are the sampling of the points that were drawn
abbrev pub LandedIsSampling : Type 0
LandedIsSampling =
    (told : Told) (drawn : ℕ) (items : List Taken) (r : Progress) → IsLanded told drawn items → At items 0 (Reading r) → told.tells ≡ true → IsSampling told items (take r.drawn told.points)
