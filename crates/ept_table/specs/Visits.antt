-- What a visit did.
use Rattle.std.specs.Prelude.{◌≡◌, ◌<◌, ℕ, ◌⊎◌, List, []}
use Rattle.ept_point.specs.declared.point.Point.{Point}
use Rattle.ept_space.specs.VoxelKey.{root}
use Rattle.ept_table.specs.declared.note.Told.{Told}
use Rattle.ept_table.specs.declared.note.Carried.{Carried}
use Rattle.ept_table.specs.declared.note.Note.{Note}
use Rattle.ept_table.specs.declared.done.Done.{Done}
use Rattle.ept_table.specs.declared.done.Done.TheVariants.{Nothing, Draw, Arrive}
use Rattle.ept_table.specs.declared.done.Said.{Said}
use Rattle.ept_table.specs.declared.done.Said.TheVariants.{Did, Wish}
use Rattle.ept_table.specs.declared.taken.Cell.{Cell}
use Rattle.ept_table.specs.declared.taken.Progress.{Progress}
use Rattle.ept_table.specs.declared.taken.Taken.{Taken}
use Rattle.ept_table.specs.declared.taken.Taken.TheVariants.{Blank, Standing, Reading}
use Rattle.ept_table.specs.At.{At}
use Rattle.ept_table.specs.View.{View}
use Rattle.ept_table.specs.Steps.{read, arrived, wishing, carried_to, HasRead, HasArrived, StaysAlike}

-- the flights that leave
abbrev pub fresh_of : Done → List Carried
fresh_of Nothing = []
fresh_of (Draw fresh) = fresh
fresh_of (Arrive number fresh) = fresh

-- what a seat notes after it has returned a node
abbrev pub note_of_node : Note → Done → Note
note_of_node n Nothing = n
note_of_node n (Draw fresh) = n
note_of_node n (Arrive number fresh) = arrived n number fresh

-- what a seat notes after it has returned this
abbrev pub note_after : Note → Taken → Done → Note
note_after n Blank done = note_of_node n done
note_after n (Standing c) done = note_of_node n done
note_after n (Reading r) done = read n r (fresh_of done)

-- and what it notes after a step with this report
abbrev pub note_said : Note → Taken → Said → Note
note_said n y (Did done) = note_after n y done
note_said n y (Wish o) = wishing n o

-- a reader is returned that has drawn these points, which leave for the root
pub record GivesReader (told : Told) (k : ℕ) (x y : Taken) (points : List Point) (fresh : List Carried) : Type 0 where
  pub old : Progress
  pub new : Progress
  pub slot : k ≡ 0
  pub taken : x ≡ Reading old
  pub given : y ≡ Reading new
  pub has_read : HasRead told old new points
  pub actor : ℕ
  pub flies : fresh ≡ carried_to actor 1 root points

-- a node is returned at which the flight of this number has arrived
pub record GivesNode (told : Told) (v : View) (k : ℕ) (x y : Taken) (number : ℕ) (fresh : List Carried) : Type 0 where
  pub carried : Carried
  pub cell : Cell
  pub its : At v.note.flights number carried
  pub goes_there : carried.slot ≡ k
  pub is_node : 0 < k
  pub given : y ≡ Standing cell
  pub has_arrived : HasArrived told v x carried.flight cell fresh

-- The item differs from the item that was taken as the visit reports: by nothing, by a draw, or by an arrival. A node
-- may have moved to or from its file, and a reader may have failed.
abbrev pub Visits : Told → View → ℕ → Taken → Taken → Done → Type 0
Visits told v k x y Nothing = (StaysAlike told x y × (0 < k) × (v.note.draws ≡ [])) ⊎ GivesReader told k x y [] []
Visits told v k x y (Draw fresh) = (points : List Point) × GivesReader told k x y points fresh
Visits told v k x y (Arrive number fresh) = GivesNode told v k x y number fresh
