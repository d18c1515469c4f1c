-- What holds of the nodes in the slots while nothing flies. Each statement is proved by the contract of a function of
-- `laws`.
use Rattle.std.specs.Prelude.{◌≡◌, ℕ, suc, true, List, map, length, take, set, None, sum_by}
use Rattle.ept_space.specs.VoxelKey.{VoxelKey}
use Rattle.ept_sample.specs.SamplingLaws.{CanBeSampled}
use Rattle.ept_table.specs.declared.note.Told.{Told}
use Rattle.ept_table.specs.declared.taken.Cell.{Cell}
use Rattle.ept_table.specs.declared.taken.Progress.{Progress}
use Rattle.ept_table.specs.declared.taken.Taken.{Taken}
use Rattle.ept_table.specs.declared.taken.Taken.TheVariants.{Standing, Reading}
use Rattle.ept_table.specs.At.{At}
use Rattle.ept_table.specs.Taken.{count_of}
use Rattle.ept_table.specs.Shown.{IsTold, IsSound, FitsReader}
use Rattle.ept_table.specs.Tells.{IsLanded}
use Rattle.ept_table.specs.Octree.{Branch, entry_of, AreSampled, AreWhole, keys_in, FillSlots, HaveOneSlot, AreLinked, AreStanding}

-- ---- what is known of landed nodes

-- they are in the first slots, each key in one, and have the slots of their children
abbrev pub LandedFillsSlots : Type 0
LandedFillsSlots =
    (told : Told) (used : ℕ) (items : List Taken) → IsLanded told used items → FillSlots told.most used items × HaveOneSlot items × AreLinked items

-- each node of the beginning is in its slot
abbrev pub LandedKeepsBegun : Type 0
LandedKeepsBegun =
    (told : Told) (used : ℕ) (items : List Taken) (i : ℕ) (key : VoxelKey) → IsLanded told used items → At told.begun i key → (c : Cell) × At items (suc i) (Standing c) × (c.node.key ≡ key)

-- each is sound
abbrev pub LandedIsSound : Type 0
LandedIsSound =
    (told : Told) (used : ℕ) (items : List Taken) (k : ℕ) (c : Cell) → IsLanded told used items → At items k (Standing c) → IsSound told c

-- the reader fits and has not failed, and the number of points in the nodes is the number that it has drawn
pub record IsReadSoFar (told : Told) (items : List Taken) (r : Progress) : Type 0 where
  pub fits : FitsReader told r
  pub sound : r.failed ≡ None
  pub adds_up : sum_by count_of items ≡ r.drawn

abbrev pub LandedIsRead : Type 0
LandedIsRead =
    (told : Told) (used : ℕ) (items : List Taken) (r : Progress) → IsLanded told used items → At items 0 (Reading r) → IsReadSoFar told items r

-- they are a whole octree
abbrev pub LandedIsWhole : Type 0
LandedIsWhole =
    (told : Told) (used : ℕ) (items : List Taken) (nodes : List Branch) → IsLanded told used items → AreStanding items nodes → AreWhole (map entry_of nodes)

-- and if contents are visible, they are the sampling of the points that were drawn
abbrev pub LandedIsSampled : Type 0
LandedIsSampled =
    (told : Told) (used : ℕ) (items : List Taken) (nodes : List Branch) (r : Progress) → IsLanded told used items → AreStanding items nodes → At items 0 (Reading r) → told.tells ≡ true → AreSampled told.rules (take r.drawn told.points) nodes

-- ---- a landed table continues

-- the same with another end of the reader's allowance, and with all its nodes as those of the beginning
abbrev pub going_on : Told → ℕ → List Taken → Told
going_on told end items = record told { end = end; begun = keys_in items }

-- what is landed is landed with another allowance
abbrev pub LandedGoesOn : Type 0
LandedGoesOn =
    (told : Told) (used : ℕ) (items : List Taken) (old new : Progress) (end : ℕ) → IsLanded told used items → At items 0 (Reading old) → new.drawn ≡ old.drawn → new.failed ≡ None → FitsReader (going_on told end items) new → IsLanded (going_on told end items) used (set items 0 (Reading new))

-- ---- nodes of a checkpoint

-- Sound nodes in slots, linked and a whole octree, with the reader that has drawn their points. If contents are
-- visible, they are the sampling of the points that were drawn.
pub record IsResumed (told : Told) (used : ℕ) (items : List Taken) (nodes : List Branch) (r : Progress) : Type 0 where
  pub begun : told.begun ≡ keys_in items
  pub slots : FillSlots told.most used items
  pub standing : AreStanding items nodes
  pub one_slot : HaveOneSlot items
  pub linked : AreLinked items
  pub sound : (k : ℕ) (c : Cell) → At items k (Standing c) → IsSound told c
  pub whole : AreWhole (map entry_of nodes)
  pub at_first : At items 0 (Reading r)
  pub read : IsReadSoFar told items r
  pub can : told.tells ≡ true → CanBeSampled told.rules told.points × (length told.points ≡ told.total)
  pub sampled : told.tells ≡ true → AreSampled told.rules (take r.drawn told.points) nodes

-- they are landed
abbrev pub ResumedIsLanded : Type 0
ResumedIsLanded =
    (told : Told) (used : ℕ) (items : List Taken) (nodes : List Branch) (r : Progress) → IsTold told → IsResumed told used items nodes r → IsLanded told used items
