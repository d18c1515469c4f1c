-- What a folder holds, and how it may change.
use Rattle.std.specs.Prelude.{◌≡◌, ◌≢◌, ℕ, List, Option, Some, None, bytes_eq, if◌then◌else◌, ⊤}

-- the bytes under each name, if there is such a file
abbrev pub Files : Type 0
Files = List ℕ → Option (List ℕ)

-- the same files, with this under the name
abbrev pub changed : Files → List ℕ → Option (List ℕ) → Files
changed files name content = λ other. if bytes_eq other name then content else files other

-- each name reads as before
abbrev pub SameFiles : Files → Files → Type 0
SameFiles old new = (name : List ℕ) → new name ≡ old name

-- each name except this one reads as before
abbrev pub SameBut : List ℕ → Files → Files → Type 0
SameBut name old new = (other : List ℕ) → other ≢ name → new other ≡ old other

-- the name reads as these bytes, and every other name as before
abbrev pub Puts : List ℕ → List ℕ → Files → Files → Type 0
Puts name bytes old new = SameFiles (changed old name (Some bytes)) new

-- the name is missing, and every other name reads as before
abbrev pub Removes : List ℕ → Files → Files → Type 0
Removes name old new = SameFiles (changed old name None) new

-- a fact about what a device holds, if its contents are visible to the proof
abbrev pub Tells : {X : Type 0} → (X → Type 0) → Option X → Type 0
Tells fact None = ⊤
Tells fact (Some told) = fact told

-- What a device holds changes from old to new by this step. Contents that are visible stay visible, and contents that
-- are not stay so.
abbrev pub StepsBy : {X : Type 0} → (X → X → Type 0) → Option X → Option X → Type 0
StepsBy step None None = ⊤
StepsBy step None (Some new) = ⊥
StepsBy step (Some old) None = ⊥
StepsBy step (Some old) (Some new) = step old new

-- whatever it was and is
abbrev pub AnyChange : {X : Type 0} → X → X → Type 0
AnyChange old new = ⊤

-- as before
abbrev pub NoChange : {X : Type 0} → X → X → Type 0
NoChange old new = new ≡ old
