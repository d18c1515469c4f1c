-- Which refusal a query returns.
use Rattle.std.specs.Prelude.{◌≡◌, ◌⊎◌, ℕ, ⊤, Option, Some, Result, Err}
use Rattle.ept_base.specs.Files.{Files, Tells}
use Rattle.ept_space.specs.declared.box3.Box3.{Box3}
use Rattle.ept_save.specs.Done.{IsDone}
use Rattle.ept_query.specs.declared.query_error.QueryFile.TheVariants.{BuildJson, Hierarchy, Tile}
use Rattle.ept_query.specs.declared.query_error.QueryError.{QueryError}
use Rattle.ept_query.specs.declared.query_error.QueryError.TheVariants.{NotComplete, StoreFault, Damaged, SinkFault, Memory}
use Rattle.ept_query.specs.Damage.{HasNoBuild, IsFirstDamaged}
use Rattle.ept_query.specs.Planning.{GetsFiles, GetsAll, GetsUpTo}

-- why nothing is looked for: the done gate is not open, the store failed, the build file is damaged, or memory ran out
abbrev pub RefusesStart : Option Files → QueryError → Type 0
RefusesStart files NotComplete = Tells (λ all. ¬ IsDone all) files
RefusesStart files StoreFault = ⊤
RefusesStart files (Damaged BuildJson) = Tells (λ all. IsDone all × HasNoBuild all) files
RefusesStart files (Damaged (Hierarchy key)) = ⊥
RefusesStart files (Damaged (Tile key)) = ⊥
RefusesStart files SinkFault = ⊥
RefusesStart files Memory = ⊤

-- why there is no plan: the done gate is not open, the store failed, a file is damaged, or memory ran out
abbrev pub RefusesPlan : Box3 → ℕ → ℕ → Option Files → QueryError → Type 0
RefusesPlan area first last files NotComplete = Tells (λ all. ¬ IsDone all) files
RefusesPlan area first last files StoreFault = ⊤
RefusesPlan area first last files (Damaged BuildJson) = Tells (λ all. IsDone all × HasNoBuild all) files
RefusesPlan area first last files (Damaged (Hierarchy key)) = Tells (λ all. IsDone all × IsFirstDamaged area first last (Hierarchy key) all) files
RefusesPlan area first last files (Damaged (Tile key)) = ⊥
RefusesPlan area first last files SinkFault = ⊥
RefusesPlan area first last files Memory = ⊤

-- why a query is refused
abbrev pub RefusesQuery : Box3 → ℕ → ℕ → Option Files → QueryError → Type 0
RefusesQuery area first last files NotComplete = Tells (λ all. ¬ IsDone all) files
RefusesQuery area first last files StoreFault = ⊤
RefusesQuery area first last files (Damaged file) = Tells (λ all. IsDone all × IsFirstDamaged area first last file all) files
RefusesQuery area first last files SinkFault = ⊤
RefusesQuery area first last files Memory = ⊤

-- ---- which refusal is returned

-- the files call for this refusal of a plan
abbrev pub CallsOfPlan : Box3 → ℕ → ℕ → QueryError → Files → Type 0
CallsOfPlan area first last NotComplete files = ¬ IsDone files
CallsOfPlan area first last StoreFault files = ⊥
CallsOfPlan area first last (Damaged BuildJson) files = IsDone files × HasNoBuild files
CallsOfPlan area first last (Damaged (Hierarchy key)) files = IsDone files × IsFirstDamaged area first last (Hierarchy key) files
CallsOfPlan area first last (Damaged (Tile key)) files = ⊥
CallsOfPlan area first last SinkFault files = ⊥
CallsOfPlan area first last Memory files = ⊥

-- the files call for this refusal of a query
abbrev pub CallsOfQuery : Box3 → ℕ → ℕ → QueryError → Files → Type 0
CallsOfQuery area first last NotComplete files = ¬ IsDone files
CallsOfQuery area first last StoreFault files = ⊥
CallsOfQuery area first last (Damaged file) files = IsDone files × IsFirstDamaged area first last file files
CallsOfQuery area first last SinkFault files = ⊥
CallsOfQuery area first last Memory files = ⊥

-- the call returns this refusal, or a device failed, or memory ran out
abbrev pub AnswersOrFails : {T : Type 0} → Result T QueryError → QueryError → Type 0
AnswersOrFails result error =
    (result ≡ Err error) ⊎ (result ≡ Err StoreFault) ⊎ (result ≡ Err SinkFault) ⊎ (result ≡ Err Memory)

-- the refusal that the files call for is returned
abbrev pub RefusesAsCalled : {T : Type 0} → (QueryError → Files → Type 0) → Option Files → Result T QueryError → Type 0
RefusesAsCalled calls files result =
    (all : Files) → files ≡ Some all → (error : QueryError) → calls error all → AnswersOrFails result error

-- ---- what it takes

-- How many files a query reads before a refusal, at most. If there is no plan, those that a plan takes. If a tile is
-- damaged, no tile after it in key order.
abbrev pub GetsBefore : Box3 → ℕ → ℕ → ℕ → ℕ → QueryError → Files → Type 0
GetsBefore area first last before now NotComplete files = GetsFiles area first last before now files
GetsBefore area first last before now StoreFault files = GetsAll area first last before now files
GetsBefore area first last before now (Damaged BuildJson) files = GetsFiles area first last before now files
GetsBefore area first last before now (Damaged (Hierarchy key)) files = GetsFiles area first last before now files
GetsBefore area first last before now (Damaged (Tile key)) files = GetsUpTo area first last key before now files
GetsBefore area first last before now SinkFault files = GetsAll area first last before now files
GetsBefore area first last before now Memory files = GetsAll area first last before now files
