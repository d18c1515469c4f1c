-- Which result the files of a folder call for, and which one is returned.
use Rattle.std.specs.Prelude.{◌≡◌, ◌⊎◌, ℕ, ⊤, List, Option, Some, Result, Ok, Err}
use Rattle.ept_base.specs.Files.{Files, Tells}
use Rattle.ept_space.specs.declared.cube.Rules.{Rules}
use Rattle.ept_hier.specs.Hierarchy.{Node}
use Rattle.ept_query.specs.declared.listing.TheConstants.{EVERYWHERE}
use Rattle.ept_query.specs.declared.query_error.QueryFile.TheVariants as file
use Rattle.ept_query.specs.declared.query_error.QueryError.TheVariants as query
use Rattle.ept_query.specs.Refusals.{CallsOfPlan}
use Rattle.ept_query.specs.Listed.{HasNodes}
use Rattle.ept_check.specs.declared.verdict.Verdict.{Verdict}
use Rattle.ept_check.specs.declared.verdict.Verdict.TheVariants.{Fit, Unfit}
use Rattle.ept_check.specs.declared.check_error.CheckError.{CheckError}
use Rattle.ept_check.specs.declared.check_error.CheckError.TheVariants.{NotComplete, StoreFault, Damaged, Memory}
use Rattle.ept_check.specs.Folder.{IsFit, IsUnfit, IsFirstDamage}

abbrev pub Answer : Type 0
Answer = Result Verdict CheckError

-- the nodes of the folder are listed, and this is so of them
abbrev pub IsOfNodes : (Rules → List Node → Type 0) → Files → Type 0
IsOfNodes fact files = (rules : Rules) × (nodes : List Node) × HasNodes rules nodes files × fact rules nodes

-- the files call for a result
abbrev pub CallsFor : Answer → Files → Type 0
CallsFor (Ok (Fit points nodes)) files = IsOfNodes (λ rules listed. IsFit rules files listed points nodes) files
CallsFor (Ok (Unfit key why)) files = IsOfNodes (λ rules listed. IsUnfit rules files listed key why) files
CallsFor (Err NotComplete) files = CallsOfPlan EVERYWHERE 0 32 query.NotComplete files
CallsFor (Err StoreFault) files = ⊥
CallsFor (Err (Damaged file.BuildJson)) files = CallsOfPlan EVERYWHERE 0 32 (query.Damaged file.BuildJson) files
CallsFor (Err (Damaged (file.Hierarchy key))) files = CallsOfPlan EVERYWHERE 0 32 (query.Damaged (file.Hierarchy key)) files
CallsFor (Err (Damaged (file.Tile key))) files = IsOfNodes (λ rules listed. IsFirstDamage rules files listed key) files
CallsFor (Err Memory) files = ⊥

-- a result is called for, or a device failed, or memory ran out
abbrev pub IsCalledFor : Option Files → Answer → Type 0
IsCalledFor files (Ok verdict) = Tells (CallsFor (Ok verdict)) files
IsCalledFor files (Err NotComplete) = Tells (CallsFor (Err NotComplete)) files
IsCalledFor files (Err StoreFault) = ⊤
IsCalledFor files (Err (Damaged file)) = Tells (CallsFor (Err (Damaged file))) files
IsCalledFor files (Err Memory) = ⊤

-- this result is returned, unless the store failed or memory ran out
abbrev pub ComesOrFails : Answer → Answer → Type 0
ComesOrFails answer result = (result ≡ answer) ⊎ (result ≡ Err StoreFault) ⊎ (result ≡ Err Memory)

-- the result that the files call for is returned
abbrev pub ComesAsCalled : Option Files → Answer → Type 0
ComesAsCalled files result =
    (all : Files) → files ≡ Some all → (answer : Answer) → CallsFor answer all → ComesOrFails answer result
