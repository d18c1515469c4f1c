-- What is found of the nodes of a folder, once they are listed.
use Rattle.std.specs.Prelude.{◌≡◌, ℕ, ⊤, List, length, Option, Ok, Err}
use Rattle.ept_base.specs.Files.{Files, Tells}
use Rattle.ept_space.specs.declared.cube.Rules.{Rules}
use Rattle.ept_space.specs.VoxelKey.{VoxelKey}
use Rattle.ept_sample.specs.Members.{IsMember}
use Rattle.ept_hier.specs.Hierarchy.{Node, keys_of}
use Rattle.ept_query.specs.declared.query_error.QueryFile.TheVariants as file
use Rattle.ept_check.specs.declared.verdict.Verdict.TheVariants.{Fit, Unfit}
use Rattle.ept_check.specs.declared.check_error.CheckError.TheVariants.{NotComplete, StoreFault, Damaged, Memory}
use Rattle.ept_check.specs.Answers.{Answer, IsOfNodes, CallsFor}
use Rattle.ept_check.specs.Nodes.{count_of}
use Rattle.ept_check.specs.Folder.{HaveParents, IsFaultless, IsFirstFault, IsFirstDamage, IsUnfit}

-- no node has a fault; `points` is the sum of their counts, and `count` the number of nodes
pub record AreFaultless (rules : Rules) (files : Files) (nodes : List Node) (points count : ℕ) : Type 0 where
  pub parents : HaveParents nodes
  pub each : (key : VoxelKey) → IsMember key (keys_of nodes) → IsFaultless rules files nodes key
  pub points_are : points ≡ count_of nodes
  pub count_is : count ≡ length nodes

-- what the walk over nodes that have their parents finds
abbrev pub AnswersWalk : Rules → List Node → Option Files → Answer → Type 0
AnswersWalk rules nodes files (Ok (Fit points count)) = Tells (λ all. AreFaultless rules all nodes points count) files
AnswersWalk rules nodes files (Ok (Unfit key why)) = Tells (λ all. IsFirstFault rules all nodes key why) files
AnswersWalk rules nodes files (Err NotComplete) = ⊥
AnswersWalk rules nodes files (Err StoreFault) = ⊤
AnswersWalk rules nodes files (Err (Damaged file.BuildJson)) = ⊥
AnswersWalk rules nodes files (Err (Damaged (file.Hierarchy key))) = ⊥
AnswersWalk rules nodes files (Err (Damaged (file.Tile key))) = Tells (λ all. IsFirstDamage rules all nodes key) files
AnswersWalk rules nodes files (Err Memory) = ⊤

-- what is found of listed nodes
abbrev pub AnswersNodes : Rules → List Node → Option Files → Answer → Type 0
AnswersNodes rules nodes files (Ok (Fit points count)) = Tells (λ all. AreFaultless rules all nodes points count) files
AnswersNodes rules nodes files (Ok (Unfit key why)) = Tells (λ all. IsUnfit rules all nodes key why) files
AnswersNodes rules nodes files (Err NotComplete) = ⊥
AnswersNodes rules nodes files (Err StoreFault) = ⊤
AnswersNodes rules nodes files (Err (Damaged file.BuildJson)) = ⊥
AnswersNodes rules nodes files (Err (Damaged (file.Hierarchy key))) = ⊥
AnswersNodes rules nodes files (Err (Damaged (file.Tile key))) = Tells (λ all. IsFirstDamage rules all nodes key) files
AnswersNodes rules nodes files (Err Memory) = ⊤

-- what is found of a folder: the same, if its nodes are listed
abbrev pub AnswersFolder : Option Files → Answer → Type 0
AnswersFolder files (Ok (Fit points count)) = Tells (λ all. IsOfNodes (λ rules nodes. AreFaultless rules all nodes points count) all) files
AnswersFolder files (Ok (Unfit key why)) = Tells (CallsFor (Ok (Unfit key why))) files
AnswersFolder files (Err NotComplete) = Tells (CallsFor (Err NotComplete)) files
AnswersFolder files (Err StoreFault) = ⊤
AnswersFolder files (Err (Damaged file)) = Tells (CallsFor (Err (Damaged file))) files
AnswersFolder files (Err Memory) = ⊤
