-- What is found of files that read as before.
use Rattle.std.proofs.Common.{◌≡◌, ℕ, List, Option, Some, Ok, Err, sym}
use Rattle.ept_base.specs.Files.{Files, SameFiles, StepsBy, Tells}
use Rattle.ept_point.specs.declared.point.Point.{Point}
use Rattle.ept_space.specs.declared.cube.Rules.{Rules}
use Rattle.ept_space.specs.VoxelKey.{VoxelKey}
use Rattle.ept_hier.specs.Hierarchy.{Node, keys_of}
use Rattle.ept_query.specs.declared.listing.TheConstants.{EVERYWHERE}
use Rattle.ept_query.specs.declared.query_error.QueryFile.TheVariants.{BuildJson, Hierarchy, Tile as TileOf}
use Rattle.ept_query.specs.declared.query_error.QueryError.{QueryError}
use Rattle.ept_query.specs.declared.query_error.QueryError.TheVariants as query
use Rattle.ept_query.specs.Refusals.{RefusesPlan}
use Rattle.ept_query.specs.Listed.{HasNodes}
use Rattle.ept_check.specs.declared.fault.Fault.{Fault}
use Rattle.ept_check.specs.declared.verdict.Verdict.TheVariants.{Fit, Unfit}
use Rattle.ept_check.specs.declared.check_error.CheckError.TheVariants.{NotComplete, StoreFault, Damaged, Memory}
use Rattle.std.proofs.Common.{inl, inr, ⊎_elim, ◌⊎◌}
use Rattle.ept_check.specs.Nodes.{HasNode, LoseAbove, AreNew}
use Rattle.ept_check.specs.Facts.{Holds}
use Rattle.ept_check.specs.Folder.{IsFirstOrphan, IsFaultless, IsFirstFault, IsFirstDamage, IsUnfit}
use Rattle.ept_check.specs.Answers.{Answer, IsOfNodes}
use Rattle.ept_check.specs.Causes.{of_query}
use Rattle.ept_check.specs.Verdicts.{AreFaultless, AnswersNodes, AnswersFolder}
use Rattle.ept_check.proofs.Told.{tells-from, told, told-back, tile-back, no-tile-back}
use Rattle.ept_check.proofs.Walks.{lack-as}

turn : (old new : Files) → SameFiles old new → SameFiles new old
turn old new same = λ name. sym (same name)

node-back : (nodes : List Node) (key : VoxelKey) (points : List Point) (old new : Files) → SameFiles old new → HasNode new nodes key points → HasNode old nodes key points
node-back nodes key points old new same has = record { count = has.count; listed = has.listed; tile = tile-back key has.count points old new same has.tile }

module _ (rules : Rules) (nodes : List Node) where
  lose-back : (key : VoxelKey) (points : List Point) (old new : Files) → SameFiles old new → LoseAbove rules new nodes key points → LoseAbove rules old nodes key points
  lose-back key points old new same lose top tops node = lose top tops (node-back nodes top tops new old (turn old new same) node)

  fresh-back : (key : VoxelKey) (points : List Point) (old new : Files) → SameFiles old new → AreNew new nodes key points → AreNew old nodes key points
  fresh-back key points old new same fresh other others node = fresh other others (node-back nodes other others new old (turn old new same) node)

  holds-back : (key : VoxelKey) (points : List Point) (old new : Files) → SameFiles old new → (f : Fault) → Holds rules new nodes key points f → Holds rules old nodes key points f
  holds-back key points old new same =
      lack-as (LoseAbove rules new nodes key points) (LoseAbove rules old nodes key points) (AreNew new nodes key points) (AreNew old nodes key points) rules nodes key points
      (lose-back key points old new same) (lose-back key points new old (turn old new same)) (fresh-back key points old new same) (fresh-back key points new old (turn old new same))

  clean-back : (key : VoxelKey) (old new : Files) → SameFiles old new → IsFaultless rules new nodes key → IsFaultless rules old nodes key
  clean-back key old new same clean = record {
    points = clean.points;
    has = node-back nodes key clean.points old new same clean.has;
    holds = λ f. holds-back key clean.points old new same f (clean.holds f);
  }

  none-back : (points count : ℕ) (old new : Files) → SameFiles old new → AreFaultless rules new nodes points count → AreFaultless rules old nodes points count
  none-back points count old new same none = record { parents = none.parents; each = λ key m. clean-back key old new same (none.each key m); points_are = none.points_are; count_is = none.count_is }

  fault-back : (key : VoxelKey) (why : Fault) (old new : Files) → SameFiles old new → IsFirstFault rules new nodes key why → IsFirstFault rules old nodes key why
  fault-back key why old new same fault = record {
    parents = fault.parents;
    before = λ other m less. clean-back other old new same (fault.before other m less);
    points = fault.points;
    has = node-back nodes key fault.points old new same fault.has;
    lack = record {
      lacks = λ holds. fault.lack.lacks (holds-back key fault.points new old (turn old new same) why holds);
      before = λ other less. holds-back key fault.points old new same other (fault.lack.before other less);
    };
  }

  damage-back : (key : VoxelKey) (old new : Files) → SameFiles old new → IsFirstDamage rules new nodes key → IsFirstDamage rules old nodes key
  damage-back key old new same damage = record {
    parents = damage.parents;
    before = λ other m less. clean-back other old new same (damage.before other m less);
    count = damage.count;
    listed = damage.listed;
    damaged = no-tile-back key damage.count old new same damage.damaged;
  }

  unfit-back : (key : VoxelKey) (why : Fault) (old new : Files) → SameFiles old new → IsUnfit rules new nodes key why → IsUnfit rules old nodes key why
  unfit-back key why old new same (inl orphan) = inl orphan
  unfit-back key why old new same (inr fault) = inr (fault-back key why old new same fault)

  pub folder-from : (before now : Option Files) (r : Answer) → Tells (HasNodes rules nodes) before → StepsBy SameFiles before now → AnswersNodes rules nodes now r → AnswersFolder before r
  folder-from before now (Ok (Fit points count)) has steps told' = tells-from (λ all. IsOfNodes (λ r ns. AreFaultless r all ns points count) all) before (λ all is.
      (rules, nodes, told (HasNodes rules nodes) before all is has, told-back (λ (f : Files). AreFaultless rules f nodes points count) (none-back points count) before now all is steps told'))
  folder-from before now (Ok (Unfit key why)) has steps told' = tells-from (λ all. IsOfNodes (λ r ns. IsUnfit r all ns key why) all) before (λ all is.
      (rules, nodes, told (HasNodes rules nodes) before all is has, told-back (λ (f : Files). IsUnfit rules f nodes key why) (unfit-back key why) before now all is steps told'))
  folder-from before now (Err NotComplete) has steps told' = absurd told'
  folder-from before now (Err StoreFault) has steps told' = tt
  folder-from before now (Err (Damaged BuildJson)) has steps told' = absurd told'
  folder-from before now (Err (Damaged (Hierarchy key))) has steps told' = absurd told'
  folder-from before now (Err (Damaged (TileOf key))) has steps told' = tells-from (λ all. IsOfNodes (λ r ns. IsFirstDamage r all ns key) all) before (λ all is.
      (rules, nodes, told (HasNodes rules nodes) before all is has, told-back (λ (f : Files). IsFirstDamage rules f nodes key) (damage-back key) before now all is steps told'))
  folder-from before now (Err Memory) has steps told' = tt
