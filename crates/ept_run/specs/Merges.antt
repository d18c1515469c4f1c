-- How a merge of parts ends, and the build that follows it.
use Rattle.std.specs.Prelude.{◌≡◌, ◌⊎◌, ◌↔◌, ℕ, ◌++◌, Option, None, Some, List, Result, Ok, Err, IsOk, IfOk, IfErr, OnOk, map, filter, codes, decimal, ⊤}
use Rattle.std.specs.List.{join_with_byte}
use Rattle.ept_base.specs.Files.{Files, Tells}
use Rattle.ept_space.specs.VoxelKey.{VoxelKey}
use Rattle.ept_sample.specs.Arrivals.{all_octants}
use Rattle.ept_grid.specs.Mask.{opened}
use Rattle.ept_config.specs.declared.config.Config.{Config}
use Rattle.ept_config_text.specs.declared.config_error.ConfigError.{ConfigError}
use Rattle.ept_save.specs.Sound.{IsSound}
use Rattle.ept_build.specs.declared.error.BuildError.{BuildError}
use Rattle.ept_build.specs.declared.summary.Summary.{Summary}
use Rattle.ept_build.specs.Building as building
use Rattle.ept_merge.specs.declared.error.MergeError.{MergeError}
use Rattle.ept_merge.specs.declared.error.MergeError.TheVariants as merge
use Rattle.ept_merge.specs.Merging as merging
use Rattle.ept_command.specs.declared.ended.Failure.{Failure}
use Rattle.ept_command.specs.declared.ended.Failure.TheVariants as failure
use Rattle.ept_command.specs.declared.refusal.Refusal.{Refusal}
use Rattle.ept_command.specs.declared.refusal.Refusal.TheVariants as refusal
use Rattle.ept_command.specs.declared.refusal.PartRefusal.TheVariants.{AsBuild, Shallow}
use Rattle.ept_command.specs.declared.refusal.MergeRefusal.{MergeRefusal}
use Rattle.ept_command.specs.declared.refusal.MergeRefusal.TheVariants.{AsPart, HasCheckpoint, NoPart, PartDiffers, PartDamaged}
use Rattle.ept_command.specs.Configurations.{HasConfiguration, ConfigurationIsRefused}
use Rattle.ept_run.specs.Errors.{of_build}
use Rattle.ept_run.specs.Lines.{summary_text}
use Rattle.ept_run.specs.Requests.{IsMergeReadyAt, IsDefinite}
use Rattle.ept_run.specs.Answers.{Says, IsSaid, IsUnwritten}
use Rattle.ept_run.specs.Parts.{part_status, part_line}

-- what a merge comes to: how much the build has that follows it, or why there is none
abbrev pub Outcome : Type 0
Outcome = Result Summary MergeRefusal

-- ---- refusals

-- a refusal that a build may have too
abbrev pub as_build : Refusal → MergeRefusal
as_build r = AsPart (AsBuild r)

-- what the refusals of merging are reported as
abbrev pub of_merge : MergeError → MergeRefusal
of_merge merge.StoreFault = as_build refusal.StoreFault
of_merge (merge.BadCheckpoint letter) = as_build (refusal.BadCheckpoint letter)
of_merge (merge.HasCheckpoint generation) = HasCheckpoint
of_merge merge.SourceFault = as_build refusal.SourceFault
of_merge (merge.BadLas source fault) = as_build (refusal.BadLas source fault)
of_merge (merge.OutOfBounds source number) = as_build (refusal.OutOfBounds source number)
of_merge (merge.TooManyPoints source) = as_build (refusal.TooManyPoints source)
of_merge merge.NoBounds = as_build refusal.NoBounds
of_merge merge.Shallow = AsPart Shallow
of_merge (merge.NoPart octants) = NoPart octants
of_merge (merge.PartDiffers octants) = PartDiffers octants
of_merge (merge.PartDamaged octants key) = PartDamaged octants key
of_merge merge.TooManyNodes = as_build refusal.TooManyNodes
of_merge merge.Memory = as_build refusal.Memory

-- the status of a refusal
abbrev pub merge_status : MergeRefusal → ℕ
merge_status (AsPart r) = part_status r
merge_status HasCheckpoint = 6
merge_status (NoPart octants) = 6
merge_status (PartDiffers octants) = 6
merge_status (PartDamaged octants key) = 8

-- octants as words list them: their numbers, which ascend, with commas between them
unfoldable pub octants_text : ℕ → List ℕ
octants_text octants = join_with_byte 44 (map decimal (filter (opened octants) all_octants))

-- a line that names the part of some octants
unfoldable pub part_text : List ℕ → ℕ → List ℕ
part_text word octants = word ++ octants_text octants ++ codes "\n"

-- the line of a refusal
abbrev pub merge_line : MergeRefusal → List ℕ
merge_line (AsPart r) = part_line r
merge_line HasCheckpoint = codes "error 6 checkpoint\n"
merge_line (NoPart octants) = part_text (codes "error 6 part ") octants
merge_line (PartDiffers octants) = part_text (codes "error 6 differs ") octants
merge_line (PartDamaged octants key) = part_text (codes "error 8 part ") octants

-- a fault of the parts: one differs or is damaged
abbrev pub IsFaultOfParts : MergeRefusal → Type 0
IsFaultOfParts r = ((octants : ℕ) × (r ≡ PartDiffers octants)) ⊎ ((octants : ℕ) × (key : Option VoxelKey) × (r ≡ PartDamaged octants key))

-- a cause after which nothing was put: it is found before the tiles are read
abbrev pub IsEarlyMerge : MergeRefusal → Type 0
IsEarlyMerge (AsPart (AsBuild r)) = (error : ConfigError) × (r ≡ refusal.BadConfiguration error)
IsEarlyMerge (AsPart Shallow) = ⊤
IsEarlyMerge HasCheckpoint = ⊤
IsEarlyMerge (NoPart octants) = ⊤
IsEarlyMerge (PartDiffers octants) = ⊤
IsEarlyMerge (PartDamaged octants None) = ⊤
IsEarlyMerge (PartDamaged octants (Some key)) = ⊥

-- the result is a fault of a device, or out of memory
abbrev pub FailsMerge : {A : Type 0} → Result A MergeRefusal → Type 0
FailsMerge result = (result ≡ Err (as_build refusal.SourceFault)) ⊎ (result ≡ Err (as_build refusal.StoreFault)) ⊎ (result ≡ Err (as_build refusal.SpillFault)) ⊎ (result ≡ Err (as_build refusal.Memory))

-- the result is this refusal; of several damaged tiles, one is reported
abbrev pub ReportsMerge : {A : Type 0} → MergeRefusal → Result A MergeRefusal → Type 0
ReportsMerge (PartDamaged octants (Some key)) result = (other : ℕ) × (tile : VoxelKey) × (result ≡ Err (PartDamaged other (Some tile)))
ReportsMerge r result = result ≡ Err r

-- ---- what a merge comes to

-- Files between the merge and the build that follows it, of which this holds. They are sound, and their current
-- checkpoint has all points of the inputs.
pub record AfterMerge (files : Files) (config : Config) (fact : Files → Type 0) : Type 0 where
  pub between : Files
  pub merged : merging.HasMerged files config between
  pub sound : IsSound files between
  pub holds : fact between

-- The merge began with sound files and sound parts. Begins says so of the shelf's files and the store's.
abbrev pub OfSound : Files → (Files → Files → Type 0) → List ℕ → Type 0 → Type 0
OfSound files Begins parts fact = (start : Files) → Begins files start → merging.AreSoundParts files start parts → fact

-- The file of this path is a configuration, and nothing refused the parts. If the files and the parts were sound, the
-- store has the output of the build that followed.
pub record IsMergedAt (files : Files) (old : Option Files) (Begins : Files → Files → Type 0) (path parts : List ℕ) (summary : Summary) (new : Option Files) : Type 0 where
  pub config : Config
  pub configures : HasConfiguration files path config
  pub accepted : Tells (λ start. merging.WereMerged files start config parts) old
  pub built : OfSound files Begins parts (Tells (λ after. AfterMerge files config (λ between. building.IsBuilt files config between summary after)) new)

-- The file is no configuration for this cause; or the merge is refused for it; or, after the merge, the build is.
abbrev pub MergeIsRefused : Files → Option Files → (Files → Files → Type 0) → List ℕ → List ℕ → MergeRefusal → Type 0
MergeIsRefused files old Begins path parts r =
    ((cause : Refusal) × (r ≡ as_build cause) × ConfigurationIsRefused files path cause)
    ⊎ ((config : Config) × (error : MergeError) × (r ≡ of_merge error) × HasConfiguration files path config × Tells (λ start. merging.IsRefused files start config parts error) old)
    ⊎ ((config : Config) × (error : BuildError) × (r ≡ as_build (of_build error)) × HasConfiguration files path config × OfSound files Begins parts (AfterMerge files config (λ between. building.IsRefused files config between error)))

-- parts that were made of these inputs with the configuration of this path
pub record AreOwnAt (files start : Files) (path parts : List ℕ) : Type 0 where
  pub config : Config
  pub configures : HasConfiguration files path config
  pub own : merging.AreOwnParts files config start parts

-- The file of this path is a configuration, and merging these parts is refused for this cause. The cause lies in the
-- inputs, in the folder or in the parts.
pub record MergingIsRefusedAt (files start : Files) (path parts : List ℕ) (error : MergeError) : Type 0 where
  pub config : Config
  pub configures : HasConfiguration files path config
  pub definite : merging.IsDefinite error
  pub refused : merging.IsRefused files start config parts error

-- What it comes to. Old are the store's files before and new those after. Flushed says that the store is settled now,
-- and same that nothing was put. Source, store and room say that the count of that device rose. Parts that are ready
-- are merged and built. A cause for which merging, or the configuration, is refused is reported. Both hold unless a
-- device fails or memory runs out.
pub record ComesToMerge (path parts : List ℕ) (outcome : Outcome) (files old : Option Files) (Begins : Files → Files → Type 0) (new : Option Files) (flushed same source store room : Type 0) : Type 0 where
  pub merged : IfOk outcome (λ summary. Tells (λ all. IsMergedAt all old Begins path parts summary new) files)
  pub settled : OnOk outcome flushed
  pub refused : IfErr outcome (λ r. Tells (λ all. MergeIsRefused all old Begins path parts r) files)
  pub ready : Tells (λ all. Tells (λ start. Begins all start → IsMergeReadyAt all start path parts → IsOk outcome ⊎ FailsMerge outcome) old) files
  pub comes : Tells (λ all. Tells (λ start. (error : MergeError) → MergingIsRefusedAt all start path parts error → ReportsMerge (of_merge error) outcome ⊎ FailsMerge outcome) old) files
  pub unread : Tells (λ all. (cause : Refusal) → IsDefinite cause → ConfigurationIsRefused all path cause → (outcome ≡ Err (as_build cause)) ⊎ FailsMerge outcome) files
  pub own : IfErr outcome (λ r. Tells (λ all. Tells (λ start. AreOwnAt all start path parts → ¬ IsFaultOfParts r) old) files)
  pub early : IfErr outcome (λ r. IsEarlyMerge r → same)
  pub sources : outcome ≡ Err (as_build refusal.SourceFault) → source
  pub stores : outcome ≡ Err (as_build refusal.StoreFault) → store
  pub spills : outcome ≡ Err (as_build refusal.SpillFault) → room

-- ---- how it ends

-- The status of a merge that comes to this, and its line. The sink has gained the line, or a prefix of it if the sink
-- failed.
abbrev pub SaysMerge : Outcome → ℕ → Option (List ℕ) → Option (List ℕ) → Type 0 → Type 0
SaysMerge (Ok summary) status old new failed = IsSaid (summary_text summary.points summary.nodes) status old new failed
SaysMerge (Err r) status old new failed = (status ≡ merge_status r) × Says (merge_line r) old new failed

-- the failure of a refusal
abbrev pub merge_failure : MergeRefusal → Failure
merge_failure (AsPart (AsBuild r)) = failure.Refused r
merge_failure (AsPart Shallow) = failure.Shallow
merge_failure HasCheckpoint = failure.MergeRefused HasCheckpoint
merge_failure (NoPart octants) = failure.MergeRefused (NoPart octants)
merge_failure (PartDiffers octants) = failure.MergeRefused (PartDiffers octants)
merge_failure (PartDamaged octants key) = failure.MergeRefused (PartDamaged octants key)

-- why it does not end with status 0: what is built is no failure, unless its line could not be written
abbrev pub FailsAsMerge : Outcome → Option Failure → Type 0
FailsAsMerge (Ok summary) why_not = (why_not ≡ None) ⊎ IsUnwritten why_not (summary_text summary.points summary.nodes)
FailsAsMerge (Err r) why_not = why_not ≡ Some (merge_failure r)

-- a merge that comes to this is reported by this status, failure and line
pub record IsMergeReported (outcome : Outcome) (status : ℕ) (why_not : Option Failure) (old new : Option (List ℕ)) (failed : Type 0) : Type 0 where
  pub says : SaysMerge outcome status old new failed
  pub fails : FailsAsMerge outcome why_not
  pub unless_done : (status ≡ 0) ↔ (why_not ≡ None)

-- A merge of these parts, with the configuration of this path, ends with a status. What it comes to is reported by its
-- status and its line. Out says that the count of the sink rose.
pub record EndsMerge (path parts : List ℕ) (status : ℕ) (files old : Option Files) (Begins : Files → Files → Type 0) (new : Option Files) (settled same : Type 0) (said_old said_new : Option (List ℕ)) (source store room out : Type 0) : Type 0 where
  pub outcome : Outcome
  pub says : SaysMerge outcome status said_old said_new out
  pub comes_to : ComesToMerge path parts outcome files old Begins new settled same source store room
