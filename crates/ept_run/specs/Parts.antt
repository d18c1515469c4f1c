-- How a part of a build ends.
use Rattle.std.specs.Prelude.{◌≡◌, ◌≢◌, ◌⊎◌, ◌↔◌, ℕ, Option, None, Some, List, Result, Ok, Err, IsOk, IfOk, IfErr, OnOk, codes}
use Rattle.ept_base.specs.Files.{Files, Tells}
use Rattle.ept_config.specs.declared.config.Config.{Config}
use Rattle.ept_part.specs.declared.error.PartError.{PartError}
use Rattle.ept_part.specs.declared.error.PartError.TheVariants as part
use Rattle.ept_part.specs.declared.part_done.PartDone.{PartDone}
use Rattle.ept_part.specs.Making.{IsMade, IsRefused}
use Rattle.ept_command.specs.declared.ended.Failure.{Failure}
use Rattle.ept_command.specs.declared.ended.Failure.TheVariants as failure
use Rattle.ept_command.specs.declared.refusal.Refusal.{Refusal}
use Rattle.ept_command.specs.declared.refusal.Refusal.TheVariants as refusal
use Rattle.ept_command.specs.declared.refusal.PartRefusal.{PartRefusal}
use Rattle.ept_command.specs.declared.refusal.PartRefusal.TheVariants.{AsBuild, Shallow}
use Rattle.ept_command.specs.Configurations.{HasConfiguration, ConfigurationIsRefused}
use Rattle.ept_run.specs.Requests.{IsPartAcceptedAt}
use Rattle.ept_command.specs.Statuses.{status_of}
use Rattle.ept_run.specs.Lines.{summary_text, line_of}
use Rattle.ept_run.specs.Answers.{Says, IsSaid, IsUnwritten}

-- what a part comes to: how much it has, or why there is none
abbrev pub Outcome : Type 0
Outcome = Result PartDone PartRefusal

-- ---- refusals

-- what the refusals of a part are reported as: all but one as those of a build
abbrev pub of_part : PartError → PartRefusal
of_part part.SourceFault = AsBuild refusal.SourceFault
of_part (part.BadLas source fault) = AsBuild (refusal.BadLas source fault)
of_part (part.OutOfBounds source number) = AsBuild (refusal.OutOfBounds source number)
of_part (part.TooManyPoints source) = AsBuild (refusal.TooManyPoints source)
of_part part.NoBounds = AsBuild refusal.NoBounds
of_part part.Shallow = Shallow
of_part (part.SourceChanged source number) = AsBuild (refusal.SourceChanged source number)
of_part part.TooManyNodes = AsBuild refusal.TooManyNodes
of_part part.StoreFault = AsBuild refusal.StoreFault
of_part part.Memory = AsBuild refusal.Memory

-- the status of a refusal
abbrev pub part_status : PartRefusal → ℕ
part_status (AsBuild r) = status_of r
part_status Shallow = 6

-- its line
abbrev pub part_line : PartRefusal → List ℕ
part_line (AsBuild r) = line_of r
part_line Shallow = codes "error 6 shallow\n"

-- The file of this path is no configuration for this cause, or it is one whose part of these octants is refused for it.
abbrev pub PartIsRefused : Files → List ℕ → ℕ → PartRefusal → Type 0
PartIsRefused files path octants r =
    ((cause : Refusal) × (r ≡ AsBuild cause) × ConfigurationIsRefused files path cause)
    ⊎ ((config : Config) × (error : PartError) × (r ≡ of_part error) × HasConfiguration files path config × IsRefused files config octants error)

-- a fault of a device, or out of memory
abbrev pub IsPartFault : PartRefusal → Type 0
IsPartFault r = (r ≡ AsBuild refusal.SourceFault) ⊎ (r ≡ AsBuild refusal.StoreFault) ⊎ (r ≡ AsBuild refusal.Memory)

-- the part comes to such a refusal
abbrev pub FailsPart : Outcome → Type 0
FailsPart outcome = (r : PartRefusal) × (outcome ≡ Err r) × IsPartFault r

-- ---- what a part comes to

-- The file of this path is a configuration, and the store's files have its part of these octants, with these numbers
-- of points and nodes.
pub record IsPartMadeAt (files : Files) (path : List ℕ) (octants : ℕ) (done : PartDone) (new : Option Files) : Type 0 where
  pub config : Config
  pub configures : HasConfiguration files path config
  pub made : Tells (IsMade files config octants done) new

-- What it comes to, and when. Flushed says that the store is settled now, and same that it is as it was. Source and
-- store say that the count of that device rose.
pub record ComesToPart (path : List ℕ) (octants : ℕ) (outcome : Outcome) (files new : Option Files) (flushed same source store : Type 0) : Type 0 where
  pub made : IfOk outcome (λ done. Tells (λ all. IsPartMadeAt all path octants done new) files)
  pub settled : OnOk outcome flushed
  pub refused : IfErr outcome (λ r. Tells (λ all. PartIsRefused all path octants r) files)
  pub comes : Tells (λ all. (r : PartRefusal) → ¬ IsPartFault r → PartIsRefused all path octants r → (outcome ≡ Err r) ⊎ FailsPart outcome) files
  pub accepted : Tells (λ all. IsPartAcceptedAt all path octants → IsOk outcome ⊎ FailsPart outcome) files
  pub early : IfErr outcome (λ r. r ≢ AsBuild refusal.StoreFault → r ≢ AsBuild refusal.Memory → same)
  pub sources : outcome ≡ Err (AsBuild refusal.SourceFault) → source
  pub stores : outcome ≡ Err (AsBuild refusal.StoreFault) → store

-- ---- how it ends

-- The status of a part that comes to this, and its line. The sink has gained the line, or a prefix of it if the sink
-- failed.
abbrev pub SaysPart : Outcome → ℕ → Option (List ℕ) → Option (List ℕ) → Type 0 → Type 0
SaysPart (Ok done) status old new failed = IsSaid (summary_text done.points done.nodes) status old new failed
SaysPart (Err r) status old new failed = (status ≡ part_status r) × Says (part_line r) old new failed

-- why it does not end with status 0: a part that is made is no failure, unless its line could not be written
abbrev pub FailsAsPart : Outcome → Option Failure → Type 0
FailsAsPart (Ok done) why_not = (why_not ≡ None) ⊎ IsUnwritten why_not (summary_text done.points done.nodes)
FailsAsPart (Err (AsBuild r)) why_not = why_not ≡ Some (failure.Refused r)
FailsAsPart (Err Shallow) why_not = why_not ≡ Some failure.Shallow

-- a part that comes to this is reported by this status, failure and line
pub record IsPartReported (outcome : Outcome) (status : ℕ) (why_not : Option Failure) (old new : Option (List ℕ)) (failed : Type 0) : Type 0 where
  pub says : SaysPart outcome status old new failed
  pub fails : FailsAsPart outcome why_not
  pub unless_done : (status ≡ 0) ↔ (why_not ≡ None)

-- A part of the configuration of this path ends with a status: what it comes to is reported by its status and its line.
-- Out says that the count of the sink rose.
pub record EndsPart (path : List ℕ) (octants : ℕ) (status : ℕ) (files new : Option Files) (settled same : Type 0) (said_old said_new : Option (List ℕ)) (source store out : Type 0) : Type 0 where
  pub outcome : Outcome
  pub says : SaysPart outcome status said_old said_new out
  pub comes_to : ComesToPart path octants outcome files new settled same source store
