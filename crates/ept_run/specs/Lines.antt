-- The lines that are written: of a command that is carried out, and of each refusal.
use Rattle.std.specs.Prelude.{ℕ, List, [], ◌++◌, codes}
use Rattle.std.specs.Fmt.{decimal}
use Rattle.ept_config_text.specs.declared.config_error.ConfigError.{ConfigError}
use Rattle.ept_config_text.specs.Refusals as config
use Rattle.ept_las.specs.declared.header.Header.{Header}
use Rattle.ept_las.specs.declared.las_error.LasError.{LasError}
use Rattle.ept_las.specs.declared.las_error.LasError.TheVariants.{Short, Signature, Version, HeaderSize, Compressed, Format, RecordLength, PointOffset, Expect, Truncated}
use Rattle.ept_las.specs.LasHeader as las
use Rattle.ept_space.specs.KeyText as space
use Rattle.ept_space.specs.VoxelKey.{VoxelKey}
use Rattle.ept_check.specs.declared.fault.Fault.{Fault}
use Rattle.ept_check.specs.Facts.{number_of}
use Rattle.ept_ckpt.specs.declared.letter.Letter.{Letter}
use Rattle.ept_ckpt.specs.declared.letter.Letter.TheVariants as letter
use Rattle.ept_meta.specs.declared.fields.Field.{Field}
use Rattle.ept_meta.specs.declared.fields.Field.TheVariants as field
use Rattle.ept_trial.specs.declared.trial.Trial.{Trial}
use Rattle.ept_command.specs.declared.refusal.Refusal.{Refusal}
use Rattle.ept_command.specs.declared.refusal.Refusal.TheVariants as refusal

-- what a build says of these numbers of points and nodes
unfoldable pub summary_text : ℕ → ℕ → List ℕ
summary_text points nodes = codes "points " ++ decimal points ++ codes " nodes " ++ decimal nodes ++ codes "\n"

-- what is said of a dataset that is the sampling of its own points, with these numbers of points and nodes
unfoldable pub fit_text : ℕ → ℕ → List ℕ
fit_text points nodes = codes "fit points " ++ decimal points ++ codes " nodes " ++ decimal nodes ++ codes "\n"

-- what is said of a dataset that is not: a node, and the number of what is wrong with it
unfoldable pub unfit_text : VoxelKey → Fault → List ℕ
unfit_text key why = codes "unfit " ++ space.key_text key ++ codes " " ++ decimal (number_of why) ++ codes "\n"

-- what is said of a header
unfoldable pub header_text : Header → List ℕ
header_text h =
    codes "version 1." ++ decimal h.minor ++ codes " format " ++ decimal h.format
    ++ codes " length " ++ decimal h.length ++ codes " points " ++ decimal h.points ++ codes " offset " ++ decimal h.offset ++ codes "\n"

-- what is said of the octree of a trial
unfoldable pub trial_text : Trial → List ℕ
trial_text t =
    codes "points " ++ decimal t.points ++ codes " nodes " ++ decimal t.nodes
    ++ codes " depth " ++ decimal t.depth ++ codes " sum " ++ decimal t.sum ++ codes "\n"

-- the number of the record at which a file ends early
abbrev pub number_text : LasError → List ℕ
number_text (Truncated number) = codes " number " ++ decimal number
number_text Short = []
number_text Signature = []
number_text Version = []
number_text HeaderSize = []
number_text Compressed = []
number_text Format = []
number_text RecordLength = []
number_text PointOffset = []
number_text Expect = []

-- the number of a configuration's cause, and the key that it names
unfoldable pub key_text : ℕ → List ℕ → List ℕ
key_text code key = codes "error 3 config " ++ decimal code ++ codes " " ++ key

-- the refusal of a configuration
abbrev pub config_text : ConfigError → List ℕ
config_text e = key_text (config.code_of e) (config.key_text_of e)

-- an input and one of its records
unfoldable pub record_text : ℕ → ℕ → List ℕ
record_text source number = decimal source ++ codes " number " ++ decimal number

-- the refusal of a LAS file: the number of the fault, the input, and the record at which it ends early
unfoldable pub las_text : ℕ → LasError → List ℕ
las_text source fault =
    codes "error 4 las " ++ decimal (las.code_of fault) ++ codes " source " ++ decimal source ++ number_text fault

-- the name of a field in the build file
abbrev pub name_of : Field → List ℕ
name_of field.Scale = codes "scale"
name_of field.Offset = codes "offset"
name_of field.Bounds = codes "bounds"
name_of field.Span = codes "span"
name_of field.MinNodeSize = codes "minNodeSize"
name_of field.MaxDepth = codes "maxDepth"
name_of field.HierarchyStep = codes "hierarchyStep"
name_of field.Srs = codes "srs"
name_of field.FirstClasses = codes "firstClasses"
name_of field.WithheldLast = codes "withheldLast"
name_of field.Input = codes "input"

-- a letter in the name of a checkpoint
abbrev pub letter_text : Letter → List ℕ
letter_text letter.A = codes "a"
letter_text letter.B = codes "b"

-- the line of a refusal, without the line feed that ends it
unfoldable pub refusal_text : Refusal → List ℕ
refusal_text refusal.Usage = codes "error 2 usage"
refusal_text (refusal.BadConfiguration e) = config_text e
refusal_text (refusal.BadLas source fault) = las_text source fault
refusal_text (refusal.OutOfBounds source number) = codes "error 4 bounds source " ++ record_text source number
refusal_text refusal.NoBounds = codes "error 4 nobounds"
refusal_text (refusal.SourceChanged source number) = codes "error 4 changed source " ++ record_text source number
refusal_text (refusal.TooManyPoints source) = codes "error 5 points source " ++ decimal source
refusal_text refusal.TooManyNodes = codes "error 5 nodes"
refusal_text (refusal.Differs field) = codes "error 6 differs " ++ name_of field
refusal_text (refusal.BadCheckpoint letter) = codes "error 8 checkpoint " ++ letter_text letter
refusal_text (refusal.TileDamaged key) = codes "error 8 tile " ++ space.key_text key
refusal_text refusal.SourceFault = codes "error 7 source"
refusal_text refusal.StoreFault = codes "error 7 store"
refusal_text refusal.SpillFault = codes "error 7 spill"
refusal_text refusal.SpillDamaged = codes "error 8 spill"
refusal_text refusal.Memory = codes "error 9 memory"

-- the line of a refusal
abbrev pub line_of : Refusal → List ℕ
line_of r = refusal_text r ++ codes "\n"
