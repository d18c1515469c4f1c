-- The body of a checkpoint: its fields, one after another. Numbers are little-endian, signed ones in two's complement.
use Rattle.std.specs.Prelude.{ℕ, ℤ, ◌+◌, ◌*◌, List, [], ◌∷◌, ◌++◌, length, codes, if◌then◌else◌, Option, Some, None}
use Rattle.std.specs.Int.{w32, w64, cast_unsigned}
use Rattle.std.specs.List.{flat_map}
use Rattle.byteorder.specs.Endian.{little_bytes}
use Rattle.ept_space.specs.declared.bounds.Bounds.{Bounds}
use Rattle.ept_config.specs.Facts.{SrsFacts}
use Rattle.ept_ckpt.specs.declared.node_line.NodeLine.{NodeLine}
use Rattle.ept_ckpt.specs.declared.letter.Letter.{Letter}
use Rattle.ept_ckpt.specs.declared.letter.Letter.TheVariants.{A, B}
use Rattle.ept_ckpt.specs.declared.version.BodyVersion.{BodyVersion}
use Rattle.ept_ckpt.specs.declared.version.BodyVersion.TheVariants.{V1, V2, V3}
use Rattle.ept_ckpt.specs.Versions.{number_of}
use Rattle.ept_ckpt.specs.Facts.{KeptFacts, PrecedenceFacts, Source, CheckpointFacts}

-- numbers of 32 bits, and of 64
abbrev pub i32_bytes : List ℤ → List ℕ
i32_bytes xs = flat_map (λ x. little_bytes 4 (cast_unsigned w32 x)) xs

abbrev pub i64_bytes : List ℤ → List ℕ
i64_bytes xs = flat_map (λ x. little_bytes 8 (cast_unsigned w64 x)) xs

-- the minimum, then the maximum
unfoldable pub bounds_bytes : Bounds → List ℕ
bounds_bytes bounds = i32_bytes bounds.min ++ i32_bytes bounds.max

-- its length, then its bytes
unfoldable pub text_bytes : List ℕ → List ℕ
text_bytes text = little_bytes 4 (length text) ++ text

-- the bytes of the value, or none if there is no value
abbrev pub optional : {A : Type 0} → (A → List ℕ) → Option A → List ℕ
optional bytes None = []
optional bytes (Some a) = bytes a

-- 1 if there is a value, otherwise 0
abbrev pub flag : {A : Type 0} → Option A → ℕ
flag None = 0
flag (Some a) = 1

-- a bit for each text that is there, then these texts
unfoldable pub srs_bytes : SrsFacts → List ℕ
srs_bytes srs =
    ((flag srs.authority + 2 * flag srs.horizontal + 4 * flag srs.vertical + 8 * flag srs.wkt) ∷ [])
    ++ optional text_bytes srs.authority
    ++ optional text_bytes srs.horizontal
    ++ optional text_bytes srs.vertical
    ++ optional text_bytes srs.wkt

-- what is kept of the configuration except the inputs
unfoldable pub kept_bytes : KeptFacts → List ℕ
kept_bytes kept =
    (kept.scale ∷ kept.s ∷ kept.max_depth ∷ kept.step ∷ [])
    ++ little_bytes 4 kept.threshold
    ++ i64_bytes kept.offset
    ++ bounds_bytes kept.bounds
    ++ srs_bytes kept.srs

-- an input and its count
unfoldable pub source_bytes : Source → List ℕ
source_bytes source =
    text_bytes source.0.path
    ++ (source.0.scale ∷ [])
    ++ i64_bytes source.0.shift
    ++ (flag source.0.expect ∷ [])
    ++ optional (λ bytes. bytes) source.0.expect
    ++ little_bytes 8 source.1.points
    ++ (flag source.1.extent ∷ [])
    ++ optional bounds_bytes source.1.extent

-- the code of a version of a tile
abbrev pub letter_code : Letter → ℕ
letter_code A = 0
letter_code B = 1

-- a node: its key, how many points it has, which octants have a child, and which version its tile is
unfoldable pub node_bytes : NodeLine → List ℕ
node_bytes line =
    (line.key.depth ∷ [])
    ++ little_bytes 4 line.key.x
    ++ little_bytes 4 line.key.y
    ++ little_bytes 4 line.key.z
    ++ little_bytes 8 line.count
    ++ (line.mask ∷ letter_code line.letter ∷ [])

-- the name of the format, and its version
unfoldable pub mark_bytes : BodyVersion → List ℕ
mark_bytes version = codes "EPTW" ++ little_bytes 4 (number_of version)

-- 32 bytes of the classes that come first, and 1 if withheld points come last. The versions before 3 have neither.
abbrev pub precedence_bytes : BodyVersion → PrecedenceFacts → List ℕ
precedence_bytes V1 precedence = []
precedence_bytes V2 precedence = []
precedence_bytes V3 precedence = precedence.first ++ ((if precedence.withheld_last then 1 else 0) ∷ [])

unfoldable pub body : CheckpointFacts → List ℕ
body c =
    mark_bytes c.version
    ++ little_bytes 8 c.generation
    ++ kept_bytes c.kept
    ++ precedence_bytes c.version c.precedence
    ++ little_bytes 4 (length c.sources)
    ++ flat_map source_bytes c.sources
    ++ little_bytes 8 c.inserted
    ++ little_bytes 4 (length c.nodes)
    ++ flat_map node_bytes c.nodes
