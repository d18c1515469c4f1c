-- The fields of a body, each with its range.
use Rattle.std.specs.Prelude.{ℕ, ℤ, pos, negsuc, ◌+◌, ◌-◌, ◌^◌, Bool, false, ◌&&◌, ◌==◌, nat_le, nat_eq, ⊤, List, [], ◌∷◌, length, sum_by, Option, Ok, Err, find, if◌then◌else◌, unsigned_abs, int_le}
use Rattle.std.specs.Int.{w32, w64, bit_at}
use Rattle.std.specs.List.{starts_with}
use Rattle.ept_class.specs.NoClass.{no_class}
use Rattle.ept_space.specs.declared.bounds.Bounds.{Bounds}
use Rattle.ept_space.specs.Place.{coordinate}
use Rattle.ept_space.specs.VoxelKey.{VoxelKey}
use Rattle.ept_config.specs.Facts.{InputFacts, SrsFacts}
use Rattle.ept_config.specs.Texts.{is_path, is_srs_text}
use Rattle.ept_config.specs.declared.source_count.SourceCount.{SourceCount}
use Rattle.ept_ckpt.specs.declared.field_error.FieldError.TheVariants.{Length, Version, Field}
use Rattle.ept_ckpt.specs.declared.node_line.NodeLine.{NodeLine}
use Rattle.ept_ckpt.specs.declared.letter.Letter.{Letter}
use Rattle.ept_ckpt.specs.declared.letter.Letter.TheVariants.{A, B}
use Rattle.ept_ckpt.specs.declared.version.BodyVersion.{BodyVersion}
use Rattle.ept_ckpt.specs.declared.version.BodyVersion.TheVariants.{V1, V2, V3}
use Rattle.ept_ckpt.specs.Versions.{most_points_of, spare_of}
use Rattle.ept_ckpt.specs.Facts.{KeptFacts, PrecedenceFacts, Source, CheckpointFacts}
use Rattle.ept_ckpt.specs.Body.{mark_bytes}
use Rattle.ept_ckpt.specs.Valid.{deepest}
use Rattle.ept_ckpt.specs.Fields.{Reading, ◌>>=◌, give, unless, known, bytes, number, signed, field, within, three, optional, times}

-- a whole number of 64 bits, whose absolute value is at most `most`
unfoldable pub near : ℕ → Reading ℤ
near most = field (λ z. nat_le (unsigned_abs z) most) (signed w64 8)

-- a coordinate of 32 bits, from `low` to `high`
unfoldable pub between : ℤ → ℤ → Reading ℤ
between low high = field (λ z. int_le low z && int_le z high) (signed w32 4)

-- a place from `low` to `high` on each axis
unfoldable pub corner : List ℤ → List ℤ → Reading (List ℤ)
corner low high = do
  x ← between (coordinate low 0) (coordinate high 0)
  y ← between (coordinate low 1) (coordinate high 1)
  z ← between (coordinate low 2) (coordinate high 2)
  give (x ∷ y ∷ z ∷ [])

-- the bounds of all places: each coordinate has 32 bits
abbrev pub whole : Bounds
whole = record {
  min = negsuc (2 ^ 31 - 1) ∷ negsuc (2 ^ 31 - 1) ∷ negsuc (2 ^ 31 - 1) ∷ [];
  max = pos (2 ^ 31 - 1) ∷ pos (2 ^ 31 - 1) ∷ pos (2 ^ 31 - 1) ∷ [];
}

-- bounds within others: the minimum, and then the maximum, which is below it on no axis
unfoldable pub box_within : Bounds → Reading Bounds
box_within outer = do
  min ← corner outer.min outer.max
  max ← corner min outer.max
  give (record { min = min; max = max })

-- a text that has from `least` to `most` bytes and passes the test
unfoldable pub text : ℕ → ℕ → (List ℕ → Bool) → Reading (List ℕ)
text least most test = do
  width ← within least most (number 4)
  field test (bytes width)

unfoldable pub srs_text : Reading (List ℕ)
srs_text = text 0 65536 is_srs_text

-- a bit for each text that is there, then these texts
unfoldable pub srs_form : Reading SrsFacts
srs_form = do
  there ← within 0 15 (number 1)
  authority ← optional (bit_at there 0 == 1) srs_text
  horizontal ← optional (bit_at there 1 == 1) srs_text
  vertical ← optional (bit_at there 2 == 1) srs_text
  wkt ← optional (bit_at there 3 == 1) srs_text
  give (record { authority = authority; horizontal = horizontal; vertical = vertical; wkt = wkt })

-- what is kept of the configuration except the inputs
unfoldable pub kept_form : Reading KeptFacts
kept_form = do
  scale ← within 0 9 (number 1)
  s ← within 1 10 (number 1)
  max_depth ← within 0 32 (number 1)
  step ← within 0 32 (number 1)
  threshold ← within 0 (2 ^ 31) (number 4)
  offset ← three (near (10 ^ 9))
  bounds ← box_within whole
  srs ← srs_form
  give (record {
    scale = scale;
    s = s;
    max_depth = max_depth;
    step = step;
    threshold = threshold;
    offset = offset;
    bounds = bounds;
    srs = srs;
  })

unfoldable pub input_form : ℕ → Reading InputFacts
input_form scale = do
  path ← text 1 4096 is_path
  its_scale ← within 0 scale (number 1)
  shift ← three (near (10 ^ 15))
  expected ← within 0 1 (number 1)
  expect ← optional (expected == 1) (bytes 48)
  give (record { path = path; scale = its_scale; shift = shift; expect = expect })

-- an extent is there if and only if there are points
unfoldable pub count_form : ℕ → Bounds → Reading SourceCount
count_form most bounds = do
  points ← within 0 most (number 8)
  there ← field (λ n. n == (if points == 0 then 0 else 1)) (number 1)
  extent ← optional (there == 1) (box_within bounds)
  give (record { points = points; extent = extent })

unfoldable pub source_form : ℕ → ℕ → Bounds → Reading Source
source_form most scale bounds = do
  input ← input_form scale
  count ← count_form most bounds
  give (input, count)

-- an index on an axis, below the number of nodes of a depth on that axis
unfoldable pub index : ℕ → Reading ℕ
index depth = within 0 (2 ^ depth - 1) (number 4)

unfoldable pub key_form : ℕ → Reading VoxelKey
key_form most = do
  depth ← within 0 most (number 1)
  x ← index depth
  y ← index depth
  z ← index depth
  give (record { depth = depth; x = x; y = y; z = z })

-- the letter of a code
abbrev pub letter_of : ℕ → Letter
letter_of code = if code == 0 then A else B

unfoldable pub node_form : ℕ → Reading NodeLine
node_form most = do
  key ← key_form most
  count ← number 8
  mask ← number 1
  code ← within 0 1 (number 1)
  give (record { key = key; count = count; mask = mask; letter = letter_of code })

-- the version whose mark these bytes begin with
abbrev pub version_of : List ℕ → Option BodyVersion
version_of front = find (λ version. starts_with nat_eq front (mark_bytes version)) (V1 ∷ V2 ∷ V3 ∷ [])

-- the name of the format, and its version
unfoldable pub mark : Reading BodyVersion
mark = do
  front ← bytes 8
  known Version (version_of front)

-- no class comes first, and withheld points do not come last
abbrev pub no_precedence : PrecedenceFacts
no_precedence = record { first = no_class.bytes; withheld_last = false }

-- which points come first and last
unfoldable pub precedence_form : BodyVersion → Reading PrecedenceFacts
precedence_form V1 = give no_precedence
precedence_form V2 = give no_precedence
precedence_form V3 = do
  first ← bytes 32
  last ← within 0 1 (number 1)
  give (record { first = first; withheld_last = last == 1 })

-- how many points the sources have
abbrev pub points_of_sources : List Source → ℕ
points_of_sources sources = sum_by (λ source. source.1.points) sources

-- the greatest depth of a node
abbrev pub deepest_of : KeptFacts → ℕ
deepest_of kept = deepest kept.bounds kept.s kept.max_depth

-- no bytes are left after the last field
unfoldable pub end : Reading ⊤
end total rest = if length rest == 0 then Ok (tt, rest) else Err Length

-- Each commit has more points or more inputs than the one before it, except one that takes over a checkpoint of version
-- 1. The generation begins at byte 8. It is judged at the end.
unfoldable pub ripe : ℕ → ℕ → Reading ⊤
ripe generation most = unless (Field 8) (nat_le 1 generation && nat_le generation most)

-- all fields, in order
unfoldable pub fields : Reading CheckpointFacts
fields = do
  version ← mark
  generation ← number 8
  kept ← kept_form
  precedence ← precedence_form version
  inputs ← within 1 65535 (number 4)
  sources ← times inputs (source_form (most_points_of version) kept.scale kept.bounds)
  inserted ← within 0 (points_of_sources sources) (number 8)
  lines ← number 4
  nodes ← times lines (node_form (deepest_of kept))
  ended ← end
  judged ← ripe generation (inserted + inputs + spare_of version)
  give (record {
    version = version;
    generation = generation;
    kept = kept;
    precedence = precedence;
    sources = sources;
    inserted = inserted;
    nodes = nodes;
  })
