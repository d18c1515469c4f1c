-- Which paths a shelf is asked to open.
use Rattle.std.specs.Prelude.{◌≡◌, ℕ, ◌+◌, ◌-◌, ◌<◌, ◌≤◌, ⊤, length, nat_lt, List, [], ◌∷◌, ◌++◌, Option, Result, MatchResult, if◌then◌else◌, take, drop, map}
use Rattle.ept_base.specs.Files.{StepsBy}
use Rattle.ept_config.specs.declared.input.Input.{Input}
use Rattle.ept_config.specs.declared.source_count.SourceCount.{SourceCount}
use Rattle.ept_scan.specs.declared.scan_error.ScanError.{ScanError}
use Rattle.ept_scan.specs.declared.scan_error.ScanError.TheVariants.{SourceFault, BadLas, OutOfBounds, TooManyPoints, NoBounds, Memory}

-- If a shelf makes its requests visible, it was asked for these paths, in order and each once, after the earlier ones.
abbrev pub AsksFor : List (List ℕ) → Option (List (List ℕ)) → Option (List (List ℕ)) → Type 0
AsksFor paths old new = StepsBy (λ before now. now ≡ before ++ paths) old new

-- After a success the shelf was asked for all of these paths, and after a refusal for a prefix of them.
abbrev pub OpensThese : {T E : Type 0} → List (List ℕ) → Result T E → Option (List (List ℕ)) → Option (List (List ℕ)) → Type 0
OpensThese paths result old new = MatchResult result (λ _. AsksFor paths old new)
    (λ _. (n : ℕ) × AsksFor (take n paths) old new)

-- the paths of the inputs from this place on
abbrev pub paths_from : List Input → ℕ → List (List ℕ)
paths_from inputs from = map (λ input. input.path) (drop from inputs)

-- the inputs from place `from` up to place `last`, and no others, were opened
pub record OpensUpTo (inputs : List Input) (from last : ℕ) (old new : Option (List (List ℕ))) : Type 0 where
  pub behind : from ≤ last
  pub within : last < length inputs
  pub asked : AsksFor (take (last + 1 - from) (paths_from inputs from)) old new

-- How far a refused scan from one input on had come. It came to the input that the refusal names, or to the last one if
-- there are no bounds. A fault of a source may come at any input, and so may running out of memory.
abbrev pub StopsAt : List Input → ℕ → Option (List (List ℕ)) → Option (List (List ℕ)) → ScanError → Type 0
StopsAt inputs from old new (BadLas source fault) = OpensUpTo inputs from source old new
StopsAt inputs from old new (OutOfBounds source number) = OpensUpTo inputs from source old new
StopsAt inputs from old new (TooManyPoints source) = OpensUpTo inputs from source old new
StopsAt inputs from old new NoBounds = AsksFor (paths_from inputs from) old new
StopsAt inputs from old new SourceFault = ⊤
StopsAt inputs from old new Memory = ⊤

-- the path of an input that has more than `drawn` records
abbrev pub path_left : Input → SourceCount → ℕ → List (List ℕ)
path_left input count drawn = if nat_lt drawn count.points then input.path ∷ [] else []

-- The paths of the inputs of which records are left after the first `drawn` records of all. An input that was wholly
-- drawn, or has no points, is left out.
abbrev pub paths_left : List Input → List SourceCount → ℕ → List (List ℕ)
paths_left [] counts drawn = []
paths_left (input ∷ inputs) [] drawn = []
paths_left (input ∷ inputs) (count ∷ counts) drawn =
    path_left input count drawn ++ paths_left inputs counts (drawn - count.points)
