-- What holds of files that were put. Each statement follows from the contract of a function of `laws`.
use Rattle.std.specs.Prelude.{List, Option}
use Rattle.ept_base.specs.Files.{Files}
use Rattle.ept_point.specs.declared.point.Point.{Point}
use Rattle.ept_space.specs.declared.bounds.Bounds.{Bounds}
use Rattle.ept_sample.specs.SamplingLaws.{CanBeSampled}
use Rattle.ept_config.specs.declared.kept.Kept.{Kept}
use Rattle.ept_config.specs.declared.source_count.SourceCount.{SourceCount}
use Rattle.ept_meta.specs.Output.{File, rules_of, output, names_of}
use Rattle.ept_save.specs.Complete.{HasAllOf}
use Rattle.ept_publish.specs.Publishing.{PutsAll, Gains, SameButThese}

-- the output of points that was put is all there
abbrev pub OutputIsThere : Type 0
OutputIsThere =
    (kept : Kept) (counts : List SourceCount) (extent : Option Bounds) (points : List Point) (old new : Files) → CanBeSampled (rules_of kept) points → PutsAll (output kept counts extent points) old new → HasAllOf (output kept counts extent points) new

-- and is what was gained
abbrev pub OutputIsGained : Type 0
OutputIsGained =
    (kept : Kept) (counts : List SourceCount) (extent : Option Bounds) (points : List Point) (old new : Files) → CanBeSampled (rules_of kept) points → PutsAll (output kept counts extent points) old new → Gains (output kept counts extent points) old new

-- whichever files were put, no other name has changed
abbrev pub OnlyTheseChange : Type 0
OnlyTheseChange = (files : List File) (old new : Files) → PutsAll files old new → SameButThese (names_of files) old new
