-- What holds of the output of points. Each statement is a clause of a function of `laws`.
use Rattle.std.specs.Prelude.{◌≡◌, ◌≢◌, ℕ, List, All, AllPairs, Contains}
use Rattle.ept_point.specs.declared.point.Point.{Point}
use Rattle.ept_sample.specs.Ids.{HasDistinctIds}
use Rattle.ept_sample.specs.SamplingLaws.{CanBeSampled}
use Rattle.ept_config.specs.declared.kept.Kept.{Kept}
use Rattle.ept_config.specs.Extents.{IsWithin}
use Rattle.ept_meta.specs.BuildText.{build_text}
use Rattle.ept_meta.specs.Output.{File, IsOutput, IsOutputName, rules_of, names_of}

-- points have one output
abbrev pub OutputIsOne : Type 0
OutputIsOne =
    (kept : Kept) (points : List Point) (a b : List File) → IsOutput kept points a → IsOutput kept points b → a ≡ b

-- a build file is that of one configuration only
abbrev pub BuildFileIsOfOne : Type 0
BuildFileIsOfOne = (a b : Kept) → build_text a ≡ build_text b → a ≡ b

-- points within the bounds, no two of which have the same id, can be sampled
abbrev pub PointsCanBeSampled : Type 0
PointsCanBeSampled =
    (kept : Kept) (points : List Point) → All (IsWithin kept.bounds) points → HasDistinctIds points → CanBeSampled (rules_of kept) points

-- each file of an output has one of its names
abbrev pub FilesHaveOutputNames : Type 0
FilesHaveOutputNames =
    (kept : Kept) (points : List Point) (files : List File) → IsOutput kept points files → All IsOutputName (names_of files)

-- no two files of an output have the same name, if the points are within the bounds
abbrev pub NamesStandOnce : Type 0
NamesStandOnce =
    (kept : Kept) (points : List Point) (files : List File) → All (IsWithin kept.bounds) points → IsOutput kept points files → AllPairs (λ a b. a ≢ b) (names_of files)

-- with more points, and with more inputs, under the same rules and step, each name of the output is still one of its
-- names
abbrev pub NamesGrow : Type 0
NamesGrow =
    (kept later : Kept) (first points : List Point) (files more : List File) → rules_of later ≡ rules_of kept → later.step ≡ kept.step → HasDistinctIds first → ((p : Point) → Contains first p → Contains points p) → All (IsWithin later.bounds) points → IsOutput kept first files → IsOutput later points more → (name : List ℕ) → Contains (names_of files) name → Contains (names_of more) name
