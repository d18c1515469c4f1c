-- The versions of the format of a body.
use Rattle.std.specs.Prelude.{ℕ, ◌-◌, ◌^◌}
use Rattle.ept_point.specs.declared.layout.Layout.{Layout}
use Rattle.ept_point.specs.declared.layout.Layout.TheVariants.{Old, New}
use Rattle.ept_config.specs.Counts.{most_points}
use Rattle.ept_ckpt.specs.declared.version.BodyVersion.{BodyVersion}
use Rattle.ept_ckpt.specs.declared.version.BodyVersion.TheVariants.{V1, V2, V3}

abbrev pub number_of : BodyVersion → ℕ
number_of V1 = 1
number_of V2 = 2
number_of V3 = 3

-- how the points of the nodes' tiles are packed
abbrev pub layout_of : BodyVersion → Layout
layout_of V1 = Old
layout_of V2 = New
layout_of V3 = New

-- how many points an input may have
abbrev pub most_points_of : BodyVersion → ℕ
most_points_of V1 = 2 ^ 32 - 1
most_points_of V2 = most_points
most_points_of V3 = most_points

-- How many commits there may be that add no points or inputs to the one before: one, which takes over a checkpoint of
-- version 1.
abbrev pub spare_of : BodyVersion → ℕ
spare_of V1 = 0
spare_of V2 = 1
spare_of V3 = 1
