-- What holds of all fields of a body, before the nodes are judged together.
use Rattle.std.specs.Prelude.{◌≡◌, ◌≢◌, ℕ, ◌+◌, ◌<◌, ◌≤◌, ◌^◌, List, length, All}
use Rattle.ept_config.specs.Counts.{total, IsCount}
use Rattle.ept_ckpt.specs.declared.version.BodyVersion.{BodyVersion}
use Rattle.ept_ckpt.specs.declared.version.BodyVersion.TheVariants.{V3}
use Rattle.ept_ckpt.specs.declared.precedence.Precedence.{Precedence}
use Rattle.ept_ckpt.specs.declared.node_line.NodeLine.{NodeLine}
use Rattle.ept_ckpt.specs.declared.settings.Settings.{Settings}
use Rattle.ept_ckpt.specs.declared.sources.Sources.{Sources}
use Rattle.ept_ckpt.specs.Versions.{most_points_of, spare_of}
use Rattle.ept_ckpt.specs.Valid.{ExtentInRange, IsNode, IsPlain, deepest}

pub record IsDraft (version : BodyVersion) (generation : ℕ) (settings : Settings) (precedence : Precedence) (sources : Sources) (inserted : ℕ) (nodes : List NodeLine) : Type 0 where
  pub some : 1 ≤ length sources.inputs
  pub most : length sources.inputs ≤ 65535
  pub scales : All (λ input. input.scale ≤ settings.scale) sources.inputs
  pub each : length sources.counts ≡ length sources.inputs
  pub few : All (λ count. count.points ≤ most_points_of version) sources.counts
  pub plain : version ≢ V3 → IsPlain precedence.first precedence.withheld_last
  pub counted : All (IsCount settings.bounds) sources.counts
  pub extents : All ExtentInRange sources.counts
  pub inserted_most : inserted ≤ total sources.counts
  pub generation_least : 1 ≤ generation
  pub generation_most : generation ≤ inserted + length sources.inputs + spare_of version
  pub nodes_few : length nodes < 2 ^ 32
  pub lines : All (IsNode (deepest settings.bounds settings.s settings.max_depth)) nodes
