-- A checkpoint as numbers and lists.
use Rattle.std.specs.Prelude.{ℕ, ℤ, Bool, List, map}
use Rattle.std.specs.List.{zip}
use Rattle.ept_space.specs.declared.bounds.Bounds.{Bounds}
use Rattle.ept_config.specs.declared.input.Input.{Input}
use Rattle.ept_config.specs.declared.kept.Kept.{Kept}
use Rattle.ept_config.specs.declared.source_count.SourceCount.{SourceCount}
use Rattle.ept_config.specs.Facts.{InputFacts, SrsFacts, input_facts, srs_facts}
use Rattle.ept_ckpt.specs.declared.node_line.NodeLine.{NodeLine}
use Rattle.ept_ckpt.specs.declared.settings.Settings.{Settings}
use Rattle.ept_ckpt.specs.declared.precedence.Precedence.{Precedence}
use Rattle.ept_ckpt.specs.declared.version.BodyVersion.{BodyVersion}
use Rattle.ept_ckpt.specs.declared.draft.Draft.{Draft}
use Rattle.ept_ckpt.specs.declared.checkpoint.Checkpoint.{Checkpoint}

-- what is kept of the configuration except the inputs
pub record KeptFacts : Type 0 where
  pub scale : ℕ
  pub s : ℕ
  pub max_depth : ℕ
  pub step : ℕ
  pub threshold : ℕ
  pub offset : List ℤ
  pub bounds : Bounds
  pub srs : SrsFacts

-- which points come first, as the bytes of a set of classes, and whether withheld ones come last
pub record PrecedenceFacts : Type 0 where
  pub first : List ℕ
  pub withheld_last : Bool

-- an input, and what was counted of it
abbrev pub Source : Type 0
Source = InputFacts × SourceCount

pub record CheckpointFacts : Type 0 where
  pub version : BodyVersion
  pub generation : ℕ
  pub kept : KeptFacts
  pub precedence : PrecedenceFacts
  pub sources : List Source
  pub inserted : ℕ
  pub nodes : List NodeLine

-- the inputs, each with its count
unfoldable pub sources_of : List Input → List SourceCount → List Source
sources_of inputs counts = zip (map input_facts inputs) counts

abbrev pub kept_facts : Kept → KeptFacts
kept_facts kept = record {
  scale = kept.scale;
  s = kept.s;
  max_depth = kept.max_depth;
  step = kept.step;
  threshold = kept.threshold;
  offset = kept.offset;
  bounds = kept.bounds;
  srs = srs_facts kept.srs;
}

abbrev pub settings_facts : Settings → KeptFacts
settings_facts settings = record {
  scale = settings.scale;
  s = settings.s;
  max_depth = settings.max_depth;
  step = settings.step;
  threshold = settings.threshold;
  offset = settings.offset;
  bounds = settings.bounds;
  srs = srs_facts settings.srs;
}

abbrev pub precedence_facts : Precedence → PrecedenceFacts
precedence_facts precedence = record { first = precedence.first.bytes; withheld_last = precedence.withheld_last }

abbrev pub precedence_of : Kept → PrecedenceFacts
precedence_of kept = record { first = kept.first.bytes; withheld_last = kept.withheld_last }

abbrev pub draft_facts : Draft → CheckpointFacts
draft_facts draft = record {
  version = draft.version;
  generation = draft.generation;
  kept = settings_facts draft.settings;
  precedence = precedence_facts draft.precedence;
  sources = sources_of draft.sources.inputs draft.sources.counts;
  inserted = draft.inserted;
  nodes = draft.nodes;
}

abbrev pub facts : Checkpoint → CheckpointFacts
facts c = record {
  version = c.version;
  generation = c.generation;
  kept = kept_facts c.kept;
  precedence = precedence_of c.kept;
  sources = sources_of c.kept.inputs c.counts;
  inserted = c.inserted;
  nodes = c.nodes;
}

abbrev pub source_facts : Input × SourceCount → Source
source_facts source = (input_facts source.0, source.1)
