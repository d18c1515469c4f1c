-- A configuration as numbers and lists.
use Rattle.std.specs.Prelude.{ℕ, ℤ, Bool, List, map, Option}
use Rattle.ept_class.specs.ClassSet.{has_class}
use Rattle.ept_space.specs.declared.bounds.Bounds.{Bounds}
use Rattle.ept_config.specs.declared.input.Input.{Input}
use Rattle.ept_config.specs.declared.srs.Srs.{Srs}
use Rattle.ept_config.specs.declared.config.Config.{Config}

pub record InputFacts : Type 0 where
  pub path : List ℕ
  pub scale : ℕ
  pub shift : List ℤ
  pub expect : Option (List ℕ)

pub record SrsFacts : Type 0 where
  pub authority : Option (List ℕ)
  pub horizontal : Option (List ℕ)
  pub vertical : Option (List ℕ)
  pub wkt : Option (List ℕ)

pub record Facts : Type 0 where
  pub scale : ℕ
  pub offset : List ℤ
  pub bounds : Option Bounds
  pub s : ℕ
  pub threshold : ℕ
  pub max_depth : ℕ
  pub step : ℕ
  pub srs : SrsFacts
  pub first : ℕ → Bool
  pub withheld_last : Bool
  pub inputs : List InputFacts
  pub threads : ℕ
  pub cache : ℕ
  pub max_nodes : ℕ
  pub checkpoint : ℕ

abbrev pub input_facts : Input → InputFacts
input_facts input = record { path = input.path; scale = input.scale; shift = input.shift; expect = input.expect }

abbrev pub srs_facts : Srs → SrsFacts
srs_facts srs = record { authority = srs.authority; horizontal = srs.horizontal; vertical = srs.vertical; wkt = srs.wkt }

abbrev pub facts : Config → Facts
facts config = record {
  scale = config.scale;
  offset = config.offset;
  bounds = config.bounds;
  s = config.s;
  threshold = config.threshold;
  max_depth = config.max_depth;
  step = config.step;
  srs = srs_facts config.srs;
  first = has_class config.first;
  withheld_last = config.withheld_last;
  inputs = map input_facts config.inputs;
  threads = config.threads;
  cache = config.cache;
  max_nodes = config.max_nodes;
  checkpoint = config.checkpoint;
}
