use Rattle.std.proofs.Common.{◌≤◌, length, drop, map}
use Rattle.serde_json.specs.View.{view}
use Rattle.ept_config_text.proofs.ClassLists.{HasClassesOf}
use Rattle.ept_config_text.proofs.classes.distinct_classes.Given as goal

abbrev pub invariant-loop-at : goal.invariant-loop-at
invariant-loop-at l = record {
  named : HasClassesOf (map view (drop l.at l.items)) l.set;
  most : l.at ≤ length l.items;
}

abbrev pub decreases-loop-at : goal.decreases-loop-at
decreases-loop-at l = l.at
