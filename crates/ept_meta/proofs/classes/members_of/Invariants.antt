use Rattle.std.proofs.Common.{◌≡◌, ◌≤◌}
use Rattle.ept_meta.specs.Classes.{members_below}
use Rattle.ept_meta.proofs.classes.members_of.Given as goal

abbrev pub invariant-loop-class : goal.invariant-loop-class
invariant-loop-class l = record {
  members : l.classes.items ≡ members_below l.set l.class;
  most : l.class ≤ 256;
}
