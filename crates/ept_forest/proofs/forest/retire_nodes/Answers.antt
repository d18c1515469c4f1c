use Rattle.std.proofs.Common.{◌≡◌, ◌≢◌, arith, ap, subst, ◌∙◌}
use Rattle.std.proofs.lemmas.Grind.{common_steps}
use Rattle.ept_base.specs.Causes.{Rose}
use Rattle.ept_base.specs.Devices.{counts_on}
use Rattle.ept_forest.specs.Slots.{kept_by}
use Rattle.ept_forest.proofs.Retiring.{retired_failed, retired_sound, retired_kept}
use Rattle.ept_forest.proofs.forest.retire_nodes.Goals as goal

pub loop-node-preserved : goal.loop-node-preserved
loop-node-preserved g c =
    let i = c.loop-node in
    let file = c.into_file.ensures in
    record {
      later = grind (arith, common_steps);
      failed = λ some. retired_failed g.F.SpillFile.faults i.nodes.items c.pop.new.self.items c.in-Some.node c.in-Some.ensures.items (g.R.Room.faults c.args.room.now) (g.R.Room.faults i.room) (g.R.Room.faults c.retire.new.self) i.invariant.later c.retire.ensures.later
          (subst (λ (f : g.row.F.Denot). g.F.SpillFile.faults f ≢ 0 → Rose (g.R.Room.faults i.room) (g.R.Room.faults c.retire.new.self)) file c.retire.ensures.failed) (i.invariant.failed some);
      sound = λ none. retired_sound g.F.SpillFile.faults i.nodes.items c.pop.new.self.items c.in-Some.node c.in-Some.ensures.items (g.R.Room.faults c.args.room.now) (g.R.Room.faults i.room) (g.R.Room.faults c.retire.new.self) i.invariant.later c.retire.ensures.later
          (subst (λ (f : g.row.F.Denot). g.F.SpillFile.faults f ≡ 0 → g.R.Room.faults c.retire.new.self ≡ g.R.Room.faults i.room) file c.retire.ensures.sound) (i.invariant.sound none);
      counted = retired_kept g.F.SpillFile.keeps i.nodes.items c.pop.new.self.items c.in-Some.node c.in-Some.ensures.items (g.R.Room.keeps i.room) (g.R.Room.keeps c.retire.new.self) (g.R.Room.keeps c.args.room.now) (kept_by g.F.SpillFile.keeps c.args.nodes.items)
          (c.retire.ensures.counted ∙ ap (λ (f : g.row.F.Denot). counts_on (g.R.Room.keeps i.room) (g.F.SpillFile.keeps f)) file) i.invariant.counted;
    }
