use Rattle.std.proofs.Common.{◌≡◌, ◌≤◌, take}
use Rattle.ept_base.specs.Files.{SameFiles, Tells}
use Rattle.ept_base.specs.Moves.{Moves}
use Rattle.ept_merge.specs.Joining.{octants_of, bodies_in}
use Rattle.ept_merge.specs.Putting.{HasBodies, AreLike}
use Rattle.ept_merge.proofs.bodies.bodies_of.Given as goal

abbrev pub invariant-loop-octants : goal.invariant-loop-octants
invariant-loop-octants g l =
    let s = g.T.Store in
    record {
      parts : octants_of l.bodies.items ≡ take l.octants-index l.parts;
      like : AreLike l.plan l.bodies.items;
      bodies : Tells (λ all. HasBodies all l.plan (take l.octants-index l.parts) (bodies_in l.bodies.items)) (s.files l.initial.store);
      moves : Moves s.files s.may_leave s.moment s.image_since SameFiles l.initial.store l.store;
      later : s.faults l.initial.store ≤ s.faults l.store;
    }
