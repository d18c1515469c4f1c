use Rattle.std.proofs.Common.{arith, ⊎_elim}
use Rattle.std.proofs.lemmas.Grind.{common_steps}
use Rattle.ept_scan.proofs.Retiring.{retired_failed, retired_sound, nothing_failed}
use Rattle.ept_scan.proofs.open.retire_parts.Goals as goal

pub loop-part-preserved : goal.loop-part-preserved
loop-part-preserved g c = record {
  later = grind (arith, common_steps);
  failed = λ any. retired_failed g.S.Source.faults c.loop-part.parts.items c.pop.new.self.items c.in-Some.part c.in-Some.ensures.items (g.H.Shelf.faults c.args.shelf.now) (g.H.Shelf.faults c.loop-part.shelf) (g.H.Shelf.faults c.retire.new.self) c.loop-part.invariant.later c.retire.ensures.later
      c.retire.ensures.failed (c.loop-part.invariant.failed any);
  sound = λ none. retired_sound g.S.Source.faults c.loop-part.parts.items c.pop.new.self.items c.in-Some.part c.in-Some.ensures.items (g.H.Shelf.faults c.args.shelf.now) (g.H.Shelf.faults c.loop-part.shelf) (g.H.Shelf.faults c.retire.new.self) c.loop-part.invariant.later c.retire.ensures.later
      c.retire.ensures.sound (c.loop-part.invariant.sound none);
  asked = grind (arith, common_steps);
  files = grind (arith, common_steps);
}

pub returns-clause-failed : goal.returns-clause-failed
returns-clause-failed g c any =
    ⊎_elim (λ some. absurd (nothing_failed g.S.Source.faults c.loop-part.parts.items (omega (arith, c.in_default.ensures.cases.0, c.loop-part.parts.ok.0)) some)) (λ rose. rose) (c.loop-part.invariant.failed any)
