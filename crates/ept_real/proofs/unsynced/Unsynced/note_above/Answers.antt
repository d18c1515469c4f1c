use Rattle.std.proofs.Common.{inl, inr, subst, sym, ap, ◌∙◌}
use Rattle.std.specs.Prelude.{Contains}
use Rattle.std.specs.Path.{path_bytes}
use Rattle.std.specs.Path.Iter.{ancestors_next}
use Rattle.ept_real.specs.Joined.{folder_path}
use Rattle.ept_real.proofs.Climbs.{left_next}
use Rattle.ept_real.proofs.unsynced.Unsynced.note_above.Goals as goal

pub loop-above-preserved : goal.loop-above-preserved
loop-above-preserved c = record {
  way = λ path up. elim (c.loop-above.invariant.way path up) [
    | inl has ↦ inl (c.in_ok-add.ensures.still (folder_path path) has)
    | inr left ↦ elim (left_next (path_bytes c.in-Some-above.above) path (ancestors_next c.loop-above.above-iterator) (ancestors_next c.next.new.self) c.in-Some-above.ensures.steps.0 c.in-Some-above.ensures.steps.1 left) [
      | inl is ↦ inl (subst (Contains c.add.new.self) (c.or_here-path.ensures ∙ ap folder_path (c.as_str.ensures ∙ sym is)) c.in_ok-add.ensures.ok)
      | inr further ↦ inr further
    ]
  ];
  still = λ path has. c.in_ok-add.ensures.still path (c.loop-above.invariant.still path has);
  names = c.loop-above.invariant.names;
}
