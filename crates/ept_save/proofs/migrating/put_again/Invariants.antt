use Rattle.std.proofs.Common.{◌≤◌}
use Rattle.ept_base.specs.Moves.{Moves}
use Rattle.ept_save.specs.Current.{Keeps}
use Rattle.ept_save.specs.View.{StandsFor}
use Rattle.ept_save.proofs.PuttingAgain.{IsTurnedTo}
use Rattle.ept_save.proofs.migrating.put_again.Given as goal

abbrev pub invariant-loop-line : goal.invariant-loop-line
invariant-loop-line g l =
    let files = g.T.Store.files in
    let may_leave = g.T.Store.may_leave in
    record {
      far : IsTurnedTo l.initial.saved l.saved l.line-items l.line-index (files l.initial.store) (files l.store);
      keeps : Moves files may_leave g.T.Store.moment g.T.Store.image_since (Keeps l.initial.saved.current) l.initial.store l.store;
      stands : StandsFor l.initial.saved (files l.initial.store) (may_leave l.initial.store) → StandsFor l.saved (files l.store) (may_leave l.store);
      later : g.T.Store.faults l.initial.store ≤ g.T.Store.faults l.store;
    }
