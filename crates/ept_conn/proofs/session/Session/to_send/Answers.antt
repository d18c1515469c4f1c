use Rattle.std.proofs.Common.{◌<◌, List, ℕ, length, sym, subst}
use Rattle.ept_conn.specs.State.{State}
use Rattle.ept_conn.proofs.Wanting.{write-some}
use Rattle.ept_conn.proofs.session.Session.to_send.Goals as goal

pub returns-clause-some : goal.returns-clause-some
returns-clause-some c =
    let some = subst (λ (s : State). 0 < length s.out) (sym c.self.view_is) (write-some c.args.self.now c.requires) in
    subst (λ (w : List ℕ). 0 < length w) (sym c.as_slice.ensures) some
