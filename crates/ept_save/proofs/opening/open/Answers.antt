use Rattle.ept_save.proofs.Newer.{only-stores}
use Rattle.ept_save.proofs.opening.open.Goals as goal

pub returns-clause-none_bad : goal.returns-clause-none_bad
returns-clause-none_bad g c = λ current all told has.
    only-stores c.opened.result (g.T.Store.files c.args.store.now) current all told has c.opened.ensures.refused c.opened.ensures.no_tile
