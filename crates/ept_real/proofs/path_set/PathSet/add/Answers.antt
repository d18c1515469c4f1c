use Rattle.std.proofs.Common.{sym, ◌∙◌, subst}
use Rattle.ept_real.proofs.Members.{paths, Contains-text, Added, text-added-as}
use Rattle.std.specs.Prelude.{Contains}
use Rattle.ept_real.proofs.path_set.PathSet.add.Goals as goal

pub returns-then-contains-clause-ok : goal.returns-then-contains-clause-ok
returns-then-contains-clause-ok c = subst (λ xs. Contains xs c.args.path.now) c.self.view_is (Contains-text c.self.inside.paths c.args.path.now (sym c.contains.ensures ∙ c.if-contains.true))

pub returns : goal.returns
returns c =
    let r = subst (λ xs. Added c.args.path.now xs (paths c.insert.new.self)) c.self.view_is (text-added-as c.args.path.now c.self.inside.paths c.insert.new.self c.in_ok-from_str.field-0 c.in_ok-from_str.ensures.ok c.in_ok-insert.ensures.updates) in
    record { ok = r.has; still = r.still; only = r.only }
