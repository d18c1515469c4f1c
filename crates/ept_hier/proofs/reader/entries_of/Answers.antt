use Rattle.std.proofs.Common.{rules, ◌≡◌, ◌∙◌, ◌++◌, ◌∷◌, List, map, sym, ap, String, Global}
use Rattle.std.specs.Map.Iter.{deref_pair}
use Rattle.std.proofs.lemmas.Result.{err_from_is_err_and}
use Rattle.std.proofs.lemmas.Map.Iter.{rest_so_far, rest_more}
use Rattle.serde_json.specs.declared.value.Value.{Value}
use Rattle.ept_hier.proofs.Objects.{refuses_name, taken_next, taken_all}
use Rattle.ept_hier.proofs.reader.entries_of.Goals as goal

pub returns-in_err-counted-clause-refused : goal.returns-in_err-counted-clause-refused
returns-in_err-counted-clause-refused c =
    let start : c.into_iter-name-iterator.result ≡ c.args.members.now.entries = search rules in
    let next : c.loop-name.name-iterator ≡ (c.in-Some.name.now, c.in-Some.value.now) ∷ c.next.new.self = rest_more deref_pair c.loop-name.name-iterator c.next.new.self c.next.result (c.in-Some.name, c.in-Some.value) c.in-Some.is c.next.ensures.steps in
    let whole : c.args.members.now.entries ≡ map deref_pair c.loop-name.yielded ++ (c.in-Some.name.now, c.in-Some.value.now) ∷ c.next.new.self =
    sym start ∙ (rest_so_far deref_pair c.loop-name.yielded c.into_iter-name-iterator.result c.loop-name.name-iterator c.loop-name.yielded_by ∙ ap (λ (w : List (String Global × Value)). map deref_pair c.loop-name.yielded ++ w) next) in
    let p = err_from_is_err_and c.from_residual.result c.from_residual.ensures.1 in
    rw (p.1, p.2) (refuses_name c.args.members.now.entries (map deref_pair c.loop-name.yielded) (c.in-Some.name.now, c.in-Some.value.now) c.next.new.self c.as_str.result.now c.in_err-counted.field-0.0 whole c.as_str.ensures.value c.in_err-counted.ensures.refused)

pub loop-name-preserved : goal.loop-name-preserved
loop-name-preserved c =
    taken_next deref_pair c.loop-name.yielded (c.in-Some.name, c.in-Some.value) c.as_str.result.now c.loop-name.counted c.in_ok-counted.field-0 c.loop-name.entries.items c.read_member.new.entries.items c.as_str.ensures.value c.loop-name.invariant c.in_ok-counted.ensures.ok

pub returns-else-counted-clause-refused : goal.returns-else-counted-clause-refused
returns-else-counted-clause-refused c =
    let start : c.into_iter-name-iterator.result ≡ c.args.members.now.entries = search rules in
    let whole : c.args.members.now.entries ≡ map deref_pair c.loop-name.yielded ++ c.loop-name.name-iterator =
    sym start ∙ rest_so_far deref_pair c.loop-name.yielded c.into_iter-name-iterator.result c.loop-name.name-iterator c.loop-name.yielded_by in
    taken_all c.args.members.now.entries (map deref_pair c.loop-name.yielded) c.loop-name.name-iterator c.loop-name.counted c.loop-name.entries.items whole c.in-None.ensures.steps.0 c.if-counted.false c.loop-name.invariant
