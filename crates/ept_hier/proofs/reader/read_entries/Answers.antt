use Rattle.std.proofs.Common.{map, ap, Err}
use Rattle.std.proofs.lemmas.Result.{err_from_is_err_and}
use Rattle.serde_json.specs.View.{view}
use Rattle.ept_hier.specs.Objects.{member_at}
use Rattle.ept_hier.proofs.Objects.{members-in, members-none, refuses, refuses_json}
use Rattle.ept_hier.proofs.reader.read_entries.Goals as goal

pub returns-in_err-value-clause-refused : goal.returns-in_err-value-clause-refused
returns-in_err-value-clause-refused c =
    let p = err_from_is_err_and c.from_residual.result c.from_residual.ensures.1 in
    rw (p.1, p.2) (refuses_json c.args.bytes.now c.in_err-value.field-0.0 (λ e. c.in_err-value.ensures.no_text (ap Err e)))

pub returns-in-None-clause-refused : goal.returns-in-None-clause-refused
returns-in-None-clause-refused c = members-none c.args.bytes.now (view c.in_ok-value.value) c.in_ok-value.ensures.value c.in-None.ensures

pub returns-in_err-entries-clause-refused : goal.returns-in_err-entries-clause-refused
returns-in_err-entries-clause-refused c =
    let p = err_from_is_err_and c.from_residual-in_err-entries.result c.from_residual-in_err-entries.ensures.1 in
    rw (p.1, p.2) (refuses c.args.bytes.now (map member_at c.in-Some.members.now.entries) c.in_err-entries.field-0.0 (members-in c.args.bytes.now (view c.in_ok-value.value) c.in-Some.members.now.entries c.in_ok-value.ensures.value c.in-Some.ensures) c.in_err-entries.ensures.refused)

pub returns-clause-ok : goal.returns-clause-ok
returns-clause-ok c = record {
  members = map member_at c.in-Some.members.now.entries;
  object = members-in c.args.bytes.now (view c.in_ok-value.value) c.in-Some.members.now.entries c.in_ok-value.ensures.value c.in-Some.ensures;
  said = c.in_ok-entries.entries.items;
  each = c.in_ok-entries.ensures.ok;
  same = c.in_ok-sort.ensures.0;
  ordered = c.in_ok-sort.ensures.1;
}
