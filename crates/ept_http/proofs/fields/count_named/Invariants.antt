use Rattle.std.proofs.Common.{◌≡◌, ◌+◌, ◌≤◌, length, drop, map}
use Rattle.httparse.specs.Spans.{header_bytes}
use Rattle.ept_http.specs.Fields.{values_of}
use Rattle.ept_http.proofs.fields.count_named.Given as goal

-- the count so far and that of the fields to come are the count of all
abbrev pub invariant-loop-line : goal.invariant-loop-line
invariant-loop-line l = record {
  counted : l.count + length (values_of l.name (map (header_bytes l.head) (drop l.line-index l.lines))) ≡ length (values_of l.name (map (header_bytes l.head) l.lines));
  few : l.count ≤ l.line-index;
}
