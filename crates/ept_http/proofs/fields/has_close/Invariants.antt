use Rattle.std.proofs.Common.{◌≡◌, drop, map, codes}
use Rattle.std.specs.List.{list_any}
use Rattle.httparse.specs.Spans.{header_bytes}
use Rattle.ept_http.specs.Fields.{values_of, members, is_close}
use Rattle.ept_http.proofs.fields.has_close.Given as goal

-- the result for the fields to come is the result for all
abbrev pub invariant-loop-line : goal.invariant-loop-line
invariant-loop-line l =
    list_any (λ value. list_any is_close (members value)) (values_of (codes "Connection") (map (header_bytes l.head) (drop l.line-index l.lines)))
    ≡ list_any (λ value. list_any is_close (members value)) (values_of (codes "Connection") (map (header_bytes l.head) l.lines))
