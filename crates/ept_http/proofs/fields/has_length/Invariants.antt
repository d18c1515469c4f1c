use Rattle.std.proofs.Common.{◌≡◌, drop, map, codes, not}
use Rattle.std.specs.List.{list_any}
use Rattle.std.specs.Str.{bytes_eq}
use Rattle.httparse.specs.Spans.{header_bytes}
use Rattle.ept_http.specs.Fields.{values_of}
use Rattle.ept_http.proofs.fields.has_length.Given as goal

-- the result for the fields to come is the result for all
abbrev pub invariant-loop-line : goal.invariant-loop-line
invariant-loop-line l =
    list_any (λ value. not (bytes_eq value (codes "0"))) (values_of (codes "Content-Length") (map (header_bytes l.head) (drop l.line-index l.lines)))
    ≡ list_any (λ value. not (bytes_eq value (codes "0"))) (values_of (codes "Content-Length") (map (header_bytes l.head) l.lines))
