use Rattle.ept_scan.proofs.Spans.{extent_at}
use Rattle.ept_scan.proofs.extent.united.Goals as goal

pub returns : goal.returns
returns c xs ys has_a has_b =
    c.joined.ensures xs ys (extent_at c.args.a c.in-Some.first xs c.in-Some.is has_a) (extent_at c.args.b c.in-Some-b.second ys c.in-Some-b.is has_b)
