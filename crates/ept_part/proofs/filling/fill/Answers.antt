use Rattle.ept_tree.specs.Grown.{nodes_of}
use Rattle.ept_part.proofs.Stages.{fills-both, body-fills, filled}
use Rattle.ept_part.proofs.filling.fill.Goals as goal

pub returns-clause-puts : goal.returns-clause-puts
returns-clause-puts g c =
    let s = g.T.Store in
    filled c.put_body.result c.args.octants (nodes_of c.args.tree.now) c.args.checkpoint.now (s.files c.args.store.now) (s.files c.put_tiles.new.store) (s.files c.put_body.new.store) c.in_ok-put_tiles.ensures.puts c.put_body.ensures.puts

pub returns-clause-fills : goal.returns-clause-fills
returns-clause-fills g c =
    let s = g.T.Store in
    fills-both s.files s.may_leave s.moment s.image_since c.args.octants c.args.store.now c.put_tiles.new.store c.put_body.new.store c.put_tiles.ensures.fills
    (body-fills s.files s.may_leave s.moment s.image_since c.args.octants c.put_tiles.new.store c.put_body.new.store c.put_body.ensures.one_body)

pub returns-in_err-put_tiles-clause-fills : goal.returns-in_err-put_tiles-clause-fills
returns-in_err-put_tiles-clause-fills g c = c.put_tiles.ensures.fills
