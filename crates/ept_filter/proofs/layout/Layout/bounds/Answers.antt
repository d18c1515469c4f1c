use Rattle.std.proofs.Common.{◌+◌, arith}
use Rattle.ept_filter.proofs.Parts.{starts-read, start-suc, start-most}
use Rattle.ept_filter.proofs.layout.Layout.bounds.Goals as goal

pub returns : goal.returns
returns c =
    let read = starts-read c.args.self.now.starts c.args.dim c.from-dim.result c.args.self.now.are_starts c.from-dim.ensures c.requires in
    record {
      begin = read.0;
      end = read.1;
      ordered = omega (arith, read.0, read.1, start-suc c.args.dim c.requires);
      within = omega (arith, read.1, start-most (c.args.dim + 1));
    }
