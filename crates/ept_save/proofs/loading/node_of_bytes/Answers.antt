use Rattle.std.proofs.Common.{arith}
use Rattle.ept_save.proofs.LoadedLines.{is-wrong, behind-old}
use Rattle.ept_save.proofs.loading.node_of_bytes.Goals as goal

pub returns-then-is_err-clause-refused : goal.returns-then-is_err-clause-refused
returns-then-is_err-clause-refused c = λ e.
    let read = c.in-Ok.ensures.ok in
    is-wrong c.args.layout c.args.rules.now c.args.line.now c.args.bytes.now read.0 _
    (behind-old c.args.out.now.items read.0 c.read_tile_in.new.out.items c.as_slice.result.now c.len-kept.result (omega (arith, c.args.out.now.ok.0, c.len-kept.ensures)) c.as_slice.ensures.value read.2)
    read.1 (c.node_of_points-outcome.ensures.refused e)
