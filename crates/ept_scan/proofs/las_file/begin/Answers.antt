use Rattle.std.proofs.Common.{Ok, Err, subst, List, ℕ, ap, length, arith}
use Rattle.ept_las.specs.LasHeader.{HeaderReadsAs}
use Rattle.ept_scan.proofs.Headers.{header_told, fault_told}
use Rattle.ept_scan.proofs.las_file.begin.Goals as goal

pub returns-in-Ok-clause-header : goal.returns-in-Ok-clause-header
returns-in-Ok-clause-header g c =
    header_told c.clear.new.self c.refill.new.self (g.S.Source.left c.args.source.now) (g.S.Source.left c.refill.new.source) c.args.reading.now.expect (Ok c.in-Ok.header) c.clear.ensures c.in_ok-refill.ensures.ahead
    (omega (arith, ap length c.clear.ensures, c.refill.ensures.bound)) c.in_ok-refill.ensures.filled (subst (λ (l : List ℕ). HeaderReadsAs l c.args.reading.now.expect (Ok c.in-Ok.header)) c.bytes.ensures c.in-Ok.ensures.reads)

pub returns-in-Err-clause-refused : goal.returns-in-Err-clause-refused
returns-in-Err-clause-refused g c =
    fault_told c.clear.new.self c.refill.new.self (g.S.Source.left c.args.source.now) (g.S.Source.left c.refill.new.source) c.args.reading.now.expect c.in-Err.fault c.args.reading.now.origin c.clear.ensures c.in_ok-refill.ensures.ahead
    (omega (arith, ap length c.clear.ensures, c.refill.ensures.bound)) c.in_ok-refill.ensures.filled (subst (λ (l : List ℕ). HeaderReadsAs l c.args.reading.now.expect (Err c.in-Err.fault)) c.bytes.ensures c.in-Err.ensures.reads)
