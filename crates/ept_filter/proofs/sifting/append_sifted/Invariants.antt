use Rattle.std.proofs.Common.{length}
use Rattle.ept_filter.proofs.Sifted.{HasSifted}
use Rattle.ept_filter.proofs.sifting.append_sifted.Given as goal

abbrev pub invariant-loop-packed : goal.invariant-loop-packed
invariant-loop-packed l = HasSifted l.sift l.bytes l.rest l.fn.out.items l.out.items l.count

abbrev pub decreases-loop-packed : goal.decreases-loop-packed
decreases-loop-packed l = length l.rest
