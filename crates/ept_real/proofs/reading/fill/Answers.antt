use Rattle.std.proofs.Common.{◌≡◌, ◌+◌, ◌-◌, List, ℕ, ◌++◌, length, take, arith, subst, sym, length-append, length-take, length-drop}
use Rattle.std.specs.Io.KnownBytes.{Consumes}
use Rattle.ept_base.proofs.Runs.{consumes_both, front_grown}
use borrow.Rule.Slice.PartMut.{put_mid}
use Rattle.std.proofs.lemmas.Grind.{common_steps}
use Rattle.ept_real.proofs.reading.fill.Goals as goal

pub loop-filled-preserved : goal.loop-filled-preserved
loop-filled-preserved g c =
    let into : List ℕ = c.loop-filled.into in
    let grown : take (c.loop-filled.filled + c.in_ok-count.count) (put_mid c.loop-filled.filled (length into - c.loop-filled.filled) into c.read.new.buf) ≡ take c.loop-filled.filled into ++ take c.in_ok-count.count c.read.new.buf =
    front_grown into c.read.new.buf c.loop-filled.filled c.in_ok-count.count (length into - c.loop-filled.filled) c.loop-filled.invariant.fits (grind (arith, common_steps)) in
    record {
      fits = simp (length-append, length-take, length-drop) (omega (arith, c.in_ok-count.ensures.bound.0));
      room = grind (arith, common_steps);
      consumed = subst (λ (l : List ℕ). Consumes (g.F.Read.remaining c.args.reader.now) (g.F.Read.remaining c.read.new.self) l) (sym grown)
          (consumes_both _ (g.F.Read.remaining c.loop-filled.reader) _ _ _ c.loop-filled.invariant.consumed c.in_ok-count.ensures.bytes.0);
    }
