use Rattle.std.proofs.Common.{◌≡◌, refl, Result, List, ◌+◌, sym, subst, arith, ap, Err}
use Rattle.ept_point.specs.declared.point.Point.{Point}
use Rattle.ept_scan.specs.declared.read_error.ReadError.{ReadError}
use Rattle.ept_scan.specs.declared.read_error.ReadError.TheVariants.{SourceChanged}
use Rattle.ept_scan.proofs.Batches.{HasDrawn, at_file, drawn_none, drawn_more, first_changed}
use Rattle.ept_scan.proofs.queue.Queue.next_points.Goals as goal

same_refusal : (a b : ReadError) (x y : Result (Unit {0}) ReadError) → x ≡ Err a → y ≡ Err b → x ≡ y → a ≡ b
same_refusal a b x y is_a is_b same = cc

pub next-requires-clause-more : goal.next-requires-clause-more
next-requires-clause-more g c = at_file c.loop.self (omega (arith, c.loop.invariant.drawn.count))

pub loop-init : goal.loop-init
loop-init g c = record {
  drawn = drawn_none g.S.Source.whole g.S.Source.left g.S.Source.given g.S.Source.faults c.args.self.now c.args.out.now.items c.requires.queue;
  part = omega arith;
  size = omega (arith, c.len-kept.ensures);
  room = omega (arith, c.len-kept.ensures, c.requires.room);
}

pub loop-preserved : goal.loop-preserved
loop-preserved g c = record {
  drawn = subst (λ (l : List Point). HasDrawn g.S.Source.whole g.S.Source.left g.S.Source.given g.S.Source.faults c.args.self.now c.args.out.now.items c.next.new.self l (c.loop.counter + 1)) (sym c.push_reserved.ensures.items)
      (drawn_more g.S.Source.whole g.S.Source.left g.S.Source.given g.S.Source.faults c.args.self.now c.args.out.now.items c.loop.self c.next.new.self c.loop.out.items c.loop.counter c.in-Ok.point c.loop.invariant.drawn c.in-Ok.ensures.queue c.in-Ok.ensures.held c.in-Ok.ensures.left c.in-Ok.ensures.lies c.in-Ok.ensures.drawn c.in-Ok.ensures.rest c.in-Ok.ensures.near c.in-Ok.ensures.rewound c.in-Ok.ensures.given c.in-Ok.ensures.faults);
  part = omega (arith, c.loop-test.true);
  size = omega (arith, c.push_reserved.ensures.len, c.loop.invariant.size);
  room = omega (arith, c.push_reserved.ensures.capacity, c.loop.invariant.room);
}

pub returns-in-Err-clause-no_change : goal.returns-in-Err-clause-no_change
returns-in-Err-clause-no_change g c points rest source number is =
    c.in-Err.ensures.no_change _ (c.loop.invariant.drawn.rest points rest).1 source number (ap (λ (e : ReadError). Err e) (same_refusal c.in-Err.refused (SourceChanged source number) (Err c.in-Err.refused) (Err (SourceChanged source number)) refl refl is))

pub returns-in-Err-clause-faults : goal.returns-in-Err-clause-faults
returns-in-Err-clause-faults g c any = c.in-Err.ensures.faults (c.loop.invariant.drawn.fault any)

pub returns-in-Err-clause-changed : goal.returns-in-Err-clause-changed
returns-in-Err-clause-changed g c =
    first_changed g.S.Source.whole g.S.Source.left g.S.Source.given g.S.Source.faults c.args.self.now c.args.out.now.items c.loop.self c.loop.out.items c.loop.counter c.args.count c.loop.invariant.drawn c.loop-test.true c.in-Err.refused c.in-Err.ensures.changed

pub returns-in-Err-clause-near : goal.returns-in-Err-clause-near
returns-in-Err-clause-near g c near = c.in-Err.ensures.near (c.loop.invariant.drawn.near near)
