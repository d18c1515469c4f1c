use Rattle.std.proofs.Common.{◌≡◌, ◌∙◌, ◌<◌, ◌≤◌, ℕ, [], ◌∷◌, ◌++◌, length, inr, refl, sym, ap, subst, arith, length-append}
use Rattle.futures.specs.declared.task.Poll.TheVariants.{Ready}
use Rattle.ept_conn.specs.declared.end.End.TheVariants as end
use Rattle.ept_conn.specs.declared.end.Want.TheVariants as want
use Rattle.ept_conn.specs.State.{want_of}
use Rattle.ept_conn.proofs.Conversing.{moved-none, moved-twice}
use Rattle.ept_poll.specs.Units.{IsAs}
use Rattle.ept_base.specs.Causes.{Rose}
use Rattle.ept_poll.specs.Steps.{beside, IsWaitFor}
use Rattle.ept_poll.specs.Polls.{seen}
use Rattle.ept_poll.proofs.Causing.{as-once, units-more}
use Rattle.ept_poll.proofs.Calling.{pending-at, on-pending, if-pending, not-ready, unit-end, unit-done}
use Rattle.ept_poll.proofs.Polling.{HasDone, all-done, stands-on, sends-on, reads-on, ends-on, links-on, stores-on, damaged-over, complete-on, waiting-on, waiting-goes, pollable-on}
use Rattle.ept_poll.proofs.conn.PollConnFuture.poll.Given as given
use Rattle.ept_poll.proofs.conn.PollConnFuture.poll.Goals as goal

-- ---- the loop

pub loop-init : goal.loop-init
loop-init g c = record {
  units = ([], refl, refl);
  within = omega arith;
  end_is = refl;
  turns = refl;
  later_reads = omega arith;
  later_writes = omega arith;
  kept = λ fact holds. holds;
  moved = moved-none g.T.Store.files g.T.Store.may_leave g.T.Store.moment g.T.Store.image_since c.args.self.now.store;
}

pub loop-preserved : goal.loop-preserved
loop-preserved g c =
    let was = c.loop.invariant in
    let old = seen g.L.PollLink g.T.Store c.args.self.now in
    let mid = seen g.L.PollLink g.T.Store c.loop.self in
    let new = beside g.L.PollLink c.unit.new.link c.unit.new.session (g.T.Store.files c.unit.new.store) (g.T.Store.faults c.unit.new.store) (g.T.Store.gets c.unit.new.store) in
    let done = unit-done c.unit.result mid new (c.in-Ready-None.is ∙ ap Ready c.in-Ready-None.field-0-is) c.unit.ensures.unit in
    let calls = was.units.0 in
    let len = was.units.1 in
    let more = length-append calls (done.0 ∷ []) in
    let less = c.loop-test.true in
    let up_reads = was.later_reads in
    let on_reads = c.unit.ensures.later_reads in
    let up_writes = was.later_writes in
    let on_writes = c.unit.ensures.later_writes in record {
      units = (calls ++ done.0 ∷ [], omega (arith, more, len), units-more calls old mid new done.0 was.units.2 done.1);
      within = omega (arith, less);
      end_is = was.end_is;
      turns = was.turns;
      later_reads = omega (arith, up_reads, on_reads);
      later_writes = omega (arith, up_writes, on_writes);
      kept = λ fact holds. c.unit.ensures.kept fact (was.kept fact holds);
      moved = moved-twice g.T.Store.files g.T.Store.may_leave g.T.Store.moment g.T.Store.image_since c.args.self.now.store c.loop.self.store c.unit.new.store was.moved c.unit.ensures.any_moment;
    }

-- ---- the link waits

waited : (g : given.Over) (c : goal.In-Pending g) → HasDone (seen g.L.PollLink g.T.Store c.args.self.now) (beside g.L.PollLink c.unit.new.link c.unit.new.session (g.T.Store.files c.unit.new.store) (g.T.Store.faults c.unit.new.store) (g.T.Store.gets c.unit.new.store))
waited g c =
    let units = c.loop.invariant.units in record {
      calls = units.0;
      last = seen g.L.PollLink g.T.Store c.loop.self;
      units = units.2;
      rest = pending-at c.unit.result (IsAs (seen g.L.PollLink g.T.Store c.loop.self) (beside g.L.PollLink c.unit.new.link c.unit.new.session (g.T.Store.files c.unit.new.store) (g.T.Store.faults c.unit.new.store) (g.T.Store.gets c.unit.new.store))) c.in-Pending.is c.unit.ensures.waits;
    }

wait-is : (g : given.Over) (c : goal.In-Pending g) → IsWaitFor c.unit.new.session (Rose (g.L.PollLink.read_waits c.loop.self.link) (g.L.PollLink.read_waits c.unit.new.link)) (Rose (g.L.PollLink.write_waits c.loop.self.link) (g.L.PollLink.write_waits c.unit.new.link))
wait-is g c =
    pending-at c.unit.result (IsWaitFor c.unit.new.session (Rose (g.L.PollLink.read_waits c.loop.self.link) (g.L.PollLink.read_waits c.unit.new.link)) (Rose (g.L.PollLink.write_waits c.loop.self.link) (g.L.PollLink.write_waits c.unit.new.link))) c.in-Pending.is c.unit.ensures.why

pub returns-in-Pending-clause-polled : goal.returns-in-Pending-clause-polled
unfolding waited
returns-in-Pending-clause-polled g c =
    let was = c.loop.invariant in
    let done = waited g c in
    let link = g.L.PollLink in
    let few : length was.units.0 ≤ c.args.self.now.turns = (let len = was.units.1 in let less = c.loop-test.true in omega (arith, len, less)) in record {
      polls = record {
        calls = done.calls;
        few = few;
        last = done.last;
        units = done.units;
        rest = done.rest;
        pending = waiting-on (seen link g.T.Store c.args.self.now) _ _ (link.read_waits c.args.self.now.link) (link.read_waits c.loop.self.link) (link.read_waits c.unit.new.link) (link.write_waits c.args.self.now.link) (link.write_waits c.loop.self.link) (link.write_waits c.unit.new.link) done was.later_reads was.later_writes (wait-is g c);
      };
      stands = stands-on _ _ done;
      sends = sends-on _ _ done;
      reads = reads-on _ _ done;
      ends = tt;
      over = tt;
      links = λ same. absurd cc;
      stores = λ same. absurd cc;
      damaged = λ found same. absurd cc;
      complete = tt;
      turns = was.turns;
      any_moment = moved-twice g.T.Store.files g.T.Store.may_leave g.T.Store.moment g.T.Store.image_since c.args.self.now.store c.loop.self.store c.unit.new.store was.moved c.unit.ensures.any_moment;
    }

pub returns-in-Pending-clause-again : goal.returns-in-Pending-clause-again
returns-in-Pending-clause-again g c =
    let p = pollable-on c.args.self.now.turns _ _ (waited g c) c.requires (waiting-goes c.unit.new.session _ _ (wait-is g c)) in
    record { some = subst (λ (n : ℕ). 0 < n) (sym c.loop.invariant.turns) p.some; clear = p.clear }

-- ---- the session is at its end

over : (g : given.Over) (c : goal.In-Ready-Some g) → IsAs (seen g.L.PollLink g.T.Store c.loop.self) (beside g.L.PollLink c.unit.new.link c.unit.new.session (g.T.Store.files c.unit.new.store) (g.T.Store.faults c.unit.new.store) (g.T.Store.gets c.unit.new.store)) × (want_of c.unit.new.session ≡ want.End c.in-Ready-Some.end)
over g c =
    unit-end c.unit.result c.in-Ready-Some.end _ _ (c.in-Ready-Some.is ∙ ap Ready c.in-Ready-Some.field-0-is) c.unit.ensures.unit

ended : (g : given.Over) (c : goal.In-Ready-Some g) → HasDone (seen g.L.PollLink g.T.Store c.args.self.now) (beside g.L.PollLink c.unit.new.link c.unit.new.session (g.T.Store.files c.unit.new.store) (g.T.Store.faults c.unit.new.store) (g.T.Store.gets c.unit.new.store))
ended g c =
    let units = c.loop.invariant.units in record {
      calls = units.0;
      last = seen g.L.PollLink g.T.Store c.loop.self;
      units = units.2;
      rest = (over g c).0;
    }

pub returns-in-Ready-Some-clause-polled : goal.returns-in-Ready-Some-clause-polled
unfolding ended
returns-in-Ready-Some-clause-polled g c =
    let was = c.loop.invariant in
    let done = ended g c in
    let is = (over g c).1 in
    let ends = c.in-Ready-Some.end in
    let few : length was.units.0 ≤ c.args.self.now.turns = (let len = was.units.1 in let less = c.loop-test.true in omega (arith, len, less)) in record {
      polls = record { calls = done.calls; few = few; last = done.last; units = done.units; rest = done.rest; pending = tt };
      stands = stands-on _ _ done;
      sends = sends-on _ _ done;
      reads = reads-on _ _ done;
      ends = ends-on _ _ ends done is;
      over = is;
      links = links-on _ _ ends done c.requires.clear is;
      stores = stores-on _ _ ends done is;
      damaged = λ found. damaged-over _ _ ends found done is;
      complete = complete-on _ _ ends done c.requires.clear is;
      turns = was.turns;
      any_moment = moved-twice g.T.Store.files g.T.Store.may_leave g.T.Store.moment g.T.Store.image_since c.args.self.now.store c.loop.self.store c.unit.new.store was.moved c.unit.ensures.any_moment;
    }

-- ---- it is at its end after the last unit

turned : (g : given.Over) (c : goal.In-End g) → HasDone (seen g.L.PollLink g.T.Store c.args.self.now) (seen g.L.PollLink g.T.Store c.loop.self)
turned g c = all-done c.loop.counter _ _ c.loop.invariant.units

at-end : (g : given.Over) (c : goal.In-End g) → want_of c.loop.self.session ≡ want.End c.in-End.end
at-end g c = sym c.want.ensures ∙ c.in-End.is

pub returns-in-End-clause-polled : goal.returns-in-End-clause-polled
returns-in-End-clause-polled g c =
    let was = c.loop.invariant in
    let now = seen g.L.PollLink g.T.Store c.loop.self in
    let done = turned g c in
    let is = at-end g c in
    let ends = c.in-End.end in
    let few : length was.units.0 ≤ c.args.self.now.turns = (let len = was.units.1 in let less = was.within in omega (arith, len, less)) in record {
      polls = record { calls = was.units.0; few = few; last = now; units = was.units.2; rest = as-once now; pending = tt };
      stands = stands-on _ _ done;
      sends = sends-on _ _ done;
      reads = reads-on _ _ done;
      ends = ends-on _ _ ends done is;
      over = is;
      links = links-on _ _ ends done c.requires.clear is;
      stores = stores-on _ _ ends done is;
      damaged = λ found. damaged-over _ _ ends found done is;
      complete = complete-on _ _ ends done c.requires.clear is;
      turns = was.turns;
      any_moment = was.moved;
    }

-- ---- it is to be polled again

pub returns-in_default : goal.returns-in_default
returns-in_default g c =
    let was = c.loop.invariant in
    let old = seen g.L.PollLink g.T.Store c.args.self.now in
    let new = seen g.L.PollLink g.T.Store c.loop.self in
    let done = all-done c.loop.counter old new was.units in
    let again = pollable-on c.args.self.now.turns old new done c.requires (λ ends same. c.in_default.not-End ends (c.want.ensures ∙ same)) in
    let is = c.yield_now.ensures.pending in
    let r = c.yield_now.result in
    let all : length was.units.0 ≡ c.args.self.now.turns = (let len = was.units.1 in let less = was.within in let over = c.loop-test.false in omega (arith, len, less, over)) in
    let some = again.some in record {
      again = on-pending r _ is (record { some = subst (λ (n : ℕ). 0 < n) (sym was.turns) some; clear = again.clear });
      registered = on-pending r _ is (c.yield_now.ensures.armed, λ s none. absurd none);
      kept = λ fact holds. c.yield_now.ensures.kept fact (was.kept fact holds);
      polled = record {
        polls = record {
          calls = was.units.0;
          few = omega (arith, all);
          last = new;
          units = was.units.2;
          rest = as-once new;
          pending = on-pending r _ is (inr (inr (record { all = all; woken = c.yield_now.ensures.woken })));
        };
        stands = stands-on old new done;
        sends = sends-on old new done;
        reads = reads-on old new done;
        ends = if-pending r _ is;
        over = if-pending r _ is;
        links = λ same. absurd (not-ready r end.LinkFault is same);
        stores = λ same. absurd (not-ready r end.StoreFault is same);
        damaged = λ found same. absurd (not-ready r (end.Damaged found) is same);
        complete = if-pending r _ is;
        turns = was.turns;
        any_moment = was.moved;
      };
    }
