use Rattle.std.proofs.Common.{◌≡◌, ◌∙◌, ℕ, ◌<◌, Bool, true, false, ◌&&◌, nat_lt, length, refl, ap, sym, subst, arith}
use borrow.Author.Tests.{ltb-true}
use Rattle.ept_sample.proofs.Choices.{and_left}
use Rattle.ept_grid.specs.Outgoing.{points_at}
use Rattle.ept_grid.specs.Contents.{HasSent, joined, opens_with}
use Rattle.ept_grid.proofs.Leaving.{passes, stays, opens}
use Rattle.ept_grid.proofs.losing.lose.Goals as goal

pub returns-then-is_open : goal.returns-then-is_open
returns-then-is_open c = record {
  sent = subst (λ (k : ℕ). HasSent c.args.rules.now c.args.depth c.args.mask c.args.mask (joined c.args.losers.now k c.args.point) c.args.losers.now c.args.out.now c.push.new.self) c.octant_of-octant.ensures.value (passes c.args.rules.now c.args.depth c.args.mask c.octant_of-octant.result c.args.point c.args.losers.now c.args.out.now c.push.new.self c.octant_of-octant.ensures.one_of_eight c.requires.few c.known.ensures c.known-2.ensures c.push.ensures.eight (sym c.is_open.ensures ∙ c.if-is_open.true) c.push.ensures.added c.push.ensures.room c.push.ensures.others);
  deepest = λ _. refl;
}

pub returns-then-not-is_too_many : goal.returns-then-not-is_too_many
returns-then-not-is_too_many c =
    let few : opens_with c.args.rules.now c.args.depth (length (points_at c.push-2.new.self c.octant_of-octant.result)) ≡ false = ap (λ (n : ℕ). opens_with c.args.rules.now c.args.depth n) (sym c.count.ensures.count) ∙ (sym c.is_too_many.ensures ∙ c.if-not-is_too_many.true) in
    record {
      sent = subst (λ (k : ℕ). HasSent c.args.rules.now c.args.depth c.args.mask c.args.mask (joined c.args.losers.now k c.args.point) c.push-2.new.self c.args.out.now c.args.out.now) c.octant_of-octant.ensures.value (stays c.args.rules.now c.args.depth c.args.mask c.octant_of-octant.result c.args.point c.args.losers.now c.push-2.new.self c.args.out.now c.octant_of-octant.ensures.one_of_eight c.requires.few c.known.ensures c.push-2.ensures.eight c.known-2.ensures (sym c.is_open.ensures ∙ c.if-is_open.false) c.push-2.ensures.added c.push-2.ensures.room c.push-2.ensures.others few);
      deepest = λ _. refl;
    }

pub returns : goal.returns
returns c =
    let many : opens_with c.args.rules.now c.args.depth (length (points_at c.push-2.new.self c.octant_of-octant.result)) ≡ true = ap (λ (n : ℕ). opens_with c.args.rules.now c.args.depth n) (sym c.count.ensures.count) ∙ (sym c.is_too_many.ensures ∙ c.if-not-is_too_many.false) in
    record {
      sent = subst (λ (k : ℕ). HasSent c.args.rules.now c.args.depth c.args.mask c.with_open.result (joined c.args.losers.now k c.args.point) c.give.new.self c.args.out.now c.give.new.out) c.octant_of-octant.ensures.value (opens c.args.rules.now c.args.depth c.args.mask c.with_open.result c.octant_of-octant.result c.args.point c.args.losers.now c.push-2.new.self c.sort.new.self c.give.new.self c.args.out.now c.give.new.out c.octant_of-octant.ensures.one_of_eight c.requires.few c.known.ensures (c.give.ensures.eight ∙ c.sort.ensures.eight ∙ c.push-2.ensures.eight ∙ c.known.ensures) c.known-2.ensures (c.give.ensures.out_eight ∙ c.known-2.ensures) (sym c.is_open.ensures ∙ c.if-is_open.false) c.with_open.ensures c.push-2.ensures.added (λ o h. c.give.ensures.others o h ∙ c.sort.ensures.others o h ∙ c.push-2.ensures.others o h) many c.sort.ensures.moved c.sort.ensures.sorted c.give.ensures.none c.give.ensures.added c.give.ensures.left c.give.ensures.out_others);
      deepest = λ low. absurd (omega (arith, low, above c.args.depth c.args.rules.now.cube.depth _ many));
    }
  where
    above : (depth deepest : ℕ) (b : Bool) → (nat_lt depth deepest && b) ≡ true → depth < deepest
    above depth deepest b e = ltb-true depth deepest (and_left (nat_lt depth deepest) b e)
