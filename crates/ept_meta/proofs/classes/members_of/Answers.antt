use Rattle.std.proofs.Common.{◌≡◌, ◌+◌, ◌∙◌, ℕ, List, Vec, Global, ap, subst, refl, arith}
use Rattle.ept_meta.specs.Classes.{members_below, members_of}
use Rattle.ept_meta.proofs.ClassMembers.{with_member, without_member}
use Rattle.ept_meta.proofs.classes.members_of.Goals as goal
use Rattle.ept_meta.proofs.classes.members_of.Goals.{then-contains+in_ok-push, else-contains}

pub loop-class-init : goal.loop-class-init
unfolding members_below
loop-class-init c = record {
  members = c.new-classes.ensures.items;
  most = omega arith;
}

pub loop-class-preserved : goal.loop-class-preserved
loop-class-preserved c = record {
  members = elim c.if-contains.branch [
    | then-contains+in_ok-push w ↦
        with_member c.args.set.now c.loop-class.class c.loop-class.class c.loop-class.classes.items c.if-contains.classes.items c.contains.result
        refl c.contains.ensures.member w.if-contains.true c.loop-class.invariant.members (ap (λ (v : Vec ℕ Global). v.items) w.classes-is ∙ w.in_ok-push.ensures.items)
    | else-contains w ↦
        ap (λ (v : Vec ℕ Global). v.items) w.classes-is
        ∙ without_member c.args.set.now c.loop-class.class c.loop-class.class c.loop-class.classes.items c.contains.result
        refl c.contains.ensures.member w.if-contains.false c.loop-class.invariant.members
  ];
  most = omega (arith, c.loop-class-test.true);
}

pub returns : goal.returns
unfolding members_of
returns c = record {
  members =
      let all : c.loop-class.class ≡ 256 = omega (arith, c.loop-class-test.false, c.loop-class.invariant.most) in
      subst (λ (n : ℕ). c.loop-class.classes.items ≡ members_below c.args.set.now n) all c.loop-class.invariant.members;
}
