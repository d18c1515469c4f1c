use Rattle.std.proofs.Common.{◌≡◌, ◌-◌, ℕ, List, Option, length, drop, map, refl, sym, ap, ◌∙◌, subst, arith}
use Rattle.std.specs.Prelude.{IsNone, false, true}
use Rattle.std.proofs.lemmas.List.{drop_all}
use Rattle.serde_json.specs.Data.{Data}
use Rattle.serde_json.specs.View.{view}
use Rattle.ept_class.specs.ClassSet.{has_class}
use Rattle.ept_config_text.specs.Classes.{distinct_classes}
use Rattle.ept_config_text.proofs.ClassLists.{HasClassesOf, no_classes, more_classes, no_class, named_twice, first_behind, none_in_front, all_classes}
use Rattle.ept_config_text.proofs.classes.distinct_classes.Goals as goal

pub loop-at-init : goal.loop-at-init
loop-at-init c =
    let items = c.args.items.now in
    record {
      named = subst (λ (ds : List Data). HasClassesOf ds c.new-set.result) (sym (ap (map view) (drop_all (length items) items (omega arith)))) (no_classes c.new-set.result c.new-set.ensures.empty);
      most = omega arith;
    }

pub loop-at-preserved : goal.loop-at-preserved
loop-at-preserved c =
    let items = c.args.items.now in
    let behind = first_behind view items c.loop-at.at c.index-items-at.result c.loop-at-test.true c.loop-at.invariant.most c.index-items-at.is in
    let unlisted : has_class c.loop-at.set c.in_ok-class.class ≡ false = sym c.contains.ensures.member ∙ c.if-contains.false in
    record {
      named =
          subst (λ (ds : List Data). HasClassesOf ds c.insert.new.self) (sym behind)
          (more_classes (view c.index-items-at.result) (map view (drop c.loop-at.at items)) c.loop-at.set c.insert.new.self c.in_ok-class.class c.loop-at.invariant.named c.in_ok-class.ensures unlisted c.insert.ensures.members);
      most = omega (arith, c.loop-at.invariant.most);
    }

pub returns-in_err-class-clause-none : goal.returns-in_err-class-clause-none
returns-in_err-class-clause-none c =
    let items = c.args.items.now in
    let behind = first_behind view items c.loop-at.at c.index-items-at.result c.loop-at-test.true c.loop-at.invariant.most c.index-items-at.is in
    let none = no_class (view c.index-items-at.result) (map view (drop c.loop-at.at items)) (subst (λ (o : Option ℕ). IsNone o) c.in_err-class.ensures refl) in
    λ ended. subst (λ (o : Option (List ℕ)). IsNone o) (sym (none_in_front view items (c.loop-at.at - 1) (ap distinct_classes behind ∙ none))) refl

pub returns-then-contains-clause-none : goal.returns-then-contains-clause-none
returns-then-contains-clause-none c =
    let items = c.args.items.now in
    let behind = first_behind view items c.loop-at.at c.index-items-at.result c.loop-at-test.true c.loop-at.invariant.most c.index-items-at.is in
    let listed : has_class c.loop-at.set c.in_ok-class.class ≡ true = sym c.contains.ensures.member ∙ c.if-contains.true in
    let none = named_twice (view c.index-items-at.result) (map view (drop c.loop-at.at items)) c.loop-at.set c.in_ok-class.class c.loop-at.invariant.named c.in_ok-class.ensures listed in
    λ ended. subst (λ (o : Option (List ℕ)). IsNone o) (sym (none_in_front view items (c.loop-at.at - 1) (ap distinct_classes behind ∙ none))) refl

pub returns-clause-some : goal.returns-clause-some
returns-clause-some c =
    let items = c.args.items.now in
    let first : c.loop-at.at ≡ 0 = omega (arith, c.loop-at-test.false) in
    all_classes (map view items) c.loop-at.set (subst (λ (n : ℕ). HasClassesOf (map view (drop n items)) c.loop-at.set) first c.loop-at.invariant.named)
