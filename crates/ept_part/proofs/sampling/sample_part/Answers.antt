use Rattle.std.proofs.Common.{◌≡◌, ◌∙◌, ◌+◌, ◌-◌, ◌<◌, ℕ, true, List, length, drop, sym, ap, subst, arith, rules}
use Rattle.std.specs.Prelude.{Err}
use Rattle.std.proofs.lemmas.Result.{err_from_is_err_and}
use Rattle.ept_point.specs.declared.point.Point.{Point}
use Rattle.ept_space.specs.declared.cube.Rules.{Rules}
use Rattle.ept_sample.specs.Place.{AllInCube}
use Rattle.ept_sample.specs.Nodes.{sampled}
use Rattle.ept_grid.specs.Mask.{opened}
use Rattle.ept_tree.specs.declared.tree_error.TreeError.{TreeError}
use Rattle.ept_tree.specs.Grown.{rules_of, points_of}
use Rattle.ept_parts.specs.Parts.{part_of}
use Rattle.ept_part.specs.declared.error.PartError.{PartError}
use Rattle.ept_part.specs.Sampling.{IsBetween}
use Rattle.ept_part.proofs.Drawn.{count-all, between-begins, between-next, between-left, all-in}
use Rattle.ept_part.proofs.Causes.{was_many, tree-of_sampling, tree-no_fault, tree-no_change}
use Rattle.ept_part.proofs.sampling.sample_part.Goals as goal

pub loop-to_come-init : goal.loop-to_come-init
loop-to_come-init g c = record {
  ahead = c.requires.ahead;
  grown = record {
    rules_are = c.in_ok-tree.ensures.rules;
    rest = c.in_ok-tree.ensures.rest;
    whole = c.in_ok-tree.ensures.whole;
    few = omega (arith, c.in_ok-tree.ensures.one, c.requires.room);
    number = ap length c.in_ok-tree.ensures.none;
  };
  fits = omega arith;
  between = λ all give. between-begins g.S.Source.whole c.args.rules.now (opened c.args.octants) all c.args.points c.args.reader.now c.in_ok-tree.tree give c.in_ok-tree.ensures.begun;
}

pub draw-requires : goal.draw-requires
draw-requires g c = record {
  deep = c.requires.deep;
  some = c.loop-to_come-test.true;
  ahead = c.loop-to_come.invariant.ahead;
}

pub insert_all-requires : goal.insert_all-requires
insert_all-requires g c =
    let grown = c.loop-to_come.invariant.grown in
    record {
      rest = grown.rest;
      inside = subst (λ (w : List Point). AllInCube (rules_of c.loop-to_come.tree).cube w) (sym c.deref.ensures.value)
          (subst (λ (r : Rules). AllInCube r.cube c.draw.new.batch.mine.items) (sym grown.rules_are) c.in_ok-drawn.ensures.inside);
      few = grown.few;
    }

pub overflow_add-inserted : goal.overflow_add-inserted
overflow_add-inserted g c = omega (arith, c.loop-to_come.invariant.fits, c.in_ok-drawn.ensures.few, c.in_ok-drawn.ensures.most, c.len.ensures, c.draw.new.batch.mine.ok.0)

pub overflow_sub-to_come : goal.overflow_sub-to_come
overflow_sub-to_come g c = omega (arith, c.in_ok-drawn.ensures.most)

pub loop-to_come-smaller : goal.loop-to_come-smaller
loop-to_come-smaller g c = omega (arith, c.in_ok-drawn.ensures.some, c.in_ok-drawn.ensures.most)

pub loop-to_come-preserved : goal.loop-to_come-preserved
loop-to_come-preserved g c =
    let s = g.S.Source in
    let i = c.loop-to_come in
    let drew = c.in_ok-drawn.ensures in
    let put = c.in_ok-insert_all.ensures in
    let n = c.in_ok-drawn.drawn in
    let octants = opened c.args.octants in
    let more : n + (i.to_come - n) ≡ i.to_come = omega (arith, drew.most) in
    record {
      ahead = drew.ahead (i.to_come - n) more;
      grown = record {
        rules_are = put.rules ∙ i.invariant.grown.rules_are;
        rest = put.rest;
        whole = (put.whole i.invariant.grown.whole).0;
        few = put.few;
        number = omega (arith, i.invariant.grown.number, put.together (λ p. true), count-all (points_of c.insert_all.new.self), count-all c.deref.result.now, count-all (points_of i.tree), ap length c.deref.ensures.value, c.len.ensures, c.draw.new.batch.mine.ok.0);
      };
      fits = omega (arith, i.invariant.fits, drew.few, drew.most, c.len.ensures, c.draw.new.batch.mine.ok.0);
      between = λ all give. (
          let b = i.invariant.between all give in
          between-left s.whole c.args.rules.now octants all i.to_come n i.reader c.draw.new.reader i.tree c.insert_all.new.self c.deref.result.now b more
          (c.deref.ensures.value ∙ drew.mine b.left b.rest) (drew.rest b.left b.rest) (put.taken (part_of c.args.rules.now octants all) (part_of c.args.rules.now octants (drop n b.left))));
    }

pub returns-in_err-drawn-clause-no_change : goal.returns-in_err-drawn-clause-no_change
returns-in_err-drawn-clause-no_change g c = λ source number is all give.
    let b = c.loop-to_come.invariant.between all give in
    c.in_err-drawn.ensures.no_change source number (ap (λ (e : PartError). Err e) (search (rules, is))) b.left b.rest

pub returns-in_err-drawn-clause-too_many : goal.returns-in_err-drawn-clause-too_many
returns-in_err-drawn-clause-too_many g c = λ is all give. absurd (c.in_err-drawn.ensures.only.1 (search (rules, is)))

pub returns-in_err-insert_all-clause-too_many : goal.returns-in_err-insert_all-clause-too_many
returns-in_err-insert_all-clause-too_many g c = λ is all give.
    let i = c.loop-to_come in
    let octants = opened c.args.octants in
    let b = i.invariant.between all give in
    let drew = c.in_ok-drawn.ensures in
    let many = c.in_err-insert_all.ensures.too_many (ap (λ (e : TreeError). Err e) (was_many c.in_err-insert_all.field-0.0 (search (rules, is)))) (part_of c.args.rules.now octants all) (part_of c.args.rules.now octants (drop c.in_ok-drawn.drawn b.left))
    (between-next g.S.Source.whole c.args.rules.now octants all i.to_come c.in_ok-drawn.drawn i.reader i.tree c.deref.result.now b (c.deref.ensures.value ∙ drew.mine b.left b.rest)) in
    subst (λ (r : Rules). c.args.most < length (sampled r (part_of c.args.rules.now octants all))) i.invariant.grown.rules_are many

pub returns-in_err-insert_all-clause-only : goal.returns-in_err-insert_all-clause-only
returns-in_err-insert_all-clause-only g c =
    let p = err_from_is_err_and c.from_residual-in_err-insert_all.result c.from_residual-in_err-insert_all.ensures.1 in
    rw (p.1, p.2) (tree-of_sampling c.in_err-insert_all.field-0.0)

pub returns-in_err-insert_all-clause-no_change : goal.returns-in_err-insert_all-clause-no_change
returns-in_err-insert_all-clause-no_change g c = λ source number is all give. tree-no_change c.in_err-insert_all.field-0.0 source number (search (rules, is))

pub returns-in_err-insert_all-clause-fault : goal.returns-in_err-insert_all-clause-fault
returns-in_err-insert_all-clause-fault g c = λ is. absurd (tree-no_fault c.in_err-insert_all.field-0.0 (search (rules, is)))

pub returns-clause-grown : goal.returns-clause-grown
returns-clause-grown g c = c.loop-to_come.invariant.grown

pub returns-clause-number : goal.returns-clause-number
returns-clause-number g c = omega (arith, c.loop-to_come.invariant.fits)

pub returns-clause-sampled : goal.returns-clause-sampled
returns-clause-sampled g c = λ all give.
    let i = c.loop-to_come in
    let none : i.to_come ≡ 0 = omega (arith, c.loop-to_come-test.false) in
    let b = i.invariant.between all give in
    all-in g.S.Source.whole c.args.rules.now (opened c.args.octants) all c.sampled_law.ensures.grown i.reader i.tree i.invariant.grown.rules_are
    (subst (λ (k : ℕ). IsBetween g.S.Source.whole c.args.rules.now (opened c.args.octants) all k i.reader i.tree) none b)
