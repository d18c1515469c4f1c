use Rattle.std.proofs.Common.{◌≡◌, ℕ, List, codes, subst}
use Rattle.ept_filter.specs.declared.sift.Sift.{Sift}
use Rattle.ept_filter.specs.SiftText.{IsSiftText}
use Rattle.ept_command.proofs.OctantTexts.{lists_none, lists_no_class, lists_some, lists_left}
use Rattle.ept_command.proofs.octants.read_octants.Goals as goal

pub returns-in_err-listed-clause-none : goal.returns-in_err-listed-clause-none
returns-in_err-listed-clause-none c =
    rw c.from_residual.ensures (lists_none c.classes_law.ensures c.args.word.now
    (subst (λ (t : List ℕ). (sift : Sift) → ¬ IsSiftText t (codes "-") (codes "-") sift) c.as_bytes.ensures.value c.in_err-listed.ensures.none))

pub returns-clause-some : goal.returns-clause-some
returns-clause-some c =
    lists_some c.args.word.now c.in_ok-listed.listed c.in_ok-numbers.numbers c.octants_of.result
    (subst (λ (t : List ℕ). IsSiftText t (codes "-") (codes "-") c.in_ok-listed.listed) c.as_bytes.ensures.value c.in_ok-listed.ensures.some) c.in_ok-numbers.was
    c.octants_of.ensures.below_8 c.octants_of.ensures.some

pub returns-clause-none : goal.returns-clause-none
returns-clause-none c =
    lists_left c.class_set_law.ensures.once c.args.word.now c.in_ok-listed.listed c.in_ok-numbers.numbers c.octants_of.result
    (subst (λ (t : List ℕ). IsSiftText t (codes "-") (codes "-") c.in_ok-listed.listed) c.as_bytes.ensures.value c.in_ok-listed.ensures.some) c.in_ok-numbers.was
    c.octants_of.ensures.none

pub returns-in_err-numbers-clause-none : goal.returns-in_err-numbers-clause-none
returns-in_err-numbers-clause-none c =
    rw c.from_residual-in_err-numbers.ensures (lists_no_class c.class_set_law.ensures.once c.args.word.now c.in_ok-listed.listed
    (subst (λ (t : List ℕ). IsSiftText t (codes "-") (codes "-") c.in_ok-listed.listed) c.as_bytes.ensures.value c.in_ok-listed.ensures.some) c.in_err-numbers.was)
