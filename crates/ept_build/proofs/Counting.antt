-- How many phases a build takes, and which checkpoints it makes.
use Rattle.std.proofs.Common.{◌≡◌, ◌∙◌, ◌⊎◌, inl, inr, ℕ, ◌+◌, ◌-◌, ◌*◌, ◌<◌, ◌≤◌, min, List, length, take, refl, sym, ap, arith, Some, None, add-mul, one-mul, zero-mul}
use Rattle.std.proofs.lemmas.Bool.{cases_lt}
use Rattle.std.proofs.lemmas.List.{take_all}
use Rattle.ept_base.specs.Files.{Files}
use Rattle.ept_point.specs.declared.point.Point.{Point}
use Rattle.ept_save.specs.Current.{Current, HasCurrent, Keeps}
use Rattle.ept_save.specs.View.{View, next_letter, next_generation}
use Rattle.ept_config.specs.declared.kept.Kept.{Kept}
use Rattle.ept_config.specs.declared.source_count.SourceCount.{SourceCount}
use Rattle.ept_table.specs.Octree.{Branch}
use Rattle.ept_octree_ckpt.specs.Phase.{HasNext, GoesOn}
use Rattle.ept_plan.specs.declared.plan.Plan.{Plan}
use Rattle.ept_plan.specs.Plans.{IsOf, inputs_by, inserted_by}
use Rattle.ept_build.specs.Phases.{HasAll}
use Rattle.ept_build.specs.Reached.{generation_by, IsAfter, HasGone, IsThrough, HasThisOrNext, KeepsAs}
use Rattle.ept_build.proofs.Phased.{of-inputs}

-- the next generation is one more
pub next-one : (current : Current) → next_generation current ≡ generation_by current + 1
next-one None = refl
next-one (Some (letter, c)) = refl

-- the checkpoint of a plan keeps what the plan keeps
pub keeps-of : (plan : Plan) (current : Current) → IsOf plan current → KeepsAs plan.kept current
keeps-of plan None is = absurd is
keeps-of plan (Some (letter, c)) is = is.0

-- ---- a number of phases

pub after-none : (from : Current) (kept : Kept) (step all : ℕ) → inserted_by from ≤ all → IsAfter from kept step all 0 from
after-none from kept step all most = record {
  generation = omega arith;
  inserted = omega (arith, zero-mul step, most);
  unchanged = λ none. refl;
  keeps = λ some. absurd (omega (arith, some));
}

module _ (from now : Current) (kept : Kept) (step all phases : ℕ) (after : IsAfter from kept step all phases now) where
  -- and one more
  pub after-next : (next : Current) (count : ℕ) → generation_by next ≡ generation_by now + 1 → inserted_by next ≡ inserted_by now + count → count ≡ min step (all - inserted_by now) → KeepsAs kept next → IsAfter from kept step all (phases + 1) next
  after-next next count generation inserted is keeps = record {
    generation = omega (arith, after.generation, generation);
    inserted = omega (arith, after.inserted, inserted, is, add-mul phases 1 step, one-mul step);
    unchanged = λ none. absurd (omega (arith, none));
    keeps = λ some. keeps;
  }

  pub reached-now : (files : Files) → HasCurrent now files → HasGone from kept step all files
  reached-now files has = record { now = now; has_now = has; phases = phases; after = after }

  pub reached-then : (inserted count : ℕ) → inserted_by now ≡ inserted → count ≡ min step (all - inserted) → (files : Files) → HasThisOrNext now kept (inserted + count) files → HasGone from kept step all files
  reached-then inserted count by is files (inl has) = reached-now files has
  reached-then inserted count by is files (inr next) = record {
    now = next.0;
    has_now = next.1;
    phases = phases + 1;
    after = after-next next.0 count next.2 (omega (arith, next.3, by)) (omega (arith, is, by)) next.4;
  }

-- ---- no fewer would do

-- each number of phases that inserts what is left, and is not 0 if an input is new, is no smaller
abbrev pub NoFewer : ℕ → ℕ → ℕ → ℕ → Type 0
NoFewer left inputs step phases = (others : ℕ) → left ≤ others * step → (0 < inputs → 0 < others) → phases ≤ others

pub no-fewer-none : (left inputs step : ℕ) → NoFewer left inputs step 0
no-fewer-none left inputs step others enough one = omega arith

module _ (plan : Plan) (from now : Current) (step phases : ℕ) (after : IsAfter from plan.kept step plan.points phases now) (most : inserted_by from ≤ plan.points) (least : inputs_by from ≤ length plan.kept.inputs) (begun : (phases ≡ 0) ⊎ IsOf plan now) (fewest : NoFewer (plan.points - inserted_by from) (length plan.kept.inputs - inputs_by from) step phases) where
  all_inputs : (others : ℕ) → others ≡ phases → (0 < length plan.kept.inputs - inputs_by from → 0 < others) → inputs_by now ≡ length plan.kept.inputs
  all_inputs others same one = by begun
    where
      by : (phases ≡ 0) ⊎ IsOf plan now → inputs_by now ≡ length plan.kept.inputs
      by (inr of) = of-inputs plan now of
      by (inl none) = elim (cases_lt (inputs_by from) (length plan.kept.inputs)) [
        | inl less ↦ let some : 0 < others = one (omega (arith, less)) in omega (arith, some, same, none)
        | inr past ↦ omega (arith, past, least, ap inputs_by (after.unchanged none))
      ]

  -- if something is left to do, one phase more is needed
  pub no-fewer-next : ¬ HasAll plan now → NoFewer (plan.points - inserted_by from) (length plan.kept.inputs - inputs_by from) step (phases + 1)
  no-fewer-next not_all others enough one = elim (cases_lt phases others) [
    | inl less ↦ omega (arith, less)
    | inr past ↦
        let same : others ≡ phases = omega (arith, past, fewest others enough one) in
        let product : others * step ≡ phases * step = ap (λ (n : ℕ). n * step) same in
        absurd (not_all (record { inserted = omega (arith, after.inserted, enough, product, most); inputs = all_inputs others same one }))
  ]

  -- and once all is done, this number of phases was needed
  pub through : HasAll plan now → IsThrough from plan.kept step plan.points (length plan.kept.inputs) now
  through all = record {
    phases = phases;
    after = after;
    needed = record {
      enough = omega (arith, after.inserted, all.inserted, most);
      one = λ new. elim (cases_lt 0 phases) [
        | inl some ↦ some
        | inr none ↦ let nothing : phases ≡ 0 = omega (arith, none) in absurd (omega (arith, new, all.inputs, ap inputs_by (after.unchanged nothing)))
      ];
      fewest = fewest;
    };
  }

-- if nothing is left, none is needed
pub nothing-needed : (from : Current) (kept : Kept) (step all inputs : ℕ) → inserted_by from ≡ all → inputs_by from ≡ inputs → IsThrough from kept step all inputs from
nothing-needed from kept step all inputs inserted same = record {
  phases = 0;
  after = after-none from kept step all (omega (arith, inserted));
  needed = record {
    enough = omega (arith, inserted);
    one = λ new. absurd (omega (arith, new, same));
    fewest = no-fewer-none (all - inserted_by from) (inputs - inputs_by from) step;
  };
}

-- ---- a phase makes the next checkpoint

pub goes-either : (view : View) (kept : Kept) (counts : List SourceCount) (inserted : ℕ) (nodes : List Branch) (old new : Files) → HasCurrent view.current old → GoesOn view kept counts inserted nodes old new → HasThisOrNext view.current kept inserted new
goes-either view kept counts inserted nodes old new has goes = by goes.either
  where
    by : Keeps view.current old new ⊎ HasNext view kept counts inserted nodes old new → HasThisOrNext view.current kept inserted new
    by (inl keeps) = inl (keeps.same has)
    by (inr next) = inr (Some (next_letter view.current, next.next), next.is_current, next.is_next.generation ∙ next-one view.current, next.is_next.inserted_is, next.is_next.kept_is)

-- ---- the points of the next phase

-- at most `step` more, or all that are left
pub take-most : (n step all : ℕ) (points : List Point) → length points ≡ all → n ≤ all → take (n + min step (all - n)) points ≡ take (n + step) points
take-most n step all points is most = elim (cases_lt (n + step) all) [
  | inl less ↦ ap (λ (k : ℕ). take k points) (omega (arith, less))
  | inr past ↦ take_all (n + min step (all - n)) points (omega (arith, past, is, most)) ∙ sym (take_all (n + step) points (omega (arith, past, is)))
]
