-- The current checkpoint, and what is found or refused after it.
use Rattle.std.proofs.Common.{◌≡◌, ◌∙◌, refl, ap, sym, subst, Option, Some, None}
use Rattle.std.specs.Prelude.{Result, IfOk, IfErr}
use Rattle.std.specs.Option.{option_map, unwrap_or}
use Rattle.ept_base.specs.Files.{Files}
use Rattle.ept_config.specs.declared.config.Config.{Config}
use Rattle.ept_ckpt.specs.declared.letter.Letter.{Letter}
use Rattle.ept_ckpt.specs.declared.checkpoint.Checkpoint.{Checkpoint}
use Rattle.ept_save.specs.Current.{Current}
use Rattle.ept_plan.specs.declared.error.PlanError.{PlanError}
use Rattle.ept_plan.specs.declared.plan.Plan.{Plan}
use Rattle.ept_plan.specs.Steps.{IsFound, WhyNot}

some_none : (c : Checkpoint) → Some c ≡ None → ⊥
some_none c is = cc

none_current : (current : Current) (o : Option Checkpoint) → o ≡ option_map (λ c. c.1) current → o ≡ None → current ≡ None
none_current None o is none = refl
none_current (Some (letter, c)) o is none = absurd (some_none c (sym is ∙ none))

some_current : (current : Current) (o : Option Checkpoint) (c : Checkpoint) → o ≡ option_map (λ c. c.1) current → o ≡ Some c → (letter : Letter) × (current ≡ Some (letter, c))
some_current None o c is some = absurd (some_none c (sym some ∙ is))
some_current (Some (letter, d)) o c is some =
    let same : d ≡ c = ap (λ (x : Option Checkpoint). unwrap_or x d) (sym is ∙ some) in
    (letter, ap (λ (x : Checkpoint). Some (letter, x)) same)

-- what holds if there is no checkpoint, and what holds after one, whatever its letter
module _ (P : Current → Type 0) (current : Current) (o : Option Checkpoint) (is : o ≡ option_map (λ c. c.1) current) where
  pub at-none : o ≡ None → P None → P current
  at-none none holds = subst P (sym (none_current current o is none)) holds

  pub at-some : (c : Checkpoint) → o ≡ Some c → ((l : Letter) → P (Some (l, c))) → P current
  at-some c some holds =
      let found = some_current current o c is some in
      subst P (sym found.1) (holds found.0)

-- what is found, and why there is no plan
abbrev pub Found : Option Files → Config → Result Plan PlanError → Current → Type 0
Found files config r current = IfOk r (IsFound files config current)

abbrev pub Why : Option Files → Config → Result Plan PlanError → Current → Type 0
Why files config r current = IfErr r (WhyNot files config current)
