-- Paths that a shelf is asked for in a build: those to scan, then those to read.
use Rattle.std.proofs.Common.{◌≡◌, ◌∙◌, inl, inr, ℕ, ◌+◌, ◌≤◌, List, [], ◌++◌, length, take, drop, refl, sym, ap, subst, arith, append_assoc, Option, Some, None, Result, Ok, Err}
use Rattle.std.proofs.lemmas.Bool.{cases_lt}
use Rattle.std.proofs.lemmas.List.{append-nil, take_all, take_at, drop_at, take-append-le}
use Rattle.std.proofs.Math.Seq.{take-add}
use Rattle.ept_base.specs.Files.{Files}
use Rattle.ept_config.specs.declared.config.Config.{Config}
use Rattle.ept_config.specs.declared.input.Input.{Input}
use Rattle.ept_scan.specs.Asking.{AsksFor, OpensThese, paths_left}
use Rattle.ept_save.specs.Current.{Current}
use Rattle.ept_save.specs.Sound.{IsSound}
use Rattle.ept_plan.specs.declared.plan.Plan.{Plan}
use Rattle.ept_plan.specs.Plans.{IsPlan, new_paths, inserted_by}
use Rattle.ept_build.specs.Building.{AsksInOrder, HasCounts}

-- a list of paths
abbrev pub Paths : Type 0
Paths = List (List ℕ)

-- the first of these paths, or all of them, were asked for
abbrev pub AsksFront : Paths → Option Paths → Option Paths → Type 0
AsksFront paths old new = (n : ℕ) × AsksFor (take n paths) old new

-- nothing was
pub asks-none : (old : Option Paths) → AsksFor [] old old
asks-none None = tt
asks-none (Some before) = sym (append-nil before)

-- whatever the result, the first of these paths, or all of them, were asked for
pub opens-front : {T E : Type 0} (paths : Paths) (r : Result T E) (old new : Option Paths) → OpensThese paths r old new → AsksFront paths old new
opens-front paths (Ok v) old new opens = (length paths, subst (λ (w : Paths). AsksFor w old new) (sym (take_all (length paths) paths (omega arith))) opens)
opens-front paths (Err e) old new opens = opens

-- some, then some more
pub asks-then : (one two : Paths) (old mid new : Option Paths) → AsksFor one old mid → AsksFor two mid new → AsksFor (one ++ two) old new
asks-then one two None None None first second = tt
asks-then one two None None (Some c) first second = absurd second
asks-then one two None (Some b) new first second = absurd first
asks-then one two (Some a) None new first second = absurd first
asks-then one two (Some a) (Some b) None first second = absurd second
asks-then one two (Some a) (Some b) (Some c) first second = second ∙ (ap (λ (w : Paths). w ++ two) first ∙ append_assoc a one two)

-- the first paths of `one` are also the first of `one ++ two`, and are at most all of `one`
pub front-more : (one two : Paths) (old new : Option Paths) → AsksFront one old new → (n : ℕ) × (n ≤ length one) × AsksFor (take n (one ++ two)) old new
front-more one two old new front = elim (cases_lt front.0 (length one)) [
  | inl less ↦ (front.0, omega (arith, less), subst (λ (w : Paths). AsksFor w old new) (sym (take-append-le front.0 one two (omega (arith, less)))) front.1)
  | inr past ↦ (length one, omega arith, subst (λ (w : Paths). AsksFor w old new) (take_all front.0 one (omega (arith, past)) ∙ (sym (take_all (length one) one (omega arith)) ∙ sym (take-append-le (length one) one two (omega arith)))) front.1)
]

-- all of `one` and then the first of `two` are the first of `one ++ two`
pub front-then : (one two : Paths) (old mid new : Option Paths) → AsksFor one old mid → AsksFront two mid new → (n : ℕ) × AsksFor (take n (one ++ two)) old new
front-then one two old mid new first second = (
  length one + second.0,
  subst (λ (w : Paths). AsksFor w old new) (sym (whole second.0)) (asks-then one (take second.0 two) old mid new first second.1),
)
  where
    whole : (k : ℕ) → take (length one + k) (one ++ two) ≡ one ++ take k two
    whole k = take-add (length one) k (one ++ two) ∙ (ap (λ (w : Paths). w ++ take k (drop (length one) (one ++ two))) (take_at one two (length one) refl) ∙ ap (λ (w : Paths). one ++ take k w) (drop_at one two (length one) refl))

-- ---- in the order of a build

module _ (shelf : Option Files) (config : Config) (start : Files) (current : Current) where
  pub asked-none : (old : Option Paths) → AsksInOrder shelf config start current old old
  asked-none old = record { counts = []; number = 0; asked = asks-none old; counted = λ all told sound more. absurd (omega (arith, more)) }

  -- the new inputs are scanned, or some of them
  pub asked-scan : (old new : Option Paths) → AsksFront (new_paths config current) old new → AsksInOrder shelf config start current old new
  asked-scan old new front =
      let it = front-more (new_paths config current) (paths_left config.inputs [] (inserted_by current)) old new front in
      record { counts = []; number = it.0; asked = it.2; counted = λ all told sound more. absurd (omega (arith, more, it.1)) }

  -- then those of which records are left are read, or some of them
  pub asked-read : (plan : Plan) → IsPlan config current plan → ((all : Files) → shelf ≡ Some all → IsSound all start → HasCounts all config current plan.counts) → (old mid new : Option Paths) → AsksFor (new_paths config current) old mid → AsksFront (paths_left plan.kept.inputs plan.counts plan.inserted) mid new → AsksInOrder shelf config start current old new
  asked-read plan is counted old mid new scanned read =
      let same : paths_left plan.kept.inputs plan.counts plan.inserted ≡ paths_left config.inputs plan.counts (inserted_by current) =
      ap (λ (w : List Input). paths_left w plan.counts plan.inserted) is.kept_is.inputs_is ∙ ap (λ (n : ℕ). paths_left config.inputs plan.counts n) is.inserted_is in
      let it = front-then (new_paths config current) (paths_left config.inputs plan.counts (inserted_by current)) old mid new scanned (subst (λ (w : Paths). AsksFront w mid new) same read) in
      record { counts = plan.counts; number = it.0; asked = it.1; counted = λ all told sound more. counted all told sound }
