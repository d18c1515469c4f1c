-- How what is left of a build ends: what its result says of devices and of damaged tiles, after the calls before it.
use Rattle.std.proofs.Common.{◌≡◌, ℕ, ◌+◌, ◌≤◌, List, subst, arith, Option}
use Rattle.std.specs.Prelude.{Result, Ok, Err}
use Rattle.ept_base.specs.Causes.{HasCauseOf, Rose}
use Rattle.ept_base.specs.Files.{Files}
use Rattle.ept_config.specs.declared.config.Config.{Config}
use Rattle.ept_config.specs.declared.input.Input.{Input}
use Rattle.ept_config.specs.declared.source_count.SourceCount.{SourceCount}
use Rattle.ept_scan.specs.Asking.{paths_left}
use Rattle.ept_save.specs.Current.{Current}
use Rattle.ept_save.specs.Loading.{HasNoDamage}
use Rattle.ept_build.specs.declared.summary.Summary.{Summary}
use Rattle.ept_build.specs.declared.error.BuildError.{BuildError}
use Rattle.ept_build.specs.Ends.{FindsDamage}
use Rattle.ept_build.proofs.Asking.{Paths, AsksFront}
use Rattle.ept_build.proofs.Damage.{damaged-line}

-- what succeeds is no refusal
pub no-refusal : {T : Type 0} {s : T} {e : BuildError} → (◌≡◌ {A = Result T BuildError} (Ok s) (Err e)) → ⊥
no-refusal same = cc

-- ---- the cause of a refusal

module _ {T : Type 0} {r : Result T BuildError} {error : BuildError} where
  -- it is refused for no such cause
  pub cause-none : (old new : ℕ) → old ≤ new → (r ≡ Err error → ⊥) → HasCauseOf error old new r
  cause-none old new later none = record { later = later; failed = λ is. absurd (none is) }

  -- the second call is refused
  pub cause-after : (old mid new : ℕ) → old ≤ mid → mid ≤ new → (r ≡ Err error → Rose mid new) → HasCauseOf error old new r
  cause-after old mid new before later rose = record { later = omega (arith, before, later); failed = λ is. omega (arith, before, rose is) }

  -- the third one is
  pub cause-last : (old mid late new : ℕ) → old ≤ mid → mid ≤ late → late ≤ new → (r ≡ Err error → Rose late new) → HasCauseOf error old new r
  cause-last old mid late new before between later rose = cause-after old late new (omega (arith, before, between)) later rose

-- ---- damaged tiles

-- none is found if no tile of the checkpoint is damaged
pub finds-none : {D : Type 0} (files : D → Option Files) (may_leave : D → Files → Type 0) (moment : D → ℕ) (image_since : D → ℕ → Files → Type 0) (config : Config) (current : Current) (start : Files) (answer : Result Summary BuildError) (old new : D) → HasNoDamage current start → FindsDamage files may_leave moment image_since config current start answer old new
finds-none files may_leave moment image_since config current start answer old new whole = record {
  first = λ key other damaged is. absurd (whole key (damaged-line current key start damaged) damaged);
  comes = λ key slot damaged. absurd (whole key (damaged-line current key start damaged) damaged);
}

-- ---- what the shelf is asked for

-- the paths that are left depend only on the number of records that are inserted
pub asks-alike : (inputs : List Input) (counts : List SourceCount) (one other : ℕ) (old new : Option Paths) → one ≡ other → AsksFront (paths_left inputs counts one) old new → AsksFront (paths_left inputs counts other) old new
asks-alike inputs counts one other old new same asked = subst (λ (k : ℕ). AsksFront (paths_left inputs counts k) old new) same asked

-- ---- what is kept in spill files

pub kept-after : {nodes count cache first kept also : ℕ} → nodes ≡ count → count ≤ cache + also → cache ≡ first → kept ≡ also → nodes ≤ first + kept
kept-after number few same alike = omega (arith, number, few, same, alike)
