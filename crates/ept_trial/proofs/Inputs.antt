-- The inputs of a trial: how each is read, and of which file.
use Rattle.std.proofs.Common.{◌≡◌, ◌∙◌, ℕ, pos, ◌-◌, ◌^◌, ◌<◌, List, Option, Some, None, refl, sym, ap, subst, arith}
use Rattle.std.specs.Prelude.{slice_get, IsSomeAnd, MatchOption}
use Rattle.std.proofs.lemmas.Option.{slice_get_within}
use Rattle.std.proofs.lemmas.Slice.Zip.{AllZip-right}
use Rattle.ept_base.specs.Files.{Files}
use Rattle.ept_space.specs.declared.bounds.Bounds.{Bounds}
use Rattle.ept_config.specs.declared.input.Input.{Input}
use Rattle.ept_scan.specs.declared.reading.Reading.{Reading}
use Rattle.ept_scan.specs.Scans.{IsInput}
use Rattle.ept_trial.specs.Trials.{trial_bounds}
use Rattle.ept_trial.specs.Scans.{paths, scan_bytes, HasScans}
use Rattle.ept_trial.specs.Settings.{IsTrialInput, AreTrialInputs}
use Rattle.ept_trial.proofs.Fields.{KeepsPlaces}

-- the file is that of an input, and is read so
pub record IsOf (count i : ℕ) (reading : Reading) (file : List ℕ) : Type 0 where
  pub few : i < 4
  pub file_is : file ≡ scan_bytes count i
  pub origin_is : reading.origin ≡ i
  pub keeps : KeepsPlaces reading.shift
  pub expect_is : reading.expect ≡ None
  pub limits_are : reading.limits ≡ Some trial_bounds

some-path : (i : ℕ) (input : Input) (o : Option (List ℕ)) → slice_get paths i ≡ o → IsSomeAnd o (λ path. IsTrialInput path input) → (path : List ℕ) × (slice_get paths i ≡ Some path) × IsTrialInput path input
some-path i input None is h = absurd h
some-path i input (Some path) is h = (path, is, h)

path-of : (inputs : List Input) → AreTrialInputs inputs → (i : ℕ) (input : Input) → slice_get inputs i ≡ Some input → (path : List ℕ) × (slice_get paths i ≡ Some path) × IsTrialInput path input
path-of inputs are i input is =
    some-path i input (slice_get paths i) refl
    (subst (λ (o : Option Input). MatchOption o (Unit {0}) (λ y. IsSomeAnd (slice_get paths i) (λ x. IsTrialInput x y))) is (AllZip-right IsTrialInput paths inputs are i))

same-bytes : (a b : List ℕ) → Some a ≡ Some b → a ≡ b
same-bytes a b is = cc

module _ (count : ℕ) (all : Files) (scans : HasScans count all) (scale : ℕ) (scale_is : scale ≡ 2) (limits : Option Bounds) (limits_are : limits ≡ Some trial_bounds) (inputs : List Input) (are : AreTrialInputs inputs) where
  pub input-is : (i : ℕ) (input : Input) (reading : Reading) (file : List ℕ) → IsInput all scale limits inputs i input reading → all input.path ≡ Some file → IsOf count i reading file
  input-is i input reading file is content =
      let at = path-of inputs are i input is.is in
      let r = is.reading_is in
      let own = at.2 in
      let own_scale = own.scale_is in
      let none : scale - input.scale ≡ 0 = omega (arith, scale_is, own_scale) in
      record {
        few = slice_get_within paths i at.0 at.1;
        file_is = same-bytes file (scan_bytes count i) (sym content ∙ ap all own.path_is ∙ scans i at.0 at.1);
        origin_is = r.origin_is;
        keeps = record { factor_is = r.factor_is ∙ ap (λ (k : ℕ). pos (10 ^ k)) none; by_is = r.shift_is ∙ own.shift_is };
        expect_is = r.expect_is ∙ own.expect_is;
        limits_are = r.limits_are ∙ limits_are;
      }
