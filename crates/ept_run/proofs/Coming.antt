-- What the words ask for is done, unless a device fails or memory runs out.
use Rattle.std.proofs.Common.{◌≡◌, ◌⊎◌, inl, inr, ℕ, List, Option, None, Some, Ok, Err, refl, sym, subst}
use Rattle.std.specs.Prelude.{Result, length}
use Rattle.ept_base.specs.Files.{Files}
use Rattle.ept_point.specs.declared.point.Point.{Point}
use Rattle.ept_space.specs.declared.box3.Box3.{Box3}
use Rattle.ept_las.specs.declared.header.Header.{Header}
use Rattle.ept_config.specs.declared.kept.Kept.{Kept}
use Rattle.ept_save.specs.Complete.{IsComplete}
use Rattle.ept_query.specs.declared.query_error.QueryError.{QueryError}
use Rattle.ept_query.specs.declared.query_error.QueryError.TheVariants.{NotComplete, StoreFault, Damaged, SinkFault, Memory}
use Rattle.ept_query.specs.Complete.{IsDevices}
use Rattle.ept_filter.specs.declared.sift.Sift.{Sift}
use Rattle.ept_sample.specs.Nodes.{node_keys}
use Rattle.ept_meta.specs.Output.{rules_of}
use Rattle.ept_command.specs.Words.{IsBuild, IsPart, IsMerge, IsInfo, IsTrial, IsUsage}
use Rattle.ept_run.specs.Requests.{HasHeader, IsAcceptedAt, IsDoneAt, IsPartAcceptedAt, IsMergeReadyAt}
use Rattle.ept_run.specs.Answers.{Yields, AsksPart, AsksMerge, AsksInfo, AsksDataset, CanBeDone, a_build, a_part, a_merge, of_dataset, a_header, a_trial, EndsWell}
use Rattle.ept_run.specs.Queries.{query_status, GivesWhole, EndsSelection}
use Rattle.ept_run.specs.Checks.{EndsCheck}
use Rattle.ept_run.proofs.Apart.{merge_or_build, merge_or_part, merge_or_info, merge_or_trial, merge_or_dataset, part_or_build, part_or_info, part_or_trial, part_or_dataset, dataset_or_build, dataset_or_info, dataset_or_trial, dataset_or_usage}
use Rattle.ept_run.proofs.Asked.{of_build, build_or_info}
use Rattle.ept_run.proofs.Checked.{check_yields}
use Rattle.ept_run.proofs.Tried.{trial_or_build, trial_or_info}

-- a query of complete files, or a selection from them, succeeds, unless a device fails or memory runs out
whole_devices : (sift : Option Sift) (kept : Kept) (points : List Point) (area : Box3) (first last : ℕ) (old new : Option (List ℕ)) (error : QueryError)
    → GivesWhole sift kept points area first last old new (Err error) → IsDevices error
whole_devices None kept points area first last old new error whole = whole.1
whole_devices (Some sift) kept points area first last old new error whole = whole.1

devices_yield : (error : QueryError) → IsDevices error → Yields 0 (query_status (Err error))
devices_yield NotComplete of = absurd of
devices_yield StoreFault of = inr (inl refl)
devices_yield (Damaged file) of = absurd of
devices_yield SinkFault of = inr (inl refl)
devices_yield Memory of = inr (inr refl)

query_yields : (sift : Option Sift) (kept : Kept) (points : List Point) (area : Box3) (first last : ℕ) (old new : Option (List ℕ)) (answer : Result ℕ QueryError)
    → GivesWhole sift kept points area first last old new answer → Yields 0 (query_status answer)
query_yields sift kept points area first last old new (Ok count) whole = inl refl
query_yields sift kept points area first last old new (Err error) whole = devices_yield error (whole_devices sift kept points area first last old new error whole)

module _ (words : List (List ℕ)) (shelf store : Option Files) (Begins : Files → Files → Type 0) where
  -- words that are no command ask for nothing
  pub nothing_can : IsUsage words → CanBeDone words shelf store Begins → ⊥
  nothing_can usage (a_build all start begins asks) = usage.not_build asks.path asks.out asks.words_are
  nothing_can usage (a_part all told asks) = usage.not_part asks.path asks.out asks.octants asks.words_are
  nothing_can usage (a_merge all start begins asks) = usage.not_merge asks.path asks.out asks.parts asks.words_are
  nothing_can usage (of_dataset start kept points told complete asks) = dataset_or_usage words asks usage
  nothing_can usage (a_header all header told asks) = usage.not_info asks.path asks.words_are
  nothing_can usage (a_trial asks) = usage.not_trial asks.count asks.workers asks.cache asks.words_are

  module _ (status : ℕ) (failed : Type 0) (fault : status ≡ 7 → failed) where
    well : Yields 0 status → EndsWell status failed
    well (inl done) = inl done
    well (inr (inl device)) = inr (inr (device, fault device))
    well (inr (inr memory)) = inr (inl memory)

    pub build_can : (path out : List ℕ) → IsBuild words path out
        → ((all start : Files) → Begins all start → IsAcceptedAt all start path ⊎ IsDoneAt all start path → Yields 0 status)
        → CanBeDone words shelf store Begins → EndsWell status failed
    build_can path out is comes (a_build all start begins asks) = well (comes all start begins (of_build words path out is {P = λ p. IsAcceptedAt all start p ⊎ IsDoneAt all start p} asks))
    build_can path out is comes (a_part all told asks) = absurd (part_or_build words asks.path asks.out asks.octants asks.words_are path out is)
    build_can path out is comes (a_merge all start begins asks) = absurd (merge_or_build words asks.path asks.out asks.parts asks.words_are path out is)
    build_can path out is comes (of_dataset start kept points told complete asks) = absurd (dataset_or_build words asks path out is)
    build_can path out is comes (a_header all header told asks) = absurd (build_or_info words path out asks.path is asks.words_are)
    build_can path out is comes (a_trial asks) = absurd (trial_or_build words asks.count asks.workers asks.cache asks.words_are path out is)

    pub part_can : (path out : List ℕ) (octants : ℕ) → IsPart words path out octants
        → ((all : Files) → shelf ≡ Some all → AsksPart words (λ p o. IsPartAcceptedAt all p o) → Yields 0 status)
        → CanBeDone words shelf store Begins → EndsWell status failed
    part_can path out octants is comes (a_build all start begins asks) = absurd (part_or_build words path out octants is asks.path asks.out asks.words_are)
    part_can path out octants is comes (a_part all told asks) = well (comes all told asks)
    part_can path out octants is comes (a_merge all start begins asks) = absurd (merge_or_part words asks.path asks.out asks.parts asks.words_are path out octants is)
    part_can path out octants is comes (of_dataset start kept points told complete asks) = absurd (part_or_dataset words path out octants is asks)
    part_can path out octants is comes (a_header all header told asks) = absurd (part_or_info words path out octants is asks.path asks.words_are)
    part_can path out octants is comes (a_trial asks) = absurd (part_or_trial words path out octants is asks.count asks.workers asks.cache asks.words_are)

    pub merge_can : (path folder parts : List ℕ) → IsMerge words path folder parts
        → ((all start : Files) → Begins all start → AsksMerge words (λ p q. IsMergeReadyAt all start p q) → Yields 0 status)
        → CanBeDone words shelf store Begins → EndsWell status failed
    merge_can path folder parts is comes (a_build all start begins asks) = absurd (merge_or_build words path folder parts is asks.path asks.out asks.words_are)
    merge_can path folder parts is comes (a_part all told asks) = absurd (merge_or_part words path folder parts is asks.path asks.out asks.octants asks.words_are)
    merge_can path folder parts is comes (a_merge all start begins asks) = well (comes all start begins asks)
    merge_can path folder parts is comes (of_dataset start kept points told complete asks) = absurd (merge_or_dataset words path folder parts is asks)
    merge_can path folder parts is comes (a_header all header told asks) = absurd (merge_or_info words path folder parts is asks.path asks.words_are)
    merge_can path folder parts is comes (a_trial asks) = absurd (merge_or_trial words path folder parts is asks.count asks.workers asks.cache asks.words_are)

    pub info_can : (las : List ℕ) → IsInfo words las
        → ((all : Files) (header : Header) → shelf ≡ Some all → AsksInfo words (λ p. HasHeader all p header) → Yields 0 status)
        → CanBeDone words shelf store Begins → EndsWell status failed
    info_can las is comes (a_build all start begins asks) = absurd (build_or_info words asks.path asks.out las asks.words_are is)
    info_can las is comes (a_part all told asks) = absurd (part_or_info words asks.path asks.out asks.octants asks.words_are las is)
    info_can las is comes (a_merge all start begins asks) = absurd (merge_or_info words asks.path asks.out asks.parts asks.words_are las is)
    info_can las is comes (of_dataset start kept points told complete asks) = absurd (dataset_or_info words asks las is)
    info_can las is comes (a_header all header told asks) = well (comes all header told asks)
    info_can las is comes (a_trial asks) = absurd (trial_or_info words asks.count asks.workers asks.cache asks.words_are las is)

    -- what is asked of a dataset is done if that of complete files is
    pub dataset_can : AsksDataset words
        → ((kept : Kept) (points : List Point) (start : Files) → store ≡ Some start → IsComplete kept points start → Yields 0 status)
        → CanBeDone words shelf store Begins → EndsWell status failed
    dataset_can is comes (a_build all start begins asks) = absurd (dataset_or_build words is asks.path asks.out asks.words_are)
    dataset_can is comes (a_part all told asks) = absurd (part_or_dataset words asks.path asks.out asks.octants asks.words_are is)
    dataset_can is comes (a_merge all start begins asks) = absurd (merge_or_dataset words asks.path asks.out asks.parts asks.words_are is)
    dataset_can is comes (of_dataset start kept points told complete asks) = well (comes kept points start told complete)
    dataset_can is comes (a_header all header told asks) = absurd (dataset_or_info words is asks.path asks.words_are)
    dataset_can is comes (a_trial asks) = absurd (dataset_or_trial words is asks.count asks.workers asks.cache asks.words_are)

    pub query_can : (sift : Option Sift) (area : Box3) (first last : ℕ) (old new : Option (List ℕ)) (faulty cut : Type 0) → AsksDataset words → EndsSelection sift area first last status store old new faulty cut
        → CanBeDone words shelf store Begins → EndsWell status failed
    query_can sift area first last old new faulty cut is ends can =
        dataset_can is (λ kept points start told complete. subst (λ (n : ℕ). Yields 0 n) (sym ends.status_is) (query_yields sift kept points area first last old new ends.answer (ends.complete kept points start told complete))) can

    pub check_can : (old new : Option (List ℕ)) (faulty cut : Type 0) → AsksDataset words → EndsCheck status store old new faulty cut
        → CanBeDone words shelf store Begins → EndsWell status failed
    check_can old new faulty cut is ends can =
        dataset_can is (λ kept points start told complete. check_yields status old new cut (length points) (length (node_keys (rules_of kept) points)) ends.answer (ends.complete kept points start told complete) ends.says) can

    pub trial_can : (count workers cache : ℕ) → IsTrial words count workers cache → Yields 0 status
        → CanBeDone words shelf store Begins → EndsWell status failed
    trial_can count workers cache is comes (a_build all start begins asks) = absurd (trial_or_build words count workers cache is asks.path asks.out asks.words_are)
    trial_can count workers cache is comes (a_part all told asks) = absurd (part_or_trial words asks.path asks.out asks.octants asks.words_are count workers cache is)
    trial_can count workers cache is comes (a_merge all start begins asks) = absurd (merge_or_trial words asks.path asks.out asks.parts asks.words_are count workers cache is)
    trial_can count workers cache is comes (of_dataset start kept points told complete asks) = absurd (dataset_or_trial words asks count workers cache is)
    trial_can count workers cache is comes (a_header all header told asks) = absurd (trial_or_info words count workers cache is asks.path asks.words_are)
    trial_can count workers cache is comes (a_trial asks) = well comes
