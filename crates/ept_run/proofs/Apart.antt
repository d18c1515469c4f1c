-- The words of a selection, of a check, of a part, and of a merge, are those of no other command.
use Rattle.std.proofs.Common.{◌≡◌, inl, inr, ℕ, List, [], ◌∷◌, ap, get_or, arith}
use Rattle.std.specs.Prelude.{codes, decimal, ⊤}
use Rattle.ept_base.specs.Files.{Files}
use Rattle.ept_space.specs.declared.box3.Box3.{Box3}
use Rattle.ept_filter.specs.declared.sift.Sift.{Sift}
use Rattle.ept_command.specs.declared.refusal.Refusal.{Refusal}
use Rattle.ept_command.specs.Words.{IsBuild, IsPart, IsMerge, IsInfo, IsQuery, IsSelect, IsCheck, IsTrial, IsUsage}
use Rattle.ept_run.specs.Answers.{AsksPart, AsksMerge, AsksDataset, IsFaulty}
use Rattle.ept_run.proofs.Queried.{query_or_build, query_or_info}
use Rattle.ept_run.proofs.Tried.{trial_or_query}

-- the first byte of the words, by which the commands differ
abbrev letter : List (List ℕ) → ℕ
letter words = get_or (get_or words 0 []) 0 0

same_letter : (words other : List (List ℕ)) → words ≡ other → letter words ≡ letter other
same_letter words other same = ap (λ (ws : List (List ℕ)). get_or (get_or ws 0 []) 0 0) same

module _ (words : List (List ℕ)) where
  build_letter : (config out : List ℕ) → IsBuild words config out → letter words ≡ 98
  build_letter config out is = same_letter words (codes "build" ∷ config ∷ out ∷ []) is.words_are

  info_letter : (las : List ℕ) → IsInfo words las → letter words ≡ 105
  info_letter las is = same_letter words (codes "info" ∷ las ∷ []) is.words_are

  query_letter : (out : List ℕ) (area : Box3) (first last : ℕ) → IsQuery words out area first last → letter words ≡ 113
  query_letter out area first last is = same_letter words (codes "query" ∷ out ∷ is.box ∷ is.depths ∷ []) is.words_are

  trial_letter : (count workers cache : ℕ) → IsTrial words count workers cache → letter words ≡ 116
  trial_letter count workers cache is = same_letter words (codes "trial" ∷ decimal count ∷ decimal workers ∷ decimal cache ∷ []) is.words_are

  select_letter : (out : List ℕ) (area : Box3) (first last : ℕ) (sift : Sift) → IsSelect words out area first last sift → letter words ≡ 115
  select_letter out area first last sift is = same_letter words (codes "select" ∷ out ∷ is.box ∷ is.depths ∷ is.classes ∷ is.time ∷ is.dims ∷ []) is.words_are

  check_letter : (out : List ℕ) → IsCheck words out → letter words ≡ 99
  check_letter out is = same_letter words (codes "check" ∷ out ∷ []) is.words_are

  part_letter : (config out : List ℕ) (octants : ℕ) → IsPart words config out octants → letter words ≡ 112
  part_letter config out octants is = same_letter words (codes "part" ∷ config ∷ out ∷ is.text ∷ []) is.words_are

  module _ (path folder : List ℕ) (octants : ℕ) (is : IsPart words path folder octants) where
    pub part_or_build : (config out : List ℕ) → IsBuild words config out → ⊥
    part_or_build config out other = omega (arith, part_letter path folder octants is, build_letter config out other)

    pub part_or_info : (las : List ℕ) → IsInfo words las → ⊥
    part_or_info las other = omega (arith, part_letter path folder octants is, info_letter las other)

    pub part_or_query : (out : List ℕ) (box : Box3) (least most : ℕ) → IsQuery words out box least most → ⊥
    part_or_query out box least most other = omega (arith, part_letter path folder octants is, query_letter out box least most other)

    pub part_or_select : (out : List ℕ) (box : Box3) (least most : ℕ) (sift : Sift) → IsSelect words out box least most sift → ⊥
    part_or_select out box least most sift other = omega (arith, part_letter path folder octants is, select_letter out box least most sift other)

    pub part_or_check : (out : List ℕ) → IsCheck words out → ⊥
    part_or_check out other = omega (arith, part_letter path folder octants is, check_letter out other)

    pub part_or_trial : (count workers cache : ℕ) → IsTrial words count workers cache → ⊥
    part_or_trial count workers cache other = omega (arith, part_letter path folder octants is, trial_letter count workers cache other)

    pub part_asked : AsksPart words (λ _ _. ⊤)
    part_asked = record { path = path; out = folder; octants = octants; words_are = is; holds = tt }

    pub part_unrefused : (all : Files) (r : Refusal) → IsFaulty words all r → ⊥
    part_unrefused all r (inl usage) = usage.1.not_part path folder octants is
    part_unrefused all r (inr (inl asks)) = part_or_build asks.path asks.out asks.words_are
    part_unrefused all r (inr (inr asks)) = part_or_info asks.path asks.words_are

    pub part_or_dataset : AsksDataset words → ⊥
    part_or_dataset (inl asks) = part_or_query asks.folder asks.area asks.first asks.last asks.words_are
    part_or_dataset (inr (inl asks)) = part_or_select asks.folder asks.area asks.first asks.last asks.sift asks.words_are
    part_or_dataset (inr (inr asks)) = part_or_check asks.folder asks.words_are

  merge_letter : (config out parts : List ℕ) → IsMerge words config out parts → letter words ≡ 109
  merge_letter config out parts is = same_letter words (codes "merge" ∷ config ∷ out ∷ is.texts) is.words_are

  module _ (path folder parts : List ℕ) (is : IsMerge words path folder parts) where
    pub merge_or_build : (config out : List ℕ) → IsBuild words config out → ⊥
    merge_or_build config out other = omega (arith, merge_letter path folder parts is, build_letter config out other)

    pub merge_or_part : (config out : List ℕ) (octants : ℕ) → IsPart words config out octants → ⊥
    merge_or_part config out octants other = omega (arith, merge_letter path folder parts is, part_letter config out octants other)

    pub merge_or_info : (las : List ℕ) → IsInfo words las → ⊥
    merge_or_info las other = omega (arith, merge_letter path folder parts is, info_letter las other)

    pub merge_or_query : (out : List ℕ) (box : Box3) (least most : ℕ) → IsQuery words out box least most → ⊥
    merge_or_query out box least most other = omega (arith, merge_letter path folder parts is, query_letter out box least most other)

    pub merge_or_select : (out : List ℕ) (box : Box3) (least most : ℕ) (sift : Sift) → IsSelect words out box least most sift → ⊥
    merge_or_select out box least most sift other = omega (arith, merge_letter path folder parts is, select_letter out box least most sift other)

    pub merge_or_check : (out : List ℕ) → IsCheck words out → ⊥
    merge_or_check out other = omega (arith, merge_letter path folder parts is, check_letter out other)

    pub merge_or_trial : (count workers cache : ℕ) → IsTrial words count workers cache → ⊥
    merge_or_trial count workers cache other = omega (arith, merge_letter path folder parts is, trial_letter count workers cache other)

    pub merge_asked : AsksMerge words (λ _ _. ⊤)
    merge_asked = record { path = path; out = folder; parts = parts; words_are = is; holds = tt }

    pub merge_unrefused : (all : Files) (r : Refusal) → IsFaulty words all r → ⊥
    merge_unrefused all r (inl usage) = usage.1.not_merge path folder parts is
    merge_unrefused all r (inr (inl asks)) = merge_or_build asks.path asks.out asks.words_are
    merge_unrefused all r (inr (inr asks)) = merge_or_info asks.path asks.words_are

    pub merge_or_dataset : AsksDataset words → ⊥
    merge_or_dataset (inl asks) = merge_or_query asks.folder asks.area asks.first asks.last asks.words_are
    merge_or_dataset (inr (inl asks)) = merge_or_select asks.folder asks.area asks.first asks.last asks.sift asks.words_are
    merge_or_dataset (inr (inr asks)) = merge_or_check asks.folder asks.words_are

  module _ (folder : List ℕ) (area : Box3) (first last : ℕ) (sift : Sift) (is : IsSelect words folder area first last sift) where
    pub select_or_build : (config out : List ℕ) → IsBuild words config out → ⊥
    select_or_build config out other = omega (arith, select_letter folder area first last sift is, build_letter config out other)

    pub select_or_info : (las : List ℕ) → IsInfo words las → ⊥
    select_or_info las other = omega (arith, select_letter folder area first last sift is, info_letter las other)

    pub select_or_query : (out : List ℕ) (box : Box3) (least most : ℕ) → IsQuery words out box least most → ⊥
    select_or_query out box least most other = omega (arith, select_letter folder area first last sift is, query_letter out box least most other)

    pub select_or_trial : (count workers cache : ℕ) → IsTrial words count workers cache → ⊥
    select_or_trial count workers cache other = omega (arith, select_letter folder area first last sift is, trial_letter count workers cache other)

    pub select_asked : AsksDataset words
    select_asked = inr (inl (record { folder = folder; area = area; first = first; last = last; sift = sift; words_are = is }))

    pub select_unrefused : (all : Files) (r : Refusal) → IsFaulty words all r → ⊥
    select_unrefused all r (inl usage) = usage.1.not_select folder area first last sift is
    select_unrefused all r (inr (inl asks)) = select_or_build asks.path asks.out asks.words_are
    select_unrefused all r (inr (inr asks)) = select_or_info asks.path asks.words_are

  module _ (folder : List ℕ) (is : IsCheck words folder) where
    pub check_or_build : (config out : List ℕ) → IsBuild words config out → ⊥
    check_or_build config out other = omega (arith, check_letter folder is, build_letter config out other)

    pub check_or_info : (las : List ℕ) → IsInfo words las → ⊥
    check_or_info las other = omega (arith, check_letter folder is, info_letter las other)

    pub check_or_query : (out : List ℕ) (box : Box3) (least most : ℕ) → IsQuery words out box least most → ⊥
    check_or_query out box least most other = omega (arith, check_letter folder is, query_letter out box least most other)

    pub check_or_select : (out : List ℕ) (box : Box3) (least most : ℕ) (sift : Sift) → IsSelect words out box least most sift → ⊥
    check_or_select out box least most sift other = omega (arith, check_letter folder is, select_letter out box least most sift other)

    pub check_or_trial : (count workers cache : ℕ) → IsTrial words count workers cache → ⊥
    check_or_trial count workers cache other = omega (arith, check_letter folder is, trial_letter count workers cache other)

    pub check_asked : AsksDataset words
    check_asked = inr (inr (record { folder = folder; words_are = is }))

    pub check_unrefused : (all : Files) (r : Refusal) → IsFaulty words all r → ⊥
    check_unrefused all r (inl usage) = usage.1.not_check folder is
    check_unrefused all r (inr (inl asks)) = check_or_build asks.path asks.out asks.words_are
    check_unrefused all r (inr (inr asks)) = check_or_info asks.path asks.words_are

  -- ---- what is asked of a dataset is no other command

  pub dataset_or_build : AsksDataset words → (config out : List ℕ) → IsBuild words config out → ⊥
  dataset_or_build (inl asks) config out other = query_or_build words asks.folder asks.area asks.first asks.last asks.words_are config out other
  dataset_or_build (inr (inl asks)) config out other = select_or_build asks.folder asks.area asks.first asks.last asks.sift asks.words_are config out other
  dataset_or_build (inr (inr asks)) config out other = check_or_build asks.folder asks.words_are config out other

  pub dataset_or_info : AsksDataset words → (las : List ℕ) → IsInfo words las → ⊥
  dataset_or_info (inl asks) las other = query_or_info words asks.folder asks.area asks.first asks.last asks.words_are las other
  dataset_or_info (inr (inl asks)) las other = select_or_info asks.folder asks.area asks.first asks.last asks.sift asks.words_are las other
  dataset_or_info (inr (inr asks)) las other = check_or_info asks.folder asks.words_are las other

  pub dataset_or_trial : AsksDataset words → (count workers cache : ℕ) → IsTrial words count workers cache → ⊥
  dataset_or_trial (inl asks) count workers cache other = trial_or_query words count workers cache other asks.folder asks.area asks.first asks.last asks.words_are
  dataset_or_trial (inr (inl asks)) count workers cache other = select_or_trial asks.folder asks.area asks.first asks.last asks.sift asks.words_are count workers cache other
  dataset_or_trial (inr (inr asks)) count workers cache other = check_or_trial asks.folder asks.words_are count workers cache other

  pub dataset_or_usage : AsksDataset words → IsUsage words → ⊥
  dataset_or_usage (inl asks) usage = usage.not_query asks.folder asks.area asks.first asks.last asks.words_are
  dataset_or_usage (inr (inl asks)) usage = usage.not_select asks.folder asks.area asks.first asks.last asks.sift asks.words_are
  dataset_or_usage (inr (inr asks)) usage = usage.not_check asks.folder asks.words_are
