-- Words that are no command.
use Rattle.std.proofs.Common.{◌≡◌, ◌≢◌, ◌⊎◌, ⊎_elim, ℕ, ◌≤◌, ◌<◌, List, [], ◌∷◌, ap, get_or, refl, sym, ◌∙◌, subst, arith}
use Rattle.std.specs.Prelude.{String, codes, decimal, string_bytes, length}
use Rattle.std.specs.declared.alloc.Global.{Global}
use Rattle.std.proofs.lemmas.Fmt.{decimal_injective}
use Rattle.std.proofs.lemmas.List.{length-map}
use Rattle.ept_command.specs.Words.{bytes_of, IsOctantsText, NoMerge, IsMerge, IsTrial, IsUsage}

-- there is no merge if the first word is another one
pub no_merge : (words : List (List ℕ)) → NoMerge words → (config out parts : List ℕ) → ¬ IsMerge words config out parts
no_merge words none config out parts is = none (config ∷ out ∷ is.texts) is.words_are

-- words whose number is not that of any command
pub no_command : (words : List (String Global)) → NoMerge (bytes_of words) → length words ≢ 2 → length words ≢ 3 → length words ≢ 4 → length words ≢ 7 → IsUsage (bytes_of words)
no_command words none two three four seven =
    let size : length (bytes_of words) ≡ length words = length-map words string_bytes in
    record {
      not_build = λ config out is. three (sym size ∙ ap (λ (ws : List (List ℕ)). length ws) is.words_are);
      not_part = λ config out octants is. four (sym size ∙ ap (λ (ws : List (List ℕ)). length ws) is.words_are);
      not_merge = no_merge (bytes_of words) none;
      not_info = λ las is. two (sym size ∙ ap (λ (ws : List (List ℕ)). length ws) is.words_are);
      not_query = λ out area first last is. four (sym size ∙ ap (λ (ws : List (List ℕ)). length ws) is.words_are);
      not_select = λ out area first last sift is. seven (sym size ∙ ap (λ (ws : List (List ℕ)). length ws) is.words_are);
      not_check = λ out is. two (sym size ∙ ap (λ (ws : List (List ℕ)). length ws) is.words_are);
      not_trial = λ count workers cache is. four (sym size ∙ ap (λ (ws : List (List ℕ)). length ws) is.words_are);
    }

-- words of a part of which the last lists no octants
pub part_refused : (path folder text : List ℕ) → ((octants : ℕ) → ¬ IsOctantsText text octants) → IsUsage (codes "part" ∷ path ∷ folder ∷ text ∷ [])
part_refused path folder text none = record {
  not_build = λ config out is. other (codes "build" ∷ config ∷ out ∷ []) 98 refl (omega arith) is.words_are;
  not_part = λ config out octants is. none octants (subst (λ (t : List ℕ). IsOctantsText t octants) (sym (last config out is.text is.words_are)) is.octants_are);
  not_merge = λ config out parts is. other (codes "merge" ∷ config ∷ out ∷ is.texts) 109 refl (omega arith) is.words_are;
  not_info = λ las is. other (codes "info" ∷ las ∷ []) 105 refl (omega arith) is.words_are;
  not_query = λ out area first last is. other (codes "query" ∷ out ∷ is.box ∷ is.depths ∷ []) 113 refl (omega arith) is.words_are;
  not_select = λ out area first last sift is. other (codes "select" ∷ out ∷ is.box ∷ is.depths ∷ is.classes ∷ is.time ∷ is.dims ∷ []) 115 refl (omega arith) is.words_are;
  not_check = λ out is. other (codes "check" ∷ out ∷ []) 99 refl (omega arith) is.words_are;
  not_trial = λ count workers cache is. other (codes "trial" ∷ decimal count ∷ decimal workers ∷ decimal cache ∷ []) 116 refl (omega arith) is.words_are;
}
  where
    other : (words : List (List ℕ)) (letter : ℕ) → get_or (get_or words 0 []) 0 0 ≡ letter → letter ≢ 112 → codes "part" ∷ path ∷ folder ∷ text ∷ [] ≡ words → ⊥
    other words letter starts apart same = apart (sym starts ∙ sym (ap (λ (ws : List (List ℕ)). get_or (get_or ws 0 []) 0 0) same))

    last : (config out word : List ℕ) → codes "part" ∷ path ∷ folder ∷ text ∷ [] ≡ codes "part" ∷ config ∷ out ∷ word ∷ [] → text ≡ word
    last config out word same = cc

-- words of a trial that are read as numbers out of their range
pub numbers_refused : (points workers cache : List ℕ) (w k : ℕ) → workers ≡ decimal w → w ≤ 64 → cache ≡ decimal k → k ≤ 65536 → (w < 1) ⊎ (k < w)
    → IsUsage (codes "trial" ∷ points ∷ workers ∷ cache ∷ [])
numbers_refused points workers cache w k workers_are few cache_is bounded wrong = record {
  not_build = λ config out is. not_build config out is.words_are;
  not_part = λ config out octants is. not_part config out is.text is.words_are;
  not_merge = λ config out parts is. not_merge config out is.texts is.words_are;
  not_info = λ las is. not_info las is.words_are;
  not_query = λ out area first last is. not_query out is.box is.depths is.words_are;
  not_select = λ out area first last sift is. not_select out is.box is.depths is.classes is.time is.dims is.words_are;
  not_check = λ out is. not_check out is.words_are;
  not_trial = λ count found kept is. ranges found kept is (decimal_injective w found (omega (arith, few)) (omega (arith, is.threads)) (sym workers_are ∙ (parts count found kept is.words_are).0)) (decimal_injective k kept (omega (arith, bounded)) (omega (arith, is.bounded)) (sym cache_is ∙ (parts count found kept is.words_are).1));
}
  where
    not_build : (config out : List ℕ) → codes "trial" ∷ points ∷ workers ∷ cache ∷ [] ≡ codes "build" ∷ config ∷ out ∷ [] → ⊥
    not_build config out same = cc

    not_part : (config out text : List ℕ) → codes "trial" ∷ points ∷ workers ∷ cache ∷ [] ≡ codes "part" ∷ config ∷ out ∷ text ∷ [] → ⊥
    not_part config out text same =
        let heads : 116 ≡ 112 = ap (λ (ws : List (List ℕ)). get_or (get_or ws 0 []) 0 0) same in
        omega (arith, heads)

    not_merge : (config out : List ℕ) (texts : List (List ℕ)) → codes "trial" ∷ points ∷ workers ∷ cache ∷ [] ≡ codes "merge" ∷ config ∷ out ∷ texts → ⊥
    not_merge config out texts same =
        let heads : 116 ≡ 109 = ap (λ (ws : List (List ℕ)). get_or (get_or ws 0 []) 0 0) same in
        omega (arith, heads)

    not_info : (las : List ℕ) → codes "trial" ∷ points ∷ workers ∷ cache ∷ [] ≡ codes "info" ∷ las ∷ [] → ⊥
    not_info las same = cc

    not_query : (out box depths : List ℕ) → codes "trial" ∷ points ∷ workers ∷ cache ∷ [] ≡ codes "query" ∷ out ∷ box ∷ depths ∷ [] → ⊥
    not_query out box depths same =
        let heads : 116 ≡ 113 = ap (λ (ws : List (List ℕ)). get_or (get_or ws 0 []) 0 0) same in
        omega (arith, heads)

    not_select : (out box depths classes time dims : List ℕ) → codes "trial" ∷ points ∷ workers ∷ cache ∷ [] ≡ codes "select" ∷ out ∷ box ∷ depths ∷ classes ∷ time ∷ dims ∷ [] → ⊥
    not_select out box depths classes time dims same =
        let heads : 116 ≡ 115 = ap (λ (ws : List (List ℕ)). get_or (get_or ws 0 []) 0 0) same in
        omega (arith, heads)

    not_check : (out : List ℕ) → codes "trial" ∷ points ∷ workers ∷ cache ∷ [] ≡ codes "check" ∷ out ∷ [] → ⊥
    not_check out same =
        let heads : 116 ≡ 99 = ap (λ (ws : List (List ℕ)). get_or (get_or ws 0 []) 0 0) same in
        omega (arith, heads)

    parts : (count found kept : ℕ) → codes "trial" ∷ points ∷ workers ∷ cache ∷ [] ≡ codes "trial" ∷ decimal count ∷ decimal found ∷ decimal kept ∷ [] → (workers ≡ decimal found) × (cache ≡ decimal kept)
    parts count found kept same = (cc, cc)

    ranges : {count : ℕ} (found kept : ℕ) → IsTrial (codes "trial" ∷ points ∷ workers ∷ cache ∷ []) count found kept → w ≡ found → k ≡ kept → ⊥
    ranges found kept is same_w same_k = ⊎_elim (λ none. omega (arith, none, same_w, is.some)) (λ less. omega (arith, less, same_w, same_k, is.room)) wrong
