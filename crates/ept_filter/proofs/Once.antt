-- Three texts ask for at most one selection.
use Rattle.std.proofs.Common.{◌≡◌, ◌≢◌, ℕ, ◌<◌, List, [], ◌∷◌, length, map, get_or, Option, Some, None, eqb, decimal, refl, sym, ap, subst, ◌∙◌, arith, inl, inr, length-take-le}
use Rattle.std.specs.Prelude.{codes}
use Rattle.std.specs.List.{AllByRecursion, list_any}
use Rattle.std.proofs.lemmas.Bool.{cases_lt}
use Rattle.std.proofs.lemmas.Fmt.{decimal_injective, decimal_is_IsNumeral}
use Rattle.std.proofs.lemmas.Grind.{same_number_lists}
use Rattle.std.proofs.lemmas.List.{length-map, get_or-map, get_or-take}
use Rattle.std.proofs.lemmas.Str.Parse.{digit_at}
use Rattle.hex.specs.Hex.{lower_digits, decode_of}
use Rattle.hex.proofs.HexLemmas.{length-encode_with, decode_of-encode_lower, decode_of-same}
use denote.Struct.Record.{values_one}
use Rattle.ept_class.specs.declared.class_set.ClassSet.{ClassSet}
use Rattle.ept_class.specs.Laws.{MembersMakeTheSet}
use Rattle.ept_filter.specs.contracts.dims.Dims.{struct, the_propositions}
use Rattle.ept_filter.specs.declared.dims.Dims.{Dims}
use Rattle.ept_filter.specs.Words.{words}
use Rattle.ept_filter.specs.Dims.{name_of}
use Rattle.ept_filter.specs.Asked.{asked_rows}
use Rattle.ept_filter.specs.SiftText.{IsClassesText, IsTimeText, IsDimsText, IsDimList}
use Rattle.ept_filter.specs.Laws.{TextsHaveOneSift}
use Rattle.ept_filter.proofs.RowNames.{one-name, no-dash}

-- ---- a dash is no word

pub dash-words : words (codes "-") ≡ codes "-" ∷ []
unfolding words
dash-words = refl

pub no-dash-class : (n : ℕ) → n < 256 → decimal n ≢ codes "-"
no-dash-class n small e =
    let numeral = (decimal_is_IsNumeral n (omega arith)).0.1 in
    let some : 0 < length (decimal n) = omega (arith, ap length e) in
    let digit = digit_at (decimal n) 0 numeral some in
    omega (arith, digit.0, ap (λ (w : List ℕ). get_or w 0 0) e)

dash-classes : (classes : List ℕ) → codes "-" ∷ [] ≡ map decimal classes → AllByRecursion (λ class. class < 256) classes → ⊥
dash-classes [] e small = cc
dash-classes (n ∷ classes) e small = let first : decimal n ≡ codes "-" = cc in no-dash-class n small.0 first

-- ---- classes

pub same-classes : (a b : List ℕ) → map decimal a ≡ map decimal b → AllByRecursion (λ class. class < 256) a → AllByRecursion (λ class. class < 256) b → a ≡ b
same-classes [] [] e small_a small_b = refl
same-classes [] (n ∷ b) e small_a small_b = absurd cc
same-classes (m ∷ a) [] e small_a small_b = absurd cc
same-classes (m ∷ a) (n ∷ b) e small_a small_b =
    let head : decimal m ≡ decimal n = cc in
    let tail : map decimal a ≡ map decimal b = cc in
    let first = decimal_injective m n (omega (arith, small_a.0)) (omega (arith, small_b.0)) head in
    let later = same-classes a b tail small_a.1 small_b.1 in
    ap (λ (k : ℕ). k ∷ a) first ∙ ap (λ (ks : List ℕ). n ∷ ks) later

pub one-classes : MembersMakeTheSet → (text : List ℕ) (a b : Option ClassSet) → IsClassesText text a → IsClassesText text b → a ≡ b
one-classes once text None None is_a is_b = refl
one-classes once text None (Some b) is_a (list, is, members) =
    absurd (dash-classes list (sym dash-words ∙ ap words (sym is_a) ∙ is.spelled) is.bytes)
one-classes once text (Some a) None (list, is, members) is_b =
    absurd (dash-classes list (sym dash-words ∙ ap words (sym is_b) ∙ is.spelled) is.bytes)
one-classes once text (Some a) (Some b) (list_a, is_a, members_a) (list_b, is_b, members_b) =
    let same = same-classes list_a list_b (sym is_a.spelled ∙ is_b.spelled) is_a.bytes is_b.bytes in
    ap (λ (set : ClassSet). Some set) (once a b (λ class. members_a class ∙ ap (λ (list : List ℕ). list_any (λ member. eqb class member) list) same ∙ sym (members_b class)))

-- ---- the time

pub one-time : (text : List ℕ) (a b : Option (List ℕ)) → IsTimeText text a → IsTimeText text b → a ≡ b
one-time text None None is_a is_b = refl
one-time text None (Some b) is_a is_b = absurd (omega (arith, ap length is_a, ap length is_b.spelled, length-encode_with lower_digits b, is_b.len))
one-time text (Some a) None is_a is_b = absurd (omega (arith, ap length is_b, ap length is_a.spelled, length-encode_with lower_digits a, is_a.len))
one-time text (Some a) (Some b) is_a is_b =
    ap (λ (time : List ℕ). Some time) (decode_of-same text a b (ap decode_of is_a.spelled ∙ decode_of-encode_lower a is_a.bytes) (ap decode_of is_b.spelled ∙ decode_of-encode_lower b is_b.bytes))

-- ---- dimensions

dash-dims : (dims : List ℕ) → IsDimList (codes "-") dims → ⊥
dash-dims dims is =
    let names : map name_of dims ≡ codes "-" ∷ [] = sym is.spelled ∙ dash-words in
    let long : 0 < length dims = omega (arith, ap length names, length-map dims name_of) in
    no-dash (get_or dims 0 0) (is.inside 0 long) (sym (get_or-map name_of dims 0 0 [] long) ∙ ap (λ (ws : List (List ℕ)). get_or ws 0 []) names)

pub one-dims : (text a b : List ℕ) → IsDimsText text a → IsDimsText text b → a ≡ b
one-dims text a b (inl is_a) (inl is_b) = is_a.1 ∙ sym is_b.1
one-dims text a b (inl is_a) (inr is_b) = absurd (dash-dims b (subst (λ (w : List ℕ). IsDimList w b) is_a.0 is_b))
one-dims text a b (inr is_a) (inl is_b) = absurd (dash-dims a (subst (λ (w : List ℕ). IsDimList w a) is_b.0 is_a))
one-dims text a b (inr is_a) (inr is_b) =
    let names : map name_of a ≡ map name_of b = sym is_a.spelled ∙ is_b.spelled in
    let long : length a ≡ length b = sym (length-map a name_of) ∙ ap length names ∙ length-map b name_of in
    same_number_lists a b long (λ k inside.
    let there : k < length b = omega (arith, long) in
    one-name _ _ (is_a.inside k inside) (is_b.inside k there)
    (sym (get_or-map name_of a k 0 [] inside) ∙ ap (λ (ws : List (List ℕ)). get_or ws k []) names ∙ get_or-map name_of b k 0 [] there))

pub same-dims : (a b : Dims) → asked_rows a ≡ asked_rows b → a ≡ b
same-dims a b same =
    let long_a = length-take-le a.len a.rows (omega (arith, a.dims.array, a.dims.most)) in
    let long_b = length-take-le b.len b.rows (omega (arith, b.dims.array, b.dims.most)) in
    let len : a.len ≡ b.len = sym long_a ∙ ap length same ∙ long_b in
    let rows : a.rows ≡ b.rows = same_number_lists a.rows b.rows (a.dims.array ∙ sym b.dims.array) (λ k inside. elim (cases_lt k a.len) [
      | inl less ↦ sym (get_or-take a.len a.rows k 0 less) ∙ ap (λ (w : List ℕ). get_or w k 0) same ∙ get_or-take b.len b.rows k 0 (omega (arith, len))
      | inr more ↦ a.dims.others k more ∙ sym (b.dims.others k (omega (arith, len)))
    ]) in
    values_one struct the_propositions a b (λ i. (rows i, (len i, tt)))

pub texts_have_one_sift : MembersMakeTheSet → TextsHaveOneSift
texts_have_one_sift once classes time dims a b is_a is_b =
    let same_classes = one-classes once classes a.classes b.classes is_a.classes_are is_b.classes_are in
    let same_time = one-time time a.time b.time is_a.time_is is_b.time_is in
    let same_dims = same-dims a.dims b.dims (one-dims dims (asked_rows a.dims) (asked_rows b.dims) is_a.dims_are is_b.dims_are) in
    λ i. record { classes = same_classes i; time = same_time i; dims = same_dims i }
