-- The texts of a selection have no ampersand.
use Rattle.std.proofs.Common.{◌≡◌, ◌≢◌, ℕ, zero, suc, ◌/◌, ◌%◌, ◌<◌, List, [], ◌∷◌, ◌++◌, length, get_or, map, Option, Some, None, true, ltb, decimal, sym, ap, subst, ◌∙◌, arith, lit<, refl}
use Rattle.std.specs.List.{AllByRecursion, list_all, join_with_byte}
use Rattle.std.proofs.lemmas.Bool.Decides.{nat_tests}
use Rattle.std.proofs.lemmas.List.Splits.{join_with_byte-slice_split}
use Rattle.hex.specs.Hex.{lower_digits, encode_with}
use Rattle.ept_class.specs.declared.class_set.ClassSet.{ClassSet}
use Rattle.ept_filter.specs.Words.{words}
use Rattle.ept_filter.specs.SiftText.{IsClassList, IsClassesText, IsTimeText}
use Rattle.ept_http.proofs.Numbers.{digits-lack}
use Rattle.ept_http.proofs.TargetLemmas.{lacks-append}

-- ---- classes

joined-lack : (numbers : List ℕ) → AllByRecursion (λ n. n < 256) numbers → AllByRecursion (λ b. b ≢ 38) (join_with_byte 44 (map decimal numbers))
joined-lack [] small = small
joined-lack (n ∷ []) small = digits-lack 38 n (lit< tt) (omega (arith, small.0))
joined-lack (n ∷ m ∷ numbers) small =
    lacks-append 38 (decimal n) (44 ∷ join_with_byte 44 (map decimal (m ∷ numbers))) (digits-lack 38 n (lit< tt) (omega (arith, small.0))) ((omega arith), joined-lack (m ∷ numbers) small.1)

list-lacks : (text classes : List ℕ) → IsClassList text classes → AllByRecursion (λ b. b ≢ 38) text
unfolding words
list-lacks text classes is =
    let joined : text ≡ join_with_byte 44 (map decimal classes) = sym (join_with_byte-slice_split 44 text) ∙ ap (join_with_byte 44) is.spelled in
    subst (AllByRecursion (λ b. b ≢ 38)) (sym joined) (joined-lack classes is.bytes)

dash-lacks : AllByRecursion (λ (b : ℕ). b ≢ 38) (45 ∷ [])
dash-lacks = ((omega arith), tt)

pub classes-lack : (text : List ℕ) (classes : Option ClassSet) → IsClassesText text classes → AllByRecursion (λ b. b ≢ 38) text
classes-lack text None is = subst (AllByRecursion (λ b. b ≢ 38)) (sym is) dash-lacks
classes-lack text (Some set) is = list-lacks text is.0 is.1

-- ---- the time

high-at : (table : List ℕ) (k : ℕ) → list_all (λ b. ltb 47 b) table ≡ true → k < length table → 47 < get_or table k 0
high-at [] k high inside = absurd (omega arith)
high-at (b ∷ table) zero high inside = grind (arith, nat_tests)
high-at (b ∷ table) (suc k) high inside =
    let later : list_all (λ x. ltb 47 x) table ≡ true = grind (arith, nat_tests) in
    high-at table k later (omega arith)

digit-lacks : (k : ℕ) → k < 16 → get_or lower_digits k 0 ≢ 38
digit-lacks k small = omega (arith, high-at lower_digits k refl small)

encoded-lacks : (time : List ℕ) → ((i : ℕ) → get_or time i 0 < 256) → AllByRecursion (λ b. b ≢ 38) (encode_with lower_digits time)
unfolding encode_with
encoded-lacks [] bytes = tt
encoded-lacks (b ∷ time) bytes =
    let byte : b < 256 = bytes 0 in
    (digit-lacks (b / 16) (omega (arith, byte)), (digit-lacks (b % 16) (omega arith), encoded-lacks time (λ i. bytes (suc i))))

pub time-lacks : (text : List ℕ) (time : Option (List ℕ)) → IsTimeText text time → AllByRecursion (λ b. b ≢ 38) text
time-lacks text None is = subst (AllByRecursion (λ b. b ≢ 38)) (sym is) dash-lacks
time-lacks text (Some time) is = subst (AllByRecursion (λ b. b ≢ 38)) (sym is.spelled) (encoded-lacks time is.bytes)
