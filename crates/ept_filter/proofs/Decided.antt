-- Whether three texts ask for a selection is decided: a word names one of finitely many things.
use Rattle.std.proofs.Common.{◌≡◌, ◌≢◌, ℕ, zero, suc, ◌-◌, ◌<◌, ◌≤◌, List, [], ◌∷◌, ◌++◌, length, map, get_or, replicate, Option, Some, None, Result, Ok, Err, Bool, true, false, eqb, decimal, refl, sym, ap, subst, ◌∙◌, arith, inl, inr, ◌⊎◌, length-append}
use Rattle.std.specs.Prelude.{codes}
use Rattle.std.specs.Bool.{Decides}
use Rattle.std.specs.List.{AllByRecursion, list_any}
use Rattle.std.specs.Str.{bytes_eq}
use Rattle.std.proofs.lemmas.Bool.{cases_eq, cases_lt, false≢true}
use Rattle.std.proofs.lemmas.Fmt.{decimal_injective}
use Rattle.std.proofs.lemmas.Grind.{same_number_lists}
use Rattle.std.proofs.lemmas.List.{length-map, length-replicate, get_or-map, get_or-replicate, get_or_past, get_or_append_left, get_or-append_right, take_at}
use Rattle.std.proofs.lemmas.Slice.Eq.{bytes_eq-Decides}
use Rattle.hex.specs.declared.error.FromHexError.{FromHexError}
use Rattle.hex.specs.Hex.{decode_sized, encode_lower}
use Rattle.hex.proofs.HexLemmas.{decode_of-ok, decode_sized-ok, decode_sized-twice, decode_sized-encode_lower}
use Rattle.ept_class.specs.declared.class_set.ClassSet.{ClassSet}
use Rattle.ept_class.specs.Laws.{ClassesHaveASet}
use Rattle.ept_filter.specs.declared.dims.Dims.{Dims}
use Rattle.ept_filter.specs.declared.sift.Sift.{Sift}
use Rattle.ept_filter.specs.Words.{words}
use Rattle.ept_filter.specs.Dims.{count_of_dims, all_dims, name_of}
use Rattle.ept_filter.specs.Asked.{asked_rows}
use Rattle.ept_filter.specs.SiftText.{AscendFrom, IsClassesText, IsTimeText, IsTimeDigits, IsDimsText, IsDimList, IsSiftText}
use Rattle.ept_filter.specs.Laws.{TextsAskOrNot}
use Rattle.ept_filter.proofs.Commas.{some-word}
use Rattle.ept_filter.proofs.Distinct.{few-distinct}
use Rattle.ept_filter.proofs.DimLists.{all-are_dims, any-at, none-at}
use Rattle.ept_filter.proofs.RowNames.{one-name}

abbrev pub Decided : Type 0 → Type 0
Decided P = P ⊎ (¬ P)

-- ---- a word is one of `n`

abbrev IsOneOf : (ℕ → List ℕ) → ℕ → List ℕ → Type 0
IsOneOf print n word = (k : ℕ) × (k < n) × (word ≡ print k)

one-of : (print : ℕ → List ℕ) (n : ℕ) (word : List ℕ) → Decided (IsOneOf print n word)
one-of print zero word = inr (λ h. absurd (omega (arith, h.1)))
one-of print (suc n) word = by (bytes_eq word (print n)) (bytes_eq-Decides word (print n)) (one-of print n word)
  where
    by : (test : Bool) → Decides test (word ≡ print n) → Decided (IsOneOf print n word) → Decided (IsOneOf print (suc n) word)
    by true d later = inl (n, omega arith, d.0 refl)
    by false d (inl found) = inl (found.0, omega (arith, found.1), found.2)
    by false d (inr none) = inr (λ h. elim (cases_eq h.0 n) [
      | inl same ↦ false≢true (d.1 (subst (λ (k : ℕ). word ≡ print k) same h.2))
      | inr other ↦ none (h.0, omega (arith, h.1), h.2)
    ])

-- ---- classes

abbrev HasClasses : List (List ℕ) → ℕ → Type 0
HasClasses ws least =
    (classes : List ℕ) × (ws ≡ map decimal classes) × AscendFrom least classes × AllByRecursion (λ class. class < 256) classes

-- the first of them
first-class : (word : List ℕ) (ws : List (List ℕ)) (least : ℕ) → HasClasses (word ∷ ws) least → (class : ℕ) × (word ≡ decimal class) × (least ≤ class) × (class < 256) × HasClasses ws (suc class)
first-class word ws least ([], e, ascend, small) = absurd cc
first-class word ws least (n ∷ classes, e, ascend, small) = (n, cc, ascend.0, small.0, (classes, cc, ascend.1, small.1))

has-classes : (ws : List (List ℕ)) (least : ℕ) → Decided (HasClasses ws least)
has-classes [] least = inl ([], refl, tt, tt)
has-classes (word ∷ ws) least = by (one-of decimal 256 word) (has-classes ws)
  where
    more : (class : ℕ) → class < 256 → word ≡ decimal class → Decided (HasClasses ws (suc class)) → (class < least) ⊎ (least ≤ class) → Decided (HasClasses (word ∷ ws) least)
    more class small e later (inl less) = inr (λ h.
        let first = first-class word ws least h in
        let same : first.0 ≡ class = decimal_injective first.0 class (omega (arith, first.3)) (omega arith) (sym first.1 ∙ e) in
        omega (arith, first.2))
    more class small e (inl later) (inr most) =
        inl (class ∷ later.0, ap (λ (w : List ℕ). w ∷ ws) e ∙ ap (λ (rest : List (List ℕ)). decimal class ∷ rest) later.1, (most, later.2), (small, later.3))
    more class small e (inr none) (inr most) = inr (λ h.
        let first = first-class word ws least h in
        let same : first.0 ≡ class = decimal_injective first.0 class (omega (arith, first.3)) (omega arith) (sym first.1 ∙ e) in
        none (subst (λ (k : ℕ). HasClasses ws (suc k)) same first.4))

    by : Decided (IsOneOf decimal 256 word) → ((n : ℕ) → Decided (HasClasses ws n)) → Decided (HasClasses (word ∷ ws) least)
    by (inl found) later = more found.0 found.1 found.2 (later (suc found.0)) (cases_lt found.0 least)
    by (inr none) later = inr (λ h. let first = first-class word ws least h in none (first.0, first.3, first.1))

abbrev pub SomeClasses : List ℕ → Type 0
SomeClasses text = (classes : Option ClassSet) × IsClassesText text classes

pub some-classes : ClassesHaveASet → (text : List ℕ) → Decided (SomeClasses text)
some-classes sets text = by (bytes_eq text (codes "-")) (bytes_eq-Decides text (codes "-")) (has-classes (words text) 0)
  where
    by : (dash : Bool) → Decides dash (text ≡ codes "-") → Decided (HasClasses (words text) 0) → Decided (SomeClasses text)
    by true d listed = inl (None, d.0 refl)
    by false d (inl listed) =
        let set = sets listed.0 listed.3 in
        inl (Some set.0, (listed.0, record { spelled = listed.1; ascend = listed.2; bytes = listed.3 }, set.1))
    by false d (inr none) = inr no
      where
        no : SomeClasses text → ⊥
        no (None, is) = false≢true (d.1 is)
        no (Some set, is) = none (is.0, is.1.spelled, is.1.ascend, is.1.bytes)

-- ---- the time

abbrev pub SomeTime : List ℕ → Type 0
SomeTime text = (time : Option (List ℕ)) × IsTimeText text time

is-decoded : (text time : List ℕ) → IsTimeDigits text time → decode_sized text 8 ≡ Ok time
is-decoded text time is = ap (λ (w : List ℕ). decode_sized w 8) is.spelled ∙ decode_sized-encode_lower time 8 is.len is.bytes

some-digits : (text : List ℕ) (decoded : Result (List ℕ) FromHexError) → decode_sized text 8 ≡ decoded → Decided ((time : List ℕ) × IsTimeDigits text time)
some-digits text (Err e) is = inr (λ h. let wrong = sym is ∙ is-decoded text h.0 h.1 in cc)
some-digits text (Ok bytes) is = by (bytes_eq text (encode_lower bytes)) (bytes_eq-Decides text (encode_lower bytes))
  where
    by : (same : Bool) → Decides same (text ≡ encode_lower bytes) → Decided ((time : List ℕ) × IsTimeDigits text time)
    by true d =
        let long = decode_sized-ok text 8 bytes is in
        let read = decode_of-ok text bytes (sym (decode_sized-twice text 8 long) ∙ is) in
        inl (bytes, record { spelled = d.0 refl; len = omega (arith, long, read.2); bytes = read.3 })
    by false d = inr (λ h.
        let both = sym is ∙ is-decoded text h.0 h.1 in
        let same : bytes ≡ h.0 = cc in
        false≢true (d.1 (h.1.spelled ∙ ap encode_lower (sym same))))

pub some-time : (text : List ℕ) → Decided (SomeTime text)
some-time text = by (bytes_eq text (codes "-")) (bytes_eq-Decides text (codes "-")) (some-digits text (decode_sized text 8) refl)
  where
    by : (dash : Bool) → Decides dash (text ≡ codes "-") → Decided ((time : List ℕ) × IsTimeDigits text time) → Decided (SomeTime text)
    by true d digits = inl (None, d.0 refl)
    by false d (inl digits) = inl (Some digits.0, digits.1)
    by false d (inr none) = inr no
      where
        no : SomeTime text → ⊥
        no (None, is) = false≢true (d.1 is)
        no (Some time, is) = none (time, is)

-- ---- dimensions

abbrev HasNames : List (List ℕ) → Type 0
HasNames ws = (dims : List ℕ) × (ws ≡ map name_of dims) × AllByRecursion (λ dim. dim < count_of_dims) dims

first-name : (word : List ℕ) (ws : List (List ℕ)) → HasNames (word ∷ ws) → IsOneOf name_of count_of_dims word × HasNames ws
first-name word ws ([], e, small) = absurd cc
first-name word ws (dim ∷ dims, e, small) = ((dim, small.0, cc), (dims, cc, small.1))

has-names : (ws : List (List ℕ)) → Decided (HasNames ws)
has-names [] = inl ([], refl, tt)
has-names (word ∷ ws) = by (one-of name_of count_of_dims word) (has-names ws)
  where
    by : Decided (IsOneOf name_of count_of_dims word) → Decided (HasNames ws) → Decided (HasNames (word ∷ ws))
    by (inl found) (inl later) =
        inl (found.0 ∷ later.0, ap (λ (w : List ℕ). w ∷ ws) found.2 ∙ ap (λ (rest : List (List ℕ)). name_of found.0 ∷ rest) later.1, (found.1, later.2))
    by (inl found) (inr none) = inr (λ h. none (first-name word ws h).1)
    by (inr none) later = inr (λ h. none (first-name word ws h).0)

abbrev Differ : List ℕ → Type 0
Differ xs = (i k : ℕ) → i < k → k < length xs → get_or xs i 0 ≢ get_or xs k 0

differ : (xs : List ℕ) → Decided (Differ xs)
differ [] = inl (λ i k less inside. absurd (omega arith))
differ (x ∷ xs) = by (list_any (λ y. eqb y x) xs) refl (differ xs)
  where
    no-head : list_any (λ y. eqb y x) xs ≡ false → Differ xs → Differ (x ∷ xs)
    no-head e d zero zero less inside is = absurd (omega arith)
    no-head e d zero (suc k) less inside is = none-at x xs e k (omega arith) (sym is)
    no-head e d (suc i) zero less inside is = absurd (omega arith)
    no-head e d (suc i) (suc k) less inside is = d i k (omega arith) (omega arith) is

    by : (test : Bool) → list_any (λ y. eqb y x) xs ≡ test → Decided (Differ xs) → Decided (Differ (x ∷ xs))
    by true e later = inr (λ d. let found = any-at x xs e in d 0 (suc found.0) (omega arith) (omega (arith, found.1)) (sym found.2))
    by false e (inl d) = inl (no-head e d)
    by false e (inr none) = inr (λ d. none (λ i k less inside. d (suc i) (suc k) (omega arith) (omega arith)))

all-at : (xs : List ℕ) → AllByRecursion (λ dim. dim < count_of_dims) xs → (i : ℕ) → i < length xs → get_or xs i 0 < count_of_dims
all-at [] small i inside = absurd (omega arith)
all-at (x ∷ xs) small zero inside = small.0
all-at (x ∷ xs) small (suc i) inside = all-at xs small.1 i (omega arith)

same-rows : (a b : List ℕ) → map name_of a ≡ map name_of b → ((i : ℕ) → i < length a → get_or a i 0 < count_of_dims) → ((i : ℕ) → i < length b → get_or b i 0 < count_of_dims) → a ≡ b
same-rows a b names inside_a inside_b =
    let long : length a ≡ length b = sym (length-map a name_of) ∙ ap length names ∙ length-map b name_of in
    same_number_lists a b long (λ k inside.
    let there : k < length b = omega (arith, long) in
    one-name _ _ (inside_a k inside) (inside_b k there)
    (sym (get_or-map name_of a k 0 [] inside) ∙ ap (λ (ws : List (List ℕ)). get_or ws k []) names ∙ get_or-map name_of b k 0 [] there))

-- the zeros after the dimensions
abbrev zeros : ℕ → List ℕ
zeros m = replicate m 0

length-zeros : (m : ℕ) → length (zeros m) ≡ m
length-zeros m = length-replicate {A = ℕ} m 0

zero-at : (m i : ℕ) → get_or (zeros m) i 0 ≡ 0
zero-at m i = elim (cases_lt i m) [
  | inl less ↦ get_or-replicate {A = ℕ} m i 0 0 less
  | inr more ↦ get_or_past (zeros m) i 0 (omega (arith, length-zeros m))
]

made : (dims : List ℕ) → 1 ≤ length dims → ((i : ℕ) → i < length dims → get_or dims i 0 < count_of_dims) → Differ dims → (d : Dims) × (asked_rows d ≡ dims)
made dims some inside d =
    let most = few-distinct count_of_dims dims inside d in
    let left = count_of_dims - length dims in
    let rows = dims ++ zeros left in (
      record {
        rows = rows;
        len = length dims;
        dims = record {
          array = length-append dims (zeros left) ∙ omega (arith, length-zeros left);
          some = some;
          most = most;
          inside = λ i less. omega (arith, get_or_append_left dims (zeros left) 0 i less, inside i less);
          differ = λ i k less top e. d i k less top (sym (get_or_append_left dims (zeros left) 0 i (omega arith)) ∙ e ∙ get_or_append_left dims (zeros left) 0 k top);
          others = λ i least. get_or-append_right dims (zeros left) (length dims) i 0 refl least ∙ zero-at left (i - length dims);
        };
      },
      take_at dims (zeros left) (length dims) refl,
    )

abbrev pub SomeDims : List ℕ → Type 0
SomeDims text = (dims : Dims) × IsDimsText text (asked_rows dims)

all-made : (d : Dims) × (asked_rows d ≡ all_dims)
all-made = (record { rows = all_dims; len = count_of_dims; dims = all-are_dims }, refl)

pub some-dims : (text : List ℕ) → Decided (SomeDims text)
some-dims text = by (bytes_eq text (codes "-")) (bytes_eq-Decides text (codes "-")) (has-names (words text))
  where
    named : (names : HasNames (words text)) → Decides false (text ≡ codes "-") → Decided (Differ names.0) → Decided (SomeDims text)
    named names dash (inl d) =
        let some : 1 ≤ length names.0 = omega (arith, some-word text, ap length names.1, length-map names.0 name_of) in
        let one = made names.0 some (all-at names.0 names.2) d in
        inl (one.0, inr (subst (IsDimList text) (sym one.1) record { spelled = names.1; inside = all-at names.0 names.2; differ = d }))
    named names dash (inr none) = inr (λ h. elim h.1 [
      | inl is ↦ false≢true (dash.1 is.0)
      | inr is ↦
          let same = same-rows (asked_rows h.0) names.0 (sym is.spelled ∙ names.1) is.inside (all-at names.0 names.2) in
          none (subst Differ same is.differ)
    ])

    of-list : (dims : List ℕ) → ((i : ℕ) → i < length dims → get_or dims i 0 < count_of_dims) → AllByRecursion (λ dim. dim < count_of_dims) dims
    of-list [] inside = tt
    of-list (dim ∷ dims) inside = (inside 0 (omega arith), of-list dims (λ i less. inside (suc i) (omega arith)))

    by : (dash : Bool) → Decides dash (text ≡ codes "-") → Decided (HasNames (words text)) → Decided (SomeDims text)
    by true d names = inl (all-made.0, inl (d.0 refl, all-made.1))
    by false d (inl names) = named names d (differ names.0)
    by false d (inr none) = inr (λ h. elim h.1 [
      | inl is ↦ false≢true (d.1 is.0)
      | inr is ↦ none (asked_rows h.0, is.spelled, of-list (asked_rows h.0) is.inside)
    ])

-- ---- all three

pub texts_ask_or_not : ClassesHaveASet → TextsAskOrNot
texts_ask_or_not sets classes time dims = by (some-classes sets classes) (some-time time) (some-dims dims)
  where
    by : Decided (SomeClasses classes) → Decided (SomeTime time) → Decided (SomeDims dims) → ((sift : Sift) × IsSiftText classes time dims sift) ⊎ ((sift : Sift) → ¬ IsSiftText classes time dims sift)
    by (inl c) (inl t) (inl d) =
        inl (record { classes = c.0; time = t.0; dims = d.0 }, record { classes_are = c.1; time_is = t.1; dims_are = d.1 })
    by (inr none) t d = inr (λ sift is. none (sift.classes, is.classes_are))
    by (inl c) (inr none) d = inr (λ sift is. none (sift.time, is.time_is))
    by (inl c) (inl t) (inr none) = inr (λ sift is. none (sift.dims, is.dims_are))
