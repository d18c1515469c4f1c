-- Reading names of dimensions, one after another.
use Rattle.std.proofs.Common.{◌≡◌, ◌≢◌, ℕ, zero, suc, ◌+◌, ◌<◌, ◌≤◌, List, [], ◌∷◌, ◌++◌, length, get_or, set, map, take, Bool, true, false, ◌||◌, eqb, refl, sym, ap, ◌∙◌, arith, append-nil, append_assoc, length-append, length-take-le, length-set, inl, inr}
use Rattle.std.specs.List.{list_any}
use Rattle.std.proofs.lemmas.Bool.{cases_eq, false≢true, eqb-true, eqb-false}
use Rattle.std.proofs.lemmas.List.{map-append, length-map, get_or-set_same, get_or-set_other, get_or-take, get_or-map, get_or_at, get_or_append_left, get_or_past, take_more_set}
use Rattle.std.proofs.lemmas.List.FromFn.{get_or-range_with_len}
use Rattle.ept_filter.specs.Dims.{count_of_dims, all_dims, name_of, AreDims}
use Rattle.ept_filter.specs.SiftText.{IsDimList}
use Rattle.ept_filter.specs.Words.{words}
use Rattle.ept_filter.proofs.RowNames.{one-name}
use Rattle.ept_filter.proofs.Distinct.{few-distinct}
use Rattle.ept_filter.proofs.Commas.{some-word}

-- the names of the first `len` rows come before the rest of the words
pub record HasRead (text : List ℕ) (rest : List (List ℕ)) (rows : List ℕ) (len : ℕ) : Type 0 where
  pub array : length rows ≡ count_of_dims
  pub most : len ≤ count_of_dims
  pub spelled : words text ≡ map name_of (take len rows) ++ rest
  pub inside : (i : ℕ) → i < len → get_or rows i 0 < count_of_dims
  pub differ : (i k : ℕ) → i < k → k < len → get_or rows i 0 ≢ get_or rows k 0
  pub others : (i : ℕ) → len ≤ i → get_or rows i 0 ≡ 0

module _ (text : List ℕ) (rows : List ℕ) (len : ℕ) (word : List ℕ) (more : List (List ℕ)) (h : HasRead text (word ∷ more) rows len) where
  -- one more name
  pub read-more : (dim : ℕ) → dim < count_of_dims → name_of dim ≡ word → ((i : ℕ) → i < len → get_or rows i 0 ≢ dim) → len < count_of_dims → HasRead text more (set rows len dim) (len + 1)
  read-more dim small named new room =
      let inside_array : len < length rows = omega (arith, h.array) in
      let at_len : get_or (set rows len dim) len 0 ≡ dim = get_or-set_same rows len dim 0 inside_array in
      let before = λ (i : ℕ) (less : i < len). get_or-set_other rows len i dim 0 (omega arith) in
      record {
        array = length-set rows len dim ∙ h.array;
        most = omega arith;
        spelled =
            let taken : map name_of (take (len + 1) (set rows len dim)) ≡ map name_of (take len rows) ++ (name_of dim ∷ []) =
            ap (map name_of) (take_more_set rows len dim inside_array) ∙ map-append name_of (take len rows) (dim ∷ []) in
            h.spelled ∙ ap (λ (w : List ℕ). map name_of (take len rows) ++ (w ∷ more)) (sym named) ∙ sym (append_assoc (map name_of (take len rows)) (name_of dim ∷ []) more) ∙ ap (λ (ws : List (List ℕ)). ws ++ more) (sym taken);
        inside = λ i less. elim (cases_eq i len) [
          | inl same ↦ omega (arith, ap (λ (k : ℕ). get_or (set rows len dim) k 0) same, at_len)
          | inr other ↦ omega (arith, before i (omega arith), h.inside i (omega arith))
        ];
        differ = λ i k less top. elim (cases_eq k len) [
          | inl same ↦ λ e. new i (omega arith) (sym (before i (omega arith)) ∙ e ∙ ap (λ (j : ℕ). get_or (set rows len dim) j 0) same ∙ at_len)
          | inr other ↦ λ e. h.differ i k less (omega arith) (sym (before i (omega arith)) ∙ e ∙ before k (omega arith))
        ];
        others = λ i least. get_or-set_other rows len i dim 0 (omega arith) ∙ h.others i (omega arith);
      }

  -- the words are names of these dimensions
  module _ (dims : List ℕ) (is : IsDimList text dims) where
    names : map name_of dims ≡ map name_of (take len rows) ++ (word ∷ more)
    names = sym is.spelled ∙ h.spelled

    taken : length (map name_of (take len rows)) ≡ len
    taken = length-map (take len rows) name_of ∙ length-take-le len rows (omega (arith, h.array, h.most))

    long : len < length dims
    long = omega (arith, ap length names, length-map dims name_of, length-append (map name_of (take len rows)) (word ∷ more), taken)

    pub next-dim : ℕ
    next-dim = get_or dims len 0

    pub next-inside : next-dim < count_of_dims
    unfolding next-dim
    next-inside = is.inside len long

    pub next-named : name_of next-dim ≡ word
    unfolding next-dim
    next-named =
        sym (get_or-map name_of dims len 0 [] long) ∙ ap (λ (ws : List (List ℕ)). get_or ws len []) names ∙ get_or_at (map name_of (take len rows)) word more [] len taken

    same-before : (i : ℕ) → i < len → get_or dims i 0 ≡ get_or rows i 0
    same-before i less =
        let within : i < length dims = omega (arith, long) in
        let first : i < length (take len rows) = omega (arith, length-take-le len rows (omega (arith, h.array, h.most))) in
        let here : name_of (get_or dims i 0) ≡ name_of (get_or rows i 0) =
        sym (get_or-map name_of dims i 0 [] within) ∙ ap (λ (ws : List (List ℕ)). get_or ws i []) names
        ∙ get_or_append_left (map name_of (take len rows)) (word ∷ more) [] i (omega (arith, taken))
        ∙ get_or-map name_of (take len rows) i 0 [] first ∙ ap name_of (get_or-take len rows i 0 less) in
        one-name _ _ (is.inside i within) (h.inside i less) here

    pub next-new : (i : ℕ) → i < len → get_or rows i 0 ≢ next-dim
    unfolding next-dim
    next-new i less e = is.differ i len less long (same-before i less ∙ e)

    -- so it is the row with that name
    pub next-is : (row : ℕ) → row < count_of_dims → name_of row ≡ word → row ≡ next-dim
    next-is row small named = one-name row next-dim small next-inside (named ∙ sym next-named)

    pub next-room : len < count_of_dims
    next-room = omega (arith, long, few-distinct count_of_dims dims is.inside is.differ)

-- all words were read
module _ (text : List ℕ) (rows : List ℕ) (len : ℕ) (h : HasRead text [] rows len) where
  counted : length (take len rows) ≡ len
  counted = length-take-le len rows (omega (arith, h.array, h.most))

  all-words : words text ≡ map name_of (take len rows)
  all-words = h.spelled ∙ append-nil (map name_of (take len rows))

  pub all-dims : AreDims rows len
  all-dims = record {
    array = h.array;
    some = omega (arith, some-word text, ap length all-words, length-map (take len rows) name_of, counted);
    most = h.most;
    inside = h.inside;
    differ = h.differ;
    others = h.others;
  }

  pub all-listed : IsDimList text (take len rows)
  all-listed = record {
    spelled = all-words;
    inside = λ i less. let small : i < len = omega (arith, counted) in omega (arith, get_or-take len rows i 0 small, h.inside i small);
    differ = λ i k less top e. let small : k < len = omega (arith, counted) in h.differ i k less small (sym (get_or-take len rows i 0 (omega arith)) ∙ e ∙ get_or-take len rows k 0 small);
  }

-- all dimensions
pub all-are_dims : AreDims all_dims count_of_dims
all-are_dims = record {
  array = refl;
  some = omega arith;
  most = omega arith;
  inside = λ i less. omega (arith, get_or-range_with_len 0 count_of_dims i 0 less);
  differ = λ i k less top e. omega (arith, get_or-range_with_len 0 count_of_dims i 0 (omega arith), get_or-range_with_len 0 count_of_dims k 0 top);
  others = λ i least. get_or_past all_dims i 0 least;
}

-- ---- a row is among those that were read, or not

pub any-at : (row : ℕ) (xs : List ℕ) → list_any (λ y. eqb y row) xs ≡ true → (i : ℕ) × (i < length xs) × (get_or xs i 0 ≡ row)
any-at row [] e = absurd (false≢true e)
any-at row (x ∷ xs) e = by (eqb x row) refl e (any-at row xs)
  where
    by : (test : Bool) → eqb x row ≡ test → (test || list_any (λ y. eqb y row) xs) ≡ true → (list_any (λ y. eqb y row) xs ≡ true → (i : ℕ) × (i < length xs) × (get_or xs i 0 ≡ row)) → (i : ℕ) × (i < length (x ∷ xs)) × (get_or (x ∷ xs) i 0 ≡ row)
    by true is e later = (0, omega arith, eqb-true x row is)
    by false is e later = let found = later e in (suc found.0, omega (arith, found.1), found.2)

pub none-at : (row : ℕ) (xs : List ℕ) → list_any (λ y. eqb y row) xs ≡ false → (i : ℕ) → i < length xs → get_or xs i 0 ≡ row → ⊥
none-at row [] e i inside is = absurd (omega arith)
none-at row (x ∷ xs) e i inside is = by (eqb x row) refl e i inside is (none-at row xs)
  where
    by : (test : Bool) → eqb x row ≡ test → (test || list_any (λ y. eqb y row) xs) ≡ false → (i : ℕ) → i < length (x ∷ xs) → get_or (x ∷ xs) i 0 ≡ row → (list_any (λ y. eqb y row) xs ≡ false → (k : ℕ) → k < length xs → get_or xs k 0 ≡ row → ⊥) → ⊥
    by true same e i inside is later = false≢true (sym e)
    by false same e zero inside is later = eqb-false x row same is
    by false same e (suc k) inside is later = later e k (omega arith) is

pub found-row : (rows : List ℕ) (len row : ℕ) → len ≤ length rows → list_any (λ y. eqb y row) (take len rows) ≡ true → (i : ℕ) × (i < len) × (get_or rows i 0 ≡ row)
found-row rows len row room e =
    let found = any-at row (take len rows) e in
    let less : found.0 < len = omega (arith, found.1, length-take-le len rows room) in
    (found.0, less, sym (get_or-take len rows found.0 0 less) ∙ found.2)

pub no-row : (rows : List ℕ) (len row : ℕ) → len ≤ length rows → list_any (λ y. eqb y row) (take len rows) ≡ false → (i : ℕ) → i < len → get_or rows i 0 ≢ row
no-row rows len row room e i less is =
    none-at row (take len rows) e i (omega (arith, length-take-le len rows room)) (get_or-take len rows i 0 less ∙ is)
