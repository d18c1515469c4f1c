-- Whether a target names something is decided: keys, boxes and depths are finitely many.
use lib.Dec.{T}
use lib.Signed.{le_z, le_z_yes}
use Rattle.std.proofs.Common.{◌≡◌, ℕ, suc, ◌^◌, ◌<◌, List, [], ◌∷◌, ◌++◌, length, map, Bool, true, false, refl, sym, ap, subst, ◌∙◌, arith, inl, inr, ℤ, ◌≤ℤ◌, FitsSigned, w64, decimal}
use Rattle.std.specs.Prelude.{codes}
use Rattle.std.specs.Fmt.{signed_decimal}
use Rattle.std.specs.List.{join_with_byte}
use Rattle.ept_space.specs.declared.box3.Box3.{Box3}
use Rattle.ept_space.specs.Place.{coordinate}
use Rattle.ept_space.specs.VoxelKey.{VoxelKey, IsKey}
use Rattle.ept_space.specs.KeyText.{key_text}
use Rattle.ept_class.proofs.Bits.{classes_have_a_set}
use Rattle.ept_filter.specs.declared.sift.Sift.{Sift}
use Rattle.ept_filter.proofs.Decided.{SomeClasses, SomeTime, SomeDims, some-classes, some-time, some-dims}
use Rattle.ept_http.specs.declared.asked.Asked.{Asked}
use Rattle.ept_http.specs.declared.asked.Asked.TheVariants.{File, Query, Select, Refuse}
use Rattle.ept_http.specs.QueryWords.{IsOrdered, IsBoxText, IsDepthsText}
use Rattle.ept_http.specs.Targets.{IsServedName, IsQueryTarget, AreSiftWords, IsSelectTarget, AsksFor}
use Rattle.ept_http.proofs.Decided.{Decided, decided-as, both, either, same-bytes, below, whole, IsSplit, split}
use Rattle.ept_http.proofs.QueryLemmas.{three-axes}
use Rattle.ept_http.proofs.TargetLemmas.{none-named}

-- ---- names

abbrev IsKeyName : List ℕ → List ℕ → List ℕ → Type 0
IsKeyName folder ending name = (key : VoxelKey) × IsKey key × (name ≡ folder ++ (key_text key ++ ending))

-- the same for the four numbers of a key
abbrev HasNumbers : List ℕ → List ℕ → List ℕ → Type 0
HasNumbers folder ending name =
    (depth : ℕ) × (depth < 32) × ((x : ℕ) × (x < 2 ^ depth) × ((y : ℕ) × (y < 2 ^ depth) × ((z : ℕ) × (z < 2 ^ depth) × (let key : VoxelKey = record { depth = depth; x = x; y = y; z = z } in name ≡ folder ++ (key_text key ++ ending)))))

numbers-key : (folder ending name : List ℕ) → HasNumbers folder ending name → IsKeyName folder ending name
numbers-key folder ending name h =
    let x = h.2 in
    let y = x.2 in
    let z = y.2 in
    (record { depth = h.0; x = x.0; y = y.0; z = z.0 }, record { shallow = omega (arith, h.1); x_in = x.1; y_in = y.1; z_in = z.1 }, z.2)

key-numbers : (folder ending name : List ℕ) → IsKeyName folder ending name → HasNumbers folder ending name
key-numbers folder ending name (key, is, spelled) =
    (key.depth, omega (arith, is.shallow), (key.x, is.x_in, (key.y, is.y_in, (key.z, is.z_in, spelled))))

key-name : (folder ending name : List ℕ) → Decided (IsKeyName folder ending name)
key-name folder ending name = decided-as (numbers-key folder ending name) (key-numbers folder ending name)
    (below 32 _ (λ depth. below (2 ^ depth) _ (λ x. below (2 ^ depth) _ (λ y. below (2 ^ depth) _ (λ z. same-bytes name _)))))

served : (name : List ℕ) → Decided (IsServedName name)
served name =
    either (either (same-bytes name (codes "ept.json")) (either (same-bytes name (codes "ept-build.json")) (same-bytes name (codes "ept-sources/manifest.json"))))
    (either (key-name (codes "ept-data/") (codes ".bin") name) (key-name (codes "ept-hierarchy/") (codes ".json") name))

abbrev NamesFile : List ℕ → Type 0
NamesFile target = (name : List ℕ) × (target ≡ codes "/" ++ name) × IsServedName name

names-file : (target : List ℕ) → Decided (NamesFile target)
names-file target = decided-as there back (split (λ w. w ≡ codes "/") IsServedName (λ w. same-bytes w (codes "/")) served target)
  where
    there : IsSplit (λ w. w ≡ codes "/") IsServedName target → NamesFile target
    there h = (h.back, h.is ∙ ap (λ (w : List ℕ). w ++ h.back) h.is_front, h.is_back)

    back : NamesFile target → IsSplit (λ w. w ≡ codes "/") IsServedName target
    back h = record { front = codes "/"; back = h.0; is = h.1; is_front = refl; is_back = h.2 }

-- ---- queries

at-most-int : (a b : ℤ) → Decided (a ≤ℤ b)
at-most-int a b = by_test (le_z a b) refl
  where
    by_test : (test : Bool) → le_z a b ≡ test → Decided (a ≤ℤ b)
    by_test true is = inl (le_z_yes (subst T (sym is) tt))
    by_test false is = inr (λ h. subst T is h.le)

ordered : (area : Box3) → Decided (IsOrdered area)
ordered area = decided-as
    (λ h. record { x = h.0; y = h.1.0; z = h.1.1 })
    (λ h. (h.x, (h.y, h.z)))
    (both (at-most-int (coordinate area.min 0) (coordinate area.max 0)) (both (at-most-int (coordinate area.min 1) (coordinate area.max 1)) (at-most-int (coordinate area.min 2) (coordinate area.max 2))))

abbrev box_of : ℤ → ℤ → ℤ → ℤ → ℤ → ℤ → Box3
box_of a b c d e f = record { min = a ∷ b ∷ c ∷ []; max = d ∷ e ∷ f ∷ [] }

abbrev IsSpelledBox : List ℕ → Box3 → Type 0
IsSpelledBox text area = (text ≡ join_with_byte 44 (map signed_decimal (area.min ++ area.max))) × IsOrdered area

abbrev HasCoordinates : List ℕ → Type 0
HasCoordinates text =
    (a : ℤ) × FitsSigned w64 a × ((b : ℤ) × FitsSigned w64 b × ((c : ℤ) × FitsSigned w64 c × ((d : ℤ) × FitsSigned w64 d × ((e : ℤ) × FitsSigned w64 e × ((f : ℤ) × FitsSigned w64 f × IsSpelledBox text (box_of a b c d e f))))))

abbrev IsSomeBox : List ℕ → Type 0
IsSomeBox text = (area : Box3) × IsBoxText text area

coordinates-box : (text : List ℕ) → HasCoordinates text → IsSomeBox text
coordinates-box text a =
    let b = a.2 in
    let c = b.2 in
    let d = c.2 in
    let e = d.2 in
    let f = e.2 in (
      box_of a.0 b.0 c.0 d.0 e.0 f.0,
      record {
        spelled = f.2.0;
        least = refl;
        greatest = refl;
        fits = (a.1, (b.1, (c.1, (d.1, (e.1, (f.1, tt))))));
        ordered = f.2.1;
      },
    )

same-as-axes : (area : Box3) → length area.min ≡ 3 → length area.max ≡ 3 → area ≡ box_of (coordinate area.min 0) (coordinate area.min 1) (coordinate area.min 2) (coordinate area.max 0) (coordinate area.max 1) (coordinate area.max 2)
same-as-axes area from to =
    let mins = three-axes area.min from in
    let maxes = three-axes area.max to in
    λ i. record { min = mins i; max = maxes i }

box-coordinates : (text : List ℕ) → IsSomeBox text → HasCoordinates text
box-coordinates text (area, is) =
    let same = same-as-axes area is.least is.greatest in
    let now = subst (λ (w : Box3). IsBoxText text w) same is in
    let fits = now.fits in
    (coordinate area.min 0, fits.0, (coordinate area.min 1, fits.1.0, (coordinate area.min 2, fits.1.1.0, (coordinate area.max 0, fits.1.1.1.0, (coordinate area.max 1, fits.1.1.1.1.0, (coordinate area.max 2, fits.1.1.1.1.1.0, (now.spelled, now.ordered)))))))

some-box : (text : List ℕ) → Decided (IsSomeBox text)
some-box text = decided-as (coordinates-box text) (box-coordinates text)
    (whole _ (λ a. whole _ (λ b. whole _ (λ c. whole _ (λ d. whole _ (λ e. whole _ (λ f. both (same-bytes text _) (ordered (box_of a b c d e f)))))))))

abbrev IsSomeRange : List ℕ → Type 0
IsSomeRange text = (first : ℕ) × (last : ℕ) × IsDepthsText text first last

some-range : (text : List ℕ) → Decided (IsSomeRange text)
some-range text = decided-as there back (below 33 _ (λ last. below (suc last) _ (λ first. same-bytes text (join_with_byte 44 (map decimal (first ∷ last ∷ []))))))
  where
    there : (last : ℕ) × (last < 33) × ((first : ℕ) × (first < suc last) × (text ≡ join_with_byte 44 (map decimal (first ∷ last ∷ [])))) → IsSomeRange text
    there h =
        let first = h.2 in
        (first.0, h.0, record { spelled = first.2; ordered = omega (arith, first.1); bounded = omega (arith, h.1) })

    back : IsSomeRange text → (last : ℕ) × (last < 33) × ((first : ℕ) × (first < suc last) × (text ≡ join_with_byte 44 (map decimal (first ∷ last ∷ []))))
    back (first, last, is) = (last, omega (arith, is.bounded), (first, omega (arith, is.ordered), is.spelled))

-- a word, a key, and what follows the key
record IsWord (key : List ℕ) (P Q : List ℕ → Type 0) (text : List ℕ) : Type 0 where
  word : List ℕ
  rest : List ℕ
  is : text ≡ word ++ (key ++ rest)
  is_word : P word
  is_rest : Q rest

word-decided : (key : List ℕ) (P Q : List ℕ → Type 0) → ((w : List ℕ) → Decided (P w)) → ((w : List ℕ) → Decided (Q w)) → (text : List ℕ) → Decided (IsWord key P Q text)
word-decided key P Q each_word each_rest text = decided-as there back (split P (IsSplit (λ w. w ≡ key) Q) each_word (split (λ w. w ≡ key) Q (λ w. same-bytes w key) each_rest) text)
  where
    there : IsSplit P (IsSplit (λ w. w ≡ key) Q) text → IsWord key P Q text
    there h =
        let after = h.is_back in
        record { word = h.front; rest = after.back; is = h.is ∙ ap (λ (w : List ℕ). h.front ++ w) (after.is ∙ ap (λ (w : List ℕ). w ++ after.back) after.is_front); is_word = h.is_front; is_rest = after.is_back }

    back : IsWord key P Q text → IsSplit P (IsSplit (λ w. w ≡ key) Q) text
    back h = record { front = h.word; back = key ++ h.rest; is = h.is; is_front = h.is_word; is_back = record { front = key; back = h.rest; is = refl; is_front = refl; is_back = h.is_rest } }

abbrev NamesQuery : List ℕ → Type 0
NamesQuery target = (area : Box3) × (first : ℕ) × (last : ℕ) × IsQueryTarget target area first last

abbrev IsQueryCut : List ℕ → Type 0
IsQueryCut = IsWord (codes "/query?box=") (λ w. w ≡ []) (IsWord (codes "&depths=") IsSomeBox IsSomeRange)

cut-query : (target : List ℕ) → IsQueryCut target → NamesQuery target
cut-query target a =
    let b = a.is_rest in
    let range = b.is_rest in
    let spelled = a.is ∙ ap (λ (w : List ℕ). w ++ (codes "/query?box=" ++ a.rest)) a.is_word ∙ ap (λ (w : List ℕ). codes "/query?box=" ++ w) b.is in
    (b.is_word.0, range.0, range.1, record { box = b.word; depths = b.rest; spelled = spelled; is_box = b.is_word.1; are_depths = range.2 })

query-cut : (target : List ℕ) → NamesQuery target → IsQueryCut target
query-cut target (area, first, last, is) = record {
  word = [];
  rest = is.box ++ (codes "&depths=" ++ is.depths);
  is = is.spelled;
  is_word = refl;
  is_rest = record { word = is.box; rest = is.depths; is = refl; is_word = (area, is.is_box); is_rest = (first, last, is.are_depths) };
}

names-query : (target : List ℕ) → Decided (NamesQuery target)
names-query target = decided-as (cut-query target) (query-cut target)
    (word-decided (codes "/query?box=") _ _ (λ w. same-bytes w []) (word-decided (codes "&depths=") IsSomeBox IsSomeRange some-box some-range) target)

-- ---- selections

abbrev IsSomeSift : List ℕ → Type 0
IsSomeSift words = (sift : Sift) × AreSiftWords words sift

abbrev IsSiftCut : List ℕ → Type 0
IsSiftCut = IsWord (codes "&time=") SomeClasses (IsWord (codes "&dims=") SomeTime SomeDims)

cut-sift : (words : List ℕ) → IsSiftCut words → IsSomeSift words
cut-sift words a =
    let b = a.is_rest in (
      record { classes = a.is_word.0; time = b.is_word.0; dims = b.is_rest.0 },
      record {
        classes = a.word;
        time = b.word;
        dims = b.rest;
        spelled = a.is ∙ ap (λ (w : List ℕ). a.word ++ (codes "&time=" ++ w)) b.is;
        are = record { classes_are = a.is_word.1; time_is = b.is_word.1; dims_are = b.is_rest.1 };
      },
    )

sift-cut : (words : List ℕ) → IsSomeSift words → IsSiftCut words
sift-cut words (sift, is) = record {
  word = is.classes;
  rest = is.time ++ (codes "&dims=" ++ is.dims);
  is = is.spelled;
  is_word = (sift.classes, is.are.classes_are);
  is_rest = record { word = is.time; rest = is.dims; is = refl; is_word = (sift.time, is.are.time_is); is_rest = (sift.dims, is.are.dims_are) };
}

some-sift : (words : List ℕ) → Decided (IsSomeSift words)
some-sift words = decided-as (cut-sift words) (sift-cut words)
    (word-decided (codes "&time=") SomeClasses _ (some-classes classes_have_a_set) (word-decided (codes "&dims=") SomeTime SomeDims some-time some-dims) words)

abbrev NamesSelect : List ℕ → Type 0
NamesSelect target = (area : Box3) × (first : ℕ) × (last : ℕ) × (sift : Sift) × IsSelectTarget target area first last sift

abbrev IsSelectCut : List ℕ → Type 0
IsSelectCut = IsWord (codes "/select?box=") (λ w. w ≡ []) (IsWord (codes "&depths=") IsSomeBox (IsWord (codes "&classes=") IsSomeRange IsSomeSift))

cut-select : (target : List ℕ) → IsSelectCut target → NamesSelect target
cut-select target a =
    let b = a.is_rest in
    let c = b.is_rest in
    let range = c.is_word in
    let words = b.is ∙ ap (λ (w : List ℕ). b.word ++ (codes "&depths=" ++ w)) c.is in
    let spelled = a.is ∙ ap (λ (w : List ℕ). w ++ (codes "/select?box=" ++ a.rest)) a.is_word ∙ ap (λ (w : List ℕ). codes "/select?box=" ++ w) words in
    (b.is_word.0, range.0, range.1, c.is_rest.0, record { box = b.word; depths = c.word; words = c.rest; spelled = spelled; is_box = b.is_word.1; are_depths = range.2; are_words = c.is_rest.1 })

select-cut : (target : List ℕ) → NamesSelect target → IsSelectCut target
select-cut target (area, first, last, sift, is) = record {
  word = [];
  rest = is.box ++ (codes "&depths=" ++ (is.depths ++ (codes "&classes=" ++ is.words)));
  is = is.spelled;
  is_word = refl;
  is_rest = record {
    word = is.box;
    rest = is.depths ++ (codes "&classes=" ++ is.words);
    is = refl;
    is_word = (area, is.is_box);
    is_rest = record { word = is.depths; rest = is.words; is = refl; is_word = (first, last, is.are_depths); is_rest = (sift, is.are_words) };
  };
}

names-select : (target : List ℕ) → Decided (NamesSelect target)
names-select target = decided-as (cut-select target) (select-cut target)
    (word-decided (codes "/select?box=") _ _ (λ w. same-bytes w []) (word-decided (codes "&depths=") IsSomeBox _ some-box (word-decided (codes "&classes=") IsSomeRange IsSomeSift some-range some-sift)) target)

-- ---- targets

target-asks : (target : List ℕ) → Decided (NamesFile target) → Decided (NamesQuery target) → Decided (NamesSelect target) → (asked : Asked) × AsksFor target asked
target-asks target (inl file) query select = (File file.0, (file.1, file.2))
target-asks target (inr no_file) (inl query) select = (Query query.0 query.1 query.2, query.3)
target-asks target (inr no_file) (inr no_query) (inl select) = (Select select.0 select.1 select.2 select.3, select.4)
target-asks target (inr no_file) (inr no_query) (inr no_select) = (
  Refuse 404,
  (
    refl,
    none-named target
        (λ name is served. no_file (name, is, served))
        (λ area first last is. no_query (area, first, last, is))
        (λ area first last sift is. no_select (area, first, last, sift, is)),
  ),
)

pub each-target-asks : (target : List ℕ) → (asked : Asked) × AsksFor target asked
each-target-asks target = target-asks target (names-file target) (names-query target) (names-select target)
