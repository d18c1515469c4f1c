-- The text of entries is read back as these entries.
use Rattle.std.proofs.Common.{◌≡◌, ◌≢◌, ◌∙◌, ℕ, zero, suc, ◌+◌, ◌^◌, ◌<◌, ◌≤◌, ℤ, pos, negsuc, Bool, true, false, List, [], ◌∷◌, ◌++◌, map, get_or, refl, sym, ap, ap₂, subst, arith, append_assoc, append-nil, lt-ltb, codes, decimal, Some, Ordering}
use Rattle.std.specs.Prelude.{⊤, AllPairs, IsPermutation, filter, if◌then◌else◌}
use Rattle.std.specs.declared.cmp.Ordering.TheVariants.{Less, Equal, Greater}
use Rattle.std.specs.Ordering.{nat_cmp, match_ordering, is_eq, is_lt, ordering_reverse}
use Rattle.std.specs.Option.{option_map, option_and_then}
use Rattle.std.specs.Cmp.Lexicographic.{slice_cmp}
use Rattle.std.specs.Fmt.{signed_decimal}
use Rattle.std.specs.List.Sorted.{IsSortedByKey}
use Rattle.std.specs.List.{All, AllZip, flat_map, join_by}
use Rattle.std.specs.Str.{IsUtf8}
use Rattle.std.proofs.lemmas.Int.{ints}
use Rattle.std.proofs.lemmas.Fmt.{decimal_is_IsNumeral}
use Rattle.std.proofs.lemmas.Str.{IsUtf8-append, IsUtf8-from_ascii, IsUtf8-nil}
use Rattle.std.proofs.lemmas.Str.Parse.{digit_at}
use Rattle.std.proofs.lemmas.List.Sorted.{IsPermutation-refl, IsPermutation-trans, IsPermutation-sym, IsPermutation-cons, IsPermutation-swap, IsPermutation-middle, IsPermutation-append_right, All-permutation}
use Rattle.std.proofs.lemmas.Map.Text.{is_eq-slice_cmp}
use Rattle.std.proofs.lemmas.Slice.Eq.{bytes_eq-Decides}
use Rattle.std.proofs.lemmas.List.Elements.{All-nil, All-cons, All-head, All-tail, All-append, All-from_get_or, All-map, All-filter}
use Rattle.std.proofs.lemmas.List.Kept.{AllPairs-cons, AllPairs-filter}
use Rattle.json.specs.Json as json
use Rattle.json.specs.Print.{quoted, escape, escape_byte, print, IsNumber}
use Rattle.json.specs.Tree as tree
use Rattle.json.specs.Tree.{json_tokens}
use Rattle.json.proofs.Printed.Strings.{escape_byte_plain}
use Rattle.json.proofs.Printed.Decimals.{IsNumber-decimal, IsNumber-signed_decimal}
use Rattle.json.proofs.Printed.Trees.{value-json_tokens, ArePrintable-json_tokens}
use Rattle.json.proofs.Printed.Tokens.{tokens-print}
use Rattle.json.proofs.Printed.Utf8.{IsUtf8-are_ascii}
use Rattle.json.specs.Lex.{tokens}
use Rattle.serde_json.specs.Data.{Data, number, object, Members, no_members, member, put}
use Rattle.serde_json.specs.Read.{read, max_depth, of_json, of_members}
use Rattle.serde_json.specs.Find.{as_object, of_integer}
use Rattle.serde_json.specs.Written.{outline, members_outline, number_text, compact_text, members_text}
use Rattle.serde_json.proofs.Numbers.{number_of-decimal, number_of-negative}
use Rattle.serde_json.proofs.Texts.{print-outline}
use Rattle.itoa.proofs.Decimal.{IsAscii-signed_decimal}
use Rattle.ept_json.specs.Document.{document}
use Rattle.ept_json.proofs.Documents.{document_read}
use Rattle.ept_space.specs.VoxelKey.{VoxelKey, IsKey, key_cmp}
use Rattle.ept_space.specs.KeyText.{key_text}
use Rattle.ept_space.proofs.KeyTexts.{index-small, IsAscii-key_text, key_text-injective}
use Rattle.ept_space.proofs.KeyOrder.{key_cmp_total, key_cmp-same}
use Rattle.ept_hier.specs.declared.file.HierFile.{HierFile}
use Rattle.ept_hier.specs.Hierarchy.{Entry, Node, keys_of, has_file, stands_in, is_link, entry_in, entries_of, file_of, hierarchy, entry_text, hierarchy_text, KeysAscend}
use Rattle.ept_hier.specs.Reading.{Member, member_list, members_in, number_in, IsEntryOf, IsReading}
use Rattle.ept_hier.specs.ReadingLaws.{IsEntry}

-- ---- the text of a key is unchanged in a string

-- a digit or a dash
abbrev IsOfKey : ℕ → Type 0
IsOfKey c = (45 ≤ c) × (c ≤ 57)

digits_of_key : (n : ℕ) → n < 2 ^ 32 → All IsOfKey (decimal n)
digits_of_key n small =
    All-from_get_or IsOfKey (decimal n) 0 (λ i inside. let digit = digit_at (decimal n) i (decimal_is_IsNumeral n (omega arith)).0.1 inside in (omega (arith, digit.0), omega (arith, digit.1)))

dash_of_key : All IsOfKey (45 ∷ [])
dash_of_key = All-cons IsOfKey 45 [] (omega arith, omega arith) (All-nil IsOfKey)

key_bytes : (key : VoxelKey) → IsKey key → All IsOfKey (key_text key)
unfolding key_text
key_bytes key h =
    let small_x = index-small key.x key.depth h.x_in h.shallow in
    let small_y = index-small key.y key.depth h.y_in h.shallow in
    let small_z = index-small key.z key.depth h.z_in h.shallow in
    let low = h.shallow in
    All-append IsOfKey _ _ (All-append IsOfKey _ _ (All-append IsOfKey _ _ (All-append IsOfKey _ _ (All-append IsOfKey _ _ (All-append IsOfKey _ _ (digits_of_key key.depth (omega arith)) dash_of_key) (digits_of_key key.x (omega arith))) dash_of_key) (digits_of_key key.y (omega arith))) dash_of_key) (digits_of_key key.z (omega arith))

escape_key : (s : List ℕ) → All IsOfKey s → escape s ≡ s
escape_key [] all = refl
escape_key (c ∷ s) all =
    let first = All-head IsOfKey c s all in
    let plain : escape_byte c ≡ c ∷ [] = escape_byte_plain c (λ e. let low : 45 ≤ c = first.0 in omega arith) (λ e. let high : c ≤ 57 = first.1 in omega arith) (omega (arith, first.0)) in
    ap₂ (λ (a b : List ℕ). a ++ b) plain (escape_key s (All-tail IsOfKey c s all))

-- ---- the text is that of an object of numbers

abbrev value_of : ℤ → Data
value_of z = number (of_integer z)

abbrev member_of : Entry → Member
member_of e = (key_text e.0, value_of e.1)

-- the members in the order of the text
abbrev members_of : List Entry → Members
members_of [] = no_members
members_of (e ∷ es) = member (key_text e.0) (value_of e.1) (members_of es)

number_written : (z : ℤ) → compact_text (value_of z) ≡ signed_decimal z
number_written (pos n) = refl
number_written (negsuc n) = refl

layout : (k n : List ℕ) → (34 ∷ (k ++ 34 ∷ [])) ++ 58 ∷ n ≡ codes "\"" ++ k ++ codes "\":" ++ n
layout k n = simp append_assoc

entry_written : (e : Entry) → IsEntry e → quoted (key_text e.0) ++ 58 ∷ compact_text (value_of e.1) ≡ entry_text e
unfolding entry_text
entry_written e is =
    ap₂ (λ (k n : List ℕ). (34 ∷ (k ++ 34 ∷ [])) ++ 58 ∷ n) (escape_key (key_text e.0) (key_bytes e.0 is.is_key)) (number_written e.1)
    ∙ layout (key_text e.0) (signed_decimal e.1)

regroup : (q c rest : List ℕ) → q ++ 58 ∷ (c ++ rest) ≡ (q ++ 58 ∷ c) ++ rest
regroup q c rest = sym (append_assoc q (58 ∷ c) rest)

later_written : (es : List Entry) → All IsEntry es → members_text true (members_of es) ≡ flat_map (λ e. codes "," ++ entry_text e) es ++ codes "}"
later_written [] all = refl
later_written (e ∷ es) all =
    let first = regroup (quoted (key_text e.0)) (compact_text (value_of e.1)) (members_text true (members_of es)) ∙ ap₂ (λ (a b : List ℕ). a ++ b) (entry_written e (All-head IsEntry e es all)) (later_written es (All-tail IsEntry e es all)) in
    ap (λ w. 44 ∷ w) (first ∙ sym (append_assoc (entry_text e) (flat_map (λ x. codes "," ++ entry_text x) es) (codes "}")))

entries_written : (es : List Entry) → All IsEntry es → compact_text (object (members_of es)) ≡ hierarchy_text es
unfolding hierarchy_text
entries_written [] all = refl
entries_written (e ∷ es) all =
    let first = regroup (quoted (key_text e.0)) (compact_text (value_of e.1)) (members_text true (members_of es)) ∙ ap₂ (λ (a b : List ℕ). a ++ b) (entry_written e (All-head IsEntry e es all)) (later_written es (All-tail IsEntry e es all)) in
    ap (λ w. 123 ∷ w) (first ∙ sym (append_assoc (entry_text e) (flat_map (λ x. codes "," ++ entry_text x) es) (codes "}")))

-- ---- which is read as the members, put one after another

is_number : (e : Entry) → IsEntry e → IsNumber (number_text (of_integer e.1))
is_number (key, pos n) is = IsNumber-decimal n (omega (arith, ints, is.most))
is_number (key, negsuc n) is = IsNumber-signed_decimal (negsuc n) (omega (arith, ints, is.least))

have_numbers : (es : List Entry) → All IsEntry es → tree.MembersHaveNumbers (members_outline (members_of es))
have_numbers [] all = tt
have_numbers (e ∷ es) all = (is_number e (All-head IsEntry e es all), have_numbers es (All-tail IsEntry e es all))

flat : (es : List Entry) → tree.members_depth (members_outline (members_of es)) ≡ 0
flat [] = refl
flat (e ∷ es) = rw (flat es)

-- the members put one after another
abbrev put_all : List Entry → Members → Members
put_all [] found = found
put_all (e ∷ es) found = put_all es (put (key_text e.0) (value_of e.1) found)

number_read : (e : Entry) → IsEntry e → of_json (json.number (number_text (of_integer e.1))) ≡ Some (value_of e.1)
number_read (key, pos n) is = ap (option_map number) (number_of-decimal n (omega (arith, ints, is.most)))
number_read (key, negsuc n) is = ap (option_map number) (number_of-negative n (omega (arith, ints, is.least)))

members_read : (es : List Entry) (found : Members) → All IsEntry es → of_members (members_outline (members_of es)) found ≡ Some (put_all es found)
members_read [] found all = refl
members_read (e ∷ es) found all =
    ap (λ o. option_and_then (λ d. of_members (members_outline (members_of es)) (put (key_text e.0) d found)) o) (number_read e (All-head IsEntry e es all))
    ∙ members_read es (put (key_text e.0) (value_of e.1) found) (All-tail IsEntry e es all)

text_read : (es : List Entry) → All IsEntry es → read (hierarchy_text es) ≡ Some (object (put_all es no_members))
text_read es all =
    let j = outline (object (members_of es)) in
    let numbers : tree.HasNumbers j = have_numbers es all in
    let printed : print (json_tokens j) ≡ hierarchy_text es = print-outline (object (members_of es)) ∙ entries_written es all in
    let shallow : tree.depth j ≤ max_depth = omega (arith, flat es) in
    let grammar : json.value max_depth (tokens (print (json_tokens j))) ≡ Some (j, []) = ap (json.value max_depth) (tokens-print (json_tokens j) (ArePrintable-json_tokens j numbers) ∙ sym (append-nil (json_tokens j))) ∙ value-json_tokens j max_depth [] shallow in
    ap read (sym printed)
    ∙ (ap (λ o. option_and_then of_json (option_and_then (λ p. json.if_last p.0 p.1) o)) grammar ∙ ap (option_map object) (members_read es no_members all))

-- ---- which is UTF-8

entry_utf8 : (e : Entry) → IsEntry e → IsUtf8 (entry_text e)
unfolding entry_text
entry_utf8 e is =
    IsUtf8-append _ _ (IsUtf8-append _ _ (IsUtf8-append _ _ (IsUtf8-are_ascii (codes "\"") refl) (IsUtf8-from_ascii (key_text e.0) (IsAscii-key_text e.0 is.is_key))) (IsUtf8-are_ascii (codes "\":") refl)) (IsUtf8-from_ascii (signed_decimal e.1) (IsAscii-signed_decimal e.1 (omega (arith, ints, is.least, is.most))))

later_utf8 : (es : List Entry) → All IsEntry es → IsUtf8 (flat_map (λ e. codes "," ++ entry_text e) es)
later_utf8 [] all = IsUtf8-nil
later_utf8 (e ∷ es) all =
    IsUtf8-append _ _ (IsUtf8-append _ _ (IsUtf8-are_ascii (codes ",") refl) (entry_utf8 e (All-head IsEntry e es all))) (later_utf8 es (All-tail IsEntry e es all))

joined_utf8 : (es : List Entry) → All IsEntry es → IsUtf8 (join_by entry_text (codes ",") es)
joined_utf8 [] all = IsUtf8-nil
joined_utf8 (e ∷ es) all = IsUtf8-append _ _ (entry_utf8 e (All-head IsEntry e es all)) (later_utf8 es (All-tail IsEntry e es all))

text_utf8 : (es : List Entry) → All IsEntry es → IsUtf8 (hierarchy_text es)
unfolding hierarchy_text
text_utf8 es all = IsUtf8-append _ _ (IsUtf8-append _ _ (IsUtf8-are_ascii (codes "{") refl) (joined_utf8 es all)) (IsUtf8-are_ascii (codes "}") refl)

text_document : (es : List Entry) → All IsEntry es → document (hierarchy_text es) ≡ Some (object (put_all es no_members))
text_document es all = document_read (hierarchy_text es) (object (put_all es no_members)) (text_utf8 es all) (text_read es all)

-- ---- the entries in the order of the object

same_text : (a b : List ℕ) → slice_cmp nat_cmp a b ≡ Equal → a ≡ b
same_text a b is = (bytes_eq-Decides a b).0 (sym (is_eq-slice_cmp a b) ∙ ap is_eq is)

-- an entry put among others, by the bytes of its key's text
abbrev place : Entry → List Entry → List Entry
place e [] = e ∷ []
place e (f ∷ es) = match_ordering (slice_cmp nat_cmp (key_text e.0) (key_text f.0)) (e ∷ f ∷ es) ((f.0, e.1) ∷ es) (f ∷ place e es)

abbrev place_all : List Entry → List Entry → List Entry
place_all [] found = found
place_all (e ∷ es) found = place_all es (place e found)

members_chosen : (o : Ordering) (a b c : List Entry) → members_of (match_ordering o a b c) ≡ match_ordering o (members_of a) (members_of b) (members_of c)
members_chosen Less a b c = refl
members_chosen Equal a b c = refl
members_chosen Greater a b c = refl

placed_put : (e : Entry) (es : List Entry) → members_of (place e es) ≡ put (key_text e.0) (value_of e.1) (members_of es)
placed_put e [] = refl
placed_put e (f ∷ es) =
    members_chosen (slice_cmp nat_cmp (key_text e.0) (key_text f.0)) (e ∷ f ∷ es) ((f.0, e.1) ∷ es) (f ∷ place e es) ∙ rw (placed_put e es)

placed_all_put : (es found : List Entry) → members_of (place_all es found) ≡ put_all es (members_of found)
placed_all_put [] found = refl
placed_all_put (e ∷ es) found = placed_all_put es (place e found) ∙ ap (put_all es) (placed_put e found)

-- no key of these is this one
abbrev IsNew : VoxelKey → List Entry → Type 0
IsNew key es = All (λ (f : Entry). key_text key ≢ key_text f.0) es

chosen_permutes : (o : Ordering) (e f : Entry) (es placed : List Entry) → slice_cmp nat_cmp (key_text e.0) (key_text f.0) ≡ o → key_text e.0 ≢ key_text f.0 → IsPermutation (e ∷ es) placed → IsPermutation (e ∷ f ∷ es) (match_ordering o (e ∷ f ∷ es) ((f.0, e.1) ∷ es) (f ∷ placed))
chosen_permutes Less e f es placed is apart rest = IsPermutation-refl (e ∷ f ∷ es)
chosen_permutes Equal e f es placed is apart rest = absurd (apart (same_text (key_text e.0) (key_text f.0) is))
chosen_permutes Greater e f es placed is apart rest =
    IsPermutation-trans (e ∷ f ∷ es) (f ∷ e ∷ es) (f ∷ placed) (IsPermutation-swap (e ∷ f ∷ es) (f ∷ e ∷ es) 0 1 (omega arith) (omega arith) refl) (IsPermutation-cons f (e ∷ es) placed rest)

place_permutes : (e : Entry) (es : List Entry) → IsNew e.0 es → IsPermutation (e ∷ es) (place e es)
place_permutes e [] new = IsPermutation-refl (e ∷ [])
place_permutes e (f ∷ es) new =
    chosen_permutes (slice_cmp nat_cmp (key_text e.0) (key_text f.0)) e f es (place e es) refl (All-head (λ (g : Entry). key_text e.0 ≢ key_text g.0) f es new) (place_permutes e es (All-tail (λ (g : Entry). key_text e.0 ≢ key_text g.0) f es new))

-- these have keys with texts that differ from those of all later ones
abbrev AreNew : List Entry → Type 0
AreNew [] = ⊤
AreNew (e ∷ es) = IsNew e.0 es × AreNew es

-- each is new among those that are placed, and then among one more
still_new : (e : Entry) (es found : List Entry) → IsNew e.0 es → All (λ (x : Entry). IsNew x.0 found) es → IsNew e.0 found → All (λ (x : Entry). IsNew x.0 (place e found)) es
still_new e [] found apart new first = All-nil (λ (x : Entry). IsNew x.0 (place e found))
still_new e (x ∷ es) found apart new first =
    let other : key_text x.0 ≢ key_text e.0 = λ same. All-head (λ (g : Entry). key_text e.0 ≢ key_text g.0) x es apart (sym same) in
    let of_x : IsNew x.0 (e ∷ found) = All-cons (λ (g : Entry). key_text x.0 ≢ key_text g.0) e found other (All-head (λ (y : Entry). IsNew y.0 found) x es new) in
    All-cons (λ (y : Entry). IsNew y.0 (place e found)) x es (All-permutation (λ (g : Entry). key_text x.0 ≢ key_text g.0) (e ∷ found) (place e found) (place_permutes e found first) of_x)
    (still_new e es found (All-tail (λ (g : Entry). key_text e.0 ≢ key_text g.0) x es apart) (All-tail (λ (y : Entry). IsNew y.0 found) x es new) first)

place_all_permutes : (es found : List Entry) → AreNew es → All (λ (x : Entry). IsNew x.0 found) es → IsPermutation (es ++ found) (place_all es found)
place_all_permutes [] found apart new = IsPermutation-refl found
place_all_permutes (e ∷ es) found apart new =
    let first : IsNew e.0 found = All-head (λ (x : Entry). IsNew x.0 found) e es new in
    let rest : All (λ (x : Entry). IsNew x.0 (place e found)) es = still_new e es found apart.0 (All-tail (λ (x : Entry). IsNew x.0 found) e es new) first in
    IsPermutation-trans (e ∷ (es ++ found)) (es ++ e ∷ found) (place_all es (place e found)) (IsPermutation-sym (es ++ e ∷ found) (e ∷ (es ++ found)) (IsPermutation-middle es e found))
    (IsPermutation-trans (es ++ e ∷ found) (es ++ place e found) (place_all es (place e found)) (IsPermutation-append_right es (e ∷ found) (place e found) (place_permutes e found first)) (place_all_permutes es (place e found) apart.1 rest))

none_found : (es : List Entry) → All (λ (x : Entry). IsNew x.0 []) es
none_found [] = All-nil (λ (x : Entry). IsNew x.0 [])
none_found (e ∷ es) = All-cons (λ (x : Entry). IsNew x.0 []) e es (All-nil (λ (f : Entry). key_text e.0 ≢ key_text f.0)) (none_found es)

placed_all : (es : List Entry) → AreNew es → IsPermutation (place_all es []) es
placed_all es apart =
    IsPermutation-sym es (place_all es []) (subst (λ (w : List Entry). IsPermutation w (place_all es [])) (append-nil es) (place_all_permutes es [] apart (none_found es)))

-- ---- the entries of the members

number_said : (e : Entry) → IsEntry e → number_in (value_of e.1) ≡ Some e.1
unfolding number_in
number_said (key, pos n) is =
    let few : n < 2 ^ 63 = omega (arith, ints, is.most) in rw (lt-ltb n (2 ^ 63) few)
number_said (key, negsuc zero) is = refl
number_said (key, negsuc (suc n)) is = absurd (omega (arith, ints, is.least))

said : (es : List Entry) → All IsEntry es → AllZip IsEntryOf (member_list (members_of es)) es
said [] all = tt
said (e ∷ es) all =
    let is = All-head IsEntry e es all in (
      record { names = record { is_key = is.is_key; spelled = refl }; number = number_said e is },
      said es (All-tail IsEntry e es all),
    )

-- ---- entries whose keys ascend

abbrev Ascend : List Entry → Type 0
Ascend es = AllPairs (λ a b. key_cmp a.0 b.0 ≡ Less) es

pairs_rest : {X : Type 0} (R : X → X → Type 0) (x : X) (xs : List X) → AllPairs R (x ∷ xs) → AllPairs R xs
pairs_rest R x xs all = λ i j d less inside. all (suc i) (suc j) d (omega (arith, less)) (omega (arith, inside))

pairs_first : {X : Type 0} (R : X → X → Type 0) (x : X) (xs : List X) → AllPairs R (x ∷ xs) → All (R x) xs
pairs_first R x xs all = λ k d inside. all 0 (suc k) d (omega arith) (omega (arith, inside))

new_among : (e : Entry) (es : List Entry) → IsKey e.0 → All IsEntry es → All (λ (f : Entry). key_cmp e.0 f.0 ≡ Less) es → IsNew e.0 es
new_among e [] is all less = All-nil (λ (f : Entry). key_text e.0 ≢ key_text f.0)
new_among e (f ∷ es) is all less =
    let first : key_cmp e.0 f.0 ≡ Less = All-head (λ (g : Entry). key_cmp e.0 g.0 ≡ Less) f es less in
    All-cons (λ (g : Entry). key_text e.0 ≢ key_text g.0) f es (λ same. let equal : key_cmp e.0 f.0 ≡ Equal = key_cmp-same e.0 f.0 (key_text-injective e.0 f.0 is (All-head IsEntry f es all).is_key same) in cc)
    (new_among e es is (All-tail IsEntry f es all) (All-tail (λ (g : Entry). key_cmp e.0 g.0 ≡ Less) f es less))

are_new : (es : List Entry) → All IsEntry es → Ascend es → AreNew es
are_new [] all up = tt
are_new (e ∷ es) all up =
    (new_among e es (All-head IsEntry e es all).is_key (All-tail IsEntry e es all) (pairs_first (λ (a b : Entry). key_cmp a.0 b.0 ≡ Less) e es up), are_new es (All-tail IsEntry e es all) (pairs_rest (λ (a b : Entry). key_cmp a.0 b.0 ≡ Less) e es up))

not_less : (a b : VoxelKey) → key_cmp a b ≡ Less → is_lt (key_cmp b a) ≡ false
not_less a b less = ap is_lt (key_cmp_total.antisymm b a ∙ ap ordering_reverse less)

pub sorted_ascending : (es : List Entry) → Ascend es → IsSortedByKey (λ (e : Entry). e.0) key_cmp es
sorted_ascending es up = λ k d low high. not_less (get_or es k d).0 (get_or es (k + 1) d).0 (up k (k + 1) d (omega arith) high)

-- ---- so the text is read back

pub text_read_back : (es : List Entry) → All IsEntry es → Ascend es → IsReading (hierarchy_text es) es
unfolding members_in
text_read_back es all up =
    let found = place_all es [] in
    let permuted = placed_all es (are_new es all up) in
    let read : document (hierarchy_text es) ≡ Some (object (members_of found)) = text_document es all ∙ ap (λ (ms : Members). Some (object ms)) (sym (placed_all_put es [])) in
    record {
      members = member_list (members_of found);
      object = ap (λ o. option_map member_list (option_and_then as_object o)) read;
      said = found;
      each = said found (All-permutation IsEntry es found (IsPermutation-sym found es permuted) all);
      same = permuted;
      ordered = sorted_ascending es up;
    }

-- ---- and each file

entry_at : (b : Bool) (n : Node) → IsKey n.0 → n.1 < 2 ^ 63 → IsEntry (n.0, if b then negsuc 0 else pos n.1)
entry_at true n key few = record { is_key = key; least = omega (arith, ints); most = omega (arith, ints) }
entry_at false n key few = record { is_key = key; least = omega (arith, ints); most = omega (arith, ints, few) }

All-unmapped : {X Y : Type 0} (P : Y → Type 0) (f : X → Y) (xs : List X) → All P (map f xs) → All (λ x. P (f x)) xs
All-unmapped P f [] all = All-nil (λ x. P (f x))
All-unmapped P f (x ∷ xs) all = All-cons (λ z. P (f z)) x xs (All-head P (f x) (map f xs) all) (All-unmapped P f xs (All-tail P (f x) (map f xs) all))

pairs_unmapped : {X Y : Type 0} (R : Y → Y → Type 0) (f : X → Y) (xs : List X) → AllPairs R (map f xs) → AllPairs (λ a b. R (f a) (f b)) xs
pairs_unmapped R f [] all = λ i j d less inside. absurd (let below : j < 0 = inside in omega arith)
pairs_unmapped R f (x ∷ xs) all =
    AllPairs-cons (λ a b. R (f a) (f b)) x xs (All-unmapped (R (f x)) f xs (pairs_first R (f x) (map f xs) all)) (pairs_unmapped R f xs (pairs_rest R (f x) (map f xs) all))

pairs_mapped : {X Y : Type 0} (R : Y → Y → Type 0) (f : X → Y) (xs : List X) → AllPairs (λ a b. R (f a) (f b)) xs → AllPairs R (map f xs)
pairs_mapped R f [] all = λ i j d less inside. absurd (let below : j < 0 = inside in omega arith)
pairs_mapped R f (x ∷ xs) all =
    AllPairs-cons R (f x) (map f xs) (All-map (R (f x)) f xs (pairs_first (λ a b. R (f a) (f b)) x xs all)) (pairs_mapped R f xs (pairs_rest (λ a b. R (f a) (f b)) x xs all))

entry_fits : (step : ℕ) (top : VoxelKey) (n : Node) → IsKey n.0 → n.1 < 2 ^ 63 → IsEntry (entry_in step top n)
entry_fits step top n key few = entry_at (is_link step top n.0) n key few

pub file_read_back : (step : ℕ) (nodes : List Node) (top : VoxelKey) → KeysAscend nodes → All IsKey (keys_of nodes) → All (λ (n : Node). n.1 < 2 ^ 63) nodes → IsReading (hierarchy_text (entries_of step nodes top)) (entries_of step nodes top)
unfolding entries_of KeysAscend
file_read_back step nodes top up keys few =
    let here = filter (λ (n : Node). stands_in step top n.0) nodes in
    let are : All (λ (n : Node). IsKey n.0) here = All-filter (λ (n : Node). stands_in step top n.0) (λ (n : Node). IsKey n.0) nodes (All-unmapped IsKey (λ (n : Node). n.0) nodes keys) in
    let low : All (λ (n : Node). n.1 < 2 ^ 63) here = All-filter (λ (n : Node). stands_in step top n.0) (λ (n : Node). n.1 < 2 ^ 63) nodes few in
    let rise = AllPairs-filter (λ (a b : Node). key_cmp a.0 b.0 ≡ Less) (λ (n : Node). stands_in step top n.0) nodes (pairs_unmapped (λ (a b : VoxelKey). key_cmp a b ≡ Less) (λ (n : Node). n.0) nodes up) in
    text_read_back (map (entry_in step top) here) (All-map IsEntry (entry_in step top) here (λ k d inside. entry_fits step top (get_or here k d) (are k d inside) (low k d inside))) (pairs_mapped (λ (a b : Entry). key_cmp a.0 b.0 ≡ Less) (entry_in step top) here rise)

pub files_read_back : (step : ℕ) (nodes : List Node) → KeysAscend nodes → All IsKey (keys_of nodes) → All (λ (n : Node). n.1 < 2 ^ 63) nodes → All (λ (f : HierFile). IsReading f.text (entries_of step nodes f.key)) (hierarchy step nodes)
unfolding hierarchy
files_read_back step nodes up keys few =
    All-map (λ (f : HierFile). IsReading f.text (entries_of step nodes f.key)) (file_of step nodes) (filter (λ (n : Node). has_file step n.0) nodes) (λ k d inside. file_read_back step nodes (get_or (filter (λ (n : Node). has_file step n.0) nodes) k d).0 up keys few)
