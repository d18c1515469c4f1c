-- Bytes have one reading.
use Rattle.std.proofs.Common.{◌≡◌, ◌≢◌, ◌∙◌, ◌⊎◌, inl, inr, ℕ, zero, suc, ◌+◌, ◌<◌, ◌≤◌, Bool, true, false, cond, List, [], ◌∷◌, length, get_or, refl, sym, ap, subst, arith, Option, Some, None, Ordering}
use Rattle.std.specs.Prelude.{⊤, Contains, sum_by, IsPermutation}
use Rattle.std.specs.declared.cmp.Ordering.TheVariants.{Less, Equal, Greater}
use Rattle.std.specs.Ordering.{nat_cmp, match_ordering, is_eq, is_lt, ordering_reverse}
use Rattle.std.specs.Option.{option_map, option_and_then}
use Rattle.std.specs.Cmp.Lexicographic.{slice_cmp}
use Rattle.std.specs.Str.{is_utf8}
use Rattle.std.specs.List.{All, AllZip}
use Rattle.std.specs.List.Sorted.{IsSortedByKey}
use Rattle.std.proofs.lemmas.Cmp.{nat_list_cmp_total, tied_itself}
use Rattle.std.proofs.lemmas.List.Sorted.{sorted_far, ranks_by, All-permutation, sum_by-IsPermutation}
use Rattle.std.proofs.lemmas.List.Elements.{All-nil, All-cons, All-head, All-tail, All-contains, All-contains_itself}
use Rattle.std.proofs.lemmas.List.Sums.{sum_by-cons}
use Rattle.json.specs.Json as json
use Rattle.serde_json.specs.Data.{Data, null, boolean, number, string, array, object, Members, no_members, member, put}
use Rattle.serde_json.specs.Read.{read, max_depth, number_of, of_json, of_items, of_members}
use Rattle.json.specs.Lex.{tokens}
use Rattle.serde_json.specs.Find.{as_object}
use Rattle.ept_json.specs.Document.{document}
use Rattle.ept_space.specs.VoxelKey.{VoxelKey, key_cmp}
use Rattle.ept_space.specs.KeyText.{key_text}
use Rattle.ept_space.proofs.KeyTexts.{key_text-injective}
use Rattle.ept_space.proofs.KeyOrder.{key_cmp_total, key_cmp-equal, key_cmp-same}
use Rattle.ept_hier.specs.Hierarchy.{Entry}
use Rattle.ept_hier.specs.Reading.{Member, member_list, members_in, IsEntryOf, IsReading}

-- ---- the names of an object that is read ascend, so no two are the same

-- a name comes before those of the members
abbrev IsFirst : List ℕ → Members → Type 0
IsFirst k no_members = ⊤
IsFirst k (member l d ms) = (slice_cmp nat_cmp k l ≡ Less) × IsFirst k ms

abbrev Rise : Members → Type 0
Rise no_members = ⊤
Rise (member k d ms) = IsFirst k ms × Rise ms

abbrev DataRises : Data → Type 0
DataRises null = ⊤
DataRises (boolean b) = ⊤
DataRises (number n) = ⊤
DataRises (string s) = ⊤
DataRises (array ds) = ⊤
DataRises (object ms) = Rise ms

first_before : (k l : List ℕ) (ms : Members) → slice_cmp nat_cmp k l ≡ Less → IsFirst l ms → IsFirst k ms
first_before k l no_members less first = tt
first_before k l (member m d ms) less first = (nat_list_cmp_total.trans k l m less first.0, first_before k l ms less first.1)

turned : (k l : List ℕ) → slice_cmp nat_cmp k l ≡ Greater → slice_cmp nat_cmp l k ≡ Less
turned k l greater = nat_list_cmp_total.antisymm l k ∙ ap ordering_reverse greater

first_chosen : (o : Ordering) (j : List ℕ) (a b c : Members) → IsFirst j a → IsFirst j b → IsFirst j c → IsFirst j (match_ordering o a b c)
first_chosen Less j a b c x y z = x
first_chosen Equal j a b c x y z = y
first_chosen Greater j a b c x y z = z

first_put : (j k : List ℕ) (d : Data) (ms : Members) → slice_cmp nat_cmp j k ≡ Less → IsFirst j ms → IsFirst j (put k d ms)
first_put j k d no_members less first = (less, tt)
first_put j k d (member l e ms) less first =
    first_chosen (slice_cmp nat_cmp k l) j (member k d (member l e ms)) (member l d ms) (member l e (put k d ms)) (less, first) first (first.0, first_put j k d ms less first.1)

rise_chosen : (o : Ordering) (k l : List ℕ) (d e : Data) (ms rest : Members) → slice_cmp nat_cmp k l ≡ o → IsFirst l ms → Rise ms → (slice_cmp nat_cmp l k ≡ Less → IsFirst l rest) → Rise rest → Rise (match_ordering o (member k d (member l e ms)) (member l d ms) (member l e rest))
rise_chosen Less k l d e ms rest is first up then up' = ((is, first_before k l ms is first), (first, up))
rise_chosen Equal k l d e ms rest is first up then up' = (first, up)
rise_chosen Greater k l d e ms rest is first up then up' = (then (turned k l is), up')

rise_put : (k : List ℕ) (d : Data) (ms : Members) → Rise ms → Rise (put k d ms)
rise_put k d no_members up = (tt, tt)
rise_put k d (member l e ms) up =
    rise_chosen (slice_cmp nat_cmp k l) k l d e ms (put k d ms) refl up.0 up.1 (λ less. first_put l k d ms less up.0) (rise_put k d ms up.1)

-- what is read, if it is an object
abbrev ReadRises : Option Data → Type 0
ReadRises None = ⊤
ReadRises (Some d) = DataRises d

abbrev MembersRise : Option Members → Type 0
MembersRise None = ⊤
MembersRise (Some ms) = Rise ms

members_then : (o : Option Data) (rest : Data → Option Members) → ((d : Data) → MembersRise (rest d)) → MembersRise (option_and_then rest o)
members_then None rest each = tt
members_then (Some d) rest each = each d

members_rise : (ms : json.Members) (found : Members) → Rise found → MembersRise (of_members ms found)
members_rise json.no_members found up = up
members_rise (json.member k j ms) found up =
    members_then (of_json j) (λ d. of_members ms (put k d found)) (λ d. members_rise ms (put k d found) (rise_put k d found up))

as_data : {A : Type 0} (f : A → Data) (o : Option A) → ((a : A) → DataRises (f a)) → ReadRises (option_map f o)
as_data f None each = tt
as_data f (Some a) each = each a

as_members : (o : Option Members) → MembersRise o → ReadRises (option_map object o)
as_members None up = tt
as_members (Some ms) up = up

json_rises : (j : json.Json) → ReadRises (of_json j)
json_rises json.null = tt
json_rises (json.boolean b) = tt
json_rises (json.number s) = as_data number (number_of s) (λ n. tt)
json_rises (json.string s) = tt
json_rises (json.array js) = as_data array (of_items js) (λ ds. tt)
json_rises (json.object ms) = as_members (of_members ms no_members) (members_rise ms no_members tt)

then_rises : {A : Type 0} (f : A → Option Data) (o : Option A) → ((a : A) → ReadRises (f a)) → ReadRises (option_and_then f o)
then_rises f None each = tt
then_rises f (Some a) each = each a

read_rises : (text : List ℕ) → ReadRises (read text)
read_rises text = then_rises of_json (option_and_then (λ p. json.if_last p.0 p.1) (json.value max_depth (tokens text))) json_rises

test_rises : (b : Bool) (o : Option Data) → ReadRises o → ReadRises (cond b o None)
test_rises true o up = up
test_rises false o up = tt

document_rises : (bytes : List ℕ) → ReadRises (document bytes)
unfolding document
document_rises bytes = test_rises (is_utf8 bytes) (read bytes) (read_rises bytes)

-- no two members have the same name
abbrev NamesApart : List Member → Type 0
NamesApart [] = ⊤
NamesApart (m ∷ ms) = All (λ (x : Member). m.0 ≢ x.0) ms × NamesApart ms

first_apart : (k : List ℕ) (ms : Members) → IsFirst k ms → All (λ (x : Member). k ≢ x.0) (member_list ms)
first_apart k no_members first = All-nil (λ (x : Member). k ≢ x.0)
first_apart k (member l d ms) first =
    All-cons (λ (x : Member). k ≢ x.0) (l, d) (member_list ms) (λ same. let less : slice_cmp nat_cmp k k ≡ Less = subst (λ (w : List ℕ). slice_cmp nat_cmp k w ≡ Less) (sym same) first.0 in let tied : slice_cmp nat_cmp k k ≡ Equal = tied_itself nat_list_cmp_total k in cc) (first_apart k ms first.1)

rise_apart : (ms : Members) → Rise ms → NamesApart (member_list ms)
rise_apart no_members up = tt
rise_apart (member k d ms) up = (first_apart k ms up.0, rise_apart ms up.1)

object_apart : (d : Data) (ms : List Member) → DataRises d → option_map member_list (as_object d) ≡ Some ms → NamesApart ms
object_apart null ms up is = absurd (cc)
object_apart (boolean b) ms up is = absurd (cc)
object_apart (number n) ms up is = absurd (cc)
object_apart (string s) ms up is = absurd (cc)
object_apart (array ds) ms up is = absurd (cc)
object_apart (object found) ms up is = let same : member_list found ≡ ms = cc in subst NamesApart same (rise_apart found up)

found_apart : (o : Option Data) (ms : List Member) → ReadRises o → option_map member_list (option_and_then as_object o) ≡ Some ms → NamesApart ms
found_apart None ms up is = absurd (cc)
found_apart (Some d) ms up is = object_apart d ms up is

members_apart : (bytes : List ℕ) (ms : List Member) → members_in bytes ≡ Some ms → NamesApart ms
unfolding members_in
members_apart bytes ms is = found_apart (document bytes) ms (document_rises bytes) is

-- ---- members have one list of entries

one_entry : (m : Member) (e f : Entry) → IsEntryOf m e → IsEntryOf m f → e ≡ f
one_entry m e f is_e is_f =
    let key : e.0 ≡ f.0 = key_text-injective e.0 f.0 is_e.names.is_key is_f.names.is_key (is_e.names.spelled ∙ sym is_f.names.spelled) in
    let both : Some e.1 ≡ Some f.1 = sym is_e.number ∙ is_f.number in
    let value : e.1 ≡ f.1 = cc in
    λ i. (key i, value i)

one_said : (ms : List Member) (xs ys : List Entry) → AllZip IsEntryOf ms xs → AllZip IsEntryOf ms ys → xs ≡ ys
one_said [] [] [] first second = refl
one_said [] [] (y ∷ ys) first second = absurd second
one_said [] (x ∷ xs) ys first second = absurd first
one_said (m ∷ ms) [] ys first second = absurd first
one_said (m ∷ ms) (x ∷ xs) [] first second = absurd second
one_said (m ∷ ms) (x ∷ xs) (y ∷ ys) first second = λ i. one_entry m x y first.0 second.0 i ∷ one_said ms xs ys first.1 second.1 i

-- ---- a key has one entry among them

key_apart : (m : Member) (e : Entry) (ms : List Member) (es : List Entry) → IsEntryOf m e → AllZip IsEntryOf ms es → All (λ (x : Member). m.0 ≢ x.0) ms → All (λ (f : Entry). e.0 ≢ f.0) es
key_apart m e [] [] is each apart = All-nil (λ (f : Entry). e.0 ≢ f.0)
key_apart m e [] (f ∷ es) is each apart = absurd each
key_apart m e (x ∷ ms) [] is each apart = absurd each
key_apart m e (x ∷ ms) (f ∷ es) is each apart =
    All-cons (λ (g : Entry). e.0 ≢ g.0) f es (λ same. All-head (λ (y : Member). m.0 ≢ y.0) x ms apart (sym is.names.spelled ∙ (ap key_text same ∙ each.0.names.spelled))) (key_apart m e ms es is each.1 (All-tail (λ (y : Member). m.0 ≢ y.0) x ms apart))

-- a member of a list is its head, or one of the rest
among : (x : Entry) (xs : List Entry) (e : Entry) → Contains (x ∷ xs) e → (x ≡ e) ⊎ Contains xs e
among x xs e (zero, below, is) = inl is
among x xs e (suc k, below, is) = inr (k, omega (arith, below), is)

abbrev OneEach : List Entry → Type 0
OneEach es = (e f : Entry) → Contains es e → Contains es f → e.0 ≡ f.0 → e ≡ f

apart_from : (e f : Entry) (es : List Entry) → All (λ (g : Entry). e.0 ≢ g.0) es → Contains es f → e.0 ≡ f.0 → ⊥
apart_from e f es apart there same = All-contains (λ (g : Entry). e.0 ≢ g.0) es f apart there same

one_each : (ms : List Member) (es : List Entry) → NamesApart ms → AllZip IsEntryOf ms es → OneEach es
one_each [] [] apart each = λ e f there there' same. absurd (let below : there.0 < 0 = there.1 in omega arith)
one_each [] (x ∷ es) apart each = absurd each
one_each (m ∷ ms) [] apart each = absurd each
one_each (m ∷ ms) (x ∷ es) apart each =
    let away = key_apart m x ms es each.0 each.1 apart.0 in
    λ e f there there' same. elim (among x es e there) [
      | inl is ↦ elim (among x es f there') [ inl is' ↦ sym is ∙ is' | inr later ↦ absurd (apart_from x f es away later (ap (λ (w : Entry). w.0) is ∙ same)) ]
      | inr later ↦ elim (among x es f there') [ inl is' ↦ absurd (apart_from x e es away later (ap (λ (w : Entry). w.0) is' ∙ sym same)) | inr later' ↦ one_each ms es apart.1 each.1 e f later later' same ]
    ]

-- ---- sorted lists with the same entries are the same

-- 1 if the entry has the key, otherwise 0
once_at : VoxelKey → Entry → ℕ
once_at key e = cond (is_eq (key_cmp key e.0)) 1 0

abbrev counted : VoxelKey → List Entry → ℕ
counted key [] = 0
counted key (e ∷ es) = once_at key e + counted key es

counted_sum : (key : VoxelKey) (es : List Entry) → counted key es ≡ sum_by (once_at key) es
counted_sum key [] = refl
counted_sum key (e ∷ es) = ap (λ n. once_at key e + n) (counted_sum key es) ∙ sym (sum_by-cons (once_at key) e es)

-- no later entry comes before an earlier one
abbrev InOrder : List Entry → Type 0
InOrder es = (i j : ℕ) (d : Entry) → i ≤ j → j < length es → is_lt (key_cmp (get_or es j d).0 (get_or es i d).0) ≡ false

order_rest : (e : Entry) (es : List Entry) → InOrder (e ∷ es) → InOrder es
order_rest e es up = λ i j d low high. up (suc i) (suc j) d (omega (arith, low)) (omega (arith, high))

equal_from : (o : Ordering) → is_eq o ≡ true → o ≡ Equal
equal_from Less is = absurd (cc)
equal_from Equal is = refl
equal_from Greater is = absurd (cc)

found_step : (key : VoxelKey) (e : Entry) (es : List Entry) (b : Bool) → is_eq (key_cmp key e.0) ≡ b → 0 < cond b 1 0 + counted key es → (0 < counted key es → (f : Entry) × Contains es f × (f.0 ≡ key)) → (f : Entry) × Contains (e ∷ es) f × (f.0 ≡ key)
found_step key e es true is some rest = (e, (0, omega arith, refl), sym (key_cmp-equal key e.0 (equal_from (key_cmp key e.0) is)))
found_step key e es false is some rest =
    let f = rest (omega (arith, some)) in (f.0, (suc f.1.0, omega (arith, f.1.1), f.1.2), f.2)

found : (key : VoxelKey) (es : List Entry) → 0 < counted key es → (f : Entry) × Contains es f × (f.0 ≡ key)
unfolding once_at
found key [] some = absurd (omega (arith, some))
found key (e ∷ es) some = found_step key e es (is_eq (key_cmp key e.0)) refl some (found key es)

counted_itself : (e : Entry) (es : List Entry) → counted e.0 (e ∷ es) ≡ 1 + counted e.0 es
unfolding once_at
counted_itself e es = ap (λ o. cond (is_eq o) 1 0 + counted e.0 es) (key_cmp-same e.0 e.0 refl)

-- two keys are the same if neither comes before the other
neither_before : (o : Ordering) (a b : VoxelKey) → key_cmp a b ≡ o → is_lt (key_cmp a b) ≡ false → is_lt (key_cmp b a) ≡ false → a ≡ b
neither_before Less a b is first second = let less : is_lt (key_cmp a b) ≡ true = ap is_lt is in let e : true ≡ false = sym less ∙ first in absurd (cc)
neither_before Equal a b is first second = key_cmp-equal a b is
neither_before Greater a b is first second =
    let less : is_lt (key_cmp b a) ≡ true = ap is_lt (key_cmp_total.antisymm b a ∙ ap ordering_reverse is) in let e : true ≡ false = sym less ∙ second in absurd (cc)

-- no entry of a sorted list comes before its head
head_first : (x : Entry) (xs : List Entry) (f : Entry) → InOrder (x ∷ xs) → Contains (x ∷ xs) f → is_lt (key_cmp f.0 x.0) ≡ false
head_first x xs f up there =
    subst (λ (w : Entry). is_lt (key_cmp w.0 x.0) ≡ false) there.2 (up 0 there.0 f (omega arith) there.1)

heads_same : (x y : Entry) (xs ys : List Entry) → InOrder (x ∷ xs) → InOrder (y ∷ ys) → ((key : VoxelKey) → counted key (x ∷ xs) ≡ counted key (y ∷ ys)) → x.0 ≡ y.0
heads_same x y xs ys up up' same =
    let in_ys = found x.0 (y ∷ ys) (omega (arith, same x.0, counted_itself x xs)) in
    let in_xs = found y.0 (x ∷ xs) (omega (arith, same y.0, counted_itself y ys)) in
    let first : is_lt (key_cmp x.0 y.0) ≡ false = subst (λ (k : VoxelKey). is_lt (key_cmp k y.0) ≡ false) in_ys.2 (head_first y ys in_ys.0 up' in_ys.1) in
    let second : is_lt (key_cmp y.0 x.0) ≡ false = subst (λ (k : VoxelKey). is_lt (key_cmp k x.0) ≡ false) in_xs.2 (head_first x xs in_xs.0 up in_xs.1) in
    neither_before (key_cmp x.0 y.0) x.0 y.0 refl first second

none_counted : (e : Entry) (es : List Entry) → counted e.0 [] ≡ counted e.0 (e ∷ es) → ⊥
none_counted e es same = let there = counted_itself e es in let none : 0 ≡ counted e.0 (e ∷ es) = same in absurd (omega (arith, there, none))

counted_rest : (key : VoxelKey) (x y : Entry) (xs ys : List Entry) → x ≡ y → counted key (x ∷ xs) ≡ counted key (y ∷ ys) → counted key xs ≡ counted key ys
counted_rest key x y xs ys first same = omega (arith, ap (once_at key) first, same)

module _ (all : List Entry) (one : OneEach all) where
  same_sorted : (xs ys : List Entry) → InOrder xs → InOrder ys → ((key : VoxelKey) → counted key xs ≡ counted key ys) → All (Contains all) xs → All (Contains all) ys → xs ≡ ys
  same_sorted [] [] up up' same of_all of_all' = refl
  same_sorted [] (y ∷ ys) up up' same of_all of_all' = absurd (none_counted y ys (same y.0))
  same_sorted (x ∷ xs) [] up up' same of_all of_all' = absurd (none_counted x xs (sym (same x.0)))
  same_sorted (x ∷ xs) (y ∷ ys) up up' same of_all of_all' =
      let key : x.0 ≡ y.0 = heads_same x y xs ys up up' same in
      let first : x ≡ y = one x y (All-head (Contains all) x xs of_all) (All-head (Contains all) y ys of_all') key in
      let rest = same_sorted xs ys (order_rest x xs up) (order_rest y ys up') (λ k. counted_rest k x y xs ys first (same k)) (All-tail (Contains all) x xs of_all) (All-tail (Contains all) y ys of_all') in
      λ i. first i ∷ rest i

in_order : (es : List Entry) → IsSortedByKey (λ (e : Entry). e.0) key_cmp es → InOrder es
in_order es up = sorted_far (λ x y. is_lt (key_cmp x.0 y.0)) (ranks_by key_cmp_total (λ (e : Entry). e.0)) es up

same_counts : (xs ys : List Entry) (key : VoxelKey) → IsPermutation xs ys → counted key ys ≡ counted key xs
same_counts xs ys key h = counted_sum key ys ∙ (sum_by-IsPermutation (once_at key) xs ys h ∙ sym (counted_sum key xs))

-- ---- so there is one reading

pub reading-once : (bytes : List ℕ) (a b : List Entry) → IsReading bytes a → IsReading bytes b → a ≡ b
reading-once bytes a b is_a is_b =
    let both : Some is_a.members ≡ Some is_b.members = sym is_a.object ∙ is_b.object in
    let members : is_b.members ≡ is_a.members = cc in
    let said : is_b.said ≡ is_a.said = one_said is_a.members is_b.said is_a.said (subst (λ (ms : List Member). AllZip IsEntryOf ms is_b.said) members is_b.each) is_a.each in
    let of_b : IsPermutation is_a.said b = subst (λ (es : List Entry). IsPermutation es b) said is_b.same in
    same_sorted is_a.said (one_each is_a.members is_a.said (members_apart bytes is_a.members is_a.object) is_a.each) a b (in_order a is_a.ordered) (in_order b is_b.ordered)
    (λ key. same_counts is_a.said a key is_a.same ∙ sym (same_counts is_a.said b key of_b))
    (All-permutation (Contains is_a.said) is_a.said a is_a.same (All-contains_itself is_a.said)) (All-permutation (Contains is_a.said) is_a.said b of_b (All-contains_itself is_a.said))
