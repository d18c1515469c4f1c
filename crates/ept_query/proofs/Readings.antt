-- What a hierarchy file is read as: its bytes alone determine the number that it has of a key.
use Rattle.std.proofs.Common.{◌≡◌, ◌≢◌, ◌∙◌, ℕ, suc, zero, ◌<◌, ℤ, List, [], ◌∷◌, ◌++◌, length, get_or, refl, sym, ap, subst, inl, inr, arith, Option, Some, None, Ordering, Less, Equal, Greater, Bool, true, false}
use Rattle.std.specs.Prelude.{pos}
use Rattle.std.specs.Prelude.{if◌then◌else◌}
use Rattle.std.specs.Str.{is_utf8}
use Rattle.std.specs.Option.{option_map, option_and_then}
use Rattle.std.specs.List.{All, AllPairs, AllZip, Contains}
use Rattle.std.specs.List.Sorted.{IsPermutation}
use Rattle.std.specs.Ordering.{nat_cmp, match_ordering, ordering_reverse}
use Rattle.std.specs.Cmp.Lexicographic.{slice_cmp}
use Rattle.std.proofs.lemmas.Cmp.{nat_list_cmp_total, tied_itself}
use Rattle.std.proofs.lemmas.List.Elements.{All-nil, All-cons}
use Rattle.std.proofs.lemmas.List.Kept.{AllPairs-cons}
use Rattle.std.proofs.lemmas.List.Sorted.{IsPermutation-sym, IsPermutation-trans, Contains-permutation, All-permutation}
use Rattle.std.proofs.lemmas.Bool.{cases_lt}
use Rattle.std.proofs.lemmas.List.{get_or_default}
use Rattle.json.specs.Json as json
use Rattle.json.specs.Lex.{tokens}
use Rattle.serde_json.specs.Data.{Data, null, boolean, number, string, array, object, Members, no_members, member, put}
use Rattle.serde_json.specs.Find.{as_object}
use Rattle.serde_json.specs.Read.{of_json, of_members, of_items, number_of, max_depth, read}
use Rattle.ept_json.specs.Document.{document}
use Rattle.ept_space.specs.VoxelKey.{VoxelKey, IsKey}
use Rattle.ept_space.specs.KeyText.{key_text}
use Rattle.ept_space.proofs.KeyTexts.{key_text-injective}
use Rattle.ept_hier.specs.Hierarchy.{Entry}
use Rattle.ept_hier.specs.Reading.{Member, member_list, members_in, IsEntryOf, IsReading, Appends, RefusesMembers, RefusesFile}
use Rattle.ept_hier.specs.declared.hier_error.HierError.{HierError}
use Rattle.ept_hier.specs.declared.hier_error.HierError.TheVariants.{Json, Key, Count, Memory}

-- ---- the names of an object ascend, so each is there once

-- a name is before all of these
Above : List ℕ → Members → Type 0
Above k no_members = Unit {0}
Above k (member l d ms) = (slice_cmp nat_cmp k l ≡ Less) × Above k ms

Rising : Members → Type 0
Rising no_members = Unit {0}
Rising (member k d ms) = Above k ms × Rising ms

above-on : (k l : List ℕ) (ms : Members) → slice_cmp nat_cmp k l ≡ Less → Above l ms → Above k ms
unfolding Above
above-on k l no_members less above = tt
above-on k l (member m d ms) less above = (nat_list_cmp_total.trans k l m less above.0, above-on k l ms less above.1)

above-chosen : (o : Ordering) (k : List ℕ) (a b c : Members) → Above k a → Above k b → Above k c → Above k (match_ordering o a b c)
above-chosen Less k a b c x y z = x
above-chosen Equal k a b c x y z = y
above-chosen Greater k a b c x y z = z

above-put : (k l : List ℕ) (d : Data) (ms : Members) → slice_cmp nat_cmp k l ≡ Less → Above k ms → Above k (put l d ms)
unfolding Above
above-put k l d no_members less above = (less, tt)
above-put k l d (member m e ms) less above =
    above-chosen (slice_cmp nat_cmp l m) k (member l d (member m e ms)) (member m d ms) (member m e (put l d ms)) (less, above) above (above.0, above-put k l d ms less above.1)

put-at : (o : Ordering) (k l : List ℕ) (d e : Data) (ms : Members) → slice_cmp nat_cmp k l ≡ o → Rising (member l e ms) → Rising (put k d ms) → Rising (match_ordering o (member k d (member l e ms)) (member l d ms) (member l e (put k d ms)))
unfolding Above Rising
put-at Less k l d e ms is rising more = ((is, above-on k l ms is rising.0), rising)
put-at Equal k l d e ms is rising more = rising
put-at Greater k l d e ms is rising more =
    let below : slice_cmp nat_cmp l k ≡ Less = nat_list_cmp_total.antisymm l k ∙ ap ordering_reverse is in
    (above-put l k d ms below rising.0, more)

rising-put : (k : List ℕ) (d : Data) (ms : Members) → Rising ms → Rising (put k d ms)
unfolding Above Rising
rising-put k d no_members rising = (tt, tt)
rising-put k d (member l e ms) rising = put-at (slice_cmp nat_cmp k l) k l d e ms refl rising (rising-put k d ms rising.1)

pub some-is : {X : Type 0} {a b : X} → Some a ≡ Some b → a ≡ b
some-is h = cc

-- what is read of a value, and then of the rest
pub then-is : {X Y : Type 0} (f : X → Option Y) (o : Option X) (y : Y) → option_and_then f o ≡ Some y → (x : X) × (o ≡ Some x) × (f x ≡ Some y)
then-is f None y is = absurd (cc)
then-is f (Some x) y is = (x, refl, is)

mapped-is : {X Y : Type 0} (f : X → Y) (o : Option X) (y : Y) → option_map f o ≡ Some y → (x : X) × (o ≡ Some x) × (f x ≡ y)
mapped-is f None y is = absurd (cc)
mapped-is f (Some x) y is = (x, refl, some-is is)

rising-members : (ms : json.Members) (found all : Members) → of_members ms found ≡ Some all → Rising found → Rising all
rising-members json.no_members found all is rising = subst Rising (some-is is) rising
rising-members (json.member k j ms) found all is rising =
    let read = then-is (λ (d : Data). of_members ms (put k d found)) (of_json j) all is in
    rising-members ms (put k read.0 found) all read.2 (rising-put k read.0 found rising)

-- no other value is an object
not-object : (d e : Data) (ms : Members) → d ≡ e → as_object e ≡ None → as_object d ≡ Some ms → ⊥
not-object d e ms is none object_is = let wrong : None ≡ Some ms = sym none ∙ (ap as_object (sym is) ∙ object_is) in cc

rising-object : (j : json.Json) (d : Data) (ms : Members) → of_json j ≡ Some d → as_object d ≡ Some ms → Rising ms
unfolding Rising
rising-object json.null d ms is object_is = absurd (not-object d null ms (sym (some-is is)) refl object_is)
rising-object (json.boolean b) d ms is object_is = absurd (not-object d (boolean b) ms (sym (some-is is)) refl object_is)
rising-object (json.number s) d ms is object_is =
    let n = mapped-is number (number_of s) d is in absurd (not-object d (number n.0) ms (sym n.2) refl object_is)
rising-object (json.string s) d ms is object_is = absurd (not-object d (string s) ms (sym (some-is is)) refl object_is)
rising-object (json.array js) d ms is object_is =
    let items = mapped-is array (of_items js) d is in absurd (not-object d (array items.0) ms (sym items.2) refl object_is)
rising-object (json.object js) d ms is object_is =
    let read = mapped-is object (of_members js no_members) d is in
    let same : ms ≡ read.0 = some-is (sym object_is ∙ ap as_object (sym read.2)) in
    subst Rising (sym same) (rising-members js no_members read.0 read.1 tt)

rising-read : (text : List ℕ) (d : Data) (ms : Members) → read text ≡ Some d → as_object d ≡ Some ms → Rising ms
rising-read text d ms is object_is =
    let found = then-is of_json (option_and_then (λ p. json.if_last p.0 p.1) (json.value max_depth (tokens text))) d is in
    rising-object found.0 d ms found.2 object_is

rising-document : (bytes : List ℕ) (d : Data) (ms : Members) → document bytes ≡ Some d → as_object d ≡ Some ms → Rising ms
unfolding document
rising-document bytes d ms is object_is = by_test (is_utf8 bytes) is
  where
    by_test : (b : Bool) → (if b then read bytes else None) ≡ Some d → Rising ms
    by_test true h = rising-read bytes d ms h object_is
    by_test false h = absurd (cc)

-- the names of members that ascend, each before the later ones
before-all : (k : List ℕ) (d : Data) (ms : Members) → Above k ms → All (λ (m : Member). slice_cmp nat_cmp k m.0 ≡ Less) (member_list ms)
unfolding Above
before-all k d no_members above = All-nil (λ (m : Member). slice_cmp nat_cmp k m.0 ≡ Less)
before-all k d (member l e ms) above =
    All-cons (λ (m : Member). slice_cmp nat_cmp k m.0 ≡ Less) (l, e) (member_list ms) above.0 (before-all k d ms above.1)

NamesAscend : List Member → Type 0
NamesAscend members = AllPairs (λ (m n : Member). slice_cmp nat_cmp m.0 n.0 ≡ Less) members

names-ascend : (ms : Members) → Rising ms → NamesAscend (member_list ms)
unfolding Rising NamesAscend
names-ascend no_members rising = λ i j d less within. absurd (omega arith)
names-ascend (member k d ms) rising =
    AllPairs-cons (λ (m n : Member). slice_cmp nat_cmp m.0 n.0 ≡ Less) (k, d) (member_list ms) (before-all k d ms rising.0) (names-ascend ms rising.1)

members-ascend : (bytes : List ℕ) (members : List Member) → members_in bytes ≡ Some members → NamesAscend members
unfolding members_in
members-ascend bytes members is =
    let found = mapped-is member_list (option_and_then as_object (document bytes)) members is in
    let value = then-is as_object (document bytes) found.0 found.1 in
    subst NamesAscend found.2 (names-ascend found.0 (rising-document bytes value.0 found.0 value.1 value.2))

-- ---- members mean one list of entries

entry-once : (m : Member) (a b : Entry) → IsEntryOf m a → IsEntryOf m b → a ≡ b
entry-once m a b x y =
    let key : a.0 ≡ b.0 = key_text-injective a.0 b.0 x.names.is_key y.names.is_key (x.names.spelled ∙ sym y.names.spelled) in
    let number : a.1 ≡ b.1 = some-is (sym x.number ∙ y.number) in
    ap (λ (k : VoxelKey). let e : Entry = (k, a.1) in e) key ∙ ap (λ (z : ℤ). let e : Entry = (b.0, z) in e) number

said-once : (members : List Member) (one two : List Entry) → AllZip IsEntryOf members one → AllZip IsEntryOf members two → one ≡ two
said-once [] [] [] x y = refl
said-once [] [] (e ∷ two) x y = absurd y
said-once [] (e ∷ one) two x y = absurd x
said-once (m ∷ members) [] two x y = absurd x
said-once (m ∷ members) (e ∷ one) [] x y = absurd y
said-once (m ∷ members) (e ∷ one) (f ∷ two) x y =
    ap (λ (g : Entry). g ∷ one) (entry-once m e f x.0 y.0) ∙ ap (λ (w : List Entry). f ∷ w) (said-once members one two x.1 y.1)

-- two readings of the same bytes have the same entries
pub readings-permute : (bytes : List ℕ) (one two : List Entry) → IsReading bytes one → IsReading bytes two → IsPermutation one two
readings-permute bytes one two x y =
    let members : x.members ≡ y.members = some-is (sym x.object ∙ y.object) in
    let said : y.said ≡ x.said = said-once y.members y.said x.said y.each (subst (λ (w : List Member). AllZip IsEntryOf w x.said) members x.each) in
    IsPermutation-trans one x.said two (IsPermutation-sym x.said one x.same) (subst (λ (w : List Entry). IsPermutation w two) said y.same)

pub readings-same : (bytes : List ℕ) (one two : List Entry) (e : Entry) → IsReading bytes one → IsReading bytes two → Contains one e → Contains two e
readings-same bytes one two e x y has = Contains-permutation one two e (readings-permute bytes one two x y) has

-- ---- a file has one number of a key

-- lists whose items go together, at a place
pub zip-length : {A B : Type 0} (R : A → B → Type 0) (xs : List A) (ys : List B) → AllZip R xs ys → length xs ≡ length ys
zip-length R [] [] each = refl
zip-length R [] (y ∷ ys) each = absurd each
zip-length R (x ∷ xs) [] each = absurd each
zip-length R (x ∷ xs) (y ∷ ys) each = ap suc (zip-length R xs ys each.1)

pub zip-at : {A B : Type 0} (R : A → B → Type 0) (xs : List A) (ys : List B) (i : ℕ) (d : A) (e : B) → AllZip R xs ys → i < length ys → R (get_or xs i d) (get_or ys i e)
zip-at R [] [] i d e each within = absurd (omega arith)
zip-at R [] (y ∷ ys) i d e each within = absurd each
zip-at R (x ∷ xs) [] i d e each within = absurd each
zip-at R (x ∷ xs) (y ∷ ys) zero d e each within = each.0
zip-at R (x ∷ xs) (y ∷ ys) (suc i) d e each within = zip-at R xs ys i d e each.1 (omega arith)

same-name : (members : List Member) (said : List Entry) (i j : ℕ) (a b : Entry) → NamesAscend members → AllZip IsEntryOf members said → i < j → j < length said → get_or said i a ≡ a → get_or said j b ≡ b → a.0 ≡ b.0 → ⊥
unfolding NamesAscend
same-name members said i j a b ascend each less within at_i at_j same =
    let none : Member = ([], null) in
    let size : length members ≡ length said = zip-length IsEntryOf members said each in
    let one : IsEntryOf (get_or members i none) a = subst (λ (e : Entry). IsEntryOf (get_or members i none) e) at_i (zip-at IsEntryOf members said i none a each (omega arith)) in
    let two : IsEntryOf (get_or members j none) b = subst (λ (e : Entry). IsEntryOf (get_or members j none) e) at_j (zip-at IsEntryOf members said j none b each (omega arith)) in
    let below : slice_cmp nat_cmp (get_or members i none).0 (get_or members j none).0 ≡ Less = ascend i j none less (omega arith) in
    let named : (get_or members i none).0 ≡ (get_or members j none).0 = sym one.names.spelled ∙ (ap key_text same ∙ two.names.spelled) in
    let tied : slice_cmp nat_cmp (get_or members j none).0 (get_or members j none).0 ≡ Equal = tied_itself nat_list_cmp_total (get_or members j none).0 in
    let wrong : Less ≡ Equal = sym below ∙ (ap (λ (name : List ℕ). slice_cmp nat_cmp name (get_or members j none).0) named ∙ tied) in
    cc

-- the entries of one key are the same
pub one-entry : (bytes : List ℕ) (entries : List Entry) (a b : Entry) → IsReading bytes entries → Contains entries a → Contains entries b → a.0 ≡ b.0 → a ≡ b
one-entry bytes entries a b reading has_a has_b same =
    let in_a : Contains reading.said a = Contains-permutation entries reading.said a (IsPermutation-sym reading.said entries reading.same) has_a in
    let in_b : Contains reading.said b = Contains-permutation entries reading.said b (IsPermutation-sym reading.said entries reading.same) has_b in
    let ascend : NamesAscend reading.members = members-ascend bytes reading.members reading.object in
    by_place in_a.0 in_b.0 in_a.1 in_b.1 in_a.2 in_b.2 ascend
  where
    by_place : (i j : ℕ) → i < length reading.said → j < length reading.said → get_or reading.said i a ≡ a → get_or reading.said j b ≡ b → NamesAscend reading.members → a ≡ b
    by_place i j in_i in_j at_i at_j ascend = elim (cases_lt i j) [
      | inl less ↦ absurd (same-name reading.members reading.said i j a b ascend reading.each less in_j at_i at_j same)
      | inr above ↦ (elim (cases_lt j i) [
        | inl less ↦ absurd (same-name reading.members reading.said j i b a ascend reading.each less in_i at_j at_i (sym same))
        | inr below ↦ (
            let here : i ≡ j = omega arith in
            sym at_i ∙ (ap (λ (k : ℕ). get_or reading.said k a) here ∙ (get_or_default reading.said j a b in_j ∙ at_j)))
      ])
    ]

-- each entry is of a key
pub each-key : (bytes : List ℕ) (entries : List Entry) → IsReading bytes entries → All (λ (e : Entry). IsKey e.0) entries
each-key bytes entries reading =
    All-permutation (λ (e : Entry). IsKey e.0) reading.said entries reading.same (λ k d within.
    let none : Member = ([], null) in
    let size : length reading.members ≡ length reading.said = zip-length IsEntryOf reading.members reading.said reading.each in
    let one : IsEntryOf (get_or reading.members k none) (get_or reading.said k d) = zip-at IsEntryOf reading.members reading.said k none d reading.each (omega arith) in
    one.names.is_key)

-- ---- what is refused has no reading

-- of members that mean entries, each means an entry
one-said : (members : List Member) (said : List Entry) (m : Member) (k : ℕ) → AllZip IsEntryOf members said → k < length members → get_or members k m ≡ m → (e : Entry) × IsEntryOf m e
one-said members said m k each within at =
    let none : Entry = (record { depth = 0; x = 0; y = 0; z = 0 }, pos 0) in
    let size : length members ≡ length said = zip-length IsEntryOf members said each in
    (get_or said k none, subst (λ (x : Member). IsEntryOf x (get_or said k none)) at (zip-at IsEntryOf members said k m none each (omega arith)))

refused-members : (members : List Member) (said : List Entry) (error : HierError) → RefusesMembers members error → error ≢ Memory → AllZip IsEntryOf members said → ⊥
refused-members members said Json refused other each = refused
refused-members members said Key refused other each =
    let one = one-said members said refused.1 refused.0 each refused.2 refused.3 in
    let said' : Entry = one.0 in
    refused.4 (said'.0, one.1.names)
refused-members members said Count refused other each =
    let some = refused.1 in
    let one = one-said members said some.1 some.0 each some.2 some.3 in
    let said' : Entry = one.0 in
    let wrong : None ≡ Some said'.1 = sym some.4 ∙ one.1.number in cc
refused-members members said Memory refused other each = other refl

pub refused-unread : (bytes : List ℕ) (error : HierError) (entries : List Entry) → RefusesFile bytes error → error ≢ Memory → IsReading bytes entries → ⊥
refused-unread bytes Json entries none other reading = let wrong : None ≡ Some reading.members = sym none ∙ reading.object in cc
refused-unread bytes Key entries refused other reading =
    let same : reading.members ≡ refused.0 = some-is (sym reading.object ∙ refused.1) in
    refused-members refused.0 reading.said Key refused.2 other (subst (λ (w : List Member). AllZip IsEntryOf w reading.said) same reading.each)
refused-unread bytes Count entries refused other reading =
    let same : reading.members ≡ refused.0 = some-is (sym reading.object ∙ refused.1) in
    refused-members refused.0 reading.said Count refused.2 other (subst (λ (w : List Member). AllZip IsEntryOf w reading.said) same reading.each)
refused-unread bytes Memory entries refused other reading = other refl

-- what is appended to nothing is a reading
pub first-reading : (bytes : List ℕ) (old new : List Entry) → old ≡ [] → Appends bytes old new → IsReading bytes new
first-reading bytes old new none appends =
    let same : new ≡ appends.0 = appends.2 ∙ ap (λ (w : List Entry). w ++ appends.0) none in
    subst (IsReading bytes) (sym same) appends.1
