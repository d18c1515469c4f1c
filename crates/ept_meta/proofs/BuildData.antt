-- The build file is the compact text of a JSON value.
use Rattle.std.proofs.Common.{◌≡◌, ◌∙◌, ℕ, suc, ◌^◌, ◌/◌, ◌%◌, ◌<◌, ◌≤◌, ℤ, pos, negsuc, Bool, true, false, List, [], ◌∷◌, ◌++◌, codes, decimal, length, Option, Some, None, inl, inr, refl, sym, ap, ap₂, subst, arith, append_assoc, append-nil, unsigned_abs}
use Rattle.std.specs.Prelude.{⊤, FitsSigned, nat_lt, slice_index}
use Rattle.std.specs.Option.{ForSome}
use Rattle.std.specs.Int.{w32}
use Rattle.std.specs.Fmt.{signed_decimal}
use Rattle.std.specs.List.{flat_map, join_by, list_all, All}
use Rattle.std.specs.Str.{IsUtf8}
use Rattle.std.proofs.lemmas.Bool.{and_parts, cases_eq, ne_eqb, leb-true}
use Rattle.std.proofs.lemmas.Int.{ints}
use Rattle.std.proofs.lemmas.Str.{IsUtf8-from_is_utf8}
use Rattle.std.proofs.lemmas.List.Elements.{All-from_recursion}
use Rattle.std.proofs.Math.Nat.{max-le}
use Rattle.std.proofs.Math.Pow.{pow_mono}
use Rattle.json.specs.Print as print
use Rattle.json.specs.Print.{escape, escape_byte}
use Rattle.json.proofs.Printed.Strings.{escape_byte_plain}
use Rattle.json.proofs.Printed.Utf8.{IsUtf8-are_ascii, are_ascii}
use Rattle.hex.specs.Hex.{encode_lower, encode_with, lower_digits}
use Rattle.serde_json.specs.Data.{Data, boolean, number, string, array, object, unsigned, Items, no_items, item, Members, no_members, member, depth, items_depth, members_depth}
use Rattle.serde_json.specs.Find.{of_integer}
use Rattle.serde_json.specs.Written.{number_text, compact_text, items_text, members_text}
use Rattle.ept_space.specs.declared.bounds.Bounds.{Bounds}
use Rattle.ept_config.specs.declared.input.Input.{Input}
use Rattle.ept_config.specs.declared.srs.Srs.{Srs}
use Rattle.ept_config.specs.declared.kept.Kept.{Kept}
use Rattle.ept_config.specs.InputRanges.{AreThreeWithin, AreBytes}
use Rattle.ept_config.specs.Ranges.{AreCoordinates}
use Rattle.ept_config.specs.Texts.{is_shown, is_plain, is_path, is_srs_text}
use Rattle.ept_config_text.specs.Inputs.{is_lower_digit}
use Rattle.ept_meta.specs.Classes.{members_of}
use Rattle.ept_meta.specs.Json.{escaped, quoted, number_member, naturals_text, wholes, wholes_text}
use Rattle.ept_meta.specs.SrsObject.{Member, member_text, given, members, srs_text}
use Rattle.ept_meta.specs.BuildText.{first_member, last_member, expect_text, input_text, inputs_text, stored_bounds_text, units_text, octree_text, build_text}
use Rattle.ept_json.specs.Document.{document}
use Rattle.ept_meta.proofs.ClassMembers.{naturals, AreSmall, members_small}
use Rattle.ept_meta.proofs.JsonTexts.{IsSpelled, AreSpelled, HaveSpelled, IsWhole, ordered, compact_document}

-- ---- the value

-- whole numbers, and other items after them
abbrev pub numbers : List ℤ → Items → Items
numbers [] rest = rest
numbers (z ∷ zs) rest = item (number (of_integer z)) (numbers zs rest)

abbrev pub natural_value : ℕ → Data
natural_value n = number (unsigned n)

abbrev pub wholes_value : List ℤ → Data
wholes_value zs = array (numbers zs no_items)

abbrev pub bounds_value : Bounds → Data
bounds_value box = array (numbers box.min (numbers box.max no_items))

-- texts with their keys
abbrev pub texts_value : List Member → Members
texts_value [] = no_members
texts_value (m ∷ ms) = member m.0 (string m.1) (texts_value ms)

abbrev pub srs_value : Srs → Data
srs_value srs = object (texts_value (members srs))

abbrev pub expect_value : Option (List ℕ) → Members
expect_value (Some bytes) = member (codes "expect") (string (encode_lower bytes)) no_members
expect_value None = no_members

abbrev pub input_value : Input → Data
input_value i =
    object (member (codes "path") (string i.path) (member (codes "scale") (natural_value i.scale) (member (codes "shift") (wholes_value i.shift) (expect_value i.expect))))

abbrev pub inputs_value : List Input → Items
inputs_value [] = no_items
inputs_value (i ∷ is) = item (input_value i) (inputs_value is)

-- the classes that come first, if there are any, before other members
abbrev pub first_value : List ℕ → Members → Members
first_value [] rest = rest
first_value (class ∷ classes) rest = member (codes "firstClasses") (array (naturals (class ∷ classes))) rest

-- that withheld points come last, if they do, before other members
abbrev pub last_value : Bool → Members → Members
last_value true rest = member (codes "withheldLast") (boolean true) rest
last_value false rest = rest

-- what is kept, with these classes first, and with withheld points last or not
abbrev pub build_value_with : Kept → List ℕ → Bool → Data
build_value_with k classes last =
    object
    (member (codes "scale") (natural_value k.scale)
    (member (codes "offset") (wholes_value k.offset)
    (member (codes "bounds") (bounds_value k.bounds)
    (member (codes "span") (natural_value (2 ^ k.s))
    (member (codes "minNodeSize") (natural_value k.threshold)
    (member (codes "maxDepth") (natural_value k.max_depth)
    (member (codes "hierarchyStep") (natural_value k.step)
    (member (codes "srs") (srs_value k.srs)
    (first_value classes (last_value last (member (codes "input") (array (inputs_value k.inputs)) no_members)))))))))))

abbrev pub build_value : Kept → Data
build_value k = build_value_with k (members_of k.first) k.withheld_last

-- ---- strings

shown_escape : (byte : ℕ) → is_shown byte ≡ true → escape_byte byte ≡ escaped byte
unfolding escape_byte
shown_escape byte shown = elim (cases_eq byte 34) [
  | inl same ↦ subst (λ (n : ℕ). escape_byte n ≡ escaped n) (sym same) refl
  | inr no_mark ↦ elim (cases_eq byte 92) [
    | inl same ↦ subst (λ (n : ℕ). escape_byte n ≡ escaped n) (sym same) refl
    | inr no_slash ↦ escape_byte_plain byte no_mark no_slash (leb-true 32 byte (and_parts _ _ shown).0) ∙ sym (rw (ne_eqb byte 34 no_mark, ne_eqb byte 92 no_slash))
  ]
]

shown_escapes : (text : List ℕ) → list_all is_shown text ≡ true → escape text ≡ flat_map escaped text
shown_escapes [] shown = refl
shown_escapes (byte ∷ text) shown =
    let both = and_parts (is_shown byte) (list_all is_shown text) shown in ap₂ (λ (a b : List ℕ). a ++ b) (shown_escape byte both.0) (shown_escapes text both.1)

pub string_written : (text : List ℕ) → list_all is_shown text ≡ true → print.quoted text ≡ quoted text
unfolding quoted
string_written text shown = ap (λ (s : List ℕ). 34 ∷ (s ++ 34 ∷ [])) (shown_escapes text shown)

pub plain_utf8 : (text : List ℕ) → is_plain text ≡ true → IsUtf8 text
unfolding is_plain
plain_utf8 text plain = IsUtf8-from_is_utf8 text (and_parts _ _ plain).0

pub plain_shown : (text : List ℕ) → is_plain text ≡ true → list_all is_shown text ≡ true
unfolding is_plain
plain_shown text plain = (and_parts _ _ plain).1

pub path_plain : (text : List ℕ) → is_path text ≡ true → is_plain text ≡ true
unfolding is_path
path_plain text is = (and_parts _ _ is).0

pub srs_plain : (text : List ℕ) → is_srs_text text ≡ true → is_plain text ≡ true
unfolding is_srs_text
srs_plain text is = (and_parts _ _ is).0

-- ---- bytes in hexadecimal

abbrev IsDigit : ℕ → Type 0
IsDigit c = (is_lower_digit c ≡ true) × (is_shown c ≡ true) × (nat_lt c 128 ≡ true)

table_digits : All IsDigit lower_digits
table_digits =
    All-from_recursion IsDigit lower_digits ((refl, refl, refl), ((refl, refl, refl), ((refl, refl, refl), ((refl, refl, refl), ((refl, refl, refl), ((refl, refl, refl), ((refl, refl, refl), ((refl, refl, refl), ((refl, refl, refl), ((refl, refl, refl), ((refl, refl, refl), ((refl, refl, refl), ((refl, refl, refl), ((refl, refl, refl), ((refl, refl, refl), ((refl, refl, refl), tt))))))))))))))))

bytes_later : (b : ℕ) (bytes : List ℕ) → ((i : ℕ) → slice_index (b ∷ bytes) i < 2 ^ 8) → (i : ℕ) → slice_index bytes i < 2 ^ 8
bytes_later b bytes fit i = fit (suc i)

pub digits_are : (bytes : List ℕ) → ((i : ℕ) → slice_index bytes i < 2 ^ 8) → (list_all is_lower_digit (encode_lower bytes) ≡ true) × (list_all is_shown (encode_lower bytes) ≡ true) × (are_ascii (encode_lower bytes) ≡ true)
unfolding encode_with
digits_are [] fit = (refl, refl, refl)
digits_are (b ∷ bytes) fit =
    let small : b < 256 = fit 0 in
    let above : b / 16 < 16 = omega arith in
    let below : b % 16 < 16 = omega arith in
    let high : IsDigit (slice_index lower_digits (b / 16)) = table_digits (b / 16) 0 above in
    let low : IsDigit (slice_index lower_digits (b % 16)) = table_digits (b % 16) 0 below in
    let rest = digits_are bytes (bytes_later b bytes fit) in
    (rw (high.0, low.0) rest.0, rw (high.1, low.1) rest.1, rw (high.2, low.2) rest.2)

-- ---- numbers

pub whole_written : (z : ℤ) → number_text (of_integer z) ≡ signed_decimal z
whole_written (pos n) = refl
whole_written (negsuc n) = refl

three_layout : (begun comma ended x y z : List ℕ) → begun ++ (x ++ (comma ++ (y ++ (comma ++ (z ++ ended))))) ≡ begun ++ (x ++ ((comma ++ y) ++ ((comma ++ z) ++ []))) ++ ended
three_layout begun comma ended x y z = simp (append_assoc, append-nil)

wholes_written : (zs : List ℤ) → length zs ≡ 3 → compact_text (wholes_value zs) ≡ wholes_text zs
unfolding wholes_text
wholes_written (x ∷ y ∷ z ∷ []) three =
    (λ i. 91 ∷ (whole_written x i ++ 44 ∷ (whole_written y i ++ 44 ∷ (whole_written z i ++ 93 ∷ [])))) ∙ three_layout (codes "[") (codes ",") (codes "]") (signed_decimal x) (signed_decimal y) (signed_decimal z)
wholes_written [] three = absurd (omega (arith, three))
wholes_written (x ∷ []) three = absurd (omega (arith, three))
wholes_written (x ∷ y ∷ []) three = absurd (omega (arith, three))
wholes_written (x ∷ y ∷ z ∷ a ∷ zs) three = absurd (omega (arith, three))

six_layout : (begun comma ended a b c x y z : List ℕ) → begun ++ (a ++ (comma ++ (b ++ (comma ++ (c ++ (comma ++ (x ++ (comma ++ (y ++ (comma ++ (z ++ ended))))))))))) ≡ begun ++ (a ++ ((comma ++ b) ++ ((comma ++ c) ++ []))) ++ comma ++ (x ++ ((comma ++ y) ++ ((comma ++ z) ++ []))) ++ ended
six_layout begun comma ended a b c x y z = simp (append_assoc, append-nil)

six_written : (low high : List ℤ) → length low ≡ 3 → length high ≡ 3 → compact_text (array (numbers low (numbers high no_items))) ≡ codes "[" ++ wholes low ++ codes "," ++ wholes high ++ codes "]"
six_written (a ∷ b ∷ c ∷ []) (x ∷ y ∷ z ∷ []) three_low three_high =
    (λ i. 91 ∷ (whole_written a i ++ 44 ∷ (whole_written b i ++ 44 ∷ (whole_written c i ++ 44 ∷ (whole_written x i ++ 44 ∷ (whole_written y i ++ 44 ∷ (whole_written z i ++ 93 ∷ []))))))) ∙ six_layout (codes "[") (codes ",") (codes "]") (signed_decimal a) (signed_decimal b) (signed_decimal c) (signed_decimal x) (signed_decimal y) (signed_decimal z)
six_written [] high three_low three_high = absurd (omega (arith, three_low))
six_written (a ∷ []) high three_low three_high = absurd (omega (arith, three_low))
six_written (a ∷ b ∷ []) high three_low three_high = absurd (omega (arith, three_low))
six_written (a ∷ b ∷ c ∷ d ∷ low) high three_low three_high = absurd (omega (arith, three_low))
six_written (a ∷ b ∷ c ∷ []) [] three_low three_high = absurd (omega (arith, three_high))
six_written (a ∷ b ∷ c ∷ []) (x ∷ []) three_low three_high = absurd (omega (arith, three_high))
six_written (a ∷ b ∷ c ∷ []) (x ∷ y ∷ []) three_low three_high = absurd (omega (arith, three_high))
six_written (a ∷ b ∷ c ∷ []) (x ∷ y ∷ z ∷ w ∷ high) three_low three_high = absurd (omega (arith, three_high))

bounds_written : (box : Bounds) → length box.min ≡ 3 → length box.max ≡ 3 → compact_text (bounds_value box) ≡ stored_bounds_text box
unfolding stored_bounds_text
bounds_written box low high = six_written box.min box.max low high

-- ---- the spatial reference

-- keys and texts without control bytes
abbrev ArePlain : List Member → Type 0
ArePlain [] = ⊤
ArePlain (m ∷ ms) = ((list_all is_shown m.0 ≡ true) × (are_ascii m.0 ≡ true)) × (is_plain m.1 ≡ true) × ArePlain ms

member_layout : (k t rest : List ℕ) → k ++ 58 ∷ (t ++ rest) ≡ (k ++ codes ":" ++ t) ++ rest
member_layout k t rest = simp append_assoc

one_written : (m : Member) (rest : List ℕ) → list_all is_shown m.0 ≡ true → is_plain m.1 ≡ true → print.quoted m.0 ++ 58 ∷ (print.quoted m.1 ++ rest) ≡ member_text m ++ rest
unfolding member_text
one_written m rest key text =
    (λ i. string_written m.0 key i ++ 58 ∷ (string_written m.1 (plain_shown m.1 text) i ++ rest)) ∙ member_layout (quoted m.0) (quoted m.1) rest

later_texts : (ms : List Member) → ArePlain ms → members_text true (texts_value ms) ≡ flat_map (λ m. codes "," ++ member_text m) ms ++ codes "}"
later_texts [] are = refl
later_texts (m ∷ ms) are =
    ap (λ (w : List ℕ). 44 ∷ w) (ap (λ (w : List ℕ). print.quoted m.0 ++ 58 ∷ (print.quoted m.1 ++ w)) (later_texts ms are.2) ∙ one_written m (flat_map (λ n. codes "," ++ member_text n) ms ++ codes "}") are.0.0 are.1 ∙ sym (append_assoc (member_text m) (flat_map (λ n. codes "," ++ member_text n) ms) (codes "}")))

texts_written : (ms : List Member) → ArePlain ms → compact_text (object (texts_value ms)) ≡ codes "{" ++ join_by member_text (codes ",") ms ++ codes "}"
texts_written [] are = refl
texts_written (m ∷ ms) are =
    ap (λ (w : List ℕ). 123 ∷ w) (ap (λ (w : List ℕ). print.quoted m.0 ++ 58 ∷ (print.quoted m.1 ++ w)) (later_texts ms are.2) ∙ one_written m (flat_map (λ n. codes "," ++ member_text n) ms ++ codes "}") are.0.0 are.1 ∙ sym (append_assoc (member_text m) (flat_map (λ n. codes "," ++ member_text n) ms) (codes "}")))

given_plain : (key : List ℕ) (text : Option (List ℕ)) (ms : List Member) → (list_all is_shown key ≡ true) × (are_ascii key ≡ true) → ForSome text (λ t. is_srs_text t ≡ true) → ArePlain ms → ArePlain (given key text ++ ms)
given_plain key (Some text) ms shown is rest = (shown, srs_plain text (is text refl), rest)
given_plain key None ms shown is rest = rest

parts_plain : (s : Srs) → ArePlain (members s)
unfolding members
parts_plain s =
    let w : ArePlain (given (codes "wkt") s.wkt) = subst ArePlain (append-nil (given (codes "wkt") s.wkt)) (given_plain (codes "wkt") s.wkt [] (refl, refl) s.in_range.wkt_is tt) in
    let v : ArePlain (given (codes "vertical") s.vertical ++ given (codes "wkt") s.wkt) = given_plain (codes "vertical") s.vertical _ (refl, refl) s.in_range.vertical_is w in
    let h : ArePlain (given (codes "horizontal") s.horizontal ++ (given (codes "vertical") s.vertical ++ given (codes "wkt") s.wkt)) = given_plain (codes "horizontal") s.horizontal _ (refl, refl) s.in_range.horizontal_is v in
    let a : ArePlain (given (codes "authority") s.authority ++ (given (codes "horizontal") s.horizontal ++ (given (codes "vertical") s.vertical ++ given (codes "wkt") s.wkt))) = given_plain (codes "authority") s.authority _ (refl, refl) s.in_range.authority_is h in
    subst ArePlain (regrouped (given (codes "authority") s.authority) (given (codes "horizontal") s.horizontal) (given (codes "vertical") s.vertical) (given (codes "wkt") s.wkt)) a
  where
    regrouped : (a h v w : List Member) → a ++ (h ++ (v ++ w)) ≡ a ++ h ++ v ++ w
    regrouped a h v w = simp append_assoc

srs_written : (s : Srs) → compact_text (srs_value s) ≡ srs_text s
unfolding srs_text
srs_written s = texts_written (members s) (parts_plain s)

-- ---- the inputs

expect_layout : (digits : List ℕ) → 44 ∷ (print.quoted (codes "expect") ++ 58 ∷ (digits ++ codes "}")) ≡ (codes ",\"expect\":" ++ digits) ++ codes "}"
unfolding escape_byte
expect_layout digits = simp append_assoc

expect_written : (bytes : Option (List ℕ)) → ForSome bytes (AreBytes 48) → members_text true (expect_value bytes) ≡ expect_text bytes ++ codes "}"
expect_written None are = refl
expect_written (Some bytes) are =
    ap (λ (w : List ℕ). 44 ∷ (print.quoted (codes "expect") ++ 58 ∷ (w ++ codes "}"))) (string_written (encode_lower bytes) (digits_are bytes (are bytes refl).fit).1) ∙ expect_layout (quoted (encode_lower bytes))

input_layout : (begun path key scale before shift expect ended comma colon : List ℕ) → begun ++ (path ++ (comma ++ (key ++ (colon ++ (scale ++ (before ++ (shift ++ (expect ++ ended)))))))) ≡ begun ++ path ++ (comma ++ key ++ colon ++ scale) ++ before ++ shift ++ expect ++ ended
input_layout begun path key scale before shift expect ended comma colon = simp append_assoc

input_written : (i : Input) → compact_text (input_value i) ≡ input_text i
unfolding input_text number_member escape_byte
input_written i =
    let path = string_written i.path (plain_shown i.path (path_plain i.path i.in_range.path_is)) in
    let shift = wholes_written i.shift i.in_range.shift_within.three in
    let expect = expect_written i.expect i.in_range.expect_is in
    (λ j. 123 ∷ (print.quoted (codes "path") ++ 58 ∷ (path j ++ 44 ∷ (print.quoted (codes "scale") ++ 58 ∷ (decimal i.scale ++ 44 ∷ (print.quoted (codes "shift") ++ 58 ∷ (shift j ++ expect j))))))) ∙ input_layout (codes "{\"path\":") (quoted i.path) (codes "scale") (decimal i.scale) (codes ",\"shift\":") (wholes_text i.shift) (expect_text i.expect) (codes "}") (codes ",\"") (codes "\":")

later_inputs : (is : List Input) → items_text true (inputs_value is) ≡ flat_map (λ i. codes "," ++ input_text i) is ++ codes "]"
later_inputs [] = refl
later_inputs (i ∷ is) =
    ap (λ (w : List ℕ). 44 ∷ w) (ap₂ (λ (a b : List ℕ). a ++ b) (input_written i) (later_inputs is) ∙ sym (append_assoc (input_text i) (flat_map (λ x. codes "," ++ input_text x) is) (codes "]")))

inputs_written : (is : List Input) → compact_text (array (inputs_value is)) ≡ codes "[" ++ join_by input_text (codes ",") is ++ codes "]"
inputs_written [] = refl
inputs_written (i ∷ is) =
    ap (λ (w : List ℕ). 91 ∷ w) (ap₂ (λ (a b : List ℕ). a ++ b) (input_written i) (later_inputs is) ∙ sym (append_assoc (input_text i) (flat_map (λ x. codes "," ++ input_text x) is) (codes "]")))

-- ---- the whole text

build_layout : (p1 p2 p3 p4 comma colon k1 k2 k3 k4 scale offset box span threshold deep step reference first last list ended : List ℕ)
    → p1 ++ (scale ++ (p2 ++ (offset ++ (p3 ++ (box ++ (comma ++ (k1 ++ (colon ++ (span ++ (comma ++ (k2 ++ (colon ++ (threshold ++ (comma ++ (k3 ++ (colon ++ (deep ++ (comma ++ (k4 ++ (colon ++ (step ++ (p4 ++ (reference ++ (first ++ (last ++ (list ++ ended))))))))))))))))))))))))))
    ≡ (p1 ++ scale ++ p2 ++ offset ++ p3 ++ box) ++ ((comma ++ k1 ++ colon ++ span) ++ (comma ++ k2 ++ colon ++ threshold) ++ (comma ++ k3 ++ colon ++ deep) ++ (comma ++ k4 ++ colon ++ step)) ++ p4 ++ reference ++ first ++ last ++ list ++ ended
build_layout p1 p2 p3 p4 comma colon k1 k2 k3 k4 scale offset box span threshold deep step reference first last list ended = simp append_assoc

-- numbers, with commas between them
later_naturals : (ns : List ℕ) → items_text true (naturals ns) ≡ flat_map (λ n. codes "," ++ decimal n) ns ++ codes "]"
later_naturals [] = refl
later_naturals (n ∷ ns) =
    ap (λ (w : List ℕ). 44 ∷ w) (ap (λ (w : List ℕ). decimal n ++ w) (later_naturals ns) ∙ sym (append_assoc (decimal n) (flat_map (λ x. codes "," ++ decimal x) ns) (codes "]")))

naturals_written : (n : ℕ) (ns : List ℕ) → compact_text (array (naturals (n ∷ ns))) ≡ naturals_text (n ∷ ns)
unfolding naturals_text
naturals_written n ns =
    ap (λ (w : List ℕ). 91 ∷ w) (ap (λ (w : List ℕ). decimal n ++ w) (later_naturals ns) ∙ sym (append_assoc (decimal n) (flat_map (λ x. codes "," ++ decimal x) ns) (codes "]")))

-- the members that may be left out, before others
first_layout : (key numbers rest : List ℕ) → key ++ (numbers ++ rest) ≡ (key ++ numbers) ++ rest
first_layout key numbers rest = sym (append_assoc key numbers rest)

first_written : (classes : List ℕ) (rest : Members) → members_text true (first_value classes rest) ≡ first_member classes ++ members_text true rest
unfolding escape_byte
first_written [] rest = refl
first_written (n ∷ ns) rest =
    ap (λ (w : List ℕ). 44 ∷ (print.quoted (codes "firstClasses") ++ 58 ∷ (w ++ members_text true rest))) (naturals_written n ns)
    ∙ first_layout (codes ",\"firstClasses\":") (naturals_text (n ∷ ns)) (members_text true rest)

last_written : (last : Bool) (rest : Members) → members_text true (last_value last rest) ≡ last_member last ++ members_text true rest
unfolding escape_byte
last_written true rest = refl
last_written false rest = refl

brackets : (list ended : List ℕ) → codes ",\"input\":" ++ ((codes "[" ++ list ++ codes "]") ++ ended) ≡ (codes ",\"input\":[" ++ list ++ codes "]") ++ ended
brackets list ended = simp append_assoc

list_written : (is : List Input) → members_text true (member (codes "input") (array (inputs_value is)) no_members) ≡ inputs_text is ++ codes "}"
unfolding inputs_text escape_byte
list_written is =
    ap (λ (w : List ℕ). 44 ∷ (print.quoted (codes "input") ++ 58 ∷ (w ++ codes "}"))) (inputs_written is)
    ∙ brackets (join_by input_text (codes ",") is) (codes "}")

more_written : (k : Kept) → members_text true (first_value (members_of k.first) (last_value k.withheld_last (member (codes "input") (array (inputs_value k.inputs)) no_members))) ≡ first_member (members_of k.first) ++ (last_member k.withheld_last ++ (inputs_text k.inputs ++ codes "}"))
more_written k =
    first_written (members_of k.first) (last_value k.withheld_last (member (codes "input") (array (inputs_value k.inputs)) no_members))
    ∙ ap (λ (w : List ℕ). first_member (members_of k.first) ++ w) (last_written k.withheld_last (member (codes "input") (array (inputs_value k.inputs)) no_members) ∙ ap (λ (w : List ℕ). last_member k.withheld_last ++ w) (list_written k.inputs))

pub build_written : (k : Kept) → compact_text (build_value k) ≡ build_text k
unfolding build_text units_text octree_text number_member escape_byte
build_written k =
    let offset = wholes_written k.offset k.layout.offset_within.three in
    let box = bounds_written k.bounds k.has_bounds.min_is.three k.has_bounds.max_is.three in
    let reference = srs_written k.srs in
    let more = more_written k in
    (λ j. 123 ∷ (print.quoted (codes "scale") ++ 58 ∷ (decimal k.scale ++ 44 ∷ (print.quoted (codes "offset") ++ 58 ∷ (offset j ++ 44 ∷ (print.quoted (codes "bounds") ++ 58 ∷ (box j ++ 44 ∷ (print.quoted (codes "span") ++ 58 ∷ (decimal (2 ^ k.s) ++ 44 ∷ (print.quoted (codes "minNodeSize") ++ 58 ∷ (decimal k.threshold ++ 44 ∷ (print.quoted (codes "maxDepth") ++ 58 ∷ (decimal k.max_depth ++ 44 ∷ (print.quoted (codes "hierarchyStep") ++ 58 ∷ (decimal k.step ++ 44 ∷ (print.quoted (codes "srs") ++ 58 ∷ (reference j ++ more j)))))))))))))))))
    ∙ build_layout (codes "{\"scale\":") (codes ",\"offset\":") (codes ",\"bounds\":") (codes ",\"srs\":") (codes ",\"") (codes "\":") (codes "span") (codes "minNodeSize") (codes "maxDepth") (codes "hierarchyStep") (decimal k.scale) (wholes_text k.offset) (stored_bounds_text k.bounds) (decimal (2 ^ k.s)) (decimal k.threshold) (decimal k.max_depth) (decimal k.step) (srs_text k.srs) (first_member (members_of k.first)) (last_member k.withheld_last) (inputs_text k.inputs) (codes "}")

-- ---- it is spelled as it is read

number_spelled : (z : ℤ) → unsigned_abs z < 2 ^ 63 → IsWhole (of_integer z)
number_spelled (pos n) few = few
number_spelled (negsuc n) few = (let small : suc n < 2 ^ 63 = few in let less : n < 2 ^ 63 = omega arith in less)

spelled_three : (zs : List ℤ) (rest : Items) (most : ℕ) → most < 2 ^ 63 → AreThreeWithin most zs → AreSpelled rest → AreSpelled (numbers zs rest)
spelled_three (x ∷ y ∷ z ∷ []) rest most few are others =
    let ax : unsigned_abs x ≤ most = are.x in
    let ay : unsigned_abs y ≤ most = are.y in
    let az : unsigned_abs z ≤ most = are.z in
    (number_spelled x (omega (arith, ax, few)), (number_spelled y (omega (arith, ay, few)), (number_spelled z (omega (arith, az, few)), others)))
spelled_three [] rest most few are others = absurd (omega (arith, are.three))
spelled_three (x ∷ []) rest most few are others = absurd (omega (arith, are.three))
spelled_three (x ∷ y ∷ []) rest most few are others = absurd (omega (arith, are.three))
spelled_three (x ∷ y ∷ z ∷ a ∷ zs) rest most few are others = absurd (omega (arith, are.three))

within : (z : ℤ) → FitsSigned w32 z → unsigned_abs z ≤ 2 ^ 31
within z fits = omega (arith, ints, fits)

pub coordinates_within : (zs : List ℤ) → AreCoordinates zs → AreThreeWithin (2 ^ 31) zs
coordinates_within zs are = record { three = are.three; x = within _ are.x; y = within _ are.y; z = within _ are.z }

spelled_texts : (ms : List Member) → ArePlain ms → HaveSpelled (texts_value ms)
spelled_texts [] are = tt
spelled_texts (m ∷ ms) are = (IsUtf8-are_ascii m.0 are.0.1, plain_utf8 m.1 are.1, spelled_texts ms are.2)

spelled_expect : (bytes : Option (List ℕ)) → ForSome bytes (AreBytes 48) → HaveSpelled (expect_value bytes)
spelled_expect (Some bytes) are =
    (IsUtf8-are_ascii (codes "expect") refl, IsUtf8-are_ascii (encode_lower bytes) (digits_are bytes (are bytes refl).fit).2, tt)
spelled_expect None are = tt

spelled_input : (i : Input) → IsSpelled (input_value i)
spelled_input i =
    let small : i.scale ≤ 9 = i.in_range.scale_most in
    let scale : i.scale < 2 ^ 63 = omega arith in
    let shift : AreSpelled (numbers i.shift no_items) = spelled_three i.shift no_items (10 ^ 15) (omega arith) i.in_range.shift_within tt in
    (IsUtf8-are_ascii (codes "path") refl, plain_utf8 i.path (path_plain i.path i.in_range.path_is), (IsUtf8-are_ascii (codes "scale") refl, scale, (IsUtf8-are_ascii (codes "shift") refl, shift, spelled_expect i.expect i.in_range.expect_is)))

spelled_inputs : (is : List Input) → AreSpelled (inputs_value is)
spelled_inputs [] = tt
spelled_inputs (i ∷ is) = (spelled_input i, spelled_inputs is)

-- the members that may be left out
spelled_naturals : (ns : List ℕ) → AreSmall ns → AreSpelled (naturals ns)
spelled_naturals [] small = tt
spelled_naturals (n ∷ ns) small = (let few : n < 256 = small.0 in let fits : n < 2 ^ 63 = omega arith in fits, spelled_naturals ns small.1)

spelled_first : (classes : List ℕ) (rest : Members) → AreSmall classes → HaveSpelled rest → HaveSpelled (first_value classes rest)
spelled_first [] rest small others = others
spelled_first (n ∷ ns) rest small others = (IsUtf8-are_ascii (codes "firstClasses") refl, spelled_naturals (n ∷ ns) small, others)

spelled_last : (last : Bool) (rest : Members) → HaveSpelled rest → HaveSpelled (last_value last rest)
spelled_last true rest others = (IsUtf8-are_ascii (codes "withheldLast") refl, tt, others)
spelled_last false rest others = others

pub span_most : (s : ℕ) → s ≤ 10 → 2 ^ s ≤ 1024
span_most s high = let more : 2 ^ s ≤ 2 ^ 10 = pow_mono high in omega (arith, more)

pub build_spelled : (k : Kept) → IsSpelled (build_value k)
build_spelled k =
    let is = k.layout in
    let most_scale : k.scale ≤ 9 = is.scale_most in
    let most_threshold : k.threshold ≤ 2 ^ 31 = is.threshold_most in
    let most_depth : k.max_depth ≤ 32 = is.depth_most in
    let most_step : k.step ≤ 32 = is.step_most in
    let most_cells : 2 ^ k.s ≤ 1024 = span_most k.s is.span_most in
    let scale : k.scale < 2 ^ 63 = omega arith in
    let cells : 2 ^ k.s < 2 ^ 63 = omega arith in
    let threshold : k.threshold < 2 ^ 63 = omega arith in
    let deep : k.max_depth < 2 ^ 63 = omega arith in
    let step : k.step < 2 ^ 63 = omega arith in
    let offset : AreSpelled (numbers k.offset no_items) = spelled_three k.offset no_items (10 ^ 9) (omega arith) is.offset_within tt in
    let box : AreSpelled (numbers k.bounds.min (numbers k.bounds.max no_items)) = spelled_three k.bounds.min (numbers k.bounds.max no_items) (2 ^ 31) (omega arith) (coordinates_within k.bounds.min k.has_bounds.min_is) (spelled_three k.bounds.max no_items (2 ^ 31) (omega arith) (coordinates_within k.bounds.max k.has_bounds.max_is) tt) in
    (IsUtf8-are_ascii (codes "scale") refl, scale, (IsUtf8-are_ascii (codes "offset") refl, offset, (IsUtf8-are_ascii (codes "bounds") refl, box, (IsUtf8-are_ascii (codes "span") refl, cells, (IsUtf8-are_ascii (codes "minNodeSize") refl, threshold, (IsUtf8-are_ascii (codes "maxDepth") refl, deep, (IsUtf8-are_ascii (codes "hierarchyStep") refl, step, (IsUtf8-are_ascii (codes "srs") refl, spelled_texts (members k.srs) (parts_plain k.srs), spelled_first (members_of k.first) _ (members_small k.first) (spelled_last k.withheld_last _ (IsUtf8-are_ascii (codes "input") refl, spelled_inputs k.inputs, tt))))))))))

-- ---- its depth of nesting is small

none : (n : ℕ) → 0 ≤ n
none n = omega arith

deeper : (a b c : ℕ) → a ≤ b → b < c → suc a ≤ c
deeper a b c below less = omega (arith, below, less)

flat_numbers : (zs : List ℤ) (rest : Items) → items_depth rest ≤ 0 → items_depth (numbers zs rest) ≤ 0
flat_numbers [] rest flat = flat
flat_numbers (z ∷ zs) rest flat = max-le (none 0) (flat_numbers zs rest flat)

flat_texts : (ms : List Member) → members_depth (texts_value ms) ≤ 0
flat_texts [] = none 0
flat_texts (m ∷ ms) = max-le (none 0) (flat_texts ms)

flat_expect : (bytes : Option (List ℕ)) → members_depth (expect_value bytes) ≤ 1
flat_expect (Some bytes) = none 1
flat_expect None = none 1

shallow_input : (i : Input) → depth (input_value i) ≤ 2
shallow_input i =
    let shift = deeper (items_depth (numbers i.shift no_items)) 0 1 (flat_numbers i.shift no_items (none 0)) (omega arith) in
    deeper _ 1 2 (max-le (none 1) (max-le (none 1) (max-le shift (flat_expect i.expect)))) (omega arith)

shallow_inputs : (is : List Input) → items_depth (inputs_value is) ≤ 2
shallow_inputs [] = none 2
shallow_inputs (i ∷ is) = max-le (shallow_input i) (shallow_inputs is)

flat_naturals : (ns : List ℕ) → items_depth (naturals ns) ≤ 0
flat_naturals [] = none 0
flat_naturals (n ∷ ns) = max-le (none 0) (flat_naturals ns)

shallow_first : (classes : List ℕ) (rest : Members) → members_depth rest ≤ 3 → members_depth (first_value classes rest) ≤ 3
shallow_first [] rest shallow = shallow
shallow_first (n ∷ ns) rest shallow = max-le (deeper (items_depth (naturals (n ∷ ns))) 0 3 (flat_naturals (n ∷ ns)) (omega arith)) shallow

shallow_last : (last : Bool) (rest : Members) → members_depth rest ≤ 3 → members_depth (last_value last rest) ≤ 3
shallow_last true rest shallow = max-le (none 3) shallow
shallow_last false rest shallow = shallow

pub build_shallow : (k : Kept) → depth (build_value k) ≤ 127
build_shallow k =
    let offset = deeper (items_depth (numbers k.offset no_items)) 0 3 (flat_numbers k.offset no_items (none 0)) (omega arith) in
    let box = deeper (items_depth (numbers k.bounds.min (numbers k.bounds.max no_items))) 0 3 (flat_numbers k.bounds.min (numbers k.bounds.max no_items) (flat_numbers k.bounds.max no_items (none 0))) (omega arith) in
    let reference = deeper (members_depth (texts_value (members k.srs))) 0 3 (flat_texts (members k.srs)) (omega arith) in
    let list = deeper (items_depth (inputs_value k.inputs)) 2 3 (shallow_inputs k.inputs) (omega arith) in
    deeper _ 3 127 (max-le (none 3) (max-le offset (max-le box (max-le (none 3) (max-le (none 3) (max-le (none 3) (max-le (none 3) (max-le reference (shallow_first (members_of k.first) _ (shallow_last k.withheld_last _ (max-le list (none 3)))))))))))) (omega arith)

pub build_document : (k : Kept) → document (build_text k) ≡ Some (ordered (build_value k))
build_document k = ap document (sym (build_written k)) ∙ compact_document (build_value k) (build_spelled k) (build_shallow k)
