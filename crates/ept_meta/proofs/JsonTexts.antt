-- The compact text of a JSON value is read as that value, with the members of each object put in order.
use Rattle.std.proofs.Common.{◌≡◌, ◌∙◌, ℕ, suc, ◌^◌, ◌<◌, ◌≤◌, pos, negsuc, Bool, true, false, [], ◌∷◌, decimal, Some, refl, sym, ap, ap₂, arith, append-nil}
use Rattle.std.specs.Prelude.{⊤, max}
use Rattle.std.specs.Option.{option_map, option_and_then}
use Rattle.std.specs.Str.{IsUtf8}
use Rattle.std.proofs.lemmas.Int.{ints}
use Rattle.std.proofs.lemmas.Str.{IsUtf8-append, IsUtf8-from_ascii, IsUtf8-nil}
use Rattle.json.specs.Json as json
use Rattle.json.specs.Lex.{tokens}
use Rattle.json.specs.Print.{print, quoted, IsNumber}
use Rattle.json.specs.Tree as tree
use Rattle.json.specs.Tree.{json_tokens}
use Rattle.json.proofs.Printed.Decimals.{IsNumber-decimal, IsNumber-signed_decimal}
use Rattle.json.proofs.Printed.Tokens.{tokens-print}
use Rattle.json.proofs.Printed.Trees.{value-json_tokens, ArePrintable-json_tokens}
use Rattle.json.proofs.Printed.Utf8.{IsUtf8-are_ascii, IsUtf8-quoted, IsUtf8-boolean}
use Rattle.serde_json.specs.Data.{Num, unsigned, negative, float, Data, null, boolean, number, string, array, object, Items, no_items, item, Members, no_members, member, put, depth, items_depth, members_depth}
use Rattle.serde_json.specs.Read.{read, max_depth, number_of, of_json, of_items, of_members}
use Rattle.serde_json.specs.Written.{outline, items_outline, members_outline, number_text, comma_if, compact_text, items_text, members_text}
use Rattle.serde_json.proofs.Numbers.{number_of-decimal, number_of-negative}
use Rattle.serde_json.proofs.Texts.{print-outline}
use Rattle.itoa.proofs.Decimal.{IsAscii-signed_decimal}
use Rattle.ept_json.specs.Document.{document}
use Rattle.ept_json.proofs.Documents.{document_read}

-- ---- values that are written as they are read: whole numbers of 64 bits, and texts in UTF-8

abbrev pub IsWhole : Num → Type 0
IsWhole (unsigned n) = n < 2 ^ 63
IsWhole (negative (pos n)) = ⊥
IsWhole (negative (negsuc n)) = n < 2 ^ 63
IsWhole (float x) = ⊥

abbrev mutual
  pub IsSpelled : Data → Type 0
  IsSpelled null = ⊤
  IsSpelled (boolean b) = ⊤
  IsSpelled (number n) = IsWhole n
  IsSpelled (string s) = IsUtf8 s
  IsSpelled (array ds) = AreSpelled ds
  IsSpelled (object ms) = HaveSpelled ms

  pub AreSpelled : Items → Type 0
  AreSpelled no_items = ⊤
  AreSpelled (item d ds) = IsSpelled d × AreSpelled ds

  pub HaveSpelled : Members → Type 0
  HaveSpelled no_members = ⊤
  HaveSpelled (member k d ms) = IsUtf8 k × IsSpelled d × HaveSpelled ms

-- ---- the members put one after another

abbrev mutual
  pub ordered : Data → Data
  ordered null = null
  ordered (boolean b) = boolean b
  ordered (number n) = number n
  ordered (string s) = string s
  ordered (array ds) = array (items_ordered ds)
  ordered (object ms) = object (members_ordered ms no_members)

  pub items_ordered : Items → Items
  items_ordered no_items = no_items
  items_ordered (item d ds) = item (ordered d) (items_ordered ds)

  pub members_ordered : Members → Members → Members
  members_ordered no_members found = found
  members_ordered (member k d ms) found = members_ordered ms (put k (ordered d) found)

number_read : (n : Num) → IsWhole n → number_of (number_text n) ≡ Some n
number_read (unsigned n) few = (let small : n < 2 ^ 63 = few in number_of-decimal n (omega arith))
number_read (negative (pos n)) few = absurd few
number_read (negative (negsuc n)) few = number_of-negative n few
number_read (float x) few = absurd few

mutual
  value_read : (d : Data) → IsSpelled d → of_json (outline d) ≡ Some (ordered d)
  value_read null is = refl
  value_read (boolean b) is = refl
  value_read (number n) is = ap (option_map number) (number_read n is)
  value_read (string s) is = refl
  value_read (array ds) is = ap (option_map array) (items_read ds is)
  value_read (object ms) is = ap (option_map object) (members_read ms no_members is)

  items_read : (ds : Items) → AreSpelled ds → of_items (items_outline ds) ≡ Some (items_ordered ds)
  items_read no_items are = refl
  items_read (item d ds) are =
      ap (option_and_then (λ e. option_map (item e) (of_items (items_outline ds)))) (value_read d are.0) ∙ ap (option_map (item (ordered d))) (items_read ds are.1)

  members_read : (ms found : Members) → HaveSpelled ms → of_members (members_outline ms) found ≡ Some (members_ordered ms found)
  members_read no_members found are = refl
  members_read (member k d ms) found are =
      ap (option_and_then (λ e. of_members (members_outline ms) (put k e found))) (value_read d are.1) ∙ members_read ms (put k (ordered d) found) are.2

-- ---- the grammar reads them

number_is : (n : Num) → IsWhole n → IsNumber (number_text n)
number_is (unsigned n) few = (let small : n < 2 ^ 63 = few in IsNumber-decimal n (omega arith))
number_is (negative (pos n)) few = absurd few
number_is (negative (negsuc n)) few = IsNumber-signed_decimal (negsuc n) few
number_is (float x) few = absurd few

mutual
  have_numbers : (d : Data) → IsSpelled d → tree.HasNumbers (outline d)
  have_numbers null is = tt
  have_numbers (boolean b) is = tt
  have_numbers (number n) is = number_is n is
  have_numbers (string s) is = tt
  have_numbers (array ds) is = items_numbers ds is
  have_numbers (object ms) is = members_numbers ms is

  items_numbers : (ds : Items) → AreSpelled ds → tree.ItemsHaveNumbers (items_outline ds)
  items_numbers no_items are = tt
  items_numbers (item d ds) are = (have_numbers d are.0, items_numbers ds are.1)

  members_numbers : (ms : Members) → HaveSpelled ms → tree.MembersHaveNumbers (members_outline ms)
  members_numbers no_members are = tt
  members_numbers (member k d ms) are = (have_numbers d are.1, members_numbers ms are.2)

mutual
  same_depth : (d : Data) → tree.depth (outline d) ≡ depth d
  same_depth null = refl
  same_depth (boolean b) = refl
  same_depth (number n) = refl
  same_depth (string s) = refl
  same_depth (array ds) = ap (λ (n : ℕ). suc n) (items_same_depth ds)
  same_depth (object ms) = ap (λ (n : ℕ). suc n) (members_same_depth ms)

  items_same_depth : (ds : Items) → tree.items_depth (items_outline ds) ≡ items_depth ds
  items_same_depth no_items = refl
  items_same_depth (item d ds) = ap₂ (λ (a b : ℕ). max a b) (same_depth d) (items_same_depth ds)

  members_same_depth : (ms : Members) → tree.members_depth (members_outline ms) ≡ members_depth ms
  members_same_depth no_members = refl
  members_same_depth (member k d ms) = ap₂ (λ (a b : ℕ). max a b) (same_depth d) (members_same_depth ms)

compact_read : (d : Data) → IsSpelled d → depth d ≤ 127 → read (compact_text d) ≡ Some (ordered d)
compact_read d is shallow =
    let j = outline d in
    let few : tree.depth j ≤ max_depth = omega (arith, same_depth d, shallow) in
    let grammar : json.value max_depth (tokens (print (json_tokens j))) ≡ Some (j, []) = ap (json.value max_depth) (tokens-print (json_tokens j) (ArePrintable-json_tokens j (have_numbers d is)) ∙ sym (append-nil (json_tokens j))) ∙ value-json_tokens j max_depth [] few in
    ap read (sym (print-outline d)) ∙ (ap (λ o. option_and_then of_json (option_and_then (λ p. json.if_last p.0 p.1) o)) grammar ∙ value_read d is)

-- ---- and they are UTF-8

number_utf8 : (n : Num) → IsWhole n → IsUtf8 (number_text n)
number_utf8 (unsigned n) few = (let small : n < 2 ^ 63 = few in IsUtf8-from_ascii (decimal n) (IsAscii-signed_decimal (pos n) (omega (arith, ints))))
number_utf8 (negative (pos n)) few = absurd few
number_utf8 (negative (negsuc n)) few =
    (let small : n < 2 ^ 63 = few in IsUtf8-from_ascii (number_text (negative (negsuc n))) (IsAscii-signed_decimal (negsuc n) (omega (arith, ints))))
number_utf8 (float x) few = absurd few

comma_utf8 : (later : Bool) → IsUtf8 (comma_if later)
comma_utf8 true = IsUtf8-are_ascii (44 ∷ []) refl
comma_utf8 false = IsUtf8-nil

mutual
  value_utf8 : (d : Data) → IsSpelled d → IsUtf8 (compact_text d)
  value_utf8 null is = IsUtf8-are_ascii _ refl
  value_utf8 (boolean b) is = IsUtf8-boolean b
  value_utf8 (number n) is = number_utf8 n is
  value_utf8 (string s) is = IsUtf8-quoted s is
  value_utf8 (array ds) is = IsUtf8-append (91 ∷ []) _ (IsUtf8-are_ascii (91 ∷ []) refl) (items_utf8 false ds is)
  value_utf8 (object ms) is = IsUtf8-append (123 ∷ []) _ (IsUtf8-are_ascii (123 ∷ []) refl) (members_utf8 false ms is)

  items_utf8 : (later : Bool) (ds : Items) → AreSpelled ds → IsUtf8 (items_text later ds)
  items_utf8 later no_items are = IsUtf8-are_ascii (93 ∷ []) refl
  items_utf8 later (item d ds) are =
      IsUtf8-append _ _ (comma_utf8 later) (IsUtf8-append _ _ (value_utf8 d are.0) (items_utf8 true ds are.1))

  members_utf8 : (later : Bool) (ms : Members) → HaveSpelled ms → IsUtf8 (members_text later ms)
  members_utf8 later no_members are = IsUtf8-are_ascii (125 ∷ []) refl
  members_utf8 later (member k d ms) are =
      IsUtf8-append _ _ (comma_utf8 later) (IsUtf8-append (quoted k) _ (IsUtf8-quoted k are.0) (IsUtf8-append (58 ∷ []) _ (IsUtf8-are_ascii (58 ∷ []) refl) (IsUtf8-append _ _ (value_utf8 d are.1) (members_utf8 true ms are.2))))

pub compact_document : (d : Data) → IsSpelled d → depth d ≤ 127 → document (compact_text d) ≡ Some (ordered d)
compact_document d is shallow = document_read (compact_text d) (ordered d) (value_utf8 d is) (compact_read d is shallow)
