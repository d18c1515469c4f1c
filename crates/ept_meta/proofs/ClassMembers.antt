-- The members of a set of classes, one by one, are read as the set.
use Rattle.std.proofs.Common.{◌≡◌, ◌∙◌, ℕ, zero, suc, ◌+◌, ◌<◌, ◌≤◌, Bool, true, false, ◌||◌, eqb, List, [], ◌∷◌, ◌++◌, map, length, refl, sym, ap, arith, append-nil, ◌/◌, ◌%◌, inl, inr, Option, Some, None, Ok, pos, le-leb, slice_index}
use Rattle.std.specs.Prelude.{if◌then◌else◌}
use Rattle.std.specs.Int.{bit_at}
use Rattle.std.specs.List.{AllByRecursion, filter, range_with_len, list_any, list_all}
use Rattle.std.proofs.lemmas.Bool.{cases_Bool as either, cases_lt, eq-eqb, ne_eqb}
use Rattle.std.proofs.lemmas.Bool.Decides.{nat_tests}
use Rattle.std.proofs.lemmas.List.Elements.{filter-append}
use Rattle.std.proofs.lemmas.List.{get_or_past}
use Rattle.std.proofs.lemmas.Nat.Bits.{bit_at-zero}
use Rattle.serde_json.specs.Data.{Data, number, array, unsigned, Items, no_items, item}
use Rattle.ept_class.specs.declared.class_set.ClassSet.{ClassSet}
use Rattle.ept_class.specs.ClassSet.{has_class}
use Rattle.ept_config_text.specs.Json.{whole, array_items, list_of}
use Rattle.ept_config_text.specs.Numbers.{natural_within}
use Rattle.ept_config_text.specs.Classes.{is_whole, whole_items, class_of, one_more, distinct_classes, is_listed}
use Rattle.ept_config_text.specs.Values.{first_classes}
use Rattle.ept_meta.specs.Classes.{members_below, members_of}
use Rattle.ept_meta.proofs.JsonTexts.{ordered, items_ordered}

-- one more number after a range
range_more : (a n : ℕ) → range_with_len a (suc n) ≡ range_with_len a n ++ (a + n) ∷ []
range_more a zero = let same : a ≡ a + 0 = omega arith in ap (λ (k : ℕ). k ∷ []) same
range_more a (suc n) =
    let same : (a + 1) + n ≡ a + suc n = omega arith in
    ap (λ (w : List ℕ). a ∷ w) (range_more (a + 1) n ∙ ap (λ (k : ℕ). range_with_len (a + 1) n ++ k ∷ []) same)

-- the members below the next number
pub members_more : (set : ClassSet) (n : ℕ) → members_below set (n + 1) ≡ members_below set n ++ (if has_class set n then n ∷ [] else [])
unfolding members_below
members_more set n =
    let one : n + 1 ≡ suc n = omega arith in
    let none_more : 0 + n ≡ n = omega arith in
    ap (λ (k : ℕ). filter (has_class set) (range_with_len 0 k)) one
    ∙ ap (filter (has_class set)) (range_more 0 n)
    ∙ ap (λ (k : ℕ). filter (has_class set) (range_with_len 0 n ++ k ∷ [])) none_more
    ∙ filter-append (has_class set) (range_with_len 0 n) (n ∷ [])

-- the same with a class that is a member, and with a class that is none
pub with_member : (set : ClassSet) (n byte : ℕ) (old new : List ℕ) (test : Bool) → byte ≡ n → test ≡ has_class set byte → test ≡ true → old ≡ members_below set n → new ≡ old ++ byte ∷ [] → new ≡ members_below set (n + 1)
with_member set n byte old new test same is passes before pushed =
    let has : has_class set n ≡ true = ap (has_class set) (sym same) ∙ sym is ∙ passes in
    pushed
    ∙ ap (λ (xs : List ℕ). xs ++ byte ∷ []) before
    ∙ ap (λ (b : ℕ). members_below set n ++ b ∷ []) same
    ∙ sym (members_more set n ∙ ap (λ (b : Bool). members_below set n ++ (if b then n ∷ [] else [])) has)

pub without_member : (set : ClassSet) (n byte : ℕ) (old : List ℕ) (test : Bool) → byte ≡ n → test ≡ has_class set byte → test ≡ false → old ≡ members_below set n → old ≡ members_below set (n + 1)
without_member set n byte old test same is fails before =
    let lacks : has_class set n ≡ false = ap (has_class set) (sym same) ∙ sym is ∙ fails in
    before
    ∙ sym (append-nil (members_below set n))
    ∙ sym (members_more set n ∙ ap (λ (b : Bool). members_below set n ++ (if b then n ∷ [] else [])) lacks)

-- ---- the members of a range

module _ (p : ℕ → Bool) where
  -- a number before the range is not among them
  none_before : (class a n : ℕ) → class < a → list_any (λ other. eqb class other) (filter p (range_with_len a n)) ≡ false
  none_before class a zero low = refl
  none_before class a (suc n) low = elim (either (p a)) [
    | inl is ↦ rw (is, ne_eqb class a (λ same. omega (arith, same, low))) (none_before class (a + 1) n (omega arith))
    | inr not ↦ rw not (none_before class (a + 1) n (omega arith))
  ]

  -- nor is a number after it
  none_behind : (class a n : ℕ) → a + n ≤ class → list_any (λ other. eqb class other) (filter p (range_with_len a n)) ≡ false
  none_behind class a zero high = refl
  none_behind class a (suc n) high = elim (either (p a)) [
    | inl is ↦ rw (is, ne_eqb class a (λ same. omega (arith, same, high))) (none_behind class (a + 1) n (omega arith))
    | inr not ↦ rw not (none_behind class (a + 1) n (omega arith))
  ]

  -- a number of the range is among them if it passes the test
  listed_within : (class a n : ℕ) → a ≤ class → class < a + n → list_any (λ other. eqb class other) (filter p (range_with_len a n)) ≡ p class
  listed_within class a zero low high = absurd (omega arith)
  listed_within class a (suc n) low high = elim (cases_lt a class) [
    | inl past ↦ elim (either (p a)) [
      | inl is ↦ rw (is, ne_eqb class a (λ same. omega (arith, same, past))) (listed_within class (a + 1) n (omega arith) (omega arith))
      | inr not ↦ rw not (listed_within class (a + 1) n (omega arith) (omega arith))
    ]
    | inr here ↦
        let same : class ≡ a = omega arith in
        elim (either (p a)) [
          | inl is ↦ rw (is, eq-eqb class a same) (sym (ap p same ∙ is))
          | inr not ↦ rw not (none_before class (a + 1) n (omega arith) ∙ sym (ap p same ∙ not))
        ]
  ]

-- a number past 255 is no member of a set
none_past : (set : ClassSet) (class : ℕ) → 256 ≤ class → has_class set class ≡ false
unfolding has_class
none_past set class past =
    let out : slice_index set.bytes (class / 8) ≡ 0 = get_or_past set.bytes (class / 8) 0 (omega (arith, set.set_bytes.len)) in
    rw (out, bit_at-zero (class % 8)) refl

-- the members that are listed are those of the set
pub listed_members : (set : ClassSet) (class : ℕ) → is_listed (members_of set) class ≡ has_class set class
unfolding members_of members_below
listed_members set class = elim (cases_lt class 256) [
  | inl within ↦ listed_within (has_class set) class 0 256 (omega arith) (omega arith)
  | inr past ↦ none_behind (has_class set) class 0 256 (omega arith) ∙ sym (none_past set class past)
]

-- ---- they are read

abbrev pub naturals : List ℕ → Items
naturals [] = no_items
naturals (n ∷ ns) = item (number (unsigned n)) (naturals ns)

-- numbers that are classes, no two of which are the same
abbrev pub AreClasses : List ℕ → Type 0
AreClasses classes = distinct_classes (list_of (items_ordered (naturals classes))) ≡ Some classes

class_read : (class : ℕ) → class ≤ 255 → class_of (number (unsigned class)) ≡ Some class
unfolding class_of whole natural_within
class_read class low = rw (le-leb 0 class (omega arith), le-leb class 255 low) refl

range_read : (p : ℕ → Bool) (a n : ℕ) → a + n ≤ 256 → AreClasses (filter p (range_with_len a n))
unfolding one_more
range_read p a zero few = refl
range_read p a (suc n) few =
    let later = range_read p (a + 1) n (omega arith) in
    elim (either (p a)) [
      | inl is ↦ rw is (rw (later, class_read a (omega arith), none_before p a (a + 1) n (omega arith)) refl)
      | inr not ↦ rw not later
    ]

pub members_read : (set : ClassSet) → AreClasses (members_of set)
unfolding members_of members_below
members_read set = range_read (has_class set) 0 256 (omega arith)

all_whole : (classes : List ℕ) → list_all is_whole (list_of (items_ordered (naturals classes))) ≡ true
unfolding whole
all_whole [] = refl
all_whole (n ∷ ns) = all_whole ns

pub first_read : (classes : List ℕ) → AreClasses classes → first_classes (ordered (array (naturals classes))) ≡ Ok (is_listed classes)
unfolding first_classes whole_items array_items
first_read classes are = rw (all_whole classes, are) refl

-- the members are below 256
abbrev pub AreSmall : List ℕ → Type 0
AreSmall classes = AllByRecursion (λ class. class < 256) classes

range_small : (p : ℕ → Bool) (a n : ℕ) → a + n ≤ 256 → AreSmall (filter p (range_with_len a n))
range_small p a zero few = tt
range_small p a (suc n) few =
    let later = range_small p (a + 1) n (omega arith) in
    elim (either (p a)) [
      | inl is ↦ rw is (omega arith, later)
      | inr not ↦ rw not later
    ]

pub members_small : (set : ClassSet) → AreSmall (members_of set)
unfolding members_of members_below
members_small set = range_small (has_class set) 0 256 (omega arith)
