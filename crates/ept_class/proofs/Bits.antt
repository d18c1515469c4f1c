-- Lists of bytes, each bit of which is a member.
use Rattle.std.proofs.Common.{◌≡◌, ℕ, zero, suc, bit_and, ◌+◌, ◌*◌, ◌/◌, ◌%◌, ◌^◌, ◌<◌, ◌||◌, ◌&&◌, Bool, true, false, not, eqb, bit_or, ◌⊎◌, inl, inr, List, [], ◌∷◌, length, get_or, slice_set, refl, sym, ap, ◌∙◌, arith, w8}
use Rattle.std.specs.Bool.{Decides}
use Rattle.std.specs.Int.{bit_at}
use Rattle.std.specs.List.{AllByRecursion, list_any, fold}
use Rattle.std.proofs.lemmas.Bool.Decides.{nat_tests, Decides-eqb, not_from_Decides}
use Rattle.std.proofs.lemmas.Bool.{cases_Bool as either, eq-eqb, false≢true, or_right, or_parts}
use Rattle.std.proofs.lemmas.Grind.{same_number_lists}
use Rattle.std.proofs.lemmas.List.{get_or-set_same, get_or-set_other, length-set}
use Rattle.std.proofs.lemmas.Nat.{or_of_8, le_or_l, le_or_r}
use Rattle.std.proofs.lemmas.Nat.Bits.{shr_and_one, bit_at-zero, bit_at-lt, bit_at_set_same, bit_at_set_other, same_from_bits_below}
use denote.Struct.Record.{values_one}
use Rattle.ept_class.specs.contracts.class_set.ClassSet.{struct, the_propositions}
use Rattle.ept_class.specs.Bytes.{AreSetBytes}
use Rattle.ept_class.specs.declared.class_set.ClassSet.{ClassSet}
use Rattle.ept_class.specs.ClassSet.{has_class, has_member}
use Rattle.ept_class.specs.NoClass.{no_bytes, no_bytes_read, no_bytes-set_bytes, no_class}
use Rattle.ept_class.specs.Laws.{MembersMakeTheSet, ClassesHaveASet, AMemberIsAClass}

-- the bit of a class is set
abbrev pub is_set : List ℕ → ℕ → Bool
is_set bytes class = eqb (bit_at (get_or bytes (class / 8) 0) (class % 8)) 1

-- ---- no member

pub none-set : (class : ℕ) → is_set no_bytes class ≡ false
none-set class = rw (no_bytes_read (class / 8), bit_at-zero (class % 8)) refl

-- ---- a member

pub read-member : (bytes : List ℕ) (at class : ℕ) → at ≡ class / 8 → eqb (bit_and (get_or bytes at 0 / 2 ^ (class % 8)) 1) 1 ≡ is_set bytes class
read-member bytes at class e = rw (e, shr_and_one (get_or bytes (class / 8) 0) (class % 8)) refl

-- the byte of a class with its bit
abbrev pub with_bit : ℕ → ℕ → ℕ
with_bit byte class = bit_or byte (1 * 2 ^ (class % 8) % 256)

-- the bytes with the bit of a class
abbrev pub with_class : List ℕ → ℕ → List ℕ
with_class bytes class = slice_set bytes (class / 8) (with_bit (get_or bytes (class / 8) 0) class)

with_bit-same : (byte class other : ℕ) → other % 8 ≡ class % 8 → bit_at (with_bit byte class) (other % 8) ≡ 1
with_bit-same byte class other e = rw e (bit_at_set_same w8 byte (class % 8) (omega arith))

with_bit-other : (byte class other : ℕ) → (other % 8 ≡ class % 8 → ⊥) → bit_at (with_bit byte class) (other % 8) ≡ bit_at byte (other % 8)
with_bit-other byte class other differ = bit_at_set_other w8 byte (class % 8) (omega arith) (other % 8) differ

pub inserted : (bytes : List ℕ) (class other : ℕ) → class / 8 < length bytes → is_set (with_class bytes class) other ≡ (eqb other class || is_set bytes other)
inserted bytes class other inside = by_byte (eqb (other / 8) (class / 8)) (Decides-eqb (other / 8) (class / 8)) refl
  where
    by_bit : (same : Bool) → Decides same (other % 8 ≡ class % 8) → other / 8 ≡ class / 8 → eqb (bit_at (with_bit (get_or bytes (class / 8) 0) class) (other % 8)) 1 ≡ (eqb other class || is_set bytes other)
    by_bit true d at =
        let same : eqb other class ≡ true = eq-eqb other class (omega (arith, d.0 refl)) in
        rw (with_bit-same (get_or bytes (class / 8) 0) class other (d.0 refl), same) refl
    by_bit false d at =
        let differ = not_from_Decides false d refl in
        let other_class : eqb other class ≡ false = grind (arith, nat_tests) in
        rw (with_bit-other (get_or bytes (class / 8) 0) class other differ, other_class, at) refl

    by_byte : (same : Bool) → Decides same (other / 8 ≡ class / 8) → same ≡ same → is_set (with_class bytes class) other ≡ (eqb other class || is_set bytes other)
    by_byte true d e =
        let at = d.0 refl in
        let read : get_or (with_class bytes class) (other / 8) 0 ≡ with_bit (get_or bytes (class / 8) 0) class = rw at (get_or-set_same bytes (class / 8) _ 0 inside) in
        rw read (by_bit (eqb (other % 8) (class % 8)) (Decides-eqb (other % 8) (class % 8)) at)
    by_byte false d e =
        let differ = not_from_Decides false d refl in
        let read : get_or (with_class bytes class) (other / 8) 0 ≡ get_or bytes (other / 8) 0 = get_or-set_other bytes (class / 8) (other / 8) _ 0 differ in
        let other_class : eqb other class ≡ false = grind (arith, nat_tests) in
        rw (read, other_class) refl

with_bit-lt : (byte class : ℕ) → byte < 2 ^ 8 → with_bit byte class < 2 ^ 8
with_bit-lt byte class small = or_of_8 byte (1 * 2 ^ (class % 8) % 256) small (omega arith)

pub with_class-set_bytes : (bytes : List ℕ) (class : ℕ) → class < 256 → AreSetBytes bytes → AreSetBytes (with_class bytes class)
with_class-set_bytes bytes class small are = record { len = length-set bytes (class / 8) _ ∙ are.len; widths = λ k. by (eqb k (class / 8)) (Decides-eqb k (class / 8)) }
  where
    by : {k : ℕ} (same : Bool) → Decides same (k ≡ class / 8) → get_or (with_class bytes class) k 0 < 2 ^ 8
    by {k} true d =
        let read : get_or (with_class bytes class) k 0 ≡ with_bit (get_or bytes (class / 8) 0) class = rw (d.0 refl) (get_or-set_same bytes (class / 8) _ 0 (omega (arith, are.len))) in
        rw read (with_bit-lt _ class (are.widths (class / 8)))
    by {k} false d =
        let read : get_or (with_class bytes class) k 0 ≡ get_or bytes k 0 = get_or-set_other bytes (class / 8) k _ 0 (not_from_Decides false d refl) in
        rw read (are.widths k)

-- ---- the laws

one-bit : (m n : ℕ) → m < 2 → n < 2 → eqb m 1 ≡ eqb n 1 → m ≡ n
one-bit m n hm hn e = grind (arith, nat_tests)

same-bits : (a b : List ℕ) → ((class : ℕ) → is_set a class ≡ is_set b class) → (k i : ℕ) → i < 8 → bit_at (get_or a k 0) i ≡ bit_at (get_or b k 0) i
same-bits a b same k i small =
    let byte : (8 * k + i) / 8 ≡ k = omega arith in
    let bit : (8 * k + i) % 8 ≡ i = omega arith in
    let here : eqb (bit_at (get_or a k 0) i) 1 ≡ eqb (bit_at (get_or b k 0) i) 1 = rw (byte, bit) at (same (8 * k + i)) in
    one-bit _ _ (bit_at-lt _ i) (bit_at-lt _ i) here

same-bytes : (a b : List ℕ) → AreSetBytes a → AreSetBytes b → ((class : ℕ) → is_set a class ≡ is_set b class) → a ≡ b
same-bytes a b are_a are_b same =
    same_number_lists a b (are_a.len ∙ sym are_b.len) (λ k inside. same_from_bits_below 8 (get_or a k 0) (get_or b k 0) (are_a.widths k) (are_b.widths k) (same-bits a b same k))

-- two sets of the same bytes are the same
pub same_set : (a b : ClassSet) → a.bytes ≡ b.bytes → a ≡ b
same_set a b bytes = values_one struct the_propositions a b (λ i. (bytes i, tt))

pub members_make_the_set : MembersMakeTheSet
unfolding has_class
members_make_the_set a b same =
    same_set a b (same-bytes a.bytes b.bytes a.set_bytes b.set_bytes same)

bytes_with : (classes : List ℕ) → AllByRecursion (λ class. class < 256) classes → (bytes : List ℕ) × AreSetBytes bytes × ((class : ℕ) → is_set bytes class ≡ list_any (λ member. eqb class member) classes)
bytes_with [] small = (no_bytes, no_bytes-set_bytes, none-set)
bytes_with (member ∷ classes) small =
    let later = bytes_with classes small.1 in
    let inside : member / 8 < length later.0 = omega (arith, small.0, later.1.len) in
    (with_class later.0 member, with_class-set_bytes later.0 member small.0 later.1, λ class. inserted later.0 member class inside ∙ ap (λ (b : Bool). eqb class member || b) (later.2 class))

pub classes_have_a_set : ClassesHaveASet
unfolding has_class
classes_have_a_set classes small =
    let found = bytes_with classes small in
    (record { bytes = found.0; set_bytes = found.1 }, found.2)

-- ---- some member

-- among the lowest bits of a byte one is set, or none is
some-bit : (byte n : ℕ) → ((i : ℕ) × (bit_at byte i ≡ 1) × (i < n)) ⊎ ((i : ℕ) → i < n → bit_at byte i ≡ 0)
some-bit byte zero = inr (λ i h. absurd (omega arith))
some-bit byte (suc n) =
    elim (some-bit byte n) [
      | inl found ↦ inl (found.0, found.1, omega (arith, found.2))
      | inr none ↦ here (eqb (bit_at byte n) 1) (Decides-eqb (bit_at byte n) 1) none
    ] where
      here : (set : Bool) → Decides set (bit_at byte n ≡ 1) → ((i : ℕ) → i < n → bit_at byte i ≡ 0) → ((i : ℕ) × (bit_at byte i ≡ 1) × (i < suc n)) ⊎ ((i : ℕ) → i < suc n → bit_at byte i ≡ 0)
      here true d none = inl (n, d.0 refl, omega arith)
      here false d none = inr each where
        each : (i : ℕ) → i < suc n → bit_at byte i ≡ 0
        each i h = last (eqb i n) (Decides-eqb i n) where
          last : (same : Bool) → Decides same (i ≡ n) → bit_at byte i ≡ 0
          last true e = rw (e.0 refl) (omega (arith, bit_at-lt byte n, not_from_Decides false d refl))
          last false e = none i (omega (arith, not_from_Decides false e refl))

-- a byte that is not 0 has a bit
bit-of : (byte : ℕ) → byte < 2 ^ 8 → not (eqb byte 0) ≡ true → (i : ℕ) × (bit_at byte i ≡ 1) × (i < 8)
bit-of byte small some =
    elim (some-bit byte 8) [
      | inl found ↦ found
      | inr none ↦
          let zero_byte : byte ≡ 0 = same_from_bits_below 8 byte 0 small (omega arith) (λ i h. none i h ∙ sym (bit_at-zero i)) in
          absurd (grind (arith, nat_tests))
    ]

some-byte : (bytes : List ℕ) → list_any (λ byte. not (eqb byte 0)) bytes ≡ true → (k : ℕ) × (not (eqb (get_or bytes k 0) 0) ≡ true)
some-byte [] some = absurd (false≢true some)
some-byte (b ∷ bytes) some =
    elim (either (not (eqb b 0))) [
      | inl here ↦ (0, here)
      | inr none ↦ let later = some-byte bytes (rw none at some) in (suc later.0, later.1)
    ]

byte-some : (bytes : List ℕ) (k : ℕ) → not (eqb (get_or bytes k 0) 0) ≡ true → list_any (λ byte. not (eqb byte 0)) bytes ≡ true
byte-some [] k some = absurd (false≢true some)
byte-some (b ∷ bytes) zero some = rw some refl
byte-some (b ∷ bytes) (suc k) some = or_right (not (eqb b 0)) _ (byte-some bytes k some)

pub a_member_is_a_class : AMemberIsAClass
unfolding has_class has_member
a_member_is_a_class set = (found, has)
  where
    found : list_any (λ byte. not (eqb byte 0)) set.bytes ≡ true → (class : ℕ) × (is_set set.bytes class ≡ true)
    found some =
        let byte = some-byte set.bytes some in
        let bit = bit-of (get_or set.bytes byte.0 0) (set.set_bytes.widths byte.0) byte.1 in
        let at : (8 * byte.0 + bit.0) / 8 ≡ byte.0 = omega (arith, bit.2) in
        let low : (8 * byte.0 + bit.0) % 8 ≡ bit.0 = omega (arith, bit.2) in
        (8 * byte.0 + bit.0, rw (at, low, bit.1) refl)

    has : ((class : ℕ) × (is_set set.bytes class ≡ true)) → list_any (λ byte. not (eqb byte 0)) set.bytes ≡ true
    has member =
        let k = member.0 / 8 in
        byte-some set.bytes k (of (eqb (get_or set.bytes k 0) 0) (Decides-eqb (get_or set.bytes k 0) 0)) where
          of : (none : Bool) → Decides none (get_or set.bytes (member.0 / 8) 0 ≡ 0) → not none ≡ true
          of true d =
              let bit : bit_at (get_or set.bytes (member.0 / 8) 0) (member.0 % 8) ≡ 0 = rw (d.0 refl) (bit_at-zero (member.0 % 8)) in
              absurd (false≢true (rw bit at member.1))
          of false d = refl

-- a set without a member has these bytes
no_member-zero : (bytes : List ℕ) (k : ℕ) → list_any (λ byte. not (eqb byte 0)) bytes ≡ false → get_or bytes k 0 ≡ 0
no_member-zero [] k none = refl
no_member-zero (b ∷ bytes) zero none = let here = (or_parts (not (eqb b 0)) _ none).0 in grind (arith, nat_tests)
no_member-zero (b ∷ bytes) (suc k) none = no_member-zero bytes k (or_parts (not (eqb b 0)) _ none).1

pub no_member_bytes : (set : ClassSet) → has_member set ≡ false → set.bytes ≡ no_bytes
unfolding has_member
no_member_bytes set none = same_number_lists set.bytes no_bytes set.set_bytes.len (λ k inside. no_member-zero set.bytes k none ∙ sym (no_bytes_read k))

pub none_has_no_member : has_member no_class ≡ false
unfolding has_member
none_has_no_member = refl

-- ---- bytes, or-ed together

or-zero : (a b : ℕ) → eqb (bit_or a b) 0 ≡ (eqb a 0 && eqb b 0)
or-zero a b = by (eqb a 0) (eqb b 0) (Decides-eqb a 0) (Decides-eqb b 0)
  where
    by : (none_a none_b : Bool) → Decides none_a (a ≡ 0) → Decides none_b (b ≡ 0) → eqb (bit_or a b) 0 ≡ (none_a && none_b)
    by true true da db = rw (da.0 refl, db.0 refl) refl
    by true false da db = let some = not_from_Decides false db refl in let least = le_or_r a b in grind (arith, nat_tests)
    by false true da db = let some = not_from_Decides false da refl in let least = le_or_l a b in grind (arith, nat_tests)
    by false false da db = let some = not_from_Decides false da refl in let least = le_or_l a b in grind (arith, nat_tests)

or-bytes : (bytes : List ℕ) (a : ℕ) → eqb (fold bit_or a bytes) 0 ≡ (eqb a 0 && not (list_any (λ byte. not (eqb byte 0)) bytes))
or-bytes [] a = by (eqb a 0) where
  by : (none : Bool) → none ≡ (none && true)
  by true = refl
  by false = refl
or-bytes (b ∷ bytes) a = or-bytes bytes (bit_or a b) ∙ by (eqb (bit_or a b) 0) (eqb a 0) (eqb b 0) _ (or-zero a b)
  where
    by : (both one other any : Bool) → both ≡ (one && other) → (both && not any) ≡ (one && not (not other || any))
    by both true true any e = rw e refl
    by both true false any e = rw e refl
    by both false true any e = rw e refl
    by both false false any e = rw e refl

-- they are 0 if no byte is another number
pub or-none : (bytes : List ℕ) → eqb (fold bit_or 0 bytes) 0 ≡ not (list_any (λ byte. not (eqb byte 0)) bytes)
or-none bytes = or-bytes bytes 0
