-- Whether bytes are the head of a request is decided: the grammar has finitely many ways to cut them.
use Rattle.std.proofs.Common.{◌≡◌, ℕ, zero, suc, ◌<◌, ◌≤◌, List, [], ◌∷◌, ◌++◌, length, Bool, IsTrue, refl, sym, ap, ◌∙◌, arith, append_assoc, append-nil, inl, inr, ◌⊎◌}
use Rattle.std.specs.List.{AllByRecursion, list_all, flat_map}
use Rattle.std.specs.Str.{IsUtf8, is_utf8}
use Rattle.std.proofs.lemmas.Bool.Decides.{Decides-by_and}
use Rattle.std.proofs.lemmas.List.Elements.{recursion_from_All, All-from_recursion}
use Rattle.std.proofs.lemmas.Str.{IsUtf8-from_is_utf8, is_utf8-from_IsUtf8}
use Rattle.httparse.specs.Grammar.{LineEnd, crlf, lf, print_end, print_blank, print_version, Field, print_field, IsField, AllPass, IsToken, is_token_byte, is_uri_byte, is_value_byte, print_section, RequestHead, print_request, IsRequestHead}
use Rattle.httparse.proofs.GrammarLemmas.{print_request-append}
use Rattle.ept_http.specs.WholeHead.{IsHead}
use Rattle.ept_http.proofs.Decided.{Decided, decided-by, decided-as, both, either, same-bytes, IsSplit, split, at-most, things, pieces}

-- ---- bytes of a class

passes : (test : ℕ → Bool) (bytes : List ℕ) → Decided (AllPass test bytes)
passes test bytes = decided-by (list_all test bytes) (Decides-by_and test (λ b. IsTrue (test b)) (list_all test) (λ b. (λ h. h, λ h. h)) refl (λ _ _. refl) bytes)

some-bytes : (bytes : List ℕ) → Decided (0 < length bytes)
some-bytes [] = inr (λ h. absurd (omega (arith, h)))
some-bytes (b ∷ bytes) = inl (omega arith)

token : (bytes : List ℕ) → Decided (IsToken bytes)
token bytes = both (some-bytes bytes) (passes is_token_byte bytes)

utf8 : (bytes : List ℕ) → Decided (IsUtf8 bytes)
utf8 bytes = decided-by (is_utf8 bytes) (IsUtf8-from_is_utf8 bytes, is_utf8-from_IsUtf8 bytes)

-- ---- line ends

abbrev IsEnd : List ℕ → Type 0
IsEnd bytes = (e : LineEnd) × Unit {0} × (bytes ≡ print_end e)

line-end : (bytes : List ℕ) → Decided (IsEnd bytes)
line-end bytes = decided-as there back (either (same-bytes bytes (print_end crlf)) (same-bytes bytes (print_end lf)))
  where
    there : (bytes ≡ print_end crlf) ⊎ (bytes ≡ print_end lf) → IsEnd bytes
    there (inl h) = (crlf, tt, h)
    there (inr h) = (lf, tt, h)

    back : IsEnd bytes → (bytes ≡ print_end crlf) ⊎ (bytes ≡ print_end lf)
    back (crlf, _, h) = inl h
    back (lf, _, h) = inr h

-- each takes a byte, so their number is at most that of the bytes
ends-few : (ends : List LineEnd) → length ends ≤ length (print_blank ends)
ends-few [] = omega arith
ends-few (crlf ∷ ends) = omega (arith, ends-few ends)
ends-few (lf ∷ ends) = omega (arith, ends-few ends)

all-units : (ends : List LineEnd) → AllByRecursion (λ (_ : LineEnd). Unit {0}) ends
all-units [] = tt
all-units (e ∷ ends) = (tt, all-units ends)

abbrev IsBlank : List ℕ → Type 0
IsBlank bytes = (ends : List LineEnd) × (bytes ≡ print_blank ends)

blank : (bytes : List ℕ) → Decided (IsBlank bytes)
blank bytes = decided-as
    (λ h. let found = things print_end (λ (_ : LineEnd). Unit {0}) (length bytes) bytes h in (found.0, found.3))
    (λ h. pieces print_end (λ (_ : LineEnd). Unit {0}) (length bytes) bytes h.0 (all-units h.0) (omega (arith, ends-few h.0, ap length h.1)) h.1)
    (at-most IsEnd line-end (length bytes) bytes)

-- ---- fields

abbrev IsFieldText : List ℕ → Type 0
IsFieldText bytes = (f : Field) × IsField f × (bytes ≡ print_field f)

joined : (whole front back piece rest : List ℕ) → whole ≡ front ++ back → front ≡ piece → back ≡ rest → whole ≡ piece ++ rest
joined whole front back piece rest is is_front is_back = is ∙ ap (λ (w : List ℕ). w ++ back) is_front ∙ ap (λ (w : List ℕ). piece ++ w) is_back

-- the four pieces of a field line
abbrev IsFieldCut : List ℕ → Type 0
IsFieldCut = IsSplit IsToken (IsSplit (λ w. w ≡ 58 ∷ []) (IsSplit (AllPass is_value_byte) IsEnd))

cut-field : (bytes : List ℕ) → IsFieldCut bytes → IsFieldText bytes
cut-field bytes h =
    let colon = h.is_back in
    let raw = colon.is_back in
    let last = raw.is_back in
    let value = joined colon.back raw.front raw.back raw.front (print_end last.0) raw.is refl last.2 in
    let rest = joined h.back colon.front colon.back (58 ∷ []) (raw.front ++ print_end last.0) colon.is colon.is_front value in
    let f : Field = record { name = h.front; raw = raw.front; end = last.0 } in
    let spelled : bytes ≡ print_field f =
    joined bytes h.front h.back h.front (58 ∷ (raw.front ++ print_end last.0)) h.is refl rest ∙ sym (append_assoc h.front (58 ∷ raw.front) (print_end last.0)) in
    (f, record { name = h.is_front; raw = raw.is_front }, spelled)

field-cut : (bytes : List ℕ) → IsFieldText bytes → IsFieldCut bytes
field-cut bytes (f, good, is) =
    record {
      front = f.name;
      back = 58 ∷ (f.raw ++ print_end f.end);
      is = is ∙ append_assoc f.name (58 ∷ f.raw) (print_end f.end);
      is_front = good.name;
      is_back = record {
        front = 58 ∷ [];
        back = f.raw ++ print_end f.end;
        is = refl;
        is_front = refl;
        is_back = record { front = f.raw; back = print_end f.end; is = refl; is_front = good.raw; is_back = (f.end, tt, refl) };
      };
    }

field : (bytes : List ℕ) → Decided (IsFieldText bytes)
field bytes =
    decided-as (cut-field bytes) (field-cut bytes) (split IsToken (IsSplit (λ w. w ≡ 58 ∷ []) (IsSplit (AllPass is_value_byte) IsEnd)) token (split (λ w. w ≡ 58 ∷ []) (IsSplit (AllPass is_value_byte) IsEnd) (λ w. same-bytes w (58 ∷ [])) (split (AllPass is_value_byte) IsEnd (passes is_value_byte) line-end)) bytes)

abbrev AreFields : List ℕ → Type 0
AreFields bytes = (fields : List Field) × AllByRecursion IsField fields × (length fields ≤ 64) × (bytes ≡ flat_map print_field fields)

fields-text : (bytes : List ℕ) → Decided (AreFields bytes)
fields-text bytes = decided-as
    (things print_field IsField 64 bytes)
    (λ h. pieces print_field IsField 64 bytes h.0 h.1 h.2 h.3)
    (at-most IsFieldText field 64 bytes)

-- ---- the head

abbrev IsTarget : List ℕ → Type 0
IsTarget bytes = ((0 < length bytes) × AllPass is_uri_byte bytes) × IsUtf8 bytes

target : (bytes : List ℕ) → Decided (IsTarget bytes)
target bytes = both (both (some-bytes bytes) (passes is_uri_byte bytes)) (utf8 bytes)

abbrev IsVersion : List ℕ → Type 0
IsVersion bytes = (minor : ℕ) × (minor ≤ 1) × (bytes ≡ print_version minor)

version : (bytes : List ℕ) → Decided (IsVersion bytes)
version bytes = decided-as there back (either (same-bytes bytes (print_version 0)) (same-bytes bytes (print_version 1)))
  where
    there : (bytes ≡ print_version 0) ⊎ (bytes ≡ print_version 1) → IsVersion bytes
    there (inl h) = (0, omega arith, h)
    there (inr h) = (1, omega arith, h)

    back : IsVersion bytes → (bytes ≡ print_version 0) ⊎ (bytes ≡ print_version 1)
    back (zero, _, h) = inl h
    back (suc zero, _, h) = inr h
    back (suc (suc n), small, h) = absurd (omega (arith, small))

-- the nine pieces of a head
abbrev IsCut : List ℕ → Type 0
IsCut = IsSplit IsBlank (IsSplit IsToken (IsSplit (λ w. w ≡ 32 ∷ []) (IsSplit IsTarget (IsSplit (λ w. w ≡ 32 ∷ []) (IsSplit IsVersion (IsSplit IsEnd (IsSplit AreFields IsEnd)))))))

cut : (bytes : List ℕ) → Decided (IsCut bytes)
cut = split IsBlank _ blank (split IsToken _ token (split (λ w. w ≡ 32 ∷ []) _ (λ w. same-bytes w (32 ∷ [])) (split IsTarget _ target (split (λ w. w ≡ 32 ∷ []) _ (λ w. same-bytes w (32 ∷ [])) (split IsVersion _ version (split IsEnd _ line-end (split AreFields IsEnd fields-text line-end)))))))

-- the head in pieces
head-text : (head : RequestHead) → print_request head ++ [] ≡ print_blank head.blank ++ (head.method ++ 32 ∷ (head.target ++ 32 ∷ (print_version head.minor ++ (print_end head.line_end ++ (flat_map print_field head.fields ++ print_end head.last)))))
head-text head =
    print_request-append head [] ∙ ap (λ (w : List ℕ). print_blank head.blank ++ (head.method ++ 32 ∷ (head.target ++ 32 ∷ (print_version head.minor ++ (print_end head.line_end ++ w))))) (append-nil (print_section head.fields head.last))

cut-head : (bytes : List ℕ) → IsCut bytes → (head : RequestHead) × IsHead bytes head
cut-head bytes a =
    let b = a.is_back in
    let c = b.is_back in
    let d = c.is_back in
    let e = d.is_back in
    let f = e.is_back in
    let g = f.is_back in
    let k = g.is_back in
    let last = k.is_back in
    let head : RequestHead = record {
      blank = a.is_front.0;
      method = b.front;
      target = d.front;
      minor = f.is_front.0;
      line_end = g.is_front.0;
      fields = k.is_front.0;
      last = last.0;
    } in
    let section = joined g.back k.front k.back (flat_map print_field k.is_front.0) (print_end last.0) k.is k.is_front.3 last.2 in
    let from_end = joined f.back g.front g.back (print_end g.is_front.0) _ g.is g.is_front.2 section in
    let from_version = joined e.back f.front f.back (print_version f.is_front.0) _ f.is f.is_front.2 from_end in
    let from_space = joined d.back e.front e.back (32 ∷ []) _ e.is e.is_front from_version in
    let from_target = joined c.back d.front d.back d.front _ d.is refl from_space in
    let from_first = joined b.back c.front c.back (32 ∷ []) _ c.is c.is_front from_target in
    let from_method = joined a.back b.front b.back b.front _ b.is refl from_first in
    let spelled = joined bytes a.front a.back (print_blank a.is_front.0) _ a.is a.is_front.1 from_method in
    let good : IsRequestHead head = record {
      method = b.is_front;
      target = d.is_front.0;
      target_text = d.is_front.1;
      minor = f.is_front.1;
      fields = All-from_recursion IsField k.is_front.0 k.is_front.1;
    } in
    (head, record { reads = (good, spelled ∙ sym (head-text head)); fits = k.is_front.2 })

head-cut : (bytes : List ℕ) → (head : RequestHead) × IsHead bytes head → IsCut bytes
head-cut bytes (head, is) =
    let good = is.reads.0 in
    record {
      front = print_blank head.blank;
      back = _;
      is = is.reads.1 ∙ head-text head;
      is_front = (head.blank, refl);
      is_back = record {
        front = head.method;
        back = _;
        is = refl;
        is_front = good.method;
        is_back = record {
          front = 32 ∷ [];
          back = _;
          is = refl;
          is_front = refl;
          is_back = record {
            front = head.target;
            back = _;
            is = refl;
            is_front = (good.target, good.target_text);
            is_back = record {
              front = 32 ∷ [];
              back = _;
              is = refl;
              is_front = refl;
              is_back = record {
                front = print_version head.minor;
                back = _;
                is = refl;
                is_front = (head.minor, good.minor, refl);
                is_back = record {
                  front = print_end head.line_end;
                  back = _;
                  is = refl;
                  is_front = (head.line_end, tt, refl);
                  is_back = record {
                    front = flat_map print_field head.fields;
                    back = print_end head.last;
                    is = refl;
                    is_front = (head.fields, recursion_from_All IsField head.fields good.fields, is.fits, refl);
                    is_back = (head.last, tt, refl);
                  };
                };
              };
            };
          };
        };
      };
    }

pub head-decided : (bytes : List ℕ) → Decided ((head : RequestHead) × IsHead bytes head)
head-decided bytes = decided-as (cut-head bytes) (head-cut bytes) (cut bytes)
