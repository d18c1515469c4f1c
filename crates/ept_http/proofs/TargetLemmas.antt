-- Targets: that a served name is text, and what is not named.
use Rattle.std.proofs.Common.{◌≡◌, ◌≢◌, ℕ, ◌<◌, List, [], ◌∷◌, ◌++◌, map, ℤ, FitsSigned, w64, true, ltb, refl, sym, subst, arith, lit<, inl, inr, decimal}
use Rattle.std.specs.Prelude.{codes}
use Rattle.std.specs.Fmt.{signed_decimal}
use Rattle.std.specs.List.{AllByRecursion, list_all, join_with_byte}
use Rattle.std.specs.Str.{IsAscii, IsUtf8}
use Rattle.std.proofs.lemmas.Bool.Decides.{nat_tests}
use Rattle.std.proofs.lemmas.Str.{IsUtf8-from_ascii, IsAscii-append}
use Rattle.std.proofs.lemmas.Str.Ascii.{IsAscii-nil, IsAscii-cons}
use Rattle.ept_space.specs.declared.box3.Box3.{Box3}
use Rattle.ept_space.specs.KeyText.{key_text}
use Rattle.ept_space.proofs.KeyTexts.{IsAscii-key_text}
use Rattle.ept_filter.specs.declared.sift.Sift.{Sift}
use Rattle.ept_http.specs.declared.asked.Asked.{Asked}
use Rattle.ept_http.specs.declared.asked.Asked.TheVariants.{File, Query, Select, Refuse}
use Rattle.ept_http.specs.QueryWords.{IsBoxText, IsDepthsText}
use Rattle.ept_http.specs.Targets.{IsTextName, IsServedName, IsQueryTarget, IsSelectTarget, Names}
use Rattle.ept_http.proofs.Numbers.{digits-lack, number-lacks}

-- ---- names are text

ascii-literal : (bs : List ℕ) → list_all (λ b. ltb b 128) bs ≡ true → IsAscii bs
ascii-literal [] h = IsAscii-nil
ascii-literal (b ∷ bs) h =
    let low : b < 128 = grind (arith, nat_tests) in
    let rest : list_all (λ x. ltb x 128) bs ≡ true = grind (arith, nat_tests) in
    IsAscii-cons b bs low (ascii-literal bs rest)

text-IsAscii : (name : List ℕ) → IsTextName name → IsAscii name
text-IsAscii name (inl is) = subst IsAscii (sym is) (ascii-literal (codes "ept.json") refl)
text-IsAscii name (inr (inl is)) = subst IsAscii (sym is) (ascii-literal (codes "ept-build.json") refl)
text-IsAscii name (inr (inr is)) = subst IsAscii (sym is) (ascii-literal (codes "ept-sources/manifest.json") refl)

name-IsAscii : (name : List ℕ) → IsServedName name → IsAscii name
name-IsAscii name (inl is) = text-IsAscii name is
name-IsAscii name (inr (inl (key, is_key, is))) =
    subst IsAscii (sym is) (IsAscii-append (codes "ept-data/") (key_text key ++ codes ".bin") (ascii-literal (codes "ept-data/") refl) (IsAscii-append (key_text key) (codes ".bin") (IsAscii-key_text key is_key) (ascii-literal (codes ".bin") refl)))
name-IsAscii name (inr (inr (key, is_key, is))) =
    subst IsAscii (sym is) (IsAscii-append (codes "ept-hierarchy/") (key_text key ++ codes ".json") (ascii-literal (codes "ept-hierarchy/") refl) (IsAscii-append (key_text key) (codes ".json") (IsAscii-key_text key is_key) (ascii-literal (codes ".json") refl)))

pub name-IsUtf8 : (name : List ℕ) → IsServedName name → IsUtf8 name
name-IsUtf8 name is = IsUtf8-from_ascii name (name-IsAscii name is)

-- ---- what names nothing

pub none-named : (target : List ℕ) → ((name : List ℕ) → target ≡ codes "/" ++ name → ¬ (IsServedName name)) → ((area : Box3) (first last : ℕ) → ¬ (IsQueryTarget target area first last)) → ((area : Box3) (first last : ℕ) (sift : Sift) → ¬ (IsSelectTarget target area first last sift)) → (asked : Asked) → ¬ (Names target asked)
none-named target no_file no_query no_select (File name) h = no_file name h.0 h.1
none-named target no_file no_query no_select (Query area first last) h = no_query area first last h
none-named target no_file no_query no_select (Select area first last sift) h = no_select area first last sift h
none-named target no_file no_query no_select (Refuse status) h = h

-- ---- the words of a query

-- if two lists lack a byte, so does the joined list
pub lacks-append : (mark : ℕ) (xs ys : List ℕ) → AllByRecursion (λ b. b ≢ mark) xs → AllByRecursion (λ b. b ≢ mark) ys → AllByRecursion (λ b. b ≢ mark) (xs ++ ys)
lacks-append mark [] ys h k = k
lacks-append mark (x ∷ xs) ys h k = (h.0, lacks-append mark xs ys h.1 k)

lacks-joined : (mark : ℕ) (numbers : List ℤ) → mark < 44 → AllByRecursion (FitsSigned w64) numbers → AllByRecursion (λ b. b ≢ mark) (join_with_byte 44 (map signed_decimal numbers))
lacks-joined mark [] low fits = fits
lacks-joined mark (n ∷ []) low fits = number-lacks mark n (omega arith) fits.0
lacks-joined mark (n ∷ m ∷ numbers) low fits =
    lacks-append mark (signed_decimal n) (44 ∷ join_with_byte 44 (map signed_decimal (m ∷ numbers))) (number-lacks mark n (omega arith) fits.0) ((omega arith), lacks-joined mark (m ∷ numbers) low fits.1)

-- the text of a box has no ampersand
pub box-lacks : (text : List ℕ) (area : Box3) → IsBoxText text area → AllByRecursion (λ b. b ≢ 38) text
box-lacks text area is =
    subst (AllByRecursion (λ b. b ≢ 38)) (sym is.spelled) (lacks-joined 38 (area.min ++ area.max) (lit< tt) is.fits)

-- nor has the text of depths
pub depths-lack : (text : List ℕ) (first last : ℕ) → IsDepthsText text first last → AllByRecursion (λ b. b ≢ 38) text
depths-lack text first last is =
    subst (AllByRecursion (λ b. b ≢ 38)) (sym is.spelled) (lacks-append 38 (decimal first) (44 ∷ decimal last) (digits-lack 38 first (lit< tt) (omega (arith, is.ordered, is.bounded))) ((omega arith), digits-lack 38 last (lit< tt) (omega (arith, is.bounded))))
