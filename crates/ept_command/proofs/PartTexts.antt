-- Words that list the octants of parts.
use Rattle.std.proofs.Common.{◌≡◌, ℕ, zero, suc, ◌+◌, ◌<◌, ◌≤◌, List, [], ◌∷◌, ◌++◌, length, get_or, set, take, refl, sym, ap, ◌∙◌, subst, arith}
use Rattle.std.specs.Prelude.{String, map, string_bytes, codes}
use Rattle.std.specs.List.{AllZip}
use Rattle.std.specs.declared.alloc.Global.{Global}
use Rattle.std.proofs.lemmas.List.{map-append, take_more, take_more_set}
use Rattle.ept_class.specs.Laws.{MembersMakeTheSet}
use Rattle.ept_command.specs.Words.{bytes_of, IsOctantsText, IsMerge}
use Rattle.ept_command.proofs.OctantTexts.{one_mask}

-- ---- lists that are related item by item

zip-push : {A B : Type 0} (R : A → B → Type 0) (xs : List A) (ys : List B) (x : A) (y : B) → AllZip R xs ys → R x y → AllZip R (xs ++ x ∷ []) (ys ++ y ∷ [])
zip-push R [] [] x y all is = (is, tt)
zip-push R [] (z ∷ zs) x y all is = absurd all
zip-push R (w ∷ ws) [] x y all is = absurd all
zip-push R (w ∷ ws) (z ∷ zs) x y all is = (all.0, zip-push R ws zs x y all.1 is)

-- ---- one more word

-- the words so far list these octants, and the next one these
pub list-more : (texts : List (String Global)) (masks : List ℕ) (i : ℕ) (text : String Global) (octants : ℕ) → i < length texts → text ≡ get_or texts i text → i < length masks
    → AllZip IsOctantsText (bytes_of (take i texts)) (take i masks) → IsOctantsText (string_bytes text) octants
    → AllZip IsOctantsText (bytes_of (take (i + 1) texts)) (take (i + 1) (set masks i octants))
list-more texts masks i text octants below is room listed mine =
    let more : take (i + 1) texts ≡ take i texts ++ text ∷ [] = take_more texts i text below ∙ ap (λ (t : String Global). take i texts ++ t ∷ []) (sym is) in
    let bytes : bytes_of (take (i + 1) texts) ≡ bytes_of (take i texts) ++ string_bytes text ∷ [] = ap bytes_of more ∙ map-append string_bytes (take i texts) (text ∷ []) in
    subst (λ (w : List ℕ). AllZip IsOctantsText (bytes_of (take (i + 1) texts)) w) (sym (take_more_set masks i octants room))
    (subst (λ (w : List (List ℕ)). AllZip IsOctantsText w (take i masks ++ octants ∷ [])) (sym bytes) (zip-push IsOctantsText (bytes_of (take i texts)) (take i masks) (string_bytes text) octants listed mine))

-- a word that lists no octants is not among words that do
pub list-none : (texts : List (String Global)) (i : ℕ) (text : String Global) → i < length texts → text ≡ get_or texts i text → ((octants : ℕ) → ¬ IsOctantsText (string_bytes text) octants) → (masks : List ℕ) → ¬ AllZip IsOctantsText (bytes_of texts) masks
list-none texts i text below is none masks listed = by (zip-at texts i text below masks listed)
  where
    zip-at : (all : List (String Global)) (k : ℕ) (d : String Global) → k < length all → (ms : List ℕ) → AllZip IsOctantsText (bytes_of all) ms → (octants : ℕ) × IsOctantsText (string_bytes (get_or all k d)) octants
    zip-at [] k d small ms zipped = absurd (omega (arith, small))
    zip-at (t ∷ ts) k d small [] zipped = absurd zipped
    zip-at (t ∷ ts) zero d small (m ∷ ms) zipped = (m, zipped.0)
    zip-at (t ∷ ts) (suc k) d small (m ∷ ms) zipped = zip-at ts k d (omega (arith, small)) ms zipped.1

    by : (octants : ℕ) × IsOctantsText (string_bytes (get_or texts i text)) octants → ⊥
    by (octants, lists) = none octants (subst (λ (t : String Global). IsOctantsText (string_bytes t) octants) (sym is) lists)

-- ---- the words name their parts once

module _ (once : MembersMakeTheSet) where
  pub one_list : (texts : List (List ℕ)) (some other : List ℕ) → AllZip IsOctantsText texts some → AllZip IsOctantsText texts other → some ≡ other
  one_list [] [] [] one two = refl
  one_list [] [] (y ∷ ys) one two = absurd two
  one_list [] (x ∷ xs) other one two = absurd one
  one_list (t ∷ ts) [] other one two = absurd one
  one_list (t ∷ ts) (x ∷ xs) [] one two = absurd two
  one_list (t ∷ ts) (x ∷ xs) (y ∷ ys) one two = ap (λ (w : ℕ). w ∷ xs) (one_mask once t x y one.0 two.0) ∙ ap (λ (w : List ℕ). y ∷ w) (one_list ts xs ys one.1 two.1)

-- the words of a merge ask for one
pub merge_once : MembersMakeTheSet → (words : List (List ℕ)) (config out other folder some parts : List ℕ) → IsMerge words config out some → IsMerge words other folder parts → (config ≡ other) × (some ≡ parts)
merge_once once words config out other folder some parts one two =
    let same = apart one.texts two.texts (sym one.words_are ∙ two.words_are) in
    (same.0, one_list once two.texts some parts (subst (λ (t : List (List ℕ)). AllZip IsOctantsText t some) same.1 one.parts_are.octants_are) two.parts_are.octants_are)
  where
    apart : (a b : List (List ℕ)) → codes "merge" ∷ config ∷ out ∷ a ≡ codes "merge" ∷ other ∷ folder ∷ b → (config ≡ other) × (a ≡ b)
    apart a b same = (cc, cc)
