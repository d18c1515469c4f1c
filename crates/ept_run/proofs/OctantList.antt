-- Octants as words list them, with one octant more at a time.
use Rattle.std.proofs.Common.{◌≡◌, ◌∙◌, ℕ, ◌+◌, suc, Bool, true, false, cond, List, [], ◌∷◌, ◌++◌, refl, ap, sym, arith, map, filter}
use Rattle.std.specs.Prelude.{decimal}
use Rattle.std.specs.List.{join_with_byte}
use Rattle.std.proofs.lemmas.List.{append-nil, append_assoc, map-append}
use Rattle.std.proofs.lemmas.List.Elements.{filter-append}
use Rattle.ept_sample.proofs.Parts.{numbers_below}
use Rattle.ept_grid.specs.Mask.{opened}
use Rattle.ept_run.specs.Merges.{octants_text}

-- the separator before the next one
abbrev pub separator_of : List ℕ → List ℕ
separator_of [] = []
separator_of (o ∷ octants) = 44 ∷ []

-- those below a number, and their text
abbrev pub octants_below : ℕ → ℕ → List ℕ
octants_below octants n = filter (opened octants) (numbers_below n)

abbrev pub text_below : ℕ → ℕ → List ℕ
text_below octants n = join_with_byte 44 (map decimal (octants_below octants n))

one-more : (octants i : ℕ) → octants_below octants (i + 1) ≡ octants_below octants i ++ filter (opened octants) (i ∷ [])
one-more octants i = ap (λ (n : ℕ). octants_below octants n) (let e : i + 1 ≡ suc i = omega arith in e) ∙ filter-append (opened octants) (numbers_below i) (i ∷ [])

octant-yes : (octants i : ℕ) → opened octants i ≡ true → octants_below octants (i + 1) ≡ octants_below octants i ++ (i ∷ [])
octant-yes octants i is_it = one-more octants i ∙ ap (λ (b : Bool). octants_below octants i ++ cond b (i ∷ []) []) is_it

octant-no : (octants i : ℕ) → opened octants i ≡ false → octants_below octants (i + 1) ≡ octants_below octants i
octant-no octants i shut = one-more octants i ∙ (ap (λ (b : Bool). octants_below octants i ++ cond b (i ∷ []) []) shut ∙ append-nil (octants_below octants i))

join-more : (texts : List (List ℕ)) (first next : List ℕ) → join_with_byte 44 ((first ∷ texts) ++ (next ∷ [])) ≡ join_with_byte 44 (first ∷ texts) ++ (44 ∷ next)
join-more [] first next = refl
join-more (text ∷ texts) first next =
    ap (λ (l : List ℕ). first ++ (44 ∷ l)) (join-more texts text next) ∙ sym (append_assoc first (44 ∷ join_with_byte 44 (text ∷ texts)) (44 ∷ next))

list-more : (octants : List ℕ) (next : ℕ) → join_with_byte 44 (map decimal (octants ++ (next ∷ []))) ≡ join_with_byte 44 (map decimal octants) ++ (separator_of octants ++ decimal next)
list-more [] next = refl
list-more (o ∷ octants) next =
    ap (λ (l : List (List ℕ)). join_with_byte 44 l) (map-append decimal (o ∷ octants) (next ∷ [])) ∙ join-more (map decimal octants) (decimal o) (decimal next)

text-yes : (octants i : ℕ) → opened octants i ≡ true → text_below octants (i + 1) ≡ text_below octants i ++ (separator_of (octants_below octants i) ++ decimal i)
text-yes octants i is_it = ap (λ (l : List ℕ). join_with_byte 44 (map decimal l)) (octant-yes octants i is_it) ∙ list-more (octants_below octants i) i

text-no : (octants i : ℕ) → opened octants i ≡ false → text_below octants (i + 1) ≡ text_below octants i
text-no octants i shut = ap (λ (l : List ℕ). join_with_byte 44 (map decimal l)) (octant-no octants i shut)

some-first : (octants : List ℕ) (next : ℕ) → separator_of (octants ++ (next ∷ [])) ≡ 44 ∷ []
some-first [] next = refl
some-first (o ∷ octants) next = refl

pub separator-yes : (octants i : ℕ) → opened octants i ≡ true → separator_of (octants_below octants (i + 1)) ≡ 44 ∷ []
separator-yes octants i is_it = ap separator_of (octant-yes octants i is_it) ∙ some-first (octants_below octants i) i

pub separator-no : (octants i : ℕ) → opened octants i ≡ false → separator_of (octants_below octants (i + 1)) ≡ separator_of (octants_below octants i)
separator-no octants i shut = ap separator_of (octant-no octants i shut)

pub line-yes : (octants i n : ℕ) (old line more separator : List ℕ) → line ≡ old ++ text_below octants i → separator ≡ separator_of (octants_below octants i) → more ≡ line ++ separator ++ decimal n → n ≡ i → opened octants i ≡ true
    → more ≡ old ++ text_below octants (i + 1)
line-yes octants i n old line more separator so stands is same is_it =
    is ∙ (append_assoc line separator (decimal n)
    ∙ (ap (λ (l : List ℕ). l ++ (separator ++ decimal n)) so
    ∙ (append_assoc old (text_below octants i) (separator ++ decimal n)
    ∙ ap (λ (l : List ℕ). old ++ l) (ap (λ (s : List ℕ). text_below octants i ++ (s ++ decimal n)) stands ∙ (ap (λ (k : ℕ). text_below octants i ++ (separator_of (octants_below octants i) ++ decimal k)) same ∙ sym (text-yes octants i is_it))))))

pub line-no : (octants i : ℕ) (old line : List ℕ) → line ≡ old ++ text_below octants i → opened octants i ≡ false → line ≡ old ++ text_below octants (i + 1)
line-no octants i old line so shut = so ∙ ap (λ (l : List ℕ). old ++ l) (sym (text-no octants i shut))

pub text-all : (octants : ℕ) → text_below octants 8 ≡ octants_text octants
unfolding octants_text
text-all octants = refl
