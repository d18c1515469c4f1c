-- Chains of cells: a step up a column, and a new cell in it.
use Rattle.std.proofs.Common.{◌≡◌, ◌≢◌, ◌∙◌, ◌⊎◌, inl, inr, ℕ, zero, suc, ◌+◌, ◌-◌, ◌<◌, ◌≤◌, List, [], ◌∷◌, ◌++◌, length, get_or, refl, ap, sym, subst, arith, length-append}
use Rattle.std.specs.Prelude.{slice_index, slice_set}
use Rattle.std.proofs.lemmas.Bool.{cases_lt}
use Rattle.std.proofs.Math.ListN.{get_or-append}
use Rattle.std.proofs.Math.Seq.{get_or-append_seam}
use Rattle.std.proofs.lemmas.List.{get_or-set_same, get_or-set_other, length-set}
use Rattle.ept_grid.specs.declared.spot.Spot.{Spot}
use Rattle.ept_grid.specs.Columns.{nowhere, column_at, level_at, LeadsTo, IsChained, after, IsOnWay, IsCut, heads_with, nexts_with, IsAlone}

-- ---- a step

pub way-start : (heads nexts : List ℕ) (spots : List Spot) (column level : ℕ) → IsChained heads nexts spots → column < length heads → IsOnWay spots column level 0 (slice_index heads column)
way-start heads nexts spots column level chained low = record {
  there = omega arith;
  of_column = λ some. absurd (omega arith);
  is_below = λ some. absurd (omega arith);
  leads = chained.first column low;
}

next-of : (heads nexts : List ℕ) (spots : List Spot) (column link : ℕ) → IsChained heads nexts spots → suc link ≤ length spots → column_at spots link ≡ column → LeadsTo spots column (level_at spots link + 1) (slice_index nexts link)
next-of heads nexts spots column link chained there of_column =
    subst (λ c. LeadsTo spots c (level_at spots link + 1) (slice_index nexts link)) of_column (chained.next link (omega arith))

step-at : (heads nexts : List ℕ) (spots : List Spot) (column level link : ℕ) → IsChained heads nexts spots → suc link ≤ length spots → column_at spots link ≡ column → level_at spots link < level → IsOnWay spots column level (suc link) (slice_index nexts link)
step-at heads nexts spots column level link chained there of_column is_below =
    let same : suc link - 1 ≡ link = omega arith in
    record {
      there = there;
      of_column = λ some. ap (λ k. column_at spots k) same ∙ of_column;
      is_below = λ some. subst (λ k. level_at spots k < level) (sym same) is_below;
      leads = next-of heads nexts spots column link chained there of_column;
    }

pub way-step : (heads nexts : List ℕ) (spots : List Spot) (column level below above : ℕ) → IsChained heads nexts spots → IsOnWay spots column level below above → 0 < above → level_at spots (above - 1) < level → IsOnWay spots column level above (slice_index nexts (above - 1))
way-step heads nexts spots column level below zero chained way some is_below = absurd (omega arith)
way-step heads nexts spots column level below (suc link) chained way some is_below =
    let same : suc link - 1 ≡ link = omega arith in
    let of_column : column_at spots link ≡ column = ap (λ k. column_at spots k) (sym same) ∙ way.leads.of_column some in
    let lower : level_at spots link < level = subst (λ k. level_at spots k < level) same is_below in
    subst (λ k. IsOnWay spots column level (suc link) (slice_index nexts k)) (sym same) (step-at heads nexts spots column level link chained way.leads.there of_column lower)

-- how far it is to a level
abbrev pub left : List Spot → ℕ → ℕ → ℕ
left spots level zero = 0
left spots level (suc link) = level - level_at spots link

pub left-falls : (spots : List Spot) (column level link next : ℕ) → LeadsTo spots column (level_at spots link + 1) next → level_at spots link < level → left spots level next < level - level_at spots link
left-falls spots column level link zero leads is_below = omega arith
left-falls spots column level link (suc next) leads is_below =
    let same : suc next - 1 ≡ next = omega arith in
    let up : level_at spots link + 1 ≤ level_at spots next = subst (λ k. level_at spots link + 1 ≤ level_at spots k) same (leads.not_below (omega arith)) in
    omega arith

pub way-nearer : (heads nexts : List ℕ) (spots : List Spot) (column level below above : ℕ) → IsChained heads nexts spots → IsOnWay spots column level below above → 0 < above → level_at spots (above - 1) < level → left spots level (slice_index nexts (above - 1)) < left spots level above
way-nearer heads nexts spots column level below zero chained way some is_below = absurd (omega arith)
way-nearer heads nexts spots column level below (suc link) chained way some is_below =
    let same : suc link - 1 ≡ link = omega arith in
    let of_column : column_at spots link ≡ column = ap (λ k. column_at spots k) (sym same) ∙ way.leads.of_column some in
    let lower : level_at spots link < level = subst (λ k. level_at spots k < level) same is_below in
    subst (λ k. left spots level (slice_index nexts k) < left spots level (suc link)) (sym same) (left-falls spots column level link (slice_index nexts link) (next-of heads nexts spots column link chained way.leads.there of_column) lower)

-- ---- what the cut implies

-- each cell of the column is below the level, or not below what the cut leads to
pub cut-above : (spots : List Spot) (column level below above k : ℕ) → IsCut spots column level below above → k < length spots → column_at spots k ≡ column → after spots below ≤ level_at spots k → (0 < above) × (level_at spots (above - 1) ≤ level_at spots k)
cut-above spots column level below zero k cut within in_column from =
    let low : level_at spots k < after spots below = cut.way.leads.none refl k within in_column in absurd (omega arith)
cut-above spots column level below (suc link) k cut within in_column from =
    (omega arith, cut.way.leads.first (omega arith) k within in_column from)

-- ---- one more cell

abbrev with_one : List Spot → Spot → List Spot
with_one spots s = spots ++ s ∷ []

length-with_one : (spots : List Spot) (s : Spot) → length (with_one spots s) ≡ length spots + 1
length-with_one spots s = length-append spots (s ∷ [])

old-spot : (spots : List Spot) (s : Spot) (k : ℕ) → k < length spots → get_or (with_one spots s) k nowhere ≡ get_or spots k nowhere
old-spot spots s k within = get_or-append spots (s ∷ []) nowhere k within

new-spot : (spots : List Spot) (s : Spot) (k : ℕ) → k ≡ length spots → get_or (with_one spots s) k nowhere ≡ s
new-spot spots s k is = ap (λ n. get_or (with_one spots s) n nowhere) is ∙ get_or-append_seam spots s [] nowhere

old-column : (spots : List Spot) (s : Spot) (k : ℕ) → k < length spots → column_at (with_one spots s) k ≡ column_at spots k
old-column spots s k within = ap (λ (t : Spot). t.column) (old-spot spots s k within)

old-level : (spots : List Spot) (s : Spot) (k : ℕ) → k < length spots → level_at (with_one spots s) k ≡ level_at spots k
old-level spots s k within = ap (λ (t : Spot). t.level) (old-spot spots s k within)

new-column : (spots : List Spot) (s : Spot) (k : ℕ) → k ≡ length spots → column_at (with_one spots s) k ≡ s.column
new-column spots s k is = ap (λ (t : Spot). t.column) (new-spot spots s k is)

new-level : (spots : List Spot) (s : Spot) (k : ℕ) → k ≡ length spots → level_at (with_one spots s) k ≡ s.level
new-level spots s k is = ap (λ (t : Spot). t.level) (new-spot spots s k is)

-- the number of an old cell, or of the new one
which : (spots : List Spot) (s : Spot) (k : ℕ) → k < length (with_one spots s) → (k < length spots) ⊎ (k ≡ length spots)
which spots s k within =
    let all = length-with_one spots s in
    elim (cases_lt k (length spots)) [ inl low ↦ inl low | inr high ↦ inr (omega arith) ]

-- the new cell is not the cell that a link should lead to
abbrev ComesLater : List Spot → Spot → ℕ → ℕ → ℕ → Type 0
ComesLater spots s column low link =
    s.column ≡ column → low ≤ s.level → (0 < link) × (level_at spots (link - 1) ≤ s.level)

-- a link leads where it led, unless the new cell comes before
leads-more : (spots : List Spot) (s : Spot) (column low link : ℕ) → LeadsTo spots column low link → ComesLater spots s column low link → LeadsTo (with_one spots s) column low link
leads-more spots s column low link leads later =
    let all = length-with_one spots s in
    let there = leads.there in
    record {
      none = λ is k within in_column. elim (which spots s k within) [
        | inl old ↦ subst (λ n. n < low) (sym (old-level spots s k old)) (leads.none is k old (sym (old-column spots s k old) ∙ in_column))
        | inr new ↦ subst (λ n. n < low) (sym (new-level spots s k new)) (none_new is (sym (new-column spots s k new) ∙ in_column))
      ];
      there = omega arith;
      of_column = λ some. old-column spots s (link - 1) (omega arith) ∙ leads.of_column some;
      not_below = λ some. subst (λ n. low ≤ n) (sym (old-level spots s (link - 1) (omega arith))) (leads.not_below some);
      first = λ some k within in_column from. subst (λ n. n ≤ level_at (with_one spots s) k) (sym (old-level spots s (link - 1) (omega arith))) (elim (which spots s k within) [
        | inl old ↦ subst (λ n. level_at spots (link - 1) ≤ n) (sym (old-level spots s k old)) (leads.first some k old (sym (old-column spots s k old) ∙ in_column) (subst (λ n. low ≤ n) (old-level spots s k old) from))
        | inr new ↦ subst (λ n. level_at spots (link - 1) ≤ n) (sym (new-level spots s k new)) ((later (sym (new-column spots s k new) ∙ in_column) (subst (λ n. low ≤ n) (new-level spots s k new) from)).1)
      ]);
    }
  where
    none_new : link ≡ 0 → s.column ≡ column → s.level < low
    none_new is in_column =
        elim (cases_lt s.level low) [ inl below ↦ below | inr not_below ↦ let h : 0 < link = (later in_column not_below).0 in absurd (omega arith) ]

-- a link leads to the new cell, if no cell comes before
leads-new : (spots : List Spot) (s : Spot) (low : ℕ) → low ≤ s.level → ((k : ℕ) → k < length spots → column_at spots k ≡ s.column → low ≤ level_at spots k → s.level ≤ level_at spots k) → LeadsTo (with_one spots s) s.column low (length spots + 1)
leads-new spots s low from first_of =
    let all = length-with_one spots s in
    let same : length spots + 1 - 1 ≡ length spots = omega arith in
    record {
      none = λ is k within in_column. absurd (omega arith);
      there = omega arith;
      of_column = λ some. new-column spots s (length spots + 1 - 1) same;
      not_below = λ some. subst (λ n. low ≤ n) (sym (new-level spots s (length spots + 1 - 1) same)) from;
      first = λ some k within in_column at_least. subst (λ n. n ≤ level_at (with_one spots s) k) (sym (new-level spots s (length spots + 1 - 1) same)) (elim (which spots s k within) [
        | inl old ↦ subst (λ n. s.level ≤ n) (sym (old-level spots s k old)) (first_of k old (sym (old-column spots s k old) ∙ in_column) (subst (λ n. low ≤ n) (old-level spots s k old) at_least))
        | inr new ↦ let e = new-level spots s k new in omega arith
      ]);
    }

-- the new cell leads on to what comes above it
leads-on : (spots : List Spot) (s : Spot) (low above : ℕ) → LeadsTo spots s.column low above → low ≤ s.level + 1 → (0 < above → s.level < level_at spots (above - 1)) → LeadsTo (with_one spots s) s.column (s.level + 1) above
leads-on spots s low above leads from higher =
    let all = length-with_one spots s in
    let there = leads.there in
    record {
      none = λ is k within in_column. elim (which spots s k within) [
        | inl old ↦ let h : level_at spots k < low = leads.none is k old (sym (old-column spots s k old) ∙ in_column) in let e = old-level spots s k old in omega arith
        | inr new ↦ let e = new-level spots s k new in omega arith
      ];
      there = omega arith;
      of_column = λ some. old-column spots s (above - 1) (omega arith) ∙ leads.of_column some;
      not_below = λ some. let h = higher some in let e = old-level spots s (above - 1) (omega arith) in omega arith;
      first = λ some k within in_column at_least. subst (λ n. n ≤ level_at (with_one spots s) k) (sym (old-level spots s (above - 1) (omega arith))) (elim (which spots s k within) [
        | inl old ↦ let e = old-level spots s k old in subst (λ n. level_at spots (above - 1) ≤ n) (sym e) (leads.first some k old (sym (old-column spots s k old) ∙ in_column) (omega arith))
        | inr new ↦ let e = new-level spots s k new in absurd (omega arith)
      ]);
    }

-- so what the cut leads to is above it
higher-alone : (spots : List Spot) (s : Spot) (below above : ℕ) → IsCut spots s.column s.level below above → IsAlone spots s → 0 < above → s.level < level_at spots (above - 1)
higher-alone spots s below above cut alone some =
    let up = cut.not_below some in
    let there = cut.way.leads.there in
    let apart : level_at spots (above - 1) ≢ s.level = alone (above - 1) (omega arith) (cut.way.leads.of_column some) in
    omega arith

apart-more : (spots : List Spot) (s : Spot) → ((i j : ℕ) → i < length spots → j < length spots → column_at spots i ≡ column_at spots j → level_at spots i ≡ level_at spots j → i ≡ j) → IsAlone spots s → (i j : ℕ) → i < length (with_one spots s) → j < length (with_one spots s) → column_at (with_one spots s) i ≡ column_at (with_one spots s) j → level_at (with_one spots s) i ≡ level_at (with_one spots s) j → i ≡ j
apart-more spots s apart alone i j in_i in_j columns levels =
    elim (which spots s i in_i) [
      | inl old_i ↦ elim (which spots s j in_j) [
        | inl old_j ↦ apart i j old_i old_j (sym (old-column spots s i old_i) ∙ columns ∙ old-column spots s j old_j) (sym (old-level spots s i old_i) ∙ levels ∙ old-level spots s j old_j)
        | inr new_j ↦ absurd (alone i old_i (sym (old-column spots s i old_i) ∙ columns ∙ new-column spots s j new_j) (sym (old-level spots s i old_i) ∙ levels ∙ new-level spots s j new_j))
      ]
      | inr new_i ↦ elim (which spots s j in_j) [
        | inl old_j ↦ absurd (alone j old_j (sym (old-column spots s j old_j) ∙ sym columns ∙ new-column spots s i new_i) (sym (old-level spots s j old_j) ∙ sym levels ∙ new-level spots s i new_i))
        | inr new_j ↦ omega arith
      ]
    ]

next-old : (nexts : List ℕ) (above k : ℕ) → k < length nexts → slice_index (nexts ++ above ∷ []) k ≡ slice_index nexts k
next-old nexts above k within = get_or-append nexts (above ∷ []) 0 k within

next-new : (nexts : List ℕ) (above k : ℕ) → k ≡ length nexts → slice_index (nexts ++ above ∷ []) k ≡ above
next-new nexts above k is = ap (λ n. slice_index (nexts ++ above ∷ []) n) is ∙ get_or-append_seam nexts above [] 0

eq_or_not : (m n : ℕ) → (m ≡ n) ⊎ (m ≢ n)
eq_or_not m n =
    elim (cases_lt m n) [
      | inl low ↦ inr (omega arith)
      | inr high ↦ elim (cases_lt n m) [ inl above ↦ inr (omega arith) | inr same ↦ inl (omega arith) ]
    ]

-- a link of an old cell
as-old : (spots : List Spot) (s : Spot) (k link now : ℕ) → k < length spots → now ≡ link → LeadsTo (with_one spots s) (column_at spots k) (level_at spots k + 1) link → LeadsTo (with_one spots s) (column_at (with_one spots s) k) (level_at (with_one spots s) k + 1) now
as-old spots s k link now old is leads =
    let as_column = subst (λ n. LeadsTo (with_one spots s) n (level_at spots k + 1) link) (sym (old-column spots s k old)) leads in
    let as_level = subst (λ n. LeadsTo (with_one spots s) (column_at (with_one spots s) k) (n + 1) link) (sym (old-level spots s k old)) as_column in
    subst (λ n. LeadsTo (with_one spots s) (column_at (with_one spots s) k) (level_at (with_one spots s) k + 1) n) (sym is) as_level

-- ---- the new cell is the lowest of its column

pub chained-first : (heads nexts : List ℕ) (spots : List Spot) (s : Spot) (above : ℕ) → IsChained heads nexts spots → s.column < length heads → IsCut spots s.column s.level 0 above → IsAlone spots s → IsChained (slice_set heads s.column (length spots + 1)) (nexts ++ above ∷ []) (with_one spots s)
chained-first heads nexts spots s above chained low cut alone = record {
  each = length-append nexts (above ∷ []) ∙ ap (λ n. n + 1) chained.each ∙ sym (length-with_one spots s);
  first = λ c within. elim (eq_or_not c s.column) [
    | inl is ↦ subst (λ n. LeadsTo (with_one spots s) n 0 (slice_index (slice_set heads s.column (length spots + 1)) n)) (sym is) (subst (λ n. LeadsTo (with_one spots s) s.column 0 n) (sym (get_or-set_same heads s.column (length spots + 1) 0 low)) to_new)
    | inr other ↦ subst (λ n. LeadsTo (with_one spots s) c 0 n) (sym (get_or-set_other heads s.column c (length spots + 1) 0 other)) (leads-more spots s c 0 (slice_index heads c) (chained.first c (omega (arith, length-set heads s.column (length spots + 1)))) (λ is _. absurd (other (sym is))))
  ];
  next = λ k within. elim (which spots s k within) [
    | inl old ↦ old_next k old
    | inr new ↦ new_next k new
  ];
  apart = apart-more spots s chained.apart alone;
}
  where
    to_new : LeadsTo (with_one spots s) s.column 0 (length spots + 1)
    to_new = leads-new spots s 0 (omega arith) (λ k within in_column from. let at = cut-above spots s.column s.level 0 above k cut within in_column from in let up = cut.not_below at.0 in omega (arith, at.1))

    new_next : (k : ℕ) → k ≡ length spots → LeadsTo (with_one spots s) (column_at (with_one spots s) k) (level_at (with_one spots s) k + 1) (slice_index (nexts ++ above ∷ []) k)
    new_next k new =
        let on = leads-on spots s 0 above cut.way.leads (omega arith) (higher-alone spots s 0 above cut alone) in
        let as_column = subst (λ n. LeadsTo (with_one spots s) n (s.level + 1) above) (sym (new-column spots s k new)) on in
        let as_level = subst (λ n. LeadsTo (with_one spots s) (column_at (with_one spots s) k) (n + 1) above) (sym (new-level spots s k new)) as_column in
        subst (λ n. LeadsTo (with_one spots s) (column_at (with_one spots s) k) (level_at (with_one spots s) k + 1) n) (sym (next-new nexts above k (new ∙ sym chained.each))) as_level

    old_next : (k : ℕ) → k < length spots → LeadsTo (with_one spots s) (column_at (with_one spots s) k) (level_at (with_one spots s) k + 1) (slice_index (nexts ++ above ∷ []) k)
    old_next k old =
        let each = chained.each in
        let later : ComesLater spots s (column_at spots k) (level_at spots k + 1) (slice_index nexts k) = λ is from. let at = cut-above spots s.column s.level 0 above k cut old (sym is) (omega arith) in let up = cut.not_below at.0 in absurd (omega (arith, at.1)) in
        let more = leads-more spots s (column_at spots k) (level_at spots k + 1) (slice_index nexts k) (chained.next k old) later in
        as-old spots s k (slice_index nexts k) (slice_index (nexts ++ above ∷ []) k) old (next-old nexts above k (omega arith)) more

-- ---- the new cell comes after another of its column

pub chained-between : (heads nexts : List ℕ) (spots : List Spot) (s : Spot) (j above : ℕ) → IsChained heads nexts spots → IsCut spots s.column s.level (suc j) above → IsAlone spots s → IsChained heads (slice_set (nexts ++ above ∷ []) j (length spots + 1)) (with_one spots s)
chained-between heads nexts spots s j above chained cut alone = record {
  each = length-set (nexts ++ above ∷ []) j (length spots + 1) ∙ length-append nexts (above ∷ []) ∙ ap (λ n. n + 1) chained.each ∙ sym (length-with_one spots s);
  first = λ c within. leads-more spots s c 0 (slice_index heads c) (chained.first c within) (head_later c (slice_index heads c) (chained.first c within));
  next = λ k within. elim (which spots s k within) [
    | inl old ↦ elim (eq_or_not k j) [ inl is ↦ at_j k is | inr other ↦ old_next k old other ]
    | inr new ↦ new_next k new
  ];
  apart = apart-more spots s chained.apart alone;
}
  where
    j_in : j < length spots
    j_in = let h = cut.way.there in omega arith

    j_same : suc j - 1 ≡ j
    j_same = omega arith

    j_column : column_at spots j ≡ s.column
    j_column = ap (λ n. column_at spots n) (sym j_same) ∙ cut.way.of_column (omega arith)

    j_level : level_at spots j < s.level
    j_level = subst (λ n. level_at spots n < s.level) j_same (cut.way.is_below (omega arith))

    -- another link of the column to something at or below j
    past_j : (low link : ℕ) → LeadsTo spots s.column low link → low ≤ level_at spots j → (0 < link) × (level_at spots (link - 1) ≤ s.level)
    past_j low zero leads from = let h : level_at spots j < low = leads.none refl j j_in j_column in absurd (omega arith)
    past_j low (suc link) leads from =
        let h : level_at spots (suc link - 1) ≤ level_at spots j = leads.first (omega arith) j j_in j_column from in
        (omega arith, omega (arith, j_level))

    head_later : (c link : ℕ) → LeadsTo spots c 0 link → ComesLater spots s c 0 link
    head_later c link leads is from = past_j 0 link (subst (λ n. LeadsTo spots n 0 link) (sym is) leads) (omega arith)

    above_j : (k : ℕ) → k < length spots → column_at spots k ≡ s.column → level_at spots j + 1 ≤ level_at spots k → s.level ≤ level_at spots k
    above_j k within in_column from =
        let at = cut-above spots s.column s.level (suc j) above k cut within in_column from in
        let up = cut.not_below at.0 in
        omega (arith, at.1)

    at_j : (k : ℕ) → k ≡ j → LeadsTo (with_one spots s) (column_at (with_one spots s) k) (level_at (with_one spots s) k + 1) (slice_index (slice_set (nexts ++ above ∷ []) j (length spots + 1)) k)
    at_j k is =
        let new : LeadsTo (with_one spots s) s.column (level_at spots j + 1) (length spots + 1) = leads-new spots s (level_at spots j + 1) (let h = j_level in omega arith) above_j in
        let as_column = subst (λ n. LeadsTo (with_one spots s) n (level_at spots j + 1) (length spots + 1)) (sym j_column) new in
        let each = chained.each in
        let in_j = j_in in
        let put : slice_index (slice_set (nexts ++ above ∷ []) j (length spots + 1)) j ≡ length spots + 1 = get_or-set_same (nexts ++ above ∷ []) j (length spots + 1) 0 (omega (arith, length-append nexts (above ∷ []))) in
        subst (λ k. LeadsTo (with_one spots s) (column_at (with_one spots s) k) (level_at (with_one spots s) k + 1) (slice_index (slice_set (nexts ++ above ∷ []) j (length spots + 1)) k)) (sym is) (as-old spots s j (length spots + 1) (slice_index (slice_set (nexts ++ above ∷ []) j (length spots + 1)) j) j_in put as_column)

    new_next : (k : ℕ) → k ≡ length spots → LeadsTo (with_one spots s) (column_at (with_one spots s) k) (level_at (with_one spots s) k + 1) (slice_index (slice_set (nexts ++ above ∷ []) j (length spots + 1)) k)
    new_next k new =
        let in_j = j_in in
        let other : k ≢ j = omega arith in
        let lower = j_level in
        let on = leads-on spots s (level_at spots j + 1) above cut.way.leads (omega arith) (higher-alone spots s (suc j) above cut alone) in
        let as_column = subst (λ n. LeadsTo (with_one spots s) n (s.level + 1) above) (sym (new-column spots s k new)) on in
        let as_level = subst (λ n. LeadsTo (with_one spots s) (column_at (with_one spots s) k) (n + 1) above) (sym (new-level spots s k new)) as_column in
        subst (λ n. LeadsTo (with_one spots s) (column_at (with_one spots s) k) (level_at (with_one spots s) k + 1) n) (sym (get_or-set_other (nexts ++ above ∷ []) j k (length spots + 1) 0 other ∙ next-new nexts above k (new ∙ sym chained.each))) as_level

    old_later : (k : ℕ) → k < length spots → k ≢ j → ComesLater spots s (column_at spots k) (level_at spots k + 1) (slice_index nexts k)
    old_later k old other is from =
        elim (cases_lt (level_at spots k) (level_at spots j)) [
          | inl lower ↦ past_j (level_at spots k + 1) (slice_index nexts k) (subst (λ n. LeadsTo spots n (level_at spots k + 1) (slice_index nexts k)) (sym is) (chained.next k old)) (omega arith)
          | inr not_lower ↦ elim (eq_or_not (level_at spots k) (level_at spots j)) [
            | inl same ↦ absurd (other (chained.apart k j old j_in (sym is ∙ sym j_column) same))
            | inr differ ↦ let up : s.level ≤ level_at spots k = above_j k old (sym is) (omega arith) in absurd (omega arith)
          ]
        ]

    old_next : (k : ℕ) → k < length spots → k ≢ j → LeadsTo (with_one spots s) (column_at (with_one spots s) k) (level_at (with_one spots s) k + 1) (slice_index (slice_set (nexts ++ above ∷ []) j (length spots + 1)) k)
    old_next k old other =
        let each = chained.each in
        let more = leads-more spots s (column_at spots k) (level_at spots k + 1) (slice_index nexts k) (chained.next k old) (old_later k old other) in
        as-old spots s k (slice_index nexts k) (slice_index (slice_set (nexts ++ above ∷ []) j (length spots + 1)) k) old (get_or-set_other (nexts ++ above ∷ []) j k (length spots + 1) 0 other ∙ next-old nexts above k (omega arith)) more

low-after : (spots : List Spot) (column level below above k : ℕ) → IsOnWay spots column level below above → level_at spots k ≡ level → after spots below ≤ level_at spots k
low-after spots column level zero above k way is = omega arith
low-after spots column level (suc j) above k way is =
    let same : suc j - 1 ≡ j = omega arith in
    let h : level_at spots j < level = subst (λ n. level_at spots n < level) same (way.is_below (omega arith)) in
    omega arith

-- one more cell, after another or first
pub chained-with : (heads nexts : List ℕ) (spots : List Spot) (s : Spot) (below above : ℕ) → IsChained heads nexts spots → s.column < length heads → IsCut spots s.column s.level below above → IsAlone spots s → IsChained (heads_with heads s.column below (length spots + 1)) (nexts_with nexts below above (length spots + 1)) (spots ++ s ∷ [])
chained-with heads nexts spots s zero above chained low cut alone =
    chained-first heads nexts spots s above chained low cut alone
chained-with heads nexts spots s (suc j) above chained low cut alone =
    chained-between heads nexts spots s j above chained cut alone

-- if the cut leads to no cell of the level, there is none
pub alone-at-cut : (spots : List Spot) (s : Spot) (below above : ℕ) → IsCut spots s.column s.level below above → (0 < above → level_at spots (above - 1) ≢ s.level) → IsAlone spots s
alone-at-cut spots s below above cut other k within in_column level =
    let at = cut-above spots s.column s.level below above k cut within in_column (low-after spots s.column s.level below above k cut.way level) in
    let up = cut.not_below at.0 in
    other at.0 (omega (arith, at.1))
