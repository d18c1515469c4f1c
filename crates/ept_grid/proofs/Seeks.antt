-- The search up a column: what was read.
use Rattle.std.proofs.Common.{◌≡◌, ◌∙◌, ℕ, zero, suc, ◌+◌, ◌-◌, ◌<◌, ◌≤◌, Bool, true, false, cond, ◌&&◌, ◌==◌, List, [], ◌∷◌, length, get_or, refl, sym, subst, arith}
use Rattle.std.specs.Prelude.{slice_index, nat_lt, count_by}
use Rattle.std.proofs.lemmas.Bool.Decides.{nat_tests}
use Rattle.std.proofs.lemmas.Bool.{false≢true}
use Rattle.std.proofs.lemmas.List.Sums.{sum_by-cons}
use Rattle.ept_grid.proofs.Chains.{left, left-falls}
use Rattle.ept_grid.specs.declared.spot.Spot.{Spot}
use Rattle.ept_grid.specs.Columns.{nowhere, column_at, level_at, LeadsTo, IsChained, IsAlone, in_column, looked}

-- ---- counts

pub count-cons : {X : Type 0} (test : X → Bool) (x : X) (xs : List X) → count_by test (x ∷ xs) ≡ cond (test x) 1 0 + count_by test xs
count-cons test x xs = sum_by-cons (λ y. cond (test y) 1 0) x xs

pub count-le : {X : Type 0} (f g : X → Bool) (xs : List X) → ((x : X) → f x ≡ true → g x ≡ true) → count_by f xs ≤ count_by g xs
count-le f g [] more = omega arith
count-le {X} f g (x ∷ xs) more =
    rw (count-cons f x xs, count-cons g x xs) (step (f x) refl (g x) refl (count-le f g xs more))
  where
    step : (a : Bool) → f x ≡ a → (b : Bool) → g x ≡ b → count_by f xs ≤ count_by g xs → cond a 1 0 + count_by f xs ≤ cond b 1 0 + count_by g xs
    step false is_f false is_g rest = omega arith
    step false is_f true is_g rest = omega arith
    step true is_f true is_g rest = omega arith
    step true is_f false is_g rest = absurd (false≢true (sym is_g ∙ more x is_f))

-- an item that passes the second test alone counts one more
pub count-grows : {X : Type 0} (f g : X → Bool) (xs : List X) (j : ℕ) (d : X) → ((x : X) → f x ≡ true → g x ≡ true) → j < length xs → f (get_or xs j d) ≡ false → g (get_or xs j d) ≡ true → count_by f xs + 1 ≤ count_by g xs
count-grows f g [] j d more within fails passes = absurd (omega arith)
count-grows {X} f g (x ∷ xs) zero d more within fails passes =
    rw (count-cons f x xs, count-cons g x xs) (step (f x) fails (g x) passes (count-le f g xs more))
  where
    step : (a : Bool) → a ≡ false → (b : Bool) → b ≡ true → count_by f xs ≤ count_by g xs → cond a 1 0 + count_by f xs + 1 ≤ cond b 1 0 + count_by g xs
    step false is_a true is_b rest = omega arith
    step true is_a b is_b rest = absurd (false≢true (sym is_a))
    step false is_a false is_b rest = absurd (false≢true is_b)
count-grows {X} f g (x ∷ xs) (suc j) d more within fails passes =
    rw (count-cons f x xs, count-cons g x xs) (step (f x) refl (g x) refl (count-grows f g xs j d more (omega arith) fails passes))
  where
    step : (a : Bool) → f x ≡ a → (b : Bool) → g x ≡ b → count_by f xs + 1 ≤ count_by g xs → cond a 1 0 + count_by f xs + 1 ≤ cond b 1 0 + count_by g xs
    step false is_f false is_g rest = omega arith
    step false is_f true is_g rest = omega arith
    step true is_f true is_g rest = omega arith
    step true is_f false is_g rest = absurd (false≢true (sym is_g ∙ more x is_f))

-- ---- what was read

lower : (column low more : ℕ) → low ≤ more → (s : Spot) → ((s.column == column) && nat_lt s.level low) ≡ true → ((s.column == column) && nat_lt s.level more) ≡ true
lower column low more le s h = both (s.column == column) h
  where
    both : (b : Bool) → (b && nat_lt s.level low) ≡ true → (b && nat_lt s.level more) ≡ true
    both true e = grind (arith, nat_tests)
    both false e = absurd (false≢true e)

in_one : (column low : ℕ) (s : Spot) → ((s.column == column) && nat_lt s.level low) ≡ true → (s.column == column) ≡ true
in_one column low s h = both (s.column == column) h
  where
    both : (b : Bool) → (b && nat_lt s.level low) ≡ true → b ≡ true
    both true e = refl
    both false e = absurd (false≢true e)

is-there : (c l column low : ℕ) → c ≡ column → l < low → ((c == column) && nat_lt l low) ≡ true
is-there c l column low same below = grind (arith, nat_tests)

is-not-there : (c l column low : ℕ) → c ≡ column → low ≤ l → ((c == column) && nat_lt l low) ≡ false
is-not-there c l column low same above = grind (arith, nat_tests)

is-same : (c column : ℕ) → c ≡ column → (c == column) ≡ true
is-same c column same = grind (arith, nat_tests)

-- a cell is read that is not below a level
pub looked-one : (spots : List Spot) (column low j : ℕ) → j < length spots → column_at spots j ≡ column → low ≤ level_at spots j → looked spots column low + 1 ≤ looked spots column (level_at spots j + 1)
looked-one spots column low j within in_col not_below =
    count-grows (λ s. (s.column == column) && nat_lt s.level low) (λ s. (s.column == column) && nat_lt s.level (level_at spots j + 1)) spots j nowhere (lower column low (level_at spots j + 1) (omega arith)) within (is-not-there _ _ column low in_col not_below) (is-there _ _ column (level_at spots j + 1) in_col (omega arith))

pub looked-last : (spots : List Spot) (column low j : ℕ) → j < length spots → column_at spots j ≡ column → low ≤ level_at spots j → looked spots column low + 1 ≤ in_column spots column
looked-last spots column low j within in_col not_below =
    count-grows (λ s. (s.column == column) && nat_lt s.level low) (λ s. s.column == column) spots j nowhere (in_one column low) within (is-not-there _ _ column low in_col not_below) (is-same _ column in_col)

pub looked-all : (spots : List Spot) (column low : ℕ) → looked spots column low ≤ in_column spots column
looked-all spots column low =
    count-le (λ s. (s.column == column) && nat_lt s.level low) (λ s. s.column == column) spots (in_one column low)

-- ---- the search

-- on the way to a level: a link, and how many cells were read to come there
pub record IsSeeking (spots : List Spot) (column level link before now : ℕ) : Type 0 where
  pub low : ℕ
  pub not_above : low ≤ level
  pub leads : LeadsTo spots column low link
  pub cost : now ≤ before + looked spots column low

pub seek-start : (heads nexts : List ℕ) (spots : List Spot) (column level steps : ℕ) → IsChained heads nexts spots → column < length heads → IsSeeking spots column level (slice_index heads column) steps steps
seek-start heads nexts spots column level steps chained within = record {
  low = 0;
  not_above = omega arith;
  leads = chained.first column within;
  cost = omega arith;
}

pub seek-step : (heads nexts : List ℕ) (spots : List Spot) (column level link before now : ℕ) → IsChained heads nexts spots → IsSeeking spots column level link before now → 0 < link → level_at spots (link - 1) < level → IsSeeking spots column level (slice_index nexts (link - 1)) before (now + 1)
seek-step heads nexts spots column level link before now chained seeks some below =
    let there = seeks.leads.there in
    let in_col = seeks.leads.of_column some in
    let cost = seeks.cost in
    let more = looked-one spots column seeks.low (link - 1) (omega arith) in_col (seeks.leads.not_below some) in
    record {
      low = level_at spots (link - 1) + 1;
      not_above = omega arith;
      leads = subst (λ c. LeadsTo spots c (level_at spots (link - 1) + 1) (slice_index nexts (link - 1))) in_col (chained.next (link - 1) (omega arith));
      cost = omega arith;
    }

pub seek-cost : (spots : List Spot) (column level link before now : ℕ) → IsSeeking spots column level link before now → 0 < link → now + 1 ≤ before + in_column spots column
seek-cost spots column level link before now seeks some =
    let there = seeks.leads.there in
    let cost = seeks.cost in
    let last = looked-last spots column seeks.low (link - 1) (omega arith) (seeks.leads.of_column some) (seeks.leads.not_below some) in
    omega arith

pub seek-end : (spots : List Spot) (column level before now : ℕ) → IsSeeking spots column level 0 before now → now ≤ before + in_column spots column
seek-end spots column level before now seeks =
    let cost = seeks.cost in
    let all = looked-all spots column seeks.low in
    omega arith

-- if the next cell is above the level, or there is none, no cell of the level is there
pub seek-alone : (spots : List Spot) (s : Spot) (link before now : ℕ) → IsSeeking spots s.column s.level link before now → (0 < link → s.level < level_at spots (link - 1)) → IsAlone spots s
seek-alone spots s zero before now seeks higher k within in_col at =
    let low = seeks.leads.none refl k within in_col in
    let le = seeks.not_above in
    absurd (omega arith)
seek-alone spots s (suc link) before now seeks higher k within in_col at =
    let le = seeks.not_above in
    let up = higher (omega arith) in
    let first = seeks.leads.first (omega arith) k within in_col (omega arith) in
    absurd (omega arith)

pub seek-nearer : (heads nexts : List ℕ) (spots : List Spot) (column level link before now : ℕ) → IsChained heads nexts spots → IsSeeking spots column level link before now → 0 < link → level_at spots (link - 1) < level → left spots level (slice_index nexts (link - 1)) < left spots level link
seek-nearer heads nexts spots column level zero before now chained seeks some below = absurd (omega arith)
seek-nearer heads nexts spots column level (suc link) before now chained seeks some below =
    let same : suc link - 1 ≡ link = omega arith in
    let there = seeks.leads.there in
    let lower : level_at spots link < level = subst (λ k. level_at spots k < level) same below in
    subst (λ k. left spots level (slice_index nexts k) < left spots level (suc link)) (sym same) (left-falls spots (column_at spots link) level link (slice_index nexts link) (chained.next link (omega arith)) lower)
