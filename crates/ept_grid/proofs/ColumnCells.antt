-- The cells of a column of a box, by their levels.
use Rattle.std.proofs.Common.{◌≡◌, ◌∙◌, ◌⊎◌, inl, inr, ℕ, zero, suc, ◌+◌, ◌*◌, ◌/◌, ◌%◌, ◌^◌, ◌<◌, ◌≤◌, Bool, true, false, cond, ◌&&◌, ◌==◌, List, [], ◌∷◌, length, get_or, map, refl, ap, sym, subst, arith}
use Rattle.std.specs.Prelude.{slice_index, nat_lt, count_by, Option, Some, None, MatchOption}
use Rattle.std.specs.List.{list_any, range_with_len}
use Rattle.std.proofs.lemmas.Bool.Decides.{nat_tests}
use Rattle.std.proofs.lemmas.Bool.{cases_lt, false≢true}
use Rattle.std.proofs.Math.Nat.{div-eq_of_lt-le}
use Rattle.std.proofs.lemmas.List.{length-map}
use Rattle.std.proofs.lemmas.List.Folds.{list_any_at}
use Rattle.std.proofs.lemmas.Nat.{pow_pos, mod_below, div-add-mod'}
use Rattle.ept_point.specs.declared.point.Point.{Point}
use Rattle.ept_space.specs.declared.cube.Rules.{Rules}
use Rattle.ept_space.specs.VoxelKey.{VoxelKey}
use Rattle.ept_space.specs.OctreeCube.{InBox, cell_index}
use Rattle.ept_sample.specs.Place.{place, AllInBox}
use Rattle.ept_sample.proofs.Members.{all-member}
use Rattle.ept_grid.specs.declared.spot.Spot.{Spot}
use Rattle.ept_grid.specs.Columns.{spot, column_of, nowhere, column_at, level_at, IsAlone, StandsAt, in_column, looked}
use Rattle.ept_grid.specs.Winner.{IsCellOf, lies_in, NoneIn, WinsIn, column_cells}
use Rattle.ept_grid.proofs.SpotLaws.{has-key, from-parts, column-parts}
use Rattle.ept_grid.proofs.Contending.{spot-of, false_unless}
use Rattle.ept_grid.proofs.Seeks.{count-cons}

-- ---- a point in a cell, by the place of the cell

-- where a cell is, by its index on each axis
abbrev pub spot_at : Rules → List ℕ → Spot
spot_at rules cell = record { column = column_of rules.cube (slice_index cell 0) (slice_index cell 1); level = slice_index cell 2 }

pub three : (a b c p q r : ℕ) → ((a == p) && (b == q) && (c == r)) ≡ true → (a ≡ p) × (b ≡ q) × (c ≡ r)
three a b c p q r h = (grind (arith, nat_tests), grind (arith, nat_tests), grind (arith, nat_tests))

pub three-from : (a b c p q r : ℕ) → a ≡ p → b ≡ q → c ≡ r → ((a == p) && (b == q) && (c == r)) ≡ true
three-from a b c p q r ha hb hc = grind (arith, nat_tests)

pub spot-lies : (rules : Rules) (depth : ℕ) (cell : List ℕ) (p : Point) → lies_in rules depth cell p ≡ true → spot rules depth p ≡ spot_at rules cell
spot-lies rules depth cell p lies =
    let parts = three (cell_index rules.cube depth (place p) 0) (cell_index rules.cube depth (place p) 1) (cell_index rules.cube depth (place p) 2) (slice_index cell 0) (slice_index cell 1) (slice_index cell 2) lies in
    let at : ℕ → ℕ → ℕ → Spot = λ x y z. record { column = column_of rules.cube x y; level = z } in
    ap (λ n. at n (cell_index rules.cube depth (place p) 1) (cell_index rules.cube depth (place p) 2)) parts.0 ∙ ap (λ n. at (slice_index cell 0) n (cell_index rules.cube depth (place p) 2)) parts.1 ∙ ap (λ n. at (slice_index cell 0) (slice_index cell 1) n) parts.2

pub lies-spot : (rules : Rules) (key : VoxelKey) (cell : List ℕ) (p : Point) → key.depth + rules.cube.s ≤ rules.cube.e → InBox rules.cube key (place p) → IsCellOf rules key cell → spot rules key.depth p ≡ spot_at rules cell → lies_in rules key.depth cell p ≡ true
lies-spot rules key cell p whole inside of_box same =
    let has = has-key rules.cube key (place p) whole inside in
    let parts = column-parts rules.cube _ _ _ _ (ap (λ (s : Spot). s.column) same) in
    three-from _ _ _ _ _ _ (from-parts _ _ (2 ^ rules.cube.s) (has.x ∙ sym of_box.x) parts.0) (from-parts _ _ (2 ^ rules.cube.s) (has.y ∙ sym of_box.y) parts.1) (ap (λ (s : Spot). s.level) same)

pub none-alone : (rules : Rules) (depth : ℕ) (cell : List ℕ) (ws : List Point) → IsAlone (map (spot rules depth) ws) (spot_at rules cell) → NoneIn rules depth cell ws
none-alone rules depth cell ws alone k d within =
    false_unless (lies_in rules depth cell (get_or ws k d)) (λ lies. let same = spot-of rules depth ws k d within ∙ spot-lies rules depth cell (get_or ws k d) lies in alone k (subst (λ n. k < n) (sym (length-map ws (spot rules depth))) within) (ap (λ (s : Spot). s.column) same) (ap (λ (s : Spot). s.level) same))

-- ---- one cell a level

fails : {X : Type 0} (test : X → Bool) (xs : List X) (d : X) → ((k : ℕ) → k < length xs → test (get_or xs k d) ≡ false) → count_by test xs ≡ 0
fails test [] d none = refl
fails {X} test (x ∷ xs) d none =
    count-cons test x xs ∙ ap (λ (b : Bool). cond b 1 0 + count_by test xs) (none 0 (omega arith)) ∙ zero_plus (count_by test xs) (fails test xs d (λ k within. none (suc k) (omega arith)))
  where
    zero_plus : (n : ℕ) → n ≡ 0 → 0 + n ≡ 0
    zero_plus n is = omega arith

at-most-one : {X : Type 0} (test : X → Bool) (xs : List X) (d : X) → ((i j : ℕ) → i < length xs → j < length xs → test (get_or xs i d) ≡ true → test (get_or xs j d) ≡ true → i ≡ j) → count_by test xs ≤ 1
at-most-one test [] d one = omega arith
at-most-one {X} test (x ∷ xs) d one =
    rw (count-cons test x xs) (step (test x) refl (at-most-one test xs d (λ i j in_i in_j at_i at_j. let e : suc i ≡ suc j = one (suc i) (suc j) (omega arith) (omega arith) at_i at_j in omega arith)))
  where
    others : test x ≡ true → count_by test xs ≡ 0
    others is = fails test xs d (λ k within. false_unless (test (get_or xs k d)) (λ also. let e : 0 ≡ suc k = one 0 (suc k) (omega arith) (omega arith) is also in absurd (omega arith)))

    step : (b : Bool) → test x ≡ b → count_by test xs ≤ 1 → cond b 1 0 + count_by test xs ≤ 1
    step true is rest = let none = others is in omega arith
    step false is rest = omega arith

-- what passes a test passes one of two other tests
count-parts : {X : Type 0} (f g h : X → Bool) (xs : List X) → ((x : X) → h x ≡ true → (f x ≡ true) ⊎ (g x ≡ true)) → count_by h xs ≤ count_by f xs + count_by g xs
count-parts f g h [] parts = omega arith
count-parts {X} f g h (x ∷ xs) parts =
    rw (count-cons f x xs, count-cons g x xs, count-cons h x xs) (step (f x) refl (g x) refl (h x) refl (count-parts f g h xs parts))
  where
    neither : f x ≡ false → g x ≡ false → (f x ≡ true) ⊎ (g x ≡ true) → ⊥
    neither no_f no_g (inl passes) = false≢true (sym no_f ∙ passes)
    neither no_f no_g (inr passes) = false≢true (sym no_g ∙ passes)

    step : (a : Bool) → f x ≡ a → (b : Bool) → g x ≡ b → (c : Bool) → h x ≡ c → count_by h xs ≤ count_by f xs + count_by g xs → cond c 1 0 + count_by h xs ≤ cond a 1 0 + count_by f xs + (cond b 1 0 + count_by g xs)
    step true is_a true is_b true is_c rest = omega arith
    step true is_a true is_b false is_c rest = omega arith
    step true is_a false is_b true is_c rest = omega arith
    step true is_a false is_b false is_c rest = omega arith
    step false is_a true is_b true is_c rest = omega arith
    step false is_a true is_b false is_c rest = omega arith
    step false is_a false is_b false is_c rest = omega arith
    step false is_a false is_b true is_c rest = absurd (neither is_a is_b (parts x is_c))

-- ---- the cells of a column

abbrev at_level : ℕ → ℕ → Spot → Bool
at_level column z s = (s.column == column) && (s.level == z)

two : (c column l z : ℕ) → ((c == column) && (l == z)) ≡ true → (c ≡ column) × (l ≡ z)
two c column l z h = (grind (arith, nat_tests), grind (arith, nat_tests))

split-level : (c column l z : ℕ) → ((c == column) && nat_lt l (z + 1)) ≡ true → (((c == column) && nat_lt l z) ≡ true) ⊎ (((c == column) && (l == z)) ≡ true)
split-level c column l z h =
    elim (cases_lt l z) [ inl low ↦ inl (grind (arith, nat_tests)) | inr high ↦ inr (grind (arith, nat_tests)) ]

-- no two of the spots are the same
abbrev pub NoTwo : List Spot → Type 0
NoTwo spots =
    (i j : ℕ) → i < length spots → j < length spots → column_at spots i ≡ column_at spots j → level_at spots i ≡ level_at spots j → i ≡ j

-- one level more
looked-level : (spots : List Spot) (column z : ℕ) (some : Bool) → NoTwo spots → (some ≡ false → (k : ℕ) → k < length spots → at_level column z (get_or spots k nowhere) ≡ false) → looked spots column (z + 1) ≤ looked spots column z + cond some 1 0
looked-level spots column z some apart none =
    let parts = count-parts (λ s. (s.column == column) && nat_lt s.level z) (at_level column z) (λ s. (s.column == column) && nat_lt s.level (z + 1)) spots (λ s h. split-level s.column column s.level z h) in
    let here = few some none in
    omega arith
  where
    one : count_by (at_level column z) spots ≤ 1
    one = at-most-one (at_level column z) spots nowhere (λ i j in_i in_j at_i at_j. let p = two _ _ _ _ at_i in let q = two _ _ _ _ at_j in apart i j in_i in_j (p.0 ∙ sym q.0) (p.1 ∙ sym q.1))

    few : (b : Bool) → (b ≡ false → (k : ℕ) → k < length spots → at_level column z (get_or spots k nowhere) ≡ false) → count_by (at_level column z) spots ≤ cond b 1 0
    few true nobody = one
    few false nobody = let e = fails (at_level column z) spots nowhere (nobody refl) in omega arith

-- the levels of a range
looked-range : (spots : List Spot) (column : ℕ) (test : ℕ → Bool) (a n : ℕ) → NoTwo spots → ((z : ℕ) → a ≤ z → z < a + n → test z ≡ false → (k : ℕ) → k < length spots → at_level column z (get_or spots k nowhere) ≡ false) → looked spots column (a + n) ≤ looked spots column a + count_by test (range_with_len a n)
looked-range spots column test a zero apart none =
    let e : a + 0 ≡ a = omega arith in
    subst (λ m. looked spots column m ≤ looked spots column a + 0) (sym e) (omega arith)
looked-range spots column test a (suc n) apart none =
    let e : a + suc n ≡ a + 1 + n = omega arith in
    let more = looked-range spots column test (a + 1) n apart (λ z low high fail. none z (omega arith) (omega arith) fail) in
    let one = looked-level spots column a (test a) apart (none a (omega arith) (omega arith)) in
    let first = count-cons test a (range_with_len (a + 1) n) in
    subst (λ m. looked spots column m ≤ looked spots column a + count_by test (range_with_len a (suc n))) (sym e) (omega arith)

-- the level of a point of a box
record HasLevel (a n level : ℕ) : Type 0 where
  low : a ≤ level
  high : level < a + n

level-in : (rules : Rules) (key : VoxelKey) (p : Point) → key.depth + rules.cube.s ≤ rules.cube.e → InBox rules.cube key (place p) → HasLevel (key.z * 2 ^ rules.cube.s) (2 ^ rules.cube.s) (spot rules key.depth p).level
level-in rules key p whole inside =
    let has = has-key rules.cube key (place p) whole inside in
    let z = (spot rules key.depth p).level in
    let is : z / 2 ^ rules.cube.s ≡ key.z = has.z in
    let parts : key.z * 2 ^ rules.cube.s + z % 2 ^ rules.cube.s ≡ z = ap (λ q. q * 2 ^ rules.cube.s + z % 2 ^ rules.cube.s) (sym is) ∙ div-add-mod' z (2 ^ rules.cube.s) in
    let rest = mod_below z (2 ^ rules.cube.s) (pow_pos rules.cube.s) in
    record { low = omega arith; high = omega arith }

not-below : (c column l low : ℕ) → low ≤ l → ((c == column) && nat_lt l low) ≡ false
not-below c column l low le = grind (arith, nat_tests)

spot-level : (rules : Rules) (key : VoxelKey) (ws : List Point) (k : ℕ) → key.depth + rules.cube.s ≤ rules.cube.e → AllInBox rules.cube key ws → k < length (map (spot rules key.depth) ws) → HasLevel (key.z * 2 ^ rules.cube.s) (2 ^ rules.cube.s) (level_at (map (spot rules key.depth) ws) k)
spot-level rules key [] k whole inside within = absurd (omega arith)
spot-level rules key (w ∷ ws) k whole inside within =
    let len = length-map (w ∷ ws) (spot rules key.depth) in
    let here : k < length (w ∷ ws) = subst (λ n. k < n) len within in
    subst (λ (s : Spot). HasLevel (key.z * 2 ^ rules.cube.s) (2 ^ rules.cube.s) s.level) (sym (spot-of rules key.depth (w ∷ ws) k w here)) (level-in rules key (get_or (w ∷ ws) k w) whole (inside k w here))

count-le-at : {X : Type 0} (f g : X → Bool) (xs : List X) (d : X) → ((k : ℕ) → k < length xs → f (get_or xs k d) ≡ true → g (get_or xs k d) ≡ true) → count_by f xs ≤ count_by g xs
count-le-at f g [] d more = omega arith
count-le-at {X} f g (x ∷ xs) d more =
    rw (count-cons f x xs, count-cons g x xs) (step (f x) refl (g x) refl (count-le-at f g xs d (λ k within. more (suc k) (omega arith))))
  where
    step : (a : Bool) → f x ≡ a → (b : Bool) → g x ≡ b → count_by f xs ≤ count_by g xs → cond a 1 0 + count_by f xs ≤ cond b 1 0 + count_by g xs
    step false is_f false is_g rest = omega arith
    step false is_f true is_g rest = omega arith
    step true is_f true is_g rest = omega arith
    step true is_f false is_g rest = absurd (false≢true (sym is_g ∙ more 0 (omega arith) is_f))

both : (c column l low : ℕ) → (c == column) ≡ true → l < low → ((c == column) && nat_lt l low) ≡ true
both c column l low same low_l = grind (arith, nat_tests)

spot-same : (s t : Spot) → s.column ≡ t.column → s.level ≡ t.level → s ≡ t
spot-same s t columns levels =
    let at : ℕ → ℕ → Spot = λ c l. record { column = c; level = l } in
    ap (λ c. at c s.level) columns ∙ ap (λ l. at t.column l) levels

in-box-level : (key n z : ℕ) → key * n ≤ z → z < key * n + n → z / n ≡ key
in-box-level key n z low high =
    let e : (key + 1) * n ≡ key * n + n = omega arith in
    div-eq_of_lt-le n low (omega arith)

-- a cell of a level has a point, if a winner is there
any-there : (rules : Rules) (key : VoxelKey) (ws : List Point) (cell : List ℕ) (k : ℕ) → key.depth + rules.cube.s ≤ rules.cube.e → AllInBox rules.cube key ws → IsCellOf rules key cell → k < length (map (spot rules key.depth) ws) → get_or (map (spot rules key.depth) ws) k nowhere ≡ spot_at rules cell → list_any (lies_in rules key.depth cell) ws ≡ true
any-there rules key [] cell k whole inside of_box within stands = absurd (omega arith)
any-there rules key (w ∷ ws) cell k whole inside of_box within stands =
    let len = length-map (w ∷ ws) (spot rules key.depth) in
    let here : k < length (w ∷ ws) = subst (λ n. k < n) len within in
    let same = sym (spot-of rules key.depth (w ∷ ws) k w here) ∙ stands in
    list_any_at (lies_in rules key.depth cell) (w ∷ ws) k w here (lies-spot rules key cell (get_or (w ∷ ws) k w) whole (inside k w here) of_box same)

none-below : (rules : Rules) (key : VoxelKey) (ws : List Point) (column : ℕ) → key.depth + rules.cube.s ≤ rules.cube.e → AllInBox rules.cube key ws → looked (map (spot rules key.depth) ws) column (key.z * 2 ^ rules.cube.s) ≡ 0
none-below rules key ws column whole inside =
    fails (λ s. (s.column == column) && nat_lt s.level (key.z * 2 ^ rules.cube.s)) (map (spot rules key.depth) ws) nowhere (λ k within. not-below _ column _ (key.z * 2 ^ rules.cube.s) (spot-level rules key ws k whole inside within).low)

all-below : (rules : Rules) (key : VoxelKey) (ws : List Point) (column : ℕ) → key.depth + rules.cube.s ≤ rules.cube.e → AllInBox rules.cube key ws → in_column (map (spot rules key.depth) ws) column ≤ looked (map (spot rules key.depth) ws) column (key.z * 2 ^ rules.cube.s + 2 ^ rules.cube.s)
all-below rules key ws column whole inside =
    count-le-at (λ s. s.column == column) (λ s. (s.column == column) && nat_lt s.level (key.z * 2 ^ rules.cube.s + 2 ^ rules.cube.s)) (map (spot rules key.depth) ws) nowhere (λ k within same. both _ column _ (key.z * 2 ^ rules.cube.s + 2 ^ rules.cube.s) same (spot-level rules key ws k whole inside within).high)

no-cell : (rules : Rules) (key : VoxelKey) (ws : List Point) (x y z : ℕ) → key.depth + rules.cube.s ≤ rules.cube.e → AllInBox rules.cube key ws → IsCellOf rules key (x ∷ y ∷ z ∷ []) → list_any (lies_in rules key.depth (x ∷ y ∷ z ∷ [])) ws ≡ false → (k : ℕ) → k < length (map (spot rules key.depth) ws) → at_level (column_of rules.cube x y) z (get_or (map (spot rules key.depth) ws) k nowhere) ≡ false
no-cell rules key ws x y z whole inside of_box none k within =
    false_unless _ (λ at. let parts = two (column_at (map (spot rules key.depth) ws) k) (column_of rules.cube x y) (level_at (map (spot rules key.depth) ws) k) z at in let stands = spot-same (get_or (map (spot rules key.depth) ws) k nowhere) (spot_at rules (x ∷ y ∷ z ∷ [])) parts.0 parts.1 in false≢true (sym none ∙ any-there rules key ws (x ∷ y ∷ z ∷ []) k whole inside of_box within stands))

-- the cells of a column of a box are those of its levels that have a point
pub column-cells : (rules : Rules) (key : VoxelKey) (ws : List Point) (cell : List ℕ) → key.depth + rules.cube.s ≤ rules.cube.e → AllInBox rules.cube key ws → IsCellOf rules key cell → NoTwo (map (spot rules key.depth) ws) → in_column (map (spot rules key.depth) ws) (column_of rules.cube (slice_index cell 0) (slice_index cell 1)) ≤ column_cells rules key ws (slice_index cell 0) (slice_index cell 1)
unfolding column_cells
column-cells rules key ws cell whole inside of_box apart =
    let x = slice_index cell 0 in
    let y = slice_index cell 1 in
    let a = key.z * 2 ^ rules.cube.s in
    let n = 2 ^ rules.cube.s in
    let upto = looked-range (map (spot rules key.depth) ws) (column_of rules.cube x y) (λ z. list_any (lies_in rules key.depth (x ∷ y ∷ z ∷ [])) ws) a n apart (λ z low high fail. no-cell rules key ws x y z whole inside (record { x = of_box.x; y = of_box.y; z = in-box-level key.z n z low high }) fail) in
    let below = none-below rules key ws (column_of rules.cube x y) whole inside in
    let all = all-below rules key ws (column_of rules.cube x y) whole inside in
    omega arith

-- ---- what the search found

pub found-in : (rules : Rules) (key : VoxelKey) (depth : ℕ) (ws : List Point) (cell : List ℕ) (s : Spot) (found : Option Point) → depth ≡ key.depth → s ≡ spot_at rules cell → key.depth + rules.cube.s ≤ rules.cube.e → AllInBox rules.cube key ws → IsCellOf rules key cell → MatchOption found (IsAlone (map (spot rules depth) ws) s) (StandsAt rules depth ws s) → MatchOption found (NoneIn rules key.depth cell ws) (WinsIn rules key.depth cell ws)
found-in rules key depth ws cell s None is_depth is_spot whole inside of_box alone =
    none-alone rules key.depth cell ws (subst (λ (t : Spot). IsAlone (map (spot rules key.depth) ws) t) is_spot (subst (λ d. IsAlone (map (spot rules d) ws) s) is_depth alone))
found-in rules key depth ws cell s (Some p) is_depth is_spot whole inside of_box at = record {
  one_of_them = at.one_of_them;
  in_cell = lies-spot rules key cell p whole (all-member (λ q. InBox rules.cube key (place q)) p ws inside at.one_of_them) of_box (subst (λ d. spot rules d p ≡ s) is_depth at.stands ∙ is_spot);
}
