-- The points of a scan of the inputs are the generated ones.
use Rattle.std.proofs.Common.{◌≡◌, ◌∙◌, ℕ, zero, suc, ◌+◌, ◌*◌, ◌/◌, ◌%◌, ◌<◌, ◌≤◌, List, [], ◌∷◌, Option, Some, length, get_or, refl, sym, ap, subst, arith, ⊎_elim, length-append}
use Rattle.std.specs.Prelude.{Contains}
use Rattle.std.specs.List.{AllZip}
use Rattle.std.proofs.lemmas.List.Elements.{Contains-append_left, Contains-append_right, Contains-append_cases}
use Rattle.ept_base.specs.Files.{Files}
use Rattle.ept_point.specs.declared.point.Point.{Point}
use Rattle.ept_point.specs.Order.{IsAscending}
use Rattle.ept_space.specs.declared.bounds.Bounds.{Bounds}
use Rattle.ept_config.specs.declared.input.Input.{Input}
use Rattle.ept_scan.specs.declared.scan_done.ScanDone.{ScanDone}
use Rattle.ept_scan.specs.Scans.{in_order, HasPointsAt, IsScan}
use Rattle.ept_trial.specs.Trials.{trial_bounds, IsTrialPoint, IsTrialPointOf, HasTrialPoint, AreTrialPoints}
use Rattle.ept_trial.specs.Scans.{records_of, HasScans, paths}
use Rattle.ept_trial.specs.Settings.{IsTrialInput, AreTrialInputs}
use Rattle.ept_trial.proofs.Inputs.{input-is}
use Rattle.ept_trial.proofs.Readings.{AreRecords, points-are}

item-at : {X : Type 0} (xs : List X) (k : ℕ) → k < length xs → (x : X) × (get_or xs k x ≡ x)
item-at [] k within = absurd (omega (arith, within))
item-at (y ∷ ys) zero within = (y, refl)
item-at (y ∷ ys) (suc k) within = item-at ys k (omega (arith, within))

-- a point of a list is one of all lists
in-all : (lists : List (List Point)) (k : ℕ) (d : List Point) (p : Point) → k < length lists → Contains (get_or lists k d) p → Contains (in_order lists) p
in-all [] k d p within has = absurd (omega (arith, within))
in-all (l ∷ lists) zero d p within has = Contains-append_left l (in_order lists) p has
in-all (l ∷ lists) (suc k) d p within has = Contains-append_right l (in_order lists) p (in-all lists k d p (omega (arith, within)) has)

pub zip-length : {A B : Type 0} (R : A → B → Type 0) (xs : List A) (ys : List B) → AllZip R xs ys → length ys ≡ length xs
zip-length R [] [] are = refl
zip-length R [] (y ∷ ys) are = absurd are
zip-length R (x ∷ xs) [] are = absurd are
zip-length R (x ∷ xs) (y ∷ ys) are = ap suc (zip-length R xs ys are.1)

-- the numbers of points of four inputs are together that of all
parts : (count a b c d : ℕ) → a ≡ records_of count 0 → b ≡ records_of count 1 → c ≡ records_of count 2 → d ≡ records_of count 3 → a + (b + (c + (d + 0))) ≡ count
parts count a b c d ea eb ec ed = omega (arith, ea, eb, ec, ed)

four : (count : ℕ) (lists : List (List Point)) → length lists ≡ 4 → ((k : ℕ) (d : List Point) → k < length lists → AreRecords count k (get_or lists k d)) → length (in_order lists) ≡ count
four count [] size each = absurd (omega (arith, size))
four count (a ∷ []) size each = absurd (omega (arith, size))
four count (a ∷ b ∷ []) size each = absurd (omega (arith, size))
four count (a ∷ b ∷ c ∷ []) size each = absurd (omega (arith, size))
four count (a ∷ b ∷ c ∷ d ∷ []) size each =
    let ea = (each 0 a (omega arith)).length_is in
    let eb = (each 1 a (omega arith)).length_is in
    let ec = (each 2 a (omega arith)).length_is in
    let ed = (each 3 a (omega arith)).length_is in
    length-append a (in_order (b ∷ c ∷ d ∷ []))
    ∙ ap (λ (n : ℕ). length a + n) (length-append b (in_order (c ∷ d ∷ [])) ∙ ap (λ (n : ℕ). length b + n) (length-append c (in_order (d ∷ [])) ∙ ap (λ (n : ℕ). length c + n) (length-append d [])))
    ∙ parts count (length a) (length b) (length c) (length d) ea eb ec ed
four count (a ∷ b ∷ c ∷ d ∷ e ∷ lists) size each = absurd (omega (arith, size))

-- point i is record i / 4 of input i mod 4
point-in : (count : ℕ) (lists : List (List Point)) → length lists ≡ 4 → ((k : ℕ) (d : List Point) → k < length lists → AreRecords count k (get_or lists k d)) → (i : ℕ) → i < count → HasTrialPoint count (in_order lists) i
point-in count lists size each i within =
    let input : i % 4 < length lists = omega (arith, size) in
    let are = each (i % 4) [] input in
    let number = are.length_is in
    let inside : i / 4 < records_of count (i % 4) = omega (arith, within) in
    let at = item-at (get_or lists (i % 4) []) (i / 4) (omega (arith, inside, number)) in
    let same : 4 * (i / 4) + i % 4 ≡ i = omega arith in (
      at.0,
      in-all lists (i % 4) [] at.0 input (i / 4, omega (arith, inside, number), at.1),
      subst (λ (j : ℕ). IsTrialPoint count j at.0) same (subst (λ (p : Point). IsTrialPoint count (4 * (i / 4) + i % 4) p) at.1 (are.each (i / 4) at.0 inside)),
    )

-- a point of all lists is one of a list
out-of : (lists : List (List Point)) (p : Point) → Contains (in_order lists) p → (k : ℕ) × (k < length lists) × ((d : List Point) → Contains (get_or lists k d) p)
out-of [] p has = (let none = has.1 in absurd (omega (arith, none)))
out-of (l ∷ lists) p has =
    ⊎_elim (λ (here : Contains l p). (0, omega arith, λ d. here))
    (λ (there : Contains (in_order lists) p). (
    let rest = out-of lists p there in
    let less = rest.1 in
    (suc rest.0, omega (arith, less), rest.2)))
    (Contains-append_cases l (in_order lists) p has)

-- so it is one of the generated ones
point-of : (count : ℕ) (lists : List (List Point)) → length lists ≡ 4 → ((k : ℕ) (d : List Point) → k < length lists → AreRecords count k (get_or lists k d)) → (p : Point) → Contains (in_order lists) p → IsTrialPointOf count p
point-of count lists size each p has =
    let from = out-of lists p has in
    let input = from.1 in
    let are = each from.0 [] input in
    let at = from.2 [] in
    let number = are.length_is in
    let place = at.1 in
    let inside : at.0 < records_of count from.0 = omega (arith, place, number) in
    let less : 4 * at.0 + from.0 < count = omega (arith, inside, input, size) in
    (4 * at.0 + from.0, less, subst (λ (q : Point). IsTrialPoint count (4 * at.0 + from.0) q) at.2 (are.each at.0 p inside))

module _ (count : ℕ) (few : count ≤ 10000000) (all : Files) (scans : HasScans count all) (scale : ℕ) (scale_is : scale ≡ 2) (limits : Option Bounds) (limits_are : limits ≡ Some trial_bounds) (inputs : List Input) (are : AreTrialInputs inputs) where
  list-are : (k : ℕ) (points : List Point) → HasPointsAt all scale limits inputs k points → AreRecords count k points
  list-are k points has =
      points-are count k few has.reading has.has.file
      (input-is count all scans scale scale_is limits limits_are inputs are k has.input has.reading has.has.file has.is_input has.has.content)
      points has.has.are

  pub scan-are : (points : List Point) (done : ScanDone) → IsScan all scale limits inputs 0 points done → IsAscending points → AreTrialPoints count points
  scan-are points done scan ascend =
      let inputs_four = zip-length IsTrialInput paths inputs are in
      let lists_count = scan.are.count in
      let size : length scan.lists ≡ 4 = omega (arith, inputs_four, lists_count) in
      let each : (k : ℕ) (d : List Point) → k < length scan.lists → AreRecords count k (get_or scan.lists k d) =
      λ k d within. list-are k (get_or scan.lists k d) (let e : 0 + k ≡ k = omega arith in subst (λ (j : ℕ). HasPointsAt all scale limits inputs j (get_or scan.lists k d)) e (scan.are.each k d within)) in
      record {
        ascend = ascend;
        length_is = ap (λ (w : List Point). length w) scan.points_are ∙ four count scan.lists size each;
        each = λ i within. subst (λ (w : List Point). HasTrialPoint count w i) (sym scan.points_are) (point-in count scan.lists size each i within);
        only = λ p has. point-of count scan.lists size each p (subst (λ (w : List Point). Contains w p) scan.points_are has);
      }
