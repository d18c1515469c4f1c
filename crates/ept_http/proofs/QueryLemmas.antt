-- The numbers of a box and of a range of depths, one after the other.
use mir.Val.{to_z, of_z}
use Rattle.std.proofs.Common.{◌≡◌, ℕ, Bool, ◌&&◌, ◌↔◌, IsTrue, ◌≤◌, List, [], ◌∷◌, ◌++◌, length, map, ℤ, pos, ◌≤ℤ◌, FitsSigned, w64, refl, sym, ap, subst, ◌∙◌, arith, Option, Some, None, IfNone}
use Rattle.std.specs.Fmt.{signed_decimal}
use Rattle.std.specs.List.{AllByRecursion, join_with_byte}
use Rattle.ept_space.proofs.Intervals.{all-three}
use Rattle.ept_space.specs.declared.box3.Box3.{Box3}
use Rattle.ept_space.specs.Place.{coordinate}
use Rattle.std.proofs.lemmas.Int.{to_z-of_z}
use Rattle.ept_http.specs.QueryWords.{IsOrdered, IsBoxText}

-- ---- the order of a box

-- a comparison of numbers of 64 bits is one of the numbers
pub read-at_most : (test : Bool) (a b : ℤ) → FitsSigned w64 a → FitsSigned w64 b → IsTrue test ↔ (to_z w64 (of_z w64 a) ≤ℤ to_z w64 (of_z w64 b)) → IsTrue test ↔ (a ≤ℤ b)
read-at_most test a b fits_a fits_b h = simp to_z-of_z at h

-- three comparisons say that a box is ordered
pub ordered-code : (area : Box3) (x y z : Bool) → IsTrue x ↔ (coordinate area.min 0 ≤ℤ coordinate area.max 0) → IsTrue y ↔ (coordinate area.min 1 ≤ℤ coordinate area.max 1) → IsTrue z ↔ (coordinate area.min 2 ≤ℤ coordinate area.max 2) → IsTrue (x && y && z) ↔ IsOrdered area
ordered-code area x y z on_x on_y on_z =
    let all = all-three x y z _ _ _ on_x on_y on_z in
    ((λ h. let t = all.0 h in record { x = t.0; y = t.1; z = t.2 }), (λ h. all.1 (h.x, h.y, h.z)))

-- ---- the numbers of a text

-- three coordinates are the coordinates of the three axes
pub three-axes : (place : List ℤ) → length place ≡ 3 → place ≡ coordinate place 0 ∷ coordinate place 1 ∷ coordinate place 2 ∷ []
three-axes [] same = absurd (omega arith)
three-axes (x ∷ []) same = absurd (omega arith)
three-axes (x ∷ y ∷ []) same = absurd (omega arith)
three-axes (x ∷ y ∷ z ∷ []) same = refl
three-axes (x ∷ y ∷ z ∷ w ∷ place) same = absurd (omega arith)

-- what follows the comma after each number except the last
abbrev pub after_max_x : Box3 → List ℕ
after_max_x area = signed_decimal (coordinate area.max 1) ++ 44 ∷ signed_decimal (coordinate area.max 2)

abbrev pub after_min_z : Box3 → List ℕ
after_min_z area = signed_decimal (coordinate area.max 0) ++ 44 ∷ after_max_x area

abbrev pub after_min_y : Box3 → List ℕ
after_min_y area = signed_decimal (coordinate area.min 2) ++ 44 ∷ after_min_z area

abbrev pub after_min_x : Box3 → List ℕ
after_min_x area = signed_decimal (coordinate area.min 1) ++ 44 ∷ after_min_y area

pub record IsSplitBox (text : List ℕ) (area : Box3) : Type 0 where
  pub spelled : text ≡ signed_decimal (coordinate area.min 0) ++ 44 ∷ after_min_x area
  pub min_x : FitsSigned w64 (coordinate area.min 0)
  pub min_y : FitsSigned w64 (coordinate area.min 1)
  pub min_z : FitsSigned w64 (coordinate area.min 2)
  pub max_x : FitsSigned w64 (coordinate area.max 0)
  pub max_y : FitsSigned w64 (coordinate area.max 1)
  pub max_z : FitsSigned w64 (coordinate area.max 2)

pub split-box : (text : List ℕ) (area : Box3) → IsBoxText text area → IsSplitBox text area
split-box text area h =
    let numbers : area.min ++ area.max ≡ coordinate area.min 0 ∷ coordinate area.min 1 ∷ coordinate area.min 2 ∷ coordinate area.max 0 ∷ coordinate area.max 1 ∷ coordinate area.max 2 ∷ [] =
    ap (λ (w : List ℤ). w ++ area.max) (three-axes area.min h.least) ∙ ap (λ (w : List ℤ). (coordinate area.min 0 ∷ coordinate area.min 1 ∷ coordinate area.min 2 ∷ []) ++ w) (three-axes area.max h.greatest) in
    let fits = subst (AllByRecursion (FitsSigned w64)) numbers h.fits in
    record {
      spelled = h.spelled ∙ ap (λ (w : List ℤ). join_with_byte 44 (map signed_decimal w)) numbers;
      min_x = fits.0;
      min_y = fits.1.0;
      min_z = fits.1.1.0;
      max_x = fits.1.1.1.0;
      max_y = fits.1.1.1.1.0;
      max_z = fits.1.1.1.1.1.0;
    }

pub read-three : (x y z a b c : ℤ) → FitsSigned w64 x → FitsSigned w64 y → FitsSigned w64 z → x ≡ a → y ≡ b → z ≡ c → to_z w64 (of_z w64 x) ∷ to_z w64 (of_z w64 y) ∷ to_z w64 (of_z w64 z) ∷ [] ≡ a ∷ b ∷ c ∷ []
read-three x y z a b c fits_x fits_y fits_z is_x is_y is_z =
    let same_x = to_z-of_z w64 x fits_x in
    let same_y = to_z-of_z w64 y fits_y in
    let same_z = to_z-of_z w64 z fits_z in
    cc

-- the box that was read is the one that the text spells
pub same-box : (area : Box3) (least greatest : List ℤ) → length area.min ≡ 3 → length area.max ≡ 3 → least ≡ coordinate area.min 0 ∷ coordinate area.min 1 ∷ coordinate area.min 2 ∷ [] → greatest ≡ coordinate area.max 0 ∷ coordinate area.max 1 ∷ coordinate area.max 2 ∷ [] → (let read : Box3 = record { min = least; max = greatest } in area ≡ read)
same-box area least greatest from to is_least is_greatest =
    let mins = three-axes area.min from ∙ sym is_least in
    let maxes = three-axes area.max to ∙ sym is_greatest in
    λ i. record { min = mins i; max = maxes i }

-- ---- depths

pub small-depth : (n : ℕ) → n ≤ 32 → FitsSigned w64 (pos n)
small-depth n small = record { sfits = omega arith }

-- ---- no result

-- what is known if there is no result, stated in another way
pub if-none : {T : Type 0} (r : Option T) (P Q : Type 0) → IfNone r P → (P → Q) → IfNone r Q
if-none None P Q h f = f h
if-none (Some x) P Q h f = tt
