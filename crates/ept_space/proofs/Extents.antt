-- The least cube over bounds.
use Rattle.std.proofs.Common.{◌≡◌, ℕ, suc, ◌+◌, ◌-◌, ◌*◌, ◌^◌, ◌<◌, ◌≤◌, min, max, ◌&&◌, List, [], ◌∷◌, length, ℤ, pos, ◌-ℤ◌, ◌≤ℤ◌, ◌<ℤ◌, ◌↔◌, to_z, of_z, w32, w64, refl, sym, ap, subst, ◌∙◌, arith, inl, inr}
use Rattle.std.specs.Prelude.{FitsSigned, IsTrue, int_le}
use Rattle.std.proofs.lemmas.Int.{ints}
use Rattle.std.proofs.lemmas.Nat.{leading_length}
use Rattle.std.proofs.Math.Pow.{pow_mono}
use Rattle.std.proofs.Math.Nat.{pow-suc, le-max_left, le-max_right}
use Rattle.std.proofs.lemmas.Bool.{cases_lt}
use Rattle.ept_space.specs.declared.bounds.Bounds.{Bounds}
use Rattle.ept_space.specs.Place.{Place, coordinate}
use Rattle.ept_space.specs.OctreeCube.{OctreeCube, IsCube, IsFrom, InCube}
use Rattle.ept_space.specs.ClosedBox.{IsBetween}
use Rattle.ept_space.specs.CubeOfBounds.{InBounds, HasPlace, IsInside, Covers, IsCubeOf, cube_of, longest, bit_length}
use Rattle.ept_space.proofs.Intervals.{all-three}
use Rattle.ept_space.proofs.Shifts.{ap3}

-- ---- how many binary digits a number has

pub bit_length-covers : (n : ℕ) → n < 2 ^ 32 → n < 2 ^ bit_length n
bit_length-covers n small =
    let top = leading_length 32 n small in
    let digits : bit_length n ≡ top.0 = omega (arith, top.1) in
    subst (λ k. n < 2 ^ k) (sym digits) top.2

pub bit_length-least : (n k : ℕ) → n < 2 ^ 32 → n < 2 ^ k → bit_length n ≤ k
bit_length-least n k small covered =
    let top = leading_length 32 n small in
    let digits : bit_length n ≡ top.0 = omega (arith, top.1) in
    elim (cases_lt k (bit_length n)) [
      | inl more ↦ absurd (too_many top.0 (omega arith) top.3)
      | inr enough ↦ enough
    ]
  where
    too_many : (m : ℕ) → suc k ≤ m → 2 ^ m ≤ 2 * n + 1 → ⊥
    too_many m more low =
        let power : 2 ^ suc k ≡ 2 ^ k * 2 = pow-suc 2 k in
        let above : 2 ^ suc k ≤ 2 ^ m = pow_mono more in
        omega arith

pub bit_length-short : (n : ℕ) → bit_length n ≤ 32
bit_length-short n = omega arith

-- ---- bounds with a place

pub has_place-code : (bounds : Bounds) → IsTrue (int_le (coordinate bounds.min 0) (coordinate bounds.max 0) && int_le (coordinate bounds.min 1) (coordinate bounds.max 1) && int_le (coordinate bounds.min 2) (coordinate bounds.max 2)) ↔ HasPlace bounds
has_place-code bounds =
    let all = all-three (int_le (coordinate bounds.min 0) (coordinate bounds.max 0)) (int_le (coordinate bounds.min 1) (coordinate bounds.max 1)) (int_le (coordinate bounds.min 2) (coordinate bounds.max 2)) _ _ _ (order (coordinate bounds.min 0) (coordinate bounds.max 0)) (order (coordinate bounds.min 1) (coordinate bounds.max 1)) (order (coordinate bounds.min 2) (coordinate bounds.max 2)) in (
      (λ h. let t = all.0 h in record { x_ordered = t.0; y_ordered = t.1; z_ordered = t.2 }),
      (λ h. all.1 (h.x_ordered, h.y_ordered, h.z_ordered)),
    )
  where
    order : (a b : ℤ) → IsTrue (int_le a b) ↔ (a ≤ℤ b)
    order a b = ((λ h. grind (arith, ints)), (λ h. grind (arith, ints)))

-- ---- bounds within others

within_axis : (low high least greatest at : ℤ) → low ≤ℤ least → greatest ≤ℤ high → IsBetween least greatest at → IsBetween low high at
within_axis low high least greatest at above below (from, to) = (omega (arith, ints), omega (arith, ints))

least-between : (least greatest : ℤ) → least ≤ℤ greatest → IsBetween least greatest least
least-between least greatest h = (omega (arith, ints), h)

greatest-between : (least greatest : ℤ) → least ≤ℤ greatest → IsBetween least greatest greatest
greatest-between least greatest h = (h, omega (arith, ints))

pub inside-by_places : (outer inner : Bounds) → HasPlace inner → IsInside outer inner ↔ ((place : Place) → InBounds inner place → InBounds outer place)
inside-by_places outer inner has = (
  (λ inside place lies. record {
    x = within_axis _ _ _ _ _ inside.x_min inside.x_max lies.x;
    y = within_axis _ _ _ _ _ inside.y_min inside.y_max lies.y;
    z = within_axis _ _ _ _ _ inside.z_min inside.z_max lies.z;
  }),
  (λ all.
      let low = all inner.min (record { x = least-between _ _ has.x_ordered; y = least-between _ _ has.y_ordered; z = least-between _ _ has.z_ordered }) in
      let high = all inner.max (record { x = greatest-between _ _ has.x_ordered; y = greatest-between _ _ has.y_ordered; z = greatest-between _ _ has.z_ordered }) in
      record { x_min = low.x.0; y_min = low.y.0; z_min = low.z.0; x_max = high.x.1; y_max = high.y.1; z_max = high.z.1 }),
)

-- ---- sides that cover the bounds

pub Covers-from : (bounds : Bounds) (k : ℕ) → longest bounds < 2 ^ k → Covers bounds k
Covers-from bounds k h =
    record { x_covered = omega (arith, ints); y_covered = omega (arith, ints); z_covered = omega (arith, ints) }

pub longest-covered : (bounds : Bounds) (k : ℕ) → HasPlace bounds → Covers bounds k → longest bounds < 2 ^ k
longest-covered bounds k placed h = omega (arith, ints)

-- three coordinates are the list
pub coordinates-all : (xs : List ℤ) → length xs ≡ 3 → coordinate xs 0 ∷ coordinate xs 1 ∷ coordinate xs 2 ∷ [] ≡ xs
coordinates-all (x ∷ y ∷ z ∷ []) h = refl
coordinates-all [] h = absurd (omega arith)
coordinates-all (x ∷ []) h = absurd (omega arith)
coordinates-all (x ∷ y ∷ []) h = absurd (omega arith)
coordinates-all (x ∷ y ∷ z ∷ w ∷ xs) h = absurd (omega arith)

-- ---- the cube of bounds

pub IsCubeOf-cube_of : (bounds : Bounds) (s max_depth : ℕ) → HasPlace bounds → longest bounds < 2 ^ 32 → IsCubeOf bounds s max_depth (cube_of bounds s max_depth)
unfolding cube_of
IsCubeOf-cube_of bounds s max_depth placed small =
    let covered = bit_length-covers (longest bounds) small in
    let wider : 2 ^ bit_length (longest bounds) ≤ 2 ^ max s (bit_length (longest bounds)) = pow_mono (le-max_right s (bit_length (longest bounds))) in
    record {
      at_minimum = refl;
      span = refl;
      holds_span = le-max_left s (bit_length (longest bounds));
      covers = Covers-from bounds (max s (bit_length (longest bounds))) (omega (arith, covered, wider));
      least = λ k low covers_k. let least = bit_length-least (longest bounds) k small (longest-covered bounds k placed covers_k) in omega arith;
      capped = refl;
    }

pub IsCube-cube_of : (bounds : Bounds) (s max_depth : ℕ) → 1 ≤ s → s ≤ 10 → FitsSigned w32 (coordinate bounds.min 0) → FitsSigned w32 (coordinate bounds.min 1) → FitsSigned w32 (coordinate bounds.min 2) → IsCube (cube_of bounds s max_depth)
unfolding cube_of
IsCube-cube_of bounds s max_depth low high fits_x fits_y fits_z =
    let short = bit_length-short (longest bounds) in
    record {
      span_low = low;
      span_high = high;
      side_high = omega arith;
      cells_whole = omega arith;
      corner_x = fits_x;
      corner_y = fits_y;
      corner_z = fits_z;
    }

-- what the code makes is that cube
widened : (read at : ℤ) → FitsSigned w32 at → read ≡ to_z w32 (of_z w32 at) → to_z w64 (of_z w64 read) ≡ at
widened read at fits is_read = omega (arith, ints)

pub cube_of-code : (bounds : Bounds) (s max_depth e depth : ℕ) (x y z : ℤ) → length bounds.min ≡ 3 → FitsSigned w32 (coordinate bounds.min 0) → FitsSigned w32 (coordinate bounds.min 1) → FitsSigned w32 (coordinate bounds.min 2) → x ≡ to_z w32 (of_z w32 (coordinate bounds.min 0)) → y ≡ to_z w32 (of_z w32 (coordinate bounds.min 1)) → z ≡ to_z w32 (of_z w32 (coordinate bounds.min 2)) → e ≡ max s (bit_length (longest bounds)) → depth ≡ min max_depth (e - s) → ◌≡◌ {A = OctreeCube} (record { corner = to_z w64 (of_z w64 x) ∷ to_z w64 (of_z w64 y) ∷ to_z w64 (of_z w64 z) ∷ []; e = e; s = s; depth = depth }) (cube_of bounds s max_depth)
unfolding cube_of
cube_of-code bounds s max_depth e depth x y z three fits_x fits_y fits_z is_x is_y is_z is_e is_depth =
    let at_x = widened x _ fits_x is_x in
    let at_y = widened y _ fits_y is_y in
    let at_z = widened z _ fits_z is_z in
    let corner : to_z w64 (of_z w64 x) ∷ to_z w64 (of_z w64 y) ∷ to_z w64 (of_z w64 z) ∷ [] ≡ bounds.min = ap3 (λ a b c. a ∷ b ∷ c ∷ []) at_x at_y at_z ∙ coordinates-all bounds.min three in
    let capped : depth ≡ min max_depth (max s (bit_length (longest bounds)) - s) = is_depth ∙ ap (λ n. min max_depth (n - s)) is_e in
    λ i. record { corner = corner i; e = is_e i; s = s; depth = capped i }

-- the places of bounds lie in their cube
pub InCube-bounds : (bounds : Bounds) (s max_depth : ℕ) (cube : OctreeCube) (place : Place) → IsCubeOf bounds s max_depth cube → InBounds bounds place → InCube cube place
unfolding InCube
InCube-bounds bounds s max_depth cube place h inside =
    record {
      x = reaches _ _ _ _ (ap (λ corner. coordinate corner 0) h.at_minimum) h.covers.x_covered inside.x;
      y = reaches _ _ _ _ (ap (λ corner. coordinate corner 1) h.at_minimum) h.covers.y_covered inside.y;
      z = reaches _ _ _ _ (ap (λ corner. coordinate corner 2) h.at_minimum) h.covers.z_covered inside.z;
    }
  where
    reaches : (corner least greatest at : ℤ) → corner ≡ least → (greatest -ℤ least) <ℤ pos (2 ^ cube.e) → IsBetween least greatest at → IsFrom corner (2 ^ cube.e) at
    reaches corner least greatest at same covered (low, high) = (omega (arith, ints), omega (arith, ints))

-- bounds have one cube
pub IsCubeOf-unique : (bounds : Bounds) (s max_depth : ℕ) (a b : OctreeCube) → IsCubeOf bounds s max_depth a → IsCubeOf bounds s max_depth b → a ≡ b
IsCubeOf-unique bounds s max_depth a b in_a in_b =
    let upper = in_a.least b.e in_b.holds_span in_b.covers in
    let lower = in_b.least a.e in_a.holds_span in_a.covers in
    let corner : a.corner ≡ b.corner = in_a.at_minimum ∙ sym in_b.at_minimum in
    let e : a.e ≡ b.e = omega arith in
    let span : a.s ≡ b.s = in_a.span ∙ sym in_b.span in
    let depth : a.depth ≡ b.depth = in_a.capped ∙ ap (λ n. min max_depth (n - s)) e ∙ sym in_b.capped in
    λ i. record { corner = corner i; e = e i; s = span i; depth = depth i }
