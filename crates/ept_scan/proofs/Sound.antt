-- The counts of a scan are as a reader takes them.
use Rattle.std.proofs.Common.{ℕ, zero, suc, ◌+◌, ◌<◌, ◌≤◌, List, [], ◌∷◌, ◌++◌, Option, Some, None, length, get_or, sym, ◌∙◌, ap, subst, arith, length-append, ◌≡◌, refl}
use Rattle.std.specs.Prelude.{ℤ, ◌≤ℤ◌, ◌↔◌, true, false, All, IsSome}
use Rattle.std.proofs.lemmas.List.{get_or_append_left, get_or-append-add}
use Rattle.std.specs.List.{AllZip}
use Rattle.ept_base.specs.Files.{Files, Tells}
use Rattle.ept_point.specs.declared.point.Point.{Point}
use Rattle.ept_space.specs.declared.bounds.Bounds.{Bounds}
use Rattle.ept_space.specs.ClosedBox.{IsBetween}
use Rattle.ept_config.specs.declared.input.Input.{Input}
use Rattle.ept_config.specs.declared.source_count.SourceCount.{SourceCount}
use Rattle.ept_config.specs.Extents.{IsWithin, IsSpanOf, IsExtentOf, HasExtent}
use Rattle.ept_scan.specs.Extents.{IsAllowed}
use Rattle.ept_config.specs.Counts.{IsCountOf, IsCount, most_points}
use Rattle.ept_scan.specs.Scans.{in_order, AreBounds, ArePointsFrom, IsScan}
use Rattle.std.specs.Prelude.{IfSome}
use Rattle.std.specs.Option.{ForSome}
use Rattle.std.proofs.lemmas.Int.{ints}
use Rattle.ept_space.specs.CubeOfBounds.{HasPlace, IsInside}
use Rattle.ept_config.specs.Ranges.{BoundsInRange}
use Rattle.ept_scan.specs.Found.{limits_of, FindsLists}
use Rattle.ept_scan.proofs.Listing.{zip_at, zip_length}

-- what holds of all items of two joined lists holds of all items of each
all_left : {X : Type 0} (P : X → Type 0) (xs ys : List X) → All P (xs ++ ys) → All P xs
all_left P xs ys all = λ k d lt. subst P (get_or_append_left xs ys d k lt) (all k d (omega (arith, lt, length-append xs ys)))

all_right : {X : Type 0} (P : X → Type 0) (xs ys : List X) → All P (xs ++ ys) → All P ys
all_right P xs ys all = λ k d lt. subst P (get_or-append-add xs ys k d) (all (length xs + k) d (omega (arith, lt, length-append xs ys)))

all_of_list : (P : Point → Type 0) (lists : List (List Point)) (k : ℕ) (d : List Point) → k < length lists → All P (in_order lists) → All P (get_or lists k d)
all_of_list P [] k d lt all = absurd (omega (arith, lt))
all_of_list P (l ∷ lists) zero d lt all = all_left P l (in_order lists) all
all_of_list P (l ∷ lists) (suc k) d lt all = all_of_list P lists k d (omega (arith, lt)) (all_right P l (in_order lists) all)

-- points lie within their extent
pub all_within : (points : List Point) (extent : Bounds) → IsExtentOf points extent → All (IsWithin extent) points
all_within points extent is = λ k d lt. record { x = is.x.within k d lt; y = is.y.within k d lt; z = is.z.within k d lt }

-- an end of the extent of points within bounds lies within the bounds
module _ (axis : Point → ℤ) (points : List Point) (low high least greatest : ℤ) (is : IsSpanOf axis points least greatest) (all : All (λ p. IsBetween low high (axis p)) points) where
  least_in : low ≤ℤ least
  least_in =
      let any = is.least_is in
      subst (λ (v : ℤ). low ≤ℤ v) (ap axis any.3 ∙ any.4) (all any.0 any.1 any.2).0

  greatest_in : greatest ≤ℤ high
  greatest_in =
      let any = is.greatest_is in
      subst (λ (v : ℤ). v ≤ℤ high) (ap axis any.3 ∙ any.4) (all any.0 any.1 any.2).1

-- the minimum of the bounds is at most their maximum
least_most : (axis : Point → ℤ) (points : List Point) (least greatest : ℤ) → IsSpanOf axis points least greatest → least ≤ℤ greatest
least_most axis points least greatest is =
    let any = is.least_is in
    let between = is.within any.0 any.1 any.2 in
    below _ _ _ between.0 between.1
  where
    below : (a b c : ℤ) → a ≤ℤ b → b ≤ℤ c → a ≤ℤ c
    below a b c p q = omega (arith, ints)

extent_ordered : (points : List Point) (extent : Bounds) → IsExtentOf points extent → HasPlace extent
extent_ordered points extent is = record {
  x_ordered = least_most (λ p. p.x) points _ _ is.x;
  y_ordered = least_most (λ p. p.y) points _ _ is.y;
  z_ordered = least_most (λ p. p.z) points _ _ is.z;
}

extent_inside : (bounds : Bounds) (points : List Point) (extent : Bounds) → IsExtentOf points extent → All (IsWithin bounds) points → IsInside bounds extent
extent_inside bounds points extent has all = record {
  x_min = least_in (λ p. p.x) points _ _ _ _ has.x (λ k d lt. (all k d lt).x);
  y_min = least_in (λ p. p.y) points _ _ _ _ has.y (λ k d lt. (all k d lt).y);
  z_min = least_in (λ p. p.z) points _ _ _ _ has.z (λ k d lt. (all k d lt).z);
  x_max = greatest_in (λ p. p.x) points _ _ _ _ has.x (λ k d lt. (all k d lt).x);
  y_max = greatest_in (λ p. p.y) points _ _ _ _ has.y (λ k d lt. (all k d lt).y);
  z_max = greatest_in (λ p. p.z) points _ _ _ _ has.z (λ k d lt. (all k d lt).z);
}

extent_of_some : (points : List Point) (extent : Option Bounds) (given : Bounds) → HasExtent points extent → extent ≡ Some given → IsExtentOf points given
extent_of_some points extent given has is = subst (HasExtent points) is has

there : (points : List Point) (extent : Option Bounds) → HasExtent points extent → IsSome extent ↔ (0 < length points)
there points None has = ((λ some. absurd (nothing (sym some))), (λ some. absurd (omega (arith, some, ap length has))))
  where
    nothing : true ≡ false → ⊥
    nothing e = cc
there points (Some extent) has = ((λ some. omega (arith, has.x.least_is.2)), (λ some. refl))

sound_one : (bounds : Bounds) (points : List Point) (count : SourceCount) → IsCountOf points count → length points ≤ most_points → All (IsWithin bounds) points → IsCount bounds count
sound_one bounds points count is few all = record {
  few = omega (arith, is.number, few);
  there = subst (λ (n : ℕ). IsSome count.extent ↔ (0 < n)) (sym is.number) (there points count.extent is.has_extent);
  ordered = λ extent some. extent_ordered points extent (extent_of_some points count.extent extent is.has_extent some);
  inside = λ extent some. extent_inside bounds points extent (extent_of_some points count.extent extent is.has_extent some) all;
}

within_bounds : (limits : Option Bounds) (lists : List (List Point)) (bounds : Bounds) (k : ℕ) → k < length lists → AreBounds limits (in_order lists) bounds → All (All (IsAllowed limits)) lists → All (IsWithin bounds) (get_or lists k [])
within_bounds None lists bounds k lt are all = all_of_list (IsWithin bounds) lists k [] lt (all_within (in_order lists) bounds are)
within_bounds (Some limits) lists bounds k lt are all = subst (λ (b : Bounds). All (IsWithin b) (get_or lists k [])) (sym are) (all k [] lt)

pub all_sound : (files : Option Files) (scale : ℕ) (limits : Option Bounds) (inputs : List Input) (from end : ℕ) (counts : List SourceCount) (bounds : Bounds) → (found : FindsLists files scale limits inputs from end counts)
    → AreBounds limits (in_order found.lists) bounds → All (IsCount bounds) counts
all_sound files scale limits inputs from end counts bounds found are = λ k d lt.
    let within : k < length found.lists = omega (arith, lt, zip_length IsCountOf found.lists counts found.counts_are) in
    sound_one bounds (get_or found.lists k []) (get_or counts k d) (zip_at IsCountOf found.lists counts k [] d found.counts_are lt) (found.few k [] within) (within_bounds limits found.lists bounds k within are found.allowed)

pub bounds_ordered : (limits : Option Bounds) (points : List Point) (bounds : Bounds) → IfSome limits HasPlace → AreBounds limits points bounds → HasPlace bounds
bounds_ordered None points bounds place are = extent_ordered points bounds are
bounds_ordered (Some limits) points bounds place are = subst HasPlace (sym are) place

pub limits_ordered : (kept given : Option Bounds) → IfSome kept HasPlace → ForSome given BoundsInRange → IfSome (limits_of kept given) HasPlace
limits_ordered (Some kept) given has in_range = has
limits_ordered None None has in_range = tt
limits_ordered None (Some given) has in_range = (in_range given refl).ordered

-- what was found of all inputs is the scan of the visible files
pub scan_found : (files : Option Files) (scale : ℕ) (limits told : Option Bounds) (inputs : List Input) (from : ℕ) (counts given : List SourceCount) (bounds : Bounds) → limits ≡ told → given ≡ counts → (found : FindsLists files scale limits inputs from (length inputs) counts)
    → AreBounds limits (in_order found.lists) bounds → Tells (λ all. (points : List Point) × IsScan all scale told inputs from points (record { counts = given; bounds = bounds })) files
scan_found None scale limits told inputs from counts given bounds same_limits same_counts found are = tt
scan_found (Some all) scale limits told inputs from counts given bounds same_limits same_counts found are = (
  in_order found.lists,
  record {
    lists = found.lists;
    are = subst (λ (o : Option Bounds). ArePointsFrom all scale o inputs from (length inputs) found.lists) same_limits found.are;
    points_are = refl;
    counts_are = subst (λ (l : List SourceCount). AllZip IsCountOf found.lists l) (sym same_counts) found.counts_are;
    bounds_are = subst (λ (o : Option Bounds). AreBounds o (in_order found.lists) bounds) same_limits are;
  },
)
