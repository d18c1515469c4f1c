-- What holds of points that arrive at a node. Each statement is a clause of a function of `laws`.
use Rattle.std.specs.Prelude.{◌≡◌, ℕ, Bool, IsTrue, List, [], ◌++◌, if◌then◌else◌, Contains, IsPermutation}
use Rattle.ept_point.specs.declared.point.Point.{Point}
use Rattle.ept_space.specs.declared.cube.Rules.{Rules}
use Rattle.ept_sample.specs.Ids.{HasDistinctIds}
use Rattle.ept_sample.specs.Rank.{beats}
use Rattle.ept_sample.specs.Arrivals.{loses, losers, is_open, kept, sent, all_sent}

-- a point that loses is beaten by a given point that does not lose
abbrev pub WinnersBeatLosers : Type 0
WinnersBeatLosers =
    (rules : Rules) (depth : ℕ) (given : List Point) (p : Point) → IsTrue (loses rules depth given p) → (q : Point) × Contains given q × IsTrue (beats rules depth q p) × ¬ IsTrue (loses rules depth given q)

-- so among the points that stay the same points lose as among all
abbrev pub SameOnesLose : Type 0
SameOnesLose =
    (rules : Rules) (depth : ℕ) (was_open : ℕ → Bool) (given : List Point) (p : Point) → loses rules depth (kept rules depth was_open given) p ≡ loses rules depth given p

-- all losers of an open octant leave for its child, and no losers of a closed one do
abbrev pub OpenSendsItsLosers : Type 0
OpenSendsItsLosers =
    (rules : Rules) (depth : ℕ) (was_open : ℕ → Bool) (given : List Point) (o : ℕ) → sent rules depth was_open given o ≡ (if is_open rules depth was_open given o then losers rules depth given o else [])

-- the points that stay and those that leave are together the given ones
abbrev pub EachStaysOrLeaves : Type 0
EachStaysOrLeaves =
    (rules : Rules) (depth : ℕ) (was_open : ℕ → Bool) (given : List Point) → IsPermutation given (kept rules depth was_open given ++ all_sent rules depth was_open given)

-- points in two orders open the same octants, stay alike and leave alike
pub record HaveOneEffect (rules : Rules) (depth : ℕ) (was_open : ℕ → Bool) (xs ys : List Point) : Type 0 where
  pub opens : (o : ℕ) → is_open rules depth was_open xs o ≡ is_open rules depth was_open ys o
  pub stays : IsPermutation (kept rules depth was_open xs) (kept rules depth was_open ys)
  pub leaves : (o : ℕ) → IsPermutation (sent rules depth was_open xs o) (sent rules depth was_open ys o)

-- the order of the given points makes no difference
abbrev pub ArrivalsHaveNoOrder : Type 0
ArrivalsHaveNoOrder =
    (rules : Rules) (depth : ℕ) (was_open : ℕ → Bool) (xs ys : List Point) → HasDistinctIds xs → IsPermutation xs ys → HaveOneEffect rules depth was_open xs ys

-- points that arrive after others have the effect that all of them have at once
pub record JoinsBatches (rules : Rules) (depth : ℕ) (was_open : ℕ → Bool) (first second : List Point) : Type 0 where
  pub opens : (o : ℕ) → is_open rules depth (is_open rules depth was_open first) (kept rules depth was_open first ++ second) o ≡ is_open rules depth was_open (first ++ second) o
  pub stays : kept rules depth (is_open rules depth was_open first) (kept rules depth was_open first ++ second) ≡ kept rules depth was_open (first ++ second)
  pub leaves : (o : ℕ) → IsPermutation (sent rules depth was_open first o ++ sent rules depth (is_open rules depth was_open first) (kept rules depth was_open first ++ second) o) (sent rules depth was_open (first ++ second) o)

abbrev pub BatchesJoin : Type 0
BatchesJoin =
    (rules : Rules) (depth : ℕ) (was_open : ℕ → Bool) (first second : List Point) → JoinsBatches rules depth was_open first second
