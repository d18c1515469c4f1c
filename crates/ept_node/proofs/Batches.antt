-- Points that arrive one after another do what they do together.
use Rattle.std.proofs.Common.{◌≡◌, ◌∙◌, ℕ, zero, suc, ◌+◌, ◌≤◌, ◌<◌, Bool, not, ◌||◌, ◌&&◌, ◌==◌, List, [], ◌∷◌, ◌++◌, take, sym, ap, subst, arith, length, get_or, count_by, append_assoc}
use Rattle.std.specs.List.Sorted.{IsPermutation}
use Rattle.std.proofs.lemmas.List.{append-nil, take_more}
use Rattle.std.proofs.lemmas.List.Elements.{filter_agree}
use Rattle.std.proofs.lemmas.List.Sorted.{IsPermutation-refl, IsPermutation-sym, IsPermutation-trans, IsPermutation-cons, IsPermutation-middle, IsPermutation-append_left, IsPermutation-append_right}
use Rattle.ept_point.specs.declared.point.Point.{Point}
use Rattle.ept_space.specs.declared.cube.Rules.{Rules}
use Rattle.ept_space.specs.VoxelKey.{VoxelKey}
use Rattle.ept_space.proofs.PlaceKeys.{octant_at-below}
use Rattle.ept_sample.specs.Place.{place}
use Rattle.ept_sample.specs.Ids.{same_id, comes_before, HasDistinctIds, in_id_order}
use Rattle.ept_sample.specs.Arrivals.{loses, octant, overflows, is_open, leaves, kept, sent}
use Rattle.ept_sample.specs.ArrivalLaws.{HaveOneEffect, ArrivalsHaveNoOrder, JoinsBatches, BatchesJoin}
use Rattle.ept_sample.proofs.Ascending.{IsRising}
use Rattle.ept_sample.proofs.ArrivalLaws.{IsRising-kept}
use Rattle.ept_sample.proofs.IdLaws.{count_by-cons, count_by-append, count_by-filter-le, HasDistinctIds-IsPermutation, HasDistinctIds-IsRising, IsPermutation-in_id_order, IsRising-in_id_order, in_id_order-IsRising, in_id_order-IsPermutation}
use Rattle.ept_grid.specs.Mask.{opened}
use Rattle.ept_grid.specs.Outgoing.{Leaving, points_at}
use Rattle.ept_grid.specs.Node.{Node, is_open_in, given_with, TakesIn}
use Rattle.ept_node.specs.Shown.{bare}
use Rattle.ept_node.specs.Batch.{given_all, TakesInAll, StandsStill, HasTaken}

-- ---- what opens, stays and leaves depends on the eight octants alone

module _ (rules : Rules) (depth : ℕ) (f g : ℕ → Bool) (same : (o : ℕ) → o < 8 → f o ≡ g o) (given : List Point) where
  pub open-alike : (o : ℕ) → o < 8 → is_open rules depth f given o ≡ is_open rules depth g given o
  unfolding is_open
  open-alike o low = ap (λ (b : Bool). b || overflows rules depth given o) (same o low)

  leaves_alike : (p : Point) → leaves rules depth f given p ≡ leaves rules depth g given p
  unfolding leaves
  leaves_alike p =
      ap (λ (b : Bool). loses rules depth given p && b) (open-alike (octant rules depth p) (octant_at-below rules.cube depth (place p)))

  pub kept-alike : kept rules depth f given ≡ kept rules depth g given
  unfolding kept
  kept-alike = filter_agree (λ p. not (leaves rules depth f given p)) (λ p. not (leaves rules depth g given p)) (λ p. ap not (leaves_alike p)) given

  pub sent-alike : (o : ℕ) → sent rules depth f given o ≡ sent rules depth g given o
  unfolding sent
  sent-alike o = filter_agree _ _ (λ p. ap (λ (b : Bool). b && (octant rules depth p == o)) (leaves_alike p)) given

-- ---- lists of points

-- points in id order that are the same points are the same list
rising_same : (xs ys : List Point) → IsRising comes_before xs → IsRising comes_before ys → IsPermutation xs ys → xs ≡ ys
rising_same xs ys up up' same =
    sym (in_id_order-IsRising xs up) ∙ (in_id_order-IsPermutation xs ys (HasDistinctIds-IsRising xs up) same ∙ in_id_order-IsRising ys up')

-- a point after others is the same as before them
behind_front : (xs : List Point) (p : Point) → IsPermutation (xs ++ p ∷ []) (p ∷ xs)
behind_front xs p =
    subst (λ (w : List Point). IsPermutation (xs ++ p ∷ []) (p ∷ w)) (append-nil xs) (IsPermutation-middle xs p [])

-- of the points that arrive, those up to one and the node's have different ids, if all have
once_to : (points standing : List Point) (i : ℕ) → HasDistinctIds (points ++ standing) → HasDistinctIds (take i points ++ standing)
unfolding HasDistinctIds
once_to points standing i once q =
    omega (arith, once q, count_by-append (same_id q) points standing, count_by-append (same_id q) (take i points) standing, fewer (same_id q) points i)
  where
    fewer : (test : Point → Bool) (xs : List Point) (n : ℕ) → count_by test (take n xs) ≤ count_by test xs
    fewer test [] zero = omega arith
    fewer test [] (suc n) = omega arith
    fewer test (x ∷ xs) zero = omega arith
    fewer test (x ∷ xs) (suc n) = omega (arith, fewer test xs n, count_by-cons test x xs, count_by-cons test x (take n xs))

once_front : (first standing : List Point) (p : Point) → HasDistinctIds ((first ++ p ∷ []) ++ standing) → HasDistinctIds (p ∷ (first ++ standing))
unfolding HasDistinctIds
once_front first standing p once q =
    omega (arith, once q, count_by-append (same_id q) (first ++ p ∷ []) standing, count_by-append (same_id q) first (p ∷ []), count_by-append (same_id q) first standing, count_by-cons (same_id q) p (first ++ standing), count_by-cons (same_id q) p [])

once_kept : (rules : Rules) (depth : ℕ) (was : ℕ → Bool) (p : Point) (given : List Point) → HasDistinctIds (p ∷ given) → HasDistinctIds (p ∷ kept rules depth was given)
unfolding HasDistinctIds kept
once_kept rules depth was p given once q =
    omega (arith, once q, count_by-cons (same_id q) p given, count_by-cons (same_id q) p (kept rules depth was given), count_by-filter-le (same_id q) (λ r. not (leaves rules depth was given r)) given)

-- ---- one more point

module _ (old mid new : Node) (key : mid.key ≡ old.key) (its_rules : mid.rules ≡ old.rules) (p : Point) (between after : List Leaving) (one : TakesIn mid new p between after) where
  now_points : new.points ≡ kept old.rules old.key.depth (is_open_in mid) (given_with mid p)
  now_points =
      subst (λ (r : Rules). new.points ≡ kept r old.key.depth (is_open_in mid) (given_with mid p)) its_rules
      (subst (λ (k : VoxelKey). new.points ≡ kept mid.rules k.depth (is_open_in mid) (given_with mid p)) key one.points)

  now_opens : (o : ℕ) → o < 8 → is_open_in new o ≡ is_open old.rules old.key.depth (is_open_in mid) (given_with mid p) o
  now_opens o low =
      subst (λ (r : Rules). is_open_in new o ≡ is_open r old.key.depth (is_open_in mid) (given_with mid p) o) its_rules
      (subst (λ (k : VoxelKey). is_open_in new o ≡ is_open mid.rules k.depth (is_open_in mid) (given_with mid p) o) key (one.opens o low))

  now_leave : (o : ℕ) → o < 8 → points_at after o ≡ points_at between o ++ sent old.rules old.key.depth (is_open_in mid) (given_with mid p) o
  now_leave o low =
      subst (λ (r : Rules). points_at after o ≡ points_at between o ++ sent r old.key.depth (is_open_in mid) (given_with mid p) o) its_rules
      (subst (λ (k : VoxelKey). points_at after o ≡ points_at between o ++ sent mid.rules k.depth (is_open_in mid) (given_with mid p) o) key (one.leave o low))

  -- the first point
  begins : (before : List Leaving) → StandsStill (bare old) (bare mid) before between → TakesInAll (bare old) (bare new) (p ∷ []) before after
  begins before still = record {
    points = subst (λ (m : ℕ). new.points ≡ kept old.rules old.key.depth (opened m) (in_id_order (p ∷ old.points))) still.mask
        (subst (λ (w : List Point). new.points ≡ kept old.rules old.key.depth (opened mid.mask) (in_id_order (p ∷ w))) still.points now_points);
    opens = λ o low. subst (λ (m : ℕ). is_open_in new o ≡ is_open old.rules old.key.depth (opened m) (in_id_order (p ∷ old.points)) o) still.mask
        (subst (λ (w : List Point). is_open_in new o ≡ is_open old.rules old.key.depth (opened mid.mask) (in_id_order (p ∷ w)) o) still.points (now_opens o low));
    leave = λ o low. left o (ap (λ (w : List Point). w ++ sent old.rules old.key.depth (opened old.mask) (in_id_order (p ∷ old.points)) o) (sym (still.leave o))
        ∙ sym (subst (λ (m : ℕ). points_at after o ≡ points_at between o ++ sent old.rules old.key.depth (opened m) (in_id_order (p ∷ old.points)) o) still.mask
        (subst (λ (w : List Point). points_at after o ≡ points_at between o ++ sent old.rules old.key.depth (opened mid.mask) (in_id_order (p ∷ w)) o) still.points (now_leave o low))));
  }
    where
      left : (o : ℕ) → points_at before o ++ sent old.rules old.key.depth (opened old.mask) (in_id_order (p ∷ old.points)) o ≡ points_at after o → IsPermutation (points_at before o ++ sent old.rules old.key.depth (opened old.mask) (in_id_order (p ∷ old.points)) o) (points_at after o)
      left o is = subst (λ (w : List Point). IsPermutation (points_at before o ++ sent old.rules old.key.depth (opened old.mask) (in_id_order (p ∷ old.points)) o) w) is (IsPermutation-refl _)

  -- one point after others
  module _ (no_order : ArrivalsHaveNoOrder) (join : BatchesJoin) (first : List Point) (once : HasDistinctIds (p ∷ (first ++ old.points))) (before : List Leaving) (so_far : TakesInAll (bare old) (bare mid) first before between) where
    abbrev was : ℕ → Bool
    was = opened old.mask

    abbrev held : List Point
    held = in_id_order (first ++ old.points)

    abbrev then_open : ℕ → Bool
    then_open = is_open old.rules old.key.depth was held

    abbrev stays : List Point
    stays = kept old.rules old.key.depth was held

    -- the points that the last one meets, in id order, and with it after them
    abbrev met : List Point
    met = in_id_order (p ∷ mid.points)

    abbrev met_last : List Point
    met_last = stays ++ p ∷ []

    -- all that arrive and those of the node, in id order, and with the last one after the others
    abbrev all : List Point
    all = in_id_order ((first ++ p ∷ []) ++ old.points)

    abbrev all_last : List Point
    all_last = held ++ p ∷ []

    mid_is : mid.points ≡ stays
    mid_is = so_far.points

    once_held : HasDistinctIds (p ∷ held)
    once_held = HasDistinctIds-IsPermutation (p ∷ (first ++ old.points)) (p ∷ held) (IsPermutation-cons p (first ++ old.points) held (IsPermutation-in_id_order (first ++ old.points))) once

    once_met : HasDistinctIds (p ∷ mid.points)
    once_met = subst (λ (w : List Point). HasDistinctIds (p ∷ w)) (sym mid_is) (once_kept old.rules old.key.depth was p held once_held)

    met_same : IsPermutation met met_last
    met_same =
        IsPermutation-trans met (p ∷ stays) met_last
        (subst (λ (w : List Point). IsPermutation met (p ∷ w)) mid_is (IsPermutation-sym (p ∷ mid.points) met (IsPermutation-in_id_order (p ∷ mid.points))))
        (IsPermutation-sym met_last (p ∷ stays) (behind_front stays p))

    apart : (first ++ p ∷ []) ++ old.points ≡ first ++ p ∷ old.points
    apart = append_assoc first (p ∷ []) old.points

    front_all : IsPermutation (p ∷ (first ++ old.points)) all
    front_all =
        IsPermutation-trans (p ∷ (first ++ old.points)) ((first ++ p ∷ []) ++ old.points) all
        (subst (λ (w : List Point). IsPermutation (p ∷ (first ++ old.points)) w) (sym apart) (IsPermutation-sym (first ++ p ∷ old.points) (p ∷ (first ++ old.points)) (IsPermutation-middle first p old.points)))
        (IsPermutation-in_id_order ((first ++ p ∷ []) ++ old.points))

    all_same : IsPermutation all_last all
    all_same =
        IsPermutation-trans all_last (p ∷ held) all (behind_front held p)
        (IsPermutation-trans (p ∷ held) (p ∷ (first ++ old.points)) all
        (IsPermutation-cons p held (first ++ old.points) (IsPermutation-sym (first ++ old.points) held (IsPermutation-in_id_order (first ++ old.points)))) front_all)

    once_last : HasDistinctIds all_last
    once_last = HasDistinctIds-IsPermutation (p ∷ held) all_last (IsPermutation-sym all_last (p ∷ held) (behind_front held p)) once_held

    once_all : HasDistinctIds ((first ++ p ∷ []) ++ old.points)
    once_all =
        HasDistinctIds-IsPermutation (p ∷ (first ++ old.points)) ((first ++ p ∷ []) ++ old.points)
        (subst (λ (w : List Point). IsPermutation (p ∷ (first ++ old.points)) w) (sym apart) (IsPermutation-sym (first ++ p ∷ old.points) (p ∷ (first ++ old.points)) (IsPermutation-middle first p old.points))) once

    once_met_ordered : HasDistinctIds met
    once_met_ordered = HasDistinctIds-IsPermutation (p ∷ mid.points) met (IsPermutation-in_id_order (p ∷ mid.points)) once_met

    joins : JoinsBatches old.rules old.key.depth was held (p ∷ [])
    joins = join old.rules old.key.depth was held (p ∷ [])

    last : HaveOneEffect old.rules old.key.depth then_open met met_last
    last = no_order old.rules old.key.depth then_open met met_last once_met_ordered met_same

    whole : HaveOneEffect old.rules old.key.depth was all_last all
    whole = no_order old.rules old.key.depth was all_last all once_last all_same

    keeps : kept old.rules old.key.depth then_open met ≡ kept old.rules old.key.depth was all
    keeps =
        rising_same (kept old.rules old.key.depth then_open met) (kept old.rules old.key.depth was all)
        (IsRising-kept old.rules old.key.depth then_open met (IsRising-in_id_order (p ∷ mid.points) once_met))
        (IsRising-kept old.rules old.key.depth was all (IsRising-in_id_order ((first ++ p ∷ []) ++ old.points) once_all))
        (IsPermutation-trans (kept old.rules old.key.depth then_open met) (kept old.rules old.key.depth was all_last) (kept old.rules old.key.depth was all)
        (subst (λ (w : List Point). IsPermutation (kept old.rules old.key.depth then_open met) w) joins.stays last.stays) whole.stays)

    leave_now : (o : ℕ) → o < 8 → IsPermutation (points_at before o ++ sent old.rules old.key.depth was all o) (points_at after o)
    leave_now o low =
        let b : List Point = points_at before o in
        let first_sent : List Point = sent old.rules old.key.depth was held o in
        let last_sent : List Point = sent old.rules old.key.depth then_open met_last o in
        let now_sent : List Point = sent old.rules old.key.depth then_open met o in
        let all_sent : List Point = sent old.rules old.key.depth was all o in
        let both_sent : List Point = sent old.rules old.key.depth was all_last o in
        let is : points_at between o ++ now_sent ≡ points_at after o = sym (now_leave o low ∙ ap (λ (w : List Point). points_at between o ++ w) (sent-alike old.rules old.key.depth (is_open_in mid) then_open so_far.opens met o)) in
        subst (λ (w : List Point). IsPermutation (b ++ all_sent) w) is
        (IsPermutation-trans (b ++ all_sent) (b ++ (first_sent ++ last_sent)) (points_at between o ++ now_sent)
        (IsPermutation-append_right b all_sent (first_sent ++ last_sent) (IsPermutation-trans all_sent both_sent (first_sent ++ last_sent) (IsPermutation-sym both_sent all_sent (whole.leaves o)) (IsPermutation-sym (first_sent ++ last_sent) both_sent (joins.leaves o))))
        (IsPermutation-trans (b ++ (first_sent ++ last_sent)) (points_at between o ++ last_sent) (points_at between o ++ now_sent)
        (subst (λ (w : List Point). IsPermutation w (points_at between o ++ last_sent)) (append_assoc b first_sent last_sent) (IsPermutation-append_left last_sent (b ++ first_sent) (points_at between o) (so_far.leave o low)))
        (IsPermutation-append_right (points_at between o) last_sent now_sent (IsPermutation-sym now_sent last_sent (last.leaves o)))))

    goes_on : TakesInAll (bare old) (bare new) (first ++ p ∷ []) before after
    goes_on = record {
      points = now_points ∙ (kept-alike old.rules old.key.depth (is_open_in mid) then_open so_far.opens met ∙ keeps);
      opens = λ o low. now_opens o low ∙ (open-alike old.rules old.key.depth (is_open_in mid) then_open so_far.opens met o low ∙ (last.opens o ∙ (joins.opens o ∙ whole.opens o)));
      leave = leave_now;
    }

-- ---- in turn

one-more : (no_order : ArrivalsHaveNoOrder) (join : BatchesJoin) (old mid new : Node) (key : mid.key ≡ old.key) (its_rules : mid.rules ≡ old.rules) (first : List Point) (p : Point) (before between after : List Leaving) → HasDistinctIds (p ∷ (first ++ old.points)) → HasTaken (bare old) (bare mid) first before between → (HasDistinctIds (p ∷ mid.points) → TakesIn mid new p between after) → HasTaken (bare old) (bare new) (first ++ p ∷ []) before after
one-more no_order join old mid new key its_rules [] p before between after once still one =
    begins old mid new key its_rules p between after (one (subst (λ (w : List Point). HasDistinctIds (p ∷ w)) (sym still.points) once)) before still
one-more no_order join old mid new key its_rules (q ∷ first) p before between after once so_far one =
    let once_held : HasDistinctIds (p ∷ in_id_order (q ∷ first ++ old.points)) = HasDistinctIds-IsPermutation (p ∷ (q ∷ first ++ old.points)) (p ∷ in_id_order (q ∷ first ++ old.points)) (IsPermutation-cons p (q ∷ first ++ old.points) (in_id_order (q ∷ first ++ old.points)) (IsPermutation-in_id_order (q ∷ first ++ old.points))) once in
    let here : HasDistinctIds (p ∷ mid.points) = subst (λ (w : List Point). HasDistinctIds (p ∷ w)) (sym so_far.points) (once_kept old.rules old.key.depth (opened old.mask) p (in_id_order (q ∷ first ++ old.points)) once_held) in
    goes_on old mid new key its_rules p between after (one here) no_order join (q ∷ first) once before so_far

pub taken-next : (no_order : ArrivalsHaveNoOrder) (join : BatchesJoin) (old mid new : Node) (key : mid.key ≡ old.key) (its_rules : mid.rules ≡ old.rules) (points : List Point) (i : ℕ) (p : Point) → i < length points → p ≡ get_or points i p → (before between after : List Leaving) → (HasDistinctIds (points ++ old.points) → HasTaken (bare old) (bare mid) (take i points) before between) → (HasDistinctIds (p ∷ mid.points) → TakesIn mid new p between after) → HasDistinctIds (points ++ old.points) → HasTaken (bare old) (bare new) (take (i + 1) points) before after
taken-next no_order join old mid new key its_rules points i p low is before between after so_far one once =
    let more : take (i + 1) points ≡ take i points ++ p ∷ [] = take_more points i p low ∙ ap (λ (q : Point). take i points ++ q ∷ []) (sym is) in
    let front : HasDistinctIds (p ∷ (take i points ++ old.points)) = once_front (take i points) old.points p (subst (λ (w : List Point). HasDistinctIds (w ++ old.points)) more (once_to points old.points (i + 1) once)) in
    subst (λ (w : List Point). HasTaken (bare old) (bare new) w before after) (sym more) (one-more no_order join old mid new key its_rules (take i points) p before between after front (so_far once) one)

-- the same from a node and lists that have the same points
pub taken-from : (mid old new : Node) (points : List Point) (between before after : List Leaving) → mid ≡ old → ((o : ℕ) → points_at between o ≡ points_at before o) → HasTaken mid new points between after → HasTaken old new points before after
taken-from mid old new points between before after same left taken =
    moved points (subst (λ (b : Node). HasTaken b new points between after) same taken)
  where
    moved : (ps : List Point) → HasTaken old new ps between after → HasTaken old new ps before after
    moved [] still = record { points = still.points; mask = still.mask; leave = λ o. still.leave o ∙ left o }
    moved (p ∷ ps) t = record {
      points = t.points;
      opens = t.opens;
      leave = λ o low. subst (λ (w : List Point). IsPermutation (w ++ sent old.rules old.key.depth (is_open_in old) (given_all old (p ∷ ps)) o) (points_at after o)) (left o) (t.leave o low);
    }
