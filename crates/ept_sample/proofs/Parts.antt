-- The points given to a node are those that stay and those that leave, in whatever order they come.
use Rattle.std.proofs.Common.{◌≡◌, ◌∙◌, ℕ, zero, suc, Bool, true, false, not, ◌&&◌, ◌||◌, ◌==◌, nat_lt, List, [], ◌∷◌, ◌++◌, refl, sym, ap, subst, arith, filter, length}
use Rattle.std.specs.List.{flat_map}
use Rattle.std.specs.List.Sorted.{IsPermutation}
use Rattle.std.proofs.lemmas.Bool.{lt-ltb}
use Rattle.std.proofs.lemmas.Bool.Decides.{nat_tests}
use Rattle.std.proofs.lemmas.List.{append-nil}
use Rattle.std.proofs.lemmas.List.Concat.{flat_map-append}
use Rattle.std.proofs.lemmas.List.Elements.{filter_agree}
use Rattle.std.proofs.lemmas.List.Sums.{length-filter}
use Rattle.std.proofs.lemmas.List.Sorted.{IsPermutation-refl, IsPermutation-sym, IsPermutation-trans, IsPermutation-append, IsPermutation-append_comm, IsPermutation-filter_both}
use Rattle.ept_point.specs.declared.point.Point.{Point}
use Rattle.ept_space.specs.declared.cube.Rules.{Rules}
use Rattle.ept_space.proofs.PlaceKeys.{octant_at-below}
use Rattle.ept_sample.specs.Place.{place}
use Rattle.ept_sample.specs.Ids.{HasDistinctIds}
use Rattle.ept_sample.specs.Arrivals.{loses, octant, losers, overflows, is_open, leaves, kept, sent, all_octants, all_sent}
use Rattle.ept_sample.specs.Members.{IsMember}
use Rattle.ept_sample.proofs.IdLaws.{HasDistinctIds-filter, HasDistinctIds-IsPermutation, IsPermutation-members, IsMember-IsPermutation, count_by-IsPermutation}
use Rattle.ept_sample.proofs.ArrivalLaws.{loses-IsPermutation, IsMember-stays, stays-IsMember, IsMember-sent, sent-IsMember}
use Rattle.ept_sample.proofs.Batches.{split}

-- ---- by a number

-- the numbers below n
abbrev pub numbers_below : ℕ → List ℕ
numbers_below zero = []
numbers_below (suc n) = numbers_below n ++ (n ∷ [])

none_pass : (xs : List Point) → filter (λ (x : Point). false) xs ≡ []
none_pass [] = refl
none_pass (x ∷ xs) = none_pass xs

no_number : (t : Bool) (k : ℕ) → (t && nat_lt k 0) ≡ false
no_number t k = grind (arith, nat_tests)

less_number : (t : Bool) (k n : ℕ) → ((t && nat_lt k (suc n)) && nat_lt k n) ≡ (t && nat_lt k n)
less_number t k n = grind (arith, nat_tests)

same_number_left : (t : Bool) (k n : ℕ) → (not (nat_lt k n) && (t && nat_lt k (suc n))) ≡ (t && (k == n))
same_number_left t k n = grind (arith, nat_tests)

-- the points that pass a test and have a number below n, number by number
pub parts-below : (t : Point → Bool) (f : Point → ℕ) (xs : List Point) (n : ℕ) → IsPermutation (filter (λ p. t p && nat_lt (f p) n) xs) (flat_map (λ o. filter (λ p. t p && (f p == o)) xs) (numbers_below n))
parts-below t f xs zero =
    let none : filter (λ p. t p && nat_lt (f p) 0) xs ≡ [] = filter_agree (λ p. t p && nat_lt (f p) 0) (λ p. false) (λ p. no_number (t p) (f p)) xs ∙ none_pass xs in
    subst (λ (w : List Point). IsPermutation w []) (sym none) (IsPermutation-refl [])
parts-below t f xs (suc n) =
    let part : ℕ → List Point = λ o. filter (λ p. t p && (f p == o)) xs in
    let all : Point → Bool = λ p. t p && nat_lt (f p) (suc n) in
    let less : Point → Bool = λ p. nat_lt (f p) n in
    let parts : IsPermutation (filter all xs) (filter (λ p. t p && nat_lt (f p) n) xs ++ part n) =
    subst (λ (w : List Point). IsPermutation (filter all xs) (w ++ part n)) (filter_agree (λ p. all p && less p) (λ p. t p && nat_lt (f p) n) (λ p. less_number (t p) (f p) n) xs) (subst (λ (w : List Point). IsPermutation (filter all xs) (filter (λ p. all p && less p) xs ++ w)) (filter_agree (λ p. not (less p) && all p) (λ p. t p && (f p == n)) (λ p. same_number_left (t p) (f p) n) xs) (split less all xs)) in
    let more : IsPermutation (filter (λ p. t p && nat_lt (f p) n) xs ++ part n) (flat_map part (numbers_below n) ++ part n) =
    IsPermutation-append (filter (λ p. t p && nat_lt (f p) n) xs) (flat_map part (numbers_below n)) (part n) (part n) (parts-below t f xs n) (IsPermutation-refl (part n)) in
    let joined : flat_map part (numbers_below n) ++ part n ≡ flat_map part (numbers_below n ++ (n ∷ [])) =
    ap (λ (w : List Point). flat_map part (numbers_below n) ++ w) (sym (append-nil (part n))) ∙ sym (flat_map-append part (numbers_below n) (n ∷ [])) in
    subst (λ (w : List Point). IsPermutation (filter all xs) w) joined (IsPermutation-trans (filter all xs) (filter (λ p. t p && nat_lt (f p) n) xs ++ part n) (flat_map part (numbers_below n) ++ part n) parts more)

-- ---- those that stay and those that leave

in_eight : (rules : Rules) (depth : ℕ) (b : Bool) (p : Point) → (b && nat_lt (octant rules depth p) 8) ≡ b
in_eight rules depth b p =
    ap (λ (c : Bool). b && c) (lt-ltb (octant rules depth p) 8 (octant_at-below rules.cube depth (place p))) ∙ and_true b
  where
    and_true : (c : Bool) → (c && true) ≡ c
    and_true true = refl
    and_true false = refl

-- together they are the given points
pub IsPermutation-parts : (rules : Rules) (depth : ℕ) (was : ℕ → Bool) (given : List Point) → IsPermutation given (kept rules depth was given ++ all_sent rules depth was given)
unfolding kept sent
IsPermutation-parts rules depth was given =
    let goes : Point → Bool = λ p. leaves rules depth was given p in
    let part : ℕ → List Point = λ o. filter (λ p. goes p && (octant rules depth p == o)) given in
    let all : filter (λ p. goes p && nat_lt (octant rules depth p) 8) given ≡ filter goes given =
    filter_agree (λ p. goes p && nat_lt (octant rules depth p) 8) goes (λ p. in_eight rules depth (goes p) p) given in
    let sorted : IsPermutation (filter goes given) (flat_map part all_octants) =
    subst (λ (w : List Point). IsPermutation w (flat_map part all_octants)) all (parts-below goes (octant rules depth) given 8) in
    let two : IsPermutation given (filter goes given ++ filter (λ p. not (goes p)) given) =
    IsPermutation-filter_both goes (λ p. not (goes p)) (λ p. refl) given in
    let three : IsPermutation (filter goes given ++ filter (λ p. not (goes p)) given) (flat_map part all_octants ++ filter (λ p. not (goes p)) given) =
    IsPermutation-append (filter goes given) (flat_map part all_octants) (filter (λ p. not (goes p)) given) (filter (λ p. not (goes p)) given) sorted (IsPermutation-refl (filter (λ p. not (goes p)) given)) in
    IsPermutation-trans given (flat_map part all_octants ++ filter (λ p. not (goes p)) given) (filter (λ p. not (goes p)) given ++ flat_map part all_octants) (IsPermutation-trans given (filter goes given ++ filter (λ p. not (goes p)) given) (flat_map part all_octants ++ filter (λ p. not (goes p)) given) two three) (IsPermutation-append_comm (flat_map part all_octants) (filter (λ p. not (goes p)) given))

-- ---- the order of the given points makes no difference

losers_count : (rules : Rules) (depth : ℕ) (xs ys : List Point) (o : ℕ) → IsPermutation xs ys → length (losers rules depth xs o) ≡ length (losers rules depth ys o)
unfolding losers
losers_count rules depth xs ys o h =
    let test : Point → Bool = λ p. loses rules depth ys p && (octant rules depth p == o) in
    ap (λ (w : List Point). length w) (filter_agree (λ p. loses rules depth xs p && (octant rules depth p == o)) test (λ p. ap (λ (b : Bool). b && (octant rules depth p == o)) (loses-IsPermutation rules depth xs ys p h)) xs)
    ∙ (length-filter test xs ∙ (sym (count_by-IsPermutation test xs ys h) ∙ sym (length-filter test ys)))

pub overflows-IsPermutation : (rules : Rules) (depth : ℕ) (xs ys : List Point) (o : ℕ) → IsPermutation xs ys → overflows rules depth xs o ≡ overflows rules depth ys o
unfolding overflows
overflows-IsPermutation rules depth xs ys o h =
    ap (λ (n : ℕ). nat_lt depth rules.cube.depth && nat_lt rules.threshold n) (losers_count rules depth xs ys o h)

pub is_open-IsPermutation : (rules : Rules) (depth : ℕ) (was : ℕ → Bool) (xs ys : List Point) (o : ℕ) → IsPermutation xs ys → is_open rules depth was xs o ≡ is_open rules depth was ys o
unfolding is_open
is_open-IsPermutation rules depth was xs ys o h =
    ap (λ (b : Bool). was o || b) (overflows-IsPermutation rules depth xs ys o h)

pub leaves-IsPermutation : (rules : Rules) (depth : ℕ) (was : ℕ → Bool) (xs ys : List Point) (p : Point) → IsPermutation xs ys → leaves rules depth was xs p ≡ leaves rules depth was ys p
unfolding leaves
leaves-IsPermutation rules depth was xs ys p h =
    ap (λ (b : Bool). b && is_open rules depth was xs (octant rules depth p)) (loses-IsPermutation rules depth xs ys p h)
    ∙ ap (λ (b : Bool). loses rules depth ys p && b) (is_open-IsPermutation rules depth was xs ys (octant rules depth p) h)

kept_member : (rules : Rules) (depth : ℕ) (was : ℕ → Bool) (xs ys : List Point) (p : Point) → IsPermutation xs ys → IsMember p (kept rules depth was xs) → IsMember p (kept rules depth was ys)
kept_member rules depth was xs ys p h m =
    let k = IsMember-stays rules depth was xs p m in
    stays-IsMember rules depth was ys p (IsMember-IsPermutation p xs ys h k.0) (sym (leaves-IsPermutation rules depth was xs ys p h) ∙ k.1)

distinct_kept : (rules : Rules) (depth : ℕ) (was : ℕ → Bool) (xs : List Point) → HasDistinctIds xs → HasDistinctIds (kept rules depth was xs)
unfolding kept
distinct_kept rules depth was xs once = HasDistinctIds-filter (λ p. not (leaves rules depth was xs p)) xs once

pub kept-IsPermutation : (rules : Rules) (depth : ℕ) (was : ℕ → Bool) (xs ys : List Point) → HasDistinctIds xs → IsPermutation xs ys → IsPermutation (kept rules depth was xs) (kept rules depth was ys)
kept-IsPermutation rules depth was xs ys once h =
    IsPermutation-members (kept rules depth was xs) (kept rules depth was ys) (distinct_kept rules depth was xs once) (distinct_kept rules depth was ys (HasDistinctIds-IsPermutation xs ys h once)) (λ p m. kept_member rules depth was xs ys p h m) (λ p m. kept_member rules depth was ys xs p (IsPermutation-sym xs ys h) m)

sent_member : (rules : Rules) (depth : ℕ) (was : ℕ → Bool) (xs ys : List Point) (o : ℕ) (p : Point) → IsPermutation xs ys → IsMember p (sent rules depth was xs o) → IsMember p (sent rules depth was ys o)
sent_member rules depth was xs ys o p h m =
    let k = IsMember-sent rules depth was xs o p m in
    subst (λ (n : ℕ). IsMember p (sent rules depth was ys n)) k.2 (sent-IsMember rules depth was ys p (IsMember-IsPermutation p xs ys h k.0) (sym (leaves-IsPermutation rules depth was xs ys p h) ∙ k.1))

distinct_sent : (rules : Rules) (depth : ℕ) (was : ℕ → Bool) (xs : List Point) (o : ℕ) → HasDistinctIds xs → HasDistinctIds (sent rules depth was xs o)
unfolding sent
distinct_sent rules depth was xs o once =
    HasDistinctIds-filter (λ p. leaves rules depth was xs p && (octant rules depth p == o)) xs once

pub sent-IsPermutation : (rules : Rules) (depth : ℕ) (was : ℕ → Bool) (xs ys : List Point) (o : ℕ) → HasDistinctIds xs → IsPermutation xs ys → IsPermutation (sent rules depth was xs o) (sent rules depth was ys o)
sent-IsPermutation rules depth was xs ys o once h =
    IsPermutation-members (sent rules depth was xs o) (sent rules depth was ys o) (distinct_sent rules depth was xs o once) (distinct_sent rules depth was ys o (HasDistinctIds-IsPermutation xs ys h once)) (λ p m. sent_member rules depth was xs ys o p h m) (λ p m. sent_member rules depth was ys xs o p (IsPermutation-sym xs ys h) m)
