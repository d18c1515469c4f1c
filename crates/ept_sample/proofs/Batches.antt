-- Points that arrive at a node in two batches, and points in another order.
use Rattle.std.proofs.Common.{◌≡◌, ◌∙◌, ℕ, ◌≤◌, ◌<◌, Bool, true, false, cond, not, ◌&&◌, ◌||◌, ◌==◌, nat_lt, inl, inr, List, [], ◌∷◌, ◌++◌, refl, sym, ap, subst, arith, filter, length, length-append, append_assoc}
use Rattle.std.specs.List.{list_any}
use Rattle.std.specs.List.Sorted.{IsPermutation}
use Rattle.std.proofs.lemmas.Bool.{false≢true, lt-ltb}
use Rattle.std.proofs.lemmas.List.Elements.{filter-append, filter_agree}
use Rattle.std.proofs.lemmas.List.Sorted.{IsPermutation-refl, IsPermutation-sym, IsPermutation-append, IsPermutation-filter_both}
use Rattle.ept_point.specs.declared.point.Point.{Point}
use Rattle.ept_space.specs.declared.cube.Rules.{Rules}
use Rattle.ept_sample.specs.Rank.{beats}
use Rattle.ept_sample.specs.Arrivals.{loses, octant, losers, overflows, is_open, leaves, kept, sent}
use Rattle.ept_sample.proofs.ArrivalLaws.{loses-kept, leaves-loses, leaves-open, leaves-from, overflows-depth, overflows-more, same_number}
use Rattle.ept_sample.proofs.Choices.{either, not_both, and_left, and_right, and_both, or_left, or_right, or_cases, or_false}
use Rattle.ept_sample.proofs.Members.{filter-filter}

-- ---- tests

or_assoc : (a b c : Bool) → ((a || b) || c) ≡ (a || (b || c))
or_assoc true b c = refl
or_assoc false b c = refl

-- two tests that imply each other are the same
same_test : (b c : Bool) → (b ≡ true → c ≡ true) → (c ≡ true → b ≡ true) → b ≡ c
same_test true true there back = refl
same_test true false there back = absurd (false≢true (there refl))
same_test false true there back = absurd (false≢true (back refl))
same_test false false there back = refl

list_any-append : {X : Type 0} (test : X → Bool) (xs ys : List X) → list_any test (xs ++ ys) ≡ (list_any test xs || list_any test ys)
list_any-append test [] ys = refl
list_any-append test (x ∷ xs) ys =
    ap (λ (b : Bool). test x || b) (list_any-append test xs ys) ∙ sym (or_assoc (test x) (list_any test xs) (list_any test ys))

-- ---- who loses among more points

-- a point that loses among some points loses among those and more
pub loses-append : (rules : Rules) (depth : ℕ) (xs ys : List Point) (p : Point) → loses rules depth (xs ++ ys) p ≡ (loses rules depth xs p || loses rules depth ys p)
unfolding loses
loses-append rules depth xs ys p = list_any-append (λ q. beats rules depth q p) xs ys

pub loses-more : (rules : Rules) (depth : ℕ) (xs ys : List Point) (p : Point) → loses rules depth xs p ≡ true → loses rules depth (xs ++ ys) p ≡ true
loses-more rules depth xs ys p lost =
    loses-append rules depth xs ys p ∙ or_left (loses rules depth xs p) (loses rules depth ys p) lost

-- among those that stay and more, the same points lose as among all
pub loses-kept_append : (rules : Rules) (depth : ℕ) (was : ℕ → Bool) (xs ys : List Point) (p : Point) → loses rules depth (kept rules depth was xs ++ ys) p ≡ loses rules depth (xs ++ ys) p
loses-kept_append rules depth was xs ys p =
    loses-append rules depth (kept rules depth was xs) ys p
    ∙ (ap (λ (b : Bool). b || loses rules depth ys p) (loses-kept rules depth was xs p) ∙ sym (loses-append rules depth xs ys p))

-- ---- which octants are open

filter_more : (p q : Point → Bool) (xs : List Point) → ((x : Point) → p x ≡ true → q x ≡ true) → length (filter p xs) ≤ length (filter q xs)
filter_more p q [] more = omega arith
filter_more p q (x ∷ xs) more = step (p x) (q x) (more x) (filter_more p q xs more)
  where
    step : (b c : Bool) → (b ≡ true → c ≡ true) → length (filter p xs) ≤ length (filter q xs) → length (cond b (x ∷ filter p xs) (filter p xs)) ≤ length (cond c (x ∷ filter q xs) (filter q xs))
    step true true h rest = omega arith
    step true false h rest = absurd (false≢true (h refl))
    step false true h rest = omega arith
    step false false h rest = rest

losers-more : (rules : Rules) (depth : ℕ) (xs ys : List Point) (o : ℕ) → length (losers rules depth xs o) ≤ length (losers rules depth (xs ++ ys) o)
unfolding losers
losers-more rules depth xs ys o =
    let p : Point → Bool = λ q. loses rules depth xs q && (octant rules depth q == o) in
    let all : Point → Bool = λ q. loses rules depth (xs ++ ys) q && (octant rules depth q == o) in
    let some : length (filter p xs) ≤ length (filter all xs) = filter_more p all xs (λ q e. and_both _ _ (loses-more rules depth xs ys q (and_left _ _ e)) (and_right (loses rules depth xs q) (octant rules depth q == o) e)) in
    omega (arith, some, ap length (filter-append all xs ys), length-append (filter all xs) (filter all ys))

pub overflow_from : (rules : Rules) (depth : ℕ) (xs : List Point) (o : ℕ) → depth < rules.cube.depth → rules.threshold < length (losers rules depth xs o) → overflows rules depth xs o ≡ true
unfolding overflows
overflow_from rules depth xs o above more = and_both _ _ (lt-ltb depth rules.cube.depth above) (lt-ltb rules.threshold (length (losers rules depth xs o)) more)

-- what overflows with some overflows with more
pub overflows-append : (rules : Rules) (depth : ℕ) (xs ys : List Point) (o : ℕ) → overflows rules depth xs o ≡ true → overflows rules depth (xs ++ ys) o ≡ true
overflows-append rules depth xs ys o over =
    overflow_from rules depth (xs ++ ys) o (overflows-depth rules depth xs o over) (omega (arith, overflows-more rules depth xs o over, losers-more rules depth xs ys o))

pub is_open-append : (rules : Rules) (depth : ℕ) (was : ℕ → Bool) (xs ys : List Point) (o : ℕ) → is_open rules depth was xs o ≡ true → is_open rules depth was (xs ++ ys) o ≡ true
unfolding is_open
is_open-append rules depth was xs ys o e =
    elim (or_cases (was o) (overflows rules depth xs o) e) [ inl before ↦ or_left (was o) (overflows rules depth (xs ++ ys) o) before | inr over ↦ or_right (was o) (overflows rules depth (xs ++ ys) o) (overflows-append rules depth xs ys o over) ]

both_or : (b c : Bool) → (c ≡ true → b ≡ true) → (b && c) ≡ c
both_or b true h = and_both b true (h refl) refl
both_or true false h = refl
both_or false false h = refl

and_comm : (b c : Bool) → (b && c) ≡ (c && b)
and_comm true true = refl
and_comm true false = refl
and_comm false true = refl
and_comm false false = refl

not_leaving : (rules : Rules) (depth : ℕ) (was : ℕ → Bool) (xs : List Point) (o : ℕ) (p : Point) → is_open rules depth was xs o ≡ false → (octant rules depth p == o) ≡ true → not (leaves rules depth was xs p) ≡ true
not_leaving rules depth was xs o p shut here =
    elim (either (leaves rules depth was xs p)) [
      | inl goes ↦
          let is : octant rules depth p ≡ o = same_number (octant rules depth p) o here in
          absurd (not_both (is_open rules depth was xs o) (subst (λ (n : ℕ). is_open rules depth was xs n ≡ true) is (leaves-open rules depth was xs p goes)) shut)
      | inr stays ↦ ap not stays
    ]

-- a closed octant has the same losers among those that stay and more as among all
losers-closed : (rules : Rules) (depth : ℕ) (was : ℕ → Bool) (xs ys : List Point) (o : ℕ) → is_open rules depth was xs o ≡ false → losers rules depth (kept rules depth was xs ++ ys) o ≡ losers rules depth (xs ++ ys) o
unfolding losers kept
losers-closed rules depth was xs ys o shut =
    let stays : Point → Bool = λ q. not (leaves rules depth was xs q) in
    let lose : Point → Bool = λ q. loses rules depth (xs ++ ys) q && (octant rules depth q == o) in
    filter_agree (λ q. loses rules depth (filter stays xs ++ ys) q && (octant rules depth q == o)) lose (λ q. ap (λ (b : Bool). b && (octant rules depth q == o)) (loses-kept_append rules depth was xs ys q)) (filter stays xs ++ ys)
    ∙ (filter-append lose (filter stays xs) ys
    ∙ (ap (λ (w : List Point). w ++ filter lose ys)
    (filter-filter stays lose xs
    ∙ filter_agree (λ q. stays q && lose q) lose (λ q. both_or (stays q) (lose q) (λ e. not_leaving rules depth was xs o q shut (and_right (loses rules depth (xs ++ ys) q) (octant rules depth q == o) e))) xs)
    ∙ sym (filter-append lose xs ys)))

overflow-closed : (rules : Rules) (depth : ℕ) (was : ℕ → Bool) (xs ys : List Point) (o : ℕ) → is_open rules depth was xs o ≡ false → overflows rules depth (kept rules depth was xs ++ ys) o ≡ overflows rules depth (xs ++ ys) o
unfolding overflows
overflow-closed rules depth was xs ys o shut =
    ap (λ (w : List Point). nat_lt depth rules.cube.depth && nat_lt rules.threshold (length w)) (losers-closed rules depth was xs ys o shut)

-- two batches open the octants that both at once open
pub is_open-twice : (rules : Rules) (depth : ℕ) (was : ℕ → Bool) (xs ys : List Point) (o : ℕ) → is_open rules depth (is_open rules depth was xs) (kept rules depth was xs ++ ys) o ≡ is_open rules depth was (xs ++ ys) o
unfolding is_open
is_open-twice rules depth was xs ys o =
    elim (either (is_open rules depth was xs o)) [
      | inl opened ↦
          or_left (is_open rules depth was xs o) (overflows rules depth (kept rules depth was xs ++ ys) o) opened ∙ sym (is_open-append rules depth was xs ys o opened)
      | inr shut ↦
          ap (λ (b : Bool). b || overflows rules depth (kept rules depth was xs ++ ys) o) shut
          ∙ (overflow-closed rules depth was xs ys o shut
          ∙ ap (λ (b : Bool). b || overflows rules depth (xs ++ ys) o) (sym (or_false (was o) (overflows rules depth xs o) shut).0))
    ]

leaves-twice : (rules : Rules) (depth : ℕ) (was : ℕ → Bool) (xs ys : List Point) (p : Point) → leaves rules depth (is_open rules depth was xs) (kept rules depth was xs ++ ys) p ≡ leaves rules depth was (xs ++ ys) p
unfolding leaves
leaves-twice rules depth was xs ys p =
    ap (λ (b : Bool). b && is_open rules depth (is_open rules depth was xs) (kept rules depth was xs ++ ys) (octant rules depth p)) (loses-kept_append rules depth was xs ys p)
    ∙ ap (λ (b : Bool). loses rules depth (xs ++ ys) p && b) (is_open-twice rules depth was xs ys (octant rules depth p))

-- a point that leaves among some points leaves among those and more
pub leaves-append : (rules : Rules) (depth : ℕ) (was : ℕ → Bool) (xs ys : List Point) (p : Point) → leaves rules depth was xs p ≡ true → leaves rules depth was (xs ++ ys) p ≡ true
leaves-append rules depth was xs ys p e =
    leaves-from rules depth was (xs ++ ys) p (loses-more rules depth xs ys p (leaves-loses rules depth was xs p e)) (is_open-append rules depth was xs ys (octant rules depth p) (leaves-open rules depth was xs p e))

stayed : (rules : Rules) (depth : ℕ) (was : ℕ → Bool) (xs ys : List Point) (p : Point) → not (leaves rules depth was (xs ++ ys) p) ≡ true → not (leaves rules depth was xs p) ≡ true
stayed rules depth was xs ys p e =
    elim (either (leaves rules depth was xs p)) [
      | inl goes ↦ absurd (false≢true (sym (ap not (leaves-append rules depth was xs ys p goes)) ∙ e))
      | inr stays ↦ ap not stays
    ]

-- after two batches the same points stay as after both at once
pub kept-twice : (rules : Rules) (depth : ℕ) (was : ℕ → Bool) (xs ys : List Point) → kept rules depth (is_open rules depth was xs) (kept rules depth was xs ++ ys) ≡ kept rules depth was (xs ++ ys)
unfolding kept
kept-twice rules depth was xs ys =
    let stays : Point → Bool = λ q. not (leaves rules depth was xs q) in
    let all : Point → Bool = λ q. not (leaves rules depth was (xs ++ ys) q) in
    filter_agree (λ q. not (leaves rules depth (is_open rules depth was xs) (filter stays xs ++ ys) q)) all (λ q. ap not (leaves-twice rules depth was xs ys q)) (filter stays xs ++ ys)
    ∙ (filter-append all (filter stays xs) ys
    ∙ (ap (λ (w : List Point). w ++ filter all ys)
    (filter-filter stays all xs ∙ filter_agree (λ q. stays q && all q) all (λ q. both_or (stays q) (all q) (stayed rules depth was xs ys q)) xs)
    ∙ sym (filter-append all xs ys)))

-- ---- what two batches send

first_sent : (a b h : Bool) → (a ≡ true → b ≡ true) → ((b && h) && a) ≡ (a && h)
first_sent true b h more = and_right_true (b && h) ∙ ap (λ (c : Bool). c && h) (more refl)
  where
    and_right_true : (c : Bool) → (c && true) ≡ c
    and_right_true true = refl
    and_right_true false = refl
first_sent false b h more = and_right_false (b && h)
  where
    and_right_false : (c : Bool) → (c && false) ≡ false
    and_right_false true = refl
    and_right_false false = refl

pub split : (goes all : Point → Bool) (xs : List Point) → IsPermutation (filter all xs) (filter (λ q. all q && goes q) xs ++ filter (λ q. not (goes q) && all q) xs)
split goes all xs =
    subst (λ (w : List Point). IsPermutation (filter all xs) (w ++ filter (λ q. not (goes q) && all q) xs)) (filter-filter all goes xs)
    (subst (λ (w : List Point). IsPermutation (filter all xs) (filter goes (filter all xs) ++ w)) (filter-filter all (λ q. not (goes q)) xs ∙ filter_agree (λ q. all q && not (goes q)) (λ q. not (goes q) && all q) (λ q. and_comm (all q) (not (goes q))) xs)
    (IsPermutation-filter_both goes (λ q. not (goes q)) (λ q. refl) (filter all xs)))

-- two batches send together what both at once send
pub sent-twice : (rules : Rules) (depth : ℕ) (was : ℕ → Bool) (xs ys : List Point) (o : ℕ) → IsPermutation (sent rules depth was xs o ++ sent rules depth (is_open rules depth was xs) (kept rules depth was xs ++ ys) o) (sent rules depth was (xs ++ ys) o)
unfolding sent kept
sent-twice rules depth was xs ys o =
    let goes : Point → Bool = λ q. leaves rules depth was xs q in
    let stays : Point → Bool = λ q. not (leaves rules depth was xs q) in
    let first : Point → Bool = λ q. leaves rules depth was xs q && (octant rules depth q == o) in
    let all : Point → Bool = λ q. leaves rules depth was (xs ++ ys) q && (octant rules depth q == o) in
    let second : filter (λ q. leaves rules depth (is_open rules depth was xs) (filter stays xs ++ ys) q && (octant rules depth q == o)) (filter stays xs ++ ys) ≡ filter (λ q. stays q && all q) xs ++ filter all ys =
    filter_agree (λ q. leaves rules depth (is_open rules depth was xs) (filter stays xs ++ ys) q && (octant rules depth q == o)) all (λ q. ap (λ (b : Bool). b && (octant rules depth q == o)) (leaves-twice rules depth was xs ys q)) (filter stays xs ++ ys)
    ∙ (filter-append all (filter stays xs) ys ∙ ap (λ (w : List Point). w ++ filter all ys) (filter-filter stays all xs)) in
    let one : filter (λ q. all q && goes q) xs ≡ filter first xs =
    filter_agree (λ q. all q && goes q) first (λ q. first_sent (goes q) (leaves rules depth was (xs ++ ys) q) (octant rules depth q == o) (leaves-append rules depth was xs ys q)) xs in
    let parts : IsPermutation (filter all xs) (filter first xs ++ filter (λ q. stays q && all q) xs) =
    subst (λ (w : List Point). IsPermutation (filter all xs) (w ++ filter (λ q. stays q && all q) xs)) one (split goes all xs) in
    let whole : IsPermutation (filter all xs ++ filter all ys) ((filter first xs ++ filter (λ q. stays q && all q) xs) ++ filter all ys) =
    IsPermutation-append (filter all xs) (filter first xs ++ filter (λ q. stays q && all q) xs) (filter all ys) (filter all ys) parts (IsPermutation-refl (filter all ys)) in
    let joined : filter first xs ++ (filter (λ q. stays q && all q) xs ++ filter all ys) ≡ (filter first xs ++ filter (λ q. stays q && all q) xs) ++ filter all ys =
    sym (append_assoc (filter first xs) (filter (λ q. stays q && all q) xs) (filter all ys)) in
    let back : IsPermutation ((filter first xs ++ filter (λ q. stays q && all q) xs) ++ filter all ys) (filter all (xs ++ ys)) =
    subst (λ (w : List Point). IsPermutation ((filter first xs ++ filter (λ q. stays q && all q) xs) ++ filter all ys) w) (sym (filter-append all xs ys)) (IsPermutation-sym (filter all xs ++ filter all ys) ((filter first xs ++ filter (λ q. stays q && all q) xs) ++ filter all ys) whole) in
    subst (λ (w : List Point). IsPermutation w (filter all (xs ++ ys))) (sym (ap (λ (w : List Point). filter first xs ++ w) second ∙ joined)) back
