-- What points do to the node that they are given to.
use Rattle.std.proofs.Common.{◌≡◌, ◌∙◌, ℕ, ◌<◌, Bool, true, false, cond, not, ◌&&◌, ◌==◌, nat_lt, inl, inr, List, [], ◌∷◌, refl, sym, ap, arith, eq-eqb, filter, length}
use Rattle.std.specs.Prelude.{if◌then◌else◌}
use Rattle.std.proofs.lemmas.Bool.{false≢true}
use borrow.Author.Tests.{ltb-true}
use Rattle.std.proofs.lemmas.Bool.Decides.{nat_tests}
use Rattle.std.proofs.lemmas.List.Elements.{filter_agree}
use Rattle.std.proofs.lemmas.List.Sorted.{list_any-IsPermutation}
use Rattle.std.specs.List.Sorted.{IsPermutation}
use Rattle.ept_point.specs.declared.point.Point.{Point}
use Rattle.ept_space.specs.declared.cube.Rules.{Rules}
use Rattle.ept_sample.specs.Ids.{comes_before}
use Rattle.ept_sample.specs.Rank.{beats}
use Rattle.ept_sample.specs.Arrivals.{loses, octant, losers, overflows, is_open, leaves, kept, sent, none_open}
use Rattle.ept_sample.specs.Members.{IsMember}
use Rattle.ept_sample.proofs.Members.{IsMember-filter, IsMember-kept, member-any, any-member}
use Rattle.ept_sample.proofs.Ascending.{IsRising, IsRising-filter}
use Rattle.ept_sample.proofs.Best.{winner_of, is_beaten-filter}
use Rattle.ept_sample.proofs.RankLaws.{contest}
use Rattle.ept_sample.proofs.Choices.{either, and_left, and_right, and_both}

pub same_number : (a b : ℕ) → (a == b) ≡ true → a ≡ b
same_number a b e = grind (arith, nat_tests)

-- ---- who loses

-- a point that is beaten loses
pub loses-beaten : (rules : Rules) (depth : ℕ) (given : List Point) (q p : Point) → IsMember q given → beats rules depth q p ≡ true → loses rules depth given p ≡ true
unfolding loses
loses-beaten rules depth given q p m e = any-member (λ r. beats rules depth r p) q given m e

pub beaten-loses : (rules : Rules) (depth : ℕ) (given : List Point) (p : Point) → loses rules depth given p ≡ true → (q : Point) × IsMember q given × (beats rules depth q p ≡ true)
unfolding loses
beaten-loses rules depth given p lost = member-any (λ q. beats rules depth q p) given lost

-- a given point that does not lose and beats p
abbrev pub BestOver : Rules → ℕ → List Point → Point → Type 0
BestOver rules depth given p =
    (q : Point) × IsMember q given × (beats rules depth q p ≡ true) × (loses rules depth given q ≡ false)

-- a point that loses is beaten by one that does not lose
pub best : (rules : Rules) (depth : ℕ) (given : List Point) (p : Point) → loses rules depth given p ≡ true → BestOver rules depth given p
unfolding loses
best rules depth given p lost = winner_of (beats rules depth) (contest rules depth) given p lost

-- if some losers are left out, the same points lose
pub loses-filter : (rules : Rules) (depth : ℕ) (keep : Point → Bool) (given : List Point) → ((q : Point) → IsMember q given → loses rules depth given q ≡ false → keep q ≡ true) → (p : Point) → loses rules depth (filter keep given) p ≡ loses rules depth given p
unfolding loses
loses-filter rules depth keep given winners p =
    is_beaten-filter (beats rules depth) (contest rules depth) keep given winners p

-- in any order the same points lose
pub loses-IsPermutation : (rules : Rules) (depth : ℕ) (xs ys : List Point) (p : Point) → IsPermutation xs ys → loses rules depth xs p ≡ loses rules depth ys p
unfolding loses
loses-IsPermutation rules depth xs ys p h = list_any-IsPermutation (λ q. beats rules depth q p) xs ys h

-- ---- who leaves and who stays

pub leaves-loses : (rules : Rules) (depth : ℕ) (was : ℕ → Bool) (given : List Point) (p : Point) → leaves rules depth was given p ≡ true → loses rules depth given p ≡ true
unfolding leaves
leaves-loses rules depth was given p e = and_left _ _ e

pub leaves-open : (rules : Rules) (depth : ℕ) (was : ℕ → Bool) (given : List Point) (p : Point) → leaves rules depth was given p ≡ true → is_open rules depth was given (octant rules depth p) ≡ true
unfolding leaves
leaves-open rules depth was given p e =
    and_right (loses rules depth given p) (is_open rules depth was given (octant rules depth p)) e

pub leaves-from : (rules : Rules) (depth : ℕ) (was : ℕ → Bool) (given : List Point) (p : Point) → loses rules depth given p ≡ true → is_open rules depth was given (octant rules depth p) ≡ true → leaves rules depth was given p ≡ true
unfolding leaves
leaves-from rules depth was given p lost opened = and_both _ _ lost opened

-- a winner stays
pub stays-winner : (rules : Rules) (depth : ℕ) (was : ℕ → Bool) (given : List Point) (p : Point) → loses rules depth given p ≡ false → not (leaves rules depth was given p) ≡ true
unfolding leaves
stays-winner rules depth was given p wins =
    ap (λ (b : Bool). not (b && is_open rules depth was given (octant rules depth p))) wins

stays : (b : Bool) → not b ≡ true → b ≡ false
stays true e = absurd (false≢true e)
stays false e = refl

goes : (b : Bool) → b ≡ false → not b ≡ true
goes b e = ap not e

pub IsMember-sent : (rules : Rules) (depth : ℕ) (was : ℕ → Bool) (given : List Point) (o : ℕ) (p : Point) → IsMember p (sent rules depth was given o) → IsMember p given × (leaves rules depth was given p ≡ true) × (octant rules depth p ≡ o)
unfolding sent
IsMember-sent rules depth was given o p m =
    let h = IsMember-filter (λ q. leaves rules depth was given q && (octant rules depth q == o)) p given m in
    (h.0, and_left _ _ h.1, same_number (octant rules depth p) o (and_right (leaves rules depth was given p) (octant rules depth p == o) h.1))

pub sent-IsMember : (rules : Rules) (depth : ℕ) (was : ℕ → Bool) (given : List Point) (p : Point) → IsMember p given → leaves rules depth was given p ≡ true → IsMember p (sent rules depth was given (octant rules depth p))
unfolding sent
sent-IsMember rules depth was given p m e =
    IsMember-kept (λ q. leaves rules depth was given q && (octant rules depth q == octant rules depth p)) p given (and_both _ _ e (eq-eqb (octant rules depth p) (octant rules depth p) refl)) m

pub IsMember-stays : (rules : Rules) (depth : ℕ) (was : ℕ → Bool) (given : List Point) (p : Point) → IsMember p (kept rules depth was given) → IsMember p given × (leaves rules depth was given p ≡ false)
unfolding kept
IsMember-stays rules depth was given p m =
    let h = IsMember-filter (λ q. not (leaves rules depth was given q)) p given m in (h.0, stays _ h.1)

pub stays-IsMember : (rules : Rules) (depth : ℕ) (was : ℕ → Bool) (given : List Point) (p : Point) → IsMember p given → leaves rules depth was given p ≡ false → IsMember p (kept rules depth was given)
unfolding kept
stays-IsMember rules depth was given p m e =
    IsMember-kept (λ q. not (leaves rules depth was given q)) p given (goes _ e) m

-- among the points that stay, the same points lose as among all
pub loses-kept : (rules : Rules) (depth : ℕ) (was : ℕ → Bool) (given : List Point) (p : Point) → loses rules depth (kept rules depth was given) p ≡ loses rules depth given p
unfolding kept
loses-kept rules depth was given p =
    loses-filter rules depth (λ q. not (leaves rules depth was given q)) given (λ q m wins. stays-winner rules depth was given q wins) p

-- ---- what is sent, by octant

one_octant : (lost : Bool) (f : ℕ → Bool) (a o : ℕ) (b : Bool) → f o ≡ b → ((lost && f a) && (a == o)) ≡ cond b (lost && (a == o)) false
one_octant lost f a o b e =
    elim (either (a == o)) [
      | inl same ↦ there lost b (let is : a ≡ o = same_number a o same in ap f is ∙ e) same
      | inr apart ↦ off lost b apart
    ]
  where
    right : (c d : Bool) → d ≡ false → (c && d) ≡ false
    right true d e = e
    right false d e = refl

    there : (lost b : Bool) → f a ≡ b → (a == o) ≡ true → ((lost && f a) && (a == o)) ≡ cond b (lost && (a == o)) false
    there true true is same = ap (λ (c : Bool). c && (a == o)) is
    there true false is same = ap (λ (c : Bool). c && (a == o)) is
    there false true is same = refl
    there false false is same = refl

    off : (lost b : Bool) → (a == o) ≡ false → ((lost && f a) && (a == o)) ≡ cond b (lost && (a == o)) false
    off true true apart = right (f a) (a == o) apart ∙ sym apart
    off true false apart = right (f a) (a == o) apart
    off false true apart = refl
    off false false apart = refl

none_pass : {X : Type 0} (xs : List X) → filter (λ (x : X). false) xs ≡ []
none_pass [] = refl
none_pass (x ∷ xs) = none_pass xs

-- all losers of an open octant are sent to its child, and none of a closed one
pub sent-open : (rules : Rules) (depth : ℕ) (was : ℕ → Bool) (given : List Point) (o : ℕ) → sent rules depth was given o ≡ (if is_open rules depth was given o then losers rules depth given o else [])
unfolding sent losers leaves
sent-open rules depth was given o = at (is_open rules depth was given o) refl
  where
    at : (b : Bool) → is_open rules depth was given o ≡ b → filter (λ p. (loses rules depth given p && is_open rules depth was given (octant rules depth p)) && (octant rules depth p == o)) given ≡ cond b (filter (λ p. loses rules depth given p && (octant rules depth p == o)) given) []
    at true e = filter_agree _ _ (λ p. one_octant (loses rules depth given p) (is_open rules depth was given) (octant rules depth p) o true e) given
    at false e = filter_agree _ _ (λ p. one_octant (loses rules depth given p) (is_open rules depth was given) (octant rules depth p) o false e) given ∙ none_pass given

-- if no octant was open, the open octants are those that overflow
pub sent-none_open : (rules : Rules) (depth : ℕ) (given : List Point) (o : ℕ) → sent rules depth none_open given o ≡ (if overflows rules depth given o then losers rules depth given o else [])
unfolding is_open
sent-none_open rules depth given o = sent-open rules depth none_open given o

-- an octant overflows only above the greatest depth
pub overflows-depth : (rules : Rules) (depth : ℕ) (given : List Point) (o : ℕ) → overflows rules depth given o ≡ true → depth < rules.cube.depth
unfolding overflows
overflows-depth rules depth given o e =
    ltb-true depth rules.cube.depth (and_left (nat_lt depth rules.cube.depth) (nat_lt rules.threshold (length (losers rules depth given o))) e)

pub overflows-more : (rules : Rules) (depth : ℕ) (given : List Point) (o : ℕ) → overflows rules depth given o ≡ true → rules.threshold < length (losers rules depth given o)
unfolding overflows
overflows-more rules depth given o e =
    ltb-true rules.threshold (length (losers rules depth given o)) (and_right (nat_lt depth rules.cube.depth) (nat_lt rules.threshold (length (losers rules depth given o))) e)

-- ---- order and ids

pub IsRising-kept : (rules : Rules) (depth : ℕ) (was : ℕ → Bool) (given : List Point) → IsRising comes_before given → IsRising comes_before (kept rules depth was given)
unfolding kept
IsRising-kept rules depth was given up = IsRising-filter comes_before _ given up

pub IsRising-sent : (rules : Rules) (depth : ℕ) (was : ℕ → Bool) (given : List Point) (o : ℕ) → IsRising comes_before given → IsRising comes_before (sent rules depth was given o)
unfolding sent
IsRising-sent rules depth was given o up = IsRising-filter comes_before _ given up
