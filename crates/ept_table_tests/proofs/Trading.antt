-- Each step keeps the sum.
use Rattle.std.proofs.Common.{◌≡◌, ℕ, zero, suc, ◌+◌, ◌-◌, ◌/◌, ◌<◌, List, [], ◌∷◌, ◌++◌, set, sym, refl, ap, subst, ◌∙◌, arith, ⊎_elim}
use Rattle.std.proofs.lemmas.List.Sums.{sum_by_push, sum_by-cons}
use Rattle.std.specs.List.{sum_by}
use Rattle.std.specs.Prelude.{Option, Some, None, IfSome, MatchOption}
use mathlib.Core.Option.{some-injective, some-ne-none}
use Rattle.atomic_table.proofs.Lists.{at_set, set_else}
use Rattle.ept_slots.specs.Views.{At, Holds, first_view, taken, given, noted, refused, left_of, right_of, both_of, spent_view}
use Rattle.ept_slots.specs.Asks.{Takes, Gives, Notes, Looks, Draws, IsRefused, Splits, Joins}
use Rattle.ept_slots.specs.Seating.{Ended}
use Rattle.ept_slots.proofs.Sums.{sum-put, sum-none}
use Rattle.ept_slots.proofs.Holders.{each-put, each-last}
use Rattle.ept_table_tests.specs.Trade.{Known, carried_of, number, IsDone, AddsUp, KeepsNote}

-- one view changes, and its note does not
same-note : (total drawn drawn' : ℕ) (items : List ℕ) (views : List Known) (id : ℕ) (v w : Known) → AddsUp total drawn items views → At views id v → w.note ≡ v.note → w.parts ≡ v.parts → AddsUp total drawn' items (set views id w)
same-note total drawn drawn' items views id v w a at n p = let notes : sum_by carried_of (set views id w) + v.note ≡ sum_by carried_of views + w.note = sum-put carried_of views id v w at in let before : sum_by number items + sum_by carried_of views ≡ total = a.adds in
    record { adds = omega arith; done = each-put IsDone views id w a.done (λ e. n ∙ a.done id v at (sym p ∙ e)) }

pub takes : (total most id k : ℕ) (v : Known) → Takes (AddsUp total) most id v k (λ x n. KeepsNote v n)
takes total most id k v drawn items views x s a at there free = (v.note, same-note total drawn drawn items views id v (taken v k x v.note) a at refl refl, refl)

pub gives : (total most id k : ℕ) (v : Known) (x y p : ℕ) → Holds v k x → y ≡ v.note → 0 < v.parts → Gives (AddsUp total) most id v k y p (λ n. n ≡ x)
gives total most id k v x y p hold is some_part drawn items views s a at =
    let numbers : sum_by number (set items k y) + x ≡ sum_by number items + y = sum-put number items k x y (s.held id k v x at hold) in let before : sum_by number items + sum_by carried_of views ≡ total = a.adds in
    let notes : sum_by carried_of (set views id (given v p x)) + v.note ≡ sum_by carried_of views + x = sum-put carried_of views id v (given v p x) at in
    (x, record { adds = omega arith; done = each-put IsDone views id (given v p x) a.done (λ e. let none : v.parts ≡ 0 = e in absurd (omega arith)) }, refl)

pub looks : (total most id : ℕ) (v : Known) → Looks (AddsUp total) most id v (λ d n. KeepsNote v n)
looks total most id v drawn items views s a at = (v.note, same-note total drawn drawn items views id v (noted v v.note) a at refl refl, refl)

pub notes : (total most id : ℕ) (v : Known) → Notes (AddsUp total) most id v (λ n. KeepsNote v n)
notes total most id v drawn items views s a at = (v.note, same-note total drawn drawn items views id v (noted v v.note) a at refl refl, refl)

pub draws : (total id : ℕ) (v : Known) → Draws (AddsUp total) 1 id v (λ k n. KeepsNote v n × IfSome k (λ j. j ≡ 1))
draws total id v drawn items views s a at less = (v.note, same-note total drawn (drawn + 1) items views id v (noted v v.note) a at refl refl, (refl, omega arith))

pub refuses : (total id : ℕ) (v : Known) → IsRefused (AddsUp total) 1 id v (λ k n. KeepsNote v n × IfSome k (λ j. j ≡ 1))
refuses total id v drawn items views s a at above = (v.note, same-note total drawn (drawn + 1) items views id v (refused v v.note) a at refl refl, (refl, tt))

pub splits : (total most id : ℕ) (v : Known) → 1 < v.parts → Splits (AddsUp total) most id v v.note 0
splits total most id v some_parts drawn items views s a at = let mid : List Known = set views id (left_of v v.note) in let before : sum_by number items + sum_by carried_of views ≡ total = a.adds in
    let notes : sum_by carried_of mid + v.note ≡ sum_by carried_of views + v.note = sum-put carried_of views id v (left_of v v.note) at in let more : sum_by carried_of (mid ++ right_of v 0 ∷ []) ≡ sum_by carried_of mid + 0 = sum_by_push carried_of mid (right_of v 0) in
    record { adds = omega arith; done = each-last IsDone mid (right_of v 0) (each-put IsDone views id (left_of v v.note) a.done (λ e. absurd (let none : v.parts - v.parts / 2 ≡ 0 = e in omega arith))) (λ _. refl) }

pub joins : (total most id j : ℕ) (v w : Known) → 0 < v.parts → Joins (AddsUp total) most id v j w (v.note + w.note) 0
joins total most id j v w some_part drawn items views s a at there apart = let b : Known = both_of v w (v.note + w.note) in let mid : List Known = set views id b in let before : sum_by number items + sum_by carried_of views ≡ total = a.adds in
    let notes : sum_by carried_of mid + v.note ≡ sum_by carried_of views + (v.note + w.note) = sum-put carried_of views id v b at in
    let less : sum_by carried_of (set mid j (spent_view 0)) + w.note ≡ sum_by carried_of mid + 0 = sum-put carried_of mid j w (spent_view 0) (set_else views id j b apart ∙ there) in
    record { adds = omega arith; done = each-put IsDone mid j (spent_view 0) (each-put IsDone views id b a.done (λ e. absurd (let none : v.parts + w.parts ≡ 0 = e in omega arith))) (λ _. refl) }

first-done : (id : ℕ) (v : Known) → At (first_view {T = ℕ} 1 0 ∷ []) id v → IsDone v
first-done zero v e = subst IsDone (some-injective (first_view 1 0) v e) (λ _. refl)
first-done (suc id) v e = absurd (some-ne-none v (sym e))

-- the numbers take no permit, and there is no permit
pub no-permits : (items : List ℕ) → (0 + sum_by (λ (x : ℕ). 0) items ≡ 0) × (0 < 18446744073709551616)
no-permits items = (omega (arith, sum-none items), omega arith)

pub starts : (total : ℕ) (items : List ℕ) → total ≡ sum_by number items → AddsUp total 0 items (first_view 1 0 ∷ [])
starts total items is = record { adds = omega (arith, sum_by-cons carried_of (first_view {T = ℕ} 1 0) []); done = first-done }

all-zero : (views : List Known) → ((j : ℕ) (w : Known) → At views j w → w.note ≡ 0) → sum_by carried_of views ≡ 0
all-zero [] each = refl
all-zero (w ∷ ws) each = omega (arith, sum_by-cons carried_of w ws, each 0 w refl, all-zero ws (λ j u e. each (suc j) u e))

-- at the end the numbers in the slots and the number that the seat carries are all there is
pub ends : (total most id : ℕ) (v : Known) (drawn : ℕ) (items : List ℕ) → Ended (AddsUp total) most id v drawn items → sum_by number items + v.note ≡ total
ends total most id v drawn items end = let views = end.0 in let a = end.2 in let at = end.3 in let before : sum_by number items + sum_by carried_of views ≡ total = a.adds in
    let notes : sum_by carried_of (set views id (spent_view 0)) + v.note ≡ sum_by carried_of views + 0 = sum-put carried_of views id v (spent_view 0) at in
    let none = all-zero (set views id (spent_view 0)) (λ j w e. ⊎_elim (λ p. ap (λ (z : Known). z.note) (sym p.1)) (λ p. a.done j w p.1 (end.4 j w p.1 p.0)) (at_set views id j (spent_view 0) w e)) in omega arith

-- what a draw makes known
abbrev pub Tells : Known → Option ℕ → ℕ → Type 0
Tells v k n = KeepsNote v n × IfSome k (λ j. j ≡ 1)

pub kept-note : (r : Option ℕ) (v w : Known) (n : ℕ) → MatchOption r ((w ≡ refused v n) × Tells v None n) (λ k. (w ≡ noted v n) × Tells v (Some k) n) → w.note ≡ v.note
kept-note None v w n h = ap (λ (z : Known). z.note) h.0 ∙ h.1.0
kept-note (Some k) v w n h = ap (λ (z : Known). z.note) h.0 ∙ h.1.0

pub first-drawn : (r : Option ℕ) (v w : Known) (n : ℕ) → MatchOption r ((w ≡ refused v n) × Tells v None n) (λ k. (w ≡ noted v n) × Tells v (Some k) n) → IfSome r (λ k. k ≡ 1)
first-drawn None v w n h = tt
first-drawn (Some k) v w n h = h.1.1
