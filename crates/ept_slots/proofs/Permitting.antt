-- The permits when views, items and the word of the free ones change.
use Rattle.std.proofs.Common.{◌≡◌, ℕ, ◌+◌, ◌<◌, ◌≤◌, List, [], ◌∷◌, ◌++◌, set, sym, refl, ap, ◌∙◌, arith, get_or-set_other}
use Rattle.std.proofs.lemmas.List.Sums.{sum_by_push}
use Rattle.std.specs.List.{sum_by}
use Rattle.ept_slots.specs.declared.view.View.{View}
use Rattle.ept_slots.specs.Views.{At, Holds, permits_of, held_weight, permits_after, given, left_of, right_of, both_of, spent_view}
use Rattle.ept_slots.specs.Seats.{Permits}
use Rattle.ept_slots.specs.Locks.{free_of}
use Rattle.ept_slots.proofs.Sums.{sum-put}
use Rattle.ept_slots.proofs.Holders.{each-put, each-last}

-- word 1 stays when a lock changes, and when the counter does
pub free-stays : (words : List ℕ) (k a : ℕ) → free_of (set words (k + 2) a) ≡ free_of words
free-stays words k a = get_or-set_other words (k + 2) 1 a 0 (λ e. omega arith)

pub free-stays-drawn : (words : List ℕ) (a : ℕ) → free_of (set words 0 a) ≡ free_of words
free-stays-drawn words a = get_or-set_other words 0 1 a 0 (λ e. omega arith)

module _ {T N : Type 0} (weight : T → ℕ) (all : ℕ) where
  -- a seat without a part has none
  abbrev pub IsFairly : View T N → Type 0
  IsFairly v = v.parts ≡ 0 → v.permits ≡ 0

  -- one view changes, and the sum does not
  pub moved : (free free' : ℕ) (items items' : List T) (views : List (View T N)) (id : ℕ) (v u : View T N) → Permits weight all free items views → At views id v → IsFairly u
      → free' + u.permits + sum_by weight items' ≡ free + v.permits + sum_by weight items → Permits weight all free' items' (set views id u)
  moved free free' items items' views id v u p at fairly same = let sum : sum_by permits_of (set views id u) + v.permits ≡ sum_by permits_of views + u.permits = sum-put permits_of views id v u at in
      let before : free + sum_by permits_of views + sum_by weight items ≡ all = p.conserved in record { conserved = omega arith; spent = each-put IsFairly views id u p.spent fairly }

  -- one view changes, and not its permits
  pub unmoved : (free : ℕ) (items : List T) (views : List (View T N)) (id : ℕ) (v u : View T N) → Permits weight all free items views → At views id v → u.permits ≡ v.permits → u.parts ≡ v.parts → Permits weight all free items (set views id u)
  unmoved free items views id v u p at same parts = moved free free items items views id v u p at (λ e. same ∙ p.spent id v at (sym parts ∙ e)) (omega arith)

  -- the seat returns y in place of x, which it took
  pub permits-given : (free : ℕ) (items : List T) (views : List (View T N)) (id k : ℕ) (v : View T N) (x y : T) (n : N) → Permits weight all free items views → At views id v → At items k x → Holds v k x → 0 < v.parts → weight y ≤ v.permits + held_weight weight v.hold
      → Permits weight all free (set items k y) (set views id (given v (permits_after weight v y) n))
  permits-given free items views id k v x y n p at here hold part enough = let took : held_weight weight v.hold ≡ weight x = ap (held_weight weight) hold in let sum : sum_by weight (set items k y) + weight x ≡ sum_by weight items + weight y = sum-put weight items k x y here in
      moved free free items (set items k y) views id v (given v (permits_after weight v y) n) p at (λ e. let none : v.parts ≡ 0 = e in absurd (omega arith)) (omega arith)

  pub permits-split : (free : ℕ) (items : List T) (views : List (View T N)) (id : ℕ) (v : View T N) (left right : N) → Permits weight all free items views → At views id v → 1 < v.parts → Permits weight all free items (set views id (left_of v left) ++ right_of v right ∷ [])
  permits-split free items views id v left right p at parts = let mid : List (View T N) = set views id (left_of v left) in let q : Permits weight all free items mid = moved free free items items views id v (left_of v left) p at (λ e. absurd (omega arith)) refl in
      let sum : sum_by permits_of (mid ++ right_of v right ∷ []) ≡ sum_by permits_of mid + 0 = sum_by_push permits_of mid (right_of v right) in let before : free + sum_by permits_of mid + sum_by weight items ≡ all = q.conserved in
      record { conserved = omega arith; spent = each-last IsFairly mid (right_of v right) q.spent (λ _. refl) }

  pub permits-joined : (free : ℕ) (items : List T) (views : List (View T N)) (id j : ℕ) (v w : View T N) (both spent : N) → Permits weight all free items views → At views id v → At views j w → At (set views id (both_of v w both)) j w
      → Permits weight all free items (set (set views id (both_of v w both)) j (spent_view spent))
  permits-joined free items views id j v w both spent p at there after = let a : View T N = both_of v w both in let b : View T N = spent_view spent in let mid : List (View T N) = set views id a in
      let s1 : sum_by permits_of mid + v.permits ≡ sum_by permits_of views + (v.permits + w.permits) = sum-put permits_of views id v a at in let s2 : sum_by permits_of (set mid j b) + w.permits ≡ sum_by permits_of mid + 0 = sum-put permits_of mid j w b after in
      let before : free + sum_by permits_of views + sum_by weight items ≡ all = p.conserved in let poor-v = p.spent id v at in let poor-w = p.spent j w there in
      record { conserved = omega arith; spent = each-put IsFairly mid j b (each-put IsFairly views id a p.spent (λ e. let none : v.parts + w.parts ≡ 0 = e in let x : v.permits ≡ 0 = poor-v (omega arith) in let y : w.permits ≡ 0 = poor-w (omega arith) in omega arith)) (λ _. refl) }
