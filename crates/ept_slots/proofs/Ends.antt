-- The table at the start, and at the end.
use Rattle.std.proofs.Common.{◌≡◌, ℕ, zero, suc, ◌+◌, ◌<◌, ◌≤◌, ◌≢◌, ◌^◌, List, [], ◌∷◌, length, replicate, get_or, set, sym, refl, ap, subst, ◌∙◌, ⊎_elim, arith, length-set, get_or-set_same, get_or-set_other}
use Rattle.std.proofs.lemmas.List.{length-map, length-replicate, get_or-replicate}
use Rattle.std.proofs.lemmas.List.Sums.{sum_by-cons}
use Rattle.std.specs.List.{sum_by}
use mathlib.Core.Logic.{dite}
use mathlib.Core.Option.{some, some-injective, some-ne-none}
use native.Mathlib.Decide.{ℕ_discrete}
use lib.ListN.{get_elem?}
use Rattle.atomic_table.specs.Table.{opening, Final, Seen}
use Rattle.atomic_table.proofs.Lists.{at_map, at_set, set_else}
use Rattle.ept_slots.specs.declared.slot.Slot.{Slot}
use Rattle.ept_slots.specs.declared.slot.Slot.TheVariants.{Here, Spare}
use Rattle.ept_slots.specs.declared.view.View.{View}
use Rattle.ept_slots.specs.Views.{At, Holds, HoldsNothing, whole, parts_of, permits_of, first_view, spent_view}
use Rattle.ept_slots.specs.Seats.{Seats, Permits, IsAlone}
use Rattle.ept_slots.specs.Laid.{IsLaid}
use Rattle.ept_slots.specs.Locks.{drawn_of, free_of, lock_of, Lies}
use Rattle.ept_slots.specs.Seating.{Ended}
use Rattle.ept_slots.proofs.Places.{at-below}
use Rattle.ept_slots.proofs.Sums.{sum-put, at-le-sum}
use Rattle.ept_slots.proofs.Holders.{holds-none}

lone : {A : Type 0} (a b : A) (i : ℕ) → At (a ∷ []) i b → a ≡ b
lone a b zero e = some-injective a b e
lone a b (suc i) e = absurd (some-ne-none b (sym e))

pub at-get : {A : Type 0} (l : List A) (i : ℕ) (a d : A) → At l i a → get_or l i d ≡ a
at-get [] i a d e = absurd (some-ne-none a (sym e))
at-get (x ∷ xs) zero a d e = some-injective x a e
at-get (x ∷ xs) (suc i) a d e = at-get xs i a d e

module _ {T N : Type 0} (most : ℕ) where
  -- a seat that has the whole is alone
  alone : (drawn : ℕ) (items : List T) (views : List (View T N)) (id : ℕ) (v : View T N) → Seats most drawn items views → At views id v → v.parts ≡ whole → IsAlone views id
  alone drawn items views id v s at all j w e other = let z : View T N = spent_view v.note in let others : sum_by parts_of (set views id z) + v.parts ≡ sum_by parts_of views + 0 = sum-put parts_of views id v z at in let sum : sum_by parts_of views ≡ whole = s.shared in
      let few : w.parts ≤ sum_by parts_of (set views id z) = at-le-sum parts_of (set views id z) j w (set_else views id j z other ∙ e) in omega arith

all-poor : {T N : Type 0} (views : List (View T N)) → ((j : ℕ) (w : View T N) → At views j w → w.permits ≡ 0) → sum_by permits_of views ≡ 0
all-poor [] each = refl
all-poor (w ∷ ws) each = omega (arith, sum_by-cons permits_of w ws, each 0 w refl, all-poor ws (λ j u e. each (suc j) u e))

-- a seat that is alone has all permits, except those of the items and the free ones
lone-permits : {T N : Type 0} (weight : T → ℕ) (all free : ℕ) (items : List T) (views : List (View T N)) (id : ℕ) (v : View T N) → Permits weight all free items views → At views id v → IsAlone views id → free + v.permits + sum_by weight items ≡ all
lone-permits weight all free items views id v p at single = let z : View _ _ = spent_view v.note in let sum : sum_by permits_of (set views id z) + v.permits ≡ sum_by permits_of views + 0 = sum-put permits_of views id v z at in let before : free + sum_by permits_of views + sum_by weight items ≡ all = p.conserved in
    let none = all-poor (set views id z) (λ j w e. ⊎_elim (λ here. ap (λ (u : View _ _). u.permits) (sym here.1)) (λ other. p.spent j w other.1 (single j w other.1 other.0)) (at_set views id j z w e)) in omega arith

module _ {T N W : Type 0} (weight : T → ℕ) (all most : ℕ) (holds : ℕ → List T → List (View T N) → Type 0) where
  pub starts : (drawn free : ℕ) (n : N) (items : List T) (words : List ℕ) (slots : List (Slot T W)) → most < whole → all < 2 ^ 64 → drawn ≤ most → free + sum_by weight items ≡ all → IsLaid items slots → length words ≡ length items + 2 → drawn_of words ≡ drawn → free_of words ≡ free → ((k : ℕ) → k < length items → lock_of words k ≡ 0)
      → holds drawn items (first_view most n ∷ []) → Lies weight all most holds (opening words slots (first_view most n))
  starts drawn unused n items words slots small few enough sum laid wide counts opens free kept = let v : View T N = first_view most n in let nothing : (id k : ℕ) (u : View T N) (x : T) → At (v ∷ []) id u → Holds u k x → ⊥ = λ id k u x e h. holds-none v k x refl (ap (λ (z : View T N). z.hold) (lone v u id e) ∙ h) in record {
    items = items;
    small = small;
    few = few;
    locks = record {
      wide = wide;
      deep = length-map slots some ∙ laid.long;
      at_home = λ k x e _. at_map some slots k (Here x) (laid.here k x e);
      marked = λ id k u x e h. absurd (nothing id k u x e h);
      taken_by = λ k less one. let none : lock_of words k ≡ 0 = free k less in absurd (omega arith);
      list = laid.list;
      spare = at_map some slots (length items) (Spare laid.list) laid.last;
      empty = laid.empty;
      room = laid.room;
    };
    seats = subst (λ (z : ℕ). Seats most z items (v ∷ [])) (sym counts) record {
      held = λ id k u x e h. absurd (nothing id k u x e h);
      one_holder = λ i j k u w x y e f h g. absurd (nothing i k u x e h);
      shared = refl;
      idle = λ id u e none. absurd (let is : u.parts ≡ whole = ap (λ (z : View T N). z.parts) (sym (lone v u id e)) in omega arith);
      seldom = λ id u e. let is : u.refused ≡ 0 = ap (λ (z : View T N). z.refused) (sym (lone v u id e)) in omega arith;
      overdrawn = λ id u e some_refused. absurd (let is : u.refused ≡ 0 = ap (λ (z : View T N). z.refused) (sym (lone v u id e)) in omega arith);
      counted = omega arith;
    };
    permits = subst (λ (z : ℕ). Permits weight all z items (v ∷ [])) (sym opens) record {
      conserved = (let none : sum_by permits_of (v ∷ []) ≡ 0 = omega (arith, sum_by-cons permits_of v []) in omega arith);
      spent = λ id u e _. ap (λ (z : View T N). z.permits) (sym (lone v u id e));
    };
    kept = subst (λ (z : ℕ). holds z items (v ∷ [])) (sym counts) kept;
  }

  pub record Closing (id : ℕ) (v : View T N) (words : List ℕ) (slots : List (Slot T W)) : Type 0 where
    pub items : List T
    pub laid : IsLaid items slots
    pub ended : Ended holds most id v (drawn_of words) items
    pub permits : free_of words + v.permits + sum_by weight items ≡ all

  pub closes : (id : ℕ) (v : View T N) (words : List ℕ) (slots : List (Slot T W)) → HoldsNothing v → v.parts ≡ whole → Final (Seen (Lies weight all most holds) id v) words slots → Closing id v words slots
  closes id v words slots idle entire end = let s = end.0 in let r = end.1.0 in let at = end.1.1 in let single = alone most (drawn_of s.words) r.items s.views id v r.seats at entire in
      let free : (k : ℕ) → k < length r.items → lock_of s.words k ≢ 1 = λ k less one. let o = r.locks.taken_by k less one in dite (ℕ_discrete o.0 id)
      (λ is. let same : o.1 ≡ v = some-injective o.1 v (sym o.3 ∙ (ap (λ (i : ℕ). get_elem? s.views i) is ∙ at)) in holds-none v k o.2 idle (ap (λ (z : View T N). z.hold) (sym same) ∙ o.4))
      (λ ne. holds-none o.1 k o.2 (r.seats.idle o.0 o.1 o.3 (single o.0 o.1 o.3 ne)) o.4) in record {
        items = r.items;
        laid = record {
          long = sym end.3 ∙ r.locks.deep;
          here = λ k x e. end.4 k (Here x) (r.locks.at_home k x e (free k (at-below r.items k x e)));
          list = r.locks.list;
          last = end.4 (length r.items) (Spare r.locks.list) r.locks.spare;
          empty = r.locks.empty;
          room = r.locks.room;
        };
        ended = subst (λ (z : List ℕ). Ended holds most id v (drawn_of z) r.items) end.2 (s.views, r.seats, r.kept, at, single);
        permits = subst (λ (z : List ℕ). free_of z + v.permits + sum_by weight r.items ≡ all) end.2 (lone-permits weight all (free_of s.words) r.items s.views id v r.permits at single);
      }

-- the words at the start: none of the locks is held
pub first-words : (n drawn free : ℕ) (words mid now : List ℕ) → words ≡ replicate (n + 2) 0 → mid ≡ set words 0 drawn → now ≡ set mid 1 free → (length now ≡ n + 2) × (drawn_of now ≡ drawn) × (free_of now ≡ free) × ((k : ℕ) → k < n → lock_of now k ≡ 0)
first-words n drawn free words mid now zeros half is = let long : length words ≡ n + 2 = ap length zeros ∙ length-replicate (n + 2) 0 in let same : length mid ≡ n + 2 = ap length half ∙ (length-set words 0 drawn ∙ long) in (
  ap length is ∙ (length-set mid 1 free ∙ same),
  ap (λ (z : List ℕ). get_or z 0 0) is ∙ (get_or-set_other mid 1 0 free 0 (λ e. omega arith) ∙ (ap (λ (z : List ℕ). get_or z 0 0) half ∙ get_or-set_same words 0 drawn 0 (omega arith))),
  ap (λ (z : List ℕ). get_or z 1 0) is ∙ get_or-set_same mid 1 free 0 (omega arith),
  λ k less. ap (λ (z : List ℕ). get_or z (k + 2) 0) is ∙ (get_or-set_other mid 1 (k + 2) free 0 (λ e. omega arith) ∙ (ap (λ (z : List ℕ). get_or z (k + 2) 0) half ∙ (get_or-set_other words 0 (k + 2) drawn 0 (λ e. omega arith) ∙ (ap (λ (z : List ℕ). get_or z (k + 2) 0) zeros ∙ get_or-replicate (n + 2) (k + 2) 0 0 (omega arith))))),
)
