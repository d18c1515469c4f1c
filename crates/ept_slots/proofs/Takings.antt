-- `take` keeps the rule of the table.
use Rattle.std.proofs.Common.{◌≡◌, ℕ, eqb, ◌+◌, ◌<◌, ◌≤◌, ◌≢◌, List, ◌∷◌, length, get_or, set, sym, refl, ap, subst, ◌∙◌, ⊎_elim, arith, length-set, get_or-set_other, get_or-set_same}
use Rattle.std.specs.List.{sum_by}
use Rattle.std.proofs.lemmas.List.{set-get_or}
use mathlib.Core.Logic.{dite}
use mathlib.Core.Option.{none, some, some-injective}
use mathlib.Core.Option as maybe
use native.Mathlib.Decide.{ℕ_discrete}
use prog.Atomic.{either}
use lib.ListN.{get_elem?}
use Rattle.atomic_table.specs.Table.{State, Me, Act, step, keeps, takes, stepped, Valid, carried_after, Allows}
use Rattle.atomic_table.proofs.Lists.{at_set, set_else, set_again, exchanged}
use Rattle.ept_slots.specs.declared.slot.Slot.{Slot}
use Rattle.ept_slots.specs.declared.slot.Slot.TheVariants.{Here}
use Rattle.ept_slots.specs.declared.view.View.{View}
use Rattle.ept_slots.specs.Views.{At, Holds, HoldsNothing, whole, parts_of, refused_of, taken}
use Rattle.ept_slots.specs.Seats.{Seats, IsFree, Permits}
use Rattle.ept_slots.specs.Asks.{Takes}
use Rattle.ept_slots.specs.Locks.{drawn_of, free_of, lock_of, Locks, Lies}
use Rattle.ept_slots.specs.Plays.{play_take, Took}
use Rattle.ept_slots.proofs.Places.{there, at-below, put-here}
use Rattle.ept_slots.proofs.Sums.{sum-put}
use Rattle.ept_slots.proofs.Holders.{same-hold, holds-none, each-put}
use Rattle.ept_slots.proofs.Keeping.{IsFair, fair}
use Rattle.ept_slots.proofs.Permitting.{free-stays, unmoved}

-- word 0 stays when a lock changes, and so does each other lock
pub drawn-stays : (words : List ℕ) (k a : ℕ) → drawn_of (set words (k + 2) a) ≡ drawn_of words
drawn-stays words k a = get_or-set_other words (k + 2) 0 a 0 (λ e. omega arith)

pub lock-stays : (words : List ℕ) (k a j : ℕ) → j ≢ k → lock_of (set words (k + 2) a) j ≡ lock_of words j
lock-stays words k a j ne = get_or-set_other words (k + 2) (j + 2) a 0 (λ e. ne (omega arith))

module _ {T N W : Type 0} where
  -- the slot is one of them, so its lock is there
  pub lock-set : (words : List ℕ) (homes : List (maybe.Option (Slot T W))) (items : List T) (views : List (View T N)) (k a : ℕ) → Locks words homes items views → k < length items → lock_of (set words (k + 2) a) k ≡ a
  lock-set words homes items views k a l h = let w : length words ≡ length items + 2 = l.wide in get_or-set_same words (k + 2) a 0 (omega arith)

  locks-taken : (words : List ℕ) (homes : List (maybe.Option (Slot T W))) (items : List T) (views : List (View T N)) (id k : ℕ) (v w : View T N) (x : T) → Locks words homes items views → At views id v → HoldsNothing v → Holds w k x → At items k x
      → lock_of words k ≢ 1 → Locks (set words (k + 2) 1) (set homes k none) items (set views id w)
  locks-taken words homes items views id k v w x l at idle holds here was = let near : k < length items = at-below items k x here in record {
    wide = length-set words (k + 2) 1 ∙ l.wide;
    deep = length-set homes k none ∙ l.deep;
    at_home = λ j y e ne. let other : j ≢ k = λ is. ne (ap (lock_of (set words (k + 2) 1)) is ∙ lock-set words homes items views k 1 l near) in
        set_else homes k j none other ∙ l.at_home j y e (λ one. ne (lock-stays words k 1 j other ∙ one));
    marked = λ j m u y e h. ⊎_elim
        (λ p. let s = same-hold w k m x y holds (ap (λ (z : View T N). z.hold) p.1 ∙ h) in ap (lock_of (set words (k + 2) 1)) (sym s.0) ∙ lock-set words homes items views k 1 l near)
        (λ p. let one = l.marked j m u y p.1 h in lock-stays words k 1 m (λ is. was (ap (lock_of words) (sym is) ∙ one)) ∙ one) (at_set views id j w u e);
    taken_by = λ m h one. dite (ℕ_discrete m k)
        (λ is. (id, w, x, put-here views id v w at, subst (λ (z : ℕ). Holds w z x) (sym is) holds))
        (λ ne. let o = l.taken_by m h (sym (lock-stays words k 1 m ne) ∙ one) in
        let other : o.0 ≢ id = λ is. let uv : o.1 ≡ v = some-injective o.1 v (sym o.3 ∙ (ap (λ (i : ℕ). get_elem? views i) is ∙ at)) in holds-none v m o.2 idle (ap (λ (z : View T N). z.hold) (sym uv) ∙ o.4) in
        (o.0, o.1, o.2, set_else views id o.0 w other ∙ o.3, o.4));
    list = l.list;
    spare = set_else homes k (length items) none (λ e. omega arith) ∙ l.spare;
    empty = l.empty;
    room = l.room;
  }

module _ {T N : Type 0} where
  seats-taken : (most drawn : ℕ) (items : List T) (views : List (View T N)) (id k : ℕ) (v w : View T N) (x : T) → Seats most drawn items views → At views id v → 0 < v.parts → Holds w k x → w.parts ≡ v.parts → w.refused ≡ v.refused → At items k x → IsFree views k → Seats most drawn items (set views id w)
  seats-taken most drawn items views id k v w x s at some_part holds p r here free = let fv = fair most drawn items views s id v at in
      let sp : sum_by parts_of (set views id w) + v.parts ≡ sum_by parts_of views + w.parts = sum-put parts_of views id v w at in
      let sr : sum_by refused_of (set views id w) + v.refused ≡ sum_by refused_of views + w.refused = sum-put refused_of views id v w at in
      let all : sum_by parts_of views ≡ whole = s.shared in let few : drawn ≤ most + sum_by refused_of views = s.counted in
      let each = each-put (IsFair most drawn) views id w (fair most drawn items views s) record { idle = λ e. (let z : v.parts ≡ 0 = sym p ∙ e in absurd (omega arith)); seldom = (let a : v.refused ≤ v.parts = fv.seldom in omega arith); overdrawn = λ o. fv.overdrawn (subst (λ (z : ℕ). 0 < z) r o) } in record {
        held = λ j m u y e h. ⊎_elim
            (λ q. let o = same-hold w k m x y holds (ap (λ (z : View T N). z.hold) q.1 ∙ h) in subst (λ (z : ℕ × T). At items z.0 z.1) (λ i. (o.0 i, o.1 i)) here)
            (λ q. s.held j m u y q.1 h) (at_set views id j w u e);
        one_holder = λ i j m u t y z e f h g. ⊎_elim
            (λ q. ⊎_elim (λ q'. q.0 ∙ sym q'.0)
            (λ q'. let o = same-hold w k m x y holds (ap (λ (a : View T N). a.hold) q.1 ∙ h) in absurd (free j t z q'.1 (subst (λ (a : ℕ). Holds t a z) (sym o.0) g))) (at_set views id j w t f))
            (λ q. ⊎_elim (λ q'. let o = same-hold w k m x z holds (ap (λ (a : View T N). a.hold) q'.1 ∙ g) in absurd (free i u y q.1 (subst (λ (a : ℕ). Holds u a y) (sym o.0) h)))
            (λ q'. s.one_holder i j m u t y z q.1 q'.1 h g) (at_set views id j w t f)) (at_set views id i w u e);
        shared = (let goal : sum_by parts_of (set views id w) ≡ whole = omega arith in goal);
        idle = λ j u e. (each j u e).idle;
        seldom = λ j u e. (each j u e).seldom;
        overdrawn = λ j u e. (each j u e).overdrawn;
        counted = (let goal : drawn ≤ most + sum_by refused_of (set views id w) = omega arith in goal);
      }

module _ {T N W : Type 0} (weight : T → ℕ) (all most : ℕ) (holds : ℕ → List T → List (View T N) → Type 0) where
  -- what a step has to show, once the word became m
  abbrev pub Goes : (s : State (Slot T W) (View T N)) (i id : ℕ) (me : Me (Slot T W) (View T N)) (then : Me (Slot T W) (View T N) → Type 0) → ℕ → Type 0
  Goes s i id me then m = (w : View T N) × (a : Act (Slot T W)) × Valid s.homes me.1 a × Lies weight all most holds (stepped s i m id me.1 w a) × then (w, carried_after me.1 a)

  -- nothing changes
  pub relie : (s : State (Slot T W) (View T N)) (i y id : ℕ) (v : View T N) → Lies weight all most holds s → y ≡ get_or s.words i 0 → set s.views id v ≡ s.views → Lies weight all most holds (record { words = set s.words i y; homes = s.homes; views = set s.views id v })
  relie s i y id v r is same = subst (λ (z : List ℕ × List (View T N)). Lies weight all most holds (record { words = z.0; homes = s.homes; views = z.1 })) (λ j. (sym (ap (λ (a : ℕ). set s.words i a) is ∙ set-get_or s.words i 0) j, sym same j)) r

  pub takes_slot : (tells : View T N → ℕ → T → N → Type 0) (n id k old : ℕ) (me : Me (Slot T W) (View T N)) → old ≢ 1 → k + 1 < n → HoldsNothing me.0 → 0 < me.0.parts → Takes holds most id me.0 k (tells me.0 k)
      → Allows (Lies weight all most holds) n id me (k + 2) (λ y. either (eqb y old) 1 y) (play_take tells (step n (k + 2) old 1 none) me)
  takes_slot tells n id k old me free_old near idle some_part law s r wide at _ = let y : ℕ = get_or s.words (k + 2) 0 in let v : View T N = me.0 in let items : List T = r.items in let views : List (View T N) = s.views in
      let told = play_take tells (step n (k + 2) old 1 none) me in let deep : length s.homes ≡ length items + 1 = r.locks.deep in let drawn : ℕ = drawn_of s.words in
      exchanged y old 1 (Goes s (k + 2) id me (told y))
      (λ hit. let w : length s.homes ≡ n = wide in let inside : k < length items = omega arith in let x = there items k inside in let was : lock_of s.words k ≢ 1 = λ one. free_old (sym hit ∙ one) in
      let free : IsFree views k = λ j u z e h. was (r.locks.marked j k u z e h) in let o = law drawn items views x.0 r.seats r.kept at x.1 free in let same = sym (drawn-stays s.words k 1) in (
        taken v k x.0 o.0,
        takes k (Here x.0),
        r.locks.at_home k x.0 x.1 was,
        record {
          items = items;
          small = r.small;
          few = r.few;
          locks = locks-taken s.words s.homes items views id k v (taken v k x.0 o.0) x.0 r.locks at idle refl x.1 was;
          seats = subst (λ (z : ℕ). Seats most z items (set views id (taken v k x.0 o.0))) same (seats-taken most drawn items views id k v (taken v k x.0 o.0) x.0 r.seats at some_part refl refl refl x.1 free);
          permits = subst (λ (z : ℕ). Permits weight all z items (set views id (taken v k x.0 o.0))) (sym (free-stays s.words k 1)) (unmoved weight all (free_of s.words) items views id v (taken v k x.0 o.0) r.permits at refl refl);
          kept = subst (λ (z : ℕ). holds z items (set views id (taken v k x.0 o.0))) same o.1;
        },
        (λ j e. let is : k ≡ j = omega arith in let m' : Me (Slot T W) (View T N) = (taken v k x.0 o.0, (k, Here x.0) ∷ me.1) in
            subst (λ (z : ℕ). (y ≡ old → Took tells z me m') × (y ≢ old → m' ≡ me)) is ((λ _. (x.0, o.0, refl, o.2)), λ miss. absurd (miss hit))),
      ))
      (λ miss. (
        v,
        keeps,
        tt,
        relie s (k + 2) y id v r refl (set_again views id v at),
        (λ j e. ((λ hit. absurd (miss hit)), λ _. refl)),
      ))
