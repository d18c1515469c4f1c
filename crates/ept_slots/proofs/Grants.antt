-- A permit is taken from the free ones, or returned to them.
use Rattle.std.proofs.Common.{◌≡◌, ℕ, eqb, ◌+◌, ◌-◌, ◌%◌, ◌^◌, ◌<◌, ◌≤◌, ◌≢◌, List, length, get_or, set, sym, refl, subst, arith, length-set, get_or-set_other, get_or-set_same}
use Rattle.std.proofs.Math.Nat.{mod-eq_of_lt}
use Rattle.std.specs.List.{sum_by}
use mathlib.Core.Option.{none}
use prog.Atomic.{either}
use Rattle.atomic_table.specs.Table.{State, Me, step, keeps, Allows}
use Rattle.atomic_table.proofs.Lists.{set_again, exchanged}
use Rattle.ept_slots.specs.declared.slot.Slot.{Slot}
use Rattle.ept_slots.specs.declared.view.View.{View}
use Rattle.ept_slots.specs.Views.{At, permits_of, with_permits}
use Rattle.ept_slots.specs.Seats.{Seats, Permits}
use Rattle.ept_slots.specs.Asks.{HasPermits}
use Rattle.ept_slots.specs.Locks.{drawn_of, free_of, Lies}
use Rattle.ept_slots.specs.Plays.{play_grant, play_return}
use Rattle.ept_slots.proofs.Sums.{at-le-sum}
use Rattle.ept_slots.proofs.Holders.{mirrors-put}
use Rattle.ept_slots.proofs.Keeping.{reseat-noted, relock}
use Rattle.ept_slots.proofs.Permitting.{IsFairly, moved}
use Rattle.ept_slots.proofs.Takings.{Goes, relie}

module _ {T N W : Type 0} (weight : T → ℕ) (all most : ℕ) (holds : ℕ → List T → List (View T N) → Type 0) where
  -- the word of the free permits changes, and with it the permits of one seat
  recounted : (s : State (Slot T W) (View T N)) (r : Lies weight all most holds s) (id p free : ℕ) (v : View T N) → At s.views id v → IsFairly weight all (with_permits v p) → free + p ≡ free_of s.words + v.permits → HasPermits holds most id v p
      → Lies weight all most holds (record { words = set s.words 1 free; homes = s.homes; views = set s.views id (with_permits v p) })
  recounted s r id p free v at fairly same law = let w : View T N = with_permits v p in let words' : List ℕ = set s.words 1 free in let views' : List (View T N) = set s.views id w in let wide : length s.words ≡ length r.items + 2 = r.locks.wide in
      let drawn : drawn_of s.words ≡ drawn_of words' = sym (get_or-set_other s.words 1 0 free 0 (λ e. omega arith)) in let now : free ≡ free_of words' = sym (get_or-set_same s.words 1 free 0 (omega arith)) in record {
        items = r.items;
        small = r.small;
        few = r.few;
        locks = relock s.words words' s.homes r.items s.views views' r.locks (length-set s.words 1 free) (λ k. get_or-set_other s.words 1 (k + 2) free 0 (λ e. omega arith)) (mirrors-put s.views id v w at refl);
        seats = subst (λ (z : ℕ). Seats most z r.items views') drawn (reseat-noted most (drawn_of s.words) r.items s.views id v w r.seats at refl refl refl);
        permits = subst (λ (z : ℕ). Permits weight all z r.items views') now (moved weight all (free_of s.words) free r.items r.items s.views id v w r.permits at fairly (omega arith));
        kept = subst (λ (z : ℕ). holds z r.items views') drawn (law (drawn_of s.words) r.items s.views r.seats r.kept at);
      }

  pub grants_permit : (n id free : ℕ) (me : Me (Slot T W) (View T N)) → free ≢ 0 → 0 < me.0.parts → HasPermits holds most id me.0 (me.0.permits + 1)
      → Allows (Lies weight all most holds) n id me 1 (λ y. either (eqb y free) (free - 1) y) (play_grant (step n 1 free (free - 1) none) me)
  grants_permit n id free me some part law s r wide at _ = let y : ℕ = get_or s.words 1 0 in let v : View T N = me.0 in let told = play_grant (step n 1 free (free - 1) none) me in
      exchanged y free (free - 1) (Goes weight all most holds s 1 id me (told y))
      (λ hit. (
        with_permits v (v.permits + 1),
        keeps,
        tt,
        recounted s r id (v.permits + 1) (free - 1) v at (λ e. let zero : v.parts ≡ 0 = e in absurd (omega arith)) (let is : free_of s.words ≡ free = hit in omega arith) law,
        ((λ _. refl), λ miss. absurd (miss hit)),
      ))
      (λ miss. (
        v,
        keeps,
        tt,
        relie weight all most holds s 1 y id v r refl (set_again s.views id v at),
        ((λ hit. absurd (miss hit)), λ _. refl),
      ))

  pub returns_permit : (n id : ℕ) (me : Me (Slot T W) (View T N)) → 0 < me.0.permits → HasPermits holds most id me.0 (me.0.permits - 1)
      → Allows (Lies weight all most holds) n id me 1 (λ y. (y + 1) % 2 ^ 64) (play_return (step n 1 1 0 none) me)
  returns_permit n id me some law s r wide at _ = let y : ℕ = get_or s.words 1 0 in let v : View T N = me.0 in
      let before : free_of s.words + sum_by permits_of s.views + sum_by weight r.items ≡ all = r.permits.conserved in let mine : v.permits ≤ sum_by permits_of s.views = at-le-sum permits_of s.views id v at in let few : all < 2 ^ 64 = r.few in
      let word : free_of s.words ≡ y = refl in let small : y + 1 < 2 ^ 64 = omega arith in
      subst (Goes weight all most holds s 1 id me (play_return (step n 1 1 0 none) me y)) (sym (mod-eq_of_lt small)) (
        with_permits v (v.permits - 1),
        keeps,
        tt,
        recounted s r id (v.permits - 1) (y + 1) v at (λ e. let none_left : v.permits ≡ 0 = r.permits.spent id v at e in absurd (omega arith)) (omega arith) law,
        refl,
      )
