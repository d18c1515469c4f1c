-- `give` keeps the rule of the table.
use Rattle.std.proofs.Common.{◌≡◌, ℕ, eqb, ◌+◌, ◌<◌, ◌≤◌, ◌≢◌, List, [], ◌∷◌, length, get_or, set, sym, refl, ap, subst, ◌∙◌, ⊎_elim, arith, length-set}
use Rattle.std.proofs.lemmas.Bool.{cases_lt}
use Rattle.std.specs.List.{sum_by}
use Rattle.std.specs.Vec.{vec_capacity}
use mathlib.Core.Option.{none, some, some-injective}
use mathlib.Core.Option as maybe
use prog.Atomic.{either}
use lib.ListN.{get_elem?}
use Rattle.atomic_table.specs.Table.{Me, step, gives, Allows}
use Rattle.atomic_table.proofs.Lists.{at_set, set_here, set_else, exchanged}
use Rattle.ept_slots.specs.declared.slot.Slot.{Slot}
use Rattle.ept_slots.specs.declared.slot.Slot.TheVariants.{Here, Said, Spare}
use Rattle.ept_slots.specs.declared.view.View.{View}
use Rattle.ept_slots.specs.Views.{At, Holds, whole, parts_of, refused_of, held_weight, permits_after, given}
use Rattle.ept_slots.specs.Seats.{Seats, Permits}
use Rattle.ept_slots.specs.Asks.{Gives}
use Rattle.ept_slots.specs.Locks.{drawn_of, free_of, lock_of, Locks, Lies}
use Rattle.ept_slots.specs.Plays.{play_give}
use Rattle.ept_slots.proofs.Places.{at-below}
use Rattle.ept_slots.proofs.Sums.{sum-put}
use Rattle.ept_slots.proofs.Holders.{same-hold, holds-none, each-put}
use Rattle.ept_slots.proofs.Keeping.{IsFair, fair}
use Rattle.ept_slots.proofs.Permitting.{free-stays, permits-given}
use Rattle.ept_slots.proofs.Hands.{told-said, lone-item}
use Rattle.ept_slots.proofs.Takings.{Goes, drawn-stays, lock-stays, lock-set}

module _ {T N : Type 0} where
  -- a holder has a part
  has-part : (most drawn : ℕ) (items : List T) (views : List (View T N)) (id k : ℕ) (v : View T N) (x : T) → Seats most drawn items views → At views id v → Holds v k x → 0 < v.parts
  has-part most drawn items views id k v x s at hold = ⊎_elim (λ some. some) (λ none. absurd (holds-none v k x (s.idle id v at (omega arith)) hold)) (cases_lt 0 v.parts)

  seats-given : (most drawn : ℕ) (items : List T) (views : List (View T N)) (id k : ℕ) (v : View T N) (x y : T) (p : ℕ) (n : N) → Seats most drawn items views → At views id v → Holds v k x → Seats most drawn (set items k y) (set views id (given v p n))
  seats-given most drawn items views id k v x y p n s at hold = let w : View T N = given v p n in let fv = fair most drawn items views s id v at in
      let sp : sum_by parts_of (set views id w) + v.parts ≡ sum_by parts_of views + v.parts = sum-put parts_of views id v w at in
      let sr : sum_by refused_of (set views id w) + v.refused ≡ sum_by refused_of views + v.refused = sum-put refused_of views id v w at in
      let all : sum_by parts_of views ≡ whole = s.shared in let few : drawn ≤ most + sum_by refused_of views = s.counted in
      let each = each-put (IsFair most drawn) views id w (fair most drawn items views s) record { idle = λ _. refl; seldom = fv.seldom; overdrawn = fv.overdrawn } in
      let nothing : (u : View T N) (m : ℕ) (z : T) → w ≡ u → Holds u m z → ⊥ = λ u m z is h. holds-none w m z refl (ap (λ (a : View T N). a.hold) is ∙ h) in record {
        held = λ j m u z e h. ⊎_elim (λ p. absurd (nothing u m z p.1 h))
            (λ p. set_else items k m y (λ is. p.0 (s.one_holder j id k u v z x p.1 at (subst (λ (a : ℕ). Holds u a z) is h) hold)) ∙ s.held j m u z p.1 h) (at_set views id j w u e);
        one_holder = λ i j m u t a b e f h g. ⊎_elim (λ p. absurd (nothing u m a p.1 h))
            (λ p. ⊎_elim (λ q. absurd (nothing t m b q.1 g)) (λ q. s.one_holder i j m u t a b p.1 q.1 h g) (at_set views id j w t f)) (at_set views id i w u e);
        shared = (let goal : sum_by parts_of (set views id w) ≡ whole = omega arith in goal);
        idle = λ j u e. (each j u e).idle;
        seldom = λ j u e. (each j u e).seldom;
        overdrawn = λ j u e. (each j u e).overdrawn;
        counted = (let goal : drawn ≤ most + sum_by refused_of (set views id w) = omega arith in goal);
      }

module _ {T N W : Type 0} where
  locks-given : (most drawn free : ℕ) (words : List ℕ) (homes : List (maybe.Option (Slot T W))) (items : List T) (views : List (View T N)) (id k : ℕ) (v : View T N) (x y : T) (p : ℕ) (n : N) → free ≢ 1 → Locks words homes items views → Seats most drawn items views → At views id v → Holds v k x
      → Locks (set words (k + 2) free) (set homes k (some (Here y))) (set items k y) (set views id (given v p n))
  locks-given most drawn free words homes items views id k v x y p n unheld l s at hold = let w : View T N = given v p n in let near : k < length items = at-below items k x (s.held id k v x at hold) in let long : length (set items k y) ≡ length items = length-set items k y in
      let deep : length homes ≡ length items + 1 = l.deep in let free_now = lock-set words homes items views k free l near in record {
        wide = length-set words (k + 2) free ∙ (l.wide ∙ ap (λ (z : ℕ). z + 2) (sym long));
        deep = length-set homes k (some (Here y)) ∙ (deep ∙ ap (λ (z : ℕ). z + 1) (sym long));
        at_home = λ j z e ne. ⊎_elim
            (λ p. subst (λ (a : ℕ × T). At (set homes k (some (Here y))) a.0 (some (Here a.1))) (λ i. (sym p.0 i, p.1 i)) (set_here homes k (some (Here y)) (omega arith)))
            (λ p. set_else homes k j (some (Here y)) p.0 ∙ l.at_home j z p.1 (λ one. ne (lock-stays words k free j p.0 ∙ one))) (at_set items k j y z e);
        marked = λ j m u z e h. ⊎_elim (λ p. absurd (holds-none w m z refl (ap (λ (a : View T N). a.hold) p.1 ∙ h)))
            (λ p. lock-stays words k free m (λ is. p.0 (s.one_holder j id k u v z x p.1 at (subst (λ (a : ℕ). Holds u a z) is h) hold)) ∙ l.marked j m u z p.1 h) (at_set views id j w u e);
        taken_by = λ m h one. let other : m ≢ k = λ is. unheld (sym free_now ∙ (ap (lock_of (set words (k + 2) free)) (sym is) ∙ one)) in
            let o = l.taken_by m (omega arith) (sym (lock-stays words k free m other) ∙ one) in
            let apart : o.0 ≢ id = λ is. let uv : o.1 ≡ v = some-injective o.1 v (sym o.3 ∙ (ap (λ (i : ℕ). get_elem? views i) is ∙ at)) in other ((same-hold v m k o.2 x (ap (λ (a : View T N). a.hold) (sym uv) ∙ o.4) hold).0) in
            (o.0, o.1, o.2, set_else views id o.0 w apart ∙ o.3, o.4);
        list = l.list;
        spare = subst (λ (z : ℕ). At (set homes k (some (Here y))) z (some (Spare l.list))) (sym long) (set_else homes k (length items) (some (Here y)) (λ e. omega arith) ∙ l.spare);
        empty = l.empty;
        room = subst (λ (z : ℕ). z ≤ vec_capacity l.list) (sym long) l.room;
      }

module _ {T N W : Type 0} (weight : T → ℕ) (all most : ℕ) (holds : ℕ → List T → List (View T N) → Type 0) where
  gives_slot : (tells : View T N → T → W → N → Type 0) (n id k free : ℕ) (v : View T N) (x y : T) (w : W) → free ≢ 1 → Holds v k x → weight y ≤ v.permits + held_weight weight v.hold → Gives holds most id v k y (permits_after weight v y) (tells v y w)
      → Allows (Lies weight all most holds) n id (v, (k, Here y) ∷ []) (k + 2) (λ z. either (eqb z 1) free z) (play_give weight tells (step n (k + 2) 1 free (some (Said w))) (v, (k, Here y) ∷ []))
  gives_slot tells n id k free v x y w unheld hold enough law s r wide at _ = let me : Me (Slot T W) (View T N) = (v, (k, Here y) ∷ []) in let z : ℕ = get_or s.words (k + 2) 0 in let one : z ≡ 1 = r.locks.marked id k v x at hold in let drawn : ℕ = drawn_of s.words in
      let o = law drawn r.items s.views r.seats r.kept at in let same = sym (drawn-stays s.words k free) in let p : ℕ = permits_after weight v y in let views' : List (View T N) = set s.views id (given v p o.0) in let items' : List T = set r.items k y in
      let here = r.seats.held id k v x at hold in let part : 0 < v.parts = has-part most drawn r.items s.views id k v x r.seats at hold in
      exchanged z 1 free (Goes weight all most holds s (k + 2) id me (play_give weight tells (step n (k + 2) 1 free (some (Said w))) me z))
      (λ hit. (
        given v p o.0,
        gives,
        tt,
        record {
          items = items';
          small = r.small;
          few = r.few;
          locks = locks-given most drawn free s.words s.homes r.items s.views id k v x y p o.0 unheld r.locks r.seats at hold;
          seats = subst (λ (a : ℕ). Seats most a items' views') same (seats-given most drawn r.items s.views id k v x y p o.0 r.seats at hold);
          permits = subst (λ (a : ℕ). Permits weight all a items' views') (sym (free-stays s.words k free)) (permits-given weight all (free_of s.words) r.items s.views id k v x y o.0 r.permits at here hold part enough);
          kept = subst (λ (a : ℕ). holds a items' views') same o.1;
        },
        (λ k' x' w' hand said. let xs = lone-item k k' y x' hand in
            (o.0, ap (λ (a : T). let m : Me (Slot T W) (View T N) = (given v (permits_after weight v a) o.0, []) in m) xs, subst (λ (a : T × W). tells v a.0 a.1 o.0) (λ i. (xs i, told-said (some (Said w)) w w' refl said i)) o.2)),
      ))
      (λ miss. absurd (miss one))

  -- the same of a seat whose number, view and hand are known by equations
  pub gives_seat : (tells : View T N → T → W → N → Type 0) (n id id' k free : ℕ) (me : Me (Slot T W) (View T N)) (v : View T N) (x y : T) (w : W) → id' ≡ id → me ≡ (v, (k, Here y) ∷ []) → free ≢ 1 → Holds v k x → weight y ≤ v.permits + held_weight weight v.hold → Gives holds most id v k y (permits_after weight v y) (tells v y w)
      → Allows (Lies weight all most holds) n id' me (k + 2) (λ z. either (eqb z 1) free z) (play_give weight tells (step n (k + 2) 1 free (some (Said w))) me)
  gives_seat tells n id id' k free me v x y w same is unheld hold enough law = subst (λ (m : ℕ × Me (Slot T W) (View T N)). Allows (Lies weight all most holds) n m.0 m.1 (k + 2) (λ z. either (eqb z 1) free z) (play_give weight tells (step n (k + 2) 1 free (some (Said w))) m.1))
      (λ i. (sym same i, sym is i)) (gives_slot tells n id k free v x y w unheld hold enough law)
