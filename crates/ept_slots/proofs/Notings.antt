-- The steps that change no slot: `note`, `look`, `draw`, `split` and `join`.
use Rattle.std.proofs.Common.{◌≡◌, ℕ, eqb, ◌+◌, ◌-◌, ◌/◌, ◌%◌, ◌^◌, ◌<◌, ◌≤◌, List, [], ◌∷◌, ◌++◌, length, get_or, set, sym, refl, ap, subst, ◌∙◌, ⊎_elim, arith, length-set, get_or-set_other, get_or-set_same}
use Rattle.std.proofs.Math.Nat.{mod-eq_of_lt}
use Rattle.std.proofs.lemmas.List.{set-get_or}
use Rattle.std.proofs.lemmas.List.Sums.{sum_by_push}
use Rattle.std.proofs.lemmas.Bool.{cases_lt}
use Rattle.std.specs.List.{sum_by}
use Rattle.std.specs.Prelude.{Option}
use mathlib.Core.Option.{none, some}
use prog.Atomic.{either}
use Rattle.atomic_table.specs.Table.{State, Me, step, keeps, Allows, Splits, Joins}
use Rattle.atomic_table.proofs.Lists.{set_else, exchanged}
use Rattle.ept_slots.specs.declared.slot.Slot.{Slot}
use Rattle.ept_slots.specs.declared.slot.Slot.TheVariants.{Said}
use Rattle.ept_slots.specs.declared.view.View.{View}
use Rattle.ept_slots.specs.Views.{At, Holds, HoldsNothing, whole, parts_of, refused_of, noted, refused, left_of, right_of, both_of, spent_view}
use Rattle.ept_slots.specs.Seats.{Seats, Permits}
use Rattle.ept_slots.specs.Asks.{Notes, Looks, Draws, IsRefused}
use Rattle.ept_slots.specs.Asks as asks
use Rattle.ept_slots.specs.Locks.{drawn_of, free_of, Lies}
use Rattle.ept_slots.specs.Plays.{play_note, play_look, play_draw}
use Rattle.ept_slots.proofs.Sums.{sum-put, sum-le}
use Rattle.ept_slots.proofs.Holders.{mirrors-put, mirrors-last, mirrors-both, each-put, each-last}
use Rattle.ept_slots.proofs.Keeping.{IsFair, fair, reseat, reseat-noted, relock}
use Rattle.ept_slots.proofs.Permitting.{free-stays-drawn, unmoved, permits-split, permits-joined}
use Rattle.ept_slots.proofs.Hands.{told-said}
use Rattle.ept_slots.proofs.Takings.{Goes}

module _ {T N : Type 0} (most : ℕ) where
  drawn-seats : (drawn : ℕ) (items : List T) (views : List (View T N)) (id : ℕ) (v : View T N) (n : N) → Seats most drawn items views → At views id v → drawn < most → Seats most (drawn + 1) items (set views id (noted v n))
  drawn-seats drawn items views id v n s at less = let w : View T N = noted v n in let sp : sum_by parts_of (set views id w) + v.parts ≡ sum_by parts_of views + v.parts = sum-put parts_of views id v w at in
      let all : sum_by parts_of views ≡ whole = s.shared in let each = fair most drawn items views s in let mine = each id v at in
      reseat most drawn (drawn + 1) items views (set views id w) s (mirrors-put views id v w at refl) (omega arith)
      (each-put (IsFair most (drawn + 1)) views id w (λ j u e. let f = each j u e in record { idle = f.idle; seldom = f.seldom; overdrawn = λ o. let h = f.overdrawn o in omega arith })
      record { idle = mine.idle; seldom = mine.seldom; overdrawn = λ o. let h = mine.overdrawn o in omega arith }) (omega arith)

  refused-seats : (drawn : ℕ) (items : List T) (views : List (View T N)) (id : ℕ) (v : View T N) (n : N) → Seats most drawn items views → At views id v → most ≤ drawn → v.refused < v.parts → Seats most (drawn + 1) items (set views id (refused v n))
  refused-seats drawn items views id v n s at full share = let w : View T N = refused v n in let sp : sum_by parts_of (set views id w) + v.parts ≡ sum_by parts_of views + v.parts = sum-put parts_of views id v w at in
      let sr : sum_by refused_of (set views id w) + v.refused ≡ sum_by refused_of views + (v.refused + 1) = sum-put refused_of views id v w at in
      let all : sum_by parts_of views ≡ whole = s.shared in let few : drawn ≤ most + sum_by refused_of views = s.counted in let each = fair most drawn items views s in let mine = each id v at in
      reseat most drawn (drawn + 1) items views (set views id w) s (mirrors-put views id v w at refl) (omega arith)
      (each-put (IsFair most (drawn + 1)) views id w (λ j u e. let f = each j u e in record { idle = f.idle; seldom = f.seldom; overdrawn = λ o. omega arith })
      record { idle = mine.idle; seldom = omega arith; overdrawn = λ o. omega arith }) (omega arith)

  over : (drawn : ℕ) (v w : View T N) → IsFair most drawn v → IsFair most drawn w → 0 < v.refused + w.refused → most < drawn
  over drawn v w f g h = ⊎_elim (λ p. f.overdrawn p) (λ p. g.overdrawn (omega arith)) (cases_lt 0 v.refused)

module _ {T N W : Type 0} (weight : T → ℕ) (all most : ℕ) (holds : ℕ → List T → List (View T N) → Type 0) where
  -- one note changes, and no word
  renoted : (s : State (Slot T W) (View T N)) (r : Lies weight all most holds s) (i y id : ℕ) (v : View T N) (n : N) → At s.views id v → y ≡ get_or s.words i 0 → holds (drawn_of s.words) r.items (set s.views id (noted v n))
      → Lies weight all most holds (record { words = set s.words i y; homes = s.homes; views = set s.views id (noted v n) })
  renoted s r i y id v n at is kept = let w : View T N = noted v n in
      let same : Lies weight all most holds (record { words = s.words; homes = s.homes; views = set s.views id w }) = record {
        items = r.items;
        small = r.small;
        few = r.few;
        locks = relock s.words s.words s.homes r.items s.views (set s.views id w) r.locks refl (λ _. refl) (mirrors-put s.views id v w at refl);
        seats = reseat-noted most (drawn_of s.words) r.items s.views id v w r.seats at refl refl refl;
        permits = unmoved weight all (free_of s.words) r.items s.views id v w r.permits at refl refl;
        kept = kept;
      } in subst (λ (z : List ℕ). Lies weight all most holds (record { words = z; homes = s.homes; views = set s.views id w })) (sym (ap (λ (a : ℕ). set s.words i a) is ∙ set-get_or s.words i 0)) same

  pub notes_seat : (tells : View T N → W → N → Type 0) (n id k : ℕ) (me : Me (Slot T W) (View T N)) (x : T) (w : W) → Holds me.0 k x → Notes holds most id me.0 (tells me.0 w)
      → Allows (Lies weight all most holds) n id me (k + 2) (λ y. either (eqb y 1) 1 y) (play_note tells (step n (k + 2) 1 1 (some (Said w))) me)
  notes_seat tells n id k me x w held law s r wide at _ = let y : ℕ = get_or s.words (k + 2) 0 in let one : y ≡ 1 = r.locks.marked id k me.0 x at held in let o = law (drawn_of s.words) r.items s.views r.seats r.kept at in
      exchanged y 1 1 (Goes weight all most holds s (k + 2) id me (play_note tells (step n (k + 2) 1 1 (some (Said w))) me y))
      (λ hit. (
        noted me.0 o.0,
        keeps,
        tt,
        renoted s r (k + 2) 1 id me.0 o.0 at (sym hit) o.1,
        (λ w' said. (o.0, refl, subst (λ (z : W). tells me.0 z o.0) (told-said _ w w' refl said) o.2)),
      ))
      (λ miss. absurd (miss one))

  pub looks_seat : (tells : View T N → ℕ → N → Type 0) (n id : ℕ) (me : Me (Slot T W) (View T N)) → Looks holds most id me.0 (tells me.0)
      → Allows (Lies weight all most holds) n id me 0 (λ y. y) (play_look tells (step n 0 0 0 none) me)
  looks_seat tells n id me law s r wide at _ = let o = law (drawn_of s.words) r.items s.views r.seats r.kept at in (
    noted me.0 o.0,
    keeps,
    tt,
    renoted s r 0 (get_or s.words 0 0) id me.0 o.0 at refl o.1,
    (o.0, refl, o.2),
  )

  counter-set : (s : State (Slot T W) (View T N)) (r : Lies weight all most holds s) (a : ℕ) → drawn_of (set s.words 0 a) ≡ a
  counter-set s r a = let wide : length s.words ≡ length r.items + 2 = r.locks.wide in get_or-set_same s.words 0 a 0 (omega arith)

  -- the counter goes up by one
  drew : (s : State (Slot T W) (View T N)) (r : Lies weight all most holds s) (id : ℕ) (v w : View T N) → At s.views id v → w.hold ≡ v.hold → w.permits ≡ v.permits → w.parts ≡ v.parts → Seats most (drawn_of s.words + 1) r.items (set s.views id w) → holds (drawn_of s.words + 1) r.items (set s.views id w)
      → Lies weight all most holds (record { words = set s.words 0 (drawn_of s.words + 1); homes = s.homes; views = set s.views id w })
  drew s r id v w at same permits parts seats kept = let y : ℕ = drawn_of s.words + 1 in let is = sym (counter-set s r y) in record {
    items = r.items;
    small = r.small;
    few = r.few;
    locks = relock s.words (set s.words 0 y) s.homes r.items s.views (set s.views id w) r.locks (length-set s.words 0 y) (λ k. get_or-set_other s.words 0 (k + 2) y 0 (λ e. omega arith)) (mirrors-put s.views id v w at same);
    seats = subst (λ (z : ℕ). Seats most z r.items (set s.views id w)) is seats;
    permits = subst (λ (z : ℕ). Permits weight all z r.items (set s.views id w)) (sym (free-stays-drawn s.words y)) (unmoved weight all (free_of s.words) r.items s.views id v w r.permits at permits parts);
    kept = subst (λ (z : ℕ). holds z r.items (set s.views id w)) is kept;
  }

  -- the counter is far from its end
  low : (s : State (Slot T W) (View T N)) (r : Lies weight all most holds s) → drawn_of s.words + 1 < 2 ^ 64
  low s r = let all : sum_by parts_of s.views ≡ whole = r.seats.shared in let few : drawn_of s.words ≤ most + sum_by refused_of s.views = r.seats.counted in let small : most < whole = r.small in
      let le : sum_by refused_of s.views ≤ sum_by parts_of s.views = sum-le refused_of parts_of s.views (λ i v e. r.seats.seldom i v e) in omega arith

  pub draws_seat : (tells : View T N → Option ℕ → N → Type 0) (n id : ℕ) (me : Me (Slot T W) (View T N)) → me.0.most ≡ most → me.0.refused < me.0.parts → Draws holds most id me.0 (tells me.0) → IsRefused holds most id me.0 (tells me.0)
      → Allows (Lies weight all most holds) n id me 0 (λ y. (y + 1) % 2 ^ 64) (play_draw tells (step n 0 1 0 none) me)
  draws_seat tells n id me limit share draws refuses s r wide at _ = let y : ℕ = get_or s.words 0 0 in let then : ℕ → Type 0 = Goes weight all most holds s 0 id me (play_draw tells (step n 0 1 0 none) me y) in
      let small : y + 1 < 2 ^ 64 = low s r in
      subst then (sym (mod-eq_of_lt small)) (⊎_elim
      (λ less. let o = draws y r.items s.views r.seats r.kept at less in (
        noted me.0 o.0,
        keeps,
        tt,
        drew s r id me.0 (noted me.0 o.0) at refl refl refl (drawn-seats most y r.items s.views id me.0 o.0 r.seats at less) o.1,
        (o.0, (λ _. (refl, o.2)), λ above. absurd (omega arith)),
      ))
      (λ above. let o = refuses y r.items s.views r.seats r.kept at above in (
        refused me.0 o.0,
        keeps,
        tt,
        drew s r id me.0 (refused me.0 o.0) at refl refl refl (refused-seats most y r.items s.views id me.0 o.0 r.seats at above share) o.1,
        (o.0, (λ less. absurd (omega arith)), λ _. (refl, o.2)),
      )) (cases_lt y most))

  pub splits_seat : (id : ℕ) (v : View T N) (left right : N) → 1 < v.parts → v.refused ≡ 0 → asks.Splits holds most id v left right → Splits (Lies {W = W} weight all most holds) id v (left_of v left) (right_of v right)
  splits_seat id v left right some_parts unrefused law s r at = let a : View T N = left_of v left in let b : View T N = right_of v right in let mid : List (View T N) = set s.views id a in let drawn : ℕ = drawn_of s.words in
      let same = mirrors-both s.views mid (mid ++ b ∷ []) (mirrors-put s.views id v a at refl) (mirrors-last mid b refl) in let each = fair most drawn r.items s.views r.seats in let mine = each id v at in
      let p1 : sum_by parts_of mid + v.parts ≡ sum_by parts_of s.views + (v.parts - v.parts / 2) = sum-put parts_of s.views id v a at in let p2 : sum_by parts_of (mid ++ b ∷ []) ≡ sum_by parts_of mid + v.parts / 2 = sum_by_push parts_of mid b in
      let q1 : sum_by refused_of mid + v.refused ≡ sum_by refused_of s.views + v.refused = sum-put refused_of s.views id v a at in let q2 : sum_by refused_of (mid ++ b ∷ []) ≡ sum_by refused_of mid + 0 = sum_by_push refused_of mid b in
      let every : sum_by parts_of s.views ≡ whole = r.seats.shared in let few : drawn ≤ most + sum_by refused_of s.views = r.seats.counted in record {
        items = r.items;
        small = r.small;
        few = r.few;
        locks = relock s.words s.words s.homes r.items s.views (mid ++ b ∷ []) r.locks refl (λ _. refl) same;
        seats = reseat most drawn drawn r.items s.views (mid ++ b ∷ []) r.seats same (omega arith)
            (each-last (IsFair most drawn) mid b (each-put (IsFair most drawn) s.views id a each record { idle = λ e. absurd (omega arith); seldom = omega arith; overdrawn = mine.overdrawn })
            record { idle = λ _. refl; seldom = omega arith; overdrawn = λ e. absurd (omega arith) }) (omega arith);
        permits = permits-split weight all (free_of s.words) r.items s.views id v left right r.permits at some_parts;
        kept = law drawn r.items s.views r.seats r.kept at;
      }

  pub joins_seat : (id j : ℕ) (v w : View T N) (both spent : N) → HoldsNothing w → asks.Joins holds most id v j w both spent → Joins (Lies {W = W} weight all most holds) id v j w (both_of v w both) (spent_view spent)
  joins_seat id j v w both spent idle law s r at apart there = let a : View T N = both_of v w both in let b : View T N = spent_view spent in let mid : List (View T N) = set s.views id a in let drawn : ℕ = drawn_of s.words in
      let other : At s.views j w = sym (set_else s.views id j a apart) ∙ there in
      let same = mirrors-both s.views mid (set mid j b) (mirrors-put s.views id v a at refl) (mirrors-put mid j w b there (sym idle)) in let each = fair most drawn r.items s.views r.seats in let mine = each id v at in let its = each j w other in
      let p1 : sum_by parts_of mid + v.parts ≡ sum_by parts_of s.views + (v.parts + w.parts) = sum-put parts_of s.views id v a at in let p2 : sum_by parts_of (set mid j b) + w.parts ≡ sum_by parts_of mid + 0 = sum-put parts_of mid j w b there in
      let q1 : sum_by refused_of mid + v.refused ≡ sum_by refused_of s.views + (v.refused + w.refused) = sum-put refused_of s.views id v a at in let q2 : sum_by refused_of (set mid j b) + w.refused ≡ sum_by refused_of mid + 0 = sum-put refused_of mid j w b there in
      let every : sum_by parts_of s.views ≡ whole = r.seats.shared in let few : drawn ≤ most + sum_by refused_of s.views = r.seats.counted in record {
        items = r.items;
        small = r.small;
        few = r.few;
        locks = relock s.words s.words s.homes r.items s.views (set mid j b) r.locks refl (λ _. refl) same;
        seats = reseat most drawn drawn r.items s.views (set mid j b) r.seats same (omega arith)
            (each-put (IsFair most drawn) mid j b (each-put (IsFair most drawn) s.views id a each record { idle = λ e. mine.idle (omega arith); seldom = (let x : v.refused ≤ v.parts = mine.seldom in let y : w.refused ≤ w.parts = its.seldom in omega arith); overdrawn = λ e. over most drawn v w mine its e })
            record { idle = λ _. refl; seldom = omega arith; overdrawn = λ e. absurd (omega arith) }) (omega arith);
        permits = permits-joined weight all (free_of s.words) r.items s.views id j v w both spent r.permits at other there;
        kept = law drawn r.items s.views r.seats r.kept at other apart;
      }
