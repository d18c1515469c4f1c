-- Workers that were forked, and their seats joined.
use Rattle.std.proofs.Common.{◌≡◌, ◌∙◌, ℕ, ◌+◌, ◌-◌, ◌/◌, ◌<◌, ◌≤◌, Bool, true, false, ◌||◌, inl, inr, List, ◌++◌, refl, sym, ap, subst, arith, Result, Ok, Err, IfErr, OnOk, Option}
use Rattle.std.proofs.lemmas.List.{append-nil}
use Rattle.ept_node.specs.declared.error.NodeError.TheVariants as node
use Rattle.ept_scan.specs.declared.read_error.ReadError.{ReadError}
use Rattle.ept_scan.specs.declared.read_error.ReadError.TheVariants as read
use Rattle.ept_sample.proofs.Members.{IsMember-left, IsMember-right}
use Rattle.ept_sample.proofs.Choices.{or_left, or_right}
use Rattle.ept_core.specs.declared.flight.Flight.{Flight}
use Rattle.ept_table.specs.declared.note.Told.{Told}
use Rattle.ept_slots.specs.Seating.{SlotSeat, view}
use Rattle.ept_slots.specs.Views.{left_of, right_of}
use Rattle.ept_slots.specs.declared.view.View as slots
use Rattle.ept_table.specs.declared.done.Said.{Said}
use Rattle.ept_table.specs.declared.item.Item.{Item}
use Rattle.ept_table.specs.declared.note.Note.{Note}
use Rattle.ept_table.specs.declared.table.NodeTable.{NodeTable}
use Rattle.ept_table.specs.Standing.{known}
use Rattle.ept_table.specs.Table.{IsSeat}
use Rattle.ept_table.specs.Steps.{with_parts, new_seat, joined, beginning}
use Rattle.ept_table.specs.View.{View}
use Rattle.ept_work.specs.declared.error.WorkError.{WorkError}
use Rattle.ept_work.specs.declared.error.WorkError.TheVariants.{SourceFault, SourceChanged, TooManyNodes, SpillFault, SpillDamaged, Memory}
use Rattle.ept_work.specs.Rest.{IsAtRest}
use Rattle.ept_work.specs.declared.inserting.Ended.{Ended}
use Rattle.ept_work.specs.Crews.{MayWork, HaveWorked}
use Rattle.ept_work.specs.Working.{Keeps, HasWorked, HasEnded, IsCause, first_refusal}

abbrev SeatOf : Type 0 → Type 0 → Type 0
SeatOf F S = SlotSeat (Item F S) Note Said

-- ---- a seat is divided

pub left-rest : (told : Told) (v one : View) (n : ℕ) → IsAtRest told v → one ≡ with_parts v n → 0 < n → IsAtRest told one
left-rest told v one n rest is some = subst (λ (u : View). IsAtRest told u) (sym is) (record {
  idle = record { share = some; free = rest.idle.free; undrawn = rest.idle.undrawn };
  unrefused = rest.unrefused;
  within = rest.within;
})

pub right-rest : (told : Told) (v one : View) (n : ℕ) → one ≡ new_seat v n → 0 < n → IsAtRest told one
right-rest told v one n is some = subst (λ (u : View). IsAtRest told u) (sym is) (record {
  idle = record { share = some; free = refl; undrawn = refl };
  unrefused = refl;
  within = λ c m. absurd m;
})

or_none : (b : Bool) → (b || false) ≡ b
or_none true = refl
or_none false = refl

-- ---- and joined again

module _ (told : Told) (v left right low high w : View) (n m : ℕ) (halves : n + m ≡ v.parts)
    (left_is : left ≡ with_parts v n) (right_is : right ≡ new_seat v m)
    (low_ends : HasEnded left low) (high_ends : HasEnded right high) (after : w ≡ joined low high) where
  parts_are : low.parts + high.parts ≡ v.parts
  parts_are = omega (arith, low_ends.parts, high_ends.parts, ap (λ (u : View). u.parts) left_is, ap (λ (u : View). u.parts) right_is, halves)

  pub both-ended : HasEnded v w
  both-ended = subst (λ (u : View). HasEnded v u) (sym after) (record {
    idle = record { share = omega (arith, low_ends.idle.share); free = low_ends.idle.free; undrawn = low_ends.idle.undrawn };
    landed = low_ends.landed;
    parts = parts_are;
  })

  module _ (one : HasWorked told left low) (two : HasWorked told right high) where
    refused_are : low.refused + high.refused ≡ v.refused
    refused_are = omega (arith, one.keeps.refused, two.keeps.refused, ap (λ (u : View). u.refused) left_is, ap (λ (u : View). u.refused) right_is)

    keeps : Keeps v (joined low high)
    keeps = record {
      parts = parts_are;
      refused = refused_are;
      gone = ap (λ (fs : List Flight). fs ++ high.note.gone) (one.keeps.gone ∙ ap (λ (u : View). u.note.gone) left_is)
          ∙ (ap (λ (fs : List Flight). v.note.gone ++ fs) (two.keeps.gone ∙ ap (λ (u : View). u.note.gone) right_is) ∙ append-nil v.note.gone);
      over = ap (λ (b : Bool). b || high.note.over) (one.keeps.over ∙ ap (λ (u : View). u.note.over) left_is)
          ∙ (ap (λ (b : Bool). v.note.over || b) (two.keeps.over ∙ ap (λ (u : View). u.note.over) right_is) ∙ or_none v.note.over);
      failures = ap (λ (es : List ReadError). es ++ high.note.failures) (one.keeps.failures ∙ ap (λ (u : View). u.note.failures) left_is)
          ∙ (ap (λ (es : List ReadError). v.note.failures ++ es) (two.keeps.failures ∙ ap (λ (u : View). u.note.failures) right_is) ∙ append-nil v.note.failures);
    }

    both_worked : HasWorked told v w
    both_worked = subst (λ (u : View). HasWorked told v u) (sym after) (record { keeps = keeps; all = one.all })

  pub both-ok : (a b : Result (Unit {0}) WorkError) → OnOk a (HasWorked told left low) → OnOk b (HasWorked told right high) → OnOk (first_refusal a b) (HasWorked told v w)
  both-ok (Ok u) (Ok t) one two = both_worked one two
  both-ok (Ok u) (Err e) one two = tt
  both-ok (Err e) b one two = tt

  cause_low : (e : WorkError) → IsCause told low e → IsCause told (joined low high) e
  cause_low SourceFault is = IsMember-left read.SourceFault low.note.failures high.note.failures is
  cause_low (SourceChanged s k) is = IsMember-left (read.SourceChanged s k) low.note.failures high.note.failures is
  cause_low TooManyNodes (inl more, too) = (inl (omega (arith, more)), too)
  cause_low TooManyNodes (inr over, too) = (inr (or_left low.note.over high.note.over over), too)
  cause_low SpillFault is = IsMember-left node.SpillFault low.note.broken high.note.broken is
  cause_low (SpillDamaged kept found at) is = IsMember-left (node.SpillDamaged kept found at) low.note.broken high.note.broken is
  cause_low Memory is = tt

  cause_high : (e : WorkError) → IsCause told high e → IsCause told (joined low high) e
  cause_high SourceFault is = IsMember-right read.SourceFault low.note.failures high.note.failures is
  cause_high (SourceChanged s k) is = IsMember-right (read.SourceChanged s k) low.note.failures high.note.failures is
  cause_high TooManyNodes (inl more, too) = (inl (omega (arith, more)), too)
  cause_high TooManyNodes (inr over, too) = (inr (or_right low.note.over high.note.over over), too)
  cause_high SpillFault is = IsMember-right node.SpillFault low.note.broken high.note.broken is
  cause_high (SpillDamaged kept found at) is = IsMember-right (node.SpillDamaged kept found at) low.note.broken high.note.broken is
  cause_high Memory is = tt

  pub both-refused : (a b : Result (Unit {0}) WorkError) → IfErr a (λ e. IsCause told low e) → IfErr b (λ e. IsCause told high e) → IfErr (first_refusal a b) (λ e. IsCause told w e)
  both-refused (Ok u) (Ok t) one two = tt
  both-refused (Ok u) (Err e) one two = subst (λ (z : View). IsCause told z e) (sym after) (cause_high e two)
  both-refused (Err e) b one two = subst (λ (z : View). IsCause told z e) (sym after) (cause_low e one)

-- ---- the seats of a table

module _ {F S J : Type 0} (held : F → Option (List ℕ)) (told : Told) (whole : S → Option (List ℕ)) (table : NodeTable F S J) (seat : SeatOf F S) (first workers : ℕ) (may : MayWork held told whole table seat first workers) (many : workers ≡ 1 → ⊥) where
  abbrev lower : ℕ
  lower = workers - workers / 2

  abbrev higher : ℕ
  higher = workers / 2

  left_share : lower ≤ (view seat).parts - (view seat).parts / 2
  left_share = omega (arith, may.share)

  right_share : higher ≤ (view seat).parts / 2
  right_share = omega (arith, may.share)

  two : 1 ≤ higher
  two = omega (arith, may.some, many)

  pub may-low : (low : SeatOf F S) → IsSeat told table low → view low ≡ left_of (view seat) (view seat).note → MayWork held told whole table low first lower
  may-low low is_seat is = record {
    is_seat = is_seat;
    rest = left-rest told (known held whole (view seat)) (known held whole (view low)) ((view seat).parts - (view seat).parts / 2) may.rest (ap (λ (u : slots.View (Item F S) Note). known held whole u) is) (omega (arith, left_share, two));
    empty = ap (λ (u : slots.View (Item F S) Note). u.note.flights) is ∙ may.empty;
    slots = may.slots;
    rules = may.rules;
    some = omega (arith, two);
    share = omega (arith, left_share, ap (λ (u : slots.View (Item F S) Note). u.parts) is);
    numbers = omega (arith, may.numbers);
  }

  pub may-high : (high : SeatOf F S) → IsSeat told table high → view high ≡ right_of (view seat) (beginning (view seat).note) → MayWork held told whole table high (first + lower) higher
  may-high high is_seat is = record {
    is_seat = is_seat;
    rest = right-rest told (known held whole (view seat)) (known held whole (view high)) ((view seat).parts / 2) (ap (λ (u : slots.View (Item F S) Note). known held whole u) is) (omega (arith, right_share, two));
    empty = ap (λ (u : slots.View (Item F S) Note). u.note.flights) is;
    slots = may.slots;
    rules = may.rules;
    some = two;
    share = omega (arith, right_share, ap (λ (u : slots.View (Item F S) Note). u.parts) is);
    numbers = omega (arith, may.numbers);
  }

  pub forked : (low high : SeatOf F S) (one two_of both : Ended F S) → view low ≡ left_of (view seat) (view seat).note → view high ≡ right_of (view seat) (beginning (view seat).note) → HaveWorked held told whole table low one → HaveWorked held told whole table high two_of → IsSeat told table both.seat → known held whole (view both.seat) ≡ joined (known held whole (view one.seat)) (known held whole (view two_of.seat)) → both.result ≡ first_refusal one.result two_of.result → HaveWorked held told whole table seat both
  forked low high one two_of both low_is high_is a b is_seat joins answer =
      let v : View = known held whole (view seat) in
      let left : View = known held whole (view low) in
      let right : View = known held whole (view high) in
      let w1 : View = known held whole (view one.seat) in
      let w2 : View = known held whole (view two_of.seat) in
      let w : View = known held whole (view both.seat) in
      let n : ℕ = (view seat).parts - (view seat).parts / 2 in
      let m : ℕ = (view seat).parts / 2 in
      let halves : n + m ≡ (view seat).parts = omega arith in
      let left_is : left ≡ with_parts v n = ap (λ (u : slots.View (Item F S) Note). known held whole u) low_is in
      let right_is : right ≡ new_seat v m = ap (λ (u : slots.View (Item F S) Note). known held whole u) high_is in
      record {
        is_seat = is_seat;
        ends = both-ended told v left right w1 w2 w n m halves left_is right_is a.ends b.ends joins;
        ok = subst (λ (r : Result (Unit {0}) WorkError). OnOk r (HasWorked told v w)) (sym answer) (both-ok told v left right w1 w2 w n m halves left_is right_is a.ends b.ends joins one.result two_of.result a.ok b.ok);
        refused = subst (λ (r : Result (Unit {0}) WorkError). IfErr r (λ e. IsCause told w e)) (sym answer) (both-refused told v left right w1 w2 w n m halves left_is right_is a.ends b.ends joins one.result two_of.result a.refused b.refused);
      }
