-- Steps that change nothing in the slots.
use Rattle.std.proofs.Common.{◌≡◌, ℕ, ◌<◌, ◌==◌, true, inl, inr, List, [], set, refl, sym, subst, arith, Option, Some, None}
use Rattle.std.proofs.lemmas.Bool.{eqb-true}
use Rattle.std.proofs.lemmas.List.Sorted.{IsPermutation-refl}
use Rattle.ept_sample.specs.Members.{IsMember}
use Rattle.ept_sample.proofs.Members.{member-any}
use Rattle.ept_sample.proofs.Choices.{or_cases, or_left}
use Rattle.ept_node.specs.declared.error.NodeError.{NodeError}
use Rattle.ept_table.specs.declared.note.Told.{Told}
use Rattle.ept_table.specs.declared.note.Carried.{Carried}
use Rattle.ept_table.specs.declared.taken.Taken.{Taken}
use Rattle.ept_table.specs.At.{At}
use Rattle.ept_table.specs.View.{View, flights_of}
use Rattle.ept_table.specs.Shown.{IsOver, KeyOf, HasSlot, Holds}
use Rattle.ept_table.specs.Steps.{holding, given_back, noting, wishing, noting_broken, abandoned, lacks_slot, StaysAlike}
use Rattle.ept_table.proofs.Lists.{set-again}
use Rattle.ept_table.proofs.Coming.{alike-keeps}
use Rattle.ept_table.proofs.Alike.{FlyAlike, permuted-alike}
use Rattle.ept_table.proofs.Mirrors.{itself, alike-holds}

pub lacks-one : (flights : List Carried) → lacks_slot flights ≡ true → (c : Carried) × IsMember c flights × (c.slot ≡ 0)
lacks-one flights lacks =
    let c = member-any (λ (c : Carried). c.slot == 0) flights lacks in (c.0, c.1, eqb-true c.0.slot 0 c.2)

pub same-flights : (v : View) → FlyAlike (flights_of v) (flights_of v)
same-flights v = permuted-alike (flights_of v) (flights_of v) (IsPermutation-refl (flights_of v))

module _ (told : Told) (drawn : ℕ) (items : List Taken) (views : List View) (i : ℕ) (v : View) (h : Holds told drawn items views) (at : At views i v) where
  -- ---- a slot is taken

  pub take-keeps : (k : ℕ) (x : Taken) → v.hold ≡ None → Holds told drawn items (set views i (holding v k x))
  take-keeps k x free = alike-holds told drawn items views i v (holding v k x) at (record {
    knows = h.seats.knows i v at;
    idle = λ e. h.seats.idle i v at free;
    spent = h.seats.spent i v at;
    full = h.seats.full_above i v at;
    given = omega arith;
    failures = refl;
    flights = same-flights v;
    carried = itself v;
    draws = inl (h.seats.idle i v at free, h.seats.idle i v at free);
  }) (λ n. n) h

  -- ---- what is held is returned as it was taken, or its node after a move to or from its file

  returned : v.note.draws ≡ [] → Holds told drawn items (set views i (given_back v v.note))
  returned none = alike-holds told drawn items views i v (given_back v v.note) at (record {
    knows = h.seats.knows i v at;
    idle = λ e. none;
    spent = h.seats.spent i v at;
    full = h.seats.full_above i v at;
    given = omega arith;
    failures = refl;
    flights = same-flights v;
    carried = itself v;
    draws = inl (none, none);
  }) (λ n. n) h

  pub return-keeps : (k : ℕ) (x y : Taken) → At items k x → StaysAlike told x y → v.note.draws ≡ [] → Holds told drawn (set items k y) (set views i (given_back v v.note))
  return-keeps k x y there stays none =
      alike-keeps told drawn items (set views i (given_back v v.note)) (returned none) k x y there stays

  -- ---- an octant is noted

  pub wish-keeps : (o : ℕ) → Holds told drawn items (set views i (noting v (wishing v.note o)))
  wish-keeps o = alike-holds told drawn items views i v (noting v (wishing v.note o)) at (record {
    knows = h.seats.knows i v at;
    idle = h.seats.idle i v at;
    spent = h.seats.spent i v at;
    full = h.seats.full_above i v at;
    given = omega arith;
    failures = refl;
    flights = same-flights v;
    carried = itself v;
    draws = inr (refl, refl, refl);
  }) (λ n. n) h

  -- ---- the refusal of a node is noted

  pub broken-keeps : (fault : Option NodeError) → Holds told drawn items (set views i (noting v (noting_broken fault v.note)))
  broken-keeps None = subst (λ (vs : List View). Holds told drawn items vs) (sym (set-again at)) h
  broken-keeps (Some why) = alike-holds told drawn items views i v (noting v (noting_broken (Some why) v.note)) at (record {
    knows = h.seats.knows i v at;
    idle = h.seats.idle i v at;
    spent = h.seats.spent i v at;
    full = h.seats.full_above i v at;
    given = omega arith;
    failures = refl;
    flights = same-flights v;
    carried = itself v;
    draws = inr (refl, refl, refl);
  }) (λ n. n) h

  -- ---- flights are abandoned

  none_keyed : (slot : ℕ) (c : Carried) → slot ≡ 0 → HasSlot told drawn h.keys slot c.flight.key → IsOver told drawn
  unfolding KeyOf
  none_keyed slot c zero (inl over) = over.1
  none_keyed slot c zero (inr key) =
      let nowhere : KeyOf h.keys 0 c.flight.key = subst (λ (n : ℕ). KeyOf h.keys n c.flight.key) zero key in absurd nowhere

  lacks_over : lacks_slot v.note.flights ≡ true → IsOver told drawn
  lacks_over lacks =
      let c = lacks-one v.note.flights lacks in none_keyed c.0.slot c.0 c.2 (h.tree.carried i v c.0 at c.1)

  pub abandon-keeps : 0 < v.parts → v.hold ≡ None → Holds told drawn items (set views i (noting v (abandoned v.note)))
  abandon-keeps some free = alike-holds told drawn items views i v (noting v (abandoned v.note)) at (record {
    knows = h.seats.knows i v at;
    idle = h.seats.idle i v at;
    spent = λ e. absurd (omega (arith, e, some));
    full = λ n. elim n [
      | inl more ↦ h.seats.full_above i v at (inl more)
      | inr over ↦ elim (or_cases v.note.over (lacks_slot v.note.flights) over) [
        | inl was ↦ h.seats.full_above i v at (inr was)
        | inr lacks ↦ lacks_over lacks
      ]
    ];
    given = omega arith;
    failures = refl;
    flights = same-flights v;
    carried = λ c n. absurd n;
    draws = inl (h.seats.idle i v at free, h.seats.idle i v at free);
  }) (λ n. elim n [ inl more ↦ inl more | inr over ↦ inr (or_left v.note.over (lacks_slot v.note.flights) over) ]) h
