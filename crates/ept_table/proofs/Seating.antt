-- Seats that are made of seats, and that end in seats.
use Rattle.std.proofs.Common.{◌≡◌, ◌∙◌, ℕ, ◌<◌, ◌≤◌, ◌⊎◌, inl, inr, List, [], ◌∷◌, ◌++◌, map, set, refl, sym, ap, subst, arith, Some, None}
use Rattle.std.specs.List.Sorted.{IsPermutation}
use Rattle.std.proofs.lemmas.List.{append-nil, append_assoc}
use Rattle.std.proofs.lemmas.Bool.{false≢true}
use Rattle.std.proofs.lemmas.List.Concat.{flat_map-append}
use Rattle.std.proofs.lemmas.List.Sorted.{IsPermutation-refl, IsPermutation-sym, IsPermutation-trans, IsPermutation-append_right}
use Rattle.ept_scan.specs.declared.read_error.ReadError.{ReadError}
use Rattle.ept_sample.specs.Members.{IsMember}
use Rattle.ept_sample.proofs.Members.{IsMember-left, IsMember-right, IsMember-append}
use Rattle.ept_sample.proofs.Choices.{or_cases, or_left, or_right}
use Rattle.ept_core.specs.declared.flight.Flight.{Flight}
use Rattle.ept_table.specs.declared.note.Told.{Told}
use Rattle.ept_table.specs.declared.note.Carried.{Carried}
use Rattle.ept_table.specs.declared.note.Draw.{Draw}
use Rattle.ept_table.specs.declared.taken.Taken.{Taken}
use Rattle.ept_table.specs.At.{At}
use Rattle.ept_table.specs.View.{View, NotesFull, IsNothing, flights_of, all_flights}
use Rattle.ept_table.specs.Shown.{IsOver, Drew, Holds}
use Rattle.ept_table.specs.Steps.{with_parts, new_seat, joined, IsSpent}
use Rattle.ept_table.proofs.Lists.{same_or_not, at-same, at-below, at-set, at-other, set-at, at-left, end-at, flat-out, set-set, set-apart}
use Rattle.ept_table.proofs.Alike.{permuted-alike}
use Rattle.ept_table.proofs.Mirrors.{Mirrors, CarriesTo, itself, SomeFailure, stays, mirrors-hold, alike-holds, none_of}

-- ---- a seat is divided

module _ (told : Told) (drawn : ℕ) (items : List Taken) (views : List View) (h : Holds told drawn items views) (i : ℕ) (v : View) (at : At views i v) (parts : 0 < v.parts) (n : ℕ) where
  abbrev more : List View
  more = views ++ new_seat v n ∷ []

  each_more : (P : View → Type 0) → P (new_seat v n) → ((j : ℕ) (u : View) → At views j u → P u) → (j : ℕ) (u : View) → At more j u → P u
  each_more P new others j u a =
      elim (end-at views (new_seat v n) a) [ inl o ↦ others j u o | inr s ↦ subst (λ (z : View). P z) s.1 new ]

  grown : all_flights views ≡ all_flights more
  grown =
      sym (append-nil (all_flights views)) ∙ sym (flat_map-append flights_of views (new_seat v n ∷ []))

  not_full : NotesFull (new_seat v n) → ⊥
  not_full (inl some) = omega (arith, some)
  not_full (inr over) = false≢true over

  seat_more : Mirrors told drawn views more
  seat_more = record {
    knows = each_more (λ u. 0 < u.parts → u.note.told ≡ told) (λ some. h.seats.knows i v at parts) h.seats.knows;
    idle = each_more (λ u. u.hold ≡ None → u.note.draws ≡ []) (λ e. refl) h.seats.idle;
    spent = each_more (λ u. u.parts ≡ 0 → IsNothing u) (λ e. (refl, not_full, refl)) h.seats.spent;
    full = each_more (λ u. NotesFull u → IsOver told drawn) (λ f. absurd (not_full f)) h.seats.full_above;
    above_full = λ over. let s = h.seats.above_full over in (s.0, s.1, at-left (new_seat v n ∷ []) s.2, s.3);
    given = each_more (λ u. (u.note.given ≡ 0) ⊎ ((j : ℕ) × (z : View) × At views j z × (u.note.given ≤ z.note.given))) (inl refl) (λ j u a. inr (j, u, a, omega arith));
    failed = λ e (j, u, a, m). (j, u, at-left (new_seat v n ∷ []) a, m);
    noted = λ e (j, u, a, m). each_more (λ u. IsMember e u.note.failures → SomeFailure views e) (λ m. absurd m) (λ j u a m. (j, u, a, m)) j u a m;
    flights = permuted-alike (all_flights views) (all_flights more) (subst (λ (w : List Flight). IsPermutation (all_flights views) w) grown (IsPermutation-refl (all_flights views)));
    carried = λ j u c a m. each_more (λ u. IsMember c u.note.flights → (j : ℕ) × (z : View) × At views j z × CarriesTo z c) (λ m. absurd m) (λ j u a m. (j, u, a, itself u c m)) j u a m;
    drew = λ held x d r. record { seat = r.seat; view = r.view; at = at-left (new_seat v n ∷ []) r.at; hold = r.hold; noted = r.noted };
    draws = λ j u held x d a is m. each_more (λ u. u.hold ≡ Some (held, x) → IsMember d u.note.draws → (k : ℕ) × (z : View) × At views k z × (z.hold ≡ Some (held, x)) × IsMember d z.note.draws × (z.note.flights ≡ u.note.flights)) (λ is m. absurd m) (λ j u a is m. (j, u, a, is, m, refl)) j u a is m;
  }

  seat-more : Holds told drawn items more
  seat-more = mirrors-hold told drawn drawn (stays told drawn items views h) items views more seat_more h

share_less : (told : Told) (drawn : ℕ) (items : List Taken) (views : List View) (i : ℕ) (v : View) → Holds told drawn items views → At views i v → 0 < v.parts → (left : ℕ) → 0 < left → Holds told drawn items (set views i (with_parts v left))
share_less told drawn items views i v h at parts left some = alike-holds told drawn items views i v (with_parts v left) at (record {
  knows = λ some. h.seats.knows i v at parts;
  idle = h.seats.idle i v at;
  spent = λ e. absurd (omega (arith, e, some));
  full = h.seats.full_above i v at;
  given = omega arith;
  failures = refl;
  flights = permuted-alike (flights_of v) (flights_of v) (IsPermutation-refl (flights_of v));
  carried = itself v;
  draws = inr (refl, refl, refl);
}) (λ n. n) h

pub split-keeps : (told : Told) (drawn : ℕ) (items : List Taken) (views : List View) (i : ℕ) (v : View) (left right : ℕ) → Holds told drawn items views → At views i v → 0 < v.parts → 0 < left → Holds told drawn items (set views i (with_parts v left) ++ new_seat v right ∷ [])
split-keeps told drawn items views i v left right h at parts some =
    seat-more told drawn items (set views i (with_parts v left)) (share_less told drawn items views i v h at parts left some) i (with_parts v left) (at-set views i (with_parts v left) (at-below at)) some right

-- ---- a seat ends in another

module _ (told : Told) (drawn : ℕ) (items : List Taken) (views : List View) (h : Holds told drawn items views) (i j : ℕ) (v w spent : View) (at : At views i v) (other : At views j w) (apart : j ≡ i → ⊥) (parts : 0 < v.parts) (free : w.hold ≡ None) (landed : w.note.flights ≡ []) (ended : IsSpent spent) where
  abbrev both : View
  both = joined v w

  abbrev next : List View
  next = set (set views i both) j spent

  both_apart : i ≡ j → ⊥
  both_apart e = apart (sym e)

  other_there : At (set views i both) j w
  other_there = at-other i both other apart

  here : At next i both
  here = at-other j spent (at-set views i both (at-below at)) both_apart

  each : (P : View → Type 0) → P both → P spent → ((k : ℕ) (u : View) → At views k u → P u) → (k : ℕ) (u : View) → At next k u → P u
  each P new end others k u a =
      elim (set-at (set views i both) j spent a) [
        | inl s ↦ subst (λ (z : View). P z) s.1 end
        | inr o ↦ elim (set-at views i both o.1) [
          | inl s ↦ subst (λ (z : View). P z) s.1 new
          | inr p ↦ others k u p.1
        ]
      ]

  kept : (P : View → Type 0) → (P v → P both) → (P w → P both) → ((k : ℕ) × (u : View) × At views k u × P u) → (k : ℕ) × (u : View) × At next k u × P u
  kept P first second (k, u, a, p) =
      elim (same_or_not k i) [
        | inl one ↦ (i, both, here, first (subst (λ (z : View). P z) (at-same (subst (λ (n : ℕ). At views n u) one a) at) p))
        | inr not_one ↦ elim (same_or_not k j) [
          | inl two ↦ (i, both, here, second (subst (λ (z : View). P z) (at-same (subst (λ (n : ℕ). At views n u) two a) other) p))
          | inr not_two ↦ (k, u, at-other j spent (at-other i both a not_one) not_two, p)
        ]
      ]

  no_draws : w.note.draws ≡ []
  no_draws = h.seats.idle j w other free

  ended_full : NotesFull spent → ⊥
  ended_full (inl some) = omega (arith, some, ended.refused)
  ended_full (inr over) = false≢true (sym ended.over ∙ over)

  full_joined : NotesFull both → IsOver told drawn
  full_joined (inl some) =
      elim (same_or_not v.refused 0) [
        | inl none ↦ h.seats.full_above j w other (inl (omega (arith, none, some)))
        | inr more ↦ h.seats.full_above i v at (inl (omega (arith, more)))
      ]
  full_joined (inr over) =
      elim (or_cases v.note.over w.note.over over) [
        | inl first ↦ h.seats.full_above i v at (inr first)
        | inr second ↦ h.seats.full_above j w other (inr second)
      ]

  first_full : NotesFull v → NotesFull both
  first_full (inl some) = inl (omega (arith, some))
  first_full (inr over) = inr (or_left v.note.over w.note.over over)

  second_full : NotesFull w → NotesFull both
  second_full (inl some) = inl (omega (arith, some))
  second_full (inr over) = inr (or_right v.note.over w.note.over over)

  -- ---- its flights

  ended_flights : flights_of spent ≡ []
  ended_flights =
      ap (λ (fs : List Carried). map (λ (c : Carried). c.flight) fs ++ spent.note.gone) ended.flights ∙ ended.gone

  abbrev rest : List Flight
  rest = all_flights (set (set views i spent) j spent)

  rest_is : all_flights (set next i spent) ≡ rest
  rest_is =
      ap all_flights (set-apart (set views i both) j i spent spent both_apart ∙ ap (λ (xs : List View). set xs j spent) (set-set views i both spent))

  joined_flights : flights_of v ++ flights_of w ≡ flights_of both
  joined_flights =
      ap (λ (fs : List Carried). flights_of v ++ (map (λ (c : Carried). c.flight) fs ++ w.note.gone)) landed
      ∙ append_assoc (map (λ (c : Carried). c.flight) v.note.flights) v.note.gone w.note.gone

  joined_all : IsPermutation (all_flights views) (all_flights next)
  joined_all =
      let first : IsPermutation (all_flights views) (flights_of v ++ all_flights (set views i spent)) = flat-out flights_of spent at ended_flights in
      let second : IsPermutation (all_flights (set views i spent)) (flights_of w ++ rest) = flat-out flights_of spent (at-other i spent other apart) ended_flights in
      let back : IsPermutation (all_flights next) (flights_of both ++ all_flights (set next i spent)) = flat-out flights_of spent here ended_flights in
      let last : IsPermutation (all_flights next) (flights_of both ++ rest) = subst (λ (z : List Flight). IsPermutation (all_flights next) (flights_of both ++ z)) rest_is back in
      let whole : IsPermutation (all_flights views) (flights_of v ++ (flights_of w ++ rest)) = IsPermutation-trans (all_flights views) (flights_of v ++ all_flights (set views i spent)) (flights_of v ++ (flights_of w ++ rest)) first (IsPermutation-append_right (flights_of v) (all_flights (set views i spent)) (flights_of w ++ rest) second) in
      let same : flights_of v ++ (flights_of w ++ rest) ≡ flights_of both ++ rest = sym (append_assoc (flights_of v) (flights_of w) rest) ∙ ap (λ (z : List Flight). z ++ rest) joined_flights in
      IsPermutation-trans (all_flights views) (flights_of both ++ rest) (all_flights next) (subst (λ (z : List Flight). IsPermutation (all_flights views) z) same whole) (IsPermutation-sym (all_flights next) (flights_of both ++ rest) last)

  -- ---- the rule

  noted_by : (e : ReadError) → SomeFailure next e → SomeFailure views e
  noted_by e (k, u, a, m) =
      each (λ u. IsMember e u.note.failures → SomeFailure views e) (λ m. elim (IsMember-append e v.note.failures w.note.failures m) [ inl first ↦ (i, v, at, first) | inr second ↦ (j, w, other, second) ]) (λ m. absurd (let n : IsMember e [] = subst (λ (es : List ReadError). IsMember e es) ended.failures m in n)) (λ k u a m. (k, u, a, m)) k u a m

  still_drew : (held : ℕ) (x : Taken) (d : Draw) → Drew views held x d → Drew next held x d
  still_drew held x d r =
      let s = kept (λ (u : View). (u.hold ≡ Some (held, x)) × IsMember d u.note.draws) (λ p. p) (λ p. absurd (none_of d w.note.draws no_draws p.1)) (r.seat, r.view, r.at, (r.hold, r.noted)) in
      record { seat = s.0; view = s.1; at = s.2; hold = s.3.0; noted = s.3.1 }

  had_drawn : (k : ℕ) (u : View) (held : ℕ) (x : Taken) (d : Draw) → At next k u → u.hold ≡ Some (held, x) → IsMember d u.note.draws → (n : ℕ) × (z : View) × At views n z × (z.hold ≡ Some (held, x)) × IsMember d z.note.draws × (z.note.flights ≡ u.note.flights)
  had_drawn k u held x d a is m =
      each (λ u. u.hold ≡ Some (held, x) → IsMember d u.note.draws → (n : ℕ) × (z : View) × At views n z × (z.hold ≡ Some (held, x)) × IsMember d z.note.draws × (z.note.flights ≡ u.note.flights)) (λ is m. (i, v, at, is, m, refl)) (λ is m. absurd (none_of d spent.note.draws ended.draws m)) (λ k u a is m. (k, u, a, is, m, refl)) k u a is m

  seats_join : Mirrors told drawn views next
  seats_join = record {
    knows = each (λ u. 0 < u.parts → u.note.told ≡ told) (λ some. h.seats.knows i v at parts) (λ some. absurd (omega (arith, some, ended.parts))) h.seats.knows;
    idle = each (λ u. u.hold ≡ None → u.note.draws ≡ []) (h.seats.idle i v at) (λ e. ended.draws) h.seats.idle;
    spent = each (λ u. u.parts ≡ 0 → IsNothing u) (λ e. absurd (omega (arith, e, parts))) (λ e. (ended_flights, ended_full, ended.failures)) h.seats.spent;
    full = each (λ u. NotesFull u → IsOver told drawn) full_joined (λ f. absurd (ended_full f)) h.seats.full_above;
    above_full = λ over. kept NotesFull first_full second_full (h.seats.above_full over);
    given = each (λ u. (u.note.given ≡ 0) ⊎ ((k : ℕ) × (z : View) × At views k z × (u.note.given ≤ z.note.given))) (inr (i, v, at, omega arith)) (inl ended.given) (λ k u a. inr (k, u, a, omega arith));
    failed = λ e s. kept (λ (u : View). IsMember e u.note.failures) (λ m. IsMember-left e v.note.failures w.note.failures m) (λ m. IsMember-right e v.note.failures w.note.failures m) s;
    noted = noted_by;
    flights = permuted-alike (all_flights views) (all_flights next) joined_all;
    carried = λ k u c a m. each (λ u. IsMember c u.note.flights → (n : ℕ) × (z : View) × At views n z × CarriesTo z c) (λ m. (i, v, at, itself v c m)) (λ m. absurd (let n : IsMember c [] = subst (λ (fs : List Carried). IsMember c fs) ended.flights m in n)) (λ k u a m. (k, u, a, itself u c m)) k u a m;
    drew = still_drew;
    draws = had_drawn;
  }

  pub join-keeps : Holds told drawn items next
  join-keeps = mirrors-hold told drawn drawn (stays told drawn items views h) items views next seats_join h
