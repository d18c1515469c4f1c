-- Seats that know something else, for which the rule states the same.
use Rattle.std.proofs.Common.{◌≡◌, ◌∙◌, ℕ, ◌+◌, ◌<◌, ◌≤◌, ◌⊎◌, inl, inr, List, [], ◌∷◌, length, min, take, drop, set, refl, sym, ap, subst, arith, Some, None, sum_by, true}
use Rattle.std.specs.List.Sorted.{IsPermutation}
use Rattle.std.proofs.lemmas.List.Concat.{length-flat_map}
use Rattle.std.proofs.lemmas.List.Sorted.{IsPermutation-refl, sum_by-IsPermutation}
use Rattle.ept_space.specs.VoxelKey.{VoxelKey, child}
use Rattle.ept_sample.specs.Nodes.{node_keys}
use Rattle.ept_scan.specs.declared.read_error.ReadError.{ReadError}
use Rattle.ept_sample.specs.Members.{IsMember}
use Rattle.ept_core.specs.declared.flight.Flight.{Flight}
use Rattle.ept_core.specs.State.{flown}
use Rattle.ept_core.specs.Flying.{EachIsReordered}
use Rattle.ept_table.specs.declared.note.Told.{Told}
use Rattle.ept_table.specs.declared.note.Carried.{Carried}
use Rattle.ept_table.specs.declared.note.Draw.{Draw}
use Rattle.ept_table.specs.declared.taken.Progress.{Progress}
use Rattle.ept_table.specs.declared.taken.Taken.{Taken}
use Rattle.ept_table.specs.declared.taken.Taken.TheVariants.{Standing}
use Rattle.ept_table.specs.At.{At}
use Rattle.ept_table.specs.Taken.{count_of, slot_at}
use Rattle.ept_table.specs.View.{View, NotesFull, IsNothing, flights_of, all_flights}
use Rattle.ept_table.specs.Shown.{IsOver, HasSlot, IsSoundFlight, IsChild, Drew, IsDrawn, IsDraw, Seats, Base, Tree, Shows, Holds, AreLocked}
use Rattle.ept_table.proofs.Lists.{same_or_not, at-same, at-below, at-set, at-other, set-at}
use Rattle.ept_table.proofs.Alike.{FlyAlike, seats-alike, sound-alike, flies-there, law-alike}

-- some seat notes that all slots are drawn
abbrev pub SomeFull : List View → Type 0
SomeFull views = (i : ℕ) × (v : View) × At views i v × NotesFull v

-- some seat notes that the reader failed with this refusal
abbrev pub SomeFailure : List View → ReadError → Type 0
SomeFailure views e = (i : ℕ) × (v : View) × At views i v × IsMember e v.note.failures

-- a later count of draws, with the same number of drawn slots
pub record Goes (told : Told) (before after : ℕ) : Type 0 where
  pub over : IsOver told before → IsOver told after
  pub counted : min before told.most ≡ min after told.most
  pub full_over : told.tells ≡ true → IsOver told after → told.most < length (node_keys told.rules (take told.end told.points))

-- the seat carries a flight to the slot and the key of this one
abbrev pub CarriesTo : View → Carried → Type 0
CarriesTo v c = (d : Carried) × IsMember d v.note.flights × (d.slot ≡ c.slot) × (d.flight.key ≡ c.flight.key)

pub itself : (v : View) (c : Carried) → IsMember c v.note.flights → CarriesTo v c
itself v c m = (c, m, refl, refl)

-- the rule states of the new views what it stated of the old ones
pub record Mirrors (told : Told) (drawn : ℕ) (old new : List View) : Type 0 where
  pub knows : (i : ℕ) (w : View) → At new i w → 0 < w.parts → w.note.told ≡ told
  pub idle : (i : ℕ) (w : View) → At new i w → w.hold ≡ None → w.note.draws ≡ []
  pub spent : (i : ℕ) (w : View) → At new i w → w.parts ≡ 0 → IsNothing w
  pub full : (i : ℕ) (w : View) → At new i w → NotesFull w → IsOver told drawn
  pub above_full : IsOver told drawn → SomeFull new
  pub given : (i : ℕ) (w : View) → At new i w → (w.note.given ≡ 0) ⊎ ((j : ℕ) × (v : View) × At old j v × (w.note.given ≤ v.note.given))
  pub failed : (e : ReadError) → SomeFailure old e → SomeFailure new e
  pub noted : (e : ReadError) → SomeFailure new e → SomeFailure old e
  pub flights : FlyAlike (all_flights old) (all_flights new)
  pub carried : (i : ℕ) (w : View) (c : Carried) → At new i w → IsMember c w.note.flights → (j : ℕ) × (v : View) × At old j v × CarriesTo v c
  pub drew : (held : ℕ) (x : Taken) (d : Draw) → Drew old held x d → Drew new held x d
  pub draws : (i : ℕ) (w : View) (held : ℕ) (x : Taken) (d : Draw) → At new i w → w.hold ≡ Some (held, x) → IsMember d w.note.draws → (j : ℕ) × (v : View) × At old j v × (v.hold ≡ Some (held, x)) × IsMember d v.note.draws × (v.note.flights ≡ w.note.flights)

-- flights in another order have the same number of points
pub flown-same : (fs gs : List Flight) → IsPermutation fs gs → length (flown gs) ≡ length (flown fs)
flown-same fs gs same =
    length-flat_map (λ (f : Flight). f.points) gs
    ∙ (sum_by-IsPermutation (λ (f : Flight). length f.points) fs gs same ∙ sym (length-flat_map (λ (f : Flight). f.points) fs))

pub each-same : (fs : List Flight) → EachIsReordered fs fs
each-same [] = tt
each-same (f ∷ fs) = (record { actor = refl; key = refl; points = IsPermutation-refl f.points }, each-same fs)

pub stays : (told : Told) (drawn : ℕ) (items : List Taken) (views : List View) → Holds told drawn items views → Goes told drawn drawn
stays told drawn items views h = record { over = λ o. o; counted = refl; full_over = h.tree.full_over }

slot-goes : (told : Told) (before after : ℕ) (keys : List VoxelKey) (slot : ℕ) (key : VoxelKey) → Goes told before after → HasSlot told before keys slot key → HasSlot told after keys slot key
slot-goes told before after keys slot key goes (inl none) = inl (none.0, goes.over none.1)
slot-goes told before after keys slot key goes (inr is) = inr is

-- what holds of the slot and the key of a flight holds of the slot and the key of its counterpart
to_same : (P : ℕ → VoxelKey → Type 0) (d c : Carried) → d.slot ≡ c.slot → d.flight.key ≡ c.flight.key → P d.slot d.flight.key → P c.slot c.flight.key
to_same P d c slot key p = subst (λ (n : ℕ). P n c.flight.key) slot (subst (λ (k : VoxelKey). P d.slot k) key p)

module _ (told : Told) (before after : ℕ) (goes : Goes told before after) (items : List Taken) (old new : List View) (m : Mirrors told after old new) where
  seats-mirror : Seats told after new
  seats-mirror = record { knows = m.knows; idle = m.idle; spent = m.spent; full_above = m.full; above_full = m.above_full }

  base-mirror : (reader : Progress) (keys : List VoxelKey) → Base told reader keys items old → Base told reader keys items new
  base-mirror reader keys h = record {
    size = h.size;
    at_first = h.at_first;
    one_reader = h.one_reader;
    fits = h.fits;
    given = λ i w a. elim (m.given i w a) [ inl none ↦ omega (arith, none) | inr r ↦ (let low : r.1.note.given ≤ reader.drawn = h.given r.0 r.1 r.2 in omega (arith, r.3, low)) ];
    failed = λ e is. m.failed e (h.failed e is);
    noted = λ i w e a n. let r = m.noted e (i, w, a, n) in h.noted r.0 r.1 e r.2 r.3;
    keyed = h.keyed;
    sound = h.sound;
    flying = sound-alike told (all_flights old) (all_flights new) m.flights h.flying;
    adds_up = ap (λ (n : ℕ). sum_by count_of items + n) m.flights.as_many ∙ h.adds_up;
  }

  drawn-mirror : (keys : List VoxelKey) (k : ℕ) (key : VoxelKey) → IsDrawn keys old k key → IsDrawn keys new k key
  drawn-mirror keys k key d = record {
    held = d.held;
    taken = d.taken;
    draw = d.draw;
    parent = d.parent;
    drew = m.drew d.held d.taken d.draw d.drew;
    held_is = d.held_is;
    slot_is = d.slot_is;
    key_is = d.key_is;
  }

  tree-mirror : (keys : List VoxelKey) → ((f : Flight) → IsMember f (all_flights old) → IsSoundFlight told f) → Tree told before keys items old → Tree told after keys items new
  tree-mirror keys sound h = record {
    counted = h.counted ∙ goes.counted;
    first = h.first;
    distinct = h.distinct;
    rooted = h.rooted;
    undrawn = h.undrawn;
    carried = λ i w c a n. (
        let r = m.carried i w c a n in
        slot-goes told before after keys c.slot c.flight.key goes (to_same (HasSlot told before keys) r.3.0 c r.3.2 r.3.3 (h.carried r.0 r.1 r.3.0 r.2 r.3.1)));
    lands = λ i w c a n some. (
        let r = m.carried i w c a n in
        to_same (λ slot key. (slot ≡ 1) ⊎ IsChild items slot key) r.3.0 c r.3.2 r.3.3 (h.lands r.0 r.1 r.3.0 r.2 r.3.1 (subst (λ (n : ℕ). 0 < n) (sym r.3.2) some)));
    children = λ k c o a low is. slot-goes told before after keys (slot_at (Standing c) o) (child c.node.key o) goes (h.children k c o a low is);
    closed = h.closed;
    awaited = λ k c o a low is b. flies-there told (all_flights old) (all_flights new) m.flights sound (child c.node.key o) (h.awaited k c o a low is b);
    born = λ k key is. elim (h.born k key is) [
      | inl top ↦ inl top
      | inr more ↦ elim more [ inl c ↦ inr (inl c) | inr d ↦ inr (inr (drawn-mirror keys k key d)) ]
    ];
    draws = λ i w held x d a is n. (
        let r = m.draws i w held x d a is n in
        subst (λ (fs : List Carried). IsDraw told keys items fs held x d) r.5 (h.draws r.0 r.1 held x d r.2 r.3 r.4));
    full_over = goes.full_over;
  }

  shows-mirror : (reader : Progress) → Shows told reader items old → Shows told reader items new
  shows-mirror reader h = record {
    nodes = h.nodes;
    law = law-alike told (all_flights old) (all_flights new) m.flights told.points (drop reader.drawn told.points) h.nodes h.law;
    standing = h.standing;
    in_slot = h.in_slot;
    total = h.total;
  }

  pub mirrors-hold : Holds told before items old → Holds told after items new
  mirrors-hold h = record {
    keys = h.keys;
    reader = h.reader;
    is_told = h.is_told;
    seats = seats-mirror;
    base = base-mirror h.reader h.keys h.base;
    tree = tree-mirror h.keys h.base.flying h.tree;
    shows = λ tells. shows-mirror h.reader (h.shows tells);
  }

-- ---- one seat that knows something else

-- the rule states of the new view what it stated of the old one
pub record Alike (told : Told) (drawn : ℕ) (v w : View) : Type 0 where
  pub knows : 0 < w.parts → w.note.told ≡ told
  pub idle : w.hold ≡ None → w.note.draws ≡ []
  pub spent : w.parts ≡ 0 → IsNothing w
  pub full : NotesFull w → IsOver told drawn
  pub given : w.note.given ≤ v.note.given
  pub failures : v.note.failures ≡ w.note.failures
  pub flights : FlyAlike (flights_of v) (flights_of w)
  pub carried : (c : Carried) → IsMember c w.note.flights → CarriesTo v c
  pub draws : ((v.note.draws ≡ []) × (w.note.draws ≡ [])) ⊎ ((v.hold ≡ w.hold) × (v.note.draws ≡ w.note.draws) × (v.note.flights ≡ w.note.flights))

pub none_some : {X : Type 0} {x : X} → None ≡ Some x → ⊥
none_some e = cc

pub holder-parts : {items : List Taken} {views : List View} → AreLocked items views → {i : ℕ} {v : View} → At views i v → {held : ℕ} {x : Taken} → v.hold ≡ Some (held, x) → v.parts ≡ 0 → ⊥
holder-parts locks {i} {v} at holds none = none_some (sym (locks.idle i v at none) ∙ holds)

pub none_of : (d : Draw) (ds : List Draw) → ds ≡ [] → IsMember d ds → ⊥
none_of d ds none n = let m : IsMember d [] = subst (λ (w : List Draw). IsMember d w) none n in m

module _ (told : Told) (before after : ℕ) (goes : Goes told before after) (items : List Taken) (views : List View) (i : ℕ) (v w : View) (at : At views i v) (like : Alike told after v w) (full : ((NotesFull v → NotesFull w) × (IsOver told after → IsOver told before)) ⊎ NotesFull w) (h : Holds told before items views) where
  abbrev next : List View
  next = set views i w

  here : At next i w
  here = at-set views i w (at-below at)

  -- what the seats know, if it is known of the changed seat
  each : (P : ℕ → View → Type 0) → P i w → ((j : ℕ) (u : View) → (j ≡ i → ⊥) → At views j u → P j u) → (j : ℕ) (u : View) → At next j u → P j u
  each P here others j u a =
      elim (set-at views i w a) [
        | inl s ↦ subst (λ (k : ℕ). P k u) (sym s.0) (subst (λ (z : View). P i z) s.1 here)
        | inr o ↦ others j u o.0 o.1
      ]

  -- a seat from before, if it is not the changed one
  kept : (P : View → Type 0) → (P v → P w) → ((j : ℕ) × (u : View) × At views j u × P u) → (j : ℕ) × (u : View) × At next j u × P u
  kept P change (j, u, a, p) =
      elim (same_or_not j i) [
        | inl same ↦ (i, w, here, change (subst (λ (z : View). P z) (at-same (subst (λ (k : ℕ). At views k u) same a) at) p))
        | inr apart ↦ (j, u, at-other i w a apart, p)
      ]

  was : (P : View → Type 0) → (P w → P v) → ((j : ℕ) × (u : View) × At next j u × P u) → (j : ℕ) × (u : View) × At views j u × P u
  was P change (j, u, a, p) =
      elim (set-at views i w a) [
        | inl s ↦ (i, v, at, change (subst (λ (z : View). P z) (sym s.1) p))
        | inr o ↦ (j, u, o.1, p)
      ]

  still_drew : (held : ℕ) (x : Taken) (d : Draw) → Drew views held x d → Drew next held x d
  still_drew held x d r =
      let s = kept (λ (u : View). (u.hold ≡ Some (held, x)) × IsMember d u.note.draws) change (r.seat, r.view, r.at, (r.hold, r.noted)) in
      record { seat = s.0; view = s.1; at = s.2; hold = s.3.0; noted = s.3.1 }
    where
      change : (v.hold ≡ Some (held, x)) × IsMember d v.note.draws → (w.hold ≡ Some (held, x)) × IsMember d w.note.draws
      change (holds, n) =
          elim like.draws [
            | inl none ↦ absurd (none_of d v.note.draws none.0 n)
            | inr same ↦ (sym same.0 ∙ holds, subst (λ (ds : List Draw). IsMember d ds) same.1 n)
          ]

  had_drawn : (j : ℕ) (u : View) (held : ℕ) (x : Taken) (d : Draw) → At next j u → u.hold ≡ Some (held, x) → IsMember d u.note.draws → (k : ℕ) × (z : View) × At views k z × (z.hold ≡ Some (held, x)) × IsMember d z.note.draws × (z.note.flights ≡ u.note.flights)
  had_drawn j u held x d a holds n =
      each (λ k u. u.hold ≡ Some (held, x) → IsMember d u.note.draws → (k : ℕ) × (z : View) × At views k z × (z.hold ≡ Some (held, x)) × IsMember d z.note.draws × (z.note.flights ≡ u.note.flights)) mine (λ k u apart a holds n. (k, u, a, holds, n, refl)) j u a holds n
    where
      mine : w.hold ≡ Some (held, x) → IsMember d w.note.draws → (k : ℕ) × (z : View) × At views k z × (z.hold ≡ Some (held, x)) × IsMember d z.note.draws × (z.note.flights ≡ w.note.flights)
      mine holds n =
          elim like.draws [
            | inl none ↦ absurd (none_of d w.note.draws none.1 n)
            | inr same ↦ (i, v, at, same.0 ∙ holds, subst (λ (ds : List Draw). IsMember d ds) (sym same.1) n, same.2)
          ]

  some_full : IsOver told after → SomeFull next
  some_full over =
      elim full [ inl same ↦ kept NotesFull same.0 (h.seats.above_full (same.1 over)) | inr now ↦ (i, w, here, now) ]

  pub alike-mirrors : Mirrors told after views next
  alike-mirrors = record {
    knows = each (λ k u. 0 < u.parts → u.note.told ≡ told) like.knows (λ k u apart a. h.seats.knows k u a);
    idle = each (λ k u. u.hold ≡ None → u.note.draws ≡ []) like.idle (λ k u apart a. h.seats.idle k u a);
    spent = each (λ k u. u.parts ≡ 0 → IsNothing u) like.spent (λ k u apart a. h.seats.spent k u a);
    full = each (λ k u. NotesFull u → IsOver told after) like.full (λ k u apart a f. goes.over (h.seats.full_above k u a f));
    above_full = some_full;
    given = each (λ k u. (u.note.given ≡ 0) ⊎ ((j : ℕ) × (z : View) × At views j z × (u.note.given ≤ z.note.given))) (inr (i, v, at, like.given)) (λ k u apart a. inr (k, u, a, omega arith));
    failed = λ e s. kept (λ (u : View). IsMember e u.note.failures) (λ n. subst (λ (es : List ReadError). IsMember e es) like.failures n) s;
    noted = λ e s. was (λ (u : View). IsMember e u.note.failures) (λ n. subst (λ (es : List ReadError). IsMember e es) (sym like.failures) n) s;
    flights = seats-alike w at like.flights;
    carried = λ j u c a n. each (λ k u. IsMember c u.note.flights → (j : ℕ) × (z : View) × At views j z × CarriesTo z c) (λ n. (i, v, at, like.carried c n)) (λ k u apart a n. (k, u, a, itself u c n)) j u a n;
    drew = still_drew;
    draws = had_drawn;
  }

  pub alike-goes : Holds told after items next
  alike-goes = mirrors-hold told before after goes items views next alike-mirrors h

pub alike-holds : (told : Told) (drawn : ℕ) (items : List Taken) (views : List View) (i : ℕ) (v w : View) → At views i v → Alike told drawn v w → (NotesFull v → NotesFull w) → Holds told drawn items views → Holds told drawn items (set views i w)
alike-holds told drawn items views i v w at like full h =
    alike-goes told drawn drawn (stays told drawn items views h) items views i v w at like (inl (full, λ o. o)) h
