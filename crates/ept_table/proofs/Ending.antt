-- How a table begins and ends.
use Rattle.std.proofs.Common.{◌≡◌, ◌∙◌, ℕ, zero, suc, ◌<◌, ◌≤◌, true, ◌⊎◌, inl, inr, List, [], ◌∷◌, ◌++◌, map, take, drop, refl, sym, ap, subst, arith, Some, None}
use Rattle.std.specs.List.{flat_map}
use Rattle.std.specs.List.Sorted.{IsPermutation}
use Rattle.std.proofs.lemmas.List.{take-append-drop}
use Rattle.std.proofs.lemmas.Bool.{false≢true}
use Rattle.std.proofs.lemmas.List.Concat.{flat_map-cons}
use Rattle.std.proofs.lemmas.List.Sorted.{IsPermutation-refl}
use Rattle.ept_point.specs.declared.point.Point.{Point}
use Rattle.ept_space.specs.VoxelKey.{child}
use Rattle.ept_scan.specs.declared.read_error.ReadError.{ReadError}
use Rattle.ept_sample.specs.Sampling.{is_node}
use Rattle.ept_sample.specs.Members.{IsMember}
use Rattle.ept_core.specs.declared.flight.Flight.{Flight}
use Rattle.ept_core.specs.declared.node.Node as core
use Rattle.ept_core.specs.State.{State, has_open}
use Rattle.ept_core.proofs.CoreLaws.{landed-sampled, landed-opens}
use Rattle.ept_grid.specs.Node.{is_open_in}
use Rattle.ept_node.proofs.Bridges.{seen-stands}
use Rattle.ept_table.specs.declared.note.Told.{Told}
use Rattle.ept_table.specs.declared.note.Carried.{Carried}
use Rattle.ept_table.specs.declared.taken.Cell.{Cell}
use Rattle.ept_table.specs.declared.taken.Progress.{Progress}
use Rattle.ept_table.specs.declared.taken.Taken.{Taken}
use Rattle.ept_table.specs.declared.taken.Taken.TheVariants.{Standing, Reading}
use Rattle.ept_table.specs.At.{At}
use Rattle.ept_table.specs.View.{View, NotesFull, IsNothing, flights_of, all_flights}
use Rattle.ept_table.specs.Shown.{IsOver, shown, Shows, Holds, AreLocked}
use Rattle.ept_table.specs.Steps.{first_seat}
use Rattle.ept_table.specs.Tells.{IsLanded, IsSampling, HasNothing, IsLast, IsEnded}
use Rattle.ept_table.proofs.Lists.{same_or_not, at-same, at-head, at-rest, at-next, at-zero, nothing-at}
use Rattle.ept_table.proofs.Alike.{permuted-alike}
use Rattle.ept_table.proofs.Mirrors.{Mirrors, CarriesTo, SomeFull, SomeFailure, stays, mirrors-hold, none_of}
use Rattle.ept_table.proofs.ReaderBack.{reading-same}
use Rattle.ept_table.proofs.Telling.{full-is-too-many}

-- ---- the first seat

module _ (told : Told) (drawn : ℕ) (items : List Taken) (parts : ℕ) (h : IsLanded told drawn items) where
  abbrev one : View
  one = first_seat told parts

  abbrev seats : List View
  seats = one ∷ []

  only : (P : View → Type 0) → P one → (j : ℕ) (u : View) → At seats j u → P u
  only P mine zero u a = subst (λ (z : View). P z) (at-head a) mine
  only P mine (suc j) u a = absurd (nothing-at (at-rest one [] j u a))

  not_full : NotesFull one → ⊥
  not_full (inl some) = omega (arith, some)
  not_full (inr over) = false≢true over

  first_mirror : Mirrors told drawn [] seats
  first_mirror = record {
    knows = only (λ u. 0 < u.parts → u.note.told ≡ told) (λ some. refl);
    idle = only (λ u. u.hold ≡ None → u.note.draws ≡ []) (λ e. refl);
    spent = only (λ u. u.parts ≡ 0 → IsNothing u) (λ e. (refl, not_full, refl));
    full = only (λ u. NotesFull u → IsOver told drawn) (λ f. absurd (not_full f));
    above_full = λ over. let s = h.seats.above_full over in absurd (nothing-at s.2);
    given = only (λ u. (u.note.given ≡ 0) ⊎ ((k : ℕ) × (z : View) × At [] k z × (u.note.given ≤ z.note.given))) (inl refl);
    failed = λ e s. absurd (nothing-at s.2);
    noted = λ e (j, u, a, m). only (λ u. IsMember e u.note.failures → SomeFailure [] e) (λ m. absurd m) j u a m;
    flights = permuted-alike [] [] (IsPermutation-refl []);
    carried = λ j u c a m. only (λ u. IsMember c u.note.flights → (k : ℕ) × (z : View) × At [] k z × CarriesTo z c) (λ m. absurd m) j u a m;
    drew = λ held x d r. absurd (nothing-at r.at);
    draws = λ j u held x d a is m. only (λ u. u.hold ≡ Some (held, x) → IsMember d u.note.draws → (k : ℕ) × (z : View) × At [] k z × (z.hold ≡ Some (held, x)) × IsMember d z.note.draws × (z.note.flights ≡ u.note.flights)) (λ is m. absurd m) j u a is m;
  }

  pub first-seat-holds : Holds told drawn items seats
  first-seat-holds = mirrors-hold told drawn drawn (stays told drawn items [] h) items [] seats first_mirror h

-- ---- the last seat

-- lists that are all empty are empty when joined
none_at_all : {X Y : Type 0} (f : X → List Y) (xs : List X) → ((i : ℕ) (x : X) → At xs i x → f x ≡ []) → flat_map f xs ≡ []
none_at_all f [] none = refl
none_at_all {X} {Y} f (x ∷ xs) none =
    flat_map-cons f x xs
    ∙ (ap (λ (w : List Y). w ++ flat_map f xs) (none 0 x (at-zero x xs)) ∙ none_at_all f xs (λ i y a. none (suc i) y (at-next x xs i y a)))

module _ (told : Told) (drawn : ℕ) (items : List Taken) (views : List View) (i : ℕ) (v : View) (h : Holds told drawn items views) (locks : AreLocked items views) (at : At views i v) (last : IsLast views i) (free : v.hold ≡ None) where
  -- what is known of each seat, if it is known of this seat and of the seats without a share
  all_seats : (P : View → Type 0) → P v → ((j : ℕ) (u : View) → At views j u → u.parts ≡ 0 → P u) → (j : ℕ) (u : View) → At views j u → P u
  all_seats P mine others j u a =
      elim (same_or_not j i) [
        | inl same ↦ subst (λ (z : View). P z) (at-same at (subst (λ (n : ℕ). At views n u) same a)) mine
        | inr apart ↦ others j u a (last j u a apart)
      ]

  no_draws : (j : ℕ) (u : View) → At views j u → u.note.draws ≡ []
  no_draws =
      all_seats (λ u. u.note.draws ≡ []) (h.seats.idle i v at free) (λ j u a none. h.seats.idle j u a (locks.idle j u a none))

  full_mine : (s : SomeFull views) → NotesFull v
  full_mine (j, u, a, f) =
      all_seats (λ u. NotesFull u → NotesFull v) (λ f. f) (λ j u a none f. absurd ((h.seats.spent j u a none).1 f)) j u a f

  failure_mine : (e : ReadError) → SomeFailure views e → IsMember e v.note.failures
  failure_mine e (j, u, a, m) =
      all_seats (λ u. IsMember e u.note.failures → IsMember e v.note.failures) (λ m. m) (λ j u a none m. absurd (let n : IsMember e [] = subst (λ (es : List ReadError). IsMember e es) (h.seats.spent j u a none).2 m in n)) j u a m

  module _ (nothing : HasNothing v) where
    no_flights : all_flights views ≡ []
    no_flights = none_at_all flights_of views (all_seats (λ u. flights_of u ≡ []) mine (λ j u a none. (h.seats.spent j u a none).0))
      where
        mine : flights_of v ≡ []
        mine =
            ap (λ (fs : List Carried). map (λ (c : Carried). c.flight) fs ++ v.note.gone) nothing.flights ∙ nothing.gone

    last_mirror : Mirrors told drawn views []
    last_mirror = record {
      knows = λ j u a. absurd (nothing-at a);
      idle = λ j u a. absurd (nothing-at a);
      spent = λ j u a. absurd (nothing-at a);
      full = λ j u a. absurd (nothing-at a);
      above_full = λ over. absurd (nothing.not_full (full_mine (h.seats.above_full over)));
      given = λ j u a. absurd (nothing-at a);
      failed = λ e s. absurd (let n : IsMember e [] = subst (λ (es : List ReadError). IsMember e es) nothing.failures (failure_mine e s) in n);
      noted = λ e s. absurd (nothing-at s.2);
      flights = permuted-alike (all_flights views) [] (subst (λ (w : List Flight). IsPermutation w []) (sym no_flights) (IsPermutation-refl []));
      carried = λ j u c a. absurd (nothing-at a);
      drew = λ held x d r. absurd (none_of d r.view.note.draws (no_draws r.seat r.view r.at) r.noted);
      draws = λ j u held x d a. absurd (nothing-at a);
    }

    landed : IsLanded told drawn items
    landed = mirrors-hold told drawn drawn (stays told drawn items views h) items views [] last_mirror h

  pub last-seat-tells : IsEnded told drawn items v
  last-seat-tells = record {
    size = h.base.size;
    reader = h.reader;
    at_first = h.base.at_first;
    fits = h.base.fits;
    given = h.base.given i v at;
    failed = λ e is. failure_mine e (h.base.failed e is);
    noted = λ e m. h.base.noted i v e at m;
    landed = landed;
    full = full-is-too-many told drawn items views i v h at;
    fills = λ over. full_mine (h.seats.above_full over);
  }

-- ---- the sampling

module _ (told : Told) (drawn : ℕ) (items : List Taken) (r : Progress) (h : IsLanded told drawn items) (at : At items 0 (Reading r)) (tells : told.tells ≡ true) where
  s : Shows told h.reader items []
  s = h.shows tells

  abbrev state : State
  state = shown told h.reader s.nodes []

  same : h.reader ≡ r
  same = reading-same (at-same h.base.at_first at)

  abbrev first : List Point
  first = take r.drawn told.points

  parts : told.points ≡ first ++ drop h.reader.drawn told.points
  parts =
      sym (take-append-drop r.drawn told.points) ∙ ap (λ (q : Progress). first ++ drop q.drawn told.points) (sym same)

  opened_so : (k : ℕ) (c : Cell) (o : ℕ) → At items k (Standing c) → o < 8 → is_open_in c.node o ≡ is_node told.rules first (child c.node.key o)
  opened_so k c o a low =
      sym ((seen-stands c.node).opens o low)
      ∙ (ap (λ (n : core.Node). has_open n o) (sym (s.standing k c a).1)
      ∙ landed-opens told.rules told.points first state c.node.key o s.law refl parts low)

  pub landed-sampling : IsSampling told items first
  landed-sampling = record {
    nodes = s.nodes;
    tiles = landed-sampled told.rules told.points first state s.law refl parts;
    standing = s.standing;
    in_slot = s.in_slot;
    opened = opened_so;
  }
