-- The last two flights of a seat become one.
use Rattle.std.proofs.Common.{◌≡◌, ◌∙◌, ℕ, ◌<◌, inl, inr, List, [], ◌∷◌, ◌++◌, map, length, count_by, set, refl, sym, ap, subst, arith, None}
use Rattle.std.proofs.lemmas.List.{append_assoc, map-append}
use Rattle.ept_point.specs.declared.point.Point.{Point}
use Rattle.ept_space.specs.VoxelKey.{VoxelKey}
use Rattle.ept_sample.specs.Members.{IsMember}
use Rattle.ept_sample.proofs.Members.{IsMember-left, IsMember-right, IsMember-append, IsMember-flat_map, IsMember-map}
use Rattle.ept_core.specs.declared.flight.Flight.{Flight}
use Rattle.ept_core.specs.State.{flown}
use Rattle.ept_core.specs.Law.{HasPoint}
use Rattle.ept_table.specs.declared.note.Told.{Told}
use Rattle.ept_table.specs.declared.note.Carried.{Carried}
use Rattle.ept_table.specs.declared.taken.Taken.{Taken}
use Rattle.ept_table.specs.At.{At}
use Rattle.ept_table.specs.View.{View, flights_of}
use Rattle.ept_table.specs.Shown.{Holds}
use Rattle.ept_table.specs.Steps.{noting, merged, in_one, last_in_one, GoTogether}
use Rattle.ept_table.proofs.Lists.{at-member}
use Rattle.ept_table.proofs.Alike.{FlyAlike, amid-alike}
use Rattle.ept_table.proofs.Mirrors.{CarriesTo, alike-holds}

pub last-in-one : (front : List Carried) (c d : Carried) → last_in_one (front ++ c ∷ d ∷ []) ≡ front ++ in_one c d ∷ []
unfolding last_in_one
last-in-one [] c d = refl
last-in-one (e ∷ []) c d = refl
last-in-one (e ∷ (f ∷ [])) c d = refl
last-in-one (e ∷ (f ∷ (g ∷ front))) c d = ap (λ (fs : List Carried). e ∷ fs) (last-in-one (f ∷ (g ∷ front)) c d)

abbrev flight : Carried → Flight
flight c = c.flight

none_in : (p : Point) (points : List Point) → IsMember p points → points ≡ [] → ⊥
none_in p points m none = subst (λ (ps : List Point). IsMember p ps) none m

-- ---- the same points fly

module _ (c d : Carried) (key : c.flight.key ≡ d.flight.key) (first : HasPoint c.flight.points) (second : HasPoint d.flight.points) where
  same_points : flown (flight c ∷ flight d ∷ []) ≡ flown (flight (in_one c d) ∷ [])
  same_points = sym (append_assoc c.flight.points d.flight.points [])

  pub two-alike : FlyAlike (flight c ∷ flight d ∷ []) (flight (in_one c d) ∷ [])
  two-alike = record {
    there = there;
    back = back;
    as_often = λ test. ap (λ (ps : List Point). count_by test ps) same_points;
    as_many = sym (ap (λ (ps : List Point). length ps) same_points);
    empty_there = filled;
    empty_back = still_filled;
  }
    where
      there : (k : VoxelKey) (p : Point) → ((f : Flight) × IsMember f (flight c ∷ flight d ∷ []) × (f.key ≡ k) × IsMember p f.points) → (f : Flight) × IsMember f (flight (in_one c d) ∷ []) × (f.key ≡ k) × IsMember p f.points
      there k p (f, inl is, at, q) =
          (flight (in_one c d), inl refl, ap (λ (g : Flight). g.key) is ∙ at, IsMember-left p c.flight.points d.flight.points (subst (λ (g : Flight). IsMember p g.points) (sym is) q))
      there k p (f, inr (inl is), at, q) =
          (flight (in_one c d), inl refl, key ∙ (ap (λ (g : Flight). g.key) is ∙ at), IsMember-right p c.flight.points d.flight.points (subst (λ (g : Flight). IsMember p g.points) (sym is) q))
      there k p (f, inr (inr m), at, q) = absurd m

      back : (k : VoxelKey) (p : Point) → ((f : Flight) × IsMember f (flight (in_one c d) ∷ []) × (f.key ≡ k) × IsMember p f.points) → (f : Flight) × IsMember f (flight c ∷ flight d ∷ []) × (f.key ≡ k) × IsMember p f.points
      back k p (f, inl is, at, q) =
          elim (IsMember-append p c.flight.points d.flight.points (subst (λ (g : Flight). IsMember p g.points) (sym is) q)) [
            | inl m ↦ (flight c, inl refl, ap (λ (g : Flight). g.key) is ∙ at, m)
            | inr m ↦ (flight d, inr (inl refl), sym key ∙ (ap (λ (g : Flight). g.key) is ∙ at), m)
          ]
      back k p (f, inr m, at, q) = absurd m

      filled : ((f : Flight) × IsMember f (flight c ∷ flight d ∷ []) × (f.points ≡ [])) → (f : Flight) × IsMember f (flight (in_one c d) ∷ []) × (f.points ≡ [])
      filled (f, inl is, none) = absurd (none_in first.0 c.flight.points first.1 (ap (λ (g : Flight). g.points) is ∙ none))
      filled (f, inr (inl is), none) = absurd (none_in second.0 d.flight.points second.1 (ap (λ (g : Flight). g.points) is ∙ none))
      filled (f, inr (inr m), none) = absurd m

      still_filled : ((f : Flight) × IsMember f (flight (in_one c d) ∷ []) × (f.points ≡ [])) → (f : Flight) × IsMember f (flight c ∷ flight d ∷ []) × (f.points ≡ [])
      still_filled (f, inl is, none) =
          absurd (none_in first.0 (c.flight.points ++ d.flight.points) (IsMember-left first.0 c.flight.points d.flight.points first.1) (ap (λ (g : Flight). g.points) is ∙ none))
      still_filled (f, inr m, none) = absurd m

-- ---- the rule

module _ (told : Told) (drawn : ℕ) (items : List Taken) (views : List View) (i : ℕ) (v : View) (h : Holds told drawn items views) (at : At views i v) where
  abbrev flights : List Carried
  flights = v.note.flights

  has_points : (c : Carried) → IsMember c flights → HasPoint c.flight.points
  has_points c m =
      (h.base.flying c.flight (IsMember-flat_map flights_of v c.flight views (at-member views i v at) (IsMember-left c.flight (map flight flights) v.note.gone (IsMember-map flight c flights m)))).some

  parts_of : (cs : List Carried) (ts : List Flight) (front back : List Carried) → cs ≡ front ++ back → map flight cs ++ ts ≡ map flight front ++ (map flight back ++ ts)
  parts_of cs ts front back is =
      ap (λ (w : List Carried). map flight w ++ ts) is
      ∙ (ap (λ (w : List Flight). w ++ ts) (map-append flight front back) ∙ append_assoc (map flight front) (map flight back) ts)

  module _ (t : GoTogether flights) where
    abbrev two : List Carried
    two = t.first ∷ t.second ∷ []

    abbrev one : List Carried
    one = in_one t.first t.second ∷ []

    first_there : IsMember t.first flights
    first_there =
        subst (λ (w : List Carried). IsMember t.first w) (sym t.last) (IsMember-right t.first t.front two (inl refl))

    second_there : IsMember t.second flights
    second_there =
        subst (λ (w : List Carried). IsMember t.second w) (sym t.last) (IsMember-right t.second t.front two (inr (inl refl)))

    now : last_in_one flights ≡ t.front ++ one
    now = ap (λ (w : List Carried). last_in_one w) t.last ∙ last-in-one t.front t.first t.second

    flies_alike : FlyAlike (flights_of v) (flights_of (noting v (merged v.note)))
    flies_alike =
        subst (λ (w : List Flight). FlyAlike w (flights_of (noting v (merged v.note)))) (sym (parts_of flights v.note.gone t.front two t.last))
        (subst (λ (w : List Flight). FlyAlike (map flight t.front ++ (map flight two ++ v.note.gone)) w) (sym (parts_of (last_in_one flights) v.note.gone t.front one now)) (amid-alike (map flight t.front) (map flight two) (map flight one) v.note.gone (two-alike t.first t.second t.key (has_points t.first first_there) (has_points t.second second_there))))

    carries : (c : Carried) → IsMember c (last_in_one flights) → CarriesTo v c
    carries c m =
        elim (IsMember-append c t.front one (subst (λ (w : List Carried). IsMember c w) now m)) [
          | inl front ↦ (c, subst (λ (w : List Carried). IsMember c w) (sym t.last) (IsMember-left c t.front two front), refl, refl)
          | inr last ↦ elim last [
            | inl is ↦ (t.first, first_there, ap (λ (w : Carried). w.slot) is, ap (λ (w : Carried). w.flight.key) is)
            | inr none ↦ absurd none
          ]
        ]

    pub merged-keeps : 0 < v.parts → v.hold ≡ None → Holds told drawn items (set views i (noting v (merged v.note)))
    merged-keeps some free = alike-holds told drawn items views i v (noting v (merged v.note)) at (record {
      knows = h.seats.knows i v at;
      idle = h.seats.idle i v at;
      spent = λ e. absurd (omega (arith, e, some));
      full = h.seats.full_above i v at;
      given = omega arith;
      failures = refl;
      flights = flies_alike;
      carried = carries;
      draws = inl (h.seats.idle i v at free, h.seats.idle i v at free);
    }) (λ n. n) h

pub merge-keeps : (told : Told) (drawn : ℕ) (items : List Taken) (views : List View) (i : ℕ) (v : View) → Holds told drawn items views → At views i v → 0 < v.parts → v.hold ≡ None → GoTogether v.note.flights → Holds told drawn items (set views i (noting v (merged v.note)))
merge-keeps told drawn items views i v h at some free t = merged-keeps told drawn items views i v h at t some free
