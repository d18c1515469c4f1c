-- What steps make known.
use Rattle.std.proofs.Common.{◌≡◌, ◌∙◌, ℕ, ◌<◌, ◌≤◌, Bool, true, false, ◌⊎◌, inl, inr, List, ◌++◌, map, length, drop, min, refl, ap, subst, arith}
use Rattle.std.proofs.lemmas.Bool.{false≢true}
use Rattle.ept_point.specs.declared.point.Point.{Point}
use Rattle.ept_space.specs.VoxelKey.{VoxelKey, child}
use Rattle.ept_sample.specs.Ids.{HasDistinctIds}
use Rattle.ept_sample.specs.Members.{IsMember}
use Rattle.ept_sample.proofs.Members.{IsMember-left, IsMember-right, IsMember-map, IsMember-flat_map}
use Rattle.ept_core.specs.declared.node.Node as core
use Rattle.ept_core.proofs.CoreLaws.{distinct-flight}
use Rattle.ept_grid.specs.Node.{is_open_in}
use Rattle.ept_table.specs.declared.note.Told.{Told}
use Rattle.ept_table.specs.declared.note.Carried.{Carried}
use Rattle.ept_table.specs.declared.taken.Cell.{Cell}
use Rattle.ept_table.specs.declared.taken.Progress.{Progress}
use Rattle.ept_table.specs.declared.taken.Taken.{Taken}
use Rattle.ept_table.specs.declared.taken.Taken.TheVariants.{Blank, Standing, Reading}
use Rattle.ept_table.specs.At.{At}
use Rattle.ept_table.specs.Taken.{slot_at}
use Rattle.ept_table.specs.View.{View, NotesFull, flights_of, all_flights}
use Rattle.ept_table.specs.Shown.{IsOver, KeyOf, HasSlot, FitsReader, shown, Shows, Holds, AreLocked}
use Rattle.ept_table.specs.Tells.{IsTooMany, FitsFlight, FitsChild, Fits, ShowsLaw}
use Rattle.ept_table.proofs.Lists.{at-same, at-member}
use Rattle.ept_table.proofs.Keys.{no_key, key-same, key-low}
use Rattle.ept_table.proofs.TooMany.{points-as, node-taken}
use Rattle.ept_table.proofs.ReaderBack.{reading-same}

-- the slot of a drawn key is at most the number of slots for nodes
slot_low : (told : Told) (drawn : ℕ) (keys : List VoxelKey) (slot : ℕ) (key : VoxelKey) → length keys ≡ min drawn told.most → HasSlot told drawn keys slot key → slot ≤ told.most
slot_low told drawn keys slot key counted (inl none) = omega (arith, none.0)
slot_low told drawn keys slot key counted (inr is) =
    let low = key-low keys slot key is in omega (arith, low.1, counted)

-- if a slot is lacking, all are drawn
slot_lacks : (told : Told) (drawn : ℕ) (keys : List VoxelKey) (slot : ℕ) (key : VoxelKey) → slot ≡ 0 → HasSlot told drawn keys slot key → IsOver told drawn
slot_lacks told drawn keys slot key is_zero (inl none) = none.1
slot_lacks told drawn keys slot key is_zero (inr is) =
    absurd (no_key keys key (subst (λ (n : ℕ). KeyOf keys n key) is_zero is))

module _ (told : Told) (drawn : ℕ) (items : List Taken) (views : List View) (i : ℕ) (v : View) (h : Holds told drawn items views) (at : At views i v) where
  over_too_many : IsOver told drawn → IsTooMany told
  over_too_many over = λ tells. h.tree.full_over tells over

  pub lack-is-too-many : (c : Carried) → IsMember c v.note.flights → c.slot ≡ 0 → IsTooMany told
  lack-is-too-many c m is_zero =
      over_too_many (slot_lacks told drawn h.keys c.slot c.flight.key is_zero (h.tree.carried i v c at m))

  pub full-is-too-many : NotesFull v → IsTooMany told
  full-is-too-many full = over_too_many (h.seats.full_above i v at full)

  -- ---- an item

  flies : (c : Carried) → IsMember c v.note.flights → IsMember c.flight (all_flights views)
  flies c m =
      IsMember-flat_map flights_of v c.flight views (at-member views i v at) (IsMember-left c.flight (map (λ (d : Carried). d.flight) v.note.flights) v.note.gone (IsMember-map (λ (d : Carried). d.flight) c v.note.flights m))

  module _ (k : ℕ) (x : Taken) (a : At items k x) where
    reader_here : k ≡ 0 → (r : Progress) × (x ≡ Reading r) × FitsReader told r × (v.note.given ≤ r.drawn)
    reader_here is_zero =
        let b : At items 0 x = subst (λ (n : ℕ). At items n x) is_zero a in
        (h.reader, at-same b h.base.at_first, h.base.fits, h.base.given i v at)

    node_here : (z : Taken) → x ≡ z → 0 < k → (z ≡ Blank) ⊎ ((d : Cell) × (z ≡ Standing d))
    node_here Blank e some = inl refl
    node_here (Standing d) e some = inr (d, refl)
    node_here (Reading r) e some =
        let is_zero : k ≡ 0 = h.base.one_reader k r (subst (λ (z : Taken). At items k z) e a) in absurd (omega (arith, is_zero, some))

    child_here : (z : Taken) (o : ℕ) → x ≡ z → o < 8 → FitsChild told z o
    child_here Blank o e low = record { within = omega arith; closed = λ e. refl; lacking = λ is e. absurd (false≢true is) }
    child_here (Reading r) o e low = record { within = omega arith; closed = λ e. refl; lacking = λ is e. absurd (false≢true is) }
    child_here (Standing d) o e low =
        let b : At items k (Standing d) = subst (λ (z : Taken). At items k z) e a in
        record { within = within_here d o b low (is_open_in d.node o) refl; closed = h.tree.closed k d o b low; lacking = λ is is_zero. over_too_many (slot_lacks told drawn h.keys (slot_at (Standing d) o) (child d.node.key o) is_zero (h.tree.children k d o b low is)) }
      where
        within_here : (d : Cell) (o : ℕ) → At items k (Standing d) → o < 8 → (b : Bool) → is_open_in d.node o ≡ b → slot_at (Standing d) o ≤ told.most
        within_here d o b low true is = slot_low told drawn h.keys (slot_at (Standing d) o) (child d.node.key o) h.tree.counted (h.tree.children k d o b low is)
        within_here d o b low false is = let is_zero : slot_at (Standing d) o ≡ 0 = h.tree.closed k d o b low is in omega (arith, is_zero)

    flight_here : (c : Carried) → IsMember c v.note.flights → c.slot ≡ k → 0 < k → FitsFlight told c x
    flight_here c m slot some = record {
      sound = h.base.flying c.flight (flies c m);
      key = λ d e. key-same h.keys k d.node.key c.flight.key (h.base.keyed k d (subst (λ (z : Taken). At items k z) e a)) its_key;
      different = λ tells. subst (λ (ps : List Point). HasDistinctIds (c.flight.points ++ ps)) (ap (λ (n : core.Node). n.points) (node-taken told drawn items views h (h.shows tells) k x c.flight.key a its_key) ∙ points-as x) (distinct-flight told.rules told.points (shown told h.reader (h.shows tells).nodes views) c.flight (h.shows tells).law (flies c m));
    }
      where
        its_key : KeyOf h.keys k c.flight.key
        its_key =
            elim (h.tree.carried i v c at m) [
              | inl none ↦ absurd (omega (arith, some, slot, none.0))
              | inr is ↦ subst (λ (n : ℕ). KeyOf h.keys n c.flight.key) slot is
            ]

    pub take-fits : Fits told v k x
    take-fits = record {
      is_told = h.is_told;
      reader = reader_here;
      node = node_here x refl;
      sound = λ d e. h.base.sound k d (subst (λ (z : Taken). At items k z) e a);
      child = λ o low. child_here x o refl low;
      flight = flight_here;
    }

  -- ---- `look`

  pub state-keeps-law : AreLocked items views → told.tells ≡ true → ShowsLaw told v
  state-keeps-law locks tells = record {
    state = shown told h.reader s.nodes views;
    law = s.law;
    carries = flies;
    abandoned = λ f m. IsMember-flat_map flights_of v f views (at-member views i v at) (IsMember-right f (map (λ (c : Carried). c.flight) v.note.flights) v.note.gone m);
    reads = λ k r e. (
        let a : At items k (Reading r) = locks.as_taken i v k (Reading r) at e in
        let is_zero : k ≡ 0 = h.base.one_reader k r a in
        let same : Reading h.reader ≡ Reading r = at-same h.base.at_first (subst (λ (n : ℕ). At items n (Reading r)) is_zero a) in
        ap (λ (q : Progress). drop q.drawn told.points) (reading-same same));
    holds = λ k d e. s.standing k d (locks.as_taken i v k (Standing d) at e);
  }
    where
      s : Shows told h.reader items views
      s = h.shows tells
