-- A visit lands.
use Rattle.std.proofs.Common.{◌≡◌, ◌∙◌, ℕ, ◌<◌, ◌≤◌, Bool, true, false, ◌||◌, List, [], ◌++◌, length, get_or, sym, ap, subst, arith, Some, Option, slice_index, Result, Ok, Err, OnOk}
use Rattle.std.specs.Prelude.{is_ok}
use Rattle.std.proofs.lemmas.Bool.{false≢true}
use Rattle.ept_point.specs.declared.point.Point.{Point}
use Rattle.ept_space.specs.declared.cube.Rules.{Rules}
use Rattle.ept_space.specs.VoxelKey.{VoxelKey}
use Rattle.ept_space.specs.OctreeCube.{IsCube}
use Rattle.ept_sample.specs.Place.{AllInBox}
use Rattle.ept_sample.specs.Ids.{HasDistinctIds, in_id_order}
use Rattle.ept_sample.specs.Arrivals.{is_open, overflows}
use Rattle.ept_sample.specs.Members.{IsMember}
use Rattle.ept_grid.specs.Mask.{opened}
use Rattle.ept_grid.specs.Outgoing.{Leaving}
use Rattle.ept_grid.specs.Node as grid
use Rattle.ept_grid.specs.Node.{is_open_in}
use Rattle.ept_node.specs.declared.node.Node.{Node}
use Rattle.ept_node.specs.declared.state.NodeState.TheVariants.{Resident}
use Rattle.ept_node.specs.Shown.{file_of, state_of, node_of, children_of, DoesTell}
use Rattle.ept_table.specs.declared.note.Told.{Told}
use Rattle.ept_table.specs.declared.note.Carried.{Carried}
use Rattle.ept_table.specs.declared.note.Draw.{Draw}
use Rattle.ept_table.specs.declared.taken.Taken.{Taken}
use Rattle.ept_table.specs.declared.taken.Taken.TheVariants.{Standing}
use Rattle.ept_table.specs.At.{At}
use Rattle.ept_table.specs.Item.{cell_of}
use Rattle.ept_table.specs.Taken.{points_of, is_open_at, slot_at}
use Rattle.ept_table.specs.Shown.{OpensOctant}
use Rattle.ept_table.specs.Steps.{holding, HasArrived}
use Rattle.ept_table.specs.View.{View}
use Rattle.ept_table.proofs.Lists.{at-same, at-below, at-member}
use Rattle.ept_table.proofs.SlotDrawn.{some_same}
use Rattle.ept_work.specs.declared.visit.Visit.{Visit}
use Rattle.ept_work.specs.declared.visit.Landing.{Landing}
use Rattle.ept_work.specs.Meeting.{Meets}
use Rattle.ept_work.specs.Opening.{taken_in, taken_by, MayOpen, HasOpened}
use Rattle.ept_work.specs.Sending.{sent_on}
use Rattle.ept_work.specs.Visiting.{IsVisit, TakesUp, IsLanding, opening, IsOpening, leaving, Visits}
use Rattle.ept_work.proofs.Begun.{begun-points, begun-many, begun-open, begun-slot, begun-stands, begun-same}
use Rattle.ept_work.proofs.Carrying.{at-got}
use Rattle.ept_work.proofs.Landed.{some-points, has-arrived, fresh-within}

-- what is at a place of the list that a worker keeps is the flight that it carries there
pub carried-same : (v : View) (flights : List Carried) (n : ℕ) (c x : Carried) → At v.note.flights n c → v.note.flights ≡ flights → x ≡ get_or flights n x → c ≡ x
carried-same v flights n c x its same e =
    at-same its (subst (λ (xs : List Carried). At xs n x) (sym same) (at-got flights n x (subst (λ (xs : List Carried). n < length xs) same (at-below its)) e))

open_alike : (rules : Rules) (depth : ℕ) (was now : ℕ → Bool) (given : List Point) (o : ℕ) → was o ≡ now o → is_open rules depth was given o ≡ is_open rules depth now given o
unfolding is_open
open_alike rules depth was now given o e = ap (λ (b : Bool). b || overflows rules depth given o) e

pub any-ok : {X E : Type 0} {P : Type 0} (r : Result X E) → P → OnOk r P
any-ok (Ok x) p = p
any-ok (Err x) p = tt

-- what holds on success
pub when-ok : {X E : Type 0} {P : Type 0} (r : Result X E) → is_ok r ≡ true → OnOk r P → P
when-ok (Ok x) e p = p
when-ok (Err x) e p = absurd (false≢true e)

module _ {F : Type 0} (held : F → Option (List ℕ)) (told : Told) (v : View) (visit : Visit F) (is : IsVisit held told v visit) where
  abbrev old : grid.Node
  old = node_of held visit.node

  -- the visit, at a node elsewhere in memory
  pub visit-again : (other : Node F) → (state_of other ≡ Resident) × (node_of held other ≡ node_of held visit.node) × (children_of other ≡ children_of visit.node) × (file_of other ≡ file_of visit.node) → IsVisit held told v (record { node = other; slot = visit.slot; number = visit.number; was_blank = visit.was_blank })
  visit-again other same = record {
    taken = is.taken;
    holds = is.holds;
    share = is.share;
    undrawn = is.undrawn;
    unrefused = is.unrefused;
    within = is.within;
    is_node = is.is_node;
    carried = is.carried;
    its = is.its;
    goes_there = is.goes_there;
    flight = is.flight;
    different = is.different;
    children = is.children;
    node = begun-same held told is.taken is.carried.flight.key visit.node visit.was_blank is.node other (same.0, same.1, same.2);
    telling = λ tells. subst (λ (f : F). DoesTell held f) (sym same.3) (is.telling tells);
  }

  among : IsMember is.carried v.note.flights
  among = at-member v.note.flights visit.number is.carried is.its

  held_is : taken_by v ≡ is.taken
  held_is = ap taken_in is.holds

  points_are : told.tells ≡ true → points_of is.taken ≡ old.points
  points_are = begun-points held told is.taken is.carried.flight.key visit.node visit.was_blank is.node

  many_are : length (points_of is.taken) ≡ length old.points
  many_are = begun-many held told is.taken is.carried.flight.key visit.node visit.was_blank is.node

  open_as : (o : ℕ) → o < 8 → is_open_at is.taken o ≡ is_open_in old o
  open_as = begun-open held told is.taken is.carried.flight.key visit.node visit.was_blank is.node

  module _ (points : List Point) (same_points : points ≡ is.carried.flight.points) where
    pub visit-inside : AllInBox old.rules.cube old.key points
    visit-inside =
        subst (λ (ps : List Point). AllInBox old.rules.cube old.key ps) (sym same_points)
        (subst (λ (r : Rules). AllInBox r.cube old.key is.carried.flight.points) (sym is.node.rules_are)
        (subst (λ (k : VoxelKey). AllInBox told.rules.cube k is.carried.flight.points) (sym is.node.key_is) is.flight.inside))

    pub visit-some : 0 < length points
    visit-some = subst (λ (ps : List Point). 0 < length ps) (sym same_points) (some-points is.carried.flight.points is.flight.some)

    module _ (new : Node F) (out : List Leaving) (meets_points : Meets old (node_of held new) points out) (stays : (state_of new ≡ Resident) × (children_of new ≡ children_of visit.node) × (file_of new ≡ file_of visit.node)) where
      meets : Meets old (node_of held new) is.carried.flight.points out
      meets = subst (λ (ps : List Point). Meets old (node_of held new) ps out) same_points meets_points

      opens : (o : ℕ) → o < 8 → is_open_in (node_of held new) o ≡ true → told.tells ≡ true → OpensOctant told v.note.flights visit.slot is.taken o
      opens o low is_open_now tells = record {
        carried = is.carried;
        among = among;
        goes_there = is.goes_there;
        opens =
            open_alike told.rules is.carried.flight.key.depth (is_open_at is.taken) (is_open_in old) (in_id_order (is.carried.flight.points ++ points_of is.taken)) o (open_as o low)
            ∙ (ap (λ (ps : List Point). is_open told.rules is.carried.flight.key.depth (is_open_in old) (in_id_order (is.carried.flight.points ++ ps)) o) (points_are tells)
            ∙ (ap (λ (k : VoxelKey). is_open told.rules k.depth (is_open_in old) (in_id_order (is.carried.flight.points ++ old.points)) o) (sym is.node.key_is)
            ∙ (ap (λ (r : Rules). is_open r old.key.depth (is_open_in old) (in_id_order (is.carried.flight.points ++ old.points)) o) (sym is.node.rules_are)
            ∙ (sym (meets.opens (subst (λ (ps : List Point). HasDistinctIds (is.carried.flight.points ++ ps)) (points_are tells) (is.different tells)) o low) ∙ is_open_now))));
      }

      pub visit-may : (before : ℕ) → before ≡ old.mask → MayOpen held told v visit.slot before new
      visit-may before mask = record {
        holds = is.holds ∙ ap (λ (x : Taken). let o : Option (ℕ × Taken) = Some (visit.slot, x) in o) (sym held_is);
        share = is.share;
        is_node = is.is_node;
        low = omega (arith, is.within is.carried among, is.goes_there);
        resident = stays.0;
        was = λ o low. ap (λ (m : ℕ). opened m o) mask ∙ (sym (open_as o low) ∙ ap (λ (x : Taken). is_open_at x o) (sym held_is));
        stays = λ o low was. (meets.sends o low).stays_open (sym (open_as o low) ∙ (ap (λ (x : Taken). is_open_at x o) (sym held_is) ∙ was));
        closed = λ o low was. ap (λ (x : Taken). slot_at x o) held_is ∙ (is.children o low).closed (ap (λ (x : Taken). is_open_at x o) (sym held_is) ∙ was);
        goes_there = (is.carried, among, is.goes_there);
        opens = λ o low was now tells. subst (λ (x : Taken). OpensOctant told v.note.flights visit.slot x o) (sym held_is) (opens o low now tells);
      }

      same_slot : (o : ℕ) → o < 8 → slot_at (Standing (cell_of held new)) o ≡ slot_at is.taken o
      same_slot o low = ap (λ (xs : List ℕ). slice_index xs o) stays.1 ∙ begun-slot held told is.taken is.carried.flight.key visit.node visit.was_blank is.node o low

      no_draw : (d : Draw) → IsMember d v.note.draws → ⊥
      no_draw d m = let n : IsMember d [] = subst (λ (ds : List Draw). IsMember d ds) is.undrawn m in n

      pub visit-unopened : HasOpened told v (cell_of held new) 0 false
      visit-unopened = record {
        full = λ e. absurd (false≢true e);
        not_full = λ e. is.unrefused;
        children = λ o less. absurd (omega (arith, less));
        others = λ o above low. same_slot o low ∙ ap (λ (x : Taken). slot_at x o) (sym held_is);
        draws = λ d m. absurd (no_draw d m);
        within = λ o low. omega (arith, same_slot o low, (is.children o low).within);
      }

      -- the landing, if slots were drawn and these flights leave
      pub lands : (w : View) (before : ℕ) (node : Node F) (landing : Landing F) → IsOpening v w → MayOpen held told w visit.slot before node → node_of held node ≡ node_of held new → file_of node ≡ file_of new → HasOpened told w (cell_of held node) 8 landing.is_full → landing.node ≡ node → landing.slot ≡ visit.slot → landing.number ≡ visit.number → (actor : ℕ) → actor ≡ is.carried.flight.actor → landing.fresh.items ≡ sent_on actor (cell_of held node) out → AllInBox old.rules.cube old.key old.points → AllInBox (node_of held node).rules.cube (node_of held node).key (node_of held node).points → IsCube told.rules.cube → length out ≡ 8 → IsLanding held told w landing
      lands w before node landing view may same file has node_is slot_is number_is actor actor_is sent old_inside new_inside cube eight = record {
        taken = is.taken;
        holds = holds ∙ ap (λ (k : ℕ). let o : Option (ℕ × Taken) = Some (k, is.taken) in o) (sym slot_is);
        share = may.share;
        within = subst (λ (u : View). (c : Carried) → IsMember c u.note.flights → c.slot ≤ told.most) (sym view) is.within;
        is_node = omega (arith, slot_is, is.is_node);
        carried = is.carried;
        its = subst (λ (u : View). At u.note.flights landing.number is.carried) (sym view) (subst (λ (k : ℕ). At v.note.flights k is.carried) (sym number_is) is.its);
        goes_there = is.goes_there ∙ sym slot_is;
        resident = ap (λ (n : Node F). state_of n) node_is ∙ may.resident;
        has_arrived = subst (λ (n : Node F). HasArrived told w is.taken is.carried.flight (cell_of held n) landing.fresh.items) (sym node_is) (subst (λ (fs : List Carried). HasArrived told w is.taken is.carried.flight (cell_of held node) fs) (sym made) arrives);
        fresh_within = λ c m. within_fresh c (subst (λ (fs : List Carried). IsMember c fs) made m);
        full = has.full;
        not_full = has.not_full;
        telling = λ tells. subst (λ (f : F). DoesTell held f) (sym (ap (λ (n : Node F). file_of n) node_is ∙ (file ∙ stays.2))) (is.telling tells);
      }
        where
          holds : w.hold ≡ Some (visit.slot, is.taken)
          holds = ap (λ (u : View). u.hold) view ∙ is.holds

          held_now : taken_by w ≡ is.taken
          held_now = ap taken_in holds

          meets_node : Meets old (node_of held node) is.carried.flight.points out
          meets_node = subst (λ (n : grid.Node). Meets old n is.carried.flight.points out) (sym same) meets

          made : landing.fresh.items ≡ sent_on is.carried.flight.actor (cell_of held node) out
          made = sent ∙ ap (λ (a : ℕ). sent_on a (cell_of held node) out) actor_is

          arrives : HasArrived told w is.taken is.carried.flight (cell_of held node) (sent_on is.carried.flight.actor (cell_of held node) out)
          arrives = has-arrived told w is.taken old is.carried.flight (cell_of held node) out landing.is_full is.flight is.node.key_is is.node.rules_are many_are points_are open_as (begun-stands held told is.taken is.carried.flight.key visit.node visit.was_blank is.node) old_inside new_inside meets_node has held_now cube eight

          within_fresh : (c : Carried) → IsMember c (sent_on is.carried.flight.actor (cell_of held node) out) → c.slot ≤ told.most
          within_fresh = fresh-within told w is.taken old is.carried.flight (cell_of held node) out landing.is_full is.flight is.node.key_is is.node.rules_are many_are points_are open_as (begun-stands held told is.taken is.carried.flight.key visit.node visit.was_blank is.node) old_inside new_inside meets_node has held_now cube eight

-- ---- a whole visit

pub visits-whole : {F : Type 0} (held : F → Option (List ℕ)) (told : Told) (v one two w : View) (visit : Visit F) (landing : Landing F) → TakesUp held told v one visit → IsOpening one two → IsLanding held told two landing → w ≡ leaving two landing.number landing.fresh.items → Visits told v w
visits-whole held told v one two w visit landing took view is after = record {
  carried = is.carried;
  number = landing.number;
  its = subst (λ (xs : List Carried). At xs landing.number is.carried) flights is.its;
  taken = is.taken;
  there = two;
  opens = view ∙ ap (λ (u : View). opening u two.note.draws two.note.wish two.refused) held_so;
  cell = cell_of held landing.node;
  fresh = landing.fresh.items;
  has_arrived = is.has_arrived;
  after = after;
}
  where
    flights : two.note.flights ≡ v.note.flights
    flights = ap (λ (u : View). u.note.flights) view ∙ ap (λ (u : View). u.note.flights) took.after

    same_hold : ◌≡◌ {A = Option (ℕ × Taken)} (Some (visit.slot, took.visits.taken)) (Some (landing.slot, is.taken))
    same_hold = sym (ap (λ (u : View). u.hold) view ∙ ap (λ (u : View). u.hold) took.after) ∙ is.holds

    held_so : one ≡ holding v is.carried.slot is.taken
    held_so = took.after ∙ ap (λ (p : ℕ × Taken). holding v p.0 p.1) (some_same same_hold ∙ ap (λ (k : ℕ). let p : ℕ × Taken = (k, is.taken) in p) (sym is.goes_there))
