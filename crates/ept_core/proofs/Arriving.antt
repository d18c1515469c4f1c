-- What the law states of a flight that is to arrive.
use Rattle.std.proofs.Common.{◌≡◌, ◌∙◌, ℕ, suc, ◌≤◌, ◌<◌, Bool, true, false, List, ◌∷◌, ◌++◌, refl, sym, ap, subst, arith, length, get_or, take, drop, inl, inr, append_assoc, Result, Ok, Err, IfOk, count_by}
use Rattle.std.proofs.Math.Seq.{split_at}
use Rattle.std.proofs.Props.{props}
use Rattle.std.specs.List.{remove}
use Rattle.std.proofs.lemmas.List.{take-append-le, drop-append-le}
use Rattle.ept_point.specs.declared.memory.Memory.{Memory}
use Rattle.ept_core.specs.declared.arrival.Effect.{Effect}
use Rattle.ept_point.specs.declared.point.Point.{Point}
use Rattle.ept_space.specs.declared.cube.Rules.{Rules}
use Rattle.ept_space.specs.VoxelKey.{VoxelKey}
use Rattle.ept_space.specs.OctreeCube.{OctreeCube, InCube, InBox}
use Rattle.ept_sample.specs.Place.{place, AllInCube, AllInBox}
use Rattle.ept_sample.specs.Ids.{HasDistinctIds, in_id_order}
use Rattle.ept_sample.specs.declared.tiles.Tile.{Tile}
use Rattle.ept_sample.specs.Members.{IsMember}
use Rattle.ept_sample.proofs.Members.{IsMember-right, all-member, All-members}
use Rattle.ept_core.specs.declared.flight.Flight.{Flight}
use Rattle.ept_core.specs.State.{State, Entry, node_at, IsHeld}
use Rattle.ept_core.specs.Law.{KeepsLaw}
use Rattle.ept_core.specs.Steps.{gathered, is_of, IsFlight}
use Rattle.ept_core.proofs.Held.{held-point}
use Rattle.ept_core.proofs.ArriveLaw.{from_given, distinct_gathered}

-- ---- each has one proof

pub distinct-prop : (xs : List Point) → IsProp (HasDistinctIds xs)
unfolding HasDistinctIds
distinct-prop xs = hlevel props

pub box-prop : (cube : OctreeCube) (key : VoxelKey) (xs : List Point) → IsProp (AllInBox cube key xs)
unfolding InBox
box-prop cube key xs = hlevel props

pub cube-prop : (cube : OctreeCube) (xs : List Point) → IsProp (AllInCube cube xs)
unfolding InCube
cube-prop cube xs = hlevel props

pub depth-prop : (a b : ℕ) → IsProp (a ≤ b)
depth-prop a b = hlevel props

pub bottom-prop : (rules : Rules) (key : VoxelKey) (opened : List Bool) → IsProp ((o : ℕ) → o < 8 → get_or opened o false ≡ true → key.depth < rules.cube.depth)
bottom-prop rules key opened = hlevel props

pub tiles-prop : (xs ys : List Tile) → IsProp (xs ≡ ys)
tiles-prop xs ys = hlevel props

pub gathered-is : (nodes : List Entry) (f : Flight) → in_id_order (f.points ++ (node_at nodes f.key).points) ≡ gathered nodes f
unfolding gathered
gathered-is nodes f = refl

module _ (rules : Rules) (points : List Point) (s : State) (index : ℕ) (f : Flight) (low : index < length s.flights) (at : f ≡ get_or s.flights index f) (law : KeepsLaw rules points s) where
  pub flight-stands : s.flights ≡ take index s.flights ++ f ∷ drop (suc index) s.flights
  flight-stands =
      split_at s.flights index f low ∙ ap (λ (w : Flight). take index s.flights ++ w ∷ drop (suc index) s.flights) (sym at)

  flight-there : IsMember f s.flights
  flight-there =
      subst (λ (w : List Flight). IsMember f w) (sym flight-stands) (IsMember-right f (take index s.flights) (f ∷ drop (suc index) s.flights) (inl refl))

  pub distinct-arrival : HasDistinctIds (f.points ++ (node_at s.nodes f.key).points)
  distinct-arrival =
      distinct_gathered rules points s (take index s.flights) f (drop (suc index) s.flights) law flight-stands

  held-gathered : (p : Point) → IsMember p (gathered s.nodes f) → IsHeld s f.key p
  held-gathered p m = from_given rules points s (take index s.flights) f (drop (suc index) s.flights) law flight-stands p m

  pub box-arrival : AllInBox rules.cube f.key (gathered s.nodes f)
  box-arrival =
      All-members (λ (p : Point). InBox rules.cube f.key (place p)) (gathered s.nodes f) (λ p m. law.placed.in_box f.key p (held-gathered p m))

  pub cube-arrival : AllInCube rules.cube (gathered s.nodes f)
  cube-arrival =
      All-members (λ (p : Point). InCube rules.cube (place p)) (gathered s.nodes f) (λ p m. all-member (λ (q : Point). InCube rules.cube (place q)) p points law.points_law.inside (held-point rules points s law f.key p (held-gathered p m)))

  pub low-arrival : f.key.depth ≤ rules.cube.depth
  low-arrival =
      let q = law.rooted.flying f flight-there in law.placed.shallow f.key q.0 (inr (f, flight-there, refl, q.1))

-- if P implies Q for each effect, it does so for the effect of a result
pub effect-ok : (r : Result Effect Memory) (P Q : Effect → Type 0) → ((e : Effect) → P e → Q e) → IfOk r P → IfOk r Q
effect-ok (Ok e) P Q more h = more e h
effect-ok (Err e) P Q more h = tt

-- the flights after one of them arrived
pub flights-removed : (flights more : List Flight) (index : ℕ) → index < length flights → remove (flights ++ more) index ≡ remove flights index ++ more
flights-removed flights more index low =
    ap (λ (w : List Flight). w ++ drop (suc index) (flights ++ more)) (take-append-le index flights more (omega (arith, low)))
    ∙ (ap (λ (w : List Flight). take index flights ++ w) (drop-append-le (suc index) flights more (omega (arith, low)))
    ∙ sym (append_assoc (take index flights) (drop (suc index) flights) more))

-- the flight at a place is the actor's flight of its number
pub is-flight : (flights xs : List Flight) (actor number i : ℕ) (f : Flight) → xs ≡ flights → i < length xs → count_by (is_of actor) (take i xs) ≡ number → ((g : Flight) → (get_or xs i g).actor ≡ actor) → f ≡ get_or flights i f → IsFlight flights actor number (take i flights) f (drop (suc i) flights)
is-flight flights xs actor number i f same low count mine at = record {
  stands = split_at flights i f (subst (λ (w : List Flight). i < length w) same low) ∙ ap (λ (w : Flight). take i flights ++ w ∷ drop (suc i) flights) (sym at);
  of_actor = ap (λ (w : Flight). w.actor) at ∙ subst (λ (w : List Flight). (get_or w i f).actor ≡ actor) same (mine f);
  numbered = subst (λ (w : List Flight). count_by (is_of actor) (take i w) ≡ number) same count;
}
