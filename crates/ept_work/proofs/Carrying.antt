-- A flight of a worker.
use Rattle.std.proofs.Common.{◌≡◌, ◌∙◌, ◌⊎◌, ℕ, suc, ◌<◌, ◌≤◌, true, ◌==◌, inl, inr, List, ◌∷◌, length, take, drop, get_or, refl, sym, ap, subst, arith, Option}
use Rattle.std.specs.List.{remove}
use Rattle.ept_sample.specs.Members.{IsMember}
use Rattle.ept_sample.proofs.Members.{IsMember-left, IsMember-right, IsMember-append, any-member}
use Rattle.ept_node.specs.declared.node.Node.{Node}
use Rattle.ept_node.specs.Shown.{file_of, DoesTell}
use Rattle.ept_table.specs.declared.note.Told.{Told}
use Rattle.ept_table.specs.declared.note.Carried.{Carried}
use Rattle.ept_table.specs.declared.item.Item.{Item}
use Rattle.ept_table.specs.declared.item.Item.TheVariants as items
use Rattle.ept_table.specs.declared.taken.Cell.{Cell}
use Rattle.ept_table.specs.declared.taken.Taken.{Taken}
use Rattle.ept_table.specs.declared.taken.Taken.TheVariants.{Blank, Standing}
use Rattle.ept_table.specs.At.{At}
use Rattle.ept_table.specs.Item.{seen}
use Rattle.ept_table.specs.Steps.{holding, given_back, lacks_slot}
use Rattle.ept_table.specs.Tells.{Fits, FitsFlight}
use Rattle.ept_table.specs.View.{View}
use Rattle.ept_table.proofs.Lists.{below-at, at-get, at-member, at-cut}
use Rattle.ept_work.specs.declared.visit.Visit.{Visit}
use Rattle.ept_work.specs.Rest.{IsAtRest}
use Rattle.ept_work.specs.Visiting.{IsBegun, IsVisit, TakesUp, leaving}

pub at-got : {X : Type 0} (xs : List X) (n : ℕ) (x : X) → n < length xs → x ≡ get_or xs n x → At xs n x
at-got {X} xs n x low is =
    let a = below-at xs n low in subst (λ (y : X). At xs n y) (sym (at-get x a.1) ∙ sym is) a.1

-- the flight at a place of the list that a worker keeps is at that place of the flights that it carries
pub is-at : (v : View) (flights : List Carried) (n : ℕ) (c : Carried) → v.note.flights ≡ flights → n < length flights → c ≡ get_or flights n c → At v.note.flights n c
is-at v flights n c same low is = subst (λ (xs : List Carried). At xs n c) (sym same) (at-got flights n c low is)

-- a flight that is carried without a slot
pub lacks : (v : View) (c : Carried) → IsMember c v.note.flights → c.slot ≡ 0 → lacks_slot v.note.flights ≡ true
lacks v c m none = any-member (λ (d : Carried). d.slot == 0) c v.note.flights m (ap (λ (n : ℕ). n == 0) none)

pub kept-member : (xs : List Carried) (n : ℕ) (x c : Carried) → At xs n x → IsMember c (remove xs n) → IsMember c xs
kept-member xs n x c at m = subst (λ (ys : List Carried). IsMember c ys) (sym (at-cut at)) (elim (IsMember-append c (take n xs) (drop (suc n) xs) m) [
  | inl left ↦ IsMember-left c (take n xs) (x ∷ drop (suc n) xs) left
  | inr right ↦ IsMember-right c (take n xs) (x ∷ drop (suc n) xs) (inr right)
])

-- ---- an item that is no reader is a node

pub node-taken : {F S : Type 0} (held : F → Option (List ℕ)) (whole : S → Option (List ℕ)) (x : Item F S) → ((seen held whole x ≡ Blank) ⊎ ((d : Cell) × (seen held whole x ≡ Standing d))) → (y : Node F) × (x ≡ items.Node y)
node-taken held whole (items.Node y) is = (y, refl)
node-taken held whole (items.Reader y) (inl e) = absurd (cc)
node-taken held whole (items.Reader y) (inr e) = absurd (let d = e.1 in cc)

-- ---- a node is taken up

pub takes-up : {F : Type 0} (held : F → Option (List ℕ)) (told : Told) (v w : View) (x : Taken) (slot n : ℕ) (c : Carried) (visit : Visit F) → IsAtRest told v → w ≡ holding v slot x → Fits told v slot x → At v.note.flights n c → c.slot ≡ slot → 0 < slot → visit.slot ≡ slot → visit.number ≡ n → IsBegun held told x c.flight.key visit.node visit.was_blank → (told.tells ≡ true → DoesTell held (file_of visit.node)) → TakesUp held told v w visit
takes-up held told v w x slot n c visit rest took fits its goes some slot_is number_is begun telling = record {
  visits = record {
    taken = x;
    holds = ap (λ (u : View). u.hold) after;
    share = subst (λ (u : View). 0 < u.parts) (sym after) rest.idle.share;
    undrawn = ap (λ (u : View). u.note.draws) after ∙ rest.idle.undrawn;
    unrefused = ap (λ (u : View). u.refused) after ∙ rest.unrefused;
    within = subst (λ (u : View). (d : Carried) → IsMember d u.note.flights → d.slot ≤ told.most) (sym after) rest.within;
    is_node = omega (arith, slot_is, some);
    carried = c;
    its = subst (λ (u : View). At u.note.flights visit.number c) (sym after) (subst (λ (k : ℕ). At v.note.flights k c) (sym number_is) its);
    goes_there = goes ∙ sym slot_is;
    flight = flies.sound;
    different = flies.different;
    children = fits.child;
    node = begun;
    telling = telling;
  };
  after = after;
}
  where
    after : w ≡ holding v visit.slot x
    after = took ∙ ap (λ (k : ℕ). holding v k x) (sym slot_is)

    flies : FitsFlight told c x
    flies = fits.flight c (at-member v.note.flights n c its) goes some

-- ---- a worker at rest afterwards

pub left-rest : (told : Told) (v w : View) (n : ℕ) (x : Carried) (fresh : List Carried) → w ≡ leaving v n fresh → 0 < v.parts → v.refused ≡ 0 → At v.note.flights n x → ((c : Carried) → IsMember c v.note.flights → c.slot ≤ told.most) → ((c : Carried) → IsMember c fresh → c.slot ≤ told.most) → IsAtRest told w
left-rest told v w n x fresh after share unrefused its within fresh_within = subst (λ (u : View). IsAtRest told u) (sym after) (record {
  idle = record { share = share; free = refl; undrawn = refl };
  unrefused = unrefused;
  within = λ c m. elim (IsMember-append c (remove v.note.flights n) fresh m) [
    | inl was ↦ within c (kept-member v.note.flights n x c its was)
    | inr new ↦ fresh_within c new
  ];
})

pub back-rest : {F : Type 0} (held : F → Option (List ℕ)) (told : Told) (v w : View) (visit : Visit F) → IsVisit held told v visit → w ≡ given_back v v.note → IsAtRest told w
back-rest held told v w visit is after = subst (λ (u : View). IsAtRest told u) (sym after) (record {
  idle = record { share = is.share; free = refl; undrawn = is.undrawn };
  unrefused = is.unrefused;
  within = is.within;
})
