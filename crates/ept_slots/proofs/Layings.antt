-- Items that are laid into slots one by one, and taken back.
use Rattle.std.proofs.Common.{◌≡◌, ℕ, zero, suc, ◌+◌, ◌<◌, ◌≤◌, ◌≢◌, Bool, false, List, [], ◌∷◌, ◌++◌, map, length, reverse, get_or, set, get_or-set_same, get_or-set_other, sym, refl, ap, subst, ◌∙◌, arith, length-append}
use Rattle.std.proofs.lemmas.List.{reverse-append, reverse-reverse, append_assoc, append-nil, length-reverse, length-map, map-id}
use Rattle.std.specs.Vec.{vec_capacity}
use Rattle.std.specs.declared.alloc.Global.{Global}
use Rattle.std.specs.declared.vec.Vec.{Vec}
use mathlib.Core.Option.{some, some-injective}
use lib.ListN.{get_elem?}
use Rattle.atomic_table.proofs.Lists.{at_map, at_longer, at_last}
use Rattle.ept_slots.specs.declared.slot.Slot.{Slot}
use Rattle.ept_slots.specs.declared.slot.Slot.TheVariants.{Here, Spare}
use Rattle.ept_slots.specs.Views.{At}
use Rattle.ept_slots.specs.Laid.{IsLaid}
use Rattle.ept_slots.proofs.Places.{at-below, there}
use Rattle.ept_slots.proofs.Hands.{same-item}

-- a list with the same places is the same list
pub same-places : {A B : Type 0} (f : A → B) (xs : List A) (ys : List B) → length ys ≡ length xs → ((k : ℕ) (a : A) → At xs k a → At ys k (f a)) → ys ≡ map f xs
same-places f [] [] long each = refl
same-places f [] (y ∷ ys) long each = absurd (omega arith)
same-places f (x ∷ xs) [] long each = absurd (omega arith)
same-places f (x ∷ xs) (y ∷ ys) long each = let rest = same-places f xs ys (omega arith) (λ k a e. each (suc k) a e) in let here = some-injective y (f x) (each 0 x refl) in λ i. here i ∷ rest i

pub no-items : {A : Type 0} (l : List A) → length l ≡ 0 → l ≡ []
no-items [] e = refl
no-items (x ∷ xs) e = absurd (omega arith)

pub one-more : {A : Type 0} (l : List A) (y : A) (ys : List A) → l ≡ y ∷ ys → length l ≡ length ys + 1
one-more l y ys e = let more : length l ≡ length (y ∷ ys) = ap length e in omega arith

middle : {A : Type 0} (done : List A) (y : A) (ys : List A) (i : ℕ) → length done ≡ i → At (done ++ y ∷ ys) i y
middle [] y ys zero e = refl
middle [] y ys (suc i) e = absurd (omega arith)
middle (x ∷ xs) y ys zero e = absurd (omega arith)
middle (x ∷ xs) y ys (suc i) e = middle xs y ys i (omega arith)

module _ {T W : Type 0} where
  abbrev pub here : T → Slot T W
  here x = Here x

  -- some items still wait, the last first, and the others are laid
  abbrev pub IsHalf : List T → List T → List (Slot T W) → Type 0
  IsHalf all items slots = slots ++ map here (reverse items) ≡ map here all

  pub half-start : (all : List T) → IsHalf all (reverse all) []
  half-start all = ap (map here) (reverse-reverse all)

  pub half-step : (all items : List T) (x : T) (slots : List (Slot T W)) → IsHalf all (items ++ x ∷ []) slots → IsHalf all items (slots ++ Here x ∷ [])
  half-step all items x slots h = append_assoc slots (Here x ∷ []) (map here (reverse items)) ∙ (ap (λ (z : List T). slots ++ map here z) (sym (reverse-append items (x ∷ []))) ∙ h)

  pub half-length : (all items : List T) (slots : List (Slot T W)) → IsHalf all items slots → length slots + length items ≡ length all
  half-length all items slots h = omega (arith, length-append slots (map here (reverse items)), length-map (reverse items) here, length-reverse items, length-map all here, ap length h)

  pub half-end : (all : List T) (slots : List (Slot T W)) → IsHalf all [] slots → slots ≡ map here all
  half-end all slots h = sym (append-nil slots) ∙ h

  pub laid : (all : List T) (slots : List (Slot T W)) (list : Vec T Global) → slots ≡ map here all → list.items ≡ [] → length all ≤ vec_capacity list → IsLaid all (slots ++ Spare list ∷ [])
  laid all slots list is empty room = let long : length slots ≡ length all = ap length is ∙ length-map all here in record {
    long = length-append slots (Spare list ∷ []) ∙ ap (λ (z : ℕ). z + 1) long;
    here = λ k x e. at_longer slots (Spare list ∷ []) k (Here x) (subst (λ (z : List (Slot T W)). At z k (Here x)) (sym is) (at_map here all k x e));
    list = list;
    last = at_last slots (Spare list) (length all) long;
    empty = empty;
    room = room;
  }

  -- the last slot has the list, and the slots before it the items
  pub unlaid : (all : List T) (slots : List (Slot T W)) (last : Slot T W) (l : IsLaid all (slots ++ last ∷ [])) → (last ≡ Spare l.list) × (slots ≡ map here all)
  unlaid all slots last l = let long : length slots ≡ length all = omega (arith, l.long, length-append slots (last ∷ [])) in (
    some-injective last (Spare l.list) (sym (at_last slots last (length all) long) ∙ l.last),
    same-places here all slots long (λ k x e. let near = at-below all k x e in let at = there slots k (omega arith) in
        at.1 ∙ ap some (some-injective at.0 (Here x) (sym (at_longer slots (last ∷ []) k at.0 at.1) ∙ l.here k x e))),
  )

  -- what lies in the slots is one list
  pub laid-same : (all others : List T) (slots : List (Slot T W)) → IsLaid all slots → IsLaid others slots → all ≡ others
  laid-same all others slots l m = let al : length slots ≡ length all + 1 = l.long in let ol : length slots ≡ length others + 1 = m.long in
      same-places (λ x. x) others all (omega arith) (λ k x e. let near = at-below others k x e in let at = there all k (omega arith) in
      at.1 ∙ ap some (same-item (Here x) at.0 x (some-injective (Here x) (Here at.0) (sym (m.here k x e) ∙ l.here k at.0 at.1)) refl)) ∙ map-id others

  -- the slots that wait, the last first, have the items of this list
  pub back-step : (slots : List (Slot T W)) (slot : Slot T W) (rest : List T) → reverse (slots ++ slot ∷ []) ≡ map here rest → (y : T) × (ys : List T) × (rest ≡ y ∷ ys) × (slot ≡ Here y) × (reverse slots ≡ map here ys)
  back-step slots slot [] h = let e : slot ∷ reverse slots ≡ [] = sym (reverse-append slots (slot ∷ [])) ∙ h in cc
  back-step slots slot (y ∷ ys) h = let e : slot ∷ reverse slots ≡ Here y ∷ map here ys = sym (reverse-append slots (slot ∷ [])) ∙ h in (y, ys, refl, cc, cc)

  pub back-end : (rest : List T) → [] ≡ map here rest → rest ≡ []
  back-end [] h = refl
  back-end (y ∷ ys) h = cc

  -- what lies after the last slot, and in the next one
  pub last-is : (all : List T) (slots : List (Slot T W)) (l : IsLaid all slots) (count : ℕ) (s : Slot T W) → length all ≡ count → At slots count s → s ≡ Spare l.list
  last-is all slots l count s e at = some-injective s (Spare l.list) (sym at ∙ (ap (λ (i : ℕ). get_elem? slots i) (sym e) ∙ l.last))

  pub next-is : (done rest : List T) (slots : List (Slot T W)) → IsLaid (done ++ rest) slots → (i count : ℕ) (s : Slot T W) → length done ≡ i → i + length rest ≡ count → i < count → At slots i s → (y : T) × (ys : List T) × (rest ≡ y ∷ ys) × (s ≡ Here y)
  next-is done [] slots l i count s e f less at = absurd (omega arith)
  next-is done (y ∷ ys) slots l i count s e f less at = (y, ys, refl, some-injective s (Here y) (sym at ∙ l.here i y (middle done y ys i e)))

-- a place that is emptied, and the others
pub place-emptied : (fs fs' : List Bool) (k : ℕ) → fs' ≡ set fs k false → k < length fs → get_or fs' k false ≡ false
place-emptied fs fs' k e h = ap (λ (z : List Bool). get_or z k false) e ∙ get_or-set_same fs k false false h

pub place-kept : (fs fs' : List Bool) (k j : ℕ) → fs' ≡ set fs k false → j ≢ k → get_or fs' j false ≡ get_or fs j false
place-kept fs fs' k j e ne = ap (λ (z : List Bool). get_or z j false) e ∙ get_or-set_other fs k j false false ne
