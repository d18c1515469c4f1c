-- What a step leaves in the hand of a seat.
use Rattle.std.proofs.Common.{◌≡◌, ℕ, List, [], ◌∷◌, sym, refl, ap, ◌∙◌}
use mathlib.Core.Option.{Option, some}
use mathlib.Core.Path.{Path}
use Rattle.atomic_table.specs.Table.{Me, rest}
use Rattle.ept_slots.specs.declared.slot.Slot.{Slot}
use Rattle.ept_slots.specs.declared.slot.Slot.TheVariants.{Out, Here, Said, Spare}
use Rattle.std.specs.declared.alloc.Global.{Global}
use Rattle.std.specs.declared.vec.Vec.{Vec}
use Rattle.ept_slots.specs.declared.view.View.{View}
use Rattle.ept_slots.specs.Views.{Holds, HoldsNothing}
use Rattle.ept_slots.specs.Seating.{emptied}

module _ {T N W : Type 0} where
  -- a seat whose view is w and whose hand is h
  pub seat-is : (m : Me (Slot T W) (View T N)) (w : View T N) (h : List (ℕ × Slot T W)) (most : ℕ) → m.0 ≡ w → m.1 ≡ h → w.most ≡ most → h ≡ emptied w.hold → (m.0.most ≡ most) × (m.1 ≡ emptied m.0.hold)
  seat-is m w h most e f p q = (ap (λ (v : View T N). v.most) e ∙ p, f ∙ (q ∙ sym (ap (λ (v : View T N). emptied {T = T} {W = W} v.hold) e)))

  pub hand-held : (v : View T N) (k : ℕ) (x : T) → Holds v k x → emptied {T = T} {W = W} v.hold ≡ (k, Out) ∷ []
  hand-held v k x h = ap (emptied {T = T} {W = W}) h

  pub hand-none : (v : View T N) → HoldsNothing v → emptied {T = T} {W = W} v.hold ≡ []
  hand-none v h = ap (emptied {T = T} {W = W}) h

module _ {S : Type 0} where
  pub led : (l t : List (ℕ × S)) (k : ℕ) (a : S) → l ≡ (k, a) ∷ t → (x : S) × (l ≡ (k, x) ∷ rest l)
  led l t k a e = (a, e ∙ ap (λ (z : List (ℕ × S)). (k, a) ∷ rest z) (sym e))

  pub behind : (l t : List (ℕ × S)) (k : ℕ) (a : S) → l ≡ (k, a) ∷ t → rest l ≡ t
  behind l t k a e = ap rest e

  heads : (a b : ℕ × S) (t u : List (ℕ × S)) → a ∷ t ≡ b ∷ u → a ≡ b
  heads a b t u e = cc

  pub in-hand : (l t u : List (ℕ × S)) (k : ℕ) (a b : S) → l ≡ (k, a) ∷ t → l ≡ (k, b) ∷ u → a ≡ b
  in-hand l t u k a b e f = ap (λ (p : ℕ × S). p.1) (heads (k, a) (k, b) t u (sym e ∙ f))

module _ {T W : Type 0} where
  pub same-item : (s : Slot T W) (x y : T) → s ≡ Here x → s ≡ Here y → x ≡ y
  same-item s x y e f = cc

  pub same-said : (s : Slot T W) (x y : W) → s ≡ Said x → s ≡ Said y → x ≡ y
  same-said s x y e f = cc

  pub same-spare : (s : Slot T W) (a b : Vec T Global) → s ≡ Spare a → s ≡ Spare b → a ≡ b
  same-spare s a b e f = cc

  pub told-said : (s : Option (Slot T W)) (x y : W) → s ≡ some (Said x) → s ≡ some (Said y) → x ≡ y
  told-said s x y e f = cc

  -- one slot in the hand
  pub lone-item : (k l : ℕ) (x y : T) → Path (List (ℕ × Slot T W)) ((k, Here x) ∷ []) ((l, Here y) ∷ []) → x ≡ y
  lone-item k l x y e = same-item (Here x) x y refl (ap (λ (p : ℕ × Slot T W). p.1) (heads (k, Here x) (l, Here y) [] [] e))
