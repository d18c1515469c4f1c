-- Slots for the children of the octants that open, one after another.
use Rattle.std.proofs.Common.{◌≡◌, ◌∙◌, ℕ, ◌+◌, ◌<◌, ◌≤◌, ◌/◌, ◌^◌, ◌==◌, ◌&&◌, not, bit_and, slice_index, get_or-set_other, Bool, true, false, ◌⊎◌, inl, inr, List, set, refl, sym, ap, subst, arith, Option}
use Rattle.std.proofs.lemmas.Bool.{false≢true}
use Rattle.std.proofs.lemmas.Nat.Bits.{shr_and_one}
use Rattle.ept_sample.specs.Members.{IsMember}
use Rattle.ept_grid.specs.Mask.{opened}
use Rattle.ept_grid.specs.Node.{Node, is_open_in}
use Rattle.ept_node.specs.declared.node.Node as node_type
use Rattle.ept_node.specs.Shown.{node_of}
use Rattle.ept_table.proofs.Lists.{same_or_not}
use Rattle.ept_table.specs.declared.note.Told.{Told}
use Rattle.ept_table.specs.declared.note.Draw.{Draw}
use Rattle.ept_table.specs.declared.taken.Cell.{Cell}
use Rattle.ept_table.specs.declared.taken.Taken.TheVariants.{Standing}
use Rattle.ept_table.specs.Taken.{is_open_at, slot_at}
use Rattle.ept_table.specs.Steps.{noting, refused_more, wishing, drawing, HasChild, MayDraw}
use Rattle.ept_table.specs.Tells.{IsTooMany}
use Rattle.ept_table.specs.View.{View}
use Rattle.ept_work.specs.Opening.{taken_by, MayOpen, HasOpened}

-- what holds of the octants below a number and of that number holds of the octants below the next
below_next : (P : ℕ → Type 0) (n : ℕ) → ((o : ℕ) → o < n → P o) → P n → (o : ℕ) → o < n + 1 → P o
below_next P n below here o low = elim (split o n low) [ inl less ↦ below o less | inr same ↦ subst P (sym same) here ]
  where
    split : (o n : ℕ) → o < n + 1 → (o < n) ⊎ (o ≡ n)
    split o n low = grind arith

-- ---- one octant more

module _ (told : Told) (v : View) (c : Cell) (n : ℕ) (full : Bool) (h : HasOpened told v c n full) (low : n < 8) where
  -- the octant is as it was, or still closed, or no more slots are drawn
  pub opened-same : HasChild v (taken_by v) c n → HasOpened told v c (n + 1) full
  opened-same child = record {
    full = h.full;
    not_full = h.not_full;
    children = below_next (λ o. HasChild v (taken_by v) c o) n h.children child;
    others = λ o above less. h.others o (omega (arith, above)) less;
    draws = λ d m. (let r = h.draws d m in (omega (arith, r.0), r.1, r.2));
    within = h.within;
  }

  mine : slot_at (Standing c) n ≡ slot_at (taken_by v) n
  mine = h.others n (omega arith) low

  pub child-kept : is_open_at (taken_by v) n ≡ true → is_open_in c.node n ≡ true → HasChild v (taken_by v) c n
  child-kept was is = record {
    kept = λ e. mine;
    drawn = λ wasn't e. absurd (false≢true (sym wasn't ∙ was));
    none = λ isn't. absurd (false≢true (sym isn't ∙ is));
  }

  pub child-closed : is_open_at (taken_by v) n ≡ false → slot_at (taken_by v) n ≡ 0 → is_open_in c.node n ≡ false → HasChild v (taken_by v) c n
  child-closed wasn't none isn't = record {
    kept = λ e. mine;
    drawn = λ e is. absurd (false≢true (sym isn't ∙ is));
    none = λ e. mine ∙ none;
  }

  pub child-lacks : full ≡ true → is_open_at (taken_by v) n ≡ false → slot_at (taken_by v) n ≡ 0 → HasChild v (taken_by v) c n
  child-lacks is_full wasn't none = record {
    kept = λ e. mine;
    drawn = λ e is. inr (mine ∙ none, (h.full is_full).0);
    none = λ e. mine ∙ none;
  }

  -- a slot is needed only if none was refused, and the octant was closed and is open
  pub opened-unasked : (was is : Bool) → is_open_at (taken_by v) n ≡ was → is_open_in c.node n ≡ is → (was ≡ true → is ≡ true) → (was ≡ false → slot_at (taken_by v) n ≡ 0) → (not full && (not was && is)) ≡ false → HasOpened told v c (n + 1) full
  opened-unasked true true was is stays closed asks = opened-same (child-kept was is)
  opened-unasked true false was is stays closed asks = absurd (false≢true (stays refl))
  opened-unasked false false was is stays closed asks = opened-same (child-closed was (closed refl) is)
  opened-unasked false true was is stays closed asks = opened-same (child-lacks (full_then full asks) was (closed refl))
    where
      full_then : (b : Bool) → (not b && (not false && true)) ≡ false → b ≡ true
      full_then true e = refl
      full_then false e = absurd (false≢true (sym e))

pub asked-parts : (full was is : Bool) → (not full && (not was && is)) ≡ true → (full ≡ false) × (was ≡ false) × (is ≡ true)
asked-parts true was is e = absurd (false≢true e)
asked-parts false true is e = absurd (false≢true e)
asked-parts false false true e = (refl, refl, refl)
asked-parts false false false e = absurd (false≢true e)

pub may-draw : {F : Type 0} (held : F → Option (List ℕ)) (told : Told) (v : View) (slot before : ℕ) (node : node_type.Node F) (c : Cell) (n : ℕ) (full : Bool) → MayOpen held told v slot before node → HasOpened told v c n full → n < 8 → is_open_at (taken_by v) n ≡ false → is_open_in (node_of held node) n ≡ true → MayDraw told v slot (taken_by v) n
may-draw held told v slot before node c n full may h low was is = record {
  is_node = may.is_node;
  low = low;
  closed = was;
  not_yet = λ d m e. (let r = h.draws d m in omega (arith, r.0, e));
  goes_there = may.goes_there;
  opens = λ tells. may.opens n low was is tells;
}

other_slot : (xs : List ℕ) (n o slot : ℕ) → (o ≡ n → ⊥) → slice_index (set xs n slot) o ≡ slice_index xs o
other_slot xs n o slot apart = get_or-set_other xs n o slot 0 apart

-- a slot was drawn for the octant
module _ (told : Told) (v w : View) (c c' : Cell) (n slot : ℕ) (full : Bool) (h : HasOpened told v c n full) (low : n < 8)
    (not_full : full ≡ false) (was : is_open_at (taken_by v) n ≡ false) (is : is_open_in c.node n ≡ true)
    (after : w ≡ noting v (drawing (wishing v.note n) slot)) (node : c'.node ≡ c.node) (children : c'.children ≡ set c.children n slot)
    (set_there : slot_at (Standing c') n ≡ slot) (small : slot ≤ told.most) where
  abbrev next : View
  next = noting v (drawing (wishing v.note n) slot)

  still_open : (o : ℕ) (b : Bool) → is_open_in c.node o ≡ b → is_open_in c'.node o ≡ b
  still_open o b e = ap (λ (g : Node). is_open_in g o) node ∙ e

  same_slot : (o : ℕ) → (o ≡ n → ⊥) → slot_at (Standing c') o ≡ slot_at (Standing c) o
  same_slot o apart = ap (λ (xs : List ℕ). slice_index xs o) children ∙ other_slot c.children n o slot apart

  child_below : (o : ℕ) → o < n → HasChild next (taken_by v) c' o
  child_below o less = (
      let child = h.children o less in
      let apart : o ≡ n → ⊥ = λ e. omega (arith, e, less) in
      record {
        kept = λ e. same_slot o apart ∙ child.kept e;
        drawn = λ shut e. elim (child.drawn shut (ap (λ (g : Node). is_open_in g o) (sym node) ∙ e)) [
          | inl d ↦ inl (d.0, inr d.1, d.2, same_slot o apart ∙ d.3)
          | inr none ↦ inr (same_slot o apart ∙ none.0, none.1)
        ];
        none = λ e. same_slot o apart ∙ child.none (ap (λ (g : Node). is_open_in g o) (sym node) ∙ e);
      })

  child_here : HasChild next (taken_by v) c' n
  child_here = record {
    kept = λ e. absurd (false≢true (sym was ∙ e));
    drawn = λ shut e. inl (record { slot = slot; octant = n }, inl refl, refl, set_there);
    none = λ e. absurd (false≢true (sym e ∙ still_open n true is));
  }

  opened_next : HasOpened told next c' (n + 1) full
  opened_next = record {
    full = λ e. absurd (false≢true (sym not_full ∙ e));
    not_full = h.not_full;
    children = below_next (λ o. HasChild next (taken_by v) c' o) n child_below child_here;
    others = λ o above less. same_slot o (λ e. omega (arith, e, above)) ∙ h.others o (omega (arith, above)) less;
    draws = draws;
    within = λ o less. elim (same_or_not o n) [
      | inl e ↦ omega (arith, ap (λ (k : ℕ). slot_at (Standing c') k) e, set_there, small)
      | inr apart ↦ omega (arith, same_slot o apart, h.within o less)
    ];
  }
    where
      draws : (d : Draw) → IsMember d next.note.draws → (d.octant < n + 1) × (is_open_in c'.node d.octant ≡ true) × (slot_at (Standing c') d.octant ≡ d.slot)
      draws d (inl e) = subst (λ (z : Draw). (z.octant < n + 1) × (is_open_in c'.node z.octant ≡ true) × (slot_at (Standing c') z.octant ≡ z.slot)) e (omega arith, still_open n true is, set_there)
      draws d (inr m) = (
          let r = h.draws d m in
          (omega (arith, r.0), still_open d.octant true r.1, same_slot d.octant (λ e. omega (arith, e, r.0)) ∙ r.2))

  pub opened-drawn : HasOpened told w c' (n + 1) full
  opened-drawn = subst (λ (u : View). HasOpened told u c' (n + 1) full) (sym after) opened_next

-- a slot for it was refused
pub opened-refused : (told : Told) (v w : View) (c : Cell) (n : ℕ) (full : Bool) → HasOpened told v c n full → n < 8 → is_open_at (taken_by v) n ≡ false → slot_at (taken_by v) n ≡ 0 → w ≡ refused_more (noting v (wishing v.note n)) → IsTooMany told → HasOpened told w c (n + 1) true
opened-refused told v w c n full h low was none after many = subst (λ (u : View). HasOpened told u c (n + 1) true) (sym after) (record {
  full = λ e. (omega arith, many);
  not_full = λ e. absurd (false≢true (sym e));
  children = below_next (λ o. HasChild (refused_more (noting v (wishing v.note n))) (taken_by v) c o) n below here;
  others = λ o above less. h.others o (omega (arith, above)) less;
  draws = λ d m. (let r = h.draws d m in (omega (arith, r.0), r.1, r.2));
  within = h.within;
})
  where
    below : (o : ℕ) → o < n → HasChild (refused_more (noting v (wishing v.note n))) (taken_by v) c o
    below o less = (let child = h.children o less in record {
      kept = child.kept;
      drawn = λ shut e. elim (child.drawn shut e) [ inl d ↦ inl d | inr lacks ↦ inr (lacks.0, omega arith) ];
      none = child.none;
    })

    here : HasChild (refused_more (noting v (wishing v.note n))) (taken_by v) c n
    here = record {
      kept = λ e. absurd (false≢true (sym was ∙ e));
      drawn = λ shut e. inr (h.others n (omega arith) low ∙ none, omega arith);
      none = λ e. h.others n (omega arith) low ∙ none;
    }

pub opened-shift : (mask o : ℕ) → (bit_and (mask / 2 ^ o) 1 == 1) ≡ opened mask o
unfolding opened
opened-shift mask o = ap (λ n. n == 1) (shr_and_one mask o)
