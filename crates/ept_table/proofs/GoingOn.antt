-- A landed table continues with another allowance.
use Rattle.std.proofs.Common.{◌≡◌, ◌∙◌, ℕ, suc, true, ◌⊎◌, inl, inr, List, [], drop, set, sym, ap, subst, arith, Some, None}
use Rattle.ept_space.specs.VoxelKey.{VoxelKey, root}
use Rattle.ept_core.specs.State.{State}
use Rattle.ept_core.specs.Law.{KeepsLaw}
use Rattle.ept_table.specs.declared.note.Told.{Told}
use Rattle.ept_table.specs.declared.taken.Cell.{Cell}
use Rattle.ept_table.specs.declared.taken.Progress.{Progress}
use Rattle.ept_table.specs.declared.taken.Taken.{Taken}
use Rattle.ept_table.specs.declared.taken.Taken.TheVariants.{Blank, Standing, Reading}
use Rattle.ept_table.specs.At.{At}
use Rattle.ept_table.specs.Taken.{count_of, slot_at}
use Rattle.ept_table.specs.Shown.{KeyOf, IsChild, IsDrawn, IsSound, FitsReader, IsTold, Shows}
use Rattle.ept_table.specs.Tells.{IsLanded}
use Rattle.ept_table.specs.Octree.{keys_in, FillSlots}
use Rattle.ept_table.specs.OctreeLaws.{going_on}
use Rattle.ept_table.proofs.Lists.{at-same, at-below, at-set, at-other, set-at, length-set, sum-set, nothing-at}
use Rattle.ept_table.proofs.ReaderBack.{reading-same}
use Rattle.ept_table.proofs.LandedNodes.{not-over, landed-fills}
use Rattle.ept_table.proofs.ByKey.{key-of-slot, slot-of-key, key-at, at-key}

module _ (told : Told) (used : ℕ) (items : List Taken) (old new : Progress) (end : ℕ) (h : IsLanded told used items) (at : At items 0 (Reading old)) (drawn : new.drawn ≡ old.drawn) (sound : new.failed ≡ None) (fits : FitsReader (going_on told end items) new) where
  abbrev now : Told
  now = going_on told end items

  abbrev next_items : List Taken
  next_items = set items 0 (Reading new)

  slots : FillSlots told.most used items
  slots = landed-fills told used items h

  same_drawn : h.reader.drawn ≡ new.drawn
  same_drawn =
      ap (λ (q : Progress). q.drawn) (reading-same (at-same h.base.at_first at)) ∙ sym drawn

  standing_was : (k : ℕ) (c : Cell) → At next_items k (Standing c) → At items k (Standing c)
  standing_was k c a = elim (set-at items 0 (Reading new) a) [ inl s ↦ absurd (let e : Reading new ≡ Standing c = s.1 in cc) | inr o ↦ o.1 ]

  blank_was : (k : ℕ) → At next_items k Blank → At items k Blank
  blank_was k a = elim (set-at items 0 (Reading new) a) [ inl s ↦ absurd (let e : Reading new ≡ Blank = s.1 in cc) | inr o ↦ o.1 ]

  standing_is : (k : ℕ) (c : Cell) → At items k (Standing c) → At next_items k (Standing c)
  standing_is k c a = at-other 0 (Reading new) a (λ e. (
      let b : At items 0 (Standing c) = subst (λ (n : ℕ). At items n (Standing c)) e a in
      let s : Standing c ≡ Reading old = at-same b at in
      absurd (cc)))

  child_is : (k : ℕ) (key : VoxelKey) → IsChild items k key → IsChild next_items k key
  child_is k key c = record {
    parent = c.parent;
    cell = c.cell;
    octant = c.octant;
    at = standing_is c.parent c.cell c.at;
    low = c.low;
    opened = c.opened;
    slot_is = c.slot_is;
    key_is = c.key_is;
  }

  -- the nodes that are there are those of the beginning
  begun_stands : (i : ℕ) (key : VoxelKey) → At (keys_in items) i key → (c : Cell) × At items (suc i) (Standing c) × (c.node.key ≡ key)
  begun_stands i key b =
      slot-of-key told.most used items old slots at (suc i) key (at-key (keys_in items) i key b)

  first : (i : ℕ) (key : VoxelKey) → At (keys_in items) i key → KeyOf h.keys (suc i) key
  first i key b =
      let c = begun_stands i key b in
      subst (λ (k : VoxelKey). KeyOf h.keys (suc i) k) c.2 (h.base.keyed (suc i) c.0 c.1)

  is_told : IsTold now
  is_told = record {
    some = h.is_told.some;
    top = key-at (keys_in items) 0 root (subst (λ (k : VoxelKey). KeyOf (keys_in items) 1 k) slots.top.2 (key-of-slot told.most used items old slots at 1 slots.top.0 slots.top.1));
    in_cube = h.is_told.in_cube;
  }

  sound_now : (k : ℕ) (c : Cell) → At next_items k (Standing c) → IsSound now c
  sound_now k c a =
      let s = h.base.sound k c (standing_was k c a) in
      record { rules = s.rules; low = s.low; inside = s.inside; deepest = s.deepest }

  born : (k : ℕ) (key : VoxelKey) → KeyOf h.keys k key → (k ≡ 1) ⊎ (IsChild next_items k key ⊎ IsDrawn h.keys [] k key)
  born k key is =
      elim (h.tree.born k key is) [
        | inl top ↦ inl top
        | inr more ↦ elim more [ inl c ↦ inr (inl (child_is k key c)) | inr d ↦ inr (inr d) ]
      ]

  shows : told.tells ≡ true → Shows now new next_items []
  shows tells =
      let s = h.shows tells in
      record {
        nodes = s.nodes;
        law = subst (λ (n : ℕ). KeepsLaw told.rules told.points (let z : State = record { left = drop n told.points; flights = []; nodes = s.nodes } in z)) same_drawn s.law;
        standing = λ k c a. s.standing k c (standing_was k c a);
        in_slot = λ key is. let q = s.in_slot key is in (q.0, q.1, standing_is q.0 q.1 q.2, q.3);
        total = s.total;
      }

  pub landed-goes-on : IsLanded now used next_items
  landed-goes-on = record {
    keys = h.keys;
    reader = new;
    is_told = is_told;
    seats = record {
      knows = λ i v a. absurd (nothing-at a);
      idle = λ i v a. absurd (nothing-at a);
      spent = λ i v a. absurd (nothing-at a);
      full_above = λ i v a. absurd (nothing-at a);
      above_full = λ over. absurd (not-over told used items h over);
    };
    base = record {
      size = length-set items 0 (Reading new) ∙ h.base.size;
      at_first = at-set items 0 (Reading new) (at-below at);
      one_reader = λ k r a. elim (set-at items 0 (Reading new) a) [ inl s ↦ s.0 | inr o ↦ h.base.one_reader k r o.1 ];
      fits = fits;
      given = λ i v a. absurd (nothing-at a);
      failed = λ e is. absurd (let both : None ≡ Some e = sym sound ∙ is in cc);
      noted = λ i v e a. absurd (nothing-at a);
      keyed = λ k c a. h.base.keyed k c (standing_was k c a);
      sound = sound_now;
      flying = λ f m. absurd m;
      adds_up = omega (arith, sum-set count_of (Reading new) at, h.base.adds_up, same_drawn);
    };
    tree = record {
      counted = h.tree.counted;
      first = first;
      distinct = h.tree.distinct;
      rooted = λ i key b. let c = begun_stands i key b in (c.0, standing_is (suc i) c.0 c.1);
      undrawn = λ k x a more. elim (set-at items 0 (Reading new) a) [ inl s ↦ absurd (omega (arith, more, s.0)) | inr o ↦ h.tree.undrawn k x o.1 more ];
      carried = λ i v c a. absurd (nothing-at a);
      lands = λ i v c a. absurd (nothing-at a);
      children = λ k c o a. h.tree.children k c o (standing_was k c a);
      closed = λ k c o a. h.tree.closed k c o (standing_was k c a);
      awaited = λ k c o a low is b. h.tree.awaited k c o (standing_was k c a) low is (blank_was (slot_at (Standing c) o) b);
      born = born;
      draws = λ i v held x d a. absurd (nothing-at a);
      full_over = λ tells over. absurd (not-over told used items h over);
    };
    shows = shows;
  }
