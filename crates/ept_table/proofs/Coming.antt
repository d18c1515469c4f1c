-- A node in a slot that moves to or from its file.
use Rattle.std.proofs.Common.{◌≡◌, ◌∙◌, ℕ, suc, ◌+◌, ◌<◌, ◌≤◌, Bool, true, false, inl, inr, List, length, set, sym, ap, subst, arith, sum_by, slice_index}
use Rattle.std.proofs.lemmas.Bool.{false≢true}
use Rattle.ept_space.specs.declared.cube.Rules.{Rules}
use Rattle.ept_space.specs.VoxelKey.{VoxelKey, child}
use Rattle.ept_sample.specs.Place.{AllInBox}
use Rattle.ept_sample.specs.Members.{IsMember}
use Rattle.ept_sample.proofs.Choices.{either}
use Rattle.ept_core.specs.declared.flight.Flight.{Flight}
use Rattle.ept_core.specs.State.{flown}
use Rattle.ept_grid.specs.Mask.{opened}
use Rattle.ept_grid.specs.Node.{is_open_in}
use Rattle.ept_table.specs.declared.note.Told.{Told}
use Rattle.ept_table.specs.declared.note.Draw.{Draw}
use Rattle.ept_table.specs.declared.taken.Cell.{Cell}
use Rattle.ept_table.specs.declared.taken.Taken.{Taken}
use Rattle.ept_table.specs.declared.taken.Taken.TheVariants.{Blank, Standing, Reading}
use Rattle.ept_table.specs.At.{At}
use Rattle.ept_table.specs.Taken.{count_of, slot_at}
use Rattle.ept_table.specs.View.{View, all_flights}
use Rattle.ept_table.specs.Shown.{IsSound, HasSlot, KeyOf, IsChild, IsDraw, Base, Tree, Holds}
use Rattle.ept_table.specs.Steps.{IsAlikeCell, StaysAlike}
use Rattle.ept_table.proofs.Lists.{same_or_not, at-same, at-below, at-set, at-other, set-at, set-again, length-set, sum-set}
use Rattle.ept_table.proofs.Glue.{standing-same}

module _ (told : Told) (drawn : ℕ) (items : List Taken) (views : List View) (h : Holds told drawn items views) (k : ℕ) (c d : Cell) (there : At items k (Standing c)) (alike : IsAlikeCell told c d) where
  abbrev next : List Taken
  next = set items k (Standing d)

  now : At next k (Standing d)
  now = at-set items k (Standing d) (at-below there)

  -- ---- the node is the same, except for its points

  key_is : d.node.key ≡ c.node.key
  key_is = alike.node.key

  open_is : (o : ℕ) → is_open_in d.node o ≡ is_open_in c.node o
  open_is o = ap (λ (m : ℕ). opened m o) alike.node.mask

  slot_is : (o : ℕ) → slot_at (Standing d) o ≡ slot_at (Standing c) o
  slot_is o = ap (λ (cs : List ℕ). slice_index cs o) alike.children

  was_open : (o : ℕ) (b : Bool) → is_open_in d.node o ≡ b → is_open_in c.node o ≡ b
  was_open o b e = sym (open_is o) ∙ e

  rules_are : d.node.rules ≡ told.rules
  rules_are = alike.node.rules ∙ (h.base.sound k c there).rules

  is_sound : IsSound told d
  is_sound =
      let was : IsSound told c = h.base.sound k c there in
      record {
        rules = rules_are;
        low = subst (λ (key : VoxelKey). key.depth ≤ told.rules.cube.depth) (sym key_is) was.low;
        inside = subst (λ (rules : Rules). AllInBox rules.cube d.node.key d.node.points) rules_are alike.inside;
        deepest = λ o low is. subst (λ (key : VoxelKey). key.depth < told.rules.cube.depth) (sym key_is) (was.deepest o low (was_open o true is));
      }

  -- ---- what is in the slots

  cells : (P : ℕ → Cell → Type 0) → P k d → ((j : ℕ) (e : Cell) → At items j (Standing e) → P j e) → (j : ℕ) (e : Cell) → At next j (Standing e) → P j e
  cells P mine others j e a =
      elim (set-at items k (Standing d) a) [
        | inl s ↦ subst (λ (n : ℕ). P n e) (sym s.0) (subst (λ (z : Cell). P k z) (standing-same s.1) mine)
        | inr o ↦ others j e o.1
      ]

  blank_was : (j : ℕ) → At next j Blank → At items j Blank
  blank_was j a =
      elim (set-at items k (Standing d) a) [ inl s ↦ absurd (let e : Standing d ≡ Blank = s.1 in cc) | inr o ↦ o.1 ]

  blank_is : (j : ℕ) → At items j Blank → At next j Blank
  blank_is j a = at-other k (Standing d) a (λ e. (
      let s : Blank ≡ Standing c = at-same (subst (λ (n : ℕ). At items n Blank) e a) there in absurd (cc)))

  stands : (j : ℕ) (e : Cell) → At items j (Standing e) → (f : Cell) × At next j (Standing f)
  stands j e a = elim (same_or_not j k) [
    | inl same ↦ (d, subst (λ (n : ℕ). At next n (Standing d)) (sym same) now)
    | inr apart ↦ (e, at-other k (Standing d) a apart)
  ]

  child_is : (j : ℕ) (key : VoxelKey) → IsChild items j key → IsChild next j key
  child_is j key r = elim (same_or_not r.parent k) [
    | inl same ↦ (
        let its : r.cell ≡ c = standing-same (at-same (subst (λ (n : ℕ). At items n (Standing r.cell)) same r.at) there) in
        record {
          parent = k;
          cell = d;
          octant = r.octant;
          at = now;
          low = r.low;
          opened = open_is r.octant ∙ subst (λ (e : Cell). is_open_in e.node r.octant ≡ true) its r.opened;
          slot_is = slot_is r.octant ∙ subst (λ (e : Cell). slot_at (Standing e) r.octant ≡ j) its r.slot_is;
          key_is = ap (λ (n : VoxelKey). child n r.octant) key_is ∙ subst (λ (e : Cell). child e.node.key r.octant ≡ key) its r.key_is;
        })
    | inr apart ↦ record {
      parent = r.parent;
      cell = r.cell;
      octant = r.octant;
      at = at-other k (Standing d) r.at apart;
      low = r.low;
      opened = r.opened;
      slot_is = r.slot_is;
      key_is = r.key_is;
    }
  ]

  draw_is : (u : View) (held : ℕ) (x : Taken) (w : Draw) → IsDraw told h.keys items u.note.flights held x w → IsDraw told h.keys next u.note.flights held x w
  draw_is u held x w r = record {
    parent = r.parent;
    held_is = r.held_is;
    low = r.low;
    closed = r.closed;
    key_is = r.key_is;
    blank = blank_is w.slot r.blank;
    opens = r.opens;
  }

  -- ---- the rule

  next_base : Base told h.reader h.keys next views
  next_base = record {
    size = length-set items k (Standing d) ∙ h.base.size;
    at_first = at-other k (Standing d) h.base.at_first (λ e. (
        let s : Reading h.reader ≡ Standing c = at-same (subst (λ (n : ℕ). At items n (Reading h.reader)) e h.base.at_first) there in absurd (cc)));
    one_reader = λ j r a. elim (set-at items k (Standing d) a) [ inl s ↦ absurd (let e : Standing d ≡ Reading r = s.1 in cc) | inr o ↦ h.base.one_reader j r o.1 ];
    fits = h.base.fits;
    given = h.base.given;
    failed = h.base.failed;
    noted = h.base.noted;
    keyed = cells (λ j e. KeyOf h.keys j e.node.key) (subst (λ (key : VoxelKey). KeyOf h.keys k key) (sym key_is) (h.base.keyed k c there)) h.base.keyed;
    sound = cells (λ j e. IsSound told e) is_sound h.base.sound;
    flying = h.base.flying;
    adds_up = (
        let count : length d.node.points ≡ length c.node.points = alike.node.count in
        let sums : sum_by count_of next + length c.node.points ≡ sum_by count_of items + length d.node.points = sum-set count_of (Standing d) there in
        let same : sum_by count_of next ≡ sum_by count_of items = omega (arith, count, sums) in
        ap (λ (n : ℕ). n + length (flown (all_flights views))) same ∙ h.base.adds_up);
  }

  next_tree : Tree told drawn h.keys next views
  next_tree = record {
    counted = h.tree.counted;
    first = h.tree.first;
    distinct = h.tree.distinct;
    rooted = λ i key a. let r = h.tree.rooted i key a in stands (suc i) r.0 r.1;
    undrawn = λ j z a far. elim (set-at items k (Standing d) a) [
      | inl s ↦ absurd (let e : Standing c ≡ Blank = h.tree.undrawn k (Standing c) there (subst (λ (n : ℕ). length h.keys < n) s.0 far) in cc)
      | inr o ↦ h.tree.undrawn j z o.1 far
    ];
    carried = h.tree.carried;
    lands = λ i v g a m some. elim (h.tree.lands i v g a m some) [ inl top ↦ inl top | inr r ↦ inr (child_is g.slot g.flight.key r) ];
    children = λ j e o a low is. cells (λ j e. is_open_in e.node o ≡ true → HasSlot told drawn h.keys (slot_at (Standing e) o) (child e.node.key o)) (λ is. my_child o low is) (λ j e a is. h.tree.children j e o a low is) j e a is;
    closed = λ j e o a low is. cells (λ j e. is_open_in e.node o ≡ false → slot_at (Standing e) o ≡ 0) (λ is. slot_is o ∙ h.tree.closed k c o there low (was_open o false is)) (λ j e a is. h.tree.closed j e o a low is) j e a is;
    awaited = λ j e o a low is b. cells (λ j e. is_open_in e.node o ≡ true → At next (slot_at (Standing e) o) Blank → (f : Flight) × IsMember f (all_flights views) × (f.key ≡ child e.node.key o)) (λ is b. my_flight o low is b) (λ j e a is b. h.tree.awaited j e o a low is (blank_was (slot_at (Standing e) o) b)) j e a is b;
    born = λ j key is. elim (h.tree.born j key is) [
      | inl top ↦ inl top
      | inr old ↦ elim old [ inl r ↦ inr (inl (child_is j key r)) | inr r ↦ inr (inr r) ]
    ];
    draws = λ i v held x w a is m. draw_is v held x w (h.tree.draws i v held x w a is m);
    full_over = h.tree.full_over;
  }
    where
      my_child : (o : ℕ) → o < 8 → is_open_in d.node o ≡ true → HasSlot told drawn h.keys (slot_at (Standing d) o) (child d.node.key o)
      my_child o low is =
          subst (λ (n : ℕ). HasSlot told drawn h.keys n (child d.node.key o)) (sym (slot_is o)) (subst (λ (key : VoxelKey). HasSlot told drawn h.keys (slot_at (Standing c) o) (child key o)) (sym key_is) (h.tree.children k c o there low (was_open o true is)))

      my_flight : (o : ℕ) → o < 8 → is_open_in d.node o ≡ true → At next (slot_at (Standing d) o) Blank → (f : Flight) × IsMember f (all_flights views) × (f.key ≡ child d.node.key o)
      my_flight o low is b =
          let r = h.tree.awaited k c o there low (was_open o true is) (subst (λ (n : ℕ). At items n Blank) (slot_is o) (blank_was (slot_at (Standing d) o) b)) in
          (r.0, r.1, r.2 ∙ ap (λ (key : VoxelKey). child key o) (sym key_is))

  pub comes-untold : told.tells ≡ false → Holds told drawn next views
  comes-untold not = record {
    keys = h.keys;
    reader = h.reader;
    is_told = h.is_told;
    seats = h.seats;
    base = next_base;
    tree = next_tree;
    shows = λ tells. absurd (false≢true (sym not ∙ tells));
  }

module _ (told : Told) (drawn : ℕ) (items : List Taken) (views : List View) (h : Holds told drawn items views) (k : ℕ) where
  still : (x y : Taken) → At items k x → y ≡ x → Holds told drawn (set items k y) views
  still x y there same =
      subst (λ (z : Taken). Holds told drawn (set items k z) views) (sym same) (subst (λ (xs : List Taken). Holds told drawn xs views) (sym (set-again there)) h)

  -- what lies in a slot may move to or from its file
  pub alike-keeps : (x y : Taken) → At items k x → StaysAlike told x y → Holds told drawn (set items k y) views
  alike-keeps x y there (inl same) = still x y there same
  alike-keeps x y there (inr (c, d, was, is, alike)) = elim (either told.tells) [
    | inl tells ↦ still x y there (is ∙ (ap (λ (e : Cell). Standing e) (alike.exact tells) ∙ sym was))
    | inr not ↦ subst (λ (z : Taken). Holds told drawn (set items k z) views) (sym is) (comes-untold told drawn items views h k c d (subst (λ (z : Taken). At items k z) was there) alike not)
  ]
