-- What holds at each moment of every table of slots, as plain data. This is how many slots were drawn, what lies in
-- each slot, and what each seat knows. For a held slot the list of items has what lay there when it was taken.
use Rattle.std.specs.Prelude.{◌≡◌, ℕ, ◌+◌, ◌<◌, ◌≤◌, List}
use Rattle.std.specs.List.{sum_by}
use Rattle.ept_slots.specs.declared.view.View.{View}
use Rattle.ept_slots.specs.Views.{At, Holds, HoldsNothing, whole, parts_of, refused_of, permits_of}

pub record Seats {T N : Type 0} (most drawn : ℕ) (items : List T) (views : List (View T N)) : Type 0 where
  -- what a seat holds is what lies there, and no other seat holds it
  pub held : (id k : ℕ) (v : View T N) (x : T) → At views id v → Holds v k x → At items k x
  pub one_holder : (i j k : ℕ) (v w : View T N) (x y : T) → At views i v → At views j w → Holds v k x → Holds w k y → i ≡ j
  -- the parts of the seats add up to the whole, and a seat without a part holds nothing
  pub shared : sum_by parts_of views ≡ whole
  pub idle : (id : ℕ) (v : View T N) → At views id v → v.parts ≡ 0 → HoldsNothing v
  -- A seat is refused at most once for each of its parts, and never before the limit is passed. Only refused draws pass
  -- it.
  pub seldom : (id : ℕ) (v : View T N) → At views id v → v.refused ≤ v.parts
  pub overdrawn : (id : ℕ) (v : View T N) → At views id v → 0 < v.refused → most < drawn
  pub counted : drawn ≤ most + sum_by refused_of views

-- The permits, `all` together: `free` of them are free, the seats have some, and the items in their slots take the
-- others. A seat without a part has none.
pub record Permits {T N : Type 0} (weight : T → ℕ) (all free : ℕ) (items : List T) (views : List (View T N)) : Type 0 where
  pub conserved : free + sum_by permits_of views + sum_by weight items ≡ all
  pub spent : (id : ℕ) (v : View T N) → At views id v → v.parts ≡ 0 → v.permits ≡ 0

-- no seat holds the slot
abbrev pub IsFree : {T N : Type 0} → List (View T N) → ℕ → Type 0
IsFree {T} {N} views k = (id : ℕ) (v : View T N) (x : T) → At views id v → ¬ Holds v k x

-- no other seat has a part
abbrev pub IsAlone : {T N : Type 0} → List (View T N) → ℕ → Type 0
IsAlone {T} {N} views id = (j : ℕ) (w : View T N) → At views j w → ¬ (j ≡ id) → w.parts ≡ 0
