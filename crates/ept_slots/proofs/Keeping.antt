-- The crate's own facts when views change.
use Rattle.std.proofs.Common.{◌≡◌, ℕ, ◌+◌, ◌<◌, ◌≤◌, List, length, set, sym, subst, ◌∙◌, arith}
use Rattle.std.specs.List.{sum_by}
use mathlib.Core.Option.{some, some-injective}
use mathlib.Core.Option as maybe
use Rattle.ept_slots.specs.declared.slot.Slot.{Slot}
use Rattle.ept_slots.specs.declared.view.View.{View}
use Rattle.ept_slots.specs.Views.{At, HoldsNothing, whole, parts_of, refused_of}
use Rattle.ept_slots.specs.Seats.{Seats}
use Rattle.ept_slots.specs.Locks.{lock_of, Locks}
use Rattle.ept_slots.proofs.Holders.{Mirrors, mirrors-put, each-put}
use Rattle.ept_slots.proofs.Sums.{sum-put}

module _ {T N : Type 0} where
  -- what Seats states of each view by itself
  pub record IsFair (most drawn : ℕ) (v : View T N) : Type 0 where
    pub idle : v.parts ≡ 0 → HoldsNothing v
    pub seldom : v.refused ≤ v.parts
    pub overdrawn : 0 < v.refused → most < drawn

  pub fair : (most drawn : ℕ) (items : List T) (views : List (View T N)) → Seats most drawn items views → (id : ℕ) (v : View T N) → At views id v → IsFair most drawn v
  fair most drawn items views s id v e = record { idle = s.idle id v e; seldom = s.seldom id v e; overdrawn = s.overdrawn id v e }

  -- the slots stay as they are held, and the shares and the counter are right
  pub reseat : (most drawn drawn' : ℕ) (items : List T) (views views' : List (View T N)) → Seats most drawn items views → Mirrors views views' → sum_by parts_of views' ≡ whole
      → ((id : ℕ) (v : View T N) → At views' id v → IsFair most drawn' v) → drawn' ≤ most + sum_by refused_of views' → Seats most drawn' items views'
  reseat most drawn drawn' items views views' s m shared each counted = record {
    held = λ id k v x e h. let o = m.back id k v x e h in s.held id k o.0 x o.1 o.2;
    one_holder = λ i j k v w x y e f h g. let o = m.back i k v x e h in let p = m.back j k w y f g in s.one_holder i j k o.0 p.0 x y o.1 p.1 o.2 p.2;
    shared = shared;
    idle = λ id v e. (each id v e).idle;
    seldom = λ id v e. (each id v e).seldom;
    overdrawn = λ id v e. (each id v e).overdrawn;
    counted = counted;
  }

  -- one view changes, and keeps its slot and its share
  pub reseat-noted : (most drawn : ℕ) (items : List T) (views : List (View T N)) (id : ℕ) (v w : View T N) → Seats most drawn items views → At views id v → w.hold ≡ v.hold → w.parts ≡ v.parts → w.refused ≡ v.refused → Seats most drawn items (set views id w)
  reseat-noted most drawn items views id v w s at h p r = let fv = fair most drawn items views s id v at in
      let sp : sum_by parts_of (set views id w) + v.parts ≡ sum_by parts_of views + w.parts = sum-put parts_of views id v w at in
      let sr : sum_by refused_of (set views id w) + v.refused ≡ sum_by refused_of views + w.refused = sum-put refused_of views id v w at in
      let all : sum_by parts_of views ≡ whole = s.shared in let few : drawn ≤ most + sum_by refused_of views = s.counted in
      reseat most drawn drawn items views (set views id w) s (mirrors-put views id v w at h) (omega arith)
      (each-put (IsFair most drawn) views id w (fair most drawn items views s) record { idle = λ e. h ∙ fv.idle (sym p ∙ e); seldom = (let a : v.refused ≤ v.parts = fv.seldom in omega arith); overdrawn = λ o. fv.overdrawn (subst (λ (z : ℕ). 0 < z) r o) })
      (omega arith)

module _ {T N W : Type 0} where
  -- the locks and the slots stay, and so do their holders
  pub relock : (words words' : List ℕ) (homes : List (maybe.Option (Slot T W))) (items : List T) (views views' : List (View T N)) → Locks words homes items views → length words' ≡ length words → ((k : ℕ) → lock_of words' k ≡ lock_of words k) → Mirrors views views' → Locks words' homes items views'
  relock words words' homes items views views' l long same m = record {
    wide = long ∙ l.wide;
    deep = l.deep;
    at_home = λ k x e ne. l.at_home k x e (λ one. ne (same k ∙ one));
    marked = λ id k v x e h. let o = m.back id k v x e h in same k ∙ l.marked id k o.0 x o.1 o.2;
    taken_by = λ k h one. let o = l.taken_by k h (sym (same k) ∙ one) in let p = m.forth o.0 k o.1 o.2 o.3 o.4 in (o.0, p.0, o.2, p.1, p.2);
    list = l.list;
    spare = l.spare;
    empty = l.empty;
    room = l.room;
  }
