-- A draw that is refused.
use Rattle.std.proofs.Common.{◌≡◌, ℕ, ◌+◌, ◌<◌, ◌≤◌, true, inl, inr, List, length, take, set, refl, arith, Some}
use Rattle.std.proofs.lemmas.List.Sorted.{IsPermutation-refl}
use Rattle.ept_sample.specs.Nodes.{node_keys}
use Rattle.ept_table.specs.declared.note.Told.{Told}
use Rattle.ept_table.specs.declared.taken.Taken.{Taken}
use Rattle.ept_table.specs.At.{At}
use Rattle.ept_table.specs.View.{View, flights_of}
use Rattle.ept_table.specs.Shown.{Holds, AreLocked}
use Rattle.ept_table.specs.Steps.{refused_more, MayDraw}
use Rattle.ept_table.proofs.Alike.{permuted-alike}
use Rattle.ept_table.proofs.Mirrors.{Goes, itself, alike-goes, holder-parts}
use Rattle.ept_table.proofs.TooMany.{too-many}

module _ (told : Told) (drawn : ℕ) (items : List Taken) (views : List View) (i : ℕ) (v : View) (held : ℕ) (x : Taken) (h : Holds told drawn items views) (locks : AreLocked items views) (at : At views i v) (holds : v.hold ≡ Some (held, x)) (may : MayDraw told v held x v.note.wish) (all_drawn : told.most ≤ drawn) where
  pub refusal-is-true : told.tells ≡ true → told.most < length (node_keys told.rules (take told.end told.points))
  refusal-is-true tells =
      too-many told drawn items views h (h.shows tells) locks tells i v at held x holds v.note.wish may all_drawn

  goes : Goes told drawn (drawn + 1)
  goes = record {
    over = λ over. omega (arith, over);
    counted = omega (arith, all_drawn);
    full_over = λ tells over. refusal-is-true tells;
  }

  pub refusal-keeps : Holds told (drawn + 1) items (set views i (refused_more v))
  refusal-keeps = alike-goes told drawn (drawn + 1) goes items views i v (refused_more v) at (record {
    knows = h.seats.knows i v at;
    idle = h.seats.idle i v at;
    spent = λ e. absurd (holder-parts locks at holds e);
    full = λ f. omega (arith, all_drawn);
    given = omega arith;
    failures = refl;
    flights = permuted-alike (flights_of v) (flights_of v) (IsPermutation-refl (flights_of v));
    carried = itself v;
    draws = inr (refl, refl, refl);
  }) (inr (inl (omega arith))) h
