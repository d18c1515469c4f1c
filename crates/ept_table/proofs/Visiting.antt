-- What a visit did keeps the rule.
use Rattle.std.proofs.Common.{◌≡◌, ◌∙◌, ℕ, ◌<◌, inl, inr, List, [], set, sym, ap, subst, arith, Option, Some}
use Rattle.ept_point.specs.declared.point.Point.{Point}
use Rattle.ept_space.specs.VoxelKey.{root}
use Rattle.ept_table.specs.declared.note.Told.{Told}
use Rattle.ept_table.specs.declared.note.Carried.{Carried}
use Rattle.ept_table.specs.declared.done.Done.{Done}
use Rattle.ept_table.specs.declared.done.Done.TheVariants.{Nothing, Draw, Arrive}
use Rattle.ept_table.specs.declared.taken.Progress.{Progress}
use Rattle.ept_table.specs.declared.taken.Taken.{Taken}
use Rattle.ept_table.specs.declared.taken.Taken.TheVariants.{Blank, Standing, Reading}
use Rattle.ept_table.specs.At.{At}
use Rattle.ept_table.specs.View.{View}
use Rattle.ept_table.specs.Shown.{Holds, AreLocked}
use Rattle.ept_table.specs.Steps.{given_back, read, carried_to, StaysAlike}
use Rattle.ept_table.specs.Visits.{fresh_of, note_after, GivesReader, GivesNode, Visits}
use Rattle.ept_table.proofs.Moves.{return-keeps}
use Rattle.ept_table.proofs.ReaderBack.{read-keeps}
use Rattle.ept_table.proofs.Arrival.{arrival-keeps}

module _ (told : Told) (drawn : ℕ) (items : List Taken) (views : List View) (i : ℕ) (v : View) (k : ℕ) (x : Taken) (h : Holds told drawn items views) (locks : AreLocked items views) (at : At views i v) (holds : v.hold ≡ Some (k, x)) where
  there : At items k x
  there = locks.as_taken i v k x at holds

  alike_given : (y : Taken) → StaysAlike told x y → 0 < k → v.note.draws ≡ [] → Holds told drawn (set items k y) (set views i (given_back v (note_after v.note y Nothing)))
  alike_given Blank stays some none =
      return-keeps told drawn items views i v h at k x Blank there stays none
  alike_given (Standing c) stays some none =
      return-keeps told drawn items views i v h at k x (Standing c) there stays none
  alike_given (Reading r) (inl same) some none =
      let first : k ≡ 0 = h.base.one_reader k r (subst (λ (z : Taken). At items k z) (sym same) there) in
      absurd (omega (arith, first, some))
  alike_given (Reading r) (inr (c, d, was, is, alike)) some none = absurd (let e : Reading r ≡ Standing d = is in cc)

  reader_given : (y : Taken) (points : List Point) (fresh : List Carried) → GivesReader told k x y points fresh → (new : Progress) × (y ≡ Reading new) × Holds told drawn (set items k y) (set views i (given_back v (read v.note new fresh)))
  reader_given y points fresh g =
      let hold : v.hold ≡ Some (0, Reading g.old) = holds ∙ (ap (λ (n : ℕ). let s : Option (ℕ × Taken) = Some (n, x) in s) g.slot ∙ ap (λ (z : Taken). let s : Option (ℕ × Taken) = Some (0, z) in s) g.taken) in
      let kept : Holds told drawn (set items 0 (Reading g.new)) (set views i (given_back v (read v.note g.new (carried_to g.actor 1 root points)))) = read-keeps told drawn items views i v g.old g.new points g.actor h locks at hold g.has_read in
      let flown : Holds told drawn (set items 0 (Reading g.new)) (set views i (given_back v (read v.note g.new fresh))) = subst (λ (fs : List Carried). Holds told drawn (set items 0 (Reading g.new)) (set views i (given_back v (read v.note g.new fs)))) (sym g.flies) kept in
      (g.new, g.given, subst (λ (z : Taken). Holds told drawn (set items k z) (set views i (given_back v (read v.note g.new fresh)))) (sym g.given) (subst (λ (n : ℕ). Holds told drawn (set items n (Reading g.new)) (set views i (given_back v (read v.note g.new fresh)))) (sym g.slot) flown))

  noted_reader : (y : Taken) (new : Progress) (done : Done) → y ≡ Reading new → Holds told drawn (set items k y) (set views i (given_back v (read v.note new (fresh_of done)))) → Holds told drawn (set items k y) (set views i (given_back v (note_after v.note y done)))
  noted_reader y new done e held =
      subst (λ (z : Taken). Holds told drawn (set items k y) (set views i (given_back v (note_after v.note z done)))) (sym e) held

  node_given : (y : Taken) (number : ℕ) (fresh : List Carried) → GivesNode told v k x y number fresh → Holds told drawn (set items k y) (set views i (given_back v (note_after v.note y (Arrive number fresh))))
  node_given y number fresh g =
      subst (λ (z : Taken). Holds told drawn (set items k z) (set views i (given_back v (note_after v.note z (Arrive number fresh))))) (sym g.given) (arrival-keeps told drawn items views i v k x number g.carried g.cell fresh h locks at holds g.its g.goes_there g.is_node g.has_arrived)

  pub visit-keeps : (y : Taken) (done : Done) → Visits told v k x y done → Holds told drawn (set items k y) (set views i (given_back v (note_after v.note y done)))
  visit-keeps y Nothing (inl still) = alike_given y still.0 still.1 still.2
  visit-keeps y Nothing (inr g) = let r = reader_given y [] [] g in noted_reader y r.0 Nothing r.1 r.2
  visit-keeps y (Draw fresh) (points, g) =
      let r = reader_given y points fresh g in noted_reader y r.0 (Draw fresh) r.1 r.2
  visit-keeps y (Arrive number fresh) g = node_given y number fresh g
