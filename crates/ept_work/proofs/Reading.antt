-- A reader that has drawn a batch, or was refused.
use Rattle.std.proofs.Common.{◌≡◌, ◌∙◌, ℕ, ◌+◌, ◌-◌, ◌<◌, min, true, ◌⊎◌, inl, inr, List, [], ◌∷◌, ◌++◌, map, length, take, drop, refl, sym, ap, subst, arith, Option, Some, None, Result, Ok, Err, OnOk, OnErr, IfErr, IfOk, Bool, false, not, ◌==◌, suc}
use Rattle.std.specs.Prelude.{All, is_ok, if◌then◌else◌}
use Rattle.std.proofs.lemmas.Bool.Decides.{nat_tests}
use Rattle.std.proofs.lemmas.List.{drop-drop}
use Rattle.ept_point.specs.declared.point.Point.{Point}
use Rattle.ept_space.specs.VoxelKey.{root}
use Rattle.ept_space.specs.OctreeCube.{InCube}
use Rattle.ept_sample.specs.Place.{place}
use Rattle.ept_sample.specs.Members.{IsMember}
use Rattle.ept_sample.proofs.Members.{all-member, IsMember-map, IsMember-contains, IsMember-left, IsMember-append}
use Rattle.ept_scan.specs.declared.read_error.ReadError.{ReadError}
use Rattle.ept_scan.specs.declared.read_error.ReadError.TheVariants as read
use Rattle.ept_scan.specs.declared.second_reading.Reader.{Reader}
use Rattle.ept_scan.specs.Queue.{LiesIn}
use Rattle.ept_scan.specs.Queue as queue
use Rattle.ept_scan.specs.Reader.{drawn_of, allowed_of, left_of, refusal_of, batch_of, files_of, IsRest, IsReader}
use Rattle.ept_table.specs.declared.note.Told.{Told}
use Rattle.ept_table.specs.declared.note.Counted.{Counted}
use Rattle.ept_table.specs.declared.note.Carried.{Carried}
use Rattle.ept_table.specs.declared.taken.Progress.{Progress}
use Rattle.ept_table.specs.declared.taken.Taken.{Taken}
use Rattle.ept_table.specs.declared.taken.Taken.TheVariants.{Reading}
use Rattle.ept_table.specs.declared.done.Done.TheVariants.{Draw}
use Rattle.ept_table.specs.declared.item.Item.{Item}
use Rattle.ept_table.specs.declared.item.Item.TheVariants as items
use Rattle.ept_table.specs.Visits.{note_after}
use Rattle.ept_table.proofs.ReaderBack.{reading-same}
use Rattle.ept_table.specs.Item.{counted, seen, seen_reader, IsFiled}
use Rattle.ept_table.specs.Shown.{IsTold, FitsReader}
use Rattle.ept_table.specs.Steps as table
use Rattle.ept_table.specs.Steps.{holding, given_back, carried_to, failures_of, HasRead}
use Rattle.ept_table.specs.View.{View}
use Rattle.ept_work.specs.Drawing.{HasDrawn, DrawsBatch, DrawsNone, IsReadCause, answer_of}
use Rattle.ept_work.specs.Rest.{IsAtRest}

some_same : {X : Type 0} {a b : X} → Some a ≡ Some b → a ≡ b
some_same {X} {a} {b} e = ap from e
  where
    from : Option X → X
    from None = a
    from (Some y) = y

abbrev pub refused : ReadError → Result (Unit {0}) ReadError
refused e = Err e

err_same : {e f : ReadError} → refused e ≡ refused f → e ≡ f
err_same {e} {f} is = ap from is
  where
    from : Result (Unit {0}) ReadError → ReadError
    from (Ok u) = e
    from (Err g) = g

-- a reader that fits the ghost input still does
pub read-fits : (told : Told) (old new : Progress) (points : List Point) → FitsReader told old → HasRead told old new points → FitsReader told new
read-fits told old new points fits has = record {
  inputs = has.inputs ∙ fits.inputs;
  end = omega (arith, has.drawn, has.allowed, fits.end);
  total = omega (arith, has.drawn, has.left, fits.total);
}

module _ {S : Type 0} (whole left : S → Option (List ℕ)) (given faults : S → ℕ) (told : Told) (n : ℕ) (old new : Reader S)
    (is_told : IsTold told) (fits : FitsReader told (seen_reader whole old)) (filed : IsFiled whole left given faults told old)
    (files : files_of whole new ≡ files_of whole old) (reader : IsReader whole left given faults new) where
  lies-in-cube : (p : Point) → LiesIn (files_of whole old) p → InCube told.rules.cube (place p)
  lies-in-cube p lies = is_told.in_cube p (record {
    input = counted lies.held;
    among = subst (λ (w : List Counted). IsMember (counted lies.held) w) fits.inputs (IsMember-map counted lies.held (files_of whole old) (IsMember-contains lies.held (files_of whole old) lies.among));
    origin = lies.origin;
    extent = lies.extent;
    limits = lies.kept;
    within = lies.within;
  })

  -- what a draw did to the reader, and that the reader is as it has to be
  abbrev pub Reads : List Point → Type 0
  Reads points = HasRead told (seen_reader whole old) (seen_reader whole new) points × IsFiled whole left given faults told new

  -- ---- a batch was drawn

  module _ (points before : List Point) (empty : before ≡ [])
      (drawn : drawn_of new ≡ drawn_of old + batch_of n old) (allowed : allowed_of new ≡ allowed_of old - batch_of n old)
      (left_is : left_of new + batch_of n old ≡ left_of old)
      (batch : (ps : List Point) × (points ≡ before ++ ps) × (length ps ≡ batch_of n old) × All (LiesIn (files_of whole old)) ps)
      (rest : (ps : List Point) → IsRest whole old ps → (points ≡ before ++ take (batch_of n old) ps) × IsRest whole new (drop (batch_of n old) ps))
      (sound : refusal_of old ≡ None) (still : refusal_of new ≡ None) where
    are : points ≡ batch.0
    are = batch.1 ∙ ap (λ (w : List Point). w ++ batch.0) empty

    pub many : length points ≡ batch_of n old
    many = ap length are ∙ batch.2

    pub read-ok : Reads points
    read-ok = (
      record {
        inputs = ap (λ (w : List queue.Held). map counted w) files;
        drawn = omega (arith, drawn, many);
        left = omega (arith, left_is, many);
        allowed = omega (arith, allowed, many);
        failed = λ e is. absurd (let none : None ≡ Some e = sym sound ∙ is in cc);
        in_cube = λ p m. lies-in-cube p (all-member (LiesIn (files_of whole old)) p batch.0 batch.3 (subst (λ (w : List Point). IsMember p w) are m));
        next = λ tells. (
            let r = rest (drop (drawn_of old) told.points) (filed.rest tells sound) in
            r.0 ∙ (ap (λ (w : List Point). w ++ take (batch_of n old) (drop (drawn_of old) told.points)) empty ∙ ap (λ (k : ℕ). take k (drop (drawn_of old) told.points)) (sym many)));
      },
      record {
        reader = reader;
        rest = λ tells none. (
            let r = rest (drop (drawn_of old) told.points) (filed.rest tells sound) in
            subst (λ (w : List Point). IsRest whole new w) (drop-drop (batch_of n old) (drawn_of old) told.points ∙ ap (λ (k : ℕ). drop k told.points) (sym drawn)) r.1);
        no_change = λ tells source number is. (let none : None ≡ Some (read.SourceChanged source number) = sym still ∙ is in cc);
      },
    )

  -- ---- it was refused

  module _ (points before : List Point) (e : ReadError) (empty : before ≡ [])
      (drawn : drawn_of new ≡ drawn_of old + 0) (allowed : allowed_of new ≡ allowed_of old - 0)
      (left_is : left_of new ≡ left_of old) (same : points ≡ before)
      (no_change : (ps : List Point) → IsRest whole old ps → refusal_of old ≡ None → (source number : ℕ) → refused e ≡ refused (read.SourceChanged source number) → ⊥)
      (memory : refused e ≡ refused read.Memory → new ≡ old) (refusal : (e ≡ read.Memory → ⊥) → refusal_of new ≡ Some e)
      (again : (f : ReadError) → refusal_of old ≡ Some f → refused e ≡ refused f) where
    nothing : points ≡ []
    nothing = same ∙ empty

    pub untouched-or-failed : (new ≡ old) ⊎ ((refusal_of new ≡ Some e) × (e ≡ read.Memory → ⊥))
    untouched-or-failed = by_error e refl
      where
        by_error : (f : ReadError) → e ≡ f → (new ≡ old) ⊎ ((refusal_of new ≡ Some e) × (e ≡ read.Memory → ⊥))
        by_error read.SourceFault is = inr (refusal (λ m. let x : read.SourceFault ≡ read.Memory = sym is ∙ m in cc), λ m. let x : read.SourceFault ≡ read.Memory = sym is ∙ m in cc)
        by_error (read.SourceChanged s k) is = inr (refusal (λ m. let x : read.SourceChanged s k ≡ read.Memory = sym is ∙ m in cc), λ m. let x : read.SourceChanged s k ≡ read.Memory = sym is ∙ m in cc)
        by_error read.Memory is = inl (memory (ap refused is))

    failed_still : (f : ReadError) → refusal_of old ≡ Some f → refusal_of new ≡ Some f
    failed_still f is = elim untouched-or-failed [
      | inl still ↦ ap (λ (r : Reader S). refusal_of r) still ∙ is
      | inr now ↦ now.0 ∙ ap (λ (x : ReadError). let o : Option ReadError = Some x in o) (err_same (again f is))
    ]

    never_changed : told.tells ≡ true → (source number : ℕ) → refusal_of new ≡ Some (read.SourceChanged source number) → ⊥
    never_changed tells source number is = elim untouched-or-failed [
      | inl still ↦ filed.no_change tells source number (ap (λ (r : Reader S). refusal_of r) (sym still) ∙ is)
      | inr now ↦ by_refusal (refusal_of old) refl (some_same (sym now.0 ∙ is))
    ]
      where
        by_refusal : (o : Option ReadError) → refusal_of old ≡ o → e ≡ read.SourceChanged source number → ⊥
        by_refusal None was change = no_change (drop (drawn_of old) told.points) (filed.rest tells was) was source number (ap refused change)
        by_refusal (Some f) was change = filed.no_change tells source number (was ∙ ap (λ (x : ReadError). let o : Option ReadError = Some x in o) (sym (err_same (again f was)) ∙ change))

    still_rest : told.tells ≡ true → refusal_of new ≡ None → IsRest whole new (drop (drawn_of new) told.points)
    still_rest tells none = elim untouched-or-failed [
      | inl still ↦ subst (λ (r : Reader S). IsRest whole r (drop (drawn_of r) told.points)) (sym still) (filed.rest tells (ap (λ (r : Reader S). refusal_of r) (sym still) ∙ none))
      | inr now ↦ absurd (let x : Some e ≡ None = sym now.0 ∙ none in cc)
    ]

    has_read : HasRead told (seen_reader whole old) (seen_reader whole new) []
    has_read = record {
      inputs = ap (λ (w : List queue.Held). map counted w) files;
      drawn = drawn;
      left = omega (arith, left_is);
      allowed = omega (arith, allowed);
      failed = failed_still;
      in_cube = λ p m. absurd m;
      next = λ tells. refl;
    }

    pub read-err : Reads points
    read-err = (
      subst (λ (w : List Point). HasRead told (seen_reader whole old) (seen_reader whole new) w) (sym nothing) has_read,
      record {
        reader = reader;
        rest = still_rest;
        no_change = never_changed;
      },
    )

  -- ---- either

  none_is : (o : Option ReadError) → ((e : ReadError) → o ≡ Some e → ⊥) → o ≡ None
  none_is None never = refl
  none_is (Some e) never = absurd (never e refl)

  pub read-any : (points before : List Point) (r : Result (Unit {0}) ReadError) → before ≡ []
      → drawn_of new ≡ drawn_of old + (if is_ok r then batch_of n old else 0)
      → allowed_of new ≡ allowed_of old - (if is_ok r then batch_of n old else 0)
      → OnOk r (left_of new + batch_of n old ≡ left_of old) → OnErr r (left_of new ≡ left_of old)
      → OnOk r ((ps : List Point) × (points ≡ before ++ ps) × (length ps ≡ batch_of n old) × All (LiesIn (files_of whole old)) ps)
      → ((ps : List Point) → IsRest whole old ps → OnOk r ((points ≡ before ++ take (batch_of n old) ps) × IsRest whole new (drop (batch_of n old) ps)))
      → ((ps : List Point) → IsRest whole old ps → refusal_of old ≡ None → (source number : ℕ) → r ≡ refused (read.SourceChanged source number) → ⊥)
      → OnErr r (points ≡ before) → (r ≡ refused read.Memory → new ≡ old) → IfErr r (λ e. (e ≡ read.Memory → ⊥) → refusal_of new ≡ Some e)
      → ((f : ReadError) → refusal_of old ≡ Some f → r ≡ refused f) → OnOk r (refusal_of new ≡ None) → Reads points
  read-any points before (Ok u) empty drawn allowed left_is _ batch rest no_change _ memory _ again none =
      read-ok points before empty drawn allowed left_is batch rest (none_is (refusal_of old) (λ e is. let x : Ok u ≡ refused e = again e is in cc)) none
  read-any points before (Err e) empty drawn allowed _ left_is batch rest no_change same memory refusal again _ =
      read-err points before e empty drawn allowed left_is same no_change memory refusal again

none_zero : (n : ℕ) → not (n == 0) ≡ false → n ≡ 0
none_zero n t = grind (arith, nat_tests)

some_more : (n : ℕ) → not (n == 0) ≡ true → 0 < n
some_more n t = grind (arith, nat_tests)

-- a reader that was taken fits the ghost input
abbrev pub fits-taken : {F S : Type 0} (held : F → Option (List ℕ)) (whole : S → Option (List ℕ)) (told : Told) (x : Item F S) (y : Reader S) (r : Progress) → x ≡ items.Reader y → seen held whole x ≡ Reading r → FitsReader told r → FitsReader told (seen_reader whole y)
fits-taken {F} {S} held whole told x y r is sees fits =
    subst (λ (q : Progress). FitsReader told q) (reading-same (sym sees ∙ ap (λ (z : Item F S). seen held whole z) is)) fits

abbrev pub has-drawn : (told : Told) (number : ℕ) (v mid w : View) (x : Taken) (old new : Progress) (points : List Point) (fresh : List Carried) → mid ≡ holding v 0 x → w ≡ given_back mid (note_after mid.note (Reading new) (Draw fresh)) → fresh ≡ carried_to number 1 root points → FitsReader told old → HasRead told old new points → HasDrawn told number v w points
has-drawn told number v mid w x old new points fresh took gave are fits has = record {
  old = old;
  new = new;
  fits = read-fits told old new points fits has;
  has_read = has;
  after = gave
      ∙ (ap (λ (u : View). given_back u (note_after u.note (Reading new) (Draw fresh))) took
      ∙ ap (λ (fs : List Carried). given_back v (table.read v.note new fs)) are);
}

-- ---- what a worker knows afterwards

module _ (told : Told) (number : ℕ) (v w : View) (points : List Point) (h : HasDrawn told number v w points) where
  abbrev fresh : List Carried
  fresh = carried_to number 1 root points

  root_slot : (ps : List Point) (c : Carried) → IsMember c (carried_to number 1 root ps) → c.slot ≡ 1
  root_slot [] c m = absurd m
  root_slot (p ∷ ps) c (inl is) = ap (λ (d : Carried). d.slot) (sym is)
  root_slot (p ∷ ps) c (inr m) = absurd m

  pub drawn-rest : IsTold told → IsAtRest told v → IsAtRest told w
  drawn-rest is_told rest = subst (λ (u : View). IsAtRest told u) (sym h.after) (record {
    idle = record { share = rest.idle.share; free = refl; undrawn = refl };
    unrefused = rest.unrefused;
    within = λ c m. elim (IsMember-append c v.note.flights fresh m) [
      | inl was ↦ rest.within c was
      | inr new ↦ omega (arith, is_told.some, root_slot points c new)
    ];
  })

  pub drawn-ok : (r : Result (Unit {0}) ReadError) (some : Bool) (n : ℕ) → OnOk r (h.new.failed ≡ None) → OnOk r (length points ≡ min 1024 (min h.old.allowed h.old.left)) → some ≡ not (n == 0) → n ≡ length points → IfOk (answer_of r some) (DrawsBatch told number v w)
  drawn-ok (Err e) some n _ _ is same = tt
  drawn-ok (Ok u) some n sound batch is same = record {
    points = points;
    drawn = h;
    sound = sound;
    batch = batch;
    some = λ t. more n same (sym is ∙ t);
    none = λ t. fewer points n same (sym is ∙ t);
  }
    where
      more : (k : ℕ) → k ≡ length points → not (k == 0) ≡ true → 0 < length points
      more k eq t = let some : 0 < k = some_more k t in omega (arith, eq, some)

      fewer : (ps : List Point) (k : ℕ) → k ≡ length ps → not (k == 0) ≡ false → ps ≡ []
      fewer [] k eq t = refl
      fewer (p ∷ ps) k eq t = absurd (let x : k ≡ suc (length ps) = eq in omega (arith, x, none_zero k t))

  failed_member : (e : ReadError) → h.new.failed ≡ Some e → IsMember e w.note.failures
  failed_member e is = subst (λ (u : View). IsMember e u.note.failures) (sym h.after)
      (IsMember-left e (failures_of h.new.failed) v.note.failures (subst (λ (o : Option ReadError). IsMember e (failures_of o)) (sym is) (inl refl)))

  pub drawn-err : (r : Result (Unit {0}) ReadError) (some : Bool) → OnErr r (points ≡ []) → IfErr r (λ e. (e ≡ read.Memory → ⊥) → h.new.failed ≡ Some e) → IfErr (answer_of r some) (λ e. IsReadCause w e × DrawsNone told number v w)
  drawn-err (Ok u) some _ _ = tt
  drawn-err (Err read.SourceFault) some none failed = (failed_member read.SourceFault (failed (λ m. cc)), inr (subst (λ (ps : List Point). HasDrawn told number v w ps) none h))
  drawn-err (Err (read.SourceChanged s k)) some none failed = (failed_member (read.SourceChanged s k) (failed (λ m. cc)), inr (subst (λ (ps : List Point). HasDrawn told number v w ps) none h))
  drawn-err (Err read.Memory) some none failed = (tt, inr (subst (λ (ps : List Point). HasDrawn told number v w ps) none h))
