-- Records that are drawn one after the other are a batch.
use Rattle.std.proofs.Common.{◌≡◌, ⊎_elim, ℕ, ◌+◌, ◌-◌, ◌<◌, ◌≤◌, List, [], ◌∷◌, ◌++◌, Option, Some, length, take, drop, get_or, refl, sym, ◌∙◌, ap, subst, arith, append_assoc, length-append, length-drop}
use Rattle.std.specs.Prelude.{All, sum_by}
use Rattle.std.proofs.lemmas.Bool.{cases_lt}
use Rattle.std.proofs.lemmas.List.{append-nil, take_at, take_more, get_or-drop, drop-drop, get_or_append_left}
use Rattle.std.proofs.lemmas.List.Elements.{All-nil, All-push}
use Rattle.std.proofs.Math.Seq.{get_or-append_seam}
use Rattle.ept_point.specs.declared.point.Point.{Point}
use Rattle.ept_scan.specs.declared.read_error.ReadError.{ReadError}
use Rattle.ept_scan.specs.declared.read_error.ReadError.TheVariants.{SourceFault, SourceChanged, Memory}
use Rattle.ept_scan.specs.declared.queue.Queue.{Queue}
use Rattle.ept_scan.specs.declared.part.Part.{Part}
use Rattle.ept_scan.specs.Changes.{IfChanged}
use Rattle.ept_scan.specs.Queue.{Held, LiesIn, IsDrawn, AreDrawn, HasChanged, IsFirstChanged, held_of, RestOf, records_left, HasFault, IsQueue, AreNear, AreRewound, GiveNoMore}

empty_is : {X : Type 0} (xs : List X) → length xs ≡ 0 → xs ≡ []
empty_is [] none = refl
empty_is (x ∷ xs) none = absurd (omega (arith, none))

-- one more point
are_none : (files : List Held) (n : ℕ) → AreDrawn files n []
are_none files n = λ k d lt. absurd (omega (arith, lt))

are_more : (files : List Held) (n : ℕ) (points : List Point) (p : Point) → AreDrawn files n points → IsDrawn files (n - length points) p → AreDrawn files n (points ++ p ∷ [])
are_more files n points p are is = λ k d lt.
    ⊎_elim (λ (before : k < length points). subst (λ (q : Point). IsDrawn files (n - k) q) (sym (get_or_append_left points (p ∷ []) d k before)) (are k d before))
    (λ (past : length points ≤ k). newest k d (omega (arith, lt, past, length-append points (p ∷ [])))) (cases_lt k (length points))
  where
    newest : (k : ℕ) (d : Point) → k ≡ length points → IsDrawn files (n - k) (get_or (points ++ p ∷ []) k d)
    newest k d same =
        let read : get_or (points ++ p ∷ []) k d ≡ p = ap (λ (i : ℕ). get_or (points ++ p ∷ []) i d) same ∙ get_or-append_seam points p [] d in
        subst (λ (q : Point). IsDrawn files (n - k) q) (sym read) (subst (λ (i : ℕ). IsDrawn files (n - i) p) (sym same) is)

-- a change that is kept, among the records that are left
pub kept_change : (files : List Held) (at left most : ℕ) → at ≡ left → most ≤ left → (source n : ℕ) (e : ReadError) → Some e ≡ Some (SourceChanged source n) → IfChanged (IsFirstChanged files at most) e → IsFirstChanged files left left source n
kept_change files at left most same within source n e is change =
    let first : IsFirstChanged files at most source n = subst (IfChanged (IsFirstChanged files at most)) (one e (SourceChanged source n) is) change in
    record {
      before = first.before;
      few = omega (arith, first.few, within);
      drawn = subst (λ (i : ℕ). AreDrawn files i first.before) same first.drawn;
      changed = subst (λ (i : ℕ). HasChanged files (i - length first.before) source n) same first.changed;
    }
  where
    one : (a b : ReadError) → Some a ≡ Some b → a ≡ b
    one a b same = cc

module _ {S : Type 0} (queue : Queue S) where
  none_left : length queue.parts.items ≤ queue.at → records_left queue ≡ 0
  none_left past =
      let nothing : drop queue.at queue.parts.items ≡ [] = empty_is (drop queue.at queue.parts.items) (omega (arith, past, length-drop queue.at queue.parts.items)) in
      let empty : sum_by (λ part. part.points) (drop queue.at queue.parts.items) ≡ 0 = ap (λ (l : List (Part S)). sum_by (λ part. part.points) l) nothing in
      omega (arith, empty)

  -- if records are left, the place is at a file
  pub at_file : 0 < records_left queue → queue.at < length queue.parts.items
  at_file some = ⊎_elim (λ (lt : queue.at < length queue.parts.items). lt) (λ (past : length queue.parts.items ≤ queue.at). absurd (omega (arith, some, none_left past))) (cases_lt queue.at (length queue.parts.items))

module _ {S : Type 0} (whole left : S → Option (List ℕ)) (given : S → ℕ) (faults : S → ℕ) (first : Queue S) (before : List Point) where
  -- k records were drawn so far
  pub record HasDrawn (queue : Queue S) (out : List Point) (k : ℕ) : Type 0 where
    pub stands : IsQueue whole left given queue
    pub files : held_of whole queue ≡ held_of whole first
    pub count : records_left queue + k ≡ records_left first
    pub drawn : List Point
    pub out_is : out ≡ before ++ drawn
    pub size : length drawn ≡ k
    pub lie : All (LiesIn (held_of whole first)) drawn
    pub are : AreDrawn (held_of whole first) (records_left first) drawn
    pub rest : (points : List Point) → RestOf whole first points → (out ≡ before ++ take k points) × RestOf whole queue (drop k points)
    pub near : AreNear whole left first → AreNear whole left queue
    pub rewound : AreRewound whole left first → AreRewound whole left queue
    pub taken : GiveNoMore whole given first → GiveNoMore whole given queue
    pub fault : HasFault faults first → HasFault faults queue

  left_now : (queue : Queue S) (out : List Point) (k : ℕ) → (so_far : HasDrawn queue out k) → records_left queue ≡ records_left first - length so_far.drawn
  left_now queue out k so_far = omega (arith, so_far.count, so_far.size)

  pub drawn_none : IsQueue whole left given first → HasDrawn first before 0
  drawn_none is = record {
    stands = is;
    files = refl;
    count = omega arith;
    drawn = [];
    out_is = sym (append-nil before);
    size = refl;
    lie = All-nil (LiesIn (held_of whole first));
    are = are_none (held_of whole first) (records_left first);
    rest = λ points rest. (sym (append-nil before), rest);
    near = λ near. near;
    rewound = λ rewound. rewound;
    taken = λ taken. taken;
    fault = λ any. any;
  }

  pub drawn_more : (queue next : Queue S) (out : List Point) (k : ℕ) (p : Point) → HasDrawn queue out k → IsQueue whole left given next → held_of whole next ≡ held_of whole queue → records_left next + 1 ≡ records_left queue → LiesIn (held_of whole queue) p
      → IsDrawn (held_of whole queue) (records_left queue) p
      → ((points : List Point) → RestOf whole queue points → (rest : List Point) × (points ≡ p ∷ rest) × RestOf whole next rest) → (AreNear whole left queue → AreNear whole left next) → (AreRewound whole left queue → AreRewound whole left next) → (GiveNoMore whole given queue → GiveNoMore whole given next) → (HasFault faults queue → HasFault faults next) → HasDrawn next (out ++ p ∷ []) (k + 1)
  drawn_more queue next out k p so_far is same less lies drawn rest near rewound taken fault = record {
    stands = is;
    files = same ∙ so_far.files;
    count = omega (arith, less, so_far.count);
    drawn = so_far.drawn ++ p ∷ [];
    out_is = ap (λ (l : List Point). l ++ p ∷ []) so_far.out_is ∙ append_assoc before so_far.drawn (p ∷ []);
    size = omega (arith, so_far.size, length-append so_far.drawn (p ∷ []));
    lie = All-push (LiesIn (held_of whole first)) so_far.drawn p so_far.lie (subst (λ (l : List Held). LiesIn l p) so_far.files lies);
    are = are_more (held_of whole first) (records_left first) so_far.drawn p so_far.are (subst (λ (l : List Held). IsDrawn l (records_left first - length so_far.drawn) p) so_far.files (subst (λ (n : ℕ). IsDrawn (held_of whole queue) n p) (left_now queue out k so_far) drawn));
    rest = λ points all. further points (so_far.rest points all);
    near = λ all. near (so_far.near all);
    rewound = λ all. rewound (so_far.rewound all);
    taken = λ all. taken (so_far.taken all);
    fault = λ any. fault (so_far.fault any);
  }
    where
      further : (points : List Point) → (out ≡ before ++ take k points) × RestOf whole queue (drop k points) → (out ++ p ∷ [] ≡ before ++ take (k + 1) points) × RestOf whole next (drop (k + 1) points)
      further points now =
          let after = rest (drop k points) now.1 in
          let within : k < length points = omega (arith, ap length after.1, length-drop k points) in
          let here : get_or points k p ≡ p = ap (λ (i : ℕ). get_or points i p) (zero_more k) ∙ sym (get_or-drop k points 0 p) ∙ ap (λ (l : List Point). get_or l 0 p) after.1 in
          let taken : take (k + 1) points ≡ take k points ++ p ∷ [] = take_more points k p within ∙ ap (λ (q : Point). take k points ++ q ∷ []) here in
          let dropped : after.0 ≡ drop (k + 1) points = ap (λ (l : List Point). drop 1 l) (sym after.1) ∙ drop-drop 1 k points in (
            ap (λ (l : List Point). l ++ p ∷ []) now.0 ∙ append_assoc before (take k points) (p ∷ []) ∙ ap (λ (l : List Point). before ++ l) (sym taken),
            subst (λ (l : List Point). RestOf whole next l) dropped after.2,
          )
        where
          zero_more : (i : ℕ) → i ≡ i + 0
          zero_more i = omega arith

  -- the next record has changed, after those that were drawn
  pub first_changed : (queue : Queue S) (out : List Point) (k most : ℕ) → HasDrawn queue out k → k < most → (e : ReadError) → IfChanged (HasChanged (held_of whole queue) (records_left queue)) e → IfChanged (IsFirstChanged (held_of whole first) (records_left first) most) e
  first_changed queue out k most so_far within SourceFault changed = tt
  first_changed queue out k most so_far within Memory changed = tt
  first_changed queue out k most so_far within (SourceChanged source n) changed = record {
    before = so_far.drawn;
    few = omega (arith, so_far.size, within);
    drawn = so_far.are;
    changed = subst (λ (l : List Held). HasChanged l (records_left first - length so_far.drawn) source n) so_far.files (subst (λ (i : ℕ). HasChanged (held_of whole queue) i source n) (left_now queue out k so_far) changed);
  }

  -- the list as it was
  pub cut_back : (queue : Queue S) (out : List Point) (k n : ℕ) → HasDrawn queue out k → n ≡ length before → take n out ≡ before
  cut_back queue out k n so_far size = ap (λ (l : List Point). take n l) so_far.out_is ∙ take_at before so_far.drawn n (sym size)
