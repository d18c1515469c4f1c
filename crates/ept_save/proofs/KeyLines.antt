-- Lines in key order: the line of a key, those before it and after it, and a line put in the place of another.
use Rattle.std.proofs.Common.{◌≡◌, ◌∙◌, inl, inr, ℕ, zero, suc, ◌+◌, ◌<◌, Bool, true, false, cond, List, [], ◌∷◌, ◌++◌, take, drop, length, get_or, refl, sym, ap, arith, Option, Some, None, Ordering}
use Rattle.std.specs.Prelude.{AllPairs, filter}
use Rattle.std.proofs.Math.Seq.{take-suc}
use Rattle.std.proofs.lemmas.List.{append-nil}
use Rattle.std.proofs.lemmas.List.Elements.{filter-append}
use Rattle.std.specs.List.{cons_option}
use Rattle.std.specs.declared.cmp.Ordering.TheVariants.{Less, Equal, Greater}
use Rattle.std.specs.Ordering.{is_lt}
use Rattle.ept_space.specs.VoxelKey.{VoxelKey, same_key, key_cmp}
use Rattle.ept_space.proofs.Within.{same_key-true, same_key-same}
use Rattle.ept_sample.specs.Members.{IsMember}
use Rattle.ept_sample.proofs.Ascending.{IsRising}
use Rattle.ept_sample.proofs.Choices.{either}
use Rattle.ept_sample.proofs.Members.{IsMember-map}
use Rattle.ept_sample.proofs.KeyOrder.{key_before, key-self, key-trans, IsRising-AllPairs}
use Rattle.ept_ckpt.specs.declared.node_line.NodeLine.{NodeLine}
use Rattle.ept_ckpt.specs.Octree.{keys_of}
use Rattle.ept_ckpt.specs.Lookup.{line_of_key}
use Rattle.ept_save.specs.Lines.{is_before, with_line}

-- each line is after a key, or before it
abbrev pub AreBehind : VoxelKey → List NodeLine → Type 0
AreBehind key lines = (l : NodeLine) → IsMember l lines → key_cmp key l.key ≡ Less

abbrev pub AreBefore : VoxelKey → List NodeLine → Type 0
AreBefore key lines = (l : NodeLine) → IsMember l lines → key_cmp l.key key ≡ Less

-- each line is before those after it
abbrev pub DoAscend : List NodeLine → Type 0
DoAscend [] = Unit {0}
DoAscend (l ∷ lines) = AreBehind l.key lines × DoAscend lines

-- ---- the line of a key

pub lt_less : (o : Ordering) → is_lt o ≡ true → o ≡ Less
lt_less Less is = refl
lt_less Equal is = absurd (cc)
lt_less Greater is = absurd (cc)

by_rising : (lines : List NodeLine) → IsRising key_before (keys_of lines) → DoAscend lines
by_rising [] up = tt
by_rising (l ∷ ls) up = (λ m is. lt_less (key_cmp l.key m.key) (up.0 m.key (IsMember-map (λ (x : NodeLine). x.key) m ls is)), by_rising ls up.1)

pub do-ascend : (lines : List NodeLine) → AllPairs (λ a b. key_cmp a b ≡ Less) (keys_of lines) → DoAscend lines
do-ascend lines all = by_rising lines (IsRising-AllPairs (keys_of lines) all)

differ : (a b : VoxelKey) → key_cmp a b ≡ Less → same_key a b ≡ false
differ a b less =
    elim (either (same_key a b)) [
      | inl same ↦
          let equal : key_cmp a b ≡ Equal = ap (λ (k : VoxelKey). key_cmp k b) (same_key-true a b same) ∙ key-self b in
          absurd (two_ways (key_cmp a b) less equal)
      | inr other ↦ other
    ]
  where
    two_ways : (o : Ordering) → o ≡ Less → o ≡ Equal → ⊥
    two_ways o less equal = absurd (cc)

pub line-here : (lines : List NodeLine) (line : NodeLine) → DoAscend lines → IsMember line lines → line_of_key lines line.key ≡ Some line
line-here [] line up m = absurd m
line-here (l ∷ ls) line up (inl is) =
    ap (λ (b : Bool). cond b (Some l) (line_of_key ls line.key)) (same_key-same l.key line.key (ap (λ (x : NodeLine). x.key) is)) ∙ ap (λ (x : NodeLine). Some x) is
line-here (l ∷ ls) line up (inr m) =
    ap (λ (b : Bool). cond b (Some l) (line_of_key ls line.key)) (differ l.key line.key (up.0 line m)) ∙ line-here ls line up.1 m

pub member-at : (lines : List NodeLine) (i : ℕ) (line : NodeLine) → i < length lines → get_or lines i line ≡ line → IsMember line lines
member-at [] i line inside is = absurd (omega (arith, inside))
member-at (l ∷ ls) zero line inside is = inl is
member-at (l ∷ ls) (suc i) line inside is = inr (member-at ls i line (omega (arith, inside)) is)

-- those in front of a line stand before it
pub before-next : (lines : List NodeLine) (i : ℕ) (line l : NodeLine) → DoAscend lines → i < length lines → get_or lines i line ≡ line → IsMember l (take i lines) → key_cmp l.key line.key ≡ Less
before-next [] i line l up inside is m = absurd (omega (arith, inside))
before-next (x ∷ xs) zero line l up inside is m = absurd m
before-next (x ∷ xs) (suc i) line l up inside is (inl at) = ap (λ (w : NodeLine). key_cmp w.key line.key) (sym at) ∙ up.0 line (member-at xs i line (omega (arith, inside)) is)
before-next (x ∷ xs) (suc i) line l up inside is (inr m) = before-next xs i line l up.1 (omega (arith, inside)) is m

-- ---- a line put between

abbrev before : VoxelKey → List NodeLine → List NodeLine
before key lines = filter (λ (l : NodeLine). is_before l.key key) lines

abbrev behind : VoxelKey → List NodeLine → List NodeLine
behind key lines = filter (λ (l : NodeLine). is_before key l.key) lines

not_less : (a b : VoxelKey) → key_cmp a b ≡ Less → is_before b a ≡ false
not_less a b less = at (key_cmp b a) refl
  where
    at : (o : Ordering) → key_cmp b a ≡ o → is_lt (key_cmp b a) ≡ false
    at Less is =
        let never : key_cmp a a ≡ Less = key-trans a b a less is in
        let equal = key-self a in
        absurd (cc)
    at Equal is = ap is_lt is
    at Greater is = ap is_lt is

keep_before : (key : VoxelKey) (lines : List NodeLine) → AreBefore key lines → (before key lines ≡ lines) × (behind key lines ≡ [])
keep_before key [] low = (refl, refl)
keep_before key (l ∷ lines) low =
    let rest = keep_before key lines (λ m i. low m (inr i)) in (
      ap (λ (b : Bool). cond b (l ∷ before key lines) (before key lines)) (ap is_lt (low l (inl refl))) ∙ ap (λ (w : List NodeLine). l ∷ w) rest.0,
      ap (λ (b : Bool). cond b (l ∷ behind key lines) (behind key lines)) (not_less l.key key (low l (inl refl))) ∙ rest.1,
    )

keep_behind : (key : VoxelKey) (lines : List NodeLine) → AreBehind key lines → (before key lines ≡ []) × (behind key lines ≡ lines)
keep_behind key [] high = (refl, refl)
keep_behind key (l ∷ lines) high =
    let rest = keep_behind key lines (λ m i. high m (inr i)) in (
      ap (λ (b : Bool). cond b (l ∷ before key lines) (before key lines)) (not_less key l.key (high l (inl refl))) ∙ rest.0,
      ap (λ (b : Bool). cond b (l ∷ behind key lines) (behind key lines)) (ap is_lt (high l (inl refl))) ∙ ap (λ (w : List NodeLine). l ∷ w) rest.1,
    )

not_before_itself : (key : VoxelKey) → is_before key key ≡ false
not_before_itself key = ap is_lt (key-self key)

keep_at : (key : VoxelKey) (line : Option NodeLine) (lines : List NodeLine) → ((l : NodeLine) → line ≡ Some l → l.key ≡ key) → AreBehind key lines → (before key (cons_option line lines) ≡ []) × (behind key (cons_option line lines) ≡ lines)
keep_at key None lines at high = keep_behind key lines high
keep_at key (Some l) lines at high =
    let rest = keep_behind key lines high in
    let front : is_before l.key key ≡ false = ap (λ (k : VoxelKey). is_before k key) (at l refl) ∙ not_before_itself key in
    let back : is_before key l.key ≡ false = ap (λ (k : VoxelKey). is_before key k) (at l refl) ∙ not_before_itself key in (
      ap (λ (b : Bool). cond b (l ∷ before key lines) (before key lines)) front ∙ rest.0,
      ap (λ (b : Bool). cond b (l ∷ behind key lines) (behind key lines)) back ∙ rest.1,
    )

-- the line of a key comes in the place of the one before it, if there was one, after those before the key
pub line-between : (line : NodeLine) (done : List NodeLine) (old : Option NodeLine) (lines : List NodeLine) → AreBefore line.key done → ((l : NodeLine) → old ≡ Some l → l.key ≡ line.key) → AreBehind line.key lines → with_line line (done ++ cons_option old lines) ≡ done ++ line ∷ lines
line-between line done old lines low at high =
    let one = keep_before line.key done low in
    let two = keep_at line.key old lines at high in
    let front : before line.key (done ++ cons_option old lines) ≡ done =
    filter-append (λ (l : NodeLine). is_before l.key line.key) done (cons_option old lines) ∙ (ap (λ (w : List NodeLine). w ++ before line.key (cons_option old lines)) one.0 ∙ (ap (λ (w : List NodeLine). done ++ w) two.0 ∙ append-nil done)) in
    let back : behind line.key (done ++ cons_option old lines) ≡ lines =
    filter-append (λ (l : NodeLine). is_before line.key l.key) done (cons_option old lines) ∙ (ap (λ (w : List NodeLine). w ++ behind line.key (cons_option old lines)) one.1 ∙ two.1) in
    ap (λ (w : List NodeLine). w ++ line ∷ behind line.key (done ++ cons_option old lines)) front ∙ ap (λ (w : List NodeLine). done ++ line ∷ w) back

-- ---- item after item

-- the first items, with the next one after them
pub take-next : {X : Type 0} (xs : List X) (i : ℕ) (x : X) → i < length xs → get_or xs i x ≡ x → take i xs ++ x ∷ [] ≡ take (i + 1) xs
take-next {X} xs i x inside is =
    ap (λ (y : X). take i xs ++ y ∷ []) (sym is) ∙ (sym (take-suc xs i x inside) ∙ ap (λ (n : ℕ). take n xs) (let after : suc i ≡ i + 1 = omega arith in after))

-- those from it on
pub drop-next : {X : Type 0} (xs : List X) (i : ℕ) (x : X) → i < length xs → get_or xs i x ≡ x → drop i xs ≡ x ∷ drop (i + 1) xs
drop-next {X} xs i x inside is = here xs i inside is ∙ ap (λ (n : ℕ). x ∷ drop n xs) (let after : suc i ≡ i + 1 = omega arith in after)
  where
    here : (ys : List X) (k : ℕ) → k < length ys → get_or ys k x ≡ x → drop k ys ≡ x ∷ drop (suc k) ys
    here [] k low at = absurd (omega (arith, low))
    here (y ∷ ys) zero low at = ap (λ (z : X). z ∷ ys) at
    here (y ∷ ys) (suc k) low at = here ys k (omega (arith, low)) at
