-- Lines in key order: those of the nodes that were saved, and after them those of the current checkpoint.
use Rattle.std.proofs.Common.{◌≡◌, ◌∙◌, Bool, true, false, cond, inl, inr, List, [], ◌∷◌, refl, sym, ap, subst, Option, Some, None, Ordering}
use Rattle.std.specs.Prelude.{◌||◌, filter}
use Rattle.std.specs.List.{cons_option}
use Rattle.std.specs.declared.cmp.Ordering.TheVariants.{Less, Equal}
use Rattle.ept_space.specs.VoxelKey.{VoxelKey, same_key, key_cmp}
use Rattle.ept_space.proofs.Within.{same_key-true}
use Rattle.ept_sample.specs.Members.{IsMember}
use Rattle.ept_sample.proofs.KeyOrder.{key-self, key-trans}
use Rattle.ept_ckpt.specs.declared.node_line.NodeLine.{NodeLine}
use Rattle.ept_ckpt.specs.Octree.{is_among}
use Rattle.ept_ckpt.specs.Lookup.{line_of_key}
use Rattle.ept_save.proofs.KeyLines.{AreBehind, DoAscend}
use Rattle.ept_octree_ckpt.proofs.Telling.{either, among-member}

-- of some lines those whose keys are among these
abbrev pub lines_among : List VoxelKey → List NodeLine → List NodeLine
lines_among keys lines = filter (λ (l : NodeLine). is_among keys l.key) lines

apart : (a b : VoxelKey) → key_cmp a b ≡ Less → same_key b a ≡ false
apart a b less =
    elim (either (same_key b a)) [
      | inl same ↦
          let equal : key_cmp a b ≡ Equal = ap (key_cmp a) (same_key-true b a same) ∙ key-self a in
          absurd (two_ways (key_cmp a b) less equal)
      | inr other ↦ other
    ]
  where
    two_ways : (o : Ordering) → o ≡ Less → o ≡ Equal → ⊥
    two_ways o less equal = absurd (cc)

none_found : (key : VoxelKey) (lines : List NodeLine) → AreBehind key lines → line_of_key lines key ≡ None
none_found key [] behind = refl
none_found key (l ∷ lines) behind =
    ap (λ (c : Bool). cond c (Some l) (line_of_key lines key)) (apart key l.key (behind l (inl refl)))
    ∙ none_found key lines (λ m is. behind m (inr is))

not_among : (key : VoxelKey) (keys : List VoxelKey) → ((k : VoxelKey) → IsMember k keys → key_cmp key k ≡ Less) → is_among keys key ≡ false
not_among key keys low =
    elim (either (is_among keys key)) [
      | inl is ↦ absurd (never (low key (among-member keys key is)))
      | inr other ↦ other
    ]
  where
    never : key_cmp key key ≡ Less → ⊥
    never less = let equal = key-self key in absurd (cc)

module _ (key : VoxelKey) (keys : List VoxelKey) (low : (k : VoxelKey) → IsMember k keys → key_cmp key k ≡ Less) (l : NodeLine) (lines : List NodeLine) (behind_l : AreBehind l.key lines) (more : lines_among (key ∷ keys) lines ≡ cons_option (line_of_key lines key) (lines_among keys lines)) where
  -- of the lines after one whose key is this key or after it none has the key
  none_more : AreBehind key lines → lines_among (key ∷ keys) lines ≡ lines_among keys lines
  none_more behind = more ∙ ap (λ (o : Option NodeLine). cons_option o (lines_among keys lines)) (none_found key lines behind)

  -- which lines are taken, as the first one is tested
  taken : (b : Bool) → same_key l.key key ≡ b → lines_among (key ∷ keys) (l ∷ lines) ≡ cond (b || is_among keys l.key) (l ∷ lines_among (key ∷ keys) lines) (lines_among (key ∷ keys) lines)
  taken b is = ap (λ (c : Bool). cond (c || is_among keys l.key) (l ∷ lines_among (key ∷ keys) lines) (lines_among (key ∷ keys) lines)) is

  found : (b : Bool) → same_key l.key key ≡ b → cons_option (line_of_key (l ∷ lines) key) (lines_among keys (l ∷ lines)) ≡ cons_option (cond b (Some l) (line_of_key lines key)) (lines_among keys (l ∷ lines))
  found b is = ap (λ (c : Bool). cons_option (cond c (Some l) (line_of_key lines key)) (lines_among keys (l ∷ lines))) is

  others : (b : Bool) → is_among keys l.key ≡ b → lines_among keys (l ∷ lines) ≡ cond b (l ∷ lines_among keys lines) (lines_among keys lines)
  others b is = ap (λ (c : Bool). cond c (l ∷ lines_among keys lines) (lines_among keys lines)) is

  next_step : (b c : Bool) → same_key l.key key ≡ b → is_among keys l.key ≡ c → lines_among (key ∷ keys) (l ∷ lines) ≡ cons_option (line_of_key (l ∷ lines) key) (lines_among keys (l ∷ lines))
  next_step true c same is =
      let here : l.key ≡ key = same_key-true l.key key same in
      let none : is_among keys l.key ≡ false = ap (is_among keys) here ∙ not_among key keys low in
      taken true same
      ∙ (ap (λ (w : List NodeLine). l ∷ w) (none_more (λ m i. subst (λ (k : VoxelKey). key_cmp k m.key ≡ Less) here (behind_l m i)))
      ∙ sym (found true same ∙ ap (λ (w : List NodeLine). l ∷ w) (others false none)))
  next_step false true other is =
      let behind : key_cmp key l.key ≡ Less = low l.key (among-member keys l.key is) in
      let all : AreBehind key lines = λ m i. key-trans key l.key m.key behind (behind_l m i) in
      taken false other
      ∙ (ap (λ (b : Bool). cond b (l ∷ lines_among (key ∷ keys) lines) (lines_among (key ∷ keys) lines)) is
      ∙ (ap (λ (w : List NodeLine). l ∷ w) (none_more all)
      ∙ sym (found false other ∙ (ap (λ (o : Option NodeLine). cons_option o (lines_among keys (l ∷ lines))) (none_found key lines all) ∙ others true is))))
  next_step false false other is =
      taken false other
      ∙ (ap (λ (b : Bool). cond b (l ∷ lines_among (key ∷ keys) lines) (lines_among (key ∷ keys) lines)) is
      ∙ (more ∙ sym (found false other ∙ ap (λ (w : List NodeLine). cons_option (line_of_key lines key) w) (others false is))))

-- the lines of a key and of those after it: first that of the key, if there is one
pub next-lines : (key : VoxelKey) (keys : List VoxelKey) (lines : List NodeLine) → DoAscend lines → ((k : VoxelKey) → IsMember k keys → key_cmp key k ≡ Less) → lines_among (key ∷ keys) lines ≡ cons_option (line_of_key lines key) (lines_among keys lines)
next-lines key keys [] up low = refl
next-lines key keys (l ∷ lines) up low =
    next_step key keys low l lines up.0 (next-lines key keys lines up.1 low) (same_key l.key key) (is_among keys l.key) refl refl

-- none of no keys, and all where each key is among them
pub no-lines : (lines : List NodeLine) → lines_among [] lines ≡ []
no-lines [] = refl
no-lines (l ∷ lines) = no-lines lines

pub all-lines : (keys : List VoxelKey) (lines : List NodeLine) → ((l : NodeLine) → IsMember l lines → is_among keys l.key ≡ true) → lines_among keys lines ≡ lines
all-lines keys [] in_keys = refl
all-lines keys (l ∷ lines) in_keys =
    ap (λ (b : Bool). cond b (l ∷ lines_among keys lines) (lines_among keys lines)) (in_keys l (inl refl))
    ∙ ap (λ (w : List NodeLine). l ∷ w) (all-lines keys lines (λ m i. in_keys m (inr i)))
