-- A line put into a map by its key, and into the list of lines.
use Rattle.std.proofs.Common.{◌≡◌, ◌∙◌, ℕ, suc, ◌<◌, length, get_or, arith, Bool, cond, List, [], ◌∷◌, ◌++◌, map, refl, sym, ap, subst, Ordering}
use Rattle.std.specs.Prelude.{filter}
use Rattle.std.specs.List.{AllByRecursion}
use Rattle.std.specs.List.Sorted.{IsStrictlySortedBy}
use Rattle.std.specs.declared.cmp.Ordering.TheVariants.{Less, Equal, Greater}
use Rattle.std.specs.Ordering.{is_lt, match_ordering, ordering_reverse}
use Rattle.std.specs.BTreeMap.{insert_entry}
use Rattle.ept_space.specs.VoxelKey.{VoxelKey, key_cmp}
use Rattle.ept_space.proofs.KeyOrder.{key_cmp_total, key_cmp-equal}
use Rattle.ept_ckpt.specs.declared.node_line.NodeLine.{NodeLine}
use Rattle.ept_save.specs.declared.saved.Line.{Line}
use Rattle.ept_save.specs.Stored.{line_of}
use Rattle.ept_save.specs.Lines.{is_before, with_line}

abbrev Entry : Type 0
Entry = VoxelKey × Line

abbrev keys_of : List Entry → List VoxelKey
keys_of entries = map (λ (e : Entry). e.0) entries

-- lines before a key, and after it
abbrev before : VoxelKey → List NodeLine → List NodeLine
before key lines = filter (λ (l : NodeLine). is_before l.key key) lines

abbrev behind : VoxelKey → List NodeLine → List NodeLine
behind key lines = filter (λ (l : NodeLine). is_before key l.key) lines

turned : (a b : VoxelKey) (o : Ordering) → key_cmp a b ≡ o → key_cmp b a ≡ ordering_reverse o
turned a b o is = key_cmp_total.antisymm b a ∙ ap ordering_reverse is

-- if all keys are after a key, no line is before it, and each is after it
all_behind : (key : VoxelKey) (entries : List Entry) → AllByRecursion (λ k. key_cmp key k ≡ Less) (keys_of entries) → (before key (map line_of entries) ≡ []) × (behind key (map line_of entries) ≡ map line_of entries)
all_behind key [] all = (refl, refl)
all_behind key (e ∷ es) all =
    let rest = all_behind key es all.1 in (
      ap (λ (b : Bool). cond b (line_of e ∷ before key (map line_of es)) (before key (map line_of es))) (ap is_lt (turned key e.0 Less all.0)) ∙ rest.0,
      ap (λ (b : Bool). cond b (line_of e ∷ behind key (map line_of es)) (behind key (map line_of es))) (ap is_lt all.0) ∙ ap (λ (w : List NodeLine). line_of e ∷ w) rest.1,
    )

-- what is after a key that is after another is after that other one
further : (a b : VoxelKey) (keys : List VoxelKey) → key_cmp a b ≡ Less → AllByRecursion (λ k. key_cmp b k ≡ Less) keys → AllByRecursion (λ k. key_cmp a k ≡ Less) keys
further a b [] low all = tt
further a b (k ∷ keys) low all = (key_cmp_total.trans a b k low all.0, further a b keys low all.1)

here : VoxelKey → Line → List NodeLine → List NodeLine
here key line lines = with_line (line_of (key, line)) lines

module _ (key : VoxelKey) (line : Line) where
  step : (e : Entry) (es : List Entry) (o : Ordering) → key_cmp key e.0 ≡ o → IsStrictlySortedBy key_cmp (keys_of (e ∷ es)) → map line_of (insert_entry key_cmp es key line) ≡ here key line (map line_of es)
      → map line_of (match_ordering o ((key, line) ∷ e ∷ es) ((e.0, line) ∷ es) (e ∷ insert_entry key_cmp es key line)) ≡ here key line (map line_of (e ∷ es))
  unfolding IsStrictlySortedBy here
  step e es Less is up more =
      let rest = all_behind key (e ∷ es) (is, further key e.0 (keys_of es) is up.0) in
      sym (ap (λ (w : List NodeLine). w ++ line_of (key, line) ∷ behind key (map line_of (e ∷ es))) rest.0 ∙ ap (λ (w : List NodeLine). line_of (key, line) ∷ w) rest.1)
  step e es Equal is up more =
      let same : key ≡ e.0 = key_cmp-equal key e.0 is in
      let rest = all_behind key es (subst (λ (k : VoxelKey). AllByRecursion (λ j. key_cmp k j ≡ Less) (keys_of es)) (sym same) up.0) in
      let none : before key (map line_of (e ∷ es)) ≡ [] = ap (λ (b : Bool). cond b (line_of e ∷ before key (map line_of es)) (before key (map line_of es))) (ap is_lt (turned key e.0 Equal is)) ∙ rest.0 in
      let all : behind key (map line_of (e ∷ es)) ≡ map line_of es = ap (λ (b : Bool). cond b (line_of e ∷ behind key (map line_of es)) (behind key (map line_of es))) (ap is_lt is) ∙ rest.1 in
      sym (ap (λ (w : List NodeLine). w ++ line_of (key, line) ∷ behind key (map line_of (e ∷ es))) none ∙ (ap (λ (w : List NodeLine). line_of (key, line) ∷ w) all ∙ ap (λ (k : VoxelKey). line_of (k, line) ∷ map line_of es) same))
  step e es Greater is up more =
      let front : before key (map line_of (e ∷ es)) ≡ line_of e ∷ before key (map line_of es) = ap (λ (b : Bool). cond b (line_of e ∷ before key (map line_of es)) (before key (map line_of es))) (ap is_lt (turned key e.0 Greater is)) in
      let back : behind key (map line_of (e ∷ es)) ≡ behind key (map line_of es) = ap (λ (b : Bool). cond b (line_of e ∷ behind key (map line_of es)) (behind key (map line_of es))) (ap is_lt is) in
      ap (λ (w : List NodeLine). line_of e ∷ w) more
      ∙ sym (ap (λ (w : List NodeLine). w ++ line_of (key, line) ∷ behind key (map line_of (e ∷ es))) front ∙ ap (λ (w : List NodeLine). line_of e ∷ (before key (map line_of es) ++ line_of (key, line) ∷ w)) back)

  -- what the map has under its keys is the list with this line
  pub insert-line : (entries : List Entry) → IsStrictlySortedBy key_cmp (keys_of entries) → map line_of (insert_entry key_cmp entries key line) ≡ with_line (line_of (key, line)) (map line_of entries)
  unfolding IsStrictlySortedBy here
  insert-line [] up = refl
  insert-line (e ∷ es) up = step e es (key_cmp key e.0) refl up (insert-line es up.1)

-- if each line is before a key, all are before it, and none is after it
all_before : (key : VoxelKey) (lines : List NodeLine) → ((k : ℕ) (d : NodeLine) → k < length lines → key_cmp (get_or lines k d).key key ≡ Less) → (before key lines ≡ lines) × (behind key lines ≡ [])
all_before key [] low = (refl, refl)
all_before key (l ∷ lines) low =
    let here : key_cmp l.key key ≡ Less = low 0 l (omega arith) in
    let rest = all_before key lines (λ k d inside. low (suc k) d (omega (arith, inside))) in (
      ap (λ (b : Bool). cond b (l ∷ before key lines) (before key lines)) (ap is_lt here) ∙ ap (λ (w : List NodeLine). l ∷ w) rest.0,
      ap (λ (b : Bool). cond b (l ∷ behind key lines) (behind key lines)) (ap is_lt (turned l.key key Less here)) ∙ rest.1,
    )

-- a line after all others is put at the end
pub line-behind : (line : NodeLine) (lines : List NodeLine) → ((k : ℕ) (d : NodeLine) → k < length lines → key_cmp (get_or lines k d).key line.key ≡ Less) → with_line line lines ≡ lines ++ line ∷ []
line-behind line lines low =
    let all = all_before line.key lines low in
    ap (λ (w : List NodeLine). w ++ line ∷ behind line.key lines) all.0 ∙ ap (λ (w : List NodeLine). lines ++ line ∷ w) all.1
