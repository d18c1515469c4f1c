-- One more node.
use Rattle.std.proofs.Common.{◌≡◌, ◌∙◌, ℕ, ◌<◌, ◌≤◌, Bool, true, false, cond, ◌&&◌, nat_lt, List, [], ◌∷◌, ◌++◌, map, refl, sym, ap, arith, filter, length, codes, pos, negsuc}
use Rattle.std.specs.declared.cmp.Ordering.TheVariants.{Less, Greater}
use Rattle.std.specs.BTreeMap.{insert_entry}
use Rattle.std.specs.List.{All, Contains, join_by}
use Rattle.std.proofs.lemmas.Bool.Decides.{nat_tests}
use Rattle.std.proofs.lemmas.List.{append-nil, append_assoc, map-append}
use Rattle.std.proofs.lemmas.List.Elements.{All-weaker, All-filter, All-map, All-contains_itself, filter-append}
use Rattle.std.proofs.lemmas.Simd.{map-map}
use Rattle.ept_space.specs.VoxelKey.{VoxelKey, key_cmp, same_key}
use Rattle.ept_hier.specs.Hierarchy.{Entry, Node, entry_text, entry_in, entries_of, is_link, has_file, stands_in}
use Rattle.ept_hier.specs.OpenFiles.{OpenFile, file_above, open_text, open_files, with_entry, with_node}
use Rattle.ept_hier.proofs.Lists.{map-agree, filter-some, filter-none, join_by-more, insert_entry-last}
use Rattle.ept_hier.proofs.Levels.{stands-above, stands-self, stands-behind, before-other, is_false}
use Rattle.ept_hier.proofs.Adding.{text_with, with_entry-at}

one_more : {X Y : Type 0} (f : X → Y) (x : X) (b : Bool) → map f (cond b (x ∷ []) []) ≡ cond b (f x ∷ []) []
one_more f x true = refl
one_more f x false = refl

-- ---- the entries of a file

entries-more : (step : ℕ) (ns : List Node) (n : Node) (top : VoxelKey) → entries_of step (ns ++ n ∷ []) top ≡ entries_of step ns top ++ cond (stands_in step top n.0) (entry_in step top n ∷ []) []
unfolding entries_of
entries-more step ns n top =
    ap (λ w. map (entry_in step top) w) (filter-append (λ (m : Node). stands_in step top m.0) ns (n ∷ []))
    ∙ (map-append (entry_in step top) (filter (λ (m : Node). stands_in step top m.0) ns) (cond (stands_in step top n.0) (n ∷ []) [])
    ∙ ap (λ w. map (entry_in step top) (filter (λ (m : Node). stands_in step top m.0) ns) ++ w) (one_more (entry_in step top) n (stands_in step top n.0)))

length-map_is : {X Y : Type 0} (f : X → Y) (xs : List X) → 0 < length xs → 0 < length (map f xs)
length-map_is f [] some = some
length-map_is f (x ∷ xs) some = omega arith

entries-some : (step : ℕ) (ns : List Node) (m : Node) → Contains ns m → 0 < length (entries_of step ns m.0)
unfolding entries_of
entries-some step ns m here =
    length-map_is (entry_in step m.0) (filter (λ (x : Node). stands_in step m.0 x.0) ns) (filter-some (λ (x : Node). stands_in step m.0 x.0) m ns here (stands-self step m.0))

entries-none : (step : ℕ) (ns : List Node) (n : Node) → All (λ (m : Node). key_cmp m.0 n.0 ≡ Less) ns → entries_of step ns n.0 ≡ []
unfolding entries_of
entries-none step ns n before =
    ap (λ w. map (entry_in step n.0) w) (filter-none (λ (x : Node). stands_in step n.0 x.0) ns (All-weaker (λ (m : Node). key_cmp m.0 n.0 ≡ Less) (λ (m : Node). stands_in step n.0 m.0 ≡ false) (λ m less. stands-behind step m.0 n.0 less) ns before))

-- ---- the text of a file

text_as : (step : ℕ) (ns : List Node) (top : VoxelKey) → codes "{" ++ join_by entry_text (codes ",") (entries_of step ns top) ≡ open_text step ns top
unfolding open_text
text_as step ns top = refl

text_step : (es : List Entry) (e : Entry) (b : Bool) → 0 < length es → codes "{" ++ join_by entry_text (codes ",") (es ++ cond b (e ∷ []) []) ≡ cond b (text_with (codes "{" ++ join_by entry_text (codes ",") es) e.0 e.1) (codes "{" ++ join_by entry_text (codes ",") es)
text_step es e true some =
    ap (λ w. codes "{" ++ w) (join_by-more entry_text (codes ",") es e some)
    ∙ sym (append_assoc (codes "{" ++ join_by entry_text (codes ",") es) (codes ",") (entry_text e) ∙ append_assoc (codes "{") (join_by entry_text (codes ",") es) (codes "," ++ entry_text e))
text_step es e false some = ap (λ w. codes "{" ++ join_by entry_text (codes ",") w) (append-nil es)

-- the text of a file that is there
text-more : (step : ℕ) (ns : List Node) (n m : Node) → Contains ns m → open_text step (ns ++ n ∷ []) m.0 ≡ cond (stands_in step m.0 n.0) (text_with (open_text step ns m.0) n.0 (cond (is_link step m.0 n.0) (negsuc 0) (pos n.1))) (open_text step ns m.0)
unfolding open_text
text-more step ns n m here =
    ap (λ w. codes "{" ++ join_by entry_text (codes ",") w) (entries-more step ns n m.0) ∙ text_step (entries_of step ns m.0) (entry_in step m.0 n) (stands_in step m.0 n.0) (entries-some step ns m here)

pub no_link : (step : ℕ) (key : VoxelKey) → is_link step key key ≡ false
unfolding is_link
no_link step key = grind (arith, nat_tests)

-- the text of the file of the new node
text-new : (step : ℕ) (ns : List Node) (n : Node) → All (λ (m : Node). key_cmp m.0 n.0 ≡ Less) ns → open_text step (ns ++ n ∷ []) n.0 ≡ codes "{" ++ entry_text (n.0, pos n.1)
unfolding open_text
text-new step ns n before =
    ap (λ w. codes "{" ++ join_by entry_text (codes ",") w) (entries-more step ns n n.0 ∙ (ap (λ w. w ++ cond (stands_in step n.0 n.0) (entry_in step n.0 n ∷ []) []) (entries-none step ns n before) ∙ ap (λ b. cond b (entry_in step n.0 n ∷ []) []) (stands-self step n.0)))
    ∙ (ap (λ w. codes "{" ++ w) (append-nil (entry_text (entry_in step n.0 n)))
    ∙ ap (λ (b : Bool). codes "{" ++ entry_text (n.0, cond b (negsuc 0) (pos n.1))) (no_link step n.0))

-- ---- the files

module _ (step : ℕ) (ns : List Node) (n : Node) (before : All (λ (m : Node). key_cmp m.0 n.0 ≡ Less) ns) where
  -- a file after the new node is added
  abbrev made : Node → OpenFile
  made m = (m.0, open_text step (ns ++ n ∷ []) m.0)

  abbrev was : Node → OpenFile
  was m = (m.0, open_text step ns m.0)

  abbrev filed : Node → Bool
  filed m = has_file step m.0

  -- what is known of each node before the new one
  front : All (λ (m : Node). Contains ns m × (key_cmp m.0 n.0 ≡ Less)) ns
  front = λ k d low. (All-contains_itself ns k d low, before k d low)

  choose : (m : Node) (b c : Bool) → b ≡ c → (let x : OpenFile = (m.0, cond b (text_with (open_text step ns m.0) n.0 (cond (is_link step m.0 n.0) (negsuc 0) (pos n.1))) (open_text step ns m.0)) in x) ≡ (m.0, cond c (text_with (open_text step ns m.0) n.0 (cond (is_link step m.0 n.0) (negsuc 0) (pos n.1))) (open_text step ns m.0))
  choose m b c e = ap (λ (t : Bool). let x : OpenFile = (m.0, cond t (text_with (open_text step ns m.0) n.0 (cond (is_link step m.0 n.0) (negsuc 0) (pos n.1))) (open_text step ns m.0)) in x) e

  -- a file with the new node, depending on whether it is the file above it
  made-is : (m : Node) (b : Bool) → Contains ns m → stands_in step m.0 n.0 ≡ b → (let x : OpenFile = (m.0, cond b (text_with (open_text step ns m.0) n.0 (cond (is_link step m.0 n.0) (negsuc 0) (pos n.1))) (open_text step ns m.0)) in x) ≡ made m
  made-is m b here is =
      choose m b (stands_in step m.0 n.0) (sym is) ∙ ap (λ (t : List ℕ). let x : OpenFile = (m.0, t) in x) (sym (text-more step ns n m here))

  files_deep : nat_lt 0 n.0.depth ≡ true → map (with_entry step n) (open_files step ns) ≡ map made (filter filed ns)
  unfolding open_files
  files_deep deep =
      map-map (with_entry step n) was (filter filed ns)
      ∙ map-agree (λ m. with_entry step n (was m)) made filed ns (All-weaker (λ (m : Node). Contains ns m × (key_cmp m.0 n.0 ≡ Less)) (λ (m : Node). filed m ≡ true → with_entry step n (was m) ≡ made m) (λ m h file.
      let stands : stands_in step m.0 n.0 ≡ same_key m.0 (file_above step n.0) = stands-above step m.0 n.0 file (before-other m.0 n.0 h.1) ∙ ap (λ b. b && same_key m.0 (file_above step n.0)) deep in
      with_entry-at step n m.0 (open_text step ns m.0) (same_key m.0 (file_above step n.0)) refl ∙ made-is m (same_key m.0 (file_above step n.0)) h.0 stands) ns front)

  files_top : nat_lt 0 n.0.depth ≡ false → open_files step ns ≡ map made (filter filed ns)
  unfolding open_files
  files_top top =
      map-agree was made filed ns (All-weaker (λ (m : Node). Contains ns m × (key_cmp m.0 n.0 ≡ Less)) (λ (m : Node). filed m ≡ true → was m ≡ made m) (λ m h file.
      let stands : stands_in step m.0 n.0 ≡ false = stands-above step m.0 n.0 file (before-other m.0 n.0 h.1) ∙ ap (λ b. b && same_key m.0 (file_above step n.0)) top in
      made-is m false h.0 stands) ns front)

  above_by : (b : Bool) → nat_lt 0 n.0.depth ≡ b → cond b (map (with_entry step n) (open_files step ns)) (open_files step ns) ≡ map made (filter filed ns)
  above_by true e = files_deep e
  above_by false e = files_top e

  greater : (a b : VoxelKey) → key_cmp a b ≡ Less → key_cmp b a ≡ Greater
  greater a b less = grind (arith, nat_tests)

  all_before : All (λ (e : OpenFile). key_cmp n.0 e.0 ≡ Greater) (map made (filter filed ns))
  all_before =
      All-map (λ (e : OpenFile). key_cmp n.0 e.0 ≡ Greater) made (filter filed ns) (All-filter filed (λ (m : Node). key_cmp n.0 m.0 ≡ Greater) ns (All-weaker (λ (m : Node). key_cmp m.0 n.0 ≡ Less) (λ (m : Node). key_cmp n.0 m.0 ≡ Greater) (λ m less. greater m.0 n.0 less) ns before))

  own_by : (b : Bool) → cond b (insert_entry key_cmp (map made (filter filed ns)) n.0 (codes "{" ++ entry_text (n.0, pos n.1))) (map made (filter filed ns)) ≡ map made (filter filed ns) ++ map made (cond b (n ∷ []) [])
  own_by true =
      insert_entry-last (map made (filter filed ns)) n.0 (codes "{" ++ entry_text (n.0, pos n.1)) all_before
      ∙ ap (λ (t : List ℕ). let x : OpenFile = (n.0, t) in map made (filter filed ns) ++ x ∷ []) (sym (text-new step ns n before))
  own_by false = sym (append-nil (map made (filter filed ns)))

  -- the files with one more node
  pub one-more : with_node step n (open_files step ns) ≡ open_files step (ns ++ n ∷ [])
  unfolding with_node open_files
  one-more =
      ap (λ (w : List OpenFile). cond (filed n) (insert_entry key_cmp w n.0 (codes "{" ++ entry_text (n.0, pos n.1))) w) (above_by (nat_lt 0 n.0.depth) refl)
      ∙ (own_by (filed n)
      ∙ (sym (map-append made (filter filed ns) (cond (filed n) (n ∷ []) [])) ∙ ap (λ (w : List Node). map made w) (sym (filter-append filed ns (n ∷ [])))))

-- ---- the steps of the code

pub middle-deep : (step : ℕ) (n : Node) (d : ℕ) (files middle : List OpenFile) → d ≡ n.0.depth → 0 < d → middle ≡ map (with_entry step n) files → middle ≡ cond (nat_lt 0 n.0.depth) (map (with_entry step n) files) files
middle-deep step n d files middle at deep is =
    let yes : nat_lt 0 n.0.depth ≡ true = grind (arith, nat_tests) in
    is ∙ ap (λ (b : Bool). cond b (map (with_entry step n) files) files) (sym yes)

pub middle-top : (step : ℕ) (n : Node) (d : ℕ) (files : List OpenFile) → d ≡ n.0.depth → d ≤ 0 → files ≡ cond (nat_lt 0 n.0.depth) (map (with_entry step n) files) files
middle-top step n d files at top =
    let no : nat_lt 0 n.0.depth ≡ false = is_false (nat_lt 0 n.0.depth) (λ e. let t : 0 < n.0.depth = grind (arith, nat_tests) in absurd (omega (arith, at, t, top))) in
    ap (λ (b : Bool). cond b (map (with_entry step n) files) files) (sym no)

-- a node with a file of its own, and a node without one
pub node-filed : (step : ℕ) (n : Node) (key : VoxelKey) (files middle : List OpenFile) (text : List ℕ) → key ≡ n.0 → middle ≡ cond (nat_lt 0 n.0.depth) (map (with_entry step n) files) files → has_file step n.0 ≡ true → text ≡ codes "{" ++ entry_text (n.0, pos n.1) → insert_entry key_cmp middle key text ≡ with_node step n files
unfolding with_node
node-filed step n key files middle text at is file text_is =
    ap (λ (k : VoxelKey). insert_entry key_cmp middle k text) at
    ∙ (ap (λ (t : List ℕ). insert_entry key_cmp middle n.0 t) text_is
    ∙ (ap (λ (w : List OpenFile). insert_entry key_cmp w n.0 (codes "{" ++ entry_text (n.0, pos n.1))) is
    ∙ ap (λ (b : Bool). cond b (insert_entry key_cmp (cond (nat_lt 0 n.0.depth) (map (with_entry step n) files) files) n.0 (codes "{" ++ entry_text (n.0, pos n.1))) (cond (nat_lt 0 n.0.depth) (map (with_entry step n) files) files)) (sym file)))

pub node-unfiled : (step : ℕ) (n : Node) (files middle : List OpenFile) → middle ≡ cond (nat_lt 0 n.0.depth) (map (with_entry step n) files) files → has_file step n.0 ≡ false → middle ≡ with_node step n files
unfolding with_node
node-unfiled step n files middle is file =
    is
    ∙ ap (λ (b : Bool). cond b (insert_entry key_cmp (cond (nat_lt 0 n.0.depth) (map (with_entry step n) files) files) n.0 (codes "{" ++ entry_text (n.0, pos n.1))) (cond (nat_lt 0 n.0.depth) (map (with_entry step n) files) files)) (sym file)
