-- What is noted of entries, one after another.
use Rattle.std.proofs.Common.{◌≡◌, ◌∙◌, ◌+◌, ◌<◌, ◌≤◌, ℕ, ℤ, List, [], ◌∷◌, ◌++◌, length, get_or, take, refl, sym, ap, subst, inl, inr, ◌⊎◌, ⊎_elim, Option, Some, None, Ordering, Less, Equal, Greater, Bool, true, false, cond}
use Rattle.std.specs.Prelude.{pos, negsuc, IsSome}
use Rattle.std.specs.List.{Contains}
use Rattle.std.specs.Ordering.{match_ordering, is_eq}
use Rattle.std.specs.BTreeMap.{is_at}
use Rattle.std.specs.BTreeSet.{insert_key}
use Rattle.std.proofs.lemmas.Bool.{false≢true}
use Rattle.std.proofs.lemmas.List.{take_more}
use Rattle.std.proofs.lemmas.List.Elements.{Contains-append_cases, Contains-append_left, Contains-append_right, All-contains}
use Rattle.ept_space.specs.VoxelKey.{VoxelKey, key_cmp}
use Rattle.ept_space.proofs.KeyOrder.{key_cmp-equal, key_cmp-same}
use Rattle.ept_sample.specs.Members.{IsMember}
use Rattle.ept_sample.proofs.Members.{IsMember-contains, contains-IsMember}
use Rattle.ept_hier.specs.Hierarchy.{Entry}
use Rattle.ept_query.specs.declared.search.Search.{Search}
use Rattle.ept_query.specs.Search.{MeetsArea, HasDepth}
use Rattle.ept_query.specs.Hierarchies.{AreOf, IsEntryIn}
use Rattle.ept_query.specs.Walk.{NotesLinks, NotesTiles, AreShallow}
use Rattle.ept_query.proofs.Readings.{some-is}

-- ---- a key in a set

kept-at : (o : Ordering) (q k x : VoxelKey) (xs : List VoxelKey) → IsMember q (x ∷ xs) → (IsMember q xs → IsMember q (insert_key key_cmp xs k)) → IsMember q (match_ordering o (k ∷ x ∷ xs) (x ∷ xs) (x ∷ insert_key key_cmp xs k))
kept-at Less q k x xs m more = inr m
kept-at Equal q k x xs m more = m
kept-at Greater q k x xs m more = ⊎_elim (λ here. inl here) (λ later. inr (more later)) m

insert-keeps : (q k : VoxelKey) (xs : List VoxelKey) → IsMember q xs → IsMember q (insert_key key_cmp xs k)
insert-keeps q k [] m = absurd m
insert-keeps q k (x ∷ xs) m = kept-at (key_cmp k x) q k x xs m (insert-keeps q k xs)

there-at : (o : Ordering) (k x : VoxelKey) (xs : List VoxelKey) → key_cmp k x ≡ o → IsMember k (insert_key key_cmp xs k) → IsMember k (match_ordering o (k ∷ x ∷ xs) (x ∷ xs) (x ∷ insert_key key_cmp xs k))
there-at Less k x xs is more = inl refl
there-at Equal k x xs is more = inl (sym (key_cmp-equal k x is))
there-at Greater k x xs is more = inr more

insert-there : (k : VoxelKey) (xs : List VoxelKey) → IsMember k (insert_key key_cmp xs k)
insert-there k [] = inl refl
insert-there k (x ∷ xs) = there-at (key_cmp k x) k x xs refl (insert-there k xs)

only-at : (o : Ordering) (q k x : VoxelKey) (xs : List VoxelKey) → (IsMember q (insert_key key_cmp xs k) → IsMember q xs ⊎ (k ≡ q)) → IsMember q (match_ordering o (k ∷ x ∷ xs) (x ∷ xs) (x ∷ insert_key key_cmp xs k)) → IsMember q (x ∷ xs) ⊎ (k ≡ q)
only-at Less q k x xs more m = ⊎_elim (λ here. inr here) (λ later. inl later) m
only-at Equal q k x xs more m = inl m
only-at Greater q k x xs more m = ⊎_elim (λ here. inl (inl here)) (λ later. ⊎_elim (λ old. inl (inr old)) (λ new. inr new) (more later)) m

insert-only : (q k : VoxelKey) (xs : List VoxelKey) → IsMember q (insert_key key_cmp xs k) → IsMember q xs ⊎ (k ≡ q)
insert-only q k [] m = ⊎_elim (λ here. inr here) (λ later. absurd later) m
insert-only q k (x ∷ xs) m = only-at (key_cmp k x) q k x xs (insert-only q k xs) m

-- ---- the links

one-item : {X : Type 0} (x y : X) → Contains (x ∷ []) y → x ≡ y
one-item x y has = ⊎_elim (λ here. here) (λ later. absurd later) (IsMember-contains y (x ∷ []) has)

pub links-none : (search : Search) (keys : List VoxelKey) → NotesLinks search [] keys keys
links-none search keys = record {
  kept = λ key has. has;
  noted = λ key has meets. absurd (IsMember-contains (key, negsuc 0) [] has);
  only = λ key has. inl has;
}

-- an entry that is no link, or whose box doesn't meet the area
pub links-skip : (search : Search) (entry : Entry) (keys : List VoxelKey) → (entry.1 ≡ negsuc 0 → ¬ MeetsArea search entry.0) → NotesLinks search (entry ∷ []) keys keys
links-skip search entry keys apart = record {
  kept = λ key has. has;
  noted = λ key has meets. (
      let is : entry ≡ (key, negsuc 0) = one-item entry (key, negsuc 0) has in
      absurd (apart (ap (λ (e : Entry). e.1) is) (subst (λ (k : VoxelKey). MeetsArea search k) (sym (ap (λ (e : Entry). e.0) is)) meets)));
  only = λ key has. inl has;
}

pub links-put : (search : Search) (entry : Entry) (old new : List VoxelKey) → entry.1 ≡ negsuc 0 → MeetsArea search entry.0 → new ≡ insert_key key_cmp old entry.0 → NotesLinks search (entry ∷ []) old new
links-put search entry old new link meets is = subst (λ (w : List VoxelKey). NotesLinks search (entry ∷ []) old w) (sym is) (record {
  kept = λ key has. contains-IsMember key (insert_key key_cmp old entry.0) (insert-keeps key entry.0 old (IsMember-contains key old has));
  noted = λ key has within. (
      let same : entry.0 ≡ key = ap (λ (e : Entry). e.0) (one-item entry (key, negsuc 0) has) in
      subst (λ (k : VoxelKey). Contains (insert_key key_cmp old entry.0) k) same (contains-IsMember entry.0 (insert_key key_cmp old entry.0) (insert-there entry.0 old)));
  only = λ key has. ⊎_elim (λ was. inl (contains-IsMember key old was)) (λ (same : entry.0 ≡ key). inr (noted-here key same)) (insert-only key entry.0 old (IsMember-contains key (insert_key key_cmp old entry.0) has));
})
  where
    noted-here : (key : VoxelKey) → entry.0 ≡ key → Contains (entry ∷ []) (key, negsuc 0) × MeetsArea search key
    noted-here key same =
        let is : entry ≡ (key, negsuc 0) = ap (λ (k : VoxelKey). let e : Entry = (k, entry.1) in e) same ∙ ap (λ (z : ℤ). let e : Entry = (key, z) in e) link in
        (contains-IsMember (key, negsuc 0) (entry ∷ []) (inl is), subst (λ (k : VoxelKey). MeetsArea search k) same meets)

pub links-both : (search : Search) (front back : List Entry) (old mid new : List VoxelKey) → NotesLinks search front old mid → NotesLinks search back mid new → NotesLinks search (front ++ back) old new
links-both search front back old mid new one two = record {
  kept = λ key has. two.kept key (one.kept key has);
  noted = λ key has meets. ⊎_elim (λ (left : Contains front (key, negsuc 0)). two.kept key (one.noted key left meets)) (λ (right : Contains back (key, negsuc 0)). two.noted key right meets) (Contains-append_cases front back (key, negsuc 0) has);
  only = λ key has. ⊎_elim (λ (was : Contains mid key). ⊎_elim (λ (earlier : Contains old key). inl earlier) (λ (left : Contains front (key, negsuc 0) × MeetsArea search key). inr (Contains-append_left front back (key, negsuc 0) left.0, left.1)) (one.only key was))
      (λ (right : Contains back (key, negsuc 0) × MeetsArea search key). inr (Contains-append_right front back (key, negsuc 0) right.0, right.1)) (two.only key has);
}

pub links-more : (search : Search) (entries : List Entry) (i : ℕ) (entry : Entry) (old mid new : List VoxelKey) → i < length entries → entry ≡ get_or entries i entry → NotesLinks search (take i entries) old mid → NotesLinks search (entry ∷ []) mid new → NotesLinks search (take (i + 1) entries) old new
links-more search entries i entry old mid new within at one two =
    let whole : take (i + 1) entries ≡ take i entries ++ entry ∷ [] = take_more entries i entry within ∙ ap (λ (e : Entry). take i entries ++ e ∷ []) (sym at) in
    subst (λ (w : List Entry). NotesLinks search w old new) (sym whole) (links-both search (take i entries) (entry ∷ []) old mid new one two)

-- ---- the tiles

pub tiles-none : (search : Search) (counts : VoxelKey → Option ℕ) → NotesTiles search [] counts counts
tiles-none search counts = record {
  kept = λ key has. has;
  noted = λ key count has depth meets. absurd (IsMember-contains (key, pos count) [] has);
  only = λ key count is. inl is;
}

pub tiles-skip : (search : Search) (entry : Entry) (counts : VoxelKey → Option ℕ) → ((count : ℕ) → entry.1 ≡ pos count → HasDepth search entry.0 → ¬ MeetsArea search entry.0) → NotesTiles search (entry ∷ []) counts counts
tiles-skip search entry counts apart = record {
  kept = λ key has. has;
  noted = λ key count has depth meets. (
      let is : entry ≡ (key, pos count) = one-item entry (key, pos count) has in
      let same : key ≡ entry.0 = sym (ap (λ (e : Entry). e.0) is) in
      absurd (apart count (ap (λ (e : Entry). e.1) is) (subst (λ (k : VoxelKey). HasDepth search k) same depth) (subst (λ (k : VoxelKey). MeetsArea search k) same meets)));
  only = λ key count is. inl is;
}

is-here : (key : VoxelKey) → is_at (key_cmp key) key ≡ true
is-here key = ap is_eq (key_cmp-same key key refl)

equal-from : (o : Ordering) → is_eq o ≡ true → o ≡ Equal
equal-from Less h = cc
equal-from Equal h = refl
equal-from Greater h = cc

same-key-from : (one two : VoxelKey) → is_at (key_cmp one) two ≡ true → one ≡ two
same-key-from one two at = key_cmp-equal one two (equal-from (key_cmp one two) at)

some-after : (b : Bool) (count : ℕ) (was now : Option ℕ) → now ≡ cond b (Some count) was → IsSome was → IsSome now
some-after true count was now is has = subst IsSome (sym is) refl
some-after false count was now is has = subst IsSome (sym is) has

-- what is counted of a key, after a count was put
put-cases : (b : Bool) (count n : ℕ) (was now : Option ℕ) → now ≡ cond b (Some count) was → now ≡ Some n → (was ≡ Some n) ⊎ ((b ≡ true) × (count ≡ n))
put-cases true count n was now is at = inr (refl, some-is (sym is ∙ at))
put-cases false count n was now is at = inl (sym is ∙ at)

pub tiles-put : (search : Search) (entry : Entry) (count : ℕ) (old new : VoxelKey → Option ℕ) → entry.1 ≡ pos count → HasDepth search entry.0 → MeetsArea search entry.0 → ((q : VoxelKey) → new q ≡ cond (is_at (key_cmp entry.0) q) (Some count) (old q)) → NotesTiles search (entry ∷ []) old new
tiles-put search entry count old new number depth meets updates = record {
  kept = λ key has. some-after (is_at (key_cmp entry.0) key) count (old key) (new key) (updates key) has;
  noted = λ key n has deep within. (
      let same : entry.0 ≡ key = ap (λ (e : Entry). e.0) (one-item entry (key, pos n) has) in
      let here : new entry.0 ≡ Some count = updates entry.0 ∙ ap (λ (b : Bool). cond b (Some count) (old entry.0)) (is-here entry.0) in
      subst (λ (k : VoxelKey). IsSome (new k)) same (subst IsSome (sym here) refl));
  only = λ key n is. ⊎_elim (λ (was : old key ≡ Some n). inl was) (λ (put : (is_at (key_cmp entry.0) key ≡ true) × (count ≡ n)). inr (noted-here key n (same-key-from entry.0 key put.0) put.1))
      (put-cases (is_at (key_cmp entry.0) key) count n (old key) (new key) (updates key) is);
}
  where
    noted-here : (key : VoxelKey) (n : ℕ) → entry.0 ≡ key → count ≡ n → Contains (entry ∷ []) (key, pos n) × HasDepth search key × MeetsArea search key
    noted-here key n same many =
        let is : entry ≡ (key, pos n) = ap (λ (k : VoxelKey). let e : Entry = (k, entry.1) in e) same ∙ ap (λ (z : ℤ). let e : Entry = (key, z) in e) (number ∙ ap (λ (m : ℕ). pos m) many) in
        (contains-IsMember (key, pos n) (entry ∷ []) (inl is), subst (λ (k : VoxelKey). HasDepth search k) same depth, subst (λ (k : VoxelKey). MeetsArea search k) same meets)

pub tiles-both : (search : Search) (front back : List Entry) (old mid new : VoxelKey → Option ℕ) → NotesTiles search front old mid → NotesTiles search back mid new → NotesTiles search (front ++ back) old new
tiles-both search front back old mid new one two = record {
  kept = λ key has. two.kept key (one.kept key has);
  noted = λ key count has depth meets. ⊎_elim (λ (left : Contains front (key, pos count)). two.kept key (one.noted key count left depth meets)) (λ (right : Contains back (key, pos count)). two.noted key count right depth meets) (Contains-append_cases front back (key, pos count) has);
  only = λ key count is. ⊎_elim (λ (was : mid key ≡ Some count). ⊎_elim (λ (earlier : old key ≡ Some count). inl earlier) (λ (left : Contains front (key, pos count) × HasDepth search key × MeetsArea search key). inr (Contains-append_left front back (key, pos count) left.0, left.1, left.2)) (one.only key count was))
      (λ (right : Contains back (key, pos count) × HasDepth search key × MeetsArea search key). inr (Contains-append_right front back (key, pos count) right.0, right.1, right.2)) (two.only key count is);
}

pub tiles-more : (search : Search) (entries : List Entry) (i : ℕ) (entry : Entry) (old mid new : VoxelKey → Option ℕ) → i < length entries → entry ≡ get_or entries i entry → NotesTiles search (take i entries) old mid → NotesTiles search (entry ∷ []) mid new → NotesTiles search (take (i + 1) entries) old new
tiles-more search entries i entry old mid new within at one two =
    let whole : take (i + 1) entries ≡ take i entries ++ entry ∷ [] = take_more entries i entry within ∙ ap (λ (e : Entry). take i entries ++ e ∷ []) (sym at) in
    subst (λ (w : List Entry). NotesTiles search w old new) (sym whole) (tiles-both search (take i entries) (entry ∷ []) old mid new one two)

-- no key with a count is deeper than the octree
pub tiles-shallow : (search : Search) (top : VoxelKey) (entries : List Entry) (old new : VoxelKey → Option ℕ) → AreOf search top entries → NotesTiles search entries old new → AreShallow search old → AreShallow search new
tiles-shallow search top entries old new form noted shallow = λ key has. by_count key (new key) refl has
  where
    by_count : (key : VoxelKey) (o : Option ℕ) → new key ≡ o → IsSome o → key.depth ≤ search.cube.depth
    by_count key None is has = absurd (false≢true has)
    by_count key (Some count) is has =
        ⊎_elim (λ (was : old key ≡ Some count). shallow key (subst IsSome (sym was) refl))
        (λ (entry : Contains entries (key, pos count) × HasDepth search key × MeetsArea search key). (All-contains (λ (e : Entry). IsEntryIn search top e) entries (key, pos count) form.each entry.0).shallow)
        (noted.only key count is)
