-- Files that are put one after another.
use Rattle.std.proofs.Common.{◌≡◌, ◌≢◌, ◌∙◌, inl, inr, ℕ, ◌+◌, ◌<◌, List, length, take, get_or, [], ◌∷◌, ◌++◌, map, cond, refl, sym, ap, subst, Option, Some}
use Rattle.std.specs.Prelude.{bytes_eq, Result, Ok, Err, OnOk}
use Rattle.std.proofs.lemmas.List.{take_more, map-append}
use Rattle.ept_base.specs.Files.{Files, changed, SameFiles, Puts, StepsBy}
use Rattle.ept_base.proofs.Moving.{steps_weaker, steps_both}
use Rattle.ept_base.proofs.Changing.{changed_same, changed_other}
use Rattle.ept_sample.specs.Members.{IsMember}
use Rattle.ept_sample.proofs.Members.{All-members, all-member, IsMember-append, IsMember-map, contains-IsMember}
use Rattle.ept_meta.specs.Output.{File, names_of}
use Rattle.ept_publish.specs.Publishing.{Gains, with_files, PutsAll, SameButThese}

-- ---- several puts

with_files-same : (f g : Files) (files : List File) → SameFiles f g → SameFiles (with_files f files) (with_files g files)
with_files-same f g [] same = same
with_files-same f g (x ∷ files) same =
    with_files-same (changed f x.0 (Some x.1)) (changed g x.0 (Some x.1)) files (λ name. ap (λ (o : Option (List ℕ)). cond (bytes_eq name x.0) (Some x.1) o) (same name))

with_files-append : (f : Files) (xs ys : List File) → with_files f (xs ++ ys) ≡ with_files (with_files f xs) ys
with_files-append f [] ys = refl
with_files-append f (x ∷ xs) ys = with_files-append (changed f x.0 (Some x.1)) xs ys

puts_both : (xs ys : List File) (a b c : Files) → PutsAll xs a b → PutsAll ys b c → PutsAll (xs ++ ys) a c
puts_both xs ys a b c first second name =
    second name ∙ (with_files-same (with_files a xs) b ys first name ∙ ap (λ (f : Files). f name) (sym (with_files-append a xs ys)))

pub puts-none : (a b : Option Files) → StepsBy SameFiles a b → StepsBy (PutsAll []) a b
puts-none a b step = step

pub puts-both : (xs ys : List File) (a b c : Option Files) → StepsBy (PutsAll xs) a b → StepsBy (PutsAll ys) b c → StepsBy (PutsAll (xs ++ ys)) a c
puts-both xs ys a b c = steps_both (PutsAll xs) (PutsAll ys) (PutsAll (xs ++ ys)) (puts_both xs ys) a b c

-- a single put
pub puts-one : (name bytes : List ℕ) (a b : Option Files) → StepsBy (Puts name bytes) a b → StepsBy (PutsAll ((name, bytes) ∷ [])) a b
puts-one name bytes a b step = step

-- and one more
pub puts-more : (files more : List File) (name bytes : List ℕ) → more ≡ files ++ (name, bytes) ∷ [] → (a b c : Option Files) → StepsBy (PutsAll files) a b → StepsBy (Puts name bytes) b c → StepsBy (PutsAll more) a c
puts-more files more name bytes is a b c first second =
    subst (λ (w : List File). StepsBy (PutsAll w) a c) (sym is) (puts-both files ((name, bytes) ∷ []) a b c first (puts-one name bytes b c second))

-- the first items of a list, with one more
pub taken-more : {X Y : Type 0} (f : X → Y) (xs : List X) (i : ℕ) (x : X) → i < length xs → x ≡ get_or xs i x → map f (take (i + 1) xs) ≡ map f (take i xs) ++ f x ∷ []
taken-more {X} f xs i x low is =
    let more : take (i + 1) xs ≡ take i xs ++ x ∷ [] = take_more xs i x low ∙ ap (λ (y : X). take i xs ++ y ∷ []) (sym is) in
    ap (map f) more ∙ map-append f (take i xs) (x ∷ [])

-- what is read stays
pub puts-kept : (xs : List File) (a b c : Option Files) → StepsBy (PutsAll xs) a b → StepsBy SameFiles b c → StepsBy (PutsAll xs) a c
puts-kept xs a b c = steps_both (PutsAll xs) SameFiles (PutsAll xs) (λ f g h first same name. same name ∙ first name) a b c

-- what is put reads the same before
pub puts-then : (name bytes : List ℕ) (a b c : Option Files) → StepsBy SameFiles a b → StepsBy (Puts name bytes) b c → StepsBy (Puts name bytes) a c
puts-then name bytes a b c same step = puts-more [] ((name, bytes) ∷ []) name bytes refl a b c (puts-none a b same) step

-- ---- files of different names

abbrev pub AreApart : List File → Type 0
AreApart [] = Unit {0}
AreApart (f ∷ files) = ((g : File) → IsMember g files → f.0 ≢ g.0) × AreApart files

pub apart-append : (xs ys : List File) → AreApart xs → AreApart ys → ((x y : File) → IsMember x xs → IsMember y ys → x.0 ≢ y.0) → AreApart (xs ++ ys)
apart-append [] ys first second across = second
apart-append (x ∷ xs) ys first second across = (
  λ g m. elim (IsMember-append g xs ys m) [ inl l ↦ first.0 g l | inr r ↦ across x g (inl refl) r ],
  apart-append xs ys first.1 second (λ y z m n. across y z (inr m) n),
)

other_name : (f : Files) (files : List File) (name : List ℕ) → ((g : File) → IsMember g files → name ≢ g.0) → with_files f files name ≡ f name
other_name f [] name none = refl
other_name f (x ∷ files) name none =
    other_name (changed f x.0 (Some x.1)) files name (λ g m. none g (inr m)) ∙ changed_other f x.0 (Some x.1) name (none x (inl refl))

put_name : (f : Files) (files : List File) → AreApart files → (g : File) → IsMember g files → with_files f files g.0 ≡ Some g.1
put_name f [] apart g m = absurd m
put_name f (x ∷ files) apart g (inl is) =
    subst (λ (h : File). with_files (changed f x.0 (Some x.1)) files h.0 ≡ Some h.1) is
    (other_name (changed f x.0 (Some x.1)) files x.0 apart.0 ∙ changed_same f x.0 (Some x.1))
put_name f (x ∷ files) apart g (inr m) = put_name (changed f x.0 (Some x.1)) files apart.1 g m

pub gained : (files : List File) → AreApart files → (old new : Files) → PutsAll files old new → Gains files old new
gained files apart old new put = record {
  are_there = All-members (λ (f : File). new f.0 ≡ Some f.1) files (λ f m. put f.0 ∙ put_name old files apart f m);
  others_stay = λ name none. put name ∙ other_name old files name (λ g m. all-member (λ (f : File). name ≢ f.0) g files none m);
}

pub puts-gain : (files : List File) → AreApart files → (old new : Option Files) → StepsBy (PutsAll files) old new → StepsBy (Gains files) old new
puts-gain files apart = steps_weaker (PutsAll files) (Gains files) (gained files apart)

pub only-these : (files : List File) (old new : Files) → PutsAll files old new → SameButThese (names_of files) old new
only-these files old new put name none =
    put name ∙ other_name old files name (λ g m is. none (contains-IsMember name (names_of files) (subst (λ (n : List ℕ). IsMember n (names_of files)) (sym is) (IsMember-map (λ (f : File). f.0) g files m))))

-- ---- results

-- a fact holds on success
pub any-ok : {E : Type 0} (r : Result (Unit {0}) E) (P : Type 0) → P → OnOk r P
any-ok (Ok u) P p = p
any-ok (Err e) P p = tt
