-- Reading classes, one after another.
use Rattle.std.proofs.Common.{◌≡◌, ℕ, suc, ◌+◌, ◌<◌, ◌≤◌, List, [], ◌∷◌, ◌++◌, map, Bool, true, false, ◌||◌, eqb, decimal, refl, sym, ap, subst, ◌∙◌, arith, append-nil, append_assoc}
use Rattle.std.specs.List.{AllByRecursion, list_any}
use Rattle.std.proofs.lemmas.List.{map-append}
use Rattle.std.proofs.lemmas.Fmt.{decimal_injective}
use Rattle.ept_class.specs.declared.class_set.ClassSet.{ClassSet}
use Rattle.ept_class.specs.ClassSet.{has_class}
use Rattle.ept_filter.specs.SiftText.{AscendFrom, IsClassList, HasMembers, IsClassWord}
use Rattle.ept_filter.specs.Words.{words}

-- the least number that may follow some ascending numbers
abbrev after : ℕ → List ℕ → ℕ
after least [] = least
after least (n ∷ later) = after (suc n) later

-- the words of some classes come before the rest
pub record HasReadClasses (text : List ℕ) (rest : List (List ℕ)) (set : ClassSet) (least : ℕ) : Type 0 where
  pub classes : List ℕ
  pub spelled : words text ≡ map decimal classes ++ rest
  pub ascend : AscendFrom 0 classes
  pub after_them : least ≡ after 0 classes
  pub bytes : AllByRecursion (λ class. class < 256) classes
  pub members : HasMembers set classes
  pub small : least ≤ 256

ascend-append : (least : ℕ) (front back : List ℕ) → AscendFrom least front → AscendFrom (after least front) back → AscendFrom least (front ++ back)
ascend-append least [] back f b = b
ascend-append least (n ∷ front) back f b = (f.0, ascend-append (suc n) front back f.1 b)

ascend-behind : (least : ℕ) (front back : List ℕ) → AscendFrom least (front ++ back) → AscendFrom (after least front) back
ascend-behind least [] back h = h
ascend-behind least (n ∷ front) back h = ascend-behind (suc n) front back h.1

after-append : (least n : ℕ) (front : List ℕ) → after least (front ++ n ∷ []) ≡ suc n
after-append least n [] = refl
after-append least n (m ∷ front) = after-append (suc m) n front

all-append : (front back : List ℕ) → AllByRecursion (λ class. class < 256) front → AllByRecursion (λ class. class < 256) back → AllByRecursion (λ class. class < 256) (front ++ back)
all-append [] back f b = b
all-append (n ∷ front) back f b = (f.0, all-append front back f.1 b)

any-push : (class member : ℕ) (front : List ℕ) → list_any (λ m. eqb class m) (front ++ member ∷ []) ≡ (eqb class member || list_any (λ m. eqb class m) front)
any-push class member [] = refl
any-push class member (m ∷ front) = ap (λ (b : Bool). eqb class m || b) (any-push class member front) ∙ swap (eqb class m) (eqb class member) (list_any (λ n. eqb class n) front)
  where
    swap : (a b d : Bool) → (a || (b || d)) ≡ (b || (a || d))
    swap true true d = refl
    swap true false d = refl
    swap false true d = refl
    swap false false d = refl

pub none-read : (text : List ℕ) (set : ClassSet) → ((class : ℕ) → has_class set class ≡ false) → HasReadClasses text (words text) set 0
none-read text set none = record {
  classes = [];
  spelled = refl;
  ascend = tt;
  after_them = refl;
  bytes = tt;
  members = none;
  small = omega arith;
}

module _ (text : List ℕ) (set : ClassSet) (least : ℕ) (word : List ℕ) (more : List (List ℕ)) (h : HasReadClasses text (word ∷ more) set least) where
  pub read-more-classes : (now : ClassSet) (class : ℕ) → IsClassWord word least class → ((other : ℕ) → has_class now other ≡ (eqb other class || has_class set other)) → HasReadClasses text more now (class + 1)
  read-more-classes now class is inserted =
      record {
        classes = h.classes ++ class ∷ [];
        spelled =
            h.spelled ∙ ap (λ (w : List ℕ). map decimal h.classes ++ (w ∷ more)) is.0
            ∙ sym (append_assoc (map decimal h.classes) (decimal class ∷ []) more) ∙ ap (λ (ws : List (List ℕ)). ws ++ more) (sym (map-append decimal h.classes (class ∷ [])));
        ascend = ascend-append 0 h.classes (class ∷ []) h.ascend (omega (arith, is.1, h.after_them), tt);
        after_them = omega (arith, after-append 0 class h.classes);
        bytes = all-append h.classes (class ∷ []) h.bytes (is.2, tt);
        members = λ other. inserted other ∙ ap (λ (b : Bool). eqb other class || b) (h.members other) ∙ sym (any-push other class h.classes);
        small = omega (arith, is.2);
      }

  -- the words are these classes
  pub next-class : (classes : List ℕ) → IsClassList text classes → (class : ℕ) × IsClassWord word least class
  next-class classes is =
      let found = behind h.classes classes (sym is.spelled ∙ h.spelled) h.bytes is.bytes in
      let ascends = ascend-behind 0 h.classes (found.0 ∷ found.1) (subst (AscendFrom 0) found.2 is.ascend) in
      (found.0, (found.3, omega (arith, ascends.0, h.after_them), found.4))
    where
      behind : (front list : List ℕ) → map decimal list ≡ map decimal front ++ (word ∷ more) → AllByRecursion (λ class. class < 256) front → AllByRecursion (λ class. class < 256) list → (class : ℕ) × (later : List ℕ) × (list ≡ front ++ class ∷ later) × (word ≡ decimal class) × (class < 256)
      behind [] [] e f l = absurd cc
      behind [] (n ∷ list) e f l = (n, list, refl, cc, l.0)
      behind (m ∷ front) [] e f l = absurd cc
      behind (m ∷ front) (n ∷ list) e f l =
          let head : decimal n ≡ decimal m = cc in
          let tail : map decimal list ≡ map decimal front ++ (word ∷ more) = cc in
          let same : n ≡ m = decimal_injective n m (omega (arith, l.0)) (omega (arith, f.0)) head in
          let later = behind front list tail f.1 l.1 in
          (later.0, later.1, ap (λ (k : ℕ). k ∷ list) same ∙ ap (λ (ks : List ℕ). m ∷ ks) later.2, later.3, later.4)

pub all-classes : (text : List ℕ) (set : ClassSet) (least : ℕ) → HasReadClasses text [] set least → (classes : List ℕ) × IsClassList text classes × HasMembers set classes
all-classes text set least h =
    (h.classes, record { spelled = h.spelled ∙ append-nil (map decimal h.classes); ascend = h.ascend; bytes = h.bytes }, h.members)
