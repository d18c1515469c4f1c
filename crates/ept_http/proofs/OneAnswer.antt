-- A text spells one box, a target asks for one thing, and bytes ask for one thing.
use Rattle.std.proofs.Common.{◌≡◌, ◌≢◌, ℕ, ◌<◌, List, [], ◌∷◌, ◌++◌, length, ℤ, pos, FitsSigned, w64, Bool, true, false, Option, Some, None, IsTrue, if◌then◌else◌, refl, sym, ap, subst, ◌∙◌, arith, lit<, decimal, inl, inr, Result, Ok, Err, OnErr}
use Rattle.std.specs.Prelude.{codes, MatchOption}
use Rattle.std.specs.Fmt.{signed_decimal}
use Rattle.std.specs.List.{AllByRecursion}
use Rattle.std.proofs.lemmas.List.{append_cancel_left}
use Rattle.ept_space.specs.declared.box3.Box3.{Box3}
use Rattle.ept_space.specs.Place.{coordinate}
use Rattle.ept_class.proofs.Bits.{members_make_the_set}
use Rattle.ept_filter.specs.declared.sift.Sift.{Sift}
use Rattle.ept_filter.specs.SiftText.{IsSiftText}
use Rattle.ept_filter.proofs.Once.{texts_have_one_sift}
use Rattle.ept_http.specs.declared.asked.Asked.{Asked}
use Rattle.ept_http.specs.declared.asked.Asked.TheVariants.{File, Query, Select, Refuse}
use Rattle.ept_http.specs.QueryWords.{IsBoxText, IsDepthsText}
use Rattle.ept_http.specs.Targets.{IsServedName, IsQueryTarget, AreSiftWords, IsSelectTarget, AsksFor}
use Rattle.httparse.specs.Grammar.{RequestHead}
use Rattle.httparse.proofs.GrammarLemmas.{request_unique}
use Rattle.ept_http.specs.WholeHead.{IsHead, lines_of}
use Rattle.ept_http.specs.Fields.{has_close}
use Rattle.ept_http.specs.Answers.{refusal_of, HeadAsks, IsAnswerTo, IsAnswer, MayBeAsked, IsJudge}
use Rattle.ept_http.specs.AnswerHead.{is_refusal}
use Rattle.ept_http.proofs.TargetLemmas.{box-lacks, depths-lack}
use Rattle.ept_http.proofs.SiftTexts.{classes-lack, time-lacks}
use Rattle.ept_http.proofs.Numbers.{number-lacks, one-number}
use Rattle.ept_http.proofs.QueryLemmas.{three-axes, split-box, after_min_x, after_min_y, after_min_z, after_max_x, small-depth}

-- a list before a mark that it lacks is found again
pub same-front : (mark : ℕ) (xs ys s t : List ℕ) → AllByRecursion (λ b. b ≢ mark) xs → AllByRecursion (λ b. b ≢ mark) ys → xs ++ mark ∷ s ≡ ys ++ mark ∷ t → (xs ≡ ys) × (s ≡ t)
same-front mark [] [] s t no_x no_y same = (refl, cc)
same-front mark [] (y ∷ ys) s t no_x no_y same = absurd (no_y.0 cc)
same-front mark (x ∷ xs) [] s t no_x no_y same = absurd (no_x.0 cc)
same-front mark (x ∷ xs) (y ∷ ys) s t no_x no_y same =
    let rest : (xs ≡ ys) × (s ≡ t) = same-front mark xs ys s t no_x.1 no_y.1 cc in
    let fronts = rest.0 in
    (cc, rest.1)

-- so is a number before a comma
same-number : (m n : ℤ) (s t : List ℕ) → FitsSigned w64 m → FitsSigned w64 n → signed_decimal m ++ 44 ∷ s ≡ signed_decimal n ++ 44 ∷ t → (m ≡ n) × (s ≡ t)
same-number m n s t fits_m fits_n same =
    let parts = same-front 44 (signed_decimal m) (signed_decimal n) s t (number-lacks 44 m (lit< tt) fits_m) (number-lacks 44 n (lit< tt) fits_n) same in
    (one-number m n (signed_decimal m) fits_m fits_n refl parts.0, parts.1)

same-places : (least most : List ℤ) → length least ≡ 3 → length most ≡ 3 → coordinate least 0 ≡ coordinate most 0 → coordinate least 1 ≡ coordinate most 1 → coordinate least 2 ≡ coordinate most 2 → least ≡ most
same-places least most a b x y z =
    let left = three-axes least a in
    let right = three-axes most b in
    cc

pub one-box : (text : List ℕ) (a b : Box3) → IsBoxText text a → IsBoxText text b → a ≡ b
one-box text a b is_a is_b =
    let p = split-box text a is_a in
    let q = split-box text b is_b in
    let min_x = same-number _ _ (after_min_x a) (after_min_x b) p.min_x q.min_x (sym p.spelled ∙ q.spelled) in
    let min_y = same-number _ _ (after_min_y a) (after_min_y b) p.min_y q.min_y min_x.1 in
    let min_z = same-number _ _ (after_min_z a) (after_min_z b) p.min_z q.min_z min_y.1 in
    let max_x = same-number _ _ (after_max_x a) (after_max_x b) p.max_x q.max_x min_z.1 in
    let max_y = same-number _ _ (signed_decimal (coordinate a.max 2)) (signed_decimal (coordinate b.max 2)) p.max_y q.max_y max_x.1 in
    let max_z = one-number _ _ _ p.max_z q.max_z refl max_y.1 in
    let mins = same-places a.min b.min is_a.least is_b.least min_x.0 min_y.0 min_z.0 in
    let maxes = same-places a.max b.max is_a.greatest is_b.greatest max_x.0 max_y.0 max_z in
    λ i. record { min = mins i; max = maxes i }

pub one-range : (text : List ℕ) (a b c d : ℕ) → IsDepthsText text a b → IsDepthsText text c d → (a ≡ c) × (b ≡ d)
one-range text a b c d is_a is_c =
    let first = same-number (pos a) (pos c) (decimal b) (decimal d) (small-depth a (omega arith)) (small-depth c (omega arith)) (sym is_a.spelled ∙ is_c.spelled) in
    let last = one-number (pos b) (pos d) (decimal b) (small-depth b (omega arith)) (small-depth d (omega arith)) refl first.1 in
    (cc, cc)

-- ---- targets

-- a served name begins with an `e`
served-first : (name : List ℕ) → IsServedName name → (rest : List ℕ) × (name ≡ 101 ∷ rest)
served-first name (inl (inl is)) = (_, is)
served-first name (inl (inr (inl is))) = (_, is)
served-first name (inl (inr (inr is))) = (_, is)
served-first name (inr (inl (key, is_key, is))) = (_, is)
served-first name (inr (inr (key, is_key, is))) = (_, is)

other-letters : (a b : ℕ) (xs ys : List ℕ) → a ∷ xs ≡ b ∷ ys → a < b → ⊥
other-letters a b xs ys same less = let first : a ≡ b = cc in omega arith

-- so no target names two of a file, a query and a selection
file-or-query : (target name : List ℕ) (area : Box3) (first last : ℕ) → target ≡ codes "/" ++ name → IsServedName name → IsQueryTarget target area first last → ⊥
file-or-query target name area first last spelled served query =
    let begins = served-first name served in
    let same : 47 ∷ name ≡ codes "/query?box=" ++ (query.box ++ (codes "&depths=" ++ query.depths)) = sym spelled ∙ query.spelled in
    other-letters 101 113 _ _ (sym begins.1 ∙ append_cancel_left (47 ∷ []) name _ same) (lit< tt)

file-or-select : (target name : List ℕ) (area : Box3) (first last : ℕ) (sift : Sift) → target ≡ codes "/" ++ name → IsServedName name → IsSelectTarget target area first last sift → ⊥
file-or-select target name area first last sift spelled served select =
    let begins = served-first name served in
    let same : 47 ∷ name ≡ codes "/select?box=" ++ (select.box ++ (codes "&depths=" ++ (select.depths ++ (codes "&classes=" ++ select.words)))) = sym spelled ∙ select.spelled in
    other-letters 101 115 _ _ (sym begins.1 ∙ append_cancel_left (47 ∷ []) name _ same) (lit< tt)

query-or-select : (target : List ℕ) (a b : Box3) (i j k l : ℕ) (sift : Sift) → IsQueryTarget target a i j → IsSelectTarget target b k l sift → ⊥
query-or-select target a b i j k l sift query select =
    let same : codes "/query?box=" ++ (query.box ++ (codes "&depths=" ++ query.depths)) ≡ codes "/select?box=" ++ (select.box ++ (codes "&depths=" ++ (select.depths ++ (codes "&classes=" ++ select.words)))) = sym query.spelled ∙ select.spelled in
    other-letters 113 115 _ _ (append_cancel_left (47 ∷ []) _ _ same) (lit< tt)

-- a word that lacks an ampersand is found again before a key, and so is what follows the key
same-word : (key a b s t : List ℕ) → AllByRecursion (λ c. c ≢ 38) a → AllByRecursion (λ c. c ≢ 38) b → a ++ 38 ∷ (key ++ s) ≡ b ++ 38 ∷ (key ++ t) → (a ≡ b) × (s ≡ t)
same-word key a b s t no_a no_b same =
    let parts = same-front 38 a b (key ++ s) (key ++ t) no_a no_b same in
    (parts.0, append_cancel_left key s t parts.1)

one-query : (target : List ℕ) (a b : Box3) (i j k l : ℕ) → IsQueryTarget target a i j → IsQueryTarget target b k l → (a ≡ b) × (i ≡ k) × (j ≡ l)
one-query target a b i j k l p q =
    let words = append_cancel_left (codes "/query?box=") (p.box ++ (codes "&depths=" ++ p.depths)) (q.box ++ (codes "&depths=" ++ q.depths)) (sym p.spelled ∙ q.spelled) in
    let parts = same-word (codes "depths=") p.box q.box p.depths q.depths (box-lacks p.box a p.is_box) (box-lacks q.box b q.is_box) words in
    let box = one-box q.box a b (subst (λ (text : List ℕ). IsBoxText text a) parts.0 p.is_box) q.is_box in
    let range = one-range q.depths i j k l (subst (λ (text : List ℕ). IsDepthsText text i j) parts.1 p.are_depths) q.are_depths in
    (box, range.0, range.1)

-- the words of a selection spell one selection
one-sift : (words : List ℕ) (a b : Sift) → AreSiftWords words a → AreSiftWords words b → a ≡ b
one-sift words a b p q =
    let classes = same-word (codes "time=") p.classes q.classes (p.time ++ (codes "&dims=" ++ p.dims)) (q.time ++ (codes "&dims=" ++ q.dims)) (classes-lack p.classes a.classes p.are.classes_are) (classes-lack q.classes b.classes q.are.classes_are) (sym p.spelled ∙ q.spelled) in
    let time = same-word (codes "dims=") p.time q.time p.dims q.dims (time-lacks p.time a.time p.are.time_is) (time-lacks q.time b.time q.are.time_is) classes.1 in
    let with_classes = subst (λ (text : List ℕ). IsSiftText text p.time p.dims a) classes.0 p.are in
    let with_time = subst (λ (text : List ℕ). IsSiftText q.classes text p.dims a) time.0 with_classes in
    let with_dims = subst (λ (text : List ℕ). IsSiftText q.classes q.time text a) time.1 with_time in
    texts_have_one_sift members_make_the_set q.classes q.time q.dims a b with_dims q.are

one-select : (target : List ℕ) (a b : Box3) (i j k l : ℕ) (s t : Sift) → IsSelectTarget target a i j s → IsSelectTarget target b k l t → (a ≡ b) × (i ≡ k) × (j ≡ l) × (s ≡ t)
one-select target a b i j k l s t p q =
    let words = append_cancel_left (codes "/select?box=") (p.box ++ (codes "&depths=" ++ (p.depths ++ (codes "&classes=" ++ p.words)))) (q.box ++ (codes "&depths=" ++ (q.depths ++ (codes "&classes=" ++ q.words)))) (sym p.spelled ∙ q.spelled) in
    let boxes = same-word (codes "depths=") p.box q.box (p.depths ++ (codes "&classes=" ++ p.words)) (q.depths ++ (codes "&classes=" ++ q.words)) (box-lacks p.box a p.is_box) (box-lacks q.box b q.is_box) words in
    let depths = same-word (codes "classes=") p.depths q.depths p.words q.words (depths-lack p.depths i j p.are_depths) (depths-lack q.depths k l q.are_depths) boxes.1 in
    let box = one-box q.box a b (subst (λ (text : List ℕ). IsBoxText text a) boxes.0 p.is_box) q.is_box in
    let range = one-range q.depths i j k l (subst (λ (text : List ℕ). IsDepthsText text i j) depths.0 p.are_depths) q.are_depths in
    (box, range.0, range.1, one-sift q.words s t (subst (λ (text : List ℕ). AreSiftWords text s) depths.1 p.are_words) q.are_words)

pub one-target : (target : List ℕ) (a b : Asked) → AsksFor target a → AsksFor target b → a ≡ b
one-target target (File m) (File n) p q = ap File (append_cancel_left (codes "/") m n (sym p.0 ∙ q.0))
one-target target (File m) (Query b k l) p q = absurd (file-or-query target m b k l p.0 p.1 q)
one-target target (Query a i j) (File n) p q = absurd (file-or-query target n a i j q.0 q.1 p)
one-target target (Query a i j) (Query b k l) p q =
    let same = one-query target a b i j k l p q in
    λ x. Query (same.0 x) (same.1 x) (same.2 x)
one-target target (Select a i j s) (Select b k l t) p q =
    let same = one-select target a b i j k l s t p q in
    λ x. Select (same.0 x) (same.1 x) (same.2 x) (same.3 x)
one-target target (File m) (Select b k l t) p q = absurd (file-or-select target m b k l t p.0 p.1 q)
one-target target (Select a i j s) (File n) p q = absurd (file-or-select target n a i j s q.0 q.1 p)
one-target target (Query a i j) (Select b k l t) p q = absurd (query-or-select target a b i j k l t p q)
one-target target (Select a i j s) (Query b k l) p q = absurd (query-or-select target b a k l i j s q p)
one-target target (Refuse s) (Refuse t) p q = ap Refuse (p.0 ∙ sym q.0)
one-target target (Refuse s) (File n) p q = absurd (p.1 (File n) q)
one-target target (Refuse s) (Query b k l) p q = absurd (p.1 (Query b k l) q)
one-target target (Refuse s) (Select b k l t) p q = absurd (p.1 (Select b k l t) q)
one-target target (File m) (Refuse t) p q = absurd (q.1 (File m) p)
one-target target (Query a i j) (Refuse t) p q = absurd (q.1 (Query a i j) p)
one-target target (Select a i j s) (Refuse t) p q = absurd (q.1 (Select a i j s) p)

-- ---- heads

asks-once : (refusal : Option ℕ) (target : List ℕ) (a b : Asked) → MatchOption refusal (AsksFor target a) (λ status. a ≡ Refuse status) → MatchOption refusal (AsksFor target b) (λ status. b ≡ Refuse status) → a ≡ b
asks-once None target a b p q = one-target target a b p q
asks-once (Some status) target a b p q = p ∙ sym q

answer-once : (head : RequestHead) (a b : Asked) (k l : Bool) → IsAnswerTo head a k → IsAnswerTo head b l → (a ≡ b) × (k ≡ l)
answer-once head a b k l p q =
    let same = asks-once (refusal_of head) head.target a b p.asks q.asks in
    let k_is = p.ends in
    let l_is = q.ends in
    (same, cc)

pub one-answer : (bytes : List ℕ) (a b : Asked) (k l : Bool) → IsAnswer bytes a k → IsAnswer bytes b l → (a ≡ b) × (k ≡ l)
one-answer bytes a b k l (inl (head, is, to)) (inl (other, also, also_to)) =
    let same = request_unique bytes other head [] [] also.reads is.reads in
    answer-once head a b k l to (subst (λ (h : RequestHead). IsAnswerTo h b l) same.0 also_to)
one-answer bytes a b k l (inl (head, is, to)) (inr none) = absurd (none.0 head is)
one-answer bytes a b k l (inr none) (inl (head, is, to)) = absurd (none.0 head is)
one-answer bytes a b k l (inr p) (inr q) = (p.1 ∙ sym q.1, p.2 ∙ sym q.2)

-- so any judge gives what the bytes ask for
pub judged-once : (bytes : List ℕ) (asked : Asked) (last : Bool) (judge : List ℕ → Asked × Bool) → IsJudge judge → IsAnswer bytes asked last → (asked, last) ≡ judge bytes
judged-once bytes asked last judge is answer =
    let same = one-answer bytes asked (judge bytes).0 last (judge bytes).1 answer (is bytes) in
    λ i. (same.0 i, same.1 i)

-- ---- out of memory

pub on-err : {T E : Type 0} (r : Result T E) (P : Type 0) → P → OnErr r P
on-err (Ok x) P h = tt
on-err (Err e) P h = h

-- a whole head whose target names a file asks for it
pub named-answer : (bytes : List ℕ) (P : RequestHead → Type 0) → (whole : RequestHead) × (IsHead bytes whole × P whole) → (name : List ℕ) × ((whole : RequestHead) → P whole → HeadAsks whole (File name)) → (name : List ℕ) × (last : Bool) × IsAnswer bytes (File name) last
named-answer bytes P (whole, (is, at)) (name, asks) =
    let to : IsAnswerTo whole (File name) (has_close (lines_of whole)) = record { asks = asks whole at; ends = refl } in
    (name, has_close (lines_of whole), inl (whole, is, to))

-- ---- what may be asked for

target-asked : (target : List ℕ) (asked : Asked) → AsksFor target asked → MayBeAsked asked
target-asked target (File name) h = h.1
target-asked target (Query area first last) h = (h.is_box.ordered, h.are_depths.ordered, h.are_depths.bounded)
target-asked target (Select area first last sift) h = (h.is_box.ordered, h.are_depths.ordered, h.are_depths.bounded)
target-asked target (Refuse status) h = subst (λ (s : ℕ). IsTrue (is_refusal s)) (sym h.0) refl

-- a head is refused before its target with one of three statuses
early-refusal : (faulty other old : Bool) (status : ℕ) → (if faulty then Some 400 else if other then Some 405 else if old then Some 505 else None) ≡ Some status → IsTrue (is_refusal status)
early-refusal true other old status h = let is : 400 ≡ status = cc in subst (λ (s : ℕ). IsTrue (is_refusal s)) is refl
early-refusal false true old status h = let is : 405 ≡ status = cc in subst (λ (s : ℕ). IsTrue (is_refusal s)) is refl
early-refusal false false true status h = let is : 505 ≡ status = cc in subst (λ (s : ℕ). IsTrue (is_refusal s)) is refl
early-refusal false false false status h = absurd cc

refused-asked : (refusal : Option ℕ) (target : List ℕ) (asked : Asked) → ((status : ℕ) → refusal ≡ Some status → IsTrue (is_refusal status)) → MatchOption refusal (AsksFor target asked) (λ status. asked ≡ Refuse status) → MayBeAsked asked
refused-asked None target asked known h = target-asked target asked h
refused-asked (Some status) target asked known h = subst MayBeAsked (sym h) (known status refl)

head-asked : (head : RequestHead) (asked : Asked) → HeadAsks head asked → MayBeAsked asked
unfolding refusal_of
head-asked head asked h =
    refused-asked (refusal_of head) head.target asked (λ status is. early-refusal _ _ _ status is) h

pub may-be-asked : (bytes : List ℕ) (asked : Asked) (last : Bool) → IsAnswer bytes asked last → MayBeAsked asked
may-be-asked bytes asked last (inl (head, is, to)) = head-asked head asked to.asks
may-be-asked bytes asked last (inr none) = subst MayBeAsked (sym none.1) refl
