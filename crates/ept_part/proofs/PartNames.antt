-- The names of a part, and which names they are not.
use Rattle.std.proofs.Common.{◌≡◌, ◌≢◌, ◌∙◌, inl, inr, ℕ, ◌+◌, ◌<◌, true, false, List, [], ◌∷◌, ◌++◌, refl, sym, ap, subst, arith, get_or, length, length-append, filter}
use Rattle.std.specs.Prelude.{codes}
use Rattle.std.proofs.lemmas.List.{append_cancel_left, append_cancel_right}
use Rattle.ept_base.specs.Files.{Files}
use Rattle.ept_space.specs.VoxelKey.{VoxelKey, IsKey}
use Rattle.ept_space.specs.KeyText.{key_text}
use Rattle.ept_space.proofs.KeyTexts.{key_text-injective}
use Rattle.ept_sample.specs.Arrivals.{all_octants}
use Rattle.ept_sample.specs.Members.{IsMember}
use Rattle.ept_sample.proofs.Members.{IsMember-kept, IsMember-filter, IsMember-map, member-map}
use Rattle.ept_sample.proofs.Octants.{octant-IsMember}
use Rattle.ept_sample.proofs.Choices.{not_both}
use Rattle.ept_grid.specs.Mask.{opened}
use Rattle.ept_ckpt.specs.declared.letter.Letter.TheVariants.{A, B}
use Rattle.ept_meta.specs.Output.{IsIn}
use Rattle.ept_save.specs.Names.{work_tile_name, IsSavedName}
use Rattle.ept_save.specs.SoundLaws.{IsOfBuild, LeavesBuild}
use Rattle.ept_part.specs.Names.{digits, part_folder, part_gate, part_body, part_tile, IsPartName}
use Rattle.ept_part.specs.Files.{ChangesPart}

abbrev at : ℕ → List ℕ → ℕ
at n w = get_or w n 0

-- ---- in the folder

pub gate-named : (octants : ℕ) → IsPartName octants (part_gate octants)
unfolding IsPartName part_gate
gate-named octants = (codes "gate", refl)

pub body-named : (octants : ℕ) → IsPartName octants (part_body octants)
unfolding IsPartName part_body
body-named octants = (codes "body", refl)

pub tile-named : (octants : ℕ) (key : VoxelKey) → IsPartName octants (part_tile octants key)
unfolding IsPartName part_tile
tile-named octants key = (key_text key ++ codes ".bin", refl)

-- ---- they differ

pub body-gate : (octants : ℕ) → part_body octants ≢ part_gate octants
unfolding part_gate part_body
body-gate octants same =
    let e : codes "/body" ≡ codes "/gate" = append_cancel_left (part_folder octants) (codes "/body") (codes "/gate") same in
    let differ : 98 ≡ 103 = ap (at 1) e in
    absurd (omega (arith, differ))

tile_apart : (text word : List ℕ) → length word ≡ 5 → at 1 word ≢ 46 → codes "/" ++ (text ++ codes ".bin") ≢ word
tile_apart [] word five other same = other (ap (at 1) (sym same))
tile_apart (k ∷ text) word five other same =
    let long : length (codes "/" ++ ((k ∷ text) ++ codes ".bin")) ≡ length word = ap length same in
    absurd (omega (arith, long, five, length-append text (codes ".bin")))

pub tile-gate : (octants : ℕ) (key : VoxelKey) → part_tile octants key ≢ part_gate octants
unfolding part_tile part_gate
tile-gate octants key same =
    tile_apart (key_text key) (codes "/gate") refl (λ e. absurd (let differ : 103 ≡ 46 = e in omega (arith, differ))) (append_cancel_left (part_folder octants) (codes "/" ++ (key_text key ++ codes ".bin")) (codes "/gate") same)

pub tile-body : (octants : ℕ) (key : VoxelKey) → part_tile octants key ≢ part_body octants
unfolding part_tile part_body
tile-body octants key same =
    tile_apart (key_text key) (codes "/body") refl (λ e. absurd (let differ : 98 ≡ 46 = e in omega (arith, differ))) (append_cancel_left (part_folder octants) (codes "/" ++ (key_text key ++ codes ".bin")) (codes "/body") same)

pub tile-key : (octants : ℕ) (a b : VoxelKey) → IsKey a → IsKey b → part_tile octants a ≡ part_tile octants b → a ≡ b
unfolding part_tile
tile-key octants a b is_a is_b same =
    let behind = append_cancel_left (part_folder octants) (codes "/" ++ (key_text a ++ codes ".bin")) (codes "/" ++ (key_text b ++ codes ".bin")) same in
    let texts = append_cancel_left (codes "/") (key_text a ++ codes ".bin") (key_text b ++ codes ".bin") behind in
    key_text-injective a b is_a is_b (append_cancel_right (key_text a) (key_text b) (codes ".bin") texts)

-- ---- none is a build's

part-tenth : (octants : ℕ) (name : List ℕ) → IsPartName octants name → at 9 name ≡ 112
unfolding IsPartName part_folder
part-tenth octants name part = ap (at 9) part.1

saved-tenth : (name : List ℕ) → IsSavedName name → at 9 name ≢ 112
unfolding work_tile_name
saved-tenth name (inl (A, is)) tenth = absurd (let differ : 103 ≡ 112 = sym (ap (at 9) is) ∙ tenth in omega (arith, differ))
saved-tenth name (inl (B, is)) tenth = absurd (let differ : 103 ≡ 112 = sym (ap (at 9) is) ∙ tenth in omega (arith, differ))
saved-tenth name (inr (inl (A, is))) tenth = absurd (let differ : 98 ≡ 112 = sym (ap (at 9) is) ∙ tenth in omega (arith, differ))
saved-tenth name (inr (inl (B, is))) tenth = absurd (let differ : 98 ≡ 112 = sym (ap (at 9) is) ∙ tenth in omega (arith, differ))
saved-tenth name (inr (inr (A, key, is))) tenth = absurd (let differ : 97 ≡ 112 = sym (ap (at 9) is) ∙ tenth in omega (arith, differ))
saved-tenth name (inr (inr (B, key, is))) tenth = absurd (let differ : 98 ≡ 112 = sym (ap (at 9) is) ∙ tenth in omega (arith, differ))

part-inside : (octants : ℕ) (name : List ℕ) → IsPartName octants name → IsIn (codes "ept-work") name
unfolding IsPartName part_folder
part-inside octants name part = (codes "part-" ++ (digits octants ++ (codes "/" ++ part.0)), part.1)

pub part-no_build : (octants : ℕ) (name : List ℕ) → IsPartName octants name → ¬ IsOfBuild name
part-no_build octants name part (inl saved) = saved-tenth name saved (part-tenth octants name part)
part-no_build octants name part (inr (inl done)) =
    let differ : 100 ≡ 112 = sym (ap (at 9) done) ∙ part-tenth octants name part in absurd (omega (arith, differ))
part-no_build octants name part (inr (inr outside)) = outside.0 (part-inside octants name part)

pub leaves-build : (octants : ℕ) (old new : Files) → ChangesPart octants old new → LeavesBuild old new
leaves-build octants old new changes name of_build = changes name (λ part. part-no_build octants name part of_build)

-- ---- nor another part's

no-slash : (octants x : ℕ) → IsMember x (digits octants) → x ≢ 47
unfolding digits
no-slash octants x m is =
    let o = member-map (λ o. 48 + o) x (filter (opened octants) all_octants) m in
    absurd (let large : 48 + o.0 ≡ 47 = o.2 ∙ is in omega (arith, large))

front-same : (xs ys a b : List ℕ) → ((x : ℕ) → IsMember x xs → x ≢ 47) → ((y : ℕ) → IsMember y ys → y ≢ 47) → xs ++ 47 ∷ a ≡ ys ++ 47 ∷ b → xs ≡ ys
front-same [] [] a b mine its same = refl
front-same [] (y ∷ ys) a b mine its same = absurd (its y (inl refl) (sym (ap (at 0) same)))
front-same (x ∷ xs) [] a b mine its same = absurd (mine x (inl refl) (ap (at 0) same))
front-same (x ∷ xs) (y ∷ ys) a b mine its same =
    let head : x ≡ y = ap (at 0) same in
    let rest : xs ++ 47 ∷ a ≡ ys ++ 47 ∷ b = cc in
    let tail : xs ≡ ys = front-same xs ys a b (λ z m. mine z (inr m)) (λ z m. its z (inr m)) rest in
    ap (λ (w : ℕ). w ∷ xs) head ∙ ap (λ (w : List ℕ). y ∷ w) tail

folders-same : (one other : ℕ) (name : List ℕ) → IsPartName one name → IsPartName other name → digits one ≡ digits other
unfolding IsPartName part_folder
folders-same one other name (rest, is) (rest', is') =
    front-same (digits one) (digits other) rest rest' (no-slash one) (no-slash other) (append_cancel_left (codes "ept-work/part-") (digits one ++ 47 ∷ rest) (digits other ++ 47 ∷ rest') (sym is ∙ is'))

digit-there : (octants o : ℕ) → o < 8 → opened octants o ≡ true → IsMember (48 + o) (digits octants)
unfolding digits
digit-there octants o low is_it =
    IsMember-map (λ o. 48 + o) o (filter (opened octants) all_octants) (IsMember-kept (opened octants) o all_octants is_it (octant-IsMember o low))

there-open : (octants o : ℕ) → IsMember (48 + o) (digits octants) → opened octants o ≡ true
unfolding digits
there-open octants o m =
    let k = member-map (λ o. 48 + o) (48 + o) (filter (opened octants) all_octants) m in
    let same : k.0 ≡ o = (let e : 48 + k.0 ≡ 48 + o = k.2 in omega (arith, e)) in
    subst (λ (n : ℕ). opened octants n ≡ true) same (IsMember-filter (opened octants) k.0 all_octants k.1).1

pub parts-apart : (one other o : ℕ) (name : List ℕ) → o < 8 → opened one o ≡ true → opened other o ≡ false → IsPartName one name → ¬ IsPartName other name
parts-apart one other o name low has lacks mine its =
    not_both (opened other o) (there-open other o (subst (λ (w : List ℕ). IsMember (48 + o) w) (folders-same one other name mine its) (digit-there one o low has))) lacks
