-- The digits of octants, with one octant more at a time.
use Rattle.std.proofs.Common.{◌≡◌, ◌∙◌, ℕ, ◌+◌, suc, Bool, true, false, cond, List, [], ◌∷◌, ◌++◌, refl, ap, sym, arith, map, filter}
use Rattle.std.proofs.lemmas.List.{append-nil, map-append}
use Rattle.std.proofs.lemmas.List.Elements.{filter-append}
use Rattle.std.specs.Prelude.{codes}
use Rattle.ept_space.specs.VoxelKey.{VoxelKey}
use Rattle.ept_space.specs.KeyText.{key_text}
use Rattle.ept_sample.proofs.Parts.{numbers_below}
use Rattle.ept_grid.specs.Mask.{opened}
use Rattle.ept_part.specs.Names.{digits, part_folder, part_gate, part_body, part_tile}

-- those of the octants below a number
abbrev pub digits_below : ℕ → ℕ → List ℕ
digits_below octants n = map (λ o. 48 + o) (filter (opened octants) (numbers_below n))

one-more : (octants i : ℕ) → digits_below octants (i + 1) ≡ digits_below octants i ++ map (λ o. 48 + o) (filter (opened octants) (i ∷ []))
one-more octants i =
    ap (λ (n : ℕ). digits_below octants n) (let e : i + 1 ≡ suc i = omega arith in e)
    ∙ (ap (λ (w : List ℕ). map (λ o. 48 + o) w) (filter-append (opened octants) (numbers_below i) (i ∷ []))
    ∙ map-append (λ o. 48 + o) (filter (opened octants) (numbers_below i)) (filter (opened octants) (i ∷ [])))

pub digits-yes : (octants i : ℕ) → opened octants i ≡ true → digits_below octants (i + 1) ≡ digits_below octants i ++ (48 + i) ∷ []
digits-yes octants i is_it =
    one-more octants i ∙ ap (λ (b : Bool). digits_below octants i ++ map (λ o. 48 + o) (cond b (i ∷ []) [])) is_it

pub digits-no : (octants i : ℕ) → opened octants i ≡ false → digits_below octants (i + 1) ≡ digits_below octants i
digits-no octants i shut =
    one-more octants i
    ∙ (ap (λ (b : Bool). digits_below octants i ++ map (λ o. 48 + o) (cond b (i ∷ []) [])) shut ∙ append-nil (digits_below octants i))

pub digits-all : (octants : ℕ) → digits_below octants 8 ≡ digits octants
unfolding digits
digits-all octants = refl

-- ---- the names of a folder

-- the start of a folder's name, with the digits of the octants below a number
abbrev pub name_below : ℕ → ℕ → List ℕ
name_below octants n = codes "ept-work/part-" ++ digits_below octants n

pub name-yes : (octants i : ℕ) (old new digit : List ℕ) → old ≡ name_below octants i → digit ≡ (48 + i) ∷ [] → new ≡ old ++ digit → opened octants i ≡ true → new ≡ name_below octants (i + 1)
name-yes octants i old new digit so one more is_it =
    more
    ∙ (ap (λ (w : List ℕ). w ++ digit) so
    ∙ (ap (λ (w : List ℕ). codes "ept-work/part-" ++ (digits_below octants i ++ w)) one ∙ ap (λ (w : List ℕ). codes "ept-work/part-" ++ w) (sym (digits-yes octants i is_it))))

pub name-no : (octants i : ℕ) (old : List ℕ) → old ≡ name_below octants i → opened octants i ≡ false → old ≡ name_below octants (i + 1)
name-no octants i old so shut = so ∙ ap (λ (w : List ℕ). codes "ept-work/part-" ++ w) (sym (digits-no octants i shut))

pub folder-of : (octants : ℕ) → name_below octants 8 ≡ part_folder octants
unfolding part_folder
folder-of octants = ap (λ (w : List ℕ). codes "ept-work/part-" ++ w) (digits-all octants)

pub gate-of : (octants : ℕ) (folder : List ℕ) → folder ≡ part_folder octants → folder ++ (codes "/" ++ codes "gate") ≡ part_gate octants
unfolding part_gate
gate-of octants folder is = ap (λ (w : List ℕ). w ++ codes "/gate") is

pub body-of : (octants : ℕ) (folder : List ℕ) → folder ≡ part_folder octants → folder ++ (codes "/" ++ codes "body") ≡ part_body octants
unfolding part_body
body-of octants folder is = ap (λ (w : List ℕ). w ++ codes "/body") is

pub tile-of : (octants : ℕ) (folder : List ℕ) (key : VoxelKey) → folder ≡ part_folder octants → folder ++ (codes "/" ++ (key_text key ++ codes ".bin")) ≡ part_tile octants key
unfolding part_tile
tile-of octants folder key is = ap (λ (w : List ℕ). w ++ (codes "/" ++ (key_text key ++ codes ".bin"))) is
