-- The points that are left of files.
use Rattle.std.proofs.Common.{◌≡◌, ◌↔◌, inl, inr, ℕ, List, [], ◌∷◌, Option, Some, None, refl, sym, ◌∙◌, ap, subst, length, map, drop}
use Rattle.std.specs.List.{AllZip}
use Rattle.ept_point.specs.declared.point.Point.{Point}
use Rattle.ept_scan.specs.LasFile.{ArePointsOf}
use Rattle.ept_scan.specs.Queue.{Held, HoldsPoints, AreRest, held}
use Rattle.ept_scan.specs.Scans.{in_order}
use Rattle.ept_scan.proofs.OneScan.{file_once}
use Rattle.ept_scan.specs.declared.second_reading.Reader.{Reader}
use Rattle.ept_scan.specs.Reader.{IsRest}
use Rattle.ept_decidable.specs.Known.{RestIsKnown}
use Rattle.ept_decidable.proofs.Deciding.{Known, known_and, known_like, known_eq}
use Rattle.ept_decidable.proofs.Files.{known_points}

-- ---- a file

same_file : (a b : List ℕ) (x : Option (List ℕ)) → x ≡ Some a → x ≡ Some b → a ≡ b
same_file a b x is_a is_b = cc

not_told : (a : List ℕ) (x : Option (List ℕ)) → x ≡ None → x ≡ Some a → ⊥
not_told a x none is_a = cc

one_list : (held : Held) (xs ys : List Point) → HoldsPoints held xs → HoldsPoints held ys → xs ≡ ys
one_list held xs ys as_xs as_ys =
    file_once held.reading as_xs.file xs ys as_xs.are (subst (λ (file : List ℕ). ArePointsOf held.reading file ys) (same_file as_ys.file as_xs.file held.file as_ys.told as_xs.told) as_ys.are)

with_points : (held : Held) (file : List ℕ) → held.file ≡ Some file → Known ((points : List Point) × ArePointsOf held.reading file points) → Known ((points : List Point) × HoldsPoints held points)
with_points held file told (inl is) =
    known_like (λ count. (is.0, record { file = file; told = told; are = is.1; count = count }))
    (λ (h : (points : List Point) × HoldsPoints held points). ap length (file_once held.reading file is.0 h.0 is.1 (same h.0 h.1)) ∙ h.1.count) (known_eq (length is.0) held.points)
  where
    same : (points : List Point) → HoldsPoints held points → ArePointsOf held.reading file points
    same points holds = subst (λ (bytes : List ℕ). ArePointsOf held.reading bytes points) (same_file holds.file file held.file holds.told told) holds.are
with_points held file told (inr none) =
    inr (λ h. none (h.0, subst (λ (bytes : List ℕ). ArePointsOf held.reading bytes h.0) (same_file h.1.file file held.file h.1.told told) h.1.are))

known_file : (held : Held) (told : Option (List ℕ)) → held.file ≡ told → Known ((points : List Point) × HoldsPoints held points)
known_file held None is = inr (λ h. not_told h.1.file held.file is h.1.told)
known_file held (Some file) is = with_points held file is (known_points held.reading file)

-- ---- files

known_lists : (ahead : List Held) → Known ((lists : List (List Point)) × AllZip HoldsPoints ahead lists)
known_lists [] = inl ([], tt)
known_lists (held ∷ ahead) =
    known_like (λ (h : ((points : List Point) × HoldsPoints held points) × ((lists : List (List Point)) × AllZip HoldsPoints ahead lists)). (h.0.0 ∷ h.1.0, (h.0.1, h.1.1)))
    (λ (h : (lists : List (List Point)) × AllZip HoldsPoints (held ∷ ahead) lists). parts h.0 h.1) (known_and (known_file held held.file refl) (known_lists ahead))
  where
    parts : (lists : List (List Point)) → AllZip HoldsPoints (held ∷ ahead) lists → ((points : List Point) × HoldsPoints held points) × ((lists : List (List Point)) × AllZip HoldsPoints ahead lists)
    parts [] none = absurd none
    parts (points ∷ lists) hold = ((points, hold.0), (lists, hold.1))

same_lists : (ahead : List Held) (xs ys : List (List Point)) → AllZip HoldsPoints ahead xs → AllZip HoldsPoints ahead ys → xs ≡ ys
same_lists [] [] [] h g = refl
same_lists [] [] (y ∷ ys) h g = absurd g
same_lists [] (x ∷ xs) ys h g = absurd h
same_lists (held ∷ ahead) [] ys h g = absurd h
same_lists (held ∷ ahead) (x ∷ xs) [] h g = absurd g
same_lists (held ∷ ahead) (x ∷ xs) (y ∷ ys) h g = let first : x ≡ y = one_list held x y h.0 g.0 in let later : xs ≡ ys = same_lists ahead xs ys h.1 g.1 in cc

-- ---- the points that are left

known_rest : (ahead : List Held) (passed : ℕ) → Known ((points : List Point) × AreRest ahead passed points)
known_rest ahead passed =
    known_like (λ (h : (lists : List (List Point)) × AllZip HoldsPoints ahead lists). (drop passed (in_order h.0), record { lists = h.0; hold = h.1; rest = refl }))
    (λ (h : (points : List Point) × AreRest ahead passed points). (h.1.lists, h.1.hold)) (known_lists ahead)

one_rest : (ahead : List Held) (passed : ℕ) (xs ys : List Point) → AreRest ahead passed xs → AreRest ahead passed ys → xs ≡ ys
one_rest ahead passed xs ys as_xs as_ys =
    as_xs.rest ∙ ap (λ (lists : List (List Point)). drop passed (in_order lists)) (same_lists ahead as_xs.lists as_ys.lists as_xs.hold as_ys.hold) ∙ sym as_ys.rest

told_rest : (ahead : List Held) (passed : ℕ) → Known ((points : List Point) × AreRest ahead passed points) → (rest : Option (List Point)) × ((points : List Point) → (rest ≡ Some points) ↔ AreRest ahead passed points)
told_rest ahead passed (inl is) = (Some is.0, λ points. (λ e. subst (AreRest ahead passed) (same_some is.0 points e) is.1, λ rest. ap (λ (xs : List Point). Some xs) (one_rest ahead passed is.0 points is.1 rest)))
  where
    same_some : (xs ys : List Point) → Some xs ≡ Some ys → xs ≡ ys
    same_some xs ys e = cc
told_rest ahead passed (inr none) = (None, λ points. (λ e. absurd (none_some points e), λ rest. absurd (none (points, rest))))
  where
    none_some : (xs : List Point) → None ≡ Some xs → ⊥
    none_some xs e = cc

-- ---- of a reader

module _ {S : Type 0} (whole : S → Option (List ℕ)) (reader : Reader S) where
  abbrev files_ahead : List Held
  files_ahead = map (held whole) (drop reader.queue.at reader.queue.parts.items)

  pub known_left : Known ((points : List Point) × IsRest whole reader points)
  known_left = known_rest files_ahead reader.queue.cursor.number

  pub one_left : (xs ys : List Point) → IsRest whole reader xs → IsRest whole reader ys → xs ≡ ys
  one_left xs ys as_xs as_ys = one_rest files_ahead reader.queue.cursor.number xs ys as_xs as_ys

pub rest_known : {S : Type 0} (whole : S → Option (List ℕ)) → RestIsKnown whole
rest_known whole reader = told_rest (files_ahead whole reader) reader.queue.cursor.number (known_left whole reader)
