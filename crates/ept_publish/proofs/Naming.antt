-- Only names of these files change, at every moment.
use Rattle.std.proofs.Common.{◌≡◌, ◌∙◌, ℕ, ◌<◌, List, length, get_or, [], ◌∷◌, ◌++◌, map, refl, sym, subst, Option}
use Rattle.std.specs.Prelude.{Contains}
use Rattle.std.proofs.lemmas.List.Elements.{Contains-append_left, Contains-append_right}
use Rattle.ept_base.specs.Files.{Files, SameFiles, SameBut, StepsBy}
use Rattle.ept_base.specs.Moves.{Follows, NoMore, Elapses, Moves}
use Rattle.ept_base.proofs.Moving.{moves_once, moves_weaker, moves_both}
use Rattle.ept_sample.specs.Members.{IsMember}
use Rattle.ept_sample.proofs.Members.{IsMember-map, IsMember-contains, contains-IsMember}
use Rattle.ept_config.specs.declared.kept.Kept.{Kept}
use Rattle.ept_ckpt.specs.declared.node_line.NodeLine.{NodeLine}
use Rattle.ept_hier.specs.declared.file.HierFile.{HierFile}
use Rattle.ept_hier.specs.Hierarchy.{hierarchy}
use Rattle.ept_meta.specs.Output.{File, tile_name, metadata_name, manifest_name, build_file_name, hierarchy_file, names_of}
use Rattle.ept_publish.specs.Lines.{counted_by, named_by, output_names}
use Rattle.ept_publish.specs.Publishing.{SameButThese}

-- ---- names of files

-- the name of one of the files
pub has-name : (f : File) (files : List File) → IsMember f files → Contains (names_of files) f.0
has-name f files m = contains-IsMember f.0 (names_of files) (IsMember-map (λ (g : File). g.0) f files m)

-- an item of a list has its file among the files
pub file-named : {X : Type 0} (f : X → File) (xs : List X) (i : ℕ) (x : X) → i < length xs → x ≡ get_or xs i x → Contains (names_of (map f xs)) (f x).0
file-named f xs i x low is = has-name (f x) (map f xs) (IsMember-map f x xs (IsMember-contains x xs (i, low, sym is)))

-- ---- the names of the output are in three parts

module _ (kept : Kept) (lines : List NodeLine) where
  abbrev its_tiles : List (List ℕ)
  its_tiles = map named_by lines

  abbrev its_hierarchy : List (List ℕ)
  its_hierarchy = names_of (map hierarchy_file (hierarchy kept.step (map counted_by lines)))

  abbrev its_texts : List (List ℕ)
  its_texts = metadata_name ∷ manifest_name ∷ build_file_name ∷ []

  pub of-tiles : (name : List ℕ) → Contains its_tiles name → Contains (output_names kept lines) name
  of-tiles name has = Contains-append_left (its_tiles ++ its_hierarchy) its_texts name (Contains-append_left its_tiles its_hierarchy name has)

  pub of-hierarchy : (all : List HierFile) → all ≡ hierarchy kept.step (map counted_by lines) → (name : List ℕ) → Contains (names_of (map hierarchy_file all)) name → Contains (output_names kept lines) name
  of-hierarchy all is name has =
      Contains-append_left (its_tiles ++ its_hierarchy) its_texts name (Contains-append_right its_tiles its_hierarchy name (subst (λ (w : List HierFile). Contains (names_of (map hierarchy_file w)) name) is has))

  pub of-texts : (name : List ℕ) → Contains its_texts name → Contains (output_names kept lines) name
  of-texts name has = Contains-append_right (its_tiles ++ its_hierarchy) its_texts name has

-- ---- moves

put_widens : (name : List ℕ) (names : List (List ℕ)) → Contains names name → (old new : Files) → SameBut name old new → SameButThese names old new
put_widens name names has old new same other none =
    same other (λ here. none (subst (λ (n : List ℕ). Contains names n) (sym here) has))

module _ {D : Type 0} (files : D → Option Files) (may_leave : D → Files → Type 0) (moment : D → ℕ) (image_since : D → ℕ → Files → Type 0) where
  -- a put
  pub put-once : (name : List ℕ) (old new : D) → StepsBy (SameBut name) (files old) (files new) → Follows (SameBut name) (may_leave old) (may_leave new) → Elapses (moment old) (moment new) (image_since old) (image_since new) (may_leave new) → Moves files may_leave moment image_since (SameBut name) old new
  put-once name = moves_once files may_leave moment image_since (SameBut name)

  -- of a name among these
  pub put-these : (name : List ℕ) (names : List (List ℕ)) → Contains names name → (old new : D) → Moves files may_leave moment image_since (SameBut name) old new → Moves files may_leave moment image_since (SameButThese names) old new
  put-these name names has = moves_weaker files may_leave moment image_since (SameBut name) (SameButThese names) (put_widens name names has)

  -- so the tile of a line, among those of the lines
  pub tile-these : (lines : List NodeLine) (line : NodeLine) → IsMember line lines → (old new : D) → Moves files may_leave moment image_since (SameBut (tile_name line.key)) old new → Moves files may_leave moment image_since (SameButThese (map named_by lines)) old new
  tile-these lines line m =
      put-these (tile_name line.key) (map named_by lines) (contains-IsMember (tile_name line.key) (map named_by lines) (IsMember-map named_by line lines m))

  -- a put after what changes nothing
  pub put-after : (name : List ℕ) (old mid new : D) → Moves files may_leave moment image_since SameFiles old mid → Moves files may_leave moment image_since (SameBut name) mid new → Moves files may_leave moment image_since (SameBut name) old new
  put-after name =
      moves_both files may_leave moment image_since SameFiles (SameBut name) (SameBut name) (λ a b c same but other apart. but other apart ∙ same other) (λ a b same other apart. same other)

  pub same-but : (name : List ℕ) (old new : D) → Moves files may_leave moment image_since SameFiles old new → Moves files may_leave moment image_since (SameBut name) old new
  same-but name = moves_weaker files may_leave moment image_since SameFiles (SameBut name) (λ a b same other apart. same other)

  module _ (names : List (List ℕ)) where
    -- one move, then another
    pub these-both : (old mid new : D) → Moves files may_leave moment image_since (SameButThese names) old mid → Moves files may_leave moment image_since (SameButThese names) mid new → Moves files may_leave moment image_since (SameButThese names) old new
    these-both =
        moves_both files may_leave moment image_since (SameButThese names) (SameButThese names) (SameButThese names) (λ a b c one two name none. two name none ∙ one name none) (λ a b one. one)

    -- names that are among more names
    pub these-wider : (more : List (List ℕ)) → ((name : List ℕ) → Contains names name → Contains more name) → (old new : D) → Moves files may_leave moment image_since (SameButThese names) old new → Moves files may_leave moment image_since (SameButThese more) old new
    these-wider more among = moves_weaker files may_leave moment image_since (SameButThese names) (SameButThese more) (λ a b same name none. same name (λ has. none (among name has)))

    -- a sync changes nothing
    pub sync-these : (old new : D) → StepsBy SameFiles (files old) (files new) → NoMore (may_leave old) (may_leave new) → Elapses (moment old) (moment new) (image_since old) (image_since new) (may_leave new) → Moves files may_leave moment image_since (SameButThese names) old new
    sync-these old new reads images time =
        moves_weaker files may_leave moment image_since SameFiles (SameButThese names) (λ a b same name none. same name) old new (moves_once files may_leave moment image_since SameFiles old new reads (λ image is. (image, images image is, λ name. refl)) time)
