-- A node added to the file above it.
use Rattle.std.proofs.Common.{◌≡◌, ◌∙◌, ℕ, ◌<◌, Bool, true, false, cond, List, ◌++◌, map, refl, sym, ap, codes, ℤ, pos, negsuc, Option, Some, None}
use Rattle.std.specs.BTreeMap.{is_at}
use Rattle.std.specs.Map.{lookup, set_value, keys_of}
use Rattle.std.specs.List.Sorted.{IsStrictlySortedBy}
use Rattle.ept_space.specs.VoxelKey.{VoxelKey, key_cmp, same_key}
use Rattle.ept_space.proofs.Within.{same_key-true, same_key-same}
use Rattle.ept_hier.specs.Hierarchy.{Node, entry_text, is_link, has_file}
use Rattle.ept_hier.specs.OpenFiles.{OpenFile, number_of, file_above, with_entry}
use Rattle.ept_hier.proofs.Lists.{Changes, set_value-changes, absent-same}
use Rattle.ept_hier.proofs.Levels.{link-above, is_false}

-- the text with the entry of a node
abbrev pub text_with : List ℕ → VoxelKey → ℤ → List ℕ
text_with old key number = old ++ codes "," ++ entry_text (key, number)

pub with_entry-at : (step : ℕ) (n : Node) (k : VoxelKey) (old : List ℕ) (b : Bool) → same_key k (file_above step n.0) ≡ b → with_entry step n (k, old) ≡ (k, cond b (text_with old n.0 (cond (is_link step k n.0) (negsuc 0) (pos n.1))) old)
unfolding with_entry
with_entry-at step n k old b is =
    ap (λ (t : Bool). let d : OpenFile = (k, cond t (text_with old n.0 (cond (is_link step k n.0) (negsuc 0) (pos n.1))) old) in d) is

numbers : (b : Bool) (count : ℕ) → number_of (cond b None (Some count)) ≡ cond b (negsuc 0) (pos count)
numbers true count = refl
numbers false count = refl

module _ (step : ℕ) (n : Node) (above : VoxelKey) (at : above ≡ file_above step n.0) (deep : 0 < n.0.depth) where
  other_file : (e : OpenFile) → ¬ (e.0 ≡ above) → with_entry step n e ≡ e
  other_file e apart =
      with_entry-at step n e.0 e.1 false (is_false (same_key e.0 (file_above step n.0)) (λ same. apart (same_key-true e.0 (file_above step n.0) same ∙ sym at)))

  link_is : is_link step above n.0 ≡ has_file step n.0
  link_is = ap (λ k. is_link step k n.0) at ∙ link-above step n.0 deep

  number_is : (number : Option ℕ) → number ≡ cond (has_file step n.0) None (Some n.1) → number_of number ≡ cond (is_link step above n.0) (negsuc 0) (pos n.1)
  number_is number is =
      ap number_of is ∙ (numbers (has_file step n.0) n.1 ∙ ap (λ (b : Bool). cond b (negsuc 0) (pos n.1)) (sym link_is))

  changed : (old new : List ℕ) (number : Option ℕ) → number ≡ cond (has_file step n.0) None (Some n.1) → new ≡ text_with old n.0 (number_of number) → Changes (with_entry step n) above old new
  changed old new number is more = record {
    there =
        with_entry-at step n above old true (same_key-same above (file_above step n.0) at)
        ∙ ap (λ (t : List ℕ). let d : OpenFile = (above, t) in d) (sym (more ∙ ap (λ (z : ℤ). text_with old n.0 z) (number_is number is)));
    elsewhere = other_file;
  }

  -- if the file is there
  pub added-there : (es : List OpenFile) (old new : List ℕ) (number : Option ℕ) → number ≡ cond (has_file step n.0) None (Some n.1) → new ≡ text_with old n.0 (number_of number) → Some old ≡ lookup (is_at (key_cmp above)) es → IsStrictlySortedBy key_cmp (keys_of es) → set_value (is_at (key_cmp above)) es new ≡ map (with_entry step n) es
  added-there es old new number is more found up =
      set_value-changes (with_entry step n) above old new es (changed old new number is more) up (sym found)

  -- if the file is not there
  pub added-nowhere : (es : List OpenFile) → None ≡ lookup (is_at (key_cmp above)) es → es ≡ map (with_entry step n) es
  added-nowhere es none = sym (absent-same (with_entry step n) above es other_file (sym none))
