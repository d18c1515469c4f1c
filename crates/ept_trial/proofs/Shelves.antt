-- A shelf of the four files has the scan of each path.
use Rattle.std.proofs.Common.{◌≡◌, ℕ, zero, suc, List, [], ◌∷◌, Some, None, subst}
use Rattle.std.specs.Prelude.{if◌then◌else◌, bytes_eq, codes, string_bytes, String, Vec, unwrap_or}
use Rattle.std.specs.declared.alloc.Global.{Global}
use Rattle.ept_mem.specs.Named.{content_of}
use Rattle.ept_mem_infallible.specs.Objects.{or_empty}
use Rattle.ept_trial.specs.Scans.{scan_bytes, HasScans}

abbrev pub File : Type 0
File = String Global × Vec ℕ Global

-- a file has this name and these bytes
pub record IsFile (count input : ℕ) (path : List ℕ) (file : File) : Type 0 where
  pub path_is : string_bytes file.0 ≡ path
  pub bytes_are : file.1.items ≡ scan_bytes count input

same-path : (a b : List ℕ) → Some a ≡ Some b → a ≡ b
same-path a b is = cc

module _ (count : ℕ) (a b c d : File) (is_a : IsFile count 0 (codes "trial-0.las") a) (is_b : IsFile count 1 (codes "trial-1.las") b) (is_c : IsFile count 2 (codes "trial-2.las") c) (is_d : IsFile count 3 (codes "trial-3.las") d) where
  -- what is found under a name, if each file has its name and its bytes
  found : (name : List ℕ) → or_empty (content_of (a ∷ b ∷ c ∷ d ∷ [])) name ≡ Some (unwrap_or (if bytes_eq (codes "trial-0.las") name then Some (scan_bytes count 0) else (if bytes_eq (codes "trial-1.las") name then Some (scan_bytes count 1) else (if bytes_eq (codes "trial-2.las") name then Some (scan_bytes count 2) else (if bytes_eq (codes "trial-3.las") name then Some (scan_bytes count 3) else None)))) [])
  found name = λ i. Some (unwrap_or (if bytes_eq (is_a.path_is i) name then Some (is_a.bytes_are i) else (if bytes_eq (is_b.path_is i) name then Some (is_b.bytes_are i) else (if bytes_eq (is_c.path_is i) name then Some (is_c.bytes_are i) else (if bytes_eq (is_d.path_is i) name then Some (is_d.bytes_are i) else None)))) [])

  pub has-scans : HasScans count (or_empty (content_of (a ∷ b ∷ c ∷ d ∷ [])))
  has-scans zero path is = subst (λ (p : List ℕ). or_empty (content_of (a ∷ b ∷ c ∷ d ∷ [])) p ≡ Some (scan_bytes count 0)) (same-path (codes "trial-0.las") path is) (found (codes "trial-0.las"))
  has-scans (suc zero) path is = subst (λ (p : List ℕ). or_empty (content_of (a ∷ b ∷ c ∷ d ∷ [])) p ≡ Some (scan_bytes count 1)) (same-path (codes "trial-1.las") path is) (found (codes "trial-1.las"))
  has-scans (suc (suc zero)) path is = subst (λ (p : List ℕ). or_empty (content_of (a ∷ b ∷ c ∷ d ∷ [])) p ≡ Some (scan_bytes count 2)) (same-path (codes "trial-2.las") path is) (found (codes "trial-2.las"))
  has-scans (suc (suc (suc zero))) path is = subst (λ (p : List ℕ). or_empty (content_of (a ∷ b ∷ c ∷ d ∷ [])) p ≡ Some (scan_bytes count 3)) (same-path (codes "trial-3.las") path is) (found (codes "trial-3.las"))
  has-scans (suc (suc (suc (suc n)))) path is = absurd cc
