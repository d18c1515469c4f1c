-- What one more call does to what is read, to the images, and to those of earlier moments.
use Rattle.std.proofs.Common.{◌≡◌, ◌≢◌, ◌⊎◌, inl, inr, ⊎_elim, ℕ, zero, suc, ◌+◌, ◌≤◌, ◌<◌, List, [], ◌∷◌, ◌++◌, Option, Vec, length, take, get_or, refl, sym, ◌∙◌, ap, subst, arith, length-append}
use Rattle.std.specs.Prelude.{String, Contains, string_bytes}
use Rattle.std.specs.declared.alloc.Global.{Global}
use Rattle.std.proofs.lemmas.List.{take_all, take_more, take-append-le}
use Rattle.std.proofs.lemmas.Bool.{cases_lt}
use Rattle.std.proofs.lemmas.List.Sums.{fold-append}
use Rattle.ept_base.specs.Files.{Files, changed, SameFiles, SameBut}
use Rattle.ept_base.specs.Moves.{Follows, SameImages, NoMore, Elapses}
use Rattle.ept_base.proofs.Changing.{changed_same, changed_other, same_name}
use Rattle.ept_mem.specs.Crash.{reads_image}
use Rattle.ept_mem.specs.declared.store.Call.{Call}
use Rattle.ept_mem.specs.declared.store.Call.TheVariants.{Write, Sync}
use Rattle.ept_mem.specs.Disk.{Disk, disk, settled, after, bytes_of, IsImage, WasImageSince, MaySpoil}

-- a name that is not among those touched, and not the new one, is not among them together
contains_more : (names : List (List ℕ)) (more name : List ℕ) → name ≢ more → ¬ Contains names name → ¬ Contains (more ∷ names) name
contains_more names more name differ free (zero, lt, is) = differ (sym is)
contains_more names more name differ free (suc k, lt, is) = free (k, omega arith, is)

contains_first : (names : List (List ℕ)) (name : List ℕ) → Contains (name ∷ names) name
contains_first names name = (0, omega arith, refl)

-- the images before a name was touched, and after that
pub touched_follows : (now : Disk) (text : String Global) (content : Option (Vec ℕ Global)) → Follows (SameBut (string_bytes text)) (IsImage now) (IsImage (after now (Write text content)))
touched_follows now text content image is =
    let name : List ℕ = string_bytes text in (
      changed image name (now.stable name),
      (λ other free. ⊎_elim
          (λ (same : other ≡ name). subst (λ (n : List ℕ). changed image name (now.stable name) n ≡ now.stable n) (sym same) (changed_same image name (now.stable name)))
          (λ (differ : other ≢ name). changed_other image name (now.stable name) other differ ∙ is other (contains_more now.touched name other differ free))
          (same_name other name)),
      (λ other differ. sym (changed_other image name (now.stable name) other differ)),
    )

pub touched_spoils : (now : Disk) (text : String Global) (content : Option (Vec ℕ Global)) → MaySpoil (string_bytes text) (IsImage now) (IsImage (after now (Write text content)))
touched_spoils now text content image found is other free =
    changed_other image (string_bytes text) found other (λ same. free (subst (λ (n : List ℕ). Contains (string_bytes text ∷ now.touched) n) (sym same) (contains_first now.touched (string_bytes text))))
    ∙ is other (λ had. free (suc had.0, omega (arith, had.1), had.2))

module _ (first : Files) (calls later : List Call) where
  -- the state after one more call
  pub disk_more : (call : Call) → later ≡ calls ++ call ∷ [] → disk first later ≡ after (disk first calls) call
  disk_more call more = ap (λ (l : List Call). disk first l) more ∙ fold-append after (settled first) calls (call ∷ [])

  pub write_ok : (text : String Global) (content : Option (Vec ℕ Global)) → later ≡ calls ++ Write text content ∷ [] → SameFiles (changed (disk first calls).reads (string_bytes text) (bytes_of content)) (disk first later).reads
  write_ok text content more name = ap (λ (d : Disk). d.reads name) (disk_more (Write text content) more)

  pub write_reads : (text : String Global) (content : Option (Vec ℕ Global)) (name : List ℕ) → string_bytes text ≡ name → later ≡ calls ++ Write text content ∷ [] → SameBut name (disk first calls).reads (disk first later).reads
  write_reads text content name is more = subst (λ (n : List ℕ). SameBut n (disk first calls).reads (disk first later).reads) is
      (λ other differ. write_ok text content more other ∙ changed_other (disk first calls).reads (string_bytes text) (bytes_of content) other differ)

  pub write_images : (text : String Global) (content : Option (Vec ℕ Global)) (name : List ℕ) → string_bytes text ≡ name → later ≡ calls ++ Write text content ∷ [] → Follows (SameBut name) (IsImage (disk first calls)) (IsImage (disk first later))
  write_images text content name is more = subst (λ (n : List ℕ). Follows (SameBut n) (IsImage (disk first calls)) (IsImage (disk first later))) is
      (subst (λ (d : Disk). Follows (SameBut (string_bytes text)) (IsImage (disk first calls)) (IsImage d)) (sym (disk_more (Write text content) more)) (touched_follows (disk first calls) text content))

  -- the name may hold anything after a crash
  pub write_spoils : (text : String Global) (content : Option (Vec ℕ Global)) (name : List ℕ) → string_bytes text ≡ name → later ≡ calls ++ Write text content ∷ [] → MaySpoil name (IsImage (disk first calls)) (IsImage (disk first later))
  write_spoils text content name is more = subst (λ (n : List ℕ). MaySpoil n (IsImage (disk first calls)) (IsImage (disk first later))) is
      (subst (λ (d : Disk). MaySpoil (string_bytes text) (IsImage (disk first calls)) (IsImage d)) (sym (disk_more (Write text content) more)) (touched_spoils (disk first calls) text content))

  -- an image since t is one from before, or one of now
  pub time_more : (call : Call) → later ≡ calls ++ call ∷ [] → Elapses (length calls) (length later) (WasImageSince first calls) (WasImageSince first later) (IsImage (disk first later))
  time_more call more = record {
    later = omega (arith, size);
    nothing_else = λ t image le since. either t image since (at_most since.0);
    keeps = λ t image le past. (past.0, past.1, omega (arith, size, past.2), subst (λ (l : List Call). IsImage (disk first l) image) (sym (front past.0 past.2)) past.3);
  }
    where
      size : length later ≡ length calls + 1
      size = ap length more ∙ length-append calls (call ∷ [])

      front : (k : ℕ) → k ≤ length calls → take k later ≡ take k calls
      front k le = ap (λ (l : List Call). take k l) more ∙ take-append-le k calls (call ∷ []) le

      at_most : (k : ℕ) → (k ≤ length calls) ⊎ (length later ≤ k)
      at_most k = ⊎_elim (λ (past : length calls < k). inr (omega (arith, size))) (λ early. inl early) (cases_lt (length calls) k)

      either : (t : ℕ) (image : Files) (since : WasImageSince first later t image) → (since.0 ≤ length calls) ⊎ (length later ≤ since.0) → WasImageSince first calls t image ⊎ IsImage (disk first later) image
      either t image since (inl early) = inl (since.0, since.1, early, subst (λ (l : List Call). IsImage (disk first l) image) (front since.0 early) since.3)
      either t image since (inr late) = inr (subst (λ (l : List Call). IsImage (disk first l) image) (take_all since.0 later late) since.3)

  -- a call that is not noted changes nothing
  pub time_same : later ≡ calls → Elapses (length calls) (length later) (WasImageSince first calls) (WasImageSince first later) (IsImage (disk first later))
  time_same same = subst (λ (l : List Call). Elapses (length calls) (length l) (WasImageSince first calls) (WasImageSince first l) (IsImage (disk first l))) (sym same)
      (record { later = omega arith; nothing_else = λ t image le since. inl since; keeps = λ t image le past. past })

  -- nor does it change what is read and the images
  pub same_files : later ≡ calls → SameFiles (disk first calls).reads (disk first later).reads
  same_files same name = ap (λ (l : List Call). (disk first l).reads name) same

  pub no_more : later ≡ calls → NoMore (IsImage (disk first calls)) (IsImage (disk first later))
  no_more same image is = subst (λ (l : List Call). IsImage (disk first l) image) same is

  pub same_images : later ≡ calls → SameImages (IsImage (disk first calls)) (IsImage (disk first later))
  same_images same = (no_more same, λ image is. subst (λ (l : List Call). IsImage (disk first l) image) (sym same) is)

  pub same_follows : (name : List ℕ) → later ≡ calls → Follows (SameBut name) (IsImage (disk first calls)) (IsImage (disk first later))
  same_follows name same image is = (image, no_more same image is, λ other differ. refl)

  -- after a sync what is read is the one image, which was one before
  pub sync_images : later ≡ calls ++ Sync ∷ [] → NoMore (IsImage (disk first calls)) (IsImage (disk first later))
  sync_images more image is name free =
      let settled_is : IsImage (settled (disk first calls).reads) image = subst (λ (d : Disk). IsImage d image) (disk_more Sync more) is in
      settled_is name (λ had. absurd (omega (arith, had.1))) ∙ reads_image first calls name free

-- the state after one more call of the prefix
pub disk_front : (first : Files) (calls : List Call) (i : ℕ) (call : Call) → i < length calls → call ≡ get_or calls i call → disk first (take (i + 1) calls) ≡ after (disk first (take i calls)) call
disk_front first calls i call here is =
    disk_more first (take i calls) (take (i + 1) calls) call (take_more calls i call here ∙ ap (λ (x : Call). take i calls ++ x ∷ []) (sym is))
