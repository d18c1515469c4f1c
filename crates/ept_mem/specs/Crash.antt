-- What a record of calls says of the images at each moment.
use Rattle.std.specs.Prelude.{ℕ, ◌≤◌, List, [], ◌∷◌, length, fold, string_bytes, refl}
use Rattle.std.proofs.Common.{arith, subst, sym, ◌∙◌}
use Rattle.std.proofs.lemmas.List.{take_all}
use Rattle.ept_base.specs.Files.{Files}
use Rattle.ept_mem.specs.declared.store.Call.{Call}
use Rattle.ept_mem.specs.declared.store.Call.TheVariants.{Write, Sync, Crashed}
use Rattle.std.specs.Prelude.{suc, String, Vec, Option}
use Rattle.std.specs.declared.alloc.Global.{Global}
use Rattle.ept_base.proofs.Changing.{changed_other}
use Rattle.ept_mem.specs.Disk.{bytes_of, Disk, disk, settled, after, IsImage, WasImageSince}

-- an image of now is an image since each moment up to now
pub image_counts : (first : Files) (calls : List Call) (t : ℕ) (image : Files) → t ≤ length calls → IsImage (disk first calls) image → WasImageSince first calls t image
image_counts first calls t image le now =
    (length calls, le, omega arith, subst (λ (l : List Call). IsImage (disk first l) image) (sym (take_all (length calls) calls (omega arith))) now)

-- since this moment there is no other image
pub image_only : (first : Files) (calls : List Call) (image : Files) → WasImageSince first calls (length calls) image → IsImage (disk first calls) image
image_only first calls image since =
    subst (λ (l : List Call). IsImage (disk first l) image) (take_all since.0 calls since.1) since.3

-- what is read is an image
pub reads_image : (first : Files) (calls : List Call) → IsImage (disk first calls) (disk first calls).reads
reads_image first calls = from_here calls (settled first) (λ name free. refl)
  where
    put : (now : Disk) (name : String Global) (content : Option (Vec ℕ Global)) → IsImage now now.reads → IsImage (after now (Write name content)) (after now (Write name content)).reads
    put now name content agrees other free =
        changed_other now.reads (string_bytes name) (bytes_of content) other (λ same. free (0, omega arith, sym same)) ∙ agrees other (λ had. free (suc had.0, omega (arith, had.1), had.2))

    one_more : (now : Disk) (call : Call) → IsImage now now.reads → IsImage (after now call) (after now call).reads
    one_more now (Write name content) agrees = put now name content agrees
    one_more now Sync agrees = λ name free. refl
    one_more now (Crashed name content how) agrees = λ other free. refl

    from_here : (calls : List Call) (now : Disk) → IsImage now now.reads → IsImage (fold after now calls) (fold after now calls).reads
    from_here [] now agrees = agrees
    from_here (call ∷ calls) now agrees = from_here calls (after now call) (one_more now call agrees)
